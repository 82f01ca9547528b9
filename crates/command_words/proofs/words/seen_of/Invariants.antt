use Rattle.std.proofs.Common.{◌≡◌, drop}
use Rattle.command_words.specs.Words.{nothing_seen, seen_of, texts}
use Rattle.command_words.specs.Said.{line_of, seen_by}
use Rattle.command_words.proofs.words.seen_of.Given as goal

abbrev pub invariant-loop-word : goal.invariant-loop-word
invariant-loop-word l =
    seen_of (line_of l.line) (seen_by l.seen) (drop l.word-index (texts l.words)) ≡ seen_of (line_of l.fn.line) nothing_seen (texts l.fn.words)
