use Rattle.std.proofs.Common.{◌≡◌, length}
use Rattle.line_words.specs.Line.{words_in}
use Rattle.run_file.specs.BenchText.{weave, weaves_of}
use Rattle.run_file.specs.EventLines.{need}
use Rattle.run_file.proofs.Weaves.{weave_on}
use Rattle.run_file.proofs.weave_line.push_weaves.Given as goal

abbrev pub invariant-loop-word : goal.invariant-loop-word
invariant-loop-word l =
    need (weaves_of (words_in l.words)) (weave l.streams.streams l.fn.weaves.items)
    ≡ weave_on l.streams.streams l.declared l.within l.weaves.items (words_in l.rest)

abbrev pub decreases-loop-word : goal.decreases-loop-word
decreases-loop-word l = length l.rest
