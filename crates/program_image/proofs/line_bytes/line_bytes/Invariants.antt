use Rattle.std.proofs.Common.{◌≡◌, length}
use Rattle.line_words.specs.Line.{words_in}
use Rattle.program_image.specs.ImageText.{bytes_of}
use Rattle.program_image.proofs.Digits.{before}
use Rattle.program_image.proofs.line_bytes.line_bytes.Given as goal

abbrev pub invariant-loop-word : goal.invariant-loop-word
invariant-loop-word l = bytes_of (words_in l.line) ≡ before l.bytes.items (bytes_of (words_in l.rest))

abbrev pub decreases-loop-word : goal.decreases-loop-word
decreases-loop-word l = length l.rest
