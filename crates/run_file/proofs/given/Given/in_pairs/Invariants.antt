use Rattle.std.proofs.Common.{◌≡◌, length}
use Rattle.line_words.specs.Line.{words_in}
use Rattle.run_file.specs.GivenSettings.{nothing_given, pairs_in}
use Rattle.run_file.proofs.given.Given.in_pairs.Given as goal

abbrev pub invariant-loop-name : goal.invariant-loop-name
invariant-loop-name l = pairs_in nothing_given (words_in l.words) ≡ pairs_in l.given (words_in l.rest)

abbrev pub decreases-loop-name : goal.decreases-loop-name
decreases-loop-name l = length l.rest
