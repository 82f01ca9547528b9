use Rattle.std.proofs.Common.{◌≡◌, ◌++◌, length}
use Rattle.elf_image.specs.ElfText.{segment_text, word_lines}
use Rattle.elf_image.proofs.text.push_segment.Given as goal

abbrev pub invariant-loop-word : goal.invariant-loop-word
invariant-loop-word l = l.text.items ++ word_lines l.rest ≡ l.fn.text.items ++ segment_text (record { start = l.address; bytes = l.bytes })

abbrev pub decreases-loop-word : goal.decreases-loop-word
decreases-loop-word l = length l.rest
