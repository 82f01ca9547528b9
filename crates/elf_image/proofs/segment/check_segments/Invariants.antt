use Rattle.elf_image.proofs.Checked.{AreChecked}
use Rattle.elf_image.proofs.segment.check_segments.Given as goal

abbrev pub invariant-loop-k : goal.invariant-loop-k
invariant-loop-k l = AreChecked l.file l.table l.k l.taken.items l.size
