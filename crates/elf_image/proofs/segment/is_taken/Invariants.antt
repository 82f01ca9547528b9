use Rattle.std.proofs.Common.{◌≡◌, take}
use Rattle.std.specs.List.{list_any}
use Rattle.elf_image.specs.Refusals.{overlap}
use Rattle.elf_image.proofs.segment.is_taken.Given as goal

abbrev pub invariant-loop-other : goal.invariant-loop-other
invariant-loop-other l = l.found ≡ list_any (overlap l.addresses) (take l.other-index l.taken)
