use Rattle.std.proofs.Common.{◌≡◌}
use Rattle.elf_image.specs.ElfText.{segments_text}
use Rattle.elf_image.specs.Fields.{headers_from}
use Rattle.elf_image.specs.Segments.{segments_of}
use Rattle.elf_image.proofs.text.text_of_segments.Given as goal

abbrev pub invariant-loop-k : goal.invariant-loop-k
invariant-loop-k l = l.text.items ≡ segments_text (segments_of l.file (headers_from l.file l.table.offset l.k))
