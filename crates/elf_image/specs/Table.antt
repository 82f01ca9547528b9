-- Where the program headers of a file stand.
use Rattle.std.specs.Prelude.{◌≡◌, ℕ, ◌+◌, ◌*◌, ◌<◌, ◌≤◌, List, length}
use Rattle.elf_image.specs.Fields.{e_phnum, e_phoff}
use Rattle.elf_image.specs.Refusals.{most_file}
use Rattle.elf_image.specs.declared.header.HeaderTable.{HeaderTable}

-- all of them stand in the file
pub record IsTable (file : List ℕ) (table : HeaderTable) : Type 0 where
  pub short : length file ≤ most_file
  pub offset : table.offset ≡ e_phoff file
  pub count : table.count ≡ e_phnum file
  pub within : 0 < table.count → table.offset + 56 * table.count ≤ length file
