use Rattle.std.proofs.Common.{◌≡◌, Ok, IfOk, arith, rules}
use Rattle.std.proofs.lemmas.List.Elements.{All-from_get_or}
use Rattle.program_image.proofs.Told.{IsByte}
use Rattle.elf_image.specs.ElfText.{elf_text}
use Rattle.elf_image.proofs.Words.{text_told}
use Rattle.elf_image.proofs.text.text_of.Goals as goal

pub returns-clause-image : goal.returns-clause-image
unfolding elf_text
returns-clause-image c =
    let file = c.args.file.now in
    let bytes = All-from_get_or IsByte file 0 (λ i within. omega (arith, c.type_inv.file i)) in
    let ok : IfOk c.map_err.result (λ text. elf_text file ≡ Ok text.items) = search rules in
    text_told file c.map_err.result bytes ok
