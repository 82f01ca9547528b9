use Rattle.std.proofs.Common.{◌≡◌, ◌∙◌, [], rules, subst}
use Rattle.std.specs.Str.Lines.{lines}
use Rattle.program_image.specs.Part.{IsImage}
use Rattle.program_image.specs.Runs.{IsTable}
use Rattle.program_image.specs.Places.{words_before}
use Rattle.program_image.specs.ImageText.{by_address}
use Rattle.program_image.proofs.Told.{lines_added, none_told}
use Rattle.program_image.proofs.Placed.{image_placed}
use Rattle.program_image.proofs.image.Image.of_text.Goals as goal

pub table-requires : goal.table-requires
table-requires c =
    let told = c.in_ok-draft.draft in
    let are = lines_added 1 [] told (lines c.args.text.now) none_told c.in_ok-draft.ensures in
    let same : by_address told ≡ c.deref.result.now = search rules in
    subst IsImage same (image_placed told are)

pub new-requires : goal.new-requires
new-requires c =
    let told = c.in_ok-draft.draft in
    let are = lines_added 1 [] told (lines c.args.text.now) none_told c.in_ok-draft.ensures in
    let same : by_address told ≡ c.in_ok-parts.parts.items = search rules in
    subst IsImage (same ∙ search rules) (image_placed told are)

pub invariant_of-result : goal.invariant_of-result
invariant_of-result c =
    let told = c.in_ok-draft.draft in
    let are = lines_added 1 [] told (lines c.args.text.now) none_told c.in_ok-draft.ensures in
    let same : by_address told ≡ c.in_ok-parts.parts.items = search rules in
    let table : IsTable c.deref.result.now c.deref.result.now c.in_ok-table.table.items = search rules in
    let places : c.in_ok-places.places ≡ words_before 0 c.in_ok-parts.parts.items = search rules in
    (subst IsImage same (image_placed told are), subst (λ parts. IsTable parts parts c.in_ok-table.table.items) c.deref.ensures.value table, places)

pub returns-clause-parts : goal.returns-clause-parts
returns-clause-parts c =
    let told = c.in_ok-draft.draft in
    let are = lines_added 1 [] told (lines c.args.text.now) none_told c.in_ok-draft.ensures in
    let same : by_address told ≡ c.in_ok-parts.parts.items = search rules in
    subst IsImage same (image_placed told are)
