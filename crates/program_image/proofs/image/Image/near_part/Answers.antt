use Rattle.std.proofs.Common.{◌≡◌, ◌∙◌, ◌*◌, ◌<◌, List, ℕ, Some, ap, arith, get_or, length, rules, subst, sym}
use Rattle.std.specs.Prelude.{slice_get}
use Rattle.std.proofs.lemmas.Option.{slice_get-get_or}
use Rattle.program_image.specs.Near.{Fits, IsNear, Near}
use Rattle.program_image.specs.Part.{Part}
use Rattle.program_image.specs.declared.run.PlainRun.{PlainRun}
use Rattle.program_image.specs.Places.{words_before}
use Rattle.program_image.proofs.NearParts.{part_fits, words_of_part}
use Rattle.program_image.proofs.Tables.{same_length}
use Rattle.program_image.proofs.WordPlaces.{length_before}
use Rattle.program_image.proofs.image.Image.near_part.Goals.{After-count_before, After-new}
use Rattle.program_image.proofs.image.Image.near_part.Goals as goal

pub index-requires-2 : goal.index-requires-2
index-requires-2 c =
    let parts = c.self.inside.parts.items in
    let same = same_length parts parts c.self.inside.table.items c.self.invariant.1 in
    omega (arith, c.if-part-len.false, same)

pub count_before-requires : goal.count_before-requires
count_before-requires c =
    let long = ap (λ (l : List ℕ). length l) c.self.invariant.2 in
    omega (arith, c.if-part-len.false, long, length_before 0 c.self.inside.parts.items)

within : (c : After-count_before) → c.args.part < length c.self.inside.parts.items
within c = let at : c.len.result ≡ length c.self.inside.parts.items = search rules in omega (arith, at, c.if-part-len.false)

-- it fits, and has a run for each word
fits : (c : After-count_before) → Fits (record {
  start = c.index.result.now.start;
  runs = c.index-2.result.now;
  first = get_or (words_before 0 c.self.inside.parts.items) c.args.part 0;
  part = c.args.part;
})
    × (4 * length c.index-2.result.now ≡ length c.index.result.now.bytes)
fits c = part_fits c.self.inside.parts.items c.self.inside.table.items c.args.part c.index.result.now c.index-2.result.now c.self.invariant.0
    c.self.invariant.1 (within c) c.index.ensures c.index-2.ensures

pub new-requires-clause-within : goal.new-requires-clause-within
new-requires-clause-within c = omega (arith, (fits c).0.within, c.start-start.ensures, ap (λ (l : List PlainRun). length l) c.entries-runs.ensures)

pub new-requires-clause-few : goal.new-requires-clause-few
new-requires-clause-few c =
    let before = c.count_before.ensures ∙ ap (λ (l : List ℕ). get_or l c.args.part 0) c.self.invariant.2 in
    omega (arith, (fits c).0.few, before, ap (λ (l : List PlainRun). length l) c.entries-runs.ensures)

pub returns-clause-near : goal.returns-clause-near
returns-clause-near c =
    let parts = c.self.inside.parts.items in
    let before = c.count_before.ensures ∙ ap (λ (l : List ℕ). get_or l c.args.part 0) c.self.invariant.2 in
    let near : Near = record {
      start = c.index.result.now.start;
      runs = c.index-2.result.now;
      first = get_or (words_before 0 parts) c.args.part 0;
      part = c.args.part;
    } in
    let same : near ≡ c.new.result = cc in
    subst (λ (n : Near). IsNear c.args.self.now n) same (subst (λ (image : List Part). IsNear image near) c.self.view_is
    (words_of_part parts c.self.inside.table.items c.args.part c.index.result.now c.index-2.result.now c.self.invariant.0 c.self.invariant.1
    (within (goal.at.returns-clause-near c).After-count_before) c.index.ensures c.index-2.ensures))

pub returns-clause-part : goal.returns-clause-part
returns-clause-part c =
    let at = (goal.at.returns-clause-part c).After-count_before in
    let parts = c.self.inside.parts.items in let part = c.index.result.now in
    let there : slice_get parts c.args.part ≡ Some part =
    slice_get-get_or parts c.args.part part (within at) ∙ ap Some (sym c.index.ensures) in
    let there' = subst (λ (image : List Part). slice_get image c.args.part ≡ Some part) c.self.view_is there in
    let start = ap (λ (n : Near). n.start) c.new.ensures ∙ c.start-start.ensures in
    let runs = ap (λ (n : Near). length n.runs) c.new.ensures ∙ ap (λ (l : List PlainRun). length l) c.entries-runs.ensures in
    rw there' (record { start = start; whole = omega (arith, runs, (fits at).1); place = ap (λ (n : Near). n.part) c.new.ensures })
