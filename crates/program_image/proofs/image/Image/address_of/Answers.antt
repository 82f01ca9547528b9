use Rattle.std.proofs.Common.{◌≡◌, ◌∙◌, ◌<◌, ◌≤◌, ◌+◌, ◌-◌, ◌*◌, List, ℕ, Some, ap, arith, get_or, length, nat_le, subst, sym}
use Rattle.std.specs.Prelude.{slice_get}
use Rattle.std.specs.List.Sorted.{IsPartitionedBy}
use Rattle.std.proofs.lemmas.List.Sorted.{IsPartitionedBy-leb}
use Rattle.std.proofs.lemmas.Option.{slice_get_past}
use Rattle.program_image.specs.Places.{word_addresses, word_count, words_before}
use Rattle.program_image.proofs.WordPlaces.{address_found, all_before, before_rises, first_before, length_addresses, length_before, word_at}
use Rattle.program_image.proofs.image.Image.address_of.Goals as goal

pub part_of-part-requires-clause-sorted : goal.part_of-part-requires-clause-sorted
part_of-part-requires-clause-sorted c =
    subst (IsPartitionedBy (λ words. nat_le words c.args.place)) (sym c.self.invariant.2)
    (IsPartitionedBy-leb (λ words. words) (words_before 0 c.self.inside.parts.items) c.args.place (before_rises 0 c.self.inside.parts.items))

pub returns-then-place-word_count-clause-address : goal.returns-then-place-word_count-clause-address
returns-then-place-word_count-clause-address c =
    let image = c.args.self.now in
    let count = length_addresses image c.word_count.ensures.parts.parts in
    sym (slice_get_past (word_addresses image) c.args.place (omega (arith, count, c.word_count.ensures.value, c.if-place-word_count.true)))

pub part_of-part-requires-clause-first : goal.part_of-part-requires-clause-first
part_of-part-requires-clause-first c =
    let parts = c.self.inside.parts.items in
    let long = ap (λ (l : List ℕ). length l) c.self.invariant.2 in
    let first = ap (λ (l : List ℕ). get_or l 0 0) c.self.invariant.2 in
    (omega (arith, long, length_before 0 parts), omega (arith, first, first_before 0 parts))

pub part_of-part-requires-clause-last : goal.part_of-part-requires-clause-last
part_of-part-requires-clause-last c =
    let parts = c.self.inside.parts.items in
    let places = c.self.inside.places in
    let long = ap (λ (l : List ℕ). length l) c.self.invariant.2 in
    let end : length places - 1 ≡ length parts = omega (arith, long, length_before 0 parts) in
    let last : get_or places (length places - 1) 0 ≡ word_count parts =
    ap (λ n. get_or places n 0) end ∙ ap (λ (l : List ℕ). get_or l (length parts) 0) c.self.invariant.2 ∙ all_before parts c.self.invariant.0 in
    let same = ap word_count c.self.view_is in
    omega (arith, last, same, c.word_count.ensures.value, c.if-place-word_count.false)

pub index-requires : goal.index-requires
index-requires c =
    let parts = c.self.inside.parts.items in
    let long = ap (λ (l : List ℕ). length l) c.self.invariant.2 in
    omega (arith, long, length_before 0 parts, c.part_of-part.ensures.within)

pub overflow_add-result : goal.overflow_add-result
overflow_add-result c =
    let parts = c.self.inside.parts.items in
    let k = c.part_of-part.result in
    let place = c.args.place in
    let long = ap (λ (l : List ℕ). length l) c.self.invariant.2 in
    let short : k < length parts = omega (arith, long, length_before 0 parts, c.part_of-part.ensures.within) in
    let low = subst (λ (l : List ℕ). get_or l k 0 ≤ place) c.self.invariant.2 c.part_of-part.ensures.from in
    let high = subst (λ (l : List ℕ). place < get_or l (k + 1) 0) c.self.invariant.2 c.part_of-part.ensures.upto in
    let at = address_found parts k place c.index.result.now c.self.invariant.0 short c.index.ensures low high in
    let word = word_at parts place _ c.self.invariant.0 at in
    let counted = c.count_before.ensures ∙ ap (λ (l : List ℕ). get_or l k 0) c.self.invariant.2 in
    omega (arith, word.small, counted, c.start.ensures)

pub returns-clause-address : goal.returns-clause-address
returns-clause-address c =
    let parts = c.self.inside.parts.items in
    let k = c.part_of-part.result in
    let place = c.args.place in
    let long = ap (λ (l : List ℕ). length l) c.self.invariant.2 in
    let short : k < length parts = omega (arith, long, length_before 0 parts, c.part_of-part.ensures.within) in
    let low = subst (λ (l : List ℕ). get_or l k 0 ≤ place) c.self.invariant.2 c.part_of-part.ensures.from in
    let high = subst (λ (l : List ℕ). place < get_or l (k + 1) 0) c.self.invariant.2 c.part_of-part.ensures.upto in
    let at = address_found parts k place c.index.result.now c.self.invariant.0 short c.index.ensures low high in
    let counted = c.count_before.ensures ∙ ap (λ (l : List ℕ). get_or l k 0) c.self.invariant.2 in
    let address : c.start.result + (place - c.count_before.result) * 4 ≡ c.index.result.now.start + (place - get_or (words_before 0 parts) k 0) * 4 =
    omega (arith, counted, c.start.ensures) in
    ap Some address ∙ sym at ∙ ap (λ l. slice_get (word_addresses l) place) c.self.view_is
