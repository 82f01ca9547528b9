use Rattle.std.proofs.Common.{◌≡◌, ◌∙◌, ◌<◌, ◌+◌, ◌-◌, ◌/◌, List, ℕ, Some, ap, arith, get_or, length, subst, sym}
use Rattle.std.specs.Prelude.{IsSome, slice_get}
use Rattle.program_image.specs.Part.{word_in, word_of}
use Rattle.program_image.specs.Places.{word_addresses, words_below}
use Rattle.program_image.proofs.WordPlaces.{few_before, length_before, place_found, place_of_word, some_is}
use Rattle.program_image.proofs.image.Image.place_in.Goals as goal

pub count_before-requires : goal.count_before-requires
count_before-requires c =
    let parts = c.self.inside.parts.items in
    let within : c.args.part < length parts = omega (arith, c.requires.within, ap length c.self.view_is) in
    let long = ap (λ (l : List ℕ). length l) c.self.invariant.2 in
    omega (arith, within, long, length_before 0 parts)

pub overflow_add-result : goal.overflow_add-result
overflow_add-result c =
    let parts = c.self.inside.parts.items in
    let k = c.args.part in
    let within : k < length parts = omega (arith, c.requires.within, ap length c.self.view_is) in
    let counted = c.count_before.ensures ∙ ap (λ (l : List ℕ). get_or l k 0) c.self.invariant.2 in
    omega (arith, counted, few_before parts k c.self.invariant.0 within)

place : (c : goal.After-count_before) → IsSome (word_of c.args.self.now c.args.addr)
    → slice_get (word_addresses c.args.self.now) (c.count_before.result + (c.args.addr - c.start.result) / 4) ≡ Some c.args.addr
place c some =
    let addr = c.args.addr in
    let parts = c.self.inside.parts.items in
    let k = c.args.part in
    let same = sym c.self.view_is in
    let p = c.index.result.now in
    let within : k < length parts = omega (arith, c.requires.within, ap length same) in
    let word = ap (λ l. word_of l addr) (sym same) ∙ c.requires.part p ∙ ap (λ l. word_in (get_or l k p) addr) same in
    let some' : IsSome (word_of parts addr) = subst (λ l. IsSome (word_of l addr)) same some in
    let there : IsSome (word_in p addr) =
    subst (λ q. IsSome (word_in q addr)) (sym c.index.ensures) (subst (λ o. IsSome o) word some') in
    let w = some_is (word_in p addr) there in
    let found = place_found parts addr k w.0 p p c.self.invariant.0 within c.index.ensures c.index.ensures word w.1 in
    let counted = c.count_before.ensures ∙ ap (λ (l : List ℕ). get_or l k 0) c.self.invariant.2 in
    let place : c.count_before.result + (addr - c.start.result) / 4 ≡ words_below parts addr = omega (arith, found.0, counted, c.start.ensures) in
    subst (λ l. slice_get (word_addresses l) (c.count_before.result + (addr - c.start.result) / 4) ≡ Some addr) c.self.view_is
    (place_of_word parts _ addr c.self.invariant.0 (found.1, place))

pub returns : goal.returns
returns c = record { place = place c }
