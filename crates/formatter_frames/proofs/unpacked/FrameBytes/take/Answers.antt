use Rattle.std.proofs.Common.{◌≡◌, ◌+◌, ◌≤◌, ◌∷◌, ◌++◌, [], ℕ, suc, Option, List, length, take, slice_set, sym, ap, ◌∙◌, arith, length-append}
use Rattle.std.specs.List.{zip}
use Rattle.std.proofs.lemmas.List.{length-set}
use Rattle.std.proofs.lemmas.List.Elements.{All-set}
use Rattle.formatter_frames.specs.Symbols.{pairs_of}
use Rattle.formatter_frames.specs.declared.symbol.Symbol.{Symbol}
use Rattle.formatter_frames.specs.declared.symbol.Symbol.TheVariants.{Data}
use Rattle.formatter_frames.proofs.Zipped.{beside_more, shown_length}
use Rattle.formatter_frames.proofs.unpacked.FrameBytes.take.Goals as goal

pub bounds-self-inside-self-inside : goal.bounds-self-inside-self-inside
bounds-self-inside-self-inside c =
    let b = c.self.inside in
    let size = shown_length b.count b.ids b.bytes c.args.self.now c.self.view_is c.self.invariant.0 c.self.told.0 c.self.told.1 in
    omega (arith, size, c.requires.room)

pub bounds-self-inside-self-inside-in-Some : goal.bounds-self-inside-self-inside-in-Some
bounds-self-inside-self-inside-in-Some c =
    let b = c.self.inside in
    let size = shown_length b.count b.ids b.bytes c.args.self.now c.self.view_is c.self.invariant.0 c.self.told.0 c.self.told.1 in
    omega (arith, size, c.requires.room)

pub invariant_of-self : goal.invariant_of-self
invariant_of-self c =
    let b = c.self.inside in
    let size = shown_length b.count b.ids b.bytes c.args.self.now c.self.view_is c.self.invariant.0 c.self.told.0 c.self.told.1 in
    let small : c.in-Some.id ≤ 127 = rw c.in-Some.is at c.requires.held in (
      omega (arith, size, c.requires.room),
      length-set b.ids b.count c.in-Some.id ∙ c.self.told.0,
      length-set b.bytes b.count c.in-Data.byte ∙ c.self.told.1,
      All-set (λ (id : ℕ). id ≤ 127) b.ids b.count c.in-Some.id small c.self.invariant.3,
    )

pub returns-in-Some-clause-pairs : goal.returns-in-Some-clause-pairs
returns-in-Some-clause-pairs c =
    let b = c.self.inside in
    let size = shown_length b.count b.ids b.bytes c.args.self.now c.self.view_is c.self.invariant.0 c.self.told.0 c.self.told.1 in
    let more = beside_more b.count c.in-Some.id c.in-Data.byte b.ids b.bytes (omega (arith, size, c.requires.room, c.self.told.0))
    (omega (arith, size, c.requires.room, c.self.told.1)) in
    let one : b.count + 1 ≡ suc b.count = omega arith in
    ap (λ (n : ℕ). take n (zip (slice_set b.ids b.count c.in-Some.id) (slice_set b.bytes b.count c.in-Data.byte))) one ∙ more
    ∙ ap (λ (v : List (ℕ × ℕ)). v ++ (c.in-Some.id, c.in-Data.byte) ∷ []) c.self.view_is
    ∙ ap (λ (o : Option ℕ). c.args.self.now ++ pairs_of o (Data c.in-Data.byte ∷ [])) (sym c.in-Some.is)
    ∙ ap (λ (s : Symbol). c.args.self.now ++ pairs_of c.args.current.now (s ∷ [])) (sym c.in-Data.is)

pub returns-in-Some-clause-few : goal.returns-in-Some-clause-few
returns-in-Some-clause-few c =
    let b = c.self.inside in
    let size = shown_length b.count b.ids b.bytes c.args.self.now c.self.view_is c.self.invariant.0 c.self.told.0 c.self.told.1 in
    let more = beside_more b.count c.in-Some.id c.in-Data.byte b.ids b.bytes (omega (arith, size, c.requires.room, c.self.told.0))
    (omega (arith, size, c.requires.room, c.self.told.1)) in
    let one : b.count + 1 ≡ suc b.count = omega arith in
    let all = ap (λ (n : ℕ). take n (zip (slice_set b.ids b.count c.in-Some.id) (slice_set b.bytes b.count c.in-Data.byte))) one ∙ more
    ∙ ap (λ (v : List (ℕ × ℕ)). v ++ (c.in-Some.id, c.in-Data.byte) ∷ []) c.self.view_is in
    omega (arith, ap length all, length-append c.args.self.now ((c.in-Some.id, c.in-Data.byte) ∷ []))
