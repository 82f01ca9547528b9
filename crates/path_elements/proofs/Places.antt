-- An element leaves pending what it may: the addresses in it stay those of instructions.
use Rattle.std.proofs.Common.{ℕ, ◌-◌, Bool, true, false, if◌then◌else◌, List, [], ◌∷◌, ◌++◌, length, drop, replicate}
use Rattle.std.proofs.Common.{Option, Some, None, Ok, Err}
use Rattle.std.specs.Prelude.{All, ◌==◌, nat_le, ⊤}
use Rattle.std.proofs.lemmas.List.Elements.{All-nil, All-cons, All-head, All-tail, All-append, All-take, All-drop, All-replicate}
use Rattle.element_queue.specs.Pending.{Pending, Gone, Taken, taken, nothing_gone, commits, cancels, informs, pre_of}
use Rattle.element_queue.specs.Pending.{flip_entry, flip_thing, flip_newest, pre_behind, flips}
use Rattle.etm_types.specs.Pre.{nothing_told}
use Rattle.std.specs.Option.{option_map}
use Rattle.element_queue.specs.Resolved.{at_first}
use Rattle.etm_types.specs.declared.element.Elem.{Elem}
use Rattle.etm_types.specs.declared.element.Elem.TheVariants as elem
use Rattle.etm_types.specs.declared.element.P0.{P0}
use Rattle.etm_types.specs.declared.element.P0.TheVariants.{Atom, Exc}
use Rattle.etm_types.specs.declared.element.Pre.{Pre}
use Rattle.etm_types.specs.declared.element.Thing.{Thing}
use Rattle.etm_types.specs.declared.element.Thing.TheVariants.{Seen, Unseen, Gap, Stop}
use Rattle.path_elements.specs.Held.{IsElem}
use Rattle.path_elements.specs.Standing.{IsAlignedPending, IsPlace}
use Rattle.path_walker.specs.State.{first_state}
use Rattle.path_walker.specs.Things.{IsAlignedThing}
use Rattle.path_walker.specs.Walk.{ToldIsAligned, ReturnIsAligned}
use Rattle.path_walker.proofs.Stacks.{nothing}

abbrev AreAligned : List Thing → Type 0
AreAligned things = All IsAlignedThing things

none_aligned : AreAligned []
none_aligned = All-nil IsAlignedThing

one_aligned : (t : Thing) → IsAlignedThing t → AreAligned (t ∷ [])
one_aligned t is = All-cons IsAlignedThing t [] is none_aligned

-- what leaves and what stays
pub record IsAlignedGone (t : Pending × Gone) : Type 0 where
  pub pending : IsAlignedPending t.0
  pub committed : All IsAlignedThing (t.1).committed

abbrev pub IsAlignedTaken : Taken → Type 0
IsAlignedTaken (Ok t) = IsAlignedGone t
IsAlignedTaken (Err f) = ⊤

chosen : (b : Bool) (x y : Taken) → IsAlignedTaken x → IsAlignedTaken y → IsAlignedTaken (if b then x else y)
chosen true x y is also = is
chosen false x y is also = also

return_aligned : (p0 : P0) → IsElem (elem.P0 p0) → ReturnIsAligned p0
return_aligned (Atom taken) is = tt
return_aligned (Exc kind ret) is = is.1

-- what was given before the first of some things
pre_aligned : (things : List Thing) → AreAligned things → ToldIsAligned (pre_of things).addr
pre_aligned [] are = tt
pre_aligned (Seen entry ∷ things) are = (All-head IsAlignedThing (Seen entry) things are).0
pre_aligned (Unseen ∷ things) are = tt
pre_aligned (Gap ∷ things) are = tt
pre_aligned (Stop ∷ things) are = tt

-- what is given behind the newest of some things that is flipped
behind_aligned : (things : List Thing) (pre : Pre) → ToldIsAligned pre.addr → ToldIsAligned (pre_behind things pre).addr
behind_aligned [] pre is = is
behind_aligned (thing ∷ []) pre is = tt
behind_aligned (thing ∷ next ∷ things) pre is = behind_aligned (next ∷ things) pre is

abbrev IsFlipped : Option (List Thing) → Type 0
IsFlipped None = ⊤
IsFlipped (Some things) = AreAligned things

abbrev IsFlippedThing : Option Thing → Type 0
IsFlippedThing None = ⊤
IsFlippedThing (Some thing) = IsAlignedThing thing

entry_flipped : (pre : Pre) (p0 : P0) → ToldIsAligned pre.addr → IsFlippedThing (flip_entry pre p0)
entry_flipped pre (Atom taken) is = (is, tt)
entry_flipped pre (Exc kind ret) is = tt

thing_flipped : (thing : Thing) → IsAlignedThing thing → IsFlippedThing (flip_thing thing)
thing_flipped (Seen entry) is = entry_flipped entry.pre entry.p0 is.0
thing_flipped Unseen is = tt
thing_flipped Gap is = tt
thing_flipped Stop is = tt

only_flipped : (thing : Option Thing) → IsFlippedThing thing → IsFlipped (option_map (λ flipped. flipped ∷ []) thing)
only_flipped None is = tt
only_flipped (Some thing) is = one_aligned thing is

more_flipped : (first : Thing) (things : Option (List Thing)) → IsAlignedThing first → IsFlipped things
    → IsFlipped (option_map (λ flipped. first ∷ flipped) things)
more_flipped first None is are = tt
more_flipped first (Some things) is are = All-cons IsAlignedThing first things is are

newest_flipped : (things : List Thing) → AreAligned things → IsFlipped (flip_newest things)
newest_flipped [] are = tt
newest_flipped (thing ∷ []) are = only_flipped (flip_thing thing) (thing_flipped thing (All-head IsAlignedThing thing [] are))
newest_flipped (thing ∷ next ∷ things) are =
    more_flipped thing (flip_newest (next ∷ things)) (All-head IsAlignedThing thing (next ∷ things) are)
    (newest_flipped (next ∷ things) (All-tail IsAlignedThing thing (next ∷ things) are))

flips_aligned : (p : Pending) (flipped : Option (List Thing)) → IsAlignedPending p → IsFlipped flipped → IsAlignedTaken (flips p flipped)
flips_aligned p None is are = tt
flips_aligned p (Some held) is are =
    record { pending = record { told = behind_aligned p.held p.pre is.told; held = are }; committed = none_aligned }

tells_aligned : (p : Pending) (pre : Pre) → IsAlignedPending p → ToldIsAligned pre.addr → IsAlignedTaken (Ok (record p { pre = pre }, nothing_gone))
tells_aligned p pre is told = record { pending = record { told = told; held = is.held }; committed = none_aligned }

commits_aligned : (p : Pending) (pre : Pre) (all : List Thing) (n : ℕ) → ToldIsAligned pre.addr → AreAligned all → IsAlignedTaken (commits p pre all n)
commits_aligned p pre all n told are =
    record { pending = record { told = told; held = All-drop IsAlignedThing n all are }; committed = All-take IsAlignedThing n all are }

cancels_aligned : (p : Pending) (n : ℕ) → IsAlignedPending p → IsAlignedTaken (cancels p n)
cancels_aligned p n is =
    let left = length p.held - n in
    let told = pre_aligned (drop left p.held) (All-drop IsAlignedThing left p.held is.held) in
    record { pending = record { told = told; held = All-take IsAlignedThing left p.held is.held }; committed = none_aligned }

informs_aligned : (depth : ℕ) (p : Pending) (spec : ℕ) → IsAlignedPending p → IsAlignedTaken (informs depth p spec)
informs_aligned depth p spec is =
    let held = All-append IsAlignedThing p.held (replicate spec Unseen) is.held (All-replicate IsAlignedThing spec Unseen tt) in
    chosen p.informed _ _ (tells_aligned p _ is is.told) (chosen (nat_le spec depth) _ _
    (record { pending = record { told = is.told; held = held }; committed = none_aligned }) tt)

pub taken_aligned : (depth : ℕ) (p : Pending) (e : Elem) → IsAlignedPending p → IsElem e → IsAlignedTaken (taken depth p e)
taken_aligned depth p (elem.Info spec) is fits = informs_aligned depth p spec is
taken_aligned depth p elem.On is fits = tells_aligned p _ is tt
taken_aligned depth p (elem.Ctx ctx) is fits = tells_aligned p _ is is.told
taken_aligned depth p (elem.Addr address) is fits = tells_aligned p _ is fits
taken_aligned depth p (elem.P0 p0) is fits =
    let entry : Thing = Seen (record { pre = p.pre; p0 = p0 }) in
    let all = p.held ++ entry ∷ [] in
    commits_aligned p nothing_told all (length all - depth) tt
    (All-append IsAlignedThing p.held (entry ∷ []) is.held (one_aligned entry (is.told, return_aligned p0 fits)))
taken_aligned depth p (elem.Commit n) is fits = chosen (nat_le n (length p.held)) _ _ (commits_aligned p p.pre p.held n is.told is.held) tt
taken_aligned depth p (elem.Cancel n) is fits =
    chosen (n == 0) _ _ (tells_aligned p p.pre is is.told) (chosen (nat_le n (length p.held)) _ _ (cancels_aligned p n is) tt)
taken_aligned depth p elem.Flip is fits = flips_aligned p (flip_newest p.held) is (newest_flipped p.held is.held)
taken_aligned depth p elem.Overflow is fits = record { pending = record { told = tt; held = none_aligned }; committed = one_aligned Gap tt }
taken_aligned depth p elem.Discard is fits = record { pending = record { told = tt; held = none_aligned }; committed = one_aligned Stop tt }

pub first_place : IsPlace (at_first, first_state)
first_place = record {
  pending = record { told = tt; held = none_aligned };
  state = record { pc = tt; stack = nothing.aligned; few = nothing.few };
}
