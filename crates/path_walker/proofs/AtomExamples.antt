-- Runs of atoms that were walked by hand.
use Rattle.std.proofs.Common.{◌≡◌, ℕ, true, false, List, [], ◌∷◌, ◌++◌, All, length, length-append, Option, Some, None, is_none, Ok, Err}
use Rattle.std.proofs.Common.{refl, sym, ap, ◌∙◌, inl, inr, arith}
use Rattle.std.specs.Prelude.{neg_ℤ, pos}
use Rattle.std.proofs.lemmas.List.Elements.{All-cons, All-nil}
use Rattle.a64_branches.specs.Classes.{class_of}
use Rattle.a64_branches.specs.declared.class.Class.TheVariants.{Cond, Jump}
use Rattle.etm_types.specs.declared.element.Entry.{Entry}
use Rattle.etm_types.specs.declared.walk_fault.WalkFault.TheVariants as fault
use Rattle.etm_types.specs.declared.walked.Walked.{Walked}
use Rattle.path_walker.proofs.Examples.{at, code, goes, one_plain, shows, user}
use Rattle.path_walker.proofs.OneWalk.{one_walk}
use Rattle.path_walker.specs.State.{IsAligned, IsState, State}
use Rattle.path_walker.specs.Walk.{HasNoStretch, IsPlaced, Shows, WalksAtoms, WalksNoMore, WalksRun, atom_at, walked_in}
use Rattle.path_walker.specs.declared.pc.Pc.TheVariants.{Awaited, Known}
use Rattle.path_walker.specs.declared.stretch.Stretch.{Stretch}
use Rattle.program_image.specs.declared.image.Image.{Image}

-- two instructions, of which the last is no branch that was taken by its condition
abbrev two_from : ℕ → ℕ → Stretch
two_from start place = record { start = start; place = place; count = 2; took = false; to_register = false }

abbrev known : ℕ → State
known address = at (Known address) [] user

known_is : (address : ℕ) → IsAligned address → IsState (known address)
known_is address aligned = record { pc = aligned; stack = All-nil IsAligned; few = omega arith }

-- Before the first atom the address 1008 is given. B goes back to 1000, and there B.EQ has an N atom.
first : Shows code (at (Awaited false) [] user) (atom_at (Some 0x1008) true) (walked_in user (two_from 0x1008 2)) (known 0x1000)
unfolding class_of
first =
    shows code _ _ 2 (Known 0x1000) [] refl
    (goes code 0x1008 [] true 1 (Jump (neg_ℤ (pos 12)) false) (Known 0x1000) (one_plain code 0x1008 refl) refl refl)

second : Shows code (known 0x1000) (atom_at None false) (walked_in user (two_from 0x1000 0)) (known 0x1008)
unfolding class_of
second = shows code _ _ 2 (Known 0x1008) [] refl (goes code 0x1000 [] false 1 (Cond (pos 8)) (Known 0x1008) (one_plain code 0x1000 refl) refl refl)

abbrev both : List Stretch
both = two_from 0x1008 2 ∷ two_from 0x1000 0 ∷ []

-- the address is not given again, and of three atoms two may be walked
walked : WalksAtoms code (at (Awaited false) [] user) (Some 0x1008) (true ∷ false ∷ true ∷ []) both (known 0x1008)
walked = (known 0x1000, first, known_is 0x1000 refl, (known 0x1008, second, known_is 0x1008 refl, refl))

first_placed : IsPlaced code (two_from 0x1008 2)
unfolding class_of
first_placed = record { some = omega arith; place = refl; last = refl }

second_placed : IsPlaced code (two_from 0x1000 0)
unfolding class_of
second_placed = record { some = omega arith; place = refl; last = refl }

placed : All (IsPlaced code) both
placed =
    All-cons (IsPlaced code) (two_from 0x1008 2) (two_from 0x1000 0 ∷ []) first_placed
    (All-cons (IsPlaced code) (two_from 0x1000 0) [] second_placed (All-nil (IsPlaced code)))

-- what takes stretches may keep them, in order
abbrev Keeps : List Stretch → List Stretch → List Stretch → Type 0
Keeps old run new = new ≡ old ++ run

-- their stretches stand behind one that was there
joined :
    WalksRun Keeps code (at (Awaited false) [] user) (Some 0x1008) (true ∷ false ∷ true ∷ []) (two_from 0x8000 4 ∷ []) 2 (known 0x1008)
    (two_from 0x8000 4 ∷ both)
joined = record { added = both; takes = refl; count = refl; walks = walked; placed = placed }

-- and not in its place
not_replaced : WalksRun Keeps code (at (Awaited false) [] user) (Some 0x1008) (true ∷ false ∷ []) (two_from 0x8000 4 ∷ []) 2 (known 0x1008) both → ⊥
not_replaced w = absurd (omega (arith, ap length w.takes, length-append (two_from 0x8000 4 ∷ []) w.added, w.count))

-- no stretch without an atom
no_more_than_atoms : WalksAtoms code (known 0x1000) None [] (two_from 0x1000 0 ∷ []) (known 0x1008) → ⊥
no_more_than_atoms walks = walks

same_address : (a b : ℕ) → Known a ≡ Known b → a ≡ b
same_address a b e = cc

-- where none is walked the walk stays where it was
not_moved : WalksAtoms code (known 0x1000) None (false ∷ []) [] (known 0x1008) → ⊥
not_moved walks = let e = same_address 0x1008 0x1000 (ap (λ (s : State). s.pc) walks) in absurd (omega (arith, e))

-- ---- where no more are walked

-- B can have no N atom, so two of these three are walked
no_n_at_b : WalksNoMore code (known 0x1008) (Some 0x1008) (true ∷ false ∷ false ∷ []) 2 24
unfolding class_of
no_n_at_b true is room = absurd cc
no_n_at_b false is room = inr (fault.BadAtom 0x100c, inr (refl, (1, one_plain code 0x1008 refl, (refl, refl))))

-- none where another address is known than the one that is given
none_elsewhere : WalksNoMore code (known 0x1000) (Some 0x1008) (true ∷ []) 0 24
none_elsewhere taken is room = inr (fault.AddressMismatch 0x1000 0x1008, inl refl)

-- none where the address is not known
none_lost : WalksNoMore code (at (Awaited false) [] user) None (true ∷ []) 0 24
none_lost taken is room = inl refl

-- all were walked
none_left : WalksNoMore code (known 0x1000) None (true ∷ []) 1 24
none_left taken is room = absurd cc

-- there was no room for it
full : WalksNoMore code (known 0x1000) None (false ∷ []) 0 0
full taken is room = absurd (omega (arith, room))

-- what an entry shows from an address that is known is a stretch
has_stretch : (image : Image) (s after : State) (entry : Entry) (walked : Walked) → Shows image s entry walked after → walked.unknown ≡ false
    → HasNoStretch image s entry → ⊥
has_stretch image s after entry walked shown told (inl unknown) =
    let e : false ≡ true = sym told ∙ shown.unknown ∙ ap (λ (at : Option ℕ). is_none at) unknown in cc
has_stretch image s after entry walked shown told (inr (f, stops)) =
    let same = one_walk image s entry (Ok (walked, after)) (Err f) shown stops in cc

-- not before the first one, which has a stretch from the address that is given
not_before_the_first : WalksNoMore code (at (Awaited false) [] user) (Some 0x1008) (true ∷ []) 0 24 → ⊥
not_before_the_first none = has_stretch code _ _ _ _ first refl (none true refl (omega arith))

-- not behind it: the address is not given again
not_behind_the_first : WalksNoMore code (known 0x1000) (Some 0x1008) (true ∷ false ∷ []) 1 24 → ⊥
not_behind_the_first none = has_stretch code _ _ _ _ second refl (none false refl (omega arith))

-- not where there was room for one more
not_full : WalksNoMore code (known 0x1000) None (false ∷ []) 0 1 → ⊥
not_full none = has_stretch code _ _ _ _ second refl (none false refl (omega arith))
