-- Numbers as marks, worked out by hand, and marks and timestamps that are none of one's own.
use Rattle.std.proofs.Common.{◌≡◌, ℕ, true, false, List, [], ◌∷◌, length, map, Option, Some, None, Result, Ok, Err, refl, ap, sym, ◌∙◌, subst, arith}
use Rattle.std.specs.Prelude.{get_or, slice_get}
use Rattle.element_queue.specs.Resolved.{Resolved}
use Rattle.etm_types.specs.Pre.{nothing_told}
use Rattle.etm_types.specs.declared.element.Elem.{Elem}
use Rattle.etm_types.specs.declared.element.Elem.TheVariants as elem
use Rattle.etm_types.specs.declared.element.P0.{P0}
use Rattle.etm_types.specs.declared.element.P0.TheVariants.{Atom, Exc}
use Rattle.etm_types.specs.declared.element.Thing.{Thing}
use Rattle.etm_types.specs.declared.element.Thing.TheVariants.{Seen}
use Rattle.etm_types.specs.declared.queue_fault.QueueFault.{QueueFault}
use Rattle.time_marks.specs.MarkLaws.{AreNumbers, CarryOwn, HaveOwnStamps, MayBe, Rise, addresses, after_numbered, p0s_in, with_numbers}
use Rattle.time_marks.specs.Stamps.{Stamp}
use Rattle.time_marks.specs.Times.{no_times}

-- the second of two atoms is cancelled, the third one is flipped, and the first is committed
abbrev elements : List Elem
elements = elem.Info 0 ∷ elem.P0 (Atom true) ∷ elem.P0 (Atom false) ∷ elem.Cancel 1 ∷ elem.P0 (Atom true) ∷ elem.Flip ∷ elem.Commit 1 ∷ []

pub those_of_elements : p0s_in elements ≡ Atom true ∷ Atom false ∷ Atom true ∷ []
those_of_elements = refl

pub first_is_done : (after_numbered 4 0 no_times elements).done ≡ Some 0 ∷ []
first_is_done = refl

pub third_is_held : (after_numbered 4 0 no_times elements).held ≡ Some 2 ∷ []
third_is_held = refl

-- ---- numbers that rise

pub some_left_out : Rise 0 (Some 0 ∷ Some 2 ∷ []) 3
some_left_out = (omega arith, (omega arith, omega arith))

pub twice : Rise 0 (Some 1 ∷ Some 1 ∷ []) 3 → ⊥
twice e = absurd (omega (arith, e.1.0))

pub out_of_order : Rise 0 (Some 2 ∷ Some 0 ∷ []) 3 → ⊥
out_of_order e = absurd (omega (arith, e.1.0))

pub too_great : Rise 0 (Some 3 ∷ []) 3 → ⊥
too_great e = absurd (omega (arith, e.1))

pub none_is_no_number : Rise 0 (None ∷ []) 3 → ⊥
none_is_no_number e = e

-- ---- marks of one's own

abbrev p0s : List P0
p0s = Atom true ∷ Exc 1 8 ∷ []

abbrev seen : P0 → Thing
seen p0 = Seen (record { pre = nothing_told; p0 = p0 })

pub a_flipped_atom : CarryOwn p0s (seen (Atom false) ∷ []) (Some 0 ∷ [])
a_flipped_atom = (record { p0 = Atom true; there = refl; same = tt }, tt)

abbrev MayBeOf : P0 → Option P0 → Type 0
MayBeOf p0 None = ⊥
MayBeOf p0 (Some other) = MayBe p0 other

pub that_of_another : CarryOwn p0s (seen (Atom true) ∷ []) (Some 1 ∷ []) → ⊥
that_of_another e = subst (MayBeOf (Atom true)) (sym (e.0.there)) e.0.same

pub that_of_no_element : CarryOwn p0s (seen (Atom true) ∷ []) (Some 2 ∷ []) → ⊥
that_of_no_element e = subst (MayBeOf (Atom true)) (sym (e.0.there)) e.0.same

pub one_mark_more : CarryOwn p0s (seen (Atom true) ∷ []) (Some 0 ∷ Some 1 ∷ []) → ⊥
one_mark_more e = e.1

pub no_mark : CarryOwn p0s (seen (Atom true) ∷ []) [] → ⊥
no_mark e = e

-- ---- numbers of what is committed

-- the first of two atoms is cancelled, and the second committed
abbrev second : List Elem
second = elem.Info 0 ∷ elem.P0 (Atom true) ∷ elem.Cancel 1 ∷ elem.P0 (Atom true) ∷ elem.Commit 1 ∷ []

pub with_their_numbers : with_numbers 0 second
    ≡ elem.Info 0 ∷ elem.Addr 0 ∷ elem.P0 (Atom true) ∷ elem.Cancel 1 ∷ elem.Addr 1 ∷ elem.P0 (Atom true) ∷ elem.Commit 1 ∷ []
with_their_numbers = refl

pub the_second : AreNumbers 4 second (1 ∷ [])
the_second = (_, refl, refl)

abbrev addresses_in : Result Resolved QueueFault → List (Option ℕ)
addresses_in (Ok r) = addresses r.done
addresses_in (Err fault) = []

no_others : (numbers : List ℕ) → AreNumbers 4 second numbers → numbers ≡ 1 ∷ []
no_others [] (r, ok, is) = let e : ◌≡◌ {A = List (Option ℕ)} (Some 1 ∷ []) [] = ap addresses_in ok ∙ is in absurd cc
no_others (n ∷ []) (r, ok, is) =
    let e : ◌≡◌ {A = List (Option ℕ)} (Some 1 ∷ []) (Some n ∷ []) = ap addresses_in ok ∙ is in
    let same : 1 ≡ n = cc in ap (λ (k : ℕ). k ∷ []) (sym same)
no_others (n ∷ m ∷ numbers) (r, ok, is) =
    let e : ◌≡◌ {A = List (Option ℕ)} (Some 1 ∷ []) (Some n ∷ Some m ∷ map Some numbers) = ap addresses_in ok ∙ is in absurd cc

pub that_of_the_cancelled : AreNumbers 4 second (0 ∷ []) → ⊥
that_of_the_cancelled are = absurd (omega (arith, ap (λ (numbers : List ℕ). get_or numbers 0 9) (no_others (0 ∷ []) are)))

pub of_none : AreNumbers 4 second [] → ⊥
of_none are = absurd (omega (arith, ap length (no_others [] are)))

-- ---- timestamps of one's own

abbrev stamps : List Stamp
stamps = Some 5 ∷ Some 6 ∷ []

abbrev one_seen : List Thing
one_seen = seen (Atom true) ∷ []

pub that_of_its_packet : HaveOwnStamps 4 second stamps one_seen (Some 6 ∷ [])
that_of_its_packet =
    record {
      numbers = 1 ∷ [];
      commits = the_second;
      own = (record { p0 = Atom true; there = refl; same = tt }, tt);
      rise = (omega arith, omega arith);
      stamped = refl;
    }

no_other_marks : (things : List Thing) (marks : List Stamp) → HaveOwnStamps 4 second stamps things marks → map Some marks ≡ Some (Some 6) ∷ []
no_other_marks things marks is = is.stamped ∙ ap (map (slice_get stamps)) (no_others is.numbers is.commits)

-- that of the other atom
pub that_of_another_packet : HaveOwnStamps 4 second stamps one_seen (Some 5 ∷ []) → ⊥
that_of_another_packet is =
    let e : ◌≡◌ {A = List (Option Stamp)} (Some (Some 5) ∷ []) (Some (Some 6) ∷ []) = no_other_marks one_seen (Some 5 ∷ []) is in absurd cc

pub no_timestamp : HaveOwnStamps 4 second stamps one_seen [] → ⊥
no_timestamp is = absurd (omega (arith, ap length (no_other_marks one_seen [] is)))

pub one_timestamp_more : HaveOwnStamps 4 second stamps one_seen (Some 6 ∷ Some 6 ∷ []) → ⊥
one_timestamp_more is = absurd (omega (arith, ap length (no_other_marks one_seen (Some 6 ∷ Some 6 ∷ []) is)))

-- nothing, or an exception, in the place of the atom
pub of_nothing : HaveOwnStamps 4 second stamps [] (Some 6 ∷ []) → ⊥
of_nothing is = subst (λ (numbers : List ℕ). CarryOwn (p0s_in second) [] (map Some numbers)) (no_others is.numbers is.commits) is.own

pub of_an_exception : HaveOwnStamps 4 second stamps (seen (Exc 1 8) ∷ []) (Some 6 ∷ []) → ⊥
of_an_exception is =
    let own = subst (λ (numbers : List ℕ). CarryOwn (p0s_in second) (seen (Exc 1 8) ∷ []) (map Some numbers)) (no_others is.numbers is.commits) is.own in
    subst (MayBeOf (Exc 1 8)) (sym (own.0.there)) own.0.same
