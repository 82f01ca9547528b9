-- What contracts see of a queue and of its counts, in values; and how the fields of a packed element stand for one.
use Rattle.std.proofs.Common.{◌≡◌, ℕ, zero, suc, Bool, true, false, get_or, List, [], ◌∷◌, ◌++◌, length, map, slice_get, ap, Option, Some, None, Ok, Err, refl, sym, arith}
use Rattle.std.proofs.lemmas.List.{length-map}
use Rattle.std.proofs.lemmas.List.Elements.{All-cons, All-nil}
use Rattle.std.specs.Prelude.{◌-◌, ◌^◌}
use Rattle.std.specs.Option.{unwrap_or}
use Rattle.etm_types.specs.declared.element.Elem.TheVariants as elem
use Rattle.etm_types.specs.declared.element.Entry.{Entry}
use Rattle.etm_types.specs.declared.element.P0.TheVariants.{Atom, Exc}
use Rattle.etm_types.specs.declared.element.Pre.{Pre}
use Rattle.etm_types.specs.declared.element.Thing.{Thing}
use Rattle.etm_types.specs.declared.element.Thing.TheVariants.{Seen, Unseen, Gap, Stop}
use Rattle.element_queue.specs.Counting.{AreCounts, Balances, no_counts, sum_of}
use Rattle.element_queue.specs.Kept.{AreNewest, AreOldest, IsFront, NoPlainAt, entries_in}
use Rattle.element_queue.specs.Outlooks.{flip_newest_atom}
use Rattle.element_queue.specs.Packed.{addr_of, ctx_of, p0_of, unpacked}
use Rattle.element_queue.specs.Pending.{Taken as Outcome, committing, nothing_gone}
use Rattle.element_queue.specs.Queued.{AreOldestPlain, BeginsWith, IsHeld, IsQueued, NoPlainAtomAt, Queued, Takes, TakesInfo, TakesPre, holding, passed, pending_of, plain_atom, plain_entry, rotated, things_of}
use Rattle.element_queue.specs.declared.entries.AtomsAndEntry.{AtomsAndEntry}
use Rattle.element_queue.specs.declared.given_atoms.GivenAtoms.{GivenAtoms}
use Rattle.element_queue.specs.declared.ledger.Counts.{Counts}
use Rattle.element_queue.specs.declared.packed.Context.TheVariants.{NotGiven, Secure, NonSecure}
use Rattle.element_queue.specs.declared.packed.Element.TheVariants.{NotTaken, Taken, Exception}
use Rattle.element_queue.specs.declared.packed.Packed.{Packed}
use Rattle.element_queue.specs.declared.queue.Committed.TheVariants as committed
use Rattle.element_queue.specs.declared.queue.PreElem.TheVariants as pre_elem
use Rattle.element_queue.proofs.Examples.{first, handler, is_e, program, second, seen}

abbrev none_given : Pre
none_given = record { flush = false; on = false; lost = false; ctx = None; addr = None }

abbrev all_given : Pre
all_given = record { flush = true; on = true; lost = true; ctx = Some program; addr = Some 0x4000 }

-- ---- counts

pub highest_counts : AreCounts (record { made = 2 ^ 64 - 1; committed = 2 ^ 64 - 1; cancelled = 2 ^ 64 - 1; lost = 2 ^ 64 - 1 })
highest_counts = record { made = omega arith; committed = omega arith; cancelled = omega arith; lost = omega arith }

pub too_many_made : AreCounts (record no_counts { made = 2 ^ 64 }) → ⊥
too_many_made = λ are. absurd (omega (arith, are.made))

pub too_many_committed : AreCounts (record no_counts { committed = 2 ^ 64 }) → ⊥
too_many_committed = λ are. absurd (omega (arith, are.committed))

pub too_many_cancelled : AreCounts (record no_counts { cancelled = 2 ^ 64 }) → ⊥
too_many_cancelled = λ are. absurd (omega (arith, are.cancelled))

pub too_many_lost : AreCounts (record no_counts { lost = 2 ^ 64 }) → ⊥
too_many_lost = λ are. absurd (omega (arith, are.lost))

-- each count is added to its own, and goes round
pub added_up : sum_of (record { made = 1; committed = 20; cancelled = 300; lost = 4000 }) (record { made = 5; committed = 60; cancelled = 700; lost = 2 ^ 64 - 1 })
    ≡ record { made = 6; committed = 80; cancelled = 1000; lost = 3999 }
added_up = refl

pub balanced : Balances (record { made = 10; committed = 1; cancelled = 2; lost = 3 }) 4 × Balances (record { made = 1; committed = 2 ^ 64 - 1; cancelled = 0; lost = 0 }) 2
balanced = (refl, refl)

pub not_balanced : Balances (record { made = 10; committed = 1; cancelled = 2; lost = 3 }) 3 → ⊥
not_balanced = λ is. cc

-- ---- what holds of every queue

abbrev queue : List Thing → ℕ → Counts → Queued
queue held depth counts = record { held = held; pre = all_given; depth = depth; counts = counts }

-- three of four are held, of which one was not seen
pub is_queued : IsQueued (queue (Unseen ∷ first ∷ second ∷ []) 3 (record no_counts { made = 3; committed = 1 }))
is_queued = record { few = omega arith; things = All-cons IsHeld Unseen (first ∷ second ∷ []) tt (All-cons IsHeld first (second ∷ []) tt (All-cons IsHeld second [] tt (All-nil IsHeld))); balanced = refl }

pub too_many_held : IsQueued (queue (Unseen ∷ first ∷ second ∷ []) 2 (record no_counts { made = 3; committed = 1 })) → ⊥
too_many_held = λ is. absurd (omega (arith, is.few))

pub one_too_few_made : IsQueued (queue (Unseen ∷ first ∷ second ∷ []) 3 (record no_counts { made = 2; committed = 1 })) → ⊥
one_too_few_made = λ is. let b = is.balanced in cc

pub no_gap_is_held : (IsHeld Gap → ⊥) × (IsHeld Stop → ⊥)
no_gap_is_held = (λ is. is, λ is. is)

-- ---- what a call takes

-- what an outcome without a fault holds, and the address that is given behind it
abbrev held_in : Outcome → List Thing
held_in (Ok t) = (t.0).held
held_in (Err fault) = []

abbrev given_addr : Outcome → Option ℕ
given_addr (Ok t) = ((t.0).pre).addr
given_addr (Err fault) = None

-- one that is full takes an atom, and commits its oldest
abbrev full : Queued
full = queue (first ∷ second ∷ []) 2 (record { made = 5; committed = 1; cancelled = 1; lost = 1 })

abbrev behind : Queued
behind = record { held = second ∷ seen all_given (Atom false) ∷ []; pre = none_given; depth = 2; counts = record { made = 6; committed = 2; cancelled = 1; lost = 1 } }

pub takes_an_atom : Takes full (elem.P0 (Atom false)) (committing (first ∷ [])) behind
takes_an_atom = record { rule = λ informed. refl; counts = refl; depth = refl }

pub not_uncounted : Takes full (elem.P0 (Atom false)) (committing (first ∷ [])) (record behind { counts = full.counts }) → ⊥
not_uncounted = λ takes. let c = takes.counts in cc

pub not_at_another_depth : Takes full elem.On nothing_gone (record full { pre = record all_given { addr = None }; depth = 3 }) → ⊥
not_at_another_depth = λ takes. let d = takes.depth in cc

pub not_without_the_rule : Takes full elem.On nothing_gone full → ⊥
not_without_the_rule = λ takes. let a = ap given_addr (takes.rule true) in cc

pub stands_in_the_rules : pending_of full true ∷ pending_of full false ∷ []
    ≡ record { held = first ∷ second ∷ []; pre = all_given; informed = true } ∷ record { held = first ∷ second ∷ []; pre = all_given; informed = false } ∷ []
stands_in_the_rules = refl

-- the first trace info announces one P0 element, and others none
abbrev empty : Queued
empty = record { held = []; pre = none_given; depth = 2; counts = no_counts }

abbrev flushed : Pre
flushed = record none_given { flush = true }

pub takes_the_first_info : TakesInfo false empty 1 (record empty { held = Unseen ∷ []; pre = flushed })
takes_the_first_info = record { rule = refl; counts = refl; depth = refl }

pub takes_a_later_info : TakesInfo true empty 1 (record empty { pre = flushed })
takes_a_later_info = record { rule = refl; counts = refl; depth = refl }

pub not_announced_twice : TakesInfo true empty 1 (record empty { held = Unseen ∷ []; pre = flushed }) → ⊥
not_announced_twice = λ takes. let l = ap (λ t. length (held_in t)) takes.rule in cc

pub no_info_counts : TakesInfo true empty 1 (record empty { pre = flushed; counts = record no_counts { made = 1 } }) → ⊥
no_info_counts = λ takes. let m = ap (λ (c : Counts). c.made) takes.counts in cc

pub no_info_changes_the_depth : TakesInfo true empty 1 (record empty { pre = flushed; depth = 1 }) → ⊥
no_info_changes_the_depth = λ takes. let d = takes.depth in cc

-- each element that gives something to the next P0 element
pub takes_what_is_given : TakesPre empty pre_elem.Info (record empty { pre = flushed }) × TakesPre empty pre_elem.On (record empty { pre = record none_given { on = true } })
    × TakesPre empty (pre_elem.Ctx handler) (record empty { pre = record none_given { ctx = Some handler } })
    × TakesPre empty (pre_elem.Addr 0x5000) (record empty { pre = record none_given { addr = Some 0x5000 } })
takes_what_is_given = (
  λ spec. record { rule = refl; counts = refl; depth = refl },
  record { rule = λ informed. refl; counts = refl; depth = refl },
  record { rule = λ informed. refl; counts = refl; depth = refl },
  record { rule = λ informed. refl; counts = refl; depth = refl },
)

-- three together at depth 0
pub three_passed : passed 3 (record empty { pre = all_given; depth = 0; counts = record { made = 5; committed = 2 ^ 64 - 1; cancelled = 1; lost = 2 } })
    ≡ record { held = []; pre = none_given; depth = 0; counts = record { made = 8; committed = 2; cancelled = 1; lost = 2 } }
three_passed = refl

pub held_where_passed : (passed 1 full).held ≡ first ∷ second ∷ []
held_where_passed = refl

pub things_committed : things_of None ∷ things_of (Some committed.Unseen) ∷ things_of (Some (committed.Seen (record { pre = all_given; p0 = Exc 2 0x6000 }))) ∷ []
    ≡ [] ∷ (Unseen ∷ []) ∷ (seen all_given (Exc 2 0x6000) ∷ []) ∷ []
things_committed = refl

-- ---- many atoms together

-- the address that was given before a thing
abbrev addr_before : Thing → Option ℕ
addr_before (Seen entry) = (entry.pre).addr
addr_before thing = None

pub plain : plain_atom true ∷ plain_atom false ∷ [] ≡ seen none_given (Atom true) ∷ seen none_given (Atom false) ∷ []
plain = refl

-- the address that was given before the thing at a place
abbrev addr_in : Option Thing → Option ℕ
addr_in None = None
addr_in (Some thing) = addr_before thing

plain_has_none : (atoms : List Bool) (k addr : ℕ) → addr_in (slice_get (map plain_atom atoms) k) ≡ Some addr → ⊥
plain_has_none [] k addr is = cc
plain_has_none (taken ∷ atoms) zero addr is = cc
plain_has_none (taken ∷ atoms) (suc k) addr is = plain_has_none atoms k addr is

pub not_behind_an_address : plain_atom true ≡ seen (record none_given { addr = Some 0x4000 }) (Atom true) → ⊥
not_behind_an_address = λ is. let addr = ap addr_before is in cc

abbrev three_held : Queued
three_held = record {
  held = plain_atom true ∷ plain_atom true ∷ first ∷ [];
  pre = none_given;
  depth = 3;
  counts = record { made = 9; committed = 2 ^ 64 - 1; cancelled = 6; lost = 1 };
}

-- two atoms more commit the two oldest
pub two_rotated : rotated (false ∷ true ∷ []) three_held
    ≡ record three_held { held = first ∷ plain_atom false ∷ plain_atom true ∷ []; counts = record { made = 11; committed = 1; cancelled = 6; lost = 1 } }
two_rotated = refl

pub not_the_other_way_round : (rotated (false ∷ true ∷ []) three_held).held ≡ first ∷ plain_atom true ∷ plain_atom false ∷ [] → ⊥
not_the_other_way_round = λ is. let e = ap (λ held. is_e (get_or held 1 Unseen)) is in cc

pub not_before_the_oldest : (rotated (false ∷ true ∷ []) three_held).held ≡ plain_atom false ∷ plain_atom true ∷ first ∷ [] → ⊥
not_before_the_oldest = λ is. let addr = ap (λ held. addr_before (get_or held 0 Unseen)) is in cc

-- the two oldest are plain atoms, and the third is none
pub two_plain : AreOldestPlain 2 three_held.held
two_plain = (true ∷ true ∷ [], refl, refl)

pub not_three_plain : AreOldestPlain 3 three_held.held → ⊥
not_three_plain (oldest, is, count) =
    let third = ap (λ (things : List Thing). addr_in (slice_get things 2)) is in
    plain_has_none oldest 2 0x1000 third

pub not_one_plain_for_two : AreOldestPlain 2 (plain_atom true ∷ []) → ⊥
not_one_plain_for_two (oldest, is, count) = omega (arith, ap length is, length-map oldest plain_atom, count)

pub none_at_the_third : NoPlainAtomAt 2 three_held.held
none_at_the_third taken there = let addr = ap addr_in there in cc

pub none_past_the_newest : NoPlainAtomAt 3 three_held.held
none_past_the_newest taken there = cc

pub not_none_at_the_second : NoPlainAtomAt 1 three_held.held → ⊥
not_none_at_the_second none = none true refl

-- an atom behind an address, and two plain atoms behind it
abbrev behind_address : List Thing
behind_address = seen (record none_given { addr = Some 0x4000 }) (Atom true) ∷ plain_atom false ∷ plain_atom true ∷ first ∷ []

abbrev run_given : ℕ → ℕ → GivenAtoms
run_given count bits = record { addr = Some 0x4000; atoms = record { count = count; bits = bits } }

no_atom_given : NoPlainAtomAt 3 behind_address
no_atom_given taken there = let addr = ap addr_in there in cc

pub begins_behind_address : BeginsWith (run_given 3 0b101) behind_address
begins_behind_address = record { atoms = refl; some = omega arith; most = omega arith; within = omega arith; all = λ less. no_atom_given }

-- too few of them; beyond one that is no plain atom; none, or too many; without the address, or with another atom
pub not_too_few_given : BeginsWith (run_given 2 0b01) behind_address → ⊥
not_too_few_given is = is.all (omega arith) true refl

pub not_given_before_each : BeginsWith (run_given 4 0b0101) (behind_address ++ plain_atom false ∷ []) → ⊥
not_given_before_each is = let addr = ap (λ (things : List Thing). addr_in (slice_get things 3)) is.atoms in cc

pub not_none_given : BeginsWith (run_given 0 0) [] → ⊥
not_none_given is = absurd (omega (arith, is.some))

pub not_more_than_24 : (bits : ℕ) (held : List Thing) → BeginsWith (run_given 25 bits) held → ⊥
not_more_than_24 bits held is = absurd (omega (arith, is.most))

pub not_more_than_held : BeginsWith (run_given 1 0b1) [] → ⊥
not_more_than_held is = absurd (omega (arith, is.within))

pub not_without_its_address : BeginsWith (record (run_given 3 0b101) { addr = None }) behind_address → ⊥
not_without_its_address is = let addr = ap (λ (things : List Thing). addr_in (slice_get things 0)) is.atoms in cc

pub not_the_other_atom : BeginsWith (run_given 3 0b111) behind_address → ⊥
not_the_other_atom is = let e = ap (λ (things : List Thing). is_e (get_or things 1 Unseen)) is.atoms in cc

-- where there is room, none is committed
pub two_more_held : holding (false ∷ true ∷ []) (record three_held { depth = 5 })
    ≡ record {
      held = plain_atom true ∷ plain_atom true ∷ first ∷ plain_atom false ∷ plain_atom true ∷ [];
      pre = none_given;
      depth = 5;
      counts = record { made = 11; committed = 2 ^ 64 - 1; cancelled = 6; lost = 1 };
    }
two_more_held = refl

pub not_uncounted_where_held : (holding (false ∷ true ∷ []) three_held).counts ≡ three_held.counts → ⊥
not_uncounted_where_held = λ is. let m = ap (λ (c : Counts). c.made) is in cc

-- ---- packed elements

abbrev packed : Packed
packed = record {
  addr = 0x4000;
  ret = 0x6000;
  vmid = 5;
  cid = 7;
  el = 0;
  context = NonSecure;
  has_addr = true;
  flush = true;
  on = true;
  lost = true;
  kind = 2;
  element = Exception;
}

pub all_unpacked : unpacked packed ≡ record { pre = all_given; p0 = Exc 2 0x6000 }
all_unpacked = refl

-- where nothing was given the numbers tell nothing
pub none_unpacked : unpacked (record packed { context = NotGiven; has_addr = false; flush = false; on = false; lost = false; element = Taken })
    ≡ record { pre = none_given; p0 = Atom true }
none_unpacked = refl

-- one flag alone
pub flags_unpacked : unpacked (record packed { context = NotGiven; has_addr = false; on = false; lost = false; element = NotTaken })
    ∷ unpacked (record packed { context = NotGiven; has_addr = false; flush = false; lost = false; element = NotTaken })
    ∷ unpacked (record packed { context = NotGiven; has_addr = false; flush = false; on = false; element = NotTaken }) ∷ []
    ≡ record { pre = record none_given { flush = true }; p0 = Atom false } ∷ record { pre = record none_given { on = true }; p0 = Atom false }
    ∷ record { pre = record none_given { lost = true }; p0 = Atom false } ∷ []
flags_unpacked = refl

pub contexts_unpacked : ctx_of NotGiven 1 5 7 ∷ ctx_of Secure 1 5 7 ∷ ctx_of NonSecure 1 5 7 ∷ []
    ≡ None ∷ Some (record { el = 1; ns = false; vmid = 5; cid = 7 }) ∷ Some (record { el = 1; ns = true; vmid = 5; cid = 7 }) ∷ []
contexts_unpacked = refl

pub elements_unpacked : p0_of NotTaken 2 0x6000 ∷ p0_of Taken 2 0x6000 ∷ p0_of Exception 2 0x6000 ∷ [] ≡ Atom false ∷ Atom true ∷ Exc 2 0x6000 ∷ []
elements_unpacked = refl

pub addresses_unpacked : addr_of false 0x4000 ∷ addr_of true 0x4000 ∷ [] ≡ None ∷ Some 0x4000 ∷ []
addresses_unpacked = refl

-- ---- entries as they are kept

abbrev interrupt : Entry
interrupt = record { pre = none_given; p0 = Exc 14 0x4000 }

abbrev told : Entry
told = record { pre = record none_given { addr = Some 0x4000 }; p0 = Atom false }

abbrev an_atom : Bool → Entry
an_atom taken = record { pre = none_given; p0 = Atom taken }

abbrev two_runs : List AtomsAndEntry
two_runs = record { plain = true ∷ false ∷ []; last = interrupt } ∷ record { plain = []; last = told } ∷ []

-- the atoms of a run stand before its last entry, one run stands before the next, and the other atoms behind all
pub runs_in_order : entries_in two_runs (true ∷ []) ≡ an_atom true ∷ an_atom false ∷ interrupt ∷ told ∷ an_atom true ∷ []
runs_in_order = refl

pub not_behind_its_last : entries_in two_runs [] ≡ interrupt ∷ an_atom true ∷ an_atom false ∷ told ∷ [] → ⊥
not_behind_its_last e = let first : Atom true ≡ Exc 14 0x4000 = ap (λ (l : List Entry). (get_or l 0 interrupt).p0) e in absurd cc

pub two_oldest : AreOldest 2 (entries_in two_runs [])
two_oldest = (true ∷ false ∷ [], refl, refl)

pub no_three : AreOldest 3 (entries_in two_runs []) → ⊥
no_three (a ∷ b ∷ c ∷ [], is, count) =
    let third : Atom c ≡ Exc 14 0x4000 = ap (λ (l : List Entry). (get_or l 2 told).p0) is in absurd cc
no_three ([], is, count) = absurd (omega (arith, count))
no_three (a ∷ [], is, count) = absurd (omega (arith, count))
no_three (a ∷ b ∷ [], is, count) = absurd (omega (arith, count))
no_three (a ∷ b ∷ c ∷ d ∷ rest, is, count) = absurd (omega (arith, count))

-- the newest is such an atom, and the one before it is none
pub one_newest : AreNewest 1 (an_atom true ∷ an_atom false ∷ interrupt ∷ told ∷ []) (entries_in two_runs (true ∷ []))
one_newest = (true ∷ [], refl, refl)

pub not_two_newest : AreNewest 2 (an_atom true ∷ an_atom false ∷ interrupt ∷ []) (entries_in two_runs (true ∷ [])) → ⊥
not_two_newest (a ∷ b ∷ [], is, count) =
    absurd (omega (arith, ap (λ (l : List Entry). unwrap_or (((get_or l 3 interrupt).pre).addr) 0) is))
not_two_newest ([], is, count) = absurd (omega (arith, count))
not_two_newest (a ∷ [], is, count) = absurd (omega (arith, count))
not_two_newest (a ∷ b ∷ c ∷ rest, is, count) = absurd (omega (arith, count))

-- what is left stands before it, and has it no more
pub not_behind_the_newest : AreNewest 1 (an_atom false ∷ interrupt ∷ told ∷ an_atom true ∷ []) (entries_in two_runs (true ∷ [])) → ⊥
not_behind_the_newest (newest, is, count) =
    let first : Atom true ≡ Atom false = ap (λ (l : List Entry). (get_or l 0 told).p0) is in absurd cc

pub not_all_left : AreNewest 1 (entries_in two_runs (true ∷ [])) (entries_in two_runs (true ∷ [])) → ⊥
not_all_left (newest, is, count) = absurd (omega (arith, ap (λ (l : List Entry). length l) is, length-map newest plain_entry, count))

-- the front of these entries ends at the interrupt
pub front_of_two : IsFront (true ∷ false ∷ []) (entries_in two_runs (true ∷ []))
front_of_two = (
  interrupt ∷ told ∷ an_atom true ∷ [],
  refl,
  λ less taken there. let p0 : Exc 14 0x4000 ≡ Atom taken = ap (λ (x : Option Entry). (unwrap_or x told).p0) there in cc,
)

pub not_of_one : IsFront (true ∷ []) (entries_in two_runs (true ∷ [])) → ⊥
not_of_one (others, is, none) = none (omega arith) false (ap (λ (l : List Entry). slice_get l 1) (sym is))

pub none_at_the_interrupt : NoPlainAt 2 (entries_in two_runs [])
none_at_the_interrupt taken there = let p0 : Exc 14 0x4000 ≡ Atom taken = ap (λ (x : Option Entry). (unwrap_or x told).p0) there in cc

pub not_none_behind_all : NoPlainAt 4 (entries_in two_runs (true ∷ [])) → ⊥
not_none_behind_all none = none true refl

-- ---- an outlook

-- the newest of three is flipped, and no other
pub newest_flipped : flip_newest_atom (true ∷ true ∷ false ∷ []) ∷ flip_newest_atom (false ∷ true ∷ []) ∷ flip_newest_atom [] ∷ []
    ≡ (true ∷ true ∷ true ∷ []) ∷ (false ∷ false ∷ []) ∷ [] ∷ []
newest_flipped = refl

pub not_the_oldest_flipped : flip_newest_atom (true ∷ false ∷ []) ≡ false ∷ false ∷ [] → ⊥
not_the_oldest_flipped e = let first : true ≡ false = ap (λ (l : List Bool). get_or l 0 true) e in absurd cc

pub not_each_flipped : flip_newest_atom (true ∷ false ∷ []) ≡ false ∷ true ∷ [] → ⊥
not_each_flipped e = let first : true ≡ false = ap (λ (l : List Bool). get_or l 0 true) e in absurd cc

pub not_left_as_it_is : flip_newest_atom (true ∷ false ∷ []) ≡ true ∷ false ∷ [] → ⊥
not_left_as_it_is e = let second : true ≡ false = ap (λ (l : List Bool). get_or l 1 true) e in absurd cc
