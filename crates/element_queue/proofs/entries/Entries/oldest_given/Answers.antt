use Rattle.std.proofs.Common.{◌≡◌, ℕ, List, ◌∷◌, ap, arith, drop, map, slice_get, subst, sym, ◌∙◌}
use Rattle.etm_types.specs.declared.element.Entry.{Entry}
use Rattle.etm_types.specs.declared.element.Thing.TheVariants.{Seen}
use Rattle.element_queue.specs.Kept.{Kept, NoPlainAt, entries_in}
use Rattle.element_queue.specs.Queued.{BeginsWith, entry_of}
use Rattle.element_queue.specs.declared.given_atoms.GivenAtoms.{GivenAtoms}
use Rattle.element_queue.proofs.GivenFronts.{begins_given, begins_plain, first_then}
use Rattle.element_queue.proofs.entries.Entries.oldest_given.Goals as goal

pub returns-then-atoms-gt0-clause-value : goal.returns-then-atoms-gt0-clause-value
returns-then-atoms-gt0-clause-value c =
    let plain = c.oldest_plain-atoms in
    begins_plain plain.result c.args.self.now.items plain.ensures.atoms c.if-atoms-gt0.true plain.ensures.most plain.ensures.held plain.ensures.all

-- the oldest is no plain atom, so that the others are those behind the first run
split : (c : goal.After-with_first) → entry_of c.in_ok-addr.field-0 ∷ entries_in (drop 1 c.self.inside.runs.items) c.self.inside.plain ≡ c.args.self.now.items
split c =
    let q = c.self.inside in let items = ap (λ (k : Kept). k.items) c.self.view_is in let plain = c.oldest_plain-atoms in
    let count : plain.result.count ≡ 0 = omega (arith, c.if-atoms-gt0.false) in
    let none : NoPlainAt 0 c.args.self.now.items =
    subst (λ (n : ℕ). NoPlainAt n c.args.self.now.items) count (plain.ensures.all (omega (arith, count))) in
    sym (first_then q.runs.items q.plain (entry_of c.in_ok-addr.field-0) (subst (NoPlainAt 0) (sym items) none)
    (ap (λ (l : List Entry). slice_get l 0) items ∙ c.in_ok-addr.ensures.value)) ∙ items

pub returns-clause-value : goal.returns-clause-value
returns-clause-value c =
    let q = c.self.inside in let atom = c.in_ok-addr.field-0 in let others = c.front_from-behind in let whole = c.with_first in
    let given : GivenAtoms = record { addr = atom.addr; atoms = whole.result } in
    subst (λ (l : List Entry). BeginsWith given (map Seen l)) (split c)
    (begins_given atom.addr atom.taken whole.result others.result (entries_in (drop 1 q.runs.items) q.plain) whole.ensures.atoms others.ensures.atoms
    others.ensures.held others.ensures.all whole.ensures.some whole.ensures.most whole.ensures.within whole.ensures.all)
