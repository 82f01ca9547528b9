use Rattle.std.proofs.Common.{◌++◌, List, Bool, ap, arith, drop, refl, sym, ◌∙◌}
use Rattle.element_queue.specs.Kept.{IsFront, entries_in}
use Rattle.element_queue.proofs.Fronts.{all_bits, ends_plain, ends_there, front_all, front_atoms, front_held, goes_on}
use Rattle.element_queue.proofs.entries.oldest.front_of.Goals.{After-into_front, After-into_front-2}
use Rattle.element_queue.proofs.entries.oldest.front_of.Goals as goal

-- the front ends in a run
ended : (c : After-into_front) → IsFront c.add_to.new.front (entries_in (drop c.args.first c.args.runs.now.items) c.args.plain.now)
ended c =
    ends_there _ c.args.runs.now.items c.in-Some.run'.now c.args.plain.now c.loop-i.front c.add_to.new.front c.loop-i.i (sym c.in-Some.ensures.value)
    c.loop-i.invariant.split (c.if-not-add_to.ensures.ends refl)

pub returns-then-not-add_to-clause-atoms : goal.returns-then-not-add_to-clause-atoms
returns-then-not-add_to-clause-atoms c =
    front_atoms c.add_to.new.front _ _ c.into_front.result.count (ended c) c.into_front.ensures.atoms c.into_front.ensures.within

pub returns-then-not-add_to-clause-held : goal.returns-then-not-add_to-clause-held
returns-then-not-add_to-clause-held c = front_held c.add_to.new.front _ c.into_front.result.count (ended c) c.into_front.ensures.within

pub returns-then-not-add_to-clause-all : goal.returns-then-not-add_to-clause-all
returns-then-not-add_to-clause-all c = front_all c.add_to.new.front _ c.into_front.result.count (ended c) c.into_front.ensures.all

pub loop-i-preserved : goal.loop-i-preserved
loop-i-preserved c =
    let more = c.if-not-add_to.ensures.goes_on refl in
    record {
      split = goes_on _ c.args.runs.now.items c.in-Some.run'.now c.args.plain.now c.loop-i.front c.add_to.new.front c.loop-i.i (sym c.in-Some.ensures.value)
          c.loop-i.invariant.split more.0;
      few = more.1;
    }

-- or behind all runs
behind : (c : After-into_front-2) → IsFront c.push_run.new.self (entries_in (drop c.args.first c.args.runs.now.items) c.args.plain.now)
behind c =
    let old = c.loop-i.front in let plain = c.args.plain.now in let n = c.front.result.count in
    let bits = c.push_run.ensures ∙ ap (λ (l : List Bool). old ++ l) c.front.ensures.atoms in
    ends_plain _ c.args.runs.now.items plain old c.push_run.new.self c.loop-i.i n (omega (arith, c.loop-i-test.false, c.len-i-end.ensures.len))
    c.loop-i.invariant.split bits (all_bits old plain c.push_run.new.self n bits c.front.ensures.within c.front.ensures.all)

pub returns-clause-atoms : goal.returns-clause-atoms
returns-clause-atoms c =
    front_atoms c.push_run.new.self _ _ c.into_front-2.result.count (behind c) c.into_front-2.ensures.atoms c.into_front-2.ensures.within

pub returns-clause-held : goal.returns-clause-held
returns-clause-held c = front_held c.push_run.new.self _ c.into_front-2.result.count (behind c) c.into_front-2.ensures.within

pub returns-clause-all : goal.returns-clause-all
returns-clause-all c = front_all c.push_run.new.self _ c.into_front-2.result.count (behind c) c.into_front-2.ensures.all
