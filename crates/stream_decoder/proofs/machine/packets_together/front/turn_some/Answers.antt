use Rattle.std.proofs.Common.{arith}
use Rattle.stream_decoder.proofs.Turning.{atoms_left, turned_again}
use Rattle.stream_decoder.proofs.machine.packets_together.front.turn_some.Goals as goal

pub turn_run-more-requires-clause-atoms : goal.turn_run-more-requires-clause-atoms
turn_run-more-requires-clause-atoms g c k below =
    let l = c.loop-n in
    atoms_left c.args.front.elements l.front.elements l.n c.atom_count-most.result (λ j fewer. (c.atom_count-most.ensures.value j).0 fewer)
    l.invariant.turned.left_is k (omega (arith, below, c.loop-n-test.true))

pub loop-n-preserved : goal.loop-n-preserved
loop-n-preserved g c =
    let a = c.args in let image = a.image.now in let l = c.loop-n in let e = c.turn_run-more.ensures in let new = c.turn_run-more.new in
    let turned = turned_again (g.T.StretchTaker.adds image a.id) image (g.met.T.StretchTaker.joins image a.id) a.waiting.now l.waiting new.waiting a.walker.now
    l.walker new.walker a.front.elements l.front.elements new.front.elements l.n c.turn_run-more.result a.taker.now l.taker new.taker l.invariant.turned
    e.steps e.left (record { due = e.due; full = e.full; things = e.things; given = e.given; holds = e.holds }) e.context in
    record { turned = turned; within = omega (arith, e.most, c.loop-n-test.true) }

pub returns-then-more-eq0 : goal.returns-then-more-eq0
returns-then-more-eq0 g c =
    let a = c.args in let image = a.image.now in let l = c.loop-n in let e = c.turn_run-more.ensures in let new = c.turn_run-more.new in
    let turned = turned_again (g.T.StretchTaker.adds image a.id) image (g.met.T.StretchTaker.joins image a.id) a.waiting.now l.waiting new.waiting a.walker.now
    l.walker new.walker a.front.elements l.front.elements new.front.elements l.n c.turn_run-more.result a.taker.now l.taker new.taker l.invariant.turned
    e.steps e.left (record { due = e.due; full = e.full; things = e.things; given = e.given; holds = e.holds }) e.context in
    record { steps = turned.steps }
