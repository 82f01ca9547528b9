use Rattle.std.proofs.Common.{◌++◌, List, length, ap, arith, subst}
use Rattle.etm_types.specs.declared.element.Elem.{Elem}
use Rattle.etm_types.specs.declared.element.Thing.{Thing}
use Rattle.stream_decoder.specs.Waiting.{TakesAtoms, all_of}
use Rattle.stream_decoder.proofs.AtomSteps.{takes_turned}
use Rattle.stream_decoder.proofs.LettingGo.{walked_within}
use Rattle.stream_decoder.proofs.Turning.{still_turning}
use Rattle.stream_decoder.proofs.machine.packets_together.front.turn_run.Goals as goal

pub take_atoms-requires-clause-held : goal.take_atoms-requires-clause-held
take_atoms-requires-clause-held g c =
    let a = c.args in let walks = c.walk_oldest-n.ensures in
    let held = ap (λ (due : List Thing). length (due ++ a.waiting.now.pending.held)) c.requires.due in
    omega (arith, walks.count, held, walked_within a.image.now a.walker.now c.walk_oldest-n.new.walker (all_of a.waiting.now) walks.added walks.walks)

pub returns-then-n-gt0 : goal.returns-then-n-gt0
returns-then-n-gt0 g c =
    let a = c.args in let image = a.image.now in let w = a.waiting.now in let n = c.walk_oldest-n.result in let r = c.requires in
    let left = c.take_atoms.new.todo.elements in let takes = c.take_atoms.ensures.takes in
    let (is, left_is) = still_turning w c.take_atoms.new.waiting a.front.now.elements left n
    (record { due = r.due; full = r.full; things = r.things; given = r.given; holds = r.holds }) takes in
    record {
      steps = λ told are.
          takes_turned (g.T.StretchTaker.adds image a.id a.walker.now.ctx) image w c.take_atoms.new.waiting a.walker.now c.walk_oldest-n.new.walker told
          left a.most n a.taker.now c.walk_oldest-n.new.taker r.due r.full r.holds c.walk_oldest-n.ensures
          (subst (λ (es : List Elem). TakesAtoms w es n c.take_atoms.new.waiting left) are takes);
      left = left_is;
      most = c.walk_oldest-n.ensures.within;
      due = is.due;
      full = is.full;
      things = is.things;
      given = is.given;
      holds = is.holds;
      context = c.walk_oldest-n.ensures.context;
    }
