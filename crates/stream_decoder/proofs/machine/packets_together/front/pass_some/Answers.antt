use Rattle.std.proofs.Common.{sym, ◌∙◌}
use Rattle.etm_types.specs.Atoms.{atoms_in}
use Rattle.stream_decoder.proofs.AtomSteps.{takes_passed}
use Rattle.stream_decoder.proofs.machine.packets_together.front.pass_some.Goals as goal

pub returns-then-n-gt0 : goal.returns-then-n-gt0
returns-then-n-gt0 g c =
    let a = c.args in let image = a.image.now in let next = c.atoms-atoms.ensures.next in
    record {
      steps = λ told is.
          takes_passed (g.T.StretchTaker.adds image a.id a.walker.now.ctx) image a.waiting.now c.pass_many.new.self a.walker.now c.walk_atoms-n.new.self
          a.given (atoms_in c.atoms-atoms.result) told next.0 c.walk_atoms-n.result a.taker.now c.walk_atoms-n.new.taker c.requires.due c.requires.depth
          c.requires.pre c.requires.holds (sym is ∙ next.1) c.walk_atoms-n.ensures.walks c.if-n-gt0.true c.pass_many.ensures.value;
    }
