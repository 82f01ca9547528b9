use Rattle.stream_decoder.proofs.AtomSteps.{takes_held}
use Rattle.stream_decoder.proofs.machine.packets_together.front.take_some.Goals as goal

pub returns : goal.returns
returns g c =
    let a = c.args in let image = a.image.now in let s = a.walker.now in
    record {
      steps = λ told is.
          takes_held (g.T.StretchTaker.adds image a.id s.ctx) image a.waiting.now c.hold_some.new.waiting s told c.hold_some.result a.taker.now
          (g.met.T.StretchTaker.none image a.id s.ctx a.taker.now) (c.hold_some.ensures.steps image s told c.requires.state is);
    }
