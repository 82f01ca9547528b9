use Rattle.std.proofs.Common.{refl, sym, ap, ◌∙◌, subst}
use Rattle.stream_decoder.specs.Decoding.{AtRest, Decoding}
use Rattle.stream_decoder.proofs.Holds.{holds_opened}
use Rattle.stream_decoder.proofs.machine.Decoding.open.Goals as goal

pub invariant_of-self : goal.invariant_of-self
invariant_of-self c =
    let inv = c.self.invariant in
    let inside = c.self.inside in
    let ok = c.in-Ok.ensures.ok in (
      inv.0,
      holds_opened inside.reader inside.reader inside.maker inside.todo inside.waiting inside.walker inside.fault inv.1
          (inv.1).reads refl c.args.at c.args.packet.now
          c.in-Ok.elems c.take.new.self c.of-self-inside.result
          (subst AtRest (sym c.self.view_is) c.requires.rest) (ap (λ (d : Decoding). d.fault) c.self.view_is ∙ c.requires.whole)
          ok.1 ok.2 c.of-self-inside.ensures
          c.in-Ok.ensures.within,
    )
