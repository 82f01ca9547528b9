use Rattle.std.proofs.Common.{refl, sym, ap, ◌∙◌, subst}
use Rattle.packet_grammar.specs.declared.packet.Packet.TheVariants.{Atoms}
use Rattle.stream_decoder.specs.Decoding.{AtRest, Decoding}
use Rattle.stream_decoder.proofs.Holds.{holds_opened}
use Rattle.stream_decoder.proofs.machine.Decoding.open_atoms.Goals as goal

pub invariant_of-self : goal.invariant_of-self
invariant_of-self c =
    let inv = c.self.invariant in
    let i = c.self.inside in
    let some = c.in-Some.ensures.some in (
      inv.0,
      holds_opened i.reader i.reader i.maker i.todo i.waiting i.walker i.fault inv.1 (inv.1).reads refl c.args.at (Atoms c.args.run)
          c.in-Some.elems i.maker c.of-self-inside.result
          (subst AtRest (sym c.self.view_is) c.requires.rest) (ap (λ (d : Decoding). d.fault) c.self.view_is ∙ c.requires.whole) some.1 (sym some.2)
          c.of-self-inside.ensures
          c.in-Some.ensures.within,
    )
