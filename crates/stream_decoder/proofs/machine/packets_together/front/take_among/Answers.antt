use Rattle.std.proofs.Common.{◌≡◌, ℕ, Bool, true, List, None, ap, drop, length, refl, subst, sym, ◌∙◌, arith}
use Rattle.std.proofs.lemmas.List.{length-map}
use Rattle.etm_types.specs.Atoms.{atoms_in}
use Rattle.etm_types.specs.declared.atoms.AtomRun.{AtomRun}
use Rattle.etm_types.specs.declared.element.Elem.{Elem}
use Rattle.etm_types.specs.declared.element.Elem.TheVariants as elem
use Rattle.etm_types.specs.declared.element.P0.TheVariants.{Atom}
use Rattle.packet_grammar.specs.declared.packet.Packet.TheVariants.{Atoms}
use Rattle.path_elements.specs.Elements.{Told, atoms, elements_of}
use Rattle.stream_decoder.specs.AtomPackets.{ReachesAtom}
use Rattle.stream_decoder.specs.Left.{Left}
use Rattle.stream_decoder.proofs.PacketRuns.{elements_are}
use Rattle.stream_decoder.proofs.Rotating.{length_bits}
use Rattle.stream_decoder.proofs.machine.packets_together.front.take_among.Goals as goal

-- what the last packet has
last_has : (t : Told) (run : AtomRun) (l : Left) (at : ℕ) (elems : List Elem) → (t.informed ≡ true) × (t.awaiting ≡ None)
    → l ≡ record { at = at; elements = elems } → elems ≡ elements_of t (Atoms run) → l ≡ record { at = at; elements = atoms (atoms_in run) }
last_has t run l at elems ready is has =
    is ∙ ap (λ (es : List Elem). record { at = at; elements = es }) (has ∙ elements_are t run (record { informed = ready.0; awaiting = ready.1 }))

pub advance_by-requires : goal.advance_by-requires
advance_by-requires c =
    let reached = c.read_until-at.result in
    let has = last_has c.args.maker.now reached.atoms c.of.result reached.at _ c.requires.ready c.of.ensures c.in-Some.ensures.some.1 in
    let many = ap (λ (l : Left). length l.elements) has in
    omega (
      arith,
      many,
      length-map (atoms_in reached.atoms) (λ (b : Bool). elem.P0 (Atom b)),
      length_bits (reached.atoms).count (reached.atoms).bits,
      c.read_until-at.ensures.reads.most,
    )

pub returns-clause-reaches : goal.returns-clause-reaches
returns-clause-reaches c =
    let reached = c.read_until-at.result in
    let has = last_has c.args.maker.now reached.atoms c.of.result reached.at _ c.requires.ready c.of.ensures c.in-Some.ensures.some.1 in
    let is = c.advance_by.ensures ∙ ap (λ (l : Left). record l { elements = drop reached.within l.elements }) has in
    subst (λ (l : Left). ReachesAtom c.args.reader.now c.args.bytes.now c.args.n l reached.behind.now c.read_until-at.new.reader) (sym is)
    (reached.atoms, reached.within, c.read_until-at.ensures.reads, refl)
