use Rattle.std.proofs.Common.{refl, sym, ap, ◌∙◌, subst}
use Rattle.packet_grammar.specs.declared.packet.Packet.TheVariants.{Atoms}
use Rattle.packet_reader.specs.Stands.{PacketReading}
use Rattle.packet_reader.specs.declared.step.Step.TheVariants.{Whole}
use Rattle.path_elements.proofs.Taken.{in_range}
use Rattle.stream_decoder.proofs.Beginning.{begun_opening, kept_reading, takes_byte, unmet}
use Rattle.stream_decoder.specs.Decoding.{Decoding, decoding_of}
use Rattle.stream_decoder.specs.Yields.{TakesByte}
use Rattle.stream_decoder.proofs.machine.Decoding.begin.Goals as goal

pub invariant_of-self : goal.invariant_of-self
invariant_of-self c =
    let i = c.self.inside in let packet = Atoms c.in-Some.run' in let takes = c.in-Some.ensures.takes in
    kept_reading i.reader c.take_atoms.new.self c.args.byte c.ranges.byte.fits (Whole c.in-Some.at packet) takes.settings takes.stands takes.gains
    i.maker i.todo i.waiting i.walker i.fault c.self.invariant

pub open_atoms-requires-clause-packet : goal.open_atoms-requires-clause-packet
open_atoms-requires-clause-packet c = in_range c.self.inside.reader.settings (Atoms c.in-Some.run') c.in-Some.ensures.takes.values

pub returns-in-Some-clause-takes : goal.returns-in-Some-clause-takes
returns-in-Some-clause-takes c =
    let i = c.self.inside in let packet = Atoms c.in-Some.run' in let takes = c.in-Some.ensures.takes in
    takes_byte c.args.self.now i.reader c.take_atoms.new.self c.open_atoms.new.self c.args.byte
    (ap (λ (d : Decoding). d.reader) c.self.view_is) takes.offset takes.settings c.open_atoms.ensures.reader
    (begun_opening i.reader c.take_atoms.new.self c.args.byte c.ranges.byte.fits (Whole c.in-Some.at packet) takes.settings takes.stands takes.gains
    i.maker i.todo i.waiting i.walker i.fault c.args.self.now c.self.view_is c.open_atoms.new.self c.open_atoms.ensures.reader
    (unmet i.fault (sym c.is_some.ensures ∙ c.if-is_some.false)) c.open_atoms.ensures.opens)

pub returns-in-None-clause-takes : goal.returns-in-None-clause-takes
returns-in-None-clause-takes c =
    let i = c.self.inside in
    let same = ap (λ (r : PacketReading). decoding_of r i.maker i.todo i.waiting i.walker i.fault) (c.in-None.ensures.none refl) ∙ c.self.view_is in
    subst (λ (d : Decoding). TakesByte d c.args.byte c.begin_any-in-None.new.self) same c.begin_any-in-None.ensures.takes
