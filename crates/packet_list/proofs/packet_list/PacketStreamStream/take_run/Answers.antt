use Rattle.std.proofs.Common.{ℕ, [], Ok, Err, refl, sym, subst}
use Rattle.capture_streams.specs.Streams.{RunAdds}
use Rattle.capture_streams.proofs.Sums.{no_stream_items}
use Rattle.packet_list.specs.PacketList.{HasRead, Listed, packet_lists}
use Rattle.packet_list.proofs.packet_list.PacketStreamStream.take_run.Goals as goal
use Rattle.trace_io.specs.declared.traits.Failed.{Failed}

pub returns-in-Ok-clause-gains : goal.returns-in-Ok-clause-gains
returns-in-Ok-clause-gains g c bytes stands =
    let state = g.K.Sink.state in let run = c.args.run.now in let old = state c.args.sink.now in let new = state c.take_bytes.new.sink in
    let read = subst (λ (l : Listed). HasRead l.reader l.fault bytes) (sym c.self.view_is) stands.read in
    subst (λ (l : Listed). RunAdds {T = Unit {0}} {E = Failed} (packet_lists l.reader.settings) c.args.id bytes run old new (Ok c.in-Ok.field-0)) c.self.view_is
    (subst (λ (id : ℕ). RunAdds {T = Unit {0}} {E = Failed} (packet_lists c.self.inside.reader.settings) id bytes run old new (Ok c.in-Ok.field-0))
    c.turn_to.ensures (c.in-Ok.ensures.gains bytes read))

pub returns-in-Err-clause-gains : goal.returns-in-Err-clause-gains
returns-in-Err-clause-gains g c bytes stands =
    let state = g.K.Sink.state in let run = c.args.run.now in let old = state c.args.sink.now in let new = state c.take_bytes.new.sink in
    let read = subst (λ (l : Listed). HasRead l.reader l.fault bytes) (sym c.self.view_is) stands.read in
    subst (λ (l : Listed). RunAdds {T = Unit {0}} {E = Failed} (packet_lists l.reader.settings) c.args.id bytes run old new (Err c.in-Err.failed))
    c.self.view_is (subst (λ (id : ℕ). RunAdds {T = Unit {0}} {E = Failed} (packet_lists c.self.inside.reader.settings) id bytes run old new (Err c.in-Err.failed))
    c.turn_to.ensures (c.in-Err.ensures.gains bytes read))

pub returns-in-Ok-clause-adds : goal.returns-in-Ok-clause-adds
returns-in-Ok-clause-adds g c ok bytes stands =
    ([], no_stream_items (packet_lists c.args.self.now.reader.settings) (λ id before byte. refl) c.args.id bytes c.args.run.now, λ items has. tt)
