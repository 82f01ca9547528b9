use Rattle.std.proofs.Common.{◌≡◌, ◌<◌, ◌^◌, [], Option, Some, None, refl, sym, subst}
use Rattle.std.proofs.lemmas.Result.{IfOk-weaker}
use Rattle.etm_types.specs.declared.element.Thing.{Thing}
use Rattle.packet_grammar.specs.declared.stream_fault.Fault.{Fault}
use Rattle.packet_grammar.specs.declared.stream_fault.Fault.TheVariants.{Queue, Walk}
use Rattle.stream_decoder.specs.Decoding.{Decoding}
use Rattle.stream_decoder.specs.Yields.{Leaves, Stops, items_found}
use Rattle.stream_decoder.proofs.Coming.{none_due}
use Rattle.stream_decoder.proofs.Stepping.{same_error}
use Rattle.stream_decoder.proofs.Yielding.{goes_by_leaving, stops_refused, stops_walking}
use Rattle.stream_decoder.proofs.machine.Decoding.step.Goals as goal

pub returns-in-Ok-None-clause-goes : goal.returns-in-Ok-None-clause-goes
returns-in-Ok-None-clause-goes c =
    let next = c.take_next.new.self in
    let leaves = subst (λ (t : Option Thing). Leaves c.args.self.now next t) c.in-Ok-None.field-0-is c.in-Ok-None.ensures.ok in
    goes_by_leaving c.args.image.now c.args.self.now next next None [] leaves (refl, refl) refl

pub returns-in-Ok-Some-clause-goes : goal.returns-in-Ok-Some-clause-goes
returns-in-Ok-Some-clause-goes c =
    let image = c.args.image.now in let d = c.args.self.now in let m = c.take_next.new.self in let thing = Some c.in-Ok-Some.thing in
    let leaves = subst (λ (t : Option Thing). Leaves d m t) c.in-Ok-Some.field-0-is c.in-Ok-Some.ensures.ok in
    IfOk-weaker c.walk.result _ _
    (λ found walks. goes_by_leaving image d m c.walk.new.self thing (items_found found) leaves walks c.walk.ensures.others) c.walk.ensures.walks

pub returns-in-Ok-Some-clause-stops : goal.returns-in-Ok-Some-clause-stops
returns-in-Ok-Some-clause-stops c fault is =
    let image = c.args.image.now in let d = c.args.self.now in let m = c.take_next.new.self in
    let why = c.walk.ensures.fault fault is in
    let leaves = subst (λ (t : Option Thing). Leaves d m t) c.in-Ok-Some.field-0-is c.in-Ok-Some.ensures.ok in
    let stops : Stops image d (Walk why.0) m = stops_walking image d m c.in-Ok-Some.thing why.0 leaves why.2 in
    let unchanged : c.walk.new.self ≡ m = c.walk.ensures.unchanged (rw is refl) in
    subst (λ (f : Fault). Stops image d f c.walk.new.self) (sym why.1)
    (subst (λ (x : Decoding). Stops image d (Walk why.0) x) (sym unchanged) stops)

pub returns-in-Err-clause-stops : goal.returns-in-Err-clause-stops
returns-in-Err-clause-stops c fault is =
    let image = c.args.image.now in let d = c.args.self.now in
    let refuses = c.take_next.ensures.fault c.in-Err.fault c.in-Err.is in
    let range = subst (λ (x : Decoding). x.counts.committed < 2 ^ 64) (c.in-Err.ensures.unchanged refl) c.take_next.ensures.holds.range.committed in
    let stops = stops_refused image d c.in-Err.fault (sym (none_due d refuses.due range)) refuses in
    subst (λ (f : Fault). Stops image d f c.take_next.new.self) (same_error (Queue c.in-Err.fault) fault is)
    (subst (λ (x : Decoding). Stops image d (Queue c.in-Err.fault) x) (sym (c.in-Err.ensures.unchanged refl)) stops)
