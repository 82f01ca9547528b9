use Rattle.std.proofs.Common.{◌≡◌, ◌++◌, refl, sym, ap, subst, ◌∙◌, arith, length, length-append}
use Rattle.etm_types.specs.Settings.{AreSettings}
use Rattle.packet_grammar.specs.declared.end.End.TheVariants.{Clean}
use Rattle.path_elements.specs.Path.{IsPath}
use Rattle.spec_run.specs.RetiredItems.{retired_of}
use Rattle.trace_unit.proofs.TraceShown.{trace_shows}
use Rattle.trace_unit.proofs.UnitKept.{settle_few}
use Rattle.trace_unit.proofs.UnitStands.{lost_of, settles}
use Rattle.trace_unit.specs.Kept.{Kept}
use Rattle.trace_unit.specs.Ordered.{bytes_of}
use Rattle.trace_unit.specs.Orders.{Settle}
use Rattle.trace_unit.specs.Written.{pending, settled, written}
use Rattle.trace_unit.proofs.unit.Unit.end.Goals as goal

pub settle-requires-clause-room : goal.settle-requires-clause-room
settle-requires-clause-room c =
    let few = settle_few _ c.self.inside.follower.teller c.self.invariant.ready in
    let room = c.in-Ok.ensures.ok in
    omega (arith, few, room)

pub returns-in-Ok-clause-written : goal.returns-in-Ok-clause-written
returns-in-Ok-clause-written c image events st ok =
    let s = c.args.self.settings in
    let last = pending image s c.args.self.stack_depth events in
    let f = c.self.inside.follower in (
      last,
      c.settle.ensures.bytes
          ∙ ap (λ l. l ++ bytes_of f.teller Settle) c.reserve.ensures.items
          ∙ ap (λ l. c.args.bytes.now.items ++ l) (settles image c.self.inside.run f c.args.self events c.self.view_is st),
      refl,
    )

pub returns-in-Ok-clause-path : goal.returns-in-Ok-clause-path
returns-in-Ok-clause-path c image events x st is some ran was ok =
    let s = c.args.self.settings in
    let most = c.args.self.stack_depth in
    let f = c.self.inside.follower in
    let are : AreSettings s = subst (λ (k : Kept). AreSettings k.settings) c.self.view_is c.self.invariant.ready.settings in
    let all : c.settle.new.bytes.items ≡ settled image s most events =
    c.settle.ensures.bytes
    ∙ ap (λ l. l ++ bytes_of f.teller Settle) (c.reserve.ensures.items ∙ was)
    ∙ ap (λ l. written image s most events ++ l) (settles image c.self.inside.run f c.args.self events c.self.view_is st) in
    subst (λ l. IsPath image s l (retired_of x) Clean) (sym all) (trace_shows image s most events x is are st.most st.given some ran)

pub returns-in-Ok-clause-ledger : goal.returns-in-Ok-clause-ledger
returns-in-Ok-clause-ledger c image events x st ran =
    c.close.ensures.value ∙ lost_of image c.self.inside.run c.self.inside.follower c.args.self events x c.self.invariant c.self.view_is st ran

pub returns-in-Ok-clause-few : goal.returns-in-Ok-clause-few
returns-in-Ok-clause-few c =
    let few = settle_few _ c.self.inside.follower.teller c.self.invariant.ready in
    let wrote = bytes_of c.self.inside.follower.teller Settle in
    omega (arith, few, ap length c.settle.ensures.bytes, length-append c.reserve.new.self.items wrote, ap length c.reserve.ensures.items)
