-- What the calls ask for of an order that can be told.
use Rattle.std.proofs.Common.{◌≡◌, ℕ, ◌+◌, ◌^◌, ◌<◌, ◌≤◌, arith}
use Rattle.std.specs.Prelude.{All, Option}
use Rattle.etm_types.specs.declared.context.Ctx.{Ctx}
use Rattle.packet_writer.specs.Fitting.{HasSpelling}
use Rattle.trace_unit.proofs.Balanced.{balanced, out_balanced}
use Rattle.trace_unit.proofs.OrderSpelled.{notice_spelled}
use Rattle.trace_unit.specs.Fitting.{FitsNotice}
use Rattle.trace_unit.specs.Ordered.{CanTell, IsReady}
use Rattle.trace_unit.specs.Orders.{Exception, ExceptionAtTarget, Notice, Tell}
use Rattle.trace_unit.specs.Packets.{notice_packets}
use Rattle.trace_unit.specs.Whole.{PutOff, at_once, out}
use Rattle.trace_unit.specs.declared.teller.Teller.{Teller}

pub notice_can_by : (t : Teller) (notice : Notice) (n : ℕ) → IsReady n t → FitsNotice t.settings notice
    → All (HasSpelling t.settings) (notice_packets t.shared notice)
notice_can_by t notice n ready fits = notice_spelled t.settings t.shared notice ready.shared fits

pub notice_can : (t : Teller) (notice : Notice) → CanTell t (Tell notice) → All (HasSpelling t.settings) (notice_packets t.shared notice)
notice_can t notice can = notice_can_by t notice can.unretired can.ready can.fits

-- one more is written behind all that goes out before it
abbrev TakesOne : ℕ → PutOff → Type 0
TakesOne depth v = (v.commits + 1 < 2 ^ 32) × (v.held + 1 ≤ depth + v.commits + at_once depth)

takes_one : (t : Teller) (n : ℕ) (v : PutOff) → v ≡ out t.settings.depth t.waiting → IsReady n t → n + 1 ≤ t.settings.depth + at_once t.settings.depth
    → TakesOne t.settings.depth v
takes_one t n v e ready allows =
    let depth = t.settings.depth in
    let o = out_balanced depth n t.waiting ready.few (balanced depth n t.waiting ready.small) in
    rw e (omega (arith, o.held, o.balance, ready.settings.depth), omega (arith, o.balance, allows))

pub except_can : (t : Teller) (kind ret : ℕ) (v : PutOff) → v ≡ out t.settings.depth t.waiting → CanTell t (Exception kind ret)
    → TakesOne t.settings.depth v
except_can t kind ret v e can = takes_one t can.unretired v e can.ready can.allows

pub target_can : (t : Teller) (context : Option Ctx) (kind addr : ℕ) (v : PutOff) → v ≡ out t.settings.depth t.waiting
    → CanTell t (ExceptionAtTarget context kind addr) → TakesOne t.settings.depth v
target_can t context kind addr v e can = takes_one t can.unretired v e can.ready can.allows
