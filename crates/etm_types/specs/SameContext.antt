-- Whether two contexts are the same (Arm IHI 0064, "Context element").
use Rattle.std.specs.Prelude.{◌==◌, ◌&&◌, Bool, true, false, not}
use Rattle.etm_types.specs.declared.context.Ctx.{Ctx}

abbrev pub same_flag : Bool → Bool → Bool
same_flag true b = b
same_flag false b = not b

abbrev pub same_context : Ctx → Ctx → Bool
same_context a b = (a.el == b.el) && (same_flag a.ns b.ns && ((a.vmid == b.vmid) && (a.cid == b.cid)))
