-- The context before a trace has given one.
use Rattle.std.specs.Prelude.{false}
use Rattle.etm_types.specs.declared.context.Ctx.{Ctx}

-- EL0 in Secure state, VMID 0 and context ID 0
abbrev pub initial_context : Ctx
initial_context = record { el = 0; ns = false; vmid = 0; cid = 0 }
