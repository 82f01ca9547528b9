-- What a context packet carries of a context, and the context that it gives (Arm IHI 0064, context packets).
use Rattle.std.specs.Prelude.{ℕ, Option, Some, None, ◌==◌, if◌then◌else◌}
use Rattle.std.specs.Option.{unwrap_or}
use Rattle.etm_types.specs.declared.context.Ctx.{Ctx}
use Rattle.etm_types.specs.declared.context.CtxBits.{CtxBits}

-- a number, where it differs from the last one
abbrev pub if_changed : ℕ → ℕ → Option ℕ
if_changed last new = if new == last then None else Some new

-- what gives a context after the last one: the VMID and the context ID only where they differ
abbrev pub bits_against : Ctx → Ctx → CtxBits
bits_against last ctx = record { el = ctx.el; ns = ctx.ns; vmid = if_changed last.vmid ctx.vmid; cid = if_changed last.cid ctx.cid }

-- the context that is given after the last one: what is not carried is as in the last one
abbrev pub context_told : CtxBits → Ctx → Ctx
context_told bits last = record { el = bits.el; ns = bits.ns; vmid = unwrap_or bits.vmid last.vmid; cid = unwrap_or bits.cid last.cid }
