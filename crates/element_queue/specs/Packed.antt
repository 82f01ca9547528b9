-- How the fields of a packed element stand for a P0 element and what was given before it.
use Rattle.std.specs.Prelude.{ℕ, Bool, true, false, Option, Some, None}
use Rattle.etm_types.specs.declared.context.Ctx.{Ctx}
use Rattle.etm_types.specs.declared.element.Entry.{Entry}
use Rattle.etm_types.specs.declared.element.P0.{P0}
use Rattle.etm_types.specs.declared.element.P0.TheVariants.{Atom, Exc}
use Rattle.etm_types.specs.declared.element.Pre.{Pre}
use Rattle.element_queue.specs.declared.packed.Context.{Context}
use Rattle.element_queue.specs.declared.packed.Context.TheVariants.{NotGiven, Secure, NonSecure}
use Rattle.element_queue.specs.declared.packed.Element.{Element}
use Rattle.element_queue.specs.declared.packed.Element.TheVariants.{NotTaken, Taken, Exception}
use Rattle.element_queue.specs.declared.packed.Packed.{Packed}

-- an exception alone has a type and a return address
abbrev pub p0_of : Element → ℕ → ℕ → P0
p0_of NotTaken kind ret = Atom false
p0_of Taken kind ret = Atom true
p0_of Exception kind ret = Exc kind ret

-- a context that was given alone has an exception level, a VMID and a context ID
abbrev pub ctx_of : Context → ℕ → ℕ → ℕ → Option Ctx
ctx_of NotGiven el vmid cid = None
ctx_of Secure el vmid cid = Some (record { el = el; ns = false; vmid = vmid; cid = cid })
ctx_of NonSecure el vmid cid = Some (record { el = el; ns = true; vmid = vmid; cid = cid })

-- an address, where one was given
abbrev pub addr_of : Bool → ℕ → Option ℕ
addr_of false addr = None
addr_of true addr = Some addr

-- what was given before the P0 element
abbrev pub pre_of_packed : Packed → Pre
pre_of_packed p =
    record { flush = p.flush; on = p.on; lost = p.lost; ctx = ctx_of p.context p.el p.vmid p.cid; addr = addr_of p.has_addr p.addr }

abbrev pub unpacked : Packed → Entry
unpacked p = record { pre = pre_of_packed p; p0 = p0_of p.element p.kind p.ret }
