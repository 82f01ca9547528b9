-- The values that the fields of packets have (Arm IHI 0064, "Descriptions of Trace Packets").
use Rattle.std.specs.Prelude.{◌≡◌, ◌⊎◌, ℕ, ◌*◌, ◌^◌, ◌<◌, ◌≤◌, IfSome}
use Rattle.etm_types.specs.AddrForm.{IsAddrForm}
use Rattle.etm_types.specs.Atoms.{IsAtomRun, IsFewAtoms}
use Rattle.etm_types.specs.Settings.{Sizes}
use Rattle.etm_types.specs.declared.context.CtxBits.{CtxBits}
use Rattle.packet_grammar.specs.declared.packet.Packet.{Packet}
use Rattle.packet_grammar.specs.declared.packet.Packet.TheVariants.{Info, Event, Time, Exc, Commit, Cancel, Mispredict, Cancel2, Cancel3, CtxInfo, Addr, Atoms}

-- Context packet, Address with Context packet: a level of at most 3, and numbers that fit their sizes; with no byte a number is
-- never there
pub record IsContext (s : Sizes) (ctx : CtxBits) : Type 0 where
  pub el : ctx.el ≤ 3
  pub vmid : IfSome ctx.vmid (λ n. (0 < s.vmid_bytes) × (n < 256 ^ s.vmid_bytes))
  pub cid : IfSome ctx.cid (λ n. (0 < s.cid_bytes) × (n < 256 ^ s.cid_bytes))

-- Timestamp packet: the bits come in groups of seven, or are all 64
abbrev pub IsStampSize : ℕ → Type 0
IsStampSize bits = (bits ≡ 64) ⊎ ((groups : ℕ) × (1 ≤ groups) × (groups ≤ 8) × (bits ≡ 7 * groups))

-- the values of a packet are in their ranges
abbrev pub IsPacket : Sizes → Packet → Type 0
IsPacket s (Info info key spec cyct) =
    IfSome info (λ n. n ≡ 0) × IfSome key (λ n. n < 2 ^ 32) × IfSome spec (λ n. n < 2 ^ 32) × IfSome cyct (λ n. n < 2 ^ 32)
IsPacket s (Event n) = (1 ≤ n) × (n ≤ 15)
IsPacket s (Time bits low) = IsStampSize bits × (low < 2 ^ bits)
IsPacket s (Exc kind target) = kind < 32
IsPacket s (Commit n) = n < 2 ^ 32
IsPacket s (Cancel n flip) = n < 2 ^ 32
IsPacket s (Mispredict few) = IsFewAtoms few
IsPacket s (Cancel2 few) = IsFewAtoms few
IsPacket s (Cancel3 e n) = (2 ≤ n) × (n ≤ 5)
IsPacket s (CtxInfo ctx) = IsContext s ctx
IsPacket s (Addr form ctx) = IsAddrForm form × IfSome ctx (λ given. IsContext s given)
IsPacket s (Atoms run) = IsAtomRun run
IsPacket s packet = Unit {0}
