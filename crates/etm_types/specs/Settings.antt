-- What contracts see of settings, and which contexts fit them.
use Rattle.std.specs.Prelude.{ℕ, ◌≤◌, ◌<◌, ◌^◌, IsTrue}
use Rattle.etm_types.specs.Sizes.{is_vmid_size, is_cid_size}
use Rattle.etm_types.specs.declared.context.Ctx.{Ctx}
pub use Rattle.etm_types.specs.Sizes.{is_vmid_size, is_cid_size}

pub record Sizes : Type 0 where
  pub depth : ℕ
  pub vmid_bytes : ℕ
  pub cid_bytes : ℕ

-- those of a trace unit of which nothing else is told
abbrev pub default_sizes : Sizes
default_sizes = record { depth = 16; vmid_bytes = 1; cid_bytes = 4 }

-- the greatest speculation depth, in P0 elements
abbrev pub most_depth : ℕ
most_depth = 16384

pub record AreSettings (s : Sizes) : Type 0 where
  pub depth : s.depth ≤ most_depth
  pub vmid : IsTrue (is_vmid_size s.vmid_bytes)
  pub cid : IsTrue (is_cid_size s.cid_bytes)

-- the exception level is at most 3, and each field is a number of its bytes: with no byte, 0 alone
pub record FitsSettings (s : Sizes) (ctx : Ctx) : Type 0 where
  pub el : ctx.el ≤ 3
  pub vmid : ctx.vmid < 256 ^ s.vmid_bytes
  pub cid : ctx.cid < 256 ^ s.cid_bytes
