-- The sizes that fields of a context may have, in bytes.
use Rattle.std.specs.Prelude.{ℕ, Bool, ◌||◌, ◌==◌}

-- a VMID has 0, 1, 2 or 4 bytes, and a context ID 0 or 4
abbrev pub is_vmid_size : ℕ → Bool
is_vmid_size n = (n == 0) || (n == 1) || (n == 2) || (n == 4)

abbrev pub is_cid_size : ℕ → Bool
is_cid_size n = (n == 0) || (n == 4)
