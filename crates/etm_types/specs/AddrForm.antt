-- The forms of an address packet (Arm IHI 0064, address packets).
use Rattle.std.specs.Prelude.{◌≡◌, ◌<◌, ◌≤◌, ◌%◌, ◌^◌}
use Rattle.etm_types.specs.declared.address.AddrForm.{AddrForm}
use Rattle.etm_types.specs.declared.address.AddrForm.TheVariants.{Match, Short1, Short2, Long32, Long64}

-- an index of the three entries of the address history, or the bits of the form in place: 8, 16, 31 or 63 down to 2, all others 0
abbrev pub IsAddrForm : AddrForm → Type 0
IsAddrForm (Match index) = index ≤ 2
IsAddrForm (Short1 value) = (value < 2 ^ 9) × (value % 4 ≡ 0)
IsAddrForm (Short2 value) = (value < 2 ^ 17) × (value % 4 ≡ 0)
IsAddrForm (Long32 value) = (value < 2 ^ 32) × (value % 4 ≡ 0)
IsAddrForm (Long64 value) = value % 4 ≡ 0
