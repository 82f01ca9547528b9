-- A `&` to the cells is a `&` to each value that they hold.
use Prim.Native.Nat.{ℕ, ◌+◌}
use Rattle.std.specs.Prelude.{List, [], ◌∷◌, Option, Some, None}
use Rattle.std.specs.Mem.{type_size}
use seplogic.Ra.Ura.{Ura}
use base.Fml.{Lft, Incl, ftrue, ffalse}
use types.Logic.{Logic}
use denote.RattleType.{RattleType, RowLaws}
use denote.Param.Laws.{Laws}
use denote.RawPtr.{Ptr, block_ptr, null_ptr}
use denote.Sharing.{ShrLaws, said}
use denote.SharingLaws.{beside_shr_laws, nothing_shr_laws, said_shr_laws}
use denote.Shares.{Shares-less}
use denote.Struct.Lending.{Lends, Lends-both, Lends-nothing, Lends-said, Lends-false}
use Rattle.spend_ring.specs.Memory.{cell, row, cell_lent, row_lent, fits, cells_own, cells_lent}

-- what is shown can be copied, and used for a shorter time
module _ (R : RattleType) (L : RowLaws R) where
  of_cell : (b o : ℕ) (c : Option R.Denot) → ShrLaws (cell_lent R b o c)
  of_cell b o None = nothing_shr_laws
  of_cell b o (Some x) = L x b o

  of_row : (b o : ℕ) (held : List (Option R.Denot)) → ShrLaws (row_lent R b o held)
  of_row b o [] = nothing_shr_laws
  of_row b o (c ∷ held) = beside_shr_laws _ _ (of_cell b o c) (of_row b (o + type_size R) held)

  pub of_cells : (p : Ptr) (held : List (Option R.Denot)) → ShrLaws (cells_lent R p held)
  of_cells null_ptr held = said_shr_laws ffalse tt
  of_cells (block_ptr b o) held = beside_shr_laws _ _ (said_shr_laws (fits R held) tt) (of_row b o held)

-- what is owned is lent as what is shown
module _ {M : Type 1} {𝓤 : Ura M} (𝓛 : Logic 𝓤) (κ : Lft) (R : RattleType) (L : Laws R) (within : Incl κ R.lives) where
  cell_lends : (b o : ℕ) (c : Option R.Denot) → Lends 𝓛 (cell R b o c) (cell_lent R b o c) κ
  cell_lends b o None = Lends-nothing 𝓛 (cell R b o None) κ
  cell_lends b o (Some x) = λ ρ tokens. Shares-less 𝓛 R R.lives κ within (L.shares 𝓛) x ρ tokens b o

  row_lends : (b o : ℕ) (held : List (Option R.Denot)) → Lends 𝓛 (row R b o held) (row_lent R b o held) κ
  row_lends b o [] = Lends-nothing 𝓛 ftrue κ
  row_lends b o (c ∷ held) = let on = o + type_size R in
      Lends-both 𝓛 (cell R b o c) (row R b on held) (cell_lent R b o c) (row_lent R b on held) κ (cell_lends b o c) (row_lends b on held)

  pub cells_lends : (p : Ptr) (held : List (Option R.Denot)) → Lends 𝓛 (cells_own R p held) (cells_lent R p held) κ
  cells_lends null_ptr held = Lends-false 𝓛 (said ffalse) κ
  cells_lends (block_ptr b o) held =
      Lends-both 𝓛 (fits R held) (row R b o held) (said (fits R held)) (row_lent R b o held) κ (Lends-said 𝓛 (fits R held) tt κ) (row_lends b o held)
