-- What the parts of a block own and lend, for cells that hold values of the row R.
use Rattle.std.specs.Prelude.{ℕ, ◌+◌, ◌*◌, ◌^◌, List, [], ◌∷◌, length, Option, Some, None}
use Rattle.std.specs.Mem.{type_size}
use base.Fraction.{full_share}
use base.Fml.{Lft, Fml, ftrue, ffalse, fsep, flt, froom}
use mir.Syntax.{Ty, ty_array}
use mir.Raw.{raw}
use denote.RattleType.{RattleType}
use denote.Memory.{lone, part_at, shared_of}
use denote.Sharing.{nothing, said, beside}
use denote.RawPtr.{Ptr, block_ptr, null_ptr}

module _ (R : RattleType) where
  -- one cell, o bytes into the block b: its value, or room for one
  abbrev pub cell : ℕ → ℕ → Option R.Denot → Fml
  cell b o (Some x) = part_at R full_share x b o
  cell b o None = froom (raw (lone R.mir)) b o

  -- cells side by side
  abbrev pub row : ℕ → ℕ → List (Option R.Denot) → Fml
  row b o [] = ftrue
  row b o (c ∷ held) = fsep (cell b o c) (row b (o + type_size R) held)

  -- what a `&` to the cells shows of one, and of the row
  abbrev pub cell_lent : ℕ → ℕ → Option R.Denot → Lft → Fml
  cell_lent b o (Some x) = shared_of R x b o
  cell_lent b o None = nothing

  abbrev pub row_lent : ℕ → ℕ → List (Option R.Denot) → Lft → Fml
  row_lent b o [] = nothing
  row_lent b o (c ∷ held) = beside (cell_lent b o c) (row_lent b (o + type_size R) held)

  -- the cells take fewer than 2 ^ 63 bytes
  abbrev pub fits : List (Option R.Denot) → Fml
  fits held = flt (length held * type_size R) (2 ^ 63)

  abbrev pub cells_own : Ptr → List (Option R.Denot) → Fml
  cells_own (block_ptr b o) held = fsep (fits held) (row b o held)
  cells_own null_ptr held = ffalse

  abbrev pub cells_lent : Ptr → List (Option R.Denot) → Lft → Fml
  cells_lent (block_ptr b o) held = beside (said (fits held)) (row_lent b o held)
  cells_lent null_ptr held = said ffalse

  -- the allocator's token for a block of n cells
  abbrev pub lease_owns : (Ty → Ptr → Fml) → Ptr → ℕ → Fml
  lease_owns token p n = token (raw (ty_array (lone R.mir) n)) p
