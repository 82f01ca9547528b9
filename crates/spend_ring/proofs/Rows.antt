-- One cell is taken out of the row of cells, seen in it, or put back; and room for an array is a row of empty cells.
use mathlib.Core.Path.{◌≡◌, refl, sym}
use Prim.Native.Nat.{ℕ, zero, suc, ◌+◌, ◌*◌, ◌<◌}
use native.Mathlib.Omega.{arith}
use native.Mathlib.Nat.{zero-mul, suc-mul}
use mathlib.Core.List.{List, [], ◌∷◌}
use lib.ListN.{length, get_or, set, replicate}
use seplogic.Ra.Ura.{Ura}
use base.Logic.{ent, sep}
use base.Fml.{Fml, Lft, ftrue, fsep, froom}
use mir.Syntax.{ty_array}
use types.Logic.{Logic, sem}
use types.Kit.{‵, ◌⊛◌, ◌$◌, ◌∵◌, !, qed, by, move, keep, frame, use1, use2, split, fsplit, fjoin, rewrite, done}
use Rattle.std.specs.Prelude.{Option, Some, None}
use Rattle.std.specs.Mem.{type_size}
use Rattle.core.proofs.mem.Param.{El, R, el_x, elτ}
use Rattle.spend_ring.specs.Memory.{cell, row, cell_lent, row_lent}

pub full_within : {X : Type 0} (held : List (Option X)) (i : ℕ) (x : X) → get_or held i None ≡ Some x → i < length held
full_within [] i x e = cc
full_within (c ∷ held) zero x e = omega arith
full_within (c ∷ held) (suc i) x e = omega (arith, full_within held i x e)

module _ (E : El) (b : ℕ) where
  -- the row of cells but for the i-th
  abbrev pub others : ℕ → List (Option (el_x E)) → ℕ → Fml
  others o [] i = ftrue
  others o (c ∷ held) zero = row (R E) b (o + type_size (R E)) held
  others o (c ∷ held) (suc i) = fsep (cell (R E) b o c) (others (o + type_size (R E)) held i)

module _ (E : El) {M : Type 1} {𝓤 : Ura M} (𝓛 : Logic 𝓤) (b : ℕ) where
  open 𝓛 use {H}

  abbrev s : ℕ
  s = type_size (R E)

  abbrev Held : Type 0
  Held = List (Option (el_x E))

  -- the byte at which a cell lies, counted from the cell before
  at_first : (o : ℕ) → zero * s + o ≡ o
  at_first o = omega (arith, zero-mul s)

  at_next : (i o : ℕ) → i * s + (o + s) ≡ suc i * s + o
  at_next i o = omega (arith, suc-mul i s)

  pub cell_out : (held : Held) (i o : ℕ) → i < length held
      → ent 𝓤 (sem 𝓛 (row (R E) b o held)) (sep 𝓤 (sem 𝓛 (cell (R E) b (i * s + o) (get_or held i None))) (sem 𝓛 (others E b o held i)))
  cell_out [] i o lt = absurd (omega arith)
  cell_out (c ∷ held) zero o lt =
      qed 𝓛 (‵ (row (R E) b o (c ∷ held)) ∷ []) ∵ fsplit ! $ rewrite ! 0 (λ (k : ℕ). ‵ (cell (R E) b k c)) (sym (at_first o)) refl $ done !
  cell_out (c ∷ held) (suc i) o lt =
      qed 𝓛 (‵ (row (R E) b o (c ∷ held)) ∷ []) ∵ fsplit ! $ move ! (1 ∷ []) $
      use1 𝓛 (‵ (cell (R E) b (i * s + (o + s)) (get_or held i None)) ⊛ ‵ (others E b (o + s) held i)) (cell_out held i (o + s) (omega arith)) $ split ! $
      rewrite ! 0 (λ (k : ℕ). ‵ (cell (R E) b k (get_or held i None))) (at_next i o) refl $ move ! (2 ∷ 1 ∷ []) $ fjoin ! $ move ! (1 ∷ 0 ∷ []) $ done !

  pub cell_in : (held : Held) (i o : ℕ) (c : Option (el_x E)) → i < length held
      → ent 𝓤 (sep 𝓤 (sem 𝓛 (cell (R E) b (i * s + o) c)) (sem 𝓛 (others E b o held i))) (sem 𝓛 (row (R E) b o (set held i c)))
  cell_in [] i o c lt = absurd (omega arith)
  cell_in (d ∷ held) zero o c lt =
      qed 𝓛 (‵ (cell (R E) b (zero * s + o) c) ∷ ‵ (others E b o (d ∷ held) zero) ∷ []) ∵ rewrite ! 0 (λ (k : ℕ). ‵ (cell (R E) b k c)) (at_first o) refl $
      fjoin ! $ done !
  cell_in (d ∷ held) (suc i) o c lt =
      qed 𝓛 (‵ (cell (R E) b (suc i * s + o) c) ∷ ‵ (others E b o (d ∷ held) (suc i)) ∷ []) ∵
      rewrite ! 0 (λ (k : ℕ). ‵ (cell (R E) b k c)) (sym (at_next i o)) refl $ move ! (1 ∷ []) $ fsplit ! $ move ! (2 ∷ 1 ∷ []) $
      use2 𝓛 (‵ (row (R E) b (o + s) (set held i c))) (cell_in held i (o + s) c (omega arith)) $ move ! (1 ∷ 0 ∷ []) $ fjoin ! $ done !

  pub cell_seen : (κ : Lft) (held : Held) (i o : ℕ) → i < length held
      → ent 𝓤 (sem 𝓛 (row_lent (R E) b o held κ)) (sem 𝓛 (cell_lent (R E) b (i * s + o) (get_or held i None) κ))
  cell_seen κ [] i o lt = absurd (omega arith)
  cell_seen κ (c ∷ held) zero o lt =
      qed 𝓛 (‵ (row_lent (R E) b o (c ∷ held) κ) ∷ []) ∵ fsplit ! $ rewrite ! 0 (λ (k : ℕ). ‵ (cell_lent (R E) b k c κ)) (sym (at_first o)) refl $ keep !
      (0 ∷ []) $ done !
  cell_seen κ (c ∷ held) (suc i) o lt =
      qed 𝓛 (‵ (row_lent (R E) b o (c ∷ held) κ) ∷ []) ∵ fsplit ! $ keep ! (1 ∷ []) $
      use1 𝓛 (‵ (cell_lent (R E) b (i * s + (o + s)) (get_or held i None) κ)) (cell_seen κ held i (o + s) (omega arith)) $
      rewrite ! 0 (λ (k : ℕ). ‵ (cell_lent (R E) b k (get_or held i None) κ)) (at_next i o) refl $ done !

  pub row_of_room : (n o : ℕ) → ent 𝓤 (H.room (ty_array (elτ E) n) b o) (sem 𝓛 (row (R E) b o (replicate n None)))
  row_of_room zero o = qed 𝓛 (‵ (froom (ty_array (elτ E) zero) b o) ∷ []) ∵ keep ! [] $ done !
  row_of_room (suc n) o =
      qed 𝓛 (‵ (froom (ty_array (elτ E) (suc n)) b o) ∷ []) ∵
      use1 𝓛 (‵ (froom (elτ E) b o) ⊛ ‵ (froom (ty_array (elτ E) n) b (o + s))) (𝓛.laws.room_uncons (elτ E) n b o) $ split ! $
      use1 𝓛 (‵ (cell (R E) b o None)) (𝓛.laws.room-raw (elτ E) b o) $ frame ! $ by ! (row_of_room n (o + s))

  pub room_of_row : (n o : ℕ) → ent 𝓤 (sem 𝓛 (row (R E) b o (replicate n None))) (H.room (ty_array (elτ E) n) b o)
  room_of_row zero o = 𝓛.laws.room_nil (elτ E) b o
  room_of_row (suc n) o =
      qed 𝓛 (‵ (cell (R E) b o None) ∷ ‵ (row (R E) b (o + s) (replicate n None)) ∷ []) ∵ use1 𝓛 (‵ (froom (elτ E) b o)) (𝓛.laws.raw-room (elτ E) b o) $ move
      ! (1 ∷ []) $
      use1 𝓛 (‵ (froom (ty_array (elτ E) n) b (o + s))) (room_of_row n (o + s)) $ move ! (1 ∷ 0 ∷ []) $ by ! (𝓛.laws.room_cons (elτ E) n b o)
