-- The sizes of all IDs, as a list of settings gives them.
use Rattle.std.proofs.Common.{◌≡◌, ◌≢◌, ◌⊎◌, ℕ, ◌+◌, ◌-◌, ◌<◌, ◌==◌, Bool, true, false, List, [], ◌∷◌, All, length, suc, get_or, replicate}
use Rattle.std.proofs.Common.{refl, sym, ap, subst, ◌∙◌, inl, inr, arith}
use Rattle.std.proofs.lemmas.Bool.Decides.{nat_tests}
use Rattle.std.proofs.lemmas.List.{ext_get_or, get_or_default, get_or-set_same, get_or-set_other, length-set}
use Rattle.std.proofs.lemmas.List.Elements.{All-nil, All-cons, All-head, All-tail}
use Rattle.std.proofs.lemmas.Option.{unwrap_or-slice_get}
use Rattle.std.specs.Prelude.{slice_index_or, slice_set}
use Rattle.etm_types.proofs.Tables.{at_alike}
use Rattle.etm_types.specs.Id.{IsId}
use Rattle.etm_types.specs.Settings.{AreSettings, Sizes}
use Rattle.etm_types.specs.SettingsTable.{IsTable, no_sizes, sizes_at}
use Rattle.command_words.specs.CommandLines.{AreApart, AreUnits}

-- the sizes of all IDs, in which those that are named get theirs, one after the other
abbrev pub units_of : List (ℕ × Sizes) → List Sizes → List Sizes
units_of [] units = units
units_of (one ∷ ones) units = units_of ones (slice_set units (one.0 - 1) one.1)

abbrev HasId : ℕ × Sizes → Type 0
HasId one = IsId one.0

abbrev Others : ℕ → ℕ × Sizes → Type 0
Others id one = one.0 ≢ id

abbrev HasSizes : List Sizes → ℕ × Sizes → Type 0
HasSizes units one = sizes_at units one.0 ≡ one.1

at_place : (units : List Sizes) (id : ℕ) → sizes_at units id ≡ get_or units (id - 1) no_sizes
at_place units id = unwrap_or-slice_get units (id - 1) no_sizes

set_this : (units : List Sizes) (id : ℕ) (s : Sizes) → length units ≡ 111 → IsId id → sizes_at (slice_set units (id - 1) s) id ≡ s
set_this units id s long is =
    at_place (slice_set units (id - 1) s) id ∙ get_or-set_same units (id - 1) s no_sizes (omega (arith, long, is.0, is.1))

set_another : (units : List Sizes) (n id : ℕ) (s : Sizes) → IsId n → IsId id → n ≢ id → sizes_at (slice_set units (n - 1) s) id ≡ sizes_at units id
set_another units n id s is also differ =
    let apart : id - 1 ≢ n - 1 = λ same. differ (omega (arith, same, is.0, also.0)) in
    at_place (slice_set units (n - 1) s) id ∙ get_or-set_other units (n - 1) (id - 1) s no_sizes apart ∙ sym (at_place units id)

length_units : (ones : List (ℕ × Sizes)) (units : List Sizes) → length (units_of ones units) ≡ length units
length_units [] units = refl
length_units (one ∷ ones) units = length_units ones (slice_set units (one.0 - 1) one.1) ∙ length-set units (one.0 - 1) one.1

-- an ID that is not named keeps its sizes
others_keep : (ones : List (ℕ × Sizes)) (units : List Sizes) (id : ℕ) → IsId id → All HasId ones → All (Others id) ones
    → sizes_at (units_of ones units) id ≡ sizes_at units id
others_keep [] units id is ids others = refl
others_keep (one ∷ ones) units id is ids others =
    others_keep ones (slice_set units (one.0 - 1) one.1) id is (All-tail HasId one ones ids) (All-tail (Others id) one ones others)
    ∙ set_another units one.0 id one.1 (All-head HasId one ones ids) is (All-head (Others id) one ones others)

-- and an ID that is named has its own
named_get : (ones : List (ℕ × Sizes)) (units : List Sizes) → length units ≡ 111 → All HasId ones → AreApart ones → All (HasSizes (units_of ones units)) ones
named_get [] units long ids apart = All-nil (HasSizes units)
named_get (one ∷ ones) units long ids apart =
    let next = slice_set units (one.0 - 1) one.1 in let is = All-head HasId one ones ids in let behind = All-tail HasId one ones ids in
    let others : All (Others one.0) ones = λ k d within same. apart 0 (suc k) d (omega arith) (omega arith) (sym same) in
    let this = others_keep ones next one.0 is behind others ∙ set_this units one.0 one.1 long is in
    let more = named_get ones next (length-set units (one.0 - 1) one.1 ∙ long) behind (λ i j d before within. apart (suc i) (suc j) d (omega arith) (omega arith)) in
    All-cons (HasSizes (units_of ones next)) one ones this more

pub units_are : (ones : List (ℕ × Sizes)) (all : Sizes) → All HasId ones → AreApart ones → AreUnits all ones (units_of ones (replicate 111 all))
units_are ones all ids apart = record {
  ids = length_units ones (replicate 111 all);
  named = named_get ones (replicate 111 all) refl ids apart;
  others = λ id is others. others_keep ones (replicate 111 all) id is ids others ∙ at_alike all id is;
}

-- ---- only those

abbrev Place : ℕ → List (ℕ × Sizes) → Type 0
Place id ones = (k : ℕ) × (k < length ones) × ((d : ℕ × Sizes) → (slice_index_or ones k d).0 ≡ id)

is_named : (id : ℕ) (ones : List (ℕ × Sizes)) → Place id ones ⊎ All (Others id) ones
is_named id [] = inr (All-nil (Others id))
is_named id (one ∷ ones) = by (one.0 == id) refl (is_named id ones)
  where
    by : (b : Bool) → (one.0 == id) ≡ b → Place id ones ⊎ All (Others id) ones → Place id (one ∷ ones) ⊎ All (Others id) (one ∷ ones)
    by true is rest = inl (0, omega arith, λ d. grind (arith, nat_tests, is))
    by false is (inl p) = inl (suc p.0, omega (arith, p.1), p.2)
    by false is (inr none) = inr (All-cons (Others id) one ones (grind (arith, nat_tests, is)) none)

same_at : (all : Sizes) (ones : List (ℕ × Sizes)) (a b : List Sizes) (id : ℕ) → IsId id → AreUnits all ones a → AreUnits all ones b
    → Place id ones ⊎ All (Others id) ones → sizes_at a id ≡ sizes_at b id
same_at all ones a b id is left right (inr none) = left.others id is none ∙ sym (right.others id is none)
same_at all ones a b id is left right (inl p) =
    let d : ℕ × Sizes = (0, no_sizes) in let same = p.2 d in
    ap (sizes_at a) (sym same) ∙ left.named p.0 d p.1 ∙ sym (right.named p.0 d p.1) ∙ ap (sizes_at b) same

pub one_table : (all : Sizes) (ones : List (ℕ × Sizes)) (a b : List Sizes) → AreUnits all ones a → AreUnits all ones b → a ≡ b
one_table all ones a b left right = ext_get_or no_sizes a b (left.ids ∙ sym right.ids) at where
  at : (i : ℕ) → i < length a → get_or a i no_sizes ≡ get_or b i no_sizes
  at i within =
      let id = i + 1 in let is : IsId id = (omega arith, omega (arith, within, left.ids)) in let place : id - 1 ≡ i = omega arith in
      ap (λ (k : ℕ). get_or a k no_sizes) (sym place) ∙ sym (at_place a id) ∙ same_at all ones a b id is left right (is_named id ones)
      ∙ at_place b id ∙ ap (λ (k : ℕ). get_or b k no_sizes) place

-- ---- and they are those of settings

abbrev OfSettings : ℕ × Sizes → Type 0
OfSettings one = AreSettings one.1

at_are : (all : Sizes) (ones : List (ℕ × Sizes)) (units : List Sizes) (id : ℕ) → IsId id → AreSettings all → All OfSettings ones → AreUnits all ones units
    → Place id ones ⊎ All (Others id) ones → AreSettings (sizes_at units id)
at_are all ones units id is are each of (inr none) = subst AreSettings (sym (of.others id is none)) are
at_are all ones units id is are each of (inl p) =
    let d : ℕ × Sizes = (0, no_sizes) in let own = subst AreSettings (sym (of.named p.0 d p.1)) (each p.0 d p.1) in
    subst (λ (n : ℕ). AreSettings (sizes_at units n)) (p.2 d) own

pub is_table : (all : Sizes) (ones : List (ℕ × Sizes)) (units : List Sizes) → AreSettings all → All OfSettings ones → AreUnits all ones units → IsTable units
is_table all ones units are each of = record { ids = of.ids; settings = at } where
  at : (k : ℕ) (d : Sizes) → k < length units → AreSettings (slice_index_or units k d)
  at k d within =
      let id = k + 1 in let is : IsId id = (omega arith, omega (arith, within, of.ids)) in let place : id - 1 ≡ k = omega arith in
      let same = at_place units id ∙ ap (λ (i : ℕ). get_or units i no_sizes) place ∙ get_or_default units k no_sizes d within in
      subst AreSettings same (at_are all ones units id is are each of (is_named id ones))
