-- Runs of bytes that hold no sync.
use Rattle.std.proofs.Common.{◌≡◌, ◌≢◌, ℕ, zero, suc, ◌+◌, ◌%◌, ◌<◌, ◌≤◌, List, [], ◌∷◌, ◌++◌, length, take, drop, slice_index_or}
use Rattle.std.proofs.Common.{refl, ap, sym, ◌∙◌, inl, inr, arith}
use Rattle.std.specs.Prelude.{◌==◌}
use Rattle.std.proofs.lemmas.Bool.{cases_Bool, eqb-false}
use Rattle.sync_frames.specs.Syncs.{kept_from}
use Rattle.sync_frames.specs.Unsyncing.{plain_length}
use Rattle.sync_frames.proofs.Back.{is_not_ff, pair_kept}

pub plain_even : (bytes : List ℕ) → plain_length bytes % 2 ≡ 0
plain_even [] = refl
plain_even (a ∷ []) = refl
plain_even (a ∷ b ∷ bytes) = elim (cases_Bool (a == 255)) [
  | inl ff ↦ rw ff refl
  | inr other ↦ rw other (omega (arith, plain_even bytes))
]

pub plain_within : (bytes : List ℕ) → plain_length bytes ≤ length bytes
plain_within [] = omega arith
plain_within (a ∷ []) = omega arith
plain_within (a ∷ b ∷ bytes) = elim (cases_Bool (a == 255)) [
  | inl ff ↦ rw ff (omega arith)
  | inr other ↦ rw other (omega (arith, plain_within bytes))
]

-- such a run is kept, whatever comes behind it
module _ (more : List ℕ) where
  none_kept : (place : ℕ) → place < 16 → kept_from place more ≡ kept_from ((place + 0) % 16) more
  none_kept place small = let same : place ≡ (place + 0) % 16 = omega (arith, small) in ap (λ p. kept_from p more) same

  pub plain_kept : (place : ℕ) (bytes : List ℕ) → place < 16
      → kept_from place (take (plain_length bytes) bytes ++ more) ≡ take (plain_length bytes) bytes ++ kept_from ((place + plain_length bytes) % 16) more
  plain_kept place [] small = none_kept place small
  plain_kept place (a ∷ []) small = none_kept place small
  plain_kept place (a ∷ b ∷ bytes) small = elim (cases_Bool (a == 255)) [
    | inl ff ↦
        let none : plain_length (a ∷ b ∷ bytes) ≡ 0 = rw ff refl in
        ap (λ n. kept_from place (take n (a ∷ b ∷ bytes) ++ more)) none ∙ none_kept place small
        ∙ sym (ap (λ n. take n (a ∷ b ∷ bytes) ++ kept_from ((place + n) % 16) more) none)
    | inr other ↦
        let n = plain_length bytes in
        let two : plain_length (a ∷ b ∷ bytes) ≡ suc (suc n) = rw other refl in
        let next : ((place + 2) % 16 + n) % 16 ≡ (place + suc (suc n)) % 16 = omega arith in
        ap (λ m. kept_from place (take m (a ∷ b ∷ bytes) ++ more)) two
        ∙ pair_kept place a b (take n bytes ++ more) (eqb-false a 255 other)
        ∙ ap (λ l. a ∷ b ∷ l) (plain_kept ((place + 2) % 16) bytes (omega arith) ∙ ap (λ p. take n bytes ++ kept_from p more) next)
        ∙ sym (ap (λ m. take m (a ∷ b ∷ bytes) ++ kept_from ((place + m) % 16) more) two)
  ]

-- ---- pair by pair

pub pair_plain : (count : ℕ) (bytes : List ℕ) → count + 1 < length bytes → slice_index_or bytes count 0 ≢ 255
    → plain_length (drop count bytes) ≡ suc (suc (plain_length (drop (count + 2) bytes)))
pair_plain zero [] long other = absurd (omega (arith, long))
pair_plain zero (a ∷ []) long other = absurd (omega (arith, long))
pair_plain zero (a ∷ b ∷ bytes) long other = rw (is_not_ff a other) refl
pair_plain (suc n) [] long other = absurd (omega (arith, long))
pair_plain (suc n) (a ∷ bytes) long other =
    let further : suc n + 2 ≡ suc (n + 2) = omega arith in
    pair_plain n bytes (omega (arith, long)) other ∙ ap (λ m. suc (suc (plain_length (drop m (a ∷ bytes))))) (sym further)

pub ff_stops : (count : ℕ) (bytes : List ℕ) → slice_index_or bytes count 0 ≡ 255 → plain_length (drop count bytes) ≡ 0
ff_stops zero [] ff = refl
ff_stops zero (a ∷ []) ff = refl
ff_stops zero (a ∷ b ∷ bytes) ff = rw ff refl
ff_stops (suc n) [] ff = refl
ff_stops (suc n) (a ∷ bytes) ff = ff_stops n bytes ff

pub end_stops : (count : ℕ) (bytes : List ℕ) → length bytes ≤ count + 1 → plain_length (drop count bytes) ≡ 0
end_stops zero [] few = refl
end_stops zero (a ∷ []) few = refl
end_stops zero (a ∷ b ∷ bytes) few = absurd (omega (arith, few))
end_stops (suc n) [] few = refl
end_stops (suc n) (a ∷ bytes) few = end_stops n bytes (omega (arith, few))
