-- Which bytes are dropped, and which are kept.
use Rattle.std.proofs.Common.{◌≡◌, ℕ, ◌+◌, ◌%◌, List, [], ◌∷◌, ◌++◌, inl, inr, refl, ap, sym, ◌∙◌}
use Rattle.std.specs.Prelude.{true, ◌==◌, ◌&&◌}
use Rattle.std.proofs.lemmas.Bool.{cases_Bool, eqb-true}
use Rattle.sync_frames.specs.Syncs.{full_sync, half_sync, begins_full_sync, is_half_sync, kept_from, unsynced}
use Rattle.sync_frames.proofs.Back.{false_is_not_true, full_begins}

pub none_synced : (bytes : List ℕ) → ((before after : List ℕ) → bytes ≡ before ++ (full_sync ++ after) → ⊥) → unsynced bytes ≡ []
none_synced [] none = refl
none_synced (a ∷ bytes) none = elim (cases_Bool (begins_full_sync (a ∷ bytes))) [
  | inl begins ↦ let found = full_begins a bytes begins in absurd (none [] found.0 found.1)
  | inr other ↦ rw other (none_synced bytes (λ before after is. none (a ∷ before) after (ap (λ l. a ∷ l) is)))
]

half_begins : (a b : ℕ) (bytes : List ℕ) → is_half_sync a b ≡ true → a ∷ b ∷ bytes ≡ half_sync ++ bytes
half_begins a b bytes half = elim (cases_Bool (a == 255)) [
  | inl one ↦ elim (cases_Bool (b == 127)) [
    | inl two ↦ rw (eqb-true a 255 one, eqb-true b 127 two) refl
    | inr other ↦ absurd (false_is_not_true (sym (rw (one, other) refl) ∙ half))
  ]
  | inr other ↦ absurd (false_is_not_true (sym (rw other refl) ∙ half))
]

full_at : (place a b : ℕ) (bytes : List ℕ) → ((place == 0) && begins_full_sync (a ∷ b ∷ bytes)) ≡ true
    → (place ≡ 0) × ((more : List ℕ) × (a ∷ b ∷ bytes ≡ full_sync ++ more))
full_at place a b bytes full = elim (cases_Bool (place == 0)) [
  | inl first ↦ (eqb-true place 0 first, full_begins a (b ∷ bytes) (sym (rw first refl) ∙ full))
  | inr later ↦ absurd (false_is_not_true (sym (rw later refl) ∙ full))
]

pub others_kept : (place a b : ℕ) (bytes : List ℕ) → ((more : List ℕ) → a ∷ b ∷ bytes ≡ half_sync ++ more → ⊥)
    → (place ≡ 0 → (more : List ℕ) → a ∷ b ∷ bytes ≡ full_sync ++ more → ⊥)
    → kept_from place (a ∷ b ∷ bytes) ≡ a ∷ b ∷ kept_from ((place + 2) % 16) bytes
others_kept place a b bytes no_half no_full = elim (cases_Bool (is_half_sync a b)) [
  | inl half ↦ absurd (no_half bytes (half_begins a b bytes half))
  | inr other ↦ elim (cases_Bool ((place == 0) && begins_full_sync (a ∷ b ∷ bytes))) [
    | inl full ↦ let there = full_at place a b bytes full in absurd (no_full there.0 there.1.0 there.1.1)
    | inr none ↦ rw (other, none) refl
  ]
]
