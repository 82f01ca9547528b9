-- Frames with syncs among them come back.
use Rattle.std.proofs.Common.{◌≡◌, ◌≢◌, ℕ, ◌+◌, ◌%◌, ◌≤◌, List, [], ◌∷◌, ◌++◌, length, arith, inl, inr, refl, ap, sym, ◌∙◌}
use Rattle.std.specs.Prelude.{true, false, ◌==◌}
use Rattle.std.proofs.lemmas.Bool.{cases_Bool, eqb-true}
use Rattle.sync_frames.specs.Syncs.{full_sync, begins_full_sync, kept_from, unsynced}
use Rattle.sync_frames.specs.Synced.{Sync, Full, Half, with_syncs, MayStandAt, Interspersed, Synced, NoFFAtEven}

pub false_is_not_true : false ≡ true → ⊥
false_is_not_true e = absurd (grind (arith, e))

-- a byte that is not FF is not taken for one
pub is_not_ff : (a : ℕ) → a ≢ 255 → (a == 255) ≡ false
is_not_ff a other = elim (cases_Bool (a == 255)) [
  | inl same ↦ absurd (other (eqb-true a 255 same))
  | inr differs ↦ differs
]

pub is_not_last : (a : ℕ) → a ≢ 127 → (a == 127) ≡ false
is_not_last a other = elim (cases_Bool (a == 127)) [
  | inl same ↦ absurd (other (eqb-true a 127 same))
  | inr differs ↦ differs
]

-- syncs that may stand at a place are dropped there
syncs_dropped : (place : ℕ) (syncs : List Sync) (bytes : List ℕ) → MayStandAt place syncs → kept_from place (with_syncs syncs bytes) ≡ kept_from place bytes
syncs_dropped place [] bytes may = refl
syncs_dropped place (Half ∷ syncs) bytes may = syncs_dropped place syncs bytes may
syncs_dropped place (Full ∷ syncs) bytes may =
    rw may.0 (ap (λ p. kept_from p (with_syncs syncs bytes)) (sym may.0) ∙ syncs_dropped place syncs bytes may.1 ∙ ap (λ p. kept_from p bytes) may.0)

pub pair_kept : (place a b : ℕ) (bytes : List ℕ) → a ≢ 255 → kept_from place (a ∷ b ∷ bytes) ≡ a ∷ b ∷ kept_from ((place + 2) % 16) bytes
pair_kept place a b bytes other = elim (cases_Bool (place == 0)) [
  | inl first ↦ rw (is_not_ff a other, first) refl
  | inr later ↦ rw (is_not_ff a other, later) refl
]

frames_back : (place : ℕ) (frames bytes : List ℕ) → NoFFAtEven frames → Interspersed place frames bytes → kept_from place bytes ≡ frames
frames_back place [] bytes none among = ap (kept_from place) among.2 ∙ syncs_dropped place among.0 [] among.1
frames_back place (a ∷ []) bytes none among = absurd among
frames_back place (a ∷ b ∷ frames) bytes none among =
    let syncs = among.0 in
    let more = among.1 in
    ap (kept_from place) among.3 ∙ syncs_dropped place syncs (a ∷ b ∷ more) among.2 ∙ pair_kept place a b more none.0
    ∙ ap (λ xs. a ∷ b ∷ xs) (frames_back ((place + 2) % 16) frames more none.1 among.4)

-- ---- the earliest full sync

none_in_two : (a b : ℕ) → begins_full_sync (a ∷ b ∷ []) ≡ false
none_in_two a b = elim (cases_Bool (a == 255)) [
  | inl one ↦ elim (cases_Bool (b == 255)) [
    | inl two ↦ rw (one, two) refl
    | inr not_two ↦ rw (one, not_two) refl
  ]
  | inr other ↦ rw other refl
]

none_in_three : (a b c : ℕ) → begins_full_sync (a ∷ b ∷ c ∷ []) ≡ false
none_in_three a b c = elim (cases_Bool (a == 255)) [
  | inl one ↦ elim (cases_Bool (b == 255)) [
    | inl two ↦ rw (one, two) refl
    | inr not_two ↦ rw (one, not_two) refl
  ]
  | inr other ↦ rw other refl
]

all_four : (a b c d : ℕ) (bytes : List ℕ) → begins_full_sync (a ∷ b ∷ c ∷ d ∷ bytes) ≡ true → a ∷ b ∷ c ∷ d ∷ bytes ≡ full_sync ++ bytes
all_four a b c d bytes begins = elim (cases_Bool (a == 255)) [
  | inl one ↦ elim (cases_Bool (b == 255)) [
    | inl two ↦ elim (cases_Bool (c == 255)) [
      | inl three ↦ elim (cases_Bool (d == 127)) [
        | inl four ↦ rw (eqb-true a 255 one, eqb-true b 255 two, eqb-true c 255 three, eqb-true d 127 four) refl
        | inr other ↦ absurd (false_is_not_true (sym (rw (one, two, three, other) refl) ∙ begins))
      ]
      | inr other ↦ absurd (false_is_not_true (sym (rw (one, two, other) refl) ∙ begins))
    ]
    | inr other ↦ absurd (false_is_not_true (sym (rw (one, other) refl) ∙ begins))
  ]
  | inr other ↦ absurd (false_is_not_true (sym (rw other refl) ∙ begins))
]

-- where a full sync is told to begin, one stands
pub full_begins : (a : ℕ) (bytes : List ℕ) → begins_full_sync (a ∷ bytes) ≡ true → (after : List ℕ) × (a ∷ bytes ≡ full_sync ++ after)
full_begins a [] begins = absurd (false_is_not_true begins)
full_begins a (b ∷ []) begins = absurd (false_is_not_true (sym (none_in_two a b) ∙ begins))
full_begins a (b ∷ c ∷ []) begins = absurd (false_is_not_true (sym (none_in_three a b c) ∙ begins))
full_begins a (b ∷ c ∷ d ∷ bytes) begins = (bytes, all_four a b c d bytes begins)

-- the bytes before the earliest one are passed over
pub behind_earliest : (junk behind : List ℕ)
    → ((before after : List ℕ) → junk ++ (full_sync ++ behind) ≡ before ++ (full_sync ++ after) → length junk ≤ length before)
    → unsynced (junk ++ (full_sync ++ behind)) ≡ kept_from 0 behind
behind_earliest [] behind earliest = refl
behind_earliest (a ∷ junk) behind earliest = elim (cases_Bool (begins_full_sync (a ∷ (junk ++ (full_sync ++ behind))))) [
  | inl begins ↦
      let found = full_begins a (junk ++ (full_sync ++ behind)) begins in
      absurd (omega (arith, earliest [] found.0 found.1))
  | inr other ↦
      rw other (behind_earliest junk behind (λ before after is. omega (arith, earliest (a ∷ before) after (ap (λ xs. a ∷ xs) is))))
]

pub come_back : (frames bytes : List ℕ) → NoFFAtEven frames → Synced frames bytes → unsynced bytes ≡ frames
come_back frames bytes none s =
    ap unsynced s.parts
    ∙ behind_earliest s.junk s.behind (λ before after is. s.earliest before after (s.parts ∙ is))
    ∙ frames_back 0 frames s.behind none s.interspersed
