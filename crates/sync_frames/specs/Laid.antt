-- A capture of a trace port, as a layout of its bytes. The proofs stand here since an `impl` names them.
use Rattle.std.proofs.Common.{◌≡◌, ◌⊎◌, ℕ, ◌+◌, ◌%◌, ◌<◌, ◌≤◌, Bool, true, false, List, [], ◌∷◌, ◌++◌, length}
use Rattle.std.proofs.Common.{refl, sym, ap, ◌∙◌, inl, inr, arith, append-nil, length-append}
use Rattle.std.specs.Prelude.{◌==◌, ◌&&◌, if◌then◌else◌}
use Rattle.std.proofs.lemmas.Bool.{cases_Bool, eqb-true}
use Rattle.capture_streams.specs.Laid.{IsLaid, Laid}
use Rattle.formatter_frames.proofs.Going.{begun_pairs, more_pairs}
use Rattle.formatter_frames.proofs.Pieces.{length-left_over}
use Rattle.formatter_frames.specs.Symbols.{pairs_of}
use Rattle.formatter_frames.specs.Unframed.{begun_frame, id_after_frames, symbols_of_frames, unframed}
use Rattle.sync_frames.specs.Syncs.{begins_full_sync, is_half_sync, kept_from, unsynced}

-- what the frames behind the earliest full sync carry, without the syncs among them
abbrev pub synced_pairs : List ℕ → List (ℕ × ℕ)
synced_pairs bytes = unframed (unsynced bytes)

-- it comes with the bytes, and bytes of a begun frame are left over, those that might have been of a sync among them
abbrev pub synced_laid : Laid
synced_laid = record { carried = synced_pairs; whole = synced_pairs; left = λ bytes. length (begun_frame (unsynced bytes)) }

-- ---- it is a layout

pub kept_few : (place : ℕ) (bytes : List ℕ) → length (kept_from place bytes) ≤ length bytes
kept_few place [] = omega arith
kept_few place (a ∷ []) = omega arith
kept_few place (a ∷ b ∷ bytes) = elim (cases_Bool (is_half_sync a b)) [
  | inl half ↦ rw half (omega (arith, kept_few place bytes))
  | inr other ↦ elim (cases_Bool ((place == 0) && begins_full_sync (a ∷ b ∷ bytes))) [
    | inl full ↦ rw (other, full) (omega (arith, kept_few place bytes))
    | inr none ↦ rw (other, none) (omega (arith, kept_few ((place + 2) % 16) bytes))
  ]
]

-- From a place on, these bytes of frames are known whatever comes behind; what else is kept of the bytes fills no frame.
record Known (place : ℕ) (bytes more : List ℕ) : Type 0 where
  given : List ℕ
  held : List ℕ
  rest : List ℕ
  is : kept_from place bytes ≡ given ++ held
  further : kept_from place (bytes ++ more) ≡ given ++ rest
  few : (place + length given) % 16 + length held < 16

all_held : (place : ℕ) (bytes more : List ℕ) → place + length bytes < 16 → Known place bytes more
all_held place bytes more few =
    record {
      given = [];
      held = kept_from place bytes;
      rest = kept_from place (bytes ++ more);
      is = refl;
      further = refl;
      few = omega (arith, few, kept_few place bytes);
    }

-- a full sync begins with two bytes whatever comes behind them, or they stand before a frame, and one or none behind them
told_or_short : (place a b : ℕ) (bytes more : List ℕ)
    → (((place == 0) && begins_full_sync (a ∷ b ∷ (bytes ++ more))) ≡ ((place == 0) && begins_full_sync (a ∷ b ∷ bytes)))
    ⊎ ((place ≡ 0) × (length bytes < 2))
told_or_short place a b [] more = elim (cases_Bool (place == 0)) [
  | inl first ↦ inr (eqb-true place 0 first, omega arith)
  | inr later ↦ inl (rw later refl)
]
told_or_short place a b (c ∷ []) more = elim (cases_Bool (place == 0)) [
  | inl first ↦ inr (eqb-true place 0 first, omega arith)
  | inr later ↦ inl (rw later refl)
]
told_or_short place a b (c ∷ d ∷ bytes) more = inl refl

behind_pair : (a b : ℕ) (xs ys : List ℕ) → xs ≡ ys → a ∷ b ∷ xs ≡ a ∷ b ∷ ys
behind_pair a b xs ys same = ap (λ l. a ∷ b ∷ l) same

pair_known : (place a b : ℕ) (bytes more : List ℕ) → place % 2 ≡ 0 → place < 16
    → ((next : ℕ) → next % 2 ≡ 0 → next < 16 → Known next bytes more) → Known place (a ∷ b ∷ bytes) more
pair_known place a b bytes more even small behind = elim (cases_Bool (is_half_sync a b)) [
  | inl half ↦
      let r = behind place even small in
      record { given = r.given; held = r.held; rest = r.rest; is = rw half r.is; further = rw half r.further; few = r.few }
  | inr other ↦ elim (told_or_short place a b bytes more) [
    | inr short ↦ all_held place (a ∷ b ∷ bytes) more (omega (arith, short.0, short.1))
    | inl same ↦ elim (cases_Bool ((place == 0) && begins_full_sync (a ∷ b ∷ bytes))) [
      | inl full ↦
          let r = behind place even small in
          record {
            given = r.given;
            held = r.held;
            rest = r.rest;
            is = rw (other, full) r.is;
            further = rw (other, same ∙ full) r.further;
            few = r.few;
          }
      | inr none ↦
          let r = behind ((place + 2) % 16) (omega (arith, even)) (omega arith) in
          record {
            given = a ∷ b ∷ r.given;
            held = r.held;
            rest = r.rest;
            is = rw (other, none) (behind_pair a b (kept_from ((place + 2) % 16) bytes) (r.given ++ r.held) r.is);
            further = rw (other, same ∙ none) (behind_pair a b (kept_from ((place + 2) % 16) (bytes ++ more)) (r.given ++ r.rest) r.further);
            few = omega (arith, r.few);
          }
    ]
  ]
]

known : (place : ℕ) (bytes more : List ℕ) → place % 2 ≡ 0 → place < 16 → Known place bytes more
known place [] more even small = all_held place [] more (omega (arith, small))
known place (a ∷ []) more even small = all_held place (a ∷ []) more (omega (arith, even, small))
known place (a ∷ b ∷ bytes) more even small = pair_known place a b bytes more even small (λ next e s. known next bytes more e s)

-- the same of all bytes
record AllKnown (bytes more : List ℕ) : Type 0 where
  given : List ℕ
  held : List ℕ
  rest : List ℕ
  is : unsynced bytes ≡ given ++ held
  further : unsynced (bytes ++ more) ≡ given ++ rest
  few : length given % 16 + length held < 16

none_known : (bytes more : List ℕ) → unsynced bytes ≡ [] → AllKnown bytes more
none_known bytes more none =
    record { given = []; held = []; rest = unsynced (bytes ++ more); is = none; further = refl; few = omega arith }

either_none : (test : Bool) (xs : List ℕ) → xs ≡ [] → (if test then [] else xs) ≡ []
either_none true xs none = refl
either_none false xs none = none

-- there is no full sync in so few bytes
pub two_hold_none : (a b : ℕ) → unsynced (a ∷ b ∷ []) ≡ []
two_hold_none a b = either_none ((a == 255) && ((b == 255) && false)) [] refl

pub three_hold_none : (a b c : ℕ) → unsynced (a ∷ b ∷ c ∷ []) ≡ []
three_hold_none a b c = either_none ((a == 255) && ((b == 255) && false)) (unsynced (b ∷ c ∷ [])) (two_hold_none b c)

byte_known : (a : ℕ) (bytes more : List ℕ) → AllKnown bytes more → AllKnown (a ∷ bytes) more
byte_known a [] more behind = none_known (a ∷ []) more refl
byte_known a (b ∷ []) more behind = none_known (a ∷ b ∷ []) more (two_hold_none a b)
byte_known a (b ∷ c ∷ []) more behind = none_known (a ∷ b ∷ c ∷ []) more (three_hold_none a b c)
byte_known a (b ∷ c ∷ d ∷ bytes) more behind = elim (cases_Bool (begins_full_sync (a ∷ b ∷ c ∷ d ∷ bytes))) [
  | inl full ↦
      let r = known 0 bytes more refl (omega arith) in
      record { given = r.given; held = r.held; rest = r.rest; is = rw full r.is; further = rw full r.further; few = omega (arith, r.few) }
  | inr other ↦
      record {
        given = behind.given;
        held = behind.held;
        rest = behind.rest;
        is = rw other behind.is;
        further = rw other behind.further;
        few = behind.few;
      }
]

all_known : (bytes more : List ℕ) → AllKnown bytes more
all_known [] more = none_known [] more refl
all_known (a ∷ bytes) more = byte_known a bytes more (all_known bytes more)

-- bytes that fill no frame carry nothing
pub cut_pairs : (given held : List ℕ) → length given % 16 + length held < 16 → unframed (given ++ held) ≡ unframed given
cut_pairs given held few =
    begun_pairs given held (omega (arith, few, length-append (begun_frame given) held, length-left_over 16 given))

pub synced_grows : (bytes more : List ℕ) → (pairs : List (ℕ × ℕ)) × (synced_pairs (bytes ++ more) ≡ synced_pairs bytes ++ pairs)
synced_grows bytes more =
    let a = all_known bytes more in
    let pairs = pairs_of (id_after_frames a.given) (symbols_of_frames (begun_frame a.given ++ a.rest)) in
    let same : synced_pairs bytes ≡ unframed a.given = ap unframed a.is ∙ cut_pairs a.given a.held a.few in
    (pairs, ap unframed a.further ∙ more_pairs a.given a.rest ∙ ap (λ l. l ++ pairs) (sym same))

pub synced_laid_is : IsLaid synced_laid
synced_laid_is = record { grows = (refl, synced_grows); first = λ bytes. ([], sym (append-nil (synced_pairs bytes))) }
