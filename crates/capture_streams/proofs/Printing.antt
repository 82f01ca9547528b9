-- Small streams whose texts can be worked out: each prints one line by each byte and one at its end.
use Rattle.std.proofs.Common.{◌≡◌, ℕ, ◌==◌, Bool, true, false, List, [], ◌∷◌, ◌++◌, length, refl, sym, ◌∙◌}
use Rattle.std.specs.Prelude.{◌||◌, nat_lt}
use Rattle.capture_streams.specs.Laws.{AddsOnce, EndsOnce, GainsOnce}
use Rattle.capture_streams.specs.Texts.{BodyFrom, EndsOf, GainsIf, IsEnding, IsText, Listing, Printed, StreamEnds, cut_lines, is_source}
use Rattle.capture_streams.specs.Texts.{adds_nothing, lines_under, no_sums, of, sources}
use Rattle.capture_streams.proofs.OneText.{one_text}
use Rattle.capture_streams.proofs.Sums.{no_sum}

-- a byte 9 is a fault
abbrev pub has_nine : List ℕ → Bool
has_nine [] = false
has_nine (b ∷ bytes) = (b == 9) || has_nine bytes

-- a stream prints such a line by each byte, and such a one at its end
module _ (at_byte : ℕ → ℕ → ℕ → List ℕ) (at_end : ℕ → ℕ → List ℕ) where
  abbrev pub printing : Listing
  printing = record {
    gains = λ id bytes byte lines. lines ≡ at_byte id (length bytes) byte ∷ [];
    ends = λ id bytes line faulty. (line ≡ at_end id (length bytes)) × (faulty ≡ has_nine bytes);
    adds = adds_nothing;
    sums = no_sums;
  }

  pub gains_once : GainsOnce printing
  gains_once id bytes byte lines others is too = is ∙ sym too

  adds_once : AddsOnce printing
  adds_once id bytes byte items others none also = none ∙ sym also

  ends_once : EndsOnce printing
  ends_once id bytes line other faulty also (is, fault) (too, fault') = (is ∙ sym too, fault ∙ sym fault')

  -- the lines of pairs
  abbrev gained : Bool → List (ℕ × ℕ) → ℕ × ℕ → List (List ℕ)
  gained true before pair = at_byte pair.0 (length (of pair.0 before)) pair.1 ∷ []
  gained false before pair = []

  abbrev pub body_of : List (ℕ × ℕ) → List (ℕ × ℕ) → List Printed
  body_of before [] = []
  body_of before (pair ∷ pairs) = lines_under pair.0 (gained (is_source pair.0) before pair) ++ body_of (before ++ pair ∷ []) pairs

  abbrev end_of : ℕ → List ℕ → List Printed
  end_of id [] = []
  end_of id (b ∷ bytes) = lines_under id (at_end id (length (b ∷ bytes)) ∷ [])

  abbrev ends_of : List (ℕ × ℕ) → List ℕ → List Printed
  ends_of pairs [] = []
  ends_of pairs (id ∷ ids) = end_of id (of id pairs) ++ ends_of pairs ids

  abbrev faults_of : List (ℕ × ℕ) → List ℕ → Bool
  faults_of pairs [] = false
  faults_of pairs (id ∷ ids) = has_nine (of id pairs) || faults_of pairs ids

  gains : (source : Bool) (before : List (ℕ × ℕ)) (pair : ℕ × ℕ) → GainsIf source printing before pair (gained source before pair)
  gains true before pair = refl
  gains false before pair = refl

  pub body : (before pairs : List (ℕ × ℕ)) → BodyFrom printing before pairs (body_of before pairs)
  body before [] = refl
  body before (pair ∷ pairs) =
      let source = is_source pair.0 in
      (gained source before pair, body_of (before ++ pair ∷ []) pairs, gains source before pair, body (before ++ pair ∷ []) pairs, refl)

  stream_ends : (id : ℕ) (bytes : List ℕ) → StreamEnds printing id bytes (end_of id bytes) (has_nine bytes)
  stream_ends id [] = (refl, refl)
  stream_ends id (b ∷ bytes) = (at_end id (length (b ∷ bytes)), (refl, refl), refl)

  all_end : (pairs : List (ℕ × ℕ)) (ids : List ℕ) → EndsOf printing pairs ids (ends_of pairs ids) (faults_of pairs ids)
  all_end pairs [] = (refl, refl)
  all_end pairs (id ∷ ids) =
      (end_of id (of id pairs), ends_of pairs ids, has_nine (of id pairs), faults_of pairs ids, stream_ends id (of id pairs), all_end pairs ids, refl, refl)

  -- pairs have this text and no other
  pub record PrintsBy (pairs : List (ℕ × ℕ)) (left : ℕ) (lines : List Printed) (faulty : Bool) : Type 0 where
    pub is : IsText printing pairs left lines faulty
    pub only : (others : List Printed) (also : Bool) → IsText printing pairs left others also → (others ≡ lines) × (also ≡ faulty)

  abbrev pub lines_of : List (ℕ × ℕ) → ℕ → List Printed
  lines_of pairs left = body_of [] pairs ++ (ends_of pairs sources ++ cut_lines left)

  abbrev pub fault_of : List (ℕ × ℕ) → ℕ → Bool
  fault_of pairs left = faults_of pairs sources || nat_lt 0 left

  pub prints_by : (pairs : List (ℕ × ℕ)) (left : ℕ) → PrintsBy pairs left (lines_of pairs left) (fault_of pairs left)
  prints_by pairs left =
      let ending : IsEnding printing pairs left (ends_of pairs sources ++ cut_lines left) (fault_of pairs left) = record {
        sums = [];
        summed = no_sum printing (λ id before byte. refl) refl pairs;
        ends = ends_of pairs sources;
        some_fault = faults_of pairs sources;
        ended = all_end pairs sources;
        all = refl;
        fault = refl;
      } in
      let text : IsText printing pairs left (lines_of pairs left) (fault_of pairs left) = record {
        body = body_of [] pairs;
        ending = ends_of pairs sources ++ cut_lines left;
        gained = body [] pairs;
        ended = ending;
        all = refl;
      } in
      record {
        is = text;
        only = λ others also too. one_text printing gains_once adds_once ends_once pairs left others (lines_of pairs left) also (fault_of pairs left) too text;
      }
