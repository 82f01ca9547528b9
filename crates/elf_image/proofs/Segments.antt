-- The segments of a file that is not refused are the parts of an image.
use Rattle.std.proofs.Common.{◌≡◌, ℕ, ◌+◌, ◌-◌, ◌≤◌, List, [], ◌∷◌, ◌++◌, length, map, take, drop, reverse}
use Rattle.std.proofs.Common.{Bool, true, false, None, nat_le, nat_lt, refl, sym, ap, ◌∙◌, arith, cond, subst, inl, inr, length-drop}
use Rattle.std.specs.Prelude.{All, sum_by}
use Rattle.std.specs.List.{list_any}
use Rattle.std.proofs.lemmas.Bool.{and_cases, leb-false, ltb-false, or_parts}
use Rattle.std.proofs.lemmas.List.{length-map, length-take-le, map-append, reverse-append}
use Rattle.std.proofs.lemmas.List.Elements.{All-cons, All-drop, All-head, All-map, All-nil, All-push, All-tail, All-take, All-weaker}
use Rattle.std.proofs.lemmas.List.Sorted.{All-permutation, IsPermutation-reverse}
use Rattle.std.proofs.lemmas.List.Sums.{sum_by-cons}
use Rattle.program_image.specs.Part.{IsPart, Part, most_bytes, most_parts, total}
use Rattle.program_image.proofs.Told.{IsByte}
use Rattle.elf_image.specs.Fields.{program_headers}
use Rattle.elf_image.specs.Refusals.{first_refusal, header_refusal, overlap}
use Rattle.elf_image.specs.Segments.{addresses_of, chosen, is_chosen, segment_end, segment_of, segment_size, segments_of}
use Rattle.elf_image.specs.declared.header.ProgramHeader.{ProgramHeader}
use Rattle.elf_image.proofs.Checked.{chosen_more, passed_more}
use Rattle.elf_image.proofs.First.{IsSpelled, neither}
use Rattle.elf_image.proofs.Spelled.{AllApart, Apart, AreSegments}
use Rattle.elf_image.proofs.Sound.{IsSound, sound, tested}

-- ---- one segment

pub length_segment : (file : List ℕ) (h : ProgramHeader) → IsSound file h → length (segment_of file h).bytes ≡ segment_size h
length_segment file h is =
    let size : h.offset + segment_size h - h.offset ≡ segment_size h = omega arith in
    let room = length-drop h.offset file in
    let fits : segment_size h ≤ length (drop h.offset file) = omega (arith, is.stands, room) in
    ap (λ (n : ℕ). length (take n (drop h.offset file))) size ∙ length-take-le (segment_size h) (drop h.offset file) fits

pub is_part : (file : List ℕ) (h : ProgramHeader) → All IsByte file → IsSound file h → IsPart (segment_of file h)
is_part file h bytes is =
    let size = length_segment file h is in
    record {
      aligned = is.aligned;
      whole = omega (arith, size);
      some = omega (arith, size, is.some);
      within = omega (arith, size, is.within);
      bytes = All-take IsByte (h.offset + segment_size h - h.offset) (drop h.offset file) (All-drop IsByte h.offset file bytes);
    }

-- ---- two segments

apart_from : (file : List ℕ) (h other : ProgramHeader) → IsSound file h → IsSound file other
    → overlap (addresses_of h) (addresses_of other) ≡ false → Apart (segment_of file h) (segment_of file other)
apart_from file h other is is_other test =
    let a = length_segment file h is in
    let b = length_segment file other is_other in
    elim (and_cases (nat_le h.vaddr (segment_end other - 1)) (nat_le other.vaddr (segment_end h - 1)) test) [
      | inl behind ↦ let behind = leb-false h.vaddr (segment_end other - 1) behind in inl (omega (arith, b, behind, is_other.some))
      | inr before ↦ let before = leb-false other.vaddr (segment_end h - 1) before in inr (omega (arith, a, before, is.some))
    ]

apart_from_all : (file : List ℕ) (h : ProgramHeader) (others : List ProgramHeader) → IsSound file h → All (IsSound file) others
    → list_any (overlap (addresses_of h)) (map addresses_of others) ≡ false → All (Apart (segment_of file h)) (map (segment_of file) others)
apart_from_all file h [] is are test = All-nil (Apart (segment_of file h))
apart_from_all file h (other ∷ others) is are test =
    let tests = or_parts (overlap (addresses_of h) (addresses_of other)) (list_any (overlap (addresses_of h)) (map addresses_of others)) test in
    All-cons (Apart (segment_of file h)) (segment_of file other) (map (segment_of file) others)
    (apart_from file h other is (All-head (IsSound file) other others are) tests.0)
    (apart_from_all file h others is (All-tail (IsSound file) other others are) tests.1)

-- ---- all segments

-- those of headers behind others, of which all are sound
record Follow (file : List ℕ) (before headers : List ProgramHeader) : Type 0 where
  sound : All (IsSound file) (chosen headers)
  apart : AllApart (reverse (segments_of file before)) (segments_of file headers)

follow_chosen : (file : List ℕ) (before : List ProgramHeader) (h : ProgramHeader) (headers : List ProgramHeader) → All (IsSound file) (chosen before)
    → is_chosen h ≡ true → header_refusal file before h ≡ None → Follow file (before ++ h ∷ []) headers → Follow file before (h ∷ headers)
follow_chosen file before h headers are is none follow =
    let passes = sound file (map addresses_of (chosen before)) (length before) h is (tested file before h is none) in
    let told = segments_of file before in
    let apart =
    All-permutation (Apart (segment_of file h)) told (reverse told) (IsPermutation-reverse told)
    (apart_from_all file h (chosen before) passes.0 are passes.1) in
    let more : segments_of file (before ++ h ∷ []) ≡ told ++ segment_of file h ∷ [] =
    ap (map (segment_of file)) (chosen_more before h is) ∙ map-append (segment_of file) (chosen before) (h ∷ []) in
    let turned : reverse (segments_of file (before ++ h ∷ [])) ≡ segment_of file h ∷ reverse told =
    ap reverse more ∙ reverse-append told (segment_of file h ∷ []) in
    let rest = subst (λ (told : List Part). AllApart told (segments_of file headers)) turned follow.apart in
    let here = ap (λ (b : Bool). cond b (h ∷ chosen headers) (chosen headers)) is in
    record {
      sound = subst (All (IsSound file)) (sym here) (All-cons (IsSound file) h (chosen headers) passes.0 follow.sound);
      apart = subst (λ (hs : List ProgramHeader). AllApart (reverse told) (map (segment_of file) hs)) (sym here) (apart, rest);
    }

follow_passed : (file : List ℕ) (before : List ProgramHeader) (h : ProgramHeader) (headers : List ProgramHeader) → is_chosen h ≡ false
    → Follow file (before ++ h ∷ []) headers → Follow file before (h ∷ headers)
follow_passed file before h headers is follow =
    let same = ap (map (segment_of file)) (passed_more before h is) in
    let rest = subst (λ (told : List Part). AllApart (reverse told) (segments_of file headers)) same follow.apart in
    let here = ap (λ (b : Bool). cond b (h ∷ chosen headers) (chosen headers)) is in
    record {
      sound = subst (All (IsSound file)) (sym here) follow.sound;
      apart = subst (λ (hs : List ProgramHeader). AllApart (reverse (segments_of file before)) (map (segment_of file) hs)) (sym here) rest;
    }

sound_more : (file : List ℕ) (before : List ProgramHeader) (h : ProgramHeader) (is : Bool) → is_chosen h ≡ is → All (IsSound file) (chosen before)
    → header_refusal file before h ≡ None → All (IsSound file) (chosen (before ++ h ∷ []))
sound_more file before h true is are none =
    let passes = sound file (map addresses_of (chosen before)) (length before) h is (tested file before h is none) in
    subst (All (IsSound file)) (sym (chosen_more before h is)) (All-push (IsSound file) (chosen before) h are passes.0)
sound_more file before h false is are none = subst (All (IsSound file)) (sym (passed_more before h is)) are

follow_one : (file : List ℕ) (before : List ProgramHeader) (h : ProgramHeader) (headers : List ProgramHeader) (is : Bool) → is_chosen h ≡ is
    → All (IsSound file) (chosen before) → header_refusal file before h ≡ None → Follow file (before ++ h ∷ []) headers → Follow file before (h ∷ headers)
follow_one file before h headers true is are none follow = follow_chosen file before h headers are is none follow
follow_one file before h headers false is are none follow = follow_passed file before h headers is follow

follow : (file : List ℕ) (before headers : List ProgramHeader) → All (IsSound file) (chosen before) → first_refusal file before headers ≡ None
    → Follow file before headers
follow file before [] are none = record { sound = All-nil (IsSound file); apart = tt }
follow file before (h ∷ headers) are none =
    let parts = neither (header_refusal file before h) (first_refusal file (before ++ h ∷ []) headers) none in
    let more = sound_more file before h (is_chosen h) refl are parts.0 in
    follow_one file before h headers (is_chosen h) refl are parts.0 (follow file (before ++ h ∷ []) headers more parts.1)

total_size : (file : List ℕ) (headers : List ProgramHeader) → All (IsSound file) headers → total (map (segment_of file) headers) ≡ sum_by segment_size headers
total_size file [] are = refl
total_size file (h ∷ headers) are =
    let here = length_segment file h (All-head (IsSound file) h headers are) in
    let rest = total_size file headers (All-tail (IsSound file) h headers are) in
    let sum = sum_by-cons segment_size h headers in
    omega (arith, here, rest, sum)

parts_of : (file : List ℕ) (headers : List ProgramHeader) → All IsByte file → All (IsSound file) headers → All IsPart (map (segment_of file) headers)
parts_of file headers bytes are =
    All-map IsPart (segment_of file) headers (All-weaker (IsSound file) (λ h. IsPart (segment_of file h)) (λ h is. is_part file h bytes is) headers are)

pub sound_segments : (file text : List ℕ) → IsSpelled file text → All (IsSound file) (chosen (program_headers file))
sound_segments file text spelled = (follow file [] (program_headers file) (All-nil (IsSound file)) spelled.none).sound

pub are_segments : (file text : List ℕ) → All IsByte file → IsSpelled file text → AreSegments [] (segments_of file (program_headers file))
are_segments file text bytes spelled =
    let all = chosen (program_headers file) in
    let f = follow file [] (program_headers file) (All-nil (IsSound file)) spelled.none in
    let small = or_parts (nat_lt most_parts (length all)) (nat_lt most_bytes (sum_by segment_size all)) spelled.small in
    let few = ltb-false most_parts (length all) small.0 in
    let size = ltb-false most_bytes (sum_by segment_size all) small.1 in
    record {
      each = parts_of file all bytes f.sound;
      apart = f.apart;
      few = omega (arith, few, length-map all (segment_of file));
      small = omega (arith, size, total_size file all f.sound);
    }
