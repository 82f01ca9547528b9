-- The part that is kept at hand.
use Rattle.std.proofs.Common.{◌≡◌, ℕ, zero, suc, ◌+◌, ◌-◌, ◌*◌, ◌/◌, ◌%◌, ◌^◌, ◌<◌, ◌∙◌, List, [], ◌∷◌, length, arith, get_or, sym, ap, subst, refl}
use Rattle.std.specs.Prelude.{Some, slice_get}
use Rattle.std.proofs.lemmas.Option.{get_or_from_slice_get, slice_get_within}
use Rattle.program_image.specs.Near.{Fits, HasRunAt, IsNear, Near}
use Rattle.program_image.specs.Part.{IsImage, IsPart, Part}
use Rattle.program_image.specs.Places.{word_addresses, words_before}
use Rattle.program_image.specs.Runs.{IsRun, IsTable, no_word, run_of}
use Rattle.program_image.specs.declared.run.PlainRun.{PlainRun}
use Rattle.program_image.specs.declared.run.WordRun.{WordRun}
use Rattle.program_image.proofs.Tables.{RunsOf, run_of_word, runs_of_part}
use Rattle.program_image.proofs.WordPlaces.{address_in_part, few_before, first_before}

-- ---- what is looked up

-- which word an address is, counted from one at a multiple of 4; addresses are 64 bits
abbrev pub word_at : ℕ → ℕ → ℕ
word_at start address = (address + (2 ^ 64 - start)) % 2 ^ 64 / 4

pub found : (near : Near) (address : ℕ) (run : WordRun) → Fits near → address % 4 ≡ 0 → address < 2 ^ 64
    → slice_get near.runs (word_at near.start address) ≡ Some (run_of run)
    → HasRunAt near address (record { place = near.first + word_at near.start address; part = near.part; run = run })
found near address run fits aligned small there =
    let within = slice_get_within near.runs (word_at near.start address) (run_of run) there in
    record {
      word = word_at near.start address;
      begins = omega (arith, within, fits.aligned, fits.within, aligned, small);
      run = there;
      place = refl;
      part = refl;
    }

-- ---- what is kept

-- so many words more stand before the next part
next_before : (n : ℕ) (parts : List Part) (k : ℕ) (d : Part) → k < length parts
    → get_or (words_before n parts) (suc k) 0 ≡ get_or (words_before n parts) k 0 + length (get_or parts k d).bytes / 4
next_before n [] k d within = absurd (omega (arith, within))
next_before n (part ∷ parts) zero d within = first_before (n + length part.bytes / 4) parts
next_before n (part ∷ parts) (suc k) d within = next_before (n + length part.bytes / 4) parts k d (omega (arith, within))

-- the run of a word and its place, by the table and the places of the image
pub words_of_part : (image : List Part) (table : List (List PlainRun)) (place : ℕ) (part : Part) (runs : List PlainRun) → IsImage image → IsTable image image table
    → place < length image → part ≡ get_or image place part → runs ≡ get_or table place runs
    → IsNear image (record { start = part.start; runs = runs; first = get_or (words_before 0 image) place 0; part = place })
words_of_part image table place part runs is is_table within there these k run at =
    let of =
    subst (λ (rs : List PlainRun). RunsOf image part rs) (sym these)
    (subst (λ (p : Part). RunsOf image p (get_or table place runs)) (sym there) (runs_of_part image image table place part runs is_table within)) in
    let short = slice_get_within runs k run at in
    let same = get_or_from_slice_get runs k run no_word at in
    let first = get_or (words_before 0 image) place 0 in
    let one : place + 1 ≡ suc place = omega arith in
    let next : get_or (words_before 0 image) (place + 1) 0 ≡ first + length part.bytes / 4 =
    ap (λ n. get_or (words_before 0 image) n 0) one ∙ next_before 0 image place part within
    ∙ ap (λ (p : Part). first + length p.bytes / 4) (sym there) in
    let address = address_in_part image 0 place (first + k) part within (omega arith) (omega (arith, next, short, of.size)) in
    let word : first + k - 0 ≡ first + k = omega arith in
    let offset : (get_or image place part).start + 4 * (first + k - first) ≡ part.start + 4 * k = omega (arith, ap (λ (p : Part). p.start) there) in (
      subst (λ (r : PlainRun). IsRun image (part.start + 4 * k) r) same (run_of_word image part.start k runs of.all short),
      subst (λ (n : ℕ). slice_get (word_addresses image) n ≡ Some (part.start + 4 * k)) word (address ∙ ap Some offset),
    )

-- and it fits
pub part_fits : (image : List Part) (table : List (List PlainRun)) (place : ℕ) (part : Part) (runs : List PlainRun) → IsImage image → IsTable image image table
    → place < length image → part ≡ get_or image place part → runs ≡ get_or table place runs
    → Fits (record { start = part.start; runs = runs; first = get_or (words_before 0 image) place 0; part = place })
    × (4 * length runs ≡ length part.bytes)
part_fits image table place part runs is is_table within there these =
    let of =
    subst (λ (rs : List PlainRun). RunsOf image part rs) (sym these)
    (subst (λ (p : Part). RunsOf image p (get_or table place runs)) (sym there) (runs_of_part image image table place part runs is_table within)) in
    let is_part = subst IsPart (sym there) (is.parts place part within) in
    let few = few_before image place is within in (
      record {
        aligned = is_part.aligned;
        within = omega (arith, of.size, is_part.within);
        few = omega (arith, few, of.size, is_part.within);
      },
      of.size,
    )
