-- The segments of the first program headers, once they are tested.
use Rattle.std.proofs.Common.{◌≡◌, ℕ, ◌+◌, ◌-◌, ◌*◌, ◌<◌, ◌≤◌, List, [], ◌∷◌, ◌++◌, length, map, Bool, true, false, ◌||◌, Option, Some, None}
use Rattle.std.proofs.Common.{◌⊎◌, inl, inr, nat_lt, refl, sym, ap, ◌∙◌, arith, cond, append-nil}
use Rattle.std.specs.Prelude.{sum_by}
use Rattle.std.specs.Option.{option_or}
use Rattle.std.proofs.lemmas.Bool.{le-ltb, lt-ltb, or_from, or_left, or_right}
use Rattle.std.proofs.lemmas.List.{length-map, map-append}
use Rattle.std.proofs.lemmas.List.Elements.{filter-append}
use Rattle.std.proofs.lemmas.List.Sums.{sum_by_push}
use Rattle.program_image.specs.Part.{most_bytes, most_parts}
use Rattle.elf_image.specs.Fields.{e_phnum, headers_from, program_header, program_headers}
use Rattle.elf_image.specs.Refusals.{are_too_large, first_refusal, header_refusal, most_file, segment_refusal, segments_refusal, size_refusal}
use Rattle.elf_image.specs.Segments.{addresses_of, chosen, is_chosen, segment_size}
use Rattle.elf_image.specs.Table.{IsTable}
use Rattle.elf_image.specs.declared.fault.ElfWhy.{ElfWhy}
use Rattle.elf_image.specs.declared.fault.ElfWhy.TheVariants.{TooLarge}
use Rattle.elf_image.specs.declared.header.HeaderTable.{HeaderTable}
use Rattle.elf_image.specs.declared.header.ProgramHeader.{ProgramHeader}
use Rattle.elf_image.specs.declared.segment.Addresses.{Addresses}
use Rattle.elf_image.proofs.First.{or_of, refusal_joined}
use Rattle.elf_image.proofs.Headers.{headers_around, headers_more, length_headers}

-- the first k
abbrev pub front : List ℕ → HeaderTable → ℕ → List ProgramHeader
front file table k = headers_from file table.offset k

abbrev pub nth : List ℕ → HeaderTable → ℕ → ProgramHeader
nth file table k = program_header file (table.offset + 56 * k)

pub same_headers : (file : List ℕ) (table : HeaderTable) → IsTable file table → program_headers file ≡ headers_from file table.offset table.count
same_headers file table is =
    ap (λ (at : ℕ). headers_from file at (e_phnum file)) (sym is.offset) ∙ ap (λ (n : ℕ). headers_from file table.offset n) (sym is.count)

-- the first k headers are not refused, and these are the addresses and the size of their segments
pub record AreChecked (file : List ℕ) (table : HeaderTable) (k : ℕ) (taken : List Addresses) (size : ℕ) : Type 0 where
  pub none : first_refusal file [] (headers_from file table.offset k) ≡ None
  pub taken_are : taken ≡ map addresses_of (chosen (headers_from file table.offset k))
  pub size_is : size ≡ sum_by segment_size (chosen (headers_from file table.offset k))
  pub small : size ≤ most_file * k

pub none_checked : (file : List ℕ) (table : HeaderTable) → AreChecked file table 0 [] 0
none_checked file table = record { none = refl; taken_are = refl; size_is = refl; small = omega arith }

-- ---- one header more

first_more : (file : List ℕ) (headers : List ProgramHeader) (h : ProgramHeader) → first_refusal file [] headers ≡ None → header_refusal file headers h ≡ None
    → first_refusal file [] (headers ++ h ∷ []) ≡ None
first_more file headers h none here =
    refusal_joined file [] headers (h ∷ [])
    ∙ or_of (first_refusal file [] headers) (first_refusal file headers (h ∷ [])) none
    ∙ or_of (header_refusal file headers h) None here

pub chosen_more : (headers : List ProgramHeader) (h : ProgramHeader) → is_chosen h ≡ true → chosen (headers ++ h ∷ []) ≡ chosen headers ++ h ∷ []
chosen_more headers h is =
    filter-append is_chosen headers (h ∷ []) ∙ ap (λ (b : Bool). chosen headers ++ cond b (h ∷ []) []) is

pub passed_more : (headers : List ProgramHeader) (h : ProgramHeader) → is_chosen h ≡ false → chosen (headers ++ h ∷ []) ≡ chosen headers
passed_more headers h is =
    filter-append is_chosen headers (h ∷ []) ∙ ap (λ (b : Bool). chosen headers ++ cond b (h ∷ []) []) is ∙ append-nil (chosen headers)

refusal_chosen : (file : List ℕ) (before : List ProgramHeader) (h : ProgramHeader) → is_chosen h ≡ true
    → header_refusal file before h ≡ segment_refusal file (map addresses_of (chosen before)) (length before) h
refusal_chosen file before h is = ap (λ (b : Bool). cond b (segment_refusal file (map addresses_of (chosen before)) (length before) h) None) is

refusal_passed : (file : List ℕ) (before : List ProgramHeader) (h : ProgramHeader) → is_chosen h ≡ false → header_refusal file before h ≡ None
refusal_passed file before h is = ap (λ (b : Bool). cond b (segment_refusal file (map addresses_of (chosen before)) (length before) h) None) is

-- what the code tests is what is defined
refusal_tested : (file : List ℕ) (table : HeaderTable) (k : ℕ) (taken : List Addresses) (size : ℕ) → AreChecked file table k taken size
    → is_chosen (nth file table k) ≡ true
    → header_refusal file (front file table k) (nth file table k) ≡ segment_refusal file taken k (nth file table k)
refusal_tested file table k taken size are is =
    refusal_chosen file (front file table k) (nth file table k) is
    ∙ ap (λ (n : ℕ). segment_refusal file (map addresses_of (chosen (front file table k))) n (nth file table k)) (length_headers file table.offset k)
    ∙ ap (λ (a : List Addresses). segment_refusal file a k (nth file table k)) (sym are.taken_are)

-- and so where it is tested of values that are the same
pub same_refusal : (file : List ℕ) (taken taken' : List Addresses) (k k' : ℕ) (h h' : ProgramHeader) → taken' ≡ taken → k' ≡ k → h' ≡ h
    → segment_refusal file taken k h ≡ segment_refusal file taken' k' h'
same_refusal file taken taken' k k' h h' a b c =
    ap (λ (t : List Addresses). segment_refusal file t k h) (sym a)
    ∙ ap (λ (n : ℕ). segment_refusal file taken' n h) (sym b)
    ∙ ap (segment_refusal file taken' k') (sym c)

pub checked_passed : (file : List ℕ) (table : HeaderTable) (k : ℕ) (taken : List Addresses) (size : ℕ) → AreChecked file table k taken size
    → is_chosen (program_header file (table.offset + 56 * k)) ≡ false → AreChecked file table (k + 1) taken size
checked_passed file table k taken size are is =
    let more = headers_more file table.offset k in
    let same = ap chosen more ∙ passed_more (front file table k) (nth file table k) is in
    record {
      none = ap (first_refusal file []) more
          ∙ first_more file (front file table k) (nth file table k) are.none (refusal_passed file (front file table k) (nth file table k) is);
      taken_are = are.taken_are ∙ sym (ap (map addresses_of) same);
      size_is = are.size_is ∙ sym (ap (sum_by segment_size) same);
      small = omega (arith, are.small);
    }

pub checked_chosen : (file : List ℕ) (table : HeaderTable) (k : ℕ) (taken : List Addresses) (size : ℕ) → AreChecked file table k taken size
    → is_chosen (program_header file (table.offset + 56 * k)) ≡ true
    → segment_refusal file taken k (program_header file (table.offset + 56 * k)) ≡ None
    → segment_size (program_header file (table.offset + 56 * k)) ≤ most_file
    → AreChecked file table (k + 1) (taken ++ addresses_of (program_header file (table.offset + 56 * k)) ∷ [])
    (size + segment_size (program_header file (table.offset + 56 * k)))
checked_chosen file table k taken size are is none short =
    let h = nth file table k in
    let headers = front file table k in
    let more = headers_more file table.offset k in
    let same = ap chosen more ∙ chosen_more headers h is in
    record {
      none = ap (first_refusal file []) more ∙ first_more file headers h are.none (refusal_tested file table k taken size are is ∙ none);
      taken_are = ap (λ (a : List Addresses). a ++ addresses_of h ∷ []) are.taken_are
          ∙ sym (ap (map addresses_of) same ∙ map-append addresses_of (chosen headers) (h ∷ []));
      size_is = ap (λ (n : ℕ). n + segment_size h) are.size_is
          ∙ sym (ap (sum_by segment_size) same ∙ sum_by_push segment_size (chosen headers) h);
      small = omega (arith, are.small, short);
    }

pub same_checked : (file : List ℕ) (table : HeaderTable) (k : ℕ) (taken taken' : List Addresses) (size size' : ℕ) → taken' ≡ taken → size' ≡ size
    → AreChecked file table k taken size → AreChecked file table k taken' size'
same_checked file table k taken taken' size size' a b are = record {
  none = are.none;
  taken_are = a ∙ are.taken_are;
  size_is = b ∙ are.size_is;
  small = omega (arith, b, are.small);
}

-- ---- a header that is refused

pub refused_at : (file : List ℕ) (table : HeaderTable) (k : ℕ) (taken : List Addresses) (size : ℕ) (why : ElfWhy) → IsTable file table
    → AreChecked file table k taken size → k < table.count → is_chosen (program_header file (table.offset + 56 * k)) ≡ true
    → segment_refusal file taken k (program_header file (table.offset + 56 * k)) ≡ Some why → segments_refusal file ≡ Some why
refused_at file table k taken size why is are within chosen_is refused =
    let headers = front file table k in
    let h = nth file table k in
    let behind = headers_from file (table.offset + 56 * k + 56) (table.count - k - 1) in
    let all = same_headers file table is ∙ headers_around file table.offset k table.count within in
    let here : header_refusal file headers h ≡ Some why = refusal_tested file table k taken size are chosen_is ∙ refused in
    let rest = size_refusal (chosen (program_headers file)) in
    ap (λ (r : Option ElfWhy). option_or r rest)
    (ap (first_refusal file []) all
    ∙ refusal_joined file [] headers (h ∷ behind)
    ∙ or_of (first_refusal file [] headers) (first_refusal file headers (h ∷ behind)) are.none
    ∙ ap (λ (r : Option ElfWhy). option_or r (first_refusal file (headers ++ h ∷ []) behind)) here)

-- ---- all headers

all_checked : (file : List ℕ) (table : HeaderTable) (taken : List Addresses) (size : ℕ) (r : Option ElfWhy) → IsTable file table
    → AreChecked file table table.count taken size → size_refusal (chosen (front file table table.count)) ≡ r → segments_refusal file ≡ r
all_checked file table taken size r is are e =
    let all = same_headers file table is in
    ap (λ (hs : List ProgramHeader). option_or (first_refusal file [] hs) (size_refusal (chosen hs))) all
    ∙ or_of (first_refusal file [] (front file table table.count)) (size_refusal (chosen (front file table table.count))) are.none
    ∙ e

-- how many they are, and how much they have
tested_size : (file : List ℕ) (table : HeaderTable) (k : ℕ) (taken : List Addresses) (size : ℕ) (big : Bool) → AreChecked file table k taken size
    → (nat_lt most_parts (length taken) || nat_lt most_bytes size) ≡ big → are_too_large (chosen (front file table k)) ≡ big
tested_size file table k taken size big are e =
    let count : length (chosen (front file table k)) ≡ length taken =
    sym (ap length are.taken_are ∙ length-map (chosen (front file table k)) addresses_of) in
    ap (λ (n : ℕ). nat_lt most_parts n || nat_lt most_bytes (sum_by segment_size (chosen (front file table k)))) count
    ∙ ap (λ (n : ℕ). nat_lt most_parts (length taken) || nat_lt most_bytes n) (sym are.size_is)
    ∙ e

pub checked_small : (file : List ℕ) (table : HeaderTable) (taken : List Addresses) (size : ℕ) → IsTable file table
    → AreChecked file table table.count taken size → length taken ≤ most_parts → size ≤ most_bytes → segments_refusal file ≡ None
checked_small file table taken size is are few small =
    let test =
    or_from (nat_lt most_parts (length taken)) (nat_lt most_bytes size) (le-ltb most_parts (length taken) few) (le-ltb most_bytes size small) in
    let big = tested_size file table table.count taken size false are test in
    all_checked file table taken size None is are (ap (λ (b : Bool). cond b (Some TooLarge) None) big)

pub checked_large : (file : List ℕ) (table : HeaderTable) (taken : List Addresses) (size : ℕ) → IsTable file table
    → AreChecked file table table.count taken size → (most_parts < length taken) ⊎ (most_bytes < size) → segments_refusal file ≡ Some TooLarge
checked_large file table taken size is are more =
    let test : (nat_lt most_parts (length taken) || nat_lt most_bytes size) ≡ true =
    elim more [
      | inl many ↦ or_left (nat_lt most_parts (length taken)) (nat_lt most_bytes size) (lt-ltb most_parts (length taken) many)
      | inr much ↦ or_right (nat_lt most_parts (length taken)) (nat_lt most_bytes size) (lt-ltb most_bytes size much)
    ] in
    let big = tested_size file table table.count taken size true are test in
    all_checked file table taken size (Some TooLarge) is are (ap (λ (b : Bool). cond b (Some TooLarge) None) big)
