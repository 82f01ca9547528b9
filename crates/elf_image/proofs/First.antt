-- The first refusal of program headers.
use Rattle.std.proofs.Common.{◌≡◌, ℕ, ◌+◌, ◌%◌, ◌^◌, ◌<◌, List, [], ◌∷◌, ◌++◌, length, map, Bool, true, false, not, Option, Some, None, Ok, Err}
use Rattle.std.proofs.Common.{nat_lt, refl, sym, ap, ◌∙◌, cond, subst, append-nil, append_assoc}
use Rattle.std.specs.Prelude.{◌==◌}
use Rattle.std.specs.List.{list_any}
use Rattle.std.specs.Option.{option_or}
use Rattle.std.proofs.lemmas.Bool.{lt-ltb, ltb-true, ltb-false}
use Rattle.std.proofs.lemmas.Option.{none-some, same_Some}
use Rattle.elf_image.specs.ElfText.{elf_text, segments_text, unless}
use Rattle.elf_image.specs.Fields.{has_headers, is_header, program_headers}
use Rattle.elf_image.specs.FirstRefusal.{HasHeaders, IsFirstRefusal, NoneRefused, NotRefused, RefusesHeader}
use Rattle.elf_image.specs.Refusals.{are_too_large, elf_refusal, file_refusal, first_refusal, header_refusal}
use Rattle.elf_image.specs.Refusals.{most_file, overlap, segment_refusal, segments_refusal, size_refusal}
use Rattle.elf_image.specs.Segments.{addresses_of, chosen, is_chosen, segment_end, segments_of}
use Rattle.elf_image.specs.declared.fault.ElfWhy.{ElfWhy}
use Rattle.elf_image.specs.declared.fault.ElfWhy.TheVariants.{TooLong, Header, Table, Segment, Unaligned, Wraps, Overlap, TooLarge}
use Rattle.elf_image.specs.declared.header.ProgramHeader.{ProgramHeader}

-- ---- one reason or another

or_assoc : {X : Type 0} (a b c : Option X) → option_or a (option_or b c) ≡ option_or (option_or a b) c
or_assoc None b c = refl
or_assoc (Some x) b c = refl

pub neither : {X : Type 0} (a b : Option X) → option_or a b ≡ None → (a ≡ None) × (b ≡ None)
neither None b e = (refl, e)
neither (Some x) b e = cc

pub or_of : {X : Type 0} (a b : Option X) → a ≡ None → option_or a b ≡ b
or_of a b e = rw e refl

-- ---- headers behind one another

pub refusal_joined : (file : List ℕ) (before front rest : List ProgramHeader)
    → first_refusal file before (front ++ rest) ≡ option_or (first_refusal file before front) (first_refusal file (before ++ front) rest)
refusal_joined file before [] rest = sym (ap (λ (hs : List ProgramHeader). first_refusal file hs rest) (append-nil before))
refusal_joined file before (h ∷ front) rest =
    let r = header_refusal file before h in
    let a = first_refusal file (before ++ h ∷ []) front in
    ap (option_or r) (refusal_joined file (before ++ h ∷ []) front rest)
    ∙ or_assoc r a (first_refusal file ((before ++ h ∷ []) ++ front) rest)
    ∙ ap (λ (hs : List ProgramHeader). option_or (option_or r a) (first_refusal file hs rest)) (append_assoc before (h ∷ []) front)

pub none_refused : (file : List ℕ) (headers : List ProgramHeader) → first_refusal file [] headers ≡ None → NoneRefused file headers
none_refused file headers none = λ before h behind e.
    let joined : option_or (first_refusal file [] before) (first_refusal file ([] ++ before) (h ∷ behind)) ≡ None =
    sym (refusal_joined file [] before (h ∷ behind)) ∙ sym (ap (first_refusal file []) e) ∙ none in
    let here = (neither (first_refusal file [] before) (first_refusal file before (h ∷ behind)) joined).1 in
    (neither (header_refusal file before h) (first_refusal file (before ++ h ∷ []) behind) here).0

-- ---- the header that is refused

record RefusedBehind (file : List ℕ) (before headers : List ProgramHeader) (why : ElfWhy) : Type 0 where
  front : List ProgramHeader
  refused : ProgramHeader
  behind : List ProgramHeader
  headers_are : headers ≡ front ++ refused ∷ behind
  none : first_refusal file before front ≡ None
  why_is : header_refusal file (before ++ front) refused ≡ Some why

refused_later : (file : List ℕ) (before : List ProgramHeader) (h : ProgramHeader) (headers : List ProgramHeader) (why : ElfWhy)
    → header_refusal file before h ≡ None → RefusedBehind file (before ++ h ∷ []) headers why → RefusedBehind file before (h ∷ headers) why
refused_later file before h headers why passes r = record {
  front = h ∷ r.front;
  refused = r.refused;
  behind = r.behind;
  headers_are = ap (λ (hs : List ProgramHeader). h ∷ hs) r.headers_are;
  none = or_of (header_refusal file before h) (first_refusal file (before ++ h ∷ []) r.front) passes ∙ r.none;
  why_is = ap (λ (hs : List ProgramHeader). header_refusal file hs r.refused) (sym (append_assoc before (h ∷ []) r.front)) ∙ r.why_is;
}

refused_here_or_later : (file : List ℕ) (before : List ProgramHeader) (h : ProgramHeader) (headers : List ProgramHeader) (why : ElfWhy)
    (here : Option ElfWhy) → header_refusal file before h ≡ here
    → (first_refusal file (before ++ h ∷ []) headers ≡ Some why → RefusedBehind file (before ++ h ∷ []) headers why)
    → option_or here (first_refusal file (before ++ h ∷ []) headers) ≡ Some why → RefusedBehind file before (h ∷ headers) why
refused_here_or_later file before h headers why (Some w) is more e = record {
  front = [];
  refused = h;
  behind = headers;
  headers_are = refl;
  none = refl;
  why_is = ap (λ (hs : List ProgramHeader). header_refusal file hs h) (append-nil before) ∙ is ∙ e;
}
refused_here_or_later file before h headers why None is more e = refused_later file before h headers why is (more e)

refused_behind : (file : List ℕ) (before headers : List ProgramHeader) (why : ElfWhy) → first_refusal file before headers ≡ Some why
    → RefusedBehind file before headers why
refused_behind file before [] why e = absurd (none-some why e)
refused_behind file before (h ∷ headers) why e =
    refused_here_or_later file before h headers why (header_refusal file before h) refl (refused_behind file (before ++ h ∷ []) headers why) e

refuses_header : (file : List ℕ) (why : ElfWhy) → HasHeaders file → first_refusal file [] (program_headers file) ≡ Some why → RefusesHeader file why
refuses_header file why has e =
    let r = refused_behind file [] (program_headers file) why e in
    record {
      has = has;
      before = r.front;
      refused = r.refused;
      behind = r.behind;
      headers_are = r.headers_are;
      none_before = none_refused file r.front r.none;
      why_is = r.why_is;
    }

-- ---- a reason that a header is refused for is none of the others

data OfHeader : ElfWhy → Type 0 where
  of_segment : (k : ℕ) → OfHeader (Segment k)
  of_unaligned : (k : ℕ) → OfHeader (Unaligned k)
  of_wraps : (k : ℕ) → OfHeader (Wraps k)
  of_overlap : (k : ℕ) → OfHeader (Overlap k)

of_tests : (a b c d : Bool) (k : ℕ) (why : ElfWhy)
    → cond a (Some (Segment k)) (cond (not b) (Some (Unaligned k)) (cond c (Some (Wraps k)) (cond d (Some (Overlap k)) None))) ≡ Some why → OfHeader why
of_tests true b c d k why e = subst OfHeader (same_Some (Segment k) why e) (of_segment k)
of_tests false false c d k why e = subst OfHeader (same_Some (Unaligned k) why e) (of_unaligned k)
of_tests false true true d k why e = subst OfHeader (same_Some (Wraps k) why e) (of_wraps k)
of_tests false true false true k why e = subst OfHeader (same_Some (Overlap k) why e) (of_overlap k)
of_tests false true false false k why e = absurd (none-some why e)

of_header : (file : List ℕ) (before : List ProgramHeader) (h : ProgramHeader) (why : ElfWhy) (test : Bool) (refusal : Option ElfWhy)
    → (refusal ≡ Some why → OfHeader why) → cond test refusal None ≡ Some why → OfHeader why
of_header file before h why true refusal of e = of e
of_header file before h why false refusal of e = absurd (none-some why e)

first_of_header : (file : List ℕ) (why : ElfWhy) → OfHeader why → RefusesHeader file why → IsFirstRefusal file why
first_of_header file TooLong of r = elim of [ ]
first_of_header file Header of r = elim of [ ]
first_of_header file Table of r = elim of [ ]
first_of_header file (Segment k) of r = r
first_of_header file (Unaligned k) of r = r
first_of_header file (Wraps k) of r = r
first_of_header file (Overlap k) of r = r
first_of_header file TooLarge of r = elim of [ ]

header_reason : (file : List ℕ) (before : List ProgramHeader) (h : ProgramHeader) (why : ElfWhy) → header_refusal file before h ≡ Some why → OfHeader why
header_reason file before h why e =
    of_header file before h why (is_chosen h) (segment_refusal file (map addresses_of (chosen before)) (length before) h)
    (of_tests (nat_lt (length file) (h.offset + h.filesz)) (h.vaddr % 4 == 0) (nat_lt (2 ^ 64) (segment_end h))
    (list_any (overlap (addresses_of h)) (map addresses_of (chosen before))) (length before) why)
    e

-- ---- the refusal of a file

by_size : (file : List ℕ) (why : ElfWhy) (big : Bool) → HasHeaders file → NoneRefused file (program_headers file)
    → are_too_large (chosen (program_headers file)) ≡ big → cond big (Some TooLarge) None ≡ Some why → IsFirstRefusal file why
by_size file why true has none is e = subst (IsFirstRefusal file) (same_Some TooLarge why e) (has, none, is)
by_size file why false has none is e = absurd (none-some why e)

by_headers : (file : List ℕ) (why : ElfWhy) (first : Option ElfWhy) → HasHeaders file → first_refusal file [] (program_headers file) ≡ first
    → option_or first (size_refusal (chosen (program_headers file))) ≡ Some why → IsFirstRefusal file why
by_headers file why (Some w) has is e =
    let r = refuses_header file why has (is ∙ e) in
    first_of_header file why (header_reason file r.before r.refused why r.why_is) r
by_headers file why None has is e =
    by_size file why (are_too_large (chosen (program_headers file))) has (none_refused file (program_headers file) is) refl e

by_file : (file : List ℕ) (why : ElfWhy) (long header headers : Bool) → nat_lt most_file (length file) ≡ long → is_header file ≡ header
    → has_headers file ≡ headers
    → option_or (cond long (Some TooLong) (cond (not header) (Some Header) (cond (not headers) (Some Table) None))) (segments_refusal file) ≡ Some why
    → IsFirstRefusal file why
by_file file why true header headers long is has e =
    subst (IsFirstRefusal file) (same_Some TooLong why e) (ltb-true most_file (length file) long)
by_file file why false false headers long is has e =
    subst (IsFirstRefusal file) (same_Some Header why e) (ltb-false most_file (length file) long, is)
by_file file why false true false long is has e =
    subst (IsFirstRefusal file) (same_Some Table why e) (ltb-false most_file (length file) long, is, has)
by_file file why false true true long is has e =
    let short = ltb-false most_file (length file) long in
    by_headers file why (first_refusal file [] (program_headers file)) (record { short = short; header = is; headers = has }) refl e

refusal_of : (refusal : Option ElfWhy) (text : List ℕ) (why : ElfWhy) → unless refusal text ≡ Err why → refusal ≡ Some why
refusal_of None text why e = cc
refusal_of (Some w) text why e = cc

pub is_first : (file : List ℕ) (why : ElfWhy) → elf_text file ≡ Err why → IsFirstRefusal file why
unfolding elf_text
is_first file why e =
    by_file file why (nat_lt most_file (length file)) (is_header file) (has_headers file) refl refl refl
    (refusal_of (elf_refusal file) (segments_text (segments_of file (program_headers file))) why e)

-- ---- a file that is not refused

none_of : (refusal : Option ElfWhy) (text other : List ℕ) → unless refusal text ≡ Ok other → (refusal ≡ None) × (text ≡ other)
none_of None text other e = (refl, cc)
none_of (Some w) text other e = cc

three_tests : (a b c : Bool) → cond a (Some TooLong) (cond (not b) (Some Header) (cond (not c) (Some Table) None)) ≡ None
    → (a ≡ false) × (b ≡ true) × (c ≡ true)
three_tests false true true e = (refl, refl, refl)
three_tests false true false e = cc
three_tests false false c e = cc
three_tests true b c e = cc

no_size : (big : Bool) → cond big (Some TooLarge) None ≡ None → big ≡ false
no_size false e = refl
no_size true e = cc

pub record IsSpelled (file text : List ℕ) : Type 0 where
  pub has : HasHeaders file
  pub none : first_refusal file [] (program_headers file) ≡ None
  pub small : are_too_large (chosen (program_headers file)) ≡ false
  pub text_is : segments_text (segments_of file (program_headers file)) ≡ text

pub spelled : (file text : List ℕ) → elf_text file ≡ Ok text → IsSpelled file text
unfolding elf_text
spelled file text e =
    let both = none_of (elf_refusal file) (segments_text (segments_of file (program_headers file))) text e in
    let parts = neither (file_refusal file) (segments_refusal file) both.0 in
    let rest = neither (first_refusal file [] (program_headers file)) (size_refusal (chosen (program_headers file))) parts.1 in
    let tests = three_tests (nat_lt most_file (length file)) (is_header file) (has_headers file) parts.0 in
    record {
      has = record { short = ltb-false most_file (length file) tests.0; header = tests.1; headers = tests.2 };
      none = rest.0;
      small = no_size (are_too_large (chosen (program_headers file))) rest.1;
      text_is = both.1;
    }

pub not_refused : (file text : List ℕ) → elf_text file ≡ Ok text → NotRefused file
not_refused file text e =
    let s = spelled file text e in
    record { has = s.has; none = none_refused file (program_headers file) s.none; small = s.small }

-- ---- a file above the limit

pub too_long : (file : List ℕ) (why : ElfWhy) → most_file < length file → TooLong ≡ why → elf_text file ≡ Err why
unfolding elf_text
too_long file why long is =
    let test = lt-ltb most_file (length file) long in
    subst (λ (w : ElfWhy). elf_text file ≡ Err w) is (rw test refl)
