-- As many lines begin with the name of an exception as items are of its type.
use Rattle.std.proofs.Common.{◌≡◌, ℕ, ◌+◌, ◌-◌, ◌<◌, ◌==◌, if◌then◌else◌, Bool, true, false, List, [], ◌∷◌, ◌++◌, length, take, drop}
use Rattle.std.proofs.Common.{inl, inr, refl, sym, ap, subst, ◌∙◌, arith, append_assoc}
use Rattle.std.specs.Prelude.{codes, nat_eq}
use Rattle.std.specs.Cmp.Lexicographic.{bytes_decides}
use Rattle.std.specs.List.{starts_with}
use Rattle.std.proofs.lemmas.Bool.Decides.{eqb_tells, nat_tests}
use Rattle.std.proofs.lemmas.List.{append_cancel_left, take-append-drop, take_at}
use Rattle.packet_grammar.specs.declared.end.End.{End}
use Rattle.packet_grammar.specs.declared.end.End.TheVariants as end
use Rattle.path_counts.specs.CountLines.{mark_key}
use Rattle.path_counts.specs.Counts.{first_exception, is_mark}
use Rattle.path_text.specs.EndLines.{end_text}
use Rattle.path_text.specs.Lines.{hex}
use Rattle.path_text.specs.PathLines.{exception_names, exception_text, name_among}
use Rattle.count_streams.proofs.ExceptionNames.{type_before_space}
use Rattle.count_streams.proofs.HexTexts.{can_all_be_hex, hex_can, never}
use Rattle.count_streams.proofs.LinesOfItems.{Tells, are_as_many}
use Rattle.count_streams.specs.CountLaws.{ExceptionsAreLines, begins_with}

-- ---- lines that begin with a text

begins : (line front : List ℕ) → starts_with nat_eq line front ≡ true → line ≡ front ++ drop (length front) line
begins line front is =
    let same = (bytes_decides front (take (length front) line)).0 is in
    sym (take-append-drop (length front) line) ∙ ap (λ (l : List ℕ). l ++ drop (length front) line) (sym same)

begun : (front rest : List ℕ) → starts_with nat_eq (front ++ rest) front ≡ true
begun front rest = (bytes_decides front (take (length front) (front ++ rest))).1 (sym (take_at front rest (length front) refl))

-- ---- the name of an exception

abbrev name : ℕ → List ℕ
name kind = name_among exception_names kind

abbrev key : ℕ → List ℕ
key kind = codes "exc " ++ name kind

key_is : (kind : ℕ) → mark_key (first_exception + kind) ≡ key kind
key_is kind =
    let n = first_exception + kind in
    let differs : (k : ℕ) → k < first_exception → (n == k) ≡ false = λ k small. grind (arith, nat_tests, small) in
    let same : n - first_exception ≡ kind = omega arith in
    let last = key (n - first_exception) in
    let fourth = if n == 3 then codes "stop" else last in
    let third = if n == 2 then codes "gap" else fourth in
    let second = if n == 1 then codes "?" else third in
    ap (λ (t : Bool). if t then codes "on" else second) (differs 0 (omega arith))
    ∙ ap (λ (t : Bool). if t then codes "?" else third) (differs 1 (omega arith))
    ∙ ap (λ (t : Bool). if t then codes "gap" else fourth) (differs 2 (omega arith))
    ∙ ap (λ (t : Bool). if t then codes "stop" else last) (differs 3 (omega arith)) ∙ ap key same

line_is : (kind ret : ℕ) → exception_text kind ret ++ 10 ∷ [] ≡ (key kind ++ 32 ∷ []) ++ (hex ret ++ 10 ∷ [])
line_is kind ret = append_assoc (key kind ++ 32 ∷ []) (hex ret) (10 ∷ [])

-- the line of an exception begins with its own name alone
own_name : (type kind ret : ℕ) → begins_with (key type) (exception_text kind ret ++ 10 ∷ []) ≡ ((first_exception + kind) == (first_exception + type))
own_name type kind ret = elim (eqb_tells (first_exception + kind) (first_exception + type)) [
  | inl same ↦
      let is : kind ≡ type = omega (arith, same.1) in
      ap (begins_with (key type)) (line_is kind ret)
      ∙ ap (λ (k : ℕ). begins_with (key type) ((key k ++ 32 ∷ []) ++ (hex ret ++ 10 ∷ []))) is
      ∙ begun (key type ++ 32 ∷ []) (hex ret ++ 10 ∷ []) ∙ sym same.0
  | inr differ ↦
      never (begins_with (key type) (exception_text kind ret ++ 10 ∷ []))
      (λ is.
      let line = exception_text kind ret ++ 10 ∷ [] in
      let rest = drop (length (key type ++ 32 ∷ [])) line in
      let behind = hex ret ++ 10 ∷ [] in
      let both : (key kind ++ 32 ∷ []) ++ behind ≡ (key type ++ 32 ∷ []) ++ rest = sym (line_is kind ret) ∙ begins line (key type ++ 32 ∷ []) is in
      let apart : codes "exc " ++ (name kind ++ 32 ∷ behind) ≡ codes "exc " ++ (name type ++ 32 ∷ rest)
      = sym (parted kind behind) ∙ both ∙ parted type rest in
      let same = type_before_space kind type behind rest
      (append_cancel_left (codes "exc ") (name kind ++ 32 ∷ behind) (name type ++ 32 ∷ rest) apart) in
      differ.1 (omega (arith, same)))
      ∙ sym differ.0
]
  where
    parted : (k : ℕ) (rest : List ℕ) → (key k ++ 32 ∷ []) ++ rest ≡ codes "exc " ++ (name k ++ 32 ∷ rest)
    parted k rest = append_assoc (key k) (32 ∷ []) rest ∙ append_assoc (codes "exc ") (name k) (32 ∷ rest)

-- ---- no other line begins so

no_address : (type a : ℕ) → begins_with (key type) (hex a ++ 10 ∷ []) ≡ false
no_address type a =
    never (begins_with (key type) (hex a ++ 10 ∷ []))
    (λ is.
    let line = hex a ++ 10 ∷ [] in
    let e = sym (hex_can a) ∙ ap can_all_be_hex (begins line (key type ++ 32 ∷ []) is) in absurd cc)

no_end : (type : ℕ) (last : End) → begins_with (key type) (end_text last ++ 10 ∷ []) ≡ false
no_end type end.Clean = refl
no_end type end.NoSync = refl
no_end type (end.Cut n) = refl
no_end type (end.Fault at why) = refl

no_such_mark : (number type : ℕ) → number < first_exception → false ≡ (number == (first_exception + type))
no_such_mark number type small = sym (grind (arith, nat_tests, small))

exception_tells : (type : ℕ) → Tells (begins_with (key type)) (is_mark (first_exception + type))
exception_tells type =
    record {
      on = no_such_mark 0 type (omega arith);
      gap = no_such_mark 2 type (omega arith);
      stop = no_such_mark 3 type (omega arith);
      unknown = no_such_mark 1 type (omega arith);
      address = λ a ctx took. no_address type a;
      exception = own_name type;
      context = λ ctx. refl;
      ends = no_end type;
      cut = λ left. refl;
    }

pub exceptions_are_lines : ExceptionsAreLines
exceptions_are_lines type =
    are_as_many (begins_with (mark_key (first_exception + type))) (is_mark (first_exception + type))
    (subst (λ (l : List ℕ). Tells (begins_with l) (is_mark (first_exception + type))) (sym (key_is type)) (exception_tells type))
