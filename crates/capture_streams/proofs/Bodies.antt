-- The lines of pairs that come one after the other.
use Rattle.std.proofs.Common.{◌≡◌, ◌≢◌, ℕ, ◌==◌, if◌then◌else◌, Bool, true, false, List, [], ◌∷◌, ◌++◌, map, inl, inr, refl, sym, ap, subst, ◌∙◌}
use Rattle.std.proofs.Common.{append_assoc, append-nil}
use Rattle.std.specs.List.{concat}
use Rattle.std.proofs.lemmas.Bool.{eq-eqb}
use Rattle.std.proofs.lemmas.Bool.Decides.{eqb_tells}
use Rattle.std.proofs.lemmas.List.{map-append}
use Rattle.std.proofs.lemmas.List.Folds.{concat-append}
use Rattle.capture_streams.specs.Texts.{BodyFrom, Listing, Printed, lines_under, of, text_of}
use Rattle.formatter_frames.specs.Symbols.{run_of}

-- ---- texts

pub text_of-append : (xs ys : List Printed) → text_of (xs ++ ys) ≡ text_of xs ++ text_of ys
text_of-append xs ys =
    ap concat (map-append (λ (l : Printed). l.line) xs ys) ∙ concat-append (map (λ (l : Printed). l.line) xs) (map (λ (l : Printed). l.line) ys)

pub text_under : (id : ℕ) (lines : List (List ℕ)) → text_of (lines_under id lines) ≡ concat lines
text_under id [] = refl
text_under id (line ∷ lines) = ap (λ t. line ++ t) (text_under id lines)

-- ---- the bytes of a stream

if_under : (test : Bool) (b : ℕ) (xs ys : List ℕ) → (if test then b ∷ (xs ++ ys) else xs ++ ys) ≡ (if test then b ∷ xs else xs) ++ ys
if_under true b xs ys = refl
if_under false b xs ys = refl

pub of-append : (id : ℕ) (xs ys : List (ℕ × ℕ)) → of id (xs ++ ys) ≡ of id xs ++ of id ys
of-append id [] ys = refl
of-append id (pair ∷ xs) ys =
    ap (λ t. if pair.0 == id then pair.1 ∷ t else t) (of-append id xs ys) ∙ if_under (pair.0 == id) pair.1 (of id xs) (of id ys)

differ : (a b : ℕ) → a ≢ b → (a == b) ≡ false
differ a b differs = elim (eqb_tells a b) [ inl same ↦ absurd (differs same.1) | inr other ↦ other.0 ]

-- bytes of one stream
pub of_own : (id : ℕ) (run : List ℕ) → of id (run_of id run) ≡ run
of_own id [] = refl
of_own id (b ∷ run) = ap (λ t. if t then b ∷ of id (run_of id run) else of id (run_of id run)) (eq-eqb id id refl) ∙ ap (λ l. b ∷ l) (of_own id run)

pub of_none : (id other : ℕ) (run : List ℕ) → other ≢ id → of id (run_of other run) ≡ []
of_none id other [] differs = refl
of_none id other (b ∷ run) differs =
    ap (λ t. if t then b ∷ of id (run_of other run) else of id (run_of other run)) (differ other id differs) ∙ of_none id other run differs

-- and behind others
pub of_run : (id : ℕ) (run : List ℕ) (pairs : List (ℕ × ℕ)) → of id (pairs ++ run_of id run) ≡ of id pairs ++ run
of_run id run pairs = of-append id pairs (run_of id run) ∙ ap (λ t. of id pairs ++ t) (of_own id run)

pub of_other_run : (id other : ℕ) (run : List ℕ) (pairs : List (ℕ × ℕ)) → other ≢ id → of id (pairs ++ run_of other run) ≡ of id pairs
of_other_run id other run pairs differs =
    of-append id pairs (run_of other run) ∙ ap (λ t. of id pairs ++ t) (of_none id other run differs) ∙ append-nil (of id pairs)

pub of_this : (id byte : ℕ) (pairs : List (ℕ × ℕ)) → of id (pairs ++ (id, byte) ∷ []) ≡ of id pairs ++ byte ∷ []
of_this id byte pairs = of_run id (byte ∷ []) pairs

pub of_other : (id other byte : ℕ) (pairs : List (ℕ × ℕ)) → other ≢ id → of id (pairs ++ (other, byte) ∷ []) ≡ of id pairs
of_other id other byte pairs differs = of_other_run id other (byte ∷ []) pairs differs

-- ---- bodies

pub body-append : (g : Listing) (before xs ys : List (ℕ × ℕ)) (lines more : List Printed) → BodyFrom g before xs lines → BodyFrom g (before ++ xs) ys more
    → BodyFrom g before (xs ++ ys) (lines ++ more)
body-append g before [] ys lines more none body =
    subst (λ (l : List Printed). BodyFrom g before ys (l ++ more)) (sym none) (subst (λ b. BodyFrom g b ys more) (append-nil before) body)
body-append g before (pair ∷ xs) ys lines more (first, rest, gains, later, is) body = (
  first,
  rest ++ more,
  gains,
  body-append g (before ++ pair ∷ []) xs ys rest more later (subst (λ b. BodyFrom g b ys more) (sym (append_assoc before (pair ∷ []) xs)) body),
  ap (λ (l : List Printed). l ++ more) is ∙ append_assoc (lines_under pair.0 first) rest more,
)

-- a body of joined pairs is that of the first and that of the others behind them
pub body_parts : (g : Listing) (before xs ys : List (ℕ × ℕ)) (lines : List Printed) → BodyFrom g before (xs ++ ys) lines
    → (first : List Printed) × (more : List Printed) × BodyFrom g before xs first × BodyFrom g (before ++ xs) ys more × (lines ≡ first ++ more)
body_parts g before [] ys lines body = ([], lines, refl, subst (λ b. BodyFrom g b ys lines) (sym (append-nil before)) body, refl)
body_parts g before (pair ∷ xs) ys lines (first, rest, gains, later, is) =
    let parts = body_parts g (before ++ pair ∷ []) xs ys rest later in (
      lines_under pair.0 first ++ parts.0,
      parts.1,
      (first, parts.0, gains, parts.2, refl),
      subst (λ b. BodyFrom g b ys parts.1) (append_assoc before (pair ∷ []) xs) parts.3,
      is ∙ ap (λ (l : List Printed). lines_under pair.0 first ++ l) parts.4 ∙ sym (append_assoc (lines_under pair.0 first) parts.0 parts.1),
    )
