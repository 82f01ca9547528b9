-- Decimal digits are text, and `parse` gives their number.
use Rattle.std.proofs.Common.{◌≡◌, ◌∷◌, ◌∙◌, ◌≤◌, ℕ, rules, zero, suc, List, [], length, true, Some, None, Result, Ok, Err, arith, ap, sym, subst, le-leb}
use Rattle.std.specs.Char.{is_ascii_digit}
use Rattle.std.specs.List.{list_all}
use Rattle.std.specs.Prelude.{MatchResult, nat_le}
use Rattle.std.specs.Str.{IsAscii, IsUtf8}
use Rattle.std.specs.Str.Parse.{ParsesUnsigned, digits_value}
use Rattle.std.specs.Result.{result_ok}
use Rattle.line_words.specs.Line.{decimal_of}
use Rattle.std.proofs.lemmas.Str.{IsUtf8-from_ascii}
use Rattle.std.proofs.lemmas.Str.Parse.{IsDigitsTest, IsNumeralModel, digits_value_short, numerals_by_value, parse_gives}

digits_test : IsDigitsTest (λ ds. list_all is_ascii_digit ds ≡ true)
digits_test = search rules

digits_model : IsNumeralModel (λ ds. list_all is_ascii_digit ds ≡ true) (digits_value 10)
digits_model = numerals_by_value _ digits_test

pub digits_are_text : (ds : List ℕ) → list_all is_ascii_digit ds ≡ true → IsUtf8 ds
digits_are_text ds h = IsUtf8-from_ascii ds (ascii ds h)
  where
    ascii : (ds : List ℕ) → list_all is_ascii_digit ds ≡ true → IsAscii ds
    ascii [] h i = omega arith
    ascii (d ∷ ds) h zero = let r = digits_test.parts d ds h in omega arith
    ascii (d ∷ ds) h (suc i) = ascii ds (digits_test.parts d ds h).1 i

pub digits_parsed : {E : Type 0} (ds : List ℕ) (r : Result ℕ E) → ParsesUnsigned 64 10 ds r → list_all is_ascii_digit ds ≡ true
    → 1 ≤ length ds → length ds ≤ 10 → r ≡ Ok (digits_value 10 ds)
digits_parsed ds r h all some few =
    parse_gives digits_model 64 ds r h all (omega arith) (omega (arith, digits_value_short digits_model ds 10 all few))

decimal_there : (ds : List ℕ) → list_all is_ascii_digit ds ≡ true → 1 ≤ length ds → length ds ≤ 10 → decimal_of ds ≡ Some (digits_value 10 ds)
decimal_there ds all some few =
    let a : nat_le 1 (length ds) ≡ true = le-leb 1 (length ds) some in
    let b : nat_le (length ds) 10 ≡ true = le-leb (length ds) 10 few in
    simp (a, b, all)

pub never_no_text : {X E : Type 0} (r : Result X E) (ds : List ℕ) (P : X → Type 0) (Q : E → Type 0)
    → MatchResult r (λ s. P s × IsUtf8 ds) (λ e. (IsUtf8 ds → ⊥) × Q e) → list_all is_ascii_digit ds ≡ true → result_ok r ≡ None → ⊥
never_no_text (Ok s) ds P Q h all e = cc
never_no_text (Err f) ds P Q h all e = h.0 (digits_are_text ds all)

pub text_is : {X E : Type 0} (r : Result X E) (s : X) (ds : List ℕ) (bytes : X → List ℕ) (Q : E → Type 0)
    → MatchResult r (λ s. (bytes s ≡ ds) × IsUtf8 ds) Q → result_ok r ≡ Some s → bytes s ≡ ds
text_is (Ok t) s ds bytes Q h e = let k : t ≡ s = cc in subst (λ u. bytes u ≡ ds) k h.0
text_is (Err f) s ds bytes Q h e = absurd cc

pub decimal_parsed : {E : Type 0} (ds text : List ℕ) (r : Result ℕ E) → ParsesUnsigned 64 10 text r → text ≡ ds → list_all is_ascii_digit ds ≡ true
    → 1 ≤ length ds → length ds ≤ 10 → result_ok r ≡ decimal_of ds
decimal_parsed ds text r h same all some few =
    ap result_ok (digits_parsed ds r (subst (λ t. ParsesUnsigned 64 10 t r) same h) all some few) ∙ sym (decimal_there ds all some few)
