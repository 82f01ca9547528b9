-- A test of UTF-8.
use Rattle.std.proofs.Common.{◌≡◌, ℕ, List, Result, Ok, Err, sym}
use Rattle.std.specs.Prelude.{MatchResult}
use Rattle.std.specs.Result.{is_ok}
use Rattle.std.specs.Str.{IsUtf8, is_utf8}
use Rattle.std.proofs.lemmas.Bool.{false_from_ne_true}
use Rattle.std.proofs.lemmas.Str.{IsUtf8-from_is_utf8, is_utf8-from_IsUtf8}

pub tells_utf8 : {X E : Type 0} (r : Result X E) (line : List ℕ) (P : X → Type 0) (Q : E → Type 0)
    → MatchResult r (λ s. P s × IsUtf8 line) (λ e. (IsUtf8 line → ⊥) × Q e) → is_ok r ≡ is_utf8 line
tells_utf8 (Ok s) line P Q h = sym (is_utf8-from_IsUtf8 line h.1)
tells_utf8 (Err e) line P Q h = sym (false_from_ne_true (is_utf8 line) (λ t. h.0 (IsUtf8-from_is_utf8 line t)))
