-- The words of a weave line, one after another.
use Rattle.std.proofs.Common.{◌≡◌, ◌∷◌, ◌++◌, ◌∙◌, ◌&&◌, ℕ, Bool, true, false, List, [], Option, Some, None, Result, Ok, Err, refl, ap, sym}
use Rattle.std.proofs.Common.{if◌then◌else◌, not}
use Rattle.std.specs.Prelude.{nat_le}
use Rattle.std.specs.List.{list_all}
use Rattle.std.specs.Option.{option_map}
use Rattle.std.proofs.lemmas.List.{append_assoc}
use Rattle.run_file.specs.BenchText.{weave_of, weaves_of}
use Rattle.run_file.specs.EventLines.{need}
use Rattle.run_file.specs.OneWeave.{checked, one_weave}
use Rattle.run_file.specs.Parts.{BenchStream, has_stream}
use Rattle.run_file.specs.declared.fault.BenchWhy.{BenchWhy}
use Rattle.run_file.specs.declared.fault.BenchWhy.TheVariants.{Syntax, IdRange, Range}
use Rattle.run_file.specs.declared.line.Weave.{Weave}

-- what the words that are left give, where those before them gave these weaves, or one of them was not declared or not within its range
abbrev pub weave_on : List BenchStream → Bool → Bool → List Weave → List (List ℕ) → Result (List Weave) BenchWhy
weave_on streams declared within before words = need (weaves_of words) (λ ws.
    if not (declared && list_all (λ w. has_stream w.id streams) ws) then Err IdRange
    else if not (within && list_all (λ w. nat_le 1 w.count && nat_le w.count 1048576) ws) then Err Range
    else Ok (before ++ ws))

abbrev within_range : Weave → Bool
within_range w = nat_le 1 w.count && nat_le w.count 1048576

-- where one was not declared, the others and their counts do not matter; and where one was not within its range, its weave does not
undeclared_alike : (streams : List BenchStream) (c c' : Bool) (before before' : List Weave) (words : List (List ℕ))
    → weave_on streams false c before words ≡ weave_on streams false c' before' words
undeclared_alike streams c c' before before' words = by (weaves_of words)
  where
    by : (o : Option (List Weave))
        → need o (λ ws. if not (false && list_all (λ w. has_stream w.id streams) ws) then Err IdRange
        else if not (c && list_all within_range ws) then Err Range else Ok (before ++ ws))
        ≡ need o (λ ws. if not (false && list_all (λ w. has_stream w.id streams) ws) then Err IdRange
        else if not (c' && list_all within_range ws) then Err Range else Ok (before' ++ ws))
    by None = refl
    by (Some ws) = refl

without_alike : (streams : List BenchStream) (d : Bool) (before before' : List Weave) (words : List (List ℕ))
    → weave_on streams d false before words ≡ weave_on streams d false before' words
without_alike streams d before before' words = by (weaves_of words)
  where
    by : (o : Option (List Weave))
        → need o (λ ws. if not (d && list_all (λ w. has_stream w.id streams) ws) then Err IdRange
        else if not (false && list_all within_range ws) then Err Range else Ok (before ++ ws))
        ≡ need o (λ ws. if not (d && list_all (λ w. has_stream w.id streams) ws) then Err IdRange
        else if not (false && list_all within_range ws) then Err Range else Ok (before' ++ ws))
    by None = refl
    by (Some ws) = refl

-- what the two tests of a weave told
pub record IsTold (h r : Bool) (w : Weave) (result : Result Weave BenchWhy) : Type 0 where
  pub ok : (v : Weave) → result ≡ Ok v → (h ≡ true) × (r ≡ true) × (w ≡ v)
  pub undeclared : result ≡ Err IdRange → h ≡ false
  pub without : result ≡ Err Range → (h ≡ true) × (r ≡ false)
  pub others : (why : BenchWhy) → result ≡ Err why → (why ≡ IdRange → ⊥) → (why ≡ Range → ⊥) → ⊥

told_by : (h r : Bool) (w : Weave) → IsTold h r w (if not h then Err IdRange else if not r then Err Range else Ok w)
told_by true true w = record { ok = λ v e. (refl, refl, cc); undeclared = λ e. absurd cc; without = λ e. absurd cc; others = λ why e _ _. absurd cc }
told_by true false w = record { ok = λ v e. absurd cc; undeclared = λ e. absurd cc; without = λ e. (refl, refl); others = λ why e _ n. n cc }
told_by false r w = record { ok = λ v e. absurd cc; undeclared = λ e. refl; without = λ e. absurd cc; others = λ why e n _. n cc }

and_true : (b : Bool) → (b && true) ≡ b
and_true true = refl
and_true false = refl

and_false : (b : Bool) → (b && false) ≡ false
and_false true = refl
and_false false = refl

module _ (streams : List BenchStream) (word : List ℕ) (words : List (List ℕ)) where
  read_on : (d c : Bool) (before : List Weave) (w : Weave) → weave_of word ≡ Some w
      → weave_on streams d c before (word ∷ words)
      ≡ weave_on streams (d && has_stream w.id streams) (c && within_range w) (before ++ w ∷ []) words
  read_on d c before w e = rw e (by d c (weaves_of words))
    where
      by : (d c : Bool) (o : Option (List Weave))
          → need (option_map (λ (ws : List Weave). w ∷ ws) o) (λ ws. if not (d && list_all (λ w. has_stream w.id streams) ws) then Err IdRange
          else if not (c && list_all within_range ws) then Err Range else Ok (before ++ ws))
          ≡ need o (λ ws. if not ((d && has_stream w.id streams) && list_all (λ w. has_stream w.id streams) ws) then Err IdRange
          else if not ((c && within_range w) && list_all within_range ws) then Err Range else Ok ((before ++ w ∷ []) ++ ws))
      by d c None = refl
      by true true (Some ws) =
          ap (λ (all : List Weave). if not (list_all (λ w. has_stream w.id streams) (w ∷ ws)) then Err IdRange
          else if not (list_all within_range (w ∷ ws)) then Err Range else Ok all) (sym (append_assoc before (w ∷ []) ws))
      by true false (Some ws) = refl
      by false c (Some ws) = refl

  pub ok_on : (d c : Bool) (before : List Weave) (v : Weave) → one_weave streams word ≡ Ok v
      → weave_on streams d c before (word ∷ words) ≡ weave_on streams d c (before ++ v ∷ []) words
  ok_on d c before v h = by (weave_of word) refl h
    where
      by : (o : Option Weave) → weave_of word ≡ o → need o (checked streams) ≡ Ok v
          → weave_on streams d c before (word ∷ words) ≡ weave_on streams d c (before ++ v ∷ []) words
      by None e h = absurd cc
      by (Some w) e h =
          let t = (told_by (has_stream w.id streams) (within_range w) w).ok v h in
          read_on d c before w e
          ∙ ap (λ (b : Bool). weave_on streams (d && b) (c && within_range w) (before ++ w ∷ []) words) t.0
          ∙ ap (λ (b : Bool). weave_on streams (d && true) (c && b) (before ++ w ∷ []) words) t.1
          ∙ ap (λ (b : Bool). weave_on streams b (c && true) (before ++ w ∷ []) words) (and_true d)
          ∙ ap (λ (b : Bool). weave_on streams d b (before ++ w ∷ []) words) (and_true c)
          ∙ ap (λ (u : Weave). weave_on streams d c (before ++ u ∷ []) words) t.2

  pub undeclared_on : (d c : Bool) (before : List Weave) → one_weave streams word ≡ Err IdRange
      → weave_on streams d c before (word ∷ words) ≡ weave_on streams false c before words
  undeclared_on d c before h = by (weave_of word) refl h
    where
      by : (o : Option Weave) → weave_of word ≡ o → need o (checked streams) ≡ Err IdRange
          → weave_on streams d c before (word ∷ words) ≡ weave_on streams false c before words
      by None e h = absurd cc
      by (Some w) e h =
          let t = (told_by (has_stream w.id streams) (within_range w) w).undeclared h in
          read_on d c before w e
          ∙ ap (λ (b : Bool). weave_on streams (d && b) (c && within_range w) (before ++ w ∷ []) words) t
          ∙ ap (λ (b : Bool). weave_on streams b (c && within_range w) (before ++ w ∷ []) words) (and_false d)
          ∙ undeclared_alike streams (c && within_range w) c (before ++ w ∷ []) before words

  pub without_on : (d c : Bool) (before : List Weave) → one_weave streams word ≡ Err Range
      → weave_on streams d c before (word ∷ words) ≡ weave_on streams d false before words
  without_on d c before h = by (weave_of word) refl h
    where
      by : (o : Option Weave) → weave_of word ≡ o → need o (checked streams) ≡ Err Range
          → weave_on streams d c before (word ∷ words) ≡ weave_on streams d false before words
      by None e h = absurd cc
      by (Some w) e h =
          let t = (told_by (has_stream w.id streams) (within_range w) w).without h in
          read_on d c before w e
          ∙ ap (λ (b : Bool). weave_on streams (d && b) (c && within_range w) (before ++ w ∷ []) words) t.0
          ∙ ap (λ (b : Bool). weave_on streams (d && true) (c && b) (before ++ w ∷ []) words) t.1
          ∙ ap (λ (b : Bool). weave_on streams b (c && false) (before ++ w ∷ []) words) (and_true d)
          ∙ ap (λ (b : Bool). weave_on streams d b (before ++ w ∷ []) words) (and_false c)
          ∙ without_alike streams d (before ++ w ∷ []) before words

  pub syntax_on : (d c : Bool) (before : List Weave) (why : BenchWhy) → one_weave streams word ≡ Err why
      → (why ≡ IdRange → ⊥) → (why ≡ Range → ⊥) → weave_on streams d c before (word ∷ words) ≡ Err why
  syntax_on d c before why h n m = by (weave_of word) refl h
    where
      by : (o : Option Weave) → weave_of word ≡ o → need o (checked streams) ≡ Err why → weave_on streams d c before (word ∷ words) ≡ Err why
      by None e h = let same : Syntax ≡ why = cc in rw e (ap Err same)
      by (Some w) e h = absurd ((told_by (has_stream w.id streams) (within_range w) w).others why h n m)
