-- What holds of what is read, where it is read.
use Rattle.std.proofs.Common.{◌≡◌, ◌∷◌, ◌<◌, ◌≤◌, ◌^◌, ◌&&◌, ℕ, Bool, true, false, List, [], Option, Some, None, Result, Ok, Err, arith, refl, if◌then◌else◌}
use Rattle.std.specs.Prelude.{nat_le, nat_lt, ⊤, codes}
use Rattle.std.specs.Option.{option_and_then}
use Rattle.std.specs.Str.{bytes_eq}
use Rattle.std.proofs.lemmas.Bool.{and_parts, leb-true, ltb-true}
use Rattle.etm_types.specs.Settings.{FitsSettings, Sizes}
use Rattle.etm_types.specs.declared.context.Ctx.{Ctx}
use Rattle.line_words.specs.Line.{decimal_of, number_of}
use Rattle.line_words.proofs.Small.{number_fits}
use Rattle.spec_run.specs.RunAfter.{IsEvent}
use Rattle.spec_run.specs.declared.event.Event.{Event}
use Rattle.run_file.specs.EventLines.{address_of, alone, bare_of, context_of, count_of, described_of, event_of, exception_of, fits, fitting, in_range}
use Rattle.run_file.specs.EventLines.{need, only_number, only_word, place_of, single_by, single_of, steps_of, then_ok}
use Rattle.run_file.specs.declared.fault.BenchWhy.{BenchWhy}
use Rattle.run_file.specs.declared.line.Repeated.{Repeated}

-- P holds of what is read; of a fault, nothing is said
abbrev pub Good : {A : Type 0} → (A → Type 0) → Result A BenchWhy → Type 0
Good P (Ok a) = P a
Good P (Err why) = ⊤

pub choose : {A : Type 0} (P : A → Type 0) (b : Bool) (x y : A) → P x → P y → P (if b then x else y)
choose P true x y p q = p
choose P false x y p q = q

pub then_good : {A B : Type 0} (P : B → Type 0) (r : Result A BenchWhy) (more : A → Result B BenchWhy)
    → ((a : A) → r ≡ Ok a → Good P (more a)) → Good P (then_ok r more)
then_good P (Ok a) more h = h a refl
then_good P (Err why) more h = tt

pub need_good : {A B : Type 0} (P : B → Type 0) (o : Option A) (more : A → Result B BenchWhy)
    → ((a : A) → o ≡ Some a → Good P (more a)) → Good P (need o more)
need_good P (Some a) more h = h a refl
need_good P None more h = tt

pub range_good : {A : Type 0} (P : A → Type 0) (b : Bool) (a : A) → (b ≡ true → P a) → Good P (in_range b a)
range_good P true a h = h refl
range_good P false a h = tt

-- what is read is good where it is read
pub good_of : {A : Type 0} (P : A → Type 0) (r : Result A BenchWhy) (a : A) → Good P r → r ≡ Ok a → P a
good_of P (Ok b) a h e = let same : b ≡ a = cc in rw (← same) h
good_of P (Err why) a h e = absurd cc

-- the words of events

fits_told : (s : Sizes) (ctx : Ctx) → fits s ctx ≡ true → FitsSettings s ctx
fits_told s ctx h =
    let a = and_parts _ _ h in
    let b = and_parts _ _ a.0 in
    record { el = leb-true ctx.el 3 b.0; vmid = ltb-true ctx.vmid (256 ^ s.vmid_bytes) b.1; cid = ltb-true ctx.cid (256 ^ s.cid_bytes) a.1 }

fitting_good : (s : Sizes) (words : List (List ℕ)) → Good (FitsSettings s) (fitting s words)
fitting_good s words = then_good (FitsSettings s) (context_of words) _ (λ ctx e. range_good (FitsSettings s) (fits s ctx) ctx (fits_told s ctx))

abbrev IsPlaceIn : Sizes → ℕ × Ctx → Type 0
IsPlaceIn s place = (place.0 < 2 ^ 64) × FitsSettings s place.1

place_good : (s : Sizes) (words : List (List ℕ)) → Good (IsPlaceIn s) (place_of s words)
place_good s [] = tt
place_good s (addr ∷ words) =
    need_good (IsPlaceIn s) (number_of addr) _ (λ a e. then_good (IsPlaceIn s) (fitting s words) _ (λ ctx f.
    (number_fits addr a e, good_of (FitsSettings s) (fitting s words) ctx (fitting_good s words) f)))

address_good : (words : List (List ℕ)) → Good (λ (n : ℕ). n < 2 ^ 64) (address_of words)
address_good words = by (only_word words)
  where
    by : (o : Option (List ℕ)) → Good (λ (n : ℕ). n < 2 ^ 64) (need (option_and_then number_of o) Ok)
    by (Some word) = need_good (λ (n : ℕ). n < 2 ^ 64) (number_of word) Ok (λ n e. number_fits word n e)
    by None = tt

exception_good : (s : Sizes) (words : List (List ℕ)) → Good (IsEvent s) (exception_of s words)
exception_good s [] = tt
exception_good s (kind ∷ []) = tt
exception_good s (kind ∷ addr ∷ words) =
    need_good (IsEvent s) (decimal_of kind) _ (λ k _. need_good (IsEvent s) (number_of addr) _ (λ a e. then_good (IsEvent s) (context_of words) _ (λ ctx _.
    range_good (IsEvent s) (nat_lt k 32 && fits s ctx) _ (λ both.
    let parts = and_parts _ _ both in (ltb-true k 32 parts.0, number_fits addr a e, fits_told s ctx parts.1)))))

abbrev IsCount : ℕ → Type 0
IsCount n = (0 < n) × (n ≤ 65535)

count_good : (words : List (List ℕ)) → Good IsCount (count_of words)
count_good words =
    need_good IsCount (only_number words) _ (λ n _. range_good IsCount (nat_le 1 n && nat_le n 65535) n (λ both.
    let parts = and_parts _ _ both in (leb-true 1 n parts.0, leb-true n 65535 parts.1)))

steps_good : (words : List (List ℕ)) → Good IsCount (steps_of words)
steps_good [] = (omega arith, omega arith)
steps_good (word ∷ words) = count_good (word ∷ words)

alone_good : (s : Sizes) (e : Event) (words : List (List ℕ)) → IsEvent s e → Good (IsEvent s) (alone e words)
alone_good s e [] h = h
alone_good s e (word ∷ words) h = tt

abbrev GoodBare : Sizes → Option Event → Type 0
GoodBare s (Some e) = IsEvent s e
GoodBare s None = ⊤

bare_good : (s : Sizes) (word : List ℕ) → GoodBare s (bare_of word)
bare_good s word =
    choose (GoodBare s) (bytes_eq word (codes "taken")) _ _ tt (
    choose (GoodBare s) (bytes_eq word (codes "not")) _ _ tt (
    choose (GoodBare s) (bytes_eq word (codes "flip")) _ _ tt (
    choose (GoodBare s) (bytes_eq word (codes "sync")) _ _ tt (
    choose (GoodBare s) (bytes_eq word (codes "overflow")) _ _ tt (
    choose (GoodBare s) (bytes_eq word (codes "off")) _ _ tt tt)))))

described_good : (s : Sizes) (word : List ℕ) (words : List (List ℕ)) → Good (IsEvent s) (described_of s word words)
described_good s word words =
    let placed : (e : ℕ → Ctx → Event) → ((a : ℕ) (ctx : Ctx) → IsPlaceIn s (a, ctx) → IsEvent s (e a ctx))
    → Good (IsEvent s) (then_ok (place_of s words) (λ place. Ok (e place.0 place.1))) =
    λ e h. then_good (IsEvent s) (place_of s words) _ (λ place f. h place.0 place.1 (good_of (IsPlaceIn s) (place_of s words) place (place_good s words) f)) in
    choose (Good (IsEvent s)) (bytes_eq word (codes "on")) _ _ (placed _ (λ a ctx h. h)) (
    choose (Good (IsEvent s)) (bytes_eq word (codes "to")) _ _
    (then_good (IsEvent s) (address_of words) _ (λ a f. good_of (λ (n : ℕ). n < 2 ^ 64) (address_of words) a (address_good words) f)) (
    choose (Good (IsEvent s)) (bytes_eq word (codes "eret")) _ _ (placed _ (λ a ctx h. h)) (
    choose (Good (IsEvent s)) (bytes_eq word (codes "exc")) _ _ (exception_good s words) (
    choose (Good (IsEvent s)) (bytes_eq word (codes "context")) _ _
    (then_good (IsEvent s) (fitting s words) _ (λ ctx f. good_of (FitsSettings s) (fitting s words) ctx (fitting_good s words) f)) (
    choose (Good (IsEvent s)) (bytes_eq word (codes "retire")) _ _ (then_good (IsEvent s) (count_of words) _ (λ n f. tt)) (
    choose (Good (IsEvent s)) (bytes_eq word (codes "cancel")) _ _ (then_good (IsEvent s) (count_of words) _ (λ n f. tt)) tt))))))

single_good : (s : Sizes) (word : List ℕ) (words : List (List ℕ)) → Good (IsEvent s) (single_of s word words)
single_good s word words = by (bare_of word) (bare_good s word)
  where
    by : (o : Option Event) → GoodBare s o → Good (IsEvent s) (single_by s word words o)
    by (Some e) h = alone_good s e words h
    by None h = described_good s word words

pub record IsRepeated (s : Sizes) (r : Repeated) : Type 0 where
  pub event : IsEvent s r.event
  pub some : 0 < r.times
  pub few : r.times ≤ 65535

pub event_good : (s : Sizes) (word : List ℕ) (words : List (List ℕ)) → Good (IsRepeated s) (event_of s word words)
event_good s word words =
    choose (Good (IsRepeated s)) (bytes_eq word (codes "step")) _ _
    (then_good (IsRepeated s) (steps_of words) _ (λ n f.
    let h = good_of IsCount (steps_of words) n (steps_good words) f in record { event = tt; some = h.0; few = h.1 }))
    (then_good (IsRepeated s) (single_of s word words) _ (λ e f.
    record { event = good_of (IsEvent s) (single_of s word words) e (single_good s word words) f; some = omega arith; few = omega arith }))
