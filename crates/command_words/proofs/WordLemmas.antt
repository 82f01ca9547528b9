-- Words, numbers and sizes.
use Rattle.std.proofs.Common.{◌≡◌, ℕ, Bool, nat_le, ◌<◌, ◌≤◌, true, false, List, [], ◌∷◌, Option, Some, None, IfSome, Result, Ok, Err, find, String, string_bytes}
use Rattle.std.proofs.Common.{◌&&◌, length, drop, get_or, ◌+◌, add-one, refl, sym, ap, subst, ◌∙◌, arith}
use Rattle.std.proofs.Math.Seq.{drop-cons}
use Rattle.std.proofs.lemmas.List.{drop-map}
use Rattle.std.specs.Option.{option_map, option_and_then}
use Rattle.std.specs.Result.{OkIff, result_ok}
use Rattle.etm_types.specs.Settings.{Sizes, AreSettings, is_vmid_size, is_cid_size, most_depth}
use Rattle.etm_types.specs.declared.settings.SettingsFault.{SettingsFault}
use Rattle.etm_types.specs.declared.settings.SettingsFault.TheVariants.{DepthRange, SizeRange}
use Rattle.clap.specs.Lexer.{strip_byte}
use Rattle.std.specs.Str.{bytes_eq}
use Rattle.command_words.specs.declared.words.CommandOption.{CommandOption}
use Rattle.command_words.specs.Lists.{sizes_of}
use Rattle.command_words.specs.Words.{CommandRow, Seen, behind_dash, name_and_value, name_of, seen_of, texts, with_named, with_option, with_word}
use Rattle.std.proofs.lemmas.Bool.Decides.{nat_tests}

pub strip_dash : (word : List ℕ) → strip_byte 45 word ≡ behind_dash word
strip_dash [] = refl
strip_dash (byte ∷ rest) = refl

-- an option that is found by its name
pub named : (row : CommandRow) (text : List ℕ) (seen : Seen) (w : List ℕ × Option (List ℕ)) (o : CommandOption) (r : Option Seen)
    → w ≡ name_and_value text → find (λ p. bytes_eq w.0 (name_of p)) row.options ≡ Some o → r ≡ with_option o w.1 seen → r ≡ with_named row text seen
named row text seen w o r cut found is =
    let there : find (λ p. bytes_eq (name_and_value text).0 (name_of p)) row.options ≡ Some o =
    subst (λ (v : List ℕ × Option (List ℕ)). find (λ p. bytes_eq v.0 (name_of p)) row.options ≡ Some o) cut found in
    is ∙ (ap (λ (v : List ℕ × Option (List ℕ)). with_option o v.1 seen) cut
    ∙ sym (ap (option_and_then (λ p. with_option p (name_and_value text).1 seen)) there))

-- the words from one on
pub word_at : {Z : Type 0} (words : List (String Z)) (i : ℕ) (d : String Z) → i < length words
    → drop i (texts words) ≡ string_bytes (get_or words i d) ∷ drop (i + 1) (texts words)
word_at words i d within = simp drop-map (rw (add-one, drop-cons words i d) refl)

-- the walk over the words from one on, by what is seen with it
pub one_more : {Z : Type 0} (row : CommandRow) (seen : Seen) (words : List (String Z)) (i : ℕ) (word : String Z) (text : List ℕ) (next : Option Seen)
    → i < length words → word ≡ get_or words i word → text ≡ string_bytes word → next ≡ with_word row text seen
    → seen_of row seen (drop i (texts words)) ≡ option_and_then (λ n. seen_of row n (drop (i + 1) (texts words))) next
one_more row seen words i word text next within is text_is next_is =
    let behind = drop (i + 1) (texts words) in let same : string_bytes (get_or words i word) ≡ text = ap string_bytes (sym is) ∙ sym text_is in
    ap (seen_of row seen) (word_at words i word within ∙ ap (λ (w : List ℕ). w ∷ behind) same)
    ∙ ap (option_and_then (λ n. seen_of row n behind)) (sym next_is)

-- settings of these numbers are there exactly where the numbers are sizes
by_tests : (a b e : Bool) (d v c : ℕ) (r : Result Sizes SettingsFault) → nat_le d most_depth ≡ a → is_vmid_size v ≡ b → is_cid_size c ≡ e
    → (d ≤ most_depth → is_vmid_size v ≡ true → is_cid_size c ≡ true → r ≡ Ok (record { depth = d; vmid_bytes = v; cid_bytes = c }))
    → (most_depth < d → r ≡ Err (DepthRange d)) → (d ≤ most_depth → is_vmid_size v ≡ false → r ≡ Err (SizeRange v))
    → (d ≤ most_depth → is_vmid_size v ≡ true → is_cid_size c ≡ false → r ≡ Err (SizeRange c)) → result_ok r ≡ sizes_of d v c
by_tests true true true d v c r x y z good deep vmid cid = rw (good (grind (arith, nat_tests, x)) y z) (simp (x, y, z))
by_tests true true false d v c r x y z good deep vmid cid = rw (cid (grind (arith, nat_tests, x)) y z) (simp (x, y, z))
by_tests true false e d v c r x y z good deep vmid cid = rw (vmid (grind (arith, nat_tests, x)) y) (simp (x, y))
by_tests false b e d v c r x y z good deep vmid cid = rw (deep (grind (arith, nat_tests, x))) (simp x)

pub sized : (d v c : ℕ) (r : Result Sizes SettingsFault)
    → (d ≤ most_depth → is_vmid_size v ≡ true → is_cid_size c ≡ true → r ≡ Ok (record { depth = d; vmid_bytes = v; cid_bytes = c }))
    → (most_depth < d → r ≡ Err (DepthRange d)) → (d ≤ most_depth → is_vmid_size v ≡ false → r ≡ Err (SizeRange v))
    → (d ≤ most_depth → is_vmid_size v ≡ true → is_cid_size c ≡ false → r ≡ Err (SizeRange c)) → result_ok r ≡ sizes_of d v c
sized d v c r = by_tests (nat_le d most_depth) (is_vmid_size v) (is_cid_size c) d v c r refl refl refl

pub converted : {E : Type 0} (P : Type 0) (r : Result ℕ E) (n m : ℕ) → OkIff r P n → Some m ≡ result_ok r → m ≡ n
converted P (Ok x) n m is e = let same : m ≡ x = cc in same ∙ is.1
converted P (Err x) n m is e = absurd cc

-- sizes are in range
within_by : (a b e : Bool) (d v c : ℕ) → nat_le d most_depth ≡ a → is_vmid_size v ≡ b → is_cid_size c ≡ e → IfSome (sizes_of d v c) AreSettings
within_by true true true d v c x y z = simp (x, y, z) (record { depth = grind (arith, nat_tests, x); vmid = y; cid = z })
within_by true true false d v c x y z = simp (x, y, z) tt
within_by true false e d v c x y z = simp (x, y) tt
within_by false b e d v c x y z = simp x tt

pub within : (d v c : ℕ) → IfSome (sizes_of d v c) AreSettings
within d v c = within_by (nat_le d most_depth) (is_vmid_size v) (is_cid_size c) d v c refl refl refl

-- what an option that is there was made of
pub then_some : {X Y : Type 0} (o : Option X) (f : X → Option Y) (y : Y) → option_and_then f o ≡ Some y → (x : X) × (o ≡ Some x) × (f x ≡ Some y)
then_some None f y e = absurd cc
then_some (Some x) f y e = (x, refl, e)

pub map_some : {X Y : Type 0} (o : Option X) (f : X → Y) (y : Y) → option_map f o ≡ Some y → (x : X) × (o ≡ Some x) × (f x ≡ y)
map_some None f y e = absurd cc
map_some (Some x) f y e = (x, refl, cc)

-- sizes that are there have these numbers, and are settings
pub sized_by : (d v c : ℕ) (s : Sizes) (b : Bool) → (nat_le d most_depth && is_vmid_size v && is_cid_size c) ≡ b → sizes_of d v c ≡ Some s
    → record { depth = d; vmid_bytes = v; cid_bytes = c } ≡ s
sized_by d v c s true is e = let f = simp is at e in cc
sized_by d v c s false is e = absurd (let f = simp is at e in cc)

pub sizes_there : (s : Sizes) → AreSettings s → sizes_of s.depth s.vmid_bytes s.cid_bytes ≡ Some s
sizes_there s are =
    let deep : nat_le s.depth most_depth ≡ true = grind (arith, nat_tests, are.depth) in let vmid : is_vmid_size s.vmid_bytes ≡ true = are.vmid in
    let cid : is_cid_size s.cid_bytes ≡ true = are.cid in simp (deep, vmid, cid)
