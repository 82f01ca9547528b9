-- What a word that is taken was.
use Rattle.std.proofs.Common.{◌≡◌, ◌⊎◌, ℕ, ◌==◌, Bool, true, false, List, [], ◌∷◌, ◌++◌, codes, Option, Some, None, find, zero, suc}
use Rattle.std.proofs.Common.{refl, sym, ap, subst, ◌∙◌, inl, inr, arith}
use Rattle.std.proofs.lemmas.Bool.Decides.{nat_tests}
use Rattle.std.proofs.lemmas.Grind.{common_steps}
use Rattle.std.proofs.lemmas.Slice.Eq.{bytes_eq-Decides}
use Rattle.std.specs.Option.{option_and_then}
use Rattle.std.specs.Str.{bytes_eq}
use Rattle.clap.proofs.CutLemmas.{Lacks}
use Rattle.clap.proofs.LexerLemmas.{name_and_value-at, name_and_value-without}
use Rattle.command_words.specs.declared.words.CommandOption.{CommandOption}
use Rattle.command_words.specs.CommandLines.{word_of}
use Rattle.command_words.specs.Words.{CommandRow, Seen, behind_dash, is_dashed, is_seen, name_and_value, name_of, takes_value}
use Rattle.command_words.specs.Words.{with_dashed, with_named, with_option, with_positional, with_value, with_word}

-- ---- the text behind `--`

pub Lacks-cons : (c x : ℕ) (xs : List ℕ) → (x == c) ≡ false → Lacks c xs → Lacks c (x ∷ xs)
Lacks-cons c x xs differ rest zero within = λ same. absurd (grind (arith, nat_tests, same))
Lacks-cons c x xs differ rest (suc i) within = rest i (grind (arith, common_steps))

-- a text has no `=`, or is split at the first
abbrev pub IsSplit : List ℕ → Type 0
IsSplit text =
    (name_and_value text ≡ (text, None))
    ⊎ ((name : List ℕ) × (value : List ℕ) × (text ≡ name ++ 61 ∷ value) × (name_and_value text ≡ (name, Some value)))

-- the same at any byte
abbrev pub Split : ℕ → List ℕ → Type 0
Split byte text = Lacks byte text ⊎ ((front : List ℕ) × (behind : List ℕ) × (text ≡ front ++ byte ∷ behind) × Lacks byte front)

split_by : (byte c : ℕ) (rest : List ℕ) (b : Bool) → (c == byte) ≡ b → Split byte rest → Split byte (c ∷ rest)
split_by byte c rest true is behind =
    let same : c ≡ byte = grind (arith, nat_tests) in inr ([], rest, ap (λ (x : ℕ). x ∷ rest) same, λ i within. absurd (omega arith))
split_by byte c rest false is (inl lacks) = inl (Lacks-cons byte c rest is lacks)
split_by byte c rest false is (inr p) = inr (c ∷ p.0, p.1, ap (λ (r : List ℕ). c ∷ r) p.2, Lacks-cons byte c p.0 is p.3)

pub split : (byte : ℕ) (text : List ℕ) → Split byte text
split byte [] = inl (λ i within. absurd (omega arith))
split byte (c ∷ rest) = split_by byte c rest (c == byte) refl (split byte rest)

pub is_split : (text : List ℕ) → IsSplit text
is_split text = elim (split 61 text) [
  | inl lacks ↦ inl (name_and_value-without text lacks)
  | inr p ↦ inr (p.0, p.1, p.2, ap name_and_value p.2 ∙ name_and_value-at p.0 p.1 p.3)
]

-- the command has the option
abbrev pub Has : CommandRow → CommandOption → Type 0
Has row o = find (λ p. bytes_eq (name_of o) (name_of p)) row.options ≡ Some o

found_by : (name : List ℕ) (p : CommandOption) (os : List CommandOption) (o : CommandOption) (b : Bool) → bytes_eq name (name_of p) ≡ b
    → (find (λ q. bytes_eq name (name_of q)) os ≡ Some o → name ≡ name_of o)
    → find (λ q. bytes_eq name (name_of q)) (p ∷ os) ≡ Some o → name ≡ name_of o
found_by name p os o true is rest e =
    let same : p ≡ o = let f = simp is at e in cc in (bytes_eq-Decides name (name_of p)).0 is ∙ ap name_of same
found_by name p os o false is rest e = rest (simp is at e)

-- an option that is found by a name has it
pub found_is : (name : List ℕ) (os : List CommandOption) (o : CommandOption) → find (λ q. bytes_eq name (name_of q)) os ≡ Some o → name ≡ name_of o
found_is name [] o e = absurd cc
found_is name (p ∷ os) o e = found_by name p os o (bytes_eq name (name_of p)) refl (found_is name os o) e

pub has_found : (row : CommandRow) (name : List ℕ) (o : CommandOption) → find (λ q. bytes_eq name (name_of q)) row.options ≡ Some o → Has row o
has_found row name o e =
    subst (λ (n : List ℕ). find (λ q. bytes_eq n (name_of q)) row.options ≡ Some o) (found_is name row.options o e) e

dash_by : (byte : ℕ) (rest text : List ℕ) (b : Bool) → (byte == 45) ≡ b → behind_dash (byte ∷ rest) ≡ Some text → byte ∷ rest ≡ 45 ∷ text
dash_by byte rest text true is e =
    let same : byte ≡ 45 = grind (arith, nat_tests) in let behind : rest ≡ text = let f = simp is at e in cc in (λ i. same i ∷ behind i)
dash_by byte rest text false is e = let f = simp is at e in absurd cc

one_dash : (word text : List ℕ) → behind_dash word ≡ Some text → word ≡ 45 ∷ text
one_dash [] text e = absurd cc
one_dash (byte ∷ rest) text e = dash_by byte rest text (byte == 45) refl e

dashes_by : (word text : List ℕ) (behind : Option (List ℕ)) → behind_dash word ≡ behind → option_and_then behind_dash behind ≡ Some text
    → word ≡ 45 ∷ 45 ∷ text
dashes_by word text None is e = absurd cc
dashes_by word text (Some rest) is e = one_dash word rest is ∙ ap (λ (r : List ℕ). 45 ∷ r) (one_dash rest text e)

pub two_dashes : (word text : List ℕ) → option_and_then behind_dash (behind_dash word) ≡ Some text → word ≡ 45 ∷ 45 ∷ text
two_dashes word text e = dashes_by word text (behind_dash word) refl e

-- ---- a word that is taken

pub data Turn (row : CommandRow) (seen : Seen) (word : List ℕ) (next : Seen) : Type 0 where
  -- the end of the options
  Ends : seen.ended ≡ false → seen.waits ≡ None → word ≡ codes "--" → record seen { ended = true } ≡ next → Turn row seen word next
  -- an option that takes the next word
  Waits : (o : CommandOption) → seen.ended ≡ false → seen.waits ≡ None → Has row o → takes_value o ≡ true → is_seen o seen ≡ false
      → word ≡ word_of o → record seen { waits = Some o } ≡ next → Turn row seen word next
  -- an option with its value
  Joins : (o : CommandOption) → (value : List ℕ) → seen.ended ≡ false → seen.waits ≡ None → Has row o → takes_value o ≡ true → is_seen o seen ≡ false
      → word ≡ word_of o ++ 61 ∷ value → with_value o value seen ≡ next → Turn row seen word next
  -- a flag
  Flags : (o : CommandOption) → seen.ended ≡ false → seen.waits ≡ None → Has row o → takes_value o ≡ false → is_seen o seen ≡ false
      → word ≡ word_of o → with_value o [] seen ≡ next → Turn row seen word next
  -- the value of the option that waits
  Values : (o : CommandOption) → seen.ended ≡ false → seen.waits ≡ Some o → is_dashed word ≡ false → with_value o word seen ≡ next → Turn row seen word next
  -- the positional
  Positionals : seen.waits ≡ None → (seen.ended ≡ true) ⊎ (is_dashed word ≡ false) → row.has_positional ≡ true → seen.positional ≡ None
      → record seen { positional = Some word } ≡ next → Turn row seen word next

positional_by : (row : CommandRow) (seen : Seen) (word : List ℕ) (next : Seen) (b : Bool) (positional : Option (List ℕ))
    → row.has_positional ≡ b → seen.positional ≡ positional
    → with_positional row word seen ≡ Some next → (row.has_positional ≡ true) × (seen.positional ≡ None) × (record seen { positional = Some word } ≡ next)
positional_by row seen word next false positional has is e = let f : with_positional row word seen ≡ None = simp has in absurd (let g = sym f ∙ e in cc)
positional_by row seen word next true (Some v) has is e = let f : with_positional row word seen ≡ None = simp (has, is) in absurd (let g = sym f ∙ e in cc)
positional_by row seen word next true None has is e =
    let f : with_positional row word seen ≡ Some (record seen { positional = Some word }) = simp (has, is) in (has, is, let g = sym f ∙ e in cc)

option_none : (row : CommandRow) (seen : Seen) (word : List ℕ) (next : Seen) (o : CommandOption) (b t : Bool) → is_seen o seen ≡ b → takes_value o ≡ t
    → seen.ended ≡ false → seen.waits ≡ None → Has row o → word ≡ word_of o → with_option o None seen ≡ Some next → Turn row seen word next
option_none row seen word next o true t is takes on free has spelled e =
    let f : with_option o None seen ≡ None = simp is in absurd (let g = sym f ∙ e in cc)
option_none row seen word next o false true is takes on free has spelled e =
    let f : with_option o None seen ≡ Some (record seen { waits = Some o }) = simp (is, takes) in
    Waits o on free has takes is spelled (let g = sym f ∙ e in cc)
option_none row seen word next o false false is takes on free has spelled e =
    let f : with_option o None seen ≡ Some (with_value o [] seen) = simp (is, takes) in
    Flags o on free has takes is spelled (let g = sym f ∙ e in cc)

option_some : (row : CommandRow) (seen : Seen) (word : List ℕ) (next : Seen) (o : CommandOption) (value : List ℕ) (b t : Bool) → is_seen o seen ≡ b
    → takes_value o ≡ t → seen.ended ≡ false → seen.waits ≡ None → Has row o → word ≡ word_of o ++ 61 ∷ value
    → with_option o (Some value) seen ≡ Some next → Turn row seen word next
option_some row seen word next o value true t is takes on free has spelled e =
    let f : with_option o (Some value) seen ≡ None = simp is in absurd (let g = sym f ∙ e in cc)
option_some row seen word next o value false true is takes on free has spelled e =
    let f : with_option o (Some value) seen ≡ Some (with_value o value seen) = simp (is, takes) in
    Joins o value on free has takes is spelled (let g = sym f ∙ e in cc)
option_some row seen word next o value false false is takes on free has spelled e =
    let f : with_option o (Some value) seen ≡ None = simp (is, takes) in absurd (let g = sym f ∙ e in cc)

-- the option is found by the name that was split off
named_by : (row : CommandRow) (seen : Seen) (text : List ℕ) (next : Seen) (name : List ℕ) (value : Option (List ℕ)) (found : Option CommandOption)
    → name_and_value text ≡ (name, value) → find (λ q. bytes_eq name (name_of q)) row.options ≡ found → with_named row text seen ≡ Some next
    → (o : CommandOption) × (found ≡ Some o) × (with_option o value seen ≡ Some next)
named_by row seen text next name value None is find_is e =
    let f : with_named row text seen ≡ None =
    ap (λ (w : List ℕ × Option (List ℕ)). option_and_then (λ o. with_option o w.1 seen) (find (λ o. bytes_eq w.0 (name_of o)) row.options)) is
    ∙ ap (option_and_then (λ o. with_option o value seen)) find_is in absurd (let g = sym f ∙ e in cc)
named_by row seen text next name value (Some o) is find_is e =
    let f : with_named row text seen ≡ with_option o value seen =
    ap (λ (w : List ℕ × Option (List ℕ)). option_and_then (λ o. with_option o w.1 seen) (find (λ o. bytes_eq w.0 (name_of o)) row.options)) is
    ∙ ap (option_and_then (λ o. with_option o value seen)) find_is in (o, refl, sym f ∙ e)

named_turn : (row : CommandRow) (seen : Seen) (word text : List ℕ) (next : Seen) → seen.ended ≡ false → seen.waits ≡ None → word ≡ 45 ∷ 45 ∷ text
    → with_named row text seen ≡ Some next → Turn row seen word next
named_turn row seen word text next on free spelled e = elim (is_split text) [
  | inl whole ↦
      let there = named_by row seen text next text None (find (λ q. bytes_eq text (name_of q)) row.options) whole refl e in
      let o = there.0 in let name = found_is text row.options o there.1 in
      option_none row seen word next o (is_seen o seen) (takes_value o) refl refl on free (has_found row text o there.1)
      (spelled ∙ ap (λ (t : List ℕ). 45 ∷ 45 ∷ t) name) there.2
  | inr p ↦
      let there = named_by row seen text next p.0 (Some p.1) (find (λ q. bytes_eq p.0 (name_of q)) row.options) p.3 refl e in
      let o = there.0 in let name = found_is p.0 row.options o there.1 in
      option_some row seen word next o p.1 (is_seen o seen) (takes_value o) refl refl on free (has_found row p.0 o there.1)
      (spelled ∙ ap (λ (t : List ℕ). 45 ∷ 45 ∷ t) (p.2 ∙ ap (λ (n : List ℕ). n ++ 61 ∷ p.1) name)) there.2
]

behind_by : (row : CommandRow) (seen : Seen) (word : List ℕ) (next : Seen) (text : Option (List ℕ)) → option_and_then behind_dash (behind_dash word) ≡ text
    → seen.ended ≡ false → seen.waits ≡ None → option_and_then (λ t. with_named row t seen) text ≡ Some next → Turn row seen word next
behind_by row seen word next None is on free e = absurd cc
behind_by row seen word next (Some text) is on free e = named_turn row seen word text next on free (two_dashes word text is) e

dashed_by : (row : CommandRow) (seen : Seen) (word : List ℕ) (next : Seen) (b : Bool) → bytes_eq word (codes "--") ≡ b → seen.ended ≡ false
    → seen.waits ≡ None → with_dashed row word seen ≡ Some next → Turn row seen word next
dashed_by row seen word next true is on free e =
    let f : with_dashed row word seen ≡ Some (record seen { ended = true }) = simp is in
    Ends on free ((bytes_eq-Decides word (codes "--")).0 is) (let g = sym f ∙ e in cc)
dashed_by row seen word next false is on free e =
    let f : with_dashed row word seen ≡ option_and_then (λ t. with_named row t seen) (option_and_then behind_dash (behind_dash word)) = simp is in
    behind_by row seen word next (option_and_then behind_dash (behind_dash word)) refl on free (sym f ∙ e)

turn_by : (row : CommandRow) (seen : Seen) (word : List ℕ) (next : Seen) (ended dashed : Bool) (waits : Option CommandOption) → seen.ended ≡ ended
    → is_dashed word ≡ dashed → seen.waits ≡ waits → (ended ≡ true → waits ≡ None) → with_word row word seen ≡ Some next → Turn row seen word next
turn_by row seen word next true dashed (Some o) x y z once e = absurd (let f = once refl in cc)
turn_by row seen word next true dashed None x y z once e =
    let f : with_word row word seen ≡ with_positional row word seen = simp (x, z) in
    let i = positional_by row seen word next row.has_positional seen.positional refl refl (sym f ∙ e) in Positionals z (inl x) i.0 i.1 i.2
turn_by row seen word next false false None x y z once e =
    let f : with_word row word seen ≡ with_positional row word seen = simp (x, y, z) in
    let i = positional_by row seen word next row.has_positional seen.positional refl refl (sym f ∙ e) in Positionals z (inr y) i.0 i.1 i.2
turn_by row seen word next false false (Some o) x y z once e =
    let f : with_word row word seen ≡ Some (with_value o word seen) = simp (x, y, z) in Values o x z y (let g = sym f ∙ e in cc)
turn_by row seen word next false true (Some o) x y z once e =
    let f : with_word row word seen ≡ None = simp (x, y, z) in absurd (let g = sym f ∙ e in cc)
turn_by row seen word next false true None x y z once e =
    let f : with_word row word seen ≡ with_dashed row word seen = simp (x, y, z) in
    dashed_by row seen word next (bytes_eq word (codes "--")) refl x z (sym f ∙ e)

-- a word that is taken, where no option waits behind `--`
pub turn : (row : CommandRow) (seen : Seen) (word : List ℕ) (next : Seen) → (seen.ended ≡ true → seen.waits ≡ None) → with_word row word seen ≡ Some next
    → Turn row seen word next
turn row seen word next once e = turn_by row seen word next seen.ended (is_dashed word) seen.waits refl refl refl once e
