-- What words mean is how they are spelled.
use Rattle.std.proofs.Common.{◌≡◌, ◌==◌, ◌⊎◌, ◌&&◌, ℕ, Bool, true, false, nat_le, List, [], ◌∷◌, ◌++◌, All, find, if◌then◌else◌, codes}
use Rattle.std.proofs.Common.{Option, Some, None, is_some, IfSome, replicate, ◌≤◌, refl, sym, ap, subst, ◌∙◌, inl, inr, arith}
use Rattle.std.proofs.lemmas.Bool.Decides.{nat_tests}
use Rattle.std.proofs.lemmas.List.Elements.{All-nil, All-cons, All-head, All-tail}
use Rattle.std.proofs.lemmas.Slice.Eq.{bytes_eq-Decides}
use Rattle.std.specs.List.{slice_split}
use Rattle.std.specs.Option.{option_map, option_and_then}
use Rattle.std.specs.Str.{bytes_eq}
use Rattle.etm_types.specs.Settings.{Sizes, AreSettings, default_sizes, is_vmid_size, is_cid_size, most_depth}
use Rattle.line_words.specs.Line.{decimal_of}
use Rattle.command_words.specs.declared.words.CommandName.{CommandName}
use Rattle.command_words.specs.declared.words.CommandName.TheVariants as name
use Rattle.command_words.specs.declared.words.CommandOption.{CommandOption}
use Rattle.command_words.specs.declared.words.CommandOption.TheVariants as option
use Rattle.command_words.specs.declared.words.Layout.{Layout}
use Rattle.command_words.specs.declared.words.Layout.TheVariants.{Wrapped}
use Rattle.command_words.specs.declared.words.ProgramForm.{ProgramForm}
use Rattle.command_words.specs.Words.{Command, CommandRow, Counts, Intake, Packets, Path, Program, Retired, Seen, Selftest, Times, Trace, command_in}
use Rattle.command_words.specs.Words.{count_of, cut_of, form_by, intake_in, is_dashed, is_seen, is_whole, layout_by, layout_in, meaning, most_cut}
use Rattle.command_words.specs.Words.{most_every, most_last, most_number, most_wrap, name_of, nothing_seen, number_of, number_to, packets_options, path_by}
use Rattle.command_words.specs.Words.{path_options, program_in, retired_options, row, seen_of, selftest_options, sizes_in, takes_value, times_options}
use Rattle.command_words.specs.Words.{trace_options, units_in, with_dashed, with_option, with_value, with_word}
use Rattle.command_words.specs.declared.lists.Listed.{Listed}
use Rattle.command_words.specs.Lists.{is_comma, listed_in, nothing_listed, units_by}
use Rattle.command_words.specs.CommandLines.{Piece, Apart, Joined, Flag, Positional, AreUnits, IsCount, IsCounted, IsCut, IsEnd, IsForm, IsLayout, IsLine}
use Rattle.command_words.specs.CommandLines.{IsNumber, IsPacketsLine, IsPiece, IsRetiredLine, IsSelftestLine, IsTakenBy, IsTimesLine, IsTraceLine, IsUnits}
use Rattle.command_words.specs.CommandLines.{IsWalkLine, has_option, in_row}
use Rattle.command_words.specs.CommandLines.{is_same, positionals_of, value_for, values_of, word_of, words_of}
use Rattle.command_words.proofs.WordLemmas.{map_some, sized_by, sizes_there, then_some, within}
use Rattle.command_words.proofs.WordLists.{alike_found, alike_said, list_found, list_said}
use Rattle.command_words.proofs.WordParses.{own_key}
use Rattle.command_words.proofs.WordTurns.{Has, Turn, Ends, Waits, Joins, Flags, Values, Positionals, turn}

-- ---- what was seen, as lists

abbrev listed : Option (List ℕ) → List (List ℕ)
listed None = []
listed (Some value) = value ∷ []

-- the values of an option that were seen, and of a flag an empty one
abbrev given : CommandOption → Seen → List (List ℕ)
given option.Raw seen = if seen.raw then [] ∷ [] else []
given option.Wrap seen = listed seen.wrap
given option.Sync seen = if seen.sync then [] ∷ [] else []
given option.Depth seen = listed seen.depth
given option.Vmid seen = listed seen.vmid
given option.Cid seen = listed seen.cid
given option.Settings seen = listed seen.settings
given option.Elf seen = if seen.elf then [] ∷ [] else []
given option.Count seen = if seen.count then [] ∷ [] else []
given option.Last seen = listed seen.last
given option.SyncEvery seen = listed seen.every
given option.Cut seen = listed seen.cut

none_listed : (o : Option (List ℕ)) → is_some o ≡ false → listed o ≡ []
none_listed None e = refl
none_listed (Some v) e = absurd cc

-- a flag has no value
abbrev IsValueOf : CommandOption → List ℕ → Type 0
IsValueOf o value = (takes_value o ≡ true) ⊎ (value ≡ [])

no_value : (value : List ℕ) → IsValueOf option.Raw value → value ≡ []
no_value value (inl e) = absurd cc
no_value value (inr e) = e

-- an option that is seen adds its value
given_more : (p o : CommandOption) (value : List ℕ) (seen : Seen) (values : List (List ℕ)) → IsValueOf o value → is_seen o seen ≡ false
    → given p (with_value o value seen) ++ values ≡ given p seen ++ value_for p o value values
given_more option.Raw option.Raw value seen values is none = simp (none, no_value value is)
given_more option.Wrap option.Wrap value seen values is none = rw (none_listed seen.wrap none) refl
given_more option.Sync option.Sync value seen values is none = simp (none, no_value value is)
given_more option.Depth option.Depth value seen values is none = rw (none_listed seen.depth none) refl
given_more option.Vmid option.Vmid value seen values is none = rw (none_listed seen.vmid none) refl
given_more option.Cid option.Cid value seen values is none = rw (none_listed seen.cid none) refl
given_more option.Settings option.Settings value seen values is none = rw (none_listed seen.settings none) refl
given_more option.Elf option.Elf value seen values is none = simp (none, no_value value is)
given_more option.Count option.Count value seen values is none = simp (none, no_value value is)
given_more option.Last option.Last value seen values is none = rw (none_listed seen.last none) refl
given_more option.SyncEvery option.SyncEvery value seen values is none = rw (none_listed seen.every none) refl
given_more option.Cut option.Cut value seen values is none = rw (none_listed seen.cut none) refl
given_more p o value seen values is none = refl

-- the rest of what is seen stays
record Stays (seen next : Seen) : Type 0 where
  waits : next.waits ≡ None
  ended : next.ended ≡ seen.ended
  positional : next.positional ≡ seen.positional

value_stays : (o : CommandOption) (value : List ℕ) (seen : Seen) → Stays seen (with_value o value seen)
value_stays option.Raw value seen = record { waits = refl; ended = refl; positional = refl }
value_stays option.Wrap value seen = record { waits = refl; ended = refl; positional = refl }
value_stays option.Sync value seen = record { waits = refl; ended = refl; positional = refl }
value_stays option.Depth value seen = record { waits = refl; ended = refl; positional = refl }
value_stays option.Vmid value seen = record { waits = refl; ended = refl; positional = refl }
value_stays option.Cid value seen = record { waits = refl; ended = refl; positional = refl }
value_stays option.Settings value seen = record { waits = refl; ended = refl; positional = refl }
value_stays option.Elf value seen = record { waits = refl; ended = refl; positional = refl }
value_stays option.Count value seen = record { waits = refl; ended = refl; positional = refl }
value_stays option.Last value seen = record { waits = refl; ended = refl; positional = refl }
value_stays option.SyncEvery value seen = record { waits = refl; ended = refl; positional = refl }
value_stays option.Cut value seen = record { waits = refl; ended = refl; positional = refl }

given_waits : (p : CommandOption) (waits : Option CommandOption) (seen : Seen) → given p (record seen { waits = waits }) ≡ given p seen
given_waits option.Raw waits seen = refl
given_waits option.Wrap waits seen = refl
given_waits option.Sync waits seen = refl
given_waits option.Depth waits seen = refl
given_waits option.Vmid waits seen = refl
given_waits option.Cid waits seen = refl
given_waits option.Settings waits seen = refl
given_waits option.Elf waits seen = refl
given_waits option.Count waits seen = refl
given_waits option.Last waits seen = refl
given_waits option.SyncEvery waits seen = refl
given_waits option.Cut waits seen = refl

given_ended : (p : CommandOption) (ended : Bool) (seen : Seen) → given p (record seen { ended = ended }) ≡ given p seen
given_ended option.Raw ended seen = refl
given_ended option.Wrap ended seen = refl
given_ended option.Sync ended seen = refl
given_ended option.Depth ended seen = refl
given_ended option.Vmid ended seen = refl
given_ended option.Cid ended seen = refl
given_ended option.Settings ended seen = refl
given_ended option.Elf ended seen = refl
given_ended option.Count ended seen = refl
given_ended option.Last ended seen = refl
given_ended option.SyncEvery ended seen = refl
given_ended option.Cut ended seen = refl

given_positional : (p : CommandOption) (positional : Option (List ℕ)) (seen : Seen) → given p (record seen { positional = positional }) ≡ given p seen
given_positional option.Raw positional seen = refl
given_positional option.Wrap positional seen = refl
given_positional option.Sync positional seen = refl
given_positional option.Depth positional seen = refl
given_positional option.Vmid positional seen = refl
given_positional option.Cid positional seen = refl
given_positional option.Settings positional seen = refl
given_positional option.Elf positional seen = refl
given_positional option.Count positional seen = refl
given_positional option.Last positional seen = refl
given_positional option.SyncEvery positional seen = refl
given_positional option.Cut positional seen = refl

-- ---- words that mean something are pieces

whole_by : (row : CommandRow) (seen end : Seen) (b : Bool) → is_whole row seen ≡ b → seen_of row seen [] ≡ Some end → seen ≡ end
whole_by row seen end true is e = let f : seen_of row seen [] ≡ Some seen = simp is in let g = sym f ∙ e in cc
whole_by row seen end false is e = let f : seen_of row seen [] ≡ None = simp is in absurd (let g = sym f ∙ e in cc)

-- what is whole waits for no value
whole_waits : (row : CommandRow) (seen : Seen) (waits : Option CommandOption) (b : Bool) → seen.waits ≡ waits → is_whole row seen ≡ b
    → (end : Seen) → seen_of row seen [] ≡ Some end → seen.waits ≡ None
whole_waits row seen None b is whole end e = is
whole_waits row seen (Some o) b is whole end e =
    let f : is_whole row seen ≡ false = simp is in let g : seen_of row seen [] ≡ None = simp f in absurd (let h = sym g ∙ e in cc)

-- behind `--`, the words are positionals
record Behind (row : CommandRow) (seen end : Seen) (words : List (List ℕ)) : Type 0 where
  values : (o : CommandOption) → given o end ≡ given o seen
  positionals : listed end.positional ≡ listed seen.positional ++ words
  allowed : (row.has_positional ≡ true) ⊎ (words ≡ [])

no_more : (seen end : Seen) → seen ≡ end → listed end.positional ≡ listed seen.positional ++ []
no_more seen end e = ap (λ (s : Seen). listed s.positional) (sym e) ∙ ending seen.positional
  where
    ending : (o : Option (List ℕ)) → listed o ≡ listed o ++ []
    ending None = refl
    ending (Some v) = refl

one_positional : (seen next end : Seen) (word : List ℕ) (words : List (List ℕ)) → seen.positional ≡ None → record seen { positional = Some word } ≡ next
    → listed end.positional ≡ listed next.positional ++ words → listed end.positional ≡ listed seen.positional ++ word ∷ words
one_positional seen next end word words none next_is positionals =
    let now : listed next.positional ≡ word ∷ [] = ap (λ (s : Seen). listed s.positional) (sym next_is) in
    let before : listed seen.positional ≡ [] = ap listed none in positionals ∙ ap (λ (l : List (List ℕ)). l ++ words) now
    ∙ ap (λ (l : List (List ℕ)). l ++ word ∷ words) (sym before)

behind_turn : (row : CommandRow) (seen next end : Seen) (word : List ℕ) (words : List (List ℕ)) → seen.ended ≡ true → Turn row seen word next
    → (next.ended ≡ true → next.waits ≡ None → Behind row next end words) → Behind row seen end (word ∷ words)
behind_turn row seen next end word words on (Ends off _ _ _) rest = absurd (let f = sym on ∙ off in cc)
behind_turn row seen next end word words on (Waits o off _ _ _ _ _ _) rest = absurd (let f = sym on ∙ off in cc)
behind_turn row seen next end word words on (Joins o v off _ _ _ _ _ _) rest = absurd (let f = sym on ∙ off in cc)
behind_turn row seen next end word words on (Flags o off _ _ _ _ _ _) rest = absurd (let f = sym on ∙ off in cc)
behind_turn row seen next end word words on (Values o off _ _ _) rest = absurd (let f = sym on ∙ off in cc)
behind_turn row seen next end word words on (Positionals free how has none next_is) rest =
    let more = rest (ap (λ (s : Seen). s.ended) (sym next_is) ∙ on) (ap (λ (s : Seen). s.waits) (sym next_is) ∙ free) in
    record {
      values = λ o. more.values o ∙ ap (given o) (sym next_is) ∙ given_positional o (Some word) seen;
      positionals = one_positional seen next end word words none next_is more.positionals;
      allowed = inl has;
    }

behind : (row : CommandRow) (words : List (List ℕ)) (seen end : Seen) → seen.ended ≡ true → seen.waits ≡ None → seen_of row seen words ≡ Some end
    → Behind row seen end words
behind row [] seen end on free e =
    let same = whole_by row seen end (is_whole row seen) refl e in
    record { values = λ o. ap (given o) (sym same); positionals = no_more seen end same; allowed = inr refl }
behind row (word ∷ words) seen end on free e =
    let step = then_some (with_word row word seen) (λ next. seen_of row next words) end e in
    behind_turn row seen step.0 end word words on (turn row seen word step.0 (λ _. free) step.1)
    (λ still none. behind row words step.0 end still none step.2)

-- the option that waits stands before the words
abbrev front : Option CommandOption → List (List ℕ) → List (List ℕ)
front None words = words
front (Some o) words = word_of o ∷ words

-- an option that waits is the command's, takes a value and was not seen
abbrev MayWait : CommandRow → Seen → Option CommandOption → Type 0
MayWait row seen None = Unit {0}
MayWait row seen (Some o) = Has row o × (takes_value o ≡ true) × (is_seen o seen ≡ false)

record Parts (row : CommandRow) (seen end : Seen) (words : List (List ℕ)) : Type 0 where
  pieces : List Piece
  ended : List (List ℕ)
  behind : List (List ℕ)
  row_is : front seen.waits words ≡ in_row pieces ended
  are_pieces : All IsPiece pieces
  end_is : IsEnd ended behind
  values : (o : CommandOption) → given o end ≡ given o seen ++ values_of o pieces
  positionals : listed end.positional ≡ listed seen.positional ++ (positionals_of pieces ++ behind)
  has : (o : CommandOption) → Has row o ⊎ (values_of o pieces ≡ [])
  allowed : (row.has_positional ≡ true) ⊎ (positionals_of pieces ++ behind ≡ [])

nothing_more : (xs : List (List ℕ)) → xs ≡ xs ++ []
nothing_more [] = refl
nothing_more (x ∷ xs) = ap (λ (l : List (List ℕ)). x ∷ l) (nothing_more xs)

-- an option with a value in front
has_more : (row : CommandRow) (p o : CommandOption) (value : List ℕ) (values : List (List ℕ)) → Has row o → Has row p ⊎ (values ≡ [])
    → Has row p ⊎ (value_for p o value values ≡ [])
has_more row option.Raw option.Raw value values there rest = inl there
has_more row option.Wrap option.Wrap value values there rest = inl there
has_more row option.Sync option.Sync value values there rest = inl there
has_more row option.Depth option.Depth value values there rest = inl there
has_more row option.Vmid option.Vmid value values there rest = inl there
has_more row option.Cid option.Cid value values there rest = inl there
has_more row option.Settings option.Settings value values there rest = inl there
has_more row option.Elf option.Elf value values there rest = inl there
has_more row option.Count option.Count value values there rest = inl there
has_more row option.Last option.Last value values there rest = inl there
has_more row option.SyncEvery option.SyncEvery value values there rest = inl there
has_more row option.Cut option.Cut value values there rest = inl there
has_more row p o value values there rest = rest

front_free : (seen : Seen) (words : List (List ℕ)) → seen.waits ≡ None → front seen.waits words ≡ words
front_free seen words free = ap (λ (w : Option CommandOption). front w words) free

-- a piece in front that gives an option its value
piece_more : (row : CommandRow) (seen next end : Seen) (words before : List (List ℕ)) (o : CommandOption) (value : List ℕ) (piece : Piece)
    → front seen.waits before ≡ words_of piece ++ words → IsPiece piece
    → ((p : CommandOption) (ps : List Piece) → values_of p (piece ∷ ps) ≡ value_for p o value (values_of p ps))
    → ((ps : List Piece) → positionals_of (piece ∷ ps) ≡ positionals_of ps) → IsValueOf o value → Has row o → is_seen o seen ≡ false
    → with_value o value seen ≡ next → Parts row next end words → Parts row seen end before
piece_more row seen next end words before o value piece spelled is says shows fits there none next_is more =
    let stays = value_stays o value seen in let free : next.waits ≡ None = ap (λ (s : Seen). s.waits) (sym next_is) ∙ stays.waits in
    let positional : next.positional ≡ seen.positional = ap (λ (s : Seen). s.positional) (sym next_is) ∙ stays.positional in
    record {
      pieces = piece ∷ more.pieces;
      ended = more.ended;
      behind = more.behind;
      row_is = spelled ∙ ap (λ (w : List (List ℕ)). words_of piece ++ w) (sym (front_free next words free) ∙ more.row_is);
      are_pieces = All-cons IsPiece piece more.pieces is more.are_pieces;
      end_is = more.end_is;
      values = λ p. more.values p ∙ ap (λ (s : Seen). given p s ++ values_of p more.pieces) (sym next_is)
          ∙ given_more p o value seen (values_of p more.pieces) fits none ∙ ap (λ (l : List (List ℕ)). given p seen ++ l) (sym (says p more.pieces));
      positionals = more.positionals ∙ ap (λ (i : Option (List ℕ)). listed i ++ (positionals_of more.pieces ++ more.behind)) positional
          ∙ ap (λ (l : List (List ℕ)). listed seen.positional ++ (l ++ more.behind)) (sym (shows more.pieces));
      has = λ p. subst (λ (l : List (List ℕ)). Has row p ⊎ (l ≡ [])) (sym (says p more.pieces))
          (has_more row p o value (values_of p more.pieces) there (more.has p));
      allowed = subst (λ (l : List (List ℕ)). (row.has_positional ≡ true) ⊎ (l ++ more.behind ≡ [])) (sym (shows more.pieces)) more.allowed;
    }

not_yet : (seen : Seen) → seen.ended ≡ true → seen.ended ≡ false → ⊥
not_yet seen on off = let f = sym on ∙ off in absurd cc

-- what is known of the next state, from which the words behind are pieces
abbrev Next : CommandRow → Seen → Seen → List (List ℕ) → Type 0
Next row next end words = next.ended ≡ false → MayWait row next next.waits → Parts row next end words

waits_free : (row : CommandRow) (seen : Seen) → seen.waits ≡ None → MayWait row seen seen.waits
waits_free row seen free = subst (MayWait row seen) (sym free) tt

waiting : (row : CommandRow) (seen : Seen) (o : CommandOption) → seen.waits ≡ Some o → MayWait row seen seen.waits
    → Has row o × (takes_value o ≡ true) × (is_seen o seen ≡ false)
waiting row seen o is may = subst (MayWait row seen) is may

seen_waits : (p : CommandOption) (waits : Option CommandOption) (seen : Seen) → is_seen p (record seen { waits = waits }) ≡ is_seen p seen
seen_waits option.Raw waits seen = refl
seen_waits option.Wrap waits seen = refl
seen_waits option.Sync waits seen = refl
seen_waits option.Depth waits seen = refl
seen_waits option.Vmid waits seen = refl
seen_waits option.Cid waits seen = refl
seen_waits option.Settings waits seen = refl
seen_waits option.Elf waits seen = refl
seen_waits option.Count waits seen = refl
seen_waits option.Last waits seen = refl
seen_waits option.SyncEvery waits seen = refl
seen_waits option.Cut waits seen = refl

value_next : (row : CommandRow) (seen next end : Seen) (words before : List (List ℕ)) (o : CommandOption) (value : List ℕ) → seen.ended ≡ false
    → with_value o value seen ≡ next → Next row next end words → Parts row next end words
value_next row seen next end words before o value off next_is rest =
    let stays = value_stays o value seen in
    rest (ap (λ (s : Seen). s.ended) (sym next_is) ∙ (stays.ended ∙ off)) (waits_free row next (ap (λ (s : Seen). s.waits) (sym next_is) ∙ stays.waits))

part_turn : (row : CommandRow) (seen next end : Seen) (word : List ℕ) (words : List (List ℕ)) → seen.ended ≡ false → MayWait row seen seen.waits
    → Turn row seen word next → seen_of row next words ≡ Some end → Next row next end words → Parts row seen end (word ∷ words)
part_turn row seen next end word words off may (Ends _ free is next_is) e rest =
    let more = behind row words next end (ap (λ (s : Seen). s.ended) (sym next_is)) (ap (λ (s : Seen). s.waits) (sym next_is) ∙ free) e in
    record {
      pieces = [];
      ended = word ∷ words;
      behind = words;
      row_is = front_free seen (word ∷ words) free;
      are_pieces = All-nil IsPiece;
      end_is = (is, refl);
      values = λ o. more.values o ∙ ap (given o) (sym next_is) ∙ given_ended o true seen ∙ nothing_more (given o seen);
      positionals = more.positionals ∙ ap (λ (s : Seen). listed s.positional ++ words) (sym next_is);
      has = λ o. inr refl;
      allowed = more.allowed;
    }
part_turn row seen next end word words off may (Waits o _ free there takes none is next_is) e rest =
    let next_waits : next.waits ≡ Some o = ap (λ (s : Seen). s.waits) (sym next_is) in
    let next_none : is_seen o next ≡ false = ap (is_seen o) (sym next_is) ∙ (seen_waits o (Some o) seen ∙ none) in
    let more = rest (ap (λ (s : Seen). s.ended) (sym next_is) ∙ off) (subst (MayWait row next) (sym next_waits) (there, takes, next_none)) in
    record {
      pieces = more.pieces;
      ended = more.ended;
      behind = more.behind;
      row_is = front_free seen (word ∷ words) free ∙ ap (λ (w : List ℕ). w ∷ words) is
          ∙ ap (λ (w : Option CommandOption). front w words) (sym next_waits) ∙ more.row_is;
      are_pieces = more.are_pieces;
      end_is = more.end_is;
      values = λ p. more.values p ∙ ap (λ (s : Seen). given p s ++ values_of p more.pieces) (sym next_is)
          ∙ ap (λ (l : List (List ℕ)). l ++ values_of p more.pieces) (given_waits p (Some o) seen);
      positionals = more.positionals ∙ ap (λ (s : Seen). listed s.positional ++ (positionals_of more.pieces ++ more.behind)) (sym next_is);
      has = more.has;
      allowed = more.allowed;
    }
part_turn row seen next end word words off may (Joins o value _ free there takes none is next_is) e rest =
    piece_more row seen next end words (word ∷ words) o value (Joined o value) (front_free seen (word ∷ words) free ∙ ap (λ (w : List ℕ). w ∷ words) is) takes
    (λ p ps. refl) (λ ps. refl) (inl takes) there none next_is (value_next row seen next end words words o value off next_is rest)
part_turn row seen next end word words off may (Flags o _ free there takes none is next_is) e rest =
    piece_more row seen next end words (word ∷ words) o [] (Flag o) (front_free seen (word ∷ words) free ∙ ap (λ (w : List ℕ). w ∷ words) is) takes
    (λ p ps. refl) (λ ps. refl) (inr refl) there none next_is (value_next row seen next end words words o [] off next_is rest)
part_turn row seen next end word words off may (Values o _ waits plain next_is) e rest =
    let w = waiting row seen o waits may in
    piece_more row seen next end words (word ∷ words) o word (Apart o word) (ap (λ (w : Option CommandOption). front w (word ∷ words)) waits)
    (w.1, plain) (λ p ps. refl) (λ ps. refl) (inl w.1) w.0 w.2 next_is (value_next row seen next end words words o word off next_is rest)
part_turn row seen next end word words off may (Positionals free (inl on) has none next_is) e rest = absurd (not_yet seen on off)
part_turn row seen next end word words off may (Positionals free (inr plain) has none next_is) e rest =
    let next_free : next.waits ≡ None = ap (λ (s : Seen). s.waits) (sym next_is) ∙ free in
    let more = rest (ap (λ (s : Seen). s.ended) (sym next_is) ∙ off) (waits_free row next next_free) in
    record {
      pieces = Positional word ∷ more.pieces;
      ended = more.ended;
      behind = more.behind;
      row_is = front_free seen (word ∷ words) free ∙ ap (λ (w : List (List ℕ)). word ∷ w) (sym (front_free next words next_free) ∙ more.row_is);
      are_pieces = All-cons IsPiece (Positional word) more.pieces plain more.are_pieces;
      end_is = more.end_is;
      values = λ p. more.values p ∙ ap (λ (s : Seen). given p s ++ values_of p more.pieces) (sym next_is)
          ∙ ap (λ (l : List (List ℕ)). l ++ values_of p more.pieces) (given_positional p (Some word) seen);
      positionals = one_positional seen next end word (positionals_of more.pieces ++ more.behind) none next_is more.positionals;
      has = more.has;
      allowed = inl has;
    }

parts : (row : CommandRow) (words : List (List ℕ)) (seen end : Seen) → seen.ended ≡ false → MayWait row seen seen.waits → seen_of row seen words ≡ Some end
    → Parts row seen end words
parts row [] seen end off may e =
    let same = whole_by row seen end (is_whole row seen) refl e in let free = whole_waits row seen seen.waits (is_whole row seen) refl refl end e in
    record {
      pieces = [];
      ended = [];
      behind = [];
      row_is = front_free seen [] free;
      are_pieces = All-nil IsPiece;
      end_is = refl;
      values = λ o. ap (given o) (sym same) ∙ nothing_more (given o seen);
      positionals = no_more seen end same;
      has = λ o. inr refl;
      allowed = inr refl;
    }
parts row (word ∷ words) seen end off may e =
    let step = then_some (with_word row word seen) (λ next. seen_of row next words) end e in
    part_turn row seen step.0 end word words off may (turn row seen word step.0 (λ on. absurd (not_yet seen on off)) step.1) step.2
    (λ still next_may. parts row words step.0 end still next_may step.2)

-- ---- numbers and sizes

record SizesIn (seen : Seen) (s : Sizes) : Type 0 where
  depth_is : number_of default_sizes.depth seen.depth ≡ Some s.depth
  vmid_is : number_of default_sizes.vmid_bytes seen.vmid ≡ Some s.vmid_bytes
  cid_is : number_of default_sizes.cid_bytes seen.cid ≡ Some s.cid_bytes
  within : AreSettings s

sizes_found : (seen : Seen) (s : Sizes) → sizes_in seen ≡ Some s → SizesIn seen s
sizes_found seen s e =
    let d = then_some (number_of default_sizes.depth seen.depth) _ s e in
    let v = then_some (number_of default_sizes.vmid_bytes seen.vmid) _ s d.2 in
    let c = then_some (number_of default_sizes.cid_bytes seen.cid) _ s v.2 in
    let same = sized_by d.0 v.0 c.0 s (nat_le d.0 most_depth && is_vmid_size v.0 && is_cid_size c.0) refl c.2 in
    record {
      depth_is = d.1 ∙ ap (λ (t : Sizes). Some t.depth) same;
      vmid_is = v.1 ∙ ap (λ (t : Sizes). Some t.vmid_bytes) same;
      cid_is = c.1 ∙ ap (λ (t : Sizes). Some t.cid_bytes) same;
      within = subst (λ (o : Option Sizes). IfSome o AreSettings) c.2 (within d.0 v.0 c.0);
    }

sizes_said : (seen : Seen) (s : Sizes) → SizesIn seen s → sizes_in seen ≡ Some s
sizes_said seen s are = let d = are.depth_is in let v = are.vmid_is in let c = are.cid_is in let z = sizes_there s are.within in simp (d, v, c, z)

-- a number is that of the one value that is listed
number_found : (default : ℕ) (value : Option (List ℕ)) (n : ℕ) → number_of default value ≡ Some n → IsNumber default (listed value) n
number_found default None n e = sym cc
number_found default (Some value) n e = e

number_said : (default : ℕ) (value : Option (List ℕ)) (n : ℕ) → IsNumber default (listed value) n → number_of default value ≡ Some n
number_said default None n e = ap Some (sym e)
number_said default (Some value) n e = e

-- a number that is no more than the most
number_within_by : (most m n : ℕ) (b : Bool) → nat_le m most ≡ b → (if nat_le m most then Some m else None) ≡ Some n → (m ≡ n) × (n ≤ most)
number_within_by most m n true is e = let same : m ≡ n = (let f = simp is at e in cc) in (same, grind (arith, nat_tests, is, same))
number_within_by most m n false is e = absurd (let f = simp is at e in cc)

number_within : (most : ℕ) (text : List ℕ) (n : ℕ) → number_to most text ≡ Some n → (decimal_of text ≡ Some n) × (n ≤ most)
number_within most text n e =
    let d = then_some (decimal_of text) _ n e in let w = number_within_by most d.0 n (nat_le d.0 most) refl d.2 in (d.1 ∙ ap Some w.0, w.1)

number_to_said : (most : ℕ) (text : List ℕ) (n : ℕ) → decimal_of text ≡ Some n → n ≤ most → number_to most text ≡ Some n
number_to_said most text n is within =
    let test : nat_le n most ≡ true = grind (arith, nat_tests, within) in
    let there : (if nat_le n most then Some n else None) ≡ Some n = simp test in ap (option_and_then (λ m. if nat_le m most then Some m else None)) is ∙ there

-- how many bytes are read is the number of the one value that is listed
cut_found : (value : Option (List ℕ)) (cut : Option ℕ) → cut_of value ≡ Some cut → IsCut (listed value) cut
cut_found None cut e = sym cc
cut_found (Some text) cut e =
    let k = map_some (number_to most_cut text) Some cut e in let w = number_within most_cut text k.0 k.1 in (k.0, w.0, w.1, sym k.2)

cut_said : (value : Option (List ℕ)) (cut : Option ℕ) → IsCut (listed value) cut → cut_of value ≡ Some cut
cut_said None cut is = ap Some (sym is)
cut_said (Some text) cut is = ap (option_map Some) (number_to_said most_cut text is.0 is.1 is.2) ∙ ap Some (sym is.3)

-- the sizes of all IDs are by the one list that is listed
units_found : (list : Option (List ℕ)) (all : Sizes) (units : List Sizes) → units_by list all ≡ Some units → IsUnits (listed list) all units
units_found None all units e = let same : replicate 111 all ≡ units = cc in subst (AreUnits all []) same (alike_found all)
units_found (Some list) all units e =
    let l = map_some (listed_in (slice_split is_comma list) (nothing_listed all)) _ units e in
    let is = list_found list all l.0 l.1 in (is.0, is.1, subst (AreUnits all is.0) l.2 is.2)

units_said : (list : Option (List ℕ)) (all : Sizes) (units : List Sizes) → IsUnits (listed list) all units → units_by list all ≡ Some units
units_said None all units is = ap Some (sym (alike_said all units is))
units_said (Some list) all units is =
    let l = list_said list is.0 all units is.1 is.2 in ap (option_map (λ (l : Listed). l.table)) l.1 ∙ ap Some l.2

-- how many is the number of the one value that is listed
count_found_by : (m : ℕ) (count : Option ℕ) (b : Bool) → (m == 0) ≡ b → (if m == 0 then None else Some (Some m)) ≡ Some count
    → (1 ≤ m) × (count ≡ Some m)
count_found_by m count true is e = absurd (let f = simp is at e in cc)
count_found_by m count false is e = let same : Some m ≡ count = (let f = simp is at e in cc) in (grind (arith, nat_tests, is), sym same)

count_found : (most : ℕ) (value : Option (List ℕ)) (count : Option ℕ) → count_of most value ≡ Some count → IsCount most (listed value) count
count_found most None count e = sym cc
count_found most (Some text) count e =
    let n = then_some (number_to most text) _ count e in let w = number_within most text n.0 n.1 in
    let some = count_found_by n.0 count (n.0 == 0) refl n.2 in (n.0, w.0, some.0, w.1, some.1)

count_said : (most : ℕ) (value : Option (List ℕ)) (count : Option ℕ) → IsCount most (listed value) count → count_of most value ≡ Some count
count_said most None count is = ap Some (sym is)
count_said most (Some text) count is =
    let some : (is.0 == 0) ≡ false = grind (arith, nat_tests, is.2) in
    let told : (if is.0 == 0 then None else Some (Some is.0)) ≡ Some (Some is.0) = simp some in
    ap (option_and_then (λ n. if n == 0 then None else Some (Some n))) (number_to_said most text is.0 is.1 is.3) ∙ told ∙ ap Some (sym is.4)

-- a flag that stood is listed once
abbrev stood : Bool → List (List ℕ)
stood flag = if flag then [] ∷ [] else []

-- the layout is that of the values of its options
layout_found : (raw : Bool) (wrap : Option (List ℕ)) (sync : Bool) (layout : Layout) → layout_by raw wrap sync ≡ Some layout
    → IsLayout (stood raw) (listed wrap) (stood sync) layout
layout_found true None false layout e = sym cc
layout_found false None false layout e = sym cc
layout_found false None true layout e = sym cc
layout_found true None true layout e = absurd cc
layout_found true (Some text) sync layout e = absurd cc
layout_found false (Some text) true layout e = absurd cc
layout_found false (Some text) false layout e =
    let k = map_some (number_to most_wrap text) Wrapped layout e in let w = number_within most_wrap text k.0 k.1 in (k.0, w.0, w.1, sym k.2)

layout_said : (raw : Bool) (wrap : Option (List ℕ)) (sync : Bool) (layout : Layout) → IsLayout (stood raw) (listed wrap) (stood sync) layout
    → layout_by raw wrap sync ≡ Some layout
layout_said true None false layout is = ap Some (sym is)
layout_said false None false layout is = ap Some (sym is)
layout_said false None true layout is = ap Some (sym is)
layout_said true None true layout is = absurd is
layout_said true (Some text) true layout is = absurd is
layout_said true (Some text) false layout is = absurd is
layout_said false (Some text) true layout is = absurd is
layout_said false (Some text) false layout is = ap (option_map Wrapped) (number_to_said most_wrap text is.0 is.1 is.2) ∙ ap Some (sym is.3)

-- what the file of the program is, is that of the values of its option
form_found : (elf : Bool) → IsForm (stood elf) (form_by elf)
form_found true = refl
form_found false = refl

form_said : (elf : Bool) (file : ProgramForm) → IsForm (stood elf) file → form_by elf ≡ file
form_said true file is = sym is
form_said false file is = sym is

-- whether the paths are counted is by the values of its option
counted_found : (count : Bool) → IsCounted (stood count) count
counted_found true = refl
counted_found false = refl

counted_said : (count counted : Bool) → IsCounted (stood count) counted → count ≡ counted
counted_said true counted is = sym is
counted_said false counted is = sym is

positional_said : (positional : Option (List ℕ)) (word : List ℕ) → listed positional ≡ word ∷ [] → positional ≡ Some word
positional_said None word e = absurd cc
positional_said (Some v) word e = ap Some cc

-- ---- pieces are taken

abbrev OnceAtMost : List (List ℕ) → Type 0
OnceAtMost [] = Unit {0}
OnceAtMost (x ∷ []) = Unit {0}
OnceAtMost (x ∷ y ∷ xs) = ⊥

not_listed : (x : Option (List ℕ)) (value : List ℕ) (values : List (List ℕ)) → OnceAtMost (listed x ++ value ∷ values) → is_some x ≡ false
not_listed None value values once = refl
not_listed (Some v) value values once = absurd once

not_raw : (raw : Bool) (value : List ℕ) (values : List (List ℕ)) → OnceAtMost ((if raw then [] ∷ [] else []) ++ value ∷ values) → raw ≡ false
not_raw false value values once = refl
not_raw true value values once = absurd once

not_seen : (o : CommandOption) (value : List ℕ) (seen : Seen) (values : List (List ℕ)) → OnceAtMost (given o seen ++ value_for o o value values)
    → is_seen o seen ≡ false
not_seen option.Raw value seen values once = not_raw seen.raw value values once
not_seen option.Wrap value seen values once = not_listed seen.wrap value values once
not_seen option.Sync value seen values once = not_raw seen.sync value values once
not_seen option.Depth value seen values once = not_listed seen.depth value values once
not_seen option.Vmid value seen values once = not_listed seen.vmid value values once
not_seen option.Cid value seen values once = not_listed seen.cid value values once
not_seen option.Settings value seen values once = not_listed seen.settings value values once
not_seen option.Elf value seen values once = not_raw seen.elf value values once
not_seen option.Count value seen values once = not_raw seen.count value values once
not_seen option.Last value seen values once = not_listed seen.last value values once
not_seen option.SyncEvery value seen values once = not_listed seen.every value values once
not_seen option.Cut value seen values once = not_listed seen.cut value values once

fewer_by : (b : Bool) (value : List ℕ) (values : List (List ℕ)) → ◌≡◌ {A = List (List ℕ)} (if b then value ∷ values else values) [] → values ≡ []
fewer_by true value values e = absurd cc
fewer_by false value values e = e

has_fewer : (row : CommandRow) (p o : CommandOption) (value : List ℕ) (values : List (List ℕ)) → Has row p ⊎ (value_for p o value values ≡ [])
    → Has row p ⊎ (values ≡ [])
has_fewer row p o value values (inl has) = inl has
has_fewer row p o value values (inr none) = inr (fewer_by (is_same p o) value values none)

has_this : (row : CommandRow) (o : CommandOption) (value : List ℕ) (values : List (List ℕ)) → Has row o ⊎ (value_for o o value values ≡ []) → Has row o
has_this row o value values (inl has) = has
has_this row option.Raw value values (inr none) = absurd cc
has_this row option.Wrap value values (inr none) = absurd cc
has_this row option.Sync value values (inr none) = absurd cc
has_this row option.Depth value values (inr none) = absurd cc
has_this row option.Vmid value values (inr none) = absurd cc
has_this row option.Cid value values (inr none) = absurd cc
has_this row option.Settings value values (inr none) = absurd cc
has_this row option.Elf value values (inr none) = absurd cc
has_this row option.Count value values (inr none) = absurd cc
has_this row option.Last value values (inr none) = absurd cc
has_this row option.SyncEvery value values (inr none) = absurd cc
has_this row option.Cut value values (inr none) = absurd cc

-- the word of an option of the command
dashed_alone : (row : CommandRow) (o : CommandOption) (seen : Seen) → Has row o → with_dashed row (word_of o) seen ≡ with_option o None seen
dashed_alone row option.Raw seen has = ap (option_and_then (λ p. with_option p None seen)) has
dashed_alone row option.Wrap seen has = ap (option_and_then (λ p. with_option p None seen)) has
dashed_alone row option.Sync seen has = ap (option_and_then (λ p. with_option p None seen)) has
dashed_alone row option.Depth seen has = ap (option_and_then (λ p. with_option p None seen)) has
dashed_alone row option.Vmid seen has = ap (option_and_then (λ p. with_option p None seen)) has
dashed_alone row option.Cid seen has = ap (option_and_then (λ p. with_option p None seen)) has
dashed_alone row option.Settings seen has = ap (option_and_then (λ p. with_option p None seen)) has
dashed_alone row option.Elf seen has = ap (option_and_then (λ p. with_option p None seen)) has
dashed_alone row option.Count seen has = ap (option_and_then (λ p. with_option p None seen)) has
dashed_alone row option.Last seen has = ap (option_and_then (λ p. with_option p None seen)) has
dashed_alone row option.SyncEvery seen has = ap (option_and_then (λ p. with_option p None seen)) has
dashed_alone row option.Cut seen has = ap (option_and_then (λ p. with_option p None seen)) has

dashed_joined : (row : CommandRow) (o : CommandOption) (value : List ℕ) (seen : Seen) → Has row o
    → with_dashed row (word_of o ++ 61 ∷ value) seen ≡ with_option o (Some value) seen
dashed_joined row option.Raw value seen has = ap (option_and_then (λ p. with_option p (Some value) seen)) has
dashed_joined row option.Wrap value seen has = ap (option_and_then (λ p. with_option p (Some value) seen)) has
dashed_joined row option.Sync value seen has = ap (option_and_then (λ p. with_option p (Some value) seen)) has
dashed_joined row option.Depth value seen has = ap (option_and_then (λ p. with_option p (Some value) seen)) has
dashed_joined row option.Vmid value seen has = ap (option_and_then (λ p. with_option p (Some value) seen)) has
dashed_joined row option.Cid value seen has = ap (option_and_then (λ p. with_option p (Some value) seen)) has
dashed_joined row option.Settings value seen has = ap (option_and_then (λ p. with_option p (Some value) seen)) has
dashed_joined row option.Elf value seen has = ap (option_and_then (λ p. with_option p (Some value) seen)) has
dashed_joined row option.Count value seen has = ap (option_and_then (λ p. with_option p (Some value) seen)) has
dashed_joined row option.Last value seen has = ap (option_and_then (λ p. with_option p (Some value) seen)) has
dashed_joined row option.SyncEvery value seen has = ap (option_and_then (λ p. with_option p (Some value) seen)) has
dashed_joined row option.Cut value seen has = ap (option_and_then (λ p. with_option p (Some value) seen)) has

taken_alone : (row : CommandRow) (o : CommandOption) (seen : Seen) → seen.waits ≡ None → seen.ended ≡ false → Has row o
    → with_word row (word_of o) seen ≡ with_option o None seen
taken_alone row o seen free off has =
    let f : with_word row (word_of o) seen ≡ with_dashed row (word_of o) seen = simp (free, off) in f ∙ dashed_alone row o seen has

taken_joined : (row : CommandRow) (o : CommandOption) (value : List ℕ) (seen : Seen) → seen.waits ≡ None → seen.ended ≡ false → Has row o
    → with_word row (word_of o ++ 61 ∷ value) seen ≡ with_option o (Some value) seen
taken_joined row o value seen free off has =
    let f : with_word row (word_of o ++ 61 ∷ value) seen ≡ with_dashed row (word_of o ++ 61 ∷ value) seen = simp (free, off) in
    f ∙ dashed_joined row o value seen has

value_after : (o : CommandOption) (value : List ℕ) (seen : Seen) → with_value o value (record seen { waits = Some o }) ≡ with_value o value seen
value_after option.Raw value seen = refl
value_after option.Wrap value seen = refl
value_after option.Sync value seen = refl
value_after option.Depth value seen = refl
value_after option.Vmid value seen = refl
value_after option.Cid value seen = refl
value_after option.Settings value seen = refl
value_after option.Elf value seen = refl
value_after option.Count value seen = refl
value_after option.Last value seen = refl
value_after option.SyncEvery value seen = refl
value_after option.Cut value seen = refl

-- what is seen of words that are taken
record Taken (row : CommandRow) (seen : Seen) (pieces : List Piece) (behind words : List (List ℕ)) : Type 0 where
  end : Seen
  seen_is : seen_of row seen words ≡ Some end
  values : (o : CommandOption) → given o end ≡ given o seen ++ values_of o pieces
  positionals : listed end.positional ≡ listed seen.positional ++ (positionals_of pieces ++ behind)

record Fits (row : CommandRow) (seen : Seen) (pieces : List Piece) (behind : List (List ℕ)) : Type 0 where
  free : seen.waits ≡ None
  once : (o : CommandOption) → OnceAtMost (given o seen ++ values_of o pieces)
  one : OnceAtMost (listed seen.positional ++ (positionals_of pieces ++ behind))
  has : (o : CommandOption) → Has row o ⊎ (values_of o pieces ≡ [])
  allowed : (row.has_positional ≡ true) ⊎ (positionals_of pieces ++ behind ≡ [])
  enough : (row.has_positional ≡ false) ⊎ ((positional : List ℕ) × (listed seen.positional ++ (positionals_of pieces ++ behind) ≡ positional ∷ []))

one_more : (row : CommandRow) (seen next end : Seen) (word : List ℕ) (words : List (List ℕ)) → with_word row word seen ≡ Some next
    → seen_of row next words ≡ Some end → seen_of row seen (word ∷ words) ≡ Some end
one_more row seen next end word words step e = ap (option_and_then (λ n. seen_of row n words)) step ∙ e

end_whole : (row : CommandRow) (seen : Seen) (positional : Option (List ℕ)) → seen.positional ≡ positional → seen.waits ≡ None
    → (row.has_positional ≡ false) ⊎ ((v : List ℕ) × (listed positional ++ ([] ++ []) ≡ v ∷ [])) → is_whole row seen ≡ true
end_whole row seen (Some v) is free enough = simp (free, is)
end_whole row seen None is free (inl none) = simp (free, is, none)
end_whole row seen None is free (inr p) = let f = p.1 in absurd cc

taken_end : (row : CommandRow) (seen : Seen) → Fits row seen [] [] → Taken row seen [] [] []
taken_end row seen fits =
    let whole = end_whole row seen seen.positional refl fits.free fits.enough in
    record { end = seen; seen_is = simp whole; values = λ o. nothing_more (given o seen); positionals = nothing_more (listed seen.positional) }

may_positional : (row : CommandRow) (word : List ℕ) (words : List (List ℕ)) → (row.has_positional ≡ true) ⊎ (word ∷ words ≡ []) → row.has_positional ≡ true
may_positional row word words (inl has) = has
may_positional row word words (inr none) = absurd cc

no_positional : (positional : Option (List ℕ)) → is_some positional ≡ false → positional ≡ None
no_positional None e = refl
no_positional (Some v) e = absurd cc

-- a positional
positional_by : (row : CommandRow) (seen : Seen) (word : List ℕ) (ended : Bool) → seen.ended ≡ ended → seen.waits ≡ None
    → (ended ≡ true) ⊎ (is_dashed word ≡ false) → row.has_positional ≡ true → seen.positional ≡ None
    → with_word row word seen ≡ Some (record seen { positional = Some word })
positional_by row seen word true is free how has none = simp (free, is, has, none)
positional_by row seen word false is free (inl on) has none = absurd cc
positional_by row seen word false is free (inr plain) has none = simp (free, is, plain, has, none)

positional_taken : (row : CommandRow) (seen : Seen) (word : List ℕ) → seen.waits ≡ None → (seen.ended ≡ true) ⊎ (is_dashed word ≡ false)
    → row.has_positional ≡ true → seen.positional ≡ None → with_word row word seen ≡ Some (record seen { positional = Some word })
positional_taken row seen word free how has none = positional_by row seen word seen.ended refl free how has none

fits_positional : (row : CommandRow) (seen : Seen) (word : List ℕ) (pieces more : List Piece) (behind rest : List (List ℕ)) → seen.positional ≡ None
    → ((o : CommandOption) → values_of o pieces ≡ values_of o more) → positionals_of pieces ++ behind ≡ word ∷ (positionals_of more ++ rest)
    → row.has_positional ≡ true → Fits row seen pieces behind → Fits row (record seen { positional = Some word }) more rest
fits_positional row seen word pieces more behind rest none says shows has fits =
    let same : listed seen.positional ++ (positionals_of pieces ++ behind) ≡ word ∷ (positionals_of more ++ rest) =
    ap (λ (i : Option (List ℕ)). listed i ++ (positionals_of pieces ++ behind)) none ∙ shows in
    record {
      free = fits.free;
      once = λ o. subst (λ (l : List (List ℕ)). OnceAtMost (l ++ values_of o more)) (sym (given_positional o (Some word) seen))
          (subst (λ (l : List (List ℕ)). OnceAtMost (given o seen ++ l)) (says o) (fits.once o));
      one = subst OnceAtMost same fits.one;
      has = λ o. subst (λ (l : List (List ℕ)). Has row o ⊎ (l ≡ [])) (says o) (fits.has o);
      allowed = inl has;
      enough = subst (λ (l : List (List ℕ)). (row.has_positional ≡ false) ⊎ ((positional : List ℕ) × (l ≡ positional ∷ []))) same fits.enough;
    }

taken_positional : (row : CommandRow) (seen : Seen) (word : List ℕ) (pieces more : List Piece) (behind rest words : List (List ℕ))
    → (seen.ended ≡ true) ⊎ (is_dashed word ≡ false)
    → ((o : CommandOption) → values_of o pieces ≡ values_of o more) → positionals_of pieces ++ behind ≡ word ∷ (positionals_of more ++ rest)
    → Fits row seen pieces behind
    → (Fits row (record seen { positional = Some word }) more rest → Taken row (record seen { positional = Some word }) more rest words)
    → Taken row seen pieces behind (word ∷ words)
taken_positional row seen word pieces more behind rest words how says shows fits go =
    let none = no_positional seen.positional (not_listed seen.positional word (positionals_of more ++ rest)
    (subst (λ (l : List (List ℕ)). OnceAtMost (listed seen.positional ++ l)) shows fits.one)) in
    let has = may_positional row word (positionals_of more ++ rest)
    (subst (λ (l : List (List ℕ)). (row.has_positional ≡ true) ⊎ (l ≡ [])) shows fits.allowed) in
    let taken = go (fits_positional row seen word pieces more behind rest none says shows has fits) in
    record {
      end = taken.end;
      seen_is = one_more row seen (record seen { positional = Some word }) taken.end word words
          (positional_taken row seen word fits.free how has none) taken.seen_is;
      values = λ o. taken.values o ∙ ap (λ (l : List (List ℕ)). l ++ values_of o more) (given_positional o (Some word) seen)
          ∙ ap (λ (l : List (List ℕ)). given o seen ++ l) (sym (says o));
      positionals = taken.positionals ∙ sym (ap (λ (i : Option (List ℕ)). listed i ++ (positionals_of pieces ++ behind)) none ∙ shows);
    }

-- positionals behind `--`
taken_behind : (row : CommandRow) (behind : List (List ℕ)) (seen : Seen) → seen.ended ≡ true → Fits row seen [] behind → Taken row seen [] behind behind
taken_behind row [] seen on fits = taken_end row seen fits
taken_behind row (word ∷ words) seen on fits =
    taken_positional row seen word [] [] (word ∷ words) words words (inl on) (λ o. refl) refl fits
    (λ f. taken_behind row words (record seen { positional = Some word }) on f)

ended_taken : (row : CommandRow) (seen : Seen) → seen.waits ≡ None → seen.ended ≡ false → with_word row (codes "--") seen ≡ Some (record seen { ended = true })
ended_taken row seen free off = simp (free, off)

fits_ended : (row : CommandRow) (seen : Seen) (behind : List (List ℕ)) → Fits row seen [] behind → Fits row (record seen { ended = true }) [] behind
fits_ended row seen behind fits = record {
  free = fits.free;
  once = λ o. subst (λ (l : List (List ℕ)). OnceAtMost (l ++ [])) (sym (given_ended o true seen)) (fits.once o);
  one = fits.one;
  has = fits.has;
  allowed = fits.allowed;
  enough = fits.enough;
}

taken_ended : (row : CommandRow) (ended behind : List (List ℕ)) (seen : Seen) → seen.ended ≡ false → IsEnd ended behind → Fits row seen [] behind
    → Taken row seen [] behind ended
taken_ended row [] behind seen off is fits =
    subst (λ (b : List (List ℕ)). Taken row seen [] b []) (sym is) (taken_end row seen (subst (Fits row seen []) is fits))
taken_ended row (word ∷ words) behind seen off is fits =
    let taken = taken_behind row behind (record seen { ended = true }) refl (fits_ended row seen behind fits) in
    let step : with_word row word seen ≡ Some (record seen { ended = true }) =
    ap (λ (w : List ℕ). with_word row w seen) is.0 ∙ ended_taken row seen fits.free off in
    record {
      end = taken.end;
      seen_is = one_more row seen (record seen { ended = true }) taken.end word words step
          (ap (seen_of row (record seen { ended = true })) is.1 ∙ taken.seen_is);
      values = λ o. taken.values o ∙ ap (λ (l : List (List ℕ)). l ++ []) (given_ended o true seen);
      positionals = taken.positionals;
    }

-- a piece that gives an option its value
fits_value : (row : CommandRow) (seen : Seen) (o : CommandOption) (value : List ℕ) (piece : Piece) (pieces : List Piece) (behind : List (List ℕ))
    → ((p : CommandOption) → values_of p (piece ∷ pieces) ≡ value_for p o value (values_of p pieces)) → positionals_of (piece ∷ pieces) ≡ positionals_of pieces
    → IsValueOf o value → is_seen o seen ≡ false → Fits row seen (piece ∷ pieces) behind → Fits row (with_value o value seen) pieces behind
fits_value row seen o value piece pieces behind says shows is none fits =
    let stays = value_stays o value seen in
    let positional : listed seen.positional ++ (positionals_of (piece ∷ pieces) ++ behind)
    ≡ listed (with_value o value seen).positional ++ (positionals_of pieces ++ behind) =
    ap (λ (l : List (List ℕ)). listed seen.positional ++ (l ++ behind)) shows
    ∙ ap (λ (i : Option (List ℕ)). listed i ++ (positionals_of pieces ++ behind)) (sym stays.positional) in
    record {
      free = stays.waits;
      once = λ p. subst OnceAtMost (ap (λ (l : List (List ℕ)). given p seen ++ l) (says p)
          ∙ sym (given_more p o value seen (values_of p pieces) is none)) (fits.once p);
      one = subst OnceAtMost positional fits.one;
      has = λ p. has_fewer row p o value (values_of p pieces) (subst (λ (l : List (List ℕ)). Has row p ⊎ (l ≡ [])) (says p) (fits.has p));
      allowed = subst (λ (l : List (List ℕ)). (row.has_positional ≡ true) ⊎ (l ++ behind ≡ [])) shows fits.allowed;
      enough = subst (λ (l : List (List ℕ)). (row.has_positional ≡ false) ⊎ ((positional : List ℕ) × (l ≡ positional ∷ []))) positional fits.enough;
    }

taken_value : (row : CommandRow) (seen : Seen) (o : CommandOption) (value : List ℕ) (piece : Piece) (pieces : List Piece) (behind words before : List (List ℕ))
    → ((p : CommandOption) → values_of p (piece ∷ pieces) ≡ value_for p o value (values_of p pieces)) → positionals_of (piece ∷ pieces) ≡ positionals_of pieces
    → IsValueOf o value
    → ((end : Seen) → Has row o → is_seen o seen ≡ false → seen_of row (with_value o value seen) words ≡ Some end → seen_of row seen before ≡ Some end)
    → Fits row seen (piece ∷ pieces) behind → (Fits row (with_value o value seen) pieces behind → Taken row (with_value o value seen) pieces behind words)
    → Taken row seen (piece ∷ pieces) behind before
taken_value row seen o value piece pieces behind words before says shows is step fits go =
    let none = not_seen o value seen (values_of o pieces) (subst (λ (l : List (List ℕ)). OnceAtMost (given o seen ++ l)) (says o) (fits.once o)) in
    let has = has_this row o value (values_of o pieces) (subst (λ (l : List (List ℕ)). Has row o ⊎ (l ≡ [])) (says o) (fits.has o)) in
    let taken = go (fits_value row seen o value piece pieces behind says shows is none fits) in
    let positional : positionals_of pieces ++ behind ≡ positionals_of (piece ∷ pieces) ++ behind = ap (λ (l : List (List ℕ)). l ++ behind) (sym shows) in
    record {
      end = taken.end;
      seen_is = step taken.end has none taken.seen_is;
      values = λ p. taken.values p ∙ given_more p o value seen (values_of p pieces) is none ∙ ap (λ (l : List (List ℕ)). given p seen ++ l) (sym (says p));
      positionals = taken.positionals ∙ ap (λ (i : Option (List ℕ)). listed i ++ (positionals_of pieces ++ behind)) (value_stays o value seen).positional
          ∙ ap (λ (l : List (List ℕ)). listed seen.positional ++ l) positional;
    }

apart_step : (row : CommandRow) (seen end : Seen) (o : CommandOption) (value : List ℕ) (words : List (List ℕ)) → seen.waits ≡ None → seen.ended ≡ false
    → takes_value o ≡ true → is_dashed value ≡ false → Has row o → is_seen o seen ≡ false → seen_of row (with_value o value seen) words ≡ Some end
    → seen_of row seen (word_of o ∷ value ∷ words) ≡ Some end
apart_step row seen end o value words free off takes plain has none e =
    let waits : with_option o None seen ≡ Some (record seen { waits = Some o }) = simp (none, takes) in
    let second : with_word row value (record seen { waits = Some o }) ≡ Some (with_value o value (record seen { waits = Some o })) = simp (off, plain) in
    one_more row seen (record seen { waits = Some o }) end (word_of o) (value ∷ words) (taken_alone row o seen free off has ∙ waits)
    (one_more row (record seen { waits = Some o }) (with_value o value seen) end value words (second ∙ ap Some (value_after o value seen)) e)

joined_step : (row : CommandRow) (seen end : Seen) (o : CommandOption) (value : List ℕ) (words : List (List ℕ)) → seen.waits ≡ None → seen.ended ≡ false
    → takes_value o ≡ true → Has row o → is_seen o seen ≡ false → seen_of row (with_value o value seen) words ≡ Some end
    → seen_of row seen ((word_of o ++ 61 ∷ value) ∷ words) ≡ Some end
joined_step row seen end o value words free off takes has none e =
    let step : with_option o (Some value) seen ≡ Some (with_value o value seen) = simp (none, takes) in
    one_more row seen (with_value o value seen) end (word_of o ++ 61 ∷ value) words (taken_joined row o value seen free off has ∙ step) e

flag_step : (row : CommandRow) (seen end : Seen) (o : CommandOption) (words : List (List ℕ)) → seen.waits ≡ None → seen.ended ≡ false
    → takes_value o ≡ false → Has row o → is_seen o seen ≡ false → seen_of row (with_value o [] seen) words ≡ Some end
    → seen_of row seen (word_of o ∷ words) ≡ Some end
flag_step row seen end o words free off takes has none e =
    let step : with_option o None seen ≡ Some (with_value o [] seen) = simp (none, takes) in
    one_more row seen (with_value o [] seen) end (word_of o) words (taken_alone row o seen free off has ∙ step) e

taken : (row : CommandRow) (pieces : List Piece) (ended behind : List (List ℕ)) (seen : Seen) → seen.ended ≡ false → All IsPiece pieces → IsEnd ended behind
    → Fits row seen pieces behind → Taken row seen pieces behind (in_row pieces ended)
taken row [] ended behind seen off are is fits = taken_ended row ended behind seen off is fits
taken row (Apart o value ∷ pieces) ended behind seen off are is fits =
    let piece = All-head IsPiece (Apart o value) pieces are in let others = All-tail IsPiece (Apart o value) pieces are in
    taken_value row seen o value (Apart o value) pieces behind (in_row pieces ended) (in_row (Apart o value ∷ pieces) ended) (λ p. refl) refl (inl piece.0)
    (λ end has none e. apart_step row seen end o value (in_row pieces ended) fits.free off piece.0 piece.1 has none e) fits
    (λ f. taken row pieces ended behind (with_value o value seen) ((value_stays o value seen).ended ∙ off) others is f)
taken row (Joined o value ∷ pieces) ended behind seen off are is fits =
    let piece = All-head IsPiece (Joined o value) pieces are in let others = All-tail IsPiece (Joined o value) pieces are in
    taken_value row seen o value (Joined o value) pieces behind (in_row pieces ended) (in_row (Joined o value ∷ pieces) ended) (λ p. refl) refl (inl piece)
    (λ end has none e. joined_step row seen end o value (in_row pieces ended) fits.free off piece has none e) fits
    (λ f. taken row pieces ended behind (with_value o value seen) ((value_stays o value seen).ended ∙ off) others is f)
taken row (Flag o ∷ pieces) ended behind seen off are is fits =
    let piece = All-head IsPiece (Flag o) pieces are in let others = All-tail IsPiece (Flag o) pieces are in
    taken_value row seen o [] (Flag o) pieces behind (in_row pieces ended) (in_row (Flag o ∷ pieces) ended) (λ p. refl) refl (inr refl)
    (λ end has none e. flag_step row seen end o (in_row pieces ended) fits.free off piece has none e) fits
    (λ f. taken row pieces ended behind (with_value o [] seen) ((value_stays o [] seen).ended ∙ off) others is f)
taken row (Positional word ∷ pieces) ended behind seen off are is fits =
    let piece = All-head IsPiece (Positional word) pieces are in let others = All-tail IsPiece (Positional word) pieces are in
    taken_positional row seen word (Positional word ∷ pieces) pieces behind behind (in_row pieces ended) (inr piece) (λ o. refl) refl fits
    (λ f. taken row pieces ended behind (record seen { positional = Some word }) off others is f)

-- ---- whole lines

abbrev path_row : CommandRow
path_row = row (codes "path") name.Path path_options true

abbrev packets_row : CommandRow
packets_row = row (codes "packets") name.Packets packets_options false

abbrev times_row : CommandRow
times_row = row (codes "times") name.Times times_options false

abbrev retired_row : CommandRow
retired_row = row (codes "retired") name.Retired retired_options true

abbrev trace_row : CommandRow
trace_row = row (codes "trace") name.Trace trace_options true

abbrev selftest_row : CommandRow
selftest_row = row (codes "selftest") name.Selftest selftest_options true

-- the first word is a command's, and the others were seen behind it
record Begins (line : CommandRow) (word : List ℕ) (words : List (List ℕ)) (c : Command) : Type 0 where
  is : word ≡ line.word
  end : Seen
  seen_is : seen_of line nothing_seen words ≡ Some end
  means : command_in line.name end ≡ Some c

begins_by : (line : CommandRow) (word : List ℕ) (words : List (List ℕ)) (c : Command) → bytes_eq word line.word ≡ true
    → option_and_then (command_in line.name) (seen_of line nothing_seen words) ≡ Some c → Begins line word words c
begins_by line word words c is e =
    let step = then_some (seen_of line nothing_seen words) (command_in line.name) c e in
    record { is = (bytes_eq-Decides word line.word).0 is; end = step.0; seen_is = step.1; means = step.2 }

abbrev Line : List ℕ → List (List ℕ) → Command → Type 0
Line word words c =
    Begins path_row word words c ⊎ Begins packets_row word words c ⊎ Begins times_row word words c ⊎ Begins retired_row word words c
    ⊎ Begins trace_row word words c ⊎ Begins selftest_row word words c

line_by : (word : List ℕ) (words : List (List ℕ)) (c : Command) (a b m d t s : Bool) → bytes_eq word (codes "path") ≡ a
    → bytes_eq word (codes "packets") ≡ b → bytes_eq word (codes "times") ≡ m → bytes_eq word (codes "retired") ≡ d → bytes_eq word (codes "trace") ≡ t
    → bytes_eq word (codes "selftest") ≡ s → meaning (word ∷ words) ≡ Some c → Line word words c
line_by word words c true b m d t s x y u z w v e = inl (begins_by path_row word words c x (simp x at e))
line_by word words c false true m d t s x y u z w v e = inr (inl (begins_by packets_row word words c y (simp (x, y) at e)))
line_by word words c false false true d t s x y u z w v e = inr (inr (inl (begins_by times_row word words c u (simp (x, y, u) at e))))
line_by word words c false false false true t s x y u z w v e =
    inr (inr (inr (inl (begins_by retired_row word words c z (simp (x, y, u, z) at e)))))
line_by word words c false false false false true s x y u z w v e =
    inr (inr (inr (inr (inl (begins_by trace_row word words c w (simp (x, y, u, z, w) at e))))))
line_by word words c false false false false false true x y u z w v e =
    inr (inr (inr (inr (inr (begins_by selftest_row word words c v (simp (x, y, u, z, w, v) at e))))))
line_by word words c false false false false false false x y u z w v e = let f = simp (x, y, u, z, w, v) at e in absurd cc

line : (word : List ℕ) (words : List (List ℕ)) (c : Command) → meaning (word ∷ words) ≡ Some c → Line word words c
line word words c e =
    line_by word words c (bytes_eq word (codes "path")) (bytes_eq word (codes "packets")) (bytes_eq word (codes "times")) (bytes_eq word (codes "retired"))
    (bytes_eq word (codes "trace")) (bytes_eq word (codes "selftest")) refl refl refl refl refl refl e

abbrev begin_parts : (line : CommandRow) (word : List ℕ) (words : List (List ℕ)) (c : Command) (b : Begins line word words c)
    → Parts line nothing_seen b.end words
begin_parts line word words c b = parts line words nothing_seen b.end refl tt b.seen_is

-- an option that is found by its name is one of them
one_by : (o p : CommandOption) (os : List CommandOption) (named known : Bool) → bytes_eq (name_of o) (name_of p) ≡ named → is_same o p ≡ known
    → (find (λ q. bytes_eq (name_of o) (name_of q)) os ≡ Some o → has_option os o ≡ true)
    → find (λ q. bytes_eq (name_of o) (name_of q)) (p ∷ os) ≡ Some o → has_option (p ∷ os) o ≡ true
one_by o p os named true is same rest e = simp same
one_by o p os false false is other rest e = simp other (rest (simp is at e))
one_by o p os true false is other rest e =
    let this : p ≡ o = (let f = simp is at e in cc) in
    let known = subst (λ (q : CommandOption). is_same o q ≡ false) this other in absurd (let g = sym (own_key o) ∙ known in cc)

is_one : (o : CommandOption) (os : List CommandOption) → find (λ q. bytes_eq (name_of o) (name_of q)) os ≡ Some o → has_option os o ≡ true
is_one o [] e = absurd cc
is_one o (p ∷ os) e = one_by o p os (bytes_eq (name_of o) (name_of p)) (is_same o p) refl refl (is_one o os) e

-- no option stands that the command lacks
only_its : (row : CommandRow) (o : CommandOption) (values : List (List ℕ)) → Has row o ⊎ (values ≡ []) → has_option row.options o ≡ false → values ≡ []
only_its row o values (inl has) lacks = absurd (let f = sym (is_one o row.options has) ∙ lacks in cc)
only_its row o values (inr none) lacks = none

-- the line of the pieces
abbrev line_of : (line : CommandRow) (word : List ℕ) (words positionals : List (List ℕ)) (c : Command) (b : Begins line word words c)
    → (p : Parts line nothing_seen b.end words) → listed b.end.positional ≡ positionals → IsLine line.word line.options (word ∷ words) positionals
line_of line word words positionals c b p are = record {
  pieces = p.pieces;
  ended = p.ended;
  behind = p.behind;
  row = ap (λ (w : List ℕ). w ∷ words) b.is ∙ ap (λ (ws : List (List ℕ)). line.word ∷ ws) p.row_is;
  are_pieces = p.are_pieces;
  end_is = p.end_is;
  positionals_are = sym p.positionals ∙ are;
  only = λ o lacks. only_its line o (values_of o p.pieces) (p.has o) lacks;
}

-- what the end says of how the input is taken
record Says (end : Seen) (intake : Intake) : Type 0 where
  all : Sizes
  sizes : SizesIn end all
  units_are : units_by end.settings all ≡ Some intake.units
  layout_is : layout_in end ≡ Some intake.layout

intake_found : (end : Seen) (intake : Intake) → intake_in end ≡ Some intake → Says end intake
intake_found end intake e =
    let z = then_some (units_in end) _ intake e in let l = map_some (layout_in end) _ intake z.2 in let all = then_some (sizes_in end) _ z.0 z.1 in
    record {
      all = all.0;
      sizes = sizes_found end all.0 all.1;
      units_are = all.2 ∙ ap (λ (i : Intake). Some i.units) l.2;
      layout_is = l.1 ∙ ap (λ (i : Intake). Some i.layout) l.2;
    }

-- what the end says of the program: its name, and what its file is
abbrev SaysProgram : Seen → Program → Type 0
SaysProgram end program = (end.positional ≡ Some program.name) × (form_by end.elf ≡ program.form)

program_found : (end : Seen) (program : Program) → program_in end ≡ Some program → SaysProgram end program
program_found end program e =
    let i = map_some end.positional _ program e in (i.1 ∙ ap Some (ap (λ (p : Program). p.name) i.2), ap (λ (p : Program). p.form) i.2)

form_values : (end : Seen) (file : ProgramForm) (flags : List (List ℕ)) → form_by end.elf ≡ file → given option.Elf end ≡ flags → IsForm flags file
form_values end file flags is same =
    subst (λ (l : List (List ℕ)). IsForm l file) same (subst (IsForm (stood end.elf)) is (form_found end.elf))

counted_values : (end : Seen) (counted : Bool) (flags : List (List ℕ)) → end.count ≡ counted → given option.Count end ≡ flags → IsCounted flags counted
counted_values end counted flags is same =
    subst (λ (l : List (List ℕ)). IsCounted l counted) same (subst (IsCounted (stood end.count)) is (counted_found end.count))

-- paths and their counts are two commands
record SameWalk (count counted : Bool) (p program : Program) (i intake : Intake) : Type 0 where
  count_is : count ≡ counted
  program_is : p ≡ program
  intake_is : i ≡ intake

walks_apart : (count counted : Bool) (p program : Program) (i intake : Intake) → path_by count p i ≡ path_by counted program intake
    → SameWalk count counted p program i intake
walks_apart true true p program i intake e = record { count_is = refl; program_is = cc; intake_is = cc }
walks_apart false false p program i intake e = record { count_is = refl; program_is = cc; intake_is = cc }
walks_apart true false p program i intake e = absurd cc
walks_apart false true p program i intake e = absurd cc

-- what the end says of a program and of an input, and whether the paths are counted
record SaysWalk (end : Seen) (program : Program) (intake : Intake) (counted : Bool) : Type 0 where
  count_is : end.count ≡ counted
  file : SaysProgram end program
  taken : Says end intake

walk_says : (end : Seen) (program : Program) (intake : Intake) (counted : Bool) → command_in name.Path end ≡ Some (path_by counted program intake)
    → SaysWalk end program intake counted
walk_says end program intake counted e =
    let c = path_by counted program intake in let p = then_some (program_in end) _ c e in
    let i = map_some (intake_in end) (path_by end.count p.0) c p.2 in let same = walks_apart end.count counted p.0 program i.0 intake i.2 in
    record {
      count_is = same.count_is;
      file = program_found end program (p.1 ∙ ap Some same.program_is);
      taken = intake_found end intake (i.1 ∙ ap Some same.intake_is);
    }

packets_says : (end : Seen) (intake : Intake) → command_in name.Packets end ≡ Some (Packets intake) → Says end intake
packets_says end intake e =
    let i = map_some (intake_in end) Packets (Packets intake) e in let intake_is : i.0 ≡ intake = (let f = i.2 in cc) in
    intake_found end intake (i.1 ∙ ap Some intake_is)

times_says : (end : Seen) (intake : Intake) → command_in name.Times end ≡ Some (Times intake) → Says end intake
times_says end intake e =
    let i = map_some (intake_in end) Times (Times intake) e in let intake_is : i.0 ≡ intake = (let f = i.2 in cc) in
    intake_found end intake (i.1 ∙ ap Some intake_is)

retired_says : (end : Seen) (program : Program) → command_in name.Retired end ≡ Some (Retired program) → SaysProgram end program
retired_says end program e =
    let p = map_some (program_in end) Retired (Retired program) e in let program_is : p.0 ≡ program = (let f = p.2 in cc) in
    program_found end program (p.1 ∙ ap Some program_is)

-- what the end says of a program, and of which frames are written
record SaysFrames (end : Seen) (program : Program) (last every : Option ℕ) : Type 0 where
  file : SaysProgram end program
  last_is : count_of most_last end.last ≡ Some last
  every_is : count_of most_every end.every ≡ Some every

trace_says : (end : Seen) (program : Program) (last every : Option ℕ) → command_in name.Trace end ≡ Some (Trace program last every)
    → SaysFrames end program last every
trace_says end program last every e =
    let p = then_some (program_in end) _ (Trace program last every) e in
    let l = then_some (count_of most_last end.last) _ (Trace program last every) p.2 in
    let y = map_some (count_of most_every end.every) (Trace p.0 l.0) (Trace program last every) l.2 in
    let program_is : p.0 ≡ program = (let f = y.2 in cc) in let last_is : l.0 ≡ last = (let f = y.2 in cc) in
    let every_is : y.0 ≡ every = (let f = y.2 in cc) in
    record { file = program_found end program (p.1 ∙ ap Some program_is); last_is = l.1 ∙ ap Some last_is; every_is = y.1 ∙ ap Some every_is }

-- what the end says of a number, and of how many bytes are read
record SaysNumber (end : Seen) (n : ℕ) (cut : Option ℕ) : Type 0 where
  number : List ℕ
  stands : end.positional ≡ Some number
  number_is : decimal_of number ≡ Some n
  within : n ≤ most_number
  cut_is : cut_of end.cut ≡ Some cut

selftest_says : (end : Seen) (n : ℕ) (cut : Option ℕ) → command_in name.Selftest end ≡ Some (Selftest n cut) → SaysNumber end n cut
selftest_says end n cut e =
    let w = then_some end.positional _ (Selftest n cut) e in let m = then_some (number_to most_number w.0) _ (Selftest n cut) w.2 in
    let k = map_some (cut_of end.cut) (Selftest m.0) (Selftest n cut) m.2 in
    let same : m.0 ≡ n = (let f = k.2 in cc) in let cut_same : k.0 ≡ cut = (let f = k.2 in cc) in
    let within = number_within most_number w.0 n (m.1 ∙ ap Some same) in
    record { number = w.0; stands = w.1; number_is = within.0; within = within.1; cut_is = k.1 ∙ ap Some cut_same }

layout_values : (end : Seen) (layout : Layout) (raws values syncs : List (List ℕ)) → layout_in end ≡ Some layout → given option.Raw end ≡ raws
    → listed end.wrap ≡ values → given option.Sync end ≡ syncs → IsLayout raws values syncs layout
layout_values end layout raws values syncs is raw wrap sync =
    let found = layout_found end.raw end.wrap end.sync layout is in
    let by_sync = subst (λ (l : List (List ℕ)). IsLayout (stood end.raw) (listed end.wrap) l layout) sync found in
    let by_wrap = subst (λ (l : List (List ℕ)). IsLayout (stood end.raw) l syncs layout) wrap by_sync in
    subst (λ (l : List (List ℕ)). IsLayout l values syncs layout) raw by_wrap

units_values : (list : Option (List ℕ)) (all : Sizes) (units : List Sizes) (values : List (List ℕ)) → units_by list all ≡ Some units
    → listed list ≡ values → IsUnits values all units
units_values list all units values is same = subst (λ (l : List (List ℕ)). IsUnits l all units) same (units_found list all units is)

number_values : (default : ℕ) (value : Option (List ℕ)) (n : ℕ) (values : List (List ℕ)) → number_of default value ≡ Some n → listed value ≡ values
    → IsNumber default values n
number_values default value n values is same = subst (λ (l : List (List ℕ)). IsNumber default l n) same (number_found default value n is)

-- what the pieces say of how the input is taken is what was seen
taken_of : (row : CommandRow) (words : List (List ℕ)) (end : Seen) (intake : Intake) (p : Parts row nothing_seen end words) → Says end intake
    → IsTakenBy p.pieces intake
taken_of row words end intake p says =
    let sizes = says.sizes in let all = says.all in
    record {
      layout_is = layout_values end intake.layout (values_of option.Raw p.pieces) (values_of option.Wrap p.pieces) (values_of option.Sync p.pieces)
          says.layout_is (p.values option.Raw) (p.values option.Wrap) (p.values option.Sync);
      all = all;
      depth_is = number_values default_sizes.depth end.depth all.depth (values_of option.Depth p.pieces) sizes.depth_is (p.values option.Depth);
      vmid_is = number_values default_sizes.vmid_bytes end.vmid all.vmid_bytes (values_of option.Vmid p.pieces) sizes.vmid_is (p.values option.Vmid);
      cid_is = number_values default_sizes.cid_bytes end.cid all.cid_bytes (values_of option.Cid p.pieces) sizes.cid_is (p.values option.Cid);
      within = sizes.within;
      units_are = units_values end.settings all intake.units (values_of option.Settings p.pieces) says.units_are (p.values option.Settings);
    }

walk_of_line : (word : List ℕ) (words : List (List ℕ)) (program : Program) (intake : Intake) (counted : Bool)
    → Begins path_row word words (path_by counted program intake) → IsWalkLine (word ∷ words) program intake counted
walk_of_line word words program intake counted b =
    let p = begin_parts path_row word words (path_by counted program intake) b in let says = walk_says b.end program intake counted b.means in
    record {
      line = line_of path_row word words (program.name ∷ []) (path_by counted program intake) b p (ap listed says.file.0);
      form_is = form_values b.end program.form (values_of option.Elf p.pieces) says.file.1 (p.values option.Elf);
      counted_is = counted_values b.end counted (values_of option.Count p.pieces) says.count_is (p.values option.Count);
      taken = taken_of path_row words b.end intake p says.taken;
    }

-- a command without a positional has none
no_positionals : (positionals : List (List ℕ)) → (false ≡ true) ⊎ (positionals ≡ []) → positionals ≡ []
no_positionals positionals (inl has) = absurd cc
no_positionals positionals (inr none) = none

packets_of_line : (word : List ℕ) (words : List (List ℕ)) (intake : Intake) → Begins packets_row word words (Packets intake)
    → IsPacketsLine (word ∷ words) intake
packets_of_line word words intake b =
    let p = begin_parts packets_row word words (Packets intake) b in
    record {
      line = line_of packets_row word words [] (Packets intake) b p (p.positionals ∙ no_positionals (positionals_of p.pieces ++ p.behind) p.allowed);
      taken = taken_of packets_row words b.end intake p (packets_says b.end intake b.means);
    }

times_of_line : (word : List ℕ) (words : List (List ℕ)) (intake : Intake) → Begins times_row word words (Times intake)
    → IsTimesLine (word ∷ words) intake
times_of_line word words intake b =
    let p = begin_parts times_row word words (Times intake) b in
    record {
      line = line_of times_row word words [] (Times intake) b p (p.positionals ∙ no_positionals (positionals_of p.pieces ++ p.behind) p.allowed);
      taken = taken_of times_row words b.end intake p (times_says b.end intake b.means);
    }

retired_of_line : (word : List ℕ) (words : List (List ℕ)) (program : Program) → Begins retired_row word words (Retired program)
    → IsRetiredLine (word ∷ words) program
retired_of_line word words program b =
    let p = begin_parts retired_row word words (Retired program) b in
    record {
      line = line_of retired_row word words (program.name ∷ []) (Retired program) b p (ap listed (retired_says b.end program b.means).0);
      form_is = form_values b.end program.form (values_of option.Elf p.pieces) (retired_says b.end program b.means).1 (p.values option.Elf);
    }

count_values : (most : ℕ) (value : Option (List ℕ)) (count : Option ℕ) (values : List (List ℕ)) → count_of most value ≡ Some count → listed value ≡ values
    → IsCount most values count
count_values most value count values is same = subst (λ (l : List (List ℕ)). IsCount most l count) same (count_found most value count is)

trace_of_line : (word : List ℕ) (words : List (List ℕ)) (program : Program) (last every : Option ℕ)
    → Begins trace_row word words (Trace program last every) → IsTraceLine (word ∷ words) program last every
trace_of_line word words program last every b =
    let p = begin_parts trace_row word words (Trace program last every) b in let says = trace_says b.end program last every b.means in
    record {
      line = line_of trace_row word words (program.name ∷ []) (Trace program last every) b p (ap listed says.file.0);
      form_is = form_values b.end program.form (values_of option.Elf p.pieces) says.file.1 (p.values option.Elf);
      last_is = count_values most_last b.end.last last (values_of option.Last p.pieces) says.last_is (p.values option.Last);
      every_is = count_values most_every b.end.every every (values_of option.SyncEvery p.pieces) says.every_is (p.values option.SyncEvery);
    }

selftest_of_line : (word : List ℕ) (words : List (List ℕ)) (n : ℕ) (cut : Option ℕ) → Begins selftest_row word words (Selftest n cut)
    → IsSelftestLine (word ∷ words) n cut
selftest_of_line word words n cut b =
    let p = begin_parts selftest_row word words (Selftest n cut) b in let says = selftest_says b.end n cut b.means in
    record {
      number = says.number;
      line = line_of selftest_row word words (says.number ∷ []) (Selftest n cut) b p (ap listed says.stands);
      number_is = says.number_is;
      number_within = says.within;
      cut_is = subst (λ (l : List (List ℕ)). IsCut l cut) (p.values option.Cut) (cut_found b.end.cut cut says.cut_is);
    }

-- a command means what its name says
abbrev name_in : Command → CommandName
name_in (Path program intake) = name.Path
name_in (Counts program intake) = name.Path
name_in (Packets intake) = name.Packets
name_in (Times intake) = name.Times
name_in (Retired program) = name.Retired
name_in (Trace program last every) = name.Trace
name_in (Selftest n cut) = name.Selftest

walk_name : (counted : Bool) (program : Program) (intake : Intake) → name.Path ≡ name_in (path_by counted program intake)
walk_name true program intake = refl
walk_name false program intake = refl

named : (n : CommandName) (end : Seen) (c : Command) → command_in n end ≡ Some c → n ≡ name_in c
named name.Path end c e =
    let i = then_some (program_in end) _ c e in let z = map_some (intake_in end) (path_by end.count i.0) c i.2 in
    walk_name end.count i.0 z.0 ∙ ap name_in z.2
named name.Packets end c e = let z = map_some (intake_in end) Packets c e in ap name_in z.2
named name.Times end c e = let z = map_some (intake_in end) Times c e in ap name_in z.2
named name.Retired end c e = let i = map_some (program_in end) Retired c e in ap name_in i.2
named name.Trace end c e =
    let i = then_some (program_in end) _ c e in let l = then_some (count_of most_last end.last) _ c i.2 in
    let y = map_some (count_of most_every end.every) (Trace i.0 l.0) c l.2 in ap name_in y.2
named name.Selftest end c e =
    let w = then_some end.positional _ c e in let m = then_some (number_to most_number w.0) _ c w.2 in
    let k = map_some (cut_of end.cut) (Selftest m.0) c m.2 in ap name_in k.2

another : (n : CommandName) (end : Seen) (c : Command) → command_in n end ≡ Some c → (n ≡ name_in c → ⊥) → ⊥
another n end c e other = other (named n end c e)

-- another command than `path` means no paths, counted or not
no_walk : (n : CommandName) (end : Seen) (program : Program) (intake : Intake) (counted : Bool) → command_in n end ≡ Some (path_by counted program intake)
    → (n ≡ name.Path → ⊥) → ⊥
no_walk n end program intake counted e other =
    another n end (path_by counted program intake) e (λ f. other (f ∙ sym (walk_name counted program intake)))

pub walk_line : (words : List (List ℕ)) (program : Program) (intake : Intake) (counted : Bool) → meaning words ≡ Some (path_by counted program intake)
    → IsWalkLine words program intake counted
walk_line [] program intake counted e = absurd cc
walk_line (word ∷ words) program intake counted e = elim (line word words (path_by counted program intake) e) [
  | inl b ↦ walk_of_line word words program intake counted b
  | inr (inl b) ↦ absurd (no_walk name.Packets b.end program intake counted b.means (λ f. absurd cc))
  | inr (inr (inl b)) ↦ absurd (no_walk name.Times b.end program intake counted b.means (λ f. absurd cc))
  | inr (inr (inr (inl b))) ↦ absurd (no_walk name.Retired b.end program intake counted b.means (λ f. absurd cc))
  | inr (inr (inr (inr (inl b)))) ↦ absurd (no_walk name.Trace b.end program intake counted b.means (λ f. absurd cc))
  | inr (inr (inr (inr (inr b)))) ↦ absurd (no_walk name.Selftest b.end program intake counted b.means (λ f. absurd cc))
]

pub packets_line : (words : List (List ℕ)) (intake : Intake) → meaning words ≡ Some (Packets intake)
    → IsPacketsLine words intake
packets_line [] intake e = absurd cc
packets_line (word ∷ words) intake e = elim (line word words (Packets intake) e) [
  | inl b ↦ absurd (another name.Path b.end (Packets intake) b.means (λ f. absurd cc))
  | inr (inl b) ↦ packets_of_line word words intake b
  | inr (inr (inl b)) ↦ absurd (another name.Times b.end (Packets intake) b.means (λ f. absurd cc))
  | inr (inr (inr (inl b))) ↦ absurd (another name.Retired b.end (Packets intake) b.means (λ f. absurd cc))
  | inr (inr (inr (inr (inl b)))) ↦ absurd (another name.Trace b.end (Packets intake) b.means (λ f. absurd cc))
  | inr (inr (inr (inr (inr b)))) ↦ absurd (another name.Selftest b.end (Packets intake) b.means (λ f. absurd cc))
]

pub times_line : (words : List (List ℕ)) (intake : Intake) → meaning words ≡ Some (Times intake)
    → IsTimesLine words intake
times_line [] intake e = absurd cc
times_line (word ∷ words) intake e = elim (line word words (Times intake) e) [
  | inl b ↦ absurd (another name.Path b.end (Times intake) b.means (λ f. absurd cc))
  | inr (inl b) ↦ absurd (another name.Packets b.end (Times intake) b.means (λ f. absurd cc))
  | inr (inr (inl b)) ↦ times_of_line word words intake b
  | inr (inr (inr (inl b))) ↦ absurd (another name.Retired b.end (Times intake) b.means (λ f. absurd cc))
  | inr (inr (inr (inr (inl b)))) ↦ absurd (another name.Trace b.end (Times intake) b.means (λ f. absurd cc))
  | inr (inr (inr (inr (inr b)))) ↦ absurd (another name.Selftest b.end (Times intake) b.means (λ f. absurd cc))
]

pub retired_line : (words : List (List ℕ)) (program : Program) → meaning words ≡ Some (Retired program)
    → IsRetiredLine words program
retired_line [] program e = absurd cc
retired_line (word ∷ words) program e = elim (line word words (Retired program) e) [
  | inl b ↦ absurd (another name.Path b.end (Retired program) b.means (λ f. absurd cc))
  | inr (inl b) ↦ absurd (another name.Packets b.end (Retired program) b.means (λ f. absurd cc))
  | inr (inr (inl b)) ↦ absurd (another name.Times b.end (Retired program) b.means (λ f. absurd cc))
  | inr (inr (inr (inl b))) ↦ retired_of_line word words program b
  | inr (inr (inr (inr (inl b)))) ↦ absurd (another name.Trace b.end (Retired program) b.means (λ f. absurd cc))
  | inr (inr (inr (inr (inr b)))) ↦ absurd (another name.Selftest b.end (Retired program) b.means (λ f. absurd cc))
]

pub trace_line : (words : List (List ℕ)) (program : Program) (last every : Option ℕ) → meaning words ≡ Some (Trace program last every)
    → IsTraceLine words program last every
trace_line [] program last every e = absurd cc
trace_line (word ∷ words) program last every e = elim (line word words (Trace program last every) e) [
  | inl b ↦ absurd (another name.Path b.end (Trace program last every) b.means (λ f. absurd cc))
  | inr (inl b) ↦ absurd (another name.Packets b.end (Trace program last every) b.means (λ f. absurd cc))
  | inr (inr (inl b)) ↦ absurd (another name.Times b.end (Trace program last every) b.means (λ f. absurd cc))
  | inr (inr (inr (inl b))) ↦ absurd (another name.Retired b.end (Trace program last every) b.means (λ f. absurd cc))
  | inr (inr (inr (inr (inl b)))) ↦ trace_of_line word words program last every b
  | inr (inr (inr (inr (inr b)))) ↦ absurd (another name.Selftest b.end (Trace program last every) b.means (λ f. absurd cc))
]

pub selftest_line : (words : List (List ℕ)) (n : ℕ) (cut : Option ℕ) → meaning words ≡ Some (Selftest n cut)
    → IsSelftestLine words n cut
selftest_line [] n cut e = absurd cc
selftest_line (word ∷ words) n cut e = elim (line word words (Selftest n cut) e) [
  | inl b ↦ absurd (another name.Path b.end (Selftest n cut) b.means (λ f. absurd cc))
  | inr (inl b) ↦ absurd (another name.Packets b.end (Selftest n cut) b.means (λ f. absurd cc))
  | inr (inr (inl b)) ↦ absurd (another name.Times b.end (Selftest n cut) b.means (λ f. absurd cc))
  | inr (inr (inr (inl b))) ↦ absurd (another name.Retired b.end (Selftest n cut) b.means (λ f. absurd cc))
  | inr (inr (inr (inr (inl b)))) ↦ absurd (another name.Trace b.end (Selftest n cut) b.means (λ f. absurd cc))
  | inr (inr (inr (inr (inr b)))) ↦ selftest_of_line word words n cut b
]

-- ---- and what is spelled so means it

number_once : (default : ℕ) (values : List (List ℕ)) (n : ℕ) → IsNumber default values n → OnceAtMost values
number_once default [] n is = tt
number_once default (v ∷ []) n is = tt
number_once default (v ∷ w ∷ values) n is = absurd is

cut_once : (values : List (List ℕ)) (cut : Option ℕ) → IsCut values cut → OnceAtMost values
cut_once [] cut is = tt
cut_once (v ∷ []) cut is = tt
cut_once (v ∷ w ∷ values) cut is = absurd is

units_once : (values : List (List ℕ)) (all : Sizes) (units : List Sizes) → IsUnits values all units → OnceAtMost values
units_once [] all units is = tt
units_once (v ∷ []) all units is = tt
units_once (v ∷ w ∷ values) all units is = absurd is

count_once : (most : ℕ) (values : List (List ℕ)) (count : Option ℕ) → IsCount most values count → OnceAtMost values
count_once most [] count is = tt
count_once most (v ∷ []) count is = tt
count_once most (v ∷ w ∷ values) count is = absurd is

form_once : (flags : List (List ℕ)) (file : ProgramForm) → IsForm flags file → OnceAtMost flags
form_once [] file is = tt
form_once (f ∷ []) file is = tt
form_once (f ∷ g ∷ flags) file is = absurd is

counted_once : (flags : List (List ℕ)) (counted : Bool) → IsCounted flags counted → OnceAtMost flags
counted_once [] counted is = tt
counted_once (f ∷ []) counted is = tt
counted_once (f ∷ g ∷ flags) counted is = absurd is

-- each of the options that tell the layout stands once at most
record LayoutOnce (raws values syncs : List (List ℕ)) : Type 0 where
  raw : OnceAtMost raws
  wrap : OnceAtMost values
  sync : OnceAtMost syncs

layout_once : (raws values syncs : List (List ℕ)) (layout : Layout) → IsLayout raws values syncs layout → LayoutOnce raws values syncs
layout_once [] [] [] layout is = record { raw = tt; wrap = tt; sync = tt }
layout_once (r ∷ []) [] [] layout is = record { raw = tt; wrap = tt; sync = tt }
layout_once [] (v ∷ []) [] layout is = record { raw = tt; wrap = tt; sync = tt }
layout_once [] [] (s ∷ []) layout is = record { raw = tt; wrap = tt; sync = tt }
layout_once (r ∷ q ∷ raws) values syncs layout is = absurd is
layout_once (r ∷ []) (v ∷ values) syncs layout is = absurd is
layout_once (r ∷ []) [] (s ∷ syncs) layout is = absurd is
layout_once [] (v ∷ w ∷ values) syncs layout is = absurd is
layout_once [] (v ∷ []) (s ∷ syncs) layout is = absurd is
layout_once [] [] (s ∷ t ∷ syncs) layout is = absurd is

-- nothing was seen before the words
given_nothing : (o : CommandOption) → given o nothing_seen ≡ []
given_nothing option.Raw = refl
given_nothing option.Wrap = refl
given_nothing option.Sync = refl
given_nothing option.Depth = refl
given_nothing option.Vmid = refl
given_nothing option.Cid = refl
given_nothing option.Settings = refl
given_nothing option.Elf = refl
given_nothing option.Count = refl
given_nothing option.Last = refl
given_nothing option.SyncEvery = refl
given_nothing option.Cut = refl

-- so what is seen at the end is what the pieces say
told_in : (end : Seen) (pieces : List Piece) → ((o : CommandOption) → given o end ≡ given o nothing_seen ++ values_of o pieces) → (o : CommandOption)
    → given o end ≡ values_of o pieces
told_in end pieces values o = values o ∙ ap (λ (l : List (List ℕ)). l ++ values_of o pieces) (given_nothing o)

so_far_once : (o : CommandOption) (values : List (List ℕ)) → OnceAtMost values → OnceAtMost (given o nothing_seen ++ values)
so_far_once o values once = subst (λ (l : List (List ℕ)). OnceAtMost (l ++ values)) (sym (given_nothing o)) once

unused_once : (o : CommandOption) (values : List (List ℕ)) → values ≡ [] → OnceAtMost (given o nothing_seen ++ values)
unused_once o values none = so_far_once o values (subst OnceAtMost (sym none) tt)

abbrev taken_so : List Sizes → Layout → Intake
taken_so units layout = record { units = units; layout = layout }

number_listed : (default : ℕ) (value : Option (List ℕ)) (n : ℕ) (values : List (List ℕ)) → listed value ≡ values → IsNumber default values n
    → number_of default value ≡ Some n
number_listed default value n values same is = number_said default value n (subst (λ (l : List (List ℕ)). IsNumber default l n) (sym same) is)

units_listed : (list : Option (List ℕ)) (all : Sizes) (units : List Sizes) (values : List (List ℕ)) → listed list ≡ values → IsUnits values all units
    → units_by list all ≡ Some units
units_listed list all units values same is = units_said list all units (subst (λ (l : List (List ℕ)). IsUnits l all units) (sym same) is)

-- how the input is taken, by what is seen of the pieces
said_by : (end : Seen) (intake : Intake) (pieces : List Piece) → ((o : CommandOption) → given o end ≡ values_of o pieces) → IsTakenBy pieces intake
    → intake_in end ≡ Some intake
said_by end intake pieces values taken =
    let all = taken.all in
    let sizes_are = sizes_said end all (record {
      depth_is = number_listed default_sizes.depth end.depth all.depth (values_of option.Depth pieces) (values option.Depth) taken.depth_is;
      vmid_is = number_listed default_sizes.vmid_bytes end.vmid all.vmid_bytes (values_of option.Vmid pieces) (values option.Vmid) taken.vmid_is;
      cid_is = number_listed default_sizes.cid_bytes end.cid all.cid_bytes (values_of option.Cid pieces) (values option.Cid) taken.cid_is;
      within = taken.within;
    }) in
    let units_so : units_in end ≡ Some intake.units =
    ap (option_and_then (λ (others : Sizes). units_by end.settings others)) sizes_are
    ∙ units_listed end.settings all intake.units (values_of option.Settings pieces) (values option.Settings) taken.units_are in
    let by_sync = subst (λ (l : List (List ℕ)). IsLayout (values_of option.Raw pieces) (values_of option.Wrap pieces) l intake.layout)
    (sym (values option.Sync)) taken.layout_is in
    let by_wrap = subst (λ (l : List (List ℕ)). IsLayout (values_of option.Raw pieces) l (stood end.sync) intake.layout) (sym (values option.Wrap)) by_sync in
    let by_raw = subst (λ (l : List (List ℕ)). IsLayout l (listed end.wrap) (stood end.sync) intake.layout) (sym (values option.Raw)) by_wrap in
    let layout_so = layout_said end.raw end.wrap end.sync intake.layout by_raw in
    ap (option_and_then (λ (units : List Sizes). option_map (taken_so units) (layout_in end))) units_so
    ∙ ap (option_map (taken_so intake.units)) layout_so

-- each option that tells how an input is taken stands once at most
record TakenOnce (pieces : List Piece) : Type 0 where
  layout : LayoutOnce (values_of option.Raw pieces) (values_of option.Wrap pieces) (values_of option.Sync pieces)
  depth : OnceAtMost (values_of option.Depth pieces)
  vmid : OnceAtMost (values_of option.Vmid pieces)
  cid : OnceAtMost (values_of option.Cid pieces)
  settings : OnceAtMost (values_of option.Settings pieces)

taken_once : (pieces : List Piece) (intake : Intake) → IsTakenBy pieces intake → TakenOnce pieces
taken_once pieces intake taken = record {
  layout = layout_once _ _ _ intake.layout taken.layout_is;
  depth = number_once default_sizes.depth (values_of option.Depth pieces) taken.all.depth taken.depth_is;
  vmid = number_once default_sizes.vmid_bytes (values_of option.Vmid pieces) taken.all.vmid_bytes taken.vmid_is;
  cid = number_once default_sizes.cid_bytes (values_of option.Cid pieces) taken.all.cid_bytes taken.cid_is;
  settings = units_once (values_of option.Settings pieces) taken.all intake.units taken.units_are;
}

walk_once : (words : List (List ℕ)) (program : Program) (intake : Intake) (counted : Bool) (l : IsWalkLine words program intake counted)
    (o : CommandOption) → OnceAtMost (given o nothing_seen ++ values_of o l.line.pieces)
walk_once words program intake counted l option.Raw = (taken_once l.line.pieces intake l.taken).layout.raw
walk_once words program intake counted l option.Wrap = (taken_once l.line.pieces intake l.taken).layout.wrap
walk_once words program intake counted l option.Sync = (taken_once l.line.pieces intake l.taken).layout.sync
walk_once words program intake counted l option.Depth = (taken_once l.line.pieces intake l.taken).depth
walk_once words program intake counted l option.Vmid = (taken_once l.line.pieces intake l.taken).vmid
walk_once words program intake counted l option.Cid = (taken_once l.line.pieces intake l.taken).cid
walk_once words program intake counted l option.Settings = (taken_once l.line.pieces intake l.taken).settings
walk_once words program intake counted l option.Elf = form_once (values_of option.Elf l.line.pieces) program.form l.form_is
walk_once words program intake counted l option.Count = counted_once (values_of option.Count l.line.pieces) counted l.counted_is
walk_once words program intake counted l o = unused_once o (values_of o l.line.pieces) (l.line.only o refl)

walk_has : (words : List (List ℕ)) (program : Program) (intake : Intake) (counted : Bool) (l : IsWalkLine words program intake counted)
    (o : CommandOption) → Has path_row o ⊎ (values_of o l.line.pieces ≡ [])
walk_has words program intake counted l option.Raw = inl refl
walk_has words program intake counted l option.Wrap = inl refl
walk_has words program intake counted l option.Sync = inl refl
walk_has words program intake counted l option.Depth = inl refl
walk_has words program intake counted l option.Vmid = inl refl
walk_has words program intake counted l option.Cid = inl refl
walk_has words program intake counted l option.Settings = inl refl
walk_has words program intake counted l option.Elf = inl refl
walk_has words program intake counted l option.Count = inl refl
walk_has words program intake counted l o = inr (l.line.only o refl)

positional_once : (positionals : List (List ℕ)) (word : List ℕ) → positionals ≡ word ∷ [] → OnceAtMost positionals
positional_once positionals word are = subst OnceAtMost (sym are) tt

abbrev named_so : ProgramForm → List ℕ → Program
named_so file name = record { name = name; form = file }

program_said : (end : Seen) (program : Program) (flags : List (List ℕ)) → end.positional ≡ Some program.name → given option.Elf end ≡ flags
    → IsForm flags program.form → program_in end ≡ Some program
program_said end program flags e same is =
    let file = form_said end.elf program.form (subst (λ (l : List (List ℕ)). IsForm l program.form) (sym same) is) in
    ap (option_map (named_so (form_by end.elf))) e ∙ ap (λ (f : ProgramForm). Some (named_so f program.name)) file

walk_means : (words : List (List ℕ)) (end : Seen) (program : Program) (intake : Intake) (counted : Bool)
    → seen_of path_row nothing_seen words ≡ Some end → program_in end ≡ Some program → intake_in end ≡ Some intake → end.count ≡ counted
    → meaning (codes "path" ∷ words) ≡ Some (path_by counted program intake)
walk_means words end program intake counted e p i k =
    ap (option_and_then (command_in name.Path)) e
    ∙ (ap (option_and_then (λ v. option_map (path_by end.count v) (intake_in end))) p ∙ ap (option_map (path_by end.count program)) i
    ∙ ap (λ (b : Bool). Some (path_by b program intake)) k)

packets_means : (words : List (List ℕ)) (end : Seen) (intake : Intake) → seen_of packets_row nothing_seen words ≡ Some end
    → intake_in end ≡ Some intake → meaning (codes "packets" ∷ words) ≡ Some (Packets intake)
packets_means words end intake e i = ap (option_and_then (command_in name.Packets)) e ∙ ap (option_map Packets) i

times_means : (words : List (List ℕ)) (end : Seen) (intake : Intake) → seen_of times_row nothing_seen words ≡ Some end
    → intake_in end ≡ Some intake → meaning (codes "times" ∷ words) ≡ Some (Times intake)
times_means words end intake e i = ap (option_and_then (command_in name.Times)) e ∙ ap (option_map Times) i

retired_means : (words : List (List ℕ)) (end : Seen) (program : Program) → seen_of retired_row nothing_seen words ≡ Some end
    → program_in end ≡ Some program → meaning (codes "retired" ∷ words) ≡ Some (Retired program)
retired_means words end program e p = ap (option_and_then (command_in name.Retired)) e ∙ ap (option_map Retired) p

trace_means : (words : List (List ℕ)) (end : Seen) (program : Program) (last every : Option ℕ) → seen_of trace_row nothing_seen words ≡ Some end
    → program_in end ≡ Some program → count_of most_last end.last ≡ Some last → count_of most_every end.every ≡ Some every
    → meaning (codes "trace" ∷ words) ≡ Some (Trace program last every)
trace_means words end program last every e p l y =
    ap (option_and_then (command_in name.Trace)) e
    ∙ (ap (option_and_then (λ v. option_and_then (λ n. option_map (Trace v n) (count_of most_every end.every)) (count_of most_last end.last))) p
    ∙ (ap (option_and_then (λ n. option_map (Trace program n) (count_of most_every end.every))) l ∙ ap (option_map (Trace program last)) y))

selftest_means : (words : List (List ℕ)) (end : Seen) (number : List ℕ) (n : ℕ) (cut : Option ℕ) → seen_of selftest_row nothing_seen words ≡ Some end
    → end.positional ≡ Some number → number_to most_number number ≡ Some n → cut_of end.cut ≡ Some cut
    → meaning (codes "selftest" ∷ words) ≡ Some (Selftest n cut)
selftest_means words end number n cut e i m k =
    ap (option_and_then (command_in name.Selftest)) e
    ∙ (ap (option_and_then (λ word. option_and_then (λ x. option_map (Selftest x) (cut_of end.cut)) (number_to most_number word))) i
    ∙ (ap (option_and_then (λ x. option_map (Selftest x) (cut_of end.cut))) m ∙ ap (option_map (Selftest n)) k))

pub walk_said : (words : List (List ℕ)) (program : Program) (intake : Intake) (counted : Bool) → IsWalkLine words program intake counted
    → meaning words ≡ Some (path_by counted program intake)
walk_said words program intake counted l =
    let t = taken path_row l.line.pieces l.line.ended l.line.behind nothing_seen refl l.line.are_pieces l.line.end_is (record {
      free = refl;
      once = walk_once words program intake counted l;
      one = positional_once (positionals_of l.line.pieces ++ l.line.behind) program.name l.line.positionals_are;
      has = walk_has words program intake counted l;
      allowed = inl refl;
      enough = inr (program.name, l.line.positionals_are);
    }) in
    ap meaning l.line.row
    ∙ walk_means (in_row l.line.pieces l.line.ended) t.end program intake counted t.seen_is
    (program_said t.end program (values_of option.Elf l.line.pieces) (positional_said t.end.positional program.name (t.positionals ∙ l.line.positionals_are))
    (told_in t.end l.line.pieces t.values option.Elf) l.form_is) (said_by t.end intake l.line.pieces (told_in t.end l.line.pieces t.values) l.taken)
    (counted_said t.end.count counted (subst (λ (v : List (List ℕ)). IsCounted v counted) (sym (told_in t.end l.line.pieces t.values option.Count)) l.counted_is))

packets_once : (words : List (List ℕ)) (intake : Intake) (l : IsPacketsLine words intake) (o : CommandOption)
    → OnceAtMost (given o nothing_seen ++ values_of o l.line.pieces)
packets_once words intake l option.Raw = (taken_once l.line.pieces intake l.taken).layout.raw
packets_once words intake l option.Wrap = (taken_once l.line.pieces intake l.taken).layout.wrap
packets_once words intake l option.Sync = (taken_once l.line.pieces intake l.taken).layout.sync
packets_once words intake l option.Vmid = (taken_once l.line.pieces intake l.taken).vmid
packets_once words intake l option.Cid = (taken_once l.line.pieces intake l.taken).cid
packets_once words intake l option.Settings = (taken_once l.line.pieces intake l.taken).settings
packets_once words intake l o = unused_once o (values_of o l.line.pieces) (l.line.only o refl)

times_once : (words : List (List ℕ)) (intake : Intake) (l : IsTimesLine words intake) (o : CommandOption)
    → OnceAtMost (given o nothing_seen ++ values_of o l.line.pieces)
times_once words intake l option.Raw = (taken_once l.line.pieces intake l.taken).layout.raw
times_once words intake l option.Depth = (taken_once l.line.pieces intake l.taken).depth
times_once words intake l option.Vmid = (taken_once l.line.pieces intake l.taken).vmid
times_once words intake l option.Cid = (taken_once l.line.pieces intake l.taken).cid
times_once words intake l option.Settings = (taken_once l.line.pieces intake l.taken).settings
times_once words intake l o = unused_once o (values_of o l.line.pieces) (l.line.only o refl)

times_has : (words : List (List ℕ)) (intake : Intake) (l : IsTimesLine words intake) (o : CommandOption)
    → Has times_row o ⊎ (values_of o l.line.pieces ≡ [])
times_has words intake l option.Raw = inl refl
times_has words intake l option.Depth = inl refl
times_has words intake l option.Vmid = inl refl
times_has words intake l option.Cid = inl refl
times_has words intake l option.Settings = inl refl
times_has words intake l o = inr (l.line.only o refl)

packets_has : (words : List (List ℕ)) (intake : Intake) (l : IsPacketsLine words intake) (o : CommandOption)
    → Has packets_row o ⊎ (values_of o l.line.pieces ≡ [])
packets_has words intake l option.Raw = inl refl
packets_has words intake l option.Wrap = inl refl
packets_has words intake l option.Sync = inl refl
packets_has words intake l option.Vmid = inl refl
packets_has words intake l option.Cid = inl refl
packets_has words intake l option.Settings = inl refl
packets_has words intake l o = inr (l.line.only o refl)

pub packets_said : (words : List (List ℕ)) (intake : Intake) → IsPacketsLine words intake → meaning words ≡ Some (Packets intake)
packets_said words intake l =
    let t = taken packets_row l.line.pieces l.line.ended l.line.behind nothing_seen refl l.line.are_pieces l.line.end_is (record {
      free = refl;
      once = packets_once words intake l;
      one = subst OnceAtMost (sym l.line.positionals_are) tt;
      has = packets_has words intake l;
      allowed = inr l.line.positionals_are;
      enough = inl refl;
    }) in
    ap meaning l.line.row
    ∙ packets_means (in_row l.line.pieces l.line.ended) t.end intake t.seen_is
    (said_by t.end intake l.line.pieces (told_in t.end l.line.pieces t.values) l.taken)

pub times_said : (words : List (List ℕ)) (intake : Intake) → IsTimesLine words intake → meaning words ≡ Some (Times intake)
times_said words intake l =
    let t = taken times_row l.line.pieces l.line.ended l.line.behind nothing_seen refl l.line.are_pieces l.line.end_is (record {
      free = refl;
      once = times_once words intake l;
      one = subst OnceAtMost (sym l.line.positionals_are) tt;
      has = times_has words intake l;
      allowed = inr l.line.positionals_are;
      enough = inl refl;
    }) in
    ap meaning l.line.row
    ∙ times_means (in_row l.line.pieces l.line.ended) t.end intake t.seen_is
    (said_by t.end intake l.line.pieces (told_in t.end l.line.pieces t.values) l.taken)

retired_has : (words : List (List ℕ)) (program : Program) (l : IsRetiredLine words program) (o : CommandOption)
    → Has retired_row o ⊎ (values_of o l.line.pieces ≡ [])
retired_has words program l option.Elf = inl refl
retired_has words program l o = inr (l.line.only o refl)

retired_once : (words : List (List ℕ)) (program : Program) (l : IsRetiredLine words program) (o : CommandOption)
    → OnceAtMost (given o nothing_seen ++ values_of o l.line.pieces)
retired_once words program l option.Elf = form_once (values_of option.Elf l.line.pieces) program.form l.form_is
retired_once words program l o = unused_once o (values_of o l.line.pieces) (l.line.only o refl)

pub retired_said : (words : List (List ℕ)) (program : Program) → IsRetiredLine words program → meaning words ≡ Some (Retired program)
retired_said words program l =
    let t = taken retired_row l.line.pieces l.line.ended l.line.behind nothing_seen refl l.line.are_pieces l.line.end_is (record {
      free = refl;
      once = retired_once words program l;
      one = positional_once (positionals_of l.line.pieces ++ l.line.behind) program.name l.line.positionals_are;
      has = retired_has words program l;
      allowed = inl refl;
      enough = inr (program.name, l.line.positionals_are);
    }) in
    ap meaning l.line.row
    ∙ retired_means (in_row l.line.pieces l.line.ended) t.end program t.seen_is
    (program_said t.end program (values_of option.Elf l.line.pieces) (positional_said t.end.positional program.name (t.positionals ∙ l.line.positionals_are))
    (t.values option.Elf) l.form_is)

trace_has : (words : List (List ℕ)) (program : Program) (last every : Option ℕ) (l : IsTraceLine words program last every) (o : CommandOption)
    → Has trace_row o ⊎ (values_of o l.line.pieces ≡ [])
trace_has words program last every l option.Last = inl refl
trace_has words program last every l option.SyncEvery = inl refl
trace_has words program last every l option.Elf = inl refl
trace_has words program last every l o = inr (l.line.only o refl)

trace_once : (words : List (List ℕ)) (program : Program) (last every : Option ℕ) (l : IsTraceLine words program last every) (o : CommandOption)
    → OnceAtMost (given o nothing_seen ++ values_of o l.line.pieces)
trace_once words program last every l option.Last = count_once most_last (values_of option.Last l.line.pieces) last l.last_is
trace_once words program last every l option.SyncEvery = count_once most_every (values_of option.SyncEvery l.line.pieces) every l.every_is
trace_once words program last every l option.Elf = form_once (values_of option.Elf l.line.pieces) program.form l.form_is
trace_once words program last every l o = unused_once o (values_of o l.line.pieces) (l.line.only o refl)

count_listed : (most : ℕ) (value : Option (List ℕ)) (count : Option ℕ) (values : List (List ℕ)) → listed value ≡ values → IsCount most values count
    → count_of most value ≡ Some count
count_listed most value count values same is = count_said most value count (subst (λ (l : List (List ℕ)). IsCount most l count) (sym same) is)

pub trace_said : (words : List (List ℕ)) (program : Program) (last every : Option ℕ) → IsTraceLine words program last every
    → meaning words ≡ Some (Trace program last every)
trace_said words program last every l =
    let t = taken trace_row l.line.pieces l.line.ended l.line.behind nothing_seen refl l.line.are_pieces l.line.end_is (record {
      free = refl;
      once = trace_once words program last every l;
      one = positional_once (positionals_of l.line.pieces ++ l.line.behind) program.name l.line.positionals_are;
      has = trace_has words program last every l;
      allowed = inl refl;
      enough = inr (program.name, l.line.positionals_are);
    }) in
    ap meaning l.line.row
    ∙ trace_means (in_row l.line.pieces l.line.ended) t.end program last every t.seen_is
    (program_said t.end program (values_of option.Elf l.line.pieces) (positional_said t.end.positional program.name (t.positionals ∙ l.line.positionals_are))
    (t.values option.Elf) l.form_is)
    (count_listed most_last t.end.last last (values_of option.Last l.line.pieces) (t.values option.Last) l.last_is)
    (count_listed most_every t.end.every every (values_of option.SyncEvery l.line.pieces) (t.values option.SyncEvery) l.every_is)

selftest_has : (words : List (List ℕ)) (n : ℕ) (cut : Option ℕ) (l : IsSelftestLine words n cut) (o : CommandOption)
    → Has selftest_row o ⊎ (values_of o l.line.pieces ≡ [])
selftest_has words n cut l option.Cut = inl refl
selftest_has words n cut l o = inr (l.line.only o refl)

selftest_once : (words : List (List ℕ)) (n : ℕ) (cut : Option ℕ) (l : IsSelftestLine words n cut) (o : CommandOption)
    → OnceAtMost (given o nothing_seen ++ values_of o l.line.pieces)
selftest_once words n cut l option.Cut = cut_once (values_of option.Cut l.line.pieces) cut l.cut_is
selftest_once words n cut l o = unused_once o (values_of o l.line.pieces) (l.line.only o refl)

pub selftest_said : (words : List (List ℕ)) (n : ℕ) (cut : Option ℕ) → IsSelftestLine words n cut → meaning words ≡ Some (Selftest n cut)
selftest_said words n cut l =
    let t = taken selftest_row l.line.pieces l.line.ended l.line.behind nothing_seen refl l.line.are_pieces l.line.end_is (record {
      free = refl;
      once = selftest_once words n cut l;
      one = positional_once (positionals_of l.line.pieces ++ l.line.behind) l.number l.line.positionals_are;
      has = selftest_has words n cut l;
      allowed = inl refl;
      enough = inr (l.number, l.line.positionals_are);
    }) in
    ap meaning l.line.row
    ∙ selftest_means (in_row l.line.pieces l.line.ended) t.end l.number n cut t.seen_is
    (positional_said t.end.positional l.number (t.positionals ∙ l.line.positionals_are)) (number_to_said most_number l.number n l.number_is l.number_within)
    (cut_said t.end.cut cut (subst (λ (v : List (List ℕ)). IsCut v cut) (sym (t.values option.Cut)) l.cut_is))
