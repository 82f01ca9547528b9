-- How the words of a line stand in a row, and what the values of options stand for, each beside near misses.
use Rattle.std.proofs.Common.{◌≡◌, ℕ, true, false, List, [], ◌∷◌, codes, map, Option, Some, None, refl, arith}
use Rattle.std.proofs.lemmas.List.Elements.{All-cons, All-nil}
use Rattle.command_words.specs.CommandLines.{Apart, Flag, IsCount, IsCounted, IsCut, IsEnd, IsForm, IsLayout, IsLine, IsNumber, IsPiece}
use Rattle.command_words.specs.CommandLines.{IsSelftestLine, IsTraceLine, Joined, Piece, Positional, has_option, in_row}
use Rattle.command_words.specs.CommandLines.{positionals_of, values_of, word_of, words_of}
use Rattle.command_words.specs.Lists.{is_colon, is_comma}
use Rattle.command_words.specs.Said.{IsCountTo, IsLaidOut}
use Rattle.command_words.specs.Words.{Program, selftest_options, trace_options}
use Rattle.command_words.specs.declared.words.CommandOption.{CommandOption}
use Rattle.command_words.specs.declared.words.CommandOption.TheVariants as option
use Rattle.command_words.specs.declared.words.Layout.TheVariants.{Raw, Frames, Wrapped, Synced}
use Rattle.command_words.specs.declared.words.ProgramForm.TheVariants as form

-- ---- pieces

-- trace --last 5 --sync=7 --elf -- img
abbrev traced : List Piece
traced = Apart option.Last (codes "5") ∷ Joined option.SyncEvery (codes "7") ∷ Flag option.Elf ∷ []

abbrev behind : List (List ℕ)
behind = codes "--" ∷ codes "img" ∷ []

pub words_of_each : map words_of (Positional (codes "img") ∷ traced)
    ≡ (codes "img" ∷ []) ∷ (codes "--last" ∷ codes "5" ∷ []) ∷ (codes "--sync=7" ∷ []) ∷ (codes "--elf" ∷ []) ∷ []
words_of_each = refl

pub words_in_a_row : in_row traced behind ≡ codes "--last" ∷ codes "5" ∷ codes "--sync=7" ∷ codes "--elf" ∷ codes "--" ∷ codes "img" ∷ []
words_in_a_row = refl

pub word_of_an_option : word_of option.Settings ≡ codes "--settings"
word_of_an_option = refl

pub pieces : IsPiece (Apart option.Last (codes "5")) × IsPiece (Joined option.Last (codes "-5")) × IsPiece (Flag option.Elf) × IsPiece (Positional (codes "img"))
pieces = ((refl, refl), refl, refl, refl)

-- a flag has no value, an option has one, and no dashed word is a value or a positional
pub no_value_of_a_flag : (IsPiece (Apart option.Elf (codes "5")) → ⊥) × (IsPiece (Joined option.Elf (codes "5")) → ⊥)
no_value_of_a_flag = ((λ is. let no : false ≡ true = is.0 in absurd cc), (λ is. let no : false ≡ true = is in absurd cc))

pub no_flag_that_has_a_value : IsPiece (Flag option.Last) → ⊥
no_flag_that_has_a_value is = let no : true ≡ false = is in absurd cc

pub no_dashed_word : (IsPiece (Apart option.Last (codes "-5")) → ⊥) × (IsPiece (Positional (codes "--img")) → ⊥)
no_dashed_word = ((λ is. let no : true ≡ false = is.1 in absurd cc), (λ is. let no : true ≡ false = is in absurd cc))

pub ends : IsEnd [] [] × IsEnd (codes "--" ∷ []) [] × IsEnd behind (codes "img" ∷ [])
ends = (refl, (refl, refl), (refl, refl))

pub no_end_without_dashes : IsEnd (codes "img" ∷ []) [] → ⊥
no_end_without_dashes is = let other : codes "img" ≡ codes "--" = is.0 in absurd cc

pub no_positional_of_no_word : IsEnd [] (codes "img" ∷ []) → ⊥
no_positional_of_no_word is = absurd cc

-- ---- what pieces say

pub options_of_a_command : map (has_option trace_options) (option.Last ∷ option.SyncEvery ∷ option.Elf ∷ option.Sync ∷ option.Raw ∷ []) ≡ true ∷ true ∷ true ∷ false ∷ false ∷ []
options_of_a_command = refl

pub positionals_in_order : positionals_of (Positional (codes "a") ∷ Apart option.Last (codes "5") ∷ Joined option.Depth (codes "6") ∷ Positional (codes "b") ∷ Flag option.Elf ∷ [])
    ≡ codes "a" ∷ codes "b" ∷ []
positionals_in_order = refl

pub values_in_order : values_of option.Last (Apart option.Last (codes "5") ∷ Apart option.Cut (codes "1") ∷ Positional (codes "a") ∷ Flag option.Elf ∷ Joined option.Last (codes "6") ∷ [])
    ≡ codes "5" ∷ codes "6" ∷ []
values_in_order = refl

pub value_of_a_flag : values_of option.Elf (Flag option.Elf ∷ Flag option.Raw ∷ Flag option.Elf ∷ []) ≡ [] ∷ [] ∷ []
value_of_a_flag = refl

pub layouts : IsLayout [] [] [] Frames × IsLayout ([] ∷ []) [] [] Raw × IsLayout [] (codes "65536" ∷ []) [] (Wrapped 65536) × IsLayout [] [] ([] ∷ []) Synced
layouts = (refl, refl, (65536, refl, omega arith, refl), refl)

pub no_place_past_the_most_frames : IsLayout [] (codes "65537" ∷ []) [] (Wrapped 65537) → ⊥
no_place_past_the_most_frames is = let place : ◌≡◌ {A = Option ℕ} (Some 65537) (Some is.0) = is.1 in let same : 65537 ≡ is.0 = cc in absurd (omega (arith, same, is.2))

pub forms : IsForm [] form.Text × IsForm ([] ∷ []) form.Elf
forms = (refl, refl)

pub counted : IsCounted [] false × IsCounted ([] ∷ []) true
counted = (refl, refl)

pub numbers : IsNumber 16 [] 16 × IsNumber 16 (codes "9" ∷ []) 9
numbers = (refl, refl)

pub no_number_of_two : IsNumber 16 (codes "9" ∷ codes "9" ∷ []) 9 → ⊥
no_number_of_two is = is

pub not_the_default : IsNumber 16 (codes "9" ∷ []) 16 → ⊥
not_the_default is = let other : ◌≡◌ {A = Option ℕ} (Some 9) (Some 16) = is in absurd cc

-- from none to 2^30
pub cuts : IsCut [] None × IsCut (codes "0" ∷ []) (Some 0) × IsCut (codes "1073741824" ∷ []) (Some 1073741824)
cuts = (refl, (0, refl, omega arith, refl), (1073741824, refl, omega arith, refl))

pub no_cut_past_the_most : IsCut (codes "1073741825" ∷ []) (Some 1073741825) → ⊥
no_cut_past_the_most is = let cut : ◌≡◌ {A = Option ℕ} (Some 1073741825) (Some is.0) = is.1 in let same : 1073741825 ≡ is.0 = cc in absurd (omega (arith, same, is.2))

pub not_another_cut : IsCut (codes "1" ∷ []) (Some 2) → ⊥
not_another_cut is = let cut : ◌≡◌ {A = Option ℕ} (Some 1) (Some is.0) = is.1 in let given : ◌≡◌ {A = Option ℕ} (Some 2) (Some is.0) = is.3 in absurd cc

pub no_cut_of_two : IsCut (codes "1" ∷ codes "1" ∷ []) (Some 1) → ⊥
no_cut_of_two is = is

-- from 1 to the most
pub how_many : IsCount 5 [] None × IsCount 5 (codes "1" ∷ []) (Some 1) × IsCount 5 (codes "5" ∷ []) (Some 5)
how_many = (refl, (1, refl, omega arith, omega arith, refl), (5, refl, omega arith, omega arith, refl))

pub one_too_many : IsCount 5 (codes "6" ∷ []) (Some 6) → ⊥
one_too_many is = let count : ◌≡◌ {A = Option ℕ} (Some 6) (Some is.0) = is.1 in let same : 6 ≡ is.0 = cc in absurd (omega (arith, same, is.3))

pub not_another_count : IsCount 5 (codes "1" ∷ []) (Some 2) → ⊥
not_another_count is = let count : ◌≡◌ {A = Option ℕ} (Some 1) (Some is.0) = is.1 in let given : ◌≡◌ {A = Option ℕ} (Some 2) (Some is.0) = is.4 in absurd cc

pub no_count_of_two : IsCount 5 (codes "1" ∷ codes "1" ∷ []) (Some 1) → ⊥
no_count_of_two is = is

pub in_range : IsCountTo 5 None × IsCountTo 5 (Some 1) × IsCountTo 5 (Some 5) × IsLaidOut Raw × IsLaidOut Frames × IsLaidOut Synced × IsLaidOut (Wrapped 65536)
in_range = (tt, (omega arith, omega arith), (omega arith, omega arith), tt, tt, tt, omega arith)

pub not_in_range : (IsCountTo 5 (Some 0) → ⊥) × (IsCountTo 5 (Some 6) → ⊥)
not_in_range = ((λ is. absurd (omega (arith, is.0))), (λ is. absurd (omega (arith, is.1))))

pub marks_of_a_list : map is_comma (43 ∷ 44 ∷ 45 ∷ 0 ∷ []) ≡ false ∷ true ∷ false ∷ false ∷ []
marks_of_a_list = refl

pub marks_of_a_word : map is_colon (57 ∷ 58 ∷ 59 ∷ 0 ∷ []) ≡ false ∷ true ∷ false ∷ false ∷ []
marks_of_a_word = refl

-- ---- lines

abbrev of_elf : Program
of_elf = record { name = codes "img"; form = form.Elf }

only_traced : (o : CommandOption) → has_option trace_options o ≡ false → values_of o traced ≡ []
only_traced option.Raw other = refl
only_traced option.Wrap other = refl
only_traced option.Sync other = refl
only_traced option.Depth other = refl
only_traced option.Vmid other = refl
only_traced option.Cid other = refl
only_traced option.Settings other = refl
only_traced option.Elf other = let no : true ≡ false = other in absurd cc
only_traced option.Count other = refl
only_traced option.Last other = let no : true ≡ false = other in absurd cc
only_traced option.SyncEvery other = let no : true ≡ false = other in absurd cc
only_traced option.Cut other = refl

abbrev are_traced : IsLine (codes "trace") trace_options (codes "trace" ∷ in_row traced behind) (codes "img" ∷ [])
are_traced = record {
  pieces = traced;
  ended = behind;
  behind = codes "img" ∷ [];
  row = refl;
  are_pieces =
      All-cons IsPiece (Apart option.Last (codes "5")) (Joined option.SyncEvery (codes "7") ∷ Flag option.Elf ∷ []) (refl, refl)
      (All-cons IsPiece (Joined option.SyncEvery (codes "7")) (Flag option.Elf ∷ []) refl (All-cons IsPiece (Flag option.Elf) [] refl (All-nil IsPiece)));
  end_is = (refl, refl);
  positionals_are = refl;
  only = only_traced;
}

pub trace_line : IsTraceLine (codes "trace" ∷ codes "--last" ∷ codes "5" ∷ codes "--sync=7" ∷ codes "--elf" ∷ codes "--" ∷ codes "img" ∷ []) of_elf (Some 5) (Some 7)
trace_line = record {
  line = are_traced;
  form_is = refl;
  last_is = (5, refl, omega arith, omega arith, refl);
  every_is = (7, refl, omega arith, omega arith, refl);
}

-- selftest --cut 0 99999
abbrev tested : List Piece
tested = Apart option.Cut (codes "0") ∷ Positional (codes "99999") ∷ []

only_tested : (o : CommandOption) → has_option selftest_options o ≡ false → values_of o tested ≡ []
only_tested option.Raw other = refl
only_tested option.Wrap other = refl
only_tested option.Sync other = refl
only_tested option.Depth other = refl
only_tested option.Vmid other = refl
only_tested option.Cid other = refl
only_tested option.Settings other = refl
only_tested option.Elf other = refl
only_tested option.Count other = refl
only_tested option.Last other = refl
only_tested option.SyncEvery other = refl
only_tested option.Cut other = let no : true ≡ false = other in absurd cc

pub selftest_line : IsSelftestLine (codes "selftest" ∷ codes "--cut" ∷ codes "0" ∷ codes "99999" ∷ []) 99999 (Some 0)
selftest_line = record {
  number = codes "99999";
  line = record {
    pieces = tested;
    ended = [];
    behind = [];
    row = refl;
    are_pieces = All-cons IsPiece (Apart option.Cut (codes "0")) (Positional (codes "99999") ∷ []) (refl, refl) (All-cons IsPiece (Positional (codes "99999")) [] refl (All-nil IsPiece));
    end_is = refl;
    positionals_are = refl;
    only = only_tested;
  };
  number_is = refl;
  number_within = omega arith;
  cut_is = (0, refl, omega arith, refl);
}
