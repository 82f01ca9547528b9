-- Words mean one command, and name a program or none.
use Rattle.std.proofs.Common.{◌≡◌, ◌⊎◌, ℕ, ◌+◌, List, Option, Some, None, refl, sym, ap, subst, ◌∙◌, inl, inr}
use Rattle.std.specs.Option.{option_and_then, option_map_or}
use Rattle.command_words.specs.Words.{Command, Counts, Intake, Kind, NoCommand, Packets, Path, PathKind, Program, Retired, RunFileKind}
use Rattle.command_words.specs.Words.{Selftest, Times, Trace, kind_of, meaning, program_of}
use Rattle.trace_cmd.specs.Answers.{IsBareCall, IsCountsUnder, IsOfKind, IsPacketsUnder, IsPathCall, IsPathUnder, IsRetiredCall, IsRunFileCall, IsSelftestCall}
use Rattle.trace_cmd.specs.Answers.{IsSelftestOf, IsTimesUnder, IsTraceOf}
use Rattle.trace_cmd.specs.Answers.{Call, ReadsFirst}
use Rattle.trace_cmd.specs.Programs.{HasProgram, TakesProgram, most_of, most_taken}
use Rattle.program_image.specs.declared.image.Image.{Image}
use Rattle.trace_io.specs.Bytes.{TakesAtMost}
use Rattle.trace_io.specs.State.{IoState}

-- ---- of which kind it is

pub path_kind : (r : Intake) (words : List (List ℕ)) → IsPathUnder r words → IsPathCall words
path_kind r words (p, is) = ap kind_of is

pub counts_kind : (r : Intake) (words : List (List ℕ)) → IsCountsUnder r words → IsPathCall words
counts_kind r words (p, is) = ap kind_of is

pub packets_kind : (r : Intake) (words : List (List ℕ)) → IsPacketsUnder r words → IsBareCall words
packets_kind r words is = ap kind_of is

pub times_kind : (r : Intake) (words : List (List ℕ)) → IsTimesUnder r words → IsBareCall words
times_kind r words is = ap kind_of is

pub retired_kind : (words : List (List ℕ)) → IsRetiredCall words → IsRunFileCall words
retired_kind words (p, is) = ap kind_of is

pub trace_kind : (last every : Option ℕ) (words : List (List ℕ)) → IsTraceOf last every words → IsRunFileCall words
trace_kind last every words (p, is) = ap kind_of is

pub number_kind : (n : ℕ) (cut : Option ℕ) (words : List (List ℕ)) → IsSelftestOf n cut words → IsSelftestCall words
number_kind n cut words is = ap kind_of is

pub no_kind : (words : List (List ℕ)) → meaning words ≡ None → IsOfKind NoCommand words
no_kind words none = ap kind_of none

-- it is of one kind
pub one_kind : (k other : Kind) (words : List (List ℕ)) → IsOfKind k words → IsOfKind other words → k ≡ other
one_kind k other words is also = sym is ∙ also

-- they ask for all frames, or for one number of them, and for synchronisation packets in one way
pub one_framing : (last every other often : Option ℕ) (words : List (List ℕ)) → IsTraceOf last every words → IsTraceOf other often words
    → (last ≡ other) × (every ≡ often)
one_framing last every other often words (p, is) (q, also) =
    let both : Some (Trace p last every) ≡ Some (Trace q other often) = sym is ∙ also in (cc, cc)

-- ---- whether it names a program

pub path_program : (r : Intake) (words : List (List ℕ)) (under : IsPathUnder r words) → HasProgram under.0 words
path_program r words (p, is) = ap (option_and_then program_of) is

pub counts_program : (r : Intake) (words : List (List ℕ)) (under : IsCountsUnder r words) → HasProgram under.0 words
counts_program r words (p, is) = ap (option_and_then program_of) is

pub retired_program : (words : List (List ℕ)) (asks : IsRetiredCall words) → HasProgram asks.0 words
retired_program words (p, is) = ap (option_and_then program_of) is

pub trace_program : (last every : Option ℕ) (words : List (List ℕ)) (asks : IsTraceOf last every words) → HasProgram asks.0 words
trace_program last every words (p, is) = ap (option_and_then program_of) is

by_program : (said : Option Command) (p : Program) → option_and_then program_of said ≡ Some p → (kind_of said ≡ PathKind) ⊎ (kind_of said ≡ RunFileKind)
by_program None p is = absurd cc
by_program (Some (Path q r)) p is = inl refl
by_program (Some (Counts q r)) p is = inl refl
by_program (Some (Packets r)) p is = absurd cc
by_program (Some (Times r)) p is = absurd cc
by_program (Some (Retired q)) p is = inr refl
by_program (Some (Trace q last every)) p is = inr refl
by_program (Some (Selftest n cut)) p is = absurd cc

-- a command that names one reads an input or a run file over its image
pub program_kind : (p : Program) (words : List (List ℕ)) → HasProgram p words → IsPathCall words ⊎ IsRunFileCall words
program_kind p words is = by_program (meaning words) p is

-- ---- what is read of it

pub taken_at_most : (p : Program) (words : List (List ℕ)) (old new : IoState) → HasProgram p words → TakesAtMost old new (most_of p + 1)
    → TakesAtMost old new (most_taken words)
taken_at_most p words old new named few =
    let most : most_taken words ≡ most_of p + 1 = ap (λ (o : Option Program). option_map_or (λ (q : Program). most_of q + 1) o 0) named in
    subst (TakesAtMost old new) (sym most) few

pub read_first : (c : Call) (p : Program) (A : Type 0) → HasProgram p c.words → A ⊎ ((image : Image) × TakesProgram p c.image c.image' image)
    → A ⊎ ReadsFirst c
read_first c p A named (inl same) = inl same
read_first c p A named (inr (image, takes)) = inr (inl (image, (p, named, takes)))
