-- How many plain words follow from each word of an image on.
use Rattle.std.specs.Prelude.{◌≡◌, ◌≢◌, ℕ, ◌+◌, ◌*◌, ◌%◌, ◌^◌, List, [], ◌∷◌, ◌++◌, length, Option, Some, None, true, false, ⊤}
use Rattle.byteorder.specs.Endian.{little_number}
use Rattle.a64_branches.specs.Classes.{class_of}
use Rattle.a64_branches.specs.declared.class.Class.{Class}
use Rattle.a64_branches.specs.declared.class.Class.TheVariants.{Plain, Jump, Cond, Isb, Ind, Eret, Odd}
use Rattle.program_image.specs.Part.{Part, end_of}
use Rattle.program_image.specs.declared.run.PlainRun.{PlainRun}
use Rattle.program_image.specs.declared.run.WordRun.{WordRun}
use Rattle.program_image.specs.declared.run.WordBehind.{WordBehind}
use Rattle.program_image.specs.declared.run.WordBehind.TheVariants as word_behind
use Rattle.program_image.specs.Blocks.{behind, class_at, IsPlainRun}

-- the class of the word behind a run
abbrev pub class_behind : WordBehind → Option Class
class_behind word_behind.NoWord = None
class_behind word_behind.PlainWord = Some Plain
class_behind (word_behind.Branch offset) = Some (Jump offset false)
class_behind (word_behind.BranchWithLink offset) = Some (Jump offset true)
class_behind (word_behind.BranchConditionally offset) = Some (Cond offset)
class_behind word_behind.Barrier = Some Isb
class_behind word_behind.BranchToRegister = Some (Ind false)
class_behind word_behind.BranchWithLinkToRegister = Some (Ind true)
class_behind word_behind.ExceptionReturn = Some Eret
class_behind word_behind.NotRead = Some Odd

-- a run as it is kept
abbrev pub run_of : WordRun → PlainRun
run_of kept = record { plain = kept.plain; class = class_behind kept.behind }

-- the run from a word on, by the word's class and the run from the next word on
abbrev pub run_from : Class → PlainRun → PlainRun
run_from Plain next = record { plain = next.plain + 1; class = next.class }
run_from class next = record { plain = 0; class = Some class }

-- where no word begins
abbrev pub no_word : PlainRun
no_word = record { plain = 0; class = None }

-- the run from the first word on; that from the next word on where there is none
abbrev pub first_run : List PlainRun → PlainRun → PlainRun
first_run [] next = next
first_run (run ∷ runs) next = run

-- the run from each word of the bytes on, by that from the next word on
abbrev pub runs_of : List ℕ → PlainRun → List PlainRun
runs_of (a ∷ b ∷ c ∷ d ∷ bytes) next =
    run_from (class_of (little_number 4 (a ∷ b ∷ c ∷ d ∷ []))) (first_run (runs_of bytes next) next) ∷ runs_of bytes next
runs_of _ next = []

-- the words from an address on are plain, n of them and no more
abbrev pub IsRunLength : List Part → ℕ → ℕ → Type 0
IsRunLength image address n = IsPlainRun image address n × (class_at image (behind address n) ≢ Some Plain)

-- and what stands behind them is of the run's class
abbrev pub IsRun : List Part → ℕ → PlainRun → Type 0
IsRun image address run = IsRunLength image address run.plain × (class_at image (behind address run.plain) ≡ run.class)

-- where the last of the parts ends at an address, so many plain words follow it
abbrev pub IsFollowedBy : List Part → List Part → ℕ → PlainRun → Type 0
IsFollowedBy image parts address run =
    (before : List Part) (last : Part) → parts ≡ before ++ last ∷ [] → end_of last % 2 ^ 64 ≡ address → IsRun image address run

-- the runs from an address on, one a word
abbrev pub AreRuns : List Part → ℕ → List PlainRun → Type 0
AreRuns image address [] = ⊤
AreRuns image address (run ∷ runs) = IsRun image address run × AreRuns image (address + 4) runs

-- the runs from each word of these parts on
abbrev pub IsTable : List Part → List Part → List (List PlainRun) → Type 0
IsTable image [] [] = ⊤
IsTable image (part ∷ parts) (runs ∷ table) = AreRuns image part.start runs × (4 * length runs ≡ length part.bytes) × IsTable image parts table
IsTable image _ _ = ⊥
