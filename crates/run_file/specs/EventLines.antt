-- The words of an event line, and what they say.
use Rattle.std.specs.Prelude.{ℕ, ◌^◌, ◌&&◌, nat_le, nat_lt, Bool, true, false, codes, List, [], ◌∷◌, Option, Some, None, Result, Ok, Err}
use Rattle.std.specs.Prelude.{if◌then◌else◌}
use Rattle.std.specs.Option.{option_and_then}
use Rattle.std.specs.Str.{bytes_eq}
use Rattle.etm_types.specs.Settings.{Sizes}
use Rattle.etm_types.specs.declared.context.Ctx.{Ctx}
use Rattle.line_words.specs.Line.{decimal_of, number_of, short_number_of}
use Rattle.spec_run.specs.declared.event.Event.{Event}
use Rattle.spec_run.specs.declared.event.Event.TheVariants as event
use Rattle.run_file.specs.declared.fault.BenchWhy.{BenchWhy}
use Rattle.run_file.specs.declared.fault.BenchWhy.TheVariants.{Syntax, Range}
use Rattle.run_file.specs.declared.line.Repeated.{Repeated}

-- ---- steps of reading

-- what is needed is there, or the line is of no form
abbrev pub need : {A B : Type 0} → Option A → (A → Result B BenchWhy) → Result B BenchWhy
need (Some a) more = more a
need None more = Err Syntax

abbrev pub in_range : {A : Type 0} → Bool → A → Result A BenchWhy
in_range true a = Ok a
in_range false a = Err Range

-- a value where no word is left
abbrev pub alone : {A : Type 0} → A → List (List ℕ) → Result A BenchWhy
alone a [] = Ok a
alone a (word ∷ words) = Err Syntax

abbrev pub then_ok : {A B : Type 0} → Result A BenchWhy → (A → Result B BenchWhy) → Result B BenchWhy
then_ok (Ok a) more = more a
then_ok (Err why) more = Err why

-- ---- words

-- the word that is alone
abbrev pub only_word : List (List ℕ) → Option (List ℕ)
only_word (word ∷ []) = Some word
only_word words = None

-- a decimal number alone
abbrev pub only_number : List (List ℕ) → Option ℕ
only_number words = option_and_then decimal_of (only_word words)

abbrev pub only_short_number : List (List ℕ) → Option ℕ
only_short_number words = option_and_then short_number_of (only_word words)

abbrev pub level_of : List ℕ → Option ℕ
level_of word =
    if bytes_eq word (codes "el0") then Some 0
    else if bytes_eq word (codes "el1") then Some 1
    else if bytes_eq word (codes "el2") then Some 2
    else if bytes_eq word (codes "el3") then Some 3
    else None

-- whether the state is Non-secure
abbrev pub security_of : List ℕ → Option Bool
security_of word = if bytes_eq word (codes "ns") then Some true else if bytes_eq word (codes "s") then Some false else None

-- a context: exception level, security state, VMID and context ID, and no more words
abbrev pub context_of : List (List ℕ) → Result Ctx BenchWhy
context_of (level ∷ security ∷ vmid ∷ words) =
    need (level_of level) (λ el. need (security_of security) (λ ns. need (short_number_of vmid) (λ v. need (only_short_number words) (λ c.
    Ok (record { el = el; ns = ns; vmid = v; cid = c })))))
context_of words = Err Syntax

-- a context fits the sizes
abbrev pub fits : Sizes → Ctx → Bool
fits s ctx = nat_le ctx.el 3 && nat_lt ctx.vmid (256 ^ s.vmid_bytes) && nat_lt ctx.cid (256 ^ s.cid_bytes)

-- ---- event lines, by the words behind the first

-- a context that fits the sizes
abbrev pub fitting : Sizes → List (List ℕ) → Result Ctx BenchWhy
fitting s words = then_ok (context_of words) (λ ctx. in_range (fits s ctx) ctx)

-- an address and a context
abbrev pub place_of : Sizes → List (List ℕ) → Result (ℕ × Ctx) BenchWhy
place_of s [] = Err Syntax
place_of s (addr ∷ words) = need (number_of addr) (λ a. then_ok (fitting s words) (λ ctx. Ok (a, ctx)))

-- a kind, an address and a context
abbrev pub exception_of : Sizes → List (List ℕ) → Result Event BenchWhy
exception_of s (kind ∷ addr ∷ words) =
    need (decimal_of kind) (λ k. need (number_of addr) (λ a. then_ok (context_of words) (λ ctx. in_range (nat_lt k 32 && fits s ctx) (event.Exc k a ctx))))
exception_of s words = Err Syntax

-- a count of 1 to 65,535
abbrev pub count_of : List (List ℕ) → Result ℕ BenchWhy
count_of words = need (only_number words) (λ n. in_range (nat_le 1 n && nat_le n 65535) n)

-- an address alone
abbrev pub address_of : List (List ℕ) → Result ℕ BenchWhy
address_of words = need (option_and_then number_of (only_word words)) Ok

-- the event of a word that is alone on its line
abbrev pub bare_of : List ℕ → Option Event
bare_of word =
    if bytes_eq word (codes "taken") then Some event.Taken
    else if bytes_eq word (codes "not") then Some event.NotTaken
    else if bytes_eq word (codes "flip") then Some event.Flip
    else if bytes_eq word (codes "sync") then Some event.Sync
    else if bytes_eq word (codes "overflow") then Some event.Overflow
    else if bytes_eq word (codes "off") then Some event.Off
    else None

-- the event of a word that has others behind it; of other words there is none
abbrev pub described_of : Sizes → List ℕ → List (List ℕ) → Result Event BenchWhy
described_of s word words =
    if bytes_eq word (codes "on") then then_ok (place_of s words) (λ place. Ok (event.On place.0 place.1))
    else if bytes_eq word (codes "to") then then_ok (address_of words) (λ addr. Ok (event.To addr))
    else if bytes_eq word (codes "eret") then then_ok (place_of s words) (λ place. Ok (event.Eret place.0 place.1))
    else if bytes_eq word (codes "exc") then exception_of s words
    else if bytes_eq word (codes "context") then then_ok (fitting s words) (λ ctx. Ok (event.Context ctx))
    else if bytes_eq word (codes "retire") then then_ok (count_of words) (λ n. Ok (event.Retire n))
    else if bytes_eq word (codes "cancel") then then_ok (count_of words) (λ n. Ok (event.Cancel n))
    else Err Syntax

abbrev pub single_by : Sizes → List ℕ → List (List ℕ) → Option Event → Result Event BenchWhy
single_by s word words (Some bare) = alone bare words
single_by s word words None = described_of s word words

-- the event of a line on which it comes once
abbrev pub single_of : Sizes → List ℕ → List (List ℕ) → Result Event BenchWhy
single_of s word words = single_by s word words (bare_of word)

-- how often the event of a line `step`, or `step N`, comes
abbrev pub steps_of : List (List ℕ) → Result ℕ BenchWhy
steps_of [] = Ok 1
steps_of words = count_of words

-- the event of a line, and how often it comes
abbrev pub event_of : Sizes → List ℕ → List (List ℕ) → Result Repeated BenchWhy
event_of s word words =
    if bytes_eq word (codes "step") then then_ok (steps_of words) (λ n. Ok (record { event = event.Step; times = n }))
    else then_ok (single_of s word words) (λ e. Ok (record { event = e; times = 1 }))
