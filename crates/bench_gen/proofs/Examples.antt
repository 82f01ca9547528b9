-- Texts that the slow model of the definitions made, and near misses.
use Rattle.std.proofs.Common.{◌≡◌, ℕ, ◌+◌, ◌-◌, ◌*◌, ◌%◌, ◌^◌, List, [], ◌∷◌, false, length, refl, ap}
use Rattle.std.specs.Prelude.{codes}
use Rattle.std.specs.List.{fold}
use Rattle.std.specs.Str.{bytes_eq}
use Rattle.std.proofs.lemmas.Bool.Decides.{not_from_Decides}
use Rattle.std.proofs.lemmas.Slice.Eq.{bytes_eq-Decides}
use Rattle.bench_gen.specs.Bench.{generated, round_of, state, stream_lines, weave_line}
use Rattle.bench_gen.specs.Round.{next, round}
use Rattle.bench_gen.specs.Texts.{Texts, id, text}

-- ---- whole texts

abbrev image : List ℕ
image = text (codes "@10000" ∷ codes "1f2003d5 600000b4 03000014 1f2003d5 1f2003d5 fbffff17" ∷ codes "@20000" ∷ codes "e0039fd6" ∷ [])

-- a run file, by its lines behind the settings
abbrev bench : List (List ℕ) → List ℕ
bench lines = text (codes "etm 1" ∷ codes "depth 16" ∷ codes "vmid 1" ∷ codes "cid 4" ∷ codes "stack 15" ∷ lines)

abbrev made : List (List ℕ) → Texts
made lines = record { image = image; bench = bench lines }

-- one stream with one round, which is decided wrongly at first
abbrev lines_of_0 : List (List ℕ)
lines_of_0 =
    codes "stream 01" ∷ codes "on 10000 el0 ns 0 0" ∷ codes "step" ∷ codes "taken" ∷ codes "step" ∷ codes "cancel 1" ∷ codes "flip"
    ∷ codes "taken" ∷ codes "taken" ∷ codes "retire 4" ∷ codes "weave 01:7" ∷ []

pub text_of_0 : generated 0 ≡ made lines_of_0
unfolding generated stream_lines weave_line round next
text_of_0 = refl

-- two streams with one round each
abbrev lines_of_1 : List (List ℕ)
lines_of_1 =
    codes "stream 01" ∷ codes "on 10000 el0 ns 0 0" ∷ codes "step" ∷ codes "taken" ∷ codes "step" ∷ codes "taken" ∷ codes "retire 4"
    ∷ codes "stream 02" ∷ codes "on 10000 el0 ns 0 0" ∷ codes "step" ∷ codes "not" ∷ codes "taken" ∷ codes "taken" ∷ codes "retire 4"
    ∷ codes "weave 01:7 02:7" ∷ []

pub text_of_1 : generated 1 ≡ made lines_of_1
unfolding generated stream_lines weave_line round next
text_of_1 = refl

-- one stream with two rounds
abbrev lines_of_111 : List (List ℕ)
lines_of_111 =
    codes "stream 01" ∷ codes "on 10000 el0 ns 0 0" ∷ codes "step" ∷ codes "not" ∷ codes "taken" ∷ codes "taken" ∷ codes "retire 4"
    ∷ codes "step" ∷ codes "not" ∷ codes "taken" ∷ codes "cancel 1" ∷ codes "flip" ∷ codes "step" ∷ codes "taken" ∷ codes "retire 4"
    ∷ codes "weave 01:7" ∷ codes "weave 01:7" ∷ []

pub text_of_111 : generated 111 ≡ made lines_of_111
unfolding generated stream_lines weave_line round next
text_of_111 = refl

-- two streams with two rounds each
abbrev lines_of_112 : List (List ℕ)
lines_of_112 =
    codes "stream 01" ∷ codes "on 10000 el0 ns 0 0" ∷ codes "step" ∷ codes "taken" ∷ codes "step" ∷ codes "cancel 1" ∷ codes "flip"
    ∷ codes "taken" ∷ codes "taken" ∷ codes "retire 4" ∷ codes "step" ∷ codes "not" ∷ codes "taken" ∷ codes "taken" ∷ codes "retire 4"
    ∷ codes "stream 02" ∷ codes "on 10000 el0 ns 0 0" ∷ codes "step" ∷ codes "not" ∷ codes "taken" ∷ codes "cancel 1" ∷ codes "flip"
    ∷ codes "step" ∷ codes "taken" ∷ codes "retire 4" ∷ codes "step" ∷ codes "taken" ∷ codes "step" ∷ codes "taken" ∷ codes "retire 4"
    ∷ codes "weave 01:7 02:7" ∷ codes "weave 01:7 02:7" ∷ []

pub text_of_112 : generated 112 ≡ made lines_of_112
unfolding generated stream_lines weave_line round next
text_of_112 = refl

-- ---- rounds of stream 01 of 7104

-- no exception behind the first
pub first : round_of 7104 1 0 ≡
    codes "step" ∷ codes "taken" ∷ codes "step" ∷ codes "taken" ∷ codes "retire 4" ∷ []
unfolding round next
first = refl

-- an exception behind the 16th
pub sixteenth : round_of 7104 1 15 ≡
    codes "step" ∷ codes "not" ∷ codes "taken" ∷ codes "taken" ∷ codes "retire 4" ∷ codes "exc 14 20000 el1 ns 0 0"
    ∷ codes "eret 10000 el0 ns 0 0" ∷ codes "retire 2" ∷ []
unfolding round next
sixteenth = refl

-- and none behind the 17th
pub seventeenth : round_of 7104 1 16 ≡
    codes "step" ∷ codes "not" ∷ codes "taken" ∷ codes "taken" ∷ codes "retire 4" ∷ []
unfolding round next
seventeenth = refl

-- an exception and synchronisation behind the 64th
pub last_of_64 : round_of 7104 1 63 ≡
    codes "step" ∷ codes "not" ∷ codes "taken" ∷ codes "taken" ∷ codes "retire 4" ∷ codes "exc 14 20000 el1 ns 0 0"
    ∷ codes "eret 10000 el0 ns 0 0" ∷ codes "retire 2" ∷ codes "sync" ∷ []
unfolding round next
last_of_64 = refl

-- ---- long run files, by their lengths and checksums

abbrev checksum : List ℕ → ℕ
checksum bytes = fold (λ sum byte. (sum * 31 + byte) % 2 ^ 32) 0 bytes

-- 111 streams with one round each
pub sums_of_110 : (length (generated 110).bench ≡ 8425) × (checksum (generated 110).bench ≡ 2727082945)
unfolding generated stream_lines weave_line round next
sums_of_110 = (refl, refl)

-- one stream with 32 rounds
pub sums_of_3441 : (length (generated 3441).bench ≡ 1895) × (checksum (generated 3441).bench ≡ 2198426377)
unfolding generated stream_lines weave_line round next
sums_of_3441 = (refl, refl)

-- one stream with 65 rounds
pub sums_of_7104 : (length (generated 7104).bench ≡ 3569) × (checksum (generated 7104).bench ≡ 230244926)
unfolding generated stream_lines weave_line round next
sums_of_7104 = (refl, refl)

-- ---- IDs and states

pub first_id : id 1 ≡ codes "01"
first_id = refl

pub tenth_id : id 10 ≡ codes "0a"
tenth_id = refl

pub last_id : id 111 ≡ codes "6f"
last_id = refl

pub first_state : state 0 1 0 ≡ 0x6c576fac43fd007c
unfolding next
first_state = refl

-- the product passes 64 bits
pub wraps : next (2 ^ 64 - 1) ≡ 0xbbb38751aad20222
unfolding next
wraps = refl

-- ---- near misses

no_bytes : (xs ys : List ℕ) → bytes_eq xs ys ≡ false → xs ≡ ys → ⊥
no_bytes xs ys differ is = not_from_Decides (bytes_eq xs ys) (bytes_eq-Decides xs ys) differ is

no_text : (n : ℕ) (lines : List (List ℕ)) → bytes_eq (generated n).bench (bench lines) ≡ false → generated n ≡ made lines → ⊥
no_text n lines differ is = no_bytes (generated n).bench (bench lines) differ (ap (λ t. t.bench) is)

-- decided by bit 62
abbrev decided_by_bit_62 : List (List ℕ)
decided_by_bit_62 =
    codes "stream 01" ∷ codes "on 10000 el0 ns 0 0" ∷ codes "step" ∷ codes "not" ∷ codes "taken" ∷ codes "cancel 1" ∷ codes "flip"
    ∷ codes "step" ∷ codes "taken" ∷ codes "retire 4" ∷ codes "weave 01:7" ∷ []

pub no_decided_by_bit_62 : generated 0 ≡ made decided_by_bit_62 → ⊥
unfolding generated stream_lines weave_line round next
no_decided_by_bit_62 = no_text 0 decided_by_bit_62 refl

-- wrong at first by bit 63
abbrev wrong_by_bit_63 : List (List ℕ)
wrong_by_bit_63 =
    codes "stream 01" ∷ codes "on 10000 el0 ns 0 0" ∷ codes "step" ∷ codes "not" ∷ codes "taken" ∷ codes "taken" ∷ codes "retire 4"
    ∷ codes "weave 01:7" ∷ []

pub no_wrong_by_bit_63 : generated 0 ≡ made wrong_by_bit_63 → ⊥
unfolding generated stream_lines weave_line round next
no_wrong_by_bit_63 = no_text 0 wrong_by_bit_63 refl

-- an exception behind the first round
abbrev exception_at_0 : List (List ℕ)
exception_at_0 =
    codes "stream 01" ∷ codes "on 10000 el0 ns 0 0" ∷ codes "step" ∷ codes "taken" ∷ codes "step" ∷ codes "cancel 1" ∷ codes "flip"
    ∷ codes "taken" ∷ codes "taken" ∷ codes "retire 4" ∷ codes "exc 14 20000 el1 ns 0 0" ∷ codes "eret 10000 el0 ns 0 0"
    ∷ codes "retire 2" ∷ codes "weave 01:7" ∷ []

pub no_exception_at_0 : generated 0 ≡ made exception_at_0 → ⊥
unfolding generated stream_lines weave_line round next
no_exception_at_0 = no_text 0 exception_at_0 refl

-- one instruction less is retired
abbrev retires_3 : List (List ℕ)
retires_3 =
    codes "stream 01" ∷ codes "on 10000 el0 ns 0 0" ∷ codes "step" ∷ codes "taken" ∷ codes "step" ∷ codes "cancel 1" ∷ codes "flip"
    ∷ codes "taken" ∷ codes "taken" ∷ codes "retire 3" ∷ codes "weave 01:7" ∷ []

pub no_retires_3 : generated 0 ≡ made retires_3 → ⊥
unfolding generated stream_lines weave_line round next
no_retires_3 = no_text 0 retires_3 refl

-- the weaves stand before the streams
abbrev weaves_first : List (List ℕ)
weaves_first =
    codes "weave 01:7" ∷ codes "stream 01" ∷ codes "on 10000 el0 ns 0 0" ∷ codes "step" ∷ codes "taken" ∷ codes "step" ∷ codes "cancel 1"
    ∷ codes "flip" ∷ codes "taken" ∷ codes "taken" ∷ codes "retire 4" ∷ []

pub no_weaves_first : generated 0 ≡ made weaves_first → ⊥
unfolding generated stream_lines weave_line round next
no_weaves_first = no_text 0 weaves_first refl

-- the branch goes the other way before the instruction behind it is taken back
abbrev flip_first : List (List ℕ)
flip_first =
    codes "stream 01" ∷ codes "on 10000 el0 ns 0 0" ∷ codes "step" ∷ codes "taken" ∷ codes "step" ∷ codes "flip" ∷ codes "cancel 1"
    ∷ codes "taken" ∷ codes "taken" ∷ codes "retire 4" ∷ codes "weave 01:7" ∷ []

pub no_flip_first : generated 0 ≡ made flip_first → ⊥
unfolding generated stream_lines weave_line round next
no_flip_first = no_text 0 flip_first refl

-- the streams do not stand by ID
abbrev second_first : List (List ℕ)
second_first =
    codes "stream 02" ∷ codes "on 10000 el0 ns 0 0" ∷ codes "step" ∷ codes "not" ∷ codes "taken" ∷ codes "taken" ∷ codes "retire 4"
    ∷ codes "stream 01" ∷ codes "on 10000 el0 ns 0 0" ∷ codes "step" ∷ codes "taken" ∷ codes "step" ∷ codes "taken" ∷ codes "retire 4"
    ∷ codes "weave 01:7 02:7" ∷ []

pub no_second_first : generated 1 ≡ made second_first → ⊥
unfolding generated stream_lines weave_line round next
no_second_first = no_text 1 second_first refl

-- a weave line for each stream
abbrev weave_lines_by_stream : List (List ℕ)
weave_lines_by_stream =
    codes "stream 01" ∷ codes "on 10000 el0 ns 0 0" ∷ codes "step" ∷ codes "taken" ∷ codes "step" ∷ codes "taken" ∷ codes "retire 4"
    ∷ codes "stream 02" ∷ codes "on 10000 el0 ns 0 0" ∷ codes "step" ∷ codes "not" ∷ codes "taken" ∷ codes "taken" ∷ codes "retire 4"
    ∷ codes "weave 01:7" ∷ codes "weave 02:7" ∷ []

pub no_weave_lines_by_stream : generated 1 ≡ made weave_lines_by_stream → ⊥
unfolding generated stream_lines weave_line round next
no_weave_lines_by_stream = no_text 1 weave_lines_by_stream refl

pub no_upper_case : id 10 ≡ codes "0A" → ⊥
no_upper_case = no_bytes (id 10) (codes "0A") refl

pub no_decimal : id 10 ≡ codes "10" → ⊥
no_decimal = no_bytes (id 10) (codes "10") refl
