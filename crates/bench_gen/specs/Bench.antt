-- The image and the run file that are made from a number.
use Rattle.std.specs.Prelude.{ℕ, ◌+◌, ◌*◌, ◌/◌, ◌%◌, codes, List, [], ◌∷◌, ◌++◌, replicate}
use Rattle.std.specs.Fn.{iterate}
use Rattle.std.specs.List.{flat_map, range_with_len}
use Rattle.bench_gen.specs.Round.{next, round}
use Rattle.bench_gen.specs.Texts.{Texts, id, text}

-- how many streams there are
abbrev pub streams : ℕ → ℕ
streams n = 1 + n % 111

-- how many rounds each stream has
abbrev pub rounds : ℕ → ℕ
rounds n = 1 + n / 111

-- the IDs of the streams
abbrev pub ids : ℕ → List ℕ
ids n = range_with_len 1 (streams n)

-- NOP, CBZ to 10010, B to 10014, NOP, NOP, B to 10000; and ERET, where exceptions go
abbrev pub image_lines : List (List ℕ)
image_lines = codes "@10000" ∷ codes "1f2003d5 600000b4 03000014 1f2003d5 1f2003d5 fbffff17" ∷ codes "@20000" ∷ codes "e0039fd6" ∷ []

-- the settings of the trace units
abbrev pub setting_lines : List (List ℕ)
setting_lines = codes "etm 1" ∷ codes "depth 16" ∷ codes "vmid 1" ∷ codes "cid 4" ∷ codes "stack 15" ∷ []

-- the state of stream i in round j: n * 111 + i before the first round, and the next one at each round
abbrev pub state : ℕ → ℕ → ℕ → ℕ
state n i j = iterate next (j + 1) (n * 111 + i)

-- the lines of round j of stream i
abbrev pub round_of : ℕ → ℕ → ℕ → List (List ℕ)
round_of n i j = round j (state n i j)

-- the rounds of stream i, from 0 on
abbrev pub round_lines : ℕ → ℕ → List (List ℕ)
round_lines n i = flat_map (round_of n i) (range_with_len 0 (rounds n))

-- the lines of stream i
unfoldable pub stream_lines : ℕ → ℕ → List (List ℕ)
stream_lines n i = (codes "stream " ++ id i) ∷ codes "on 10000 el0 ns 0 0" ∷ round_lines n i

-- seven bytes of a stream, behind a space
abbrev pub weave_word : ℕ → List ℕ
weave_word i = codes " " ++ id i ++ codes ":7"

-- the words of all streams
unfoldable pub weave_line : ℕ → List ℕ
weave_line n = codes "weave" ++ flat_map weave_word (ids n)

-- settings, streams by ID, and a weave line for each round
abbrev pub bench_lines : ℕ → List (List ℕ)
bench_lines n = setting_lines ++ flat_map (stream_lines n) (ids n) ++ replicate (rounds n) (weave_line n)

-- the texts of a number
unfoldable pub generated : ℕ → Texts
generated n = record { image = text image_lines; bench = text (bench_lines n) }
