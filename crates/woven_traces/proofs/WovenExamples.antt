-- Weaves that were worked out by hand, beside what a wrong rule would weave.
use Rattle.std.proofs.Common.{◌≡◌, ℕ, false, true, List, [], ◌∷◌, length, refl, ap, arith}
use Rattle.std.specs.Prelude.{get_or}
use Rattle.capture_streams.specs.Texts.{of}
use Rattle.run_file.specs.declared.line.Weave.{Weave}
use Rattle.woven_traces.specs.Woven.{has_id, woven}

abbrev take_of : ℕ → ℕ → Weave
take_of id count = record { id = id; count = count }

-- three bytes, and five
abbrev two : List (ℕ × List ℕ)
two = (1, 10 ∷ 11 ∷ 12 ∷ []) ∷ (2, 20 ∷ 21 ∷ 22 ∷ 23 ∷ 24 ∷ []) ∷ []

-- one byte of a place, and its ID
abbrev byte_at : ℕ → List (ℕ × ℕ) → ℕ
byte_at k pairs = (get_or pairs k (0, 0)).1

abbrev id_at : ℕ → List (ℕ × ℕ) → ℕ
id_at k pairs = (get_or pairs k (0, 0)).0

-- ---- in turn: the last weave asks for more than is left, and what no weave takes comes behind

abbrev in_turn : List Weave
in_turn = take_of 2 1 ∷ take_of 1 2 ∷ take_of 2 100 ∷ []

pub in_turn_is : woven in_turn two ≡ (2, 20) ∷ (1, 10) ∷ (1, 11) ∷ (2, 21) ∷ (2, 22) ∷ (2, 23) ∷ (2, 24) ∷ (1, 12) ∷ []
in_turn_is = refl

-- a stream does not begin anew with each weave
anew : woven in_turn two ≡ (2, 20) ∷ (1, 10) ∷ (1, 11) ∷ (2, 20) ∷ (2, 21) ∷ (2, 22) ∷ (2, 23) ∷ (2, 24) ∷ (1, 12) ∷ [] → ⊥
anew e = absurd (omega (arith, ap (byte_at 3) e))

-- weaves are not taken in the order of the streams
by_stream : woven in_turn two ≡ (1, 10) ∷ (1, 11) ∷ (2, 20) ∷ (2, 21) ∷ (2, 22) ∷ (2, 23) ∷ (2, 24) ∷ (1, 12) ∷ [] → ⊥
by_stream e = absurd (omega (arith, ap (id_at 0) e))

-- what is left is not dropped
dropped : woven in_turn two ≡ (2, 20) ∷ (1, 10) ∷ (1, 11) ∷ (2, 21) ∷ (2, 22) ∷ (2, 23) ∷ (2, 24) ∷ [] → ⊥
dropped e = absurd (omega (arith, ap length e))

-- and there are no more bytes than are left
no_filling : woven in_turn two ≡ (2, 20) ∷ (1, 10) ∷ (1, 11) ∷ (2, 21) ∷ (2, 22) ∷ (2, 23) ∷ (2, 24) ∷ (2, 0) ∷ (1, 12) ∷ [] → ⊥
no_filling e = absurd (omega (arith, ap length e))

-- ---- no weave: the streams in their order

pub in_order : woven [] two ≡ (1, 10) ∷ (1, 11) ∷ (1, 12) ∷ (2, 20) ∷ (2, 21) ∷ (2, 22) ∷ (2, 23) ∷ (2, 24) ∷ []
in_order = refl

-- that of their declaration, not of their IDs
pub as_declared : woven [] ((7, 70 ∷ []) ∷ (3, 30 ∷ []) ∷ []) ≡ (7, 70) ∷ (3, 30) ∷ []
as_declared = refl

by_id : woven [] ((7, 70 ∷ []) ∷ (3, 30 ∷ []) ∷ []) ≡ (3, 30) ∷ (7, 70) ∷ [] → ⊥
by_id e = absurd (omega (arith, ap (id_at 0) e))

-- ---- one weave of more than is left leaves nothing of that stream

pub too_many : woven (take_of 2 9 ∷ take_of 2 1 ∷ []) two ≡ (2, 20) ∷ (2, 21) ∷ (2, 22) ∷ (2, 23) ∷ (2, 24) ∷ (1, 10) ∷ (1, 11) ∷ (1, 12) ∷ []
too_many = refl

-- ---- a stream without bytes is woven as nothing

abbrev one_empty : List (ℕ × List ℕ)
one_empty = (1, 10 ∷ []) ∷ (3, []) ∷ (2, 20 ∷ 21 ∷ []) ∷ []

pub empty_is : woven (take_of 3 4 ∷ take_of 2 1 ∷ []) one_empty ≡ (2, 20) ∷ (1, 10) ∷ (2, 21) ∷ []
empty_is = refl

-- its turn goes to no other stream
to_the_next : woven (take_of 3 4 ∷ take_of 2 1 ∷ []) one_empty ≡ (2, 20) ∷ (2, 21) ∷ (1, 10) ∷ [] → ⊥
to_the_next e = absurd (omega (arith, ap (id_at 1) e))

-- ---- each comes out whole

pub first_whole : of 1 (woven in_turn two) ≡ 10 ∷ 11 ∷ 12 ∷ []
first_whole = refl

pub second_whole : of 2 (woven in_turn two) ≡ 20 ∷ 21 ∷ 22 ∷ 23 ∷ 24 ∷ []
second_whole = refl

pub no_third : of 3 (woven in_turn two) ≡ []
no_third = refl

-- ---- two streams with one ID would not: the weaves take of the first alone

abbrev alike : List (ℕ × List ℕ)
alike = (1, 10 ∷ 11 ∷ []) ∷ (1, 20 ∷ 21 ∷ []) ∷ []

pub of_the_first : woven (take_of 1 1 ∷ take_of 1 9 ∷ []) alike ≡ (1, 10) ∷ (1, 11) ∷ (1, 20) ∷ (1, 21) ∷ []
of_the_first = refl

not_apart : has_id 1 ((1, 20 ∷ 21 ∷ []) ∷ []) ≡ false → ⊥
not_apart e = absurd cc

-- an ID is found behind others, and one between two is none of them
pub found : has_id 3 ((1, 10 ∷ []) ∷ (3, 30 ∷ []) ∷ []) ≡ true
found = refl

pub not_found : has_id 2 ((1, 10 ∷ []) ∷ (3, 30 ∷ []) ∷ []) ≡ false
not_found = refl
