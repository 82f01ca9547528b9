-- The order in which the bytes of several streams go into one trace. That is this project's own choice.
use Rattle.std.specs.Prelude.{◌≡◌, ℕ, ◌==◌, ◌<◌, Bool, true, false, if◌then◌else◌, All, List, [], ◌∷◌, ◌++◌, drop, map, take, ⊤}
use Rattle.std.specs.List.{flat_map, list_any}
use Rattle.capture_streams.specs.Texts.{of}
use Rattle.run_file.specs.declared.line.Weave.{Weave}

-- bytes of a stream, each with its ID
abbrev pub under : ℕ → List ℕ → List (ℕ × ℕ)
under id bytes = map (λ (byte : ℕ). (id, byte)) bytes

-- the next bytes of the stream with this ID, so many or what is left of it
abbrev pub next_of : ℕ → ℕ → List (ℕ × List ℕ) → List ℕ
next_of id count [] = []
next_of id count (s ∷ streams) = if s.0 == id then take count s.1 else next_of id count streams

-- what is left of the streams behind them
abbrev pub left_behind : ℕ → ℕ → List (ℕ × List ℕ) → List (ℕ × List ℕ)
left_behind id count [] = []
left_behind id count (s ∷ streams) = if s.0 == id then (s.0, drop count s.1) ∷ streams else s ∷ left_behind id count streams

-- all of the streams, one after the other
abbrev pub in_a_row : List (ℕ × List ℕ) → List (ℕ × ℕ)
in_a_row streams = flat_map (λ (s : ℕ × List ℕ). under s.0 s.1) streams

-- Streams, each with its ID, woven: each weave takes the next bytes of its stream, and what is left comes behind them in the order of
-- the streams.
abbrev pub woven : List Weave → List (ℕ × List ℕ) → List (ℕ × ℕ)
woven [] streams = in_a_row streams
woven (w ∷ weaves) streams = under w.id (next_of w.id w.count streams) ++ woven weaves (left_behind w.id w.count streams)

-- ---- what holds of them

abbrev pub has_id : ℕ → List (ℕ × List ℕ) → Bool
has_id id streams = list_any (λ (s : ℕ × List ℕ). s.0 == id) streams

-- no two streams have one ID
abbrev pub AreApart : List (ℕ × List ℕ) → Type 0
AreApart [] = ⊤
AreApart (s ∷ streams) = (has_id s.0 streams ≡ false) × AreApart streams

-- each stream is woven whole, and in its own order
abbrev pub WovenWhole : Type 0
WovenWhole =
    (weaves : List Weave) (streams : List (ℕ × List ℕ)) → AreApart streams
    → All (λ (s : ℕ × List ℕ). of s.0 (woven weaves streams) ≡ s.1) streams

-- nothing else is woven
abbrev pub WovenAlone : Type 0
WovenAlone =
    (weaves : List Weave) (streams : List (ℕ × List ℕ)) → All (λ (pair : ℕ × ℕ). has_id pair.0 streams ≡ true) (woven weaves streams)

-- so that no other ID has a byte
abbrev pub OthersHaveNoByte : Type 0
OthersHaveNoByte =
    (weaves : List Weave) (streams : List (ℕ × List ℕ)) (id : ℕ) → has_id id streams ≡ false → of id (woven weaves streams) ≡ []

-- bytes are bytes
abbrev pub WovenBytes : Type 0
WovenBytes =
    (weaves : List Weave) (streams : List (ℕ × List ℕ)) → All (λ (s : ℕ × List ℕ). All (λ (byte : ℕ). byte < 256) s.1) streams
    → All (λ (pair : ℕ × ℕ). pair.1 < 256) (woven weaves streams)
