-- What contracts see of the streams of a capture.
use Rattle.std.specs.Prelude.{◌≡◌, ℕ, suc, ◌≤◌, Bool, false, List, [], ◌∷◌, ◌++◌, length, Result, IsOk, refl}
use Rattle.std.specs.List.{concat}
use Rattle.capture_streams.specs.Texts.{AddedFrom, BodyFrom, Listing, Printed, StreamAdded, StreamBody, by_sizes, of, text_of}
use Rattle.element_queue.specs.Counting.{Balances, sum_of}
use Rattle.element_queue.specs.declared.ledger.Counts.{Counts}
use Rattle.etm_types.specs.Settings.{Sizes}
use Rattle.etm_types.specs.declared.item.Item.{Item}
use Rattle.path_text.specs.Writing.{Writes}
use Rattle.std.specs.Coded.{Coded, code_by, coded×, coded_list}
use Rattle.stream_decoder.specs.Follows.{TakesMore, items_under}
use Rattle.trace_io.specs.State.{IoState}

-- ---- the streams of all sources

-- there is a stream for each source
abbrev pub source_count : ℕ
source_count = 111

-- Each of the streams, the first with this ID and each other with the next, stands at its bytes among these pairs of ID and byte, under
-- the sizes of its ID.
abbrev pub StandFrom : {X : Type 0} → (X → List ℕ → Type 0) → (X → Sizes) → (ℕ → Sizes) → ℕ → List X → List (ℕ × ℕ) → Type 0
StandFrom stands sizes t id [] pairs = Unit {0}
StandFrom stands sizes t id (stream ∷ streams) pairs =
    stands stream (of id pairs) × (sizes stream ≡ t id) × StandFrom stands sizes t (suc id) streams pairs

-- the streams, and what is summed over all of them
pub record Summed (X Y : Type 0) : Type 0 where
  pub streams : List X
  pub sum : Y

abbrev pub summed_code : {X Y : Type 0} → Coded X → Coded Y → Coded (Summed X Y)
summed_code {X} {Y} stream sum =
    code_by (List X × Y) (coded× (coded_list stream) sum) (λ s. (s.streams, s.sum)) (λ p. record { streams = p.0; sum = p.1 }) (λ _. refl)

-- a sum has what these pairs add
abbrev pub SumStands : {Y : Type 0} → (Y → List (ℕ × Item) → Type 0) → Listing → Y → List (ℕ × ℕ) → Type 0
SumStands sums g sum pairs = (items : List (ℕ × Item)) × AddedFrom g [] pairs items × sums sum items

-- there is a stream for each source, and all stand at their bytes, that of ID 1 first; and the sum has what all pairs add
pub record AllStand {X Y : Type 0} (stands : X → List ℕ → Type 0) (sizes : X → Sizes) (sums : Y → List (ℕ × Item) → Type 0) (g : Sizes → Listing)
    (t : ℕ → Sizes) (all : Summed X Y) (pairs : List (ℕ × ℕ)) : Type 0 where
  pub count : length all.streams ≡ source_count
  pub each : StandFrom stands sizes t 1 all.streams pairs
  pub sum : SumStands sums (by_sizes g t) all.sum pairs

-- a sum takes these items of the stream of an ID behind those that it has
abbrev pub SumTakes : {Y : Type 0} → (Y → List (ℕ × Item) → Type 0) → ℕ → Y → Y → List Item → Type 0
SumTakes sums id old new more = TakesMore sums old new (items_under id more)

-- bytes of a stream, one after the other, add items behind others of it, and the sum takes them
abbrev pub SumAdds : {Y : Type 0} → (Y → List (ℕ × Item) → Type 0) → Listing → ℕ → List ℕ → List ℕ → Y → Y → Type 0
SumAdds sums g id before run old new = (more : List Item) × StreamAdded g id before run more × SumTakes sums id old new more

-- a stream of which no write failed, and which took no more bytes than so many
pub record IsReady {X : Type 0} (broken : X → Bool) (offset : X → ℕ) (most : ℕ) (stream : X) : Type 0 where
  pub whole : broken stream ≡ false
  pub few : offset stream ≤ most

-- a stream that holds no more P0 elements than the depth that its sizes give
abbrev pub HoldsToDepth : {X : Type 0} → (X → ℕ) → (X → Sizes) → X → Type 0
HoldsToDepth held sizes stream = held stream ≤ (sizes stream).depth

-- all that was made was committed, cancelled or lost, but for some of so many that are held: those that were seen
abbrev pub SettlesBut : ℕ → Counts → Type 0
SettlesBut held c = (n : ℕ) × (n ≤ held) × Balances c n

-- counts added one after the other
abbrev pub total : Counts → List Counts → Counts
total c [] = c
total c (d ∷ counts) = total (sum_of c d) counts

-- each of the counts, the first with this ID and each other with the next, is one of the bytes of its stream among these pairs, under the
-- sizes of its ID
abbrev pub TalliedFrom : (Sizes → List ℕ → Counts → Type 0) → (ℕ → Sizes) → ℕ → List Counts → List (ℕ × ℕ) → Type 0
TalliedFrom tallies t id [] pairs = Unit {0}
TalliedFrom tallies t id (c ∷ counts) pairs = tallies (t id) (of id pairs) c × TalliedFrom tallies t (suc id) counts pairs

abbrev pub AllTallied : (Sizes → List ℕ → Counts → Type 0) → (ℕ → Sizes) → List Counts → List (ℕ × ℕ) → Type 0
AllTallied tallies t counts pairs = TalliedFrom tallies t 1 counts pairs

-- Pairs were taken behind others, and the lines that they add were written. Where a write failed, some of the pairs were taken,
-- and a front of their lines is written.
pub record Adds {T E : Type 0} (g : Listing) (before pairs : List (ℕ × ℕ)) (old new : IoState) (result : Result T E) : Type 0 where
  pub took : List (ℕ × ℕ)
  pub others : List (ℕ × ℕ)
  pub parts : pairs ≡ took ++ others
  pub lines : List Printed
  pub body : BodyFrom g before took lines
  pub writes : Writes old new result (text_of lines)
  pub all : IsOk result → others ≡ []

-- Bytes of one stream were taken behind others of it, and the lines that they add were written. Where a write failed, some of the
-- bytes were taken, and a front of their lines is written.
pub record RunAdds {T E : Type 0} (g : Listing) (id : ℕ) (before run : List ℕ) (old new : IoState) (result : Result T E) : Type 0 where
  pub took : List ℕ
  pub others : List ℕ
  pub parts : run ≡ took ++ others
  pub lines : List (List ℕ)
  pub body : StreamBody g id before took lines
  pub writes : Writes old new result (concat lines)
  pub all : IsOk result → others ≡ []
