-- The table that gives each stream of a run file its sizes.
use Rattle.std.proofs.Common.{◌≡◌, ℕ, ◌+◌, ◌-◌, ◌<◌, ◌==◌, Bool, true, false, List, [], ◌∷◌, drop, Some, arith, rules, refl, sym, ap, ◌∙◌}
use Rattle.std.proofs.Common.{eq-eqb, true≢false}
use Rattle.std.specs.Prelude.{All, ◌||◌, replicate, slice_get, slice_set}
use Rattle.std.specs.Option.{option_map}
use Rattle.std.proofs.lemmas.List.{get_or-set_other, get_or-set_same, length-set}
use Rattle.std.proofs.lemmas.List.Elements.{All-cons, All-head, All-nil, All-set, All-tail}
use Rattle.std.proofs.lemmas.Option.{unwrap_or-slice_get}
use Rattle.etm_types.specs.Id.{IsId}
use Rattle.etm_types.specs.Settings.{AreSettings, Sizes, default_sizes}
use Rattle.etm_types.specs.SettingsTable.{IsTable, no_sizes, sizes_at}
use Rattle.run_file.specs.Parts.{AreApart, BenchParts, BenchStream, IsBenchStream, has_stream}
use Rattle.etm_types.proofs.Tables.{all_alike}
use Rattle.retired_paths.proofs.Refused.{dropped_next}
use Rattle.traced_runs.specs.Traced.{SomeTableSuits, table_of, with_streams}

-- ---- one ID

set_table : (table : List Sizes) (place : ℕ) (s : Sizes) → IsTable table → AreSettings s → IsTable (slice_set table place s)
set_table table place s is are =
    record { ids = length-set table place s ∙ is.ids; settings = All-set AreSettings table place s are is.settings }

set_same : (table : List Sizes) (id : ℕ) (s : Sizes) → IsTable table → IsId id → sizes_at (slice_set table (id - 1) s) id ≡ s
set_same table id s is source =
    unwrap_or-slice_get (slice_set table (id - 1) s) (id - 1) no_sizes
    ∙ get_or-set_same table (id - 1) s no_sizes (omega (arith, is.ids, source.0, source.1))

set_other : (table : List Sizes) (id other : ℕ) (s : Sizes) → 0 < id → 0 < other → (id == other) ≡ false
    → sizes_at (slice_set table (id - 1) s) other ≡ sizes_at table other
set_other table id other s some also differ =
    unwrap_or-slice_get (slice_set table (id - 1) s) (other - 1) no_sizes
    ∙ get_or-set_other table (id - 1) (other - 1) s no_sizes
    (λ same. let is : id ≡ other = omega (arith, same, some, also) in true≢false (sym (eq-eqb id other is) ∙ differ))
    ∙ sym (unwrap_or-slice_get table (other - 1) no_sizes)

-- ---- the IDs of streams

stays : (streams : List BenchStream) (table : List Sizes) (id : ℕ) → IsId id → All IsBenchStream streams → has_stream id streams ≡ false
    → sizes_at (with_streams streams table) id ≡ sizes_at table id
stays [] table id source are none = refl
stays (s ∷ streams) table id source are none =
    by (s.id == id) refl none (stays streams (slice_set table (s.id - 1) s.settings) id source (All-tail IsBenchStream s streams are))
  where
    with_one : List Sizes
    with_one = slice_set table (s.id - 1) s.settings

    by : (t : Bool) → (s.id == id) ≡ t → (t || has_stream id streams) ≡ false
        → (has_stream id streams ≡ false → sizes_at (with_streams streams with_one) id ≡ sizes_at with_one id)
        → sizes_at (with_streams streams with_one) id ≡ sizes_at table id
    by true e none more = absurd cc
    by false e none more = more none ∙ set_other table s.id id s.settings (All-head IsBenchStream s streams are).id.0 source.0 e

stays_table : (streams : List BenchStream) (table : List Sizes) → All IsBenchStream streams → IsTable table → IsTable (with_streams streams table)
stays_table [] table are is = is
stays_table (s ∷ streams) table are is =
    stays_table streams (slice_set table (s.id - 1) s.settings) (All-tail IsBenchStream s streams are)
    (set_table table (s.id - 1) s.settings is (All-head IsBenchStream s streams are).settings)

all_suit : (streams : List BenchStream) (table : List Sizes) → All IsBenchStream streams → AreApart streams → IsTable table
    → All (λ (s : BenchStream). sizes_at (with_streams streams table) s.id ≡ s.settings) streams
all_suit [] table are apart is = All-nil (λ (s : BenchStream). sizes_at table s.id ≡ s.settings)
all_suit (s ∷ streams) table are apart is =
    let one = All-head IsBenchStream s streams are in
    let more = All-tail IsBenchStream s streams are in
    let with_one = slice_set table (s.id - 1) s.settings in
    All-cons (λ (t : BenchStream). sizes_at (with_streams streams with_one) t.id ≡ t.settings) s streams
    (stays streams with_one s.id one.id more apart.0 ∙ set_same table s.id s.settings is one.id)
    (all_suit streams with_one more apart.1 (set_table table (s.id - 1) s.settings is one.settings))

pub some_table_suits : SomeTableSuits
some_table_suits b bench =
    let all = all_alike default_sizes (search rules) in (
      stays_table b.streams (replicate 111 default_sizes) bench.streams all,
      all_suit b.streams (replicate 111 default_sizes) bench.streams bench.apart all,
    )

-- ---- stream by stream

both_found : (streams : List BenchStream) (k id : ℕ) (sizes : Sizes) (s : BenchStream) → slice_get streams k ≡ Some s
    → Some id ≡ option_map (λ st. st.id) (slice_get streams k) → Some sizes ≡ option_map (λ st. st.settings) (slice_get streams k)
    → (id ≡ s.id) × (sizes ≡ s.settings)
both_found streams k id sizes s there id_is sizes_are =
    let e = id_is ∙ ap (option_map (λ (st : BenchStream). st.id)) there in
    let f = sizes_are ∙ ap (option_map (λ (st : BenchStream). st.settings)) there in
    (cc, cc)

pub one_more : (b : BenchParts) (table : List Sizes) (k id : ℕ) (sizes : Sizes) (s : BenchStream) → slice_get b.streams k ≡ Some s
    → Some id ≡ option_map (λ st. st.id) (slice_get b.streams k) → Some sizes ≡ option_map (λ st. st.settings) (slice_get b.streams k)
    → with_streams (drop k b.streams) table ≡ table_of b → with_streams (drop (k + 1) b.streams) (slice_set table (id - 1) sizes) ≡ table_of b
one_more b table k id sizes s there id_is sizes_are so_far =
    let is = both_found b.streams k id sizes s there id_is sizes_are in
    let rest = drop (k + 1) b.streams in
    ap (λ (i : ℕ). with_streams rest (slice_set table (i - 1) sizes)) is.0
    ∙ ap (λ (one : Sizes). with_streams rest (slice_set table (s.id - 1) one)) is.1
    ∙ sym (ap (λ (l : List BenchStream). with_streams l table) (dropped_next b.streams k s there)) ∙ so_far
