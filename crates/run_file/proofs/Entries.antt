-- The entries of a map as streams.
use Rattle.std.proofs.Common.{◌≡◌, ◌∷◌, ◌++◌, ◌∙◌, ◌+◌, ◌||◌, ◌==◌, ℕ, zero, suc, Bool, true, false, cond, List, [], length, slice_get, Option, Some, None}
use Rattle.std.proofs.Common.{arith, refl, sym, ◌-◌, ◌≤◌, subst, map, Vec, Global}
use Rattle.std.proofs.Common.{if◌then◌else◌, ap, get_or, is_some, nat_eq, nat_lt}
use Rattle.std.proofs.lemmas.Bool.Decides.{nat_tests}
use Rattle.std.proofs.lemmas.List.{map-append}
use Rattle.std.proofs.lemmas.List.Elements.{All-append, All-cons, All-head, All-nil, All-tail}
use Rattle.indexmap.specs.IndexMap.{insert_entry, set_value_at}
use Rattle.std.specs.Map.{lookup, values_of}
use Rattle.std.specs.Prelude.{All, IfSome}
use Rattle.std.proofs.lemmas.Option.{slice_get-map, slice_get_read}
use Rattle.std.proofs.lemmas.Bool.{eqb-true, ltb-true}
use Rattle.std.specs.Option.{option_and_then, option_map}
use Rattle.etm_types.specs.Id.{IsId}
use Rattle.etm_types.specs.Settings.{Sizes}
use Rattle.run_file.specs.BenchText.{newest, with_line}
use Rattle.run_file.specs.KeptStreams.{AreKept, IsKept, in_entry, streams_in}
use Rattle.run_file.specs.Places.{IsRead, line_of}
use Rattle.run_file.specs.Parts.{BenchStream, IsBenchStream, has_stream}
use Rattle.run_file.specs.declared.line.BenchLine.{BenchLine}
use Rattle.run_file.specs.declared.place.LineStart.{LineStart}
use Rattle.run_file.specs.declared.streams.Stream.{Stream}

either_way : (m n : ℕ) → nat_eq m n ≡ nat_eq n m
either_way m n = grind (arith, nat_tests)

pub found : (text : List ℕ) (id : ℕ) (es : List (ℕ × Stream)) → is_some (lookup (nat_eq id) es) ≡ has_stream id (streams_in text es)
found text id [] = refl
found text id (e ∷ es) = by (nat_eq id e.0) (nat_eq e.0 id) (either_way id e.0) (found text id es)
  where
    by : (a b : Bool) → a ≡ b → is_some (lookup (nat_eq id) es) ≡ has_stream id (streams_in text es)
        → is_some (cond a (Some e.1) (lookup (nat_eq id) es)) ≡ (b || has_stream id (streams_in text es))
    by true true h more = refl
    by false false h more = more
    by true false h more = absurd cc
    by false true h more = absurd cc

pub declared : (text : List ℕ) (id : ℕ) (v : Stream) (es : List (ℕ × Stream)) → has_stream id (streams_in text es) ≡ false
    → insert_entry nat_eq es id v ≡ es ++ (id, v) ∷ []
declared text id v [] none = refl
declared text id v (e ∷ es) none = by (nat_eq id e.0) (nat_eq e.0 id) (either_way id e.0) none (declared text id v es)
  where
    by : (a b : Bool) → a ≡ b → (b || has_stream id (streams_in text es)) ≡ false
        → (has_stream id (streams_in text es) ≡ false → insert_entry nat_eq es id v ≡ es ++ (id, v) ∷ [])
        → (if a then (e.0, v) ∷ es else e ∷ insert_entry nat_eq es id v) ≡ (e ∷ es) ++ (id, v) ∷ []
    by true true h none more = absurd cc
    by false false h none more = ap (λ (rest : List (ℕ × Stream)). e ∷ rest) (more none)
    by true false h none more = absurd cc
    by false true h none more = absurd cc

pub declared_streams : (text : List ℕ) (id : ℕ) (v : Stream) (es : List (ℕ × Stream)) → has_stream id (streams_in text es) ≡ false
    → streams_in text (insert_entry nat_eq es id v) ≡ streams_in text es ++ in_entry text (id, v) ∷ []
declared_streams text id v es none = ap (streams_in text) (declared text id v es none) ∙ map-append (in_entry text) es ((id, v) ∷ [])

-- a stream without lines has none that was not read
pub declared_kept : (text : List ℕ) (id : ℕ) (v : Stream) (es : List (ℕ × Stream)) → IsId id → has_stream id (streams_in text es) ≡ false
    → v.places.items ≡ [] → AreKept text es → AreKept text (insert_entry nat_eq es id v)
declared_kept text id v es source none empty h =
    let lines = subst (λ (ps : List LineStart). All (IsRead text v.settings) ps) (sym empty) (All-nil (IsRead text v.settings)) in
    let own : IsKept text (id, v) = record { id = source; lines = lines } in
    subst (AreKept text) (sym (declared text id v es none))
    (All-append (IsKept text) es ((id, v) ∷ []) h (All-cons (IsKept text) (id, v) [] own (All-nil (IsKept text))))

pub pushed : (text : List ℕ) (es : List (ℕ × Stream)) (i : ℕ) (v : Stream) (w : Vec LineStart Global) (p : LineStart) → i + 1 ≡ length es
    → slice_get (values_of es) i ≡ Some v → w.items ≡ v.places.items ++ p ∷ []
    → streams_in text (set_value_at es i (record v { places = w })) ≡ with_line (line_of text v.settings p) (streams_in text es)
pushed text [] i v w p last at h = absurd (omega arith)
pushed text (e ∷ []) zero v w p last at h =
    same_stream cc
  where
    lines : map (line_of text v.settings) w.items ≡ map (line_of text v.settings) v.places.items ++ line_of text v.settings p ∷ []
    lines = ap (map (line_of text v.settings)) h ∙ map-append (line_of text v.settings) v.places.items (p ∷ [])

    same_stream : v ≡ e.1 → streams_in text ((e.0, record v { places = w }) ∷ []) ≡ with_line (line_of text v.settings p) (streams_in text (e ∷ []))
    same_stream same =
        ap (λ (lines : List BenchLine). record { id = e.0; settings = v.settings; stack = v.stack; lines = lines } ∷ []) lines
        ∙ ap (λ (u : Stream).
        record (in_entry text (e.0, u)) { lines = map (line_of text u.settings) u.places.items ++ line_of text v.settings p ∷ [] } ∷ []) same
pushed text (e ∷ []) (suc i) v w p last at h = absurd (omega arith)
pushed text (e ∷ f ∷ es) zero v w p last at h = absurd (omega arith)
pushed text (e ∷ f ∷ es) (suc i) v w p last at h =
    ap (λ (rest : List BenchStream). in_entry text e ∷ rest) (pushed text (f ∷ es) i v w p (omega arith) at h)

-- other places of a stream that are read
pub kept_set : (text : List ℕ) (es : List (ℕ × Stream)) (i : ℕ) (v : Stream) → All (IsRead text v.settings) v.places.items → AreKept text es
    → AreKept text (set_value_at es i v)
kept_set text [] i v own h = h
kept_set text (e ∷ es) zero v own h =
    let id = (All-head (IsKept text) e es h).id in
    All-cons (IsKept text) (e.0, v) es (record { id = id; lines = own }) (All-tail (IsKept text) e es h)
kept_set text (e ∷ es) (suc i) v own h =
    All-cons (IsKept text) e _ (All-head (IsKept text) e es h) (kept_set text es i v own (All-tail (IsKept text) e es h))

pub read_at : (text : List ℕ) (es : List (ℕ × Stream)) (i : ℕ) (v : Stream) → slice_get (values_of es) i ≡ Some v → AreKept text es
    → All (IsRead text v.settings) v.places.items
read_at text [] i v at h = absurd cc
read_at text (e ∷ es) zero v at h =
    let same : e.1 ≡ v = cc in subst (λ (u : Stream). All (IsRead text u.settings) u.places.items) same (All-head (IsKept text) e es h).lines
read_at text (e ∷ es) (suc i) v at h = read_at text es i v at (All-tail (IsKept text) e es h)

pub kept_entry : (text : List ℕ) (es : List (ℕ × Stream)) (i : ℕ) (e : ℕ × Stream) → Some e ≡ slice_get es i → AreKept text es → IsKept text e
kept_entry text [] i e at h = absurd cc
kept_entry text (f ∷ es) zero e at h = let same : f ≡ e = cc in subst (IsKept text) same (All-head (IsKept text) f es h)
kept_entry text (f ∷ es) (suc i) e at h = kept_entry text es i e at (All-tail (IsKept text) f es h)

-- only sources have streams
pub source_of : (text : List ℕ) (id : ℕ) (es : List (ℕ × Stream)) → AreKept text es → has_stream id (streams_in text es) ≡ true → IsId id
source_of text id [] h has = absurd cc
source_of text id (e ∷ es) h has =
    by (e.0 == id) refl has (All-head (IsKept text) e es h).id (source_of text id es (All-tail (IsKept text) e es h))
  where
    by : (b : Bool) → (e.0 == id) ≡ b → (b || has_stream id (streams_in text es)) ≡ true → IsId e.0
        → (has_stream id (streams_in text es) ≡ true → IsId id) → IsId id
    by true same has own more = subst IsId (eqb-true e.0 id same) own
    by false same has own more = more has

pub read_place : (text : List ℕ) (s : Sizes) (ps : List LineStart) (k : ℕ) (p : LineStart) → Some p ≡ slice_get ps k → All (IsRead text s) ps → IsRead text s p
read_place text s [] k p at h = absurd cc
read_place text s (q ∷ ps) zero p at h = let same : q ≡ p = cc in subst (IsRead text s) same (All-head (IsRead text s) q ps h)
read_place text s (q ∷ ps) (suc k) p at h = read_place text s ps k p at (All-tail (IsRead text s) q ps h)

pub place_at : (items view : List LineStart) (k : ℕ) (p : LineStart) → view ≡ items → true ≡ nat_lt k (length view) → p ≡ get_or view k p
    → Some p ≡ slice_get items k
place_at items view k p same within is =
    sym (slice_get_read view (length view) k p refl (ltb-true k (length view) (sym within)) is) ∙ ap (λ (l : List LineStart). slice_get l k) same

last_entry : (text : List ℕ) (e : ℕ × Stream) (es : List (ℕ × Stream))
    → option_map (in_entry text) (slice_get (e ∷ es) (length es)) ≡ newest (streams_in text (e ∷ es))
last_entry text e [] = refl
last_entry text e (f ∷ es) = last_entry text f es

pub newest_sizes : (text : List ℕ) (es : List (ℕ × Stream)) (e : ℕ × Stream) → Some e ≡ slice_get es (length es - 1)
    → Some e.1.settings ≡ option_map (λ s. s.settings) (newest (streams_in text es))
newest_sizes text [] e at = absurd cc
newest_sizes text (f ∷ es) e at =
    let place : length (f ∷ es) - 1 ≡ length es = omega arith in
    ap (option_map (λ (s : BenchStream). s.settings))
    (ap (option_map (in_entry text)) (at ∙ ap (slice_get (f ∷ es)) place) ∙ last_entry text f es)

pub last_sizes : (text : List ℕ) (es : List (ℕ × Stream)) (i : ℕ) (v : Stream) → i + 1 ≡ length es → slice_get (values_of es) i ≡ Some v
    → Some v.settings ≡ option_map (λ s. s.settings) (newest (streams_in text es))
last_sizes text [] i v last at = absurd cc
last_sizes text (e ∷ []) zero v last at = let same : v ≡ e.1 = cc in ap (λ (u : Stream). Some u.settings) same
last_sizes text (e ∷ []) (suc i) v last at = absurd (omega arith)
last_sizes text (e ∷ f ∷ es) zero v last at = absurd (omega arith)
last_sizes text (e ∷ f ∷ es) (suc i) v last at = last_sizes text (f ∷ es) i v (omega arith) at

stack_of_stream : (streams : List BenchStream) (i stack : ℕ) → Some stack ≡ option_map (λ s. s.stack) (slice_get streams i) → All IsBenchStream streams
    → stack ≤ 15
stack_of_stream [] i stack at h = absurd cc
stack_of_stream (s ∷ streams) zero stack at h =
    let same : s.stack ≡ stack = cc in subst (λ (n : ℕ). n ≤ 15) same (All-head IsBenchStream s streams h).stack
stack_of_stream (s ∷ streams) (suc i) stack at h = stack_of_stream streams i stack at (All-tail IsBenchStream s streams h)

pub stack_within : (streams : List BenchStream) (i : ℕ) (stack : Option ℕ) → stack ≡ option_map (λ s. s.stack) (slice_get streams i)
    → All IsBenchStream streams → IfSome stack (λ n. n ≤ 15)
stack_within streams i None at h = tt
stack_within streams i (Some n) at h = stack_of_stream streams i n at h

-- the line whose place is kept is that of its stream
pub kept_line : (text : List ℕ) (es : List (ℕ × Stream)) (s k : ℕ) (e : ℕ × Stream) (p : LineStart) → Some e ≡ slice_get es s
    → Some p ≡ slice_get e.1.places.items k
    → Some (line_of text e.1.settings p) ≡ option_and_then (λ (stream : BenchStream). slice_get stream.lines k) (slice_get (streams_in text es) s)
kept_line text [] s k e p at place = absurd cc
kept_line text (f ∷ es) zero k e p at place =
    let same : e ≡ f = cc in
    ap (option_map (line_of text e.1.settings)) place
    ∙ sym (slice_get-map (line_of text e.1.settings) e.1.places.items k)
    ∙ ap (λ (u : ℕ × Stream). slice_get (map (line_of text u.1.settings) u.1.places.items) k) same
kept_line text (f ∷ es) (suc s) k e p at place = kept_line text es s k e p at place

-- a stream is pushed a line that is read by its own settings
module _ (text : List ℕ) (es : List (ℕ × Stream)) (i : ℕ) (v : Stream) (w : Vec LineStart Global) (p : LineStart) (s : Sizes)
    (last : i + 1 ≡ length es) (at : slice_get (values_of es) i ≡ Some v) (items : w.items ≡ v.places.items ++ p ∷ [])
    (sizes : option_map (λ s. s.settings) (newest (streams_in text es)) ≡ Some s) where
  own_sizes : v.settings ≡ s
  own_sizes = let e : Some v.settings ≡ Some s = last_sizes text es i v last at ∙ sizes in cc

  pub push_kept : IsRead text s p → AreKept text es → AreKept text (set_value_at es i (record v { places = w }))
  push_kept new h =
      let own : IsRead text v.settings p = subst (λ (u : Sizes). IsRead text u p) (sym own_sizes) new in
      let before = read_at text es i v at h in
      let all : All (IsRead text v.settings) w.items =
      subst (All (IsRead text v.settings)) (sym items)
      (All-append (IsRead text v.settings) v.places.items (p ∷ []) before
      (All-cons (IsRead text v.settings) p [] own (All-nil (IsRead text v.settings)))) in
      kept_set text es i (record v { places = w }) all h

  pub push_streams : streams_in text (set_value_at es i (record v { places = w })) ≡ with_line (line_of text s p) (streams_in text es)
  push_streams = pushed text es i v w p last at items ∙ ap (λ (u : Sizes). with_line (line_of text u p) (streams_in text es)) own_sizes
