-- Where each stream gains and ends in one way, pairs have one text; where each has some way, they have some.
use Rattle.std.proofs.Common.{◌≡◌, ℕ, ◌<◌, ◌==◌, if◌then◌else◌, Bool, true, false, List, [], ◌∷◌, ◌++◌, refl, sym, ap, ◌∙◌}
use Rattle.std.specs.Prelude.{All, ◌||◌, nat_lt}
use Rattle.capture_streams.specs.Laws.{AddsAlways, AddsOnce, EndsAlways, EndsOnce, GainsAlways, GainsOnce, HasByte, OneBody, OneEnding, OneSum, OneText}
use Rattle.capture_streams.specs.Laws.{SomeBody, SomeEnding, SomeText}
use Rattle.etm_types.specs.declared.item.Item.{Item}
use Rattle.std.proofs.lemmas.List.Elements.{All-cons, All-head, All-nil, All-push, All-tail}
use Rattle.capture_streams.specs.Texts.{AddedFrom, AddsIf, EndsOf, GainsIf, Listing, Printed, StreamEnds, cut_lines, is_source, lines_under, of}
use Rattle.capture_streams.specs.Texts.{sources, sum_lines}
use Rattle.stream_decoder.specs.Follows.{items_under}

-- ---- one

gains_once : (g : Listing) → GainsOnce g → (source : Bool) (before : List (ℕ × ℕ)) (pair : ℕ × ℕ) (lines others : List (List ℕ))
    → GainsIf source g before pair lines → GainsIf source g before pair others → lines ≡ others
gains_once g once true before pair lines others gains also = once pair.0 (of pair.0 before) pair.1 lines others gains also
gains_once g once false before pair lines others none also = none ∙ sym also

pub one_body : (g : Listing) → OneBody g
one_body g once before [] lines others none also = none ∙ sym also
one_body g once before (pair ∷ pairs) lines others (first, rest, gains, later, is) (first', rest', gains', later', is') =
    let same = gains_once g once (is_source pair.0) before pair first first' gains gains' in
    let behind = one_body g once (before ++ pair ∷ []) pairs rest rest' later later' in
    is ∙ ap (λ (l : List (List ℕ)). lines_under pair.0 l ++ rest) same ∙ ap (λ (l : List Printed). lines_under pair.0 first' ++ l) behind ∙ sym is'

adds_once : (g : Listing) → AddsOnce g → (source : Bool) (before : List (ℕ × ℕ)) (pair : ℕ × ℕ) (items others : List Item)
    → AddsIf source g before pair items → AddsIf source g before pair others → items ≡ others
adds_once g once true before pair items others adds also = once pair.0 (of pair.0 before) pair.1 items others adds also
adds_once g once false before pair items others none also = none ∙ sym also

pub one_sum : (g : Listing) → OneSum g
one_sum g once before [] items others none also = none ∙ sym also
one_sum g once before (pair ∷ pairs) items others (first, rest, adds, later, is) (first', rest', adds', later', is') =
    let same = adds_once g once (is_source pair.0) before pair first first' adds adds' in
    let behind = one_sum g once (before ++ pair ∷ []) pairs rest rest' later later' in
    is ∙ ap (λ (l : List Item). items_under pair.0 l ++ rest) same ∙ ap (λ (l : List (ℕ × Item)). items_under pair.0 first' ++ l) behind ∙ sym is'

pub stream_ends_once : (g : Listing) → EndsOnce g → (id : ℕ) (bytes : List ℕ) (lines others : List Printed) (faulty also : Bool)
    → StreamEnds g id bytes lines faulty → StreamEnds g id bytes others also → (lines ≡ others) × (faulty ≡ also)
stream_ends_once g once id [] lines others faulty also (none, whole) (none', whole') = (none ∙ sym none', whole ∙ sym whole')
stream_ends_once g once id (b ∷ bytes) lines others faulty also (line, ends, is) (line', ends', is') =
    let same = once id (b ∷ bytes) line line' faulty also ends ends' in
    (is ∙ ap (λ (l : List ℕ). lines_under id (l ∷ [])) same.0 ∙ sym is', same.1)

all_end_once : (g : Listing) → EndsOnce g → (pairs : List (ℕ × ℕ)) (ids : List ℕ) (lines others : List Printed) (faulty also : Bool)
    → EndsOf g pairs ids lines faulty → EndsOf g pairs ids others also → (lines ≡ others) × (faulty ≡ also)
all_end_once g once pairs [] lines others faulty also (none, whole) (none', whole') = (none ∙ sym none', whole ∙ sym whole')
all_end_once g once pairs (id ∷ ids) lines others faulty also (first, rest, f, o, here, later, is, fault)
    (first', rest', f', o', here', later', is', fault') =
    let same = stream_ends_once g once id (of id pairs) first first' f f' here here' in
    let behind = all_end_once g once pairs ids rest rest' o o' later later' in (
      is ∙ ap (λ (l : List Printed). l ++ rest) same.0 ∙ ap (λ (l : List Printed). first' ++ l) behind.0 ∙ sym is',
      fault ∙ ap (λ (b : Bool). b || o) same.1 ∙ ap (λ (b : Bool). f' || b) behind.1 ∙ sym fault',
    )

pub one_ending : (g : Listing) → OneEnding g
one_ending g adds_so once pairs left lines others faulty also is too =
    let same = all_end_once g once pairs sources is.ends too.ends is.some_fault too.some_fault is.ended too.ended in
    let summed = one_sum g adds_so [] pairs is.summed.0 too.summed.0 is.summed.1 too.summed.1 in
    let sums : is.sums ≡ too.sums = is.summed.2 ∙ ap (sum_lines g) summed ∙ sym too.summed.2 in (
      is.all ∙ ap (λ (l : List Printed). l ++ (is.ends ++ cut_lines left)) sums ∙ ap (λ (l : List Printed). too.sums ++ (l ++ cut_lines left)) same.0
          ∙ sym too.all,
      is.fault ∙ ap (λ (b : Bool). b || nat_lt 0 left) same.1 ∙ sym too.fault,
    )

pub one_text : (g : Listing) → OneText g
one_text g once adds_so ends_once pairs left lines others faulty also is too =
    let body = one_body g once [] pairs is.body too.body is.gained too.gained in
    let same = one_ending g adds_so ends_once pairs left is.ending too.ending faulty also is.ended too.ended in
    (is.all ∙ ap (λ (l : List Printed). l ++ is.ending) body ∙ ap (λ (l : List Printed). too.body ++ l) same.0 ∙ sym too.all, same.1)

-- ---- some

abbrev IsByte : ℕ → Type 0
IsByte b = b < 256

kept_or_not : (test : Bool) (b : ℕ) (bytes : List ℕ) → b < 256 → All IsByte bytes → All IsByte (if test then b ∷ bytes else bytes)
kept_or_not true b bytes small all = All-cons IsByte b bytes small all
kept_or_not false b bytes small all = all

pub bytes_of : (id : ℕ) (pairs : List (ℕ × ℕ)) → All HasByte pairs → All IsByte (of id pairs)
bytes_of id [] all = All-nil IsByte
bytes_of id (pair ∷ pairs) all =
    kept_or_not (pair.0 == id) pair.1 (of id pairs) (All-head HasByte pair pairs all) (bytes_of id pairs (All-tail HasByte pair pairs all))

some_gain : (g : Listing) → GainsAlways g → (source : Bool) (before : List (ℕ × ℕ)) (pair : ℕ × ℕ) → All HasByte before → HasByte pair
    → (lines : List (List ℕ)) × GainsIf source g before pair lines
some_gain g always true before pair all small =
    always pair.0 (of pair.0 before) pair.1 (All-push IsByte (of pair.0 before) pair.1 (bytes_of pair.0 before all) small)
some_gain g always false before pair all small = ([], refl)

pub some_body : (g : Listing) → SomeBody g
some_body g always before [] was all = ([], refl)
some_body g always before (pair ∷ pairs) was all =
    let small = All-head HasByte pair pairs all in
    let first = some_gain g always (is_source pair.0) before pair was small in
    let rest = some_body g always (before ++ pair ∷ []) pairs (All-push HasByte before pair was small) (All-tail HasByte pair pairs all) in
    (lines_under pair.0 first.0 ++ rest.0, (first.0, rest.0, first.1, rest.1, refl))

some_item : (g : Listing) → AddsAlways g → (source : Bool) (before : List (ℕ × ℕ)) (pair : ℕ × ℕ) → All HasByte before → HasByte pair
    → (items : List Item) × AddsIf source g before pair items
some_item g always true before pair all small =
    always pair.0 (of pair.0 before) pair.1 (All-push IsByte (of pair.0 before) pair.1 (bytes_of pair.0 before all) small)
some_item g always false before pair all small = ([], refl)

some_sum : (g : Listing) → AddsAlways g → (before pairs : List (ℕ × ℕ)) → All HasByte before → All HasByte pairs
    → (items : List (ℕ × Item)) × AddedFrom g before pairs items
some_sum g always before [] was all = ([], refl)
some_sum g always before (pair ∷ pairs) was all =
    let small = All-head HasByte pair pairs all in
    let first = some_item g always (is_source pair.0) before pair was small in
    let rest = some_sum g always (before ++ pair ∷ []) pairs (All-push HasByte before pair was small) (All-tail HasByte pair pairs all) in
    (items_under pair.0 first.0 ++ rest.0, (first.0, rest.0, first.1, rest.1, refl))

some_end : (g : Listing) → EndsAlways g → (id : ℕ) (bytes : List ℕ) → All IsByte bytes
    → (lines : List Printed) × (faulty : Bool) × StreamEnds g id bytes lines faulty
some_end g always id [] small = ([], false, (refl, refl))
some_end g always id (b ∷ bytes) small =
    let last = always id (b ∷ bytes) small in (lines_under id (last.0 ∷ []), last.1, (last.0, last.2, refl))

some_ends : (g : Listing) → EndsAlways g → (pairs : List (ℕ × ℕ)) (ids : List ℕ) → All HasByte pairs
    → (lines : List Printed) × (faulty : Bool) × EndsOf g pairs ids lines faulty
some_ends g always pairs [] all = ([], false, (refl, refl))
some_ends g always pairs (id ∷ ids) all =
    let first = some_end g always id (of id pairs) (bytes_of id pairs all) in
    let rest = some_ends g always pairs ids all in
    (first.0 ++ rest.0, first.1 || rest.1, (first.0, rest.0, first.1, rest.1, first.2, rest.2, refl, refl))

pub some_ending : (g : Listing) → SomeEnding g
some_ending g adds_some always pairs left all =
    let ends = some_ends g always pairs sources all in
    let sum = some_sum g adds_some [] pairs (All-nil HasByte) all in
    let sums = sum_lines g sum.0 in (
      sums ++ (ends.0 ++ cut_lines left),
      ends.1 || nat_lt 0 left,
      record { sums = sums; summed = (sum.0, sum.1, refl); ends = ends.0; some_fault = ends.1; ended = ends.2; all = refl; fault = refl },
    )

pub some_text : (g : Listing) → SomeText g
some_text g always adds_some ends_always pairs left all =
    let body = some_body g always [] pairs (All-nil HasByte) all in
    let ending = some_ending g adds_some ends_always pairs left all in
    (body.0 ++ ending.0, ending.1, record { body = body.0; ending = ending.0; gained = body.1; ended = ending.2; all = refl })
