-- The lines of one stream are those of its own bytes.
use Rattle.std.proofs.Common.{◌≡◌, ◌≢◌, ℕ, zero, suc, ◌+◌, ◌<◌, ◌≤◌, ◌==◌, if◌then◌else◌, Bool, true, false, List, [], ◌∷◌, ◌++◌, map, inl, inr, Some, None}
use Rattle.std.proofs.Common.{refl, sym, ap, subst, ◌∙◌, arith, append-nil}
use Rattle.std.specs.List.{range_with_len}
use Rattle.std.proofs.lemmas.Bool.{eq-eqb}
use Rattle.std.proofs.lemmas.Bool.Decides.{eqb_tells}
use Rattle.std.proofs.lemmas.List.{map-append}
use Rattle.std.proofs.lemmas.List.Elements.{filter-append}
use Rattle.capture_streams.specs.Laws.{EndsOnce, GainsOnce, OthersDoNotCount, OthersHaveNone, SourceIsAlone, StreamLines, has_id, lines_with}
use Rattle.capture_streams.specs.Texts.{BodyFrom, EndsOf, GainsIf, Listing, Printed, StreamBody, StreamEnds, cut_lines, is_source, lines_under, of, sources}
use Rattle.capture_streams.specs.Texts.{by_sizes, sum_lines}
use Rattle.etm_types.specs.Id.{IsId}
use Rattle.etm_types.specs.Settings.{Sizes}
use Rattle.path_text.specs.EndLines.{frame_cut_line}
use Rattle.capture_streams.proofs.Bodies.{of_other, of_this}
use Rattle.capture_streams.proofs.BySizes.{own_lines}
use Rattle.capture_streams.proofs.OneText.{stream_ends_once}
use Rattle.capture_streams.proofs.Parted.{of_others}
use Rattle.capture_streams.proofs.Standing.{is_one, source_is}
use Rattle.etm_types.specs.declared.item.Item.{Item}

-- ---- the lines of one stream among others

abbrev is_of : ℕ → Printed → Bool
is_of id = λ (l : Printed). has_id id l.id

pub with-append : (id : ℕ) (xs ys : List Printed) → lines_with id (xs ++ ys) ≡ lines_with id xs ++ lines_with id ys
with-append id xs ys = filter-append (is_of id) xs ys

pub with_own : (id : ℕ) (lines : List (List ℕ)) → lines_with id (lines_under id lines) ≡ lines_under id lines
with_own id [] = refl
with_own id (line ∷ lines) =
    let l : Printed = record { id = Some id; line = line } in
    let more = lines_with id (lines_under id lines) in
    let kept : lines_with id (l ∷ lines_under id lines) ≡ l ∷ more = ap (λ (t : Bool). if t then l ∷ more else more) (eq-eqb id id refl) in
    kept ∙ ap (λ (rest : List Printed). l ∷ rest) (with_own id lines)

pub with_others : (id other : ℕ) (lines : List (List ℕ)) → other ≢ id → lines_with id (lines_under other lines) ≡ []
with_others id other [] differs = refl
with_others id other (line ∷ lines) differs =
    let l : Printed = record { id = Some other; line = line } in
    let more = lines_with id (lines_under other lines) in
    let gone : lines_with id (l ∷ lines_under other lines) ≡ more = elim (eqb_tells other id) [
      | inl same ↦ absurd (differs same.1)
      | inr differ ↦ ap (λ (t : Bool). if t then l ∷ more else more) differ.0
    ] in
    gone ∙ with_others id other lines differs

none_of_cut : (id left : ℕ) (cut : Bool) → lines_with id (if cut then [] else record { id = None; line = frame_cut_line left } ∷ []) ≡ []
none_of_cut id left true = refl
none_of_cut id left false = refl

pub with_cut : (id left : ℕ) → lines_with id (cut_lines left) ≡ []
with_cut id left = none_of_cut id left (left == 0)

-- those of a sum are of no stream
none_of_sum : (id : ℕ) (lines : List (List ℕ)) → lines_with id (map (λ (line : List ℕ). record { id = None; line = line }) lines) ≡ []
none_of_sum id [] = refl
none_of_sum id (line ∷ lines) = none_of_sum id lines

-- so the sum and the cut frame leave the ends
pub with_ends : (g : Listing) (id left : ℕ) (sums ends : List Printed) (items : List (ℕ × Item)) → sums ≡ sum_lines g items
    → lines_with id (sums ++ (ends ++ cut_lines left)) ≡ lines_with id ends
with_ends g id left sums ends items is =
    with-append id sums (ends ++ cut_lines left)
    ∙ ap (λ (l : List Printed). l ++ lines_with id (ends ++ cut_lines left)) (ap (lines_with id) is ∙ none_of_sum id (g.sums items))
    ∙ with-append id ends (cut_lines left) ∙ ap (λ (l : List Printed). lines_with id ends ++ l) (with_cut id left) ∙ append-nil (lines_with id ends)

-- ---- what its bytes add

-- of these lines, those of a stream are what its own bytes add
record Apart (g : Listing) (id : ℕ) (before pairs : List (ℕ × ℕ)) (lines : List Printed) : Type 0 where
  pub gained : List (List ℕ)
  pub body : StreamBody g id (of id before) (of id pairs) gained
  pub same : lines_with id lines ≡ lines_under id gained

module _ (g : Listing) (id : ℕ) (source : IsId id) where
  own_byte : (before pairs : List (ℕ × ℕ)) (byte : ℕ) (first : List (List ℕ)) (rest : List Printed) → g.gains id (of id before) byte first
      → Apart g id (before ++ (id, byte) ∷ []) pairs rest → Apart g id before ((id, byte) ∷ pairs) (lines_under id first ++ rest)
  own_byte before pairs byte first rest gains was =
      let head : of id ((id, byte) ∷ pairs) ≡ byte ∷ of id pairs
      = ap (λ (t : Bool). if t then byte ∷ of id pairs else of id pairs) (eq-eqb id id refl) in
      let later = subst (λ (l : List ℕ). StreamBody g id l (of id pairs) was.gained) (of_this id byte before) was.body in
      record {
        gained = first ++ was.gained;
        body = subst (λ (l : List ℕ). StreamBody g id (of id before) l (first ++ was.gained)) (sym head) (first, was.gained, gains, later, refl);
        same = with-append id (lines_under id first) rest ∙ ap (λ (l : List Printed). l ++ lines_with id rest) (with_own id first)
            ∙ ap (λ (l : List Printed). lines_under id first ++ l) was.same
            ∙ sym (map-append (λ (line : List ℕ). record { id = Some id; line = line }) first was.gained);
      }

  other_byte : (before pairs : List (ℕ × ℕ)) (other byte : ℕ) (first : List (List ℕ)) (rest : List Printed) → other ≢ id
      → Apart g id (before ++ (other, byte) ∷ []) pairs rest → Apart g id before ((other, byte) ∷ pairs) (lines_under other first ++ rest)
  other_byte before pairs other byte first rest differs was =
      let later = subst (λ (l : List ℕ). StreamBody g id l (of id pairs) was.gained) (of_other id other byte before differs) was.body in
      record {
        gained = was.gained;
        body = subst (λ (l : List ℕ). StreamBody g id (of id before) l was.gained) (sym (of_others id other byte pairs differs)) later;
        same = with-append id (lines_under other first) rest
            ∙ ap (λ (l : List Printed). l ++ lines_with id rest) (with_others id other first differs) ∙ was.same;
      }

  one_apart : (before pairs : List (ℕ × ℕ)) (other byte : ℕ) (first : List (List ℕ)) (rest : List Printed)
      → GainsIf (is_source other) g before (other, byte) first → Apart g id (before ++ (other, byte) ∷ []) pairs rest
      → Apart g id before ((other, byte) ∷ pairs) (lines_under other first ++ rest)
  one_apart before pairs other byte first rest gains was = elim (eqb_tells other id) [
    | inl is ↦
        let here = subst (λ (i : ℕ). GainsIf (is_source i) g before (i, byte) first) is.1 gains in
        let adds = subst (λ (t : Bool). GainsIf t g before (id, byte) first) (is_one id source) here in
        let own = own_byte before pairs byte first rest adds (subst (λ (i : ℕ). Apart g id (before ++ (i, byte) ∷ []) pairs rest) is.1 was) in
        subst (λ (i : ℕ). Apart g id before ((i, byte) ∷ pairs) (lines_under i first ++ rest)) (sym is.1) own
    | inr differ ↦ other_byte before pairs other byte first rest differ.1 was
  ]

  all_apart : (before pairs : List (ℕ × ℕ)) (lines : List Printed) → BodyFrom g before pairs lines → Apart g id before pairs lines
  all_apart before [] lines none = record { gained = []; body = refl; same = ap (lines_with id) none }
  all_apart before (pair ∷ pairs) lines (first, rest, gains, later, is) =
      subst (λ (l : List Printed). Apart g id before (pair ∷ pairs) l) (sym is)
      (one_apart before pairs pair.0 pair.1 first rest gains (all_apart (before ++ pair ∷ []) pairs rest later))

-- ---- its end

module _ (g : Listing) (pairs : List (ℕ × ℕ)) (id : ℕ) where
  own_end : (bytes : List ℕ) (lines : List Printed) (faulty : Bool) → StreamEnds g id bytes lines faulty → lines_with id lines ≡ lines
  own_end [] lines faulty (none, whole) = ap (lines_with id) none ∙ sym none
  own_end (b ∷ bytes) lines faulty (line, ends, is) = ap (lines_with id) is ∙ with_own id (line ∷ []) ∙ sym is

  other_end : (other : ℕ) (bytes : List ℕ) (lines : List Printed) (faulty : Bool) → other ≢ id → StreamEnds g other bytes lines faulty
      → lines_with id lines ≡ []
  other_end other [] lines faulty differs (none, whole) = ap (lines_with id) none
  other_end other (b ∷ bytes) lines faulty differs (line, ends, is) = ap (lines_with id) is ∙ with_others id other (line ∷ []) differs

  -- none of these IDs is that of the stream
  none_among : (from count : ℕ) (lines : List Printed) (faulty : Bool) → ((k : ℕ) → k < count → from + k ≢ id)
      → EndsOf g pairs (range_with_len from count) lines faulty → lines_with id lines ≡ []
  none_among from zero lines faulty differs (none, whole) = ap (lines_with id) none
  none_among from (suc count) lines faulty differs (first, rest, f, o, here, later, is, fault) =
      let none = other_end from (of from pairs) first f (λ e. differs 0 (omega arith) (omega (arith, e))) here in
      let behind = none_among (from + 1) count rest o (λ k within e. differs (suc k) (omega (arith, within)) (omega (arith, e))) later in
      ap (lines_with id) is ∙ with-append id first rest ∙ ap (λ (l : List Printed). l ++ lines_with id rest) none ∙ behind

  abbrev EndsHere : List Printed → Type 0
  EndsHere lines = (ending : List Printed) × (faulty : Bool) × StreamEnds g id (of id pairs) ending faulty × (lines_with id lines ≡ ending)

  -- one of them is
  one_among : (from count : ℕ) (lines : List Printed) (faulty : Bool) → from ≤ id → id < from + count
      → EndsOf g pairs (range_with_len from count) lines faulty → EndsHere lines
  one_among from zero lines faulty low high none = absurd (omega (arith, low, high))
  one_among from (suc count) lines faulty low high (first, rest, f, o, here, later, is, fault) = elim (eqb_tells from id) [
    | inl same ↦
        let own = subst (λ (i : ℕ). StreamEnds g i (of i pairs) first f) same.1 here in
        let behind = none_among (from + 1) count rest o (λ k within e. omega (arith, e, same.1)) later in (
          first,
          f,
          own,
          ap (lines_with id) is ∙ with-append id first rest ∙ ap (λ (l : List Printed). l ++ lines_with id rest) (own_end (of id pairs) first f own)
              ∙ ap (λ (l : List Printed). first ++ l) behind ∙ append-nil first,
        )
    | inr differ ↦
        let none = other_end from (of from pairs) first f differ.1 here in
        let behind = one_among (from + 1) count rest o (omega (arith, low, differ.1)) (omega (arith, high)) later in (
          behind.0,
          behind.1,
          behind.2,
          ap (lines_with id) is ∙ with-append id first rest ∙ ap (λ (l : List Printed). l ++ lines_with id rest) none ∙ behind.3,
        )
  ]

  end_here : (lines : List Printed) (faulty : Bool) → IsId id → EndsOf g pairs sources lines faulty → EndsHere lines
  unfolding sources
  end_here lines faulty source ends = one_among 1 111 lines faulty source.0 (omega (arith, source.1)) ends

  no_end : (lines : List Printed) (faulty : Bool) → (IsId id → ⊥) → EndsOf g pairs sources lines faulty → lines_with id lines ≡ []
  unfolding sources
  no_end lines faulty none ends = none_among 1 111 lines faulty (λ k within e. none (omega (arith, e), omega (arith, e, within))) ends

-- ---- all of it

pub source_is_alone : (g : Listing) → SourceIsAlone g
source_is_alone g pairs left lines faulty id source is =
    let apart = all_apart g id source [] pairs is.body is.gained in
    let last = is.ended in
    let ends = end_here g pairs id last.ends last.some_fault source last.ended in
    let ending : lines_with id is.ending ≡ ends.0
    = ap (lines_with id) last.all ∙ with_ends g id left last.sums last.ends last.summed.0 last.summed.2 ∙ ends.3 in
    record {
      gained = apart.gained;
      ending = ends.0;
      faulty = ends.1;
      body = apart.body;
      ends = ends.2;
      all = ap (lines_with id) is.all ∙ with-append id is.body is.ending ∙ ap (λ (l : List Printed). l ++ lines_with id is.ending) apart.same
          ∙ ap (λ (l : List Printed). lines_under id apart.gained ++ l) ending;
    }

-- ---- no source

gains_none : (g : Listing) (id other byte : ℕ) (before : List (ℕ × ℕ)) (lines : List (List ℕ)) → (IsId id → ⊥) → (source : Bool) → is_source other ≡ source
    → GainsIf source g before (other, byte) lines → lines_with id (lines_under other lines) ≡ []
gains_none g id other byte before lines none false is gains = ap (λ (l : List (List ℕ)). lines_with id (lines_under other l)) gains
gains_none g id other byte before lines none true is gains =
    with_others id other lines (λ same. none (subst IsId same (source_is other is)))

none_of_body : (g : Listing) (id : ℕ) → (IsId id → ⊥) → (before pairs : List (ℕ × ℕ)) (lines : List Printed) → BodyFrom g before pairs lines
    → lines_with id lines ≡ []
none_of_body g id none before [] lines is = ap (lines_with id) is
none_of_body g id none before (pair ∷ pairs) lines (first, rest, gains, later, is) =
    ap (lines_with id) is ∙ with-append id (lines_under pair.0 first) rest
    ∙ ap (λ (l : List Printed). l ++ lines_with id rest) (gains_none g id pair.0 pair.1 before first none (is_source pair.0) refl gains)
    ∙ none_of_body g id none (before ++ pair ∷ []) pairs rest later

pub others_have_none : (g : Listing) → OthersHaveNone g
others_have_none g pairs left lines faulty id none is =
    let last = is.ended in
    ap (lines_with id) is.all ∙ with-append id is.body is.ending
    ∙ ap (λ (l : List Printed). l ++ lines_with id is.ending) (none_of_body g id none [] pairs is.body is.gained)
    ∙ ap (lines_with id) last.all ∙ with_ends g id left last.sums last.ends last.summed.0 last.summed.2
    ∙ no_end g pairs id last.ends last.some_fault none last.ended

-- ---- the others do not count

bytes_gain_once : (g : Listing) → GainsOnce g → (id : ℕ) (before bytes : List ℕ) (lines others : List (List ℕ)) → StreamBody g id before bytes lines
    → StreamBody g id before bytes others → lines ≡ others
bytes_gain_once g once id before [] lines others none also = none ∙ sym also
bytes_gain_once g once id before (b ∷ bytes) lines others (first, rest, gains, later, is) (first', rest', gains', later', is') =
    let same = once id before b first first' gains gains' in
    let behind = bytes_gain_once g once id (before ++ b ∷ []) bytes rest rest' later later' in
    is ∙ ap (λ (l : List (List ℕ)). l ++ rest) same ∙ ap (λ (l : List (List ℕ)). first' ++ l) behind ∙ sym is'

stream_lines_once : (g : Listing) → GainsOnce g → EndsOnce g → (id : ℕ) (bytes : List ℕ) (lines others : List Printed) → StreamLines g id bytes lines
    → StreamLines g id bytes others → lines ≡ others
stream_lines_once g once ends_once id bytes lines others is too =
    let body = bytes_gain_once g once id [] bytes is.gained too.gained is.body too.body in
    let ends = stream_ends_once g ends_once id bytes is.ending too.ending is.faulty too.faulty is.ends too.ends in
    is.all ∙ ap (λ (l : List (List ℕ)). lines_under id l ++ is.ending) body ∙ ap (λ (l : List Printed). lines_under id too.gained ++ l) ends.0 ∙ sym too.all

pub others_do_not_count : (g : Sizes → Listing) → OthersDoNotCount g
others_do_not_count g t u id source sizes once ends_once pairs more left some lines others faulty also same is too =
    let here = own_lines g t id (of id pairs) (lines_with id lines) (source_is_alone (by_sizes g t) pairs left lines faulty id source is) in
    let there = own_lines g u id (of id more) (lines_with id others) (source_is_alone (by_sizes g u) more some others also id source too) in
    stream_lines_once (g (u id)) once ends_once id (of id more) (lines_with id lines) (lines_with id others)
    (subst (λ (bytes : List ℕ). StreamLines (g (u id)) id bytes (lines_with id lines)) same
    (subst (λ (s : Sizes). StreamLines (g s) id (of id pairs) (lines_with id lines)) sizes here)) there
