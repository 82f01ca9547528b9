-- The items of each stream among those of all are those of the path of its own bytes.
use Rattle.std.proofs.Common.{◌≡◌, ◌≢◌, ℕ, zero, suc, ◌==◌, if◌then◌else◌, Bool, true, false, List, [], ◌∷◌, ◌++◌, inl, inr, refl, sym, ap, subst, ◌∙◌}
use Rattle.std.proofs.Common.{append-nil, append_assoc}
use Rattle.std.proofs.lemmas.Bool.{eq-eqb}
use Rattle.std.proofs.lemmas.Bool.Decides.{eqb_tells}
use Rattle.element_queue.specs.Resolved.{unresolved}
use Rattle.etm_types.specs.Id.{IsId}
use Rattle.etm_types.specs.Settings.{AreSettings, Sizes}
use Rattle.etm_types.specs.declared.item.Item.{Item}
use Rattle.packet_grammar.specs.Parsed.{SyncAt, no_sync}
use Rattle.packet_grammar.specs.declared.end.End.{End}
use Rattle.capture_streams.specs.Texts.{AddedFrom, AddsIf, Listing, StreamAdded, by_sizes, is_source, of}
use Rattle.packet_grammar.specs.declared.end.End.TheVariants as end
use Rattle.path_elements.specs.Path.{IsPath}
use Rattle.program_image.specs.declared.image.Image.{Image}
use Rattle.stream_decoder.specs.Follows.{items_under}
use Rattle.capture_streams.proofs.Bodies.{of_other, of_this}
use Rattle.capture_streams.proofs.Parted.{of_others}
use Rattle.capture_streams.proofs.PathTexts.{one_path}
use Rattle.capture_streams.proofs.Standing.{is_one, source_is}
use Rattle.count_streams.specs.CountLaws.{EachStreamIsCounted}
use Rattle.count_streams.specs.Pairs.{items_of_stream}
use Rattle.count_streams.specs.Counted.{counted}

-- ---- the items of one stream among others

if_under : (test : Bool) (i : Item) (xs ys : List Item) → (if test then i ∷ (xs ++ ys) else xs ++ ys) ≡ (if test then i ∷ xs else xs) ++ ys
if_under true i xs ys = refl
if_under false i xs ys = refl

pub of_stream-append : (id : ℕ) (xs ys : List (ℕ × Item)) → items_of_stream id (xs ++ ys) ≡ items_of_stream id xs ++ items_of_stream id ys
of_stream-append id [] ys = refl
of_stream-append id (i ∷ xs) ys =
    ap (λ (l : List Item). if i.0 == id then i.1 ∷ l else l) (of_stream-append id xs ys)
    ∙ if_under (i.0 == id) i.1 (items_of_stream id xs) (items_of_stream id ys)

pub of_own : (id : ℕ) (items : List Item) → items_of_stream id (items_under id items) ≡ items
of_own id [] = refl
of_own id (i ∷ items) =
    let more = items_of_stream id (items_under id items) in
    ap (λ (t : Bool). if t then i ∷ more else more) (eq-eqb id id refl) ∙ ap (λ (l : List Item). i ∷ l) (of_own id items)

pub of_none : (id other : ℕ) (items : List Item) → other ≢ id → items_of_stream id (items_under other items) ≡ []
of_none id other [] differs = refl
of_none id other (i ∷ items) differs =
    let more = items_of_stream id (items_under other items) in
    let gone : items_of_stream id (items_under other (i ∷ items)) ≡ more = elim (eqb_tells other id) [
      | inl same ↦ absurd (differs same.1)
      | inr differ ↦ ap (λ (t : Bool). if t then i ∷ more else more) differ.0
    ] in
    gone ∙ of_none id other items differs

-- ---- what its bytes add

module _ (g : Listing) (id : ℕ) (source : IsId id) where
  -- of these items, those of a stream are what its own bytes add
  abbrev Apart : List (ℕ × ℕ) → List (ℕ × ℕ) → List (ℕ × Item) → Type 0
  Apart before pairs items = StreamAdded g id (of id before) (of id pairs) (items_of_stream id items)

  own_byte : (before pairs : List (ℕ × ℕ)) (byte : ℕ) (first : List Item) (rest : List (ℕ × Item)) → g.adds id (of id before) byte first
      → Apart (before ++ (id, byte) ∷ []) pairs rest → Apart before ((id, byte) ∷ pairs) (items_under id first ++ rest)
  own_byte before pairs byte first rest adds was =
      let head : of id ((id, byte) ∷ pairs) ≡ byte ∷ of id pairs
      = ap (λ (t : Bool). if t then byte ∷ of id pairs else of id pairs) (eq-eqb id id refl) in
      let later = subst (λ (l : List ℕ). StreamAdded g id l (of id pairs) (items_of_stream id rest)) (of_this id byte before) was in
      let all : items_of_stream id (items_under id first ++ rest) ≡ first ++ items_of_stream id rest
      = of_stream-append id (items_under id first) rest ∙ ap (λ (l : List Item). l ++ items_of_stream id rest) (of_own id first) in
      subst (λ (l : List Item). StreamAdded g id (of id before) (of id ((id, byte) ∷ pairs)) l) (sym all)
      (subst (λ (l : List ℕ). StreamAdded g id (of id before) l (first ++ items_of_stream id rest)) (sym head)
      (first, items_of_stream id rest, adds, later, refl))

  other_byte : (before pairs : List (ℕ × ℕ)) (other byte : ℕ) (first : List Item) (rest : List (ℕ × Item)) → other ≢ id
      → Apart (before ++ (other, byte) ∷ []) pairs rest → Apart before ((other, byte) ∷ pairs) (items_under other first ++ rest)
  other_byte before pairs other byte first rest differs was =
      let later = subst (λ (l : List ℕ). StreamAdded g id l (of id pairs) (items_of_stream id rest)) (of_other id other byte before differs) was in
      let all : items_of_stream id (items_under other first ++ rest) ≡ items_of_stream id rest
      = of_stream-append id (items_under other first) rest ∙ ap (λ (l : List Item). l ++ items_of_stream id rest) (of_none id other first differs) in
      subst (λ (l : List Item). StreamAdded g id (of id before) (of id ((other, byte) ∷ pairs)) l) (sym all)
      (subst (λ (l : List ℕ). StreamAdded g id (of id before) l (items_of_stream id rest)) (sym (of_others id other byte pairs differs)) later)

  one_apart : (before pairs : List (ℕ × ℕ)) (other byte : ℕ) (first : List Item) (rest : List (ℕ × Item))
      → AddsIf (is_source other) g before (other, byte) first → Apart (before ++ (other, byte) ∷ []) pairs rest
      → Apart before ((other, byte) ∷ pairs) (items_under other first ++ rest)
  one_apart before pairs other byte first rest adds was = elim (eqb_tells other id) [
    | inl is ↦
        let here = subst (λ (i : ℕ). AddsIf (is_source i) g before (i, byte) first) is.1 adds in
        let own = subst (λ (t : Bool). AddsIf t g before (id, byte) first) (is_one id source) here in
        subst (λ (i : ℕ). Apart before ((i, byte) ∷ pairs) (items_under i first ++ rest)) (sym is.1)
        (own_byte before pairs byte first rest own (subst (λ (i : ℕ). Apart (before ++ (i, byte) ∷ []) pairs rest) is.1 was))
    | inr differ ↦ other_byte before pairs other byte first rest differ.1 was
  ]

  all_apart : (before pairs : List (ℕ × ℕ)) (items : List (ℕ × Item)) → AddedFrom g before pairs items → Apart before pairs items
  all_apart before [] items none = ap (items_of_stream id) none
  all_apart before (pair ∷ pairs) items (first, rest, adds, later, is) =
      subst (Apart before (pair ∷ pairs)) (sym is)
      (one_apart before pairs pair.0 pair.1 first rest adds (all_apart (before ++ pair ∷ []) pairs rest later))

-- ---- its path

no_sync_in_nothing : (at : ℕ) → SyncAt at [] → ⊥
no_sync_in_nothing zero here = absurd cc
no_sync_in_nothing (suc at) here = absurd cc

nothing_path : (image : Image) (s : Sizes) → IsPath image s [] [] end.NoSync
nothing_path image s = (
  [],
  (
    [],
    no_sync,
    inr (no_sync_in_nothing, refl, refl),
    inl (record { resolved = unresolved; after = _; commits = refl; walks = (refl, refl) }, refl, refl),
  ),
)

module _ (image : Image) (t : ℕ → Sizes) (are : (id : ℕ) → AreSettings (t id)) (id : ℕ) where
  abbrev IsPathHere : List ℕ → List Item → End → Type 0
  IsPathHere bytes items last = IsPath image (t id) bytes items last

  -- what bytes add behind others makes the path of all
  path_goes_on : (before bytes : List ℕ) (front more : List Item) (last : End) → IsPathHere before front last
      → StreamAdded (by_sizes (counted image) t) id before bytes more → (next : End) × IsPathHere (before ++ bytes) (front ++ more) next
  path_goes_on before [] front more last was none = (
    last,
    subst (λ (l : List Item). IsPathHere (before ++ []) l last) (sym (append-nil front) ∙ ap (λ (l : List Item). front ++ l) (sym none))
        (subst (λ (b : List ℕ). IsPathHere b front last) (sym (append-nil before)) was),
  )
  path_goes_on before (b ∷ bytes) front more last was (first, rest, grows, later, is) =
      let same = one_path image (t id) (are id) before grows.items front grows.last last grows.was was in
      let now = subst (λ (l : List Item). IsPathHere (before ++ b ∷ []) (l ++ first) grows.next) same.0 grows.is in
      let behind = path_goes_on (before ++ b ∷ []) bytes (front ++ first) rest grows.next now later in (
        behind.0,
        subst (λ (l : List Item). IsPathHere (before ++ b ∷ bytes) l behind.0)
            (append_assoc front first rest ∙ ap (λ (l : List Item). front ++ l) (sym is))
            (subst (λ (l : List ℕ). IsPathHere l ((front ++ first) ++ rest) behind.0) (append_assoc before (b ∷ []) bytes) behind.1),
      )

pub each_stream_is_counted : EachStreamIsCounted
each_stream_is_counted image t are pairs items added id source =
    path_goes_on image t are id [] (of id pairs) [] (items_of_stream id items) end.NoSync (nothing_path image (t id))
    (all_apart (by_sizes (counted image) t) id (source_is id source) [] pairs items added)
