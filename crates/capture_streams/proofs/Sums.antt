-- What the bytes of streams add to a sum, one after the other.
use Rattle.std.proofs.Common.{◌≡◌, ℕ, Bool, true, false, None, List, [], ◌∷◌, ◌++◌, map, refl, sym, ap, subst, ◌∙◌, append-nil, append_assoc}
use Rattle.std.specs.Prelude.{Result}
use Rattle.std.specs.List.{concat}
use Rattle.std.proofs.lemmas.List.{map-append}
use Rattle.capture_streams.specs.Streams.{SumAdds, SumStands}
use Rattle.etm_types.specs.Id.{IsId}
use Rattle.etm_types.specs.Settings.{Sizes}
use Rattle.etm_types.specs.declared.item.Item.{Item}
use Rattle.formatter_frames.specs.Symbols.{run_of}
use Rattle.stream_decoder.specs.Follows.{items_under}
use Rattle.capture_streams.specs.Texts.{AddedFrom, AddsIf, IsSum, Listing, Printed, StreamAdded, by_sizes, is_source, of, sum_lines, text_of}
use Rattle.path_text.specs.Writing.{Writes}
use Rattle.trace_io.specs.State.{IoState}
use Rattle.capture_streams.proofs.Bodies.{of_run}
use Rattle.capture_streams.proofs.Standing.{is_one}

-- ---- items

under-append : (id : ℕ) (xs ys : List Item) → items_under id (xs ++ ys) ≡ items_under id xs ++ items_under id ys
under-append id xs ys = map-append (λ (i : Item). (id, i)) xs ys

stream_added-append : (g : Listing) (id : ℕ) (before xs ys : List ℕ) (items more : List Item) → StreamAdded g id before xs items
    → StreamAdded g id (before ++ xs) ys more → StreamAdded g id before (xs ++ ys) (items ++ more)
stream_added-append g id before [] ys items more none added =
    subst (λ (l : List Item). StreamAdded g id before ys (l ++ more)) (sym none)
    (subst (λ b. StreamAdded g id b ys more) (append-nil before) added)
stream_added-append g id before (x ∷ xs) ys items more (first, rest, adds, later, is) added = (
  first,
  rest ++ more,
  adds,
  stream_added-append g id (before ++ x ∷ []) xs ys rest more later
      (subst (λ b. StreamAdded g id b ys more) (sym (append_assoc before (x ∷ []) xs)) added),
  ap (λ (l : List Item). l ++ more) is ∙ append_assoc first rest more,
)

pub added-append : (g : Listing) (before xs ys : List (ℕ × ℕ)) (items more : List (ℕ × Item)) → AddedFrom g before xs items
    → AddedFrom g (before ++ xs) ys more → AddedFrom g before (xs ++ ys) (items ++ more)
added-append g before [] ys items more none added =
    subst (λ (l : List (ℕ × Item)). AddedFrom g before ys (l ++ more)) (sym none)
    (subst (λ b. AddedFrom g b ys more) (append-nil before) added)
added-append g before (x ∷ xs) ys items more (first, rest, adds, later, is) added = (
  first,
  rest ++ more,
  adds,
  added-append g (before ++ x ∷ []) xs ys rest more later
      (subst (λ b. AddedFrom g b ys more) (sym (append_assoc before (x ∷ []) xs)) added),
  ap (λ (l : List (ℕ × Item)). l ++ more) is ∙ append_assoc (items_under x.0 first) rest more,
)

-- the items of bytes of a source
run_added : (g : Listing) (id : ℕ) → IsId id → (pairs : List (ℕ × ℕ)) (before run : List ℕ) (items : List Item) → of id pairs ≡ before
    → StreamAdded g id before run items → AddedFrom g pairs (run_of id run) (items_under id items)
run_added g id is pairs before [] items same none = ap (items_under id) none
run_added g id is pairs before (b ∷ run) items same (first, rest, adds, later, all) = (
  first,
  items_under id rest,
  subst (λ (t : Bool). AddsIf t g pairs (id, b) first) (sym (is_one id is)) (subst (λ (l : List ℕ). g.adds id l b first) (sym same) adds),
  run_added g id is (pairs ++ (id, b) ∷ []) (before ++ b ∷ []) run rest (of_run id (b ∷ []) pairs ∙ ap (λ (l : List ℕ). l ++ b ∷ []) same) later,
  ap (items_under id) all ∙ under-append id first rest,
)

-- and of no source
none_added : (g : Listing) (id : ℕ) → is_source id ≡ false → (pairs : List (ℕ × ℕ)) (run : List ℕ) → AddedFrom g pairs (run_of id run) []
none_added g id none pairs [] = refl
none_added g id none pairs (b ∷ run) =
    ([], [], subst (λ (t : Bool). AddsIf t g pairs (id, b) []) (sym none) refl, none_added g id none (pairs ++ (id, b) ∷ []) run, refl)

added_by : (g : Sizes → Listing) (t : ℕ → Sizes) (id : ℕ) (before bytes : List ℕ) (items : List Item) → StreamAdded (g (t id)) id before bytes items
    → StreamAdded (by_sizes g t) id before bytes items
added_by g t id before [] items none = none
added_by g t id before (b ∷ bytes) items (first, rest, adds, later, is) = (first, rest, adds, added_by g t id (before ++ b ∷ []) bytes rest later, is)

-- ---- the sum of all streams

module _ {Y : Type 0} (sums : Y → List (ℕ × Item) → Type 0) (g : Sizes → Listing) (t : ℕ → Sizes) where
  pub nothing_stands : (sum : Y) → sums sum [] → SumStands sums (by_sizes g t) sum []
  nothing_stands sum has = ([], refl, has)

  pub source_sums : (s : Sizes) (id given : ℕ) (pairs : List (ℕ × ℕ)) (run : List ℕ) (old new : Y) → IsId id → given ≡ id → s ≡ t id
      → SumAdds sums (g s) given (of id pairs) run old new → SumStands sums (by_sizes g t) old pairs
      → SumStands sums (by_sizes g t) new (pairs ++ run_of id run)
  source_sums s id given pairs run old new is named same adds (items, added, has) =
      let (more, gained, takes) : SumAdds sums (g (t id)) id (of id pairs) run old new =
      subst (λ (u : Sizes). SumAdds sums (g u) id (of id pairs) run old new) same
      (subst (λ (i : ℕ). SumAdds sums (g s) i (of id pairs) run old new) named adds) in (
        items ++ items_under id more,
        added-append (by_sizes g t) [] pairs (run_of id run) items (items_under id more) added
            (run_added (by_sizes g t) id is pairs (of id pairs) run more refl (added_by g t id (of id pairs) run more gained)),
        takes items has,
      )

  pub no_source_sums : (id : ℕ) (pairs : List (ℕ × ℕ)) (run : List ℕ) (sum : Y) → is_source id ≡ false → SumStands sums (by_sizes g t) sum pairs
      → SumStands sums (by_sizes g t) sum (pairs ++ run_of id run)
  no_source_sums id pairs run sum none (items, added, has) = (
    items ++ [],
    added-append (by_sizes g t) [] pairs (run_of id run) items [] added (none_added (by_sizes g t) id none pairs run),
    subst (sums sum) (sym (append-nil items)) has,
  )

-- ---- its lines

none_text : (lines : List (List ℕ)) → text_of (map (λ (line : List ℕ). record { id = None; line = line }) lines) ≡ concat lines
none_text [] = refl
none_text (line ∷ lines) = ap (λ (rest : List ℕ). line ++ rest) (none_text lines)

-- what was written of a sum that stands at these pairs
pub sum_written : {Y T E : Type 0} (sums : Y → List (ℕ × Item) → Type 0) (g : Sizes → Listing) (t : ℕ → Sizes) (sum : Y) (pairs : List (ℕ × ℕ))
    (a b : IoState) (result : Result T E) → SumStands sums (by_sizes g t) sum pairs
    → ((s : Sizes) (items : List (ℕ × Item)) → sums sum items → Writes a b result (concat ((g s).sums items)))
    → (lines : List Printed) × IsSum (by_sizes g t) pairs lines × Writes a b result (text_of lines)
sum_written sums g t sum pairs a b result (items, added, has) writes = (
  sum_lines (by_sizes g t) items,
  (items, added, refl),
  subst (Writes a b result) (sym (none_text ((g (t 0)).sums items))) (writes (t 0) items has),
)

-- ---- where nothing is summed

module _ (g : Listing) (nothing : (id : ℕ) (before : List ℕ) (byte : ℕ) → g.adds id before byte []) where
  adds_none : (source : Bool) (before : List (ℕ × ℕ)) (pair : ℕ × ℕ) → AddsIf source g before pair []
  adds_none true before pair = nothing pair.0 (of pair.0 before) pair.1
  adds_none false before pair = refl

  pub no_items : (before pairs : List (ℕ × ℕ)) → AddedFrom g before pairs []
  no_items before [] = refl
  no_items before (pair ∷ pairs) = ([], [], adds_none (is_source pair.0) before pair, no_items (before ++ pair ∷ []) pairs, refl)

  pub no_stream_items : (id : ℕ) (before run : List ℕ) → StreamAdded g id before run []
  no_stream_items id before [] = refl
  no_stream_items id before (b ∷ run) = ([], [], nothing id before b, no_stream_items id (before ++ b ∷ []) run, refl)

  pub no_sum : g.sums [] ≡ [] → (pairs : List (ℕ × ℕ)) → IsSum g pairs []
  no_sum none pairs = ([], no_items [] pairs, ap (map (λ (line : List ℕ). record { id = None; line = line })) (sym none))
