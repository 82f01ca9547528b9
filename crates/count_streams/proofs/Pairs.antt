-- The pairs that items of one stream add behind those of all.
use Rattle.std.proofs.Common.{◌≡◌, ◌≢◌, ℕ, List, [], ◌∷◌, ◌++◌, length, get_or, Option, Some, None, refl}
use Rattle.std.proofs.Common.{sym, ap, subst, ◌∙◌, append-nil, append_assoc, inl, inr, arith}
use Rattle.std.proofs.Math.ListN.{set}
use Rattle.std.proofs.lemmas.Bool.{cases_eq}
use Rattle.std.proofs.lemmas.List.{get_or-set_other, get_or-set_same}
use Rattle.etm_types.specs.Id.{IsId}
use Rattle.etm_types.specs.declared.item.Item.{Item}
use Rattle.path_counts.specs.Targets.{Targeting, targets_of}
use Rattle.program_image.specs.declared.image.Image.{Image}
use Rattle.stream_decoder.specs.Follows.{TakesMore, items_under}
use Rattle.count_streams.proofs.EachStream.{of_none, of_own, of_stream-append}
use Rattle.count_streams.specs.Pairs.{BranchesAre, Branching, entered_by, first_entered, items_of_stream, left_after, left_by}
use Rattle.count_streams.specs.Pairs.{left_under, own_pairs, pair_by, pairs_behind, pairs_of}

-- ---- the branch that the last item of a stream is

module _ (image : Image) where
  pub left-append : (left : Option ℕ) (xs ys : List Item) → left_after image left (xs ++ ys) ≡ left_after image (left_after image left xs) ys
  left-append left [] ys = refl
  left-append left (x ∷ xs) ys = left-append (left_by image x) xs ys

  left_same : (id : ℕ) (before : List (ℕ × Item)) (items : List Item)
      → left_under image id (before ++ items_under id items) ≡ left_after image (left_under image id before) items
  left_same id before items =
      ap (left_after image None) (of_stream-append id before (items_under id items) ∙ ap (λ (l : List Item). items_of_stream id before ++ l) (of_own id items))
      ∙ left-append None (items_of_stream id before) items

  left_other : (id other : ℕ) → id ≢ other → (before : List (ℕ × Item)) (items : List Item)
      → left_under image other (before ++ items_under id items) ≡ left_under image other before
  left_other id other differs before items =
      ap (left_after image None) (of_stream-append other before (items_under id items)
      ∙ ap (λ (l : List Item). items_of_stream other before ++ l) (of_none other id items differs) ∙ append-nil (items_of_stream other before))

  -- ---- pairs

  pairs-append : (before xs ys : List (ℕ × Item)) → pairs_behind image before (xs ++ ys) ≡ pairs_behind image before xs ++ pairs_behind image (before ++ xs) ys
  pairs-append before [] ys = ap (λ (b : List (ℕ × Item)). pairs_behind image b ys) (sym (append-nil before))
  pairs-append before (x ∷ xs) ys =
      let first = pair_by (left_under image x.0 before) (entered_by x.1) in
      ap (λ (l : List (ℕ × ℕ)). first ++ l)
      (pairs-append (before ++ x ∷ []) xs ys
      ∙ ap (λ (b : List (ℕ × Item)). pairs_behind image (before ++ x ∷ []) xs ++ pairs_behind image b ys) (append_assoc before (x ∷ []) xs))
      ∙ sym (append_assoc first (pairs_behind image (before ++ x ∷ []) xs) (pairs_behind image (before ++ x ∷ xs) ys))

  pairs_same : (id : ℕ) (before : List (ℕ × Item)) (items : List Item)
      → pairs_behind image before (items_under id items) ≡ own_pairs image (left_under image id before) items
  pairs_same id before [] = refl
  pairs_same id before (i ∷ items) =
      ap (λ (l : List (ℕ × ℕ)). pair_by (left_under image id before) (entered_by i) ++ l)
      (pairs_same id (before ++ (id, i) ∷ []) items ∙ ap (λ (left : Option ℕ). own_pairs image left items) (left_same id before (i ∷ [])))

  pub no_pair : (left : Option ℕ) → pair_by left None ≡ []
  no_pair None = refl
  no_pair (Some from) = refl

  -- where nothing is left within them, there is one pair at most
  pub first_pair : (left : Option ℕ) (items : List Item) → own_pairs image None items ≡ [] → own_pairs image left items ≡ pair_by left (first_entered items)
  first_pair left [] calm = sym (no_pair left)
  first_pair left (i ∷ items) calm =
      ap (λ (l : List (ℕ × ℕ)). pair_by left (entered_by i) ++ l) calm ∙ append-nil (pair_by left (entered_by i))

  -- ---- what is kept of them

  takes_pairs : (id : ℕ) → IsId id → (old new : Branching) (items : List Item) → length old.left ≡ 112
      → ((pairs : List (ℕ × ℕ)) → old.targets ≡ targets_of pairs
      → new.targets ≡ targets_of (pairs ++ own_pairs image (get_or old.left id None) items))
      → new.left ≡ set old.left id (left_after image (get_or old.left id None) items)
      → TakesMore (BranchesAre image) old new (items_under id items)
  takes_pairs id is old new items size adds leaves before was =
      let left = get_or old.left id None in let same : left ≡ left_under image id before = was.left id is in
      let pairs : pairs_behind image before (items_under id items) ≡ own_pairs image left items =
      pairs_same id before items ∙ ap (λ (l : Option ℕ). own_pairs image l items) (sym same) in
      record {
        targets = adds (pairs_of image before) was.targets
            ∙ ap targets_of (ap (λ (l : List (ℕ × ℕ)). pairs_of image before ++ l) (sym pairs) ∙ sym (pairs-append [] before (items_under id items)));
        left = λ other within.
            ap (λ (l : List (Option ℕ)). get_or l other None) leaves
            ∙ elim (cases_eq other id) [
              | inl here ↦ ap (λ (n : ℕ). get_or (set old.left id (left_after image left items)) n None) here
                  ∙ get_or-set_same old.left id (left_after image left items) None (omega (arith, size, is.1))
                  ∙ ap (λ (l : Option ℕ). left_after image l items) same ∙ sym (left_same id before items)
                  ∙ ap (λ (n : ℕ). left_under image n (before ++ items_under id items)) (sym here)
              | inr there ↦ get_or-set_other old.left id other (left_after image left items) None there ∙ was.left other within
                  ∙ sym (left_other id other (λ e. there (sym e)) before items)
            ];
      }

  -- the same at a place that is the ID
  pub takes_all_at : (id place : ℕ) → IsId id → place ≡ id → (old : Branching) (targets : Targeting) (left : Option ℕ) (items : List Item)
      → length old.left ≡ 112
      → ((pairs : List (ℕ × ℕ)) → old.targets ≡ targets_of pairs
      → targets ≡ targets_of (pairs ++ own_pairs image (get_or old.left place None) items))
      → left ≡ left_after image (get_or old.left place None) items
      → TakesMore (BranchesAre image) old (record { targets = targets; left = set old.left place left }) (items_under id items)
  takes_all_at id place is same old targets left items size adds leaves =
      subst (λ (p : ℕ). TakesMore (BranchesAre image) old (record { targets = targets; left = set old.left p left }) (items_under id items)) (sym same)
      (takes_pairs id is old (record { targets = targets; left = set old.left id left }) items size
      (λ pairs was.
      subst (λ (p : ℕ). targets ≡ targets_of (pairs ++ own_pairs image (get_or old.left p None) items)) same (adds pairs was))
      (ap (set old.left id) (leaves ∙ ap (λ (p : ℕ). left_after image (get_or old.left p None) items) same)))

  -- where nothing is left within them
  pub takes_at : (id place : ℕ) → IsId id → place ≡ id → (old : Branching) (targets : Targeting) (left : Option ℕ) (items : List Item)
      → length old.left ≡ 112 → own_pairs image None items ≡ []
      → ((pairs : List (ℕ × ℕ)) → old.targets ≡ targets_of pairs
      → targets ≡ targets_of (pairs ++ pair_by (get_or old.left place None) (first_entered items)))
      → left ≡ left_after image (get_or old.left place None) items
      → TakesMore (BranchesAre image) old (record { targets = targets; left = set old.left place left }) (items_under id items)
  takes_at id place is same old targets left items size calm adds leaves =
      takes_all_at id place is same old targets left items size
      (λ pairs was.
      adds pairs was
      ∙ ap targets_of (ap (λ (l : List (ℕ × ℕ)). pairs ++ l) (sym (first_pair (get_or old.left place None) items calm)))) leaves

  pub takes_mark : (id place : ℕ) → IsId id → place ≡ id → (old : Branching) (i : Item) → length old.left ≡ 112 → entered_by i ≡ None
      → left_by image i ≡ None
      → TakesMore (BranchesAre image) old (record { targets = old.targets; left = set old.left place None }) (items_under id (i ∷ []))
  takes_mark id place is same old i size nowhere nothing =
      let left = get_or old.left place None in
      takes_at id place is same old old.targets None (i ∷ []) size refl
      (λ pairs was.
      was
      ∙ ap targets_of (sym (append-nil pairs) ∙ ap (λ (l : List (ℕ × ℕ)). pairs ++ l) (sym (no_pair left) ∙ ap (pair_by left) (sym nowhere))))
      (sym nothing)
