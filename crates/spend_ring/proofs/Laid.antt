-- What each step of a ring does to the cells does the same to its items.
use Rattle.std.proofs.Common.{◌≡◌, ℕ, zero, suc, ◌+◌, ◌-◌, ◌^◌, ◌<◌, ◌≤◌, inl, inr, List, [], ◌∷◌, ◌++◌, map, length, take}
use Rattle.std.proofs.Common.{drop, set, get_or, replicate, slice_get, Option, Some, None, refl, sym, ap, ◌∙◌}
use Rattle.std.proofs.Common.{subst, arith, length-append, length-set, get_or-set_same, ext_get_or, append-nil}
use Rattle.std.proofs.lemmas.List.{append_assoc, map-append, length-map, length-replicate, replicate-append-replicate, set-append_left}
use Rattle.std.proofs.lemmas.Bool.{cases_lt}
use Rattle.std.proofs.Math.Seq.{set-append_seam, take-append_seam}
use Rattle.spend_ring.specs.Cells.{IsPlace, IsFull, values, filled, turned, items_from, IsLaid}
use Rattle.spend_ring.specs.Ring.{newest}
use Rattle.spend_ring.proofs.Turns.{length-turned, turned-get, turned-set, turned-next}

module _ {X : Type 0} where
  abbrev empty : Option X
  empty = None

  -- ---- the values of cells that are filled
  values-empty : (n : ℕ) → values {X = X} (replicate n None) ≡ []
  values-empty zero = refl
  values-empty (suc n) = values-empty n

  values-first : (items : List X) (n : ℕ) → values (map Some items ++ replicate n None) ≡ items
  values-first [] n = values-empty n
  values-first (x ∷ items) n = ap (λ l. x ∷ l) (values-first items n)

  values-filled : (items : List X) (n : ℕ) → values (filled items n) ≡ items
  unfolding filled
  values-filled items n = values-first items (n - length items)

  get-empty : (n i : ℕ) → get_or (replicate n empty) i None ≡ None
  get-empty zero i = refl
  get-empty (suc n) zero = refl
  get-empty (suc n) (suc i) = get-empty n i

  get-first : (items : List X) (n i : ℕ) → get_or (map Some items ++ replicate n None) i None ≡ slice_get items i
  get-first [] n i = get-empty n i
  get-first (x ∷ items) n zero = refl
  get-first (x ∷ items) n (suc i) = get-first items n i

  get-filled : (items : List X) (n i : ℕ) → get_or (filled items n) i None ≡ slice_get items i
  unfolding filled
  get-filled items n i = get-first items (n - length items) i

  length-filled : (items : List X) (n : ℕ) → length (filled items n) ≡ length items + (n - length items)
  unfolding filled
  length-filled items n = omega (
    arith,
    length-append (map Some items) (replicate (n - length items) empty),
    length-map items Some,
    length-replicate
        (n - length items) empty,
  )

  -- ---- one write to cells that are filled
  filled-gap : (items : List X) (n k : ℕ) → n - length items ≡ suc k → filled items n ≡ map Some items ++ None ∷ replicate k None
  unfolding filled
  filled-gap items n k e = ap (λ j. map Some items ++ replicate j None) e

  filled-last : (items : List X) (x : X) (n k : ℕ) → n - length items ≡ suc k → filled (items ++ x ∷ []) n ≡ map Some items ++ Some x ∷ replicate k None
  unfolding filled
  filled-last items x n k e =
      let fewer : n - length (items ++ x ∷ []) ≡ k = omega (arith, length-append items (x ∷ [])) in
      (λ j. map-append Some items (x ∷ []) j ++ replicate (fewer j) None) ∙ append_assoc (map Some items) (Some x ∷ []) (replicate k None)

  set-last : (items : List X) (n : ℕ) (c d : Option X) (cs : List (Option X)) → set (map Some items ++ c ∷ cs) (length items) d ≡ map Some items ++ d ∷ cs
  set-last items n c d cs = ap (λ k. set (map Some items ++ c ∷ cs) k d) (sym (length-map items Some)) ∙ set-append_seam (map Some items) c cs d

  filled-push : (items : List X) (x : X) (n : ℕ) → length items < n → set (filled items n) (length items) (Some x) ≡ filled (items ++ x ∷ []) n
  filled-push items x n room = let k = n - length items - 1 in let e : n - length items ≡ suc k = omega arith in
      ap (λ l. set l (length items) (Some x)) (filled-gap items n k e) ∙ set-last items n None (Some x) (replicate k None) ∙ sym (filled-last items x n k e)

  filled-pop : (items : List X) (x : X) (n : ℕ) → length items < n → set (filled (items ++ x ∷ []) n) (length items) None ≡ filled items n
  filled-pop items x n room = let k = n - length items - 1 in let e : n - length items ≡ suc k = omega arith in
      ap (λ l. set l (length items) None) (filled-last items x n k e) ∙ set-last items n (Some x) None (replicate k None) ∙ sym (filled-gap items n k e)

  filled-front : (x : X) (items : List X) (n : ℕ) → length items < n → drop 1 (set (filled (x ∷ items) n) 0 None) ++ None ∷ [] ≡ filled items n
  unfolding filled
  filled-front x items n room = let k = n - suc (length items) in let e : k + 1 ≡ n - length items = omega arith in
      append_assoc (map Some items) (replicate k None) (None ∷ [])
      ∙ ap (λ l. map Some items ++ l) (replicate-append-replicate k 1 None ∙ ap (λ j. replicate j None) e)

  map-set : (items : List X) (i : ℕ) (w : X) → set (map Some items) i (Some w) ≡ map Some (set items i w)
  map-set [] i w = refl
  map-set (x ∷ items) zero w = refl
  map-set (x ∷ items) (suc i) w = ap (λ l. Some x ∷ l) (map-set items i w)

  filled-set : (items : List X) (n i : ℕ) (w : X) → i < length items → set (filled items n) i (Some w) ≡ filled (set items i w) n
  unfolding filled
  filled-set items n i w lt =
      set-append_left (map Some items) (replicate (n - length items) None) i (Some w) (omega (arith, length-map items Some))
      ∙ (λ j. map-set items i w j ++ replicate (n - sym (length-set items i w) j) None)

  -- ---- one item, and an end of the items
  get_some : (items : List X) (i : ℕ) → i < length items → (x : X) × (slice_get items i ≡ Some x)
  get_some [] i lt = absurd (omega arith)
  get_some (x ∷ items) zero lt = (x, refl)
  get_some (x ∷ items) (suc i) lt = get_some items i (omega arith)

  get-last : (items : List X) (x : X) (i : ℕ) → i ≡ length items → slice_get (items ++ x ∷ []) i ≡ Some x
  get-last [] x zero e = refl
  get-last [] x (suc i) e = absurd (omega arith)
  get-last (y ∷ items) x zero e = absurd (omega arith)
  get-last (y ∷ items) x (suc i) e = get-last items x i (omega arith)

  pub front_of : (items : List X) → 0 < length items → (x : X) × (rest : List X) × (items ≡ x ∷ rest)
  front_of [] some = absurd (omega arith)
  front_of (x ∷ rest) some = (x, rest, refl)

  pub back_of : (items : List X) → 0 < length items → (rest : List X) × (x : X) × (items ≡ rest ++ x ∷ [])
  back_of [] some = absurd (omega arith)
  back_of (x ∷ []) some = ([], x, refl)
  back_of (x ∷ y ∷ items) some = let on = back_of (y ∷ items) (omega arith) in (x ∷ on.0, on.1, ap (λ l. x ∷ l) on.2)

pub without_last : {X : Type 0} (rest : List X) (x : X) (items : List X) → items ≡ rest ++ x ∷ [] → rest ≡ take (length items - 1) items
without_last rest x items e = let few : length items - 1 ≡ length rest = omega (arith, ap length e, length-append rest (x ∷ [])) in
    sym (ap (take (length items - 1)) e ∙ ap (λ k. take k (rest ++ x ∷ [])) few ∙ take-append_seam rest (x ∷ []))

pub newest-full : {X : Type 0} (items rest : List X) (oldest item : X) (n : ℕ) → items ≡ oldest ∷ rest → length items ≡ n
    → rest ++ item ∷ [] ≡ newest n (items ++ item ∷ [])
newest-full items rest oldest item n e full = let one : length (items ++ item ∷ []) - n ≡ 1 = omega (arith, length-append items (item ∷ [])) in
    sym (ap (λ k. drop k (items ++ item ∷ [])) one ∙ ap (λ l. drop 1 (l ++ item ∷ [])) e)

-- each place is some way after the start
around : (p start n : ℕ) → p < n → start < n → (i : ℕ) × (i < n) × IsPlace start i n p
around p start n lt begins = elim (cases_lt p start) [
  | inl before ↦ (p + n - start, omega arith, (lt, inr (omega arith)))
  | inr after ↦ (p - start, omega arith, (lt, inl (omega arith)))
]

module _ {X : Type 0} (start count n : ℕ) (held : List (Option X)) where
  pub relaid : (items : List X) → length held ≡ n → n < 2 ^ 63 → (0 < n → start < n) → length items ≡ count → turned start held ≡ filled items n → IsLaid
      start count n held × (items_from start held ≡ items)
  unfolding items_from
  relaid items cells small within counted laid =
      let same : items_from start held ≡ items = ap values laid ∙ values-filled items n in
      (record { cells = cells; small = small; start_within = within; counted = ap length same ∙ counted; laid = laid ∙ ap (λ l. filled l n) (sym same) }, same)

-- an item that was in the cell at p is taken out of the items, and Now holds of the rest
pub record Popped {X : Type 0} (items : List X) (held : List (Option X)) (p : ℕ) (joined : List X → X → List X) (Now : List X → Type 0) : Type 0 where
  pub rest : List X
  pub item : X
  pub is : items ≡ joined rest item
  pub was : get_or held p None ≡ Some item
  pub now : Now rest

pub laid-empty : (X : Type 0) (n : ℕ) → n < 2 ^ 63 → IsLaid {X = X} 0 0 n (replicate n None) × (items_from {X = X} 0 (replicate n None) ≡ [])
unfolding turned filled
laid-empty X n small = let none : Option X = None in let all : n ≡ n - 0 = omega arith in relaid 0 0 n (replicate n none) [] (length-replicate n none) small
    (λ some. some) refl (append-nil (replicate n none) ∙ ap (λ k. replicate k none) all)

module _ {X : Type 0} (start count n : ℕ) (held : List (Option X)) (h : IsLaid start count n held) where
  abbrev items : List X
  items = items_from start held

  pub count-within : count ≤ n
  count-within = omega (arith, h.counted, h.cells, length-turned start held, ap length h.laid, length-filled items n)

  pub items-within : length items ≤ n
  items-within = omega (arith, count-within, h.counted)

  placed : (i p : ℕ) → IsPlace start i n p → IsPlace start i (length held) p
  placed i p at = subst (λ k. IsPlace start i k p) (sym h.cells) at

  begins : (i p : ℕ) → IsPlace start i n p → start < length held
  begins i p at = omega (arith, h.cells, h.start_within (omega (arith, at.0)))

  pub item_at : (i p : ℕ) → i < n → IsPlace start i n p → get_or held p None ≡ slice_get items i
  item_at i p lt at =
      sym (turned-get start held i p None (omega (arith, begins i p at)) (omega (arith, h.cells)) (placed i p at)) ∙ ap (λ l. get_or l i None) h.laid
      ∙ get-filled items n i

  pub full_at : (i p : ℕ) → i < count → IsPlace start i n p → IsFull held p
  full_at i p lt at = let within = count-within in let item = get_some items i (omega (arith, h.counted)) in (item.0, item_at i p (omega arith) at ∙ item.1)

  -- a write at the i-th place
  wrote : (i p : ℕ) (c : Option X) → i < n → IsPlace start i n p → turned start (set held p c) ≡ set (filled items n) i c
  wrote i p c lt at = turned-set start held i p c (omega (arith, begins i p at)) (omega (arith, h.cells)) (placed i p at) ∙ ap (λ l. set l i c) h.laid

  as_long : (p : ℕ) (c : Option X) → length (set held p c) ≡ n
  as_long p c = length-set held p c ∙ h.cells

  pub pushed : (p : ℕ) (x : X) → count < n → IsPlace start count n p → IsLaid start (count + 1) n (set held p (Some x)) ×
      (items_from start (set held p (Some x)) ≡ items ++ x ∷ [])
  pushed p x room at = let counted = h.counted in
      relaid start (count + 1) n (set held p (Some x)) (items ++ x ∷ []) (as_long p (Some x)) h.small h.start_within
      (omega (arith, length-append items (x ∷ [])))
      (wrote count p (Some x) room at ∙ ap (λ k. set (filled items n) k (Some x)) (sym counted) ∙ filled-push items x n (omega arith))

  -- the newest item leaves its cell, which lies at p
  pub popped_back : (p : ℕ) → 0 < count → IsPlace start (count - 1) n p → Popped items held p (λ rest x. rest ++ x ∷ [])
      (λ rest. IsLaid start (count - 1) n (set held p None) × (items_from start (set held p None) ≡ rest))
  popped_back p some at =
      let e = back_of items (omega (arith, h.counted)) in let rest = e.0 in let x = e.1 in
      let few : length rest ≡ count - 1 = omega (arith, h.counted, ap length e.2, length-append rest (x ∷ [])) in let within = count-within in
      let taken : set (filled items n) (count - 1) None ≡ filled rest n =
      ap (λ l. set (filled l n) (count - 1) None) e.2 ∙ ap (λ k. set (filled (rest ++ x ∷ []) n) k None) (sym few) ∙ filled-pop rest x n (omega arith) in
      record {
        rest = rest;
        item = x;
        is = e.2;
        was = item_at (count - 1) p (omega arith) at ∙ ap (λ l. slice_get l (count - 1)) e.2 ∙ get-last rest x (count - 1) (sym few);
        now = relaid start (count - 1) n (set held p None) rest (as_long p None) h.small h.start_within few
            (wrote (count - 1) p None (omega arith) at ∙ taken);
      }

  -- the oldest item leaves the start, and the next place is the start
  pub popped_front : (t : ℕ) → 0 < count → IsPlace start 1 n t → Popped items held start (λ rest x. x ∷ rest)
      (λ rest. IsLaid t (count - 1) n (set held start None) × (items_from t (set held start None) ≡ rest))
  popped_front t some at =
      let e = front_of items (omega (arith, h.counted)) in let x = e.0 in let rest = e.1 in
      let few : length rest ≡ count - 1 =
      omega (arith, h.counted, ap length e.2) in let within = count-within in let lt = begins 1 t at in let inside = at.0 in
      let here : IsPlace start 0 n start =
      (omega (arith, h.cells), inl (omega arith)) in let next : IsPlace start 1 (length (set held start None)) t = subst (λ k. IsPlace start 1 k t)
      (sym (as_long start None)) at in
      let taken =
      turned-next start (set held start None) t None (omega (arith, as_long start None, h.cells)) next
      ∙ ap (λ c. drop 1 (turned start (set held start None)) ++ c ∷ []) (get_or-set_same held start None None lt) in
      let left = ap (λ l. drop 1 l ++ None ∷ []) (wrote 0 start None (omega (arith, h.cells)) here ∙ ap (λ l. set (filled l n) 0 None) e.2) in
      record {
        rest = rest;
        item = x;
        is = e.2;
        was = item_at 0 start (omega (arith, h.cells)) here ∙ ap (λ l. slice_get l 0) e.2;
        now = relaid t (count - 1) n (set held start None) rest (as_long start None) h.small (λ _. inside) few
            (taken ∙ left ∙ filled-front x rest n (omega arith));
      }

  pub changed : (i p : ℕ) (w : X) → i < count → IsPlace start i n p → IsLaid start count n (set held p (Some w)) ×
      (items_from start (set held p (Some w)) ≡ set items i w)
  changed i p w lt at = let within = count-within in
      relaid start count n (set held p (Some w)) (set items i w) (as_long p (Some w)) h.small h.start_within (length-set items i w ∙ h.counted)
      (wrote i p (Some w) (omega arith) at ∙ filled-set items n i w (omega (arith, h.counted)))

  pub all_empty : items ≡ [] → held ≡ replicate n None
  all_empty none = ext_get_or None held (replicate n None) (h.cells ∙ sym (length-replicate n empty)) (λ p inside.
      let long = h.cells in let begin = h.start_within (omega arith) in
      let i : (i : ℕ) × (i < n) × IsPlace start i n p = around p start n (omega arith) begin in
      item_at i.0 p i.1 i.2 ∙ ap (λ l. slice_get l i.0) none ∙ sym (get-empty n p))
