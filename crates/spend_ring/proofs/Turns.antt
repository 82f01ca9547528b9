-- A list that is read from a place on, round its end: what stands there, what a write changes, and the next place.
use Rattle.std.proofs.Common.{◌≡◌, ℕ, suc, ◌-◌, ◌<◌, ◌≤◌, inl, inr, List, [], ◌∷◌, ◌++◌, length}
use Rattle.std.proofs.Common.{take, drop, set, get_or, sym, ap, ◌∙◌, arith, length-append, length-take, length-drop, get_or-take, get_or-drop, append-nil}
use Rattle.std.proofs.lemmas.List.{append_assoc, take-append-drop, drop-set-lt, drop-set-add}
use Rattle.std.proofs.lemmas.List.{take-set-le, set-append_left, set-append_right, get_or_append_left, get_or-append_right}
use Rattle.std.proofs.Math.Seq.{take-set-lt, drop-cons, take-suc, drop-length}
use Rattle.spend_ring.specs.Cells.{IsPlace, turned}

module _ {X : Type 0} (start : ℕ) (xs : List X) where
  pub length-turned : length (turned start xs) ≡ length xs
  unfolding turned
  length-turned = omega (arith, length-append (drop start xs) (take start xs), length-drop start xs, length-take start xs)

  -- what stands i after the start
  pub turned-get : (i p : ℕ) (d : X) → start ≤ length xs → i < length xs → IsPlace start i (length xs) p → get_or (turned start xs) i d ≡ get_or xs p d
  unfolding turned
  turned-get i p d within below at = let back = drop start xs in let front = take start xs in let long = length-drop start xs in let inside = at.0 in elim
      at.1 [
        | inl e ↦ get_or_append_left back front d i (omega arith) ∙ get_or-drop start xs i d ∙ ap (λ k. get_or xs k d) (sym e)
        | inr e ↦ let left : i - (length xs - start) ≡ p = omega arith in
            get_or-append_right back front (length xs - start) i d long (omega arith) ∙ get_or-take start xs (i - (length xs - start)) d (omega arith)
            ∙ ap (λ k. get_or xs k d) left
      ]

  -- to write at a place is to write there in the list as it is read
  pub turned-set : (i p : ℕ) (x : X) → start ≤ length xs → i < length xs → IsPlace start i (length xs) p → turned start (set xs p x) ≡ set (turned start xs) i
      x
  unfolding turned
  turned-set i p x within below at = let back = drop start xs in let front = take start xs in let long = length-drop start xs in let inside = at.0 in elim
      at.1 [
        | inl e ↦ let kept = take-set-le start xs p x (omega arith) in let wrote : drop start (set xs p x) ≡ set back i x = ap (λ k. drop start (set xs k x)) e
            ∙ drop-set-add start xs i x in
            (λ j. wrote j ++ kept j) ∙ sym (set-append_left back front i x (omega arith))
        | inr e ↦ let left : i - (length xs - start) ≡ p = omega arith in
            let kept =
            drop-set-lt start xs p x (omega arith) in let wrote : take start (set xs p x) ≡ set front (i - (length xs - start)) x = take-set-lt start xs p x
            (omega arith) ∙ ap (λ k. set front k x) (sym left) in
            (λ j. kept j ++ wrote j) ∙ sym (set-append_right back front (length xs - start) i x long (omega arith))
      ]

  -- from the next place on, the first comes last
  pub turned-next : (t : ℕ) (d : X) → start < length xs → IsPlace start 1 (length xs) t → turned t xs ≡ drop 1 (turned start xs) ++ get_or xs start d ∷ []
  unfolding turned
  turned-next t d within at =
      let x = get_or xs start d in let front = take start xs in let on = drop (suc start) xs in
      let opened : drop 1 (drop start xs ++ front) ++ x ∷ [] ≡ on ++ (front ++ x ∷ []) =
      ap (λ l. drop 1 (l ++ front) ++ x ∷ []) (drop-cons xs start d within) ∙ append_assoc on front (x ∷ []) in
      let closed : take (suc start) xs ≡ front ++ x ∷ [] = take-suc xs start d within in
      elim at.1 [
        | inl e ↦ let same : t ≡ suc start = omega arith in ap (λ k. drop k xs ++ take k xs) same ∙ ap (λ l. on ++ l) closed ∙ sym opened
        | inr e ↦ let none : t ≡ 0 = omega (arith, at.0) in let all : length xs ≡ suc start = omega (arith, at.0) in
            let nothing : on ≡ [] = ap (λ k. drop k xs) (sym all) ∙ drop-length xs in
            let whole : take (suc start) xs ≡ xs =
            sym (append-nil (take (suc start) xs)) ∙ ap (λ l. take (suc start) xs ++ l) (sym nothing) ∙ take-append-drop (suc start) xs in
            ap (λ k. drop k xs ++ take k xs) none ∙ append-nil xs ∙ sym whole ∙ closed ∙ ap (λ l. l ++ (front ++ x ∷ [])) (sym nothing) ∙ sym opened
      ]
