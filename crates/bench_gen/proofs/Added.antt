-- What loops over numbers have added, one number on.
use Rattle.std.proofs.Common.{◌≡◌, ℕ, suc, zero, ◌+◌, List, [], ◌∷◌, ◌++◌, refl, ap, sym, ◌∙◌, append-nil, append_assoc, add-one, add-zero, arith}
use Rattle.std.proofs.lemmas.List.Concat.{flat_map-append}
use Rattle.std.specs.Fn.{iterate}
use Rattle.std.specs.List.{flat_map, range_with_len}
use Rattle.bench_gen.specs.Texts.{text}

one_more : {A : Type 0} (f : ℕ → List A) (a k : ℕ) → flat_map f (range_with_len a (suc k)) ≡ flat_map f (range_with_len a k) ++ f (a + k)
one_more f a zero = append-nil (f a) ∙ ap f (sym (add-zero a))
one_more f a (suc k) =
    let next : a + 1 + k ≡ a + suc k = omega arith in
    ap (λ l. f a ++ l) (one_more f (a + 1) k ∙ ap (λ i. flat_map f (range_with_len (a + 1) k) ++ f i) next)
    ∙ sym (append_assoc (f a) (flat_map f (range_with_len (a + 1) k)) (f (a + suc k)))

-- the bytes so far, and those of one number more
pub added : (f : ℕ → List ℕ) (old now new : List ℕ) (a k i n : ℕ) → i ≡ a + k → n ≡ k + 1
    → now ≡ old ++ flat_map f (range_with_len a k) → new ≡ now ++ f i → new ≡ old ++ flat_map f (range_with_len a n)
added f old now new a k i n at count before is =
    rw (is, before, at, count, add-one, one_more f a k) (append_assoc old (flat_map f (range_with_len a k)) (f (a + k)))

-- the lines so far, and those of one number more
pub added_lines : (f : ℕ → List (List ℕ)) (old now new : List ℕ) (a k i n : ℕ) → i ≡ a + k → n ≡ k + 1
    → now ≡ old ++ text (flat_map f (range_with_len a k)) → new ≡ now ++ text (f i) → new ≡ old ++ text (flat_map f (range_with_len a n))
added_lines f old now new a k i n at count before is =
    let lines_before = flat_map f (range_with_len a k) in
    let joined = flat_map-append (λ (line : List ℕ). line ++ 10 ∷ []) lines_before (f (a + k)) in
    rw (is, before, at, count, add-one, one_more f a k, joined) (append_assoc old (text lines_before) (text (f (a + k))))

pub iterate_more : {A : Type 0} (h : A → A) (n : ℕ) (x : A) → iterate h (n + 1) x ≡ h (iterate h n x)
iterate_more h zero x = refl
iterate_more h (suc n) x = rw add-one (rw add-one at (iterate_more h n (h x)))
