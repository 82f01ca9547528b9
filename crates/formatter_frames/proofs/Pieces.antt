-- A list cut into pieces, and what joins it at its end.
use Rattle.std.proofs.Common.{◌≡◌, ℕ, zero, suc, ◌+◌, ◌*◌, ◌/◌, ◌%◌, ◌<◌, ◌≤◌, List, [], ◌∷◌}
use Rattle.std.proofs.Common.{◌++◌, length, take, drop, refl, ap, sym, ◌∙◌, arith, length-append, length-drop, zero-add, zero-mul}
use Rattle.std.proofs.lemmas.List.{take-append-le, drop-append-le, drop-drop}
use Rattle.std.proofs.lemmas.Nat.{div-add-mod'}
use Rattle.std.proofs.Math.Nat.{mul-add-div_right, div-mul-le_self, div_self}
use Rattle.std.proofs.Math.Seq.{take-length}
use Rattle.std.proofs.Math.ListN.{drop_of_length-le}
use Rattle.formatter_frames.specs.Pieces.{pieces, whole_pieces, left_over}

-- pieces that are there stay when more comes
pieces-append : {A : Type 0} (size count : ℕ) (xs ys : List A) → count * size ≤ length xs → pieces size count (xs ++ ys) ≡ pieces size count xs
pieces-append size zero xs ys long = refl
pieces-append size (suc count) xs ys long =
    let one : size ≤ length xs = grind arith in
    let rest : count * size ≤ length (drop size xs) = grind (arith, length-drop size xs) in
    rw (take-append-le size xs ys one, drop-append-le size xs ys one) (ap (λ ps. take size xs ∷ ps) (pieces-append size count (drop size xs) ys rest))

pieces-add : {A : Type 0} (size m n : ℕ) (xs : List A) → pieces size (m + n) xs ≡ pieces size m xs ++ pieces size n (drop (m * size) xs)
pieces-add size zero n xs = rw (zero-add, zero-mul) refl
pieces-add size (suc m) n xs =
    let e : suc m + n ≡ suc (m + n) = omega arith in
    let further : size + m * size ≡ suc m * size = grind arith in
    rw e (ap (λ ps. take size xs ∷ ps) (pieces-add size m n (drop size xs)
    ∙ ap (λ ys. pieces size m (drop size xs) ++ pieces size n ys) (drop-drop (m * size) size xs ∙ ap (λ k. drop k xs) further)))

-- how many pieces there are then
count_more : (size long more : ℕ) → 0 < size → (long + more) / size ≡ long / size + (long % size + more) / size
count_more size long more some =
    let e : long + more ≡ long / size * size + (long % size + more) = omega (arith, div-add-mod' long size) in
    ap (λ n. n / size) e ∙ mul-add-div_right some (long / size) (long % size + more)

pub length-left_over : {A : Type 0} (size : ℕ) (xs : List A) → length (left_over size xs) ≡ length xs % size
length-left_over size xs = omega (arith, length-drop (length xs / size * size) xs, div-add-mod' (length xs) size)

-- how many pieces there are in all
count_all : {A : Type 0} (size : ℕ) (xs ys : List A) → 0 < size → length (xs ++ ys) / size ≡ length xs / size + length (left_over size xs ++ ys) / size
count_all size xs ys some = rw (length-append xs ys, length-append (left_over size xs) ys, length-left_over size xs)
    (count_more size (length xs) (length ys) some)

within : {A : Type 0} (size : ℕ) (xs : List A) → length xs / size * size ≤ length xs
within size xs = div-mul-le_self (length xs) size

pub whole_pieces-append : {A : Type 0} (size : ℕ) (xs ys : List A) → 0 < size
    → whole_pieces size (xs ++ ys) ≡ whole_pieces size xs ++ whole_pieces size (left_over size xs ++ ys)
whole_pieces-append size xs ys some =
    let q = length xs / size in
    let j = length (left_over size xs ++ ys) / size in
    ap (λ n. pieces size n (xs ++ ys)) (count_all size xs ys some)
    ∙ pieces-add size q j (xs ++ ys)
    ∙ ap (λ ps. ps ++ pieces size j (drop (q * size) (xs ++ ys))) (pieces-append size q xs ys (within size xs))
    ∙ ap (λ zs. pieces size q xs ++ pieces size j zs) (drop-append-le (q * size) xs ys (within size xs))

pub left_over-append : {A : Type 0} (size : ℕ) (xs ys : List A) → 0 < size → left_over size (xs ++ ys) ≡ left_over size (left_over size xs ++ ys)
left_over-append size xs ys some =
    let q = length xs / size in
    let j = length (left_over size xs ++ ys) / size in
    let further : (q + j) * size ≡ q * size + j * size = grind arith in
    ap (λ n. drop (n * size) (xs ++ ys)) (count_all size xs ys some)
    ∙ ap (λ n. drop n (xs ++ ys)) further
    ∙ sym (drop-drop (j * size) (q * size) (xs ++ ys))
    ∙ ap (drop (j * size)) (drop-append-le (q * size) xs ys (within size xs))

-- less than a piece, and one piece
pub few_whole : {A : Type 0} (size : ℕ) (xs : List A) → length xs < size → whole_pieces size xs ≡ []
few_whole size xs few = let none : length xs / size ≡ 0 = grind arith in rw none

pub few_left : {A : Type 0} (size : ℕ) (xs : List A) → length xs < size → left_over size xs ≡ xs
few_left size xs few = let none : length xs / size ≡ 0 = grind arith in rw (none, zero-mul)

pub one_whole : {A : Type 0} (size : ℕ) (xs : List A) → 0 < size → length xs ≡ size → whole_pieces size xs ≡ xs ∷ []
one_whole size xs some one =
    let count : length xs / size ≡ 1 = ap (λ n. n / size) one ∙ div_self some in
    rw count (ap (λ ys. ys ∷ []) (ap (λ n. take n xs) (sym one) ∙ take-length xs))

pub one_left : {A : Type 0} (size : ℕ) (xs : List A) → 0 < size → length xs ≡ size → left_over size xs ≡ []
one_left size xs some one =
    let count : length xs / size ≡ 1 = ap (λ n. n / size) one ∙ div_self some in
    let all : length xs ≤ 1 * size = omega arith in
    rw count (drop_of_length-le xs all)
