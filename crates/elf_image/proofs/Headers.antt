-- Program headers one behind the other.
use Rattle.std.proofs.Common.{◌≡◌, ℕ, zero, suc, ◌+◌, ◌-◌, ◌*◌, ◌<◌, List, [], ◌∷◌, ◌++◌, length, refl, ap, ◌∙◌, arith}
use Rattle.elf_image.specs.Fields.{headers_from, program_header}
use Rattle.elf_image.specs.declared.header.ProgramHeader.{ProgramHeader}

-- so many, and those behind them
pub headers_split : (file : List ℕ) (at j k : ℕ) → headers_from file at (j + k) ≡ headers_from file at j ++ headers_from file (at + 56 * j) k
headers_split file at zero k =
    let n : 0 + k ≡ k = omega arith in
    let start : at ≡ at + 56 * 0 = omega arith in
    ap (λ (m : ℕ). headers_from file at m) n ∙ ap (λ (a : ℕ). headers_from file a k) start
headers_split file at (suc j) k =
    let n : suc j + k ≡ suc (j + k) = omega arith in
    let start : at + 56 + 56 * j ≡ at + 56 * suc j = omega arith in
    ap (λ (m : ℕ). headers_from file at m) n
    ∙ ap (λ (hs : List ProgramHeader). program_header file at ∷ hs)
    (headers_split file (at + 56) j k ∙ ap (λ (a : ℕ). headers_from file (at + 56) j ++ headers_from file a k) start)

-- one more
pub headers_more : (file : List ℕ) (at k : ℕ) → headers_from file at (k + 1) ≡ headers_from file at k ++ program_header file (at + 56 * k) ∷ []
headers_more file at k = headers_split file at k 1

-- those before one, it, and those behind it
pub headers_around : (file : List ℕ) (at k n : ℕ) → k < n
    → headers_from file at n ≡ headers_from file at k ++ program_header file (at + 56 * k) ∷ headers_from file (at + 56 * k + 56) (n - k - 1)
headers_around file at k n within =
    let count : n ≡ k + suc (n - k - 1) = omega (arith, within) in
    ap (λ (m : ℕ). headers_from file at m) count ∙ headers_split file at k (suc (n - k - 1))

pub length_headers : (file : List ℕ) (at k : ℕ) → length (headers_from file at k) ≡ k
length_headers file at zero = refl
length_headers file at (suc k) = ap suc (length_headers file (at + 56) k)
