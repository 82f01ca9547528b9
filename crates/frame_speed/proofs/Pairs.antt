-- The digest of pairs, one after another.
use Rattle.std.proofs.Common.{◌≡◌, ◌∷◌, ◌++◌, ◌∙◌, ◌+◌, ℕ, List, [], Some, ap, refl, slice_get, take}
use Rattle.std.proofs.lemmas.List.{take_more}
use Rattle.std.proofs.lemmas.Option.{get_or_from_slice_get, slice_get_within}
use Rattle.frame_speed.specs.Sum.{digest_of_pairs, digest_with}

one_behind : (digest : ℕ) (pairs : List (ℕ × ℕ)) (pair : ℕ × ℕ)
    → digest_of_pairs digest (pairs ++ pair ∷ []) ≡ digest_with (digest_with (digest_of_pairs digest pairs) pair.0) pair.1
one_behind digest [] pair = refl
one_behind digest (first ∷ pairs) pair = one_behind (digest_with (digest_with digest first.0) first.1) pairs pair

pub one_more : (digest : ℕ) (pairs : List (ℕ × ℕ)) (i : ℕ) (pair : ℕ × ℕ) → slice_get pairs i ≡ Some pair
    → digest_of_pairs digest (take (i + 1) pairs) ≡ digest_with (digest_with (digest_of_pairs digest (take i pairs)) pair.0) pair.1
one_more digest pairs i pair at =
    ap (digest_of_pairs digest) (take_more pairs i pair (slice_get_within pairs i pair at)
    ∙ ap (λ (last : ℕ × ℕ). take i pairs ++ last ∷ []) (get_or_from_slice_get pairs i pair pair at))
    ∙ one_behind digest (take i pairs) pair
