-- What is read of frames, and how lines are counted, on lists that are written out.
use Rattle.std.proofs.Common.{◌≡◌, [], ◌∷◌, ◌++◌, Some, None, refl}
use Rattle.std.specs.Prelude.{codes}
use Rattle.traced_runs.specs.Selftest.{kept_of, line_feeds, piece_of}

pub front_kept : kept_of (Some 2) (7 ∷ 8 ∷ 9 ∷ []) ≡ 7 ∷ 8 ∷ []
front_kept = refl

pub all_kept : kept_of (Some 4) (7 ∷ 8 ∷ 9 ∷ []) ≡ 7 ∷ 8 ∷ 9 ∷ []
all_kept = refl

pub not_cut : kept_of None (7 ∷ 8 ∷ 9 ∷ []) ≡ 7 ∷ 8 ∷ 9 ∷ []
not_cut = refl

pub two_feeds : line_feeds (codes "01 on" ++ (10 ∷ codes "01 1000") ++ 10 ∷ []) ≡ 2
two_feeds = refl

-- 9, 11 and 0 are none
pub no_other_feeds : line_feeds (9 ∷ 10 ∷ 11 ∷ 10 ∷ 0 ∷ []) ≡ 2
no_other_feeds = refl

-- 1 to 1000 bytes are read at a time, and a thousand numbers on as many again
pub one_at_once : piece_of 0 ≡ 1
one_at_once = refl

pub most_at_once : piece_of 999 ≡ 1000
most_at_once = refl

pub one_again : piece_of 1000 ≡ 1
one_again = refl
