-- How the layouts of an input begin.
use Rattle.std.proofs.Common.{◌≡◌, ℕ, ◌*◌, false, List, [], length, Result, Ok, Err, ap, ◌∙◌, arith}
use Rattle.std.specs.Prelude.{IfOk}
use Rattle.std.proofs.lemmas.List.{drop_all, take_all}
use Rattle.etm_types.specs.Settings.{Sizes}
use Rattle.formatter_frames.specs.Unframed.{begun_frame}
use Rattle.capture_streams.specs.Demuxed.{Demuxed}
use Rattle.capture_streams.specs.Texts.{Listing}
use Rattle.etm_types.specs.declared.item.Item.{Item}
use Rattle.sync_frames.specs.Synchronised.{IsAfter, Synchronised}
use Rattle.ring_capture.specs.Laid.{later_none}
use Rattle.ring_capture.specs.Unwrapping.{Unwrapping}
use Rattle.ring_capture.specs.Wrapped.{HaveTaken, offset_of}

-- where nothing was taken of a buffer that was written round, nothing is kept
pub fresh_wrapped : {X Y : Type 0} (stands : X → List ℕ → Type 0) (sizes : X → Sizes) (sums : Y → List (ℕ × Item) → Type 0) (g : Sizes → Listing)
    (t : ℕ → Sizes) (u : Unwrapping) (d : Demuxed X Y) → HaveTaken stands sizes sums g t u d [] → (d.broken ≡ false) × (offset_of u d ≡ 0)
fresh_wrapped stands sizes sums g t u d taken =
    let kept = taken.unwrap.kept ∙ take_all (16 * u.frames) [] (omega arith) in
    let begun = taken.unwrap.begun ∙ ap begun_frame (drop_all (16 * u.frames) [] (omega arith)) in
    let came = taken.demux.offset ∙ ap length (later_none u.frames) in
    (taken.demux.whole, omega (arith, ap length kept, ap length begun, came))

-- what is so of each value that was made is so of the one that was
pub of_made : {X E : Type 0} (P Q : X → Type 0) (made : Result X E) → IfOk made P → ((x : X) → P x → Q x) → IfOk made Q
of_made P Q (Ok x) is so = so x is
of_made P Q (Err e) is so = tt

-- a printer of a trace port that took nothing
pub fresh_synced : {X Y : Type 0} (stands : X → List ℕ → Type 0) (sizes : X → Sizes) (sums : Y → List (ℕ × Item) → Type 0) (g : Sizes → Listing)
    (t : ℕ → Sizes) (s : Synchronised X Y) → IsAfter stands sizes sums g t s []
    → (s.demux.broken ≡ false) × (s.offset ≡ 0)
fresh_synced stands sizes sums g t s is = (is.0.demux.whole, is.1)

-- and what two properties give of it
pub by_both : {X E : Type 0} (P Q R : X → Type 0) (made : Result X E) → IfOk made P → IfOk made Q → ((x : X) → P x → Q x → R x) → IfOk made R
by_both P Q R (Ok x) is also so = so x is also
by_both P Q R (Err e) is also so = tt
