-- What is written behind a byte that gives no frame.
use Rattle.std.proofs.Common.{◌≡◌, ℕ, suc, ◌+◌, ◌<◌, slice_index_or, arith, List, [], ◌∷◌, ◌++◌, length, take, refl, sym, ap, ◌∙◌, append-nil}
use Rattle.std.proofs.Math.Seq.{take-suc}
use Rattle.capture_streams.specs.Texts.{Listing}
use Rattle.formatter_frames.proofs.Going.{more_pairs}
use Rattle.formatter_frames.specs.Symbols.{pairs_of}
use Rattle.formatter_frames.specs.Unframed.{begun_frame, id_after_frames, symbols_of_frames, unframed}
use Rattle.path_text.proofs.Wrote.{wrote_nothing}
use Rattle.capture_streams.proofs.Writing.{Gained, Written}
use Rattle.trace_io.specs.State.{IoState}
use Rattle.ring_capture.specs.Rotated.{later_frames}
use Rattle.ring_capture.specs.Laid.{later_grows, later_pairs}

pub none_written : (g : Listing) (before : List (ℕ × ℕ)) (a : IoState) → Written g before [] a a
none_written g before a = record { lines = []; body = refl; wrote = wrote_nothing a }

pub none_gained : (k : ℕ) (g : Listing) (bytes : List ℕ) (byte : ℕ) (a : IoState) → later_frames k (bytes ++ byte ∷ []) ≡ later_frames k bytes ++ []
    → Gained (later_pairs k) g bytes (byte ∷ []) a a
none_gained k g bytes byte a same =
    record {
      pairs = [];
      grows = ap unframed (same ∙ append-nil (later_frames k bytes)) ∙ sym (append-nil (later_pairs k bytes));
      written = none_written g (later_pairs k bytes) a;
    }

pub nothing_gained : (k : ℕ) (g : Listing) (bytes : List ℕ) (a : IoState) → Gained (later_pairs k) g bytes [] a a
nothing_gained k g bytes a =
    record {
      pairs = [];
      grows = ap (later_pairs k) (append-nil bytes) ∙ sym (append-nil (later_pairs k bytes));
      written = none_written g (later_pairs k bytes) a;
    }

-- more bytes only add pairs
pub carried_on : (k : ℕ) (bytes more : List ℕ) → (pairs : List (ℕ × ℕ)) × (later_pairs k (bytes ++ more) ≡ later_pairs k bytes ++ pairs)
carried_on k bytes more =
    let l = later_grows k bytes more in
    let front = later_frames k bytes in
    (pairs_of (id_after_frames front) (symbols_of_frames (begun_frame front ++ l.0)), ap unframed l.1 ∙ more_pairs front l.0)

pub next_byte : (piece : List ℕ) (n : ℕ) → n < length piece → take (n + 1) piece ≡ take n piece ++ slice_index_or piece n 0 ∷ []
next_byte piece n lt = let e : n + 1 ≡ suc n = omega arith in ap (λ k. take k piece) e ∙ take-suc piece n 0 lt
