-- Bytes of a piece join the frame that was begun.
use Rattle.std.proofs.Common.{◌≡◌, ℕ, ◌+◌, ◌-◌, ◌<◌, ◌≤◌, List, [], ◌++◌, length, take, drop, ap, sym, ◌∙◌, arith, length-append, append-nil, append_assoc}
use Rattle.std.specs.Prelude.{Option}
use Rattle.std.proofs.Math.ListN.{drop_of_length-le}
use Rattle.std.proofs.lemmas.List.{length-drop, length-take-le, take_at}
use Rattle.formatter_frames.specs.Symbols.{pairs_of, id_after}
use Rattle.formatter_frames.specs.Frame.{symbols_in}
use Rattle.formatter_frames.specs.Unframed.{unframed, id_after_frames, begun_frame}
use Rattle.formatter_frames.specs.Reader.{Reading, StandsAt}
use Rattle.formatter_frames.proofs.Going.{begun_pairs, begun_id, begun_left, frame_pairs, frame_id, frame_left}
use borrow.Rule.Slice.PartMut.{put_mid}

-- what a frame is once more bytes were copied to it, behind so many
abbrev pub with_more : ℕ → ℕ → List ℕ → List ℕ → List ℕ
with_more filled n frame more = put_mid filled (filled + n - filled) frame more

-- a reader with so many bytes of a frame takes more of them
module _ (frame copied more : List ℕ) (filled n : ℕ) (current : Option ℕ) (reader : Reading) (bytes : List ℕ)
    (is : record { begun = take filled frame; current = current } ≡ reader) (long : length frame ≡ 16) (at : StandsAt reader bytes)
    (same : copied ≡ more) (size : length more ≡ n) (room : filled + n ≤ 16)
  where
    front : length (take filled frame ++ more) ≡ filled + n
    front = omega (arith, size, length-append (take filled frame) more, length-take-le filled frame (omega (arith, long, room)))

    joined : take (filled + n) (with_more filled n frame copied) ≡ begun_frame bytes ++ more
    joined =
        ap (λ xs. take (filled + n) (with_more filled n frame xs)) same
        ∙ ap (take (filled + n)) (sym (append_assoc (take filled frame) more (drop (filled + n - filled) (drop filled frame))))
        ∙ take_at (take filled frame ++ more) _ _ front
        ∙ ap (λ xs. xs ++ more) (ap (λ r. r.begun) is ∙ at.begun)

    count : length (begun_frame bytes ++ more) ≡ filled + n
    count = sym (ap (λ xs. length (xs ++ more)) (ap (λ r. r.begun) is ∙ at.begun)) ∙ front

    holds : current ≡ id_after_frames bytes
    holds = ap (λ r. r.current) is ∙ at.current

    module _ (few : filled + n < 16) where
      below : length (begun_frame bytes ++ more) < 16
      below = omega (arith, count, few)

      pub stands_begun : StandsAt (record { begun = take (filled + n) (with_more filled n frame copied); current = current }) (bytes ++ more)
      stands_begun = record {
        begun = joined ∙ sym (begun_left bytes more below);
        current = holds ∙ sym (begun_id bytes more below);
      }

      pub gains_none : unframed (bytes ++ more) ≡ unframed bytes ++ []
      gains_none = begun_pairs bytes more below ∙ sym (append-nil (unframed bytes))

    module _ (full : 16 ≤ filled + n) where
      sixteen : length (begun_frame bytes ++ more) ≡ 16
      sixteen = omega (arith, count, full, room)

      whole : with_more filled n frame copied ≡ begun_frame bytes ++ more
      whole =
          let none : drop (filled + n - filled) (drop filled frame) ≡ [] =
          drop_of_length-le (drop filled frame) (omega (arith, length-drop filled frame, long, full)) in
          ap (with_more filled n frame) same ∙ ap (λ xs. take filled frame ++ (more ++ xs)) none ∙ ap (λ xs. take filled frame ++ xs) (append-nil more)
          ∙ ap (λ xs. xs ++ more) (ap (λ r. r.begun) is ∙ at.begun)

      pub stands_full : (after : Option ℕ) → after ≡ id_after current (symbols_in (with_more filled n frame copied))
          → StandsAt (record { begun = []; current = after }) (bytes ++ more)
      stands_full after is = record {
        begun = sym (frame_left bytes more sixteen);
        current = is ∙ ap (λ id. id_after id (symbols_in (with_more filled n frame copied))) holds
            ∙ ap (λ xs. id_after (id_after_frames bytes) (symbols_in xs)) whole ∙ sym (frame_id bytes more sixteen);
      }

      pub gains_frame : (pairs : List (ℕ × ℕ)) → pairs ≡ pairs_of current (symbols_in (with_more filled n frame copied)) → unframed (bytes ++ more) ≡ unframed bytes ++ pairs
      gains_frame pairs are =
          frame_pairs bytes more sixteen
          ∙ ap (λ xs. unframed bytes ++ pairs_of (id_after_frames bytes) (symbols_in xs)) (sym whole)
          ∙ ap (λ id. unframed bytes ++ pairs_of id (symbols_in (with_more filled n frame copied))) (sym holds)
          ∙ ap (λ xs. unframed bytes ++ xs) (sym are)
