-- Unframing goes on from frame to frame.
use Rattle.std.proofs.Common.{◌≡◌, ℕ, ◌<◌, List, [], ◌++◌, length, ap, ◌∙◌, lit<, append-nil}
use Rattle.std.specs.Prelude.{None, flat_map}
use Rattle.std.proofs.lemmas.List.Concat.{flat_map-append}
use Rattle.formatter_frames.specs.Symbols.{pairs_of, id_after}
use Rattle.formatter_frames.specs.Frame.{symbols_in}
use Rattle.formatter_frames.specs.Pieces.{whole_pieces, left_over}
use Rattle.formatter_frames.specs.Unframed.{symbols_of_frames, unframed, id_after_frames}
use Rattle.formatter_frames.proofs.Symbols.{pairs_of-append, id_after-append}
use Rattle.formatter_frames.proofs.Pieces.{whole_pieces-append, left_over-append, few_whole, few_left, one_whole, one_left}

module _ (bytes more : List ℕ) where
  symbols_more : symbols_of_frames (bytes ++ more) ≡ symbols_of_frames bytes ++ symbols_of_frames (left_over 16 bytes ++ more)
  symbols_more = ap (flat_map symbols_in) (whole_pieces-append 16 bytes more (lit< tt))
      ∙ flat_map-append symbols_in (whole_pieces 16 bytes) (whole_pieces 16 (left_over 16 bytes ++ more))

  pub more_pairs : unframed (bytes ++ more) ≡ unframed bytes ++ pairs_of (id_after_frames bytes) (symbols_of_frames (left_over 16 bytes ++ more))
  more_pairs = ap (pairs_of None) symbols_more ∙ pairs_of-append None (symbols_of_frames bytes) (symbols_of_frames (left_over 16 bytes ++ more))

  module _ (few : length (left_over 16 bytes ++ more) < 16) where
    same_symbols : symbols_of_frames (bytes ++ more) ≡ symbols_of_frames bytes
    same_symbols = symbols_more ∙ ap (λ ps. symbols_of_frames bytes ++ flat_map symbols_in ps) (few_whole 16 (left_over 16 bytes ++ more) few)
        ∙ append-nil (symbols_of_frames bytes)

    pub begun_pairs : unframed (bytes ++ more) ≡ unframed bytes
    begun_pairs = ap (pairs_of None) same_symbols

    pub begun_id : id_after_frames (bytes ++ more) ≡ id_after_frames bytes
    begun_id = ap (id_after None) same_symbols

    pub begun_left : left_over 16 (bytes ++ more) ≡ left_over 16 bytes ++ more
    begun_left = left_over-append 16 bytes more (lit< tt) ∙ few_left 16 (left_over 16 bytes ++ more) few

  module _ (full : length (left_over 16 bytes ++ more) ≡ 16) where
    frame_symbols : symbols_of_frames (bytes ++ more) ≡ symbols_of_frames bytes ++ symbols_in (left_over 16 bytes ++ more)
    frame_symbols = symbols_more ∙ ap (λ ps. symbols_of_frames bytes ++ flat_map symbols_in ps) (one_whole 16 (left_over 16 bytes ++ more) (lit< tt) full)
        ∙ ap (λ xs. symbols_of_frames bytes ++ xs) (append-nil (symbols_in (left_over 16 bytes ++ more)))

    pub frame_pairs : unframed (bytes ++ more) ≡ unframed bytes ++ pairs_of (id_after_frames bytes) (symbols_in (left_over 16 bytes ++ more))
    frame_pairs = ap (pairs_of None) frame_symbols ∙ pairs_of-append None (symbols_of_frames bytes) (symbols_in (left_over 16 bytes ++ more))

    pub frame_id : id_after_frames (bytes ++ more) ≡ id_after (id_after_frames bytes) (symbols_in (left_over 16 bytes ++ more))
    frame_id = ap (id_after None) frame_symbols ∙ id_after-append None (symbols_of_frames bytes) (symbols_in (left_over 16 bytes ++ more))

    pub frame_left : left_over 16 (bytes ++ more) ≡ []
    frame_left = left_over-append 16 bytes more (lit< tt) ∙ one_left 16 (left_over 16 bytes ++ more) (lit< tt) full
