-- Bytes of a trace port that are taken, and the bytes of frames among them.
use Rattle.std.proofs.Common.{◌≡◌, ℕ, ◌<◌, List, [], ◌∷◌, ◌++◌, length, take, slice_index_or, Result, refl, sym, ap, subst, ◌∙◌, arith}
use Rattle.capture_streams.specs.Demuxed.{Gains}
use Rattle.capture_streams.specs.Laid.{Rests}
use Rattle.capture_streams.specs.Streams.{Adds}
use Rattle.capture_streams.specs.Texts.{Listing}
use Rattle.formatter_frames.specs.Unframed.{unframed}
use Rattle.sync_frames.specs.Laid.{synced_laid, synced_pairs}
use Rattle.sync_frames.specs.Syncs.{unsynced}
use Rattle.sync_frames.specs.Unsyncing.{StandsAt, Unsyncing}
use Rattle.sync_frames.proofs.Standing.{held_back, none_taken}
use Rattle.trace_io.specs.State.{IoState}

-- the lines of the bytes of frames that are given are those of the bytes that are taken
pub gains_of : {T E : Type 0} (g : Listing) (u v : Unsyncing) (bytes part given new : List ℕ) (a b : IoState) (r : Result T E) → StandsAt u bytes given
    → StandsAt v (bytes ++ part) (given ++ new) → Gains unframed g given new a b r → Gains synced_pairs g bytes part a b r
gains_of g u v bytes part given new a b r before after gains =
    let same = held_back u bytes given before in
    record {
      pairs = gains.pairs;
      grows = held_back v (bytes ++ part) (given ++ new) after ∙ gains.grows ∙ ap (λ l. l ++ gains.pairs) (sym same);
      adds = subst (λ l. Adds g l gains.pairs a b r) (sym same) gains.adds;
    }

-- and so are those of the bytes that were held back
pub rests_of : {T E : Type 0} (g : Listing) (u : Unsyncing) (bytes given rest : List ℕ) (a b : IoState) (r : Result T E) → StandsAt u bytes given
    → unsynced bytes ≡ given ++ rest → Gains unframed g given rest a b r → Rests synced_laid g bytes a b r
rests_of g u bytes given rest a b r before all gains =
    let same = held_back u bytes given before in
    record {
      pairs = gains.pairs;
      all = ap unframed all ∙ gains.grows ∙ ap (λ l. l ++ gains.pairs) (sym same);
      adds = subst (λ l. Adds g l gains.pairs a b r) (sym same) gains.adds;
    }

pub one_front : (piece : List ℕ) → 0 < length piece → take 1 piece ≡ slice_index_or piece 0 0 ∷ []
one_front [] some = absurd (omega (arith, some))
one_front (byte ∷ piece) some = refl

-- a byte is taken, since no run begins there
pub byte_stands : (u v : Unsyncing) (bytes given piece few slice : List ℕ) (run : ℕ) → run ≡ 0 → 0 < length piece
    → StandsAt u (bytes ++ take run piece) (given ++ take run piece)
    → (StandsAt u bytes given → StandsAt v (bytes ++ slice_index_or piece 0 0 ∷ []) (given ++ few)) → slice ≡ few
    → StandsAt v (bytes ++ take 1 piece) (given ++ slice)
byte_stands u v bytes given piece few slice run none some before goes same =
    let there = none_taken u bytes given piece (subst (λ n. StandsAt u (bytes ++ take n piece) (given ++ take n piece)) none before) in
    subst (λ l. StandsAt v (bytes ++ l) (given ++ slice)) (sym (one_front piece some))
    (subst (λ l. StandsAt v (bytes ++ slice_index_or piece 0 0 ∷ []) (given ++ l)) (sym same) (goes there))
