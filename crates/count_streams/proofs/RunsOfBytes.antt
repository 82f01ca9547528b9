-- What bytes of a stream add that were taken one after the other.
use Rattle.std.proofs.Common.{ℕ, List, [], ◌∷◌, ◌++◌, refl}
use Rattle.capture_streams.specs.Texts.{StreamAdded, StreamBody}
use Rattle.etm_types.specs.Settings.{Sizes}
use Rattle.etm_types.specs.declared.item.Item.{Item}
use Rattle.program_image.specs.declared.image.Image.{Image}
use Rattle.stream_decoder.specs.Follows.{GrowsByEach}
use Rattle.count_streams.specs.Counted.{counted}

module _ (image : Image) (s : Sizes) (id : ℕ) where
  -- no line
  pub no_lines : (before run : List ℕ) → StreamBody (counted image s) id before run []
  no_lines before [] = refl
  no_lines before (b ∷ run) = ([], [], refl, no_lines (before ++ b ∷ []) run, refl)

  -- the items by which the path grows
  pub items_added : (before run : List ℕ) (items : List Item) → GrowsByEach image s before run items → StreamAdded (counted image s) id before run items
  items_added before [] items none = none
  items_added before (b ∷ run) items (first, rest, grows, later, is) = (first, rest, grows, items_added (before ++ b ∷ []) run rest later, is)
