-- Where the branches to a register of the paths of streams went: pairs of the address of such a branch and of the one at which its stream
-- goes on.
use Rattle.std.specs.Prelude.{◌≡◌, ℕ, ◌==◌, if◌then◌else◌, false, List, [], ◌∷◌, ◌++◌, get_or, Option, Some, None}
use Rattle.std.specs.Option.{option_map_or}
use Rattle.etm_types.specs.Id.{IsId}
use Rattle.etm_types.specs.declared.item.Item.{Item}
use Rattle.etm_types.specs.declared.item.Item.TheVariants as item
use Rattle.path_counts.specs.Targets.{Targeting, is_pointer_branch, targets_of}
use Rattle.program_image.specs.Part.{word_of}
use Rattle.program_image.specs.declared.image.Image.{Image}

-- ---- one stream

-- the address, where the word there is such a branch
abbrev pub branch_at : Image → ℕ → Option ℕ
branch_at image address = if option_map_or is_pointer_branch (word_of image address) false then Some address else None

-- the address of the branch that an item is
abbrev pub left_by : Image → Item → Option ℕ
left_by image (item.Instr address ctx took) = branch_at image address
left_by image _ = None

-- the address at which an item goes on: that of an instruction, or the preferred return address of an exception
abbrev pub entered_by : Item → Option ℕ
entered_by (item.Instr address ctx took) = Some address
entered_by (item.Exc kind ret) = Some ret
entered_by _ = None

-- the address of the branch that the last of some items is; where there is no item, what was left before
abbrev pub left_after : Image → Option ℕ → List Item → Option ℕ
left_after image left [] = left
left_after image left (i ∷ items) = left_after image (left_by image i) items

-- the address at which items go on
abbrev pub first_entered : List Item → Option ℕ
first_entered [] = None
first_entered (i ∷ items) = entered_by i

abbrev pub pair_by : Option ℕ → Option ℕ → List (ℕ × ℕ)
pair_by (Some from) (Some to) = (from, to) ∷ []
pair_by _ _ = []

-- the pairs of items of one stream, of which this was left before
abbrev pub own_pairs : Image → Option ℕ → List Item → List (ℕ × ℕ)
own_pairs image left [] = []
own_pairs image left (i ∷ items) = pair_by left (entered_by i) ++ own_pairs image (left_by image i) items

-- ---- many streams

-- the items of one stream among those of all, in order
abbrev pub items_of_stream : ℕ → List (ℕ × Item) → List Item
items_of_stream id [] = []
items_of_stream id (x ∷ items) = if x.0 == id then x.1 ∷ items_of_stream id items else items_of_stream id items

-- the address of the branch that the last item of a stream is
abbrev pub left_under : Image → ℕ → List (ℕ × Item) → Option ℕ
left_under image id items = left_after image None (items_of_stream id items)

-- the pairs that items add behind others, in the order in which they came: one where the last item of the same stream is a branch
abbrev pub pairs_behind : Image → List (ℕ × Item) → List (ℕ × Item) → List (ℕ × ℕ)
pairs_behind image before [] = []
pairs_behind image before (x ∷ items) =
    pair_by (left_under image x.0 before) (entered_by x.1) ++ pairs_behind image (before ++ x ∷ []) items

abbrev pub pairs_of : Image → List (ℕ × Item) → List (ℕ × ℕ)
pairs_of image items = pairs_behind image [] items

-- ---- what is kept of them

-- how often each pair came, and by the ID of each stream the address of the branch that its last item is
pub record Branching : Type 0 where
  pub targets : Targeting
  pub left : List (Option ℕ)

-- these are those of some items
pub record BranchesAre (image : Image) (b : Branching) (items : List (ℕ × Item)) : Type 0 where
  pub targets : b.targets ≡ targets_of (pairs_of image items)
  pub left : (id : ℕ) → IsId id → get_or b.left id None ≡ left_under image id items
