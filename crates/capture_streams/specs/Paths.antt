-- What is printed of the path of a stream among others.
use Rattle.std.specs.Prelude.{◌≡◌, ℕ, Bool, false, List, Option}
use Rattle.capture_streams.specs.Texts.{Listing, adds_nothing, no_sums}
use Rattle.element_queue.specs.Counting.{no_counts, tally}
use Rattle.element_queue.specs.Resolved.{at_first}
use Rattle.element_queue.specs.declared.ledger.Counts.{Counts}
use Rattle.etm_types.specs.Settings.{Sizes}
use Rattle.etm_types.specs.declared.context.Ctx.{Ctx}
use Rattle.etm_types.specs.declared.element.Elem.{Elem}
use Rattle.etm_types.specs.declared.item.Item.{Item}
use Rattle.packet_grammar.specs.Ends.{is_fault}
use Rattle.packet_grammar.specs.declared.end.End.{End}
use Rattle.path_elements.specs.Path.{IsPath, IsPathTaking, unplaced}
use Rattle.path_text.specs.EndLines.{end_line}
use Rattle.path_text.specs.PathLines.{line_list}
use Rattle.program_image.specs.declared.image.Image.{Image}
use Rattle.stream_decoder.specs.Stands.{Grows, shows_walk_fault}

-- the lines of the items by which the path grows with a byte
abbrev pub PathGains : Image → Sizes → ℕ → List ℕ → ℕ → List (List ℕ) → Type 0
PathGains image s id bytes byte lines =
    (shown : Option Ctx) × (more : List Item) × Grows image s bytes byte shown more × (lines ≡ line_list id shown more)

-- the line of how it ends
abbrev pub PathEnds : Image → Sizes → ℕ → List ℕ → List ℕ → Bool → Type 0
PathEnds image s id bytes line faulty =
    (items : List Item) × (last : End) × IsPath image s bytes items last × (line ≡ end_line id last) × (faulty ≡ is_fault last)

-- the paths of streams over an image, under the sizes of their trace units
abbrev pub paths : Image → Sizes → Listing
paths image s = record { gains = PathGains image s; ends = PathEnds image s; adds = adds_nothing; sums = no_sums }

-- What became of the P0 elements of bytes. All that their path took were made; as long as it met no fault of the walk, those that
-- its elements committed, cancelled and lost are counted as such.
abbrev pub PathTallies : Image → Sizes → List ℕ → Counts → Type 0
PathTallies image s bytes c =
    (items : List Item) (last : End) (took : List (ℕ × Elem)) → IsPathTaking image s bytes items last took
    → (c.made ≡ (tally s.depth at_first no_counts (unplaced took)).made)
    × (shows_walk_fault last ≡ false → c ≡ tally s.depth at_first no_counts (unplaced took))
