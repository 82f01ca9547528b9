-- Counts over an image have a number for each of its words.
use Rattle.std.proofs.Common.{◌≡◌, List, length, ap, ◌∙◌}
use Rattle.etm_types.specs.declared.item.Item.{Item}
use Rattle.path_counts.proofs.Counted.{length_counts}
use Rattle.path_counts.specs.Counts.{Counting, counts_of, is_at}
use Rattle.program_image.proofs.WordPlaces.{length_addresses}
use Rattle.program_image.specs.Part.{IsImage, Part}
use Rattle.program_image.specs.Places.{word_addresses, word_count}

pub counts_fit : (image : List Part) (c : Counting) (items : List Item) → IsImage image → c ≡ counts_of image items → length c.visits ≡ word_count image
counts_fit image c items parts is =
    ap (λ (k : Counting). length k.visits) is ∙ length_counts is_at (word_addresses image) items ∙ length_addresses image parts.parts
