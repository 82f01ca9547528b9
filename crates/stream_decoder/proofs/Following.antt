-- What a follower was given of a decoding.
use Rattle.std.proofs.Common.{List, [], ◌++◌, subst, append-nil}
use Rattle.etm_types.specs.declared.item.Item.{Item}
use Rattle.program_image.specs.declared.image.Image.{Image}
use Rattle.stream_decoder.proofs.Yielding.{goes_nowhere, goes_on, goes_to_end}
use Rattle.stream_decoder.specs.Decoding.{Decoding}
use Rattle.stream_decoder.specs.Follows.{Follows}
use Rattle.stream_decoder.specs.Yields.{Ends}

module _ {F : Type 0} (Takes : F → List Item → F → Type 0) (none : (f : F) → Takes f [] f)
    (joins : (a b c : F) (xs ys : List Item) → Takes a xs b → Takes b ys c → Takes a (xs ++ ys) c) where
  module _ (image : Image) where
    pub follows_first : (d : Decoding) (f : F) → Follows Takes image d d f f
    follows_first d f = record { items = []; goes = goes_nowhere image d; takes = none f }

    pub follows_on : (d m d' : Decoding) (old mid new : F) → Follows Takes image d m old mid → Follows Takes image m d' mid new
        → Follows Takes image d d' old new
    follows_on d m d' old mid new a b = record {
      items = a.items ++ b.items;
      goes = goes_on image d m d' a.items b.items a.goes b.goes;
      takes = joins old mid new a.items b.items a.takes b.takes;
    }

    abbrev pub FollowsAll : Decoding → Decoding → F → F → Type 0
    FollowsAll d d' old new = (items : List Item) × Ends image d items d' × Takes old items new

    pub follows_all : (d m d' : Decoding) (old new : F) → Follows Takes image d m old new → Ends image m [] d' → FollowsAll d d' old new
    follows_all d m d' old new f ends =
        (f.items, subst (λ (l : List Item). Ends image d l d') (append-nil f.items) (goes_to_end image d m d' f.items [] f.goes ends), f.takes)
