-- What follows paths takes of them, and at which bytes a stream stands whose path is followed.
use Rattle.std.specs.Prelude.{◌≡◌, ℕ, ◌+◌, ◌<◌, List, [], ◌∷◌, ◌++◌, length, map, ⊤}
use Rattle.etm_types.specs.Settings.{Sizes}
use Rattle.etm_types.specs.declared.item.Item.{Item}
use Rattle.packet_grammar.specs.declared.end.End.{End}
use Rattle.path_elements.specs.Path.{IsPath}
use Rattle.path_walker.specs.Walk.{ShowsWords}
use Rattle.program_image.specs.declared.image.Image.{Image}
use Rattle.stream_decoder.specs.Decoding.{Decoding}
use Rattle.stream_decoder.specs.Stands.{Came}
use Rattle.stream_decoder.specs.Yields.{Goes}
use Rattle.stream_decoder.specs.declared.found.Found.{Found}
use Rattle.stream_decoder.specs.declared.found.Found.TheVariants as found

-- items of a stream
abbrev pub items_under : ℕ → List Item → List (ℕ × Item)
items_under id items = map (λ (i : Item). (id, i)) items

-- what took some items, each with the ID of its stream, has then taken these behind them
abbrev pub TakesMore : {F : Type 0} → (F → List (ℕ × Item) → Type 0) → F → F → List (ℕ × Item) → Type 0
TakesMore took old new more = (items : List (ℕ × Item)) → took old items → took new (items ++ more)

-- the instructions of what was found are words of the image
abbrev pub FindsWords : Image → Found → Type 0
FindsWords image (found.Walked walked) = ShowsWords image walked
FindsWords image found.Gap = ⊤
FindsWords image found.Stop = ⊤

-- some of what is left to do of a stream is done, without a fault, and the items that it showed were taken
pub record Follows {F : Type 0} (Takes : F → List Item → F → Type 0) (image : Image) (d d' : Decoding) (old new : F) : Type 0 where
  pub items : List Item
  pub goes : Goes image d items d'
  pub takes : Takes old items new

-- the decoding took these bytes
abbrev pub CameTo : Image → Decoding → List ℕ → Type 0
CameTo image d bytes = (items : List Item) × Came image d bytes items

-- with a byte more, the path has these items more
pub record GrowsBy (image : Image) (s : Sizes) (bytes : List ℕ) (byte : ℕ) (more : List Item) : Type 0 where
  pub items : List Item
  pub last : End
  pub next : End
  pub was : IsPath image s bytes items last
  pub is : IsPath image s (bytes ++ byte ∷ []) (items ++ more) next

-- with these bytes more, one after the other, the path has these items more
abbrev pub GrowsByEach : Image → Sizes → List ℕ → List ℕ → List Item → Type 0
GrowsByEach image s bytes [] more = more ≡ []
GrowsByEach image s bytes (byte ∷ run) more =
    (first : List Item) × (rest : List Item) × GrowsBy image s bytes byte first × GrowsByEach image s (bytes ++ byte ∷ []) run rest
    × (more ≡ first ++ rest)

-- bytes were taken, at whatever bytes the stream stood before, and the items by which its path grew were taken
pub record FollowsRun {F : Type 0} (Takes : F → List Item → F → Type 0) (image : Image) (d : Decoding) (run : List ℕ) (d' : Decoding) (old new : F)
    : Type 0 where
  pub more : List Item
  pub came : (bytes : List ℕ) (items : List Item) → Came image d bytes items → Came image d' (bytes ++ run) (items ++ more)
  pub takes : Takes old more new
  pub settings : (d'.reader).settings ≡ (d.reader).settings
  pub offset : (d'.reader).offset ≡ (d.reader).offset + length run

-- bytes at the front of others were, at least one, and the others stand behind them
pub record FollowsFront {F : Type 0} (Takes : F → List Item → F → Type 0) (image : Image) (d : Decoding) (bytes behind : List ℕ) (d' : Decoding)
    (old new : F) : Type 0 where
  pub text : List ℕ
  pub parts : bytes ≡ text ++ behind
  pub some : 0 < length text
  pub follows : FollowsRun Takes image d text d' old new
