-- The items of the stretch of an atom.
use Rattle.std.proofs.Common.{◌≡◌, ℕ, zero, suc, ◌<◌, Bool, List, [], ◌++◌, Some, append-nil, arith, refl}
use Rattle.std.proofs.lemmas.Option.{slice_get_within}
use Rattle.etm_types.specs.Walked.{instructions, items_of}
use Rattle.etm_types.specs.declared.context.Ctx.{Ctx}
use Rattle.etm_types.specs.declared.item.Item.{Item}
use Rattle.path_walker.specs.Walk.{IsStretchOfWords, walked_in}
use Rattle.path_walker.specs.declared.stretch.Stretch.{Stretch}
use Rattle.program_image.proofs.WordPlaces.{length_addresses}
use Rattle.program_image.specs.Part.{IsImage}
use Rattle.program_image.specs.Places.{word_addresses, word_count}
use Rattle.program_image.specs.declared.image.Image.{Image}
use Rattle.count_streams.specs.Pairs.{first_entered}

abbrev pub shown : Ctx → Stretch → List Item
shown ctx s = items_of (walked_in ctx s)

pub stretch_items : (ctx : Ctx) (s : Stretch) → shown ctx s ≡ instructions ctx s.start s.count s.took
stretch_items ctx s = append-nil (instructions ctx s.start s.count s.took)

entered : (ctx : Ctx) (start count : ℕ) (took : Bool) → 0 < count → first_entered (instructions ctx start count took ++ []) ≡ Some start
entered ctx start zero took some = absurd (omega (arith, some))
entered ctx start (suc n) took some = refl

pub entered_first : (ctx : Ctx) (s : Stretch) → 0 < s.count → first_entered (shown ctx s) ≡ Some s.start
entered_first ctx s some = entered ctx s.start s.count s.took some

-- its place is one of those of the words
pub place_within : (image : Image) (s : Stretch) → IsImage image → IsStretchOfWords image s → s.place < word_count image
place_within image s is words =
    let within = slice_get_within (word_addresses image) _ _ words.1.place in let count = length_addresses image is.parts in
    omega (arith, within, count)
