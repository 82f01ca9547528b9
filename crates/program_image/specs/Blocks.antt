-- The words from an address on, up to the first that is traced (Arm IHI 0064, "P0 elements").
use Rattle.std.specs.Prelude.{◌≡◌, ℕ, ◌+◌, ◌*◌, ◌%◌, ◌^◌, ◌<◌, List, Option, Some, None}
use Rattle.std.specs.Option.{option_map}
use Rattle.a64_branches.specs.Classes.{class_of}
use Rattle.a64_branches.specs.declared.class.Class.{Class}
use Rattle.a64_branches.specs.declared.class.Class.TheVariants.{Plain, Odd}
use Rattle.program_image.specs.Part.{Part, word_of}
use Rattle.program_image.specs.declared.block.Block.{Block}
use Rattle.program_image.specs.declared.block.BlockEnd.{BlockEnd}
use Rattle.program_image.specs.declared.block.BlockEnd.TheVariants as block_end

-- the class of the word at an address, where one begins there
abbrev pub class_at : List Part → ℕ → Option Class
class_at image address = option_map class_of (word_of image address)

-- the address of the n-th word after an address; addresses are 64 bits
abbrev pub behind : ℕ → ℕ → ℕ
behind address n = (address + 4 * n) % 2 ^ 64

-- the n words from an address on are plain
abbrev pub IsPlainRun : List Part → ℕ → ℕ → Type 0
IsPlainRun image address n = (k : ℕ) → k < n → class_at image (behind address k) ≡ Some Plain

-- what stands at an address, by the class of the word there
abbrev pub EndsAs : Option Class → ℕ → BlockEnd → Type 0
EndsAs None address end = end ≡ block_end.NoCode address
EndsAs (Some Odd) address end = end ≡ block_end.Odd address
EndsAs (Some Plain) address end = ⊥
EndsAs (Some class) address end = end ≡ block_end.P0 address class

-- the plain words from an address on, and what stands after them
pub record IsBlock (image : List Part) (address : ℕ) (block : Block) : Type 0 where
  pub plain : IsPlainRun image address block.plain
  pub ends : EndsAs (class_at image (behind address block.plain)) (behind address block.plain) block.end

-- an address of a word at which none begins: each image has one, so that plain words come to an end
pub record HasGap (image : List Part) : Type 0 where
  pub address : ℕ
  pub within : address < 2 ^ 64
  pub aligned : address % 4 ≡ 0
  pub none : word_of image address ≡ None
