-- How often the items of paths are what is counted.
use Rattle.std.specs.Prelude.{◌≡◌, ℕ, ◌+◌, ◌%◌, ◌^◌, ◌==◌, ◌&&◌, Bool, false, true, List, [], ◌∷◌, ◌++◌, map}
use Rattle.std.specs.List.{range_with_len}
use Rattle.etm_types.specs.declared.item.Item.{Item}
use Rattle.etm_types.specs.declared.item.Item.TheVariants as item
use Rattle.program_image.specs.Part.{Part}
use Rattle.program_image.specs.Places.{word_addresses}
use Rattle.path_counts.specs.Levels.{one_if}

-- how many of the items pass a test
abbrev pub times : (Item → Bool) → List Item → ℕ
times test [] = 0
times test (i ∷ items) = one_if (test i) + times test items

-- an item is the instruction at an address
abbrev pub is_at : ℕ → Item → Bool
is_at address (item.Instr a ctx took) = a == address
is_at address _ = false

-- an item is the conditional branch at an address, and it was taken
abbrev pub took_at : ℕ → Item → Bool
took_at address (item.Instr a ctx took) = took && (a == address)
took_at address _ = false

-- an item is some instruction
abbrev pub is_instruction : Item → Bool
is_instruction (item.Instr a ctx took) = true
is_instruction _ = false

-- The items that are no instructions have numbers in the order in which they are printed: on, unknown, gap, stop, and the exceptions by
-- their types, of which there are as many as a byte has values.
abbrev pub mark_count : ℕ
mark_count = 260

abbrev pub first_exception : ℕ
first_exception = 4

-- an item is that of a number
abbrev pub is_mark : ℕ → Item → Bool
is_mark number item.On = 0 == number
is_mark number item.Unknown = 1 == number
is_mark number item.Gap = 2 == number
is_mark number item.Stop = 3 == number
is_mark number (item.Exc kind ret) = (first_exception + kind) == number
is_mark number (item.Instr a ctx took) = false

-- the item that has a number
abbrev pub HasNumber : ℕ → Item → Type 0
HasNumber number i = (n : ℕ) → is_mark n i ≡ (number == n)

-- how many of the items pass the test of each key, modulo 2^64
abbrev pub counts_by : (ℕ → Item → Bool) → List ℕ → List Item → List ℕ
counts_by test keys items = map (λ key. times (test key) items % 2 ^ 64) keys

-- what is counted: of each word of an image, in the order of their addresses, how often it was executed, and how often it is a
-- conditional branch that was taken; and how often each mark stands there
pub record Counting : Type 0 where
  pub visits : List ℕ
  pub taken : List ℕ
  pub marks : List ℕ

-- the counts of these items
abbrev pub counts_of : List Part → List Item → Counting
counts_of image items = record {
  visits = counts_by is_at (word_addresses image) items;
  taken = counts_by took_at (word_addresses image) items;
  marks = counts_by is_mark (range_with_len 0 mark_count) items;
}

-- a counter that has the counts of some items has then those of these items with more behind them
abbrev pub Counts : List Part → Counting → Counting → List Item → Type 0
Counts image old new more = (items : List Item) → old ≡ counts_of image items → new ≡ counts_of image (items ++ more)
