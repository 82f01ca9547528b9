-- The words of an image in the order of their addresses: each has a place, counted from 0.
use Rattle.std.specs.Prelude.{ℕ, zero, suc, ◌+◌, ◌-◌, ◌/◌, ◌^◌, ◌<◌, min, List, [], ◌∷◌, ◌++◌, length, IsSome}
use Rattle.program_image.specs.Blocks.{behind}
use Rattle.program_image.specs.Part.{Part, word_of}

-- the addresses of n words that stand one after another
abbrev pub addresses_from : ℕ → ℕ → List ℕ
addresses_from address zero = []
addresses_from address (suc n) = address ∷ addresses_from (address + 4) n

-- the addresses of all words
abbrev pub word_addresses : List Part → List ℕ
word_addresses [] = []
word_addresses (part ∷ parts) = addresses_from part.start (length part.bytes / 4) ++ word_addresses parts

-- how many words stand below an address
abbrev pub words_below : List Part → ℕ → ℕ
words_below [] address = 0
words_below (part ∷ parts) address = min (address - part.start) (length part.bytes) / 4 + words_below parts address

-- how many there are
abbrev pub word_count : List Part → ℕ
word_count parts = words_below parts (2 ^ 64)

-- a word stands at each of so many addresses from one on, 4 bytes apart, modulo 2^64
abbrev pub AreWords : List Part → ℕ → ℕ → Type 0
AreWords image start count = (k : ℕ) → k < count → IsSome (word_of image (behind start k))

-- how many words stand before each part, after so many before the first; and at the end, how many in all
abbrev pub words_before : ℕ → List Part → List ℕ
words_before n [] = n ∷ []
words_before n (part ∷ parts) = n ∷ words_before (n + length part.bytes / 4) parts
