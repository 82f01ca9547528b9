-- What a list of settings says, and the sizes that all IDs have by it.
use Rattle.std.specs.Prelude.{ℕ, ◌-◌, ◌==◌, ◌&&◌, nat_le, Bool, true, false, List, [], ◌∷◌, Option, Some, None, if◌then◌else◌, replicate}
use Rattle.std.specs.Prelude.{slice_index_or, slice_set}
use Rattle.std.specs.List.{before_first, after_first, list_any, slice_split}
use Rattle.std.specs.Option.{option_map, option_and_then}
use Rattle.etm_types.specs.Settings.{Sizes, is_vmid_size, is_cid_size, most_depth}
use Rattle.line_words.specs.Line.{decimal_of, two_digits_of}
use Rattle.command_words.specs.declared.lists.Listed.{Listed}

-- ---- a word

-- the sizes of a trace unit: a depth of at most `most_depth`, a VMID of 0, 1, 2 or 4 bytes, a context ID of 0 or 4 bytes
abbrev pub sizes_of : ℕ → ℕ → ℕ → Option Sizes
sizes_of depth vmid cid =
    if nat_le depth most_depth && is_vmid_size vmid && is_cid_size cid then Some (record { depth = depth; vmid_bytes = vmid; cid_bytes = cid }) else None

abbrev pub is_colon : ℕ → Bool
is_colon byte = byte == 58

abbrev pub is_comma : ℕ → Bool
is_comma byte = byte == 44

-- the two parts of a text, before and behind its first colon
abbrev pub cut_in_two : List ℕ → Option (List ℕ × List ℕ)
cut_in_two text = if list_any is_colon text then Some (before_first is_colon text, after_first is_colon text) else None

-- the ID that two hex digits spell, of 1 to 111
abbrev pub id_of : List ℕ → Option ℕ
id_of digits = option_and_then (λ id. if nat_le 1 id && nat_le id 111 then Some id else None) (two_digits_of digits)

-- the sizes that three numbers spell
abbrev pub sizes_spelled : List ℕ → List ℕ → List ℕ → Option Sizes
sizes_spelled depth vmid cid =
    option_and_then (λ d. option_and_then (λ v. option_and_then (λ c. sizes_of d v c) (decimal_of cid)) (decimal_of vmid)) (decimal_of depth)

abbrev pub named_by : List ℕ → List ℕ → List ℕ → List ℕ → Option (ℕ × Sizes)
named_by digits depth vmid cid = option_and_then (λ id. option_map (λ sizes. (id, sizes)) (sizes_spelled depth vmid cid)) (id_of digits)

-- ID:DEPTH:VMID:CID names an ID, and gives it sizes
abbrev pub named_of : List ℕ → Option (ℕ × Sizes)
named_of word =
    option_and_then (λ one. option_and_then (λ two. option_and_then (λ three. named_by one.0 two.0 three.0 three.1)
    (cut_in_two two.1)) (cut_in_two one.1)) (cut_in_two word)

-- ---- the words, one after the other

-- before any word, all IDs have the same sizes, and none is named
abbrev pub nothing_listed : Sizes → Listed
nothing_listed all = record { table = replicate 111 all; named = replicate 111 false }

-- one more ID is named, and gets its sizes; each is named once
abbrev pub with_one : ℕ × Sizes → Listed → Option Listed
with_one one listed =
    if slice_index_or listed.named (one.0 - 1) false then None
    else Some (record { table = slice_set listed.table (one.0 - 1) one.1; named = slice_set listed.named (one.0 - 1) true })

-- the words of a list, one after the other
abbrev pub listed_in : List (List ℕ) → Listed → Option Listed
listed_in [] listed = Some listed
listed_in (word ∷ words) listed = option_and_then (λ next. listed_in words next) (option_and_then (λ one. with_one one listed) (named_of word))

-- the sizes of all IDs: those of a list, of words that commas part, for the IDs that it names, and for the others the same
abbrev pub units_by : Option (List ℕ) → Sizes → Option (List Sizes)
units_by None all = Some (replicate 111 all)
units_by (Some list) all = option_map (λ listed. listed.table) (listed_in (slice_split is_comma list) (nothing_listed all))
