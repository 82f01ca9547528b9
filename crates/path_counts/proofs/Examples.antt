-- Counts of items that were worked out by hand, each beside what a wrong definition would say.
use Rattle.std.proofs.Common.{◌≡◌, ℕ, ◌-◌, ◌^◌, Bool, true, false, map, List, [], ◌∷◌, codes, refl, ap, get_or, arith}
use Rattle.etm_types.specs.declared.context.Ctx.{Ctx}
use Rattle.etm_types.specs.declared.item.Item.{Item}
use Rattle.etm_types.specs.declared.item.Item.TheVariants.{Exc, Gap, Instr, On, Stop, Unknown}
use Rattle.path_text.specs.Lines.{in_base}
use Rattle.program_image.specs.Part.{Part}
use Rattle.path_counts.specs.Counts.{counts_by, counts_of, is_at, times, took_at}
use Rattle.path_counts.specs.CountLines.{counts_text, items_text, number_line, words_text}
use Rattle.path_counts.specs.declared.targets.Target.{Target}
use Rattle.path_counts.specs.Targets.{entry_of, how_many, is_pointer_branch, kept_within, outside, pair_lt, same_pair, targets_of, targets_within}
use Rattle.path_counts.specs.Levels.{is_within, levels_of, place_behind}

-- four words from 1000 on, and the last one of all addresses
code : List Part
code =
    record { start = 0x1000; bytes = 0x1f ∷ 0x20 ∷ 0x03 ∷ 0xd5 ∷ 0x40 ∷ 0 ∷ 0 ∷ 0x54 ∷ 0x1f ∷ 0x20 ∷ 0x03 ∷ 0xd5 ∷ 0xc0 ∷ 0x03 ∷ 0x5f ∷ 0xd6 ∷ [] }
    ∷ record { start = 2 ^ 64 - 4; bytes = 0x1f ∷ 0x20 ∷ 0x03 ∷ 0xd5 ∷ [] } ∷ []

context : Ctx
context = record { el = 0; ns = false; vmid = 0; cid = 0 }

-- the branch at 1004 was taken once, over the word at 1008
branch_items : List Item
branch_items =
    On ∷ Instr 0x1000 context false ∷ Instr 0x1004 context true ∷ Instr 0x100c context false ∷ Instr 0x1000 context false
    ∷ Instr 0x1004 context false ∷ []

branch_counts : items_text code branch_items [] ≡ codes "at 1000 2\nat 1004 2\ntaken 1004 1\nat 100c 1\non 1\n"
unfolding in_base code branch_items
branch_counts = refl

-- each other item, and exceptions by the numbers of their types, whatever their return addresses are
other_items : List Item
other_items = Stop ∷ Exc 14 0x1000 ∷ Gap ∷ Exc 5 0x1004 ∷ Unknown ∷ Exc 14 0x1004 ∷ []

other_counts : items_text [] other_items [] ≡ codes "? 1\ngap 1\nstop 1\nexc 5 1\nexc irq 2\n"
unfolding in_base other_items
other_counts = refl

nothing_counted : items_text code [] [] ≡ []
unfolding code
nothing_counted = refl

-- ---- near misses

-- an execution of the branch that was not taken is none that was
not_each_was_taken : times (took_at 0x1004) branch_items ≡ 2 → ⊥
unfolding branch_items
not_each_was_taken e = let first : 1 ≡ 2 = e in absurd (omega (arith, first))

-- no line of the word that was passed over
no_line_of_none : number_line (codes "at 1008") 0 ≡ codes "at 1008 0\n" → ⊥
unfolding in_base
no_line_of_none e = cc

-- `at` stands before `taken`
taken_is_not_first : words_text (0x1004 ∷ []) (2 ∷ []) (1 ∷ []) [] ≡ codes "taken 1004 1\nat 1004 2\n" → ⊥
unfolding in_base
taken_is_not_first e = let first : 97 ≡ 116 = ap (λ t. get_or t 0 0) e in absurd (omega (arith, first))

-- ---- the ring

-- from place 3 of five over the end: three places, to place 0
round_the_ring : (is_within 5 3 3 2 ≡ false) × (is_within 5 3 3 3 ≡ true) × (is_within 5 3 3 4 ≡ true) × (is_within 5 3 3 0 ≡ true)
    × (is_within 5 3 3 1 ≡ false)
round_the_ring = (refl, refl, refl, refl, refl)

last_places : (place_behind 5 2 2 ≡ 4) × (place_behind 5 2 3 ≡ 0)
last_places = (refl, refl)

-- up by one at place 1, and down behind place 2
levels : levels_of (0 ∷ 1 ∷ 0 ∷ (2 ^ 64 - 1) ∷ 0 ∷ []) ≡ 0 ∷ 1 ∷ 1 ∷ 0 ∷ 0 ∷ []
levels = refl

-- ---- branches to a register

-- BR, BLR, BRAAZ, BRABZ, BLRAAZ, BLRABZ, BRAA, BRAB, BLRAA and BLRAB, with X16 and X17
pointer_branches : (is_pointer_branch 0xd61f0200 ≡ true) × (is_pointer_branch 0xd63f0200 ≡ true)
    × (is_pointer_branch 0xd61f0a1f ≡ true) × (is_pointer_branch 0xd61f0e1f ≡ true)
    × (is_pointer_branch 0xd63f0a1f ≡ true) × (is_pointer_branch 0xd63f0e1f ≡ true)
    × (is_pointer_branch 0xd71f0a11 ≡ true) × (is_pointer_branch 0xd71f0e11 ≡ true)
    × (is_pointer_branch 0xd73f0a11 ≡ true) × (is_pointer_branch 0xd73f0e11 ≡ true)
pointer_branches = (refl, refl, refl, refl, refl, refl, refl, refl, refl, refl)

-- RET, RETAA, ERET, ERETAA, B.EQ, BL and NOP are none; nor is BR with a bit set that it does not have, nor BRAA with one that is not set
other_words : (is_pointer_branch 0xd65f03c0 ≡ false) × (is_pointer_branch 0xd65f0bff ≡ false) × (is_pointer_branch 0xd69f03e0 ≡ false)
    × (is_pointer_branch 0xd69f0bff ≡ false) × (is_pointer_branch 0x54000040 ≡ false) × (is_pointer_branch 0x94000000 ≡ false)
    × (is_pointer_branch 0xd503201f ≡ false) × (is_pointer_branch 0xd61f0201 ≡ false) × (is_pointer_branch 0xd71f0211 ≡ false)
other_words = (refl, refl, refl, refl, refl, refl, refl, refl, refl)

-- ---- where they went

-- a table of two: the third pair comes twice when it is full, and one that is in it comes once more
pairs : List (ℕ × ℕ)
pairs = (0x1004, 0x2000) ∷ (0x1000, 0x3000) ∷ (0x1000, 0x2000) ∷ (0x1004, 0x2000) ∷ (0x1000, 0x2000) ∷ []

full_table : targets_within 2 pairs ≡ record {
  entries = record { from = 0x1000; to = 0x3000; times = 1 } ∷ record { from = 0x1004; to = 0x2000; times = 2 } ∷ [];
  more = 2;
}
unfolding pairs
full_table = refl

-- a table of three has all of them, by the first address and then by the second
whole_table : targets_within 3 pairs ≡ record {
  entries = record { from = 0x1000; to = 0x2000; times = 2 } ∷ record { from = 0x1000; to = 0x3000; times = 1 }
      ∷ record { from = 0x1004; to = 0x2000; times = 2 } ∷ [];
  more = 0;
}
unfolding pairs
whole_table = refl

-- a call at 1000: its lines stand behind those of the word, and those of a pair from no word are left out
calls : List (ℕ × ℕ)
calls = (0x1000, 0x3000) ∷ (0x1000, 0x2000) ∷ (0x2000, 0x1000) ∷ (0x1000, 0x2000) ∷ []

call_items : List Item
call_items = Instr 0x1000 context false ∷ Instr 0x1000 context false ∷ Instr 0x1000 context false ∷ Instr 0x1004 context true ∷ Stop ∷ []

call_counts : items_text code call_items calls ≡ codes "at 1000 3\nto 1000 2000 2\nto 1000 3000 1\nat 1004 1\ntaken 1004 1\nstop 1\n"
unfolding in_base code call_items calls
call_counts = refl

-- the line of the others stands between the words and the marks
others_between : counts_text [] (counts_of [] (Gap ∷ [])) (record { entries = []; more = 3 }) ≡ codes "to more 3\ngap 1\n"
unfolding in_base
others_between = refl

-- ---- near misses

-- what came first does not stand first
not_as_they_came : (targets_within 3 pairs).entries ≡ record { from = 0x1004; to = 0x2000; times = 2 }
    ∷ record { from = 0x1000; to = 0x3000; times = 1 } ∷ record { from = 0x1000; to = 0x2000; times = 2 } ∷ [] → ⊥
unfolding pairs
not_as_they_came e =
    let first : 0x1000 ≡ 0x1004 = ap (λ (es : List Target). (get_or es 0 (record { from = 0; to = 0; times = 0 })).from) e in absurd (omega (arith, first))

-- each time counts that another pair comes, and not each other pair
not_each_pair_once : (targets_within 2 pairs).more ≡ 1 → ⊥
unfolding pairs
not_each_pair_once e = let two : 2 ≡ 1 = e in absurd (omega (arith, two))

-- a pair that is in the table is counted when it is full
not_frozen : (targets_within 2 pairs).more ≡ 3 → ⊥
unfolding pairs
not_frozen e = let two : 2 ≡ 3 = e in absurd (omega (arith, two))

-- `taken` stands before `to`
to_is_not_first : words_text (0x1004 ∷ []) (0 ∷ []) (1 ∷ []) (record { from = 0x1004; to = 0; times = 1 } ∷ []) ≡ codes "to 1004 0 1\ntaken 1004 1\n" → ⊥
unfolding in_base
to_is_not_first e = let second : 97 ≡ 111 = ap (λ t. get_or t 1 0) e in absurd (omega (arith, second))

-- ---- the ends of each number

-- what is no instruction is none of a word's, whatever its addresses are
no_instructions : items_text code (On ∷ Unknown ∷ Gap ∷ Stop ∷ Exc 14 0x1000 ∷ []) [] ≡ codes "on 1\n? 1\ngap 1\nstop 1\nexc irq 1\n"
unfolding in_base code
no_instructions = refl

-- the first exception, the last one that a byte has, and one behind it that is not counted
ends_of_exceptions : items_text [] (Exc 256 0 ∷ Exc 255 0 ∷ Exc 0 0 ∷ []) [] ≡ codes "exc reset 1\nexc 255 1\n"
unfolding in_base
ends_of_exceptions = refl

-- counts are modulo 2^64
most_visits : (items : List Item) → times (is_at 0x1000) items ≡ 2 ^ 64 - 1 → counts_by is_at (0x1000 ∷ []) items ≡ (2 ^ 64 - 1) ∷ []
most_visits items many = rw many refl

visits_wrap : (items : List Item) → times (is_at 0x1000) items ≡ 2 ^ 64 → counts_by is_at (0x1000 ∷ []) items ≡ 0 ∷ []
visits_wrap items many = rw many refl

most_times : (p : ℕ × ℕ) (those : List (ℕ × ℕ)) → how_many p those ≡ 2 ^ 64 - 1 → (entry_of those p).times ≡ 2 ^ 64 - 1
most_times p those many = rw many refl

times_wrap : (p : ℕ × ℕ) (those : List (ℕ × ℕ)) → how_many p those ≡ 2 ^ 64 → (entry_of those p).times ≡ 0
times_wrap p those many = rw many refl

most_others : (those : List (ℕ × ℕ)) → outside (kept_within 2 those) those ≡ 2 ^ 64 - 1 → (targets_within 2 those).more ≡ 2 ^ 64 - 1
most_others those many = rw many refl

others_wrap : (those : List (ℕ × ℕ)) → outside (kept_within 2 those) those ≡ 2 ^ 64 → (targets_within 2 those).more ≡ 0
others_wrap those many = rw many refl

-- from 2^63 to the highest level and over it, twice
levels_wrap : levels_of (2 ^ 63 ∷ (2 ^ 63 - 1) ∷ 1 ∷ 2 ^ 63 ∷ []) ≡ 2 ^ 63 ∷ (2 ^ 64 - 1) ∷ 0 ∷ 2 ^ 63 ∷ []
levels_wrap = refl

-- three places of five that do not go over the end, and none of them
inside_the_ring : map (is_within 5 1 3) (0 ∷ 1 ∷ 2 ∷ 3 ∷ 4 ∷ []) ≡ false ∷ true ∷ true ∷ true ∷ false ∷ []
inside_the_ring = refl

no_place_of_the_ring : map (is_within 5 1 0) (0 ∷ 1 ∷ 2 ∷ 3 ∷ 4 ∷ []) ≡ false ∷ false ∷ false ∷ false ∷ false ∷ []
no_place_of_the_ring = refl

-- the same for both addresses of a pair: less, the same and more
abbrev by_another : (ℕ × ℕ → ℕ × ℕ → Bool) → List Bool
by_another test = map (test (5, 5)) ((6, 4) ∷ (6, 5) ∷ (6, 6) ∷ (5, 4) ∷ (5, 5) ∷ (5, 6) ∷ (4, 4) ∷ (4, 5) ∷ (4, 6) ∷ [])

order_of_pairs : by_another pair_lt ≡ true ∷ true ∷ true ∷ false ∷ false ∷ true ∷ false ∷ false ∷ false ∷ []
order_of_pairs = refl

sameness_of_pairs : by_another same_pair ≡ false ∷ false ∷ false ∷ false ∷ true ∷ false ∷ false ∷ false ∷ false ∷ []
sameness_of_pairs = refl

-- a table has room for 65,536 pairs
room_of_a_table : (those : List (ℕ × ℕ)) → targets_of those ≡ targets_within 65536 those
room_of_a_table those = refl

-- BR and BLR with X17, and with a bit of their last field set
odd_registers :
    map is_pointer_branch (0xd61f0220 ∷ 0xd63f0220 ∷ 0xd61f0201 ∷ 0xd63f0201 ∷ 0xd61f0210 ∷ 0xd63f0210 ∷ [])
    ≡ true ∷ true ∷ false ∷ false ∷ false ∷ false ∷ []
odd_registers = refl
