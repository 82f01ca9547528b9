-- Lines of paths, written out by hand from the formats that docs/FORMATS.md gives.
use Rattle.std.proofs.Common.{◌≡◌, ℕ, List, [], ◌∷◌, ◌++◌, codes, map, length, true, false, Option, Some, None, refl, sym, ap, get_or, arith}
use Rattle.etm_types.specs.declared.context.Ctx.{Ctx}
use Rattle.etm_types.specs.declared.item.Item.{Item}
use Rattle.etm_types.specs.declared.item.Item.TheVariants as item
use Rattle.packet_grammar.proofs.GoesOn.{strip}
use Rattle.path_text.specs.Lines.{IsLine, in_base, byte_text, line_of, hex, decimal}
use Rattle.path_text.specs.PathLines.{exception_text, line_list, lines_of, shown_after_all, instruction_lines}
use Rattle.path_text.proofs.Feeds.{written}

-- lines, each ended by LF
abbrev lines : List (List ℕ) → List ℕ
lines [] = []
lines (text ∷ texts) = text ++ (10 ∷ lines texts)

abbrev kernel : Ctx
kernel = record { el = 1; ns = true; vmid = 0; cid = 0 }

abbrev user : Ctx
user = record { el = 0; ns = true; vmid = 0; cid = 0 }

-- an instruction that is no conditional branch, or not taken
abbrev ran : ℕ → Ctx → Item
ran address ctx = item.Instr address ctx false

-- ---- numbers

pub numbers_in_hex : (hex 0 ≡ codes "0") × (hex 9 ≡ codes "9") × (hex 10 ≡ codes "a") × (hex 0xa5f0 ≡ codes "a5f0")
unfolding in_base
numbers_in_hex = (refl, refl, refl, refl)

pub numbers_in_decimal : (decimal 0 ≡ codes "0") × (decimal 10 ≡ codes "10") × (decimal 60908 ≡ codes "60908")
unfolding in_base
numbers_in_decimal = (refl, refl, refl)

-- a byte has two digits, whatever its value
pub bytes_in_hex : (byte_text 0 ≡ codes "00") × (byte_text 0x0f ≡ codes "0f") × (byte_text 0xa5 ≡ codes "a5")
bytes_in_hex = (refl, refl, refl)

pub no_byte_of_one_digit : byte_text 5 ≡ codes "5" → ⊥
no_byte_of_one_digit e = let first : 48 ≡ 53 = ap (λ t. get_or t 0 0) e in absurd (omega (arith, first))

-- ---- paths

-- Trace on and a loop that is run once and entered again: the context is printed once.
pub a_loop :
    lines_of 1 None (item.On ∷ ran 0x1000 kernel ∷ ran 0x1004 kernel ∷ ran 0x100c kernel ∷ ran 0x1000 kernel ∷ ran 0x1004 kernel ∷ [])
    ≡ lines (codes "01 on" ∷ codes "01 ctx el1 ns 0 0" ∷ codes "01 1000" ∷ codes "01 1004" ∷ codes "01 100c" ∷ codes "01 1000" ∷ codes "01 1004" ∷ [])
unfolding in_base
a_loop = refl

-- An interrupt and its return: the line of an exception is no reason to print a context, and the next instruction may be.
pub an_interrupt :
    lines_of 1 None (item.On ∷ ran 0x1000 user ∷ item.Exc 14 0x1004 ∷ ran 0x8000 kernel ∷ ran 0x8004 kernel ∷ ran 0x1004 user ∷ [])
    ≡ lines (codes "01 on" ∷ codes "01 ctx el0 ns 0 0" ∷ codes "01 1000" ∷ codes "01 exc irq 1004" ∷ codes "01 ctx el1 ns 0 0" ∷ codes "01 8000"
    ∷ codes "01 8004" ∷ codes "01 ctx el0 ns 0 0" ∷ codes "01 1004" ∷ [])
unfolding in_base
an_interrupt = refl

-- Trace that was lost: after it the context is the one that was printed last.
pub a_gap :
    lines_of 1 (Some user) (ran 0x1004 user ∷ item.Gap ∷ item.On ∷ ran 0x1008 user ∷ ran 0x100c user ∷ [])
    ≡ lines (codes "01 1004" ∷ codes "01 gap" ∷ codes "01 on" ∷ codes "01 1008" ∷ codes "01 100c" ∷ [])
unfolding in_base
a_gap = refl

pub a_stop : lines_of 0x6f None (item.Stop ∷ []) ≡ lines (codes "6f stop" ∷ [])
a_stop = refl

-- An unknown stretch has no context, and an exception after it neither.
pub an_unknown_stretch : lines_of 1 None (item.Unknown ∷ item.Exc 2 0x2000 ∷ []) ≡ lines (codes "01 ?" ∷ codes "01 exc call 2000" ∷ [])
unfolding in_base
an_unknown_stretch = refl

-- No line tells whether a branch was taken.
pub a_taken_branch : lines_of 1 (Some user) (ran 0x1000 user ∷ item.Instr 0x1004 user true ∷ ran 0x100c user ∷ [])
    ≡ lines (codes "01 1000" ∷ codes "01 1004" ∷ codes "01 100c" ∷ [])
unfolding in_base
a_taken_branch = refl

pub nothing_is_shown_by_it : shown_after_all (Some user) (item.On ∷ item.Unknown ∷ item.Exc 14 0x1004 ∷ item.Gap ∷ item.Stop ∷ []) ≡ Some user
nothing_is_shown_by_it = refl

pub the_last_is_shown : shown_after_all (Some user) (ran 0x1000 user ∷ ran 0x8000 kernel ∷ []) ≡ Some kernel
the_last_is_shown = refl

-- ---- the lines one by one: a context has a line of its own, and is printed once

-- each ended by LF
abbrev each : List (List ℕ) → List (List ℕ)
each texts = map (λ text. text ++ 10 ∷ []) texts

abbrev two_instructions : List Item
two_instructions = item.On ∷ ran 0x1000 user ∷ item.Exc 14 0x1004 ∷ ran 0x8000 kernel ∷ ran 0x8004 kernel ∷ []

pub one_by_one :
    line_list 1 (Some user) two_instructions
    ≡ each (codes "01 on" ∷ codes "01 1000" ∷ codes "01 exc irq 1004" ∷ codes "01 ctx el1 ns 0 0" ∷ codes "01 8000" ∷ codes "01 8004" ∷ [])
unfolding in_base
one_by_one = refl

-- the line of a context and that of its instruction are not one line, and no line is empty
pub not_in_one :
    line_list 1 None (ran 0x1000 user ∷ []) ≡ (codes "01 ctx el0 ns 0 0" ++ 10 ∷ codes "01 1000" ++ 10 ∷ []) ∷ [] → ⊥
unfolding in_base
not_in_one e = absurd (omega (arith, ap length e))

pub none_empty : line_list 1 (Some user) (ran 0x1000 user ∷ []) ≡ [] ∷ each (codes "01 1000" ∷ []) → ⊥
unfolding in_base
none_empty e = absurd (omega (arith, ap length e))

pub a_line : IsLine (codes "01 on" ++ 10 ∷ [])
a_line = (codes "01 on", refl, written (codes "01 on") refl)

-- a line ends with its LF, has one, and has it at its end alone
pub no_line_without_one : IsLine (codes "01 on") → ⊥
no_line_without_one (text, parts, none) =
    let last = strip (codes "01 o") text 110 10 parts in absurd (omega (arith, last.1))

pub no_line_of_two : IsLine (codes "01 on" ++ 10 ∷ 10 ∷ []) → ⊥
no_line_of_two (text, parts, none) =
    let front = (strip (codes "01 on" ++ 10 ∷ []) text 10 10 parts).0 in
    none 5 0 (omega (arith, ap length front)) (ap (λ t. get_or t 5 0) (sym front))

-- ---- contexts that differ in one field are printed, and the same one is not

abbrev before : Option Ctx
before = Some (record { el = 1; ns = true; vmid = 2; cid = 0x1f })

-- one instruction after that context
abbrev after : Ctx → List ℕ
after ctx = lines_of 1 before (ran 0x1000 ctx ∷ [])

pub the_same_context : after (record { el = 1; ns = true; vmid = 2; cid = 0x1f }) ≡ lines (codes "01 1000" ∷ [])
unfolding in_base
the_same_context = refl

pub another_level : after (record { el = 3; ns = true; vmid = 2; cid = 0x1f }) ≡ lines (codes "01 ctx el3 ns 2 1f" ∷ codes "01 1000" ∷ [])
unfolding in_base
another_level = refl

pub another_security : after (record { el = 1; ns = false; vmid = 2; cid = 0x1f }) ≡ lines (codes "01 ctx el1 s 2 1f" ∷ codes "01 1000" ∷ [])
unfolding in_base
another_security = refl

pub another_vmid : after (record { el = 1; ns = true; vmid = 0xff; cid = 0x1f }) ≡ lines (codes "01 ctx el1 ns ff 1f" ∷ codes "01 1000" ∷ [])
unfolding in_base
another_vmid = refl

pub another_context_id : after (record { el = 1; ns = true; vmid = 2; cid = 0xbeef }) ≡ lines (codes "01 ctx el1 ns 2 beef" ∷ codes "01 1000" ∷ [])
unfolding in_base
another_context_id = refl

-- Secure after Secure is the same
pub secure_again :
    lines_of 1 (Some (record { el = 0; ns = false; vmid = 0; cid = 0 })) (ran 0x1000 (record { el = 0; ns = false; vmid = 0; cid = 0 }) ∷ [])
    ≡ lines (codes "01 1000" ∷ [])
unfolding in_base
secure_again = refl

-- ---- addresses go up by 4, modulo 2^64, and have as many digits as they need

pub a_carry : instruction_lines 1 0xff8 3 ≡ lines (codes "01 ff8" ∷ codes "01 ffc" ∷ codes "01 1000" ∷ [])
unfolding in_base
a_carry = refl

pub the_wrap : instruction_lines 1 0xfffffffffffffffc 2 ≡ line_of 1 (hex 0xfffffffffffffffc) ++ (line_of 1 (codes "0") ++ [])
the_wrap = ap (λ t. line_of 1 (hex 0xfffffffffffffffc) ++ (line_of 1 t ++ [])) numbers_in_hex.0

-- ---- exceptions, by their types

pub names_of_exceptions :
    (exception_text 0 0x1004 ≡ codes "exc reset 1004")
    × (exception_text 1 0x1004 ≡ codes "exc debug-halt 1004")
    × (exception_text 2 0x1004 ≡ codes "exc call 1004")
    × (exception_text 3 0x1004 ≡ codes "exc trap 1004")
    × (exception_text 4 0x1004 ≡ codes "exc system-error 1004")
    × (exception_text 6 0x1004 ≡ codes "exc inst-debug 1004")
    × (exception_text 7 0x1004 ≡ codes "exc data-debug 1004")
    × (exception_text 10 0x1004 ≡ codes "exc alignment 1004")
    × (exception_text 11 0x1004 ≡ codes "exc inst-fault 1004")
    × (exception_text 12 0x1004 ≡ codes "exc data-fault 1004")
    × (exception_text 14 0x1004 ≡ codes "exc irq 1004")
    × (exception_text 15 0x1004 ≡ codes "exc fiq 1004")
unfolding in_base
names_of_exceptions = (refl, refl, refl, refl, refl, refl, refl, refl, refl, refl, refl, refl)

-- the other types are shown by their numbers
pub numbers_of_exceptions :
    (exception_text 5 0x1004 ≡ codes "exc 5 1004")
    × (exception_text 8 0x1004 ≡ codes "exc 8 1004")
    × (exception_text 9 0x1004 ≡ codes "exc 9 1004")
    × (exception_text 13 0x1004 ≡ codes "exc 13 1004")
    × (exception_text 16 0x1004 ≡ codes "exc 16 1004")
    × (exception_text 31 0x1004 ≡ codes "exc 31 1004")
unfolding in_base
numbers_of_exceptions = (refl, refl, refl, refl, refl, refl)

pub irq_is_no_fiq : exception_text 14 0 ≡ codes "exc fiq 0" → ⊥
unfolding in_base
irq_is_no_fiq e = let first : 105 ≡ 102 = ap (λ t. get_or t 4 0) e in absurd (omega (arith, first))
