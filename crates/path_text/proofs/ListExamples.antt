-- Lines of each kind of item one by one, and numbers of all their digits, written out by hand from the formats that docs/FORMATS.md gives.
use Rattle.std.proofs.Common.{◌≡◌, ℕ, ◌/◌, ◌%◌, ◌≤◌, List, [], ◌∷◌, ◌++◌, ◌∙◌, codes, map, length, true, false, Some, None, refl, ap, get_or, arith}
use Rattle.etm_types.specs.declared.context.Ctx.{Ctx}
use Rattle.etm_types.specs.declared.item.Item.{Item}
use Rattle.etm_types.specs.declared.item.Item.TheVariants as item
use Rattle.etm_types.specs.declared.queue_fault.QueueFault.TheVariants as queue
use Rattle.etm_types.specs.declared.walk_fault.WalkFault.TheVariants as walk
use Rattle.packet_grammar.specs.declared.end.End.TheVariants as end
use Rattle.packet_grammar.specs.declared.stream_fault.Fault.TheVariants as fault
use Rattle.path_text.specs.EndLines.{end_line}
use Rattle.path_text.specs.Lines.{digit, in_base}
use Rattle.path_text.specs.PathLines.{line_list}
use Rattle.path_text.proofs.DigitLemmas.{decimal_step}
use Rattle.path_text.proofs.HexLemmas.{hex_step}

-- each ended by LF
abbrev each : List (List ℕ) → List (List ℕ)
each texts = map (λ text. text ++ 10 ∷ []) texts

abbrev hypervisor : Ctx
hypervisor = record { el = 2; ns = false; vmid = 0xff; cid = 0xbeef }

abbrev user : Ctx
user = record { el = 0; ns = true; vmid = 0; cid = 0 }

-- ---- each kind of item

-- The context is printed before the first instruction, and where it is another one; nothing else prints it, or makes it be printed again.
abbrev all_kinds : List Item
all_kinds =
    item.On ∷ item.Unknown ∷ item.Exc 31 0xabc0 ∷ item.Instr 0x1000 hypervisor false ∷ item.Instr 0x1004 hypervisor true ∷ item.Gap
    ∷ item.Instr 0xfed0 hypervisor false ∷ item.Stop ∷ item.On ∷ item.Exc 14 0 ∷ item.Instr 0x9784 user false ∷ item.Unknown
    ∷ item.Instr 0 user true ∷ item.Instr 0x1000 hypervisor false ∷ []

pub each_kind :
    line_list 0x6f None all_kinds
    ≡ each (codes "6f on" ∷ codes "6f ?" ∷ codes "6f exc 31 abc0" ∷ codes "6f ctx el2 s ff beef" ∷ codes "6f 1000" ∷ codes "6f 1004" ∷ codes "6f gap"
    ∷ codes "6f fed0" ∷ codes "6f stop" ∷ codes "6f on" ∷ codes "6f exc irq 0" ∷ codes "6f ctx el0 ns 0 0" ∷ codes "6f 9784" ∷ codes "6f ?"
    ∷ codes "6f 0" ∷ codes "6f ctx el2 s ff beef" ∷ codes "6f 1000" ∷ [])
unfolding in_base
each_kind = refl

-- behind a context that was printed before, one line is left out
pub behind_its_context : line_list 2 (Some hypervisor) (item.Instr 0x1000 hypervisor true ∷ item.Gap ∷ []) ≡ each (codes "02 1000" ∷ codes "02 gap" ∷ [])
unfolding in_base
behind_its_context = refl

pub nothing : line_list 1 None [] ≡ []
nothing = refl

-- near misses: a gap as a stop, the context again behind a gap, and behind its instruction
pub a_gap_is_no_stop : line_list 1 None (item.Gap ∷ []) ≡ each (codes "01 stop" ∷ []) → ⊥
a_gap_is_no_stop e = absurd (omega (arith, ap (λ (l : List (List ℕ)). get_or (get_or l 0 []) 3 0) e))

pub not_again_behind_a_gap :
    line_list 1 (Some user) (item.Gap ∷ item.Instr 0x1000 user false ∷ []) ≡ each (codes "01 gap" ∷ codes "01 ctx el0 ns 0 0" ∷ codes "01 1000" ∷ []) → ⊥
unfolding in_base
not_again_behind_a_gap e = absurd (omega (arith, ap length e))

pub not_behind_its_instruction :
    line_list 1 None (item.Instr 0x1000 user false ∷ []) ≡ each (codes "01 1000" ∷ codes "01 ctx el0 ns 0 0" ∷ []) → ⊥
unfolding in_base
not_behind_its_instruction e = absurd (omega (arith, ap (λ (l : List (List ℕ)). get_or (get_or l 0 []) 3 0) e))

-- ---- all digits of the highest numbers

more_hex : (n : ℕ) (front : List ℕ) → 256 ≤ n → in_base 16 (n / 256) ≡ front → in_base 16 n ≡ front ++ (digit (n % 256 / 16) ∷ digit (n % 256 % 16) ∷ [])
more_hex n front some is = hex_step n some ∙ ap (λ t. t ++ (digit (n % 256 / 16) ∷ digit (n % 256 % 16) ∷ [])) is

more_decimal : (n : ℕ) (front : List ℕ) → 100 ≤ n → in_base 10 (n / 100) ≡ front
    → in_base 10 n ≡ front ++ (digit (n % 100 / 10) ∷ digit (n % 100 % 10) ∷ [])
more_decimal n front some is = decimal_step n some ∙ ap (λ t. t ++ (digit (n % 100 / 10) ∷ digit (n % 100 % 10) ∷ [])) is

first_hex : in_base 16 0xfe ≡ codes "fe"
unfolding in_base
first_hex = refl

high_address : in_base 16 0xfedcba9876543210 ≡ codes "fedcba9876543210"
high_address =
    more_hex 0xfedcba9876543210 (codes "fedcba98765432") (omega arith) (more_hex 0xfedcba98765432 (codes "fedcba987654") (omega arith)
    (more_hex 0xfedcba987654 (codes "fedcba9876") (omega arith) (more_hex 0xfedcba9876 (codes "fedcba98") (omega arith)
    (more_hex 0xfedcba98 (codes "fedcba") (omega arith) (more_hex 0xfedcba (codes "fedc") (omega arith)
    (more_hex 0xfedc (codes "fe") (omega arith) first_hex))))))

first_decimal : in_base 10 42 ≡ codes "42"
unfolding in_base
first_decimal = refl

-- 2^32 - 1
most_asked : in_base 10 4294967295 ≡ codes "4294967295"
most_asked =
    more_decimal 4294967295 (codes "42949672") (omega arith) (more_decimal 42949672 (codes "429496") (omega arith)
    (more_decimal 429496 (codes "4294") (omega arith) (more_decimal 4294 (codes "42") (omega arith) first_decimal)))

sixteen_thousand : in_base 10 16384 ≡ codes "16384"
unfolding in_base
sixteen_thousand = refl

no_offset : in_base 10 0 ≡ codes "0"
unfolding in_base
no_offset = refl

pub all_digits_of_an_address : line_list 1 (Some user) (item.Instr 0xfedcba9876543210 user false ∷ []) ≡ each (codes "01 fedcba9876543210" ∷ [])
all_digits_of_an_address = rw high_address refl

pub all_digits_of_a_fault :
    end_line 0x10 (end.Fault 4294967295 (fault.Walk (walk.NoCode 0xfedcba9876543210))) ≡ codes "10 fault 4294967295 no-code fedcba9876543210" ++ 10 ∷ []
all_digits_of_a_fault = rw (most_asked, high_address) refl

pub all_digits_of_counts :
    end_line 0x6f (end.Fault 0 (fault.Queue (queue.CommitOverrun 4294967295 16384))) ≡ codes "6f fault 0 commit-overrun 4294967295 16384" ++ 10 ∷ []
all_digits_of_counts = rw (no_offset, most_asked, sixteen_thousand) refl
