-- Walks that were worked out by hand: what is shown and where the walk goes on, or with which fault it stops.
use Rattle.std.proofs.Common.{◌≡◌, ◌≢◌, ℕ, zero, suc, ◌+◌, Bool, true, false, List, [], ◌∷◌, ◌++◌}
use Rattle.std.proofs.Common.{map, length, Option, Some, None, is_none, Ok, Err, refl, ap, inl, inr, arith}
use Rattle.std.specs.Prelude.{neg_ℤ, pos, replicate, take}
use Rattle.std.specs.Option.{unwrap_or}
use Rattle.a64_branches.specs.Classes.{class_of}
use Rattle.a64_branches.specs.declared.class.Class.{Class}
use Rattle.a64_branches.specs.declared.class.Class.TheVariants.{Plain, Jump, Cond, Isb, Ind, Eret, Odd}
use Rattle.program_image.specs.Blocks.{behind, class_at, IsPlainRun}
use Rattle.program_image.specs.declared.image.Image.{Image}
use Rattle.etm_types.specs.Pre.{nothing_told, trace_missing}
use Rattle.etm_types.specs.declared.context.Ctx.{Ctx}
use Rattle.etm_types.specs.declared.element.P0.TheVariants.{Atom, Exc}
use Rattle.etm_types.specs.declared.element.Pre.{Pre}
use Rattle.etm_types.specs.declared.element.Entry.{Entry}
use Rattle.etm_types.specs.declared.element.Thing.TheVariants.{Seen, Unseen, Gap, Stop}
use Rattle.etm_types.specs.declared.item.Item.{Item}
use Rattle.etm_types.specs.declared.item.Item.TheVariants as item
use Rattle.etm_types.specs.declared.walked.Walked.{Walked}
use Rattle.etm_types.specs.declared.walked.ExcMark.{ExcMark}
use Rattle.etm_types.specs.declared.walk_fault.WalkFault.{WalkFault}
use Rattle.etm_types.specs.declared.walk_fault.WalkFault.TheVariants as fault
use Rattle.path_walker.specs.declared.pc.Pc.{Pc}
use Rattle.path_walker.specs.declared.pc.Pc.TheVariants.{Known, Awaited, Lost}
use Rattle.path_walker.specs.State.{State, first_state}
use Rattle.path_walker.specs.declared.stretch.Stretch.{Stretch}
use Rattle.path_walker.specs.Start.{context_of, mismatch_of, pc_before, start_by, start_of}
use Rattle.path_walker.specs.Steps.{next_of, stack_after}
use Rattle.path_walker.specs.Walk.{GoesOn, IsPlaced, IsRunBefore, Leads, Shows, Stops, mark_of, takes}
use Rattle.path_walker.specs.Things.{StopsAt, Walks}
use Rattle.path_walker.proofs.OneWalk.{Walk, one_walk}

-- ---- images, and what is given before entries

abbrev nop : List ℕ → List ℕ
nop words = 0x1f ∷ 0x20 ∷ 0x03 ∷ 0xd5 ∷ words

abbrev ret : List ℕ → List ℕ
ret words = 0xc0 ∷ 0x03 ∷ 0x5f ∷ 0xd6 ∷ words

-- 1000: NOP; B.EQ to 100c; NOP; B to 1000. 8000: NOP; ERET
abbrev pub code : Image
code =
    record { start = 0x1000; bytes = nop (0x40 ∷ 0x00 ∷ 0x00 ∷ 0x54 ∷ nop (0xfd ∷ 0xff ∷ 0xff ∷ 0x17 ∷ [])) }
    ∷ record { start = 0x8000; bytes = nop (0xe0 ∷ 0x03 ∷ 0x9f ∷ 0xd6 ∷ []) }
    ∷ []

-- 3000: BL to 3010; B to itself; NOP; NOP; BL to 3018; RET; RET. 5000: BC.EQ. 6000: BLR X1
abbrev calls : Image
calls =
    record { start = 0x3000; bytes = 0x04 ∷ 0x00 ∷ 0x00 ∷ 0x94 ∷ 0x00 ∷ 0x00 ∷ 0x00 ∷ 0x14 ∷ nop (nop (0x02 ∷ 0x00 ∷ 0x00 ∷ 0x94 ∷ ret (ret []))) }
    ∷ record { start = 0x5000; bytes = 0x10 ∷ 0x00 ∷ 0x00 ∷ 0x54 ∷ [] }
    ∷ record { start = 0x6000; bytes = 0x20 ∷ 0x00 ∷ 0x3f ∷ 0xd6 ∷ [] }
    ∷ []

-- a000: ISB. b000: BR X1. c000: ERET
abbrev always : Image
always =
    record { start = 0xa000; bytes = 0xdf ∷ 0x3f ∷ 0x03 ∷ 0xd5 ∷ [] }
    ∷ record { start = 0xb000; bytes = 0x20 ∷ 0x00 ∷ 0x1f ∷ 0xd6 ∷ [] }
    ∷ record { start = 0xc000; bytes = 0xe0 ∷ 0x03 ∷ 0x9f ∷ 0xd6 ∷ [] }
    ∷ []

abbrev pub user : Ctx
user = record { el = 0; ns = true; vmid = 0; cid = 0 }

abbrev kernel : Ctx
kernel = record { el = 1; ns = true; vmid = 0; cid = 0 }

-- trace begins at an address, in a context
abbrev begin : ℕ → Ctx → Pre
begin address ctx = record { flush = true; on = true; lost = true; ctx = Some ctx; addr = Some address }

abbrev given : Option Ctx → ℕ → Pre
given ctx address = record { flush = false; on = false; lost = false; ctx = ctx; addr = Some address }

-- a trace info alone
abbrev informed : Option ℕ → Pre
informed address = record { flush = true; on = false; lost = false; ctx = None; addr = address }

abbrev atom : Pre → Bool → Entry
atom pre taken = record { pre = pre; p0 = Atom taken }

-- an interrupt
abbrev irq : Pre → ℕ → Entry
irq pre address = record { pre = pre; p0 = Exc 14 address }

abbrev pub at : Pc → List ℕ → Ctx → State
at pc stack ctx = record { pc = pc; stack = stack; ctx = ctx }

-- so many instructions from an address on
abbrev ran : Bool → Ctx → ℕ → ℕ → Walked
ran on ctx start count = record { on = on; unknown = false; ctx = ctx; start = start; count = count; took = false; exc = None }

-- the last of them is a conditional branch, and is taken
abbrev ran_taken : Bool → Ctx → ℕ → ℕ → Walked
ran_taken on ctx start count = record (ran on ctx start count) { took = true }

-- none is, and they are begun by a trace on, and an interrupt comes after them
abbrev ran_to : Ctx → ℕ → ℕ → ℕ → Walked
ran_to ctx start count address = record (ran true ctx start count) { exc = Some (record { kind = 14; ret = address }) }

abbrev unknown : Ctx → Option ExcMark → Walked
unknown ctx exc = record { on = false; unknown = true; ctx = ctx; start = 0; count = 0; took = false; exc = exc }

-- ---- how it is shown

none_plain : (image : Image) (address : ℕ) → IsPlainRun image address 0
none_plain image address k below = absurd (omega (arith, below))

pub one_plain : (image : Image) (address : ℕ) → class_at image (behind address 0) ≡ Some Plain → IsPlainRun image address 1
one_plain image address plain zero below = plain
one_plain image address plain (suc k) below = absurd (omega (arith, below))

none_before : (image : Image) (ret address : ℕ) → IsRunBefore image ret address 0
none_before image ret address k below = absurd (omega (arith, below))

one_before : (image : Image) (ret address : ℕ) → behind address 0 ≢ ret → class_at image (behind address 0) ≡ Some Plain → IsRunBefore image ret address 1
one_before image ret address differs plain zero below = (differs, plain)
one_before image ret address differs plain (suc k) below = absurd (omega (arith, below))

-- a P0 instruction after so many plain ones
pub goes : (image : Image) (address : ℕ) (stack : List ℕ) (taken : Bool) (plain : ℕ)
    (class : Class) (pc : Pc) → IsPlainRun image address plain → class_at image (behind address plain) ≡ Some class
    → next_of class (behind address plain) taken ≡ Some pc → GoesOn image address stack taken (plain + 1) pc (stack_after class (behind address plain) stack)
goes image address stack taken plain class pc run there next = record
    { plain = plain; class = class; run = run; there = there; next = next; counted = refl; kept = refl }

-- what an entry shows that leads somewhere
pub shows : (image : Image) (s : State) (entry : Entry) (count : ℕ) (pc : Pc) (stack : List ℕ) → mismatch_of (pc_before s entry.pre) entry.pre.addr ≡ None
    → Leads image (start_of s entry.pre).at (start_of s entry.pre).stack entry.p0 count pc stack
    → Shows image s entry (record {
      on = entry.pre.on;
      unknown = is_none (start_of s entry.pre).at;
      ctx = context_of s entry.pre;
      start = unwrap_or (start_of s entry.pre).at 0;
      count = count;
      took = takes image (start_of s entry.pre).at entry.p0 count;
      exc = mark_of entry.p0;
    })
    (at pc stack (context_of s entry.pre))
shows image s entry count pc stack agrees leads = record
    { agrees = agrees; leads = leads; on = refl; unknown = refl; start = refl; ctx = refl; kept = refl; exc = refl; took = refl }

-- ---- how instructions go on

-- one class of each kind, B and BL, BR and RET, and BLR
abbrev classes : List Class
classes = Plain ∷ Jump (pos 8) false ∷ Jump (pos 8) true ∷ Cond (pos 8) ∷ Isb ∷ Ind false ∷ Ind true ∷ Eret ∷ Odd ∷ []

by_e_atoms :
    map (λ class. next_of class 0x1000 true) classes
    ≡ None ∷ Some (Known 0x1008) ∷ Some (Known 0x1008) ∷ Some (Known 0x1008) ∷ Some (Known 0x1004) ∷ Some (Awaited true) ∷ Some (Awaited false)
    ∷ Some (Awaited false) ∷ None ∷ []
by_e_atoms = refl

by_n_atoms :
    map (λ class. next_of class 0x1000 false) classes ≡ None ∷ None ∷ None ∷ Some (Known 0x1004) ∷ None ∷ None ∷ None ∷ None ∷ None ∷ []
by_n_atoms = refl

stacks_after :
    map (λ class. stack_after class 0x1000 (0x3004 ∷ [])) classes
    ≡ (0x3004 ∷ []) ∷ (0x3004 ∷ []) ∷ (0x1004 ∷ 0x3004 ∷ []) ∷ (0x3004 ∷ []) ∷ (0x3004 ∷ []) ∷ (0x3004 ∷ []) ∷ (0x1004 ∷ 0x3004 ∷ [])
    ∷ (0x3004 ∷ []) ∷ (0x3004 ∷ []) ∷ []
stacks_after = refl

-- ---- where an entry begins

abbrev marked : Bool → Bool → Pre
marked on lost = record { flush = false; on = on; lost = lost; ctx = None; addr = None }

-- trace on makes the address unknown, and so does missing trace, each by itself
known_before :
    map (pc_before (at (Known 0x1000) (0x3004 ∷ []) user)) (marked false false ∷ marked true false ∷ marked false true ∷ marked true true ∷ [])
    ≡ Known 0x1000 ∷ Lost ∷ Lost ∷ Lost ∷ []
known_before = refl

-- an address above the known one is another one, as one below it is; where none is known, or none given, there is nothing to compare
compared :
    map (mismatch_of (Known 0x1000)) (None ∷ Some 0x1000 ∷ Some 0xffc ∷ Some 0x1004 ∷ [])
    ≡ None ∷ None ∷ Some (fault.AddressMismatch 0x1000 0xffc) ∷ Some (fault.AddressMismatch 0x1000 0x1004) ∷ []
compared = refl

not_compared : map (λ pc. mismatch_of pc (Some 0x1000)) (Awaited true ∷ Awaited false ∷ Lost ∷ []) ≡ None ∷ None ∷ None ∷ []
not_compared = refl

-- of two return addresses the newest is taken where it may be, and both are dropped where no address is known
started_untold :
    map (λ pc. start_by None pc (0x3004 ∷ 0x3014 ∷ [])) (Known 0x1000 ∷ Awaited true ∷ Awaited false ∷ Lost ∷ [])
    ≡ record { at = Some 0x1000; stack = 0x3004 ∷ 0x3014 ∷ [] } ∷ record { at = Some 0x3004; stack = 0x3014 ∷ [] }
    ∷ record { at = None; stack = [] } ∷ record { at = None; stack = [] } ∷ []
started_untold = refl

started_told :
    map (λ pc. start_by (Some 0x1000) pc (0x3004 ∷ 0x3014 ∷ [])) (Known 0x1000 ∷ Awaited true ∷ Awaited false ∷ Lost ∷ [])
    ≡ replicate 4 (record { at = Some 0x1000; stack = 0x3004 ∷ 0x3014 ∷ [] })
started_told = refl

-- ---- addresses

-- Trace begins at 1000, and an E atom says that B.EQ branches.
begins : Shows code first_state (atom (begin 0x1000 kernel) true) (ran_taken true kernel 0x1000 2) (at (Known 0x100c) [] kernel)
unfolding class_of
begins = shows code _ _ 2 (Known 0x100c) [] refl (goes code 0x1000 [] true 1 (Cond (pos 8)) (Known 0x100c) (one_plain code 0x1000 refl) refl refl)

-- There 100c comes next, and not 1000. It has B, which can have no N atom.
elsewhere : Stops code (at (Known 0x100c) [] kernel) (atom (given None 0x1000) true) (fault.AddressMismatch 0x100c 0x1000)
elsewhere = inl refl

not_b : Stops code (at (Known 0x100c) [] user) (atom nothing_told false) (fault.BadAtom 0x100c)
unfolding class_of
not_b = inr (refl, (0, none_plain code 0x100c, (refl, refl)))

-- ISB, BR and ERET can have none either.
not_isb : Stops always (at (Known 0xa000) [] user) (atom nothing_told false) (fault.BadAtom 0xa000)
unfolding class_of
not_isb = inr (refl, (0, none_plain always 0xa000, (refl, refl)))

not_br : Stops always (at (Known 0xb000) [] user) (atom nothing_told false) (fault.BadAtom 0xb000)
unfolding class_of
not_br = inr (refl, (0, none_plain always 0xb000, (refl, refl)))

not_eret : Stops always (at (Known 0xc000) [] user) (atom nothing_told false) (fault.BadAtom 0xc000)
unfolding class_of
not_eret = inr (refl, (0, none_plain always 0xc000, (refl, refl)))

-- Nothing stands at 9000, and BC.EQ is not read.
nowhere : Stops code first_state (atom (begin 0x9000 kernel) true) (fault.NoCode 0x9000)
nowhere = inr (refl, (0, none_plain code 0x9000, refl))

not_read : Stops calls first_state (atom (begin 0x5000 kernel) true) (fault.Odd 0x5000)
unfolding class_of
not_read = inr (refl, (0, none_plain calls 0x5000, refl))

-- ---- conditional branches that are taken

-- B.EQ branches by an E atom. By an N atom it does not.
branched : Shows code (at (Known 0x1000) [] user) (atom nothing_told true) (ran_taken false user 0x1000 2) (at (Known 0x100c) [] user)
unfolding class_of
branched = shows code _ _ 2 (Known 0x100c) [] refl (goes code 0x1000 [] true 1 (Cond (pos 8)) (Known 0x100c) (one_plain code 0x1000 refl) refl refl)

passed : Shows code (at (Known 0x1000) [] user) (atom nothing_told false) (ran false user 0x1000 2) (at (Known 0x1008) [] user)
unfolding class_of
passed = shows code _ _ 2 (Known 0x1008) [] refl (goes code 0x1000 [] false 1 (Cond (pos 8)) (Known 0x1008) (one_plain code 0x1000 refl) refl refl)

-- An E atom says no more of B, BR, ISB and ERET than that they were executed: they have no condition.
jumped : Shows code (at (Known 0x1008) [] user) (atom nothing_told true) (ran false user 0x1008 2) (at (Known 0x1000) [] user)
unfolding class_of
jumped =
    shows code _ _ 2 (Known 0x1000) [] refl
    (goes code 0x1008 [] true 1 (Jump (neg_ℤ (pos 12)) false) (Known 0x1000) (one_plain code 0x1008 refl) refl refl)

indirect : Shows always (at (Known 0xb000) [] user) (atom nothing_told true) (ran false user 0xb000 1) (at (Awaited true) [] user)
unfolding class_of
indirect = shows always _ _ 1 (Awaited true) [] refl (goes always 0xb000 [] true 0 (Ind false) (Awaited true) (none_plain always 0xb000) refl refl)

-- So the one E atom is a taken branch, and the other atoms are none.
branched_unmarked : (after : State) → Shows code (at (Known 0x1000) [] user) (atom nothing_told true) (ran false user 0x1000 2) after → ⊥
unfolding class_of
branched_unmarked after other = let e : false ≡ true = other.took in cc

passed_marked : (after : State) → Shows code (at (Known 0x1000) [] user) (atom nothing_told false) (ran_taken false user 0x1000 2) after → ⊥
passed_marked after other = let e : true ≡ false = other.took in cc

jumped_marked : (after : State) → Shows code (at (Known 0x1008) [] user) (atom nothing_told true) (ran_taken false user 0x1008 2) after → ⊥
unfolding class_of
jumped_marked after other = let e : true ≡ false = other.took in cc

indirect_marked : (after : State) → Shows always (at (Known 0xb000) [] user) (atom nothing_told true) (ran_taken false user 0xb000 1) after → ⊥
unfolding class_of
indirect_marked after other = let e : true ≡ false = other.took in cc

-- ---- the place of a stretch, and whether a branch to a register is its last instruction

-- the words of calls have the places 0 to 8, and RET at 3014 has 5
abbrev a_return : ℕ → Bool → Stretch
a_return place to_register = record { start = 0x3014; place = place; count = 1; took = false; to_register = to_register }

return_placed : IsPlaced calls (a_return 5 true)
unfolding class_of
return_placed = record { some = omega arith; place = refl; last = refl }

same_place : (a b : ℕ) → Some a ≡ Some b → a ≡ b
same_place a b e = cc

-- not that of the RET behind it
return_elsewhere : IsPlaced calls (a_return 6 true) → ⊥
return_elsewhere p = let e = same_place 0x3018 0x3014 p.place in absurd (omega (arith, e))

return_unmarked : IsPlaced calls (a_return 5 false) → ⊥
unfolding class_of
return_unmarked p = let e : false ≡ true = p.last in cc

-- NOP; NOP; BL, which goes to an address that it has itself
abbrev a_call : Bool → Stretch
a_call to_register = record { start = 0x3008; place = 2; count = 3; took = false; to_register = to_register }

call_placed : IsPlaced calls (a_call false)
unfolding class_of
call_placed = record { some = omega arith; place = refl; last = refl }

call_marked : IsPlaced calls (a_call true) → ⊥
unfolding class_of
call_marked p = let e : true ≡ false = p.last in cc

-- ---- exceptions

-- B.EQ stands before the return address 1008.
missed : Stops code first_state (irq (begin 0x1000 kernel) 0x1008) (fault.ReturnMissed 0x1004 0x1008)
unfolding class_of
missed = inr (refl, (1, one_before code 0x1008 0x1000 (λ e. absurd (omega (arith, e))) refl, (λ e. absurd (omega (arith, e))), refl))

-- So may a word that is not read, and a place where none is, before the return address.
odd_before : Stops calls first_state (irq (begin 0x5000 kernel) 0x5004) (fault.Odd 0x5000)
unfolding class_of
odd_before = inr (refl, (0, none_before calls 0x5004 0x5000, (λ e. absurd (omega (arith, e))), refl))

none_there : Stops code first_state (irq (begin 0x1008 kernel) 0x2000) (fault.ReturnMissed 0x100c 0x2000)
unfolding class_of
none_there = inr (refl, (1, one_before code 0x2000 0x1008 (λ e. absurd (omega (arith, e))) refl, (λ e. absurd (omega (arith, e))), refl))

no_code_before : Stops code first_state (irq (begin 0x9000 kernel) 0x9004) (fault.NoCode 0x9000)
no_code_before = inr (refl, (0, none_before code 0x9004 0x9000, (λ e. absurd (omega (arith, e))), refl))

-- Where the return address comes at once nothing is shown, and no word is asked for.
at_once : Shows code first_state (irq (begin 0x9000 kernel) 0x9000) (ran_to kernel 0x9000 0 0x9000) (at (Awaited false) [] kernel)
at_once = shows code _ _ 0 (Awaited false) [] refl (none_before code 0x9000 0x9000, refl, refl, refl)

-- ---- return addresses

-- BL puts its return address on the return stack. RET takes the newest off, unless an address is given.
called : Shows calls (at (Known 0x3010) (0x3004 ∷ []) user) (atom nothing_told true)
    (ran false user 0x3010 1) (at (Known 0x3018) (0x3014 ∷ 0x3004 ∷ []) user)
unfolding class_of
called =
    shows calls _ _ 1 (Known 0x3018) (0x3014 ∷ 0x3004 ∷ []) refl
    (goes calls 0x3010 (0x3004 ∷ []) true 0 (Jump (pos 8) true) (Known 0x3018) (none_plain calls 0x3010) refl refl)

returned : Shows calls (at (Awaited true) (0x3014 ∷ 0x3004 ∷ []) user) (atom nothing_told true)
    (ran false user 0x3014 1) (at (Awaited true) (0x3004 ∷ []) user)
unfolding class_of
returned =
    shows calls _ _ 1 (Awaited true) (0x3004 ∷ []) refl
    (goes calls 0x3014 (0x3004 ∷ []) true 0 (Ind false) (Awaited true) (none_plain calls 0x3014) refl refl)

return_given : Shows calls (at (Awaited true) (0x3004 ∷ []) user) (atom (given None 0x3004) true)
    (ran false user 0x3004 1) (at (Known 0x3004) (0x3004 ∷ []) user)
unfolding class_of
return_given =
    shows calls _ _ 1 (Known 0x3004) (0x3004 ∷ []) refl
    (goes calls 0x3004 (0x3004 ∷ []) true 0 (Jump (pos 0) false) (Known 0x3004) (none_plain calls 0x3004) refl refl)

-- After BLR no address is taken off: the place is lost, and the return stack with it.
linked : Shows calls (at (Known 0x6000) [] user) (atom nothing_told true) (ran false user 0x6000 1) (at (Awaited false) (0x6004 ∷ []) user)
unfolding class_of
linked = shows calls _ _ 1 (Awaited false) (0x6004 ∷ []) refl (goes calls 0x6000 [] true 0 (Ind true) (Awaited false) (none_plain calls 0x6000) refl refl)

not_popped : Shows calls (at (Awaited false) (0x6004 ∷ []) user) (atom nothing_told true) (unknown user None) (at Lost [] user)
not_popped = shows calls _ _ 0 Lost [] refl (refl, refl, refl)

-- Of fifteen return addresses the oldest falls out.
fifteen : List ℕ
fifteen = 0 ∷ 4 ∷ 8 ∷ 12 ∷ 16 ∷ 20 ∷ 24 ∷ 28 ∷ 32 ∷ 36 ∷ 40 ∷ 44 ∷ 48 ∷ 52 ∷ 56 ∷ []

sixteenth : Shows calls (at (Known 0x3000) fifteen user) (atom nothing_told true)
    (ran false user 0x3000 1) (at (Known 0x3010) (0x3004 ∷ take 14 fifteen) user)
unfolding class_of fifteen
sixteenth =
    shows calls _ _ 1 (Known 0x3010) (0x3004 ∷ take 14 fifteen) refl
    (goes calls 0x3000 fifteen true 0 (Jump (pos 16) true) (Known 0x3010) (none_plain calls 0x3000) refl refl)

-- Trace info empties the return stack: a full one too, where an address is given. What is known of the next address stays.
emptied_full : Shows calls (at (Awaited true) fifteen user) (atom (informed (Some 0x3004)) true) (ran false user 0x3004 1) (at (Known 0x3004) [] user)
unfolding class_of fifteen
emptied_full =
    shows calls _ _ 1 (Known 0x3004) [] refl
    (goes calls 0x3004 [] true 0 (Jump (pos 0) false) (Known 0x3004) (none_plain calls 0x3004) refl refl)

emptied_known : Shows calls (at (Known 0x3010) (0x3004 ∷ []) user) (atom (informed None) true)
    (ran false user 0x3010 1) (at (Known 0x3018) (0x3014 ∷ []) user)
unfolding class_of
emptied_known =
    shows calls _ _ 1 (Known 0x3018) (0x3014 ∷ []) refl
    (goes calls 0x3010 [] true 0 (Jump (pos 8) true) (Known 0x3018) (none_plain calls 0x3010) refl refl)

-- After an overflow nothing is known of the next address, and no return address is taken off.
overflowed : Shows calls (at (Awaited true) (0x3004 ∷ []) user) (atom trace_missing true) (unknown user None) (at Lost [] user)
overflowed = shows calls _ _ 0 Lost [] refl (refl, refl, refl)

overflowed_known : Shows calls (at (Known 0x3010) (0x3004 ∷ []) user) (atom trace_missing false) (unknown user None) (at Lost [] user)
overflowed_known = shows calls _ _ 0 Lost [] refl (refl, refl, refl)

flushed : Shows calls (at (Awaited true) (0x3004 ∷ []) user) (atom (informed None) true) (unknown user None) (at Lost [] user)
flushed = shows calls _ _ 0 Lost [] refl (refl, refl, refl)

-- Missing trace empties it too, unless an address is given.
lost : Shows code (at (Known 0x1000) (0x3004 ∷ []) user) (irq trace_missing 0x1000)
    (unknown user (Some (record { kind = 14; ret = 0x1000 }))) (at (Awaited false) [] user)
lost = shows code _ _ 0 (Awaited false) [] refl (refl, refl, refl)

found : Shows code (at (Known 0x100c) (0x3004 ∷ []) user) (atom (record { flush = false; on = false; lost = true; ctx = None; addr = Some 0x1000 }) false)
    (ran false user 0x1000 2)
    (at (Known 0x1008) (0x3004 ∷ []) user)
unfolding class_of
found =
    shows code _ _ 2 (Known 0x1008) (0x3004 ∷ []) refl
    (goes code 0x1000 (0x3004 ∷ []) false 1 (Cond (pos 8)) (Known 0x1008) (one_plain code 0x1000 refl) refl refl)

-- ---- what is not shown, since an entry has one walk

abbrev walks_to : Walked → State → Walk
walks_to walked after = Ok (walked, after)

abbrev addresses_kept : Walk → ℕ
addresses_kept (Ok w) = length w.1.stack
addresses_kept (Err f) = 0

-- the full return stack does not stay after a trace info
not_kept : Shows calls (at (Awaited true) fifteen user) (atom (informed (Some 0x3004)) true) (ran false user 0x3004 1) (at (Known 0x3004) fifteen user) → ⊥
unfolding fifteen
not_kept other =
    let kept = walks_to (ran false user 0x3004 1) (at (Known 0x3004) fifteen user) in
    let none : 0 ≡ 15
    = ap addresses_kept (one_walk calls _ _ (walks_to (ran false user 0x3004 1) (at (Known 0x3004) [] user)) kept emptied_full other) in
    omega (arith, none)

-- after an overflow the newest return address is not the next one
not_taken_off : Shows calls (at (Awaited true) (0x3014 ∷ []) user) (atom trace_missing true) (ran false user 0x3014 1) (at (Awaited true) [] user) → ⊥
not_taken_off other =
    let unknown_there = shows calls (at (Awaited true) (0x3014 ∷ []) user) (atom trace_missing true) 0 Lost [] refl (refl, refl, refl) in
    let same = one_walk calls _ _ (walks_to (unknown user None) (at Lost [] user)) (walks_to (ran false user 0x3014 1) _) unknown_there other in cc

-- ISB is not passed by an N atom
not_passed : Shows always (at (Known 0xa000) [] user) (atom nothing_told false) (ran false user 0xa000 1) (at (Known 0xa004) [] user) → ⊥
not_passed other =
    let same = one_walk always _ _ (Err (fault.BadAtom 0xa000)) (walks_to (ran false user 0xa000 1) _) not_isb other in cc

-- ---- a whole trace: an interrupt at 1004 is handled at 8000, ERET comes back, and then B has an N atom

interrupt : Shows code first_state (irq (begin 0x1000 user) 0x1004) (ran_to user 0x1000 1 0x1004) (at (Awaited false) [] user)
unfolding class_of
interrupt = shows code _ _ 1 (Awaited false) [] refl (one_before code 0x1004 0x1000 (λ e. absurd (omega (arith, e))) refl, refl, refl, refl)

handled : Shows code (at (Awaited false) [] user) (atom (given (Some kernel) 0x8000) true) (ran false kernel 0x8000 2) (at (Awaited false) [] kernel)
unfolding class_of
handled = shows code _ _ 2 (Awaited false) [] refl (goes code 0x8000 [] true 1 Eret (Awaited false) (one_plain code 0x8000 refl) refl refl)

back : Shows code (at (Awaited false) [] kernel) (atom (given (Some user) 0x1004) true) (ran_taken false user 0x1004 1) (at (Known 0x100c) [] user)
unfolding class_of
back = shows code _ _ 1 (Known 0x100c) [] refl (goes code 0x1004 [] true 0 (Cond (pos 8)) (Known 0x100c) (none_plain code 0x1004) refl refl)

abbrev before : List Item
before = item.On ∷ item.Instr 0x1000 user false ∷ item.Exc 14 0x1004 ∷ []

abbrev handler : List Item
handler = item.Instr 0x8000 kernel false ∷ item.Instr 0x8004 kernel false ∷ []

abbrev after : List Item
after = item.Instr 0x1004 user true ∷ []

interrupted : Walks code first_state (Seen (irq (begin 0x1000 user) 0x1004)
    ∷ Gap
    ∷ Seen (atom (given (Some kernel) 0x8000) true)
    ∷ Unseen
    ∷ Seen (atom (given (Some user) 0x1004) true)
    ∷ Seen (atom nothing_told false)
    ∷ Stop
    ∷ []) (before ++ item.Gap ∷ handler ++ after) (Err (fault.BadAtom 0x100c))
interrupted =
    inl (
      before,
      item.Gap ∷ handler ++ after,
      at (Awaited false) [] user,
      (_, interrupt, refl),
      inl (
        item.Gap ∷ [],
        handler ++ after,
        at (Awaited false) [] user,
        (refl, refl),
        inl (
          handler,
          after,
          at (Awaited false) [] kernel,
          (_, handled, refl),
          inl (
            [],
            after,
            at (Awaited false) [] kernel,
            (refl, refl),
            inl
                (after, [], at (Known 0x100c) [] user, (_, back, refl), inr (fault.BadAtom 0x100c, not_b, refl, refl), refl),
            refl,
          ),
          refl,
        ),
        refl,
      ),
      refl,
    )

-- ---- things that are not entries

-- A gap and a stop are shown, and a P0 element that was not seen is not. None of them changes where the walk is, and none stops it.
abbrev calling : State
calling = at (Known 0x3010) (0x3004 ∷ []) kernel

passed_by : Walks calls calling (Gap ∷ Unseen ∷ Stop ∷ []) (item.Gap ∷ item.Stop ∷ []) (Ok calling)
passed_by =
    inl (
      item.Gap ∷ [],
      item.Stop ∷ [],
      calling,
      (refl, refl),
      inl ([], item.Stop ∷ [], calling, (refl, refl), inl (item.Stop ∷ [], [], calling, (refl, refl), (refl, refl), refl), refl),
      refl,
    )

no_stop_at_a_gap : (f : WalkFault) → StopsAt calls calling Gap f → ⊥
no_stop_at_a_gap f stops = stops

no_stop_at_a_stop : (f : WalkFault) → StopsAt calls calling Stop f → ⊥
no_stop_at_a_stop f stops = stops

no_stop_at_what_was_not_seen : (f : WalkFault) → StopsAt calls calling Unseen f → ⊥
no_stop_at_what_was_not_seen f stops = stops

-- nothing shows an item, and nothing stops there
no_item_of_nothing : Walks calls calling [] (item.On ∷ []) (Ok calling) → ⊥
no_item_of_nothing walks = cc (walks.0)

no_fault_of_nothing : Walks calls calling [] [] (Err (fault.NoCode 0x3010)) → ⊥
no_fault_of_nothing walks = cc (walks.1)
