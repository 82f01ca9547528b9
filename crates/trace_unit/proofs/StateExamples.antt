-- What each effect and each order changes of what a unit keeps, and what each tells: where everything is set, and where nothing is.
use Rattle.std.proofs.Common.{◌≡◌, ℕ, Bool, true, false, List, [], ◌∷◌, ◌++◌, map, replicate, Option, Some, None, refl, ◌^◌, ◌-◌}
use Rattle.a64_branches.specs.Classes.{class_of}
use Rattle.atom_formats.specs.Bytes.{byte_of}
use Rattle.atom_formats.specs.Formats.{atom_formats}
use Rattle.element_queue.specs.declared.ledger.Counts.{Counts}
use Rattle.etm_types.specs.declared.address.AddrForm.TheVariants.{Match, Short1, Short2, Long32, Long64}
use Rattle.etm_types.specs.declared.atoms.FewAtoms.{FewAtoms}
use Rattle.etm_types.specs.declared.context.Ctx.{Ctx}
use Rattle.etm_types.specs.declared.context.CtxBits.{CtxBits}
use Rattle.etm_types.specs.declared.element.Elem.{Elem}
use Rattle.etm_types.specs.declared.element.Elem.TheVariants as elem
use Rattle.etm_types.specs.declared.element.P0.TheVariants as p0
use Rattle.packet_grammar.specs.declared.packet.Packet.{Packet}
use Rattle.packet_grammar.specs.declared.packet.Packet.TheVariants as packet
use Rattle.program_image.specs.Part.{Part}
use Rattle.spec_run.specs.Runs.{ByOff, ByOverflow, Running}
use Rattle.spec_run.specs.declared.effect.Effect.{Effect}
use Rattle.spec_run.specs.declared.effect.Effect.TheVariants as effect
use Rattle.spec_run.specs.declared.step.RunStep.{RunStep}
use Rattle.spec_run.specs.declared.step.StepKind.{StepKind}
use Rattle.spec_run.specs.declared.step.StepKind.TheVariants as kind
use Rattle.trace_unit.specs.Effects.{counts_by, orders_on, places_on}
use Rattle.trace_unit.specs.Orders.{Address, Branch, Cancel, Close, Context, Exception, ExceptionAtTarget, Flip, On, Order, Place, Retire}
use Rattle.trace_unit.specs.Orders.{Settle, Start, Sync, Tell}
use Rattle.trace_unit.specs.Packets.{Shared, flip_packet, notice_packets, nothing_shared, packets_of, run_of, shared_after}
use Rattle.trace_unit.specs.Places.{Places, Saved, no_places}
use Rattle.trace_unit.specs.Told.{told}
use Rattle.trace_unit.specs.Whole.{PutOff, is_full, nothing_waits, waits, whole}

abbrev program : Ctx
program = record { el = 0; ns = true; vmid = 5; cid = 7 }

abbrev handler : Ctx
handler = record { el = 1; ns = true; vmid = 6; cid = 7 }

-- ---- a run with a call, a plain step and a branch that are held

-- at 0x2004: B.EQ to 0x200c
abbrev code : List Part
code = record { start = 0x2004; bytes = 0x40 ∷ 0x00 ∷ 0x00 ∷ 0x54 ∷ [] } ∷ []

abbrev step : ℕ → Ctx → StepKind → ℕ → Bool → RunStep
step addr ctx kind next link = record { addr = addr; ctx = ctx; kind = kind; next = next; link = link }

abbrev held : List RunStep
held = step 0x1000 handler kind.Jump 0x2000 true ∷ step 0x2000 program kind.Plain 0x2004 false ∷ step 0x2004 program (kind.Cond true) 0x200c false ∷ []

abbrev running : Option Running
running = Some (record { start = 0x1000; retired = []; held = held; pc = 0x200c; ctx = program })

-- ---- places

abbrev saved : List ℕ → Ctx → ℕ → Saved
saved stack context start = record { stack = stack; context = context; start = start }

abbrev first : Saved
first = saved (0x3004 ∷ []) handler 0x1000

abbrev second : Saved
second = saved (0x1004 ∷ 0x3004 ∷ []) program 0x2000

abbrev loud : Places
loud = record { stack = 0x1004 ∷ 0x3004 ∷ []; saved = first ∷ second ∷ []; needs = true; start = 0x200c; reader_context = handler }

abbrev quiet : Places
quiet = record { stack = []; saved = []; needs = false; start = 0x200c; reader_context = program }

pub no_place : no_places ≡ record { stack = []; saved = []; needs = false; start = 0; reader_context = record { el = 0; ns = false; vmid = 0; cid = 0 } }
no_place = refl

-- P0 steps at 0x4000, behind the branch: what is saved of each is as the places were, and two return addresses stand at most
abbrev ran : StepKind → ℕ → Bool → Effect
ran kind next link = effect.Ran (step 0x4000 program kind next link) handler

abbrev behind : List ℕ → Bool → ℕ → Places
behind stack needs start =
    record {
      stack = stack;
      saved = first ∷ second ∷ saved (0x1004 ∷ 0x3004 ∷ []) program 0x200c ∷ [];
      needs = needs;
      start = start;
      reader_context = program;
    }

pub behind_each_step :
    map (places_on code 4 2 running loud)
    (ran kind.Plain 0x4004 false ∷ ran kind.Isb 0x4004 false ∷ ran kind.Jump 0x5000 false ∷ ran kind.Jump 0x5000 true ∷ ran (kind.Cond true) 0x5000 false
    ∷ ran (kind.Cond false) 0x4004 false ∷ ran (kind.Ind false) 0x1004 false ∷ ran (kind.Ind false) 0x3004 false ∷ ran (kind.Ind true) 0x1004 true
    ∷ ran kind.Eret 0x1004 false ∷ ran (kind.Exc 3) 0x1004 false ∷ [])
    ≡ loud
    ∷ behind (0x1004 ∷ 0x3004 ∷ []) false 0x4004
    ∷ behind (0x1004 ∷ 0x3004 ∷ []) false 0x5000
    ∷ behind (0x4004 ∷ 0x1004 ∷ []) false 0x5000
    ∷ behind (0x1004 ∷ 0x3004 ∷ []) false 0x5000
    ∷ behind (0x1004 ∷ 0x3004 ∷ []) false 0x4004
    ∷ behind (0x3004 ∷ []) false 0x1004
    ∷ behind (0x1004 ∷ 0x3004 ∷ []) true 0x3004
    ∷ behind (0x4004 ∷ 0x1004 ∷ []) true 0x1004
    ∷ behind (0x1004 ∷ 0x3004 ∷ []) true 0x1004
    ∷ behind (0x1004 ∷ 0x3004 ∷ []) true 0x1004
    ∷ []
behind_each_step = refl

-- a return where there is no return address; and at depth 0, where nothing is saved
pub behind_a_return_at_depth_0 :
    places_on code 0 2 running quiet (ran (kind.Ind false) 0x1004 false) ∷ places_on code 0 2 running loud (ran (kind.Ind false) 0x1004 false) ∷ []
    ≡ record { stack = []; saved = []; needs = true; start = 0x1004; reader_context = program }
    ∷ record { stack = 0x3004 ∷ []; saved = first ∷ second ∷ []; needs = false; start = 0x1004; reader_context = program } ∷ []
behind_a_return_at_depth_0 = refl

-- places are kept of P0 steps alone: of the three held steps two are
pub behind_each_effect :
    map (places_on code 4 2 running loud)
    (effect.Retired 1 ∷ effect.Retired 2 ∷ effect.Retired 3 ∷ effect.Cancelled 1 ∷ effect.Cancelled 2 ∷ effect.Cancelled 3 ∷ effect.Cancelled 0
    ∷ effect.Flipped ∷ effect.Synced ∷ effect.Overflowed ∷ effect.Stopped ∷ effect.Contexted program ∷ effect.Began 0x7000 program ∷ [])
    ≡ record loud { saved = second ∷ [] }
    ∷ record loud { saved = second ∷ [] }
    ∷ record loud { saved = [] }
    ∷ record { stack = 0x1004 ∷ 0x3004 ∷ []; saved = first ∷ []; needs = false; start = 0x2000; reader_context = program }
    ∷ record { stack = 0x1004 ∷ 0x3004 ∷ []; saved = first ∷ []; needs = false; start = 0x2000; reader_context = program }
    ∷ record { stack = 0x3004 ∷ []; saved = []; needs = false; start = 0x1000; reader_context = handler }
    ∷ loud
    ∷ record loud { needs = false; start = 0x2008 }
    ∷ record { stack = []; saved = saved [] handler 0x1000 ∷ saved [] program 0x2000 ∷ []; needs = false; start = 0x200c; reader_context = program }
    ∷ record loud { saved = [] }
    ∷ record loud { saved = [] }
    ∷ loud
    ∷ loud
    ∷ []
unfolding class_of
behind_each_effect = refl

pub while_off :
    map (places_on code 4 2 None loud)
    (effect.Began 0x7000 program ∷ ran kind.Jump 0x5000 true ∷ effect.Retired 1 ∷ effect.Cancelled 1 ∷ effect.Flipped ∷ effect.Synced ∷ effect.Overflowed
    ∷ effect.Stopped ∷ effect.Contexted program ∷ [])
    ≡ record { stack = []; saved = []; needs = false; start = 0x7000; reader_context = program } ∷ replicate 8 loud
while_off = refl

-- ---- counts of P0 steps

abbrev counts : ℕ → ℕ → ℕ → ℕ → Counts
counts made committed cancelled lost = record { made = made; committed = committed; cancelled = cancelled; lost = lost }

abbrev so_far : Counts
so_far = counts 10 20 30 40

-- plain steps are in no count: of the three held steps two are P0 steps, and so one of the two oldest and one of the newest
pub counted_of_each_effect :
    map (counts_by 4 running so_far)
    (ran kind.Jump 0x5000 true ∷ ran kind.Plain 0x4004 false ∷ effect.Retired 2 ∷ effect.Retired 3 ∷ effect.Cancelled 1 ∷ effect.Cancelled 3
    ∷ effect.Overflowed ∷ effect.Stopped ∷ effect.Flipped ∷ effect.Synced ∷ effect.Contexted program ∷ effect.Began 0x7000 program ∷ [])
    ≡ counts 11 20 30 40 ∷ so_far ∷ counts 10 21 30 40 ∷ counts 10 22 30 40 ∷ counts 10 20 31 40 ∷ counts 10 20 32 40
    ∷ counts 10 20 30 42 ∷ counts 10 20 30 42 ∷ so_far ∷ so_far ∷ so_far ∷ so_far ∷ []
counted_of_each_effect = refl

-- at depth 0 a P0 step is retired as it is executed; each count goes round, and where tracing is off nothing counts
pub counted_at_depth_0 : counts_by 0 running (counts 10 (2 ^ 64 - 1) 30 40) (ran kind.Jump 0x5000 true) ∷ counts_by 0 running (counts (2 ^ 64 - 1) 20 30 40) (ran kind.Jump 0x5000 true) ∷ []
    ≡ counts 11 0 30 40 ∷ counts 0 21 30 40 ∷ []
counted_at_depth_0 = refl

pub counts_go_round : counts_by 4 running (counts (2 ^ 64 - 1) 20 30 40) (ran kind.Jump 0x5000 true) ∷ counts_by 4 running (counts 10 20 (2 ^ 64 - 1) 40) (effect.Cancelled 3)
    ∷ counts_by 4 running (counts 10 (2 ^ 64 - 1) 30 40) (effect.Retired 3) ∷ counts_by 4 running (counts 10 20 30 (2 ^ 64 - 1)) effect.Stopped ∷ []
    ≡ counts 0 20 30 40 ∷ counts 10 20 1 40 ∷ counts 10 1 30 40 ∷ counts 10 20 30 1 ∷ []
counts_go_round = refl

pub uncounted_while_off :
    map (counts_by 4 None so_far)
    (effect.Began 0x7000 program ∷ ran kind.Jump 0x5000 true ∷ effect.Retired 1 ∷ effect.Cancelled 1 ∷ effect.Overflowed ∷ effect.Stopped ∷ [])
    ≡ replicate 6 so_far
uncounted_while_off = refl

-- ---- orders

-- the begun block lacks its address and the context, one of them, or neither; an exception at its start, and one elsewhere
abbrev stepped : Places → Ctx → StepKind → ℕ → List Order
stepped p ctx kind addr = orders_on running p (effect.Ran (step addr ctx kind 0x5000 false) program)

pub before_steps :
    stepped loud program (kind.Cond false) 0x4000
    ∷ stepped loud handler (kind.Cond true) 0x4000
    ∷ stepped quiet handler kind.Jump 0x4000
    ∷ stepped quiet program (kind.Ind false) 0x4000
    ∷ stepped quiet program kind.Isb 0x4000
    ∷ stepped quiet program kind.Eret 0x4000
    ∷ stepped loud program kind.Plain 0x4000
    ∷ stepped loud program (kind.Exc 3) 0x4000
    ∷ stepped loud program (kind.Exc 3) 0x200c
    ∷ stepped loud handler (kind.Exc 3) 0x200c
    ∷ stepped quiet program (kind.Exc 3) 0x200c
    ∷ stepped loud handler kind.Jump 0x200c
    ∷ []
    ≡ (Tell (Place 0x200c program) ∷ Branch false ∷ [])
    ∷ (Tell (Address 0x200c) ∷ Branch true ∷ [])
    ∷ (Tell (Context handler) ∷ Branch true ∷ [])
    ∷ (Branch true ∷ [])
    ∷ (Branch true ∷ [])
    ∷ (Branch true ∷ [])
    ∷ []
    ∷ (Tell (Place 0x200c program) ∷ Exception 3 0x4000 ∷ [])
    ∷ (ExceptionAtTarget (Some program) 3 0x200c ∷ [])
    ∷ (ExceptionAtTarget None 3 0x200c ∷ [])
    ∷ (Exception 3 0x200c ∷ [])
    ∷ (Tell (Address 0x200c) ∷ Branch true ∷ [])
    ∷ []
before_steps = refl

pub of_each_effect :
    map (orders_on running loud)
    (effect.Retired 1 ∷ effect.Retired 3 ∷ effect.Cancelled 2 ∷ effect.Cancelled 3 ∷ effect.Flipped ∷ effect.Synced ∷ effect.Overflowed ∷ effect.Stopped
    ∷ effect.Contexted handler ∷ effect.Began 0x7000 program ∷ [])
    ≡ (Retire 1 ∷ []) ∷ (Retire 2 ∷ []) ∷ (Cancel 1 ∷ []) ∷ (Cancel 2 ∷ []) ∷ (Flip ∷ [])
    ∷ (Settle ∷ Tell (Sync 2) ∷ Tell (Start 0x200c program) ∷ []) ∷ (Close ByOverflow ∷ []) ∷ (Close ByOff ∷ []) ∷ [] ∷ [] ∷ []
of_each_effect = refl

pub of_none_while_off :
    map (orders_on None loud)
    (effect.Began 0x7000 program ∷ effect.Retired 1 ∷ effect.Cancelled 1 ∷ effect.Flipped ∷ effect.Synced ∷ effect.Overflowed ∷ effect.Stopped
    ∷ effect.Contexted handler ∷ ran kind.Jump 0x5000 true ∷ [])
    ≡ (Tell (Sync 0) ∷ Tell On ∷ Tell (Start 0x7000 program) ∷ []) ∷ replicate 8 []
of_none_while_off = refl

-- ---- what orders tell at once

abbrev orders : List Order
orders =
    Tell (Sync 2) ∷ Tell On ∷ Tell (Start 0x1000 program) ∷ Tell (Place 0x1004 handler) ∷ Tell (Address 0x1008) ∷ Tell (Context program) ∷ Branch true
    ∷ Branch false ∷ Exception 3 0x100c ∷ ExceptionAtTarget None 4 0x1010 ∷ ExceptionAtTarget (Some handler) 5 0x1014 ∷ Retire 0 ∷ Retire 2 ∷ Cancel 0
    ∷ Cancel 3 ∷ Flip ∷ Settle ∷ Close ByOverflow ∷ Close ByOff ∷ []

pub told_at_once :
    map told orders
    ≡ (elem.Info 2 ∷ []) ∷ (elem.On ∷ []) ∷ (elem.Ctx program ∷ elem.Addr 0x1000 ∷ []) ∷ (elem.Ctx handler ∷ elem.Addr 0x1004 ∷ [])
    ∷ (elem.Addr 0x1008 ∷ []) ∷ (elem.Ctx program ∷ []) ∷ (elem.P0 (p0.Atom true) ∷ []) ∷ (elem.P0 (p0.Atom false) ∷ [])
    ∷ (elem.P0 (p0.Exc 3 0x100c) ∷ []) ∷ (elem.Addr 0x1010 ∷ elem.P0 (p0.Exc 4 0x1010) ∷ [])
    ∷ (elem.Ctx handler ∷ elem.Addr 0x1014 ∷ elem.P0 (p0.Exc 5 0x1014) ∷ []) ∷ [] ∷ (elem.Commit 2 ∷ []) ∷ [] ∷ (elem.Cancel 3 ∷ [])
    ∷ (elem.Flip ∷ []) ∷ [] ∷ (elem.Overflow ∷ []) ∷ (elem.Discard ∷ []) ∷ []
told_at_once = refl

-- ---- what is put off: two atoms, a cancel and two commits, where the reader holds three P0 elements; and a cancel behind which no atom is held

abbrev put_off : List Bool → ℕ → ℕ → ℕ → PutOff
put_off atoms cancels commits held = record { atoms = atoms; cancels = cancels; commits = commits; held = held }

abbrev some_wait : PutOff
some_wait = put_off (true ∷ false ∷ []) 1 2 3

abbrev no_atoms_wait : PutOff
no_atoms_wait = put_off [] 2 1 3

pub none_wait : nothing_waits ≡ put_off [] 0 0 0
none_wait = refl

abbrev notice : List PutOff
notice = replicate 6 (put_off [] 0 1 3)

-- at depth 3 the second atom commits the oldest P0 element, and an exception one more
pub waits_behind :
    map (waits 3 some_wait) orders
    ≡ notice ++ put_off (true ∷ false ∷ true ∷ []) 1 2 3 ∷ put_off (true ∷ false ∷ false ∷ []) 1 2 3 ∷ put_off [] 0 0 3 ∷ put_off [] 0 0 3
    ∷ put_off [] 0 0 3 ∷ some_wait ∷ put_off (true ∷ false ∷ []) 1 4 3 ∷ some_wait ∷ put_off [] 2 2 3 ∷ put_off (true ∷ true ∷ []) 1 2 3
    ∷ put_off [] 0 0 2 ∷ put_off [] 0 0 0 ∷ put_off [] 0 0 0 ∷ []
waits_behind = refl

-- at depth 5 there is room for the atoms and the exception
pub waits_with_room :
    map (waits 5 some_wait) (Tell On ∷ Exception 3 0x100c ∷ Settle ∷ Close ByOff ∷ [])
    ≡ put_off [] 0 2 4 ∷ put_off [] 0 2 5 ∷ put_off [] 0 0 2 ∷ put_off [] 0 0 0 ∷ []
waits_with_room = refl

-- at depth 0 an atom or an exception is retired at once, and the reader holds none
pub waits_at_depth_0 :
    map (waits 0 (put_off (true ∷ []) 0 1 0)) (Tell On ∷ Branch false ∷ Exception 3 0x100c ∷ Settle ∷ [])
    ≡ put_off [] 0 0 0 ∷ put_off (true ∷ false ∷ []) 0 2 0 ∷ put_off [] 0 0 0 ∷ put_off [] 0 0 0 ∷ []
waits_at_depth_0 = refl

-- an atom that was written is flipped behind the cancel, and one of those that are held takes no cancel
pub waits_without_atoms :
    map (waits 3 no_atoms_wait) (Flip ∷ Cancel 2 ∷ Branch true ∷ [])
    ≡ put_off [] 0 1 1 ∷ put_off [] 4 1 3 ∷ put_off (true ∷ []) 2 1 3 ∷ []
waits_without_atoms = refl

pub taken_back : map (waits 3 some_wait) (Cancel 1 ∷ Cancel 2 ∷ []) ≡ put_off (true ∷ []) 1 2 3 ∷ put_off [] 1 2 3 ∷ []
taken_back = refl

-- 24 atoms are one packet more than is held
pub full : map (λ n. is_full (put_off (replicate n true) 0 0 0)) (0 ∷ 23 ∷ 24 ∷ []) ≡ false ∷ false ∷ true ∷ []
full = refl

abbrev out : List Elem → List Elem
out elements = elem.Cancel 1 ∷ elem.P0 (p0.Atom true) ∷ elem.P0 (p0.Atom false) ∷ elements

pub elements_behind :
    map (whole 3 some_wait) orders
    ≡ out (elem.Info 2 ∷ []) ∷ out (elem.On ∷ []) ∷ out (elem.Ctx program ∷ elem.Addr 0x1000 ∷ []) ∷ out (elem.Ctx handler ∷ elem.Addr 0x1004 ∷ [])
    ∷ out (elem.Addr 0x1008 ∷ []) ∷ out (elem.Ctx program ∷ []) ∷ [] ∷ [] ∷ out (elem.P0 (p0.Exc 3 0x100c) ∷ [])
    ∷ out (elem.Addr 0x1010 ∷ elem.P0 (p0.Exc 4 0x1010) ∷ []) ∷ out (elem.Ctx handler ∷ elem.Addr 0x1014 ∷ elem.P0 (p0.Exc 5 0x1014) ∷ [])
    ∷ [] ∷ [] ∷ [] ∷ [] ∷ [] ∷ out (elem.Commit 1 ∷ []) ∷ out (elem.Commit 1 ∷ elem.Overflow ∷ []) ∷ out (elem.Commit 1 ∷ elem.Discard ∷ []) ∷ []
elements_behind = refl

pub elements_without_atoms :
    map (whole 3 no_atoms_wait) (Flip ∷ Cancel 1 ∷ Settle ∷ []) ≡ (elem.Cancel 2 ∷ elem.Flip ∷ []) ∷ [] ∷ (elem.Cancel 2 ∷ elem.Commit 1 ∷ []) ∷ []
elements_without_atoms = refl

-- ---- packets, against what both ends have

abbrev shared : Shared
shared = record { history = 0x0000000500001000 ∷ 0x2000 ∷ 0x0000000500003000 ∷ []; context = handler }

pub none_shared : nothing_shared ≡ record { history = 0 ∷ 0 ∷ 0 ∷ []; context = record { el = 0; ns = false; vmid = 0; cid = 0 } }
none_shared = refl

abbrev bits : ℕ → Option ℕ → CtxBits
bits el vmid = record { el = el; ns = true; vmid = vmid; cid = None }

pub packets_of_notices :
    map (notice_packets shared)
    (Sync 0 ∷ Sync 2 ∷ On ∷ Start 0x0000000500001000 program ∷ Place 0x00000005fffffffc program ∷ Place 0x0000000600001000 handler ∷ Address 0x2000
    ∷ Address 0x0000000500001004 ∷ Address 0x0000000500011004 ∷ Address 0x0000000500031004 ∷ Address 0x0000000600001004 ∷ Context handler
    ∷ Context program ∷ [])
    ≡ (packet.Async ∷ packet.Info (Some 0) None None None ∷ []) ∷ (packet.Async ∷ packet.Info (Some 0) None (Some 2) None ∷ []) ∷ (packet.On ∷ [])
    ∷ (packet.Addr (Long64 0x0000000500001000) (Some (bits 0 (Some 5))) ∷ []) ∷ (packet.Addr (Long32 0xfffffffc) (Some (bits 0 (Some 5))) ∷ [])
    ∷ (packet.Addr (Long64 0x0000000600001000) (Some (bits 1 None)) ∷ []) ∷ (packet.Addr (Match 1) None ∷ []) ∷ (packet.Addr (Short1 0x4) None ∷ [])
    ∷ (packet.Addr (Short2 0x11004) None ∷ []) ∷ (packet.Addr (Long32 0x31004) None ∷ []) ∷ (packet.Addr (Long64 0x0000000600001004) None ∷ [])
    ∷ (packet.CtxSame ∷ []) ∷ (packet.CtxInfo (bits 0 (Some 5)) ∷ []) ∷ []
packets_of_notices = refl

abbrev out_packets : List Packet → List Packet
out_packets packets = packet.Cancel 1 false ∷ packet.Atoms (record { count = 2; bits = 1 }) ∷ packets

abbrev no_atoms : FewAtoms
no_atoms = record { count = 0; first = false }

pub packets_behind :
    map (packets_of 3 some_wait shared)
    (Tell On ∷ Branch true ∷ Exception 3 0x2000 ∷ ExceptionAtTarget None 4 0x2000 ∷ ExceptionAtTarget (Some program) 5 0x0000000500002000 ∷ Retire 2
    ∷ Cancel 1 ∷ Flip ∷ Settle ∷ Close ByOverflow ∷ Close ByOff ∷ [])
    ≡ out_packets (packet.On ∷ []) ∷ [] ∷ out_packets (packet.Exc 3 false ∷ packet.Addr (Match 1) None ∷ [])
    ∷ out_packets (packet.Exc 4 true ∷ packet.Addr (Match 1) None ∷ [])
    ∷ out_packets (packet.Exc 5 true ∷ packet.Addr (Long32 0x2000) (Some (bits 0 (Some 5))) ∷ []) ∷ [] ∷ [] ∷ [] ∷ out_packets (packet.Commit 1 ∷ [])
    ∷ out_packets (packet.Commit 1 ∷ packet.Overflow ∷ []) ∷ out_packets (packet.Commit 1 ∷ packet.Discard ∷ []) ∷ []
unfolding atom_formats byte_of
packets_behind = refl

pub packets_without_atoms :
    map (packets_of 3 no_atoms_wait shared) (Flip ∷ Settle ∷ Tell On ∷ [])
    ≡ (packet.Cancel3 false 2 ∷ []) ∷ (packet.Cancel 2 false ∷ packet.Commit 1 ∷ []) ∷ (packet.Cancel 2 false ∷ packet.On ∷ []) ∷ []
unfolding atom_formats byte_of
packets_without_atoms = refl

pub packets_of_flips :
    map flip_packet (0 ∷ 1 ∷ 2 ∷ 5 ∷ 6 ∷ [])
    ≡ packet.Mispredict no_atoms ∷ packet.Cancel2 no_atoms ∷ packet.Cancel3 false 2 ∷ packet.Cancel3 false 5 ∷ packet.Cancel 6 true ∷ []
packets_of_flips = refl

-- bit 0 is the oldest atom
pub runs : map run_of ((true ∷ []) ∷ (false ∷ true ∷ true ∷ []) ∷ []) ≡ record { count = 1; bits = 1 } ∷ record { count = 3; bits = 6 } ∷ []
runs = refl

abbrev pushed : ℕ → Ctx → Shared
pushed addr context = record { history = addr ∷ 0x0000000500001000 ∷ 0x2000 ∷ []; context = context }

pub shared_behind :
    map (shared_after shared) orders
    ≡ record { history = 0 ∷ 0 ∷ 0 ∷ []; context = record { el = 0; ns = false; vmid = 0; cid = 0 } } ∷ shared ∷ pushed 0x1000 program
    ∷ pushed 0x1004 handler ∷ pushed 0x1008 handler ∷ record { history = 0x0000000500001000 ∷ 0x2000 ∷ 0x0000000500003000 ∷ []; context = program }
    ∷ shared ∷ shared ∷ pushed 0x100c handler ∷ pushed 0x1010 handler ∷ pushed 0x1014 handler ∷ shared ∷ shared ∷ shared ∷ shared ∷ shared ∷ shared
    ∷ shared ∷ shared ∷ []
shared_behind = refl
