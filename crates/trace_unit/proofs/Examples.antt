-- Runs over small images: their orders, and the elements that these tell at once and in the whole form.
use Rattle.std.proofs.Common.{◌≡◌, ℕ, true, false, List, [], ◌∷◌, Option, Some, None, Result, Ok, Err, ◌++◌, replicate, refl, sym, ap, subst, ◌∙◌, arith}
use Rattle.a64_branches.specs.Classes.{class_of}
use Rattle.etm_types.specs.Settings.{FitsSettings, Sizes}
use Rattle.etm_types.specs.declared.context.Ctx.{Ctx}
use Rattle.etm_types.specs.declared.element.Elem.TheVariants as elem
use Rattle.etm_types.specs.declared.element.P0.TheVariants as p0
use Rattle.etm_types.specs.declared.item.Item.{Item}
use Rattle.etm_types.specs.declared.item.Item.TheVariants as item
use Rattle.program_image.specs.Part.{Part}
use Rattle.spec_run.specs.RetiredItems.{retired_of}
use Rattle.spec_run.specs.RunAfter.{AreEvents, run_after}
use Rattle.program_image.specs.Blocks.{HasGap}
use Rattle.element_queue.specs.Resolved.{Resolved, resolve_all, unresolved}
use Rattle.path_walker.specs.State.{State, first_state}
use Rattle.path_walker.specs.Things.{Walks}
use Rattle.trace_unit.proofs.AllEvents.{told_shows}
use Rattle.trace_unit.proofs.RunOrders.{whole_shows}
use Rattle.spec_run.specs.Runs.{ByOff, ByOverflow, Execution}
use Rattle.spec_run.specs.declared.event.Event.{Event}
use Rattle.spec_run.specs.declared.event.Event.TheVariants as event
use Rattle.spec_run.specs.declared.run_fault.RunFault.{RunFault}
use Rattle.trace_unit.specs.Effects.{orders}
use Rattle.trace_unit.specs.Orders.{Address, Branch, Cancel, Close, Context, Exception, Flip, On, Order, Place, Retire, Settle, Start, Sync, Tell}
use Rattle.trace_unit.specs.Told.{all_told}
use Rattle.trace_unit.specs.Whole.{whole_settled}
use Rattle.atom_formats.specs.Bytes.{byte_of}
use Rattle.atom_formats.specs.Formats.{atom_formats}

abbrev pub program : Ctx
program = record { el = 0; ns = true; vmid = 5; cid = 7 }

abbrev pub handler : Ctx
handler = record { el = 1; ns = true; vmid = 5; cid = 7 }

abbrev pub sizes : ℕ → Sizes
sizes depth = record { depth = depth; vmid_bytes = 1; cid_bytes = 4 }

-- an instruction that is no conditional branch, or not taken
abbrev pub ran : ℕ → Ctx → Item
ran address ctx = item.Instr address ctx false

-- the retired path, where each event is accepted
abbrev pub path_of : Result Execution (ℕ × RunFault) → Option (List Item)
path_of (Ok x) = Some (retired_of x)
path_of (Err refusal) = None

-- from 0x1000: NOP, ISB, B.EQ to 0x1010, BL to 0x1000, BR, ERET, DRPS
abbrev pub code : List Part
code =
    record {
      start = 0x1000;
      bytes =
          0x1f ∷ 0x20 ∷ 0x03 ∷ 0xd5 ∷ 0xdf ∷ 0x3f ∷ 0x03 ∷ 0xd5 ∷ 0x40 ∷ 0x00 ∷ 0x00 ∷ 0x54 ∷ 0xfd ∷ 0xff ∷ 0xff ∷ 0x97 ∷ 0x00 ∷ 0x00 ∷ 0x1f ∷ 0xd6
          ∷ 0xe0 ∷ 0x03 ∷ 0x9f ∷ 0xd6 ∷ 0xe0 ∷ 0x03 ∷ 0xbf ∷ 0xd6 ∷ [];
    }
    ∷ []

-- at 0x1000: B.EQ to itself
abbrev pub loop : List Part
loop =
    record {
      start = 0x1000;
      bytes = 0x00 ∷ 0x00 ∷ 0x00 ∷ 0x54 ∷ [];
    }
    ∷ []

-- ---- a flip, cancels, a synchronisation, an overflow; then a return that is taken off the return stack, and exceptions

abbrev pub mixed : List Event
mixed =
    event.On 0x1000 program ∷ event.Step ∷ event.Step ∷ event.Taken ∷ event.Flip ∷ event.Taken ∷ event.Step ∷ event.Step ∷ event.Cancel 2
    ∷ event.Retire 2 ∷ event.Step ∷ event.Sync ∷ event.Step ∷ event.Context handler ∷ event.NotTaken ∷ event.Retire 3
    ∷ event.Exc 5 0x1010 program ∷ event.To 0x1014 ∷ event.Retire 2 ∷ event.Overflow ∷ event.On 0x100c handler ∷ event.Taken ∷ event.Step
    ∷ event.Step ∷ event.Taken ∷ event.Retire 2 ∷ event.To 0x1010 ∷ event.To 0x1014 ∷ event.Cancel 2 ∷ event.Exc 3 0x1010 handler
    ∷ event.Retire 2 ∷ event.To 0x1010 ∷ event.To 0x1014 ∷ event.Eret 0x1008 program ∷ event.Retire 3 ∷ event.NotTaken ∷ event.Retire 1
    ∷ event.Off ∷ []

abbrev mixed_orders : List Order
mixed_orders =
    Tell (Sync 0) ∷ Tell On ∷ Tell (Start 0x1000 program) ∷ Branch true ∷ Branch true ∷ Flip ∷ Branch true ∷ Branch true ∷ Cancel 1 ∷ Retire 1
    ∷ Settle ∷ Tell (Sync 2) ∷ Tell (Start 0x1000 program) ∷ Branch true ∷ Tell (Context handler) ∷ Branch false ∷ Retire 2 ∷ Exception 5 0x100c
    ∷ Tell (Place 0x1010 program) ∷ Branch true ∷ Retire 2 ∷ Close ByOverflow ∷ Tell (Sync 0) ∷ Tell On ∷ Tell (Start 0x100c handler)
    ∷ Branch true ∷ Branch true ∷ Branch true ∷ Retire 1 ∷ Branch true ∷ Branch true ∷ Cancel 2 ∷ Exception 3 0x1010 ∷ Retire 2
    ∷ Tell (Address 0x1010) ∷ Branch true ∷ Branch true ∷ Tell (Address 0x1014) ∷ Branch true ∷ Retire 3 ∷ Tell (Place 0x1008 program)
    ∷ Branch false ∷ Retire 1 ∷ Close ByOff ∷ []

abbrev mixed_items : List Item
mixed_items =
    item.On ∷ ran 0x1000 program ∷ ran 0x1004 program ∷ ran 0x1008 program ∷ ran 0x100c program ∷ ran 0x1000 program ∷ ran 0x1004 program
    ∷ ran 0x1008 handler ∷ item.Gap ∷ item.On ∷ ran 0x100c handler ∷ ran 0x1000 handler ∷ ran 0x1004 handler ∷ item.Instr 0x1008 handler true
    ∷ item.Exc 3 0x1010 ∷ ran 0x1010 handler ∷ ran 0x1010 handler ∷ ran 0x1014 handler ∷ item.Stop ∷ []

mixed_is_accepted : path_of (run_after code 4 mixed) ≡ Some mixed_items
unfolding class_of
mixed_is_accepted = refl

mixed_has_orders : orders code (sizes 4) 2 mixed ≡ mixed_orders
unfolding class_of
mixed_has_orders = refl

mixed_is_told : all_told mixed_orders ≡
    elem.Info 0 ∷ elem.On ∷ elem.Ctx program ∷ elem.Addr 0x1000 ∷ elem.P0 (p0.Atom true) ∷ elem.P0 (p0.Atom true) ∷ elem.Flip
    ∷ elem.P0 (p0.Atom true) ∷ elem.P0 (p0.Atom true) ∷ elem.Cancel 1 ∷ elem.Commit 1 ∷ elem.Info 2 ∷ elem.Ctx program ∷ elem.Addr 0x1000
    ∷ elem.P0 (p0.Atom true) ∷ elem.Ctx handler ∷ elem.P0 (p0.Atom false) ∷ elem.Commit 2 ∷ elem.P0 (p0.Exc 5 0x100c) ∷ elem.Ctx program
    ∷ elem.Addr 0x1010 ∷ elem.P0 (p0.Atom true) ∷ elem.Commit 2 ∷ elem.Overflow ∷ elem.Info 0 ∷ elem.On ∷ elem.Ctx handler ∷ elem.Addr 0x100c
    ∷ elem.P0 (p0.Atom true) ∷ elem.P0 (p0.Atom true) ∷ elem.P0 (p0.Atom true) ∷ elem.Commit 1 ∷ elem.P0 (p0.Atom true) ∷ elem.P0 (p0.Atom true)
    ∷ elem.Cancel 2 ∷ elem.P0 (p0.Exc 3 0x1010) ∷ elem.Commit 2 ∷ elem.Addr 0x1010 ∷ elem.P0 (p0.Atom true) ∷ elem.P0 (p0.Atom true)
    ∷ elem.Addr 0x1014 ∷ elem.P0 (p0.Atom true) ∷ elem.Commit 3 ∷ elem.Ctx program ∷ elem.Addr 0x1008 ∷ elem.P0 (p0.Atom false) ∷ elem.Commit 1
    ∷ elem.Discard ∷ []
mixed_is_told = refl

mixed_is_told_late : whole_settled 4 mixed_orders ≡
    elem.Info 0 ∷ elem.On ∷ elem.Ctx program ∷ elem.Addr 0x1000 ∷ elem.P0 (p0.Atom true) ∷ elem.P0 (p0.Atom false) ∷ elem.P0 (p0.Atom true)
    ∷ elem.Commit 1 ∷ elem.Info 2 ∷ elem.Ctx program ∷ elem.Addr 0x1000 ∷ elem.P0 (p0.Atom true) ∷ elem.Ctx handler ∷ elem.P0 (p0.Atom false)
    ∷ elem.P0 (p0.Exc 5 0x100c) ∷ elem.Ctx program ∷ elem.Addr 0x1010 ∷ elem.P0 (p0.Atom true) ∷ elem.Commit 2 ∷ elem.Overflow ∷ elem.Info 0
    ∷ elem.On ∷ elem.Ctx handler ∷ elem.Addr 0x100c ∷ elem.P0 (p0.Atom true) ∷ elem.P0 (p0.Atom true) ∷ elem.P0 (p0.Atom true)
    ∷ elem.P0 (p0.Exc 3 0x1010) ∷ elem.Addr 0x1010 ∷ elem.P0 (p0.Atom true) ∷ elem.P0 (p0.Atom true) ∷ elem.Addr 0x1014 ∷ elem.P0 (p0.Atom true)
    ∷ elem.Ctx program ∷ elem.Addr 0x1008 ∷ elem.P0 (p0.Atom false) ∷ elem.Commit 3 ∷ elem.Discard ∷ []
mixed_is_told_late = refl

-- ---- 24 atoms, one packet of them, and a cancel that takes back one of those

abbrev pub many : List Event
many =
    event.On 0x1000 program ∷ (replicate 26 event.Taken ++ event.Cancel 3 ∷ event.Flip ∷ event.Retire 20 ∷ [])

abbrev many_orders : List Order
many_orders =
    Tell (Sync 0) ∷ Tell On ∷ Tell (Start 0x1000 program) ∷ (replicate 26 (Branch true) ++ Cancel 3 ∷ Flip ∷ Retire 20 ∷ [])

abbrev many_items : List Item
many_items =
    item.On ∷ (replicate 20 (item.Instr 0x1000 program true) ++ [])

many_is_accepted : path_of (run_after loop 30 many) ≡ Some many_items
unfolding class_of
many_is_accepted = refl

many_has_orders : orders loop (sizes 30) 2 many ≡ many_orders
unfolding class_of
many_has_orders = refl

many_is_told : all_told many_orders ≡
    elem.Info 0 ∷ elem.On ∷ elem.Ctx program ∷ elem.Addr 0x1000 ∷ (replicate 26 (elem.P0 (p0.Atom true)) ++ elem.Cancel 3 ∷ elem.Flip
    ∷ elem.Commit 20 ∷ [])
many_is_told = refl

many_is_told_late : whole_settled 30 many_orders ≡
    elem.Info 0 ∷ elem.On ∷ elem.Ctx program ∷ elem.Addr 0x1000 ∷ (replicate 24 (elem.P0 (p0.Atom true)) ++ elem.Cancel 1 ∷ elem.Flip
    ∷ elem.Commit 20 ∷ [])
unfolding atom_formats byte_of
many_is_told_late = refl

-- ---- each step is retired at once

abbrev pub flat : List Event
flat =
    event.On 0x100c program ∷ event.Taken ∷ event.Step ∷ event.Step ∷ event.NotTaken ∷ event.Sync ∷ event.Taken ∷ event.Overflow ∷ []

abbrev flat_orders : List Order
flat_orders =
    Tell (Sync 0) ∷ Tell On ∷ Tell (Start 0x100c program) ∷ Branch true ∷ Branch true ∷ Branch false ∷ Settle ∷ Tell (Sync 0)
    ∷ Tell (Start 0x100c program) ∷ Branch true ∷ Close ByOverflow ∷ []

abbrev flat_items : List Item
flat_items =
    item.On ∷ ran 0x100c program ∷ ran 0x1000 program ∷ ran 0x1004 program ∷ ran 0x1008 program ∷ ran 0x100c program ∷ item.Gap ∷ []

flat_is_accepted : path_of (run_after code 0 flat) ≡ Some flat_items
unfolding class_of
flat_is_accepted = refl

flat_has_orders : orders code (sizes 0) 2 flat ≡ flat_orders
unfolding class_of
flat_has_orders = refl

flat_is_told : all_told flat_orders ≡
    elem.Info 0 ∷ elem.On ∷ elem.Ctx program ∷ elem.Addr 0x100c ∷ elem.P0 (p0.Atom true) ∷ elem.P0 (p0.Atom true) ∷ elem.P0 (p0.Atom false)
    ∷ elem.Info 0 ∷ elem.Ctx program ∷ elem.Addr 0x100c ∷ elem.P0 (p0.Atom true) ∷ elem.Overflow ∷ []
flat_is_told = refl

flat_is_told_late : whole_settled 0 flat_orders ≡
    elem.Info 0 ∷ elem.On ∷ elem.Ctx program ∷ elem.Addr 0x100c ∷ elem.P0 (p0.Atom true) ∷ elem.P0 (p0.Atom true) ∷ elem.P0 (p0.Atom false)
    ∷ elem.Info 0 ∷ elem.Ctx program ∷ elem.Addr 0x100c ∷ elem.P0 (p0.Atom true) ∷ elem.Overflow ∷ []
flat_is_told_late = refl

-- ---- the laws speak of these runs

program_fits : FitsSettings (sizes 4) program
program_fits = record { el = omega arith; vmid = omega arith; cid = omega arith }

handler_fits : FitsSettings (sizes 4) handler
handler_fits = record { el = omega arith; vmid = omega arith; cid = omega arith }

code_has_a_gap : HasGap code
code_has_a_gap = record { address = 0; within = omega arith; aligned = refl; none = refl }

mixed_are_events : AreEvents (sizes 4) mixed
mixed_are_events = (
  (omega arith, program_fits),
  (
    tt,
    (
      tt,
      (
        tt,
        (
          tt,
          (
            tt,
            (
              tt,
              (
                tt,
                (
                  tt,
                  (
                    tt,
                    (
                      tt,
                      (
                        tt,
                        (
                          tt,
                          (
                            handler_fits,
                            (
                              tt,
                              (
                                tt,
                                (
                                  (omega arith, omega arith, program_fits),
                                  (
                                    omega arith,
                                    (
                                      tt,
                                      (
                                        tt,
                                        (
                                          (omega arith, handler_fits),
                                          (
                                            tt,
                                            (
                                              tt,
                                              (
                                                tt,
                                                (
                                                  tt,
                                                  (
                                                    tt,
                                                    (
                                                      omega arith,
                                                      (
                                                        omega arith,
                                                        (
                                                          tt,
                                                          (
                                                            (omega arith, omega arith, handler_fits),
                                                            (
                                                              tt,
                                                              (
                                                                omega arith,
                                                                (
                                                                  omega arith,
                                                                  (
                                                                    (omega arith, program_fits),
                                                                    (
                                                                      tt,
                                                                      (
                                                                        tt,
                                                                        (tt, (tt, tt)),
                                                                      ),
                                                                    ),
                                                                  ),
                                                                ),
                                                              ),
                                                            ),
                                                          ),
                                                        ),
                                                      ),
                                                    ),
                                                  ),
                                                ),
                                              ),
                                            ),
                                          ),
                                        ),
                                      ),
                                    ),
                                  ),
                                ),
                              ),
                            ),
                          ),
                        ),
                      ),
                    ),
                  ),
                ),
              ),
            ),
          ),
        ),
      ),
    ),
  ),
)

pub accepted : (run : Result Execution (ℕ × RunFault)) (items : List Item) → path_of run ≡ Some items
    → (x : Execution) × (run ≡ Ok x) × (retired_of x ≡ items)
accepted (Ok x) items e = (x, refl, cc)
accepted (Err refusal) items e = absurd cc

mixed_is_shown : (r : Resolved) × (w : State) × (resolve_all 4 unresolved (all_told mixed_orders) ≡ Ok r) × Walks code first_state r.done mixed_items (Ok w)
mixed_is_shown =
    let run = accepted (run_after code 4 mixed) mixed_items mixed_is_accepted in
    let shown = told_shows code (sizes 4) 2 mixed run.0 code_has_a_gap (omega arith) mixed_are_events run.1 in (
      shown.0,
      shown.1,
      ap (λ l. resolve_all 4 unresolved (all_told l)) (sym mixed_has_orders) ∙ shown.2,
      subst (λ l. Walks code first_state (shown.0).done l (Ok shown.1)) run.2 shown.3,
    )

mixed_is_shown_late :
    (r : Resolved) × (w : State) × (resolve_all 4 unresolved (whole_settled 4 mixed_orders) ≡ Ok r) × Walks code first_state r.done mixed_items (Ok w)
mixed_is_shown_late =
    let run = accepted (run_after code 4 mixed) mixed_items mixed_is_accepted in
    let shown = whole_shows code (sizes 4) 2 mixed run.0 code_has_a_gap (omega arith) mixed_are_events run.1 in (
      shown.0,
      shown.1,
      ap (λ l. resolve_all 4 unresolved (whole_settled 4 l)) (sym mixed_has_orders) ∙ shown.2,
      subst (λ l. Walks code first_state (shown.0).done l (Ok shown.1)) run.2 shown.3,
    )
