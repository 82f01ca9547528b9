-- Which events fit a run's sizes, what a window keeps of one, and which steps an image allows, each beside near misses.
use Rattle.std.proofs.Common.{◌≡◌, ℕ, Bool, true, false, List, [], ◌∷◌, map, Some, None, Ok, Err, ap, refl, arith}
use Rattle.std.specs.Prelude.{◌^◌, ◌-◌, ◌+◌, pos, replicate}
use Rattle.a64_branches.specs.Classes.{class_of}
use Rattle.a64_branches.specs.declared.class.Class.TheVariants as class
use Rattle.etm_types.specs.Settings.{FitsSettings, Sizes}
use Rattle.etm_types.specs.declared.context.Ctx.{Ctx}
use Rattle.program_image.specs.Part.{Part}
use Rattle.spec_run.specs.Checks.{Situation}
use Rattle.spec_run.specs.Effects.{place_after}
use Rattle.spec_run.specs.Executed.{Executes, IsPlace}
use Rattle.spec_run.specs.ManySteps.{plain_steps, room_for_steps}
use Rattle.spec_run.specs.RunAfter.{AreEvents, IsEvent}
use Rattle.spec_run.specs.Stands.{Follows, OpenBlock, behind_last_p0, refused_by}
use Rattle.spec_run.specs.Windows.{RoomInWindow, ctx_behind, place_stepped_all}
use Rattle.spec_run.specs.declared.effect.Effect.TheVariants as effect
use Rattle.spec_run.specs.declared.event.Event.TheVariants as event
use Rattle.spec_run.specs.declared.run_fault.RunFault.TheVariants as fault
use Rattle.spec_run.specs.declared.step.RunStep.{RunStep}
use Rattle.spec_run.specs.declared.step.StepKind.{StepKind}
use Rattle.spec_run.specs.declared.step.StepKind.TheVariants as kind

abbrev program : Ctx
program = record { el = 0; ns = true; vmid = 5; cid = 7 }

abbrev handler : Ctx
handler = record { el = 3; ns = false; vmid = 255; cid = 8 }

-- ---- events of sizes

-- a VMID of one byte and a context ID of four
abbrev sizes : Sizes
sizes = record { depth = 16; vmid_bytes = 1; cid_bytes = 4 }

fits : FitsSettings sizes handler
fits = record { el = omega arith; vmid = omega arith; cid = omega arith }

abbrev too_large : Ctx
too_large = record program { vmid = 256 }

not_fits : FitsSettings sizes too_large → ⊥
not_fits is = absurd (omega (arith, is.vmid))

-- the last address, the highest exception level and the last kind of an exception
pub events_of_sizes : IsEvent sizes (event.On (2 ^ 64 - 1) handler) × IsEvent sizes (event.To (2 ^ 64 - 1)) × IsEvent sizes (event.Eret (2 ^ 64 - 1) handler)
    × IsEvent sizes (event.Exc 31 (2 ^ 64 - 1) handler) × IsEvent sizes (event.Context handler)
events_of_sizes = ((omega arith, fits), omega arith, (omega arith, fits), (omega arith, omega arith, fits), fits)

pub any_of_the_others : IsEvent sizes event.Step × IsEvent sizes event.Taken × IsEvent sizes event.NotTaken × IsEvent sizes (event.Retire 9) × IsEvent sizes (event.Cancel 9)
    × IsEvent sizes event.Flip × IsEvent sizes event.Sync × IsEvent sizes event.Overflow × IsEvent sizes event.Off
any_of_the_others = (tt, tt, tt, tt, tt, tt, tt, tt, tt)

pub no_address_of_65_bits : (IsEvent sizes (event.On (2 ^ 64) handler) → ⊥) × (IsEvent sizes (event.To (2 ^ 64)) → ⊥) × (IsEvent sizes (event.Eret (2 ^ 64) handler) → ⊥)
    × (IsEvent sizes (event.Exc 31 (2 ^ 64) handler) → ⊥)
no_address_of_65_bits = (
  λ is. absurd (omega (arith, is.0)),
  λ is. absurd (omega (arith, is)),
  λ is. absurd (omega (arith, is.0)),
  λ is. absurd (omega (arith, is.1)),
)

pub no_kind_32 : IsEvent sizes (event.Exc 32 0 handler) → ⊥
no_kind_32 is = absurd (omega (arith, is.0))

pub no_vmid_of_two_bytes : (IsEvent sizes (event.On 0 too_large) → ⊥) × (IsEvent sizes (event.Eret 0 too_large) → ⊥) × (IsEvent sizes (event.Exc 31 0 too_large) → ⊥)
    × (IsEvent sizes (event.Context too_large) → ⊥)
no_vmid_of_two_bytes = (λ is. not_fits is.1, λ is. not_fits is.1, λ is. not_fits is.2, λ is. not_fits is)

-- each of several
pub two_events : AreEvents sizes (event.To 4 ∷ event.Sync ∷ [])
two_events = (omega arith, (tt, tt))

pub not_the_second : AreEvents sizes (event.Sync ∷ event.To (2 ^ 64) ∷ []) → ⊥
not_the_second are = absurd (omega (arith, are.1.0))

-- ---- what a window keeps

pub context_behind_a_return : map (ctx_behind program) (event.Eret 0 handler ∷ event.Step ∷ event.Taken ∷ event.NotTaken ∷ event.To 0 ∷ event.On 0 handler ∷ event.Exc 3 0 handler ∷ event.Context handler ∷ event.Retire 1 ∷ event.Cancel 1 ∷ event.Flip ∷ event.Sync ∷ event.Overflow ∷ event.Off ∷ [])
    ≡ handler ∷ replicate 13 program
context_behind_a_return = refl

-- of another context each field
pub other_context_behind_a_return :
    map (ctx_behind handler)
    (event.Eret 0 program ∷ event.Step ∷ event.Taken ∷ event.NotTaken ∷ event.To 0 ∷ event.On 0 program ∷ event.Exc 3 0 program ∷ event.Context program
    ∷ event.Retire 1 ∷ event.Cancel 1 ∷ event.Flip ∷ event.Sync ∷ event.Overflow ∷ event.Off ∷ [])
    ≡ program ∷ replicate 13 handler
other_context_behind_a_return = refl

abbrev nop : ℕ → RunStep
nop addr = record { addr = addr; ctx = program; kind = kind.Plain; next = addr + 4; link = false }

abbrev jump : RunStep
jump = record { addr = 0x1008; ctx = program; kind = kind.Jump; next = 0x1010; link = false }

-- none but a step takes room
pub room : RoomInWindow (effect.Ran jump program) (nop 0x1000 ∷ []) × RoomInWindow (effect.Ran jump program) (replicate 65534 jump) × RoomInWindow effect.Flipped (replicate 65535 jump)
room = (omega arith, omega arith, tt)

pub no_room : RoomInWindow (effect.Ran jump program) (replicate 65535 jump) → ⊥
no_room has = absurd (omega (arith, has))

-- at depth 0 as many as are asked for
pub room_for_plain_steps : room_for_steps 0 (replicate 65535 jump) 7 ∷ room_for_steps 16 (jump ∷ jump ∷ []) 7 ∷ room_for_steps 16 (jump ∷ jump ∷ []) 70000 ∷ []
    ≡ 7 ∷ 7 ∷ 65533 ∷ []
room_for_plain_steps = refl

abbrev place : Situation
place = record { held = jump ∷ []; after_isb = true; pc = 2 ^ 64 - 4; ctx = program }

-- past the last address, and none
pub plain : plain_steps (2 ^ 64 - 4) program 2
    ≡ record { addr = 2 ^ 64 - 4; ctx = program; kind = kind.Plain; next = 0; link = false } ∷ nop 0 ∷ []
plain = refl

pub no_plain : plain_steps 0x1000 program 0 ≡ []
no_plain = refl

pub stepped_twice : place_stepped_all 16 place 2
    ≡ record { held = jump ∷ record { addr = 2 ^ 64 - 4; ctx = program; kind = kind.Plain; next = 0; link = false } ∷ nop 0 ∷ []; after_isb = true; pc = 4; ctx = program }
stepped_twice = refl

-- at depth 0 the steps are retired, and the newest of them is no ISB
pub stepped_at_depth_0 : place_stepped_all 0 (record place { held = [] }) 1 ≡ record { held = []; after_isb = false; pc = 0; ctx = program }
stepped_at_depth_0 = refl

pub refusals : refused_by {X = ℕ} (Ok 7) ∷ refused_by {X = ℕ} (Err fault.NotOn) ∷ [] ≡ None ∷ Some fault.NotOn ∷ []
refusals = refl

-- ---- blocks of a retired path

pub behind_the_last : behind_last_p0 (nop 0x1000 ∷ jump ∷ nop 0x1010 ∷ nop 0x1014 ∷ []) ∷ behind_last_p0 (nop 0x1000 ∷ jump ∷ []) ∷ behind_last_p0 (nop 0x1000 ∷ []) ∷ []
    ≡ (nop 0x1010 ∷ nop 0x1014 ∷ []) ∷ [] ∷ (nop 0x1000 ∷ []) ∷ []
behind_the_last = refl

abbrev open_block : ℕ → OpenBlock
open_block plain = record { first = false; start = 0x1000; plain = plain; ctx = program }

pub goes_on : Follows (open_block 2) (nop 0x1008) × Follows (open_block 0) (record jump { addr = 0x9000; ctx = handler })
goes_on = ((λ some. (refl, refl)), (λ some. absurd (omega (arith, some))))

pub not_elsewhere : Follows (open_block 2) (nop 0x1004) → ⊥
not_elsewhere follows = let e : 0x1004 ≡ 0x1008 = (follows (omega arith)).0 in absurd (omega (arith, e))

pub not_in_another_context : Follows (open_block 2) (record (nop 0x1008) { ctx = handler }) → ⊥
not_in_another_context follows = let e = ap (λ (c : Ctx). c.el) (follows (omega arith)).1 in absurd (omega (arith, e))

-- ---- steps that an image allows

pub places : IsPlace 0 × IsPlace (2 ^ 64 - 4)
places = ((omega arith, refl), (omega arith, refl))

pub no_places : (IsPlace 2 → ⊥) × (IsPlace (2 ^ 64) → ⊥)
no_places = ((λ is. let e = is.1 in absurd (omega (arith, e))), (λ is. absurd (omega (arith, is.0))))

-- NOP, ISB, B 8 bytes on, BL 8 bytes on, B.EQ 8 bytes on, BR X0, BLR X0, ERET
abbrev code : List Part
code =
    record {
      start = 0x1000;
      bytes =
          0x1f ∷ 0x20 ∷ 0x03 ∷ 0xd5 ∷ 0xdf ∷ 0x3f ∷ 0x03 ∷ 0xd5 ∷ 0x02 ∷ 0x00 ∷ 0x00 ∷ 0x14 ∷ 0x02 ∷ 0x00 ∷ 0x00 ∷ 0x94 ∷ 0x40 ∷ 0x00 ∷ 0x00 ∷ 0x54
          ∷ 0x00 ∷ 0x00 ∷ 0x1f ∷ 0xd6 ∷ 0x00 ∷ 0x00 ∷ 0x3f ∷ 0xd6 ∷ 0xe0 ∷ 0x03 ∷ 0x9f ∷ 0xd6 ∷ [];
    } ∷ []

abbrev step : StepKind → ℕ → ℕ → Bool → RunStep
step k addr next link = record { addr = addr; ctx = program; kind = k; next = next; link = link }

pub allowed : Executes code kind.Plain (step kind.Plain 0x1000 0x1004 false) × Executes code kind.Isb (step kind.Isb 0x1004 0x1008 false)
    × Executes code kind.Jump (step kind.Jump 0x1008 0x1010 false) × Executes code kind.Jump (step kind.Jump 0x100c 0x1014 true)
    × Executes code (kind.Cond true) (step (kind.Cond true) 0x1010 0x1018 false) × Executes code (kind.Cond false) (step (kind.Cond false) 0x1010 0x1014 false)
    × Executes code (kind.Ind false) (step (kind.Ind false) 0x1014 0x9000 false) × Executes code (kind.Ind true) (step (kind.Ind true) 0x1018 0x9000 true)
    × Executes code kind.Eret (step kind.Eret 0x101c 0x9000 false) × Executes code (kind.Exc 3) (step (kind.Exc 3) 0x9999 0x8000 false)
unfolding class_of
allowed = (
  (refl, refl, refl),
  (refl, refl, refl),
  (pos 8, refl, refl),
  (pos 8, refl, refl),
  (pos 8, refl, refl, refl),
  (pos 8, refl, refl, refl),
  (refl, refl),
  (refl, refl),
  (refl, refl),
  refl,
)

-- a word of another class, another target, and a link where there is none
pub no_plain_step_at_an_isb : Executes code kind.Plain (step kind.Plain 0x1004 0x1008 false) → ⊥
unfolding class_of
no_plain_step_at_an_isb does = let e : Some class.Isb ≡ Some class.Plain = does.0 in cc

pub no_isb_at_a_nop : Executes code kind.Isb (step kind.Isb 0x1000 0x1004 false) → ⊥
unfolding class_of
no_isb_at_a_nop does = let e : Some class.Plain ≡ Some class.Isb = does.0 in cc

pub not_over_a_word : (Executes code kind.Plain (step kind.Plain 0x1000 0x1008 false) → ⊥) × (Executes code kind.Isb (step kind.Isb 0x1004 0x100c false) → ⊥)
unfolding class_of
not_over_a_word = ((λ does. absurd (omega (arith, does.1))), (λ does. absurd (omega (arith, does.1))))

pub no_link : (Executes code kind.Plain (step kind.Plain 0x1000 0x1004 true) → ⊥) × (Executes code kind.Isb (step kind.Isb 0x1004 0x1008 true) → ⊥)
    × (Executes code (kind.Ind false) (step (kind.Ind false) 0x1014 0x9000 true) → ⊥) × (Executes code kind.Eret (step kind.Eret 0x101c 0x9000 true) → ⊥)
    × (Executes code (kind.Exc 3) (step (kind.Exc 3) 0x9999 0x8000 true) → ⊥)
unfolding class_of
no_link = (
  λ does. let e : true ≡ false = does.2 in cc,
  λ does. let e : true ≡ false = does.2 in cc,
  λ does. let e : true ≡ false = does.1 in cc,
  λ does. let e : true ≡ false = does.1 in cc,
  λ does. let e : true ≡ false = does in cc,
)

pub no_register_branch_at_a_return : (Executes code (kind.Ind false) (step (kind.Ind false) 0x101c 0x9000 false) → ⊥) × (Executes code kind.Eret (step kind.Eret 0x1014 0x9000 false) → ⊥)
unfolding class_of
no_register_branch_at_a_return = ((λ does. let e : Some class.Eret ≡ Some (class.Ind false) = does.0 in cc), (λ does. let e : Some (class.Ind false) ≡ Some class.Eret = does.0 in cc))

-- ---- the place behind each effect

abbrev branch : RunStep
branch = record (step (kind.Cond true) 0x1010 0x1018 false) { ctx = handler }

abbrev turned_branch : RunStep
turned_branch = record { addr = 0x1010; ctx = handler; kind = kind.Cond false; next = 0x1014; link = false }

abbrev before : Situation
before = record { held = nop 0x1000 ∷ branch ∷ []; after_isb = true; pc = 0x1018; ctx = program }

pub place_behind_each :
    map (place_after code 16 (Some before))
    (effect.Began 0x7000 handler ∷ effect.Ran jump handler ∷ effect.Contexted handler ∷ effect.Retired 1 ∷ effect.Retired 0 ∷ effect.Cancelled 1
    ∷ effect.Cancelled 0 ∷ effect.Flipped ∷ effect.Synced ∷ effect.Overflowed ∷ effect.Stopped ∷ [])
    ≡ Some (record { held = nop 0x1000 ∷ branch ∷ []; after_isb = false; pc = 0x7000; ctx = handler })
    ∷ Some (record { held = nop 0x1000 ∷ branch ∷ jump ∷ []; after_isb = true; pc = 0x1010; ctx = handler })
    ∷ Some (record { held = nop 0x1000 ∷ branch ∷ []; after_isb = true; pc = 0x1018; ctx = handler })
    ∷ Some (record { held = branch ∷ []; after_isb = false; pc = 0x1018; ctx = program })
    ∷ Some before
    ∷ Some (record { held = nop 0x1000 ∷ []; after_isb = true; pc = 0x1010; ctx = handler })
    ∷ Some before
    ∷ Some (record { held = nop 0x1000 ∷ turned_branch ∷ []; after_isb = true; pc = 0x1014; ctx = program })
    ∷ Some before ∷ None ∷ None ∷ []
unfolding class_of
place_behind_each = refl

-- at depth 0 the step is retired, an ISB or not
pub place_behind_a_step_at_depth_0 :
    place_after code 0 (Some (record before { held = []; after_isb = false })) (effect.Ran (step kind.Isb 0x1004 0x1008 false) handler)
    ∷ place_after code 0 (Some (record before { held = [] })) (effect.Ran jump handler) ∷ []
    ≡ Some (record { held = []; after_isb = true; pc = 0x1008; ctx = handler })
    ∷ Some (record { held = []; after_isb = false; pc = 0x1010; ctx = handler }) ∷ []
place_behind_a_step_at_depth_0 = refl

pub place_while_off :
    map (place_after code 16 None)
    (effect.Began 0x7000 handler ∷ effect.Ran jump handler ∷ effect.Contexted handler ∷ effect.Retired 1 ∷ effect.Cancelled 1 ∷ effect.Flipped
    ∷ effect.Synced ∷ effect.Overflowed ∷ effect.Stopped ∷ [])
    ≡ Some (record { held = []; after_isb = false; pc = 0x7000; ctx = handler }) ∷ replicate 8 None
place_while_off = refl
