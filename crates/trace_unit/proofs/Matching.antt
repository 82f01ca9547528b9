-- The relation between a run, what its unit keeps, and what a reader of what was told has resolved.
use Rattle.std.specs.Prelude.{◌≡◌, ℕ, Bool, true, false, List, [], ◌++◌, map, Option, Some, None, Ok}
use Rattle.etm_types.specs.Pre.{trace_missing}
use Rattle.etm_types.specs.declared.context.Ctx.{Ctx}
use Rattle.etm_types.specs.declared.element.Pre.{Pre}
use Rattle.etm_types.specs.declared.element.Thing.{Thing}
use Rattle.element_queue.specs.Resolved.{Resolved, resolve_all}
use Rattle.path_walker.specs.Start.{context_of, pc_before, stack_before}
use Rattle.path_walker.specs.State.{State, first_state}
use Rattle.path_walker.specs.Things.{Walks}
use Rattle.path_walker.specs.declared.pc.Pc.TheVariants.{Awaited}
use Rattle.program_image.specs.declared.image.Image.{Image}
use Rattle.spec_run.specs.Blocks.{begun, blocks, fresh}
use Rattle.spec_run.specs.Effects.{applied}
use Rattle.spec_run.specs.RetiredItems.{closed_items}
use Rattle.spec_run.specs.Runs.{Closing, Execution, Running}
use Rattle.spec_run.specs.declared.effect.Effect.{Effect}
use Rattle.spec_run.specs.declared.step.RunStep.{RunStep}
use Rattle.trace_unit.proofs.Rows.{IsFront, Led, Ready, Row, after_all, block_of, first_behind, saved_of, thing_of}
use Rattle.trace_unit.specs.Effects.{orders_on, places_after}
use Rattle.trace_unit.specs.Places.{Places}
use Rattle.trace_unit.specs.Told.{all_told}

-- The block needs an address: the walk waits for one and none was told.
pub record Awaits (first : Bool) (w : State) (pre : Pre) (context : Ctx) (stack : List ℕ) : Type 0 where
  pub addr : pre.addr ≡ None
  pub pops : Bool
  pub awaited : pc_before w pre ≡ Awaited pops
  pub ctx : context_of w pre ≡ context
  pub front : IsFront stack (stack_before w pre)
  pub on : pre.on ≡ first
  pub lost : first ≡ false → pre.lost ≡ false

-- what is pending tells what the unit believes to be told of the block that is begun
abbrev pub Pends : Bool → Bool → State → Pre → ℕ → Ctx → List ℕ → Type 0
Pends false first w pre start context stack = Ready first w pre start context stack
Pends true first w pre start context stack = Awaits first w pre context stack

-- tracing is on: a row for each P0 step, those of the retired ones first
pub record IsOpen (image : Image) (closed : List (List RunStep × Closing)) (s : Running) (p : Places) (r : Resolved) : Type 0 where
  pub front : List Thing
  pub before : State
  pub early : List Row
  pub late : List Row
  pub walks : Walks image first_state front (closed_items closed) (Ok before)
  pub done : r.done ≡ front ++ map thing_of early
  pub held : r.pending.held ≡ map thing_of late
  pub informed : r.pending.informed ≡ true
  pub saved : p.saved ≡ map saved_of late
  pub retired : map block_of early ≡ blocks (fresh s.start) s.retired
  pub unretired : map block_of late ≡ blocks (begun (fresh s.start) s.retired) s.held
  pub led : Led true before (early ++ late)
  pub start : p.start ≡ (begun (fresh s.start) (s.retired ++ s.held)).start
  pub pends :
      Pends p.needs (first_behind true (early ++ late)) (after_all before (early ++ late)) r.pending.pre p.start p.reader_context p.stack

-- tracing is off
pub record IsOff (image : Image) (closed : List (List RunStep × Closing)) (p : Places) (r : Resolved) : Type 0 where
  pub before : State
  pub walks : Walks image first_state r.done (closed_items closed) (Ok before)
  pub held : r.pending.held ≡ []
  pub saved : p.saved ≡ []
  pub pre : r.pending.pre ≡ trace_missing

abbrev pub MatchesBy : Image → List (List RunStep × Closing) → Option Running → Places → Resolved → Type 0
MatchesBy image closed None p r = IsOff image closed p r
MatchesBy image closed (Some s) p r = IsOpen image closed s p r

abbrev pub Matches : Image → Execution → Places → Resolved → Type 0
Matches image x p r = MatchesBy image x.closed x.current p r

-- What an event does keeps the relation: what is told of it has no fault, and the two ends match again.
abbrev pub Keeps : Image → ℕ → ℕ → Execution → Places → Resolved → Effect → Type 0
Keeps image depth most x p r e =
    (next : Resolved) × (resolve_all depth r (all_told (orders_on x.current p e)) ≡ Ok next)
    × Matches image (applied image depth x e) (places_after image depth most x p e) next
