-- What each effect of an event changes, and what is answered of it: one table, of which the others are columns. Two things change: what
-- was executed (Runs.antt), and of it the place, which is all that an event looks at.
use Rattle.std.specs.Prelude.{ℕ, zero, suc, false, List, ◌∷◌, [], ◌++◌, take, drop, Option, Some, None}
use Rattle.std.specs.Option.{option_map}
use Rattle.etm_types.specs.declared.context.Ctx.{Ctx}
use Rattle.program_image.specs.declared.image.Image.{Image}
use Rattle.spec_run.specs.Checks.{Situation, held_at}
use Rattle.spec_run.specs.Kinds.{is_isb}
use Rattle.spec_run.specs.Runs.{ByOff, ByOverflow, Execution, Running, begins, cancels, closes, flips, retires, runs, turn_newest}
use Rattle.spec_run.specs.Steps.{ctx_at, isb_behind, kept, newest, next_behind, p0s, pc_at}
use Rattle.spec_run.specs.declared.effect.Effect.{Effect}
use Rattle.spec_run.specs.declared.effect.Effect.TheVariants as effect
use Rattle.spec_run.specs.declared.event.Done.{Done}
use Rattle.spec_run.specs.declared.event.Done.TheVariants as done
use Rattle.spec_run.specs.declared.step.RunStep.{RunStep}

-- ---- where an effect changes something

-- a change where tracing is off; another changes nothing there
abbrev pub where_off : (Execution → Execution) → Image → ℕ → Execution → Option Running → Execution
where_off change image depth x None = change x
where_off change image depth x (Some r) = x

-- a change where tracing is on
abbrev pub where_on : (Image → ℕ → Execution → Running → Execution) → Image → ℕ → Execution → Option Running → Execution
where_on change image depth x None = x
where_on change image depth x (Some r) = change image depth x r

abbrev pub now_running : Execution → Running → Execution
now_running x r = record x { current = Some r }

-- ---- the place

abbrev pub place_begun : List RunStep → ℕ → Ctx → Situation
place_begun held addr ctx = record { held = held; after_isb = false; pc = addr; ctx = ctx }

-- at depth 0 the step is the newest retired one
abbrev pub place_ran : ℕ → Situation → RunStep → Ctx → Situation
place_ran zero p s ctx = record p { after_isb = is_isb s.kind; pc = s.next; ctx = ctx }
place_ran (suc depth) p s ctx = record p { held = p.held ++ s ∷ []; pc = s.next; ctx = ctx }

abbrev pub place_contexted : Situation → Ctx → Situation
place_contexted p ctx = record p { ctx = ctx }

abbrev pub place_retired : Situation → ℕ → Situation
place_retired p n = record p { held = drop n p.held; after_isb = isb_behind p.after_isb (take n p.held) }

abbrev pub place_cancelled : Situation → ℕ → Situation
place_cancelled p n = record p { held = kept n p.held; pc = pc_at p.pc (newest n p.held); ctx = ctx_at p.ctx (newest n p.held) }

abbrev pub place_flipped : Image → Situation → Situation
place_flipped image p = record p { held = turn_newest image p.held; pc = next_behind p.pc (turn_newest image p.held) }

-- ---- the table

-- what an effect changes of an execution and of the place, and what is answered of it over the steps that are held
pub record Deed : Type 0 where
  pub changes : Image → ℕ → Execution → Option Running → Execution
  pub place : Image → ℕ → Option Situation → Option Situation
  pub answer : List RunStep → Done

-- each effect
abbrev pub deed : Effect → Deed
deed (effect.Began addr ctx) =
    record {
      changes = where_off (λ x. now_running x (begins addr ctx));
      place = λ image depth place. Some (place_begun (held_at place) addr ctx);
      answer = λ held. done.Began;
    }
deed (effect.Ran s ctx) =
    record {
      changes = where_on (λ image depth x r. now_running x (runs depth r s ctx));
      place = λ image depth. option_map (λ p. place_ran depth p s ctx);
      answer = λ held. done.Ran s;
    }
deed (effect.Contexted ctx) =
    record {
      changes = where_on (λ image depth x r. now_running x (record r { ctx = ctx }));
      place = λ image depth. option_map (λ p. place_contexted p ctx);
      answer = λ held. done.Contexted;
    }
deed (effect.Retired n) =
    record {
      changes = where_on (λ image depth x r. now_running x (retires r n));
      place = λ image depth. option_map (λ p. place_retired p n);
      answer = λ held. done.Retired (p0s (take n held));
    }
deed (effect.Cancelled n) =
    record {
      changes = where_on (λ image depth x r. now_running x (cancels r n));
      place = λ image depth. option_map (λ p. place_cancelled p n);
      answer = λ held. done.Cancelled (p0s (newest n held));
    }
deed effect.Flipped =
    record {
      changes = where_on (λ image depth x r. now_running x (flips image r));
      place = λ image depth. option_map (place_flipped image);
      answer = λ held. done.Flipped;
    }
deed effect.Synced = record { changes = λ image depth x current. x; place = λ image depth place. place; answer = λ held. done.Synced }
deed effect.Overflowed =
    record {
      changes = where_on (λ image depth x r. closes x r ByOverflow);
      place = λ image depth place. None;
      answer = λ held. done.Overflowed;
    }
deed effect.Stopped =
    record { changes = where_on (λ image depth x r. closes x r ByOff); place = λ image depth place. None; answer = λ held. done.Stopped }

-- ---- its columns

-- what was executed, behind an event that is accepted
abbrev pub applied_on : Image → ℕ → Execution → Option Running → Effect → Execution
applied_on image depth x current e = (deed e).changes image depth x current

abbrev pub applied : Image → ℕ → Execution → Effect → Execution
applied image depth x e = applied_on image depth x x.current e

-- the place behind it
abbrev pub place_after : Image → ℕ → Option Situation → Effect → Option Situation
place_after image depth place e = (deed e).place image depth place

-- what is answered of it, over the steps that are held
abbrev pub done_of : List RunStep → Effect → Done
done_of held e = (deed e).answer held
