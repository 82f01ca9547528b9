-- What a trace unit keeps, and at which events it stands.
use Rattle.std.specs.Prelude.{◌≡◌, ℕ, ◌≤◌, List}
use Rattle.element_queue.specs.declared.ledger.Counts.{Counts}
use Rattle.etm_types.specs.Settings.{Sizes}
use Rattle.program_image.specs.declared.image.Image.{Image}
use Rattle.return_stack.specs.Stack.{most_addresses}
use Rattle.spec_run.specs.RunAfter.{AreEvents}
use Rattle.spec_run.specs.Runs.{at_first}
use Rattle.spec_run.specs.Stands.{Kept as RunKept, StandsAt as RunStandsAt}
use Rattle.spec_run.specs.declared.event.Event.{Event}
use Rattle.trace_unit.specs.Effects.{counts_of, orders, places_from}
use Rattle.trace_unit.specs.Packets.{Shared, nothing_shared, shared_all}
use Rattle.trace_unit.specs.Places.{Places, no_places}
use Rattle.trace_unit.specs.Whole.{PutOff, nothing_waits, waits_all}

-- The settings, and how many return addresses are kept at most; the run; its places; what waits to be written; what both ends have of
-- the packets so far; and what became of the P0 steps.
pub record Kept : Type 0 where
  pub settings : Sizes
  pub stack_depth : ℕ
  pub run : RunKept
  pub places : Places
  pub waiting : PutOff
  pub shared : Shared
  pub counts : Counts

-- the unit stands behind these events, which are all accepted
pub record StandsAt (image : Image) (kept : Kept) (events : List Event) : Type 0 where
  pub given : AreEvents kept.settings events
  pub most : kept.stack_depth ≤ most_addresses
  pub run : RunStandsAt image kept.settings kept.run events
  pub places : kept.places ≡ places_from image kept.settings.depth kept.stack_depth at_first no_places events
  pub waiting : kept.waiting ≡ waits_all kept.settings.depth nothing_waits (orders image kept.settings kept.stack_depth events)
  pub shared : kept.shared ≡ shared_all nothing_shared (orders image kept.settings kept.stack_depth events)
  pub counts : kept.counts ≡ counts_of image kept.settings.depth events
