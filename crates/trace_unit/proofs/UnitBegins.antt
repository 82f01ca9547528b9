-- A unit that no event came to.
use Rattle.std.proofs.Common.{◌≡◌, ℕ, ◌≤◌, [], None, refl, sym, ap, subst, ◌∙◌, arith}
use Rattle.std.proofs.lemmas.List.Elements.{All-nil}
use Rattle.etm_types.specs.Settings.{AreSettings, Sizes}
use Rattle.program_image.specs.declared.image.Image.{Image}
use Rattle.return_stack.specs.Stack.{most_addresses}
use Rattle.spec_run.proofs.EventsJoined.{same_execution}
use Rattle.spec_run.specs.Executed.{IsPlace}
use Rattle.spec_run.specs.RunAfter.{place_in}
use Rattle.spec_run.specs.Runs.{at_first}
use Rattle.spec_run.specs.Stands.{Kept as RunKept, StandsAt as RunStandsAt}
use Rattle.trace_unit.proofs.OrderSpelled.{nothing_is_shared}
use Rattle.trace_unit.specs.Agreeing.{Agree, kept_of}
use Rattle.trace_unit.specs.Followed.{first_follower}
use Rattle.trace_unit.specs.Kept.{StandsAt}
use Rattle.trace_unit.specs.Places.{Saved}
use Rattle.trace_unit.specs.declared.follower.Follower.{Follower}

-- the run is nowhere yet
first_run : (s : Sizes) (run : RunKept) → RunStandsAt [] s run [] → run ≡ record { depth = s.depth; place = None }
first_run s run stands =
    let first : stands.execution ≡ at_first = same_execution stands.execution at_first (sym stands.after) in
    ap (λ d. record run { depth = d }) stands.depth ∙ ap (λ place. record { depth = s.depth; place = place }) (stands.place ∙ ap place_in first)

pub first_agrees : (s : Sizes) (most : ℕ) (run : RunKept) (f : Follower) → AreSettings s → RunStandsAt [] s run [] → f ≡ first_follower s most → Agree run f
first_agrees s most run f are stands same =
    let agree : Agree (record { depth = s.depth; place = None }) (first_follower s most) = record {
      depth = refl;
      room = refl;
      elements = refl;
      ready = record {
        settings = are;
        few = omega arith;
        small = record { held = omega arith; cancels = omega arith; atoms = omega arith; commits = omega arith; balance = refl };
        shared = nothing_is_shared s;
      };
      fits = tt;
      starts = record { start = (omega arith, refl); saved = All-nil (λ (v : Saved). IsPlace v.start) };
    } in
    subst (Agree run) (sym same) (subst (λ (run : RunKept). Agree run (first_follower s most)) (sym (first_run s run stands)) agree)

pub first_stands : (image : Image) (s : Sizes) (most : ℕ) (run : RunKept) (f : Follower) → most ≤ most_addresses → RunStandsAt image s run []
    → f ≡ first_follower s most → StandsAt image (kept_of run f) []
first_stands image s most run f le stands same =
    subst (λ (f : Follower). StandsAt image (kept_of run f) []) (sym same)
    (record { given = tt; most = le; run = stands; places = refl; waiting = refl; shared = refl; counts = refl })
