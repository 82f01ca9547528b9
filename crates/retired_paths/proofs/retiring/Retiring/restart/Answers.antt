use Rattle.std.proofs.Common.{[], ◌∙◌, ap, refl, sym}
use Rattle.spec_run.proofs.EventsJoined.{same_execution}
use Rattle.spec_run.specs.RunAfter.{place_in}
use Rattle.spec_run.specs.Runs.{at_first}
use Rattle.retired_paths.proofs.retiring.Retiring.restart.Goals as goal

pub returns : goal.returns
returns c image =
    let st = c.restart.ensures.stands image in
    let first = sym (same_execution at_first st.execution st.after) in
    record {
      depth = c.depth-self.ensures.value;
      run = record { depth = st.depth; execution = at_first; after = refl; place = st.place ∙ ap place_in first };
      path = ([], c.begin.ensures.stands);
      shown = refl;
    }
