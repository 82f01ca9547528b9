use Rattle.std.proofs.Common.{◌≡◌, ◌+◌, ◌*◌, Some, subst, sym}
use Rattle.std.specs.Prelude.{slice_get}
use Rattle.program_image.specs.Near.{HasRunAt}
use Rattle.program_image.specs.Places.{word_addresses}
use Rattle.program_image.specs.Runs.{IsRun, run_of}
use Rattle.path_walker.proofs.leg.run_near.Goals as goal

pub returns : goal.returns
returns c =
    let image = c.args.image.now in let placed = c.in_ok-placed.placed in
    let has : HasRunAt c.args.near.now c.args.pc placed = c.in_ok-placed.ensures in
    let at = c.requires.near has.word (run_of placed.run) has.run in
    record {
      aligned = c.requires.start;
      run = subst (λ a. IsRun image a (run_of placed.run)) (sym has.begins) at.0;
      place = subst (λ a. slice_get (word_addresses image) placed.place ≡ Some a) (sym has.begins)
          (subst (λ n. slice_get (word_addresses image) n ≡ Some (c.args.near.now.start + 4 * has.word)) (sym has.place) at.1);
    }
