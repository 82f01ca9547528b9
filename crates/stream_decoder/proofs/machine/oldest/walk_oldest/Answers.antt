use Rattle.std.proofs.Common.{arith}
use Rattle.etm_types.specs.Atoms.{atoms_in}
use Rattle.stream_decoder.specs.Waiting.{all_of}
use Rattle.stream_decoder.proofs.AtomWalks.{walks_oldest}
use Rattle.stream_decoder.proofs.machine.oldest.walk_oldest.Goals as goal

pub returns-then-atoms-gt0 : goal.returns-then-atoms-gt0
returns-then-atoms-gt0 g c =
    let walks = c.walk_plain.ensures.walks in let kept = c.oldest_plain-atoms in
    record {
      added = walks.added;
      takes = walks.takes;
      count = walks.count;
      walks = walks_oldest c.args.image.now c.args.walker.now c.walk_plain.new.walker (atoms_in kept.result) kept.result.count (all_of c.args.waiting.now)
          walks.added kept.ensures.atoms walks.walks;
      within = omega (arith, c.walk_plain.ensures.most, kept.ensures.most);
      few = omega (arith, c.walk_plain.ensures.most, kept.ensures.few);
      context = c.walk_plain.ensures.context;
    }
