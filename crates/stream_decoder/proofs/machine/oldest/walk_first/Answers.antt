use Rattle.std.proofs.Common.{[], refl, arith}
use Rattle.etm_types.specs.Atoms.{atoms_in}
use Rattle.stream_decoder.specs.Waiting.{all_of}
use Rattle.stream_decoder.proofs.AtomWalks.{walks_given}
use Rattle.stream_decoder.proofs.LettingGo.{told_aligned_at}
use Rattle.stream_decoder.proofs.machine.oldest.walk_first.Goals as goal

pub walk_atoms-requires : goal.walk_atoms-requires
walk_atoms-requires g c =
    let first = c.in-Some.ensures.first in told_aligned_at (all_of c.args.waiting.now) 0 c.in-Some.given.addr first.0 c.requires first.1

pub returns-in_default : goal.returns-in_default
returns-in_default g c =
    record {
      added = [];
      takes = g.met.T.StretchTaker.none c.args.image.now c.args.id c.args.walker.now.ctx c.args.taker.now;
      count = refl;
      walks = refl;
      within = omega arith;
      few = omega arith;
      context = refl;
    }

pub returns : goal.returns
returns g c =
    let walks = c.walk_atoms.ensures.walks in let given = c.in-Some.given in
    record {
      added = walks.added;
      takes = walks.takes;
      count = walks.count;
      walks = walks_given c.args.image.now c.args.walker.now c.walk_atoms.new.self given.addr (atoms_in given.atoms) (given.atoms).count
          (all_of c.args.waiting.now) walks.added c.in-Some.ensures.atoms walks.walks;
      within = omega (arith, c.walk_atoms.ensures.most, c.in-Some.ensures.most);
      few = omega (arith, c.walk_atoms.ensures.most, c.in-Some.ensures.few);
      context = c.walk_atoms.ensures.context;
    }
