use Rattle.std.proofs.Common.{◌≡◌, ◌≤◌, ◌-◌, ◌/◌, ◌^◌, None}
use Rattle.etm_types.specs.Atoms.{low_bits}
use Rattle.path_walker.specs.State.{standing}
use Rattle.path_walker.specs.Together.{WalksInto}
use Rattle.path_walker.specs.declared.pc.Pc.TheVariants.{Known}
use Rattle.path_walker.proofs.walker.Walker.walk_known.Given as goal

abbrev pub decreases-loop-n : goal.decreases-loop-n
decreases-loop-n g l = l.most - l.n

abbrev pub invariant-loop-n : goal.invariant-loop-n
invariant-loop-n g l =
    record {
      walks : WalksInto (g.T.StretchTaker.adds l.image l.id) g.T.StretchTaker.space g.T.StretchTaker.begun l.image l.fn.self None
          (low_bits l.most l.bits) l.fn.taker l.n (standing (Known l.pc) l.self) l.taker;
      left : l.left ≡ l.bits / 2 ^ l.n;
      most : l.n ≤ l.most;
      room : l.most - l.n ≤ g.T.StretchTaker.space l.taker;
    }
