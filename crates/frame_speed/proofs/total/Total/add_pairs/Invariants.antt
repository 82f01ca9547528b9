use Rattle.std.proofs.Common.{◌≡◌, take}
use Rattle.frame_speed.specs.Sum.{digest_of_pairs}
use Rattle.frame_speed.proofs.total.Total.add_pairs.Given as goal

abbrev pub invariant-loop-i : goal.invariant-loop-i
invariant-loop-i l = record {
  count : l.self.count ≡ l.fn.self.count;
  digest : l.self.digest ≡ digest_of_pairs l.fn.self.digest (take l.i l.bytes);
}
