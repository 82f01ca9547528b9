use Rattle.std.proofs.Common.{◌≡◌, ◌+◌, ◌-◌, ◌*◌, ◌++◌, length, take}
use Rattle.std.specs.Prelude.{map}
use Rattle.etm_types.specs.Atoms.{low_bits}
use Rattle.path_text.specs.PacketLines.{letter}
use Rattle.path_text.proofs.letters.put_atoms.Given as goal

abbrev pub invariant-loop-four : goal.invariant-loop-four
invariant-loop-four l = record {
  len : length l.text ≡ length l.fn.text;
  so_far : take (l.start + 4 * l.four) l.text ++ map letter (low_bits (24 - 4 * l.four) l.rest)
      ≡ take l.start l.fn.text ++ map letter (low_bits 24 l.run.bits);
}
