use Rattle.std.proofs.Common.{◌≡◌, ◌<◌, ◌+◌, ◌-◌, ◌*◌, ◌∷◌, length, drop, arith, ◌∙◌, length-drop, ◌++◌, []}
use Rattle.std.proofs.Math.ListN.{length-set, set}
use Rattle.formatter_frames.specs.Frame.{bits_of, bytes_of}
use Rattle.formatter_frames.proofs.Places.{next_two, laid, bit_more, bits_fit, length-bytes_of, auxiliary_set}
use Rattle.formatter_frames.proofs.frame.frame_of.Goals as goal
use Rattle.formatter_frames.proofs.frame.frame_of.Goals.{After-pair_of-pair}

-- the auxiliary bits with those of the pair
grown : (c : After-pair_of-pair) → 2 * c.loop-n.auxiliary + c.pair_of-pair.result.bit ≡ bits_of (drop (2 * (c.loop-n.n - 1)) c.args.symbols.now)
grown c =
    let more : c.loop-n.n ≡ c.loop-n.n - 1 + 1 = omega arith in
    let within : 2 * (c.loop-n.n - 1) + 1 < length c.args.symbols.now = omega arith in
    bit_more c.args.symbols.now c.loop-n.auxiliary c.loop-n.n (c.loop-n.n - 1) _ _ c.pair_of-pair.result more c.pair_of-pair.ensures.value
    (next_two c.args.symbols.now (c.loop-n.n - 1) _ _ within) c.loop-n.invariant.bits

small : (c : After-pair_of-pair) → 2 * c.loop-n.auxiliary + c.pair_of-pair.result.bit < 256
small c = omega (
  arith,
  grown c,
  bits_fit (drop (2 * (c.loop-n.n - 1)) c.args.symbols.now) 8
      (omega (arith, length-drop (2 * (c.loop-n.n - 1)) c.args.symbols.now)),
)

pub overflow_mul-auxiliary : goal.overflow_mul-auxiliary
overflow_mul-auxiliary c = omega (arith, small c)

pub overflow_add-auxiliary : goal.overflow_add-auxiliary
overflow_add-auxiliary c = omega (arith, small (goal.at.overflow_add-auxiliary c).After-pair_of-pair)

pub loop-n-preserved : goal.loop-n-preserved
loop-n-preserved c =
    let m = c.loop-n.n - 1 in
    let more : c.loop-n.n ≡ c.loop-n.n - 1 + 1 = omega arith in
    let within : 2 * (c.loop-n.n - 1) + 1 < length c.args.symbols.now = omega arith in
    let room : 2 * (c.loop-n.n - 1) + 1 < length c.loop-n.frame = omega arith in
    record {
      size = length-set (set c.loop-n.frame (2 * m) c.pair_of-pair.result.mixed) (2 * m + 1) c.pair_of-pair.result.data
          ∙ length-set c.loop-n.frame (2 * m) c.pair_of-pair.result.mixed ∙ c.loop-n.invariant.size;
      bytes = laid c.loop-n.frame c.args.symbols.now c.loop-n.n m _ _ c.pair_of-pair.result more c.pair_of-pair.ensures.value
          (next_two c.args.symbols.now m _ _ within) room c.loop-n.invariant.bytes;
      bits = grown (goal.at.loop-n-preserved c).After-pair_of-pair;
    }

pub returns : goal.returns
returns c =
    let end : c.loop-n.n ≡ 0 = omega arith in
    let bytes : c.loop-n.frame ≡ bytes_of c.args.symbols.now ++ 0 ∷ [] = rw end at c.loop-n.invariant.bytes in
    let bits : c.loop-n.auxiliary ≡ bits_of c.args.symbols.now = rw end at c.loop-n.invariant.bits in
    rw (bytes, bits) (auxiliary_set (bytes_of c.args.symbols.now) (bits_of c.args.symbols.now) (length-bytes_of c.args.symbols.now ∙ c.type_inv.symbols))
