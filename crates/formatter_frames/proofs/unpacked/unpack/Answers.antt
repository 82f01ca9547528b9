use Rattle.std.proofs.Common.{◌≡◌, ◌+◌, ◌*◌, ◌/◌, ◌++◌, ◌∷◌, length, take, drop, arith, ◌∙◌, ap, sym}
use Rattle.formatter_frames.specs.Symbols.{pairs_of, id_after}
use Rattle.formatter_frames.proofs.Symbols.{one_taken, one_passed}
use Rattle.formatter_frames.proofs.Places.{symbols_at, symbols_in_is, next_pair, last_byte, two_read, one_read}
use Rattle.formatter_frames.proofs.unpacked.unpack.Goals as goal

pub loop-n-init : goal.loop-n-init
loop-n-init c =
    let read = symbols_in_is c.args.frame.now c.told-frame in
    record {
      few = omega (arith, ap length c.new-unpacked.ensures);
      pairs = rw c.new-unpacked.ensures (ap (pairs_of c.args.current.now) read);
      current = ap (id_after c.args.current.now) read;
      within = c.requires;
    }

pub loop-n-preserved : goal.loop-n-preserved
loop-n-preserved c =
    let frame = c.args.frame.now in
    let rest = symbols_at (c.loop-n.auxiliary / 2) (drop (2 * (c.loop-n.n + 1)) (take 15 frame)) in
    let symbols = c.pair_symbols-first.result in
    let read =
    two_read c.loop-n.auxiliary _ _ (drop (2 * c.loop-n.n) (take 15 frame)) _ symbols (next_pair frame c.loop-n.n c.told-frame c.loop-n-test.true)
    c.pair_symbols-first.ensures in
    record {
      few = omega arith;
      pairs =
          one_taken _ c.take.new.self _ c.take.new.current _ symbols.1 rest
          (one_taken _ c.loop-n.unpacked _ c.loop-n.current _ symbols.0 (symbols.1 ∷ rest)
          (c.loop-n.invariant.pairs ∙ ap (λ xs. c.loop-n.unpacked ++ pairs_of c.loop-n.current xs) read) c.take.ensures.pairs c.take.ensures.current)
          c.take-in-loop-n.ensures.pairs c.take-in-loop-n.ensures.current;
      current =
          one_passed _ c.take.new.current _ symbols.1 rest
          (one_passed _ c.loop-n.current _ symbols.0 (symbols.1 ∷ rest) (c.loop-n.invariant.current ∙ ap (id_after c.loop-n.current) read)
          c.take.ensures.current)
          c.take-in-loop-n.ensures.current;
      within = c.take-in-loop-n.ensures.within;
    }

pub returns-clause-pairs : goal.returns-clause-pairs
returns-clause-pairs c =
    let frame = c.args.frame.now in
    let end : c.loop-n.n ≡ 7 = omega arith in
    let read = one_read c.loop-n.auxiliary _ (drop 14 (take 15 frame)) c.mixed_symbol.result (last_byte frame c.told-frame) c.mixed_symbol.ensures in
    c.take-2.ensures.pairs ∙ sym (c.loop-n.invariant.pairs ∙ rw (end, read))

pub returns-clause-current : goal.returns-clause-current
returns-clause-current c =
    let frame = c.args.frame.now in
    let end : c.loop-n.n ≡ 7 = omega arith in
    let read = one_read c.loop-n.auxiliary _ (drop 14 (take 15 frame)) c.mixed_symbol.result (last_byte frame c.told-frame) c.mixed_symbol.ensures in
    c.take-2.ensures.current ∙ sym (c.loop-n.invariant.current ∙ rw (end, read))
