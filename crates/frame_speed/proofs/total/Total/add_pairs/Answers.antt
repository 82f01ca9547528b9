use Rattle.std.proofs.Common.{ℕ, ◌∙◌, ap, arith, refl, sym}
use Rattle.frame_speed.specs.Sum.{digest_with}
use Rattle.frame_speed.proofs.Pairs.{one_more}
use Rattle.frame_speed.proofs.total.Total.add_pairs.Goals.{in-Some, in_default}
use Rattle.frame_speed.proofs.total.Total.add_pairs.Goals as goal

pub loop-i-preserved : goal.loop-i-preserved
loop-i-preserved c =
    elim c.match-get.branch [
      | in-Some w ↦
          let i = c.loop-i.invariant in
          let pair : ℕ × ℕ = (w.in-Some.id, w.in-Some.byte) in
          let more = one_more c.args.self.now.digest c.args.bytes.now c.loop-i.i pair (sym c.get.ensures.value ∙ w.in-Some.is) in
          rw (w.self-is, w.add-in-Some.ensures, w.add.ensures) record {
            count = i.count;
            digest = ap (λ (digest : ℕ). digest_with (digest_with digest w.in-Some.id) w.in-Some.byte) i.digest ∙ sym more;
          }
      | in_default w ↦ absurd (omega (arith, w.in_default.ensures.none.0 refl, c.loop-i-test.true, c.len-i-end.ensures.count))
    ]
