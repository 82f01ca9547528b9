use Rattle.std.proofs.Common.{ap, refl}
use Rattle.time_marks.specs.Marked.{Marked}
use Rattle.time_marks.proofs.Standing.{stands_first}
use Rattle.time_marks.proofs.decoder.TimedDecoder.new.Goals as goal

pub returns-clause-stands : goal.returns-clause-stands
returns-clause-stands c =
    let p = c.in_ok-new.ensures in
    stands_first (record { reader = c.new.result; timing = c.in_ok-new.field-0; broken = _ }) refl c.new.ensures.stands
    (record {
      told = p.first.0;
      stamp = p.first.1;
      marks = record {
        pending = ap (λ (m : Marked). m.pending) p.none.0;
        held = ap (λ (m : Marked). m.marks) p.none.0;
        counts = ap (λ (m : Marked). m.counts) p.none.0;
        shown = p.none.1;
      };
    }) p.none.2
