use Rattle.std.proofs.Common.{◌≡◌, [], Option, Some, None, refl, sym, ap, subst, ◌∙◌, arith}
use Rattle.stream_decoder.specs.Decoding.{AtRest, Decoding}
use Rattle.stream_decoder.specs.Yields.{Goes, items_found}
use Rattle.stream_decoder.specs.declared.found.Found.{Found}
use Rattle.stream_decoder.proofs.Coming.{none_due}
use Rattle.stream_decoder.proofs.Stepping.{nothing_left}
use Rattle.stream_decoder.proofs.Yielding.{ends_at_rest, ends_stopped, goes_nowhere, goes_on, goes_to_end}
use Rattle.stream_decoder.proofs.machine.Decoding.next.Goals as goal

pub loop-self-init : goal.loop-self-init
loop-self-init c = record { goes = goes_nowhere c.args.image.now c.args.self.now; fewer = omega arith; rest = λ done. refl }

pub loop-self-smaller : goal.loop-self-smaller
loop-self-smaller c = c.in-Ok-None.ensures.fewer

pub loop-self-preserved : goal.loop-self-preserved
loop-self-preserved c =
    let old = c.args.self.now in let here = c.loop-self.self in let next = c.step.new.self in
    let step : Goes c.args.image.now here [] next = subst (λ (f : Option Found). Goes c.args.image.now here (items_found f) next)
    c.in-Ok-None.field-0-is c.in-Ok-None.ensures.goes in
    record {
      goes = goes_on c.args.image.now old here next [] [] c.loop-self.invariant.goes step;
      fewer = let less = c.in-Ok-None.ensures.fewer in let before = c.loop-self.invariant.fewer in omega (arith, less, before);
      rest = λ done. absurd (nothing_left here (subst AtRest (sym (c.loop-self.invariant.rest done)) done) (c.is_at_rest.ensures.left c.loop-self-test.true));
    }

pub returns-in-Ok-clause-found : goal.returns-in-Ok-clause-found
returns-in-Ok-clause-found c found is =
    let old = c.args.self.now in let here = c.loop-self.self in let next = c.step.new.self in
    let step = subst (λ (f : Option Found). Goes c.args.image.now here (items_found f) next) is c.in-Ok.ensures.goes in
    goes_on c.args.image.now old here next [] (items_found (Some found)) c.loop-self.invariant.goes step

pub returns-in-Err-clause-ends : goal.returns-in-Err-clause-ends
returns-in-Err-clause-ends c none whole =
    let image = c.args.image.now in let old = c.args.self.now in let here = c.loop-self.self in let mid = c.step.new.self in
    let ends = ends_stopped image here mid c.stop.new.self c.in-Err.fault (c.step.ensures.stops c.in-Err.fault c.in-Err.is) c.stop.ensures.value in
    goes_to_end image old here c.stop.new.self [] [] c.loop-self.invariant.goes ends

pub returns-clause-ends : goal.returns-clause-ends
returns-clause-ends c none whole =
    let image = c.args.image.now in let old = c.args.self.now in let here = c.loop-self.self in
    let done = c.is_at_rest.ensures.rest.0 c.loop-self-test.false in
    let same : here.fault ≡ None = ap (λ (d : Decoding). d.fault) c.loop-self.invariant.goes.rest ∙ whole in
    let ends = ends_at_rest image here same (sym (none_due here done.due c.is_at_rest.ensures.holds.range.committed)) done in
    goes_to_end image old here here [] [] c.loop-self.invariant.goes ends

pub returns-in-Err-clause-reader : goal.returns-in-Err-clause-reader
returns-in-Err-clause-reader c =
    ap (λ (d : Decoding). d.reader) c.stop.ensures.value
    ∙ ap (λ (d : Decoding). d.reader) (c.step.ensures.stops c.in-Err.fault c.in-Err.is).rest ∙ ap (λ (d : Decoding). d.reader) c.loop-self.invariant.goes.rest
