use Rattle.std.proofs.Common.{Some, refl, sym, ap, ◌∙◌, subst, inl, inr}
use Rattle.packet_grammar.specs.declared.stream_fault.Fault.TheVariants as fault
use Rattle.packet_reader.specs.declared.step.Step.{Step}
use Rattle.path_elements.proofs.Taken.{in_range}
use Rattle.stream_decoder.specs.Decoding.{AtRest, Decoding, decoding_of}
use Rattle.stream_decoder.specs.Yields.{Opens}
use Rattle.stream_decoder.proofs.Beginning.{begun_behind_fault, begun_opening, kept_faulted, kept_reading, takes_byte, unmet}
use Rattle.stream_decoder.proofs.machine.Decoding.begin_any.Goals as goal

pub invariant_of-self : goal.invariant_of-self
invariant_of-self c =
    let i = c.self.inside in let t = c.take-step in
    kept_reading i.reader t.new.self c.args.byte c.ranges.byte.fits t.result t.ensures.settings t.ensures.stands
    t.ensures.gains i.maker i.todo i.waiting i.walker i.fault
    c.self.invariant

pub returns-then-is_some-clause-takes : goal.returns-then-is_some-clause-takes
returns-then-is_some-clause-takes c =
    let i = c.self.inside in let t = c.take-step in
    takes_byte c.args.self.now i.reader t.new.self _ c.args.byte (ap (λ (d : Decoding). d.reader) c.self.view_is) t.ensures.offset t.ensures.settings refl
    (begun_behind_fault i.reader t.new.self c.args.byte c.ranges.byte.fits t.result t.ensures.settings t.ensures.stands
    t.ensures.gains i.maker i.todo i.waiting i.walker
    i.fault c.args.self.now c.self.view_is _ refl c.if-is_some.ensures refl)

pub returns-then-is_some-clause-holds : goal.returns-then-is_some-clause-holds
returns-then-is_some-clause-holds c =
    let i = c.self.inside in let t = c.take-step in
    (kept_reading i.reader t.new.self c.args.byte c.ranges.byte.fits t.result t.ensures.settings t.ensures.stands
    t.ensures.gains i.maker i.todo i.waiting i.walker i.fault
    c.self.invariant).1

pub invariant_of-self-in-Whole : goal.invariant_of-self-in-Whole
invariant_of-self-in-Whole c =
    let i = c.self.inside in let t = c.take-step in
    kept_reading i.reader t.new.self c.args.byte c.ranges.byte.fits t.result t.ensures.settings t.ensures.stands
    t.ensures.gains i.maker i.todo i.waiting i.walker i.fault
    c.self.invariant

pub open-requires-clause-packet : goal.open-requires-clause-packet
open-requires-clause-packet c =
    let i = c.self.inside in let is = (c.self.invariant.1).reads in
    in_range i.reader.settings c.in-Whole.packet (c.take-step.ensures.values is.bytes is.stands is.small c.in-Whole.at c.in-Whole.packet c.in-Whole.is)

pub invariant_of-self-in-Bad : goal.invariant_of-self-in-Bad
invariant_of-self-in-Bad c =
    let i = c.self.inside in let t = c.take-step in
    kept_faulted i.reader t.new.self c.args.byte c.ranges.byte.fits t.result t.ensures.settings t.ensures.stands
    t.ensures.gains i.maker i.todo i.waiting i.walker i.fault
    c.self.invariant (c.in-Bad.at, fault.Packet c.in-Bad.fault) (subst AtRest (sym c.self.view_is) c.requires.rest)

pub invariant_of-self-in-Skipped : goal.invariant_of-self-in-Skipped
invariant_of-self-in-Skipped c =
    let i = c.self.inside in let t = c.take-step in
    kept_reading i.reader t.new.self c.args.byte c.ranges.byte.fits t.result t.ensures.settings t.ensures.stands
    t.ensures.gains i.maker i.todo i.waiting i.walker i.fault
    c.self.invariant

pub returns-in-Whole-clause-takes : goal.returns-in-Whole-clause-takes
returns-in-Whole-clause-takes c =
    let i = c.self.inside in let t = c.take-step in
    let here = decoding_of i.reader i.maker i.todo i.waiting i.walker i.fault in
    let opens : Opens here t.result c.open.new.self = subst (λ (x : Step). Opens here x c.open.new.self) (sym c.in-Whole.is) c.open.ensures.opens in
    takes_byte c.args.self.now i.reader t.new.self c.open.new.self c.args.byte (ap (λ (d : Decoding). d.reader) c.self.view_is) t.ensures.offset t.ensures.settings c.open.ensures.reader
    (begun_opening i.reader t.new.self c.args.byte c.ranges.byte.fits t.result t.ensures.settings t.ensures.stands
    t.ensures.gains i.maker i.todo i.waiting i.walker
    i.fault c.args.self.now c.self.view_is c.open.new.self c.open.ensures.reader (unmet i.fault (sym c.is_some.ensures ∙ c.if-is_some.false)) opens)

pub returns-in-Bad-clause-takes : goal.returns-in-Bad-clause-takes
returns-in-Bad-clause-takes c =
    let i = c.self.inside in let t = c.take-step in
    let here = decoding_of i.reader i.maker i.todo i.waiting i.walker i.fault in
    let now : Decoding = record here { reader = t.new.self; fault = Some (c.in-Bad.at, fault.Packet c.in-Bad.fault) } in
    let opens : Opens here t.result now = subst (λ (x : Step). Opens here x now) (sym c.in-Bad.is) refl in
    takes_byte c.args.self.now i.reader t.new.self now c.args.byte (ap (λ (d : Decoding). d.reader) c.self.view_is) t.ensures.offset t.ensures.settings refl
    (begun_opening i.reader t.new.self c.args.byte c.ranges.byte.fits t.result t.ensures.settings t.ensures.stands
    t.ensures.gains i.maker i.todo i.waiting i.walker
    i.fault c.args.self.now c.self.view_is now refl (unmet i.fault (sym c.is_some.ensures ∙ c.if-is_some.false)) opens)

pub returns-in-Bad-clause-holds : goal.returns-in-Bad-clause-holds
returns-in-Bad-clause-holds c = (invariant_of-self-in-Bad c).1

pub returns-in-Skipped : goal.returns-in-Skipped
returns-in-Skipped c =
    let i = c.self.inside in let t = c.take-step in
    let here = decoding_of i.reader i.maker i.todo i.waiting i.walker i.fault in
    let now : Decoding = record here { reader = t.new.self } in
    let opens : Opens here t.result now =
    elim c.in-Skipped.is [
      | inl skipped ↦ subst (λ (x : Step). Opens here x now) (sym skipped) refl
      | inr other ↦ elim other [
        | inl more ↦ subst (λ (x : Step). Opens here x now) (sym more) refl
        | inr stopped ↦ subst (λ (x : Step). Opens here x now) (sym stopped) refl
      ]
    ] in
    record {
      takes = takes_byte c.args.self.now i.reader t.new.self now c.args.byte (ap (λ (d : Decoding). d.reader) c.self.view_is) t.ensures.offset
          t.ensures.settings refl
          (begun_opening i.reader t.new.self c.args.byte c.ranges.byte.fits t.result t.ensures.settings t.ensures.stands
          t.ensures.gains i.maker i.todo i.waiting
          i.walker i.fault c.args.self.now c.self.view_is now refl (unmet i.fault (sym c.is_some.ensures ∙ c.if-is_some.false)) opens);
      holds = (invariant_of-self-in-Skipped c).1;
    }
