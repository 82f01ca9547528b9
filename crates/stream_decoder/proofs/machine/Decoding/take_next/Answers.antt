use Rattle.std.proofs.Common.{Some, ap, subst, ◌∙◌}
use Rattle.std.specs.Prelude.{option_to_list}
use Rattle.stream_decoder.specs.Decoding.{Decoding, decoding_of}
use Rattle.stream_decoder.specs.Waiting.{Commits, Waiting}
use Rattle.stream_decoder.specs.Yields.{Leaves}
use Rattle.stream_decoder.proofs.Taking.{due_aligned, holds_due, holds_taken, leaves_due, leaves_taken, taken_given}
use Rattle.stream_decoder.proofs.machine.Decoding.take_next.Goals as goal

pub invariant_of-self : goal.invariant_of-self
invariant_of-self c =
    let i = c.self.inside in
    holds_due i.reader i.maker i.todo i.waiting c.next_due.new.self i.walker i.fault c.in-Some.thing c.in-Some.ensures.order
    c.in-Some.ensures.others c.self.invariant
    c.next_due.ensures.holds

pub returns-in-Some-clause-ok : goal.returns-in-Some-clause-ok
returns-in-Some-clause-ok c =
    let i = c.self.inside in
    let leaves = leaves_due i.reader i.maker i.todo i.waiting c.next_due.new.self i.walker i.fault c.in-Some.thing
    c.in-Some.ensures.order c.in-Some.ensures.others
    c.self.invariant.1.range in
    subst (λ (d : Decoding). Leaves d (decoding_of i.reader i.maker i.todo c.next_due.new.self i.walker i.fault) (Some c.in-Some.thing)) c.self.view_is leaves

pub returns-in-Some-clause-aligned : goal.returns-in-Some-clause-aligned
returns-in-Some-clause-aligned c =
    let i = c.self.inside in
    due_aligned i.reader i.maker i.todo i.waiting c.next_due.new.self i.walker i.fault c.in-Some.thing c.in-Some.ensures.order
    c.in-Some.ensures.others c.self.invariant.1

pub returns-in-Some-clause-holds : goal.returns-in-Some-clause-holds
returns-in-Some-clause-holds c = (invariant_of-self c).1

-- nothing was due, and the element commits what it commits from here
commits : (c : goal.After-advance) → Commits c.self.inside.waiting c.in-Some-first.elem c.take.new.self (option_to_list c.in_ok-thing.thing)
commits c =
    subst (λ (w : Waiting). Commits w c.in-Some-first.elem c.take.new.self (option_to_list c.in_ok-thing.thing))
    (c.next_due.ensures.none c.in_default.is).1 c.in_ok-thing.ensures.ok

pub invariant_of-self-2 : goal.invariant_of-self-2
invariant_of-self-2 c =
    let i = c.self.inside in let first = c.first.ensures.some c.in-Some-first.elem c.in-Some-first.is in
    holds_taken i.reader i.maker i.todo c.advance.new.self i.waiting c.take.new.self i.walker i.fault c.in-Some-first.elem first.0 c.in_ok-thing.thing first.1
    (c.advance.ensures c.in-Some-first.elem first.0 first.1) (c.next_due.ensures.none c.in_default.is).0 c.self.invariant
    (ap (λ (d : Decoding). d.fault) c.self.view_is ∙ c.requires.whole) (commits c) c.take.ensures.holds

pub returns-clause-ok : goal.returns-clause-ok
returns-clause-ok c =
    let i = c.self.inside in let first = c.first.ensures.some c.in-Some-first.elem c.in-Some-first.is in
    let leaves = leaves_taken i.reader i.maker i.todo c.advance.new.self i.waiting c.take.new.self i.walker i.fault c.in-Some-first.elem first.0
    c.in_ok-thing.thing first.1
    (c.advance.ensures c.in-Some-first.elem first.0 first.1) (c.next_due.ensures.none c.in_default.is).0 c.self.invariant
    (ap (λ (d : Decoding). d.fault) c.self.view_is ∙ c.requires.whole) (commits c) c.take.ensures.holds in
    subst (λ (d : Decoding). Leaves d (decoding_of i.reader i.maker c.advance.new.self c.take.new.self i.walker i.fault) c.in_ok-thing.thing) c.self.view_is leaves

pub returns-clause-aligned : goal.returns-clause-aligned
returns-clause-aligned c =
    let i = c.self.inside in let first = c.first.ensures.some c.in-Some-first.elem c.in-Some-first.is in
    taken_given i.reader i.maker i.todo c.advance.new.self i.waiting c.take.new.self i.walker i.fault c.in-Some-first.elem first.0 c.in_ok-thing.thing first.1
    (c.advance.ensures c.in-Some-first.elem first.0 first.1) (c.next_due.ensures.none c.in_default.is).0 c.self.invariant
    (ap (λ (d : Decoding). d.fault) c.self.view_is ∙ c.requires.whole) (commits c) c.take.ensures.holds

pub returns-clause-holds : goal.returns-clause-holds
returns-clause-holds c = (invariant_of-self-2 c).1
