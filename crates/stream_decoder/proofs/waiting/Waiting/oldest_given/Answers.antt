use Rattle.std.proofs.Common.{◌≤◌, ap, arith, subst, sym, ◌∙◌}
use Rattle.std.proofs.lemmas.List.{take-append-drop}
use Rattle.element_queue.proofs.GivenFronts.{begins_first}
use Rattle.element_queue.specs.Queued.{BeginsWith}
use Rattle.stream_decoder.specs.Waiting.{all_of}
use Rattle.stream_decoder.proofs.Rotating.{fewer_given}
use Rattle.stream_decoder.proofs.waiting.Waiting.oldest_given.Goals as goal

-- what the queue tells is told of all that wait
begins : (c : goal.After-min) → BeginsWith c.in_ok-addr.field-0 (all_of c.args.self.now)
begins c =
    let s = c.self.inside in
    subst (BeginsWith c.in_ok-addr.field-0) (sym (take-append-drop s.due s.queue.held) ∙ ap all_of c.self.view_is) c.in_ok-addr.ensures.value

pub returns-clause-atoms : goal.returns-clause-atoms
returns-clause-atoms c =
    let given = c.in_ok-addr.field-0 in
    let few : c.min.result ≤ (given.atoms).count = omega (arith, c.min.ensures, c.from.ensures) in
    fewer_given given.addr (given.atoms).count c.min.result (given.atoms).bits (all_of c.args.self.now) few (begins c).atoms

pub returns-clause-first : goal.returns-clause-first
returns-clause-first c = begins_first c.in_ok-addr.field-0 (all_of c.args.self.now) (begins c)
