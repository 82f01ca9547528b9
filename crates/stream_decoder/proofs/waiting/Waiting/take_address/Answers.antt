use Rattle.std.proofs.Common.{refl, ap, ◌∙◌}
use Rattle.etm_types.specs.declared.element.Elem.TheVariants as elem
use Rattle.element_queue.specs.Pending.{nothing_gone}
use Rattle.stream_decoder.specs.Waiting.{Waiting}
use Rattle.stream_decoder.proofs.Waits.{commits_by, commits_from, none_to, takes_addr}
use Rattle.stream_decoder.proofs.waiting.Waiting.take_address.Goals as goal

pub returns-clause-commits : goal.returns-clause-commits
returns-clause-commits c =
    let s = c.self.inside in let i = c.self.invariant in
    let none = none_to s.queue.held s.due i.0 (ap (λ (w : Waiting). w.due) c.self.view_is ∙ c.requires.due) in
    commits_from s.queue _ c.note.new.self s.informed s.informed s.due 0 s.due _ _ _ _ c.self.view_is none refl
    c.note.ensures.value none
    (commits_by s.queue _ s.informed (elem.Addr c.args.addr) nothing_gone _ i.2 (takes_addr s.queue c.args.addr i.2) refl)
