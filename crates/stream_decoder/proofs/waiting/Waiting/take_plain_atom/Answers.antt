use Rattle.std.proofs.Common.{List, refl, ap, subst, ◌∙◌}
use Rattle.etm_types.specs.declared.element.Elem.TheVariants as elem
use Rattle.etm_types.specs.declared.element.P0.TheVariants.{Atom}
use Rattle.etm_types.specs.declared.element.Thing.{Thing}
use Rattle.stream_decoder.specs.Waiting.{Commits, Waiting, waiting_of}
use Rattle.stream_decoder.proofs.Atoms.{committed_so}
use Rattle.stream_decoder.proofs.Waits.{commits_by, commits_from, none_to}
use Rattle.stream_decoder.proofs.waiting.Waiting.take_plain_atom.Goals as goal

pub returns-clause-commits : goal.returns-clause-commits
returns-clause-commits c =
    let s = c.self.inside in let i = c.self.invariant in let e = elem.P0 (Atom c.args.taken) in
    let none = none_to s.queue.held s.due i.0 (ap (λ (w : Waiting). w.due) c.self.view_is ∙ c.requires.due) in
    let commits = commits_from s.queue c.push_plain.new.self c.push_plain.new.self s.informed s.informed s.due 0 s.due _ _ e _ c.self.view_is none refl refl none
    (commits_by s.queue c.push_plain.new.self s.informed e _ _ i.2 c.push_plain.ensures.takes refl) in
    subst (λ (things : List Thing). Commits c.args.self.now e (waiting_of c.push_plain.new.self s.informed s.due) things)
    (committed_so s.queue c.push_plain.new.self s.informed s.due c.args.self.now (Atom c.args.taken) _ c.self.view_is none c.push_plain.ensures.takes) commits
