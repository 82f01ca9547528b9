use Rattle.std.proofs.Common.{ap, sym, ◌∙◌, refl}
use Rattle.std.proofs.lemmas.Result.{err_from_is_err_and}
use Rattle.element_queue.specs.Pending.{nothing_gone}
use Rattle.etm_types.specs.declared.element.Elem.TheVariants as elem
use Rattle.stream_decoder.proofs.Waits.{commits_by, commits_due, commits_from, none_to, refuses_from}
use Rattle.stream_decoder.proofs.Waits.{takes_addr, takes_ctx, takes_discard, takes_on, takes_overflow}
use Rattle.stream_decoder.proofs.waiting.Waiting.take.Goals as goal

pub returns-in-P0-clause-ok : goal.returns-in-P0-clause-ok
returns-in-P0-clause-ok c =
    let s = c.self-in-P0.inside in
    let i = c.self-in-P0.invariant in
    let none = none_to s.queue.held s.due i.0 (ap (λ w. w.due) c.self-in-P0.view_is ∙ c.requires.due) in
    commits_from s.queue c.push.new.self c.push.new.self s.informed s.informed s.due 0 s.due _ _ _ _ c.self-in-P0.view_is none c.in-P0.is refl none
    (commits_by s.queue c.push.new.self s.informed (elem.P0 c.in-P0.p0) _ _ i.2 c.push.ensures.takes (sym c.thing_of.ensures))

pub returns-in_err-check_commit-in-Commit-clause-fault : goal.returns-in_err-check_commit-in-Commit-clause-fault
returns-in_err-check_commit-in-Commit-clause-fault c fault is =
    let s = c.self-in-Commit.inside in
    let none = none_to s.queue.held s.due c.self-in-Commit.invariant.0 (ap (λ w. w.due) c.self-in-Commit.view_is ∙ c.requires.due) in
    let p = err_from_is_err_and c.from_residual.result c.from_residual.ensures.1 in
    let a = p.1 in
    let b = p.2 in
    refuses_from s.queue s.informed s.due _ (elem.Commit c.in-Commit.n) _ fault c.self-in-Commit.view_is none c.in-Commit.is
    (c.in_err-check_commit-in-Commit.ensures.fault fault cc)

pub returns-in_err-cancel-in-Cancel-clause-fault : goal.returns-in_err-cancel-in-Cancel-clause-fault
returns-in_err-cancel-in-Cancel-clause-fault c fault is =
    let s = c.self-in-Cancel.inside in
    let none = none_to s.queue.held s.due c.self-in-Cancel.invariant.0 (ap (λ w. w.due) c.self-in-Cancel.view_is ∙ c.requires.due) in
    let p = err_from_is_err_and c.from_residual-in_err-cancel-in-Cancel.result c.from_residual-in_err-cancel-in-Cancel.ensures.1 in
    let a = p.1 in
    let b = p.2 in
    refuses_from s.queue s.informed s.due _ (elem.Cancel c.in-Cancel.n) _ fault c.self-in-Cancel.view_is none c.in-Cancel.is
    (c.in_err-cancel-in-Cancel.ensures.fault fault cc)

pub returns-in_err-flip-in-Flip-clause-fault : goal.returns-in_err-flip-in-Flip-clause-fault
returns-in_err-flip-in-Flip-clause-fault c fault is =
    let s = c.self-in-Flip.inside in
    let none = none_to s.queue.held s.due c.self-in-Flip.invariant.0 (ap (λ w. w.due) c.self-in-Flip.view_is ∙ c.requires.due) in
    let p = err_from_is_err_and c.from_residual-in_err-flip-in-Flip.result c.from_residual-in_err-flip-in-Flip.ensures.1 in
    let a = p.1 in
    let b = p.2 in
    refuses_from s.queue s.informed s.due _ elem.Flip _ fault c.self-in-Flip.view_is none c.in-Flip.is
    (c.in_err-flip-in-Flip.ensures.fault fault cc)

pub returns-in-Overflow-clause-ok : goal.returns-in-Overflow-clause-ok
returns-in-Overflow-clause-ok c =
    let s = c.self-in-Overflow.inside in
    let i = c.self-in-Overflow.invariant in
    let none = none_to s.queue.held s.due i.0 (ap (λ w. w.due) c.self-in-Overflow.view_is ∙ c.requires.due) in
    commits_from s.queue _ c.discard.new.self s.informed s.informed s.due 0 s.due _ _ _ _ c.self-in-Overflow.view_is none c.in-Overflow.is
    c.discard.ensures.value none
    (commits_by s.queue _ s.informed elem.Overflow _ _ i.2 (takes_overflow s.queue) refl)

pub returns-in-Discard-clause-ok : goal.returns-in-Discard-clause-ok
returns-in-Discard-clause-ok c =
    let s = c.self-in-Discard.inside in
    let i = c.self-in-Discard.invariant in
    let none = none_to s.queue.held s.due i.0 (ap (λ w. w.due) c.self-in-Discard.view_is ∙ c.requires.due) in
    commits_from s.queue _ c.discard-in-Discard.new.self s.informed s.informed s.due 0 s.due _ _ _ _ c.self-in-Discard.view_is none c.in-Discard.is
    c.discard-in-Discard.ensures.value none
    (commits_by s.queue _ s.informed elem.Discard _ _ i.2 (takes_discard s.queue) refl)

pub returns-in-On-clause-ok : goal.returns-in-On-clause-ok
returns-in-On-clause-ok c =
    let s = c.self.inside in
    let i = c.self.invariant in
    let none = none_to s.queue.held s.due i.0 (ap (λ w. w.due) c.self.view_is ∙ c.requires.due) in
    commits_from s.queue _ c.note.new.self s.informed s.informed s.due 0 s.due _ _ _ _ c.self.view_is none c.in-On.is c.note.ensures.value none
    (commits_by s.queue _ s.informed elem.On nothing_gone _ i.2 (takes_on s.queue i.2) refl)

pub returns-in-Ctx-clause-ok : goal.returns-in-Ctx-clause-ok
returns-in-Ctx-clause-ok c =
    let s = c.self-in-Ctx.inside in
    let i = c.self-in-Ctx.invariant in
    let none = none_to s.queue.held s.due i.0 (ap (λ w. w.due) c.self-in-Ctx.view_is ∙ c.requires.due) in
    commits_from s.queue _ c.note-in-Ctx.new.self s.informed s.informed s.due 0 s.due _ _ _ _ c.self-in-Ctx.view_is none c.in-Ctx.is
    c.note-in-Ctx.ensures.value none
    (commits_by s.queue _ s.informed (elem.Ctx c.in-Ctx.ctx) nothing_gone _ i.2 (takes_ctx s.queue c.in-Ctx.ctx i.2) refl)

pub returns-in-Addr-clause-ok : goal.returns-in-Addr-clause-ok
returns-in-Addr-clause-ok c =
    let s = c.self-in-Addr.inside in
    let i = c.self-in-Addr.invariant in
    let none = none_to s.queue.held s.due i.0 (ap (λ w. w.due) c.self-in-Addr.view_is ∙ c.requires.due) in
    commits_from s.queue _ c.note-in-Addr.new.self s.informed s.informed s.due 0 s.due _ _ _ _ c.self-in-Addr.view_is none c.in-Addr.is
    c.note-in-Addr.ensures.value none
    (commits_by s.queue _ s.informed (elem.Addr c.in-Addr.addr) nothing_gone _ i.2 (takes_addr s.queue c.in-Addr.addr i.2) refl)

pub returns-in_ok-check_commit-in-Commit-clause-ok : goal.returns-in_ok-check_commit-in-Commit-clause-ok
returns-in_ok-check_commit-in-Commit-clause-ok c =
    let s = c.self-in-Commit.inside in
    let i = c.self-in-Commit.invariant in
    let n = c.in-Commit.n in
    let none = none_to s.queue.held s.due i.0 (ap (λ w. w.due) c.self-in-Commit.view_is ∙ c.requires.due) in
    commits_from s.queue s.queue s.queue s.informed s.informed s.due n n _ _ _ _ c.self-in-Commit.view_is none c.in-Commit.is refl refl
    (commits_due s.queue s.informed n i.2 ((c.in_ok-check_commit-in-Commit.ensures).ok.0 refl))

pub returns-in_ok-cancel-in-Cancel-clause-ok : goal.returns-in_ok-cancel-in-Cancel-clause-ok
returns-in_ok-cancel-in-Cancel-clause-ok c =
    let s = c.self-in-Cancel.inside in
    let i = c.self-in-Cancel.invariant in
    let none = none_to s.queue.held s.due i.0 (ap (λ w. w.due) c.self-in-Cancel.view_is ∙ c.requires.due) in
    commits_from s.queue c.cancel.new.self c.cancel.new.self s.informed s.informed s.due 0 s.due _ _ _ _ c.self-in-Cancel.view_is none c.in-Cancel.is refl none
    (commits_by s.queue c.cancel.new.self s.informed (elem.Cancel c.in-Cancel.n) _ _ i.2 ((c.in_ok-cancel-in-Cancel.ensures).ok refl) refl)

pub returns-in_ok-flip-in-Flip-clause-ok : goal.returns-in_ok-flip-in-Flip-clause-ok
returns-in_ok-flip-in-Flip-clause-ok c =
    let s = c.self-in-Flip.inside in
    let i = c.self-in-Flip.invariant in
    let none = none_to s.queue.held s.due i.0 (ap (λ w. w.due) c.self-in-Flip.view_is ∙ c.requires.due) in
    commits_from s.queue c.flip.new.self c.flip.new.self s.informed s.informed s.due 0 s.due _ _ _ _ c.self-in-Flip.view_is none c.in-Flip.is refl none
    (commits_by s.queue c.flip.new.self s.informed elem.Flip nothing_gone _ i.2 ((c.in_ok-flip-in-Flip.ensures).ok refl) refl)
