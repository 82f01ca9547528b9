use Rattle.std.proofs.Common.{◌≡◌, ℕ, true, [], drop, ap, subst, sym, ◌∙◌, refl}
use Rattle.element_queue.proofs.Noted.{begun}
use Rattle.stream_decoder.specs.Waiting.{Waiting}
use Rattle.stream_decoder.proofs.Waits.{commits_from, informs_again_if, informs_first_if, none_to}
use Rattle.stream_decoder.proofs.waiting.Waiting.inform.Goals as goal

-- a later one
pub returns-then-self-clause-ok : goal.returns-then-self-clause-ok
returns-then-self-clause-ok c =
    let s = c.self.inside in
    let i = c.self.invariant in
    let none = none_to s.queue.held s.due i.0 (ap (λ (w : Waiting). w.due) c.self.view_is ∙ c.requires.due) in
    commits_from s.queue _ c.note.new.self s.informed s.informed s.due 0 s.due _ _ _ _ c.self.view_is none refl c.note.ensures.value none
    (informs_again_if s.queue s.informed c.args.spec i.2 c.if-self.true)

-- the first
pub returns-clause-ok : goal.returns-clause-ok
returns-clause-ok c =
    let s = c.self.inside in
    let i = c.self.invariant in
    let none = none_to s.queue.held s.due i.0 (ap (λ (w : Waiting). w.due) c.self.view_is ∙ c.requires.due) in
    let first = ap (λ (v : Waiting). (v.pending).informed) (sym c.self.view_is) ∙ c.if-self.false in
    let held = ap (λ (v : Waiting). (v.pending).held) c.self.view_is ∙ c.requires.begins first in
    let empty = subst (λ (k : ℕ). drop k s.queue.held ≡ []) none held in
    let ok = c.in_ok-start.ensures in
    commits_from s.queue _ c.start.new.self s.informed true s.due 0 s.due _ _ _ _ c.self.view_is none refl
    (begun s.queue c.start.new.self c.args.spec empty (ok.within.0 refl) (ok.ok refl)) none
    (informs_first_if s.queue s.informed c.args.spec i.2 c.if-self.false empty (ok.within.0 refl))
