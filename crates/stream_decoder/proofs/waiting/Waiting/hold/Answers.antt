use Rattle.std.proofs.Common.{◌≡◌, ◌++◌, length, map, ap, arith, subst, sym, ◌∙◌, ℕ}
use Rattle.element_queue.specs.Queued.{Queued, holding, plain_atom}
use Rattle.etm_types.specs.Atoms.{atoms_in}
use Rattle.etm_types.specs.declared.element.Pre.{Pre}
use Rattle.path_elements.specs.Elements.{atoms}
use Rattle.stream_decoder.specs.Waiting.{HoldsAtoms, Waiting, waiting_of}
use Rattle.stream_decoder.proofs.Rotating.{keeps, length_bits, made_more, waiting_at}
use Rattle.stream_decoder.proofs.Waits.{none_to}
use Rattle.stream_decoder.proofs.waiting.Waiting.hold.Goals as goal

pub returns-clause-takes : goal.returns-clause-takes
returns-clause-takes c took others =
    let s = c.self.inside in let i = c.self.invariant in let q = s.queue in let run = atoms_in c.args.run.now in let n = c.args.run.now.count in
    let h = c.hold.ensures in let when = h.when.0 took in
    let none = none_to q.held s.due i.0 (ap (λ (w : Waiting). w.due) c.self.view_is ∙ c.requires.due) in
    let count : length run ≡ n = length_bits n c.args.run.now.bits in
    let before : waiting_at s.informed q.depth q.held q.counts ≡ c.args.self.now =
    ap (λ (pre : Pre). waiting_of (record q { pre = pre }) s.informed 0) (sym when.1)
    ∙ ap (λ (due : ℕ). waiting_of q s.informed due) (sym none) ∙ c.self.view_is in
    let after : waiting_at s.informed q.depth (q.held ++ map plain_atom run) (made_more (length run) q.counts)
    ≡ waiting_of c.hold.new.self s.informed s.due =
    ap (λ (pre : Pre). waiting_of (holding run (record q { pre = pre })) s.informed 0) (sym when.1)
    ∙ ap (λ (x : Queued). waiting_of x s.informed 0) (sym (h.holding took)) ∙ ap (λ (due : ℕ). waiting_of c.hold.new.self s.informed due) (sym none) in
    let kept = keeps s.informed q.depth q.held q.counts run others i.2 i.1.balanced (omega (arith, when.0, count)) in
    subst (λ (w : Waiting). HoldsAtoms w (atoms run ++ others) n (waiting_of c.hold.new.self s.informed s.due) others) before
    (subst (λ (w : Waiting). HoldsAtoms (waiting_at s.informed q.depth q.held q.counts) (atoms run ++ others) n w others) after
    (subst (λ (m : ℕ). HoldsAtoms (waiting_at s.informed q.depth q.held q.counts) (atoms run ++ others) m
    (waiting_at s.informed q.depth (q.held ++ map plain_atom run) (made_more (length run) q.counts)) others) count kept))
