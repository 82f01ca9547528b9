use Rattle.std.proofs.Common.{◌≡◌, ◌++◌, length, map, take, drop, ap, arith, subst, sym, ◌∙◌, ℕ}
use Rattle.element_queue.specs.Queued.{Queued, plain_atom, rotated}
use Rattle.etm_types.specs.Atoms.{atoms_in}
use Rattle.etm_types.specs.declared.element.Pre.{Pre}
use Rattle.path_elements.specs.Elements.{atoms}
use Rattle.stream_decoder.specs.Waiting.{TakesAtoms, Waiting, counts_passed, waiting_of}
use Rattle.stream_decoder.proofs.Rotating.{length_bits, turns, waiting_at}
use Rattle.stream_decoder.proofs.Waits.{none_to}
use Rattle.stream_decoder.proofs.waiting.Waiting.rotate.Goals as goal

pub returns-clause-takes : goal.returns-clause-takes
returns-clause-takes c took others =
    let s = c.self.inside in let i = c.self.invariant in let q = s.queue in let run = atoms_in c.args.run.now in let n = c.args.run.now.count in
    let r = c.rotate.ensures in let when = r.when.0 took in let oldest = when.2 in
    let none = none_to q.held s.due i.0 (ap (λ (w : Waiting). w.due) c.self.view_is ∙ c.requires.due) in
    let count : length run ≡ n = length_bits n c.args.run.now.bits in
    let before : waiting_at s.informed q.depth q.held q.counts ≡ c.args.self.now =
    ap (λ (pre : Pre). waiting_of (record q { pre = pre }) s.informed 0) (sym when.1)
    ∙ ap (λ (due : ℕ). waiting_of q s.informed due) (sym none) ∙ c.self.view_is in
    let after : waiting_at s.informed q.depth (drop (length run) q.held ++ map plain_atom run) (counts_passed (length run) q.counts)
    ≡ waiting_of c.rotate.new.self s.informed s.due =
    ap (λ (pre : Pre). waiting_of (rotated run (record q { pre = pre })) s.informed 0) (sym when.1)
    ∙ ap (λ (x : Queued). waiting_of x s.informed 0) (sym (r.rotated took)) ∙ ap (λ (due : ℕ). waiting_of c.rotate.new.self s.informed due) (sym none) in
    let full : length q.held ≡ q.depth = omega (arith, when.0, i.1.few) in
    let turned = turns s.informed q.depth q.held q.counts oldest.0 run others i.2 i.1.balanced full
    (oldest.1 ∙ ap (λ (m : ℕ). take m q.held) (sym count)) (oldest.2 ∙ sym count) in
    subst (λ (w : Waiting). TakesAtoms w (atoms run ++ others) n (waiting_of c.rotate.new.self s.informed s.due) others) before
    (subst (λ (w : Waiting). TakesAtoms (waiting_at s.informed q.depth q.held q.counts) (atoms run ++ others) n w others) after
    (subst (λ (m : ℕ). TakesAtoms (waiting_at s.informed q.depth q.held q.counts) (atoms run ++ others) m
    (waiting_at s.informed q.depth (drop (length run) q.held ++ map plain_atom run) (counts_passed (length run) q.counts)) others) count turned))
