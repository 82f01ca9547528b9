use Rattle.std.proofs.Common.{◌≡◌, ◌++◌, List, ℕ, arith, length, length-append, drop, ap, refl, subst, sym, ◌∙◌}
use Rattle.std.proofs.lemmas.List.{length-map}
use Rattle.std.proofs.Math.Seq.{drop-append_seam}
use Rattle.etm_types.specs.Atoms.{atoms_in}
use Rattle.etm_types.specs.declared.element.Elem.{Elem}
use Rattle.path_elements.specs.Elements.{atoms}
use Rattle.stream_decoder.specs.Left.{Left}
use Rattle.stream_decoder.specs.Waiting.{TakesAtoms}
use Rattle.stream_decoder.proofs.Rotating.{length_bits}
use Rattle.stream_decoder.proofs.machine.oldest.take_run.Goals as goal

pub advance_by-requires : goal.advance_by-requires
advance_by-requires c =
    let run = atoms_in c.first_atoms-atoms.result in let next = c.first_atoms-atoms.ensures.next in
    let long : length (atoms run) ≡ c.first_atoms-atoms.result.count =
    length-map run _ ∙ length_bits c.first_atoms-atoms.result.count c.first_atoms-atoms.result.bits in
    omega (arith, ap length next.1, length-append (atoms run) next.0, long, c.first_atoms-atoms.ensures.count)

pub returns-clause-takes : goal.returns-clause-takes
returns-clause-takes c taken =
    let w = c.args.waiting.now in let w' = c.rotate.new.self in let elements = c.args.todo.now.elements in let run = atoms_in c.first_atoms-atoms.result in
    let next = c.first_atoms-atoms.ensures.next in let n = c.args.n in
    let count : c.first_atoms-atoms.result.count ≡ n = c.first_atoms-atoms.ensures.count in
    let long : length (atoms run) ≡ n = length-map run _ ∙ length_bits c.first_atoms-atoms.result.count c.first_atoms-atoms.result.bits ∙ count in
    let left : next.0 ≡ c.advance_by.new.self.elements =
    sym (drop-append_seam (atoms run) next.0) ∙ ap (λ (m : ℕ). drop m (atoms run ++ next.0)) long ∙ ap (drop n) (sym next.1)
    ∙ sym (ap (λ (l : Left). l.elements) c.advance_by.ensures) in
    subst (λ (es : List Elem). TakesAtoms w elements n w' es) left
    (subst (λ (m : ℕ). TakesAtoms w elements m w' next.0) count
    (subst (λ (es : List Elem). TakesAtoms w es c.first_atoms-atoms.result.count w' next.0) (sym next.1) (c.if-not-rotate.ensures.takes refl next.0)))
