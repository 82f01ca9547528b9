use Rattle.std.proofs.Common.{List, inl, inr, slice_get, arith, ◌∙◌, sym, ap}
use Rattle.std.proofs.lemmas.Bool.Decides.{leb_tells}
use Rattle.etm_types.specs.declared.element.Elem.{Elem}
use Rattle.path_elements.specs.Held.{rest_in}
use Rattle.path_elements.proofs.AtomElems.{atom_at, no_atom_from}
use Rattle.path_elements.proofs.elems.Elems.atom_count.Goals as goal

pub returns : goal.returns
returns c =
    let e = c.self.inside in let rest = rest_in e.rest e.values in
    record {
      value = λ i. (
        λ below. (
          _,
          sym (ap (λ (xs : List Elem). slice_get xs i) c.self.view_is) ∙ atom_at e.atoms.count e.atoms.bits i rest (omega (arith, below, c.from.ensures)),
        ),
        λ told. elim (leb_tells e.atoms.count i) [
          | inl past ↦ absurd (no_atom_from e.atoms.count e.atoms.bits i e.rest e.values told.0 past.1
              (ap (λ (xs : List Elem). slice_get xs i) c.self.view_is ∙ told.1))
          | inr below ↦ omega (arith, below.1, c.from.ensures)
        ],
      );
    }
