use Rattle.std.proofs.Common.{◌≡◌, Bool, Option, Some, None, ap, drop, refl}
use Rattle.std.specs.Prelude.{IsSome}
use Rattle.etm_types.specs.declared.element.Elem.TheVariants as elem
use Rattle.etm_types.specs.declared.element.P0.TheVariants.{Atom}
use Rattle.stream_decoder.specs.Left.{Left}
use Rattle.stream_decoder.proofs.Waits.{next_at}
use Rattle.stream_decoder.proofs.machine.oldest.take_first.Goals as goal

none_there : (r : Option Bool) → r ≡ None → IsSome r → ⊥
none_there None is some = absurd cc
none_there (Some x) is some = absurd cc

pub unreachable-requires : goal.unreachable-requires
unreachable-requires c =
    let there = c.requires.atom in
    let first = next_at c.args.todo.now.elements 0 (elem.P0 (Atom there.0)) there.1 in
    none_there c.first_atom.result c.in_default.is (c.first_atom.ensures.some.1 (there.0, drop 1 c.args.todo.now.elements, first))

pub returns-clause-takes : goal.returns-clause-takes
returns-clause-takes c =
    let first = c.in-Some.ensures.value in
    let advanced = c.advance.ensures (elem.P0 (Atom c.in-Some.taken)) first.0 first.1 in (
      c.in-Some.taken,
      first.0,
      c.take_atom.new.self,
      first.1,
      c.take_atom.ensures.commits,
      c.take_atom.ensures.holds,
      (refl, ap (λ (l : Left). l.elements) advanced),
    )

pub returns-clause-at : goal.returns-clause-at
returns-clause-at c =
    let first = c.in-Some.ensures.value in
    ap (λ (l : Left). l.at) (c.advance.ensures (elem.P0 (Atom c.in-Some.taken)) first.0 first.1)
