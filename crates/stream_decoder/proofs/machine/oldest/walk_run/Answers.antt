use Rattle.std.proofs.Common.{List, subst, sym}
use Rattle.etm_types.specs.Atoms.{atoms_in}
use Rattle.etm_types.specs.declared.element.Elem.{Elem}
use Rattle.stream_decoder.specs.Yields.{WalksNext}
use Rattle.stream_decoder.proofs.AtomWalks.{walks_next}
use Rattle.stream_decoder.proofs.machine.oldest.walk_run.Goals as goal

pub returns-clause-walks : goal.returns-clause-walks
returns-clause-walks g c =
    let image = c.args.image.now in let s = c.args.walker.now in let s' = c.walk_atoms.new.self in let next = c.atoms-atoms.ensures.next in
    let walks = c.walk_atoms.ensures.walks in (
      walks.added,
      walks.takes,
      walks.count,
      subst (λ (elements : List Elem). WalksNext image s c.args.given elements walks.added s') (sym next.1)
          (walks_next image s s' c.args.given (atoms_in c.atoms-atoms.result) next.0 walks.added walks.walks),
    )
