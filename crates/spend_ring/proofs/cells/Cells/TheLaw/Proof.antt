-- A `&` to the cells shows their values.
use mathlib.Core.List.{[], ◌++◌}
use base.Fml.{Incl-trans}
use contract.BorrowLft.{meet_⊑_left}
use denote.RattleType.{RattleType}
use denote.RawPtr.{RawPtr}
use denote.Param.Laws.{Laws}
use denote.Param.Shared.{copy_shared}
use denote.Struct.Laws.{field_copy}
use denote.Struct.Lending.{of_Lends}
use Rattle.core.specs.contracts.marker.PhantomData as marker
use Rattle.spend_ring.specs.contracts.cells.Cells as C
use Rattle.spend_ring.proofs.cells.Cells.TheLaw.Statement.{statement}
use Rattle.spend_ring.proofs.Sharing.{of_cells, cells_lends}

pub shares : (R : RattleType) (L : Laws R) → statement R L
shares R L =
    let mark_copied = copy_shared (marker.the_field RawPtr) (field_copy (marker.the_type RawPtr) tt) in
    of_Lends (C.struct R) (C.the_codes R.Denot R.coded (marker.the_row RawPtr).coded) (C.the_heap R) (C.the_lent R) (λ c p. of_cells R L.shr_laws c.at c.held)
    (mark_copied, tt)
    (λ M 𝓤 𝓛 c p. cells_lends 𝓛 (C.the_row R).lives R L (Incl-trans (meet_⊑_left (R.lives ++ []) _) (meet_⊑_left R.lives [])) c.at c.held)
