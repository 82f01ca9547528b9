-- The three parts of one block.
use Rattle.std.specs.Prelude.{◌≡◌, ℕ}
use Rattle.spend_ring.specs.declared.cells.Cells.{Cells}
use Rattle.spend_ring.specs.declared.cells.First.{First}
use Rattle.spend_ring.specs.declared.cells.Lease.{Lease}

-- the cells, their beginning and the right to give them back are of one block of n cells, which the allocator gave
abbrev pub IsBlock : {X A : Type 0} → First X → Cells X → Lease X A → ℕ → A → Type 0
IsBlock first cells lease n alloc = (cells.at ≡ first.cell) × (lease.at ≡ first.cell) × (lease.count ≡ n) × (lease.alloc ≡ alloc)
