-- The settings of each trace source, in the order of their IDs.
use Rattle.std.specs.Prelude.{◌≡◌, ℕ, ◌-◌, List, length}
use Rattle.std.specs.List.{All, slice_get}
use Rattle.std.specs.Option.{unwrap_or}
use Rattle.etm_types.specs.Settings.{Sizes, AreSettings}

-- those of the 111 IDs
pub record IsTable (table : List Sizes) : Type 0 where
  pub ids : length table ≡ 111
  pub settings : All AreSettings table

abbrev pub no_sizes : Sizes
no_sizes = record { depth = 0; vmid_bytes = 0; cid_bytes = 0 }

-- those of an ID, of which the first is 1; of a number past the last one, that no stream has, the least there are
abbrev pub sizes_at : List Sizes → ℕ → Sizes
sizes_at table id = unwrap_or (slice_get table (id - 1)) no_sizes
