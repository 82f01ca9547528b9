-- The table in which all IDs have the same settings, and what any table has at a number.
use Rattle.std.proofs.Common.{◌≡◌, ◌⊎◌, ℕ, ◌-◌, ◌<◌, ◌≤◌, List, length, replicate, refl, sym, subst, ◌∙◌, arith, inl, inr}
use Rattle.std.specs.Prelude.{slice_index_or}
use Rattle.std.proofs.lemmas.Bool.{cases_lt}
use Rattle.std.proofs.lemmas.List.{get_or-replicate, get_or_past}
use Rattle.std.proofs.lemmas.List.Elements.{All-get_or, All-replicate}
use Rattle.std.proofs.lemmas.Option.{unwrap_or-slice_get}
use Rattle.etm_types.specs.Id.{IsId}
use Rattle.etm_types.specs.Settings.{Sizes, AreSettings}
use Rattle.etm_types.specs.SettingsTable.{IsTable, no_sizes, sizes_at}

pub all_alike : (s : Sizes) → AreSettings s → IsTable (replicate 111 s)
all_alike s are = record { ids = refl; settings = All-replicate AreSettings 111 s are }

pub at_alike : (s : Sizes) (id : ℕ) → IsId id → sizes_at (replicate 111 s) id ≡ s
at_alike s id is = unwrap_or-slice_get (replicate 111 s) (id - 1) no_sizes ∙ get_or-replicate 111 (id - 1) s no_sizes (omega (arith, is.0, is.1))

-- they are settings, also where no ID has that number
pub are_settings : (table : List Sizes) (id : ℕ) → IsTable table → AreSettings (sizes_at table id)
are_settings table id is =
    subst AreSettings (sym (unwrap_or-slice_get table (id - 1) no_sizes)) (by (cases_lt (id - 1) (length table))) where
      by : (id - 1 < length table) ⊎ (length table ≤ id - 1) → AreSettings (slice_index_or table (id - 1) no_sizes)
      by (inl within) = All-get_or AreSettings table (id - 1) no_sizes within is.settings
      by (inr past) = subst AreSettings (sym (get_or_past table (id - 1) no_sizes past)) (record { depth = omega arith; vmid = refl; cid = refl })
