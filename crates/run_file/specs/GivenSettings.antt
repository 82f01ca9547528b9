-- The settings that a run file gives: by its own lines for all streams, or by the line that declares a stream for that one.
use Rattle.std.specs.Prelude.{ℕ, ◌≤◌, ◌&&◌, nat_le, Bool, true, codes, List, [], ◌∷◌, Option, Some, None, is_none, if◌then◌else◌}
use Rattle.std.specs.Option.{option_and_then, option_or, unwrap_or}
use Rattle.std.specs.Str.{bytes_eq}
use Rattle.etm_types.specs.Settings.{AreSettings, Sizes, default_sizes, is_cid_size, is_vmid_size, most_depth}
use Rattle.line_words.specs.Line.{decimal_of}
use Rattle.run_file.specs.declared.given.Given.{Given}
use Rattle.run_file.specs.declared.setting.Setting.{Setting}
use Rattle.run_file.specs.declared.setting.Setting.TheVariants as setting
use Rattle.run_file.specs.declared.version.Version.{Version}
use Rattle.run_file.specs.declared.version.Version.TheVariants as version

-- ---- one setting

abbrev pub setting_named : List ℕ → Option Setting
setting_named word =
    if bytes_eq word (codes "depth") then Some setting.Depth
    else if bytes_eq word (codes "vmid") then Some setting.VmidBytes
    else if bytes_eq word (codes "cid") then Some setting.CidBytes
    else if bytes_eq word (codes "stack") then Some setting.Stack
    else None

-- the greatest depth of speculation that a run file may give
abbrev pub most_run_depth : Version → ℕ
most_run_depth version.One = 4096
most_run_depth version.Two = most_depth

abbrev pub is_allowed : Version → Setting → ℕ → Bool
is_allowed v setting.Depth n = nat_le n (most_run_depth v)
is_allowed v setting.VmidBytes n = is_vmid_size n
is_allowed v setting.CidBytes n = is_cid_size n
is_allowed v setting.Stack n = nat_le n 15

-- ---- those that are given

abbrev pub nothing_given : Given
nothing_given = record { depth = None; vmid_bytes = None; cid_bytes = None; stack = None }

abbrev pub number_given : Setting → Given → Option ℕ
number_given setting.Depth given = given.depth
number_given setting.VmidBytes given = given.vmid_bytes
number_given setting.CidBytes given = given.cid_bytes
number_given setting.Stack given = given.stack

abbrev pub with_number : Setting → ℕ → Given → Given
with_number setting.Depth n given = record given { depth = Some n }
with_number setting.VmidBytes n given = record given { vmid_bytes = Some n }
with_number setting.CidBytes n given = record given { cid_bytes = Some n }
with_number setting.Stack n given = record given { stack = Some n }

-- one more, that is not given yet
abbrev pub give : Setting → ℕ → Given → Option Given
give s n given = if is_none (number_given s given) then Some (with_number s n given) else None

-- those of pairs of words, each the name of a setting and its number, behind those that are given
abbrev pub pairs_in : Given → List (List ℕ) → Option Given
pairs_in given [] = Some given
pairs_in given (name ∷ []) = None
pairs_in given (name ∷ number ∷ words) =
    option_and_then (λ s. option_and_then (λ n. option_and_then (λ more. pairs_in more words) (give s n given)) (decimal_of number)) (setting_named name)

-- what is given here, and else what is given there
abbrev pub given_or : Given → Given → Given
given_or own file = record {
  depth = option_or own.depth file.depth;
  vmid_bytes = option_or own.vmid_bytes file.vmid_bytes;
  cid_bytes = option_or own.cid_bytes file.cid_bytes;
  stack = option_or own.stack file.stack;
}

abbrev pub is_none_or_allowed : Version → Setting → Option ℕ → Bool
is_none_or_allowed v s (Some n) = is_allowed v s n
is_none_or_allowed v s None = true

abbrev pub are_allowed : Version → Given → Bool
are_allowed v given =
    is_none_or_allowed v setting.Depth given.depth && is_none_or_allowed v setting.VmidBytes given.vmid_bytes
    && is_none_or_allowed v setting.CidBytes given.cid_bytes && is_none_or_allowed v setting.Stack given.stack

-- ---- what a trace unit has, by the defaults where nothing is given

abbrev pub sizes_of : Given → Sizes
sizes_of given = record {
  depth = unwrap_or given.depth default_sizes.depth;
  vmid_bytes = unwrap_or given.vmid_bytes default_sizes.vmid_bytes;
  cid_bytes = unwrap_or given.cid_bytes default_sizes.cid_bytes;
}

abbrev pub stack_of : Given → ℕ
stack_of given = unwrap_or given.stack 15

pub record IsGiven (given : Given) : Type 0 where
  pub settings : AreSettings (sizes_of given)
  pub stack : stack_of given ≤ 15
