-- Numbers that are allowed give settings of a trace unit.
use Rattle.std.proofs.Common.{◌≡◌, ◌≤◌, ℕ, Bool, true, Option, Some, None, arith, rules}
use Rattle.std.specs.Prelude.{IsTrue, nat_le}
use Rattle.std.specs.Option.{option_or, unwrap_or}
use Rattle.std.proofs.lemmas.Bool.{and_parts, leb-true}
use Rattle.etm_types.specs.Settings.{is_cid_size, is_vmid_size, most_depth}
use Rattle.run_file.specs.GivenSettings.{IsGiven, are_allowed, given_or, is_allowed, is_none_or_allowed, most_run_depth, nothing_given, with_number}
use Rattle.run_file.specs.declared.given.Given.{Given}
use Rattle.run_file.specs.declared.setting.Setting.{Setting}
use Rattle.run_file.specs.declared.setting.Setting.TheVariants as setting
use Rattle.run_file.specs.declared.version.Version.{Version}
use Rattle.run_file.specs.declared.version.Version.TheVariants as version

truth : (b : Bool) → b ≡ true → IsTrue b
truth b h = search rules

-- a depth that a run file may give is one that settings have
deep : (v : Version) (n : ℕ) → nat_le n (most_run_depth v) ≡ true → n ≤ most_depth
deep version.One n ok = omega (arith, leb-true n 4096 ok)
deep version.Two n ok = leb-true n most_depth ok

pub nothing_settled : IsGiven nothing_given
nothing_settled = record { settings = search rules; stack = omega arith }

pub one_settled : (v : Version) (s : Setting) (n : ℕ) (given : Given) → is_allowed v s n ≡ true → IsGiven given → IsGiven (with_number s n given)
one_settled v setting.Depth n given ok h =
    record { settings = record { depth = deep v n ok; vmid = h.settings.vmid; cid = h.settings.cid }; stack = h.stack }
one_settled v setting.VmidBytes n given ok h =
    record { settings = record { depth = h.settings.depth; vmid = truth (is_vmid_size n) ok; cid = h.settings.cid }; stack = h.stack }
one_settled v setting.CidBytes n given ok h =
    record { settings = record { depth = h.settings.depth; vmid = h.settings.vmid; cid = truth (is_cid_size n) ok }; stack = h.stack }
one_settled v setting.Stack n given ok h = record { settings = h.settings; stack = leb-true n 15 ok }

-- a number that is given and allowed, or else the one of the file
either : (v : Version) (s : Setting) (P : ℕ → Type 0) → ((n : ℕ) → is_allowed v s n ≡ true → P n) → (own file : Option ℕ) (default : ℕ)
    → is_none_or_allowed v s own ≡ true → P (unwrap_or file default) → P (unwrap_or (option_or own file) default)
either v s P good (Some n) file default ok h = good n ok
either v s P good None file default ok h = h

pub own_settled : (v : Version) (own file : Given) → are_allowed v own ≡ true → IsGiven file → IsGiven (given_or own file)
own_settled v own file ok h =
    let a = and_parts _ _ ok in
    let b = and_parts _ _ a.0 in
    let c = and_parts _ _ b.0 in
    record {
      settings = record {
        depth = either v setting.Depth (λ n. n ≤ most_depth) (deep v) own.depth file.depth 16 c.0 h.settings.depth;
        vmid = either v setting.VmidBytes (λ n. IsTrue (is_vmid_size n)) (λ n. truth (is_vmid_size n)) own.vmid_bytes file.vmid_bytes 1 c.1 h.settings.vmid;
        cid = either v setting.CidBytes (λ n. IsTrue (is_cid_size n)) (λ n. truth (is_cid_size n)) own.cid_bytes file.cid_bytes 4 b.1 h.settings.cid;
      };
      stack = either v setting.Stack (λ n. n ≤ 15) (λ n. leb-true n 15) own.stack file.stack 15 a.1 h.stack;
    }
