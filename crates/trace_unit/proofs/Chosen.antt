-- The forms of addresses and contexts that are chosen: a reader has both again, and each has its range.
use Rattle.std.proofs.Common.{◌≡◌, ℕ, ◌*◌, ◌/◌, ◌%◌, ◌^◌, ◌<◌, Bool, true, false, if◌then◌else◌, cond, List, [], ◌∷◌, Some, None}
use Rattle.std.proofs.Common.{zero, suc, refl, ap, ◌∙◌, arith}
use Rattle.std.specs.Prelude.{◌==◌, IfSome, find, slice_index, ⊤}
use Rattle.std.specs.Option.{unwrap_or}
use Rattle.std.proofs.lemmas.Bool.{eq-eqb, eqb-false, eqb-true}
use Rattle.address_history.specs.Forms.{address_told, forms_of}
use Rattle.etm_types.specs.AddrForm.{IsAddrForm}
use Rattle.etm_types.specs.CtxBits.{bits_against, context_told, if_changed}
use Rattle.etm_types.specs.SameContext.{same_context}
use Rattle.etm_types.specs.Settings.{FitsSettings, Sizes}
use Rattle.etm_types.specs.declared.address.AddrForm.{AddrForm}
use Rattle.etm_types.specs.declared.address.AddrForm.TheVariants.{Long32, Long64}
use Rattle.etm_types.specs.declared.context.Ctx.{Ctx}
use Rattle.packet_grammar.specs.Ranges.{IsContext}
use Rattle.packet_grammar.specs.declared.packet.Packet.TheVariants as packet
use Rattle.packet_writer.specs.Fitting.{HasForm, HasSpelling}
use Rattle.packet_writer.proofs.Having.{spelled_where_fits}
use Rattle.spec_run.specs.Executed.{IsPlace}
use Rattle.trace_unit.specs.Packets.{Shared, context_packet, form_of, long_form, with_context}

-- ---- what is found, or what stands for it

found_passes : (test : AddrForm → Bool) (forms : List AddrForm) (other : AddrForm) → test other ≡ true → test (unwrap_or (find test forms) other) ≡ true
found_passes test [] other passes = passes
found_passes test (form ∷ forms) other passes = by (test form) refl (found_passes test forms other passes)
  where
    by : (b : Bool) → test form ≡ b → test (unwrap_or (find test forms) other) ≡ true
        → test (unwrap_or (cond b (Some form) (find test forms)) other) ≡ true
    by true e rest = e
    by false e rest = rest

abbrev AllForms : (AddrForm → Type 0) → List AddrForm → Type 0
AllForms P [] = ⊤
AllForms P (form ∷ forms) = P form × AllForms P forms

found_holds : (P : AddrForm → Type 0) (test : AddrForm → Bool) (forms : List AddrForm) (other : AddrForm) → AllForms P forms → P other
    → P (unwrap_or (find test forms) other)
found_holds P test [] other all holds = holds
found_holds P test (form ∷ forms) other all holds = by (test form) (found_holds P test forms other all.1 holds)
  where
    by : (b : Bool) → P (unwrap_or (find test forms) other) → P (unwrap_or (cond b (Some form) (find test forms)) other)
    by true rest = all.0
    by false rest = rest

-- ---- addresses

pub form_gives : (history : List ℕ) (addr : ℕ) → addr % 4 ≡ 0 → address_told history (form_of history addr) ≡ addr
form_gives history addr aligned =
    let whole : addr / 4 * 4 ≡ addr = omega (arith, aligned) in
    eqb-true (address_told history (form_of history addr)) addr
    (found_passes (λ form. address_told history form == addr) (forms_of addr) (Long64 addr) (eq-eqb (addr / 4 * 4) addr whole))

pub long_gives : (history : List ℕ) (addr : ℕ) → addr % 4 ≡ 0 → address_told history (long_form history addr) ≡ addr
long_gives history addr aligned =
    let newest = slice_index history 0 in
    by (addr / 2 ^ 32 == newest / 2 ^ 32) (λ t. eqb-true (addr / 2 ^ 32) (newest / 2 ^ 32) t)
  where
    by : (b : Bool) → (b ≡ true → addr / 2 ^ 32 ≡ slice_index history 0 / 2 ^ 32)
        → address_told history (if b then Long32 (addr % 2 ^ 32) else Long64 addr) ≡ addr
    by true same = let e = same refl in omega (arith, e, aligned)
    by false same = omega (arith, aligned)

abbrev FormFits : AddrForm → Type 0
FormFits form = IsAddrForm form × HasForm (packet.Addr form None)

form_fits : (history : List ℕ) (addr : ℕ) → IsPlace addr → FormFits (form_of history addr)
form_fits history addr (below, aligned) =
    found_holds FormFits (λ form. address_told history form == addr) (forms_of addr) (Long64 addr) (
      (omega arith, tt),
      (
        (omega arith, tt),
        (
          (omega arith, tt),
          (
            ((omega arith, omega (arith, aligned)), tt),
            (((omega arith, omega (arith, aligned)), tt), (((omega arith, omega (arith, aligned)), tt), ((aligned, below), tt))),
          ),
        ),
      ),
    ) (aligned, below)

pub address_spelled : (s : Sizes) (history : List ℕ) (addr : ℕ) → IsPlace addr → HasSpelling s (packet.Addr (form_of history addr) None)
address_spelled s history addr place =
    let fits = form_fits history addr place in (spelled_where_fits s (packet.Addr (form_of history addr) None)).1 ((fits.0, tt), fits.1)

-- ---- contexts

changed_back : (last new : ℕ) → unwrap_or (if_changed last new) last ≡ new
changed_back last new = by (new == last) (λ t. eqb-true new last t)
  where
    by : (b : Bool) → (b ≡ true → new ≡ last) → unwrap_or (if b then None else Some new) last ≡ new
    by true same = let e = same refl in omega (arith, e)
    by false same = refl

pub context_back : (last ctx : Ctx) → context_told (bits_against last ctx) last ≡ ctx
context_back last ctx =
    ap (λ v. record { el = ctx.el; ns = ctx.ns; vmid = v; cid = unwrap_or (if_changed last.cid ctx.cid) last.cid }) (changed_back last.vmid ctx.vmid)
    ∙ ap (λ c. record ctx { cid = c }) (changed_back last.cid ctx.cid)

-- with no byte a number is 0, and never changes
changed_fits : (size last new : ℕ) → last < 256 ^ size → new < 256 ^ size → IfSome (if_changed last new) (λ n. (0 < size) × (n < 256 ^ size))
changed_fits size last new before less = by (new == last) (λ f. eqb-false new last f)
  where
    some : (size : ℕ) → last < 256 ^ size → new < 256 ^ size → (new ≡ last → ⊥) → 0 < size
    some zero a b differs = absurd (differs (omega (arith, a, b)))
    some (suc more) a b differs = omega arith

    by : (b : Bool) → (b ≡ false → new ≡ last → ⊥) → IfSome (if b then None else Some new) (λ n. (0 < size) × (n < 256 ^ size))
    by true differs = tt
    by false differs = (some size before less (differs refl), less)

pub bits_fit : (s : Sizes) (last ctx : Ctx) → FitsSettings s last → FitsSettings s ctx → IsContext s (bits_against last ctx)
bits_fit s last ctx before fits =
    record {
      el = fits.el;
      vmid = changed_fits s.vmid_bytes last.vmid ctx.vmid before.vmid fits.vmid;
      cid = changed_fits s.cid_bytes last.cid ctx.cid before.cid fits.cid;
    }

pub context_spelled : (s : Sizes) (shared : Shared) (ctx : Ctx) → FitsSettings s shared.context → FitsSettings s ctx → HasSpelling s (context_packet shared ctx)
context_spelled s shared ctx before fits = by (same_context ctx shared.context)
  where
    by : (b : Bool) → HasSpelling s (if b then packet.CtxSame else packet.CtxInfo (bits_against shared.context ctx))
    by true = (spelled_where_fits s packet.CtxSame).1 (tt, tt)
    by false = (spelled_where_fits s (packet.CtxInfo (bits_against shared.context ctx))).1 (bits_fit s shared.context ctx before fits, tt)

pub full_spelled : (s : Sizes) (shared : Shared) (addr : ℕ) (ctx : Ctx) → FitsSettings s shared.context → IsPlace addr → FitsSettings s ctx
    → HasSpelling s (with_context shared (Long64 addr) ctx)
full_spelled s shared addr ctx before place fits =
    (spelled_where_fits s (with_context shared (Long64 addr) ctx)).1 ((place.1, bits_fit s shared.context ctx before fits), place.0)

pub place_spelled : (s : Sizes) (shared : Shared) (addr : ℕ) (ctx : Ctx) → FitsSettings s shared.context → IsPlace addr → FitsSettings s ctx
    → HasSpelling s (with_context shared (long_form shared.history addr) ctx)
place_spelled s shared addr ctx before place fits = by (addr / 2 ^ 32 == slice_index shared.history 0 / 2 ^ 32)
  where
    by : (b : Bool) → HasSpelling s (with_context shared (if b then Long32 (addr % 2 ^ 32) else Long64 addr) ctx)
    by true =
        let low : IsAddrForm (Long32 (addr % 2 ^ 32)) = (omega arith, omega (arith, place.1)) in
        (spelled_where_fits s (with_context shared (Long32 (addr % 2 ^ 32)) ctx)).1 ((low, bits_fit s shared.context ctx before fits), tt)
    by false = full_spelled s shared addr ctx before place fits
