-- The bytes that are written for a packet spell it.
use Rattle.std.proofs.Common.{◌≡◌, ℕ, ◌+◌, ◌-◌, ◌*◌, ◌/◌, ◌%◌, ◌^◌, ◌<◌, ◌≤◌, Bool, true, false, [], ◌∷◌, ◌++◌, Option, Some, None}
use Rattle.std.proofs.Common.{Ok, nat_lt, refl, sym, ap, subst, ◌∙◌, inl, inr, arith, append-nil}
use Rattle.std.specs.Prelude.{IfSome}
use Rattle.std.specs.Option.{is_some, unwrap_or}
use Rattle.std.proofs.lemmas.Bool.{lt-ltb, le-ltb, eq-eqb, ne_eqb}
use Rattle.etm_types.specs.Settings.{Sizes}
use Rattle.etm_types.specs.Atoms.{IsFewAtoms, atoms_in}
use Rattle.etm_types.specs.declared.atoms.AtomRun.{AtomRun}
use Rattle.etm_types.specs.declared.atoms.FewAtoms.{FewAtoms}
use Rattle.etm_types.specs.declared.address.AddrForm.TheVariants.{Match, Short1, Short2, Long32, Long64}
use Rattle.etm_types.specs.declared.context.CtxBits.{CtxBits}
use Rattle.atom_formats.specs.Formats.{Spells as TellsAtoms}
use Rattle.atom_formats.proofs.Bytes.{byte_found}
use Rattle.atom_formats.proofs.Rows.{no_other_tells}
use Rattle.packet_grammar.specs.Fields.{bit, from_bit}
use Rattle.packet_grammar.specs.Headers.{few_atoms}
use Rattle.packet_grammar.specs.Parts.{Part}
use Rattle.packet_grammar.specs.Numbers.{Number}
use Rattle.packet_grammar.specs.Contexts.{Field, Context, address_of, ShortAddress, LongAddress32, LongAddress64}
use Rattle.packet_grammar.specs.Ranges.{IsContext}
use Rattle.packet_grammar.specs.Spelling.{Section, Mode, TraceInfo, SpellsPacket}
use Rattle.packet_grammar.specs.declared.packet.Packet.{Packet}
use Rattle.packet_grammar.specs.declared.packet.Packet.TheVariants.{Async, Discard, Overflow, Info, On, Ignore, Event, Time, Exc, Commit, Cancel, Mispredict}
use Rattle.packet_grammar.specs.declared.packet.Packet.TheVariants.{Cancel2, Cancel3, CtxSame, CtxInfo, Addr, Atoms}
use Rattle.packet_writer.specs.Numbers.{number, time_stamp, low_bytes}
use Rattle.packet_writer.specs.Contexts.{bit_where, sized, context, short_1, short_2, long, long_32, long_64}
use Rattle.packet_writer.specs.Atoms.{few, run_byte}
use Rattle.packet_writer.specs.Spelling.{section, control, spelling}
use Rattle.packet_writer.specs.Fitting.{Fits}
use Rattle.packet_writer.proofs.Digits.{number_is, stamp_is, length-low_bytes, little-low_bytes}

-- ---- contexts

field_spells : (size : ℕ) (value : Option ℕ) → IfSome value (λ n. (0 < size) × (n < 256 ^ size)) → Field (is_some value) size (Ok value) (sized size value)
field_spells size None is = refl
field_spells size (Some n) is =
    rw (ne_eqb size 0 (λ e. omega (arith, e, is.0)))
    (inl (
      low_bytes size n,
      low_bytes size n,
      [],
      sym (append-nil (low_bytes size n)),
      (refl, length-low_bytes size n),
      ap (λ k. Ok (Some k)) (sym (little-low_bytes size n is.1)),
    ))

pub bit_is : (n place : ℕ) (b : Bool) → n / 2 ^ place % 2 ≡ bit_where 0 b → bit place n ≡ b
bit_is n place true e = eq-eqb (n / 2 ^ place % 2) 1 e
bit_is n place false e = ne_eqb (n / 2 ^ place % 2) 1 (λ one. let no : 0 ≡ 1 = sym e ∙ one in omega (arith, no))

pub record InfoByte (el : ℕ) (ns vmid cid : Bool) (info : ℕ) : Type 0 where
  pub level : info % 4 ≡ el
  pub four : info / 2 ^ 4 % 2 ≡ 1
  pub five : info / 2 ^ 5 % 2 ≡ bit_where 0 ns
  pub six : info / 2 ^ 6 % 2 ≡ bit_where 0 vmid
  pub seven : info / 2 ^ 7 % 2 ≡ bit_where 0 cid

pub info_is : (el : ℕ) (ns vmid cid : Bool) → el ≤ 3 → InfoByte el ns vmid cid (el + from_bit 4 1 + bit_where 5 ns + bit_where 6 vmid + bit_where 7 cid)
info_is el false false false le =
    record { level = omega (arith, le); four = omega (arith, le); five = omega (arith, le); six = omega (arith, le); seven = omega (arith, le) }
info_is el false false true le =
    record { level = omega (arith, le); four = omega (arith, le); five = omega (arith, le); six = omega (arith, le); seven = omega (arith, le) }
info_is el false true false le =
    record { level = omega (arith, le); four = omega (arith, le); five = omega (arith, le); six = omega (arith, le); seven = omega (arith, le) }
info_is el false true true le =
    record { level = omega (arith, le); four = omega (arith, le); five = omega (arith, le); six = omega (arith, le); seven = omega (arith, le) }
info_is el true false false le =
    record { level = omega (arith, le); four = omega (arith, le); five = omega (arith, le); six = omega (arith, le); seven = omega (arith, le) }
info_is el true false true le =
    record { level = omega (arith, le); four = omega (arith, le); five = omega (arith, le); six = omega (arith, le); seven = omega (arith, le) }
info_is el true true false le =
    record { level = omega (arith, le); four = omega (arith, le); five = omega (arith, le); six = omega (arith, le); seven = omega (arith, le) }
info_is el true true true le =
    record { level = omega (arith, le); four = omega (arith, le); five = omega (arith, le); six = omega (arith, le); seven = omega (arith, le) }

context_by : (s : Sizes) (ctx : CtxBits) (info : ℕ) → IsContext s ctx → InfoByte ctx.el ctx.ns (is_some ctx.vmid) (is_some ctx.cid) info
    → Context s (Ok ctx) (info ∷ sized s.vmid_bytes ctx.vmid ++ sized s.cid_bytes ctx.cid)
context_by s ctx info is byte =
    let five = bit_is info 5 ctx.ns byte.five in
    let six = bit_is info 6 (is_some ctx.vmid) byte.six in
    let seven = bit_is info 7 (is_some ctx.cid) byte.seven in
    rw (bit_is info 4 true byte.four) (inl (
      ctx.vmid,
      sized s.vmid_bytes ctx.vmid,
      sized s.cid_bytes ctx.cid,
      refl,
      subst (λ b. Field b s.vmid_bytes (Ok ctx.vmid) (sized s.vmid_bytes ctx.vmid)) (sym six) (field_spells s.vmid_bytes ctx.vmid is.vmid),
      inl (
        ctx.cid,
        sized s.cid_bytes ctx.cid,
        [],
        sym (append-nil (sized s.cid_bytes ctx.cid)),
        subst (λ b. Field b s.cid_bytes (Ok ctx.cid) (sized s.cid_bytes ctx.cid)) (sym seven) (field_spells s.cid_bytes ctx.cid is.cid),
        λ i. Ok (record { el = sym byte.level i; ns = sym five i; vmid = ctx.vmid; cid = ctx.cid }),
      ),
    ))

context_is : (s : Sizes) (ctx : CtxBits) → IsContext s ctx → Context s (Ok ctx) (context s ctx)
context_is s ctx is = context_by s ctx _ is (info_is ctx.el ctx.ns (is_some ctx.vmid) (is_some ctx.cid) is.el)

-- ---- addresses

long_is : (size value : ℕ) → value % 4 ≡ 0 → value / 2 ^ 16 < 256 ^ size → value ≡ address_of (long size value)
long_is size value aligned fits = let high = little-low_bytes size (value / 2 ^ 16) fits in omega (arith, high, aligned)

long_32_is : (value : ℕ) → value % 4 ≡ 0 → value < 2 ^ 32 → LongAddress32 (Ok (Long32 value)) (long_32 value)
long_32_is value aligned fits =
    inl (
      long_32 value,
      long_32 value,
      [],
      sym (append-nil (long_32 value)),
      (refl, refl),
      ap (λ v. Ok (Long32 v)) (long_is 2 value aligned (omega (arith, fits))),
    )

long_64_is : (value : ℕ) → value % 4 ≡ 0 → value < 2 ^ 64 → LongAddress64 (Ok (Long64 value)) (long_64 value)
long_64_is value aligned fits =
    inl (
      long_64 value,
      long_64 value,
      [],
      sym (append-nil (long_64 value)),
      (refl, refl),
      ap (λ v. Ok (Long64 v)) (long_is 6 value aligned (omega (arith, fits))),
    )

short_1_by : (a value : ℕ) → a < 128 → value ≡ a * 4 → ShortAddress (Ok (Short1 value)) (a ∷ [])
short_1_by a value low e = rw (lt-ltb a 128 low) (ap (λ v. Ok (Short1 v)) e)

short_1_is : (value : ℕ) → value < 2 ^ 9 → value % 4 ≡ 0 → ShortAddress (Ok (Short1 value)) (short_1 value)
short_1_is value fits aligned = short_1_by (value / 4 % 128) value (omega arith) (omega (arith, fits, aligned))

short_2_by : (a b value : ℕ) → 128 ≤ a → value ≡ (a - 128) * 4 + b * 2 ^ 9 → ShortAddress (Ok (Short2 value)) (a ∷ b ∷ [])
short_2_by a b value big e = rw (le-ltb a 128 big) (ap (λ v. Ok (Short2 v)) e)

short_2_is : (value : ℕ) → value < 2 ^ 17 → value % 4 ≡ 0 → ShortAddress (Ok (Short2 value)) (short_2 value)
short_2_is value fits aligned = short_2_by (128 + value / 4 % 128) (value / 2 ^ 9 % 256) value (omega arith) (omega (arith, aligned, fits))

-- ---- trace info

section_is : (part : Part ℕ) (value : Option ℕ) → IfSome value (λ n. part (Ok n) (number n)) → Section (is_some value) part (Ok value) (section value)
section_is part None is = refl
section_is part (Some n) is = inl (n, number n, [], sym (append-nil (number n)), is, refl)

below_32 : (value : Option ℕ) → IfSome value (λ n. n < 2 ^ 32) → IfSome value (λ n. Number (Ok n) (number n))
below_32 None is = tt
below_32 (Some n) is = number_is n is

mode_is : (value : Option ℕ) → IfSome value (λ n. n ≡ 0) → IfSome value (λ n. Mode (Ok n) (number n))
mode_is None is = tt
mode_is (Some n) is = subst (λ n. Mode (Ok n) (number n)) (sym is) (inl (0, 0 ∷ [], [], refl, refl, refl))

record Control (info key spec cyct : Bool) (byte : ℕ) : Type 0 where
  zero_to_three : nat_lt byte (2 ^ 4) ≡ true
  is_info : bit 0 byte ≡ info
  is_key : bit 1 byte ≡ key
  is_spec : bit 2 byte ≡ spec
  is_cyct : bit 3 byte ≡ cyct

control_is : (a b c d : Bool) → Control a b c d (bit_where 0 a + bit_where 1 b + bit_where 2 c + bit_where 3 d)
control_is false false false false = record { zero_to_three = refl; is_info = refl; is_key = refl; is_spec = refl; is_cyct = refl }
control_is false false false true = record { zero_to_three = refl; is_info = refl; is_key = refl; is_spec = refl; is_cyct = refl }
control_is false false true false = record { zero_to_three = refl; is_info = refl; is_key = refl; is_spec = refl; is_cyct = refl }
control_is false false true true = record { zero_to_three = refl; is_info = refl; is_key = refl; is_spec = refl; is_cyct = refl }
control_is false true false false = record { zero_to_three = refl; is_info = refl; is_key = refl; is_spec = refl; is_cyct = refl }
control_is false true false true = record { zero_to_three = refl; is_info = refl; is_key = refl; is_spec = refl; is_cyct = refl }
control_is false true true false = record { zero_to_three = refl; is_info = refl; is_key = refl; is_spec = refl; is_cyct = refl }
control_is false true true true = record { zero_to_three = refl; is_info = refl; is_key = refl; is_spec = refl; is_cyct = refl }
control_is true false false false = record { zero_to_three = refl; is_info = refl; is_key = refl; is_spec = refl; is_cyct = refl }
control_is true false false true = record { zero_to_three = refl; is_info = refl; is_key = refl; is_spec = refl; is_cyct = refl }
control_is true false true false = record { zero_to_three = refl; is_info = refl; is_key = refl; is_spec = refl; is_cyct = refl }
control_is true false true true = record { zero_to_three = refl; is_info = refl; is_key = refl; is_spec = refl; is_cyct = refl }
control_is true true false false = record { zero_to_three = refl; is_info = refl; is_key = refl; is_spec = refl; is_cyct = refl }
control_is true true false true = record { zero_to_three = refl; is_info = refl; is_key = refl; is_spec = refl; is_cyct = refl }
control_is true true true false = record { zero_to_three = refl; is_info = refl; is_key = refl; is_spec = refl; is_cyct = refl }
control_is true true true true = record { zero_to_three = refl; is_info = refl; is_key = refl; is_spec = refl; is_cyct = refl }

info_by : (info key spec cyct : Option ℕ) (byte : ℕ) → Control (is_some info) (is_some key) (is_some spec) (is_some cyct) byte
    → IfSome info (λ n. n ≡ 0) → IfSome key (λ n. n < 2 ^ 32) → IfSome spec (λ n. n < 2 ^ 32) → IfSome cyct (λ n. n < 2 ^ 32)
    → TraceInfo (Ok (Info info key spec cyct)) (byte ∷ section info ++ (section key ++ (section spec ++ section cyct)))
info_by info key spec cyct byte c zero_is key_fits spec_fits cyct_fits =
    rw c.zero_to_three (inl (
      info,
      section info,
      section key ++ (section spec ++ section cyct),
      refl,
      subst (λ b. Section b Mode (Ok info) (section info)) (sym c.is_info) (section_is Mode info (mode_is info zero_is)),
      inl (
        key,
        section key,
        section spec ++ section cyct,
        refl,
        subst (λ b. Section b Number (Ok key) (section key)) (sym c.is_key) (section_is Number key (below_32 key key_fits)),
        inl (
          spec,
          section spec,
          section cyct,
          refl,
          subst (λ b. Section b Number (Ok spec) (section spec)) (sym c.is_spec) (section_is Number spec (below_32 spec spec_fits)),
          inl (
            cyct,
            section cyct,
            [],
            sym (append-nil (section cyct)),
            subst (λ b. Section b Number (Ok cyct) (section cyct)) (sym c.is_cyct) (section_is Number cyct (below_32 cyct cyct_fits)),
            refl,
          ),
        ),
      ),
    ))

-- ---- atoms

pub record FewIs (atoms : FewAtoms) : Type 0 where
  pub most : few atoms ≤ 3
  pub mispredict : atoms ≡ few_atoms (0x30 + few atoms)
  pub cancel : atoms ≡ few_atoms (0x34 + few atoms)

pub few_is : (atoms : FewAtoms) → IsFewAtoms atoms → FewIs atoms
few_is atoms (inl e) = subst FewIs (sym e) (record { most = omega arith; mispredict = refl; cancel = refl })
few_is atoms (inr (inl e)) = subst FewIs (sym e) (record { most = omega arith; mispredict = refl; cancel = refl })
few_is atoms (inr (inr (inl e))) = subst FewIs (sym e) (record { most = omega arith; mispredict = refl; cancel = refl })
few_is atoms (inr (inr (inr e))) = subst FewIs (sym e) (record { most = omega arith; mispredict = refl; cancel = refl })

-- the byte that is written for a run is the one that tells it
pub byte_told : (byte : ℕ) (run : AtomRun) → TellsAtoms byte (atoms_in run) → run_byte run ≡ byte
byte_told byte run tells = ap (λ (found : Option ℕ). unwrap_or found 0) (byte_found (atoms_in run) byte tells)

-- ---- packets

cancel_3 : (s : Sizes) (e : Bool) (n : ℕ) → 2 ≤ n → n ≤ 5 → SpellsPacket s (Cancel3 e n) ((0x38 + from_bit 1 (n - 2) + bit_where 0 e) ∷ [])
cancel_3 s true n some most =
    let h : ℕ = 0x38 + from_bit 1 (n - 2) + 1 in
    (h, (omega arith, omega (arith, most), refl), sym (eq-eqb (h % 2) 1 (omega (arith, some))), omega (arith, some, most))
cancel_3 s false n some most =
    let h : ℕ = 0x38 + from_bit 1 (n - 2) + 0 in
    (h, (omega arith, omega (arith, most), refl), sym (ne_eqb (h % 2) 1 (λ one. omega (arith, one, some))), omega (arith, some, most))

index_is : (index : ℕ) → index ≤ 2 → index ≡ (0x90 + index) - 0x90
index_is index le = omega arith

pub fits_spelled : (s : Sizes) (p : Packet) → Fits s p → SpellsPacket s p (spelling s p)
fits_spelled s Async (is, form) = refl
fits_spelled s Discard (is, form) = refl
fits_spelled s Overflow (is, form) = refl
fits_spelled s (Info info key spec cyct) (is, form) = (
  _,
  refl,
  info_by info key spec cyct (control info key spec cyct) (control_is (is_some info) (is_some key) (is_some spec) (is_some cyct)) is.0 is.1 is.2 is.3,
)
fits_spelled s (Time bits low) (is, form) = (time_stamp bits low, refl, stamp_is bits low is.0 is.1)
fits_spelled s On (is, form) = refl
fits_spelled s (Exc kind true) (is, form) =
    let b : ℕ = from_bit 1 kind + 0x40 + 0 in (
      b,
      refl,
      bit_is b 7 false (omega (arith, is)),
      bit_is b 6 true (omega (arith, is)),
      bit_is b 0 false (omega (arith, is)),
      omega (arith, is),
    )
fits_spelled s (Exc kind false) (is, form) =
    let b : ℕ = from_bit 1 kind + 0 + 1 in (
      b,
      refl,
      bit_is b 7 false (omega (arith, is)),
      bit_is b 6 false (omega (arith, is)),
      bit_is b 0 true (omega (arith, is)),
      omega (arith, is),
    )
fits_spelled s (Commit n) (is, form) = (number n, refl, number_is n is)
fits_spelled s (Cancel n flip) (is, form) = (number n, refl, number_is n is)
fits_spelled s (Mispredict atoms) (is, form) =
    let a = few_is atoms is in (0x30 + few atoms, (omega arith, omega (arith, a.most), refl), a.mispredict)
fits_spelled s (Cancel2 atoms) (is, form) =
    let a = few_is atoms is in (0x34 + few atoms, (omega arith, omega (arith, a.most), refl), a.cancel)
fits_spelled s (Cancel3 e n) (is, form) = cancel_3 s e n is.0 is.1
fits_spelled s Ignore (is, form) = refl
fits_spelled s (Event n) (is, form) = (0x70 + n, (omega (arith, is.0), omega (arith, is.1), refl), omega (arith, is.1))
fits_spelled s CtxSame (is, form) = refl
fits_spelled s (CtxInfo ctx) (is, form) = (context s ctx, refl, context_is s ctx is)
fits_spelled s (Addr (Match index) None) (is, form) = (0x90 + index, (omega arith, omega (arith, is.0), refl), index_is index is.0)
fits_spelled s (Addr (Short1 a) None) (is, form) = (short_1 a, refl, short_1_is a is.0.0 is.0.1)
fits_spelled s (Addr (Short2 a) None) (is, form) = (short_2 a, refl, short_2_is a is.0.0 is.0.1)
fits_spelled s (Addr (Long32 a) None) (is, form) = (long_32 a, refl, long_32_is a is.0.1 is.0.0)
fits_spelled s (Addr (Long64 a) None) (is, form) = (long_64 a, refl, long_64_is a is.0 form)
fits_spelled s (Addr (Match index) (Some ctx)) (is, form) = absurd form
fits_spelled s (Addr (Short1 a) (Some ctx)) (is, form) = absurd form
fits_spelled s (Addr (Short2 a) (Some ctx)) (is, form) = absurd form
fits_spelled s (Addr (Long32 a) (Some ctx)) (is, form) = (long_32 a, context s ctx, refl, long_32_is a is.0.1 is.0.0, context_is s ctx is.1)
fits_spelled s (Addr (Long64 a) (Some ctx)) (is, form) = (long_64 a, context s ctx, refl, long_64_is a is.0 form, context_is s ctx is.1)
fits_spelled s (Atoms run) (is, (byte, tells)) =
    let found : TellsAtoms (run_byte run) (atoms_in run) = subst (λ b. TellsAtoms b (atoms_in run)) (sym (byte_told byte run tells)) tells in
    let within = no_other_tells (run_byte run) (atoms_in run) found in
    (run_byte run, (within.0, omega (arith, within.1), refl), is, found)
