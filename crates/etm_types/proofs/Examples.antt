-- Worked examples of the definitions in specs/, and near misses that they refuse.
use Rattle.std.proofs.Common.{◌≡◌, ℕ, Bool, true, false, List, [], ◌∷◌, map, replicate, Option, Some, None, refl, ap, inl, inr, arith}
use Rattle.std.specs.List.{All}
use Rattle.std.proofs.lemmas.List.Elements.{All-cons, All-head, All-replicate}
use Rattle.etm_types.specs.AddrForm.{IsAddrForm}
use Rattle.etm_types.specs.Atoms.{atoms_in, IsAtomRun, IsFewAtoms}
use Rattle.etm_types.specs.CtxBits.{bits_against, context_told}
use Rattle.etm_types.specs.Id.{IsId}
use Rattle.etm_types.specs.SameContext.{same_context}
use Rattle.etm_types.specs.Settings.{Sizes, AreSettings, FitsSettings}
use Rattle.etm_types.specs.SettingsTable.{IsTable, sizes_at}
use Rattle.etm_types.specs.Sizes.{is_vmid_size, is_cid_size}
use Rattle.etm_types.specs.Walked.{items_of}
use Rattle.etm_types.specs.declared.address.AddrForm.TheVariants.{Match, Short1, Short2, Long32, Long64}
use Rattle.etm_types.specs.declared.atoms.FewAtoms.{FewAtoms}
use Rattle.etm_types.specs.declared.context.Ctx.{Ctx}
use Rattle.etm_types.specs.declared.context.CtxBits.{CtxBits}
use Rattle.etm_types.specs.declared.item.Item.TheVariants.{On, Unknown, Instr, Exc}
use Rattle.etm_types.specs.declared.walked.ExcMark.{ExcMark}
use Rattle.etm_types.specs.declared.walked.Walked.{Walked}

-- ---- stream IDs

pub ids : IsId 1 × IsId 111
ids = ((omega arith, omega arith), (omega arith, omega arith))

pub id_0 : IsId 0 → ⊥
id_0 is = omega (arith, is.0)

pub id_112 : IsId 112 → ⊥
id_112 is = omega (arith, is.1)

-- ---- settings

-- of 0 to 5 bytes a VMID has 0, 1, 2 or 4, and a context ID 0 or 4
pub vmid_sizes : map is_vmid_size (0 ∷ 1 ∷ 2 ∷ 3 ∷ 4 ∷ 5 ∷ []) ≡ true ∷ true ∷ true ∷ false ∷ true ∷ false ∷ []
vmid_sizes = refl

pub cid_sizes : map is_cid_size (0 ∷ 1 ∷ 2 ∷ 3 ∷ 4 ∷ 5 ∷ []) ≡ true ∷ false ∷ false ∷ false ∷ true ∷ false ∷ []
cid_sizes = refl

abbrev sizes : ℕ → ℕ → ℕ → Sizes
sizes depth vmid_bytes cid_bytes = record { depth = depth; vmid_bytes = vmid_bytes; cid_bytes = cid_bytes }

pub deepest : AreSettings (sizes 16384 2 4)
deepest = record { depth = omega arith; vmid = refl; cid = refl }

pub too_deep : AreSettings (sizes 16385 2 4) → ⊥
too_deep are = omega (arith, are.depth)

pub vmid_of_3_bytes : AreSettings (sizes 16 3 4) → ⊥
vmid_of_3_bytes are = let e = are.vmid in cc

pub cid_of_2_bytes : AreSettings (sizes 16 4 2) → ⊥
cid_of_2_bytes are = let e = are.cid in cc

-- ---- settings of each ID

abbrev usual : ℕ → List Sizes
usual n = replicate n (sizes 16 1 4)

-- all IDs have the same, and ID 2 others
abbrev of_2 : List Sizes
of_2 = sizes 16384 0 0 ∷ usual 109

abbrev with_2 : List Sizes
with_2 = sizes 16 1 4 ∷ of_2

are_usual : AreSettings (sizes 16 1 4)
are_usual = record { depth = omega arith; vmid = refl; cid = refl }

are_of_2 : All AreSettings of_2
are_of_2 =
    All-cons AreSettings (sizes 16384 0 0) (usual 109) (record { depth = omega arith; vmid = refl; cid = refl })
    (All-replicate AreSettings 109 (sizes 16 1 4) are_usual)

pub tables : IsTable (usual 111) × IsTable with_2
tables = (
  record { ids = refl; settings = All-replicate AreSettings 111 (sizes 16 1 4) are_usual },
  record { ids = refl; settings = All-cons AreSettings (sizes 16 1 4) of_2 are_usual are_of_2 },
)

pub of_one_table : map (sizes_at (usual 111)) (1 ∷ 2 ∷ 111 ∷ []) ≡ sizes 16 1 4 ∷ sizes 16 1 4 ∷ sizes 16 1 4 ∷ []
of_one_table = refl

-- ID 2 has its own, and its neighbours those of all others
pub of_neighbours : map (sizes_at with_2) (1 ∷ 2 ∷ 3 ∷ 111 ∷ []) ≡ sizes 16 1 4 ∷ sizes 16384 0 0 ∷ sizes 16 1 4 ∷ sizes 16 1 4 ∷ []
of_neighbours = refl

pub of_the_next_id : sizes_at with_2 1 ≡ sizes 16384 0 0 → ⊥
of_the_next_id e = omega (arith, ap (λ (s : Sizes). s.depth) e)

pub of_no_id : sizes_at (usual 111) 112 ≡ sizes 0 0 0
of_no_id = refl

pub of_110_ids : IsTable (usual 110) → ⊥
of_110_ids is = omega (arith, is.ids)

pub one_too_deep : IsTable (sizes 16385 1 4 ∷ usual 110) → ⊥
one_too_deep is = omega (arith, (All-head AreSettings (sizes 16385 1 4) (usual 110) is.settings).depth)

-- ---- contexts that fit

abbrev ctx : ℕ → Bool → ℕ → ℕ → Ctx
ctx el ns vmid cid = record { el = el; ns = ns; vmid = vmid; cid = cid }

-- With no byte 0 alone fits, and with 1, 2 and 4 bytes the numbers up to ff, ffff and ffffffff.
abbrev Fits : ℕ → ℕ → Ctx → Type 0
Fits vmid_bytes cid_bytes c = FitsSettings (sizes 16 vmid_bytes cid_bytes) c

pub in_no_byte : Fits 0 0 (ctx 3 true 0 0)
in_no_byte = record { el = omega arith; vmid = omega arith; cid = omega arith }

pub in_1_byte : Fits 1 0 (ctx 0 false 0xff 0)
in_1_byte = record { el = omega arith; vmid = omega arith; cid = omega arith }

pub in_2_bytes : Fits 2 0 (ctx 0 false 0xffff 0)
in_2_bytes = record { el = omega arith; vmid = omega arith; cid = omega arith }

pub in_4_bytes : Fits 4 4 (ctx 0 false 0xffffffff 0xffffffff)
in_4_bytes = record { el = omega arith; vmid = omega arith; cid = omega arith }

pub vmid_in_no_byte : Fits 0 4 (ctx 0 false 1 0) → ⊥
vmid_in_no_byte fits = omega (arith, fits.vmid)

pub cid_in_no_byte : Fits 4 0 (ctx 0 false 0 1) → ⊥
cid_in_no_byte fits = omega (arith, fits.cid)

pub vmid_100_in_1_byte : Fits 1 4 (ctx 0 false 0x100 0) → ⊥
vmid_100_in_1_byte fits = omega (arith, fits.vmid)

pub vmid_10000_in_2_bytes : Fits 2 4 (ctx 0 false 0x10000 0) → ⊥
vmid_10000_in_2_bytes fits = omega (arith, fits.vmid)

pub cid_of_33_bits : Fits 4 4 (ctx 0 false 0 0x100000000) → ⊥
cid_of_33_bits fits = omega (arith, fits.cid)

pub el_4 : Fits 4 4 (ctx 4 false 0 0) → ⊥
el_4 fits = omega (arith, fits.el)

-- ---- contexts in packets

abbrev last : Ctx
last = ctx 1 true 7 0x1234

abbrev bits : ℕ → Bool → Option ℕ → Option ℕ → CtxBits
bits el ns vmid cid = record { el = el; ns = ns; vmid = vmid; cid = cid }

-- the same context, and one that differs in one field
pub against_last :
    map (bits_against last) (last ∷ ctx 2 true 7 0x1234 ∷ ctx 1 false 7 0x1234 ∷ ctx 1 true 8 0x1234 ∷ ctx 1 true 7 0 ∷ [])
    ≡ bits 1 true None None ∷ bits 2 true None None ∷ bits 1 false None None ∷ bits 1 true (Some 8) None ∷ bits 1 true None (Some 0) ∷ []
against_last = refl

pub after_last :
    map (λ b. context_told b last) (bits 1 true None None ∷ bits 2 false None None ∷ bits 1 true (Some 8) None ∷ bits 1 true None (Some 0) ∷ [])
    ≡ last ∷ ctx 2 false 7 0x1234 ∷ ctx 1 true 8 0x1234 ∷ ctx 1 true 7 0 ∷ []
after_last = refl

pub same_as_last :
    map (λ c. same_context c last) (last ∷ ctx 2 true 7 0x1234 ∷ ctx 1 false 7 0x1234 ∷ ctx 1 true 8 0x1234 ∷ ctx 1 true 7 0 ∷ [])
    ≡ true ∷ false ∷ false ∷ false ∷ false ∷ []
same_as_last = refl

-- lower fields where those were higher, and a higher one where that was lower
pub other_than_last :
    map (λ c. same_context c last) (ctx 0 true 7 0x1234 ∷ ctx 1 true 6 0x1234 ∷ ctx 1 true 7 0x1235 ∷ []) ≡ false ∷ false ∷ false ∷ []
other_than_last = refl

-- ---- forms of an address

pub forms : IsAddrForm (Match 2) × IsAddrForm (Short1 0x1fc) × IsAddrForm (Short2 0x1fffc) × IsAddrForm (Long32 0xfffffffc)
    × IsAddrForm (Long64 0xfffffffffffffffc)
forms = (omega arith, (omega arith, omega arith), (omega arith, omega arith), (omega arith, omega arith), omega arith)

pub lowest_bits : IsAddrForm (Match 0) × IsAddrForm (Short1 4) × IsAddrForm (Short2 4) × IsAddrForm (Long32 4) × IsAddrForm (Long64 4)
lowest_bits = (omega arith, (omega arith, omega arith), (omega arith, omega arith), (omega arith, omega arith), omega arith)

pub entry_3 : IsAddrForm (Match 3) → ⊥
entry_3 is = omega (arith, is)

pub bit_9_of_short : IsAddrForm (Short1 0x200) → ⊥
bit_9_of_short is = omega (arith, is.0)

pub bit_17_of_short : IsAddrForm (Short2 0x20000) → ⊥
bit_17_of_short is = omega (arith, is.0)

pub bit_32_of_long : IsAddrForm (Long32 0x100000000) → ⊥
bit_32_of_long is = omega (arith, is.0)

pub bit_1_of_short : IsAddrForm (Short1 2) → ⊥
bit_1_of_short is = omega (arith, is.1)

pub bit_1_of_longer_short : IsAddrForm (Short2 2) → ⊥
bit_1_of_longer_short is = omega (arith, is.1)

pub bit_1_of_long : IsAddrForm (Long32 2) → ⊥
bit_1_of_long is = omega (arith, is.1)

pub bit_1 : IsAddrForm (Long64 0x1002) → ⊥
bit_1 is = omega (arith, is)

-- ---- atoms

pub oldest_first : atoms_in (record { count = 4; bits = 3 }) ≡ true ∷ true ∷ false ∷ false ∷ []
oldest_first = refl

pub by_turns : atoms_in (record { count = 4; bits = 10 }) ≡ false ∷ true ∷ false ∷ true ∷ []
by_turns = refl

pub shortest_run : IsAtomRun (record { count = 1; bits = 1 })
shortest_run = record { some = omega arith; most = omega arith; bits = omega arith }

pub longest_run : IsAtomRun (record { count = 24; bits = 0xffffff })
longest_run = record { some = omega arith; most = omega arith; bits = omega arith }

pub run_of_25 : IsAtomRun (record { count = 25; bits = 0 }) → ⊥
run_of_25 is = omega (arith, is.most)

pub run_of_none : IsAtomRun (record { count = 0; bits = 0 }) → ⊥
run_of_none is = omega (arith, is.some)

pub bit_past_the_run : IsAtomRun (record { count = 3; bits = 8 }) → ⊥
bit_past_the_run is = omega (arith, is.bits)

pub few : IsFewAtoms (record { count = 0; first = false }) × IsFewAtoms (record { count = 1; first = true })
    × IsFewAtoms (record { count = 2; first = true }) × IsFewAtoms (record { count = 1; first = false })
few = (inl refl, inr (inl refl), inr (inr (inl refl)), inr (inr (inr refl)))

pub two_n : IsFewAtoms (record { count = 2; first = false }) → ⊥
two_n (inl e) = omega (arith, ap (λ (few : FewAtoms). few.count) e)
two_n (inr (inl e)) = omega (arith, ap (λ (few : FewAtoms). few.count) e)
two_n (inr (inr (inl e))) = let differs = ap (λ (few : FewAtoms). few.first) e in cc
two_n (inr (inr (inr e))) = omega (arith, ap (λ (few : FewAtoms). few.count) e)

-- ---- what a walk shows

abbrev irq : ExcMark
irq = record { kind = 14; ret = 0x1008 }

abbrev walked : Bool → Bool → ℕ → ℕ → Option ExcMark → Walked
walked on unknown start count exc = record
    { on = on; unknown = unknown; ctx = last; start = start; count = count; took = false; exc = exc }

pub nothing_shown : items_of (walked false false 0x1000 0 None) ≡ []
nothing_shown = refl

pub all_shown : items_of (walked true false 0x1000 2 (Some irq)) ≡ On ∷ Instr 0x1000 last false ∷ Instr 0x1004 last false ∷ Exc 14 0x1008 ∷ []
all_shown = refl

pub unknown_shown : items_of (walked true true 0 0 (Some irq)) ≡ On ∷ Unknown ∷ Exc 14 0x1008 ∷ []
unknown_shown = refl

-- the address after the last one is 0
pub address_wraps :
    items_of (walked false false 0xfffffffffffffff8 3 None)
    ≡ Instr 0xfffffffffffffff8 last false ∷ Instr 0xfffffffffffffffc last false ∷ Instr 0 last false ∷ []
address_wraps = refl

-- a conditional branch that was taken is the last instruction, and no other
abbrev branched : ℕ → Walked
branched count = record (walked false false 0x1000 count None) { took = true }

pub branch_shown : items_of (branched 3) ≡ Instr 0x1000 last false ∷ Instr 0x1004 last false ∷ Instr 0x1008 last true ∷ []
branch_shown = refl

pub branch_alone : items_of (branched 1) ≡ Instr 0x1000 last true ∷ []
branch_alone = refl

pub not_the_first : items_of (branched 2) ≡ Instr 0x1000 last true ∷ Instr 0x1004 last false ∷ [] → ⊥
not_the_first e = cc

pub not_each : items_of (branched 2) ≡ Instr 0x1000 last true ∷ Instr 0x1004 last true ∷ [] → ⊥
not_each e = cc

pub not_forgotten : items_of (branched 2) ≡ Instr 0x1000 last false ∷ Instr 0x1004 last false ∷ [] → ⊥
not_forgotten e = cc
