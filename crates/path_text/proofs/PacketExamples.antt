-- The line of each packet, written out by hand from the formats that docs/FORMATS.md gives.
use Rattle.std.proofs.Common.{◌≡◌, ℕ, Bool, List, [], ◌∷◌, ◌++◌, codes, true, false, Option, Some, None, refl, ap, get_or, arith, inl, inr}
use Rattle.etm_types.specs.Atoms.{IsFewAtoms}
use Rattle.etm_types.specs.declared.address.AddrForm.TheVariants.{Match, Short1, Short2, Long32, Long64}
use Rattle.etm_types.specs.declared.atoms.FewAtoms.{FewAtoms}
use Rattle.etm_types.specs.declared.context.CtxBits.{CtxBits}
use Rattle.packet_grammar.specs.declared.packet.Packet.{Packet}
use Rattle.packet_grammar.specs.declared.packet.Packet.TheVariants as packet
use Rattle.path_text.specs.Lines.{in_base}
use Rattle.path_text.specs.PacketLines.{packet_line, HasText}

-- a packet of stream 01 at an offset has this line
abbrev HasLine : ℕ → Packet → List ℕ → Type 0
HasLine at packet text = packet_line 1 at packet ≡ text ++ (10 ∷ [])

abbrev few : ℕ → Bool → FewAtoms
few count first = record { count = count; first = first }

abbrev context : ℕ → Bool → Option ℕ → Option ℕ → CtxBits
context el ns vmid cid = record { el = el; ns = ns; vmid = vmid; cid = cid }

pub async : HasLine 0 packet.Async (codes "01 0 async")
unfolding in_base
async = refl

pub discard : HasLine 12 packet.Discard (codes "01 12 discard")
unfolding in_base
discard = refl

pub overflow : HasLine 12 packet.Overflow (codes "01 12 overflow")
unfolding in_base
overflow = refl

pub on : HasLine 15 packet.On (codes "01 15 on")
unfolding in_base
on = refl

pub ignore : HasLine 12 packet.Ignore (codes "01 12 ignore")
unfolding in_base
ignore = refl

pub info : HasLine 12 (packet.Info (Some 0) None None None) (codes "01 12 info 0 - - -")
unfolding in_base
info = refl

pub info_with_spec : HasLine 39 (packet.Info (Some 0) None (Some 1) None) (codes "01 39 info 0 - 1 -")
unfolding in_base
info_with_spec = refl

pub info_with_key_and_cyct : HasLine 12 (packet.Info None (Some 7) None (Some 255)) (codes "01 12 info - 7 - 255")
unfolding in_base
info_with_key_and_cyct = refl

pub event : HasLine 12 (packet.Event 15) (codes "01 12 event 15")
unfolding in_base
event = refl

pub time : HasLine 12 (packet.Time 7 100) (codes "01 12 time 7 100")
unfolding in_base
time = refl

pub long_time : HasLine 12 (packet.Time 14 9999) (codes "01 12 time 14 9999")
unfolding in_base
long_time = refl

pub exc : HasLine 26 (packet.Exc 14 false) (codes "01 26 exc 14")
unfolding in_base
exc = refl

pub exc_at_its_target : HasLine 12 (packet.Exc 14 true) (codes "01 12 exc 14 target")
unfolding in_base
exc_at_its_target = refl

pub commit : HasLine 55 (packet.Commit 2) (codes "01 55 commit 2")
unfolding in_base
commit = refl

pub cancel : HasLine 26 (packet.Cancel 10 false) (codes "01 26 cancel 10")
unfolding in_base
cancel = refl

pub cancel_with_mispredict : HasLine 26 (packet.Cancel 10 true) (codes "01 26 cancel 10 mispredict")
unfolding in_base
cancel_with_mispredict = refl

pub mispredict_no_atom : HasLine 53 (packet.Mispredict (few 0 false)) (codes "01 53 mispredict -")
unfolding in_base
mispredict_no_atom = refl

pub mispredict_e : HasLine 53 (packet.Mispredict (few 1 true)) (codes "01 53 mispredict E")
unfolding in_base
mispredict_e = refl

pub mispredict_ee : HasLine 53 (packet.Mispredict (few 2 true)) (codes "01 53 mispredict EE")
unfolding in_base
mispredict_ee = refl

pub mispredict_n : HasLine 53 (packet.Mispredict (few 1 false)) (codes "01 53 mispredict N")
unfolding in_base
mispredict_n = refl

pub cancel2_no_atom : HasLine 53 (packet.Cancel2 (few 0 false)) (codes "01 53 cancel2 -")
unfolding in_base
cancel2_no_atom = refl

pub cancel2_n : HasLine 53 (packet.Cancel2 (few 1 false)) (codes "01 53 cancel2 N")
unfolding in_base
cancel2_n = refl

pub cancel3 : HasLine 53 (packet.Cancel3 false 2) (codes "01 53 cancel3 - 2")
unfolding in_base
cancel3 = refl

pub cancel3_e : HasLine 53 (packet.Cancel3 true 5) (codes "01 53 cancel3 E 5")
unfolding in_base
cancel3_e = refl

pub ctx_same : HasLine 12 packet.CtxSame (codes "01 12 ctx same")
unfolding in_base
ctx_same = refl

pub ctx_without_fields : HasLine 12 (packet.CtxInfo (context 0 false None None)) (codes "01 12 ctx el0 s - -")
unfolding in_base
ctx_without_fields = refl

pub ctx_with_vmid : HasLine 12 (packet.CtxInfo (context 1 true (Some 0x2f) None)) (codes "01 12 ctx el1 ns 2f -")
unfolding in_base
ctx_with_vmid = refl

pub ctx_with_context_id : HasLine 12 (packet.CtxInfo (context 3 false None (Some 0xbeef))) (codes "01 12 ctx el3 s - beef")
unfolding in_base
ctx_with_context_id = refl

pub addr_match : HasLine 19 (packet.Addr (Match 2) None) (codes "01 19 addr match 2")
unfolding in_base
addr_match = refl

pub addr_short1 : HasLine 19 (packet.Addr (Short1 0x1fc) None) (codes "01 19 addr short1 1fc")
unfolding in_base
addr_short1 = refl

pub addr_short2 : HasLine 19 (packet.Addr (Short2 0x3a08) None) (codes "01 19 addr short2 3a08")
unfolding in_base
addr_short2 = refl

pub addr_long32 : HasLine 19 (packet.Addr (Long32 0x9000) None) (codes "01 19 addr long32 9000")
unfolding in_base
addr_long32 = refl

pub addr_long64 : HasLine 19 (packet.Addr (Long64 0x1000) None) (codes "01 19 addr long64 1000")
unfolding in_base
addr_long64 = refl

pub addr_with_context : HasLine 16 (packet.Addr (Long64 0x1000) (Some (context 0 false None None))) (codes "01 16 addr long64 1000 ctx el0 s - -")
unfolding in_base
addr_with_context = refl

pub atoms : HasLine 26 (packet.Atoms (record { count = 1; bits = 1 })) (codes "01 26 atoms E")
unfolding in_base
atoms = refl

pub atoms_in_order : HasLine 26 (packet.Atoms (record { count = 4; bits = 0xe })) (codes "01 26 atoms NEEE")
unfolding in_base
atoms_in_order = refl

-- ---- near misses: the newest atom first, a number that is absent as 0, an offset in hex

pub no_newest_first : HasLine 26 (packet.Atoms (record { count = 2; bits = 1 })) (codes "01 26 atoms NE") → ⊥
unfolding in_base
no_newest_first e = let first : 69 ≡ 78 = ap (λ t. get_or t 12 0) e in absurd (omega (arith, first))

pub absent_is_not_0 : HasLine 12 (packet.CtxInfo (context 0 false None (Some 0))) (codes "01 12 ctx el0 s 0 0") → ⊥
unfolding in_base
absent_is_not_0 e = let first : 45 ≡ 48 = ap (λ t. get_or t 16 0) e in absurd (omega (arith, first))

pub no_offset_in_hex : HasLine 26 packet.On (codes "01 1a on") → ⊥
unfolding in_base
no_offset_in_hex e = let first : 50 ≡ 49 = ap (λ t. get_or t 3 0) e in absurd (omega (arith, first))

-- 25 atoms are more than a packet has
pub no_text_of_25_atoms : HasText (packet.Atoms (record { count = 25; bits = 0 })) → ⊥
no_text_of_25_atoms has = absurd (omega (arith, has))

pub text_of_24_atoms : HasText (packet.Atoms (record { count = 24; bits = 0 }))
text_of_24_atoms = omega arith

-- three atoms beside another packet are not told; one and two are
abbrev three : FewAtoms
three = record { count = 3; first = true }

told_three : IsFewAtoms three → ⊥
told_three (inl is) = absurd (omega (arith, ap (λ (few : FewAtoms). few.count) is))
told_three (inr (inl is)) = absurd (omega (arith, ap (λ (few : FewAtoms). few.count) is))
told_three (inr (inr (inl is))) = absurd (omega (arith, ap (λ (few : FewAtoms). few.count) is))
told_three (inr (inr (inr is))) = absurd (omega (arith, ap (λ (few : FewAtoms). few.count) is))

pub no_text_of_three : (HasText (packet.Mispredict three) → ⊥) × (HasText (packet.Cancel2 three) → ⊥)
no_text_of_three = (told_three, told_three)

pub text_of_few : HasText (packet.Mispredict (record { count = 0; first = false })) × HasText (packet.Cancel2 (record { count = 1; first = true }))
text_of_few = (inl refl, inr (inl refl))

pub text_of_others : HasText packet.On
text_of_others = tt
