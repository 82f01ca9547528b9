-- The values of elements, and what a packet and a maker of elements may hold, at their bounds, with near misses.
use Rattle.std.proofs.Common.{◌≡◌, ◌<◌, ◌%◌, ◌^◌, ℕ, List, [], ◌∷◌, map, true, false, Option, Some, None, refl, arith}
use Rattle.std.proofs.lemmas.List.Elements.{All-cons, All-head, All-nil}
use Rattle.etm_types.specs.declared.address.AddrForm.TheVariants.{Match, Long64}
use Rattle.etm_types.specs.declared.atoms.FewAtoms.{FewAtoms}
use Rattle.etm_types.specs.declared.context.Ctx.{Ctx}
use Rattle.etm_types.specs.declared.context.CtxBits.{CtxBits}
use Rattle.etm_types.specs.declared.element.Elem.TheVariants as elem
use Rattle.etm_types.specs.declared.element.P0.TheVariants as p0
use Rattle.packet_grammar.specs.declared.packet.Packet.TheVariants as packet
use Rattle.path_elements.specs.Elements.{Told}
use Rattle.path_elements.specs.Held.{CanBeTaken, CanStand, IsElem, IsTold, elem_of, held, numbered, rest_in}
use Rattle.path_elements.specs.declared.elems.Kind.TheVariants as kind
use Rattle.path_elements.specs.declared.elems.Rest.TheVariants as rest
use Rattle.path_elements.specs.declared.elems.Values.{Values}
use Rattle.path_elements.specs.declared.maker.Interrupt.{Interrupt}

abbrev level : ℕ → Ctx
level el = record { el = el; ns = true; vmid = 5; cid = 7 }

-- ---- the values of elements

pub an_address : IsElem (elem.Addr 0x1000) × IsElem (elem.Addr 0)
an_address = (refl, refl)

pub the_highest_level : IsElem (elem.Ctx (level 3))
the_highest_level = omega arith

pub the_last_type : IsElem (elem.P0 (p0.Exc 31 0x1000))
the_last_type = (omega arith, refl)

-- the others have no value that must be in a range
pub any_other : IsElem elem.On × IsElem elem.Flip × IsElem elem.Overflow × IsElem elem.Discard × IsElem (elem.Info 1) × IsElem (elem.Commit 1)
    × IsElem (elem.Cancel 1) × IsElem (elem.P0 (p0.Atom true))
any_other = (tt, tt, tt, tt, tt, tt, tt, tt)

pub half_an_address : IsElem (elem.Addr 0x1002) → ⊥
half_an_address is = omega (arith, is)

pub no_level_4 : IsElem (elem.Ctx (level 4)) → ⊥
no_level_4 is = omega (arith, is)

pub no_type_32 : IsElem (elem.P0 (p0.Exc 32 0x1000)) → ⊥
no_type_32 is = omega (arith, is.0)

pub half_a_return_address : IsElem (elem.P0 (p0.Exc 3 0x1002)) → ⊥
half_a_return_address is = omega (arith, is.1)

-- ---- elements by their kinds

abbrev values : Values
values = record { number = 9; exception = 14; addr = 0x1004; ctx = level 2 }

pub of_each_kind :
    map (elem_of values) (kind.Info ∷ kind.On ∷ kind.Ctx ∷ kind.Addr ∷ kind.Exc ∷ kind.Commit ∷ kind.Cancel ∷ kind.Flip ∷ kind.Overflow ∷ kind.Discard ∷ [])
    ≡ elem.Info 9 ∷ elem.On ∷ elem.Ctx (level 2) ∷ elem.Addr 0x1004 ∷ elem.P0 (p0.Exc 14 0x1004) ∷ elem.Commit 9 ∷ elem.Cancel 9 ∷ elem.Flip
    ∷ elem.Overflow ∷ elem.Discard ∷ []
of_each_kind = refl

pub a_number_alone : numbered 9 ≡ record { number = 9; exception = 0; addr = 0; ctx = record { el = 0; ns = false; vmid = 0; cid = 0 } }
a_number_alone = refl

pub none_to_three :
    map (λ r. rest_in r values) (rest.Nothing ∷ rest.One kind.On ∷ rest.Two kind.Cancel kind.Flip ∷ rest.Three kind.Ctx kind.Addr kind.Exc ∷ [])
    ≡ [] ∷ (elem.On ∷ []) ∷ (elem.Cancel 9 ∷ elem.Flip ∷ []) ∷ (elem.Ctx (level 2) ∷ elem.Addr 0x1004 ∷ elem.P0 (p0.Exc 14 0x1004) ∷ []) ∷ []
none_to_three = refl

-- the atoms, oldest first, stand before the others
pub atoms_first :
    held (record { count = 2; bits = 1 }) (rest.Two kind.Cancel kind.Flip) values
    ≡ elem.P0 (p0.Atom true) ∷ elem.P0 (p0.Atom false) ∷ elem.Cancel 9 ∷ elem.Flip ∷ []
atoms_first = refl

-- ---- what may stand in a maker of elements

abbrev awaiting : ℕ → Option Interrupt
awaiting kind = Some (record { kind = kind; target = true })

abbrev valued : ℕ → ℕ → Values
valued addr el = record { number = 0; exception = 99; addr = addr; ctx = level el }

pub may_stand : CanStand (awaiting 31) (valued 0x1000 3) × CanStand None (valued 0x1000 3)
may_stand = ((refl, omega arith, omega arith), (refl, omega arith, tt))

pub half_an_address_held : CanStand None (valued 0x1002 3) → ⊥
half_an_address_held can = omega (arith, can.0)

pub level_4_held : CanStand None (valued 0x1000 4) → ⊥
level_4_held can = omega (arith, can.1)

pub type_32_awaiting : CanStand (awaiting 32) (valued 0x1000 3) → ⊥
type_32_awaiting can = omega (arith, can.2)

abbrev Is64 : ℕ → Type 0
Is64 a = a < 2 ^ 64

abbrev IsWhole : ℕ → Type 0
IsWhole a = a % 4 ≡ 0

abbrev told : List ℕ → ℕ → ℕ → Told
told history el kind = record { history = history; context = level el; informed = false; awaiting = awaiting kind }

pub all_told_at_most : IsTold (told (0xfffffffffffffffc ∷ 0 ∷ 0x1000 ∷ []) 3 31)
all_told_at_most = record {
  history = record {
    three = refl;
    addresses =
        All-cons Is64 0xfffffffffffffffc (0 ∷ 0x1000 ∷ []) (omega arith)
        (All-cons Is64 0 (0x1000 ∷ []) (omega arith) (All-cons Is64 0x1000 [] (omega arith) (All-nil Is64)));
  };
  addresses =
      All-cons IsWhole 0xfffffffffffffffc (0 ∷ 0x1000 ∷ []) refl (All-cons IsWhole 0 (0x1000 ∷ []) refl (All-cons IsWhole 0x1000 [] refl (All-nil IsWhole)));
  level = omega arith;
  exception = omega arith;
}

pub two_told : IsTold (told (0 ∷ 0 ∷ []) 3 31) → ⊥
two_told is = omega (arith, is.history.three)

pub half_an_address_told : IsTold (told (0x1002 ∷ 0 ∷ 0 ∷ []) 3 31) → ⊥
half_an_address_told is = let whole : IsWhole 0x1002 = All-head IsWhole 0x1002 (0 ∷ 0 ∷ []) is.addresses in omega (arith, whole)

pub level_4_told : IsTold (told (0 ∷ 0 ∷ 0 ∷ []) 4 31) → ⊥
level_4_told is = omega (arith, is.level)

pub type_32_told : IsTold (told (0 ∷ 0 ∷ 0 ∷ []) 3 32) → ⊥
type_32_told is = omega (arith, is.exception)

-- ---- packets

abbrev few : ℕ → FewAtoms
few count = record { count = count; first = true }

abbrev bits : ℕ → CtxBits
bits el = record { el = el; ns = true; vmid = None; cid = None }

pub taken_at_most : CanBeTaken (packet.Exc 31 true) × CanBeTaken (packet.Mispredict (few 2)) × CanBeTaken (packet.Cancel2 (few 2))
    × CanBeTaken (packet.CtxInfo (bits 3)) × CanBeTaken (packet.Addr (Match 2) None) × CanBeTaken (packet.Addr (Long64 1) (Some (bits 3)))
    × CanBeTaken (packet.Atoms (record { count = 24; bits = 0 }))
taken_at_most = (omega arith, omega arith, omega arith, omega arith, (omega arith, tt), (tt, omega arith), omega arith)

pub taken_as_they_are : CanBeTaken packet.Async × CanBeTaken packet.Discard × CanBeTaken packet.Overflow × CanBeTaken packet.On × CanBeTaken packet.Ignore
    × CanBeTaken (packet.Info None None None None) × CanBeTaken (packet.Event 99) × CanBeTaken (packet.Time 99 99) × CanBeTaken (packet.Commit 99)
    × CanBeTaken (packet.Cancel 99 true) × CanBeTaken (packet.Cancel3 true 99) × CanBeTaken packet.CtxSame
taken_as_they_are = (tt, tt, tt, tt, tt, tt, tt, tt, tt, tt, tt, tt)

pub not_type_32 : CanBeTaken (packet.Exc 32 true) → ⊥
not_type_32 can = omega (arith, can)

pub not_three_mispredicted : CanBeTaken (packet.Mispredict (few 3)) → ⊥
not_three_mispredicted can = omega (arith, can)

pub not_three_cancelled : CanBeTaken (packet.Cancel2 (few 3)) → ⊥
not_three_cancelled can = omega (arith, can)

pub not_level_4 : CanBeTaken (packet.CtxInfo (bits 4)) → ⊥
not_level_4 can = omega (arith, can)

pub not_the_fourth_entry : CanBeTaken (packet.Addr (Match 3) None) → ⊥
not_the_fourth_entry can = omega (arith, can.0)

pub not_level_4_with_an_address : CanBeTaken (packet.Addr (Match 0) (Some (bits 4))) → ⊥
not_level_4_with_an_address can = omega (arith, can.1)

pub not_25_atoms : CanBeTaken (packet.Atoms (record { count = 25; bits = 0 })) → ⊥
not_25_atoms can = omega (arith, can)
