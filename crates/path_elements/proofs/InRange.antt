-- The elements of a stream's packets have their values in their ranges.
use Rattle.std.proofs.Common.{◌≡◌, ◌≤◌, ◌<◌, ℕ, zero, suc, ◌+◌, ◌%◌, Bool, true, false, if◌then◌else◌, List, [], ◌∷◌, ◌++◌, length, take, drop, replicate}
use Rattle.std.proofs.Common.{Option, Some, None, slice_index, refl, ap, sym, subst, ◌∙◌, inl, inr, arith}
use Rattle.std.specs.Prelude.{All, IfSome, ⊤}
use Rattle.std.proofs.lemmas.List.{drop_at, take_at}
use Rattle.std.proofs.lemmas.List.Elements.{All-nil, All-cons, All-append, All-head, All-tail, All-take, All-drop}
use Rattle.address_history.specs.Forms.{address_told}
use Rattle.etm_types.specs.Settings.{Sizes}
use Rattle.etm_types.specs.declared.address.AddrForm.{AddrForm}
use Rattle.etm_types.specs.declared.address.AddrForm.TheVariants.{Match, Short1, Short2, Long32, Long64}
use Rattle.etm_types.specs.declared.element.Elem.{Elem}
use Rattle.etm_types.specs.declared.element.Elem.TheVariants as elem
use Rattle.etm_types.specs.declared.element.P0.TheVariants as p0
use Rattle.packet_grammar.specs.Parsed.{Ending, Parses, IsStream}
use Rattle.packet_grammar.specs.declared.packet.Packet.{Packet}
use Rattle.packet_grammar.specs.declared.packet.Packet.TheVariants as packet
use Rattle.path_elements.specs.Elements.{Told, Gained, untold, atoms, with_address, after_address, elements_in, told_by, tells, elements_of, told_after}
use Rattle.path_elements.specs.Elements.{is_misplaced, with_offset, with_gained, all_elements}
use Rattle.path_elements.specs.Held.{CanBeTaken, IsElem}
use Rattle.path_elements.specs.Standing.{ArePlacedElems}
use Rattle.path_elements.specs.declared.maker.Interrupt.{Interrupt}
use Rattle.path_elements.proofs.Taken.{spelled}

-- ---- what was told

abbrev AreAligned : List ℕ → Type 0
AreAligned [] = ⊤
AreAligned (a ∷ addresses) = (a % 4 ≡ 0) × AreAligned addresses

-- the addresses are those of instructions, there is such a level, and such an exception where one is awaited
record IsToldSo (told : Told) : Type 0 where
  history : AreAligned told.history
  level : told.context.el ≤ 3
  exception : IfSome told.awaiting (λ e. e.kind < 32)

aligned_at : (addresses : List ℕ) (i : ℕ) → AreAligned addresses → slice_index addresses i % 4 ≡ 0
aligned_at [] i are = refl
aligned_at (a ∷ addresses) zero are = are.0
aligned_at (a ∷ addresses) (suc i) are = aligned_at addresses i are.1

aligned_front : (n : ℕ) (addresses : List ℕ) → AreAligned addresses → AreAligned (take n addresses)
aligned_front zero addresses are = tt
aligned_front (suc n) [] are = tt
aligned_front (suc n) (a ∷ addresses) are = (are.0, aligned_front n addresses are.1)

address_aligned : (history : List ℕ) (form : AddrForm) → AreAligned history → address_told history form % 4 ≡ 0
address_aligned history (Match index) are = aligned_at history index are
address_aligned history (Short1 value) are = omega arith
address_aligned history (Short2 value) are = omega arith
address_aligned history (Long32 value) are = omega arith
address_aligned history (Long64 value) are = omega arith

address_kept : (told : Told) (form : AddrForm) → IsToldSo told → IsToldSo (after_address told form)
address_kept told form is = record {
  history = (address_aligned told.history form is.history, aligned_front 2 told.history is.history);
  level = is.level;
  exception = tt;
}

told_kept : (told : Told) (p : Packet) → CanBeTaken p → IsToldSo told → IsToldSo (told_by told p)
told_kept told packet.Async can is = is
told_kept told packet.Discard can is = record { history = is.history; level = is.level; exception = tt }
told_kept told packet.Overflow can is = record { history = is.history; level = is.level; exception = tt }
told_kept told (packet.Info info key spec cyct) can is = record { history = (refl, (refl, (refl, tt))); level = omega arith; exception = is.exception }
told_kept told packet.On can is = is
told_kept told packet.Ignore can is = is
told_kept told (packet.Event n) can is = is
told_kept told (packet.Time bits low) can is = is
told_kept told (packet.Exc kind target) can is = record { history = is.history; level = is.level; exception = can }
told_kept told (packet.Commit n) can is = is
told_kept told (packet.Cancel n flip) can is = is
told_kept told (packet.Mispredict few) can is = is
told_kept told (packet.Cancel2 few) can is = is
told_kept told (packet.Cancel3 e n) can is = is
told_kept told packet.CtxSame can is = is
told_kept told (packet.CtxInfo bits) can is = record { history = is.history; level = can; exception = is.exception }
told_kept told (packet.Addr form None) can is = address_kept told form is
told_kept told (packet.Addr form (Some bits)) can is = record {
  history = (address_aligned told.history form is.history, aligned_front 2 told.history is.history);
  level = can.1;
  exception = tt;
}
told_kept told (packet.Atoms run) can is = is

chosen_told : (b : Bool) (x y : Told) → IsToldSo x → IsToldSo y → IsToldSo (if b then x else y)
chosen_told true x y is also = is
chosen_told false x y is also = also

-- ---- the elements of a packet

none_fit : All IsElem []
none_fit = All-nil IsElem

one_fits : (e : Elem) → IsElem e → All IsElem (e ∷ [])
one_fits e is = All-cons IsElem e [] is none_fit

two_fit : (e f : Elem) → IsElem e → IsElem f → All IsElem (e ∷ f ∷ [])
two_fit e f is also = All-cons IsElem e (f ∷ []) is (one_fits f also)

atoms_fit : (taken : List Bool) (rest : List Elem) → All IsElem rest → All IsElem (atoms taken ++ rest)
atoms_fit [] rest are = are
atoms_fit (t ∷ taken) rest are = All-cons IsElem (elem.P0 (p0.Atom t)) (atoms taken ++ rest) tt (atoms_fit taken rest are)

all_atoms_fit : (taken : List Bool) → All IsElem (atoms taken)
all_atoms_fit [] = none_fit
all_atoms_fit (t ∷ taken) = All-cons IsElem (elem.P0 (p0.Atom t)) (atoms taken) tt (all_atoms_fit taken)

flip_fits : (flip : Bool) → All IsElem (if flip then elem.Flip ∷ [] else [])
flip_fits true = one_fits elem.Flip tt
flip_fits false = none_fit

exception_fits : (target : Bool) (kind address : ℕ) → kind < 32 → address % 4 ≡ 0
    → All IsElem (if target then elem.Addr address ∷ elem.P0 (p0.Exc kind address) ∷ [] else elem.P0 (p0.Exc kind address) ∷ [])
exception_fits true kind address below is = two_fit (elem.Addr address) (elem.P0 (p0.Exc kind address)) is (below, is)
exception_fits false kind address below is = one_fits (elem.P0 (p0.Exc kind address)) (below, is)

place_fits : (awaiting : Option Interrupt) (address : ℕ) → IfSome awaiting (λ e. e.kind < 32) → address % 4 ≡ 0
    → All IsElem (with_address awaiting address)
place_fits None address exception is = one_fits (elem.Addr address) is
place_fits (Some e) address exception is = exception_fits e.target e.kind address exception is

address_fits : (told : Told) (form : AddrForm) → IsToldSo told → All IsElem (with_address told.awaiting (address_told told.history form))
address_fits told form is = place_fits told.awaiting _ is.exception (address_aligned told.history form is.history)

elements_fit : (told : Told) (p : Packet) → CanBeTaken p → IsToldSo told → All IsElem (elements_in told p)
elements_fit told packet.Async can is = none_fit
elements_fit told packet.Discard can is = one_fits elem.Discard tt
elements_fit told packet.Overflow can is = one_fits elem.Overflow tt
elements_fit told (packet.Info info key spec cyct) can is = one_fits _ tt
elements_fit told packet.On can is = one_fits elem.On tt
elements_fit told packet.Ignore can is = none_fit
elements_fit told (packet.Event n) can is = none_fit
elements_fit told (packet.Time bits low) can is = none_fit
elements_fit told (packet.Exc kind target) can is = none_fit
elements_fit told (packet.Commit n) can is = one_fits (elem.Commit n) tt
elements_fit told (packet.Cancel n flip) can is = All-cons IsElem (elem.Cancel n) _ tt (flip_fits flip)
elements_fit told (packet.Mispredict few) can is = atoms_fit (replicate few.count few.first) _ (one_fits elem.Flip tt)
elements_fit told (packet.Cancel2 few) can is = atoms_fit (replicate few.count few.first) _ (two_fit (elem.Cancel 1) elem.Flip tt tt)
elements_fit told (packet.Cancel3 e n) can is = atoms_fit (if e then true ∷ [] else []) _ (two_fit (elem.Cancel n) elem.Flip tt tt)
elements_fit told packet.CtxSame can is = one_fits (elem.Ctx told.context) is.level
elements_fit told (packet.CtxInfo bits) can is = one_fits _ can
elements_fit told (packet.Addr form None) can is = address_fits told form is
elements_fit told (packet.Addr form (Some bits)) can is = All-cons IsElem _ _ can.1 (address_fits told form is)
elements_fit told (packet.Atoms run) can is = all_atoms_fit _

chosen_elements : (b : Bool) (es : List Elem) → All IsElem es → All IsElem (if b then es else [])
chosen_elements true es are = are
chosen_elements false es are = none_fit

-- ---- the elements of packets

abbrev pub IsElemThere : ℕ × Elem → Type 0
IsElemThere e = IsElem e.1

abbrev pub CanBeTakenThere : ℕ × Packet → Type 0
CanBeTakenThere p = CanBeTaken p.1

placed_fit : (at : ℕ) (es : List Elem) → All IsElem es → ArePlacedElems (with_offset at es)
placed_fit at [] are = All-nil IsElemThere
placed_fit at (e ∷ es) are = All-cons IsElemThere (at, e) (with_offset at es) (All-head IsElem e es are) (placed_fit at es (All-tail IsElem e es are))

joined_fit : (b : Bool) (stop : Gained) (here : List (ℕ × Elem)) (rest : Gained) → ArePlacedElems stop.elements → ArePlacedElems here
    → ArePlacedElems rest.elements → ArePlacedElems (if b then stop else with_gained here rest).elements
joined_fit true stop here rest is also too = is
joined_fit false stop here rest is also too = All-append IsElemThere here rest.elements also too

all_fit : (told : Told) (packets : List (ℕ × Packet)) → All CanBeTakenThere packets → IsToldSo told → ArePlacedElems (all_elements told packets).elements
all_fit told [] can is = All-nil IsElemThere
all_fit told (p ∷ packets) can is =
    let first = All-head CanBeTakenThere p packets can in
    let here = chosen_elements (tells told p.1) (elements_in told p.1) (elements_fit told p.1 first is) in
    let after = chosen_told (tells told p.1) (told_by told p.1) told (told_kept told p.1 first is) is in
    joined_fit (is_misplaced told p.1) _ (with_offset p.0 (elements_of told p.1)) (all_elements (told_after told p.1) packets) (All-nil IsElemThere)
    (placed_fit p.0 (elements_of told p.1) here) (all_fit (told_after told p.1) packets (All-tail CanBeTakenThere p packets can) after)

-- the elements that packets tell from the first on
pub elements_in_range : (packets : List (ℕ × Packet)) → All CanBeTakenThere packets → ArePlacedElems (all_elements untold packets).elements
elements_in_range packets can =
    all_fit untold packets can (record { history = (refl, (refl, (refl, tt))); level = omega arith; exception = tt })

-- ---- the packets of a stream

module _ (s : Sizes) where
  parsed_can_be_taken : (at : ℕ) (bytes : List ℕ) (packets : List (ℕ × Packet)) (ending : Ending) → All (λ b. b < 256) bytes
      → Parses s at bytes packets ending → All CanBeTakenThere packets
  parsed_can_be_taken at bytes [] ending small is = All-nil CanBeTakenThere
  parsed_can_be_taken at bytes (p ∷ packets) ending small (text, rest, here, parts, spells, later) =
      let front : take (length text) bytes ≡ text = ap (take (length text)) parts ∙ take_at text rest (length text) refl in
      let behind : drop (length text) bytes ≡ rest = ap (drop (length text)) parts ∙ drop_at text rest (length text) refl in
      let first = subst (All (λ b. b < 256)) front (All-take (λ (b : ℕ). b < 256) (length text) bytes small) in
      let others = subst (All (λ b. b < 256)) behind (All-drop (λ (b : ℕ). b < 256) (length text) bytes small) in
      All-cons CanBeTakenThere p packets (spelled s p.1 text first spells) (parsed_can_be_taken (at + length text) rest packets ending others later)

  pub packets_can_be_taken : (bytes : List ℕ) (packets : List (ℕ × Packet)) (ending : Ending) → All (λ b. b < 256) bytes
      → IsStream s bytes packets ending → All CanBeTakenThere packets
  packets_can_be_taken bytes packets ending small (inl (at, first, is)) =
      parsed_can_be_taken at (drop at bytes) packets ending (All-drop (λ (b : ℕ). b < 256) at bytes small) is
  packets_can_be_taken bytes packets ending small (inr (none, nothing, unsynced)) = subst (All CanBeTakenThere) (sym nothing) (All-nil CanBeTakenThere)

  -- and their elements
  pub stream_in_range : (bytes : List ℕ) (packets : List (ℕ × Packet)) (ending : Ending) → All (λ b. b < 256) bytes
      → IsStream s bytes packets ending → ArePlacedElems (all_elements untold packets).elements
  stream_in_range bytes packets ending small is = elements_in_range packets (packets_can_be_taken bytes packets ending small is)
