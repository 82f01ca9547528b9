-- Paths that were worked out by hand from the standard's descriptions: what is shown, how it ends, and which elements were taken.
use Rattle.std.proofs.Common.{◌≡◌, ℕ, zero, suc, ◌<◌, Bool, true, false, List, [], ◌∷◌, ◌++◌, length, Some, None, Ok, refl}
use Rattle.std.proofs.Common.{ap, inl, inr, arith}
use Rattle.std.specs.Prelude.{neg_ℤ, pos}
use Rattle.a64_branches.specs.Classes.{class_of}
use Rattle.a64_branches.specs.declared.class.Class.TheVariants.{Plain, Jump, Cond}
use Rattle.element_queue.specs.Resolved.{Resolved}
use Rattle.etm_types.specs.Pre.{nothing_told}
use Rattle.etm_types.specs.Settings.{Sizes, AreSettings}
use Rattle.etm_types.specs.declared.address.AddrForm.TheVariants.{Long64}
use Rattle.etm_types.specs.declared.context.Ctx.{Ctx}
use Rattle.etm_types.specs.declared.element.Elem.{Elem}
use Rattle.etm_types.specs.declared.element.Elem.TheVariants as elem
use Rattle.etm_types.specs.declared.element.Entry.{Entry}
use Rattle.etm_types.specs.declared.element.P0.TheVariants.{Atom}
use Rattle.etm_types.specs.declared.element.Pre.{Pre}
use Rattle.etm_types.specs.declared.element.Thing.TheVariants.{Seen}
use Rattle.etm_types.specs.declared.item.Item.{Item}
use Rattle.etm_types.specs.declared.item.Item.TheVariants as item
use Rattle.etm_types.specs.declared.queue_fault.QueueFault.TheVariants.{NoAtomToFlip}
use Rattle.etm_types.specs.declared.walk_fault.WalkFault.TheVariants.{BadAtom}
use Rattle.etm_types.specs.declared.walked.Walked.{Walked}
use Rattle.packet_grammar.specs.Parsed.{no_sync, clean, cut, fault as fault_at, SyncAt, IsStream}
use Rattle.packet_grammar.specs.declared.end.End.{End}
use Rattle.packet_grammar.specs.declared.end.End.TheVariants as end
use Rattle.packet_grammar.specs.declared.packet.Packet.{Packet}
use Rattle.packet_grammar.specs.declared.packet.Packet.TheVariants as packet
use Rattle.packet_grammar.specs.declared.stream_fault.Fault.TheVariants.{AddressAwaited, Queue, Walk}
use Rattle.packet_grammar.specs.declared.stream_fault.Fault.TheVariants as reason
use Rattle.packet_grammar.specs.declared.fault.PacketFault.TheVariants.{BrokenSync}
use Rattle.packet_grammar.specs.Ends.{end_of, is_fault}
use Rattle.packet_grammar.proofs.PacketExamples.{address_64_context, atoms_en, info_mode}
use Rattle.path_elements.specs.Elements.{all_elements, untold}
use Rattle.path_elements.specs.Path.{end_behind, IsPathOfPackets, IsPathTaking}
use Rattle.path_elements.proofs.BytePaths.{one_path}
use Rattle.path_elements.proofs.OnePath.{one_path_of_elements}
use Rattle.path_walker.specs.State.{State, first_state}
use Rattle.path_walker.specs.Things.{Walks}
use Rattle.path_walker.specs.Walk.{Shows, Stops}
use Rattle.path_walker.specs.declared.pc.Pc.TheVariants.{Known}
use Rattle.program_image.specs.Blocks.{behind, class_at, IsPlainRun}
use Rattle.program_image.specs.declared.image.Image.{Image}

-- ---- an image, and a stream that begins in it

-- 1000: NOP; B.EQ to 100c; NOP; B to 1000
abbrev code : Image
code = record {
  start = 0x1000;
  bytes = 0x1f ∷ 0x20 ∷ 0x03 ∷ 0xd5 ∷ 0x40 ∷ 0x00 ∷ 0x00 ∷ 0x54 ∷ 0x1f ∷ 0x20 ∷ 0x03 ∷ 0xd5 ∷ 0xfd ∷ 0xff ∷ 0xff ∷ 0x17 ∷ [];
} ∷ []

abbrev secure : Ctx
secure = record { el = 0; ns = false; vmid = 0; cid = 0 }

-- an A-sync, a trace info, a trace on, and 1000 with a context: 26 bytes
abbrev head : List (ℕ × Packet)
head =
    (0, packet.Async) ∷ (12, packet.Info (Some 0) None None None) ∷ (15, packet.On)
    ∷ (16, packet.Addr (Long64 0x1000) (Some (record { el = 0; ns = false; vmid = None; cid = None }))) ∷ []

abbrev told : List (ℕ × Elem)
told = (12, elem.Info 0) ∷ (15, elem.On) ∷ (16, elem.Ctx secure) ∷ (16, elem.Addr 0x1000) ∷ []

abbrev e_atom : Packet
e_atom = packet.Atoms (record { count = 1; bits = 1 })

abbrev n_atom : Packet
n_atom = packet.Atoms (record { count = 1; bits = 0 })

abbrev e : Elem
e = elem.P0 (Atom true)

abbrev n : Elem
n = elem.P0 (Atom false)

-- what is told before the first atom
abbrev begin : Pre
begin = record { flush = true; on = true; lost = true; ctx = Some secure; addr = Some 0x1000 }

abbrev atom : Pre → Bool → Entry
atom pre taken = record { pre = pre; p0 = Atom taken }

-- ---- where the atoms lead

none_plain : (address : ℕ) → IsPlainRun code address 0
none_plain address k below = absurd (omega (arith, below))

one_plain : (address : ℕ) → class_at code (behind address 0) ≡ Some Plain → IsPlainRun code address 1
one_plain address plain zero below = plain
one_plain address plain (suc k) below = absurd (omega (arith, below))

abbrev at : ℕ → State
at address = record { pc = Known address; stack = []; ctx = secure }

abbrev ran : Bool → ℕ → ℕ → Walked
ran on start count = record { on = on; unknown = false; ctx = secure; start = start; count = count; took = false; exc = None }

abbrev ran_taken : Bool → ℕ → ℕ → Walked
ran_taken on start count = record (ran on start count) { took = true }

-- the first atom: B.EQ branches, or it does not
taken_first : Shows code first_state (atom begin true) (ran_taken true 0x1000 2) (at 0x100c)
unfolding class_of
taken_first = record {
  agrees = refl;
  leads = record
      { plain = 1; class = Cond (pos 8); run = one_plain 0x1000 refl; there = refl; next = refl; counted = refl; kept = refl };
  on = refl;
  unknown = refl;
  start = refl;
  ctx = refl;
  kept = refl;
  exc = refl;
  took = refl;
}

passed_first : Shows code first_state (atom begin false) (ran true 0x1000 2) (at 0x1008)
unfolding class_of
passed_first = record {
  agrees = refl;
  leads = record
      { plain = 1; class = Cond (pos 8); run = one_plain 0x1000 refl; there = refl; next = refl; counted = refl; kept = refl };
  on = refl;
  unknown = refl;
  start = refl;
  ctx = refl;
  kept = refl;
  exc = refl;
  took = refl;
}

-- an E atom at 100c is B
jumped : Shows code (at 0x100c) (atom nothing_told true) (ran false 0x100c 1) (at 0x1000)
unfolding class_of
jumped = record {
  agrees = refl;
  leads = record
      { plain = 0; class = Jump (neg_ℤ (pos 12)) false; run = none_plain 0x100c; there = refl; next = refl; counted = refl; kept = refl };
  on = refl;
  unknown = refl;
  start = refl;
  ctx = refl;
  kept = refl;
  exc = refl;
  took = refl;
}

-- an N atom from 1008 on comes to B, which always branches
not_b : Stops code (at 0x1008) (atom nothing_told false) (BadAtom 0x100c)
unfolding class_of
not_b = inr (refl, (1, one_plain 0x1008 refl, (refl, refl)))

abbrev first_block : List Item
first_block = item.On ∷ item.Instr 0x1000 secure false ∷ item.Instr 0x1004 secure true ∷ []

abbrev passed_block : List Item
passed_block = item.On ∷ item.Instr 0x1000 secure false ∷ item.Instr 0x1004 secure false ∷ []

abbrev both_blocks : List Item
both_blocks = item.On ∷ item.Instr 0x1000 secure false ∷ item.Instr 0x1004 secure true ∷ item.Instr 0x100c secure false ∷ []

one_block : Walks code first_state (Seen (atom begin true) ∷ []) first_block (Ok (at 0x100c))
one_block = inl (first_block, [], at 0x100c, (ran_taken true 0x1000 2, taken_first, refl), (refl, refl), refl)

two_blocks : Walks code first_state (Seen (atom begin true) ∷ Seen (atom nothing_told true) ∷ []) both_blocks (Ok (at 0x1000))
two_blocks = inl (
  first_block,
  item.Instr 0x100c secure false ∷ [],
  at 0x100c,
  (ran_taken true 0x1000 2, taken_first, refl),
  inl (item.Instr 0x100c secure false ∷ [], [], at 0x1000, (ran false 0x100c 1, jumped, refl), (refl, refl), refl),
  refl,
)

-- packets have one path, so that what is shown says too what is not
only : (depth : ℕ) (packets : List (ℕ × Packet)) {items others : List Item} {last other : End} {took also : List (ℕ × Elem)}
    → IsPathOfPackets code depth packets clean items last took → IsPathOfPackets code depth packets clean others other also
    → (items ≡ others) × (last ≡ other) × (took ≡ also)
only depth packets {items} {others} {last} {other} {took} {also} is too =
    let gained = all_elements untold packets in
    one_path_of_elements code depth gained.elements (end_behind gained.awaited clean) items others last other took also is too

-- ---- a commit: of two atoms at depth 2 the older one is shown, and the other stays held

abbrev two_atoms : List (ℕ × Packet)
two_atoms = head ++ (26, e_atom) ∷ (27, e_atom) ∷ (28, packet.Commit 1) ∷ []

abbrev two_taken : List (ℕ × Elem)
two_taken = told ++ (26, e) ∷ (27, e) ∷ (28, elem.Commit 1) ∷ []

abbrev one_held : Resolved
one_held = record {
  done = Seen (atom begin true) ∷ [];
  pending = record { held = Seen (atom nothing_told true) ∷ []; pre = nothing_told; informed = true };
}

pub committed : IsPathOfPackets code 2 two_atoms clean first_block end.Clean two_taken
committed = inl (record { resolved = one_held; after = at 0x100c; commits = refl; walks = one_block }, refl, refl)

-- what is held is not shown, and what was committed is
pub held_is_not_shown : IsPathOfPackets code 2 two_atoms clean both_blocks end.Clean two_taken → ⊥
held_is_not_shown other = absurd (omega (arith, ap length (only 2 two_atoms committed other).0))

pub committed_is_shown : IsPathOfPackets code 2 two_atoms clean [] end.Clean two_taken → ⊥
committed_is_shown other = absurd (omega (arith, ap length (only 2 two_atoms committed other).0))

-- and the branch of the E atom is shown as taken
pub committed_is_taken : IsPathOfPackets code 2 two_atoms clean passed_block end.Clean two_taken → ⊥
committed_is_taken other = absurd (let same = (only 2 two_atoms committed other).0 in cc)

-- at depth 1 the newer atom commits the older one, and the commit commits the newer one
abbrev none_held : Resolved
none_held = record {
  done = Seen (atom begin true) ∷ Seen (atom nothing_told true) ∷ [];
  pending = record { held = []; pre = nothing_told; informed = true };
}

pub committed_at_depth_1 : IsPathOfPackets code 1 two_atoms clean both_blocks end.Clean two_taken
committed_at_depth_1 = inl (record { resolved = none_held; after = at 0x1000; commits = refl; walks = two_blocks }, refl, refl)

pub no_less_at_depth_1 : IsPathOfPackets code 1 two_atoms clean first_block end.Clean two_taken → ⊥
no_less_at_depth_1 other = absurd (omega (arith, ap length (only 1 two_atoms committed_at_depth_1 other).0))

-- ---- a cancel: the newer of two atoms is taken back, and another comes in its place

abbrev with_cancel : List (ℕ × Packet)
with_cancel = head ++ (26, e_atom) ∷ (27, n_atom) ∷ (28, packet.Cancel 1 false) ∷ (30, e_atom) ∷ (31, packet.Commit 2) ∷ []

abbrev cancel_taken : List (ℕ × Elem)
cancel_taken = told ++ (26, e) ∷ (27, n) ∷ (28, elem.Cancel 1) ∷ (30, e) ∷ (31, elem.Commit 2) ∷ []

pub cancelled : IsPathOfPackets code 2 with_cancel clean both_blocks end.Clean cancel_taken
cancelled = inl (record { resolved = none_held; after = at 0x1000; commits = refl; walks = two_blocks }, refl, refl)

-- the atom that was taken back is not walked: at 100c it would have been a fault
pub taken_back : IsPathOfPackets code 2 with_cancel clean first_block (end.Fault 31 (Walk (BadAtom 0x100c))) cancel_taken → ⊥
taken_back other = absurd (let same = (only 2 with_cancel cancelled other).1 in cc)

-- but it was taken
pub taken_all_the_same : IsPathOfPackets code 2 with_cancel clean both_blocks end.Clean
    (told ++ (26, e) ∷ (28, elem.Cancel 1) ∷ (30, e) ∷ (31, elem.Commit 2) ∷ []) → ⊥
taken_all_the_same other = absurd (omega (arith, ap length (only 2 with_cancel cancelled other).2))

-- ---- a fault of the walk inside a packet: of four N atoms at depth 1 the third commits the second, and the fourth is not taken

abbrev four_atoms : List (ℕ × Packet)
four_atoms = head ++ (26, packet.Atoms (record { count = 4; bits = 0 })) ∷ []

abbrev three_taken : List (ℕ × Elem)
three_taken = told ++ (26, n) ∷ (26, n) ∷ (26, n) ∷ []

abbrev after_two : Resolved
after_two = record {
  done = Seen (atom begin false) ∷ [];
  pending = record { held = Seen (atom nothing_told false) ∷ []; pre = nothing_told; informed = true };
}

abbrev after_three : Resolved
after_three = record {
  done = Seen (atom begin false) ∷ Seen (atom nothing_told false) ∷ [];
  pending = record { held = Seen (atom nothing_told false) ∷ []; pre = nothing_told; informed = true };
}

pub stopped_inside : IsPathOfPackets code 1 four_atoms clean passed_block (end.Fault 26 (Walk (BadAtom 0x100c))) three_taken
stopped_inside = inr (record {
  count = 6;
  at = 26;
  element = n;
  fault = Walk (BadAtom 0x100c);
  before = passed_block;
  there = refl;
  none_before = record {
    resolved = after_two;
    after = at 0x1008;
    commits = refl;
    walks = inl (passed_block, [], at 0x1008, (ran true 0x1000 2, passed_first, refl), (refl, refl), refl);
  };
  takes = refl;
  stops = (
    after_three,
    refl,
    inl (passed_block, [], at 0x1008, (ran true 0x1000 2, passed_first, refl), inr (BadAtom 0x100c, not_b, refl, refl), refl),
  );
  ends = refl;
})

-- what stands behind the fault is not taken, the word before B is not shown, and the stream does not end well
pub none_taken_behind : IsPathOfPackets code 1 four_atoms clean passed_block (end.Fault 26 (Walk (BadAtom 0x100c)))
    (three_taken ++ (26, n) ∷ []) → ⊥
none_taken_behind other = absurd (omega (arith, ap length (only 1 four_atoms stopped_inside other).2))

pub none_shown_behind : IsPathOfPackets code 1 four_atoms clean (passed_block ++ item.Instr 0x1008 secure false ∷ [])
    (end.Fault 26 (Walk (BadAtom 0x100c))) three_taken → ⊥
none_shown_behind other = absurd (omega (arith, ap length (only 1 four_atoms stopped_inside other).0))

pub not_clean : IsPathOfPackets code 1 four_atoms clean passed_block end.Clean three_taken → ⊥
not_clean other = absurd (let same = (only 1 four_atoms stopped_inside other).1 in cc)

-- ---- a fault of what is held inside a packet: its E atom commits the one before it and is taken back, so that none is left to flip

abbrev no_atom_left : List (ℕ × Packet)
no_atom_left = head ++ (26, e_atom) ∷ (27, packet.Cancel2 (record { count = 1; first = true })) ∷ []

abbrev flip_taken : List (ℕ × Elem)
flip_taken = told ++ (26, e) ∷ (27, e) ∷ (27, elem.Cancel 1) ∷ (27, elem.Flip) ∷ []

abbrev none_left : Resolved
none_left = record {
  done = Seen (atom begin true) ∷ [];
  pending = record { held = []; pre = nothing_told; informed = true };
}

pub none_to_flip : IsPathOfPackets code 1 no_atom_left clean first_block (end.Fault 27 (Queue (NoAtomToFlip 0))) flip_taken
none_to_flip = inr (record {
  count = 7;
  at = 27;
  element = elem.Flip;
  fault = Queue (NoAtomToFlip 0);
  before = first_block;
  there = refl;
  none_before = record { resolved = none_left; after = at 0x100c; commits = refl; walks = one_block };
  takes = refl;
  stops = (refl, refl);
  ends = refl;
})

-- what the packet committed before its fault stays shown, and the fault is told at the packet
pub committed_before_it : IsPathOfPackets code 1 no_atom_left clean [] (end.Fault 27 (Queue (NoAtomToFlip 0))) flip_taken → ⊥
committed_before_it other = absurd (omega (arith, ap length (only 1 no_atom_left none_to_flip other).0))

pub told_there : IsPathOfPackets code 1 no_atom_left clean first_block (end.Fault 26 (Queue (NoAtomToFlip 0))) flip_taken → ⊥
told_there other = absurd (omega (arith, ap offset_of (only 1 no_atom_left none_to_flip other).1)) where
  offset_of : End → ℕ
  offset_of (end.Fault at fault) = at
  offset_of last = 0

-- ---- a packet that may not come: an atom between an exception and its address is not taken, and the path ends there

abbrev awaited : List (ℕ × Packet)
awaited = head ++ (26, e_atom) ∷ (27, packet.Exc 14 false) ∷ (29, e_atom) ∷ []

abbrev one_done : Resolved
one_done = record { done = Seen (atom begin true) ∷ []; pending = record { held = []; pre = nothing_told; informed = true } }

pub ends_awaited : IsPathOfPackets code 0 awaited clean first_block (end.Fault 29 AddressAwaited) (told ++ (26, e) ∷ [])
ends_awaited = inl (record { resolved = one_done; after = at 0x100c; commits = refl; walks = one_block }, refl, refl)

pub none_taken_there : IsPathOfPackets code 0 awaited clean both_blocks (end.Fault 29 AddressAwaited) (told ++ (26, e) ∷ (29, e) ∷ []) → ⊥
none_taken_there other = absurd (omega (arith, ap length (only 0 awaited ends_awaited other).2))

pub not_passed_over : IsPathOfPackets code 0 awaited clean first_block end.Clean (told ++ (26, e) ∷ []) → ⊥
not_passed_over other = absurd (let same = (only 0 awaited ends_awaited other).1 in cc)

-- ---- how streams end, and which ends are faults

pub ends : (end_of no_sync ≡ end.NoSync) × (end_of clean ≡ end.Clean) × (end_of (cut 2) ≡ end.Cut 2)
    × (end_of (fault_at 14 BrokenSync) ≡ end.Fault 14 (reason.Packet BrokenSync))
ends = (refl, refl, refl, refl)

pub faults : (is_fault end.NoSync ≡ false) × (is_fault end.Clean ≡ false) × (is_fault (end.Cut 2) ≡ false) × (is_fault (end.Fault 0 AddressAwaited) ≡ true)
faults = (refl, refl, refl, refl)

pub no_fault_of_a_cut : is_fault (end_of (cut 2)) ≡ true → ⊥
no_fault_of_a_cut same = absurd cc

-- ---- from bytes on: E and N in one packet at depth 1, where the N commits the E

abbrev sizes : Sizes
sizes = record { depth = 1; vmid_bytes = 1; cid_bytes = 4 }

abbrev a_sync : List ℕ
a_sync = 0x00 ∷ 0x00 ∷ 0x00 ∷ 0x00 ∷ 0x00 ∷ 0x00 ∷ 0x00 ∷ 0x00 ∷ 0x00 ∷ 0x00 ∷ 0x00 ∷ 0x80 ∷ []

abbrev info : List ℕ
info = 0x01 ∷ 0x01 ∷ 0x00 ∷ []

abbrev place : List ℕ
place = 0x85 ∷ 0x00 ∷ 0x08 ∷ 0x00 ∷ 0x00 ∷ 0x00 ∷ 0x00 ∷ 0x00 ∷ 0x00 ∷ 0x10 ∷ []

abbrev bytes : List ℕ
bytes = a_sync ++ info ++ 0x04 ∷ place ++ 0xd9 ∷ []

abbrev both_atoms : List (ℕ × Packet)
both_atoms = head ++ (26, packet.Atoms (record { count = 2; bits = 1 })) ∷ []

none_before_0 : (before : ℕ) → before < 0 → SyncAt before bytes → ⊥
none_before_0 before below here = absurd (omega (arith, below))

stream : IsStream sizes bytes both_atoms clean
stream = inl (
  0,
  record { here = refl; none_before = none_before_0 },
  (
    a_sync,
    info ++ 0x04 ∷ place ++ 0xd9 ∷ [],
    refl,
    refl,
    refl,
    (
      info,
      0x04 ∷ place ++ 0xd9 ∷ [],
      refl,
      refl,
      info_mode sizes,
      (
        0x04 ∷ [],
        place ++ 0xd9 ∷ [],
        refl,
        refl,
        refl,
        (place, 0xd9 ∷ [], refl, refl, address_64_context sizes, (0xd9 ∷ [], [], refl, refl, atoms_en sizes, refl)),
      ),
    ),
  ),
)

abbrev both_taken : List (ℕ × Elem)
both_taken = told ++ (26, e) ∷ (26, n) ∷ []

abbrev n_held : Resolved
n_held = record {
  done = Seen (atom begin true) ∷ [];
  pending = record { held = Seen (atom nothing_told false) ∷ []; pre = nothing_told; informed = true };
}

pub from_bytes : IsPathTaking code sizes bytes first_block end.Clean both_taken
from_bytes =
    (both_atoms, clean, stream, inl (record { resolved = n_held; after = at 0x100c; commits = refl; walks = one_block }, refl, refl))

sizes_are : AreSettings sizes
sizes_are = record { depth = omega arith; vmid = refl; cid = refl }

pub not_more_from_bytes : IsPathTaking code sizes bytes both_blocks end.Clean both_taken → ⊥
not_more_from_bytes other =
    absurd (omega (arith, ap length (one_path code sizes sizes_are bytes first_block both_blocks end.Clean end.Clean both_taken both_taken from_bytes other).0))
