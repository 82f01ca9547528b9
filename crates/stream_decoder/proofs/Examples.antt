-- By which items a path grows with a byte, worked out by hand, and growths near it that no byte has.
use Rattle.std.proofs.Common.{◌≡◌, ℕ, ◌<◌, Bool, true, false, List, [], ◌∷◌, ◌++◌, length, Some, None, Ok, refl, sym, ap, inl, ◌∙◌, arith}
use Rattle.std.specs.Prelude.{Option, pos}
use Rattle.a64_branches.specs.Classes.{class_of}
use Rattle.a64_branches.specs.declared.class.Class.TheVariants.{Cond}
use Rattle.element_queue.specs.Resolved.{Resolved}
use Rattle.etm_types.specs.Pre.{nothing_told}
use Rattle.etm_types.specs.Settings.{Sizes, AreSettings}
use Rattle.etm_types.specs.declared.address.AddrForm.TheVariants.{Long64}
use Rattle.etm_types.specs.declared.context.Ctx.{Ctx}
use Rattle.etm_types.specs.declared.element.Elem.{Elem}
use Rattle.etm_types.specs.declared.element.Elem.TheVariants as elem
use Rattle.etm_types.specs.declared.element.Entry.{Entry}
use Rattle.etm_types.specs.declared.element.P0.TheVariants.{Atom}
use Rattle.etm_types.specs.declared.element.Pre.{Pre}
use Rattle.etm_types.specs.declared.element.Thing.{Thing}
use Rattle.etm_types.specs.declared.element.Thing.TheVariants.{Seen}
use Rattle.etm_types.specs.declared.item.Item.{Item}
use Rattle.etm_types.specs.declared.item.Item.TheVariants as item
use Rattle.etm_types.specs.declared.walk_fault.WalkFault.TheVariants.{BadAtom}
use Rattle.etm_types.specs.declared.walked.Walked.{Walked}
use Rattle.packet_grammar.specs.Parsed.{clean, cut, Parses, SyncAt, IsStream}
use Rattle.packet_grammar.specs.declared.end.End.TheVariants as end
use Rattle.packet_grammar.specs.declared.packet.Packet.{Packet}
use Rattle.packet_grammar.specs.declared.packet.Packet.TheVariants as packet
use Rattle.packet_grammar.specs.declared.stream_fault.Fault.TheVariants.{AddressAwaited, Walk}
use Rattle.packet_grammar.proofs.PacketExamples.{address_64_context, atom_n, info_mode}
use Rattle.path_elements.specs.Path.{IsPathTaking}
use Rattle.path_elements.proofs.BytePaths.{one_path}
use Rattle.path_text.specs.PathLines.{shown_after_all}
use Rattle.path_walker.specs.State.{State, first_state}
use Rattle.path_walker.specs.Things.{Walks}
use Rattle.path_walker.specs.Walk.{Shows}
use Rattle.path_walker.specs.declared.pc.Pc.TheVariants.{Known}
use Rattle.program_image.specs.Blocks.{IsPlainRun}
use Rattle.program_image.specs.declared.image.Image.{Image}
use Rattle.stream_decoder.specs.Stands.{Grows, end_at, shows_walk_fault}

-- ---- a stream whose last three bytes are N atoms, at depth 1: each but the first commits the one before it

-- 1000: B.EQ to 1008; B.EQ to 100c
abbrev code : Image
code = record { start = 0x1000; bytes = 0x40 ∷ 0x00 ∷ 0x00 ∷ 0x54 ∷ 0x40 ∷ 0x00 ∷ 0x00 ∷ 0x54 ∷ [] } ∷ []

abbrev secure : Ctx
secure = record { el = 0; ns = false; vmid = 0; cid = 0 }

abbrev sizes : Sizes
sizes = record { depth = 1; vmid_bytes = 1; cid_bytes = 4 }

abbrev a_sync : List ℕ
a_sync = 0x00 ∷ 0x00 ∷ 0x00 ∷ 0x00 ∷ 0x00 ∷ 0x00 ∷ 0x00 ∷ 0x00 ∷ 0x00 ∷ 0x00 ∷ 0x00 ∷ 0x80 ∷ []

abbrev info : List ℕ
info = 0x01 ∷ 0x01 ∷ 0x00 ∷ []

abbrev place : List ℕ
place = 0x85 ∷ 0x00 ∷ 0x08 ∷ 0x00 ∷ 0x00 ∷ 0x00 ∷ 0x00 ∷ 0x00 ∷ 0x00 ∷ 0x10 ∷ []

abbrev bytes : List ℕ
bytes = a_sync ++ info ++ 0x04 ∷ place ++ 0xf6 ∷ 0xf6 ∷ []

abbrev n_atom : Packet
n_atom = packet.Atoms (record { count = 1; bits = 0 })

abbrev head : List (ℕ × Packet)
head =
    (0, packet.Async) ∷ (12, packet.Info (Some 0) None None None) ∷ (15, packet.On)
    ∷ (16, packet.Addr (Long64 0x1000) (Some (record { el = 0; ns = false; vmid = None; cid = None }))) ∷ []

abbrev n : Elem
n = elem.P0 (Atom false)

abbrev told : List (ℕ × Elem)
told = (12, elem.Info 0) ∷ (15, elem.On) ∷ (16, elem.Ctx secure) ∷ (16, elem.Addr 0x1000) ∷ []

none_before_0 : (bytes : List ℕ) (before : ℕ) → before < 0 → SyncAt before bytes → ⊥
none_before_0 bytes before below here = absurd (omega (arith, below))

begun : (rest : List ℕ) (packets : List (ℕ × Packet)) → Parses sizes 26 rest packets clean
    → IsStream sizes (a_sync ++ info ++ 0x04 ∷ place ++ rest) (head ++ packets) clean
begun rest packets parses = inl (
  0,
  record { here = refl; none_before = none_before_0 (a_sync ++ info ++ 0x04 ∷ place ++ rest) },
  (
    a_sync,
    info ++ 0x04 ∷ place ++ rest,
    refl,
    refl,
    refl,
    (
      info,
      0x04 ∷ place ++ rest,
      refl,
      refl,
      info_mode sizes,
      (0x04 ∷ [], place ++ rest, refl, refl, refl, (place, rest, refl, refl, address_64_context sizes, parses)),
    ),
  ),
)

-- ---- where the atoms lead

none_plain : (address : ℕ) → IsPlainRun code address 0
none_plain address k below = absurd (omega (arith, below))

abbrev begin : Pre
begin = record { flush = true; on = true; lost = true; ctx = Some secure; addr = Some 0x1000 }

abbrev first : Entry
first = record { pre = begin; p0 = Atom false }

abbrev later : Entry
later = record { pre = nothing_told; p0 = Atom false }

abbrev at : ℕ → State
at address = record { pc = Known address; stack = []; ctx = secure }

abbrev ran : Bool → ℕ → Walked
ran on start = record { on = on; unknown = false; ctx = secure; start = start; count = 1; took = false; exc = None }

first_shows : Shows code first_state first (ran true 0x1000) (at 0x1004)
unfolding class_of
first_shows = record {
  agrees = refl;
  leads = record { plain = 0; class = Cond (pos 8); run = none_plain 0x1000; there = refl; next = refl; counted = refl; kept = refl };
  on = refl;
  unknown = refl;
  start = refl;
  ctx = refl;
  kept = refl;
  exc = refl;
  took = refl;
}

later_shows : Shows code (at 0x1004) later (ran false 0x1004) (at 0x1008)
unfolding class_of
later_shows = record {
  agrees = refl;
  leads = record { plain = 0; class = Cond (pos 8); run = none_plain 0x1004; there = refl; next = refl; counted = refl; kept = refl };
  on = refl;
  unknown = refl;
  start = refl;
  ctx = refl;
  kept = refl;
  exc = refl;
  took = refl;
}

abbrev one : List Item
one = item.On ∷ item.Instr 0x1000 secure false ∷ []

abbrev more : List Item
more = item.Instr 0x1004 secure false ∷ []

one_walks : Walks code first_state (Seen first ∷ []) one (Ok (at 0x1004))
one_walks = inl (one, [], at 0x1004, (ran true 0x1000, first_shows, refl), (refl, refl), refl)

two_walk : Walks code first_state (Seen first ∷ Seen later ∷ []) (one ++ more) (Ok (at 0x1008))
two_walk = inl (
  one,
  more,
  at 0x1004,
  (ran true 0x1000, first_shows, refl),
  inl (more, [], at 0x1008, (ran false 0x1004, later_shows, refl), (refl, refl), refl),
  refl,
)

-- one atom is held
abbrev left : List Thing → Resolved
left done = record { done = done; pending = record { held = Seen later ∷ []; pre = nothing_told; informed = true } }

-- ---- the path of the bytes, and that of one byte more

abbrev two_taken : List (ℕ × Elem)
two_taken = told ++ (26, n) ∷ (27, n) ∷ []

abbrev three_taken : List (ℕ × Elem)
three_taken = told ++ (26, n) ∷ (27, n) ∷ (28, n) ∷ []

was : IsPathTaking code sizes bytes one end.Clean two_taken
was = (
  head ++ (26, n_atom) ∷ (27, n_atom) ∷ [],
  clean,
  begun (0xf6 ∷ 0xf6 ∷ []) ((26, n_atom) ∷ (27, n_atom) ∷ [])
      (0xf6 ∷ [], 0xf6 ∷ [], refl, refl, atom_n sizes, (0xf6 ∷ [], [], refl, refl, atom_n sizes, refl)),
  inl (record { resolved = left (Seen first ∷ []); after = at 0x1004; commits = refl; walks = one_walks }, refl, refl),
)

is : IsPathTaking code sizes (bytes ++ 0xf6 ∷ []) (one ++ more) end.Clean three_taken
is = (
  head ++ (26, n_atom) ∷ (27, n_atom) ∷ (28, n_atom) ∷ [],
  clean,
  begun (0xf6 ∷ 0xf6 ∷ 0xf6 ∷ []) ((26, n_atom) ∷ (27, n_atom) ∷ (28, n_atom) ∷ []) (
    0xf6 ∷ [],
    0xf6 ∷ 0xf6 ∷ [],
    refl,
    refl,
    atom_n sizes,
    (0xf6 ∷ [], 0xf6 ∷ [], refl, refl, atom_n sizes, (0xf6 ∷ [], [], refl, refl, atom_n sizes, refl)),
  ),
  inl (record { resolved = left (Seen first ∷ Seen later ∷ []); after = at 0x1008; commits = refl; walks = two_walk }, refl, refl),
)

sizes_are : AreSettings sizes
sizes_are = record { depth = omega arith; vmid = refl; cid = refl }

-- ---- by what it grows

pub one_more : Grows code sizes bytes 0xf6 (Some secure) more
one_more = record { items = one; last = end.Clean; next = end.Clean; was = (two_taken, was); is = (three_taken, is); context = refl }

-- it grows by nothing else, and behind no other context
only : (shown : Option Ctx) (others : List Item) → Grows code sizes bytes 0xf6 shown others
    → (length (one ++ others) ≡ 3) × (shown ≡ Some secure)
only shown others grows =
    let before = (one_path code sizes sizes_are bytes grows.items one grows.last end.Clean (grows.was).0 two_taken (grows.was).1 was).0 in
    let after =
    (one_path code sizes sizes_are (bytes ++ 0xf6 ∷ []) (grows.items ++ others) (one ++ more) grows.next end.Clean (grows.is).0 three_taken
    (grows.is).1 is).0 in
    let long = ap (λ (items : List Item). length (items ++ others)) before in
    let same = ap length after in
    let last = ap (λ (items : List Item). shown_after_all None items) before in
    (sym long ∙ same, grows.context ∙ last)

-- what was shown is not shown again
pub not_shown_again : Grows code sizes bytes 0xf6 (Some secure) (one ++ more) → ⊥
not_shown_again other = absurd (omega (arith, (only (Some secure) (one ++ more) other).0))

-- the byte that commits an instruction shows it
pub not_at_the_next_byte : Grows code sizes bytes 0xf6 (Some secure) [] → ⊥
not_at_the_next_byte other = absurd (omega (arith, (only (Some secure) [] other).0))

-- the context is that of the items before
pub not_forgotten : Grows code sizes bytes 0xf6 None more → ⊥
not_forgotten other = absurd (let same = (only None more other).1 in cc)

-- ---- how a path ends

pub ends : (end_at None clean ≡ end.Clean) × (end_at None (cut 2) ≡ end.Cut 2)
    × (end_at (Some (26, AddressAwaited)) clean ≡ end.Fault 26 AddressAwaited)
ends = (refl, refl, refl)

pub a_fault_is_no_clean_end : end_at (Some (26, AddressAwaited)) clean ≡ end.Clean → ⊥
a_fault_is_no_clean_end same = absurd cc

pub faults_of_the_walk : (shows_walk_fault (end.Fault 26 (Walk (BadAtom 0x1004))) ≡ true) × (shows_walk_fault (end.Fault 26 AddressAwaited) ≡ false)
    × (shows_walk_fault end.Clean ≡ false)
faults_of_the_walk = (refl, refl, refl)
