-- The last bytes of a small trace, and what they show, worked out by hand: an unknown stretch in the place of what the whole shows.
use Rattle.std.proofs.Common.{◌≡◌, ℕ, zero, suc, ◌+◌, ◌<◌, ◌≤◌, true, false, List, [], ◌∷◌, ◌++◌, length, drop, Option, Some, None, Ok}
use Rattle.std.proofs.Common.{refl, sym, ap, subst, ◌∙◌, inl, arith}
use Rattle.std.specs.Prelude.{All}
use Rattle.std.proofs.lemmas.List.Elements.{All-append, All-cons, All-from_recursion, All-nil, All-tail}
use Rattle.a64_branches.specs.Classes.{class_of}
use Rattle.atom_formats.specs.Bytes.{byte_of}
use Rattle.atom_formats.specs.Formats.{atom_formats}
use Rattle.element_queue.specs.Resolved.{Resolved}
use Rattle.etm_types.specs.Settings.{AreSettings, FitsSettings}
use Rattle.etm_types.specs.declared.address.AddrForm.TheVariants.{Long64}
use Rattle.etm_types.specs.declared.element.Entry.{Entry}
use Rattle.etm_types.specs.declared.element.P0.TheVariants.{Atom}
use Rattle.etm_types.specs.declared.element.Pre.{Pre}
use Rattle.etm_types.specs.declared.element.Thing.TheVariants.{Seen, Unseen}
use Rattle.etm_types.specs.declared.item.Item.TheVariants as item
use Rattle.etm_types.specs.declared.item.Item.{Item}
use Rattle.etm_types.specs.declared.walked.Walked.{Walked}
use Rattle.packet_grammar.proofs.Streams.{one_stream}
use Rattle.packet_grammar.specs.Entering.{earlier}
use Rattle.packet_grammar.specs.Parsed.{FirstSync, IsStream, clean}
use Rattle.packet_grammar.specs.declared.end.End.TheVariants as end
use Rattle.packet_grammar.specs.declared.packet.Packet.TheVariants as packet
use Rattle.packet_grammar.specs.declared.packet.Packet.{Packet}
use Rattle.packet_writer.proofs.Streams.{written_is_read}
use Rattle.packet_writer.specs.Fitting.{HasSpelling}
use Rattle.packet_writer.specs.Laws.{with_offsets}
use Rattle.path_elements.proofs.BytePaths.{one_path}
use Rattle.path_elements.specs.Elements.{all_elements, untold}
use Rattle.path_elements.specs.Path.{IsPath, WalksAll}
use Rattle.path_elements.specs.PathLaws.{packets_alone}
use Rattle.path_walker.specs.State.{State, first_state}
use Rattle.path_walker.specs.Walk.{Shows}
use Rattle.path_walker.specs.declared.pc.Pc.TheVariants.{Lost}
use Rattle.program_image.proofs.Gaps.{gap_of}
use Rattle.program_image.specs.Blocks.{HasGap}
use Rattle.program_image.specs.Part.{IsImage, IsPart, Part}
use Rattle.spec_run.specs.RetiredItems.{retired_of}
use Rattle.spec_run.specs.RunAfter.{AreEvents, run_after}
use Rattle.spec_run.specs.Runs.{Execution}
use Rattle.spec_run.specs.declared.event.Event.TheVariants as event
use Rattle.spec_run.specs.declared.event.Event.{Event}
use Rattle.trace_unit.proofs.AllPackets.{run_spelled}
use Rattle.trace_unit.proofs.Examples.{accepted, path_of, ran}
use Rattle.trace_unit.proofs.TraceExamples.{async, sizes, user}
use Rattle.trace_unit.specs.Written.{settled, spelled}
use Rattle.late_reader.proofs.Capture.{last_shown}
use Rattle.late_reader.specs.LastBytes.{LastBytesShow, info}

-- 1000: B.EQ to itself; B to itself
abbrev words : List ℕ
words = 0x00 ∷ 0x00 ∷ 0x00 ∷ 0x54 ∷ 0x00 ∷ 0x00 ∷ 0x00 ∷ 0x14 ∷ []

abbrev code : List Part
code = record { start = 0x1000; bytes = words } ∷ []

-- the branch is held where synchronisation is asked for, and goes the other way then
abbrev events : List Event
events = event.On 0x1000 user ∷ event.Taken ∷ event.Sync ∷ event.Flip ∷ event.Taken ∷ event.Retire 2 ∷ []

abbrev items : List Item
items = item.On ∷ ran 0x1000 user ∷ ran 0x1004 user ∷ []

they_are_accepted : path_of (run_after code 4 events) ≡ Some items
unfolding class_of
they_are_accepted = refl

-- 27 bytes up to the second A-sync, and those from it on: one P0 element is announced, and then told to be the other one
abbrev first_bytes : List ℕ
first_bytes = async ++ 0x01 ∷ 0x01 ∷ 0x00 ∷ 0x04 ∷ 0x85 ∷ 0x00 ∷ 0x08 ∷ 0x00 ∷ 0x00 ∷ 0x00 ∷ 0x00 ∷ 0x00 ∷ 0x00 ∷ 0x10 ∷ 0xf7 ∷ []

abbrev last_bytes : List ℕ
last_bytes =
    async ++ 0x01 ∷ 0x05 ∷ 0x00 ∷ 0x01 ∷ 0x85 ∷ 0x00 ∷ 0x08 ∷ 0x00 ∷ 0x00 ∷ 0x00 ∷ 0x00 ∷ 0x00 ∷ 0x00 ∷ 0x10 ∷ 0x30 ∷ 0xf7 ∷ 0x2d ∷ 0x02 ∷ []

they_are_written : settled code (sizes 4) 15 events ≡ first_bytes ++ last_bytes
unfolding class_of atom_formats byte_of
they_are_written = refl

-- ---- what the last bytes show

abbrev start : Packet
start = packet.Addr (Long64 0x1000) (Some (record { el = 0; ns = false; vmid = None; cid = None }))

abbrev e_atom : Packet
e_atom = packet.Atoms (record { count = 1; bits = 1 })

abbrev mispredict : Packet
mispredict = packet.Mispredict (record { count = 0; first = false })

abbrev behind_sync : List Packet
behind_sync = info 1 ∷ start ∷ mispredict ∷ e_atom ∷ packet.Commit 2 ∷ []

abbrev last_packets : List Packet
last_packets = packet.Async ∷ behind_sync

they_are_last : spelled (sizes 4) last_packets ≡ last_bytes
unfolding atom_formats byte_of
they_are_last = refl

-- the element that is turned was not seen, so the address that was told before is not the one of what follows
abbrev lost : Pre
lost = record { flush = true; on = false; lost = true; ctx = Some user; addr = None }

abbrev entry : Entry
entry = record { pre = lost; p0 = Atom true }

abbrev resolved : Resolved
resolved = record {
  done = Unseen ∷ Seen entry ∷ [];
  pending = record { held = []; pre = record { flush = false; on = false; lost = false; ctx = None; addr = None }; informed = true };
}

abbrev unknown : Walked
unknown = record { on = false; unknown = true; ctx = user; start = 0; count = 0; took = false; exc = None }

abbrev nowhere : State
nowhere = record { pc = Lost; stack = []; ctx = user }

it_is_unknown : Shows code first_state entry unknown nowhere
it_is_unknown = record {
  agrees = refl;
  leads = (refl, refl, refl);
  on = refl;
  unknown = refl;
  start = refl;
  ctx = refl;
  kept = refl;
  exc = refl;
  took = refl;
}

last_show : All (HasSpelling (sizes 4)) last_packets → IsPath code (sizes 4) last_bytes (item.Unknown ∷ []) end.Clean
unfolding atom_formats byte_of
last_show have =
    let at = with_offsets (sizes 4) 0 last_packets in
    let stream : IsStream (sizes 4) last_bytes at clean = written_is_read (sizes 4) behind_sync (All-tail (HasSpelling (sizes 4)) packet.Async behind_sync have) in
    let walked : WalksAll code 4 (all_elements untold at).elements (item.Unknown ∷ []) = record {
      resolved = resolved;
      after = nowhere;
      commits = refl;
      walks = inl ([], item.Unknown ∷ [], first_state, (refl, refl), inl (item.Unknown ∷ [], [], nowhere, (unknown, it_is_unknown, refl), (refl, refl), refl), refl);
    } in
    ((all_elements untold at).elements, (at, clean, stream, inl (walked, refl, refl)))

-- ---- the law speaks of such a run

user_fits : FitsSettings (sizes 4) user
user_fits = record { el = omega arith; vmid = omega arith; cid = omega arith }

they_are_events : AreEvents (sizes 4) events
they_are_events = ((omega arith, user_fits), (tt, (tt, (tt, (tt, (tt, tt))))))

abbrev IsByte : ℕ → Type 0
IsByte byte = byte < 256

words_are_bytes : All IsByte words
words_are_bytes =
    All-from_recursion IsByte words
    (omega arith, (omega arith, (omega arith, (omega arith, (omega arith, (omega arith, (omega arith, (omega arith, tt))))))))

it_is_an_image : IsImage code
it_is_an_image =
    let part : Part = record { start = 0x1000; bytes = words } in
    let is : IsPart part = record { aligned = refl; whole = refl; some = omega arith; within = omega arith; bytes = words_are_bytes } in
    record {
      parts = All-cons IsPart part [] is (All-nil IsPart);
      order = (All-nil (λ (next : Part). 0x1008 ≤ next.start), tt);
      few = omega arith;
      small = omega arith;
    }

they_are_settings : AreSettings (sizes 4)
they_are_settings = record { depth = omega arith; vmid = refl; cid = refl }

there_is_a_gap : HasGap code
there_is_a_gap =
    let hole = gap_of code it_is_an_image in
    record { address = hole.0; within = hole.1.0; aligned = hole.1.1; none = hole.1.2 }

they_are_spelled : (x : Execution) → run_after code 4 events ≡ Ok x → All (HasSpelling (sizes 4)) last_packets
unfolding class_of atom_formats byte_of
they_are_spelled x e =
    let Have = HasSpelling (sizes 4) in
    let both = run_spelled code (sizes 4) 15 events x there_is_a_gap they_are_settings (omega arith) they_are_events e in
    let front : List Packet = packet.Async ∷ info 0 ∷ packet.On ∷ start ∷ e_atom ∷ packet.Async ∷ info 1 ∷ start ∷ mispredict ∷ [] in
    let all : All Have (packet.Async ∷ info 0 ∷ packet.On ∷ start ∷ e_atom ∷ last_packets) =
    All-append Have front (e_atom ∷ packet.Commit 2 ∷ []) both.0 both.1 in
    All-tail Have e_atom last_packets (All-tail Have start (e_atom ∷ last_packets) (All-tail Have packet.On (start ∷ e_atom ∷ last_packets)
    (All-tail Have (info 0) (packet.On ∷ start ∷ e_atom ∷ last_packets)
    (All-tail Have packet.Async (info 0 ∷ packet.On ∷ start ∷ e_atom ∷ last_packets) all))))

sync_is_first : FirstSync 0 last_bytes
sync_is_first = record { here = refl; none_before = λ before less there. absurd (omega (arith, less)) }

pub run : (x : Execution) × (run_after code 4 events ≡ Ok x) × (retired_of x ≡ items)
run = accepted (run_after code 4 events) items they_are_accepted

-- all but 27 bytes are missing: the last bytes show their part
pub last_are_shown : LastBytesShow code (sizes 4) 15 events run.0 27 0
last_are_shown =
    last_shown code (sizes 4) 15 events run.0 27 0 it_is_an_image they_are_settings (omega arith) they_are_events (omega arith) run.1
    (subst (λ bytes. FirstSync 0 (drop 27 bytes)) (sym they_are_written) sync_is_first)

-- which is one unknown stretch, whatever shows it
pub all_is_unknown : (shown : LastBytesShow code (sizes 4) 15 events run.0 27 0) → shown.shows.late_items ≡ item.Unknown ∷ []
all_is_unknown shown =
    let path = subst (λ bytes. IsPath code (sizes 4) (drop 27 bytes) shown.shows.late_items end.Clean) they_are_written shown.path in
    let other = last_show (they_are_spelled run.0 run.1) in
    (one_path code (sizes 4) they_are_settings last_bytes shown.shows.late_items (item.Unknown ∷ []) end.Clean end.Clean path.0 other.0 path.1 other.1).0

-- so no reader shows there what the whole does
pub none_knows_it : (shown : LastBytesShow code (sizes 4) 15 events run.0 27 0) → shown.shows.late_items ≡ ran 0x1004 user ∷ [] → ⊥
none_knows_it shown e = let x = sym (all_is_unknown shown) ∙ e in absurd cc

-- nor nothing
pub not_nothing : (shown : LastBytesShow code (sizes 4) 15 events run.0 27 0) → shown.shows.late_items ≡ [] → ⊥
not_nothing shown e = let x = sym (all_is_unknown shown) ∙ e in absurd cc

-- ---- what the trace info behind that A-sync announces

abbrev number_of : Option ℕ → ℕ
number_of None = 0
number_of (Some n) = n

abbrev announced_by : Packet → ℕ
announced_by (packet.Info info key spec cyct) = number_of spec
announced_by p = 0

count_of : (n : ℕ) → announced_by (info n) ≡ n
count_of zero = refl
count_of (suc n) = refl

abbrev second_of : List Packet → ℕ
second_of (p ∷ q ∷ packets) = announced_by q
second_of packets = 0

alone_earlier : (missing : ℕ) (packets : List (ℕ × Packet)) → packets_alone (earlier missing packets) ≡ packets_alone packets
alone_earlier missing [] = refl
alone_earlier missing (p ∷ packets) = ap (λ l. p.1 ∷ l) (alone_earlier missing packets)

-- the one P0 element that is held there, and no other number
pub one_is_announced : (shown : LastBytesShow code (sizes 4) 15 events run.0 27 0) → (shown.count ≡ 1) × (length shown.before.pending.held ≡ 1)
unfolding atom_formats byte_of
one_is_announced shown =
    let at = with_offsets (sizes 4) 0 last_packets in
    let stream : IsStream (sizes 4) last_bytes at clean =
    written_is_read (sizes 4) behind_sync (All-tail (HasSpelling (sizes 4)) packet.Async behind_sync (they_are_spelled run.0 run.1)) in
    let async : ℕ × Packet = (27 + 0, packet.Async) in
    let behind = subst (λ bytes. IsStream (sizes 4) (drop 27 bytes) (earlier 27 (async ∷ shown.enters.rest)) clean) they_are_written shown.enters.stream in
    let same : packets_alone (async ∷ shown.enters.rest) ≡ last_packets =
    sym (alone_earlier 27 (async ∷ shown.enters.rest))
    ∙ ap packets_alone (one_stream (sizes 4) they_are_settings last_bytes (earlier 27 (async ∷ shown.enters.rest)) at clean clean behind stream).0 in
    let count : shown.count ≡ 1 =
    sym (count_of shown.count) ∙ sym (ap (λ l. second_of (packet.Async ∷ l)) shown.behind) ∙ ap second_of same in
    (count, shown.announces.held ∙ count)
