-- A trace shows the retired path of its run.
use Rattle.std.proofs.Common.{◌≡◌, ℕ, ◌+◌, ◌<◌, ◌≤◌, List, [], ◌∷◌, ◌++◌, length, None, Ok, refl, sym, ap, subst, ◌∙◌, inl, arith}
use Rattle.std.specs.Prelude.{All}
use Rattle.std.proofs.lemmas.List.Elements.{All-append, All-tail}
use Rattle.element_queue.specs.Resolved.{Resolved, resolve_all, unresolved}
use Rattle.etm_types.specs.Settings.{AreSettings, Sizes}
use Rattle.etm_types.specs.declared.item.Item.{Item}
use Rattle.packet_grammar.specs.Parsed.{IsStream, clean}
use Rattle.packet_grammar.specs.declared.end.End.TheVariants as end
use Rattle.packet_grammar.specs.declared.packet.Packet.{Packet}
use Rattle.packet_grammar.specs.declared.packet.Packet.TheVariants as packet
use Rattle.packet_writer.specs.Fitting.{HasSpelling}
use Rattle.packet_writer.specs.Laws.{with_offsets}
use Rattle.packet_writer.specs.Spelling.{spelling}
use Rattle.packet_writer.proofs.Streams.{written_is_read}
use Rattle.path_elements.specs.Elements.{Told, all_elements, untold}
use Rattle.path_elements.specs.Path.{IsPath, WalksAll, end_behind}
use Rattle.path_elements.specs.PathLaws.{packets_alone}
use Rattle.path_walker.specs.State.{State, first_state}
use Rattle.path_walker.specs.Things.{Walks}
use Rattle.program_image.specs.Blocks.{HasGap}
use Rattle.program_image.specs.Part.{IsImage}
use Rattle.program_image.specs.declared.image.Image.{Image}
use Rattle.program_image.proofs.Gaps.{gap_of}
use Rattle.return_stack.specs.Stack.{most_addresses}
use Rattle.spec_run.proofs.EventsJoined.{passed}
use Rattle.spec_run.specs.Checks.{check}
use Rattle.spec_run.specs.RetiredItems.{retired_of}
use Rattle.spec_run.specs.RunAfter.{AreEvents, after_event, run_after, run_from}
use Rattle.spec_run.specs.Runs.{Execution, at_first}
use Rattle.spec_run.specs.declared.event.Event.{Event}
use Rattle.spec_run.specs.declared.event.Event.TheVariants as event
use Rattle.trace_unit.proofs.AllPackets.{run_fits, run_spelled, settled_tell}
use Rattle.trace_unit.proofs.Growing.{spelled_joined}
use Rattle.trace_unit.proofs.RunOrders.{whole_shows}
use Rattle.trace_unit.proofs.Telling.{are_told}
use Rattle.trace_unit.specs.Effects.{orders, orders_from}
use Rattle.trace_unit.specs.Orders.{Order, Sync, Tell}
use Rattle.trace_unit.specs.Packets.{nothing_shared, packets_all, settle_packets, shared_all}
use Rattle.trace_unit.specs.Places.{no_places}
use Rattle.trace_unit.specs.Telling.{AreTold, told_with}
use Rattle.trace_unit.specs.Whole.{nothing_waits, waits_all, whole_settled}
use Rattle.trace_unit.specs.Written.{settled, spelled}

-- ---- what a stream shows

placed_alone : (s : Sizes) (at : ℕ) (packets : List Packet) → packets_alone (with_offsets s at packets) ≡ packets
placed_alone s at [] = refl
placed_alone s at (p ∷ packets) = ap (λ l. p ∷ l) (placed_alone s (at + length (spelling s p)) packets)

stream_is : (s : Sizes) (packets more : List Packet) → packets ≡ packet.Async ∷ more → All (HasSpelling s) packets
    → IsStream s (spelled s packets) (with_offsets s 0 packets) clean
stream_is s packets more is have =
    subst (λ l. IsStream s (spelled s l) (with_offsets s 0 l) clean) (sym is)
    (written_is_read s more (All-tail (HasSpelling s) packet.Async more (subst (All (HasSpelling s)) is have)))

pub packets_show : (image : Image) (s : Sizes) (packets more : List Packet) (run : List Order) (next : Told) (items : List Item) (r : Resolved) (w : State)
    → packets ≡ packet.Async ∷ more → All (HasSpelling s) packets → AreTold untold packets (whole_settled s.depth run) next
    → resolve_all s.depth unresolved (whole_settled s.depth run) ≡ Ok r → Walks image first_state r.done items (Ok w)
    → IsPath image s (spelled s packets) items end.Clean
packets_show image s packets more run next items r w is have told resolves walks =
    let at = with_offsets s 0 packets in
    let g = told at (placed_alone s 0 packets) in
    let walked : WalksAll image s.depth (all_elements untold at).elements items =
    record { resolved = r; after = w; commits = ap (resolve_all s.depth unresolved) g.are ∙ resolves; walks = walks } in
    let took = (all_elements untold at).elements in
    (took, (at, clean, stream_is s packets more is have, inl (walked, ap (λ o. end_behind o clean) (sym g.in_place), refl)))

-- ---- a run begins with a trace info

abbrev BeginsSo : List Order → Type 0
BeginsSo orders = (more : List Order) × (orders ≡ Tell (Sync 0) ∷ more)

first_order : (image : Image) (depth most : ℕ) (e : Event) (events : List Event) → check image depth None e ≡ None
    → BeginsSo (orders_from image depth most at_first no_places (e ∷ events))
first_order image depth most (event.On addr ctx) events f = (_, refl)
first_order image depth most e events f = absurd cc

pub run_begins : (image : Image) (s : Sizes) (most : ℕ) (events : List Event) (x : Execution) → 0 < length events → run_after image s.depth events ≡ Ok x
    → BeginsSo (orders image s most events)
run_begins image s most [] x some e = absurd (omega (arith, some))
run_begins image s most (event ∷ events) x some e =
    let f = passed (check image s.depth None event) 0 (run_from image s.depth (after_event image s.depth at_first event) 1 events) x e in
    first_order image s.depth most event events f.0

begins_with_async : (s : Sizes) (orders more : List Order) (others : List Packet) → orders ≡ Tell (Sync 0) ∷ more
    → (rest : List Packet) × (packets_all s.depth nothing_waits nothing_shared orders ++ others ≡ packet.Async ∷ rest)
begins_with_async s orders more others is =
    (_, ap (λ l. packets_all s.depth nothing_waits nothing_shared l ++ others) is)

-- ---- a run

pub run_told : (image : Image) (s : Sizes) (most : ℕ) (events : List Event) (x : Execution) → AreEvents s events → 0 < length events
    → run_after image s.depth events ≡ Ok x
    → AreTold untold
    (packets_all s.depth nothing_waits nothing_shared (orders image s most events)
    ++ settle_packets s.depth (waits_all s.depth nothing_waits (orders image s most events)))
    (whole_settled s.depth (orders image s most events)) (told_with (shared_all nothing_shared (orders image s most events)))
run_told image s most events x given some e =
    let run = orders image s most events in
    let begins = run_begins image s most events x some e in
    are_told untold (packets_all s.depth nothing_waits nothing_shared run ++ settle_packets s.depth (waits_all s.depth nothing_waits run))
    (whole_settled s.depth run) (told_with (shared_all nothing_shared run))
    (settled_tell s s.depth 0 run begins.0 begins.1 (run_fits image s most events x given e))

pub trace_shows : (image : Image) (s : Sizes) (most : ℕ) (events : List Event) (x : Execution) → IsImage image → AreSettings s → most ≤ most_addresses
    → AreEvents s events → 0 < length events → run_after image s.depth events ≡ Ok x
    → IsPath image s (settled image s most events) (retired_of x) end.Clean
trace_shows image s most events x is settings le given some e =
    let hole = gap_of image is in
    let gap : HasGap image = record { address = hole.0; within = hole.1.0; aligned = hole.1.1; none = hole.1.2 } in
    let run = orders image s most events in
    let front = packets_all s.depth nothing_waits nothing_shared run in
    let last = settle_packets s.depth (waits_all s.depth nothing_waits run) in
    let begins = run_begins image s most events x some e in
    let async = begins_with_async s run begins.0 last begins.1 in
    let have = run_spelled image s most events x gap settings le given e in
    let shown = whole_shows image s most events x gap le given e in
    subst (λ bytes. IsPath image s bytes (retired_of x) end.Clean) (spelled_joined s front last)
    (packets_show image s (front ++ last) async.0 run (told_with (shared_all nothing_shared run)) (retired_of x) shown.0 shown.1 async.1
    (All-append (HasSpelling s) front last have.0 have.1) (run_told image s most events x given some e) shown.2 shown.3)
