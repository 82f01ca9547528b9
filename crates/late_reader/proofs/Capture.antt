-- The last bytes of a trace show their part of it.
use Rattle.std.proofs.Common.{◌≡◌, ℕ, zero, suc, ◌+◌, ◌<◌, ◌≤◌, Bool, List, [], ◌∷◌, ◌++◌, length, take, drop, map, Ok}
use Rattle.std.proofs.Common.{refl, sym, ap, subst, ◌∙◌, inl, inr, arith, append_assoc, append-nil}
use Rattle.std.specs.Prelude.{All}
use Rattle.std.proofs.lemmas.List.{take_all}
use Rattle.std.proofs.lemmas.List.Elements.{All-append, All-cons, All-head, All-nil, All-tail}
use Rattle.element_queue.specs.Resolved.{Resolved, resolve_all, unresolved}
use Rattle.etm_types.specs.Settings.{AreSettings, Sizes}
use Rattle.etm_types.specs.declared.element.Elem.{Elem}
use Rattle.etm_types.specs.declared.element.Elem.TheVariants as elem
use Rattle.packet_grammar.specs.Parsed.{FirstSync, IsStream, SyncAt, clean, no_sync}
use Rattle.packet_grammar.specs.declared.end.End.TheVariants as end
use Rattle.packet_grammar.specs.declared.packet.Packet.{Packet}
use Rattle.packet_grammar.specs.declared.packet.Packet.TheVariants as packet
use Rattle.packet_writer.specs.Fitting.{HasSpelling}
use Rattle.packet_writer.specs.Laws.{with_offsets}
use Rattle.packet_writer.specs.Spelling.{spelling}
use Rattle.packet_writer.proofs.Streams.{written_is_read}
use Rattle.path_elements.specs.Elements.{Told, all_elements, untold}
use Rattle.path_elements.specs.Path.{IsPath, WalksAll, end_behind, unplaced}
use Rattle.path_elements.specs.PathLaws.{packets_alone}
use Rattle.path_walker.specs.State.{first_state}
use Rattle.program_image.specs.Blocks.{HasGap}
use Rattle.program_image.specs.Part.{IsImage}
use Rattle.program_image.specs.declared.image.Image.{Image}
use Rattle.program_image.proofs.Gaps.{gap_of}
use Rattle.return_stack.specs.Stack.{most_addresses}
use Rattle.spec_run.specs.RetiredItems.{retired_of}
use Rattle.spec_run.specs.RunAfter.{AreEvents, run_after}
use Rattle.spec_run.specs.Runs.{Execution}
use Rattle.spec_run.specs.declared.event.Event.{Event}
use Rattle.trace_unit.proofs.AllPackets.{orders_tell, run_fits, run_spelled}
use Rattle.trace_unit.proofs.Announced.{announced}
use Rattle.trace_unit.proofs.Growing.{spelled_joined, waits_joined}
use Rattle.trace_unit.proofs.OrderPackets.{first_tells, settle_tells}
use Rattle.trace_unit.proofs.RunOrders.{whole_shows}
use Rattle.trace_unit.proofs.Telling.{Tells, are_told, tells_none, tells_on}
use Rattle.trace_unit.proofs.TraceShown.{run_begins, run_told}
use Rattle.trace_unit.specs.Effects.{orders}
use Rattle.trace_unit.specs.Fitting.{FitsOrder}
use Rattle.trace_unit.specs.Orders.{Order, Sync, Tell}
use Rattle.trace_unit.specs.Packets.{cancel_packets, nothing_shared, notice_packets, out_packets, packed, packets_all, settle_packets, shared_all}
use Rattle.trace_unit.specs.Telling.{told_with}
use Rattle.trace_unit.specs.Told.{atom_element, cancels_of}
use Rattle.trace_unit.specs.Whole.{PutOff, nothing_waits, out_elements, settle_elements, waits, waits_all, whole, whole_all, whole_settled}
use Rattle.trace_unit.specs.Written.{settled, spelled}
use Rattle.etm_types.specs.declared.item.Item.{Item}
use Rattle.late_reader.specs.Part.{ShowsPart}
use Rattle.packet_grammar.specs.Entering.{EntersAt, earlier}
use Rattle.packet_grammar.proofs.Found.{last_bytes_are_a_stream}
use Rattle.late_reader.specs.LastBytes.{LastBytesShow, info}
use Rattle.late_reader.proofs.Asyncs.{SyncedAt, settle_none, synced_at}
use Rattle.late_reader.proofs.Certain.{certain_path}
use Rattle.late_reader.proofs.Whole.{late_shows}

-- ---- packets without offsets

alone_joined : (xs ys : List (ℕ × Packet)) → packets_alone (xs ++ ys) ≡ packets_alone xs ++ packets_alone ys
alone_joined [] ys = refl
alone_joined (x ∷ xs) ys = ap (λ l. x.1 ∷ l) (alone_joined xs ys)

alone_earlier : (k : ℕ) (xs : List (ℕ × Packet)) → packets_alone (earlier k xs) ≡ packets_alone xs
alone_earlier k [] = refl
alone_earlier k (x ∷ xs) = ap (λ l. x.1 ∷ l) (alone_earlier k xs)

placed_alone : (s : Sizes) (at : ℕ) (packets : List Packet) → packets_alone (with_offsets s at packets) ≡ packets
placed_alone s at [] = refl
placed_alone s at (p ∷ packets) = ap (λ l. p ∷ l) (placed_alone s (at + length (spelling s p)) packets)

stream_is : (s : Sizes) (packets more : List Packet) → packets ≡ packet.Async ∷ more → All (HasSpelling s) packets
    → IsStream s (spelled s packets) (with_offsets s 0 packets) clean
stream_is s packets more is have =
    subst (λ l. IsStream s (spelled s l) (with_offsets s 0 l) clean) (sym is)
    (written_is_read s more (All-tail (HasSpelling s) packet.Async more (subst (All (HasSpelling s)) is have)))

-- the bytes of orders, and of what waits behind them
abbrev trace_of : Sizes → List Order → List ℕ
trace_of s run =
    spelled s (packets_all s.depth nothing_waits nothing_shared run) ++ spelled s (settle_packets s.depth (waits_all s.depth nothing_waits run))

-- ---- elements before and behind a trace info

whole_at : (depth : ℕ) (u : PutOff) (early late : List Order) (order : Order)
    → whole_all depth u (early ++ order ∷ late)
    ≡ whole_all depth u early ++ (whole depth (waits_all depth u early) order ++ whole_all depth (waits depth (waits_all depth u early) order) late)
whole_at depth u [] late order = refl
whole_at depth u (x ∷ early) late order =
    let v = waits depth u x in
    ap (λ l. whole depth u x ++ l) (whole_at depth v early late order)
    ∙ sym (append_assoc (whole depth u x) (whole_all depth v early)
    (whole depth (waits_all depth v early) order ++ whole_all depth (waits depth (waits_all depth v early) order) late))

-- the elements behind a trace info, with those of what waits in the end
abbrev late_elements : ℕ → PutOff → List Order → List Elem
late_elements depth v late = whole_all depth v late ++ settle_elements depth (waits_all depth v late)

settled_at : (depth n : ℕ) (early late : List Order) → out_elements (waits_all depth nothing_waits early) ≡ []
    → whole_settled depth (early ++ Tell (Sync n) ∷ late)
    ≡ whole_all depth nothing_waits early ++ elem.Info n ∷ late_elements depth (waits depth (waits_all depth nothing_waits early) (Tell (Sync n)))
    late
settled_at depth n early late none =
    let u = waits_all depth nothing_waits early in
    let v = waits depth u (Tell (Sync n)) in
    let front = whole_all depth nothing_waits early in
    ap (λ w. whole_all depth nothing_waits (early ++ Tell (Sync n) ∷ late) ++ settle_elements depth w)
    (waits_joined depth nothing_waits early (Tell (Sync n) ∷ late))
    ∙ ap (λ l. l ++ settle_elements depth (waits_all depth v late)) (whole_at depth nothing_waits early late (Tell (Sync n)))
    ∙ append_assoc front ((out_elements u ++ elem.Info n ∷ []) ++ whole_all depth v late) (settle_elements depth (waits_all depth v late))
    ∙ ap (λ l. front ++ (((l ++ elem.Info n ∷ []) ++ whole_all depth v late) ++ settle_elements depth (waits_all depth v late))) none

-- what is told by the packets from a trace info on
late_tells : (s : Sizes) (n : ℕ) (v : PutOff) (late : List Order) → All (FitsOrder s) late
    → Tells untold (packet.Async ∷ info n ∷ (packets_all s.depth v nothing_shared late ++ settle_packets s.depth (waits_all s.depth v late)))
    (elem.Info n ∷ late_elements s.depth v late) (told_with (shared_all nothing_shared late))
late_tells s n v late fit =
    let told = told_with nothing_shared in
    let last = told_with (shared_all nothing_shared late) in
    let w = waits_all s.depth v late in
    tells_on untold told last (notice_packets nothing_shared (Sync n)) (packets_all s.depth v nothing_shared late ++ settle_packets s.depth w)
    (elem.Info n ∷ []) (late_elements s.depth v late) (first_tells n)
    (tells_on told last last (packets_all s.depth v nothing_shared late) (settle_packets s.depth w) (whole_all s.depth v late) (settle_elements s.depth w)
    (orders_tell s s.depth v nothing_shared late fit) (settle_tells s.depth w (shared_all nothing_shared late)))

-- where nothing goes out, no packet does
none_cancelled : (n : ℕ) (rest : List Elem) → cancels_of n ++ rest ≡ [] → (n ≡ 0) × (rest ≡ [])
none_cancelled zero rest e = (refl, e)
none_cancelled (suc n) rest e = absurd cc

none_held : (atoms : List Bool) → map atom_element atoms ≡ [] → atoms ≡ []
none_held [] e = refl
none_held (a ∷ atoms) e = absurd cc

nothing_out : (u : PutOff) → out_elements u ≡ [] → out_packets u ≡ []
nothing_out u e =
    let parts = none_cancelled u.cancels (map atom_element (take (length u.atoms) u.atoms)) e in
    let atoms = none_held u.atoms (ap (map atom_element) (sym (take_all (length u.atoms) u.atoms (omega arith))) ∙ parts.1) in
    ap (λ n. cancel_packets n ++ packed u.atoms) parts.0 ∙ ap packed atoms

-- what is told by the packets before it
early_tells : (s : Sizes) (early late more : List Order) (n m : ℕ) → early ++ Tell (Sync n) ∷ late ≡ Tell (Sync m) ∷ more → All (FitsOrder s) early
    → (next : Told) × Tells untold (packets_all s.depth nothing_waits nothing_shared early) (whole_all s.depth nothing_waits early) next
early_tells s [] late more n m is fit = (untold, tells_none untold)
early_tells s (x ∷ early) late more n m is fit =
    let first : x ≡ Tell (Sync m) = cc in
    let told = told_with nothing_shared in
    let last = told_with (shared_all nothing_shared early) in
    let v = waits s.depth nothing_waits (Tell (Sync m)) in (
      last,
      subst (λ q. Tells untold (packets_all s.depth nothing_waits nothing_shared (q ∷ early)) (whole_all s.depth nothing_waits (q ∷ early)) last)
          (sym first)
          (tells_on untold told last (notice_packets nothing_shared (Sync m)) (packets_all s.depth v nothing_shared early) (elem.Info m ∷ [])
          (whole_all s.depth v early)
          (first_tells m) (orders_tell s s.depth v nothing_shared early (All-tail (FitsOrder s) x early fit))),
    )

-- the parts of a list whose elements fit
front_fits : (s : Sizes) (xs ys : List Order) → All (FitsOrder s) (xs ++ ys) → All (FitsOrder s) xs × All (FitsOrder s) ys
front_fits s [] ys fit = (All-nil (FitsOrder s), fit)
front_fits s (x ∷ xs) ys fit =
    let rest = front_fits s xs ys (All-tail (FitsOrder s) x (xs ++ ys) fit) in
    (All-cons (FitsOrder s) x xs (All-head (FitsOrder s) x (xs ++ ys) fit) rest.0, rest.1)

-- ---- a run

-- what the packets before an A-sync in them tell
early_told : (s : Sizes) (events more : List Order) (early late : List Order) (n : ℕ) → events ≡ early ++ Tell (Sync n) ∷ late
    → events ≡ Tell (Sync 0) ∷ more → All (FitsOrder s) early → out_elements (waits_all s.depth nothing_waits early) ≡ []
    → (front : List (ℕ × Packet))
    → packets_alone front ≡ packets_all s.depth nothing_waits nothing_shared early ++ out_packets (waits_all s.depth nothing_waits early)
    → unplaced (all_elements untold front).elements ≡ whole_all s.depth nothing_waits early
early_told s events more early late n parts begins fit none front is =
    let packets = packets_all s.depth nothing_waits nothing_shared early in
    let told = early_tells s early late more n 0 (sym parts ∙ begins) fit in
    let out = nothing_out (waits_all s.depth nothing_waits early) none in
    (are_told untold packets (whole_all s.depth nothing_waits early) told.0 told.1 front (is ∙ ap (λ l. packets ++ l) out ∙ append-nil packets)).are

-- its packets are a stream, in which each A-sync is that of an order of synchronisation
record Packed (s : Sizes) (bytes : List ℕ) (run : List Order) (missing offset : ℕ) : Type 0 where
  packets : List (ℕ × Packet)
  stream : IsStream s bytes packets clean
  alone : packets_alone packets
      ≡ packets_all s.depth nothing_waits nothing_shared run ++ settle_packets s.depth (waits_all s.depth nothing_waits run)
  enters : EntersAt s bytes packets missing offset
  at : SyncedAt s.depth nothing_waits nothing_shared run (settle_packets s.depth (waits_all s.depth nothing_waits run)) (packets_alone enters.front)
      (packets_alone enters.rest)

packed_run : (s : Sizes) (run more : List Order) (missing offset : ℕ) → AreSettings s → run ≡ Tell (Sync 0) ∷ more
    → All (HasSpelling s) (packets_all s.depth nothing_waits nothing_shared run)
    × All (HasSpelling s) (settle_packets s.depth (waits_all s.depth nothing_waits run))
    → FirstSync offset (drop missing (trace_of s run)) → Packed s (trace_of s run) run missing offset
packed_run s run more missing offset settings begins have first =
    let waiting = waits_all s.depth nothing_waits run in
    let front = packets_all s.depth nothing_waits nothing_shared run in
    let last = settle_packets s.depth waiting in
    let all : List Packet = front ++ last in
    let bytes = trace_of s run in
    let ps : List (ℕ × Packet) = with_offsets s 0 all in
    let stream : IsStream s bytes ps clean =
    subst (λ b. IsStream s b ps clean) (spelled_joined s front last)
    (stream_is s all _ (ap (λ l. packets_all s.depth nothing_waits nothing_shared l ++ last) begins)
    (All-append (HasSpelling s) front last have.0 have.1)) in
    let enters : EntersAt s bytes ps missing offset = last_bytes_are_a_stream s settings bytes ps missing offset stream first in
    let async : ℕ × Packet = (missing + offset, packet.Async) in
    let alone : packets_alone ps ≡ all = placed_alone s 0 all in
    let parts : all ≡ packets_alone enters.front ++ packet.Async ∷ packets_alone enters.rest =
    sym alone ∙ ap packets_alone enters.parts ∙ alone_joined enters.front (async ∷ enters.rest) in
    record {
      packets = ps;
      stream = stream;
      alone = alone;
      enters = enters;
      at = synced_at s.depth nothing_waits nothing_shared run last (packets_alone enters.front) (packets_alone enters.rest)
          (settle_none s.depth waiting) parts;
    }

-- what the bytes from there on show is what the late reader shows
path_behind : (image : Image) (s : Sizes) (run : List Order) (missing offset : ℕ) (bytes : List ℕ) (p : Packed s bytes run missing offset)
    (at whole : Resolved)
    (items : List Item) → All (FitsOrder s) p.at.late
    → (shows : ShowsPart image s.depth p.at.count at
    (late_elements s.depth (waits s.depth (waits_all s.depth nothing_waits p.at.early) (Tell (Sync p.at.count))) p.at.late) whole items)
    → IsPath image s (drop missing bytes) shows.late_items end.Clean
path_behind image s run missing offset bytes p at whole items fit shows =
    let early = p.at.early in
    let late = p.at.late in
    let n = p.at.count in
    let v = waits s.depth (waits_all s.depth nothing_waits early) (Tell (Sync n)) in
    let async : ℕ × Packet = (missing + offset, packet.Async) in
    let later : List (ℕ × Packet) = earlier missing (async ∷ p.enters.rest) in
    let all : PutOff → List Packet = λ w. packet.Async ∷ info n ∷ (packets_all s.depth v nothing_shared late ++ settle_packets s.depth w) in
    let settles : waits_all s.depth nothing_waits run ≡ waits_all s.depth v late =
    ap (waits_all s.depth nothing_waits) p.at.orders_are ∙ waits_joined s.depth nothing_waits early (Tell (Sync n) ∷ late) in
    let later_are : packets_alone later ≡ all (waits_all s.depth v late) =
    alone_earlier missing (async ∷ p.enters.rest) ∙ ap (λ l. packet.Async ∷ l) p.at.behind ∙ ap all settles in
    let told =
    are_told untold (all (waits_all s.depth v late)) (elem.Info n ∷ late_elements s.depth v late) (told_with (shared_all nothing_shared late))
    (late_tells s n v late fit) later later_are in
    let walked : WalksAll image s.depth (all_elements untold later).elements shows.late_items =
    record { resolved = shows.late; after = shows.after; commits = ap (resolve_all s.depth unresolved) told.are ∙ shows.resolves; walks = shows.walks } in
    ((all_elements untold later).elements, (later, clean, p.enters.stream, inl (walked, ap (λ o. end_behind o clean) (sym told.in_place), refl)))

pub last_shown : (image : Image) (s : Sizes) (most : ℕ) (events : List Event) (x : Execution) (missing offset : ℕ) → IsImage image → AreSettings s
    → most ≤ most_addresses → AreEvents s events → 0 < length events → run_after image s.depth events ≡ Ok x
    → FirstSync offset (drop missing (settled image s most events)) → LastBytesShow image s most events x missing offset
last_shown image s most events x missing offset is settings le given some e first =
    let hole = gap_of image is in
    let gap : HasGap image = record { address = hole.0; within = hole.1.0; aligned = hole.1.1; none = hole.1.2 } in
    let run = orders image s most events in
    let begins = run_begins image s most events x some e in
    let p : Packed s (settled image s most events) run missing offset =
    packed_run s run begins.0 missing offset settings begins.1 (run_spelled image s most events x gap settings le given e) first in
    let at = p.at in
    let known = announced image s most events x at.early at.late at.count gap le given e at.orders_are in
    let early : List Elem = whole_all s.depth nothing_waits at.early in
    let late : List Elem = late_elements s.depth (waits s.depth (waits_all s.depth nothing_waits at.early) (Tell (Sync at.count))) at.late in
    let fits =
    front_fits s at.early (Tell (Sync at.count) ∷ at.late) (subst (All (FitsOrder s)) at.orders_are (run_fits image s most events x given e)) in
    let told = run_told image s most events x given some e p.packets p.alone in
    let elements : unplaced (all_elements untold p.packets).elements ≡ early ++ elem.Info at.count ∷ late =
    told.are ∙ ap (whole_settled s.depth) at.orders_are ∙ settled_at s.depth at.count at.early at.late known.3 in
    let shown = whole_shows image s most events x gap le given e in
    let part = late_shows image s.depth at.count early late known.0 shown.0 (retired_of x) shown.1 known.2 known.4
    (ap (resolve_all s.depth unresolved) (sym elements ∙ told.are) ∙ shown.2) shown.3 (certain_path x) in
    record {
      packets = p.packets;
      stream = p.stream;
      enters = p.enters;
      count = at.count;
      more = _;
      behind = at.behind;
      early = early;
      elements = late;
      told_before = early_told s run begins.0 at.early at.late at.count at.orders_are begins.1 fits.0 known.3 p.enters.front at.before;
      told = elements;
      before = known.0;
      resolved = known.2;
      announces = known.4;
      at = part.0;
      informed = part.1;
      whole = shown.0;
      resolves = ap (resolve_all s.depth unresolved) told.are ∙ shown.2;
      shows = part.2;
      path = path_behind image s run missing offset (settled image s most events) p part.0 shown.0 (retired_of x)
          (All-tail (FitsOrder s) (Tell (Sync at.count)) at.late fits.1) part.2;
    }

-- where no A-sync is left, there is no packet and no item
pub none_shown : (image : Image) (s : Sizes) (most : ℕ) (events : List Event) (missing : ℕ)
    → ((at : ℕ) → SyncAt at (drop missing (settled image s most events)) → ⊥)
    → IsPath image s (drop missing (settled image s most events)) [] end.NoSync
none_shown image s most events missing none = (
  [],
  (
    [],
    no_sync,
    inr (none, refl, refl),
    inl (record { resolved = unresolved; after = first_state; commits = refl; walks = (refl, refl) }, refl, refl),
  ),
)
