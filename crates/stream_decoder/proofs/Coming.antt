-- From the bytes at which a decoding stands to those and some more: one, or those of a whole packet.
use Rattle.std.proofs.Common.{◌≡◌, ℕ, ◌+◌, ◌%◌, ◌^◌, ◌<◌, Bool, true, false, List, [], ◌∷◌, ◌++◌}
use Rattle.std.proofs.Common.{Option, Some, None, Result, Ok, Err, refl, sym, ap, subst, ◌∙◌, inl, inr, append-nil}
use Rattle.std.proofs.Common.{arith}
use Rattle.std.proofs.Math.Nat.{mod-eq_of_lt, mod-lt}
use Rattle.std.specs.Prelude.{All, if◌then◌else◌}
use Rattle.element_queue.specs.Counting.{add, counts_after, entries, made_by, no_counts, tally, tally_step}
use Rattle.element_queue.specs.Pending.{Gone, Pending, Taken, taken}
use Rattle.element_queue.specs.Resolved.{at_first}
use Rattle.element_queue.specs.declared.ledger.Counts.{Counts}
use Rattle.etm_types.specs.Settings.{AreSettings, Sizes}
use Rattle.etm_types.specs.declared.element.Elem.{Elem}
use Rattle.etm_types.specs.declared.element.Thing.{Thing}
use Rattle.etm_types.specs.declared.item.Item.{Item}
use Rattle.etm_types.specs.declared.walk_fault.WalkFault.{WalkFault}
use Rattle.packet_grammar.specs.Parsed.{Ending, clean, cut, fault, no_sync, IsStream}
use Rattle.packet_grammar.specs.declared.end.End.{End}
use Rattle.packet_grammar.specs.declared.end.End.TheVariants as end
use Rattle.packet_grammar.specs.declared.packet.Packet.{Packet}
use Rattle.packet_grammar.specs.declared.fault.PacketFault.{PacketFault}
use Rattle.packet_grammar.specs.declared.stream_fault.Fault.{Fault}
use Rattle.packet_grammar.specs.declared.stream_fault.Fault.TheVariants as stream
use Rattle.packet_reader.proofs.Adds.{Told}
use Rattle.packet_reader.specs.Answered.{fault_after, fault_of, told}
use Rattle.packet_reader.specs.Stands as reader
use Rattle.packet_reader.specs.declared.step.Step.{Step}
use Rattle.packet_reader.specs.declared.step.Step.TheVariants.{Skipped, More, Whole, Bad, Stopped}
use Rattle.path_elements.proofs.BytePaths.{fault_stays}
use Rattle.path_elements.proofs.Grows.{each_packet_adds}
use Rattle.path_elements.proofs.Paths.{last_of, runs_to_path}
use Rattle.path_elements.proofs.Runs.{ended_or_stopped, goes, goes_or_halts, runs_all, runs_append, same_ended, same_goes, same_walking, walking_or_halting}
use Rattle.path_elements.specs.Elements.{Gained, all_elements, elements_of, is_misplaced, with_offset, told_after, untold}
use Rattle.path_elements.specs.Elements as told_so
use Rattle.path_elements.specs.Laws.{with_packet}
use Rattle.path_elements.specs.Path.{end_behind, IsPathOfElements, IsPathTaking, unplaced}
use Rattle.path_elements.specs.Running.{Outcome, Runs, TakesSo, walked}
use Rattle.path_walker.specs.State.{State, first_state}
use Rattle.program_image.specs.declared.image.Image.{Image}
use Rattle.stream_decoder.proofs.Yielding.{tally_on}
use Rattle.stream_decoder.specs.Decoding.{Decoding, counted, depth_of}
use Rattle.stream_decoder.specs.Stands.{Came, ComesTo}
use Rattle.stream_decoder.specs.Yields.{Ends, Opens, OpensBehind, TakesAll, Yields, YieldsFrom, is_walk_fault, outcome_at}

abbrev gains : List (ℕ × Elem) → Option ℕ → told_so.Told → Gained
gains elements awaited so_far = record { elements = elements; awaited = awaited; told = so_far }

abbrev end_of_fault : Option (ℕ × PacketFault) → End
end_of_fault None = end.Clean
end_of_fault (Some stop) = end.Fault stop.0 (stream.Packet stop.1)

abbrev met_fault : ℕ × Fault → Option (ℕ × Fault)
met_fault stop = Some stop

same_stop : (a b : ℕ × Fault) → met_fault a ≡ met_fault b → a ≡ b
same_stop a b e = cc

-- What is told of the packets of some bytes, and of those with others behind them: an answer to these says what is added.
abbrev pub Adds : Sizes → List ℕ → List ℕ → Step → Type 0
Adds s bytes text step =
    (packets : List (ℕ × Packet)) → Told s bytes packets None → Told s (bytes ++ text) (packets ++ told step) (fault_after None step)

-- ---- one packet more

module _ (packets : List (ℕ × Packet)) (elements : List (ℕ × Elem)) (so_far : told_so.Told) (at : ℕ) (packet : Packet)
    (is : all_elements untold packets ≡ gains elements None so_far) where
  abbrev either : Bool → Gained
  either misplaced =
      if misplaced then gains elements (Some at) so_far
      else gains (elements ++ with_offset at (elements_of so_far packet)) None (told_after so_far packet)

  one_more : all_elements untold (packets ++ (at, packet) ∷ []) ≡ either (is_misplaced so_far packet)
  one_more = each_packet_adds untold packets at packet (ap (λ (g : Gained). g.awaited) is) ∙ ap (λ (g : Gained). with_packet g at packet) is

-- ---- what is left to do of a packet is its elements

yields_runs : (image : Image) (d : Decoding) (more : List Item) (outcome : Outcome) (took : List (ℕ × Elem)) → d.due ≡ []
    → Yields image d more outcome took → Runs image (depth_of d) d.pending d.walk (with_offset d.at d.todo) more outcome took
yields_runs image d more outcome took none yields =
    let here : YieldsFrom image (depth_of d) d.at d.pending d.walk [] d.todo more outcome took =
    subst (λ (l : List Thing). YieldsFrom image (depth_of d) d.at d.pending d.walk l d.todo more outcome took) none yields in
    elim here [
      | inl y ↦
          let runs = subst (λ (w : State). Runs image (depth_of d) d.pending w (with_offset d.at d.todo) y.1 outcome took) (same_walking y.2 d.walk (y.3).1) y.4 in
          let shown : y.1 ≡ more = ap (λ (l : List Item). l ++ y.1) (sym (y.3).0) ∙ sym y.5 in
          subst (λ (l : List Item). Runs image (depth_of d) d.pending d.walk (with_offset d.at d.todo) l outcome took) shown runs
      | inr y ↦ absurd (walking_or_halting d.walk y.0 (sym (y.1).1))
    ]

unplaced_append : (xs ys : List (ℕ × Elem)) → unplaced (xs ++ ys) ≡ unplaced xs ++ unplaced ys
unplaced_append [] ys = refl
unplaced_append (x ∷ xs) ys = ap (λ (l : List Elem). x.1 ∷ l) (unplaced_append xs ys)

-- ---- a run takes its elements, and they are counted

runs_take : (image : Image) (depth : ℕ) (p : Pending) (w : State) (es : List (ℕ × Elem)) (items : List Item) (n : Pending × State) (took : List (ℕ × Elem))
    (c : Counts) → Runs image depth p w es items (Ok n) took → (c' : Counts) × TakesAll depth p c (unplaced es) n.0 c'
runs_take image depth p w [] items n took c r = (c, (ap (λ (m : Pending × State). m.0) (same_ended n (p, w) r.1), refl))
runs_take image depth p w (e ∷ es) items n took c (inl r) = absurd (ended_or_stopped n (e.0, r.0) r.2)
runs_take image depth p w (e ∷ es) items n took c (inr r) =
    take_so (taken depth p e.1) refl r.4 (λ d. runs_take image depth (r.2).0 (r.2).1 es r.1 n r.3 d r.5)
  where
    taking : (t : Pending × Gone) → taken depth p e.1 ≡ Ok t → (o : Result State WalkFault) → goes r.2 ≡ walked t.0 o
        → ((d : Counts) → (c' : Counts) × TakesAll depth (r.2).0 d (unplaced es) n.0 c')
        → (c' : Counts) × TakesAll depth p c (e.1 ∷ unplaced es) n.0 c'
    taking t is (Ok v) same on =
        let next : (r.2).0 ≡ t.0 = ap (λ (m : Pending × State). m.0) (same_goes r.2 (t.0, v) same) in
        let rest = on (counts_after c (made_by e.1) t.1) in
        (rest.0, (t.0, t.1, is, subst (λ (q : Pending). TakesAll depth q (counts_after c (made_by e.1) t.1) (unplaced es) n.0 rest.0) next rest.1))
    taking t is (Err f) same on = absurd (goes_or_halts r.2 (stream.Walk f) same)

    take_so : (t : Taken) → taken depth p e.1 ≡ t → TakesSo image t w r.0 (Ok r.2)
        → ((d : Counts) → (c' : Counts) × TakesAll depth (r.2).0 d (unplaced es) n.0 c')
        → (c' : Counts) × TakesAll depth p c (e.1 ∷ unplaced es) n.0 c'
    take_so (Ok t) is takes on = taking t is takes.0 takes.2 on
    take_so (Err f) is takes on = absurd (goes_or_halts r.2 (stream.Queue f) takes.1)

-- the number of those that were committed is below 2^64
tally_small : (depth : ℕ) (p : Pending) (c : Counts) (es : List Elem) → c.committed < 2 ^ 64 → (tally depth p c es).committed < 2 ^ 64
tally_small depth p c [] small = small
tally_small depth p c (e ∷ es) small =
    step_small (taken depth p e) (λ t. tally_small depth t.0 (counts_after c (made_by e) t.1) es
    (mod-lt (c.committed + entries (t.1).committed) (omega arith)))
  where
    step_small : (t : Taken) → ((u : Pending × Gone) → (tally depth u.0 (counts_after c (made_by e) u.1) es).committed < 2 ^ 64)
        → (tally_step c e t (λ (q : Pending) (d : Counts). tally depth q d es)).committed < 2 ^ 64
    step_small (Ok t) on = on t
    step_small (Err f) on = small

add_none : (n : ℕ) → n < 2 ^ 64 → add n 0 ≡ n
add_none n small = let same : n + 0 ≡ n = omega arith in ap (λ (k : ℕ). k % 2 ^ 64) same ∙ mod-eq_of_lt small

pub none_due : (d : Decoding) → d.due ≡ [] → (d.counts).committed < 2 ^ 64 → counted d ≡ d.counts
none_due d none small =
    ap (λ (l : List Thing). record (d.counts) { committed = add (d.counts).committed (entries l) }) none
    ∙ ap (λ (n : ℕ). record (d.counts) { committed = n }) (add_none (d.counts).committed small)

-- ---- a packet is opened, without a fault

record Opened (image : Image) (s : Sizes) (bytes : List ℕ) (items : List Item) (took : List (ℕ × Elem)) (m : Decoding) : Type 0 where
  packets : List (ℕ × Packet)
  so : Told s bytes packets None
  gained : all_elements untold packets ≡ gains (took ++ with_offset m.at m.todo) None m.told
  due : m.due ≡ []
  runs : Runs image (depth_of m) at_first first_state took items (Ok (m.pending, m.walk)) took

module _ (image : Image) (bytes text : List ℕ) (items : List Item) (d m : Decoding) (are : AreSettings ((d.reader).settings))
    (settings : (m.reader).settings ≡ (d.reader).settings) (came : Came image d bytes items) where
  s : Sizes
  s = (d.reader).settings

  abbrev more : List ℕ
  more = bytes ++ text

  abbrev took : List (ℕ × Elem)
  took = came.took

  -- what the packets lead to, where no fault was met yet
  abbrev Clean : Type 0
  Clean = ComesTo None image d bytes items took

  free : d.fault ≡ None → Clean
  free none = subst (λ (f : Option (ℕ × Fault)). ComesTo f image d bytes items took) none came.comes

  so_told : (c : Clean) → Told ((d.reader).settings) bytes c.0 None
  so_told c = record { ending = c.1; stream = c.2; fault = c.3 }

  -- ---- no fault is met with the byte

  -- a byte that ends no packet
  opened_by_none : (step : Step) → told step ≡ [] → fault_after None step ≡ None → Clean → Adds ((d.reader).settings) bytes text step
      → m ≡ record d { reader = m.reader } → Opened image ((d.reader).settings) more items took m
  opened_by_none step none ends c gain same =
      let is = gain c.0 (so_told c) in
      let so : Told ((d.reader).settings) more (c.0 ++ told step) None =
      subst (λ (l : Option (ℕ × PacketFault)). Told ((d.reader).settings) more (c.0 ++ told step) l) ends is in
      let packets : c.0 ++ told step ≡ c.0 = ap (λ (l : List (ℕ × Packet)). c.0 ++ l) none ∙ append-nil c.0 in
      let kept : Opened image ((d.reader).settings) more items took (record d { reader = m.reader }) =
      record {
        packets = c.0;
        so = subst (λ (l : List (ℕ × Packet)). Told ((d.reader).settings) more l None) packets so;
        gained = c.4 ∙ ap (λ (l : List (ℕ × Elem)). gains l None d.told)
            (sym (ap (λ (l : List Elem). took ++ with_offset d.at l) (came.done).todo ∙ append-nil took));
        due = (came.done).due;
        runs = subst (λ (k : Sizes). Runs image k.depth at_first first_state took items (Ok (d.pending, d.walk)) took) (sym settings) c.5;
      } in
      subst (λ (x : Decoding). Opened image ((d.reader).settings) more items took x) (sym same) kept

  -- a packet that may come where it does
  opened_by_packet : (at : ℕ) (packet : Packet) → is_misplaced d.told packet ≡ false → Clean → Adds ((d.reader).settings) bytes text (Whole at packet)
      → m ≡ record d { reader = m.reader; told = told_after d.told packet; at = at; todo = elements_of d.told packet }
      → Opened image ((d.reader).settings) more items took m
  opened_by_packet at packet placed_well c gain same =
      let kept : Opened image ((d.reader).settings) more items took
      (record d { reader = m.reader; told = told_after d.told packet; at = at; todo = elements_of d.told packet }) =
      record {
        packets = c.0 ++ (at, packet) ∷ [];
        so = gain c.0 (so_told c);
        gained = one_more c.0 took d.told at packet c.4 ∙ ap (either c.0 took d.told at packet c.4) placed_well;
        due = (came.done).due;
        runs = subst (λ (k : Sizes). Runs image k.depth at_first first_state took items (Ok (d.pending, d.walk)) took) (sym settings) c.5;
      } in
      subst (λ (x : Decoding). Opened image ((d.reader).settings) more items took x) (sym same) kept

  not_met : (stop : ℕ × Fault) (x : Decoding) → m ≡ x → x.fault ≡ Some stop → m.fault ≡ None → ⊥
  not_met stop x same some none = let e : Some stop ≡ None = sym some ∙ ap (λ (y : Decoding). y.fault) (sym same) ∙ none in cc

  opened_by : (step : Step) → Clean → Adds ((d.reader).settings) bytes text step → Opens d step m → m.fault ≡ None
      → Opened image ((d.reader).settings) more items took m
  opened_by (Whole at packet) c gain (inl opens) none =
      absurd (not_met (at, stream.AddressAwaited) (record d { reader = m.reader; fault = Some (at, stream.AddressAwaited) }) opens.1 refl none)
  opened_by (Whole at packet) c gain (inr opens) none = opened_by_packet at packet opens.0 c gain opens.1
  opened_by (Bad at f) c gain opens none =
      absurd (not_met (at, stream.Packet f) (record d { reader = m.reader; fault = Some (at, stream.Packet f) }) opens refl none)
  opened_by Skipped c gain opens none = opened_by_none Skipped refl refl c gain opens
  opened_by More c gain opens none = opened_by_none More refl refl c gain opens
  opened_by Stopped c gain opens none = opened_by_none Stopped refl refl c gain opens

  -- ---- a fault is met with the byte, or was before

  unmet : (stop : ℕ × Fault) → m.fault ≡ None → m.fault ≡ Some stop → ⊥
  unmet stop none is = let e : None ≡ Some stop = sym none ∙ is in cc

  -- the path of the packets so far, however the stream ends
  path_so : (packets : List (ℕ × Packet)) (ending : Ending) (awaited : Option ℕ) → IsStream ((d.reader).settings) more packets ending
      → all_elements untold packets ≡ gains took awaited d.told → Clean
      → IsPathTaking image ((d.reader).settings) more items (end_behind awaited ending) took
  path_so packets ending awaited stands is c =
      let path = runs_to_path image (depth_of d) took (end_behind awaited ending) items (Ok (d.pending, d.walk)) took c.5 in (
        packets,
        ending,
        stands,
        subst (λ (g : Gained). IsPathOfElements image (depth_of d) g.elements (end_behind g.awaited ending) items (end_behind awaited ending) took) (sym is)
            path,
      )

  abbrev StoppedAt : ℕ × Fault → Type 0
  StoppedAt stop = IsPathTaking image ((d.reader).settings) more items (end.Fault stop.0 stop.1) took

  ends_with : (at : ℕ) (f : PacketFault) (ending : Ending) → fault_of ending ≡ Some (at, f) → end_behind None ending ≡ end.Fault at (stream.Packet f)
  ends_with at f (fault place g) e = ap end_of_fault e
  ends_with at f no_sync e = absurd cc
  ends_with at f clean e = absurd cc
  ends_with at f (cut n) e = absurd cc

  stopped_by_bytes : (at : ℕ) (f : PacketFault) → Clean → Adds ((d.reader).settings) bytes text (Bad at f) → StoppedAt (at, stream.Packet f)
  stopped_by_bytes at f c gain =
      let is = gain c.0 (so_told c) in
      let path = path_so (c.0 ++ []) is.ending None is.stream (ap (all_elements untold) (append-nil c.0) ∙ c.4) c in
      subst (λ (l : End). IsPathTaking image ((d.reader).settings) more items l took) (ends_with at f is.ending is.fault) path

  stopped_by_place : (at : ℕ) (packet : Packet) → is_misplaced d.told packet ≡ true → Clean → Adds ((d.reader).settings) bytes text (Whole at packet)
      → StoppedAt (at, stream.AddressAwaited)
  stopped_by_place at packet misplaced c gain =
      let is = gain c.0 (so_told c) in
      path_so (c.0 ++ (at, packet) ∷ []) is.ending (Some at) is.stream
      (one_more c.0 took d.told at packet c.4 ∙ ap (either c.0 took d.told at packet c.4) misplaced) c

  -- where the fault that was met is this one, that is how the path ends
  same_fault : (stop met : ℕ × Fault) (x : Decoding) → m ≡ x → x.fault ≡ Some met → m.fault ≡ Some stop → StoppedAt met → StoppedAt stop
  same_fault stop met x same some is so =
      let e : Some met ≡ Some stop = sym some ∙ ap (λ (y : Decoding). y.fault) (sym same) ∙ is in
      subst StoppedAt (same_stop met stop e) so

  stopped_by : (step : Step) (stop : ℕ × Fault) → d.fault ≡ None → Clean → Adds ((d.reader).settings) bytes text step → Opens d step m
      → m.fault ≡ Some stop → StoppedAt stop
  stopped_by (Whole at packet) stop none c gain (inl opens) is =
      let met : ℕ × Fault = (at, stream.AddressAwaited) in
      same_fault stop met (record d { reader = m.reader; fault = Some met }) opens.1 refl is (stopped_by_place at packet opens.0 c gain)
  stopped_by (Whole at packet) stop none c gain (inr opens) is =
      absurd (unmet stop (ap (λ (y : Decoding). y.fault) opens.1 ∙ none) is)
  stopped_by (Bad at f) stop none c gain opens is =
      let met : ℕ × Fault = (at, stream.Packet f) in
      same_fault stop met (record d { reader = m.reader; fault = Some met }) opens refl is (stopped_by_bytes at f c gain)
  stopped_by Skipped stop none c gain opens is = absurd (unmet stop (ap (λ (y : Decoding). y.fault) opens ∙ none) is)
  stopped_by More stop none c gain opens is = absurd (unmet stop (ap (λ (y : Decoding). y.fault) opens ∙ none) is)
  stopped_by Stopped stop none c gain opens is = absurd (unmet stop (ap (λ (y : Decoding). y.fault) opens ∙ none) is)

  -- ---- behind a fault

  -- the path of the bytes, whether a fault was met or not
  path_at : (met : Option (ℕ × Fault)) → ComesTo met image d bytes items took → (last : End) × IsPathTaking image ((d.reader).settings) bytes items last took
  path_at (Some stop) is = (end.Fault stop.0 stop.1, is)
  path_at None c =
      let path = runs_to_path image (depth_of d) took (end_behind None c.1) items (Ok (d.pending, d.walk)) took c.5 in (
        end_behind None c.1,
        (
          c.0,
          c.1,
          c.2,
          subst (λ (g : Gained). IsPathOfElements image (depth_of d) g.elements (end_behind g.awaited c.1) items (end_behind None c.1) took) (sym c.4) path,
        ),
      )

  pub path_of : (last : End) × IsPathTaking image ((d.reader).settings) bytes items last took
  path_of = path_at d.fault came.comes

  -- what the byte leaves of the decoding
  record Kept : Type 0 where
    kept_due : m.due ≡ d.due
    kept_todo : (m.fault ≡ None → ⊥) → m.todo ≡ d.todo
    kept_counts : m.counts ≡ d.counts

  kept_by : (x : Decoding) → m ≡ x → x.due ≡ d.due → x.todo ≡ d.todo → x.counts ≡ d.counts → Kept
  kept_by x same due todo counts =
      record {
        kept_due = ap (λ (y : Decoding). y.due) same ∙ due;
        kept_todo = λ some. ap (λ (y : Decoding). y.todo) same ∙ todo;
        kept_counts = ap (λ (y : Decoding). y.counts) same ∙ counts;
      }

  kept : (met : Option (ℕ × Fault)) → d.fault ≡ met → (step : Step) → OpensBehind met d step m → Kept
  kept (Some stop) is step opens = kept_by (record d { reader = m.reader }) opens refl refl refl
  kept None is (Whole at packet) (inl opens) =
      kept_by (record d { reader = m.reader; fault = Some (at, stream.AddressAwaited) }) opens.1 refl refl refl
  kept None is (Whole at packet) (inr opens) =
      record {
        kept_due = ap (λ (y : Decoding). y.due) opens.1;
        kept_todo = λ some. absurd (some (ap (λ (y : Decoding). y.fault) opens.1 ∙ is));
        kept_counts = ap (λ (y : Decoding). y.counts) opens.1;
      }
  kept None is (Bad at f) opens = kept_by (record d { reader = m.reader; fault = Some (at, stream.Packet f) }) opens refl refl refl
  kept None is Skipped opens = kept_by (record d { reader = m.reader }) opens refl refl refl
  kept None is More opens = kept_by (record d { reader = m.reader }) opens refl refl refl
  kept None is Stopped opens = kept_by (record d { reader = m.reader }) opens refl refl refl

  module _ (small : All (λ b. b < 256) more) (reads : reader.StandsAt m.reader more) where
    stopped_so : (met : Option (ℕ × Fault)) (step : Step) (stop : ℕ × Fault) → d.fault ≡ met → Adds ((d.reader).settings) bytes text step
        → OpensBehind met d step m → m.fault ≡ Some stop → StoppedAt stop
    stopped_so (Some before) step stop is gain opens met =
        let e : Some before ≡ Some stop = sym is ∙ sym (ap (λ (y : Decoding). y.fault) opens) ∙ met in
        let there = subst (λ (f : Option (ℕ × Fault)). ComesTo f image d bytes items took) is came.comes in
        subst StoppedAt (same_stop before stop e)
        (fault_stays image ((d.reader).settings) are bytes text items before.0 before.1 took small there)
    stopped_so None step stop is gain opens met = stopped_by step stop is (free is) gain opens met

    -- a fault that is not of the walk was met, or the same as before
    counts_so : (met : Option (ℕ × Fault)) (step : Step) → d.fault ≡ met → OpensBehind met d step m → is_walk_fault m.fault ≡ false
        → is_walk_fault d.fault ≡ false
    counts_so (Some before) step is opens free_of = ap is_walk_fault (sym (ap (λ (y : Decoding). y.fault) opens)) ∙ free_of
    counts_so None step is opens free_of = ap is_walk_fault is

    pub came_stopped : (step : Step) (stop : ℕ × Fault) → Adds ((d.reader).settings) bytes text step → OpensBehind d.fault d step m
        → m.fault ≡ Some stop → Came image m more items
    came_stopped step stop gain opens met =
        let k = kept d.fault refl step opens in
        let path : IsPathTaking image ((m.reader).settings) more items (end.Fault stop.0 stop.1) took =
        subst (λ (z : Sizes). IsPathTaking image z more items (end.Fault stop.0 stop.1) took) (sym settings)
        (stopped_so d.fault step stop refl gain opens met) in
        let depth : depth_of d ≡ depth_of m = ap (λ (z : Sizes). z.depth) (sym settings) in
        let tallied : tally (depth_of d) at_first no_counts (unplaced took) ≡ tally (depth_of m) at_first no_counts (unplaced took) =
        ap (λ (n : ℕ). tally n at_first no_counts (unplaced took)) depth in
        record {
          small = small;
          reads = reads;
          done = record { due = k.kept_due ∙ (came.done).due; todo = k.kept_todo (λ none. unmet stop none met) ∙ (came.done).todo };
          took = took;
          comes = subst (λ (f : Option (ℕ × Fault)). ComesTo f image m more items took) (sym met) path;
          made = ap (λ (c : Counts). c.made) k.kept_counts ∙ came.made ∙ ap (λ (c : Counts). c.made) tallied;
          counts = λ free_of. k.kept_counts ∙ came.counts (counts_so d.fault step refl opens free_of) ∙ tallied;
        }

    -- ---- what is left to do after the byte is done

    module _ (step : Step) (gain : Adds ((d.reader).settings) bytes text step) (opens : OpensBehind d.fault d step m) (none : m.fault ≡ None) where
      opened_so : (met : Option (ℕ × Fault)) → d.fault ≡ met → OpensBehind met d step m → Opened image ((d.reader).settings) more items took m
      opened_so (Some stop) is so = absurd (not_met stop (record d { reader = m.reader }) so is none)
      opened_so None is so = opened_by step (free is) gain so none

      unmet_before : (met : Option (ℕ × Fault)) → d.fault ≡ met → OpensBehind met d step m → d.fault ≡ None
      unmet_before (Some stop) is so = absurd (not_met stop (record d { reader = m.reader }) so is none)
      unmet_before None is so = is

      opened : Opened image ((d.reader).settings) more items took m
      opened = opened_so d.fault refl opens

      module _ (others : List Item) (outcome : Outcome) (took' : List (ℕ × Elem)) (yields : Yields image m others outcome took') where
        runs_on : Runs image (depth_of m) at_first first_state (took ++ with_offset m.at m.todo) (items ++ others) outcome (took ++ took')
        runs_on =
            runs_append image (depth_of m) at_first first_state took (with_offset m.at m.todo) items others (m.pending, m.walk) outcome took took' opened.runs
            (yields_runs image m others outcome took' opened.due yields)

        path_with : IsPathTaking image ((d.reader).settings) more (items ++ others) (last_of (end_behind None (opened.so).ending) outcome) (took ++ took')
        path_with =
            let last = last_of (end_behind None (opened.so).ending) outcome in
            let path = runs_to_path image (depth_of m) (took ++ with_offset m.at m.todo) (end_behind None (opened.so).ending) (items ++ others) outcome
            (took ++ took') runs_on in
            let there = subst (λ (g : Gained). IsPathOfElements image (depth_of m) g.elements (end_behind g.awaited (opened.so).ending) (items ++ others) last
            (took ++ took')) (sym opened.gained) path in
            let gained = all_elements untold opened.packets in (
              opened.packets,
              (opened.so).ending,
              (opened.so).stream,
              subst (λ (z : Sizes). IsPathOfElements image z.depth gained.elements (end_behind gained.awaited (opened.so).ending) (items ++ others) last
                  (took ++ took')) settings there,
            )

        -- the path with the byte
        pub path_by : (last : End) × IsPathTaking image ((d.reader).settings) more (items ++ others) last (took ++ took')
        path_by = (last_of (end_behind None (opened.so).ending) outcome, path_with)

      -- the counts go on from those of the bytes
      tallied : (es : List (ℕ × Elem)) → tally (depth_of m) m.pending (counted m) (unplaced es) ≡ tally (depth_of m) at_first no_counts (unplaced (took ++ es))
      tallied es =
          let so : Clean = free (unmet_before d.fault refl opens) in
          let k = kept d.fault refl step opens in
          let depth : depth_of d ≡ depth_of m = ap (λ (z : Sizes). z.depth) (sym settings) in
          let before : d.counts ≡ tally (depth_of m) at_first no_counts (unplaced took) =
          came.counts (ap is_walk_fault (unmet_before d.fault refl opens)) ∙ ap (λ (n : ℕ). tally n at_first no_counts (unplaced took)) depth in
          let small_count : (m.counts).committed < 2 ^ 64 =
          subst (λ (c : Counts). c.committed < 2 ^ 64) (sym (k.kept_counts ∙ before))
          (tally_small (depth_of m) at_first no_counts (unplaced took) (omega arith)) in
          let there = runs_take image (depth_of m) at_first first_state took items (m.pending, m.walk) took no_counts opened.runs in
          let ends : tally (depth_of m) at_first no_counts (unplaced took) ≡ there.0 =
          ap (tally (depth_of m) at_first no_counts) (sym (append-nil (unplaced took)))
          ∙ tally_on (depth_of m) at_first m.pending no_counts there.0 (unplaced took) [] there.1 in
          let counts : counted m ≡ there.0 = none_due m opened.due small_count ∙ k.kept_counts ∙ before ∙ ends in
          ap (λ (c : Counts). tally (depth_of m) m.pending c (unplaced es)) counts
          ∙ sym (ap (tally (depth_of m) at_first no_counts) (unplaced_append took es)
          ∙ tally_on (depth_of m) at_first m.pending no_counts there.0 (unplaced took) (unplaced es) there.1)

      comes_by : (others : List Item) (d' : Decoding) (met : Option (ℕ × Fault)) (took' : List (ℕ × Elem)) → d'.reader ≡ m.reader → d'.told ≡ m.told
          → Yields image m others (outcome_at met d'.pending d'.walk) took' → ComesTo met image d' more (items ++ others) (took ++ took')
      comes_by others d' (Some stop) took' reads told_same yields =
          subst (λ (z : Sizes). IsPathTaking image z more (items ++ others) (end.Fault stop.0 stop.1) (took ++ took'))
          (sym (ap (λ (r : reader.PacketReading). r.settings) reads ∙ settings)) (path_with others (Err stop) took' yields)
      comes_by others d' None took' reads told_same yields =
          let runs = runs_on others (Ok (d'.pending, d'.walk)) took' yields in
          let all : took' ≡ with_offset m.at m.todo =
          runs_all image (depth_of m) m.pending m.walk (with_offset m.at m.todo) others (d'.pending, d'.walk) took'
          (yields_runs image m others (Ok (d'.pending, d'.walk)) took' opened.due yields) in
          let same : took ++ with_offset m.at m.todo ≡ took ++ took' = ap (λ (l : List (ℕ × Elem)). took ++ l) (sym all) in
          let sizes : (d'.reader).settings ≡ (d.reader).settings = ap (λ (r : reader.PacketReading). r.settings) reads ∙ settings in (
            opened.packets,
            (opened.so).ending,
            subst (λ (z : Sizes). IsStream z more opened.packets (opened.so).ending) (sym sizes) (opened.so).stream,
            (opened.so).fault,
            opened.gained ∙ ap (λ (l : List (ℕ × Elem)). gains l None m.told) same ∙ ap (gains (took ++ took') None) (sym told_same),
            subst (λ (n : ℕ). Runs image n at_first first_state (took ++ took') (items ++ others) (Ok (d'.pending, d'.walk)) (took ++ took'))
                (ap (λ (r : reader.PacketReading). (r.settings).depth) (sym reads))
                (subst (λ (l : List (ℕ × Elem)). Runs image (depth_of m) at_first first_state l (items ++ others)
                (Ok (d'.pending, d'.walk)) (took ++ took')) same runs),
          )

      -- all that was left to do is done
      pub came_by : (others : List Item) (d' : Decoding) → Ends image m others d' → Came image d' more (items ++ others)
      came_by others d' ends =
          let reads_same : d'.reader ≡ m.reader = ap (λ (x : Decoding). x.reader) ends.rest in
          let depth : depth_of m ≡ depth_of d' = ap (λ (r : reader.PacketReading). (r.settings).depth) (sym reads_same) in
          let tally_depth : (es : List Elem) → tally (depth_of m) at_first no_counts es ≡ tally (depth_of d') at_first no_counts es
          = λ es. ap (λ (n : ℕ). tally n at_first no_counts es) depth in
          record {
            small = small;
            reads = subst (λ (r : reader.PacketReading). reader.StandsAt r more) (sym reads_same) reads;
            done = ends.done;
            took = took ++ ends.took;
            comes = comes_by others d' d'.fault ends.took reads_same (ap (λ (x : Decoding). x.told) ends.rest) ends.leads;
            made = ends.made ∙ ap (λ (c : Counts). c.made) (tallied ends.took ∙ tally_depth (unplaced (took ++ ends.took)));
            counts = λ free_of. ends.counts free_of ∙ tallied ends.took ∙ tally_depth (unplaced (took ++ ends.took));
          }
