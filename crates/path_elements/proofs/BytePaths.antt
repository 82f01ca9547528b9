-- The bytes of a stream have one path, which grows with them.
use Rattle.std.proofs.Common.{◌≡◌, ℕ, ◌<◌, List, [], ◌∷◌, ◌++◌, Option, Some, None, Ok, Err, refl, sym, ap, subst, ◌∙◌, inl, inr, append-nil}
use Rattle.std.specs.Prelude.{All}
use Rattle.element_queue.specs.Pending.{Pending}
use Rattle.element_queue.specs.Resolved.{at_first}
use Rattle.etm_types.specs.Settings.{Sizes, AreSettings}
use Rattle.etm_types.specs.declared.element.Elem.{Elem}
use Rattle.etm_types.specs.declared.item.Item.{Item}
use Rattle.packet_grammar.specs.Ends.{end_of}
use Rattle.packet_grammar.specs.Parsed.{Ending, no_sync, clean, cut, fault, IsStream}
use Rattle.packet_grammar.specs.declared.end.End.{End}
use Rattle.packet_grammar.specs.declared.end.End.TheVariants as end
use Rattle.packet_grammar.specs.declared.packet.Packet.{Packet}
use Rattle.packet_grammar.specs.declared.stream_fault.Fault.{Fault}
use Rattle.packet_grammar.proofs.Longer.{begins_alike, fault_ends_both}
use Rattle.packet_grammar.proofs.Streams.{each_is_a_stream, one_stream}
use Rattle.path_elements.specs.Elements.{Gained, all_elements, untold}
use Rattle.path_elements.specs.Path.{end_behind, IsPathOfElements, IsPathOfPackets, IsPathTaking}
use Rattle.path_elements.specs.PathLaws.{BeginsWith, FaultIsLast, FaultStays, OnePath, PathGrows, SomePath}
use Rattle.path_elements.specs.Running.{Outcome, Runs}
use Rattle.path_elements.proofs.Grows.{none_behind}
use Rattle.path_elements.proofs.InRange.{stream_in_range}
use Rattle.path_elements.proofs.Joined.{elements_begin}
use Rattle.path_elements.proofs.OnePath.{one_path_of_elements, path_to_runs}
use Rattle.path_elements.proofs.Paths.{last_of, runs_to_path, some_path_of_elements}
use Rattle.path_elements.proofs.Runs.{runs_more, runs_one, runs_rest}
use Rattle.path_walker.specs.State.{State, first_state}
use Rattle.program_image.specs.Blocks.{HasGap}
use Rattle.program_image.specs.Part.{IsImage}
use Rattle.program_image.specs.declared.image.Image.{Image}
use Rattle.program_image.proofs.Gaps.{gap_of}

-- an address of a word at which none begins, as each image has one
pub gap_in : (image : Image) → IsImage image → HasGap image
gap_in image is = let gap = gap_of image is in record { address = gap.0; within = (gap.1).0; aligned = (gap.1).1; none = (gap.1).2 }

-- ---- one path

pub one_path : OnePath
one_path image s are bytes items others last other took also (packets, ending, stream, path) (packets', ending', stream', path') =
    let same = one_stream s are bytes packets packets' ending ending' stream stream' in
    let here = subst (λ (p : List (ℕ × Packet)). IsPathOfPackets image s.depth p ending' items last took) same.0
    (subst (λ (e : Ending). IsPathOfPackets image s.depth packets e items last took) same.1 path) in
    let gained = all_elements untold packets' in
    one_path_of_elements image s.depth gained.elements (end_behind gained.awaited ending') items others last other took also here path'

pub some_path : SomePath
some_path image s is are bytes small =
    let stream = each_is_a_stream s are bytes small in
    let gained = all_elements untold stream.packets in
    let path = some_path_of_elements image s.depth gained.elements (end_behind gained.awaited stream.ending) (gap_in image is)
    (stream_in_range s bytes stream.packets stream.ending small stream.is) in
    (path.0, path.1, path.2, (stream.packets, stream.ending, stream.is, path.3))

-- ---- more elements

module _ (image : Image) (depth : ℕ) where
  runs_grow : (es later : List (ℕ × Elem)) (items others : List Item) (a b : Outcome) (took also : List (ℕ × Elem))
      → Runs image depth at_first first_state es items a took → Runs image depth at_first first_state (es ++ later) others b also
      → BeginsWith items others × BeginsWith took also
  runs_grow es later items others (Ok n) b took also r s =
      let rest = runs_rest image depth at_first first_state es later items others n b took also r s in ((rest.0, rest.3), (rest.1, rest.4))
  runs_grow es later items others (Err stop) b took also r s =
      let more = runs_more image depth at_first first_state es later items stop took r in
      let same = runs_one image depth at_first first_state (es ++ later) others items b (Err stop) also took s more in
      (([], same.items ∙ sym (append-nil items)), ([], same.took ∙ sym (append-nil took)))

-- ---- the front of a run

module _ (image : Image) (depth : ℕ) where
  -- the first elements of a run have one
  runs_front : (p : Pending) (w : State) (es later : List (ℕ × Elem)) (items : List Item) (outcome : Outcome) (took : List (ℕ × Elem))
      → Runs image depth p w (es ++ later) items outcome took
      → (first : List Item) × (front : Outcome) × (also : List (ℕ × Elem)) × Runs image depth p w es first front also
  runs_front p w [] later items outcome took r = ([], Ok (p, w), [], (refl, refl, refl))
  runs_front p w (e ∷ es) later items outcome took (inl r) = (items, outcome, took, inl r)
  runs_front p w (e ∷ es) later items outcome took (inr r) =
      let f = runs_front (r.2).0 (r.2).1 es later r.1 outcome r.3 r.5 in
      (r.0 ++ f.0, f.1, e ∷ f.2, inr (r.0, f.0, r.2, f.2, r.4, f.3, refl, refl))

-- ---- more bytes

-- the elements of the packets of a longer stream are those of its front, and then some
module _ (image : Image) (s : Sizes) (are : AreSettings s) (bytes more : List ℕ) (packets others : List (ℕ × Packet)) (ending other : Ending)
    (stream : IsStream s bytes packets ending) (longer : IsStream s (bytes ++ more) others other) where
  elements_more : BeginsWith (all_elements untold packets).elements (all_elements untold others).elements
  elements_more =
      let alike = begins_alike s are bytes more packets others ending other stream longer in
      subst (λ p. BeginsWith (all_elements untold packets).elements (all_elements untold p).elements) (sym alike.1)
      (elements_begin untold packets alike.0)

  path_more : (items items' : List Item) (last last' : End) (took also : List (ℕ × Elem))
      → IsPathOfPackets image s.depth packets ending items last took → IsPathOfPackets image s.depth others other items' last' also
      → BeginsWith items items' × BeginsWith took also
  path_more items items' last last' took also path path' =
      let gained = all_elements untold packets in
      let gained' = all_elements untold others in
      let a = path_to_runs image s.depth gained.elements (end_behind gained.awaited ending) items last took path in
      let b = path_to_runs image s.depth gained'.elements (end_behind gained'.awaited other) items' last' also path' in
      runs_grow image s.depth gained.elements elements_more.0 items items' a.0 b.0 took also a.1
      (subst (λ es. Runs image s.depth at_first first_state es items' b.0 also) elements_more.1 b.1)

  -- the longer one has the same path
  module _ (items : List Item) (at : ℕ) (f : Fault) (took : List (ℕ × Elem))
      (path : IsPathOfPackets image s.depth packets ending items (end.Fault at f) took) where
    abbrev EndsSo : Type 0
    EndsSo = IsPathOfPackets image s.depth others other items (end.Fault at f) took

    -- where an element has a fault
    ends_by_element : (stop : ℕ × Fault) → Runs image s.depth at_first first_state (all_elements untold packets).elements items (Err stop) took
        → end.Fault at f ≡ end.Fault stop.0 stop.1 → EndsSo
    ends_by_element stop run e =
        let es = (all_elements untold packets).elements in
        let all = runs_more image s.depth at_first first_state es elements_more.0 items stop took run in
        let whole = subst (λ l. Runs image s.depth at_first first_state l items (Err stop) took) (sym elements_more.1) all in
        let gained = all_elements untold others in
        let same = runs_to_path image s.depth gained.elements (end_behind gained.awaited other) items (Err stop) took whole in
        subst (λ l. IsPathOfPackets image s.depth others other items l took) (sym e) same

    -- where a packet may not come
    ends_by_place : (k : ℕ) → (all_elements untold packets).awaited ≡ Some k → EndsSo
    ends_by_place k e =
        let alike = begins_alike s are bytes more packets others ending other stream longer in
        let gained : all_elements untold others ≡ all_elements untold packets = ap (all_elements untold) alike.1 ∙ none_behind untold packets alike.0 k e in
        let here : end_behind (all_elements untold packets).awaited ending ≡ end_behind (all_elements untold packets).awaited other
        = ap (λ a. end_behind a ending) e ∙ sym (ap (λ a. end_behind a other) e) in
        let es = (all_elements untold packets).elements in
        let same = subst (λ l. IsPathOfElements image s.depth es l items (end.Fault at f) took) here path in
        subst (λ (g : Gained). IsPathOfElements image s.depth g.elements (end_behind g.awaited other) items (end.Fault at f) took) (sym gained) same

    -- where the bytes have one
    ends_by_bytes : (e : Ending) → ending ≡ e → end.Fault at f ≡ end_of e → EndsSo
    ends_by_bytes no_sync is e = absurd cc
    ends_by_bytes clean is e = absurd cc
    ends_by_bytes (cut n) is e = absurd cc
    ends_by_bytes (fault place g) is e =
        let same = fault_ends_both s are bytes more packets others place g other (subst (IsStream s bytes packets) is stream) longer in
        subst (λ p. IsPathOfPackets image s.depth p other items (end.Fault at f) took) (sym same.0)
        (subst (λ l. IsPathOfPackets image s.depth packets l items (end.Fault at f) took) (is ∙ sym same.1) path)

    ends_by : (awaited : Option ℕ) (outcome : Outcome) → (all_elements untold packets).awaited ≡ awaited
        → Runs image s.depth at_first first_state (all_elements untold packets).elements items outcome took
        → end.Fault at f ≡ last_of (end_behind awaited ending) outcome → EndsSo
    ends_by awaited (Err stop) is run e = ends_by_element stop run e
    ends_by (Some k) (Ok n) is run e = ends_by_place k is
    ends_by None (Ok n) is run e = ends_by_bytes ending refl e

    ends_so : EndsSo
    ends_so =
        let gained = all_elements untold packets in
        let run = path_to_runs image s.depth gained.elements (end_behind gained.awaited ending) items (end.Fault at f) took path in
        ends_by gained.awaited run.0 refl run.1 run.2

pub path_grows : PathGrows
path_grows image s are bytes more items others last other took also (packets, ending, stream, path) (packets', ending', stream', path') =
    path_more image s are bytes more packets packets' ending ending' stream stream' items others last other took also path path'

pub fault_is_last : FaultIsLast
fault_is_last image s are bytes more items others at f other took also (packets, ending, stream, path) (packets', ending', stream', path') =
    let same = ends_so image s are bytes more packets packets' ending ending' stream stream' items at f took path in
    one_path image s are (bytes ++ more) others items other (end.Fault at f) also took (packets', ending', stream', path') (packets', ending', stream', same)

pub fault_stays : FaultStays
fault_stays image s are bytes more items at f took small (packets, ending, stream, path) =
    let longer = each_is_a_stream s are (bytes ++ more) small in (
      longer.packets,
      longer.ending,
      longer.is,
      ends_so image s are bytes more packets longer.packets ending longer.ending stream longer.is items at f took path,
    )

-- the front of bytes that have a path has one
pub front_path : (image : Image) (s : Sizes) → AreSettings s → (bytes more : List ℕ) (items : List Item) (last : End) (took : List (ℕ × Elem))
    → All (λ b. b < 256) bytes → IsPathTaking image s (bytes ++ more) items last took
    → (first : List Item) × (end : End) × (also : List (ℕ × Elem)) × IsPathTaking image s bytes first end also
front_path image s are bytes more items last took small (packets', ending', stream', path') =
    let here = each_is_a_stream s are bytes small in
    let gained = all_elements untold here.packets in
    let gained' = all_elements untold packets' in
    let run = path_to_runs image s.depth gained'.elements (end_behind gained'.awaited ending') items last took path' in
    let longer = elements_more image s are bytes more here.packets packets' here.ending ending' here.is stream' in
    let front = runs_front image s.depth at_first first_state gained.elements longer.0 items run.0 took
    (subst (λ es. Runs image s.depth at_first first_state es items run.0 took) longer.1 run.1) in
    let ending = end_behind gained.awaited here.ending in
    let path = runs_to_path image s.depth gained.elements ending front.0 front.1 front.2 front.3 in
    (front.0, last_of ending front.1, front.2, (here.packets, here.ending, here.is, path))
