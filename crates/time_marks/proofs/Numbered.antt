-- The P0 elements that are numbered are those that a path shows, each with the timestamp of its own packet.
use Rattle.std.proofs.Common.{◌≡◌, ℕ, ◌+◌, true, false, List, [], ◌∷◌, ◌++◌, length, map, take, drop, Option, Some, None, Result, Ok, Err, refl, sym, ap}
use Rattle.std.proofs.Common.{subst, ◌∙◌, inl, inr, arith, append-nil}
use Rattle.std.proofs.Math.Seq.{take-add}
use Rattle.std.specs.Prelude.{slice_get}
use Rattle.std.proofs.lemmas.List.{map-append, take-append-drop}
use Rattle.element_queue.proofs.Joined.{one_by_one}
use Rattle.element_queue.specs.Counting.{entries}
use Rattle.element_queue.specs.Resolved.{Resolved, resolve_all, then_resolve, unresolved}
use Rattle.etm_types.specs.Settings.{Sizes}
use Rattle.etm_types.specs.declared.element.Elem.{Elem}
use Rattle.etm_types.specs.declared.element.P0.{P0}
use Rattle.etm_types.specs.declared.item.Item.{Item}
use Rattle.etm_types.specs.declared.queue_fault.QueueFault.{QueueFault}
use Rattle.packet_grammar.proofs.Streams.{one_stream}
use Rattle.packet_grammar.specs.Ends.{end_of}
use Rattle.packet_grammar.specs.Parsed.{Ending, IsStream}
use Rattle.packet_grammar.specs.declared.end.End.{End}
use Rattle.packet_grammar.specs.declared.end.End.TheVariants as end
use Rattle.packet_grammar.specs.declared.packet.Packet.{Packet}
use Rattle.packet_grammar.specs.declared.stream_fault.Fault.{Fault}
use Rattle.packet_grammar.specs.declared.stream_fault.Fault.TheVariants as stream
use Rattle.path_elements.specs.Path.{Faults, IsPathOfElements, StopsBehind, WalksAll, unplaced}
use Rattle.path_elements.specs.Path as path
use Rattle.program_image.specs.declared.image.Image.{Image}
use Rattle.stream_decoder.proofs.Waits.{next_at}
use Rattle.stream_decoder.specs.Stands.{shows_walk_fault}
use Rattle.time_marks.proofs.Addressed.{told_so}
use Rattle.time_marks.proofs.Own.{carry_count, carry_numbers, marks_are_own, rise_first}
use Rattle.time_marks.proofs.Stamped.{AreAt, all_good, at_size, await_fault, gained, one_bad, own_marks, stamp_at, stamps}
use Rattle.time_marks.specs.MarkLaws.{CarryOwn, HaveOwnStamps, Rise, p0s_in}
use Rattle.time_marks.specs.Stamps.{Stamp}
use Rattle.time_marks.specs.TimeLaws.{Numbers, TimesNumberPaths}
use Rattle.time_marks.specs.Times.{Times, end_behind, times_of}

-- ---- the marks of what is committed

stamps_at : (all : List Stamp) (numbers : List ℕ) → map (stamp_at all) (map Some numbers) ≡ map (slice_get all) numbers
stamps_at all [] = refl
stamps_at all (n ∷ numbers) = ap (λ (l : List (Option Stamp)). slice_get all n ∷ l) (stamps_at all numbers)

module _ (depth : ℕ) (packets : List (ℕ × Packet)) (front : List (ℕ × Elem)) (r : Resolved) (ok : resolve_all depth unresolved (unplaced front) ≡ Ok r)
    (marks : List Stamp) (at : AreAt (stamps depth packets) (own_marks depth packets front) marks) where
  abbrev p0s : List P0
  p0s = p0s_in (unplaced front)

  as_many : length marks ≡ entries r.done
  as_many =
      let is = marks_are_own depth (unplaced front) r ok in
      at_size (stamps depth packets) (own_marks depth packets front) marks at ∙ carry_count p0s r.done (own_marks depth packets front) is.done

  own_stamps : HaveOwnStamps depth (unplaced front) (stamps depth packets) r.done marks
  own_stamps =
      let is = marks_are_own depth (unplaced front) r ok in let all = own_marks depth packets front in
      let so = carry_numbers p0s r.done all is.done in let told = told_so depth (unplaced front) r ok in
      record {
        numbers = so.0;
        commits = (told.0, told.1, told.2 ∙ so.1);
        own = subst (CarryOwn p0s r.done) so.1 is.done;
        rise = subst (λ (ms : List Stamp). Rise 0 ms (length p0s)) so.1 (rise_first 0 (length p0s) all _ is.rise);
        stamped = at ∙ ap (map (stamp_at (stamps depth packets))) so.1 ∙ stamps_at (stamps depth packets) so.0;
      }

-- ---- where a path ends

module _ (image : Image) (s : Sizes) (bytes : List ℕ) (packets : List (ℕ × Packet)) (ending : Ending) (parsed : IsStream s bytes packets ending)
    (items : List Item) (last : End) (took : List (ℕ × Elem)) where
  abbrev depth : ℕ
  depth = s.depth

  abbrev elements : List (ℕ × Elem)
  elements = (gained depth packets).elements

  abbrev t : Times
  t = times_of depth packets

  abbrev Ends : Type 0
  Ends = (last ≡ end_behind t.fault (end_of ending)) × Numbers image s bytes items took t

  whole : WalksAll image depth elements items → last ≡ path.end_behind (gained depth packets).awaited ending → took ≡ elements → Ends
  whole walks ends all =
      let good = all_good depth packets walks.resolved walks.commits in (
        ends ∙ alike (gained depth packets).awaited ∙ ap (λ (f : Option (ℕ × Fault)). end_behind f (end_of ending)) (sym good.1),
        record {
          front = elements;
          rest = [];
          parts = all ∙ sym (append-nil elements);
          few = omega arith;
          walks = walks;
          each = as_many depth packets elements walks.resolved walks.commits t.done good.0;
          packets = packets;
          ending = ending;
          stream = parsed;
          own = own_stamps depth packets elements walks.resolved walks.commits t.done good.0;
        },
      )
    where
      alike : (awaited : Option ℕ) → path.end_behind awaited ending ≡ end_behind (await_fault awaited) (end_of ending)
      alike None = refl
      alike (Some at) = refl

  module _ (f : Faults image depth elements items last took) where
    abbrev front : List (ℕ × Elem)
    front = take f.count elements

    abbrev one : ℕ × Elem
    one = (f.at, f.element)

    front_and_one : took ≡ front ++ one ∷ []
    front_and_one =
        f.takes ∙ take-add f.count 1 elements ∙ ap (λ (xs : List (ℕ × Elem)). front ++ take 1 xs) (next_at elements f.count one f.there)

    parts : elements ≡ front ++ one ∷ drop (f.count + 1) elements
    parts = sym (take-append-drop f.count elements) ∙ ap (λ (xs : List (ℕ × Elem)). front ++ xs) (next_at elements f.count one f.there)

    stopped : (g : QueueFault) → resolve_all depth unresolved (unplaced took) ≡ Err g → items ≡ f.before → last ≡ end.Fault f.at (stream.Queue g) → Ends
    stopped g bad shown ends =
        let walks = f.none_before in
        let joined : unplaced took ≡ unplaced front ++ f.element ∷ [] = ap unplaced front_and_one ∙ map-append (λ (e : ℕ × Elem). e.1) front (one ∷ []) in
        let behind : resolve_all depth walks.resolved (f.element ∷ []) ≡ Err g =
        sym (ap (λ (r : Result Resolved QueueFault). then_resolve r (λ next. resolve_all depth next (f.element ∷ []))) walks.commits)
        ∙ sym (one_by_one depth unresolved (unplaced front) (f.element ∷ [])) ∙ ap (resolve_all depth unresolved) (sym joined) ∙ bad in
        let so = one_bad depth packets front one (drop (f.count + 1) elements) walks.resolved g parts walks.commits behind in
        subst (λ (xs : List Item). (last ≡ end_behind t.fault (end_of ending)) × Numbers image s bytes xs took t) (sym shown) (
          ends ∙ ap (λ (m : Option (ℕ × Fault)). end_behind m (end_of ending)) (sym so.1),
          record {
            front = front;
            rest = one ∷ [];
            parts = front_and_one;
            few = omega arith;
            walks = walks;
            each = as_many depth packets front walks.resolved walks.commits t.done so.0;
            packets = packets;
            ending = ending;
            stream = parsed;
            own = own_stamps depth packets front walks.resolved walks.commits t.done so.0;
          },
        )

    not_walk : (at : ℕ) (g : _) → last ≡ end.Fault at (stream.Walk g) → shows_walk_fault last ≡ false → ⊥
    not_walk at g ends free = let e : true ≡ false = sym (ap shows_walk_fault ends) ∙ free in absurd cc

    by : (g : Fault) → f.fault ≡ g → StopsBehind image depth took f.before items g → shows_walk_fault last ≡ false → Ends
    by (stream.Queue g) is stops free = stopped g stops.0 stops.1 (f.ends ∙ ap (end.Fault f.at) is)
    by (stream.Walk g) is stops free = absurd (not_walk f.at g (f.ends ∙ ap (end.Fault f.at) is) free)
    by (stream.Packet g) is stops free = absurd stops
    by stream.AddressAwaited is stops free = absurd stops

  pub numbers : IsPathOfElements image depth elements (path.end_behind (gained depth packets).awaited ending) items last took
      → shows_walk_fault last ≡ false → Ends
  numbers (inl (walks, ends, all)) free = whole walks ends all
  numbers (inr f) free = by f f.fault refl f.stops free

pub times_number_paths : TimesNumberPaths
times_number_paths image s are bytes items last other took t (packets, ending, so, is) free (packets', ending', so', t_is, ends) =
    let same = one_stream s are bytes packets packets' ending ending' so so' in
    let here = numbers image s bytes packets ending so items last took is free in
    let alike : times_of s.depth packets ≡ t = ap (times_of s.depth) same.0 ∙ sym t_is in (
      here.0 ∙ ap (λ (x : Times). end_behind x.fault (end_of ending)) alike ∙ ap (λ (n : Ending). end_behind t.fault (end_of n)) same.1 ∙ sym ends,
      subst (Numbers image s bytes items took) alike here.1,
    )
