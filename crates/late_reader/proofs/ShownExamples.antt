-- What the definitions of a late reader's part ask for, one by one: worlds in which one of them alone is not so, and what follows of each.
use Rattle.std.proofs.Common.{◌≡◌, ℕ, suc, ◌+◌, true, false, List, [], ◌∷◌, ◌++◌, length, map, replicate, take, Option, Some, None, Result, Ok, Err}
use Rattle.std.proofs.Common.{refl, sym, ap, subst, ◌∙◌, inl, inr, arith, length-append}
use Rattle.std.proofs.lemmas.List.{length-map, length-replicate}
use Rattle.element_queue.specs.Resolved.{Resolved, resolve, resolve_all, then_resolve, unresolved}
use Rattle.etm_types.specs.Pre.{nothing_told, trace_missing}
use Rattle.etm_types.specs.Settings.{AreSettings, Sizes}
use Rattle.etm_types.specs.declared.context.Ctx.{Ctx}
use Rattle.etm_types.specs.declared.element.Elem.TheVariants as elem
use Rattle.etm_types.specs.declared.element.Elem.{Elem}
use Rattle.etm_types.specs.declared.element.Pre.{Pre}
use Rattle.etm_types.specs.declared.element.Thing.TheVariants.{Gap, Stop, Unseen}
use Rattle.etm_types.specs.declared.element.Thing.{Thing}
use Rattle.etm_types.specs.declared.queue_fault.QueueFault.{QueueFault}
use Rattle.etm_types.specs.declared.item.Item.TheVariants as item
use Rattle.etm_types.specs.declared.item.Item.{Item}
use Rattle.etm_types.specs.declared.walked.Walked.{Walked}
use Rattle.packet_grammar.proofs.Streams.{one_stream}
use Rattle.packet_grammar.specs.Parsed.{IsStream, clean}
use Rattle.packet_grammar.specs.declared.packet.Packet.{Packet}
use Rattle.path_elements.specs.Elements.{all_elements, untold}
use Rattle.path_elements.specs.Path.{unplaced}
use Rattle.path_walker.specs.State.{State, first_state}
use Rattle.path_walker.specs.Things.{Walks}
use Rattle.path_walker.specs.declared.pc.Pc.TheVariants.{Awaited, Known}
use Rattle.program_image.specs.declared.image.Image.{Image}
use Rattle.spec_run.specs.Runs.{Execution}
use Rattle.spec_run.specs.declared.event.Event.{Event}
use Rattle.trace_unit.specs.Written.{settled}
use Rattle.late_reader.specs.LastBytes.{LastBytesShow}
use Rattle.late_reader.specs.Marks.{Mark, mark, marked, marks_at, marks_behind, old}
use Rattle.late_reader.specs.Part.{AreCertain, ShowsPart, entering}
use Rattle.late_reader.specs.Rows.{AreAlike, BehindEntry, BehindGap, NoneSeen, Whereabouts, PreAt, Row, ThingAt, late_of, mark_of, whole_of}
use Rattle.late_reader.specs.Walked.{GapWalks, BothWalks, ThingWalks, UnseenWalks, WalkAlike}

abbrev user : Ctx
user = record { el = 0; ns = false; vmid = 0; cid = 0 }

abbrev kernel : Ctx
kernel = record { el = 1; ns = false; vmid = 0; cid = 0 }

-- ---- which items are certain: all but an unknown stretch, wherever it stands

pub certain : AreCertain (item.On ∷ item.Instr 0x1000 user true ∷ item.Exc 3 0x1004 ∷ item.Gap ∷ item.Stop ∷ [])
certain = (tt, (tt, (tt, (tt, (tt, tt)))))

pub unknown_at_first : AreCertain (item.Unknown ∷ item.Gap ∷ []) → ⊥
unknown_at_first all = all.0

pub unknown_at_last : AreCertain (item.Gap ∷ item.Unknown ∷ []) → ⊥
unknown_at_last all = all.1.0

-- ---- things: a gap and a stop stand for themselves, and were made behind the trace info, without an On

abbrev row : Thing → Mark → Thing → Row
row whole m late = record { whole = whole; mark = m; late = late }

pub both_marks : AreAlike NoneSeen (row Gap (mark true false) Gap ∷ row Stop (mark true false) Stop ∷ [])
both_marks = ((refl, refl), ((refl, refl), tt))

pub old_gap : AreAlike NoneSeen (row Gap old Gap ∷ []) → ⊥
old_gap a = let e = ap (λ (m : Mark). m.made) a.0.1 in absurd cc

pub old_stop : AreAlike NoneSeen (row Stop old Stop ∷ []) → ⊥
old_stop a = let e = ap (λ (m : Mark). m.made) a.0.1 in absurd cc

pub gap_with_on : AreAlike NoneSeen (row Gap (mark true true) Gap ∷ []) → ⊥
gap_with_on a = let e = ap (λ (m : Mark). m.on) a.0.1 in absurd cc

pub stop_with_on : AreAlike NoneSeen (row Stop (mark true true) Stop ∷ []) → ⊥
stop_with_on a = let e = ap (λ (m : Mark). m.on) a.0.1 in absurd cc

pub stop_for_gap : AreAlike NoneSeen (row Stop (mark true false) Gap ∷ []) → ⊥
stop_for_gap a = let e = a.0.0 in absurd cc

-- ---- a context that was told to the late reader alone, and another one

abbrev in_kernel : Pre
in_kernel = record trace_missing { ctx = Some kernel }

abbrev level_of : Option Ctx → ℕ
level_of None = 9
level_of (Some ctx) = ctx.el

pub context_of_the_whole : PreAt NoneSeen false (record nothing_told { ctx = Some kernel }) in_kernel
context_of_the_whole = record { lost = refl; addr = tt; ctx = refl; on = refl }

pub context_told_to_it_alone : PreAt NoneSeen false nothing_told in_kernel → ⊥
context_told_to_it_alone u = absurd (omega (arith, ap level_of u.ctx))

pub other_context_told : PreAt NoneSeen false (record nothing_told { ctx = Some user }) in_kernel → ⊥
other_context_told u = absurd (omega (arith, ap level_of u.ctx))

-- behind a gap and behind an entry an On is the late reader's own
abbrev missing_on : Pre
missing_on = record trace_missing { on = true }

pub own_on : PreAt BehindGap true missing_on missing_on × PreAt BehindEntry true missing_on missing_on
own_on = ((refl, refl, refl), (refl, refl))

pub not_its_own_behind_a_gap : PreAt BehindGap false missing_on missing_on → ⊥
not_its_own_behind_a_gap p = let e = p.1 in absurd cc

pub not_its_own_behind_an_entry : PreAt BehindEntry false missing_on missing_on → ⊥
not_its_own_behind_an_entry p = let e = p.1 in absurd cc

-- ---- where both stand behind a thing that shows nothing, or a mark alone: an unseen thing changes the whole's state and no more

abbrev awaiting : State
awaiting = record { pc = Awaited true; stack = 0x3004 ∷ []; ctx = kernel }

abbrev there : State
there = record { pc = Known 0x1004; stack = 0x2000 ∷ []; ctx = kernel }

abbrev known : Walked
known = record { on = false; unknown = false; ctx = kernel; start = 0x1000; count = 1; took = false; exc = None }

abbrev not_told : Whereabouts → Option Walked → BothWalks
not_told place last = record { place = place; told = false; last = last; whole = awaiting; late = there }

pub unseen_shows_nothing : (image : Image) → UnseenWalks image (not_told BehindEntry (Some known)) (not_told BehindEntry (Some known)) Unseen [] []
unseen_shows_nothing image = record { gives = (refl, refl); none = refl; stays = refl }

pub it_keeps_its_state : (image : Image) → UnseenWalks image (not_told NoneSeen None) (record (not_told NoneSeen None) { whole = there }) Unseen [] [] → ⊥
it_keeps_its_state image w = let e = ap (λ (s : State). s.pc) (w.gives).1 in absurd cc

pub gap_is_stood_behind : GapWalks (not_told BehindEntry (Some known)) (not_told BehindGap None) item.Gap (item.Gap ∷ []) (item.Gap ∷ [])
gap_is_stood_behind = record { items_are = refl; others_are = refl; stays = refl }

-- ---- a part of the path: the items are those before the trace info, and those behind it

pub items_are_parted : (image : Image) (depth announced : ℕ) (at whole : Resolved) (elements : List Elem) (items : List Item)
    → (part : ShowsPart image depth announced at elements whole items) → length items ≡ length part.before + length part.behind
items_are_parted image depth announced at whole elements items part = omega (arith, ap length part.parts, length-append part.before part.behind)

-- as many marks are told as things were done at the trace info and stand in rows
pub marks_of_all : (image : Image) (depth announced : ℕ) (at whole : Resolved) (elements : List Elem) (items : List Item)
    → (part : ShowsPart image depth announced at elements whole items)
    → length (take (length whole.done) (marks_behind depth at (marks_at at) elements).all) ≡ length at.done + length part.rows
marks_of_all image depth announced at whole elements items part =
    omega (
      arith,
      ap length part.marks,
      length-append (replicate (length at.done) old) (map mark_of part.rows),
      length-replicate (length at.done) old,
      length-map part.rows mark_of,
    )

-- a cancel of more than there is gives no On back
pub nothing_to_give_back :
    marked (record { done = []; pending = record { held = []; pre = nothing_told; informed = true } }) (record { all = []; on = true }) (elem.Cancel 1)
    ≡ record { all = []; on = false }
nothing_to_give_back = refl

-- ---- a late reader of an overflow alone, where nothing was done or held: it shows the gap, as the whole does

abbrev nothing_yet : Resolved
nothing_yet = record { done = []; pending = record { held = []; pre = trace_missing; informed = true } }

abbrev lost_once : Resolved
lost_once = record { done = Gap ∷ []; pending = record { held = []; pre = trace_missing; informed = true } }

-- there is such a part: the row of the gap, which both walk and both show
pub a_gap_alone : (image : Image) → ShowsPart image 4 0 nothing_yet (elem.Overflow ∷ []) lost_once (item.Gap ∷ [])
a_gap_alone image = record {
  late = lost_once;
  resolves = refl;
  rows = row Gap (mark true false) Gap ∷ [];
  done = refl;
  shown = refl;
  marks = refl;
  alike = ((refl, refl), tt);
  before = [];
  behind = item.Gap ∷ [];
  parts = refl;
  state = first_state;
  walks_before = (refl, refl);
  late_items = item.Gap ∷ [];
  after = first_state;
  walks = inl (item.Gap ∷ [], [], first_state, (refl, refl), (refl, refl), refl);
  walk_alike = (
    record { place = BehindGap; told = false; last = None; whole = first_state; late = first_state },
    item.Gap ∷ [],
    [],
    item.Gap ∷ [],
    [],
    record { items_are = refl; others_are = refl; stays = refl },
    (refl, refl),
    refl,
    refl,
  );
}

-- and whatever shows it, shows no more
abbrev done_of : Result Resolved QueueFault → List Thing
done_of (Ok r) = r.done
done_of (Err fault) = []

abbrev first_or : Thing → List Thing → Thing
first_or x [] = x
first_or x (y ∷ ys) = y

module _ (image : Image) (items : List Item) (part : ShowsPart image 4 0 nothing_yet (elem.Overflow ∷ []) lost_once items) where
  -- the reader by itself has the gap, and nothing else
  pub late_gap : part.late.done ≡ Gap ∷ []
  late_gap = sym (ap done_of part.resolves)

  -- so there is one row, whose thing of the whole is the gap
  pub one_row : map whole_of part.rows ≡ Gap ∷ []
  one_row = sym part.done

  pub its_late_thing : map late_of part.rows ≡ Gap ∷ []
  its_late_thing = sym part.shown ∙ late_gap

  -- which the trace info's elements made, without an On: so say the marks, and so do the rows by themselves
  pub its_mark : map mark_of part.rows ≡ mark true false ∷ []
  its_mark = sym part.marks

  mark_by_row : (rows : List Row) → AreAlike NoneSeen rows → map late_of rows ≡ Gap ∷ [] → map mark_of rows ≡ mark true false ∷ []
  mark_by_row [] alike late = absurd cc
  mark_by_row (r ∷ []) alike late =
      let gap : r.late ≡ Gap = ap (first_or Stop) late in
      let there : ThingAt NoneSeen r.mark r.whole Gap = subst (ThingAt NoneSeen r.mark r.whole) gap alike.0 in
      ap (λ (m : Mark). m ∷ []) there.1
  mark_by_row (r ∷ q ∷ rows) alike late = absurd cc

  pub the_same_mark : map mark_of part.rows ≡ mark true false ∷ []
  the_same_mark = mark_by_row part.rows part.alike its_late_thing

  -- nothing is shown before the trace info
  shown_before : (before : List Item) (state : State) → Walks image first_state [] before (Ok state) → (before ≡ []) × (state ≡ first_state)
  shown_before before state (none, same) = (none, let e : state ≡ first_state = cc in e)

  -- and behind it the gap, to both
  gaps_shown : (at : BothWalks) (rows : List Row) (behind late : List Item) → map late_of rows ≡ Gap ∷ [] → WalkAlike image at rows behind late
      → (behind ≡ item.Gap ∷ []) × (late ≡ item.Gap ∷ [])
  gaps_shown at [] behind late gap walks = absurd cc
  gaps_shown at (r ∷ []) behind late gap (next, first, rest, one, more, walks, ends, parts, others) =
      let is : r.late ≡ Gap = ap (first_or Stop) gap in
      let there : ThingWalks image at next r.whole r.mark Gap first one = subst (λ (t : Thing). ThingWalks image at next r.whole r.mark t first one) is walks in (
        parts ∙ ap (λ (i : List Item). i ++ rest) there.items_are ∙ ap (λ (i : List Item). item.Gap ∷ i) ends.0,
        others ∙ ap (λ (i : List Item). i ++ more) there.others_are ∙ ap (λ (i : List Item). item.Gap ∷ i) ends.1,
      )
  gaps_shown at (r ∷ q ∷ rows) behind late gap walks = absurd cc

  pub the_whole_shows_it : items ≡ item.Gap ∷ []
  the_whole_shows_it =
      let before = shown_before part.before part.state part.walks_before in
      part.parts ∙ ap (λ (i : List Item). i ++ part.behind) before.0
      ∙ (gaps_shown (entering part.state) part.rows part.behind part.late_items its_late_thing part.walk_alike).0

  pub the_late_reader_shows_it : part.late_items ≡ item.Gap ∷ []
  the_late_reader_shows_it = (gaps_shown (entering part.state) part.rows part.behind part.late_items its_late_thing part.walk_alike).1

  -- by its own walk too
  walked_gap : (done : List Thing) (late : List Item) (after : State) → done ≡ Gap ∷ [] → Walks image first_state done late (Ok after) → late ≡ item.Gap ∷ []
  walked_gap [] late after gap walks = absurd cc
  walked_gap (x ∷ done) late after gap walks =
      let all : Walks image first_state (Gap ∷ []) late (Ok after) = subst (λ (d : List Thing). Walks image first_state d late (Ok after)) gap walks in
      elim all [
        | inl w ↦ w.5 ∙ ap (λ (i : List Item). i ++ w.1) (w.3).0 ∙ ap (λ (i : List Item). item.Gap ∷ i) (w.4).0
        | inr w ↦ absurd w.1
      ]

  pub by_its_own_walk : part.late_items ≡ item.Gap ∷ []
  by_its_own_walk = walked_gap part.late.done part.late_items part.after late_gap part.walks

-- where it begins: it has seen nothing, was told no context, and walks from no address
pub it_enters : entering there ≡ record { place = NoneSeen; told = false; last = None; whole = there; late = first_state }
it_enters = refl

-- ---- of the last bytes of a trace

module _ (image : Image) (s : Sizes) (most : ℕ) (events : List Event) (x : Execution) (missing offset : ℕ)
    (shown : LastBytesShow image s most events x missing offset) where
  -- the packets are those of the whole trace, and no others
  pub packets_of_the_trace : (others : List (ℕ × Packet)) → AreSettings s → IsStream s (settled image s most events) others clean → shown.packets ≡ others
  packets_of_the_trace others are stream = (one_stream s are (settled image s most events) shown.packets others clean clean shown.stream stream).0

  -- their elements are the early ones, the trace info, and those behind it
  pub info_between : length (unplaced (all_elements untold shown.packets).elements) ≡ length shown.early + suc (length shown.elements)
  info_between = omega (arith, ap length shown.told, length-append shown.early (elem.Info shown.count ∷ shown.elements))

  -- the early ones leave what the trace info finds, and it leaves what those behind it find
  pub found_at_the_info : then_resolve (resolve_all s.depth unresolved shown.early) (λ r. resolve s.depth r (elem.Info shown.count)) ≡ Ok shown.at
  found_at_the_info = ap (λ o. then_resolve o (λ r. resolve s.depth r (elem.Info shown.count))) shown.resolved ∙ shown.informed

  -- they are what the packets in front of the A-sync tell, and all together leave what the whole finds
  pub told_in_front : length (unplaced (all_elements untold shown.enters.front).elements) ≡ length shown.early
  told_in_front = ap length shown.told_before

  pub found_by_the_whole : resolve_all s.depth unresolved (shown.early ++ elem.Info shown.count ∷ shown.elements) ≡ Ok shown.whole
  found_by_the_whole = ap (resolve_all s.depth unresolved) (sym shown.told) ∙ shown.resolves
