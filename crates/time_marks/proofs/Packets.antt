-- A packet, and then its elements.
use Rattle.std.proofs.Common.{◌≡◌, ◌⊎◌, ℕ, Bool, true, false, if◌then◌else◌, List, [], ◌∷◌, Some, None, Result, Ok, Err, refl, sym, ap, subst, ◌∙◌, inl, inr}
use Rattle.std.specs.Prelude.{All, is_some}
use Rattle.std.specs.List.{concat}
use Rattle.std.specs.Option.{unwrap_or}
use Rattle.std.proofs.lemmas.List.Elements.{All-cons, All-nil}
use Rattle.element_queue.specs.Pending.{Taken, taken}
use Rattle.etm_types.specs.declared.element.Elem.{Elem}
use Rattle.etm_types.specs.declared.element.Elem.TheVariants as elem
use Rattle.packet_grammar.specs.Ranges.{IsPacket}
use Rattle.etm_types.specs.Settings.{Sizes}
use Rattle.packet_grammar.specs.declared.packet.Packet.{Packet}
use Rattle.packet_grammar.specs.declared.packet.Packet.TheVariants as packet
use Rattle.packet_grammar.specs.declared.stream_fault.Fault.TheVariants.{AddressAwaited}
use Rattle.path_elements.specs.Elements.{Told, elements_in, elements_of, is_misplaced, tells, told_after, told_by}
use Rattle.path_text.specs.Writing.{Writes}
use Rattle.time_marks.proofs.Going.{Printed, printed_none, prints_fail, prints_then}
use Rattle.time_marks.proofs.Growing.{elements_grow}
use Rattle.time_marks.proofs.Tallies.{told_kept}
use Rattle.time_marks.specs.Marked.{IsInfo}
use Rattle.time_marks.specs.Stamps.{HasStamp, Stamp, stamp_after}
use Rattle.time_marks.specs.Timed.{HasTimes, IsAt, Prints}
use Rattle.time_marks.specs.TimeLines.{time_lines}
use Rattle.time_marks.specs.Times.{Times, after_element, after_elements, after_good, event_lines, opened, taken_so}
use Rattle.time_marks.specs.declared.time_line.TimeLine.{TimeLine}
use Rattle.time_marks.specs.declared.timeline.Timeline.{Timeline}
use Rattle.time_marks.specs.declared.timing.Timing.{Timing}
use Rattle.trace_io.specs.State.{IoState}

-- ---- the first trace info

abbrev First : Told → Bool → List Elem → Told → Type 0
First told counts elements after =
    ((spec : ℕ) × ((if counts then elements else []) ≡ elem.Info spec ∷ []) × ((if counts then after else told).informed ≡ true))
    ⊎ (((if counts then elements else []) ≡ []) × ((if counts then after else told) ≡ told))

none_first : (told : Told) (elements : List Elem) (after : Told) (counts : Bool) → counts ≡ false → First told counts elements after
none_first told elements after false none = inr (refl, refl)
none_first told elements after true none = absurd cc

-- before a trace info, a packet is one or has no element
pub first_packet : (told : Told) (p : Packet) → told.informed ≡ false → First told (tells told p) (elements_in told p) (told_by told p)
first_packet told (packet.Info info key spec cyct) none = inl (unwrap_or spec 0, refl, refl)
first_packet told p none = none_first told (elements_in told p) (told_by told p) told.informed none

pub comes_first : (told : Told) (p : Packet) → told.informed ≡ false → All IsInfo (elements_of told p)
comes_first told p none = elim (first_packet told p none) [
  | inl info ↦ subst (All IsInfo) (sym info.1) (All-cons IsInfo (elem.Info info.0) [] (info.0, refl) (All-nil IsInfo))
  | inr other ↦ subst (All IsInfo) (sym other.0) (All-nil IsInfo)
]

by_informed : (told : Told) (p : Packet) → told.informed ≡ true → (told_by told p).informed ≡ true
by_informed told (packet.Info info key spec cyct) is = refl
by_informed told (packet.Addr form None) is = is
by_informed told (packet.Addr form (Some bits)) is = is
by_informed told p is = is

stays_if : (b : Bool) (told after : Told) → told.informed ≡ true → after.informed ≡ true → (if b then after else told).informed ≡ true
stays_if true told after is also = also
stays_if false told after is also = is

pub stays_told : (told : Told) (p : Packet) → told.informed ≡ true → (told_after told p).informed ≡ true
stays_told told p is = stays_if (tells told p) told (told_by told p) is (by_informed told p is)

-- ---- what is kept over elements

one_stamp : (at : ℕ) (t : Times) (e : Elem) (outcome : Taken) → (taken_so at t e outcome).stamp ≡ t.stamp
one_stamp at t e (Ok x) = refl
one_stamp at t e (Err f) = refl

stamp_if : (b : Bool) (t t' : Times) → t'.stamp ≡ t.stamp → (if b then t else t').stamp ≡ t.stamp
stamp_if true t t' same = refl
stamp_if false t t' same = same

stamp_kept : (depth at : ℕ) (t : Times) (elements : List Elem) → (after_elements depth at t elements).stamp ≡ t.stamp
stamp_kept depth at t [] = refl
stamp_kept depth at t (e ∷ es) =
    let next = after_element depth at t e in
    stamp_if (is_some t.fault) t (after_elements depth at next es) (stamp_kept depth at next es ∙ one_stamp at t e (taken depth t.pending e))

-- ---- one packet

-- a packet that may not come where it does
pub misplaced_so : (depth : ℕ) (t : Times) (at : ℕ) (p : Packet) → is_misplaced t.told p ≡ true
    → after_good depth t (at, p) ≡ record t { fault = Some (at, AddressAwaited) }
misplaced_so depth t at p is =
    ap (λ (b : Bool). if b then record t { fault = Some (at, AddressAwaited) } else after_elements depth at (opened t p) (elements_of t.told p)) is

pub good_so : (depth : ℕ) (t : Times) (at : ℕ) (p : Packet) → is_misplaced t.told p ≡ false
    → after_good depth t (at, p) ≡ after_elements depth at (opened t p) (elements_of t.told p)
good_so depth t at p is =
    ap (λ (b : Bool). if b then record t { fault = Some (at, AddressAwaited) } else after_elements depth at (opened t p) (elements_of t.told p)) is

module _ (x : Timing) (t : Times) (is : HasTimes x t) (none : t.fault ≡ None) (whole : (x.line).fault ≡ None) (depth at id : ℕ) (p : Packet)
    (informed : Bool) (knows : informed ≡ (x.maker).informed) (elems : List Elem) (maker : Told)
    (takes : (is_misplaced x.maker p ≡ false) × (elems ≡ elements_of x.maker p) × (maker ≡ told_after x.maker p)) where
  abbrev begun : Times
  begun = opened t p

  abbrev all : Times
  all = after_elements depth at begun elems

  all_is : after_good depth t (at, p) ≡ all
  all_is =
      good_so depth t at p (ap (λ (g : Told). is_misplaced g p) (sym is.told) ∙ takes.0)
      ∙ ap (after_elements depth at begun) (sym (takes.1 ∙ ap (λ (g : Told). elements_of g p) is.told))

  counts : informed ≡ (t.told).informed
  counts = knows ∙ ap (λ (g : Told). g.informed) is.told

  pub begun_at : IsAt x.line begun
  begun_at = record {
    marks = record { pending = is.marks.pending; held = is.marks.held; counts = is.marks.counts; shown = is.marks.shown };
    fault = whole ∙ sym none;
  }

  pub begun_stamp : begun.stamp ≡ stamp_after informed x.stamp p
  begun_stamp = ap (λ (b : Bool). stamp_after b t.stamp p) (sym counts) ∙ ap (λ (s : Stamp). stamp_after informed s p) (sym is.stamp)

  event : event_lines informed x.stamp p ≡ event_lines (t.told).informed t.stamp p
  event = ap (λ (b : Bool). event_lines b x.stamp p) counts ∙ ap (λ (s : Stamp). event_lines (t.told).informed s p) is.stamp

  -- the line of an event is written first
  module _ {T E : Type 0} (a b : IoState) where
    pub event_prints : (r : Result T E) → Writes a b r (concat (time_lines id (event_lines informed x.stamp p))) → Prints id t begun a b r
    event_prints r writes =
        record {
          more = event_lines (t.told).informed t.stamp p;
          grows = refl;
          writes = subst (λ (l : List TimeLine). Writes a b r (concat (time_lines id l))) event writes;
        }

  -- where that fails, nothing more comes
  pub event_fails : {T U E : Type 0} (a b : IoState) (e d : E) → Prints {T = T} id t begun a b (Err e)
      → Prints {T = U} id t (after_good depth t (at, p)) a b (Err d)
  event_fails {T} {U} {E} a b e d prints =
      let grows = elements_grow depth at begun elems in
      subst (λ (u : Times). Prints {T = U} {E = E} id t u a b (Err d)) (sym all_is)
      (prints_fail id t t begun a a b e d all grows.0 (printed_none id t a) prints grows.1)

  pub all_prints : {T E : Type 0} (a b c : IoState) (r : Result T E) → Printed id t begun a b → Prints id begun all b c r
      → Prints id t (after_good depth t (at, p)) a c r
  all_prints a b c r first prints = subst (λ (u : Times). Prints id t u a c r) (sym all_is) (prints_then id t begun all a b c r first prints)

  pub all_times : (line : Timeline) (stamp : Stamp) → stamp ≡ stamp_after informed x.stamp p → IsAt line all
      → HasTimes (record { maker = maker; stamp = stamp; line = line }) (after_good depth t (at, p)) × (line.fault ≡ (after_good depth t (at, p)).fault)
  all_times line stamp stamped there =
      subst (λ (u : Times). HasTimes (record { maker = maker; stamp = stamp; line = line }) u × (line.fault ≡ u.fault)) (sym all_is) (
        record {
          told = takes.2 ∙ ap (λ (g : Told). told_after g p) is.told ∙ sym (told_kept depth at begun elems);
          stamp = stamped ∙ sym begun_stamp ∙ sym (stamp_kept depth at begun elems);
          marks = there.marks;
        },
        there.fault,
      )

-- ---- values

pub has_stamp : (s : Sizes) (p : Packet) → IsPacket s p → HasStamp p
has_stamp s (packet.Time bits low) is = is
has_stamp s p is = tt
