-- An overflow, and a discard: what is held is lost.
use Rattle.std.proofs.Common.{◌≡◌, true, false, List, [], ◌∷◌, ◌++◌, length, take, refl, sym, ap, subst, ◌∙◌, append_assoc, append-nil, arith}
use Rattle.std.proofs.Common.{length-append}
use Rattle.std.proofs.lemmas.List.{take_at, length-map, map-append, length-replicate}
use Rattle.std.specs.Prelude.{map, replicate}
use Rattle.etm_types.specs.Pre.{trace_missing}
use Rattle.etm_types.specs.declared.element.Elem.TheVariants as elem
use Rattle.etm_types.specs.declared.element.Thing.{Thing}
use Rattle.etm_types.specs.declared.element.Thing.TheVariants.{Gap, Stop}
use Rattle.element_queue.specs.Resolved.{Resolved}
use Rattle.late_reader.specs.Marks.{mark, old, Marks}
use Rattle.late_reader.specs.Rows.{AreAlike, BehindGap, NoneSeen, Whereabouts, PreAt, Row, ThingAt, late_of, mark_of, place_behind, whole_of}
use Rattle.late_reader.proofs.Alike.{Alike, places_behind}
use Rattle.late_reader.proofs.Lists.{same_fine, alike_fronts, alike_joined, places-append, marks_apart}
use Rattle.late_reader.proofs.Told.{Follows, Goes}

abbrev pub lost : Resolved → Thing → Resolved
lost r t = record { done = r.done ++ t ∷ []; pending = record (r.pending) { held = []; pre = trace_missing } }

lost_alike : (base : List Thing) (whole : Resolved) (marks : Marks) (late : Resolved) (t : Thing) → ((p : Whereabouts) → ThingAt p (mark true false) t t)
    → ((p : Whereabouts) → place_behind p t ≡ BehindGap)
    → Alike base whole marks late
    → Alike base (lost whole t) (record { all = take (length whole.done) marks.all ++ mark true false ∷ []; on = false }) (lost late t)
lost_alike base whole marks late t is to a =
    let x : Row = record { whole = t; mark = mark true false; late = t } in
    let done_rows = a.done_rows ++ x ∷ [] in
    let front = replicate (length base) old ++ map mark_of a.done_rows in
    let m : marks.all ≡ front ++ map mark_of a.held_rows = a.all ∙ marks_apart (replicate (length base) old) a.done_rows a.held_rows in
    let count : length front ≡ length whole.done =
    omega (
      arith,
      length-append (replicate (length base) old) (map mark_of a.done_rows),
      length-replicate (length base) old,
      length-map a.done_rows mark_of,
      ap length a.done,
      length-append base (map whole_of a.done_rows),
      length-map a.done_rows whole_of,
    ) in
    let taken : take (length whole.done) marks.all ≡ front =
    ap (take (length whole.done)) m ∙ take_at front (map mark_of a.held_rows) (length whole.done) count in
    record {
      done_rows = done_rows;
      held_rows = [];
      done = ap (λ l. l ++ t ∷ []) a.done ∙ append_assoc base (map whole_of a.done_rows) (t ∷ [])
          ∙ ap (λ l. base ++ l) (sym (map-append whole_of a.done_rows (x ∷ [])));
      shown = ap (λ l. l ++ t ∷ []) a.shown ∙ sym (map-append late_of a.done_rows (x ∷ []));
      held = refl;
      kept = refl;
      all = ap (λ l. l ++ x.mark ∷ []) taken ∙ sym (marks_apart (replicate (length base) old) a.done_rows (x ∷ []))
          ∙ ap (λ l. replicate (length base) old ++ map mark_of l) (sym (append-nil done_rows));
      alike = subst (AreAlike NoneSeen) (sym (append-nil done_rows))
          (alike_joined NoneSeen a.done_rows (x ∷ []) (alike_fronts NoneSeen a.done_rows a.held_rows a.alike) (is _, tt));
      pres = subst (λ p. PreAt p false trace_missing trace_missing)
          (sym (ap (places_behind NoneSeen) (append-nil done_rows) ∙ places-append NoneSeen a.done_rows (x ∷ [])
          ∙ to (places_behind NoneSeen a.done_rows))) (refl, refl, refl);
      informed = a.informed;
      begun = a.begun;
    }

pub overflow_goes : Follows elem.Overflow
overflow_goes depth base whole marks late next a e =
    subst (Goes depth base whole marks late elem.Overflow) (same_fine _ next e)
    (record { after = lost late Gap; resolves = refl; alike = lost_alike base whole marks late Gap (λ p. (refl, refl)) (λ p. refl) a })

pub discard_goes : Follows elem.Discard
discard_goes depth base whole marks late next a e =
    subst (Goes depth base whole marks late elem.Discard) (same_fine _ next e)
    (record { after = lost late Stop; resolves = refl; alike = lost_alike base whole marks late Stop (λ p. (refl, refl)) (λ p. refl) a })
