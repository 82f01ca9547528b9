-- A P0 element, and a commit.
use Rattle.std.proofs.Common.{◌≡◌, ℕ, ◌-◌, Bool, true, false, if◌then◌else◌, List, [], ◌∷◌, ◌++◌, length, take, drop, Ok, Err, refl, sym, ap, subst}
use Rattle.std.proofs.Common.{◌∙◌, append_assoc}
use Rattle.std.proofs.lemmas.List.{take-append-drop, take-map, drop-map, length-map, map-append}
use Rattle.std.specs.Prelude.{map, nat_le, replicate}
use Rattle.etm_types.specs.Pre.{nothing_told}
use Rattle.etm_types.specs.declared.element.Elem.TheVariants as elem
use Rattle.etm_types.specs.declared.element.P0.{P0}
use Rattle.etm_types.specs.declared.element.Pre.{Pre}
use Rattle.etm_types.specs.declared.element.Thing.{Thing}
use Rattle.etm_types.specs.declared.element.Thing.TheVariants.{Seen}
use Rattle.etm_types.specs.declared.queue_fault.QueueFault.TheVariants.{CommitOverrun}
use Rattle.element_queue.specs.Pending.{commits, Taken}
use Rattle.element_queue.specs.Resolved.{Resolved, resolve, with_done}
use Rattle.late_reader.specs.Marks.{Mark, Marks, mark, old}
use Rattle.late_reader.specs.Rows.{AreAlike, BehindEntry, EntryAt, NoneSeen, Whereabouts, PreAt, Row, late_of, mark_of, whole_of}
use Rattle.late_reader.proofs.Alike.{Alike, places_behind}
use Rattle.late_reader.proofs.Lists.{fine, same_fine, never_fine, places-append, alike_joined, marks_apart}
use Rattle.late_reader.proofs.Told.{Follows, Goes}

-- so many of all leave
abbrev pub left : Resolved → Pre → List Thing → ℕ → Resolved
left r pre all n = record { done = r.done ++ take n all; pending = record (r.pending) { held = drop n all; pre = pre } }

grown_done : (f : Row → Thing) (base done : List Thing) (done_rows rows : List Row) (n : ℕ) → done ≡ base ++ map f done_rows
    → done ++ take n (map f rows) ≡ base ++ map f (done_rows ++ take n rows)
grown_done f base done done_rows rows n e =
    ap (λ l. l ++ take n (map f rows)) e ∙ append_assoc base (map f done_rows) (take n (map f rows))
    ∙ ap (λ l. base ++ l) (ap (λ l. map f done_rows ++ l) (take-map f n rows) ∙ sym (map-append f done_rows (take n rows)))

-- the rows that are held are these now, the newest of them perhaps new
pub left_alike : (base : List Thing) (whole : Resolved) (all : List Mark) (on : Bool) (late : Resolved) (done_rows rows : List Row) (p q : Pre)
    (n : ℕ)
    → whole.done ≡ base ++ map whole_of done_rows → late.done ≡ map late_of done_rows
    → all ≡ replicate (length base) old ++ map mark_of (done_rows ++ rows)
    → AreAlike NoneSeen (done_rows ++ rows) → PreAt (places_behind NoneSeen (done_rows ++ rows)) on p q → whole.pending.informed ≡ true
    → late.pending.informed ≡ true
    → Alike base (left whole p (map whole_of rows) n) (record { all = all; on = on }) (left late q (map late_of rows) n)
left_alike base whole all on late done_rows rows p q n done shown marks alike pres informed begun =
    let same : (done_rows ++ take n rows) ++ drop n rows ≡ done_rows ++ rows =
    append_assoc done_rows (take n rows) (drop n rows) ∙ ap (λ l. done_rows ++ l) (take-append-drop n rows) in
    record {
      done_rows = done_rows ++ take n rows;
      held_rows = drop n rows;
      done = grown_done whole_of base whole.done done_rows rows n done;
      shown = grown_done late_of [] late.done done_rows rows n shown;
      held = drop-map whole_of n rows;
      kept = drop-map late_of n rows;
      all = marks ∙ ap (λ l. replicate (length base) old ++ map mark_of l) (sym same);
      alike = subst (AreAlike NoneSeen) (sym same) alike;
      pres = subst (λ l. PreAt (places_behind NoneSeen l) on p q) (sym same) pres;
      informed = informed;
      begun = begun;
    }

nothing_at : (place : Whereabouts) → place ≡ BehindEntry → PreAt place false nothing_told nothing_told
nothing_at place e = subst (λ l. PreAt l false nothing_told nothing_told) (sym e) (refl, refl)

pub p0_goes : (p0 : P0) → Follows (elem.P0 p0)
p0_goes p0 depth base whole marks late next a e =
    let p = whole.pending.pre in
    let q = late.pending.pre in
    let x : Row = record { whole = Seen (record { pre = p; p0 = p0 }); mark = mark true marks.on; late = Seen (record { pre = q; p0 = p0 }) } in
    let rows = a.held_rows ++ x ∷ [] in
    let behind : Marks = record { all = marks.all ++ x.mark ∷ []; on = false } in
    let whole_all : map whole_of rows ≡ whole.pending.held ++ x.whole ∷ [] =
    map-append whole_of a.held_rows (x ∷ []) ∙ ap (λ l. l ++ x.whole ∷ []) (sym a.held) in
    let late_all : map late_of rows ≡ late.pending.held ++ x.late ∷ [] =
    map-append late_of a.held_rows (x ∷ []) ∙ ap (λ l. l ++ x.late ∷ []) (sym a.kept) in
    let count : length (whole.pending.held ++ x.whole ∷ []) ≡ length (late.pending.held ++ x.late ∷ []) =
    sym (ap length whole_all) ∙ length-map rows whole_of ∙ sym (length-map rows late_of) ∙ ap length late_all in
    let n = length (whole.pending.held ++ x.whole ∷ []) - depth in
    let joined : (a.done_rows ++ a.held_rows) ++ x ∷ [] ≡ a.done_rows ++ rows = append_assoc a.done_rows a.held_rows (x ∷ []) in
    let place : places_behind NoneSeen (a.done_rows ++ rows) ≡ BehindEntry =
    sym (ap (places_behind NoneSeen) joined) ∙ places-append NoneSeen (a.done_rows ++ a.held_rows) (x ∷ []) in
    let all : marks.all ++ x.mark ∷ [] ≡ replicate (length base) old ++ map mark_of (a.done_rows ++ rows) =
    ap (λ l. l ++ x.mark ∷ []) a.all ∙ sym (marks_apart (replicate (length base) old) (a.done_rows ++ a.held_rows) (x ∷ []))
    ∙ ap (λ l. replicate (length base) old ++ map mark_of l) joined in
    let entry : EntryAt (places_behind NoneSeen (a.done_rows ++ a.held_rows)) x.mark x.whole (record {
      pre =
          q;
      p0 = p0;
    }) = record { made = refl; pre = p; same = refl; pres = a.pres } in
    let now = left_alike base whole (marks.all ++ x.mark ∷ []) false late a.done_rows rows nothing_told nothing_told n a.done a.shown all
    (subst (AreAlike NoneSeen) joined (alike_joined NoneSeen (a.done_rows ++ a.held_rows) (x ∷ []) a.alike (entry, tt))) (nothing_at _ place)
    a.informed a.begun in
    subst (Goes depth base whole marks late (elem.P0 p0)) (same_fine _ next e) (record {
      after = left late nothing_told (late.pending.held ++ x.late ∷ []) n;
      resolves = ap (λ k. fine (left late nothing_told (late.pending.held ++ x.late ∷ []) (k - depth))) (sym count);
      alike = subst
          (λ l. Alike base (left whole nothing_told l n) behind (left late nothing_told (late.pending.held ++ x.late ∷ []) n)) whole_all
          (subst (λ l. Alike base (left whole nothing_told (map whole_of rows) n) behind (left late nothing_told l n)) late_all now);
    })

abbrev pub commits_by : (b : Bool) (r : Resolved) (n : ℕ) (k : ℕ) → Taken
commits_by b r n k = if b then commits r.pending r.pending.pre r.pending.held n else Err (CommitOverrun n k)

enough : (b : Bool) (r next : Resolved) (n k : ℕ) → with_done r.done (commits_by b r n k) ≡ Ok next
    → (b ≡ true) × (left r r.pending.pre r.pending.held n ≡ next)
enough true r next n k e = (refl, same_fine _ next e)
enough false r next n k e = absurd (never_fine (CommitOverrun n k) next e)

commits_all : (depth : ℕ) (r : Resolved) (n : ℕ) → nat_le n (length r.pending.held) ≡ true
    → resolve depth r (elem.Commit n) ≡ Ok (left r r.pending.pre r.pending.held n)
commits_all depth r n e = simp e

pub commit_goes : (n : ℕ) → Follows (elem.Commit n)
commit_goes n depth base whole marks late next a e =
    let h = enough (nat_le n (length whole.pending.held)) whole next n (length whole.pending.held) e in
    let count : length whole.pending.held ≡ length late.pending.held =
    ap length a.held ∙ length-map a.held_rows whole_of ∙ sym (length-map a.held_rows late_of) ∙ sym (ap length a.kept) in
    let p = whole.pending.pre in
    let q = late.pending.pre in
    let now = left_alike base whole marks.all marks.on late a.done_rows a.held_rows p q n a.done a.shown a.all a.alike a.pres a.informed a.begun in
    subst (Goes depth base whole marks late (elem.Commit n)) h.1 (record {
      after = left late q late.pending.held n;
      resolves = commits_all depth late n (ap (nat_le n) (sym count) ∙ h.0);
      alike = subst (λ l. Alike base (left whole p l n) marks (left late q late.pending.held n)) (sym a.held)
          (subst (λ l. Alike base (left whole p (map whole_of a.held_rows) n) marks (left late q l n)) (sym a.kept) now);
    })
