-- The whole of a trace, and a late reader that enters at a trace info in it.
use Rattle.std.proofs.Common.{◌≡◌, ℕ, false, List, [], ◌∷◌, ◌++◌, length, take, None, Ok, Err, Result}
use Rattle.std.proofs.Common.{refl, sym, ap, subst, ◌∙◌, inl, inr, append_assoc, arith, length-append}
use Rattle.std.proofs.lemmas.List.{take_at, length-map, length-replicate}
use Rattle.std.specs.Prelude.{map, replicate}
use Rattle.program_image.specs.declared.image.Image.{Image}
use Rattle.etm_types.specs.declared.element.Elem.{Elem}
use Rattle.etm_types.specs.declared.element.Elem.TheVariants as elem
use Rattle.etm_types.specs.declared.element.Thing.{Thing}
use Rattle.etm_types.specs.declared.item.Item.{Item}
use Rattle.etm_types.specs.declared.queue_fault.QueueFault.{QueueFault}
use Rattle.element_queue.specs.Resolved.{Resolved, unresolved, resolve, resolve_all, then_resolve}
use Rattle.path_walker.specs.State.{State, first_state}
use Rattle.path_walker.specs.Things.{Walks}
use Rattle.late_reader.specs.Marks.{Mark, old, marks_at, marks_behind}
use Rattle.trace_unit.specs.Taken.{Announces}
use Rattle.late_reader.specs.Part.{AreCertain, ShowsPart}
use Rattle.late_reader.specs.Rows.{NoneSeen, Row, mark_of, whole_of}
use Rattle.late_reader.proofs.Lists.{alike_fronts, marks_apart}
use Rattle.late_reader.proofs.Elements.{LateResolved, info_given, late_resolved}
use Rattle.late_reader.proofs.Walks.{all_things, certain_rest}

pub resolve_all-append : (depth : ℕ) (r : Resolved) (xs ys : List Elem)
    → resolve_all depth r (xs ++ ys) ≡ then_resolve (resolve_all depth r xs) (λ next. resolve_all depth next ys)
resolve_all-append depth r [] ys = refl
resolve_all-append depth r (x ∷ xs) ys = joined (resolve depth r x) (λ next. resolve_all-append depth next xs ys) where
  joined : (first : Result Resolved QueueFault)
      → ((next : Resolved) → resolve_all depth next (xs ++ ys) ≡ then_resolve (resolve_all depth next xs) (λ next. resolve_all depth next ys))
      → then_resolve first (λ next. resolve_all depth next (xs ++ ys)) ≡ then_resolve (then_resolve first (λ next. resolve_all depth next xs))
      (λ next. resolve_all depth next ys)
  joined (Ok next) rest = rest next
  joined (Err f) rest = refl

-- ---- walks of joined lists

pub record Parts (image : Image) (s : State) (xs ys : List Thing) (items : List Item) (end : State) : Type 0 where
  pub state : State
  pub before : List Item
  pub behind : List Item
  pub front : Walks image s xs before (Ok state)
  pub rest : Walks image state ys behind (Ok end)
  pub joined : items ≡ before ++ behind

pub walks_parts : (image : Image) (s end : State) (xs ys : List Thing) (items : List Item) → Walks image s (xs ++ ys) items (Ok end)
    → Parts image s xs ys items end
walks_parts image s end [] ys items g = record { state = s; before = []; behind = items; front = (refl, refl); rest = g; joined = refl }
walks_parts image s end (x ∷ xs) ys items (inr g) = absurd (let e = g.3 in cc)
walks_parts image s end (x ∷ xs) ys items (inl g) =
    let more = walks_parts image g.2 end xs ys g.1 g.4 in
    record {
      state = more.state;
      before = g.0 ++ more.before;
      behind = more.behind;
      front = inl (g.0, more.before, g.2, g.3, more.front, refl);
      rest = more.rest;
      joined = g.5 ∙ ap (λ l. g.0 ++ l) more.joined ∙ sym (append_assoc g.0 more.before more.behind);
    }

-- ---- the law

marks_done : (base : List Thing) (done held : List Row) (all : List Mark) (n : ℕ) → all ≡ replicate (length base) old ++ map mark_of (done ++ held)
    → n ≡ length (base ++ map whole_of done) → take n all ≡ replicate (length base) old ++ map mark_of done
marks_done base done held all n e count =
    let first = replicate (length base) old in
    let front = first ++ map mark_of done in
    ap (take n) (e ∙ marks_apart first done held)
    ∙ take_at front (map mark_of held) n
    (omega (
      arith,
      count,
      length-append first (map mark_of done),
      length-replicate (length base) old,
      length-map done mark_of,
      length-append base (map whole_of done),
      length-map done whole_of,
    ))

shows_part : (image : Image) (depth announced : ℕ) (at : Resolved) (elements : List Elem) (whole : Resolved) (items : List Item) (w : State)
    → LateResolved depth announced at elements whole → Walks image first_state whole.done items (Ok w) → AreCertain items
    → ShowsPart image depth announced at elements whole items
shows_part image depth announced at elements whole items w e walks certain =
    let a = e.alike in
    let parts = walks_parts image first_state w at.done (map whole_of a.done_rows) items
    (subst (λ l. Walks image first_state l items (Ok w)) a.done walks) in
    let alike = alike_fronts NoneSeen a.done_rows a.held_rows a.alike in
    let all = all_things image NoneSeen false None parts.state first_state w a.done_rows parts.behind alike (refl, refl) refl parts.rest
    (certain_rest parts.before parts.behind (subst AreCertain parts.joined certain)) in
    record {
      late = e.after;
      resolves = e.resolves;
      rows = a.done_rows;
      done = a.done;
      shown = a.shown;
      marks = marks_done at.done a.done_rows a.held_rows (marks_behind depth at (marks_at at) elements).all (length whole.done) a.all
          (ap length a.done);
      alike = alike;
      before = parts.before;
      behind = parts.behind;
      parts = parts.joined;
      state = parts.state;
      walks_before = parts.front;
      late_items = all.others;
      after = all.after;
      walks = subst (λ l. Walks image first_state l all.others (Ok all.after)) (sym a.shown) all.walks;
      walk_alike = all.walk_alike;
    }

pub late_shows : (image : Image) (depth announced : ℕ) (early elements : List Elem) (before whole : Resolved) (items : List Item) (after : State)
    → resolve_all depth unresolved early ≡ Ok before → Announces depth announced before
    → resolve_all depth unresolved (early ++ elem.Info announced ∷ elements) ≡ Ok whole
    → Walks image first_state whole.done items (Ok after) → AreCertain items
    → (at : Resolved) × (resolve depth before (elem.Info announced) ≡ Ok at) × ShowsPart image depth announced at elements whole items
late_shows image depth announced early elements before whole items after resolved announces all walks certain =
    let i = info_given depth announced before announces in
    let behind : (r : Resolved) → Result Resolved QueueFault = λ r. resolve_all depth r elements in
    let rest : resolve_all depth i.0 elements ≡ Ok whole =
    sym (resolve_all-append depth unresolved early (elem.Info announced ∷ elements)
    ∙ ap (λ r. then_resolve r (λ next. resolve_all depth next (elem.Info announced ∷ elements))) resolved
    ∙ ap (λ r. then_resolve r behind) i.1) ∙ all in
    let end = late_resolved depth announced before i.0 whole elements announces i.1 rest in
    (i.0, i.1, shows_part image depth announced i.0 elements whole items after end walks certain)
