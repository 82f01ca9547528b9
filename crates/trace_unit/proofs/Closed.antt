-- Overflow and Off: what is held is lost, and the retired steps are shown.
use Rattle.std.proofs.Common.{◌≡◌, ℕ, true, List, [], ◌∷◌, ◌++◌, Some, Ok, refl, sym, ap, subst, ◌∙◌, inl, append_assoc}
use Rattle.std.specs.Prelude.{map}
use Rattle.program_image.specs.Blocks.{HasGap}
use Rattle.program_image.specs.declared.image.Image.{Image}
use Rattle.etm_types.specs.Pre.{trace_missing}
use Rattle.etm_types.specs.declared.element.Thing.{Thing}
use Rattle.etm_types.specs.declared.element.Thing.TheVariants.{Gap, Stop}
use Rattle.path_walker.specs.State.{State, first_state}
use Rattle.path_walker.specs.Things.{Gives, Walks}
use Rattle.element_queue.specs.Resolved.{Resolved}
use Rattle.spec_run.proofs.StepLists.{steps_front}
use Rattle.spec_run.specs.Blocks.{fresh}
use Rattle.spec_run.specs.Executed.{IsRunning}
use Rattle.spec_run.specs.RetiredItems.{closed_items, closing_item, stretch_items}
use Rattle.spec_run.specs.Runs.{ByOff, ByOverflow, Closing, Running}
use Rattle.spec_run.specs.declared.step.RunStep.{RunStep}
use Rattle.spec_run.specs.declared.effect.Effect.TheVariants as effect
use Rattle.path_walker.proofs.Joined.{parts_join}
use Rattle.trace_unit.proofs.Matching.{IsOff, IsOpen, Keeps}
use Rattle.trace_unit.proofs.Walked.{led_walks}
use Rattle.trace_unit.proofs.Shown.{stretch_shows}
use Rattle.trace_unit.proofs.RowLists.{led_fronts}
use Rattle.trace_unit.proofs.Rows.{after_all, thing_of}
use Rattle.trace_unit.proofs.RunBlocks.{AreRunBlocks, blocks_of_run}
use Rattle.trace_unit.specs.Places.{Places}

-- what is left where all that is held is lost
abbrev pub lost : Resolved → Thing → Resolved
lost r mark = record { done = r.done ++ mark ∷ []; pending = record (r.pending) { held = []; pre = trace_missing } }

items_with : (closed : List (List RunStep × Closing)) (steps : List RunStep) (c : Closing)
    → closed_items (closed ++ (steps, c) ∷ []) ≡ (closed_items closed ++ stretch_items steps) ++ closing_item c ∷ []
items_with [] steps c = refl
items_with (x ∷ closed) steps c =
    ap (λ l. stretch_items x.0 ++ closing_item x.1 ∷ l) (items_with closed steps c)
    ∙ sym (ap (λ l. l ++ closing_item c ∷ []) (append_assoc (stretch_items x.0) (closing_item x.1 ∷ closed_items closed) (stretch_items steps))
    ∙ append_assoc (stretch_items x.0) (closing_item x.1 ∷ (closed_items closed ++ stretch_items steps)) (closing_item c ∷ []))

pub closed_so : (image : Image) → HasGap image → (closed : List (List RunStep × Closing)) (s : Running) (p : Places) (r : Resolved) (mark : Thing) (c : Closing)
    → ((w : State) → Gives image w mark (closing_item c ∷ []) w) → IsRunning image s → IsOpen image closed s p r
    → IsOff image (closed ++ (s.retired, c) ∷ []) (record p { saved = [] }) (lost r mark)
closed_so image gap closed s p r mark c shows is o =
    let steps = steps_front image (fresh s.start) is.first s.retired s.held is.are in
    let led = led_fronts true o.before o.early o.late o.led in
    let w = after_all o.before o.early in
    let are = subst (λ bs. AreRunBlocks image bs) (sym o.retired) (blocks_of_run image gap s.start is.first s.retired is.place steps) in
    let early : Walks image o.before (map thing_of o.early) (stretch_items s.retired) (Ok w) =
    subst (λ l. Walks image o.before (map thing_of o.early) l (Ok w))
    (stretch_shows image s.start is.first s.retired o.before o.early is.place steps o.retired led) (led_walks image true o.before o.early are led) in
    let before = parts_join image first_state o.before o.front (map thing_of o.early) (closed_items closed) (stretch_items s.retired) (Ok w) o.walks early in
    let last : Walks image w (mark ∷ []) (closing_item c ∷ []) (Ok w) = inl (closing_item c ∷ [], [], w, shows w, (refl, refl), refl) in
    record {
      before = w;
      walks = subst (λ l. Walks image first_state (r.done ++ mark ∷ []) l (Ok w)) (sym (items_with closed s.retired c))
          (subst (λ d. Walks image first_state (d ++ mark ∷ []) ((closed_items closed ++ stretch_items s.retired) ++ closing_item c ∷ []) (Ok w)) (sym o.done)
          (parts_join image first_state w (o.front ++ map thing_of o.early) (mark ∷ []) (closed_items closed ++ stretch_items s.retired)
          (closing_item c ∷ []) (Ok w) before last));
      held = refl;
      saved = refl;
      pre = refl;
    }

pub overflowed : (image : Image) → HasGap image → (depth most : ℕ) (closed : List (List RunStep × Closing)) (s : Running) (p : Places) (r : Resolved)
    → IsRunning image s → IsOpen image closed s p r
    → Keeps image depth most (record { closed = closed; current = Some s }) p r effect.Overflowed
overflowed image gap depth most closed s p r is o = (lost r Gap, refl, closed_so image gap closed s p r Gap ByOverflow (λ w. (refl, refl)) is o)

pub stopped : (image : Image) → HasGap image → (depth most : ℕ) (closed : List (List RunStep × Closing)) (s : Running) (p : Places) (r : Resolved)
    → IsRunning image s → IsOpen image closed s p r
    → Keeps image depth most (record { closed = closed; current = Some s }) p r effect.Stopped
stopped image gap depth most closed s p r is o = (lost r Stop, refl, closed_so image gap closed s p r Stop ByOff (λ w. (refl, refl)) is o)
