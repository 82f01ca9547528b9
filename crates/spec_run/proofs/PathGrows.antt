-- What an event adds to the retired path.
use Rattle.std.proofs.Common.{◌≡◌, ℕ, zero, suc, List, [], ◌∷◌, ◌++◌, length, take, drop, Option, Some, None, refl, sym, ap, ◌∙◌, append_assoc, append-nil}
use Rattle.std.proofs.lemmas.List.{drop_at}
use Rattle.etm_types.specs.declared.item.Item.{Item}
use Rattle.program_image.specs.declared.image.Image.{Image}
use Rattle.spec_run.proofs.PathTaken.{one_grows}
use Rattle.spec_run.specs.Checks.{effect_of}
use Rattle.spec_run.specs.Effects.{applied}
use Rattle.spec_run.specs.RetiredItems.{added_by, closed_items, closing_item, items_behind, retired_of, stretch_items}
use Rattle.spec_run.specs.RunAfter.{after_event, place_in}
use Rattle.spec_run.specs.Runs.{ByOff, ByOverflow, Closing, Execution, Running}
use Rattle.spec_run.specs.declared.effect.Effect.{Effect}
use Rattle.spec_run.specs.declared.effect.Effect.TheVariants as effect
use Rattle.spec_run.specs.declared.event.Event.{Event}
use Rattle.spec_run.specs.declared.step.RunStep.{RunStep}

-- ---- a stretch

grows : (steps more : List RunStep) → (items : List Item) × (stretch_items (steps ++ more) ≡ stretch_items steps ++ items)
grows steps [] = ([], ap stretch_items (append-nil steps) ∙ sym (append-nil (stretch_items steps)))
grows steps (s ∷ more) =
    let one = one_grows steps s in
    let rest = grows (steps ++ s ∷ []) more in (
      one.0 ++ rest.0,
      ap stretch_items (sym (append_assoc steps (s ∷ []) more)) ∙ rest.1 ∙ ap (λ l. l ++ rest.0) one.1 ∙ append_assoc (stretch_items steps) one.0 rest.0,
    )

pub only_items : (steps more : List RunStep) (items : List Item) → stretch_items (steps ++ more) ≡ stretch_items steps ++ items
    → items_behind steps more ≡ items
only_items steps more items e =
    ap (drop (length (stretch_items steps))) e ∙ drop_at (stretch_items steps) items (length (stretch_items steps)) refl

pub stretch_grows : (steps more : List RunStep) → stretch_items (steps ++ more) ≡ stretch_items steps ++ items_behind steps more
stretch_grows steps more =
    let g = grows steps more in
    g.1 ∙ ap (λ l. stretch_items steps ++ l) (sym (only_items steps more g.0 g.1))

pub items_joined : (steps more others : List RunStep) → items_behind steps (more ++ others) ≡ items_behind steps more ++ items_behind (steps ++ more) others
items_joined steps more others =
    only_items steps (more ++ others) (items_behind steps more ++ items_behind (steps ++ more) others) (
    ap stretch_items (sym (append_assoc steps more others)) ∙ stretch_grows (steps ++ more) others
    ∙ ap (λ l. l ++ items_behind (steps ++ more) others) (stretch_grows steps more)
    ∙ append_assoc (stretch_items steps) (items_behind steps more) (items_behind (steps ++ more) others)
    )

-- ---- an event

one_closed_more : (closed : List (List RunStep × Closing)) (steps : List RunStep) (closing : Closing)
    → closed_items (closed ++ (steps, closing) ∷ []) ≡ closed_items closed ++ (stretch_items steps ++ closing_item closing ∷ [])
one_closed_more [] steps closing = refl
one_closed_more (c ∷ closed) steps closing =
    ap (λ l. stretch_items c.0 ++ closing_item c.1 ∷ l) (one_closed_more closed steps closing)
    ∙ sym (append_assoc (stretch_items c.0) (closing_item c.1 ∷ closed_items closed) (stretch_items steps ++ closing_item closing ∷ []))

closes : (closed : List (List RunStep × Closing)) (steps : List RunStep) (closing : Closing)
    → closed_items (closed ++ (steps, closing) ∷ []) ++ [] ≡ (closed_items closed ++ stretch_items steps) ++ closing_item closing ∷ []
closes closed steps closing =
    append-nil (closed_items (closed ++ (steps, closing) ∷ [])) ∙ one_closed_more closed steps closing
    ∙ sym (append_assoc (closed_items closed) (stretch_items steps) (closing_item closing ∷ []))

retires_more : (closed : List (List RunStep × Closing)) (steps more : List RunStep)
    → closed_items closed ++ stretch_items (steps ++ more) ≡ (closed_items closed ++ stretch_items steps) ++ items_behind steps more
retires_more closed steps more =
    ap (λ l. closed_items closed ++ l) (stretch_grows steps more)
    ∙ sym (append_assoc (closed_items closed) (stretch_items steps) (items_behind steps more))

same : (items : List Item) → items ≡ items ++ []
same items = sym (append-nil items)

effect_adds : (image : Image) (depth : ℕ) (closed : List (List RunStep × Closing)) (current : Option Running) (e : Effect)
    → retired_of (applied image depth (record { closed = closed; current = current }) e)
    ≡ retired_of (record { closed = closed; current = current }) ++ added_by depth current e
effect_adds image depth closed None (effect.Began addr ctx) = same _
effect_adds image depth closed None (effect.Ran t ctx) = same _
effect_adds image depth closed None (effect.Contexted ctx) = same _
effect_adds image depth closed None (effect.Retired n) = same _
effect_adds image depth closed None (effect.Cancelled n) = same _
effect_adds image depth closed None effect.Flipped = same _
effect_adds image depth closed None effect.Synced = same _
effect_adds image depth closed None effect.Overflowed = same _
effect_adds image depth closed None effect.Stopped = same _
effect_adds image depth closed (Some r) (effect.Began addr ctx) = same _
effect_adds image zero closed (Some r) (effect.Ran t ctx) = retires_more closed r.retired (t ∷ [])
effect_adds image (suc depth) closed (Some r) (effect.Ran t ctx) = same _
effect_adds image depth closed (Some r) (effect.Contexted ctx) = same _
effect_adds image depth closed (Some r) (effect.Retired n) = retires_more closed r.retired (take n r.held)
effect_adds image depth closed (Some r) (effect.Cancelled n) = same _
effect_adds image depth closed (Some r) effect.Flipped = same _
effect_adds image depth closed (Some r) effect.Synced = same _
effect_adds image depth closed (Some r) effect.Overflowed = closes closed r.retired ByOverflow
effect_adds image depth closed (Some r) effect.Stopped = closes closed r.retired ByOff

pub event_adds : (image : Image) (depth : ℕ) (x : Execution) (e : Event)
    → retired_of (after_event image depth x e) ≡ retired_of x ++ added_by depth x.current (effect_of image (place_in x) e)
event_adds image depth x e = effect_adds image depth x.closed x.current (effect_of image (place_in x) e)
