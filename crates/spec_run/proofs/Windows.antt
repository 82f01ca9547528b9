-- The fields of a run, and the place that they show.
use mir.Val.{bool_byte}
use Rattle.std.proofs.Common.{◌≡◌, ℕ, ◌+◌, ◌-◌, ◌<◌, ◌≤◌, Bool, List, [], ◌∷◌, ◌++◌, length, take}
use Rattle.std.proofs.Common.{Option, Some, None, refl, sym, ap, ◌∙◌, arith, length-append}
use Rattle.std.specs.Option.{option_map}
use Rattle.std.proofs.lemmas.List.{nil_from_length}
use Rattle.std.proofs.lemmas.Option.{slice_get_within}
use Rattle.circular_buffer.specs.Buffer.{Buffer, buffer, keep_last, last_item}
use Rattle.etm_types.specs.declared.context.Ctx.{Ctx}
use Rattle.program_image.specs.declared.image.Image.{Image}
use Rattle.spec_run.specs.Checks.{Situation, held_at, step_at, window}
use Rattle.spec_run.specs.Effects.{place_flipped}
use Rattle.spec_run.specs.Runs.{turn_newest, turned}
use Rattle.spec_run.specs.Steps.{is_p0, next_behind, p0s}
use Rattle.spec_run.specs.Windows.{IsWindow, place_by, place_of_standing}
use Rattle.spec_run.specs.declared.standing.Standing.{Standing}
use Rattle.spec_run.specs.declared.step.RunStep.{RunStep}
use Rattle.spec_run.specs.declared.step.StepKind.{StepKind}
use Rattle.spec_run.proofs.Held.{keep_all, length_newest, next_at, no_newest, p0s_pushed, turn_newest_at, turned_p0s}

-- nothing is held while tracing is off
pub held_there : (standing : Option Standing) (held : List RunStep) → (standing ≡ None → held ≡ []) → held_at (place_by standing held) ≡ held
held_there None held off = sym (off refl)
held_there (Some s) held off = refl

pub pushed : (held : List RunStep) (capacity : ℕ) (s : RunStep) (after : Buffer RunStep)
    → after ≡ buffer (keep_last capacity (held ++ s ∷ [])) capacity → length held < capacity → after ≡ buffer (held ++ s ∷ []) capacity
pushed held capacity s after e h =
    e ∙ ap (λ l. buffer l capacity) (keep_all capacity (held ++ s ∷ []) (omega (arith, h, length-append held (s ∷ []))))

-- what a step is made of: its kind, where it leads, and whether it links
abbrev pub Parts : Type 0
Parts = StepKind × ℕ × Bool

pub made_of : (p : Situation) (parts : Parts) (kind : StepKind) (next there : ℕ) (link : Bool) (s : RunStep) (ctx behind : Ctx)
    → s ≡ step_at p parts.0 parts.1 parts.2 → ctx ≡ behind → ◌≡◌ {A = Parts} parts (kind, next, link) → next ≡ there
    → ◌≡◌ {A = Option (RunStep × Ctx)} (Some (s, ctx)) (Some (step_at p kind there link, behind))
made_of p parts kind next there link s ctx behind same context e led = rw (same, e, led, context) refl

-- ---- one more step

pub window_ran : (depth p0 byte : ℕ) (held after : Buffer RunStep) (s : RunStep) (was : Option Standing) (now : Standing) → IsWindow depth held p0 was
    → after ≡ buffer (keep_last held.capacity (held.items ++ s ∷ [])) held.capacity → length held.items < window
    → byte ≡ bool_byte (is_p0 s) → (depth ≡ 0 → ⊥) → IsWindow depth after (p0 + byte) (Some now)
window_ran depth p0 byte held after s was now i push room count deep =
    let there = pushed held.items held.capacity s after push (omega (arith, room, i.room)) in
    record {
      room = ap (λ b. b.capacity) there ∙ i.room;
      within = omega (arith, room, length-append held.items (s ∷ []), ap (λ b. length b.items) there);
      counted = omega (arith, i.counted, count, p0s_pushed held.items s, ap (λ b. p0s b.items) there);
      off = λ e. absurd cc;
      flat = λ e. absurd (deep e);
    }

-- ---- some steps go

pub window_left : (depth p0 went : ℕ) (held left : Buffer RunStep) (gone : List RunStep) (was : Option Standing) (now : Standing) → IsWindow depth held p0 was
    → left.capacity ≡ held.capacity → went ≡ p0s gone → length left.items + length gone ≡ length held.items
    → p0s left.items + p0s gone ≡ p0s held.items → IsWindow depth left (p0 - went) (Some now)
window_left depth p0 went held left gone was now i same count size counts =
    record {
      room = same ∙ i.room;
      within = omega (arith, i.within, size);
      counted = omega (arith, i.counted, count, counts);
      off = λ e. absurd cc;
      flat = λ e. nil_from_length left.items (let none = ap length (i.flat e) in omega (arith, none, size));
    }

-- ---- the newest step goes the other way

pub flipped_place : (image : Image) (was : Option Standing) (s : Standing) (held after : List RunStep) (newest step : RunStep)
    → was ≡ Some s → last_item held ≡ Some newest → step ≡ turned image newest → after ≡ take (length held - 1) held ++ step ∷ []
    → Some (place_of_standing (record s { pc = step.next }) after) ≡ option_map (place_flipped image) (place_by was held)
flipped_place image was s held after newest step e last turn same =
    let front = take (length held - 1) held in
    let turns : after ≡ turn_newest image held = same ∙ ap (λ x. front ++ x ∷ []) turn ∙ sym (turn_newest_at image held newest last) in
    let leads : step.next ≡ next_behind s.pc (turn_newest image held) =
    sym (next_at s.pc front step) ∙ ap (next_behind s.pc) (sym same ∙ turns) in
    rw e (ap (λ (p : Situation). Some p) (λ k. record { held = turns k; after_isb = s.after_isb; pc = leads k; ctx = s.ctx }))

pub window_flipped : (image : Image) (depth p0 : ℕ) (held after : Buffer RunStep) (newest step : RunStep) (was : Option Standing) (now : Standing)
    → IsWindow depth held p0 was → last_item held.items ≡ Some newest → step ≡ turned image newest
    → after ≡ buffer (take (length held.items - 1) held.items ++ step ∷ []) held.capacity → IsWindow depth after p0 (Some now)
window_flipped image depth p0 held after newest step was now i last turn same =
    let size = length_newest held.items newest step last in
    let count = turned_p0s image held.items newest last in
    let front = take (length held.items - 1) held.items in
    record {
      room = ap (λ b. b.capacity) same ∙ i.room;
      within = omega (arith, i.within, size, ap (λ b. length b.items) same);
      counted = i.counted ∙ sym count ∙ ap (λ x. p0s (front ++ x ∷ [])) (sym turn) ∙ ap (λ b. p0s b.items) (sym same);
      off = λ e. absurd cc;
      flat = λ e. absurd (let none = ap length (i.flat e) in let w = slice_get_within held.items _ newest last in omega (arith, none, w));
    }

abbrev pub popped : Buffer RunStep → Buffer RunStep
popped held = buffer (take (length held.items - 1) held.items) held.capacity

pub put_back : (held left after : Buffer RunStep) (newest step : RunStep) → left ≡ popped held
    → after ≡ buffer (keep_last left.capacity (left.items ++ step ∷ [])) left.capacity
    → last_item held.items ≡ Some newest → length held.items ≤ held.capacity → after ≡ buffer ((popped held).items ++ step ∷ []) held.capacity
put_back held left after newest step pop push last room =
    let size = length_newest held.items newest step last in
    push ∙ ap (λ b. buffer (keep_last b.capacity (b.items ++ step ∷ [])) b.capacity) pop
    ∙ ap (λ l. buffer l held.capacity) (keep_all held.capacity ((popped held).items ++ step ∷ []) (omega (arith, size, room)))

pub nothing_popped : (held left : Buffer RunStep) → left ≡ popped held → last_item held.items ≡ None → held ≡ left
nothing_popped held left pop last =
    let none = no_newest held.items last in
    ap (λ l. buffer l held.capacity) (none ∙ ap (λ l. take (length l - 1) l) (sym none)) ∙ sym pop

pub nothing_flipped : (image : Image) (was : Option Standing) (held left : List RunStep) → held ≡ left → last_item held ≡ None
    → place_by was left ≡ option_map (place_flipped image) (place_by was held)
nothing_flipped image None held left same last = refl
nothing_flipped image (Some s) held left same last =
    let none = no_newest held last in
    let left_none : left ≡ [] = sym same ∙ none in
    rw (none, left_none) refl
