-- Retire: the seam between what is done and what is held moves.
use Rattle.std.proofs.Common.{◌≡◌, ℕ, zero, suc, ◌≤◌, Bool, true, if◌then◌else◌, List, ◌++◌, length, take, drop, Some, Ok, sym, ap, subst, ◌∙◌, arith}
use Rattle.std.proofs.Common.{append_assoc, append-nil}
use Rattle.std.proofs.lemmas.List.{take-append-drop, map-append}
use Rattle.std.proofs.lemmas.Bool.Decides.{nat_tests}
use Rattle.std.specs.Prelude.{map, nat_le}
use Rattle.program_image.specs.declared.image.Image.{Image}
use Rattle.element_queue.specs.Resolved.{Resolved, resolve_all}
use Rattle.spec_run.proofs.StepLists.{begun-append, blocks-append}
use Rattle.spec_run.specs.Blocks.{begun, blocks, fresh}
use Rattle.spec_run.specs.Runs.{Closing, Running}
use Rattle.spec_run.specs.Steps.{p0s}
use Rattle.spec_run.specs.declared.step.RunStep.{RunStep}
use Rattle.spec_run.specs.declared.effect.Effect.TheVariants as effect
use Rattle.trace_unit.proofs.Lists.{drop_map, first_within, split, take_map}
use Rattle.trace_unit.proofs.Matching.{IsOpen, Keeps, Pends}
use Rattle.trace_unit.proofs.RowLists.{length-rows}
use Rattle.trace_unit.proofs.Rows.{Led, after_all, block_of, first_behind, saved_of, thing_of}
use Rattle.trace_unit.specs.Places.{Places}
use Rattle.trace_unit.specs.Told.{commits_of}

-- so many of the oldest are committed
abbrev pub committed : Resolved → ℕ → Resolved
committed r n = record { done = r.done ++ take n r.pending.held; pending = record (r.pending) { held = drop n r.pending.held } }

chosen : {X : Type 0} (b : Bool) (x y : X) → b ≡ true → (if b then x else y) ≡ x
chosen b x y e = simp e

within : (n m : ℕ) → n ≤ m → nat_le n m ≡ true
within n m l = grind (arith, nat_tests)

none_committed : (r : Resolved) → committed r 0 ≡ r
none_committed r = ap (λ l. record { done = l; pending = r.pending }) (append-nil r.done)

pub commits : (depth n : ℕ) (r : Resolved) → n ≤ length r.pending.held → resolve_all depth r (commits_of n) ≡ Ok (committed r n)
commits depth zero r l = ap (λ (s : Resolved). Ok s) (sym (none_committed r))
commits depth (suc n) r l = simp (within (suc n) (length r.pending.held) l)

pub retired : (image : Image) (depth most : ℕ) (closed : List (List RunStep × Closing)) (s : Running) (p : Places) (r : Resolved) (n : ℕ)
    → IsOpen image closed s p r → Keeps image depth most (record { closed = closed; current = Some s }) p r (effect.Retired n)
retired image depth most closed s p r n o =
    let o₁ = begun (fresh s.start) s.retired in
    let now = take n s.held in
    let rest = drop n s.held in
    let parts : now ++ rest ≡ s.held = take-append-drop n s.held in
    let cut = split block_of o.late (blocks o₁ now) (blocks (begun o₁ now) rest) (o.unretired ∙ ap (blocks o₁) (sym parts) ∙ blocks-append o₁ now rest) in
    let count : length cut.left ≡ p0s now = length-rows o₁ cut.left now cut.lefts in
    let held : r.pending.held ≡ map thing_of (cut.left ++ cut.right) = o.held ∙ ap (map thing_of) cut.whole in
    let saved : p.saved ≡ map saved_of (cut.left ++ cut.right) = o.saved ∙ ap (map saved_of) cut.whole in
    let rows : o.early ++ o.late ≡ (o.early ++ cut.left) ++ cut.right = ap (λ l. o.early ++ l) cut.whole ∙ sym (append_assoc o.early cut.left cut.right) in
    let enough : p0s now ≤ length r.pending.held = first_within thing_of (p0s now) r.pending.held cut.left cut.right held count in (
      committed r (p0s now),
      ap (resolve_all depth r) (append-nil (commits_of (p0s now))) ∙ commits depth (p0s now) r enough,
      record {
        front = o.front;
        before = o.before;
        early = o.early ++ cut.left;
        late = cut.right;
        walks = o.walks;
        informed = o.informed;
        done = ap (λ l. l ++ take (p0s now) r.pending.held) o.done
            ∙ ap (λ l. (o.front ++ map thing_of o.early) ++ l) (take_map thing_of (p0s now) r.pending.held cut.left cut.right held count)
            ∙ append_assoc o.front (map thing_of o.early) (map thing_of cut.left) ∙ ap (λ l. o.front ++ l) (sym (map-append thing_of o.early cut.left));
        held = drop_map thing_of (p0s now) r.pending.held cut.left cut.right held count;
        saved = drop_map saved_of (p0s now) p.saved cut.left cut.right saved count;
        retired = map-append block_of o.early cut.left ∙ ap (λ l. l ++ map block_of cut.left) o.retired
            ∙ ap (λ l. blocks (fresh s.start) s.retired ++ l) cut.lefts ∙ sym (blocks-append (fresh s.start) s.retired now);
        unretired = cut.rights ∙ ap (λ b. blocks b rest) (sym (begun-append (fresh s.start) s.retired now));
        led = subst (Led true o.before) rows o.led;
        start = o.start ∙ ap (λ l. (begun (fresh s.start) l).start) (ap (λ l. s.retired ++ l) (sym parts) ∙ sym (append_assoc s.retired now rest));
        pends = subst (λ l. Pends p.needs (first_behind true l) (after_all o.before l) r.pending.pre p.start p.reader_context p.stack) rows o.pends;
      },
    )
