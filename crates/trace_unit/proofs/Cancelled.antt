-- Cancel: back to what was told before the oldest of the blocks that go.
use Rattle.std.proofs.Common.{◌≡◌, ℕ, zero, suc, ◌-◌, ◌≤◌, Bool, true, false, if◌then◌else◌, List, [], ◌∷◌, ◌++◌, length, Some, Ok, sym, ap, subst, ◌∙◌}
use Rattle.std.proofs.Common.{arith, append_assoc, append-nil}
use Rattle.std.proofs.lemmas.List.{take-append-drop, take_all, drop_all}
use Rattle.std.proofs.lemmas.Bool.Decides.{nat_tests}
use Rattle.std.specs.Prelude.{map, nat_le, ◌==◌}
use Rattle.program_image.specs.declared.image.Image.{Image}
use Rattle.etm_types.specs.declared.element.Pre.{Pre}
use Rattle.path_walker.specs.State.{State}
use Rattle.element_queue.specs.Pending.{Pending, pre_of}
use Rattle.element_queue.specs.Resolved.{Resolved, resolve_all}
use Rattle.spec_run.proofs.StepLists.{begun-append, blocks-append}
use Rattle.spec_run.specs.Blocks.{BegunBlock, begun, blocks, fresh}
use Rattle.spec_run.specs.Runs.{Closing, Running}
use Rattle.spec_run.specs.Steps.{kept, newest, p0s}
use Rattle.spec_run.specs.declared.step.RunStep.{RunStep}
use Rattle.spec_run.specs.declared.effect.Effect.TheVariants as effect
use Rattle.trace_unit.proofs.Lists.{kept_map, last_within, newest_map, split}
use Rattle.trace_unit.proofs.Matching.{IsOpen, Keeps, Pends}
use Rattle.trace_unit.proofs.RowLists.{after_all-append, first_behind-append, first_start, led_fronts, led_rests, length-rows, none_ended}
use Rattle.trace_unit.proofs.Rows.{Led, Row, after_all, block_of, first_behind, saved_of, thing_of}
use Rattle.trace_unit.specs.Places.{Places, Saved, back_by, saves}
use Rattle.trace_unit.specs.Told.{cancels_of}

-- what is pending where so many of the newest go
abbrev pub pre_behind : ℕ → Resolved → Pre
pre_behind zero r = r.pending.pre
pre_behind (suc n) r = pre_of (newest (suc n) r.pending.held)

abbrev pub cancelled : Resolved → ℕ → Resolved
cancelled r n = record r { pending = record (r.pending) { held = kept n r.pending.held; pre = pre_behind n r } }

all_kept : {X : Type 0} (xs : List X) → kept 0 xs ≡ xs
all_kept xs = take_all (length xs - 0) xs (omega arith)

none_newest : {X : Type 0} (xs : List X) → newest 0 xs ≡ []
none_newest xs = drop_all (length xs - 0) xs (omega arith)

chosen : {X : Type 0} (a b : Bool) (x y z : X) → a ≡ false → b ≡ true → (if a then x else if b then y else z) ≡ y
chosen a b x y z e f = simp (e, f)

within : (n m : ℕ) → n ≤ m → nat_le n m ≡ true
within n m l = grind (arith, nat_tests)

not_none : (n : ℕ) → (suc n == 0) ≡ false
not_none n = grind (arith, nat_tests)

none_cancelled : (r : Resolved) → cancelled r 0 ≡ r
none_cancelled r = ap (λ l. record r { pending = record (r.pending) { held = l } }) (all_kept r.pending.held)

nothing_done : (r : Resolved) (p : Pending) → record { done = r.done ++ []; pending = p } ≡ record r { pending = p }
nothing_done r p = ap (λ l. record { done = l; pending = p }) (append-nil r.done)

pub cancels_them : (depth n : ℕ) (r : Resolved) → n ≤ length r.pending.held → resolve_all depth r (cancels_of n) ≡ Ok (cancelled r n)
cancels_them depth zero r l = ap (λ (s : Resolved). Ok s) (sym (none_cancelled r))
cancels_them depth (suc n) r l = simp (not_none n, within (suc n) (length r.pending.held) l) (ap (λ (s : Resolved). Ok s) (nothing_done r _))

-- ---- what is pending afterwards

-- what the unit goes back to, by the rows that go
record Back (first : Bool) (w : State) (p : Places) (pre : Pre) (start : ℕ) : Type 0 where
  pub there : p.start ≡ start
  pub pends : Pends p.needs first w pre p.start p.reader_context p.stack

back : (p : Places) (r : Resolved) (q : ℕ) (w : State) (first : Bool) (o : BegunBlock) (gone : List RunStep) (rows : List Row) (vs : List Saved)
    → vs ≡ map saved_of rows → newest q r.pending.held ≡ map thing_of rows → length rows ≡ q → map block_of rows ≡ blocks o gone → Led first w rows
    → p.start ≡ (begun o gone).start → Pends p.needs (first_behind first rows) (after_all w rows) r.pending.pre p.start p.reader_context p.stack
    → Back first w (back_by p vs) (pre_behind q r) o.start
back p r q w first o gone [] vs saves holds count bs led at pends =
    let there : Back first w p r.pending.pre o.start = record { there = at ∙ none_ended o gone (sym bs); pends = pends } in
    subst (λ v. Back first w (back_by p v) (pre_behind q r) o.start) (sym saves) (subst (λ k. Back first w p (pre_behind k r) o.start) count there)
back p r q w first o gone (row ∷ rows) vs saves holds count bs led at pends =
    let p' = back_by p (saved_of row ∷ map saved_of rows) in
    let k = length rows in
    let told : pre_of (newest q r.pending.held) ≡ row.pre = ap pre_of holds in
    let told' : pre_behind q r ≡ row.pre = subst (λ m. pre_of (newest m r.pending.held) ≡ row.pre → pre_behind m r ≡ row.pre) count (λ e. e) told in
    let there : Back first w p' row.pre o.start = record { there = first_start o gone row.block (map block_of rows) (sym bs); pends = led.0 } in
    subst (λ v. Back first w (back_by p v) (pre_behind q r) o.start) (sym saves) (subst (λ t. Back first w p' t o.start) (sym told') there)

pub cancelled_so : (image : Image) (depth most : ℕ) (closed : List (List RunStep × Closing)) (s : Running) (p : Places) (r : Resolved) (n : ℕ)
    → IsOpen image closed s p r → Keeps image depth most (record { closed = closed; current = Some s }) p r (effect.Cancelled n)
cancelled_so image depth most closed s p r n o =
    let o₁ = begun (fresh s.start) s.retired in
    let keep = kept n s.held in
    let gone = newest n s.held in
    let q = p0s gone in
    let parts : keep ++ gone ≡ s.held = take-append-drop (length s.held - n) s.held in
    let cut = split block_of o.late (blocks o₁ keep) (blocks (begun o₁ keep) gone) (o.unretired ∙ ap (blocks o₁) (sym parts) ∙ blocks-append o₁ keep gone) in
    let count : length cut.right ≡ q = length-rows (begun o₁ keep) cut.right gone cut.rights in
    let held : r.pending.held ≡ map thing_of (cut.left ++ cut.right) = o.held ∙ ap (map thing_of) cut.whole in
    let saved : p.saved ≡ map saved_of (cut.left ++ cut.right) = o.saved ∙ ap (map saved_of) cut.whole in
    let rows : o.early ++ o.late ≡ (o.early ++ cut.left) ++ cut.right = ap (λ l. o.early ++ l) cut.whole ∙ sym (append_assoc o.early cut.left cut.right) in
    let enough : q ≤ length r.pending.held = last_within thing_of q r.pending.held cut.left cut.right held count in
    let stays = o.early ++ cut.left in
    let led : Led true o.before (stays ++ cut.right) = subst (Led true o.before) rows o.led in
    let steps : begun (fresh s.start) (s.retired ++ keep) ≡ begun o₁ keep = begun-append (fresh s.start) s.retired keep in
    let at : p.start ≡ (begun (begun o₁ keep) gone).start =
    o.start ∙ ap (λ (b : BegunBlock). b.start) (ap (λ l. begun (fresh s.start) (s.retired ++ l)) (sym parts)
    ∙ begun-append (fresh s.start) s.retired (keep ++ gone) ∙ begun-append o₁ keep gone) in
    let pends : Pends p.needs (first_behind (first_behind true stays) cut.right)
    (after_all (after_all o.before stays) cut.right) r.pending.pre p.start p.reader_context p.stack =
    subst (λ f. Pends p.needs f (after_all (after_all o.before stays) cut.right) r.pending.pre p.start p.reader_context p.stack)
    (first_behind-append true stays cut.right)
    (subst (λ v. Pends p.needs (first_behind true (stays ++ cut.right)) v r.pending.pre p.start p.reader_context p.stack)
    (after_all-append o.before stays cut.right)
    (subst (λ l. Pends p.needs (first_behind true l) (after_all o.before l) r.pending.pre p.start p.reader_context p.stack) rows o.pends)) in
    let now = back p r q (after_all o.before stays) (first_behind true stays) (begun o₁ keep) gone cut.right (newest q p.saved)
    (newest_map saved_of q p.saved cut.left cut.right saved count) (newest_map thing_of q r.pending.held cut.left cut.right held count) count cut.rights
    (led_rests true o.before stays cut.right led) at pends in (
      cancelled r q,
      ap (resolve_all depth r) (append-nil (cancels_of q)) ∙ cancels_them depth q r enough,
      record {
        front = o.front;
        before = o.before;
        early = o.early;
        late = cut.left;
        walks = o.walks;
        done = o.done;
        informed = o.informed;
        held = kept_map thing_of q r.pending.held cut.left cut.right held count;
        saved = kept_map saved_of q p.saved cut.left cut.right saved count;
        retired = o.retired;
        unretired = cut.lefts;
        led = led_fronts true o.before stays cut.right led;
        start = now.there ∙ ap (λ (b : BegunBlock). b.start) (sym steps);
        pends = now.pends;
      },
    )
