-- Flip: the newest step is a conditional branch, which ends the newest block, and it goes the other way.
use Rattle.std.proofs.Common.{◌≡◌, ℕ, Bool, true, false, if◌then◌else◌, List, [], ◌∷◌, ◌++◌, Option, Some, None, Ok, refl, sym, ap, subst, ◌∙◌}
use Rattle.std.proofs.Common.{append_assoc, append-nil}
use Rattle.std.proofs.lemmas.List.{map-append}
use Rattle.std.specs.Prelude.{map}
use Rattle.std.specs.Option.{option_map}
use Rattle.program_image.specs.declared.image.Image.{Image}
use Rattle.etm_types.specs.declared.context.Ctx.{Ctx}
use Rattle.etm_types.specs.declared.element.Elem.TheVariants as elem
use Rattle.etm_types.specs.declared.element.Pre.{Pre}
use Rattle.etm_types.specs.declared.element.Thing.{Thing}
use Rattle.path_walker.specs.declared.pc.Pc.TheVariants.{Known}
use Rattle.path_walker.specs.State.{State}
use Rattle.element_queue.specs.Pending.{Pending, flip_newest, flip_thing, is_unseen, pre_behind}
use Rattle.element_queue.specs.Resolved.{Resolved, resolve_all}
use Rattle.spec_run.proofs.StepLists.{begun-append, blocks-append}
use Rattle.spec_run.specs.Blocks.{BegunBlock, Block, begun, blocks, fresh}
use Rattle.spec_run.specs.Kinds.{is_cond}
use Rattle.spec_run.specs.Runs.{Closing, Running, flips, turn_newest, turned}
use Rattle.spec_run.specs.Steps.{ends_in_cond, next_behind}
use Rattle.spec_run.specs.declared.step.RunStep.{RunStep}
use Rattle.spec_run.specs.declared.step.StepKind.{StepKind}
use Rattle.spec_run.specs.declared.step.StepKind.TheVariants.{Cond, Eret, Exc, Ind, Isb, Jump, Plain}
use Rattle.spec_run.specs.declared.effect.Effect.TheVariants as effect
use Rattle.trace_unit.proofs.Lists.{heads, split}
use Rattle.trace_unit.proofs.Matching.{IsOpen, Keeps, Pends}
use Rattle.trace_unit.proofs.RowLists.{after_all-append, led_fronts, led_joined, led_rests}
use Rattle.trace_unit.proofs.Rows.{Led, Ready, Row, after_all, block_of, first_behind, saved_of, thing_of}
use Rattle.trace_unit.specs.Places.{Places}

-- ---- the newest of the steps

abbrev pub branch : ℕ → Ctx → Bool → ℕ → Bool → RunStep
branch addr ctx taken next link = record { addr = addr; ctx = ctx; kind = Cond taken; next = next; link = link }

pub record EndsInBranch (steps : List RunStep) : Type 0 where
  pub others : List RunStep
  pub addr : ℕ
  pub ctx : Ctx
  pub taken : Bool
  pub next : ℕ
  pub link : Bool
  pub whole : steps ≡ others ++ branch addr ctx taken next link ∷ []

which : (kind : StepKind) → is_cond kind ≡ true → (taken : Bool) × (kind ≡ Cond taken)
which (Cond taken) e = (taken, refl)
which Plain e = absurd cc
which Isb e = absurd cc
which Jump e = absurd cc
which (Ind link) e = absurd cc
which Eret e = absurd cc
which (Exc kind) e = absurd cc

with_kind : (s : RunStep) (kind : StepKind) → s.kind ≡ kind → s ≡ record s { kind = kind }
with_kind s kind e = ap (λ k. record s { kind = k }) e

pub ends_in_branch : (steps : List RunStep) → ends_in_cond steps ≡ true → EndsInBranch steps
ends_in_branch [] e = absurd cc
ends_in_branch (s ∷ []) e =
    let k = which s.kind e in
    record { others = []; addr = s.addr; ctx = s.ctx; taken = k.0; next = s.next; link = s.link; whole = ap (λ t. t ∷ []) (with_kind s (Cond k.0) k.1) }
ends_in_branch (s ∷ t ∷ steps) e =
    let rest = ends_in_branch (t ∷ steps) e in
    record {
      others = s ∷ rest.others;
      addr = rest.addr;
      ctx = rest.ctx;
      taken = rest.taken;
      next = rest.next;
      link = rest.link;
      whole = ap (λ l. s ∷ l) rest.whole;
    }

pub turn_newest_at : (image : Image) (xs : List RunStep) (s : RunStep) → turn_newest image (xs ++ s ∷ []) ≡ xs ++ turned image s ∷ []
turn_newest_at image [] s = refl
turn_newest_at image (x ∷ []) s = refl
turn_newest_at image (x ∷ y ∷ xs) s = ap (λ l. x ∷ l) (turn_newest_at image (y ∷ xs) s)

pub next_behind_at : (pc : ℕ) (xs : List RunStep) (s : RunStep) → next_behind pc (xs ++ s ∷ []) ≡ s.next
next_behind_at pc [] s = refl
next_behind_at pc (x ∷ xs) s = next_behind_at x.next xs s

-- ---- the newest of the things

pub maps : {X Y Z : Type 0} (f : X → Y) (g : Y → Z) (o : Option X) → option_map g (option_map f o) ≡ option_map (λ x. g (f x)) o
maps f g None = refl
maps f g (Some x) = refl

pub flip_newest_at : (xs : List Thing) (t : Thing) → flip_newest (xs ++ t ∷ []) ≡ option_map (λ f. xs ++ f ∷ []) (flip_thing t)
flip_newest_at [] t = refl
flip_newest_at (x ∷ []) t = maps (λ f. f ∷ []) (λ f. x ∷ f) (flip_thing t)
flip_newest_at (x ∷ y ∷ xs) t = ap (option_map (λ l. x ∷ l)) (flip_newest_at (y ∷ xs) t) ∙ maps (λ f. y ∷ xs ++ f ∷ []) (λ l. x ∷ l) (flip_thing t)

pub pre_behind_at : (xs : List Thing) (t : Thing) (pre : Pre)
    → pre_behind (xs ++ t ∷ []) pre ≡ record pre { addr = None; lost = if is_unseen t then true else pre.lost }
pre_behind_at [] t pre = refl
pre_behind_at (x ∷ []) t pre = refl
pre_behind_at (x ∷ y ∷ xs) t pre = pre_behind_at (y ∷ xs) t pre

abbrev pub flipped : Resolved → List Thing → Resolved
flipped r held = record r { pending = record (r.pending) { held = held; pre = record (r.pending.pre) { addr = None } } }

nothing_done : (r : Resolved) (p : Pending) → record { done = r.done ++ []; pending = p } ≡ record r { pending = p }
nothing_done r p = ap (λ l. record { done = l; pending = p }) (append-nil r.done)

flips_it : (depth : ℕ) (r : Resolved) (held : List Thing) → flip_newest r.pending.held ≡ Some held
    → pre_behind r.pending.held r.pending.pre ≡ record (r.pending.pre) { addr = None }
    → resolve_all depth r (elem.Flip ∷ []) ≡ Ok (flipped r held)
flips_it depth r held e f = simp (e, f) (ap (λ (s : Resolved). Ok s) (nothing_done r _))

-- ---- what is pending behind the branch

abbrev pub at_known : State → ℕ → State
at_known w known = record w { pc = Known known }

goes_on : (w : State) (known other : ℕ) (needs flush : Bool) (ctx : Option Ctx) (addr : Option ℕ) (start : ℕ) (context : Ctx) (stack : List ℕ)
    → Pends needs false (at_known w known) (record { flush = flush; on = false; lost = false; ctx = ctx; addr = addr }) start context stack
    → Ready false (at_known w other) (record { flush = flush; on = false; lost = false; ctx = ctx; addr = None }) other context stack
goes_on w known other true flush ctx addr start context stack p = absurd (let e = p.awaited in cc)
goes_on w known other false flush ctx None start context stack p =
    record { agrees = refl; at = refl; ctx = p.ctx; front = p.front; on = refl; lost = λ e. refl }
goes_on w known other false flush ctx (Some given) start context stack p =
    record { agrees = refl; at = refl; ctx = p.ctx; front = p.front; on = refl; lost = λ e. refl }

later : (pre : Pre) → pre.on ≡ false → pre.lost ≡ false → pre ≡ record { flush = pre.flush; on = false; lost = false; ctx = pre.ctx; addr = pre.addr }
later pre on lost = ap (λ b. record pre { on = b }) on ∙ ap (λ b. record pre { on = false; lost = b }) lost

-- behind the first block neither trace on nor missing trace was told
is_later : (needs : Bool) (w : State) (pre : Pre) (start : ℕ) (context : Ctx) (stack : List ℕ) → Pends needs false w pre start context stack
    → pre ≡ record { flush = pre.flush; on = false; lost = false; ctx = pre.ctx; addr = pre.addr }
is_later true w pre start context stack p = later pre p.on (p.lost refl)
is_later false w pre start context stack p = later pre p.on (p.lost refl)

-- ---- the rows

abbrev pub row : Block → Pre → List ℕ → Row
row b pre stack = record { block = b; pre = pre; stack = stack }

abbrev block_with : BegunBlock → Ctx → RunStep → Block
block_with o ctx last = record { start = o.start; plain = o.plain; ctx = ctx; last = last }

one_row : (rows : List Row) (b : Block) → map block_of rows ≡ b ∷ [] → (pre : Pre) × (stack : List ℕ) × (rows ≡ row b pre stack ∷ [])
one_row [] b e = absurd cc
one_row (r ∷ []) b e = (r.pre, r.stack, ap (λ c. row c r.pre r.stack ∷ []) (heads r.block b [] [] e).0)
one_row (r ∷ q ∷ rows) b e = absurd (let f = heads r.block b (block_of q ∷ map block_of rows) [] e in let g = f.1 in cc)

last_row : (rows left right : List Row) (b : Block) → rows ≡ left ++ right → map block_of right ≡ b ∷ []
    → (pre : Pre) × (stack : List ℕ) × (rows ≡ left ++ row b pre stack ∷ [])
last_row rows left right b whole e =
    let one = one_row right b e in
    (one.0, one.1, whole ∙ ap (λ l. left ++ l) one.2)

pub never_first : (first : Bool) (xs : List Row) (r : Row) → first_behind first (xs ++ r ∷ []) ≡ false
never_first first [] r = refl
never_first first (x ∷ xs) r = refl

-- what is pending behind a branch goes on behind the branch that goes the other way
goes_on_behind : (w : State) (needs : Bool) (pre : Pre) (start : ℕ) (context : Ctx) (stack : List ℕ) (known other : ℕ)
    → Pends needs false (at_known w known) pre start context stack → Ready false (at_known w other) (record pre { addr = None }) other context stack
goes_on_behind w needs pre start context stack known other p =
    let same = is_later needs (at_known w known) pre start context stack p in
    subst (λ (q : Pre). Ready false (at_known w other) (record q { addr = None }) other context stack) (sym same)
    (goes_on w known other needs pre.flush pre.ctx pre.addr start context stack
    (subst (λ q. Pends needs false (at_known w known) q start context stack) same p))

-- the newest step, and the row of its block
flipped_by : (image : Image) (depth most : ℕ) (closed : List (List RunStep × Closing)) (s : Running) (p : Places) (r : Resolved)
    (o : IsOpen image closed s p r) (others : List RunStep) (addr : ℕ) (ctx : Ctx) (taken : Bool) (next : ℕ) (link : Bool) (left : List Row) (pre : Pre)
    (stack : List ℕ) → s.held ≡ others ++ branch addr ctx taken next link ∷ [] → map block_of left ≡ blocks (begun (fresh s.start) s.retired) others
    → o.late ≡ left ++ row (block_with (begun (begun (fresh s.start) s.retired) others) ctx (branch addr ctx taken next link)) pre stack ∷ []
    → Keeps image depth most (record { closed = closed; current = Some s }) p r effect.Flipped
flipped_by image depth most closed s p r o others addr ctx taken next link left pre stack whole lefts late =
    let o₁ = begun (fresh s.start) s.retired in
    let step = branch addr ctx taken next link in
    let other = turned image step in
    let o₂ = begun o₁ others in
    let b' = block_with o₂ ctx other in
    let x = row (block_with o₂ ctx step) pre stack in
    let y = row b' pre stack in
    let stays = o.early ++ left in
    let w = after_all o.before stays in
    let joined = λ (z : Row). sym (append_assoc o.early left (z ∷ [])) in
    let rows : o.early ++ o.late ≡ stays ++ x ∷ [] = ap (λ l. o.early ++ l) late ∙ joined x in
    let led : Led true o.before (stays ++ x ∷ []) = subst (Led true o.before) rows o.led in
    let turns : turn_newest image s.held ≡ others ++ other ∷ [] = ap (turn_newest image) whole ∙ turn_newest_at image others step in
    let pc : (flips image s).pc ≡ other.next = ap (next_behind s.pc) turns ∙ next_behind_at s.pc others other in
    let held : r.pending.held ≡ map thing_of left ++ thing_of x ∷ [] = o.held ∙ ap (map thing_of) late ∙ map-append thing_of left (x ∷ []) in
    let turns' = ap flip_newest held ∙ flip_newest_at (map thing_of left) (thing_of x) in
    let tells = ap (λ l. pre_behind l r.pending.pre) held ∙ pre_behind_at (map thing_of left) (thing_of x) r.pending.pre in
    let before : Pends p.needs (first_behind true (stays ++ x ∷ [])) (after_all o.before (stays ++ x ∷ [])) r.pending.pre p.start p.reader_context p.stack =
    subst (λ l. Pends p.needs (first_behind true l) (after_all o.before l) r.pending.pre p.start p.reader_context p.stack) rows o.pends in
    let later : Pends p.needs false (after_all w (x ∷ [])) r.pending.pre p.start p.reader_context p.stack =
    subst (λ v. Pends p.needs false v r.pending.pre p.start p.reader_context p.stack) (after_all-append o.before stays (x ∷ []))
    (subst (λ f. Pends p.needs f (after_all o.before (stays ++ x ∷ [])) r.pending.pre p.start p.reader_context p.stack) (never_first true stays x) before) in
    let pre' : Pre = record (r.pending.pre) { addr = None } in
    let ready : Ready false (after_all w (y ∷ [])) (record (r.pending.pre) { addr = None }) other.next p.reader_context p.stack =
    goes_on_behind (after_all w (x ∷ [])) p.needs r.pending.pre p.start p.reader_context p.stack next other.next later in
    let ready' : Ready (first_behind true (o.early ++ (left ++ y ∷ []))) (after_all o.before (o.early ++ (left ++ y ∷ [])))
    (record (r.pending.pre) { addr = None }) (flips image s).pc p.reader_context p.stack =
    subst (λ l. Ready (first_behind true l) (after_all o.before l) pre' (flips image s).pc p.reader_context p.stack) (sym (joined y))
    (subst (λ a. Ready (first_behind true (stays ++ y ∷ [])) (after_all o.before (stays ++ y ∷ [])) pre' a p.reader_context p.stack) (sym pc)
    (subst (λ f. Ready f (after_all o.before (stays ++ y ∷ [])) pre' other.next p.reader_context p.stack) (sym (never_first true stays y))
    (subst (λ v. Ready false v pre' other.next p.reader_context p.stack) (sym (after_all-append o.before stays (y ∷ []))) ready))) in (
      flipped r (map thing_of (left ++ y ∷ [])),
      flips_it depth r (map thing_of (left ++ y ∷ [])) (turns' ∙ ap (λ (l : List Thing). Some l) (sym (map-append thing_of left (y ∷ [])))) tells,
      record {
        front = o.front;
        before = o.before;
        early = o.early;
        late = left ++ y ∷ [];
        walks = o.walks;
        done = o.done;
        informed = o.informed;
        held = refl;
        saved = o.saved ∙ ap (map saved_of) late ∙ map-append saved_of left (x ∷ []) ∙ sym (map-append saved_of left (y ∷ []));
        retired = o.retired;
        unretired = map-append block_of left (y ∷ []) ∙ ap (λ l. l ++ b' ∷ []) lefts
            ∙ sym (ap (blocks o₁) turns ∙ blocks-append o₁ others (other ∷ []));
        led = subst (Led true o.before) (sym (joined y)) (led_joined true o.before stays (y ∷ []) (led_fronts true o.before stays (x ∷ []) led)
            ((led_rests true o.before stays (x ∷ []) led).0, tt));
        start = pc ∙ sym (ap (λ (b : BegunBlock). b.start) (ap (λ l. begun (fresh s.start) (s.retired ++ l)) turns
            ∙ begun-append (fresh s.start) s.retired (others ++ other ∷ []) ∙ begun-append o₁ others (other ∷ [])));
        pends = ready';
      },
    )

pub flipped_so : (image : Image) (depth most : ℕ) (closed : List (List RunStep × Closing)) (s : Running) (p : Places) (r : Resolved)
    → IsOpen image closed s p r → ends_in_cond s.held ≡ true → Keeps image depth most (record { closed = closed; current = Some s }) p r effect.Flipped
flipped_so image depth most closed s p r o is =
    let o₁ = begun (fresh s.start) s.retired in
    let end = ends_in_branch s.held is in
    let step = branch end.addr end.ctx end.taken end.next end.link in
    let b = block_with (begun o₁ end.others) end.ctx step in
    let cut = split block_of o.late (blocks o₁ end.others) (b ∷ [])
    (o.unretired ∙ ap (blocks o₁) end.whole ∙ blocks-append o₁ end.others (step ∷ [])) in
    let last = last_row o.late cut.left cut.right b cut.whole cut.rights in
    flipped_by image depth most closed s p r o end.others end.addr end.ctx end.taken end.next end.link cut.left last.0 last.1 end.whole cut.lefts
    last.2
