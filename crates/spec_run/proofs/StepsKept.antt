-- What an event does leaves steps that the image allows.
use Rattle.std.proofs.Common.{◌≡◌, ℕ, zero, suc, ◌+◌, ◌-◌, ◌<◌, ◌%◌, ◌^◌, Bool, true, false, List, [], ◌∷◌, ◌++◌, length, take, drop, refl, sym, ap, subst, ◌∙◌}
use Rattle.std.proofs.Common.{inl, inr, arith, append_assoc, append-nil}
use Rattle.std.proofs.lemmas.List.{take-append-drop}
use Rattle.std.specs.Prelude.{ℤ, pos, ◌+ℤ◌, unsigned_abs}
use lib.IntN.{negsuc}
use Rattle.std.specs.Int.{int_rem_euclid}
use Rattle.std.specs.Option.{option_map}
use Rattle.std.proofs.Common.{Option, Some, None}
use Rattle.a64_branches.specs.Classes.{HasWholeOffset, class_of}
use Rattle.a64_branches.specs.Offsets.{target}
use Rattle.a64_branches.specs.declared.class.Class.{Class}
use Rattle.a64_branches.specs.declared.class.Class.TheVariants as class
use Rattle.a64_branches.proofs.Whole.{aligned_target, whole_offset}
use Rattle.etm_types.specs.declared.context.Ctx.{Ctx}
use Rattle.program_image.specs.Blocks.{behind, class_at}
use Rattle.program_image.specs.Part.{word_of}
use Rattle.program_image.specs.declared.image.Image.{Image}
use Rattle.spec_run.proofs.StepLists.{begun-append, bools, context_behind-append, steps_front, steps_joined, steps_rest}
use Rattle.spec_run.specs.Blocks.{BegunBlock, begun, fresh, grown}
use Rattle.spec_run.specs.Executed.{AreSteps, Executes, IsPlace, IsRunning, IsStep, IsStretch, context_behind}
use Rattle.spec_run.specs.Kinds.{is_cond, is_isb, is_p0_kind}
use Rattle.spec_run.specs.Runs.{Running, begins, cancels, flips, other_next, retires, runs, turn_newest, turned}
use Rattle.spec_run.specs.Steps.{ctx_at, ends_in_cond, ends_in_isb, is_p0, isb_behind, kept, newest, next_behind, pc_at}
use Rattle.spec_run.specs.declared.step.RunStep.{RunStep}
use Rattle.spec_run.specs.declared.step.StepKind.{StepKind}
use Rattle.spec_run.specs.declared.step.StepKind.TheVariants.{Plain, Isb, Jump, Cond, Ind, Eret, Exc}

-- ---- places

within_64 : (z : ℤ) → unsigned_abs (int_rem_euclid z (pos (2 ^ 64))) < 2 ^ 64
within_64 (pos a) = omega arith
within_64 (negsuc a) = omega arith

pub behind_place : (address n : ℕ) → address % 4 ≡ 0 → IsPlace (behind address n)
behind_place address n aligned = (omega arith, omega (arith, aligned))

at_place : (address : ℕ) → IsPlace address → address ≡ behind address 0
at_place address place = omega (arith, place.0)

whole_class : (word : Option ℕ) (c : Class) → option_map class_of word ≡ Some c → HasWholeOffset c
whole_class None c e = absurd cc
whole_class (Some word) c e = let same : class_of word ≡ c = cc in subst HasWholeOffset same (whole_offset word)

pub jump_place : (image : Image) (addr : ℕ) (offset : ℤ) (link : Bool) → IsPlace addr → class_at image addr ≡ Some (class.Jump offset link)
    → IsPlace (target addr offset)
jump_place image addr offset link place e =
    (within_64 (pos addr +ℤ offset), aligned_target addr offset place.1 (whole_class (word_of image addr) (class.Jump offset link) e))

pub cond_place : (image : Image) (addr : ℕ) (offset : ℤ) → addr % 4 ≡ 0 → class_at image addr ≡ Some (class.Cond offset) → IsPlace (target addr offset)
cond_place image addr offset aligned e =
    (within_64 (pos addr +ℤ offset), aligned_target addr offset aligned (whole_class (word_of image addr) (class.Cond offset) e))

begun_place : (image : Image) (o : BegunBlock) (context : Ctx) (steps : List RunStep) → IsPlace o.start → AreSteps image o context steps
    → IsPlace (begun o steps).start
begun_place image o context [] place are = place
begun_place image o context (s ∷ steps) place are = elim (bools (is_p0 s)) [
  | inl p ↦ simp p (begun_place image (fresh s.next) s.ctx steps are.0.next (simp p at are.1))
  | inr p ↦ simp p (begun_place image (record o { plain = o.plain + 1 }) s.ctx steps place (simp p at are.1))
]

-- the core goes on at a place
pub pc_place : (image : Image) (r : Running) → IsRunning image r → IsPlace r.pc
pc_place image r is =
    let o = begun (fresh r.start) (r.retired ++ r.held) in
    subst IsPlace (sym is.pc) (behind_place o.start o.plain (begun_place image (fresh r.start) is.first (r.retired ++ r.held) is.place is.are).1)

-- ---- tracing is turned on

pub begins_so : (image : Image) (addr : ℕ) (ctx : Ctx) → IsPlace addr → IsRunning image (begins addr ctx)
begins_so image addr ctx place = record { first = ctx; place = place; are = tt; pc = at_place addr place; ctx = λ some. refl }

-- ---- a step

-- the image allows the step where the core goes on, and a context only behind a P0 step changes
pub record CanRun (image : Image) (r : Running) (t : RunStep) (ctx : Ctx) : Type 0 where
  pub there : t.addr ≡ r.pc
  pub context : t.ctx ≡ r.ctx
  pub does : Executes image t.kind t
  pub next : IsPlace t.next
  pub same : is_p0 t ≡ false → ctx ≡ t.ctx

-- where a core goes on behind steps
record GoesOn (image : Image) (start : ℕ) (first : Ctx) (steps : List RunStep) (pc : ℕ) (ctx : Ctx) : Type 0 where
  pub are : AreSteps image (fresh start) first steps
  pub at : pc ≡ behind (begun (fresh start) steps).start (begun (fresh start) steps).plain
  pub in_context : 0 < (begun (fresh start) steps).plain → ctx ≡ context_behind first steps

plain_next : (image : Image) (kind : StepKind) (t : RunStep) → Executes image kind t → is_p0_kind kind ≡ false → t.next ≡ behind t.addr 1
plain_next image Plain t does p = does.1
plain_next image Isb t does p = absurd cc
plain_next image Jump t does p = absurd cc
plain_next image (Cond taken) t does p = absurd cc
plain_next image (Ind link) t does p = absurd cc
plain_next image Eret t does p = absurd cc
plain_next image (Exc kind) t does p = absurd cc

grown_at : (o : BegunBlock) (t : RunStep) → t.addr ≡ behind o.start o.plain → (is_p0 t ≡ false → t.next ≡ behind t.addr 1) → IsPlace t.next
    → t.next ≡ behind (grown o t).start (grown o t).plain
grown_at o t at plain place = elim (bools (is_p0 t)) [
  | inl p ↦ simp p (at_place t.next place)
  | inr p ↦
      let next = plain p in
      let far : behind (behind o.start o.plain) 1 ≡ behind o.start (o.plain + 1) = omega arith in
      simp p (next ∙ ap (λ a. behind a 1) at ∙ far)
]

grown_context : (o : BegunBlock) (t : RunStep) (ctx : Ctx) → (is_p0 t ≡ false → ctx ≡ t.ctx) → 0 < (grown o t).plain → ctx ≡ t.ctx
grown_context o t ctx same some = elim (bools (is_p0 t)) [
  | inl p ↦ absurd (let lt : 0 < 0 = simp p at some in omega (arith, lt))
  | inr p ↦ same p
]

one_step : (image : Image) (r : Running) (t : RunStep) (ctx : Ctx) (steps : List RunStep) (first : Ctx) → CanRun image r t ctx
    → GoesOn image r.start first steps r.pc r.ctx → GoesOn image r.start first (steps ++ t ∷ []) t.next ctx
one_step image r t ctx steps first can is =
    let f = fresh r.start in
    let o = begun f steps in
    let there : t.addr ≡ behind o.start o.plain = can.there ∙ is.at in
    let ends : begun f (steps ++ t ∷ []) ≡ grown o t = begun-append f steps (t ∷ []) in
    let step : IsStep image o (context_behind first steps) t =
    record { there = there; same = λ some. can.context ∙ is.in_context some; does = can.does; next = can.next } in
    record {
      are = steps_joined image f first steps (t ∷ []) is.are (step, tt);
      at = grown_at o t there (plain_next image t.kind t can.does) can.next ∙ ap (λ (b : BegunBlock). behind b.start b.plain) (sym ends);
      in_context = λ some. grown_context o t ctx can.same (subst (λ (b : BegunBlock). 0 < b.plain) ends some) ∙ sym (context_behind-append first steps (t ∷ []));
    }

goes_on : (image : Image) (r : Running) (is : IsRunning image r) → GoesOn image r.start is.first (r.retired ++ r.held) r.pc r.ctx
goes_on image r is = record { are = is.are; at = is.pc; in_context = is.ctx }

running : (image : Image) (r : Running) → IsPlace r.start → (first : Ctx) → GoesOn image r.start first (r.retired ++ r.held) r.pc r.ctx → IsRunning image r
running image r place first is = record { first = first; place = place; are = is.are; pc = is.at; ctx = is.in_context }

-- nothing is held at depth 0
abbrev pub IsFlat : ℕ → Running → Type 0
IsFlat depth r = depth ≡ 0 → r.held ≡ []

pub runs_so : (image : Image) (depth : ℕ) (r : Running) (t : RunStep) (ctx : Ctx) → IsFlat depth r → CanRun image r t ctx → IsRunning image r
    → IsRunning image (runs depth r t ctx)
runs_so image zero r t ctx flat can is =
    let more = one_step image r t ctx (r.retired ++ r.held) is.first can (goes_on image r is) in
    let none : r.held ≡ [] = flat refl in
    let same : (r.retired ++ r.held) ++ t ∷ [] ≡ (r.retired ++ t ∷ []) ++ r.held =
    ap (λ l. (r.retired ++ l) ++ t ∷ []) none ∙ ap (λ l. l ++ t ∷ []) (append-nil r.retired) ∙ sym (append-nil (r.retired ++ t ∷ []))
    ∙ ap (λ l. (r.retired ++ t ∷ []) ++ l) (sym none) in
    running image (runs zero r t ctx) is.place is.first (subst (λ l. GoesOn image r.start is.first l t.next ctx) same more)
runs_so image (suc depth) r t ctx flat can is =
    let more = one_step image r t ctx (r.retired ++ r.held) is.first can (goes_on image r is) in
    running image (runs (suc depth) r t ctx) is.place is.first
    (subst (λ l. GoesOn image r.start is.first l t.next ctx) (append_assoc r.retired r.held (t ∷ [])) more)

-- ---- a change of context

p0_isb : (kind : StepKind) → is_isb kind ≡ true → is_p0_kind kind ≡ true
p0_isb Isb e = refl
p0_isb Plain e = absurd cc
p0_isb Jump e = absurd cc
p0_isb (Cond taken) e = absurd cc
p0_isb (Ind link) e = absurd cc
p0_isb Eret e = absurd cc
p0_isb (Exc kind) e = absurd cc

isb_behind-append : (before : Bool) (xs ys : List RunStep) → isb_behind before (xs ++ ys) ≡ isb_behind (isb_behind before xs) ys
isb_behind-append before [] ys = refl
isb_behind-append before (x ∷ xs) ys = isb_behind-append (is_isb x.kind) xs ys

-- the block is fresh behind an ISB
none_plain : (before : Bool) (o : BegunBlock) (steps : List RunStep) → (before ≡ true → o.plain ≡ 0) → isb_behind before steps ≡ true → (begun o steps).plain ≡ 0
none_plain before o [] none e = none e
none_plain before o (s ∷ steps) none e = none_plain (is_isb s.kind) (grown o s) steps (λ isb. simp (p0_isb s.kind isb)) e

pub context_so : (image : Image) (r : Running) (ctx : Ctx) → isb_behind (ends_in_isb r.retired) r.held ≡ true → IsRunning image r
    → IsRunning image (record r { ctx = ctx })
context_so image r ctx isb is =
    let none = none_plain false (fresh r.start) (r.retired ++ r.held) (λ e. absurd cc) (isb_behind-append false r.retired r.held ∙ isb) in
    record { first = is.first; place = is.place; are = is.are; pc = is.pc; ctx = λ some. absurd (omega (arith, some, none)) }

-- ---- a retire

pub retires_so : (image : Image) (r : Running) (n : ℕ) → IsRunning image r → IsRunning image (retires r n)
retires_so image r n is =
    let same : r.retired ++ r.held ≡ (r.retired ++ take n r.held) ++ drop n r.held =
    ap (λ l. r.retired ++ l) (sym (take-append-drop n r.held)) ∙ sym (append_assoc r.retired (take n r.held) (drop n r.held)) in
    record {
      first = is.first;
      place = is.place;
      are = subst (AreSteps image (fresh r.start) is.first) same is.are;
      pc = subst (λ l. r.pc ≡ behind (begun (fresh r.start) l).start (begun (fresh r.start) l).plain) same is.pc;
      ctx = subst (λ l. 0 < (begun (fresh r.start) l).plain → r.ctx ≡ context_behind is.first l) same is.ctx;
    }

-- ---- a cancel

pc_back : (image : Image) (o : BegunBlock) (context : Ctx) (pc : ℕ) (gone : List RunStep) → AreSteps image o context gone
    → pc ≡ behind (begun o gone).start (begun o gone).plain → pc_at pc gone ≡ behind o.start o.plain
pc_back image o context pc [] are e = e
pc_back image o context pc (s ∷ gone) are e = are.0.there

ctx_back : (image : Image) (o : BegunBlock) (context ctx : Ctx) (gone : List RunStep) → AreSteps image o context gone
    → (0 < (begun o gone).plain → ctx ≡ context_behind context gone) → 0 < o.plain → ctx_at ctx gone ≡ context
ctx_back image o context ctx [] are e some = e some
ctx_back image o context ctx (s ∷ gone) are e some = are.0.same some

pub cancels_so : (image : Image) (r : Running) (n : ℕ) → IsRunning image r → IsRunning image (cancels r n)
cancels_so image r n is =
    let keep = kept n r.held in
    let gone = newest n r.held in
    let all = r.retired ++ keep in
    let f = fresh r.start in
    let same : r.retired ++ r.held ≡ all ++ gone =
    ap (λ l. r.retired ++ l) (sym (take-append-drop (length r.held - n) r.held)) ∙ sym (append_assoc r.retired keep gone) in
    let are : AreSteps image f is.first (all ++ gone) = subst (AreSteps image f is.first) same is.are in
    let rest = steps_rest image f is.first all gone are in
    let ends : begun f (r.retired ++ r.held) ≡ begun (begun f all) gone = ap (begun f) same ∙ begun-append f all gone in
    let pc : r.pc ≡ behind (begun (begun f all) gone).start (begun (begun f all) gone).plain =
    subst (λ (b : BegunBlock). r.pc ≡ behind b.start b.plain) ends is.pc in
    let ctx : 0 < (begun (begun f all) gone).plain → r.ctx ≡ context_behind (context_behind is.first all) gone =
    λ some. is.ctx (subst (λ (b : BegunBlock). 0 < b.plain) (sym ends) some) ∙ ap (context_behind is.first) same ∙ context_behind-append is.first all gone in
    record {
      first = is.first;
      place = is.place;
      are = steps_front image f is.first all gone are;
      pc = pc_back image (begun f all) (context_behind is.first all) r.pc gone rest pc;
      ctx = ctx_back image (begun f all) (context_behind is.first all) r.ctx gone rest ctx;
    }

-- ---- a flip

abbrev branch : ℕ → Ctx → Bool → ℕ → Bool → RunStep
branch addr ctx taken next link = record { addr = addr; ctx = ctx; kind = Cond taken; next = next; link = link }

record EndsInBranch (steps : List RunStep) : Type 0 where
  pub others : List RunStep
  pub addr : ℕ
  pub ctx : Ctx
  pub taken : Bool
  pub next : ℕ
  pub link : Bool
  pub whole : steps ≡ others ++ branch addr ctx taken next link ∷ []

which : (kind : StepKind) → is_cond kind ≡ true → (taken : Bool) × (kind ≡ Cond taken)
which (Cond taken) e = (taken, refl)
which Plain e = absurd cc
which Isb e = absurd cc
which Jump e = absurd cc
which (Ind link) e = absurd cc
which Eret e = absurd cc
which (Exc kind) e = absurd cc

with_kind : (s : RunStep) (kind : StepKind) → s.kind ≡ kind → s ≡ record s { kind = kind }
with_kind s kind e = ap (λ k. record s { kind = k }) e

ends_in_branch : (steps : List RunStep) → ends_in_cond steps ≡ true → EndsInBranch steps
ends_in_branch [] e = absurd cc
ends_in_branch (s ∷ []) e =
    let k = which s.kind e in
    record { others = []; addr = s.addr; ctx = s.ctx; taken = k.0; next = s.next; link = s.link; whole = ap (λ t. t ∷ []) (with_kind s (Cond k.0) k.1) }
ends_in_branch (s ∷ t ∷ steps) e =
    let rest = ends_in_branch (t ∷ steps) e in
    record {
      others = s ∷ rest.others;
      addr = rest.addr;
      ctx = rest.ctx;
      taken = rest.taken;
      next = rest.next;
      link = rest.link;
      whole = ap (λ l. s ∷ l) rest.whole;
    }

turn_newest_at : (image : Image) (xs : List RunStep) (s : RunStep) → turn_newest image (xs ++ s ∷ []) ≡ xs ++ turned image s ∷ []
turn_newest_at image [] s = refl
turn_newest_at image (x ∷ []) s = refl
turn_newest_at image (x ∷ y ∷ xs) s = ap (λ l. x ∷ l) (turn_newest_at image (y ∷ xs) s)

next_behind_at : (pc : ℕ) (xs : List RunStep) (s : RunStep) → next_behind pc (xs ++ s ∷ []) ≡ s.next
next_behind_at pc [] s = refl
next_behind_at pc (x ∷ xs) s = next_behind_at x.next xs s

turns_step : (image : Image) (o : BegunBlock) (context : Ctx) (addr : ℕ) (ctx : Ctx) (taken : Bool) (next : ℕ) (link : Bool) → IsPlace o.start
    → IsStep image o context (branch addr ctx taken next link) → IsStep image o context (turned image (branch addr ctx taken next link))
turns_step image o context addr ctx true next link place is =
    let at : addr % 4 ≡ 0 = subst (λ a. a % 4 ≡ 0) (sym is.there) (behind_place o.start o.plain place.1).1 in
    let to : other_next (class_at image addr) true addr ≡ behind addr 1 = ap (λ c. other_next c true addr) is.does.1 in
    record { there = is.there; same = is.same; does = (is.does.0, is.does.1, to, is.does.3); next = subst IsPlace (sym to) (behind_place addr 1 at) }
turns_step image o context addr ctx false next link place is =
    let at : addr % 4 ≡ 0 = subst (λ a. a % 4 ≡ 0) (sym is.there) (behind_place o.start o.plain place.1).1 in
    let to : other_next (class_at image addr) false addr ≡ target addr is.does.0 = ap (λ c. other_next c false addr) is.does.1 in
    record {
      there = is.there;
      same = is.same;
      does = (is.does.0, is.does.1, to, is.does.3);
      next = subst IsPlace (sym to) (cond_place image addr is.does.0 at is.does.1);
    }

pub flips_so : (image : Image) (r : Running) → ends_in_cond r.held ≡ true → IsRunning image r → IsRunning image (flips image r)
flips_so image r ends is =
    let end = ends_in_branch r.held ends in
    let step = branch end.addr end.ctx end.taken end.next end.link in
    let other = turned image step in
    let f = fresh r.start in
    let all = r.retired ++ end.others in
    let joined = λ (t : RunStep). sym (append_assoc r.retired end.others (t ∷ [])) in
    let are : AreSteps image f is.first (all ++ step ∷ []) = subst (AreSteps image f is.first) (ap (λ l. r.retired ++ l) end.whole ∙ joined step) is.are in
    let front = steps_front image f is.first all (step ∷ []) are in
    let last = steps_rest image f is.first all (step ∷ []) are in
    let turns = turns_step image (begun f all) (context_behind is.first all) end.addr end.ctx end.taken end.next end.link
    (begun_place image f is.first all is.place front) last.0 in
    let now : turn_newest image r.held ≡ end.others ++ other ∷ [] = ap (turn_newest image) end.whole ∙ turn_newest_at image end.others step in
    let same : all ++ other ∷ [] ≡ r.retired ++ turn_newest image r.held = sym (joined other) ∙ ap (λ l. r.retired ++ l) (sym now) in
    let ends_at : begun f (r.retired ++ turn_newest image r.held) ≡ fresh other.next = ap (begun f) (sym same) ∙ begun-append f all (other ∷ []) in
    let pc : next_behind r.pc (turn_newest image r.held) ≡ other.next = ap (next_behind r.pc) now ∙ next_behind_at r.pc end.others other in
    record {
      first = is.first;
      place = is.place;
      are = subst (AreSteps image f is.first) same (steps_joined image f is.first all (other ∷ []) front (turns, tt));
      pc = pc ∙ at_place other.next turns.next ∙ ap (λ (b : BegunBlock). behind b.start b.plain) (sym ends_at);
      ctx = λ some. absurd (let lt : 0 < 0 = subst (λ (b : BegunBlock). 0 < b.plain) ends_at some in omega (arith, lt));
    }

-- ---- tracing ends: what is retired is a stretch

pub stretch_so : (image : Image) (r : Running) → IsRunning image r → IsStretch image r.retired
stretch_so image r is = record { start = r.start; first = is.first; place = is.place; are = steps_front image (fresh r.start) is.first r.retired r.held is.are }
