-- Plain steps one after the other: each of them is accepted, and where the run is behind them.
use Rattle.std.proofs.Common.{◌≡◌, ℕ, zero, suc, ◌+◌, ◌-◌, ◌*◌, ◌%◌, ◌^◌, ◌<◌, ◌≤◌, true, false, if◌then◌else◌, List, [], ◌∷◌, ◌++◌, length}
use Rattle.std.proofs.Common.{Option, Some, None, refl, sym, ap, subst, ◌∙◌, inl, inr, arith, append_assoc, append-nil, length-append}
use mir.Val.{bool_byte}
use Rattle.std.proofs.Math.Nat.{min-le_left, min-le_right}
use Rattle.std.proofs.lemmas.Bool.Decides.{nat_tests}
use Rattle.std.specs.Prelude.{◌==◌, min, nat_lt, replicate, ⊤}
use Rattle.std.specs.Option.{option_map}
use Rattle.a64_branches.specs.declared.class.Class.TheVariants as class
use Rattle.etm_types.specs.Settings.{Sizes}
use Rattle.etm_types.specs.declared.context.Ctx.{Ctx}
use Rattle.program_image.specs.Blocks.{IsPlainRun, behind, class_at}
use Rattle.program_image.specs.declared.image.Image.{Image}
use Rattle.spec_run.specs.Checks.{Situation, check, effect_of, executed, held_at, ran_by, room_fault, step_at, step_fault, unless, window}
use Rattle.spec_run.specs.Effects.{place_after}
use Rattle.spec_run.specs.ManySteps.{AllPass, IsStepCount, begun_behind_all, place_after_all, plain_step, plain_steps, room_for_steps}
use Rattle.spec_run.specs.RetiredItems.{stretch_items}
use Rattle.spec_run.specs.RunAfter.{run_after}
use Rattle.spec_run.specs.Stands.{Follows, Kept, OpenBlock, PathStandsAt, StandsAt, begun_behind, start_with}
use Rattle.spec_run.specs.Steps.{is_p0, p0s}
use Rattle.spec_run.specs.Windows.{place_of_standing, place_stepped, place_stepped_all}
use Rattle.spec_run.specs.declared.effect.Effect.TheVariants as effect
use Rattle.spec_run.specs.declared.event.Event.{Event}
use Rattle.spec_run.specs.declared.event.Event.TheVariants as event
use Rattle.spec_run.specs.declared.run_fault.RunFault.{RunFault}
use Rattle.spec_run.specs.declared.run_fault.RunFault.TheVariants as fault
use Rattle.spec_run.specs.declared.standing.Standing.{Standing}
use Rattle.spec_run.specs.declared.step.RunStep.{RunStep}
use Rattle.spec_run.specs.declared.step.StepKind.TheVariants.{Plain}
use Rattle.spec_run.proofs.Held.{p0s_pushed}
use Rattle.spec_run.proofs.OneEvent.{stands_behind}
use Rattle.spec_run.proofs.PathTaken.{plain_grows, stands_behind as path_behind}

-- ---- one step

has_room : (n m : ℕ) (fault : RunFault) → n < m → unless (nat_lt n m) fault ≡ None
has_room n m fault lt = let test : nat_lt n m ≡ true = grind (arith, nat_tests, lt) in ap (λ b. unless b fault) test

plain_room : (depth : ℕ) (p : Situation) → length p.held < window → room_fault depth p.held (plain_step p.pc p.ctx) ≡ None
plain_room zero p lt = has_room (length p.held) window fault.WindowFull lt
plain_room (suc depth) p lt = has_room (length p.held) window fault.WindowFull lt

-- at a plain word, a step with room passes its checks
pub step_passes : (image : Image) (depth : ℕ) (p : Situation) → class_at image p.pc ≡ Some class.Plain → length p.held < window
    → check image depth (Some p) event.Step ≡ None
step_passes image depth p at lt = ap (λ c. step_fault depth c p event.Step) at ∙ plain_room depth p lt

pub step_does : (image : Image) (p : Situation) → class_at image p.pc ≡ Some class.Plain
    → effect_of image (Some p) event.Step ≡ effect.Ran (plain_step p.pc p.ctx) p.ctx
step_does image p at = ap (λ c. ran_by (executed c p event.Step)) at

-- ---- so many

-- each of them stands at a plain word, and there is room for it
abbrev pub CanStep : Image → ℕ → Situation → ℕ → Type 0
CanStep image depth p zero = ⊤
CanStep image depth p (suc n) = (class_at image p.pc ≡ Some class.Plain) × (length p.held < window) × CanStep image depth (place_stepped depth p) n

-- so many steps more are held together; at depth 0 none is
abbrev pub HasSpace : ℕ → List RunStep → ℕ → Type 0
HasSpace zero held n = length held < window
HasSpace (suc depth) held n = length held + n ≤ window

behind_none : (a : ℕ) → a < 2 ^ 64 → behind a 0 ≡ a
behind_none a lt = omega (arith, lt)

pub behind_more : (a n m : ℕ) → behind (behind a n) m ≡ behind a (n + m)
behind_more a n m = omega arith

behind_within : (a n : ℕ) → behind a n < 2 ^ 64
behind_within a n = omega arith

first_plain : (image : Image) (a n : ℕ) → a < 2 ^ 64 → IsPlainRun image a (suc n) → class_at image a ≡ Some class.Plain
first_plain image a n lt run = subst (λ b. class_at image b ≡ Some class.Plain) (behind_none a lt) (run 0 (omega arith))

rest_plain : (image : Image) (a n : ℕ) → IsPlainRun image a (suc n) → IsPlainRun image (behind a 1) n
rest_plain image a n run k lt =
    subst (λ b. class_at image b ≡ Some class.Plain) (sym (behind_more a 1 k)) (run (1 + k) (omega (arith, lt)))

pub can_step : (image : Image) (depth : ℕ) (p : Situation) (n : ℕ) → p.pc < 2 ^ 64 → IsPlainRun image p.pc n → HasSpace depth p.held n → CanStep image depth p n
can_step image depth p zero lt run room = tt
can_step image zero p (suc n) lt run room = (
  first_plain image p.pc n lt run,
  room,
  can_step image zero (place_stepped zero p) n (behind_within p.pc 1) (rest_plain image p.pc n run) room,
)
can_step image (suc depth) p (suc n) lt run room =
    let size = length-append p.held (plain_step p.pc p.ctx ∷ []) in (
      first_plain image p.pc n lt run,
      omega (arith, room),
      can_step image (suc depth) (place_stepped (suc depth) p) n (behind_within p.pc 1) (rest_plain image p.pc n run) (omega (arith, room, size)),
    )

pub can_pass : (image : Image) (depth : ℕ) (p : Situation) (n : ℕ) → CanStep image depth p n → AllPass image depth (Some p) (replicate n event.Step)
can_pass image depth p zero can = tt
can_pass image depth p (suc n) can = (
  step_passes image depth p can.0 can.1,
  subst (λ does. AllPass image depth (place_after image depth (Some p) does) (replicate n event.Step)) (sym (step_does image p can.0))
      (can_pass image depth (place_stepped depth p) n can.2),
)

step_first : (depth : ℕ) (p : Situation) (n : ℕ) → place_stepped_all depth (place_stepped depth p) n ≡ place_stepped_all depth p (suc n)
step_first depth p zero = refl
step_first depth p (suc n) = ap (place_stepped depth) (step_first depth p n)

pub steps_there : (image : Image) (depth : ℕ) (p : Situation) (n : ℕ) → CanStep image depth p n
    → place_after_all image depth (Some p) (replicate n event.Step) ≡ Some (place_stepped_all depth p n)
steps_there image depth p zero can = refl
steps_there image depth p (suc n) can =
    ap (λ does. place_after_all image depth (place_after image depth (Some p) does) (replicate n event.Step)) (step_does image p can.0)
    ∙ steps_there image depth (place_stepped depth p) n can.2 ∙ ap (λ (q : Situation). Some q) (step_first depth p n)

-- ---- events behind others

pub stands_behind_all : (image : Image) (s : Sizes) (kept now : Kept) (events more : List Event) → StandsAt image s kept events
    → AllPass image kept.depth kept.place more → now.depth ≡ kept.depth → now.place ≡ place_after_all image kept.depth kept.place more
    → StandsAt image s now (events ++ more)
stands_behind_all image s kept now events [] st pass same place = record {
  depth = same ∙ st.depth;
  execution = st.execution;
  after = ap (run_after image s.depth) (append-nil events) ∙ st.after;
  place = place ∙ st.place;
}
stands_behind_all image s kept now events (e ∷ more) st pass same place =
    let next : Kept = record { depth = kept.depth; place = place_after image kept.depth kept.place (effect_of image kept.place e) } in
    let one = stands_behind image s kept next events e st pass.0 refl refl in
    subst (StandsAt image s now) (append_assoc events (e ∷ []) more) (stands_behind_all image s next now (events ++ e ∷ []) more one pass.1 same place)

-- ---- at depth 0

pub passed_there : (p : Situation) (n : ℕ) → place_stepped_all 0 p (suc n) ≡ record p { after_isb = false; pc = behind p.pc (suc n) }
passed_there p zero = refl
passed_there p (suc n) =
    let led : behind (behind p.pc (suc n)) 1 ≡ behind p.pc (suc (suc n)) = omega arith in
    ap (place_stepped 0) (passed_there p n) ∙ ap (λ a. record p { after_isb = false; pc = a }) led

pub passed_many : (depth : ℕ) (place : Option Situation) (p : Situation) (n count : ℕ) → depth ≡ 0 → place ≡ Some p → count ≡ n → 0 < n
    → Some (record p { after_isb = false; pc = (p.pc + count * 4) % 2 ^ 64 }) ≡ option_map (λ (p : Situation). place_stepped_all depth p n) place
passed_many depth place p zero count flat is same some = absurd (omega (arith, some))
passed_many depth place p (suc n) count flat is same some =
    let led : (p.pc + count * 4) % 2 ^ 64 ≡ behind p.pc (suc n) = omega (arith, same) in
    let there = ap (λ (a : ℕ). record p { after_isb = false; pc = a }) led ∙ sym (passed_there p n) in
    ap (λ (q : Situation). Some q) there ∙ ap (λ (d : ℕ). Some (place_stepped_all d p (suc n))) (sym flat)
    ∙ ap (option_map (λ (p : Situation). place_stepped_all depth p (suc n))) (sym is)

-- ---- at another depth

-- one step more is held
pub held_more : (depth next : ℕ) (q : Situation) (st : Standing) (held after : List RunStep) (s : RunStep) → 0 < depth → place_of_standing st held ≡ q
    → s ≡ step_at (place_of_standing st held) Plain next false → next ≡ behind st.pc 1 → after ≡ held ++ s ∷ []
    → place_of_standing (record st { pc = next }) after ≡ place_stepped depth q
held_more zero next q st held after s deep at same led more = absurd (omega (arith, deep))
held_more (suc depth) next q st held after s deep at same led more = rw (← at, more, same, led) refl

pub stepped_more : (depth : ℕ) (p : Situation) (n m : ℕ) → m ≡ suc n → place_stepped depth (place_stepped_all depth p n) ≡ place_stepped_all depth p m
stepped_more depth p n m e = ap (place_stepped_all depth p) (sym e)

pub held_size : {X : Type 0} (held after : List X) (s : X) → after ≡ held ++ s ∷ [] → length after ≡ length held + 1
held_size held after s same = ap length same ∙ length-append held (s ∷ [])

pub plain_counts : (p : Situation) (steps : List RunStep) (s : RunStep) (next : ℕ) → s ≡ step_at p Plain next false → p0s (steps ++ s ∷ []) ≡ p0s steps
plain_counts p steps s next same =
    let none : bool_byte (is_p0 s) ≡ 0 = ap (λ (t : RunStep). bool_byte (is_p0 t)) same in
    p0s_pushed steps s ∙ omega (arith, none)

-- ---- as many as are counted

pub count_room : (image : Image) (depth asked count : ℕ) (place : Option Situation) → IsStepCount image depth place asked count → 0 < depth
    → length (held_at place) ≤ window → length (held_at place) + count ≤ window
count_room image depth asked count None is deep few = omega (arith, is, few)
count_room image zero asked count (Some p) is deep few = absurd (omega (arith, deep))
count_room image (suc depth) asked count (Some p) (inl is) deep few =
    let least = is.least in
    let a = min-le_right is.block.plain (min asked (window - length p.held)) in
    let b = min-le_right asked (window - length p.held) in
    omega (arith, least, a, b, few)
count_room image (suc depth) asked count (Some p) (inr none) deep few = let z = none.1 in omega (arith, z, few)

room_within : (depth : ℕ) (held : List RunStep) (n : ℕ) → room_for_steps depth held n ≤ n
room_within zero held n = omega arith
room_within (suc depth) held n = min-le_left n (window - length held)

pub count_within : (image : Image) (depth asked count : ℕ) (place : Option Situation) → IsStepCount image depth place asked count → count ≤ asked
count_within image depth asked count None is = omega (arith, is)
count_within image depth asked count (Some p) (inl is) =
    let least = is.least in
    let a = min-le_right is.block.plain (room_for_steps depth p.held asked) in
    let b = room_within depth p.held asked in
    omega (arith, least, a, b)
count_within image depth asked count (Some p) (inr none) = let z = none.1 in omega (arith, z)

space : (depth count : ℕ) (held : List RunStep) → (depth ≡ 0 → length held < window) → (0 < depth → length held + count ≤ window) → HasSpace depth held count
space zero count held flat deep = flat refl
space (suc depth) count held flat deep = deep (omega arith)

plain_front : (image : Image) (a n m : ℕ) → m ≤ n → IsPlainRun image a n → IsPlainRun image a m
plain_front image a n m le run k lt = run k (omega (arith, le, lt))

pub count_steps : (image : Image) (depth asked count : ℕ) (p : Situation) → IsStepCount image depth (Some p) asked count
    → (depth ≡ 0 → length p.held < window) → length p.held ≤ window → CanStep image depth p count
count_steps image depth asked count p (inl is) flat few =
    let least = is.least in
    let a = min-le_left is.block.plain (room_for_steps depth p.held asked) in
    can_step image depth p count is.place.0 (plain_front image p.pc is.block.plain count (omega (arith, least, a)) is.is.plain)
    (space depth count p.held flat (λ deep. count_room image depth asked count (Some p) (inl is) deep few))
count_steps image depth asked count p (inr none) flat few = subst (CanStep image depth p) (sym none.1) tt

-- at depth 0 nothing is held
pub flat_room : (depth : ℕ) (held : List RunStep) → (depth ≡ 0 → held ≡ []) → depth ≡ 0 → length held < window
flat_room depth held flat e = let none = ap length (flat e) in omega (arith, none)

-- and so are the events accepted, and the run is behind them
pub record Steps (image : Image) (depth : ℕ) (place : Option Situation) (count : ℕ) : Type 0 where
  pub pass : AllPass image depth place (replicate count event.Step)
  pub there : place_after_all image depth place (replicate count event.Step) ≡ option_map (λ (p : Situation). place_stepped_all depth p count) place

pub counted : (image : Image) (depth asked count : ℕ) (place : Option Situation) → IsStepCount image depth place asked count
    → (depth ≡ 0 → length (held_at place) < window) → length (held_at place) ≤ window → Steps image depth place count
counted image depth asked count None is flat few =
    subst (Steps image depth None) (sym is) (record { pass = tt; there = refl })
counted image depth asked count (Some p) is flat few =
    let can = count_steps image depth asked count p is flat few in
    record { pass = can_pass image depth p count can; there = steps_there image depth p count can }

-- a run that moved on by them
pub record Moved (image : Image) (kept now : Kept) (count : ℕ) : Type 0 where
  pub stands : (s : Sizes) (events : List Event) → StandsAt image s kept events → StandsAt image s now (events ++ replicate count event.Step)
  pub pass : AllPass image kept.depth kept.place (replicate count event.Step)
  pub there : now.place ≡ place_after_all image kept.depth kept.place (replicate count event.Step)

pub moved : (image : Image) (kept now : Kept) (asked count : ℕ) → IsStepCount image kept.depth kept.place asked count
    → (kept.depth ≡ 0 → held_at kept.place ≡ []) → length (held_at kept.place) ≤ window → now.depth ≡ kept.depth
    → now.place ≡ option_map (λ (p : Situation). place_stepped_all kept.depth p count) kept.place → Moved image kept now count
moved image kept now asked count is flat few same place =
    let steps = counted image kept.depth asked count kept.place is (flat_room kept.depth (held_at kept.place) flat) few in
    let there = place ∙ sym steps.there in record {
      stands = λ s events st. stands_behind_all image s kept now events (replicate count event.Step) st steps.pass same there;
      pass = steps.pass;
      there = there;
    }

-- ---- of steps that pass their checks, each is plain

-- a step of a plain word is done
pub record IsPlainStep (image : Image) (place : Option Situation) : Type 0 where
  pub at : Situation
  pub there : place ≡ Some at
  pub does : effect_of image place event.Step ≡ effect.Ran (plain_step at.pc at.ctx) at.ctx

abbrev pub ArePlain : Image → ℕ → Option Situation → ℕ → Type 0
ArePlain image depth place zero = ⊤
ArePlain image depth place (suc n) =
    (check image depth place event.Step ≡ None)
    × IsPlainStep image place
    × ArePlain image depth (place_after image depth place (effect_of image place event.Step)) n

pub led_on : (depth : ℕ) (p : Situation) → behind p.pc 1 ≡ (place_stepped depth p).pc
led_on zero p = refl
led_on (suc depth) p = refl

plain_all : (image : Image) (depth : ℕ) (p : Situation) (n : ℕ) → p.pc < 2 ^ 64 → IsPlainRun image p.pc n
    → AllPass image depth (Some p) (replicate n event.Step) → ArePlain image depth (Some p) n
plain_all image depth p zero lt run pass = tt
plain_all image depth p (suc n) lt run pass =
    let does = step_does image p (first_plain image p.pc n lt run) in
    let more = subst (λ e. AllPass image depth (place_after image depth (Some p) e) (replicate n event.Step)) does pass.1 in
    let on = led_on depth p in
    let rest =
    plain_all image depth (place_stepped depth p) n (subst (λ a. a < 2 ^ 64) on (behind_within p.pc 1))
    (subst (λ a. IsPlainRun image a n) on (rest_plain image p.pc n run)) more in (
      pass.0,
      record { at = p; there = refl; does = does },
      subst (λ e. ArePlain image depth (place_after image depth (Some p) e) n) (sym does) rest,
    )

pub counted_plain : (image : Image) (depth asked count : ℕ) (place : Option Situation) → IsStepCount image depth place asked count
    → AllPass image depth place (replicate count event.Step) → ArePlain image depth place count
counted_plain image depth asked count None is pass = subst (ArePlain image depth None) (sym is) tt
counted_plain image depth asked count (Some p) (inl is) pass =
    let least = is.least in
    let a = min-le_left is.block.plain (room_for_steps depth p.held asked) in
    plain_all image depth p count is.place.0 (plain_front image p.pc is.block.plain count (omega (arith, least, a)) is.is.plain) pass
counted_plain image depth asked count (Some p) (inr none) pass = subst (ArePlain image depth (Some p)) (sym none.1) tt

-- ---- a retired path

next_there : (plain start addr : ℕ) → (0 < plain → addr ≡ behind start plain) → behind addr 1 ≡ behind (if plain == 0 then addr else start) (plain + 1)
next_there zero start addr h = refl
next_there (suc plain) start addr h =
    let test : (suc plain == 0) ≡ false = grind (arith, nat_tests) in
    let there = h (omega arith) in
    let led : behind addr 1 ≡ behind start (suc plain + 1) = omega (arith, there) in
    simp test led

plain_follows : (b : OpenBlock) (addr : ℕ) (ctx : Ctx) → Follows b (plain_step addr ctx)
    → Follows (begun_behind b (plain_step addr ctx)) (plain_step (behind addr 1) ctx)
plain_follows b addr ctx follows some = (next_there b.plain b.start addr (λ lt. (follows lt).0), refl)

pub path_stands : (b : OpenBlock) (addr : ℕ) (ctx : Ctx) (n : ℕ) (steps : List RunStep) → (0 < n → Follows b (plain_step addr ctx)) → PathStandsAt b steps
    → PathStandsAt (begun_behind_all b (plain_steps addr ctx n)) (steps ++ plain_steps addr ctx n)
path_stands b addr ctx zero steps follows at = subst (PathStandsAt b) (sym (append-nil steps)) at
path_stands b addr ctx (suc n) steps follows at =
    let s = plain_step addr ctx in
    let first = follows (omega arith) in
    let rest = path_stands (begun_behind b s) (behind addr 1) ctx n (steps ++ s ∷ []) (λ lt. plain_follows b addr ctx first) (path_behind b s steps first at) in
    subst (PathStandsAt (begun_behind_all b (plain_steps addr ctx (suc n)))) (append_assoc steps (s ∷ []) (plain_steps (behind addr 1) ctx n)) rest

pub path_shows : (addr : ℕ) (ctx : Ctx) (n : ℕ) (steps : List RunStep) → stretch_items (steps ++ plain_steps addr ctx n) ≡ stretch_items steps
path_shows addr ctx zero steps = ap stretch_items (append-nil steps)
path_shows addr ctx (suc n) steps =
    let s = plain_step addr ctx in
    ap stretch_items (sym (append_assoc steps (s ∷ []) (plain_steps (behind addr 1) ctx n)))
    ∙ path_shows (behind addr 1) ctx n (steps ++ s ∷ []) ∙ plain_grows steps s refl

-- behind some plain steps, the block starts where it did, or at the first of them
start_kept : (n addr start : ℕ) → (if n + 1 == 0 then addr else start) ≡ start
start_kept n addr start = let test : (n + 1 == 0) ≡ false = grind (arith, nat_tests) in simp test

pub begun_plain : (b : OpenBlock) (addr : ℕ) (ctx : Ctx) (n : ℕ) → begun_behind_all b (plain_steps addr ctx (suc n))
    ≡ record { first = b.first; start = start_with b (plain_step addr ctx); plain = b.plain + suc n; ctx = ctx }
begun_plain b addr ctx zero = refl
begun_plain b addr ctx (suc n) =
    let next = begun_behind b (plain_step addr ctx) in
    let count : b.plain + 1 + suc n ≡ b.plain + suc (suc n) = omega arith in
    let kept = start_kept b.plain (behind addr 1) next.start in
    begun_plain next (behind addr 1) ctx n
    ∙ ap (λ (o : OpenBlock). o) (λ k. record { first = b.first; start = kept k; plain = count k; ctx = ctx })

pub begun_many : (b : OpenBlock) (addr start count : ℕ) (ctx : Ctx) (n : ℕ) → (n ≡ 0 → ⊥) → count ≡ n → start ≡ start_with b (plain_step addr ctx)
    → record { first = b.first; start = start; plain = b.plain + count; ctx = ctx } ≡ begun_behind_all b (plain_steps addr ctx n)
begun_many b addr start count ctx zero some same from = absurd (some refl)
begun_many b addr start count ctx (suc n) some same from =
    ap (λ (o : OpenBlock). o) (λ k. record { first = b.first; start = from k; plain = b.plain + same k; ctx = ctx }) ∙ sym (begun_plain b addr ctx n)

pub starts_here : (plain addr start : ℕ) → plain ≡ 0 → addr ≡ (if plain == 0 then addr else start)
starts_here plain addr start none = rw none refl

pub starts_before : (plain addr start : ℕ) → (plain ≡ 0 → ⊥) → start ≡ (if plain == 0 then addr else start)
starts_before zero addr start some = absurd (some refl)
starts_before (suc plain) addr start some = let test : (suc plain == 0) ≡ false = grind (arith, nat_tests) in simp test
