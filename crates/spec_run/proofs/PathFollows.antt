-- A retired path can take the steps that an image allows.
use Rattle.std.proofs.Common.{◌≡◌, ℕ, zero, suc, ◌+◌, ◌-◌, ◌/◌, ◌%◌, ◌^◌, ◌<◌, false, if◌then◌else◌, List, [], ◌∷◌, ◌++◌, length, Option, Some, None, refl, sym}
use Rattle.std.proofs.Common.{ap, subst, ◌∙◌, inl, inr, arith, append_assoc, append-nil}
use Rattle.std.proofs.lemmas.Bool.{cases_lt}
use Rattle.std.specs.Prelude.{map}
use Rattle.std.specs.Option.{option_map}
use Rattle.a64_branches.specs.Classes.{class_of}
use Rattle.a64_branches.specs.declared.class.Class.TheVariants as class
use Rattle.etm_types.specs.Walked.{instructions}
use Rattle.etm_types.specs.declared.context.Ctx.{Ctx}
use Rattle.etm_types.specs.declared.item.Item.{Item}
use Rattle.etm_types.specs.declared.item.Item.TheVariants as item
use Rattle.program_image.specs.Blocks.{HasGap, IsPlainRun, behind, class_at}
use Rattle.program_image.specs.declared.image.Image.{Image}
use Rattle.spec_run.proofs.Shown.{instructions_grow, plain_item, same_instructions}
use Rattle.spec_run.proofs.StepLists.{bools, plain_kind, steps_front, steps_rest}
use Rattle.spec_run.specs.Blocks.{BegunBlock, begun, fresh}
use Rattle.spec_run.specs.Executed.{AreSteps, Executes, IsPlace, context_behind}
use Rattle.spec_run.specs.RetiredItems.{has_p0, item_of}
use Rattle.spec_run.specs.Stands.{Follows, OpenBlock, PathStandsAt, behind_last_p0}
use Rattle.spec_run.specs.Steps.{is_p0}
use Rattle.spec_run.specs.declared.step.RunStep.{RunStep}
use Rattle.spec_run.specs.declared.step.StepKind.TheVariants.{Plain}

-- ---- the steps behind the last P0 step are those of the begun block

all_behind : (steps : List RunStep) → has_p0 steps ≡ false → behind_last_p0 steps ≡ steps
all_behind [] e = refl
all_behind (s ∷ steps) e = simp e

one_begun : (o : BegunBlock) (context : Ctx) (s : RunStep) → o.start < 2 ^ 64 → s.addr ≡ behind o.start o.plain → (0 < o.plain → s.ctx ≡ context) → is_p0 s ≡ false
    → instructions s.ctx o.start (o.plain + 1) false ≡ instructions context o.start o.plain false ++ item_of s ∷ []
one_begun o context s lt there same p =
    instructions_grow s.ctx o.start o.plain false (λ e. lt)
    ∙ ap (λ a. instructions s.ctx o.start o.plain false ++ item.Instr a s.ctx false ∷ []) (sym there)
    ∙ ap (λ i. instructions s.ctx o.start o.plain false ++ i ∷ []) (sym (plain_item s p))
    ∙ ap (λ l. l ++ item_of s ∷ []) (same_instructions o.plain s.ctx context o.start same)

-- the instructions that a block that is begun has before steps, where none of them ends it
abbrev begun_before : BegunBlock → Ctx → List RunStep → List Item
begun_before o context steps = if has_p0 steps then [] else instructions context o.start o.plain false

fresh_before : (start : ℕ) (context : Ctx) (steps : List RunStep) → begun_before (fresh start) context steps ≡ []
fresh_before start context steps = elim (bools (has_p0 steps)) [
  | inl some ↦ simp some
  | inr none ↦ simp none
]

abbrev begun_items : BegunBlock → Ctx → List RunStep → List Item
begun_items o context steps = instructions (context_behind context steps) (begun o steps).start (begun o steps).plain false

begun_shows : (image : Image) (o : BegunBlock) (context : Ctx) (steps : List RunStep) → o.start < 2 ^ 64 → AreSteps image o context steps
    → begun_before o context steps ++ map item_of (behind_last_p0 steps) ≡ begun_items o context steps
begun_shows image o context [] lt are = append-nil (instructions context o.start o.plain false)
begun_shows image o context (s ∷ steps) lt are = elim (bools (is_p0 s)) [
  | inl p ↦
      let rest : AreSteps image (fresh s.next) s.ctx steps = simp p at are.1 in
      let shows = begun_shows image (fresh s.next) s.ctx steps are.0.next.0 rest in
      simp p (ap (λ l. l ++ map item_of (behind_last_p0 steps)) (sym (fresh_before s.next s.ctx steps)) ∙ shows)
  | inr p ↦
      let o' : BegunBlock = record o { plain = o.plain + 1 } in
      let rest : AreSteps image o' s.ctx steps = simp p at are.1 in
      let shows = begun_shows image o' s.ctx steps lt rest in
      elim (bools (has_p0 steps)) [
        | inl some ↦ let e = simp some at shows in simp (p, some) e
        | inr none ↦
            let e : instructions s.ctx o.start (o.plain + 1) false ++ map item_of (behind_last_p0 steps) ≡ begun_items o' s.ctx steps = simp none at shows in
            let one = one_begun o context s lt are.0.there are.0.same p in
            simp (p, none) (
            sym (append_assoc (instructions context o.start o.plain false) (item_of s ∷ []) (map item_of steps))
            ∙ ap (λ l. l ++ map item_of steps) (sym one)
            ∙ ap (λ l. instructions s.ctx o.start (o.plain + 1) false ++ map item_of l) (sym (all_behind steps none)) ∙ e
            )
      ]
]

-- ---- equal instructions

length-instructions : (ctx : Ctx) (start n : ℕ) → length (instructions ctx start n false) ≡ n
length-instructions ctx start zero = refl
length-instructions ctx start (suc n) = ap (λ k. suc k) (length-instructions ctx ((start + 4) % 2 ^ 64) n)

-- the begun block of a retired path is that of its steps
record AreBegun (b : OpenBlock) (o : BegunBlock) (context : Ctx) : Type 0 where
  pub plain : b.plain ≡ o.plain
  pub start : 0 < b.plain → b.start ≡ o.start
  pub ctx : 0 < b.plain → b.ctx ≡ context

same_begun : (bc c : Ctx) (bs s bn n : ℕ) → instructions bc bs bn false ≡ instructions c s n false → 0 < bn → (bs ≡ s) × (bc ≡ c)
same_begun bc c bs s zero n e lt = absurd (omega (arith, lt))
same_begun bc c bs s (suc bn) zero e lt = absurd cc
same_begun bc c bs s (suc bn) (suc n) e lt = (cc, cc)

are_begun : (image : Image) (start : ℕ) (first : Ctx) (steps : List RunStep) (b : OpenBlock) → IsPlace start → AreSteps image (fresh start) first steps
    → PathStandsAt b steps → AreBegun b (begun (fresh start) steps) (context_behind first steps)
are_begun image start first steps b place are at =
    let o = begun (fresh start) steps in
    let c = context_behind first steps in
    let same : instructions b.ctx b.start b.plain false ≡ instructions c o.start o.plain false =
    sym at.begun ∙ ap (λ l. l ++ map item_of (behind_last_p0 steps)) (sym (fresh_before start first steps))
    ∙ begun_shows image (fresh start) first steps place.0 are in
    record {
      plain = sym (length-instructions b.ctx b.start b.plain) ∙ ap length same ∙ length-instructions c o.start o.plain;
      start = λ some. (same_begun b.ctx c b.start o.start b.plain o.plain same some).0;
      ctx = λ some. (same_begun b.ctx c b.start o.start b.plain o.plain same some).1;
    }

pub follows : (image : Image) (start : ℕ) (first : Ctx) (steps more : List RunStep) (step : RunStep) (b : OpenBlock) → IsPlace start
    → AreSteps image (fresh start) first (steps ++ step ∷ more) → PathStandsAt b steps → Follows b step
follows image start first steps more step b place are at some =
    let front = steps_front image (fresh start) first steps (step ∷ more) are in
    let last = steps_rest image (fresh start) first steps (step ∷ more) are in
    let o = begun (fresh start) steps in
    let is = are_begun image start first steps b place front at in
    let there : behind o.start o.plain ≡ behind b.start b.plain =
    ap (λ n. behind o.start n) (sym is.plain) ∙ ap (λ a. behind a b.plain) (sym (is.start some)) in
    (last.0.there ∙ there, last.0.same (subst (λ n. 0 < n) is.plain some) ∙ sym (is.ctx some))

-- ---- plain words come to an end

-- how many words behind an address another one stands
abbrev steps_to : ℕ → ℕ → ℕ
steps_to start address = (address + 2 ^ 64 - start) % 2 ^ 64 / 4

steps_few : (start address : ℕ) → steps_to start address < 2 ^ 62
steps_few start address = omega arith

steps_there : (start address : ℕ) → IsPlace start → IsPlace address → behind start (steps_to start address) ≡ address
steps_there start address s a = omega (arith, s.0, s.1, a.0, a.1)

none_there : (word : Option ℕ) → word ≡ None → option_map class_of word ≡ Some class.Plain → ⊥
none_there word e p = absurd (let f = simp e at p in cc)

few_plain : (image : Image) → HasGap image → (start n : ℕ) → IsPlace start → IsPlainRun image start n → n < 2 ^ 62
few_plain image gap start n place run = elim (cases_lt n (2 ^ 62)) [
  | inl lt ↦ lt
  | inr long ↦
      let j = steps_to start gap.address in
      let few = steps_few start gap.address in
      let there = steps_there start gap.address place (gap.within, gap.aligned) in
      let plain = run j (omega (arith, long, few)) in
      absurd (none_there _ gap.none (subst (λ a. class_at image a ≡ Some class.Plain) there plain))
]

grows_run : (image : Image) (start n : ℕ) → IsPlainRun image start n → class_at image (behind start n) ≡ Some class.Plain → IsPlainRun image start (n + 1)
grows_run image start n run here k lt = elim (cases_lt k n) [
  | inl l ↦ run k l
  | inr g ↦ subst (λ m. class_at image (behind start m) ≡ Some class.Plain) (omega (arith, lt, g)) here
]

no_run : (image : Image) (start : ℕ) → IsPlainRun image start 0
no_run image start k lt = absurd (omega (arith, lt))

record IsBegun (image : Image) (o : BegunBlock) : Type 0 where
  pub place : IsPlace o.start
  pub run : IsPlainRun image o.start o.plain

begun_is : (image : Image) (o : BegunBlock) (context : Ctx) (steps : List RunStep) → IsBegun image o → AreSteps image o context steps → IsBegun image (begun o steps)
begun_is image o context [] is are = is
begun_is image o context (s ∷ steps) is are = elim (bools (is_p0 s)) [
  | inl p ↦
      let rest : AreSteps image (fresh s.next) s.ctx steps = simp p at are.1 in
      simp p (begun_is image (fresh s.next) s.ctx steps (record { place = are.0.next; run = no_run image s.next }) rest)
  | inr p ↦
      let o' : BegunBlock = record o { plain = o.plain + 1 } in
      let rest : AreSteps image o' s.ctx steps = simp p at are.1 in
      let does : Executes image Plain s = subst (λ k. Executes image k s) (plain_kind s.kind p) are.0.does in
      let here : class_at image (behind o.start o.plain) ≡ Some class.Plain = subst (λ a. class_at image a ≡ Some class.Plain) are.0.there does.0 in
      simp p (begun_is image o' s.ctx steps (record { place = is.place; run = grows_run image o.start o.plain is.run here }) rest)
]

pub few : (image : Image) (start : ℕ) (first : Ctx) (steps more : List RunStep) (b : OpenBlock) → HasGap image → IsPlace start
    → AreSteps image (fresh start) first (steps ++ more) → PathStandsAt b steps → b.plain < 2 ^ 62
few image start first steps more b gap place are at =
    let front = steps_front image (fresh start) first steps more are in
    let is = begun_is image (fresh start) first steps (record { place = place; run = no_run image start }) front in
    let plain = few_plain image gap (begun (fresh start) steps).start (begun (fresh start) steps).plain is.place is.run in
    subst (λ n. n < 2 ^ 62) (sym (are_begun image start first steps b place front at).plain) plain
