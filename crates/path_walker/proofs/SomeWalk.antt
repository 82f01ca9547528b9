-- Over an image that has a gap, each entry has a walk.
use Rattle.std.proofs.Common.{◌≡◌, ◌≢◌, ◌⊎◌, ℕ, ◌+◌, ◌^◌, Bool, true, false, List, [], ◌∷◌, Option, Some, None, Ok, Err, refl, sym, ◌∙◌, inl, inr, arith}
use Rattle.std.specs.Prelude.{◌==◌, ◌||◌, if◌then◌else◌}
use Rattle.std.proofs.lemmas.Bool.{eqb-true, eq-eqb}
use Rattle.std.proofs.lemmas.List.Elements.{All-drop}
use Rattle.a64_branches.specs.declared.class.Class.{Class}
use Rattle.a64_branches.specs.declared.class.Class.TheVariants.{Plain, Jump, Cond, Isb, Ind, Eret, Odd}
use Rattle.program_image.specs.Blocks.{class_at, behind, HasGap}
use Rattle.program_image.specs.declared.image.Image.{Image}
use Rattle.path_walker.proofs.Gap.{run_short}
use Rattle.etm_types.specs.declared.element.P0.{P0}
use Rattle.etm_types.specs.declared.element.P0.TheVariants.{Atom, Exc}
use Rattle.etm_types.specs.declared.element.Pre.{Pre}
use Rattle.etm_types.specs.declared.element.Entry.{Entry}
use Rattle.etm_types.specs.declared.walk_fault.WalkFault.{WalkFault}
use Rattle.etm_types.specs.declared.walk_fault.WalkFault.TheVariants as fault
use Rattle.path_walker.specs.declared.pc.Pc.{Pc}
use Rattle.path_walker.specs.declared.pc.Pc.TheVariants.{Known, Awaited, Lost}
use Rattle.path_walker.specs.State.{State, IsState, IsAligned, IsPc}
use Rattle.path_walker.specs.Start.{Start, start_of, start_by, untold, emptied, pc_before, stack_before, mismatch_of}
use Rattle.path_walker.specs.Steps.{next_of, stack_after}
use Rattle.path_walker.specs.Walk.{Refuses, Misses, IsWalk, ToldIsAligned, HasAlignedAddresses}
use Rattle.path_walker.proofs.Search.{cases, first, First, Below}
use Rattle.path_walker.proofs.OneWalk.{Led, IsLed, Walk, shown}
use Rattle.path_walker.proofs.Stacks.{AreReturns, nothing}

some_or_none : {X : Type 0} (o : Option X) → ((x : X) × (o ≡ Some x)) ⊎ (o ≡ None)
some_or_none None = inr refl
some_or_none (Some x) = inl (x, refl)

plain_or_not : (c : Option Class) → (c ≡ Some Plain) ⊎ (c ≢ Some Plain)
plain_or_not None = inr (λ e. cc)
plain_or_not (Some Plain) = inl refl
plain_or_not (Some Odd) = inr (λ e. cc)
plain_or_not (Some (Jump offset link)) = inr (λ e. cc)
plain_or_not (Some (Cond offset)) = inr (λ e. cc)
plain_or_not (Some Isb) = inr (λ e. cc)
plain_or_not (Some (Ind link)) = inr (λ e. cc)
plain_or_not (Some Eret) = inr (λ e. cc)

-- ---- after plain words

abbrev GoesOrNot : Option Class → ℕ → Bool → Type 0
GoesOrNot c at taken =
    ((class : Class) × (pc : Pc) × (c ≡ Some class) × (next_of class at taken ≡ Some pc)) ⊎ ((f : WalkFault) × Refuses c at taken f)

goes_or_not : (c : Option Class) (at : ℕ) (taken : Bool) → c ≢ Some Plain → GoesOrNot c at taken
goes_or_not None at taken not = inr (fault.NoCode at, refl)
goes_or_not (Some Plain) at taken not = absurd (not refl)
goes_or_not (Some Odd) at taken not = inr (fault.Odd at, refl)
goes_or_not (Some (Jump offset link)) at taken not =
    elim (some_or_none (next_of (Jump offset link) at taken))
    [ inl p ↦ inl (Jump offset link, p.0, refl, p.1) | inr none ↦ inr (fault.BadAtom at, (none, refl)) ]
goes_or_not (Some (Cond offset)) at taken not =
    elim (some_or_none (next_of (Cond offset) at taken)) [ inl p ↦ inl (Cond offset, p.0, refl, p.1) | inr none ↦ inr (fault.BadAtom at, (none, refl)) ]
goes_or_not (Some Isb) at taken not = elim (some_or_none (next_of Isb at taken))
    [ inl p ↦ inl (Isb, p.0, refl, p.1) | inr none ↦ inr (fault.BadAtom at, (none, refl)) ]
goes_or_not (Some (Ind link)) at taken not =
    elim (some_or_none (next_of (Ind link) at taken)) [ inl p ↦ inl (Ind link, p.0, refl, p.1) | inr none ↦ inr (fault.BadAtom at, (none, refl)) ]
goes_or_not (Some Eret) at taken not = elim (some_or_none (next_of Eret at taken))
    [ inl p ↦ inl (Eret, p.0, refl, p.1) | inr none ↦ inr (fault.BadAtom at, (none, refl)) ]

misses : (c : Option Class) (at ret : ℕ) → c ≢ Some Plain → (f : WalkFault) × Misses c at ret f
misses None at ret not = (fault.NoCode at, refl)
misses (Some Plain) at ret not = absurd (not refl)
misses (Some Odd) at ret not = (fault.Odd at, refl)
misses (Some (Jump offset link)) at ret not = (fault.ReturnMissed at ret, refl)
misses (Some (Cond offset)) at ret not = (fault.ReturnMissed at ret, refl)
misses (Some Isb) at ret not = (fault.ReturnMissed at ret, refl)
misses (Some (Ind link)) at ret not = (fault.ReturnMissed at ret, refl)
misses (Some Eret) at ret not = (fault.ReturnMissed at ret, refl)

module _ (image : Image) (address : ℕ) (gap : HasGap image) (aligned : IsAligned address) (stack : List ℕ) where
  abbrev IsPlain : ℕ → Type 0
  IsPlain k = class_at image (behind address k) ≡ Some Plain

  abbrev IsBefore : ℕ → ℕ → Type 0
  IsBefore ret k = (behind address k ≢ ret) × IsPlain k

  nothing_below : (P : ℕ → Type 0) → Below P 0
  nothing_below P k lt = absurd (omega arith)

  some_atom : (taken : Bool) → (led : Led) × IsLed image (Some address) stack (Atom taken) led
  some_atom taken =
      let f : First IsPlain =
      first IsPlain (2 ^ 62) (λ k. plain_or_not (class_at image (behind address k))) (λ k run. run_short image address k aligned gap run) (2 ^ 62) 0 refl
      (nothing_below IsPlain) in
      let at = behind address f.n in
      elim (goes_or_not (class_at image at) at taken f.not) [
        | inl g ↦ (
          Ok (f.n + 1, g.1, stack_after g.0 at stack),
          record
              { plain = f.n; class = g.0; run = f.below; there = g.2; next = g.3; counted = refl; kept = refl },
        )
        | inr r ↦ (Err r.0, (f.n, f.below, r.1))
      ]

  before_or_not : (ret k : ℕ) → IsBefore ret k ⊎ (IsBefore ret k → ⊥)
  before_or_not ret k =
      elim (cases (behind address k == ret)) [
        | inl t ↦ inr (λ b. b.0 (eqb-true _ _ t))
        | inr f ↦ elim (plain_or_not (class_at image (behind address k))) [
          | inl plain ↦ inl (λ e. (let x = sym f ∙ eq-eqb _ _ e in cc), plain)
          | inr not ↦ inr (λ b. not b.1)
        ]
      ]

  some_exception : (kind ret : ℕ) → (led : Led) × IsLed image (Some address) stack (Exc kind ret) led
  some_exception kind ret =
      let f : First (IsBefore ret)
      = first (IsBefore ret) (2 ^ 62) (before_or_not ret) (λ k run. run_short image address k aligned gap (λ j lt. (run j lt).1)) (2 ^ 62) 0 refl
      (nothing_below (IsBefore ret)) in
      let at = behind address f.n in
      elim (cases (at == ret)) [
        | inl t ↦ (Ok (f.n, Awaited false, stack), (f.below, eqb-true _ _ t, refl, refl))
        | inr g ↦
            let apart : at ≢ ret = λ e. let x = sym g ∙ eq-eqb _ _ e in cc in
            let m = misses (class_at image at) at ret (λ plain. f.not (apart, plain)) in
            (Err m.0, (f.n, f.below, apart, m.1))
      ]

  some_known : (p0 : P0) → (led : Led) × IsLed image (Some address) stack p0 led
  some_known (Atom taken) = some_atom taken
  some_known (Exc kind ret) = some_exception kind ret

some_led : (image : Image) (at : Option ℕ) (stack : List ℕ) (p0 : P0) → HasGap image → ToldIsAligned at → (led : Led) × IsLed image at stack p0 led
some_led image None stack (Atom taken) gap aligned = (Ok (0, Lost, stack), (refl, refl, refl))
some_led image None stack (Exc kind ret) gap aligned = (Ok (0, Awaited false, stack), (refl, refl, refl))
some_led image (Some address) stack p0 gap aligned = some_known image address gap aligned stack p0

-- ---- where an entry begins

-- an address and return addresses of instructions
pub record IsStart (start : Start) : Type 0 where
  pub at : ToldIsAligned start.at
  pub stack : AreReturns start.stack

known_start : (pc : Pc) (stack : List ℕ) → IsPc pc → AreReturns stack → IsStart (untold pc stack)
known_start (Known address) stack known r = record { at = known; stack = r }
known_start (Awaited true) [] known r = record { at = tt; stack = nothing }
known_start (Awaited true) (address ∷ stack) known r =
    record {
      at = r.aligned 0 0 (omega arith);
      stack = record { aligned = All-drop IsAligned 1 (address ∷ stack) r.aligned; few = omega (arith, r.few) };
    }
known_start (Awaited false) stack known r = record { at = tt; stack = nothing }
known_start Lost stack known r = record { at = tt; stack = nothing }

start_by_start : (addr : Option ℕ) (pc : Pc) (stack : List ℕ) → ToldIsAligned addr → IsPc pc → AreReturns stack → IsStart (start_by addr pc stack)
start_by_start (Some given) pc stack aligned known r = record { at = aligned; stack = r }
start_by_start None pc stack aligned known r = known_start pc stack known r

lost_or : (b : Bool) (pc : Pc) → IsPc pc → IsPc (if b then Lost else pc)
lost_or true pc known = tt
lost_or false pc known = known

emptied_returns : (flush : Bool) (stack : List ℕ) → AreReturns stack → AreReturns (emptied flush stack)
emptied_returns true stack r = nothing
emptied_returns false stack r = r

pub start_is : (s : State) (pre : Pre) → IsState s → ToldIsAligned pre.addr → IsStart (start_of s pre)
start_is s pre state aligned =
    start_by_start pre.addr (pc_before s pre) (stack_before s pre) aligned (lost_or (pre.on || pre.lost) s.pc state.pc)
    (emptied_returns pre.flush s.stack (record { aligned = state.stack; few = state.few }))

-- ---- one entry

is_shown : (image : Image) (s : State) (entry : Entry) (led : Led) → mismatch_of (pc_before s entry.pre) entry.pre.addr ≡ None
    → IsLed image (start_of s entry.pre).at (start_of s entry.pre).stack entry.p0 led → IsWalk image s entry (shown image s entry led)
is_shown image s entry (Ok o) agrees led = record
    { agrees = agrees; leads = led; on = refl; unknown = refl; start = refl; ctx = refl; kept = refl; exc = refl; took = refl }
is_shown image s entry (Err f) agrees led = inr (agrees, led)

pub some_walk : (image : Image) (s : State) (entry : Entry) → HasGap image → IsState s → HasAlignedAddresses entry → (walk : Walk) × IsWalk image s entry walk
some_walk image s entry gap state aligned =
    elim (some_or_none (mismatch_of (pc_before s entry.pre) entry.pre.addr)) [
      | inl differs ↦ (Err differs.0, inl differs.1)
      | inr agrees ↦
          let start = start_of s entry.pre in
          let led = some_led image start.at start.stack entry.p0 gap (start_is s entry.pre state aligned.0).at in
          (shown image s entry led.0, is_shown image s entry led.0 agrees led.1)
    ]
