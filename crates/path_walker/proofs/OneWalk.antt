-- The walk of an entry is one.
use Rattle.std.proofs.Common.{◌≡◌, ◌≢◌, ◌⊎◌, ℕ, ◌+◌, Bool, false, List, Option, Some, None, Result, Ok, Err, refl, sym, ap, ◌∙◌, inl, inr}
use Rattle.std.specs.Prelude.{◌==◌, if◌then◌else◌, is_none}
use Rattle.std.specs.Option.{unwrap_or}
use Rattle.std.proofs.lemmas.Bool.{eqb-true, eq-eqb}
use Rattle.a64_branches.specs.declared.class.Class.{Class}
use Rattle.a64_branches.specs.declared.class.Class.TheVariants.{Plain, Jump, Cond, Isb, Ind, Eret, Odd}
use Rattle.program_image.specs.Blocks.{class_at, behind, IsPlainRun}
use Rattle.program_image.specs.declared.image.Image.{Image}
use Rattle.etm_types.specs.declared.context.Ctx.{Ctx}
use Rattle.etm_types.specs.declared.element.P0.{P0}
use Rattle.etm_types.specs.declared.element.P0.TheVariants.{Atom, Exc}
use Rattle.etm_types.specs.declared.element.Entry.{Entry}
use Rattle.etm_types.specs.declared.walked.Walked.{Walked}
use Rattle.etm_types.specs.declared.walked.ExcMark.{ExcMark}
use Rattle.etm_types.specs.declared.walk_fault.WalkFault.{WalkFault}
use Rattle.etm_types.specs.declared.walk_fault.WalkFault.TheVariants as fault
use Rattle.path_walker.specs.declared.pc.Pc.{Pc}
use Rattle.path_walker.specs.declared.pc.Pc.TheVariants.{Awaited, Lost}
use Rattle.path_walker.specs.State.{State}
use Rattle.path_walker.specs.Start.{start_of, pc_before, mismatch_of, context_of}
use Rattle.path_walker.specs.Steps.{next_of, stack_after}
use Rattle.path_walker.specs.Walk.{Refuses, IsRunBefore, Misses, Leads, Halts, IsWalk, mark_of, takes}
use Rattle.path_walker.proofs.Search.{cases, same_first}

-- ---- where a P0 element leads, as one outcome

-- how many instructions are shown, and how the walk goes on, or its fault
abbrev pub Led : Type 0
Led = Result (ℕ × Pc × List ℕ) WalkFault

abbrev Led-of : ℕ → Pc → List ℕ → Led
Led-of n pc stack = Ok (n, pc, stack)

abbrev pub IsLed : Image → Option ℕ → List ℕ → P0 → Led → Type 0
IsLed image at stack p0 (Ok o) = Leads image at stack p0 o.0 o.1 o.2
IsLed image at stack p0 (Err f) = Halts image at p0 f

-- by the class of the word after n plain words
abbrev by_next : Class → ℕ → ℕ → List ℕ → Option Pc → Led
by_next class at n stack None = Err (fault.BadAtom at)
by_next class at n stack (Some pc) = Ok (n + 1, pc, stack_after class at stack)

abbrev by_class : Option Class → ℕ → ℕ → Bool → List ℕ → Led
by_class None at n taken stack = Err (fault.NoCode at)
by_class (Some Odd) at n taken stack = Err (fault.Odd at)
by_class (Some class) at n taken stack = by_next class at n stack (next_of class at taken)

-- an instruction that goes on
record Goes (class : Class) (at n : ℕ) (taken : Bool) (stack : List ℕ) (pc : Pc) : Type 0 where
  led : by_class (Some class) at n taken stack ≡ Ok (n + 1, pc, stack_after class at stack)
  not : class ≢ Plain

goes : (class : Class) (at n : ℕ) (taken : Bool) (stack : List ℕ) (pc : Pc) → next_of class at taken ≡ Some pc → Goes class at n taken stack pc
goes Plain at n taken stack pc next = absurd cc
goes Odd at n taken stack pc next = absurd cc
goes (Jump offset link) at n taken stack pc next = record { led = ap (by_next (Jump offset link) at n stack) next; not = λ p. cc }
goes (Cond offset) at n taken stack pc next = record { led = ap (by_next (Cond offset) at n stack) next; not = λ p. cc }
goes Isb at n taken stack pc next = record { led = ap (by_next Isb at n stack) next; not = λ p. cc }
goes (Ind link) at n taken stack pc next = record { led = ap (by_next (Ind link) at n stack) next; not = λ p. cc }
goes Eret at n taken stack pc next = record { led = ap (by_next Eret at n stack) next; not = λ p. cc }

-- no instruction goes on
record Refused (c : Option Class) (at n : ℕ) (taken : Bool) (stack : List ℕ) (f : WalkFault) : Type 0 where
  led : by_class c at n taken stack ≡ Err f
  not : c ≢ Some Plain

refused : (c : Option Class) (at n : ℕ) (taken : Bool) (stack : List ℕ) (f : WalkFault) → Refuses c at taken f → Refused c at n taken stack f
refused None at n taken stack f r = record { led = ap (λ f. Err f) (sym r); not = λ p. cc }
refused (Some Plain) at n taken stack f r = absurd r
refused (Some Odd) at n taken stack f r = record { led = ap (λ f. Err f) (sym r); not = λ p. cc }
refused (Some (Jump offset link)) at n taken stack f r =
    record { led = ap (by_next (Jump offset link) at n stack) r.0 ∙ ap (λ f. Err f) (sym r.1); not = λ p. cc }
refused (Some (Cond offset)) at n taken stack f r = record { led = ap (by_next (Cond offset) at n stack) r.0 ∙ ap (λ f. Err f) (sym r.1); not = λ p. cc }
refused (Some Isb) at n taken stack f r = record { led = ap (by_next Isb at n stack) r.0 ∙ ap (λ f. Err f) (sym r.1); not = λ p. cc }
refused (Some (Ind link)) at n taken stack f r = record { led = ap (by_next (Ind link) at n stack) r.0 ∙ ap (λ f. Err f) (sym r.1); not = λ p. cc }
refused (Some Eret) at n taken stack f r = record { led = ap (by_next Eret at n stack) r.0 ∙ ap (λ f. Err f) (sym r.1); not = λ p. cc }

same_led : (m n : ℕ) (pc : Pc) (a b : List ℕ) → m ≡ n → a ≡ b → Led-of m pc a ≡ Led-of n pc b
same_led m n pc a b e f = ap (λ m. Led-of m pc a) e ∙ ap (Led-of n pc) f

module _ (image : Image) (address : ℕ) where
  abbrev class_after : ℕ → Option Class
  class_after n = class_at image (behind address n)

  abbrev IsPlain : ℕ → Type 0
  IsPlain k = class_after k ≡ Some Plain

  -- an atom leads as the word after the plain words says
  record ByAtom (taken : Bool) (stack : List ℕ) (to : Led) : Type 0 where
    plain : ℕ
    run : IsPlainRun image address plain
    not : IsPlain plain → ⊥
    led : to ≡ by_class (class_after plain) (behind address plain) plain taken stack

  by_atom : (taken : Bool) (stack : List ℕ) (led : Led) → IsLed image (Some address) stack (Atom taken) led → ByAtom taken stack led
  by_atom taken stack (Ok o) g =
      let at = behind address g.plain in
      let to = goes g.class at g.plain taken stack o.1 g.next in
      record {
        plain = g.plain;
        run = g.run;
        not = λ p. to.not (let x = sym g.there ∙ p in cc);
        led = same_led o.0 (g.plain + 1) o.1 o.2 (stack_after g.class at stack) g.counted g.kept ∙ sym to.led
            ∙ ap (λ c. by_class c at g.plain taken stack) (sym g.there);
      }
  by_atom taken stack (Err f) h =
      let at = behind address h.0 in
      let to = refused (class_after h.0) at h.0 taken stack f h.2 in
      record { plain = h.0; run = h.1; not = to.not; led = sym to.led }

  one_atom : (taken : Bool) (stack : List ℕ) (a b : Led) → ByAtom taken stack a → ByAtom taken stack b → a ≡ b
  one_atom taken stack a b p q =
      p.led ∙ ap (λ n. by_class (class_after n) (behind address n) n taken stack) (same_first IsPlain p.plain q.plain p.run p.not q.run q.not) ∙ sym q.led

  -- the word is not yet the one at the return address, and is plain
  abbrev IsBefore : ℕ → ℕ → Type 0
  IsBefore ret k = (behind address k ≢ ret) × (class_after k ≡ Some Plain)

  abbrev by_miss : Option Class → ℕ → ℕ → Led
  by_miss None at ret = Err (fault.NoCode at)
  by_miss (Some Odd) at ret = Err (fault.Odd at)
  by_miss (Some class) at ret = Err (fault.ReturnMissed at ret)

  abbrev by_return : ℕ → List ℕ → ℕ → Led
  by_return ret stack n = if behind address n == ret then Led-of n (Awaited false) stack else by_miss (class_after n) (behind address n) ret

  missed : (c : Option Class) (at ret : ℕ) (f : WalkFault) → Misses c at ret f → (by_miss c at ret ≡ Err f) × (c ≢ Some Plain)
  missed None at ret f r = (ap (λ f. Err f) (sym r), λ p. cc)
  missed (Some Plain) at ret f r = absurd r
  missed (Some Odd) at ret f r = (ap (λ f. Err f) (sym r), λ p. cc)
  missed (Some (Jump offset link)) at ret f r = (ap (λ f. Err f) (sym r), λ p. cc)
  missed (Some (Cond offset)) at ret f r = (ap (λ f. Err f) (sym r), λ p. cc)
  missed (Some Isb) at ret f r = (ap (λ f. Err f) (sym r), λ p. cc)
  missed (Some (Ind link)) at ret f r = (ap (λ f. Err f) (sym r), λ p. cc)
  missed (Some Eret) at ret f r = (ap (λ f. Err f) (sym r), λ p. cc)

  record ByException (ret : ℕ) (stack : List ℕ) (to : Led) : Type 0 where
    plain : ℕ
    run : IsRunBefore image ret address plain
    not : IsBefore ret plain → ⊥
    led : to ≡ by_return ret stack plain

  -- the test that an address is not the return address
  differs : (a b : ℕ) → a ≢ b → (a == b) ≡ false
  differs a b not = elim (cases (a == b)) [ inl t ↦ absurd (not (eqb-true a b t)) | inr f ↦ f ]

  by_exception : (kind ret : ℕ) (stack : List ℕ) (led : Led) → IsLed image (Some address) stack (Exc kind ret) led → ByException ret stack led
  by_exception kind ret stack (Ok o) g =
      record {
        plain = o.0;
        run = g.0;
        not = λ p. p.0 g.1;
        led = (ap (λ pc. Led-of o.0 pc o.2) g.2 ∙ ap (Led-of o.0 (Awaited false)) g.3)
            ∙ ap (λ b. if b then Led-of o.0 (Awaited false) stack else by_miss (class_after o.0) (behind address o.0) ret)
            (sym (eq-eqb (behind address o.0) ret g.1));
      }
  by_exception kind ret stack (Err f) h =
      let at = behind address h.0 in
      let to = missed (class_after h.0) at ret f h.3 in
      record {
        plain = h.0;
        run = h.1;
        not = λ p. to.1 p.1;
        led = sym to.0 ∙ ap (λ b. if b then Led-of h.0 (Awaited false) stack else by_miss (class_after h.0) at ret) (sym (differs at ret h.2));
      }

  one_exception : (ret : ℕ) (stack : List ℕ) (a b : Led) → ByException ret stack a → ByException ret stack b → a ≡ b
  one_exception ret stack a b p q = p.led ∙ ap (by_return ret stack) (same_first (IsBefore ret) p.plain q.plain p.run p.not q.run q.not) ∙ sym q.led

  one_known : (stack : List ℕ) (p0 : P0) (a b : Led) → IsLed image (Some address) stack p0 a → IsLed image (Some address) stack p0 b → a ≡ b
  one_known stack (Atom taken) a b p q = one_atom taken stack a b (by_atom taken stack a p) (by_atom taken stack b q)
  one_known stack (Exc kind ret) a b p q = one_exception ret stack a b (by_exception kind ret stack a p) (by_exception kind ret stack b q)

-- where the address is not known
abbrev by_unknown : P0 → List ℕ → Led
by_unknown (Atom taken) stack = Led-of 0 Lost stack
by_unknown (Exc kind ret) stack = Led-of 0 (Awaited false) stack

unknown_led : (image : Image) (stack : List ℕ) (p0 : P0) (a : Led) → IsLed image None stack p0 a → a ≡ by_unknown p0 stack
unknown_led image stack (Atom taken) (Ok o) p = ap (λ n. Led-of n o.1 o.2) p.0 ∙ ap (λ pc. Led-of 0 pc o.2) p.1 ∙ ap (Led-of 0 Lost) p.2
unknown_led image stack (Exc kind ret) (Ok o) p = ap (λ n. Led-of n o.1 o.2) p.0 ∙ ap (λ pc. Led-of 0 pc o.2) p.1 ∙ ap (Led-of 0 (Awaited false)) p.2
unknown_led image stack p0 (Err f) p = absurd p

one_led : (image : Image) (at : Option ℕ) (stack : List ℕ) (p0 : P0) (a b : Led) → IsLed image at stack p0 a → IsLed image at stack p0 b → a ≡ b
one_led image None stack p0 a b p q = unknown_led image stack p0 a p ∙ sym (unknown_led image stack p0 b q)
one_led image (Some address) stack p0 a b p q = one_known image address stack p0 a b p q

-- ---- one entry

abbrev pub Walk : Type 0
Walk = Result (Walked × State) WalkFault

abbrev walk_by : ℕ → Pc → List ℕ → Bool → Bool → ℕ → Option ExcMark → Ctx → Ctx → Bool → Walk
walk_by count pc stack on unknown start exc ctx after took =
    Ok (
      record { on = on; unknown = unknown; ctx = ctx; start = start; count = count; took = took; exc = exc },
      record { pc = pc; stack = stack; ctx = after },
    )

same_walk : (w : Walked) (a : State) (on unknown : Bool) (start : ℕ) (exc : Option ExcMark) (ctx : Ctx) (took : Bool)
    → w.on ≡ on → w.unknown ≡ unknown → w.start ≡ start → w.exc ≡ exc → w.ctx ≡ ctx → a.ctx ≡ ctx → w.took ≡ took
    → walk_by w.count a.pc a.stack w.on w.unknown w.start w.exc w.ctx a.ctx w.took ≡ walk_by w.count a.pc a.stack on unknown start exc ctx ctx took
same_walk w a on unknown start exc ctx took e f g h i j k =
    let by = walk_by w.count a.pc a.stack in
    ap (λ x. by x w.unknown w.start w.exc w.ctx a.ctx w.took) e ∙ ap (λ x. by on x w.start w.exc w.ctx a.ctx w.took) f
    ∙ ap (λ x. by on unknown x w.exc w.ctx a.ctx w.took) g ∙ ap (λ x. by on unknown start x w.ctx a.ctx w.took) h
    ∙ ap (λ x. by on unknown start exc x a.ctx w.took) i ∙ ap (λ x. by on unknown start exc ctx x w.took) j
    ∙ ap (by on unknown start exc ctx ctx) k

-- what is shown, and the state after it, by where the element leads
abbrev pub shown : Image → State → Entry → Led → Walk
shown image s entry (Err f) = Err f
shown image s entry (Ok o) =
    let start = start_of s entry.pre in let ctx = context_of s entry.pre in
    walk_by o.0 o.1 o.2 entry.pre.on (is_none start.at) (unwrap_or start.at 0) (mark_of entry.p0) ctx ctx
    (takes image start.at entry.p0 o.0)

-- an entry that is not refused at once is walked as its element leads
record ByLed (image : Image) (s : State) (entry : Entry) (walk : Walk) : Type 0 where
  agrees : mismatch_of (pc_before s entry.pre) entry.pre.addr ≡ None
  led : Led
  is : IsLed image (start_of s entry.pre).at (start_of s entry.pre).stack entry.p0 led
  same : walk ≡ shown image s entry led

by_led : (image : Image) (s : State) (entry : Entry) (walk : Walk) → IsWalk image s entry walk
    → ((f : WalkFault) × (mismatch_of (pc_before s entry.pre) entry.pre.addr ≡ Some f) × (walk ≡ Err f)) ⊎ ByLed image s entry walk
by_led image s entry (Ok w) p =
    inr (record {
      agrees = p.agrees;
      led = Led-of w.0.count w.1.pc w.1.stack;
      is = p.leads;
      same = same_walk w.0 w.1 _ _ _ _ _ _ p.on p.unknown p.start p.exc p.ctx p.kept p.took;
    })
by_led image s entry (Err f) (inl p) = inl (f, p, refl)
by_led image s entry (Err f) (inr p) = inr (record { agrees = p.0; led = Err f; is = p.1; same = refl })

pub one_walk : (image : Image) (s : State) (entry : Entry) (walk other : Walk) → IsWalk image s entry walk → IsWalk image s entry other → walk ≡ other
one_walk image s entry walk other p q =
    elim (by_led image s entry walk p) [
      | inl a ↦ elim (by_led image s entry other q) [
        | inl b ↦ let same : a.0 ≡ b.0 = (let x = sym a.1 ∙ b.1 in cc) in a.2 ∙ ap (λ f. Err f) same ∙ sym b.2
        | inr b ↦ absurd (let x = sym a.1 ∙ b.agrees in cc)
      ]
      | inr a ↦ elim (by_led image s entry other q) [
        | inl b ↦ absurd (let x = sym b.1 ∙ a.agrees in cc)
        | inr b ↦ a.same ∙ ap (shown image s entry) (one_led image _ _ entry.p0 a.led b.led a.is b.is) ∙ sym b.same
      ]
    ]
