-- The walk of an entry of the late reader, against that of the whole.
use Rattle.std.proofs.Common.{◌≡◌, ◌⊎◌, ℕ, zero, suc, ◌+◌, Bool, true, false, List, [], ◌∷◌, ◌++◌, take, Option, Some, None}
use Rattle.std.proofs.Common.{refl, sym, ap, subst, ◌∙◌, inl, inr}
use Rattle.std.specs.Prelude.{is_none}
use Rattle.std.specs.Option.{unwrap_or}
use Rattle.a64_branches.specs.declared.class.Class.{Class}
use Rattle.a64_branches.specs.declared.class.Class.TheVariants.{Plain, Jump, Cond, Isb, Ind, Eret, Odd}
use Rattle.program_image.specs.Blocks.{class_at, behind}
use Rattle.program_image.specs.declared.image.Image.{Image}
use Rattle.etm_types.specs.declared.element.P0.{P0}
use Rattle.etm_types.specs.declared.element.P0.TheVariants.{Atom, Exc}
use Rattle.etm_types.specs.declared.element.Pre.{Pre}
use Rattle.etm_types.specs.declared.walked.Walked.{Walked}
use Rattle.path_walker.specs.declared.pc.Pc.{Pc}
use Rattle.path_walker.specs.declared.pc.Pc.TheVariants.{Awaited, Lost}
use Rattle.path_walker.specs.State.{State}
use Rattle.path_walker.specs.Start.{start_of, pc_before, mismatch_of, context_of}
use Rattle.path_walker.specs.Steps.{next_of, stack_after}
use Rattle.path_walker.specs.Walk.{Leads, Shows, mark_of, takes}
use Rattle.late_reader.specs.Marks.{Mark}
use Rattle.late_reader.specs.Rows.{BehindEntry, BehindGap, NoneSeen, Whereabouts, PreAt}
use Rattle.path_elements.specs.PathLaws.{BeginsWith}
use Rattle.late_reader.specs.Walked.{EntryWalks, BothWalks, context_where, told_by}
use Rattle.late_reader.proofs.Lists.{heads}
use Rattle.late_reader.proofs.Starts.{AreLike, BothStart, LastAt, LastIs, StartsUnknown, StatesAt, contexts, standing, starts}

-- ---- return stacks

front_take : (n : ℕ) (xs ys : List ℕ) → BeginsWith xs ys → BeginsWith (take n xs) (take n ys)
front_take zero xs ys f = ([], refl)
front_take (suc n) [] ys f = (take (suc n) ys, refl)
front_take (suc n) (x ∷ xs) [] f = absurd (let e = f.1 in cc)
front_take (suc n) (x ∷ xs) (y ∷ ys) f =
    let h = heads y x ys (xs ++ f.0) f.1 in
    let g = front_take n xs ys (f.0, h.1) in
    (g.0, ap (λ l. y ∷ l) g.1 ∙ ap (λ z. z ∷ (take n xs ++ g.0)) h.0)

front_pushed : (a : ℕ) (xs ys : List ℕ) → BeginsWith xs ys → BeginsWith (take 15 (a ∷ xs)) (take 15 (a ∷ ys))
front_pushed a xs ys f = front_take 15 (a ∷ xs) (a ∷ ys) (f.0, ap (λ l. a ∷ l) f.1)

front_after : (c : Class) (a : ℕ) (xs ys : List ℕ) → BeginsWith xs ys → BeginsWith (stack_after c a xs) (stack_after c a ys)
front_after (Jump offset true) a xs ys f = front_pushed (behind a 1) xs ys f
front_after (Jump offset false) a xs ys f = f
front_after (Ind true) a xs ys f = front_pushed (behind a 1) xs ys f
front_after (Ind false) a xs ys f = f
front_after (Cond offset) a xs ys f = f
front_after Plain a xs ys f = f
front_after Isb a xs ys f = f
front_after Eret a xs ys f = f
front_after Odd a xs ys f = f

-- ---- where an instruction goes on

never_lost : (c : Class) (a : ℕ) (taken : Bool) → next_of c a taken ≡ Some Lost → ⊥
never_lost (Jump offset link) a true e = absurd cc
never_lost (Jump offset link) a false e = absurd cc
never_lost (Cond offset) a true e = absurd cc
never_lost (Cond offset) a false e = absurd cc
never_lost Isb a true e = absurd cc
never_lost Isb a false e = absurd cc
never_lost (Ind link) a true e = absurd cc
never_lost (Ind link) a false e = absurd cc
never_lost Eret a true e = absurd cc
never_lost Eret a false e = absurd cc
never_lost Plain a taken e = absurd cc
never_lost Odd a taken e = absurd cc

by_return : (c : Class) (a : ℕ) (taken : Bool) → next_of c a taken ≡ Some (Awaited true) → c ≡ Ind false
by_return (Jump offset link) a true e = absurd cc
by_return (Jump offset link) a false e = absurd cc
by_return (Cond offset) a true e = absurd cc
by_return (Cond offset) a false e = absurd cc
by_return Isb a true e = absurd cc
by_return Isb a false e = absurd cc
by_return (Ind true) a true e = absurd cc
by_return (Ind false) a true e = refl
by_return (Ind link) a false e = absurd cc
by_return Eret a true e = absurd cc
by_return Eret a false e = absurd cc
by_return Plain a taken e = absurd cc
by_return Odd a taken e = absurd cc

-- ---- from the same address, with return stacks of which one is a front of the other

record LeadsAlike (image : Image) (a : ℕ) (sv : List ℕ) (p0 : P0) (count : ℕ) (pc : Pc) (aw : List ℕ) : Type 0 where
  after : List ℕ
  leads : Leads image (Some a) sv p0 count pc after
  front : BeginsWith after aw
  lost : pc ≡ Lost → ⊥
  before : pc ≡ Awaited true → (n : ℕ) × (count ≡ n + 1) × (class_at image (behind a n) ≡ Some (Ind false))

leads_alike : (image : Image) (a : ℕ) (sv sw : List ℕ) (p0 : P0) (count : ℕ) (pc : Pc) (aw : List ℕ) → Leads image (Some a) sw p0 count pc aw
    → BeginsWith sv sw
    → LeadsAlike image a sv p0 count pc aw
leads_alike image a sv sw (Atom taken) count pc aw g f =
    let at = behind a g.plain in
    record {
      after = stack_after g.class at sv;
      leads = record { plain = g.plain; class = g.class; run = g.run; there = g.there; next = g.next; counted = g.counted; kept = refl };
      front = subst (BeginsWith (stack_after g.class at sv)) (sym g.kept) (front_after g.class at sv sw f);
      lost = λ e. never_lost g.class at taken (g.next ∙ ap (λ (pc : Pc). Some pc) e);
      before = λ e. (g.plain, g.counted, g.there ∙ ap (λ (c : Class). Some c) (by_return g.class at taken (g.next ∙ ap (λ (pc : Pc). Some pc) e)));
    }
leads_alike image a sv sw (Exc kind ret) count pc aw g f =
    record {
      after = sv;
      leads = (g.0, g.1, g.2, refl);
      front = subst (BeginsWith sv) (sym g.3) f;
      lost = λ e. let x = sym g.2 ∙ e in absurd cc;
      before = λ e. let x = sym g.2 ∙ e in absurd cc;
    }

-- ---- from no address

abbrev unknown_pc : P0 → Pc
unknown_pc (Atom taken) = Lost
unknown_pc (Exc kind ret) = Awaited false

unknown_leads : (image : Image) (p0 : P0) → Leads image None [] p0 0 (unknown_pc p0) []
unknown_leads image (Atom taken) = (refl, refl, refl)
unknown_leads image (Exc kind ret) = (refl, refl, refl)

exception_leads : (image : Image) (at : Option ℕ) (sw : List ℕ) (kind ret count : ℕ) (pc : Pc) (aw : List ℕ)
    → Leads image at sw (Exc kind ret) count pc aw → pc ≡ Awaited false
exception_leads image None sw kind ret count pc aw g = g.1
exception_leads image (Some a) sw kind ret count pc aw g = g.2

unknown_like : (image : Image) (at : Option ℕ) (sw : List ℕ) (p0 : P0) (count : ℕ) (pc : Pc) (aw : List ℕ) → Leads image at sw p0 count pc aw
    → (unknown_pc p0 ≡ Lost) ⊎ (unknown_pc p0 ≡ pc)
unknown_like image at sw (Atom taken) count pc aw g = inl refl
unknown_like image at sw (Exc kind ret) count pc aw g = inr (sym (exception_leads image at sw kind ret count pc aw g))

unknown_returns : (p0 : P0) → unknown_pc p0 ≡ Awaited true → ⊥
unknown_returns (Atom taken) e = absurd cc
unknown_returns (Exc kind ret) e = absurd cc

-- ---- the entry

-- where both walks stand behind it
abbrev pub stands_behind : BothWalks → Pre → Walked → State → State → BothWalks
stands_behind there q late w' v' = standing BehindEntry (told_by there.told q) (Some late) w' v'

-- the late reader's walk shows it, and the two go on alike
pub record WalksOn (image : Image) (there : BothWalks) (p q : Pre) (p0 : P0) (m : Mark) (w' : State) (whole : Walked) : Type 0 where
  pub next : State
  pub late : Walked
  pub walks : EntryWalks image there (stands_behind there q late w' next) p q p0 m whole late
  pub like : AreLike (told_by there.told q) w' next
  pub is : LastIs image (Some late) next

front_before : (place : Whereabouts) (told : Bool) (w v : State) → StatesAt place told w v → BeginsWith v.stack w.stack
front_before NoneSeen told w v s = subst (λ (z : State). BeginsWith z.stack w.stack) (sym s.0) (w.stack, refl)
front_before BehindGap told w v s = s.front
front_before BehindEntry told w v s = s.front

on_at : (place : Whereabouts) (on : Bool) (p q : Pre) → PreAt place on p q → q.on ≡ on
on_at NoneSeen on p q a = a.on
on_at BehindGap on p q a = a.1
on_at BehindEntry on p q a = a.1

-- what both have before the entry, wherever it begins
record Before (there : BothWalks) (p q : Pre) (m : Mark) : Type 0 where
  agrees : mismatch_of (pc_before there.late q) q.addr ≡ None
  ctx : context_of there.late q ≡ context_where (told_by there.told q) (context_of there.whole p)
  on : q.on ≡ m.on
  front : BeginsWith there.late.stack there.whole.stack

known_walked : (image : Image) (there : BothWalks) (p q : Pre) (p0 : P0) (m : Mark) (w' : State) (whole : Walked)
    → Shows image there.whole (record { pre = p; p0 = p0 }) whole w' → Before there p q m → BothStart there.whole there.late p q
    → WalksOn image there p q p0 m w' whole
known_walked image there p q p0 m w' whole shows f b =
    let w = there.whole in
    let v = there.late in
    let told = told_by there.told q in
    let g = subst (λ at. Leads image at (start_of w p).stack p0 whole.count w'.pc w'.stack) b.whole shows.leads in
    let l = leads_alike image b.address (start_of v q).stack (start_of w p).stack p0 whole.count w'.pc w'.stack g b.front in
    let next : State = record { pc = w'.pc; stack = l.after; ctx = context_of v q } in
    let late : Walked = record {
      on = q.on;
      unknown = false;
      ctx = context_of v q;
      start = b.address;
      count = whole.count;
      took = whole.took;
      exc = mark_of p0;
    } in
    let known : late.unknown ≡ true → ⊥ = λ e. absurd cc in
    let start : late.start ≡ whole.start = sym (shows.start ∙ ap (λ o. unwrap_or o 0) b.whole) in
    record {
      next = next;
      late = late;
      walks = record {
        shows = shows;
        shown = record {
          agrees = f.agrees;
          leads = subst (λ at. Leads image at (start_of v q).stack p0 whole.count w'.pc l.after) (sym b.late) l.leads;
          on = refl;
          unknown = sym (ap (λ (o : Option ℕ). is_none o) b.late);
          start = sym (ap (λ o. unwrap_or o 0) b.late);
          ctx = refl;
          kept = refl;
          exc = refl;
          took = shows.took ∙ ap (λ at. takes image at p0 whole.count) (b.whole ∙ sym b.late);
        };
        on = f.on;
        exc = sym shows.exc;
        same = inr (record { known = refl; start = start; count = refl; took = refl });
        ctx = f.ctx ∙ ap (context_where told) (sym shows.ctx);
        untold = λ e. absurd (known e);
        cause = λ e. absurd (known e);
        front = f.front;
        left = l.front;
        place = refl;
        told = refl;
        last = refl;
      };
      like = record { pc = inr refl; front = l.front; ctx = f.ctx ∙ ap (context_where told) (sym shows.kept) };
      is = record {
        walked = late;
        shown = refl;
        lost = λ e. absurd (l.lost e);
        returns = λ e. let r = l.before e in record { known = refl; before = r.0; counted = r.1; returns = r.2 };
      };
    }

unknown_walked : (image : Image) (there : BothWalks) (p q : Pre) (p0 : P0) (m : Mark) (w' : State) (whole : Walked)
    → Shows image there.whole (record { pre = p; p0 = p0 }) whole w' → Before there p q m → StartsUnknown image there p q
    → WalksOn image there p q p0 m w' whole
unknown_walked image there p q p0 m w' whole shows f b =
    let w = there.whole in
    let v = there.late in
    let told = told_by there.told q in
    let next : State = record { pc = unknown_pc p0; stack = []; ctx = context_of v q } in
    let late : Walked = record { on = q.on; unknown = true; ctx = context_of v q; start = 0; count = 0; took = false; exc = mark_of p0 } in
    record {
      next = next;
      late = late;
      walks = record {
        shows = shows;
        shown = record {
          agrees = f.agrees;
          leads = subst (λ at. Leads image at (start_of v q).stack p0 0 (unknown_pc p0) []) (sym b.none)
              (subst (λ s. Leads image None s p0 0 (unknown_pc p0) []) (sym b.stack) (unknown_leads image p0));
          on = refl;
          unknown = sym (ap (λ (o : Option ℕ). is_none o) b.none);
          start = sym (ap (λ o. unwrap_or o 0) b.none);
          ctx = refl;
          kept = refl;
          exc = refl;
          took = sym (ap (λ at. takes image at p0 0) b.none);
        };
        on = f.on;
        exc = sym shows.exc;
        same = inl refl;
        ctx = f.ctx ∙ ap (context_where told) (sym shows.ctx);
        untold = λ e. b.addr;
        cause = λ e. b.cause;
        front = f.front;
        left = (w'.stack, refl);
        place = refl;
        told = refl;
        last = refl;
      };
      like = record {
        pc = unknown_like image (start_of w p).at (start_of w p).stack p0 whole.count w'.pc w'.stack shows.leads;
        front = (w'.stack, refl);
        ctx = f.ctx ∙ ap (context_where told) (sym shows.kept);
      };
      is = record { walked = late; shown = refl; lost = λ e. refl; returns = λ e. absurd (unknown_returns p0 e) };
    }

pub entry_walks : (image : Image) (place : Whereabouts) (told : Bool) (last : Option Walked) (w v : State) (p q : Pre) (p0 : P0) (m : Mark) (w' : State)
    (whole : Walked) → PreAt place m.on p q → StatesAt place told w v → LastAt image place last v
    → Shows image w (record { pre = p; p0 = p0 }) whole w' → whole.unknown ≡ false
    → WalksOn image (standing place told last w v) p q p0 m w' whole
entry_walks image place told last w v p q p0 m w' whole a s is shows known =
    let somewhere : (start_of w p).at ≡ None → ⊥ =
    λ e. let x = sym known ∙ shows.unknown ∙ ap (λ (o : Option ℕ). is_none o) e in absurd cc in
    let st = starts image place told last w v m.on p q a s is shows.agrees somewhere in
    let there = standing place told last w v in
    let before : Before there p q m = record {
      agrees = st.0;
      ctx = contexts place told w v m.on p q a s;
      on = on_at place m.on p q a;
      front = front_before place told w v s;
    } in
    elim st.1 [
      | inl b ↦ known_walked image there p q p0 m w' whole shows before b
      | inr b ↦ unknown_walked image there p q p0 m w' whole shows before b
    ]
