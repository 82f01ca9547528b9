-- Where an entry of the late reader begins, against the one of the whole.
use Rattle.std.proofs.Common.{◌≡◌, ◌⊎◌, ℕ, Bool, true, false, if◌then◌else◌, List, [], ◌∷◌, ◌++◌, Option, Some, None, refl, sym, ap, subst, ◌∙◌, inl}
use Rattle.std.proofs.Common.{inr}
use Rattle.std.specs.Prelude.{◌||◌, is_some}
use Rattle.std.specs.Option.{unwrap_or}
use Rattle.program_image.specs.declared.image.Image.{Image}
use Rattle.etm_types.specs.Context.{initial_context}
use Rattle.path_elements.specs.PathLaws.{BeginsWith}
use Rattle.etm_types.specs.declared.context.Ctx.{Ctx}
use Rattle.etm_types.specs.declared.element.Pre.{Pre}
use Rattle.etm_types.specs.declared.walked.Walked.{Walked}
use Rattle.path_walker.specs.declared.pc.Pc.{Pc}
use Rattle.path_walker.specs.declared.pc.Pc.TheVariants.{Known, Awaited, Lost}
use Rattle.path_walker.specs.State.{State, first_state}
use Rattle.path_walker.specs.Start.{Start, start_of, start_by, untold, emptied, pc_before, stack_before, mismatch_of, context_of}
use Rattle.late_reader.specs.Rows.{BehindEntry, BehindGap, NoneSeen, Whereabouts, PreAt, Unsure, Within}
use Rattle.late_reader.specs.Walked.{EndsInReturn, IsCause, BothWalks, context_where, told_by}
use Rattle.late_reader.proofs.Lists.{heads}

-- ---- the two walks

abbrev pub standing : Whereabouts → Bool → Option Walked → State → State → BothWalks
standing place told last w v = record { place = place; told = told; last = last; whole = w; late = v }

pub record AreLike (told : Bool) (w v : State) : Type 0 where
  pub pc : (v.pc ≡ Lost) ⊎ (v.pc ≡ w.pc)
  pub front : BeginsWith v.stack w.stack
  pub ctx : v.ctx ≡ context_where told w.ctx

abbrev pub StatesAt : Whereabouts → Bool → State → State → Type 0
StatesAt NoneSeen told w v = (v ≡ first_state) × (told ≡ false)
StatesAt BehindGap told w v = AreLike told w v
StatesAt BehindEntry told w v = AreLike told w v

-- what the entry before has to do with where the late reader's walk goes on
pub record LastIs (image : Image) (last : Option Walked) (v : State) : Type 0 where
  pub walked : Walked
  pub shown : last ≡ Some walked
  pub lost : v.pc ≡ Lost → walked.unknown ≡ true
  pub returns : v.pc ≡ Awaited true → EndsInReturn image walked

abbrev pub LastAt : Image → Whereabouts → Option Walked → State → Type 0
LastAt image NoneSeen last v = last ≡ None
LastAt image BehindGap last v = last ≡ None
LastAt image BehindEntry last v = LastIs image last v

-- ---- where the entry begins

pub record BothStart (w v : State) (p q : Pre) : Type 0 where
  pub address : ℕ
  pub whole : (start_of w p).at ≡ Some address
  pub late : (start_of v q).at ≡ Some address
  pub front : BeginsWith (start_of v q).stack (start_of w p).stack

pub record StartsUnknown (image : Image) (there : BothWalks) (p q : Pre) : Type 0 where
  pub none : (start_of there.late q).at ≡ None
  pub stack : (start_of there.late q).stack ≡ []
  pub addr : q.addr ≡ None
  pub cause : IsCause image there p q

abbrev pub Starts : Image → BothWalks → Pre → Pre → Type 0
Starts image there p q =
    (mismatch_of (pc_before there.late q) q.addr ≡ None) × (BothStart there.whole there.late p q ⊎ StartsUnknown image there p q)

no_mismatch : (pc : Pc) → mismatch_of pc None ≡ None
no_mismatch (Known a) = refl
no_mismatch (Awaited b) = refl
no_mismatch Lost = refl

-- a loss makes the address unknown
lost_before : (v : State) (q : Pre) → q.lost ≡ true → pc_before v q ≡ Lost
lost_before v q e = by_on q.on q.lost v.pc e where
  by_on : (on lost : Bool) (pc : Pc) → lost ≡ true → (if on || lost then Lost else pc) ≡ Lost
  by_on true lost pc e = refl
  by_on false lost pc e = simp e

empty_emptied : (flush : Bool) → emptied flush [] ≡ []
empty_emptied true = refl
empty_emptied false = refl

front_emptied : (flush : Bool) (xs ys : List ℕ) → BeginsWith xs ys → BeginsWith (emptied flush xs) (emptied flush ys)
front_emptied true xs ys f = ([], refl)
front_emptied false xs ys f = f

at_same : (addr other : Option ℕ) (pc : Pc) (stack : List ℕ) → addr ≡ other → start_by addr pc stack ≡ start_by other pc stack
at_same addr other pc stack e = ap (λ a. start_by a pc stack) e

-- an address was told
told_start : (w v : State) (p q : Pre) (a : ℕ) → q.addr ≡ Some a → p.addr ≡ Some a → BeginsWith (stack_before v q) (stack_before w p)
    → BothStart w v p q
told_start w v p q a e f front =
    let whole = at_same p.addr (Some a) (pc_before w p) (stack_before w p) f in
    let late = at_same q.addr (Some a) (pc_before v q) (stack_before v q) e in
    record {
      address = a;
      whole = ap (λ (s : Start). s.at) whole;
      late = ap (λ (s : Start). s.at) late;
      front = subst (λ (s : Start). BeginsWith s.stack (start_of w p).stack) (sym late)
          (subst (λ (s : Start). BeginsWith (stack_before v q) s.stack) (sym whole) front);
    }

-- none was told, and the address is not known
untold_lost : (image : Image) (there : BothWalks) (p q : Pre) → q.addr ≡ None → pc_before there.late q ≡ Lost → IsCause image there p q
    → StartsUnknown image there p q
untold_lost image there p q e lost cause =
    let stack = stack_before there.late q in
    let s : start_of there.late q ≡ record { at = None; stack = [] } =
    at_same q.addr None (pc_before there.late q) stack e ∙ ap (λ pc. untold pc stack) lost in
    record { none = ap (λ (s : Start). s.at) s; stack = ap (λ (s : Start). s.stack) s; addr = e; cause = cause }

-- ---- before the first entry of the late reader

first_starts : (image : Image) (told : Bool) (last : Option Walked) (w v : State) (p q : Pre) (on : Bool) (addr : Option ℕ) → q.addr ≡ addr
    → Unsure on p q → v ≡ first_state → Starts image (standing NoneSeen told last w v) p q
first_starts image told last w v p q on None e u first = (
  ap (mismatch_of (pc_before v q)) e ∙ no_mismatch (pc_before v q),
  inr (untold_lost image (standing NoneSeen told last w v) p q e (lost_before v q u.lost) (inr (inl (refl, u.lost)))),
)
first_starts image told last w v p q on (Some a) e u first =
    let empty : stack_before v q ≡ [] = ap (λ (s : State). emptied q.flush s.stack) first ∙ empty_emptied q.flush in
    let whole : p.addr ≡ Some a = subst (λ x. Within x p.addr) e u.addr in (
      ap (λ pc. mismatch_of pc q.addr) (lost_before v q u.lost),
      inl (told_start w v p q a e whole (subst (λ l. BeginsWith l (stack_before w p)) (sym empty) (stack_before w p, refl))),
    )

-- ---- behind a gap, and behind an entry: the same was told to both

pcs_before : (w v : State) (p : Pre) → (v.pc ≡ Lost) ⊎ (v.pc ≡ w.pc) → ((pc_before v p ≡ Lost) × (v.pc ≡ Lost)) ⊎ (pc_before v p ≡ pc_before w p)
pcs_before w v p (inr e) = inr (ap (λ pc. if p.on || p.lost then Lost else pc) e)
pcs_before w v p (inl e) = inl (ap (λ pc. if p.on || p.lost then Lost else pc) e ∙ always (p.on || p.lost), e) where
  always : (b : Bool) → (if b then Lost else Lost) ≡ Lost
  always true = refl
  always false = refl

abbrev UntoldBoth : Pc → List ℕ → List ℕ → Type 0
UntoldBoth pc sv sw = (a : ℕ) × ((untold pc sv).at ≡ Some a) × ((untold pc sw).at ≡ Some a) × BeginsWith (untold pc sv).stack (untold pc sw).stack

abbrev UntoldApart : Pc → List ℕ → List ℕ → Type 0
UntoldApart pc sv sw = (pc ≡ Awaited true) × (sv ≡ []) × ((x : ℕ) × (xs : List ℕ) × (sw ≡ x ∷ xs))

untold_starts : (pc : Pc) (sv sw : List ℕ) → BeginsWith sv sw → ((untold pc sw).at ≡ None → ⊥) → UntoldBoth pc sv sw ⊎ UntoldApart pc sv sw
untold_starts (Known a) sv sw f known = inl (a, refl, refl, f)
untold_starts (Awaited true) sv [] f known = absurd (known refl)
untold_starts (Awaited true) [] (y ∷ sw) f known = inr (refl, refl, (y, sw, refl))
untold_starts (Awaited true) (x ∷ sv) (y ∷ sw) f known =
    let h = heads y x sw (sv ++ f.0) f.1 in
    inl (x, refl, ap (λ (z : ℕ). Some z) h.0, (f.0, h.1))
untold_starts (Awaited false) sv sw f known = absurd (known refl)
untold_starts Lost sv sw f known = absurd (known refl)

awaited_before : (v : State) (p : Pre) → pc_before v p ≡ Awaited true → v.pc ≡ Awaited true
awaited_before v p e = by_bool (p.on || p.lost) v.pc e where
  by_bool : (b : Bool) (pc : Pc) → (if b then Lost else pc) ≡ Awaited true → pc ≡ Awaited true
  by_bool true pc e = absurd cc
  by_bool false pc e = e

awaited_at : (sv : List ℕ) → sv ≡ [] → untold (Awaited true) sv ≡ record { at = None; stack = [] }
awaited_at sv e = ap (untold (Awaited true)) e

same_untold : (image : Image) (told : Bool) (last : Option Walked) (w v : State) (p : Pre) → p.addr ≡ None → ((start_of w p).at ≡ None → ⊥)
    → AreLike told w v → LastIs image last v → pc_before v p ≡ pc_before w p
    → BothStart w v p p ⊎ StartsUnknown image (standing BehindEntry told last w v) p p
same_untold image told last w v p e known like is same =
    let sw = stack_before w p in
    let sv = stack_before v p in
    let pc = pc_before w p in
    let front = front_emptied p.flush v.stack w.stack like.front in
    let whole : start_of w p ≡ untold pc sw = at_same p.addr None pc sw e in
    let late : start_of v p ≡ untold pc sv = at_same p.addr None (pc_before v p) sv e ∙ ap (λ pc. untold pc sv) same in
    elim (untold_starts pc sv sw front (λ n. known (ap (λ (s : Start). s.at) whole ∙ n))) [
      | inl b ↦ inl (record {
        address = b.0;
        whole = ap (λ (s : Start). s.at) whole ∙ b.2;
        late = ap (λ (s : Start). s.at) late ∙ b.1;
        front = subst (λ (s : Start). BeginsWith s.stack (start_of w p).stack) (sym late)
            (subst (λ (s : Start). BeginsWith (untold pc sv).stack s.stack) (sym whole) b.3);
      })
      | inr b ↦
          let s : start_of v p ≡ record { at = None; stack = [] } = late ∙ ap (λ pc. untold pc sv) b.0 ∙ awaited_at sv b.1 in
          let ends = is.returns (awaited_before v p (same ∙ b.0)) in
          inr (record {
            none = ap (λ (s : Start). s.at) s;
            stack = ap (λ (s : Start). s.stack) s;
            addr = e;
            cause = inr (inr (record {
              walked = is.walked;
              shown = is.shown;
              ends = ends;
              addr = e;
              awaited = b.0;
              newest = b.2.0;
              more = b.2.1;
              pops = b.2.2;
              empty = b.1;
            }));
          })
    ]

later_starts : (image : Image) (told : Bool) (last : Option Walked) (w v : State) (p : Pre) (addr : Option ℕ) → p.addr ≡ addr
    → mismatch_of (pc_before w p) p.addr ≡ None → ((start_of w p).at ≡ None → ⊥) → AreLike told w v → LastIs image last v
    → Starts image (standing BehindEntry told last w v) p p
later_starts image told last w v p (Some a) e agrees known like is =
    let both = told_start w v p p a e e (front_emptied p.flush v.stack w.stack like.front) in
    elim (pcs_before w v p like.pc) [
      | inl lost ↦ (ap (λ pc. mismatch_of pc p.addr) lost.0, inl both)
      | inr same ↦ (ap (λ pc. mismatch_of pc p.addr) same ∙ agrees, inl both)
    ]
later_starts image told last w v p None e agrees known like is = (
  ap (mismatch_of (pc_before v p)) e ∙ no_mismatch (pc_before v p),
  elim (pcs_before w v p like.pc) [
    | inl lost ↦ inr (untold_lost image (standing BehindEntry told last w v) p p e lost.0
        (inl (record { walked = is.walked; shown = is.shown; unknown = is.lost lost.1 })))
    | inr same ↦ same_untold image told last w v p e known like is same
  ],
)

behind_starts : (image : Image) (told : Bool) (last : Option Walked) (w v : State) (p : Pre) (addr : Option ℕ) → p.addr ≡ addr → p.lost ≡ true
    → ((start_of w p).at ≡ None → ⊥) → AreLike told w v → Starts image (standing BehindGap told last w v) p p
behind_starts image told last w v p (Some a) e lost known like =
    (ap (λ pc. mismatch_of pc p.addr) (lost_before v p lost), inl (told_start w v p p a e e (front_emptied p.flush v.stack w.stack like.front)))
behind_starts image told last w v p None e lost known like =
    let stack = stack_before w p in
    absurd (known (ap (λ (s : Start). s.at) (at_same p.addr None (pc_before w p) stack e ∙ ap (λ pc. untold pc stack) (lost_before w p lost))))

pub starts : (image : Image) (place : Whereabouts) (told : Bool) (last : Option Walked) (w v : State) (on : Bool) (p q : Pre) → PreAt place on p q
    → StatesAt place told w v → LastAt image place last v → mismatch_of (pc_before w p) p.addr ≡ None → ((start_of w p).at ≡ None → ⊥)
    → Starts image (standing place told last w v) p q
starts image NoneSeen told last w v on p q a s is agrees known = first_starts image told last w v p q on q.addr refl a s.0
starts image BehindGap told last w v on p q a s is agrees known =
    subst (Starts image (standing BehindGap told last w v) p) (sym a.0)
    (behind_starts image told last w v p p.addr refl (ap (λ (z : Pre). z.lost) (sym a.0) ∙ a.2) known s)
starts image BehindEntry told last w v on p q a s is agrees known =
    subst (Starts image (standing BehindEntry told last w v) p) (sym a.0) (later_starts image told last w v p p.addr refl agrees known s is)

-- ---- contexts

first_ctx : (told : Bool) (c d : Option Ctx) (wc : Ctx) → told ≡ false → Within d c
    → unwrap_or d initial_context ≡ context_where (told || is_some d) (unwrap_or c wc)
first_ctx told c None wc e a = sym (ap (λ b. context_where (b || false) (unwrap_or c wc)) e)
first_ctx told c (Some x) wc e a = sym (ap (λ b. context_where (b || true) (unwrap_or c wc)) e ∙ ap (λ o. unwrap_or o wc) a)

later_ctx : (told : Bool) (c : Option Ctx) (wc vc : Ctx) → vc ≡ context_where told wc
    → unwrap_or c vc ≡ context_where (told || is_some c) (unwrap_or c wc)
later_ctx true None wc vc e = e
later_ctx false None wc vc e = e
later_ctx true (Some x) wc vc e = refl
later_ctx false (Some x) wc vc e = refl

pub contexts : (place : Whereabouts) (told : Bool) (w v : State) (on : Bool) (p q : Pre) → PreAt place on p q → StatesAt place told w v
    → context_of v q ≡ context_where (told_by told q) (context_of w p)
contexts NoneSeen told w v on p q a s = ap (λ (z : State). unwrap_or q.ctx z.ctx) s.0 ∙ first_ctx told p.ctx q.ctx w.ctx s.1 a.ctx
contexts BehindGap told w v on p q a s =
    subst (λ (z : Pre). context_of v z ≡ context_where (told_by told z) (context_of w p)) (sym a.0) (later_ctx told p.ctx w.ctx v.ctx s.ctx)
contexts BehindEntry told w v on p q a s =
    subst (λ (z : Pre). context_of v z ≡ context_where (told_by told z) (context_of w p)) (sym a.0) (later_ctx told p.ctx w.ctx v.ctx s.ctx)
