-- Atoms that are next commit the oldest, some after others.
use Rattle.std.proofs.Common.{◌≡◌, ℕ, zero, suc, ◌+◌, ◌≤◌, ◌<◌, Bool, List, [], ◌∷◌, ◌++◌, All, length, drop, Some, refl, sym, ap, subst, ◌∙◌, arith, slice_get}
use Rattle.std.proofs.lemmas.List.{drop-drop, drop-map}
use Rattle.std.proofs.lemmas.List.Elements.{All-append, All-cons, All-drop, All-nil}
use Rattle.etm_types.specs.declared.context.Ctx.{Ctx}
use Rattle.etm_types.specs.declared.element.Elem.{Elem}
use Rattle.etm_types.specs.declared.element.Elem.TheVariants as elem
use Rattle.etm_types.specs.declared.element.P0.TheVariants.{Atom}
use Rattle.etm_types.specs.declared.element.Pre.{Pre}
use Rattle.etm_types.specs.declared.element.Thing.{Thing}
use Rattle.etm_types.specs.declared.element.Thing.TheVariants.{Seen}
use Rattle.path_elements.specs.Elements.{atoms}
use Rattle.path_walker.specs.State.{State}
use Rattle.path_walker.specs.Things.{IsAlignedThing}
use Rattle.path_walker.specs.Walk.{ToldIsAligned}
use Rattle.path_walker.specs.declared.stretch.Stretch.{Stretch}
use Rattle.program_image.specs.declared.image.Image.{Image}
use Rattle.stream_decoder.proofs.AtomSteps.{takes_joined}
use Rattle.stream_decoder.proofs.LettingGo.{few_held, rotates, still_full}
use Rattle.stream_decoder.specs.AtomPackets.{TakesSome}
use Rattle.stream_decoder.specs.Waiting.{IsWaiting, TakesAtoms, Waiting, all_of}

-- no more may be held, nothing is due, and each address is that of an instruction
pub record IsTurning (w : Waiting) : Type 0 where
  pub due : w.due ≡ []
  pub full : w.depth ≤ length (w.pending).held
  pub things : All IsAlignedThing (all_of w)
  pub given : ToldIsAligned (w.pending).pre.addr
  pub holds : IsWaiting w

-- it stays so
pub still_turning : (w w' : Waiting) (elements left : List Elem) (n : ℕ) → IsTurning w → TakesAtoms w elements n w' left
    → IsTurning w' × (left ≡ drop n elements)
still_turning w w' elements left zero is (same, all) = (subst IsTurning (sym same) is, all)
still_turning w w' elements left (suc n) is (taken, others, next, first, commits, holds, takes) =
    let turned = rotates w next taken (few_held w is.due is.holds) is.full commits in
    let newest : Thing = Seen (record { pre = (w.pending).pre; p0 = Atom taken }) in
    let held : All IsAlignedThing (w.pending).held = subst (λ (due : List Thing). All IsAlignedThing (due ++ (w.pending).held)) is.due is.things in
    let last : All IsAlignedThing (newest ∷ []) = All-cons IsAlignedThing newest [] (is.given, tt) (All-nil IsAlignedThing) in
    let every : All IsAlignedThing ((w.pending).held ++ newest ∷ []) = All-append IsAlignedThing (w.pending).held (newest ∷ []) held last in
    let left_is : all_of next ≡ drop 1 ((w.pending).held ++ newest ∷ []) =
    ap (λ (due : List Thing). due ++ (next.pending).held) turned.due ∙ turned.held in
    let after : IsTurning next = record {
      due = turned.due;
      full = still_full w next taken is.full turned;
      things = subst (All IsAlignedThing) (sym left_is) (All-drop IsAlignedThing 1 ((w.pending).held ++ newest ∷ []) every);
      given = subst (λ (pre : Pre). ToldIsAligned pre.addr) (sym turned.pre) tt;
      holds = holds;
    } in
    let (more, rest) = still_turning next w' others left n after takes in (more, rest ∙ ap (drop (suc n)) (sym first))

-- n of the elements were taken so: those that are atoms
pub record IsTurned {V : Type 0} (Takes : V → List Stretch → V → Type 0) (image : Image) (w : Waiting) (s : State) (elements : List Elem) (old : V) (n : ℕ)
    (w' : Waiting) (s' : State) (new : V) (left : List Elem) : Type 0 where
  pub steps : (told : List Bool) → elements ≡ atoms told → TakesSome Takes image w s told old n w' s' new
  pub left_is : left ≡ drop n elements
  pub turning : IsTurning w'
  pub context : s'.ctx ≡ s.ctx

module _ {V : Type 0} (Takes : V → List Stretch → V → Type 0) (image : Image) where
  pub turned_none : (w : Waiting) (s : State) (elements : List Elem) (v : V) → Takes v [] v → IsTurning w
      → IsTurned Takes image w s elements v 0 w s v elements
  turned_none w s elements v none is = record {
    steps = λ told are. record { added = []; takes = none; within = omega arith; steps = (refl, refl, refl) };
    left_is = refl;
    turning = is;
    context = refl;
  }

  -- and then more of those that are left
  pub turned_more : ((a b c : V) (xs ys : List Stretch) → Takes a xs b → Takes b ys c → Takes a (xs ++ ys) c) → (w mid w' : Waiting) (s m s' : State)
      (elements remain left : List Elem) (n k : ℕ) (old v new : V) → IsTurned Takes image w s elements old n mid m v remain
      → IsTurned Takes image mid m remain v k w' s' new left → IsTurned Takes image w s elements old (n + k) w' s' new left
  turned_more joins w mid w' s m s' elements remain left n k old v new first rest = record {
    steps = λ told are.
        takes_joined Takes image joins w mid w' s m s' told n k old v new (first.steps told are)
        (rest.steps (drop n told) (first.left_is ∙ ap (drop n) are ∙ drop-map _ n told));
    left_is = rest.left_is ∙ ap (drop k) first.left_is ∙ drop-drop k n elements ∙ ap (λ (j : ℕ). drop j elements) (omega arith);
    turning = rest.turning;
    context = rest.context ∙ first.context;
  }

get_behind : (n k : ℕ) (elements : List Elem) → slice_get (drop n elements) k ≡ slice_get elements (n + k)
get_behind zero k elements = ap (slice_get elements) (omega arith)
get_behind (suc n) k [] = refl
get_behind (suc n) k (e ∷ elements) =
    let next : suc (n + k) ≡ suc n + k = omega arith in get_behind n k elements ∙ ap (slice_get (e ∷ elements)) next

-- each by a call of its own, in the same context
pub turned_again : {V : Type 0} (adds : Ctx → V → List Stretch → V → Type 0) (image : Image)
    → ((ctx : Ctx) (a b c : V) (xs ys : List Stretch) → adds ctx a xs b → adds ctx b ys c → adds ctx a (xs ++ ys) c) → (w mid w' : Waiting) (s m s' : State)
    (elements remain left : List Elem) (n k : ℕ) (old v new : V) → IsTurned (adds s.ctx) image w s elements old n mid m v remain
    → ((told : List Bool) → remain ≡ atoms told → TakesSome (adds m.ctx) image mid m told v k w' s' new) → left ≡ drop k remain → IsTurning w'
    → s'.ctx ≡ m.ctx → IsTurned (adds s.ctx) image w s elements old (n + k) w' s' new left
turned_again adds image joins w mid w' s m s' elements remain left n k old v new first steps left_is is context =
    turned_more (adds s.ctx) image (joins s.ctx) w mid w' s m s' elements remain left n k old v new first (record {
      steps = λ told are. subst (λ (ctx : Ctx). TakesSome (adds ctx) image mid m told v k w' s' new) first.context (steps told are);
      left_is = left_is;
      turning = is;
      context = context;
    })

-- atoms are left as long as fewer were taken than there were
pub atoms_left : (elements left : List Elem) (n most : ℕ)
    → ((k : ℕ) → k < most → (taken : Bool) × (slice_get elements k ≡ Some (elem.P0 (Atom taken)))) → left ≡ drop n elements → (k : ℕ) → n + k < most
    → (taken : Bool) × (slice_get left k ≡ Some (elem.P0 (Atom taken)))
atoms_left elements left n most are is k below =
    let there = are (n + k) below in (there.0, ap (λ (l : List Elem). slice_get l k) is ∙ get_behind n k elements ∙ there.1)
