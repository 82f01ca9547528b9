-- Things have one walk and no other.
use Rattle.std.proofs.Common.{◌≡◌, ◌⊎◌, List, [], ◌∷◌, ◌++◌, Result, Ok, Err, refl, sym, ap, subst, ◌∙◌, inl, inr, arith}
use Rattle.std.specs.List.{All}
use Rattle.std.proofs.lemmas.List.Elements.{All-drop}
use Rattle.program_image.specs.Blocks.{HasGap}
use Rattle.program_image.specs.declared.image.Image.{Image}
use Rattle.etm_types.specs.Walked.{items_of}
use Rattle.etm_types.specs.declared.element.Thing.{Thing}
use Rattle.etm_types.specs.declared.element.Thing.TheVariants.{Seen, Unseen, Gap, Stop}
use Rattle.etm_types.specs.declared.item.Item.{Item}
use Rattle.etm_types.specs.declared.item.Item.TheVariants as item
use Rattle.etm_types.specs.declared.walked.Walked.{Walked}
use Rattle.etm_types.specs.declared.walk_fault.WalkFault.{WalkFault}
use Rattle.path_walker.specs.State.{State, IsState}
use Rattle.path_walker.specs.Walk.{IsWalk}
use Rattle.path_walker.specs.Things.{Gives, StopsAt, Walks, IsAlignedThing}
use Rattle.path_walker.proofs.OneWalk.{Walk, one_walk}
use Rattle.path_walker.proofs.SomeWalk.{some_walk}
use Rattle.path_walker.proofs.After.{shows_state}

abbrev walked : Walked → State → Walk
walked w s = Ok (w, s)

abbrev stopped : WalkFault → Walk
stopped f = Err f

both : (v w : Walked) (a b : State) → walked v a ≡ walked w b → (v ≡ w) × (a ≡ b)
both v w a b e = let same : (v, a) ≡ (w, b) = cc in (ap (λ (x : Walked × State). x.0) same, ap (λ (x : Walked × State). x.1) same)

same_stop : (f g : WalkFault) → stopped f ≡ stopped g → f ≡ g
same_stop f g e = cc

one_thing : (image : Image) (s : State) (t : Thing) (items others : List Item) (a b : State) → Gives image s t items a → Gives image s t others b
    → (items ≡ others) × (a ≡ b)
one_thing image s (Seen entry) items others a b p q =
    let same = both p.0 q.0 a b (one_walk image s entry (walked p.0 a) (walked q.0 b) p.1 q.1) in (p.2 ∙ ap items_of same.0 ∙ sym q.2, same.1)
one_thing image s Unseen items others a b p q = (p.0 ∙ sym q.0, p.1 ∙ sym q.1)
one_thing image s Gap items others a b p q = (p.0 ∙ sym q.0, p.1 ∙ sym q.1)
one_thing image s Stop items others a b p q = (p.0 ∙ sym q.0, p.1 ∙ sym q.1)

one_stop : (image : Image) (s : State) (t : Thing) (f g : WalkFault) → StopsAt image s t f → StopsAt image s t g → f ≡ g
one_stop image s (Seen entry) f g p q = same_stop f g (one_walk image s entry (stopped f) (stopped g) p q)
one_stop image s Unseen f g p q = absurd p
one_stop image s Gap f g p q = absurd p
one_stop image s Stop f g p q = absurd p

not_both : (image : Image) (s : State) (t : Thing) (items : List Item) (a : State) (f : WalkFault) → Gives image s t items a → StopsAt image s t f → ⊥
not_both image s (Seen entry) items a f p q = let x = one_walk image s entry (walked p.0 a) (stopped f) p.1 q in cc
not_both image s Unseen items a f p q = q
not_both image s Gap items a f p q = q
not_both image s Stop items a f p q = q

abbrev Outcome : Type 0
Outcome = Result State WalkFault

pub one_trail : (image : Image) (s : State) (things : List Thing) (items others : List Item) (r q : Outcome) → Walks image s things items r
    → Walks image s things others q → (items ≡ others) × (r ≡ q)
one_trail image s [] items others r q a b = (a.0 ∙ sym b.0, a.1 ∙ sym b.1)
one_trail image s (t ∷ things) items others r q (inl a) (inl b) =
    let first = one_thing image s t a.0 b.0 a.2 b.2 a.3 b.3 in
    let rest = one_trail image a.2 things a.1 b.1 r q a.4 (subst (λ next. Walks image next things b.1 q) (sym first.1) b.4) in
    (a.5 ∙ ap (λ l. l ++ a.1) first.0 ∙ ap (λ l. b.0 ++ l) rest.0 ∙ sym b.5, rest.1)
one_trail image s (t ∷ things) items others r q (inl a) (inr b) = absurd (not_both image s t a.0 a.2 b.0 a.3 b.1)
one_trail image s (t ∷ things) items others r q (inr a) (inl b) = absurd (not_both image s t b.0 b.2 a.0 b.3 a.1)
one_trail image s (t ∷ things) items others r q (inr a) (inr b) = (a.2 ∙ sym b.2, a.3 ∙ ap (λ f. Err f) (one_stop image s t a.0 b.0 a.1 b.1) ∙ sym b.3)

-- a thing gives something, and the state after it is one, or it stops
abbrev GivesOrStops : Image → State → Thing → Type 0
GivesOrStops image s t =
    ((items : List Item) × (after : State) × Gives image s t items after × IsState after) ⊎ ((f : WalkFault) × StopsAt image s t f)

gives_or_stops : (image : Image) (s : State) (t : Thing) → HasGap image → IsState s → IsAlignedThing t → GivesOrStops image s t
gives_or_stops image s (Seen entry) gap state aligned =
    let walk = some_walk image s entry gap state aligned in by walk.0 walk.1 where
      by : (walk : Walk) → IsWalk image s entry walk → GivesOrStops image s (Seen entry)
      by (Ok w) shows = inl (items_of w.0, w.1, (w.0, shows, refl), shows_state image s entry w.0 w.1 state aligned shows)
      by (Err f) stops = inr (f, stops)
gives_or_stops image s Unseen gap state aligned = inl ([], s, (refl, refl), state)
gives_or_stops image s Gap gap state aligned = inl (item.Gap ∷ [], s, (refl, refl), state)
gives_or_stops image s Stop gap state aligned = inl (item.Stop ∷ [], s, (refl, refl), state)

pub some_trail : (image : Image) (s : State) (things : List Thing) → HasGap image → IsState s → All IsAlignedThing things
    → (items : List Item) × (r : Outcome) × Walks image s things items r
some_trail image s [] gap state aligned = ([], Ok s, (refl, refl))
some_trail image s (t ∷ things) gap state aligned =
    elim (gives_or_stops image s t gap state (aligned 0 t (omega arith))) [
      | inl g ↦
          let rest = some_trail image g.1 things gap g.3 (All-drop IsAlignedThing 1 (t ∷ things) aligned) in
          (g.0 ++ rest.0, rest.1, inl (g.0, rest.0, g.1, g.2, rest.2, refl))
      | inr f ↦ ([], Err f.0, inr (f.0, f.1, refl, refl))
    ]
