-- All things that are done: the walk of the late reader, against that of the whole.
use Rattle.std.proofs.Common.{◌≡◌, Bool, true, false, List, [], ◌∷◌, ◌++◌, Option, Some, None, Ok, refl, sym, ap, subst, inl, inr}
use Rattle.std.specs.Prelude.{map, if◌then◌else◌}
use Rattle.program_image.specs.declared.image.Image.{Image}
use Rattle.etm_types.specs.Walked.{items_of, instructions, exception}
use Rattle.etm_types.specs.declared.element.Thing.{Thing}
use Rattle.etm_types.specs.declared.element.Thing.TheVariants.{Seen, Unseen, Gap, Stop}
use Rattle.etm_types.specs.declared.item.Item.{Item}
use Rattle.etm_types.specs.declared.item.Item.TheVariants as item
use Rattle.etm_types.specs.declared.walked.Walked.{Walked}
use Rattle.path_walker.specs.State.{State, first_state}
use Rattle.path_walker.specs.Things.{Gives, Walks}
use Rattle.late_reader.specs.Marks.{Mark}
use Rattle.late_reader.specs.Rows.{AreAlike, BehindEntry, BehindGap, NoneSeen, Whereabouts, Row, ThingAt, late_of, place_behind, whole_of}
use Rattle.late_reader.specs.Part.{AreCertain}
use Rattle.late_reader.specs.Walked.{ThingWalks, WalkAlike, told_by}
use Rattle.late_reader.proofs.Starts.{AreLike, LastAt, StatesAt, standing}
use Rattle.late_reader.proofs.Entries.{entry_walks}

-- ---- no unknown stretch

certain_front : (xs ys : List Item) → AreCertain (xs ++ ys) → AreCertain xs
certain_front [] ys a = tt
certain_front (x ∷ xs) ys a = (a.0, certain_front xs ys a.1)

pub certain_rest : (xs ys : List Item) → AreCertain (xs ++ ys) → AreCertain ys
certain_rest [] ys a = a
certain_rest (x ∷ xs) ys a = certain_rest xs ys a.1

certain_by : (on unknown : Bool) (xs ys : List Item)
    → AreCertain ((if on then item.On ∷ [] else []) ++ (if unknown then item.Unknown ∷ [] else xs) ++ ys) → unknown ≡ false
certain_by true true xs ys a = absurd (a.1.0)
certain_by false true xs ys a = absurd (a.0)
certain_by on false xs ys a = refl

certain : (walked : Walked) → AreCertain (items_of walked) → walked.unknown ≡ false
certain walked a = certain_by walked.on walked.unknown (instructions walked.ctx walked.start walked.count walked.took) (exception walked.exc) a

-- ---- one thing

-- the late reader shows it too, and the two go on alike
pub record OneThing (image : Image) (place : Whereabouts) (told : Bool) (last : Option Walked) (w v : State) (t : Thing) (m : Mark) (u : Thing) (w' : State)
    (items : List Item) : Type 0 where
  pub next : State
  pub told' : Bool
  pub last' : Option Walked
  pub others : List Item
  pub walks : ThingWalks image (standing place told last w v) (standing (place_behind place u) told' last' w' next) t m u items others
  pub gives : Gives image v u others next
  pub states : StatesAt (place_behind place u) told' w' next
  pub is : LastAt image (place_behind place u) last' next

unseen_states : (place : Whereabouts) (told : Bool) (w v w' : State) → place ≡ NoneSeen → StatesAt place told w v → StatesAt place told w' v
unseen_states NoneSeen told w v w' e s = s
unseen_states BehindGap told w v w' e s = absurd cc
unseen_states BehindEntry told w v w' e s = absurd cc

gap_states : (place : Whereabouts) (told : Bool) (w v : State) → StatesAt place told w v → AreLike told w v
gap_states NoneSeen told w v s =
    subst (λ (z : State). AreLike told w z) (sym s.0)
    (subst (λ b. AreLike b w first_state) (sym s.1) (record { pc = inl refl; front = (w.stack, refl); ctx = refl }))
gap_states BehindGap told w v s = s
gap_states BehindEntry told w v s = s

module _ (image : Image) (place : Whereabouts) (told : Bool) (last : Option Walked) (w v : State) (t : Thing) (m : Mark) (items : List Item)
    (w' : State) where
  unseen_thing : place ≡ NoneSeen → StatesAt place told w v → LastAt image place last v → Gives image w t items w'
      → OneThing image place told last w v t m Unseen w' items
  unseen_thing first s is g =
      record {
        next = v;
        told' = told;
        last' = last;
        others = [];
        walks = record { gives = g; none = refl; stays = refl };
        gives = (refl, refl);
        states = unseen_states place told w v w' first s;
        is = is;
      }

  gap_thing : t ≡ Gap → StatesAt place told w v → Gives image w t items w' → OneThing image place told last w v t m Gap w' items
  gap_thing same s g =
      let gap = subst (λ z. Gives image w z items w') same g in
      record {
        next = v;
        told' = told;
        last' = None;
        others = item.Gap ∷ [];
        walks = record { items_are = gap.0; others_are = refl; stays = ap (λ z. standing BehindGap told None z v) gap.1 };
        gives = (refl, refl);
        states = subst (λ z. AreLike told z v) (sym gap.1) (gap_states place told w v s);
        is = refl;
      }

  stop_thing : t ≡ Stop → StatesAt place told w v → Gives image w t items w' → OneThing image place told last w v t m Stop w' items
  stop_thing same s g =
      let stop = subst (λ z. Gives image w z items w') same g in
      record {
        next = v;
        told' = told;
        last' = None;
        others = item.Stop ∷ [];
        walks = record { items_are = stop.0; others_are = refl; stays = ap (λ z. standing BehindGap told None z v) stop.1 };
        gives = (refl, refl);
        states = subst (λ z. AreLike told z v) (sym stop.1) (gap_states place told w v s);
        is = refl;
      }

  one_thing : (u : Thing) → ThingAt place m t u → StatesAt place told w v → LastAt image place last v → Gives image w t items w' → AreCertain items
      → OneThing image place told last w v t m u w' items
  one_thing Unseen a s is g c = unseen_thing a.0 s is g
  one_thing Gap a s is g c = gap_thing a.0 s g
  one_thing Stop a s is g c = stop_thing a.0 s g
  one_thing (Seen entry) a s is g c =
      let shown = subst (λ z. Gives image w z items w') a.same g in
      let known = certain shown.0 (subst AreCertain shown.2 c) in
      let one = entry_walks image place told last w v a.pre entry.pre entry.p0 m w' shown.0 a.pres s is shown.1 known in
      record {
        next = one.next;
        told' = told_by told entry.pre;
        last' = Some one.late;
        others = items_of one.late;
        walks = record { pre = a.pre; same = a.same; whole = shown.0; late = one.late; walks = one.walks; items_are = shown.2; others_are = refl };
        gives = (one.late, one.walks.shown, refl);
        states = one.like;
        is = one.is;
      }

-- ---- all of them

pub record AllThings (image : Image) (place : Whereabouts) (told : Bool) (last : Option Walked) (w v : State) (rows : List Row) (items : List Item)
    : Type 0 where
  pub others : List Item
  pub after : State
  pub walks : Walks image v (map late_of rows) others (Ok after)
  pub walk_alike : WalkAlike image (standing place told last w v) rows items others

pub all_things : (image : Image) (place : Whereabouts) (told : Bool) (last : Option Walked) (w v end : State) (rows : List Row) (items : List Item)
    → AreAlike place rows → StatesAt place told w v → LastAt image place last v → Walks image w (map whole_of rows) items (Ok end) → AreCertain items
    → AllThings image place told last w v rows items
all_things image place told last w v end [] items a s is g c =
    record { others = []; after = v; walks = (refl, refl); walk_alike = (g.0, refl) }
all_things image place told last w v end (r ∷ rows) items a s is (inr g) c = absurd (let e = g.3 in cc)
all_things image place told last w v end (r ∷ rows) items a s is (inl g) c =
    let certain = subst AreCertain g.5 c in
    let one = one_thing image place told last w v r.whole r.mark g.0 g.2 r.late a.0 s is g.3 (certain_front g.0 g.1 certain) in
    let all = all_things image (place_behind place r.late) one.told' one.last' g.2 one.next end rows g.1 a.1 one.states one.is g.4
    (certain_rest g.0 g.1 certain) in
    record {
      others = one.others ++ all.others;
      after = all.after;
      walks = inl (one.others, all.others, one.next, one.gives, all.walks, refl);
      walk_alike = (
        standing (place_behind place r.late) one.told' one.last' g.2 one.next,
        g.0,
        g.1,
        one.others,
        all.others,
        one.walks,
        all.walk_alike,
        g.5,
        refl,
      );
    }
