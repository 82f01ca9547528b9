-- A flip of the newest atom, or of one that the end has not seen.
use Rattle.std.proofs.Common.{◌≡◌, ℕ, Bool, true, not, if◌then◌else◌, List, [], ◌∷◌, ◌++◌, length, Option, Some, None, Ok, refl, sym, ap, subst, ◌∙◌}
use Rattle.std.proofs.Common.{append_assoc, append-nil}
use Rattle.std.proofs.lemmas.List.{map-append}
use Rattle.std.specs.Prelude.{map, replicate}
use Rattle.std.specs.Option.{option_map}
use Rattle.etm_types.specs.declared.element.Elem.TheVariants as elem
use Rattle.etm_types.specs.declared.element.Entry.{Entry}
use Rattle.etm_types.specs.declared.element.P0.{P0}
use Rattle.etm_types.specs.declared.element.P0.TheVariants.{Atom, Exc}
use Rattle.etm_types.specs.declared.element.Pre.{Pre}
use Rattle.etm_types.specs.declared.element.Thing.{Thing}
use Rattle.etm_types.specs.declared.element.Thing.TheVariants.{Seen, Unseen, Gap, Stop}
use Rattle.etm_types.specs.declared.queue_fault.QueueFault.TheVariants.{NoAtomToFlip}
use Rattle.element_queue.specs.Pending.{flips, flip_newest, flip_thing, pre_behind, is_unseen}
use Rattle.element_queue.specs.Resolved.{Resolved, resolve, with_done}
use Rattle.late_reader.specs.Marks.{Mark, old, Marks}
use Rattle.late_reader.specs.Rows.{AreAlike, BehindEntry, BehindGap, NoneSeen, Whereabouts, PreAt, Row, ThingAt, late_of, mark_of, place_behind}
use Rattle.late_reader.specs.Rows.{whole_of}
use Rattle.late_reader.proofs.Alike.{Alike, places_behind}
use Rattle.late_reader.proofs.Lists.{fine, same_fine, never_fine, Newest, newest_of, alike_fronts, alike_rests, alike_joined, places-append}
use Rattle.late_reader.proofs.Lists.{marks_apart}
use Rattle.late_reader.proofs.Told.{Follows, Goes}

-- ---- the newest of the things

maps : {X Y Z : Type 0} (f : X → Y) (g : Y → Z) (o : Option X) → option_map g (option_map f o) ≡ option_map (λ x. g (f x)) o
maps f g None = refl
maps f g (Some x) = refl

flip_newest_at : (xs : List Thing) (t : Thing) → flip_newest (xs ++ t ∷ []) ≡ option_map (λ f. xs ++ f ∷ []) (flip_thing t)
flip_newest_at [] t = refl
flip_newest_at (x ∷ []) t = maps (λ f. f ∷ []) (λ f. x ∷ f) (flip_thing t)
flip_newest_at (x ∷ y ∷ xs) t = ap (option_map (λ l. x ∷ l)) (flip_newest_at (y ∷ xs) t) ∙ maps (λ f. y ∷ xs ++ f ∷ []) (λ l. x ∷ l) (flip_thing t)

abbrev pub turned_pre : Thing → Pre → Pre
turned_pre t pre = record pre { addr = None; lost = if is_unseen t then true else pre.lost }

pre_behind_at : (xs : List Thing) (t : Thing) (pre : Pre) → pre_behind (xs ++ t ∷ []) pre ≡ turned_pre t pre
pre_behind_at [] t pre = refl
pre_behind_at (x ∷ []) t pre = refl
pre_behind_at (x ∷ y ∷ xs) t pre = pre_behind_at (y ∷ xs) t pre

-- the newest thing, behind others, is this one now
abbrev pub turned : Resolved → List Thing → Thing → Thing → Resolved
turned r others t f = record { done = r.done ++ []; pending = record (r.pending) { held = others ++ f ∷ []; pre = turned_pre t r.pending.pre } }

-- with the list that is held written out
abbrev pub flips_by : Resolved → List Thing → Resolved
flips_by r held = record { done = r.done; pending = record (r.pending) { held = held } }

turns : (depth : ℕ) (r : Resolved) (others : List Thing) (t f : Thing) → r.pending.held ≡ others ++ t ∷ [] → flip_thing t ≡ Some f
    → resolve depth r elem.Flip ≡ Ok (turned r others t f)
turns depth r others t f holds e =
    let found : flip_newest r.pending.held ≡ Some (others ++ f ∷ []) =
    ap flip_newest holds ∙ flip_newest_at others t ∙ ap (option_map (λ f. others ++ f ∷ [])) e in
    let tells : pre_behind r.pending.held r.pending.pre ≡ turned_pre t r.pending.pre =
    ap (λ l. pre_behind l r.pending.pre) holds ∙ pre_behind_at others t r.pending.pre in
    ap (λ o. with_done r.done (flips r.pending o)) found
    ∙ ap (λ z. fine (record { done = r.done ++ []; pending = record (r.pending) { held = others ++ f ∷ []; pre = z } })) tells

stays : (depth : ℕ) (r next : Resolved) (others : List Thing) (t : Thing) → r.pending.held ≡ others ++ t ∷ [] → flip_thing t ≡ None
    → resolve depth r elem.Flip ≡ Ok next → ⊥
stays depth r next others t holds e g =
    let none : flip_newest r.pending.held ≡ None = ap flip_newest holds ∙ flip_newest_at others t ∙ ap (option_map (λ f. others ++ f ∷ [])) e in
    never_fine (NoAtomToFlip (length r.pending.held)) next (sym (ap (λ o. with_done r.done (flips r.pending o)) none) ∙ g)

empty : (depth : ℕ) (r next : Resolved) → r.pending.held ≡ [] → resolve depth r elem.Flip ≡ Ok next → ⊥
empty depth r next holds g =
    never_fine (NoAtomToFlip (length r.pending.held)) next (sym (ap (λ o. with_done r.done (flips r.pending o)) (ap flip_newest holds)) ∙ g)

-- ---- the rows

abbrev pub row : Thing → Mark → Thing → Row
row t m u = record { whole = t; mark = m; late = u }

-- the newest row is another one, at the same place
turned_alike : (base : List Thing) (whole : Resolved) (marks : Marks) (late : Resolved) (done_rows others : List Row) (t u f g : Thing) (m : Mark)
    → whole.done ≡ base ++ map whole_of done_rows → late.done ≡ map late_of done_rows
    → marks.all ≡ replicate (length base) old ++ map mark_of (done_rows ++ (others ++ row t m u ∷ []))
    → AreAlike NoneSeen (done_rows ++ (others ++ row t m u ∷ [])) → ThingAt (places_behind NoneSeen (done_rows ++ others)) m f g
    → PreAt (place_behind (places_behind NoneSeen (done_rows ++ others)) g) marks.on (turned_pre t whole.pending.pre) (turned_pre u late.pending.pre)
    → whole.pending.informed ≡ true → late.pending.informed ≡ true
    → Alike base (turned whole (map whole_of others) t f) marks (turned late (map late_of others) u g)
turned_alike base whole marks late done_rows others t u f g m done shown all alike is pres informed begun =
    let x = row t m u in
    let y = row f m g in
    let joined : (r : Row) → (done_rows ++ others) ++ r ∷ [] ≡ done_rows ++ (others ++ r ∷ []) = λ r. append_assoc done_rows others (r ∷ []) in
    let front = replicate (length base) old in
    record {
      done_rows = done_rows;
      held_rows = others ++ y ∷ [];
      done = append-nil whole.done ∙ done;
      shown = append-nil late.done ∙ shown;
      held = sym (map-append whole_of others (y ∷ []));
      kept = sym (map-append late_of others (y ∷ []));
      all = all ∙ ap (λ l. front ++ map mark_of l) (sym (joined x)) ∙ marks_apart front (done_rows ++ others) (x ∷ [])
          ∙ sym (marks_apart front (done_rows ++ others) (y ∷ [])) ∙ ap (λ l. front ++ map mark_of l) (joined y);
      alike = subst (AreAlike NoneSeen) (joined y)
          (alike_joined NoneSeen (done_rows ++ others) (y ∷ [])
          (alike_fronts NoneSeen (done_rows ++ others) (x ∷ []) (subst (AreAlike NoneSeen) (sym (joined x)) alike)) (is, tt));
      pres = subst (λ p. PreAt p marks.on (turned_pre t whole.pending.pre) (turned_pre u late.pending.pre))
          (sym (places-append NoneSeen (done_rows ++ others) (y ∷ [])) ∙ ap (places_behind NoneSeen) (joined y)) pres;
      informed = informed;
      begun = begun;
    }

-- what is pending, by the thing that is turned
unseen_pres : (place : Whereabouts) (on : Bool) (t : Thing) (p q : Pre) → place ≡ NoneSeen → PreAt place on p q
    → PreAt place on (turned_pre t p) (turned_pre Unseen q)
unseen_pres NoneSeen on t p q e a = record { lost = refl; addr = tt; ctx = a.ctx; on = a.on }
unseen_pres BehindGap on t p q e a = absurd cc
unseen_pres BehindEntry on t p q e a = absurd cc

seen_pres : (on : Bool) (e f : Entry) (p q : Pre) → PreAt BehindEntry on p q → PreAt BehindEntry on (turned_pre (Seen e) p) (turned_pre (Seen f) q)
seen_pres on e f p q a = (ap (λ (z : Pre). record z { addr = None }) a.0, a.1)

-- the newest row, and what is pending behind it
record Last (base : List Thing) (whole : Resolved) (marks : Marks) (late : Resolved) (done_rows others : List Row) (t : Thing) (m : Mark)
    (u : Thing) : Type 0 where
  done : whole.done ≡ base ++ map whole_of done_rows
  shown : late.done ≡ map late_of done_rows
  held : whole.pending.held ≡ map whole_of others ++ t ∷ []
  kept : late.pending.held ≡ map late_of others ++ u ∷ []
  all : marks.all ≡ replicate (length base) old ++ map mark_of (done_rows ++ (others ++ row t m u ∷ []))
  alike : AreAlike NoneSeen (done_rows ++ (others ++ row t m u ∷ []))
  is : ThingAt (places_behind NoneSeen (done_rows ++ others)) m t u
  pres : PreAt (place_behind (places_behind NoneSeen (done_rows ++ others)) u) marks.on whole.pending.pre late.pending.pre
  informed : whole.pending.informed ≡ true
  begun : late.pending.informed ≡ true

by_found : (depth : ℕ) (base : List Thing) (whole : Resolved) (marks : Marks) (late next : Resolved) (done_rows others : List Row) (t : Thing)
    (m : Mark) (o : Option Thing)
    → flip_thing t ≡ o → Last base whole marks late done_rows others t m Unseen → resolve depth whole elem.Flip ≡ Ok next
    → Goes depth base whole marks late elem.Flip next
by_found depth base whole marks late next done_rows others t m None f l e = absurd (stays depth whole next (map whole_of others) t l.held f e)
by_found depth base whole marks late next done_rows others t m (Some g) f l e =
    subst (Goes depth base whole marks late elem.Flip) (same_fine _ next (sym (turns depth whole (map whole_of others) t g l.held f) ∙ e)) (record {
      after = turned late (map late_of others) Unseen Unseen;
      resolves = turns depth late (map late_of others) Unseen Unseen l.kept refl;
      alike = turned_alike base whole marks late done_rows others t Unseen g Unseen m l.done l.shown l.all l.alike l.is
          (unseen_pres _ marks.on t whole.pending.pre late.pending.pre l.is.0 l.pres) l.informed l.begun;
    })

by_entry : (depth : ℕ) (base : List Thing) (whole : Resolved) (marks : Marks) (late next : Resolved) (done_rows others : List Row) (m : Mark)
    (p q : Pre) (p0 : P0)
    → PreAt (places_behind NoneSeen (done_rows ++ others)) m.on p q → m.made ≡ true
    → Last base whole marks late done_rows others (Seen (record { pre = p; p0 = p0 })) m (Seen (record { pre = q; p0 = p0 }))
    → resolve depth whole elem.Flip ≡ Ok next → Goes depth base whole marks late elem.Flip next
by_entry depth base whole marks late next done_rows others m p q (Exc kind ret) a made l e =
    absurd (stays depth whole next (map whole_of others) _ l.held refl e)
by_entry depth base whole marks late next done_rows others m p q (Atom b) a made l e =
    let t = Seen (record { pre = p; p0 = Atom b }) in
    let u = Seen (record { pre = q; p0 = Atom b }) in
    let f = Seen (record { pre = p; p0 = Atom (not b) }) in
    let g = Seen (record { pre = q; p0 = Atom (not b) }) in
    subst (Goes depth base whole marks late elem.Flip) (same_fine _ next (sym (turns depth whole (map whole_of others) t f l.held refl) ∙ e))
    (record {
      after = turned late (map late_of others) u g;
      resolves = turns depth late (map late_of others) u g l.kept refl;
      alike = turned_alike base whole marks late done_rows others t u f g m l.done l.shown l.all l.alike
          (record { made = made; pre = p; same = refl; pres = a })
          (seen_pres marks.on (record { pre = p; p0 = Atom b }) (record { pre = q; p0 = Atom b }) whole.pending.pre late.pending.pre l.pres)
          l.informed l.begun;
    })

by_thing : (depth : ℕ) (base : List Thing) (whole : Resolved) (marks : Marks) (late next : Resolved) (done_rows others : List Row) (t : Thing)
    (m : Mark) (u : Thing)
    → Last base whole marks late done_rows others t m u → resolve depth whole elem.Flip ≡ Ok next → Goes depth base whole marks late elem.Flip next
by_thing depth base whole marks late next done_rows others t m Unseen l e =
    by_found depth base whole marks late next done_rows others t m (flip_thing t) refl l e
by_thing depth base whole marks late next done_rows others t m Gap l e =
    absurd (stays depth whole next (map whole_of others) t l.held (ap flip_thing l.is.0) e)
by_thing depth base whole marks late next done_rows others t m Stop l e =
    absurd (stays depth whole next (map whole_of others) t l.held (ap flip_thing l.is.0) e)
by_thing depth base whole marks late next done_rows others t m (Seen entry) l e =
    by_entry depth base whole marks late next done_rows others m l.is.pre entry.pre entry.p0 l.is.pres l.is.made
    (subst (λ z. Last base whole marks late done_rows others z m (Seen entry)) l.is.same l) e

newest_row : (base : List Thing) (whole : Resolved) (marks : Marks) (late : Resolved) (a : Alike base whole marks late) (n : Newest a.held_rows)
    → Last base whole marks late a.done_rows n.others n.last.whole n.last.mark n.last.late
newest_row base whole marks late a n =
    let x = n.last in
    let joined : (a.done_rows ++ n.others) ++ x ∷ [] ≡ a.done_rows ++ (n.others ++ x ∷ []) = append_assoc a.done_rows n.others (x ∷ []) in
    let alike : AreAlike NoneSeen (a.done_rows ++ (n.others ++ x ∷ [])) = subst (λ l. AreAlike NoneSeen (a.done_rows ++ l)) n.whole a.alike in
    record {
      done = a.done;
      shown = a.shown;
      held = a.held ∙ ap (map whole_of) n.whole ∙ map-append whole_of n.others (x ∷ []);
      kept = a.kept ∙ ap (map late_of) n.whole ∙ map-append late_of n.others (x ∷ []);
      all = a.all ∙ ap (λ l. replicate (length base) old ++ map mark_of (a.done_rows ++ l)) n.whole;
      alike = alike;
      is = (alike_rests NoneSeen (a.done_rows ++ n.others) (x ∷ []) (subst (AreAlike NoneSeen) (sym joined) alike)).0;
      pres = subst (λ p. PreAt p marks.on whole.pending.pre late.pending.pre)
          (ap (λ l. places_behind NoneSeen (a.done_rows ++ l)) n.whole ∙ sym (ap (places_behind NoneSeen) joined)
          ∙ places-append NoneSeen (a.done_rows ++ n.others) (x ∷ [])) a.pres;
      informed = a.informed;
      begun = a.begun;
    }

by_late : (depth : ℕ) (base : List Thing) (whole : Resolved) (marks : Marks) (late next : Resolved) (a : Alike base whole marks late)
    (held_rows : List Row)
    → a.held_rows ≡ held_rows
    → resolve depth whole elem.Flip ≡ Ok next → Goes depth base whole marks late elem.Flip next
by_late depth base whole marks late next a [] f e = absurd (empty depth whole next (a.held ∙ ap (map whole_of) f) e)
by_late depth base whole marks late next a (x ∷ held_rows) f e =
    let n = newest_of x held_rows in
    let there : Newest a.held_rows = record { others = n.others; last = n.last; whole = f ∙ n.whole } in
    by_thing depth base whole marks late next a.done_rows n.others n.last.whole n.last.mark n.last.late (newest_row base whole marks late a there) e

pub flip_goes : Follows elem.Flip
flip_goes depth base whole marks late next a e = by_late depth base whole marks late next a a.held_rows refl e
