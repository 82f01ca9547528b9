-- The elements of a packet, one after the other, while their lines are written.
use Rattle.std.proofs.Common.{◌≡◌, ◌≤◌, ℕ, zero, suc, ◌+◌, Bool, true, false, if◌then◌else◌, List, [], ◌∷◌, ◌++◌, length, replicate, Option}
use Rattle.std.proofs.Common.{Some, None, Result, Ok, Err}
use Rattle.std.proofs.Common.{refl, sym, ap, subst, ◌∙◌, append-nil, append_assoc}
use Rattle.std.specs.Prelude.{All, is_some, nat_le, slice_get, ◌==◌}
use Rattle.std.specs.List.{concat}
use Rattle.std.proofs.lemmas.Option.{get_or_from_slice_get, slice_get_within}
use Rattle.element_queue.specs.Pending.{Gone, Pending, Taken, flip_newest, flips, nothing_gone, taken, tells}
use Rattle.etm_types.specs.declared.element.Elem.{Elem}
use Rattle.etm_types.specs.declared.element.Elem.TheVariants as elem
use Rattle.etm_types.specs.declared.element.Thing.{Thing}
use Rattle.etm_types.specs.declared.element.Thing.TheVariants.{Unseen}
use Rattle.etm_types.specs.declared.queue_fault.QueueFault.TheVariants.{SpecTooDeep}
use Rattle.packet_grammar.specs.declared.stream_fault.Fault.{Fault}
use Rattle.path_text.proofs.Wrote.{Wrote, fails_after, then_writes, wrote_by, wrote_more, wrote_nothing, writes_all}
use Rattle.path_text.specs.Writing.{Writes}
use Rattle.time_marks.proofs.Growing.{elements_grow, elements_next, elements_stop, text-append}
use Rattle.time_marks.proofs.Steps.{lines_more, lines_parts}
use Rattle.time_marks.specs.Marked.{IsInfo, Marked, Moves, less, out_first}
use Rattle.time_marks.specs.Stamps.{Stamp}
use Rattle.time_marks.specs.Timed.{IsAt, Prints}
use Rattle.time_marks.specs.TimeLines.{mark_lines, time_lines}
use Rattle.time_marks.specs.Times.{Times, after_element, after_elements, taken_so}
use Rattle.time_marks.specs.declared.time_line.TimeLine.{TimeLine}
use Rattle.time_marks.specs.declared.timeline.Timeline.{Timeline}
use Rattle.trace_io.specs.State.{IoState}

-- ---- what is printed

-- lines by which one grows to the other were written, in calls that did not fail
pub record Printed (id : ℕ) (t t' : Times) (a b : IoState) : Type 0 where
  pub more : List TimeLine
  pub grows : t'.lines ≡ t.lines ++ more
  pub wrote : Wrote a b (concat (time_lines id more))

pub printed_none : (id : ℕ) (t : Times) (a : IoState) → Printed id t t a a
printed_none id t a = record { more = []; grows = sym (append-nil t.lines); wrote = wrote_nothing a }

module _ (id : ℕ) (t u v : Times) (a b c : IoState) where
  joined : (xs ys : List TimeLine) → u.lines ≡ t.lines ++ xs → v.lines ≡ u.lines ++ ys → v.lines ≡ t.lines ++ (xs ++ ys)
  joined xs ys one other = other ∙ ap (λ (l : List TimeLine). l ++ ys) one ∙ append_assoc t.lines xs ys

  pub printed_more : {T E : Type 0} (x : T) → Printed id t u a b → Prints {T = T} {E = E} id u v b c (Ok x) → Printed id t v a c
  printed_more x p q =
      record {
        more = p.more ++ q.more;
        grows = joined p.more q.more p.grows q.grows;
        wrote = subst (Wrote a c) (text-append id p.more q.more)
            (wrote_more a b c (concat (time_lines id p.more)) (concat (time_lines id q.more)) p.wrote
            (wrote_by b c x (concat (time_lines id q.more)) q.writes));
      }

  pub prints_all : {T E : Type 0} (x : T) → Printed id t u a b → Prints {T = T} {E = E} id t u a b (Ok x)
  prints_all x p = record { more = p.more; grows = p.grows; writes = writes_all a b x (concat (time_lines id p.more)) p.wrote }

  -- one call after others, whatever it answers
  pub prints_then : {T E : Type 0} (r : Result T E) → Printed id t u a b → Prints id u v b c r → Prints id t v a c r
  prints_then r p q =
      record {
        more = p.more ++ q.more;
        grows = joined p.more q.more p.grows q.grows;
        writes = then_writes a b c r (concat (time_lines id p.more)) (concat (time_lines id q.more)) (concat (time_lines id (p.more ++ q.more)))
            (text-append id p.more q.more) p.wrote q.writes;
      }

  -- a call failed after others: what comes behind it is not written
  pub prints_fail : {T U E : Type 0} (e d : E) (w : Times) (rest : List TimeLine) → Printed id t u a b → Prints {T = T} id u v b c (Err e)
      → w.lines ≡ v.lines ++ rest → Prints {T = U} id t w a c (Err d)
  prints_fail e d w rest p q more =
      let all = q.more ++ rest in
      let text : concat (time_lines id p.more) ++ (concat (time_lines id q.more) ++ concat (time_lines id rest)) ≡ concat (time_lines id (p.more ++ all)) =
      ap (λ (l : List ℕ). concat (time_lines id p.more) ++ l) (text-append id q.more rest) ∙ text-append id p.more all in
      record {
        more = p.more ++ all;
        grows = more ∙ ap (λ (l : List TimeLine). l ++ rest) (joined p.more q.more p.grows q.grows) ∙ append_assoc t.lines (p.more ++ q.more) rest
            ∙ ap (λ (l : List TimeLine). t.lines ++ l) (append_assoc p.more q.more rest);
        writes = fails_after a b c e d (concat (time_lines id p.more)) (concat (time_lines id q.more)) (concat (time_lines id rest))
            (concat (time_lines id (p.more ++ all))) text p.wrote q.writes;
      }

-- ---- elements

-- some elements were taken, and these are left
pub record Along (id depth at : ℕ) (t : Times) (elements : List Elem) (l : Timeline) (left : List Elem) (a b : IoState) : Type 0 where
  pub here : Times
  pub is : IsAt l here
  pub stamp : here.stamp ≡ t.stamp
  pub leads : after_elements depth at t elements ≡ after_elements depth at here left
  pub printed : Printed id t here a b

pub along_first : (id depth at : ℕ) (t : Times) (elements : List Elem) (l : Timeline) (a : IoState) → IsAt l t → Along id depth at t elements l elements a a
along_first id depth at t elements l a is = record { here = t; is = is; stamp = refl; leads = refl; printed = printed_none id t a }

-- ---- the oldest are committed, one after the other

abbrev text_of : ℕ → Marked → ℕ → List Stamp → List ℕ
text_of id m n done = concat (time_lines id (mark_lines done (out_first m n)))

abbrev one_text : ℕ → Marked → ℕ → List Stamp → List ℕ
one_text id m n done = concat (time_lines id (mark_lines (done ++ out_first m n) (out_first (less m n) 1)))

text_more : (id : ℕ) (m : Marked) (n : ℕ) (done : List Stamp) → text_of id m n done ++ one_text id m n done ≡ text_of id m (n + 1) done
text_more id m n done =
    text-append id (mark_lines done (out_first m n)) (mark_lines (done ++ out_first m n) (out_first (less m n) 1))
    ∙ ap (λ (l : List TimeLine). concat (time_lines id l)) (sym (lines_more m n done))

module _ (id : ℕ) (m : Marked) (n : ℕ) (done : List Stamp) (a b c : IoState) (was : Wrote a b (text_of id m n done)) where
  pub committed_more : {T E : Type 0} (x : T) → Writes {T = T} {E = E} b c (Ok x) (one_text id m n done) → Wrote a c (text_of id m (n + 1) done)
  committed_more x writes =
      subst (Wrote a c) (text_more id m n done)
      (wrote_more a b c (text_of id m n done) (one_text id m n done) was (wrote_by b c x (one_text id m n done) writes))

  pub committed_fails : {T U E : Type 0} (e d : E) (all : ℕ) → n + 1 ≤ all → Writes {T = T} b c (Err e) (one_text id m n done)
      → Writes {T = U} a c (Err d) (text_of id m all done)
  committed_fails e d all few writes =
      let parts = lines_parts m (n + 1) all done few in
      let rest = concat (time_lines id parts.0) in
      let whole : text_of id m n done ++ (one_text id m n done ++ rest) ≡ text_of id m all done =
      sym (append_assoc (text_of id m n done) (one_text id m n done) rest) ∙ ap (λ (t : List ℕ). t ++ rest) (text_more id m n done)
      ∙ text-append id (mark_lines done (out_first m (n + 1))) parts.0 ∙ ap (λ (l : List TimeLine). concat (time_lines id l)) (sym parts.1) in
      fails_after a b c e d (text_of id m n done) (one_text id m n done) rest (text_of id m all done) whole was writes

-- ---- one element more

stamp_kept : (at : ℕ) (t : Times) (e : Elem) (outcome : Taken) → (taken_so at t e outcome).stamp ≡ t.stamp
stamp_kept at t e (Ok x) = refl
stamp_kept at t e (Err f) = refl

module _ (id depth at : ℕ) (t : Times) (elements left : List Elem) (l : Timeline) (a b : IoState) (p : Along id depth at t elements l left a b) where
  abbrev end : Times
  end = after_elements depth at t elements

  -- no more are taken behind a fault
  along_stop : (stop : ℕ × Fault) → l.fault ≡ Some stop → end ≡ p.here
  along_stop stop met = p.leads ∙ elements_stop depth at p.here stop left (sym p.is.fault ∙ met)

  along_whole : {T E : Type 0} (x : T) → end ≡ p.here → Prints {T = T} {E = E} id t end a b (Ok x) × IsAt l end
  along_whole {T} {E} x is = (
    subst (λ (u : Times). Prints {T = T} {E = E} id t u a b (Ok x)) (sym is) (prints_all id t p.here p.here a b b x p.printed),
    subst (IsAt l) (sym is) p.is,
  )

  pub along_stopped : {T E : Type 0} (x : T) (stop : ℕ × Fault) → l.fault ≡ Some stop → Prints {T = T} {E = E} id t end a b (Ok x) × IsAt l end
  along_stopped x stop met = along_whole x (along_stop stop met)

  pub along_done : {T E : Type 0} (x : T) → left ≡ [] → Prints {T = T} {E = E} id t end a b (Ok x) × IsAt l end
  along_done x none = along_whole x (p.leads ∙ ap (after_elements depth at p.here) none)

  module _ (e : Elem) (rest : List Elem) (next : left ≡ e ∷ rest) (whole : l.fault ≡ None) (c : IoState) where
    abbrev now : Times
    now = after_element depth at p.here e

    leads_on : end ≡ after_elements depth at now rest
    leads_on = p.leads ∙ ap (after_elements depth at p.here) next ∙ elements_next depth at p.here e rest (sym p.is.fault ∙ whole)

    pub along_next : {T E : Type 0} (x : T) (l' : Timeline) → Prints {T = T} {E = E} id p.here now b c (Ok x) → IsAt l' now
        → Along id depth at t elements l' rest a c
    along_next x l' prints is =
        record {
          here = now;
          is = is;
          stamp = stamp_kept at p.here e (taken depth p.here.pending e) ∙ p.stamp;
          leads = leads_on;
          printed = printed_more id t p.here now a b c x p.printed prints;
        }

    pub along_fails : {T U E : Type 0} (g d : E) → Prints {T = T} id p.here now b c (Err g) → Prints {T = U} id t end a c (Err d)
    along_fails g d prints =
        let grows = elements_grow depth at now rest in
        prints_fail id t p.here now a b c g d end grows.0 p.printed prints (ap (λ (u : Times). u.lines) leads_on ∙ grows.1)

-- ---- which elements are trace infos

pub at_place : (P : Elem → Type 0) (elements : List Elem) (k : ℕ) (e : Elem) → All P elements → slice_get elements k ≡ Some e → P e
at_place P elements k e all there =
    subst P (get_or_from_slice_get elements k e e there) (all k e (slice_get_within elements k e there))

only_one : (spec k : ℕ) (e : Elem) → slice_get (elem.Info spec ∷ []) k ≡ Some e → e ≡ elem.Info spec
only_one spec zero e there = cc
only_one spec (suc k) e there = absurd cc

pub is_info : (elements : List Elem) (spec k : ℕ) (e : Elem) → elements ≡ elem.Info spec ∷ [] → slice_get elements k ≡ Some e → IsInfo e
is_info elements spec k e one there = (spec, only_one spec k e (ap (λ (l : List Elem). slice_get l k) (sym one) ∙ there))

pub fault_there : (met : Option (ℕ × Fault)) → is_some met ≡ true → (stop : ℕ × Fault) × (met ≡ Some stop)
fault_there (Some stop) some = (stop, refl)
fault_there None some = absurd cc

pub no_fault : (met : Option (ℕ × Fault)) → is_some met ≡ false → met ≡ None
no_fault None none = refl
no_fault (Some stop) none = absurd cc

-- ---- once a trace info came

abbrev informed_in : Taken → Bool
informed_in (Ok x) = (x.0).informed
informed_in (Err f) = true

abbrev StaysIn : Pending → Taken → Type 0
StaysIn p (Ok x) = p.informed ≡ true → (x.0).informed ≡ true
StaysIn p (Err f) = Unit {0}

stays_if : (b : Bool) (p : Pending) (one other : Taken) → StaysIn p one → StaysIn p other → StaysIn p (if b then one else other)
stays_if true p one other is also = is
stays_if false p one other is also = also

stays_flip : (p : Pending) (flipped : Option (List Thing)) → StaysIn p (flips p flipped)
stays_flip p None = tt
stays_flip p (Some held) = λ yes. yes

stays : (depth : ℕ) (p : Pending) (e : Elem) → StaysIn p (taken depth p e)
stays depth p (elem.Info spec) = stays_if p.informed p _ _ (λ yes. yes) (stays_if (nat_le spec depth) p _ _ (λ yes. refl) tt)
stays depth p elem.On = λ yes. yes
stays depth p (elem.Ctx ctx) = λ yes. yes
stays depth p (elem.Addr addr) = λ yes. yes
stays depth p (elem.P0 p0) = λ yes. yes
stays depth p (elem.Commit n) = stays_if (nat_le n (length p.held)) p _ _ (λ yes. yes) tt
stays depth p (elem.Cancel n) = stays_if (n == 0) p _ _ (λ yes. yes) (stays_if (nat_le n (length p.held)) p _ _ (λ yes. yes) tt)
stays depth p elem.Flip = stays_flip p (flip_newest p.held)
stays depth p elem.Overflow = λ yes. yes
stays depth p elem.Discard = λ yes. yes

informs_so : (depth : ℕ) (p : Pending) (spec : ℕ) (informed : Bool) (x : Pending × Gone) → p.informed ≡ informed
    → (if informed then tells p (record (p.pre) { flush = true })
    else if nat_le spec depth
    then Ok (record { held = p.held ++ replicate spec Unseen; pre = record (p.pre) { flush = true }; informed = true }, nothing_gone)
    else Err (SpecTooDeep spec depth)) ≡ Ok x → (x.0).informed ≡ true
informs_so depth p spec true x is e = sym (ap informed_in e) ∙ is
informs_so depth p spec false x is e = first (nat_le spec depth) e
  where
    first : (b : Bool) → (if b then Ok (record { held = p.held ++ replicate spec Unseen; pre = record (p.pre) { flush = true }; informed = true }, nothing_gone)
        else Err (SpecTooDeep spec depth)) ≡ Ok x → (x.0).informed ≡ true
    first true e = sym (ap informed_in e)
    first false e = absurd cc

module _ (m m' : Marked) (stamp : Stamp) (e : Elem) (out : List Stamp) (moves : Moves m stamp e out m') where
  pub stays_informed : (m.pending).informed ≡ true → (m'.pending).informed ≡ true
  stays_informed = by (taken m.depth m.pending e) (stays m.depth m.pending e) moves.rule
    where
      by : (outcome : Taken) → StaysIn m.pending outcome → outcome ≡ Ok (m'.pending, moves.gone) → (m.pending).informed ≡ true → (m'.pending).informed ≡ true
      by (Ok x) kept is so = sym (ap informed_in is) ∙ kept so
      by (Err f) kept is so = absurd cc

  pub info_informs : IsInfo e → (m'.pending).informed ≡ true
  info_informs (spec, is) =
      informs_so m.depth m.pending spec (m.pending).informed (m'.pending, moves.gone) refl
      (ap (taken m.depth m.pending) (sym is) ∙ moves.rule)
