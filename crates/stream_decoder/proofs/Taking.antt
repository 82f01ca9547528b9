-- One thing or one element more.
use Rattle.std.proofs.Common.{◌≡◌, ℕ, suc, ◌+◌, ◌*◌, ◌^◌, ◌≤◌, ◌<◌, ◌==◌, Bool, true, false, List, [], ◌∷◌, ◌++◌, length}
use Rattle.std.proofs.Common.{Option, Some, None, Ok, Err, refl, sym, ap, subst, ◌∙◌, inl, inr, arith}
use Rattle.std.specs.Prelude.{All, if◌then◌else◌, option_to_list, nat_le}
use Rattle.std.proofs.Math.Nat.{suc-mul}
use Rattle.std.proofs.lemmas.List.{drop_at, length-append, take_at}
use Rattle.std.proofs.lemmas.List.Elements.{All-append, All-cons, All-drop, All-nil, All-head, All-tail, All-take}
use Rattle.element_queue.specs.Counting.{AreCounts, add, counts_after, entries, tally, tally_step}
use Rattle.element_queue.specs.Pending.{Pending, Taken, committing, flip_newest, flips, informs, taken}
use Rattle.element_queue.specs.declared.ledger.Counts.{Counts}
use Rattle.etm_types.specs.declared.element.Elem.{Elem}
use Rattle.etm_types.specs.declared.element.Elem.TheVariants as elem
use Rattle.etm_types.specs.declared.element.Thing.{Thing}
use Rattle.etm_types.specs.declared.element.Thing.TheVariants.{Seen, Unseen, Gap, Stop}
use Rattle.packet_grammar.specs.declared.stream_fault.Fault.{Fault}
use Rattle.packet_reader.specs.Stands.{PacketReading}
use Rattle.path_elements.proofs.Places.{IsAlignedTaken, taken_aligned}
use Rattle.path_elements.specs.Elements.{Told}
use Rattle.path_elements.specs.Held.{IsElem}
use Rattle.path_elements.specs.Standing.{IsAlignedPending}
use Rattle.path_walker.specs.State.{State}
use Rattle.path_walker.specs.Things.{IsAlignedThing}
use Rattle.path_walker.specs.Walk.{ToldIsAligned}
use Rattle.stream_decoder.specs.Decoding.{Decoding, IsDecoding, IsInfo, counted, decoding_of, depth_of}
use Rattle.stream_decoder.specs.Left.{Left}
use Rattle.stream_decoder.specs.Waiting.{Commits, IsWaiting, Waiting}
use Rattle.stream_decoder.specs.Yields.{Leaves, left}

-- ---- a trace info was taken

abbrev informed_of : Taken → Bool
informed_of (Ok t) = (t.0).informed
informed_of (Err f) = true

either : (b : Bool) (x y : Taken) → informed_of x ≡ true → informed_of y ≡ true → informed_of (if b then x else y) ≡ true
either true x y e f = e
either false x y e f = f

by_info : (depth : ℕ) (p : Pending) (spec : ℕ) (b : Bool) → p.informed ≡ b → informed_of (informs depth p spec) ≡ true
by_info depth p spec true e = rw e refl
by_info depth p spec false e = rw e (either (nat_le spec depth) _ _ refl refl)

by_flip : (p : Pending) (held : Option (List Thing)) → p.informed ≡ true → informed_of (flips p held) ≡ true
by_flip p None e = refl
by_flip p (Some held) e = e

stays_informed : (depth : ℕ) (p : Pending) (e : Elem) → p.informed ≡ true → informed_of (taken depth p e) ≡ true
stays_informed depth p (elem.Info spec) i = by_info depth p spec true i
stays_informed depth p elem.On i = i
stays_informed depth p (elem.Ctx ctx) i = i
stays_informed depth p (elem.Addr addr) i = i
stays_informed depth p (elem.P0 p0) i = i
stays_informed depth p (elem.Commit n) i = either (nat_le n (length p.held)) _ _ i refl
stays_informed depth p (elem.Cancel n) i = either (n == 0) _ _ i (either (nat_le n (length p.held)) _ _ i refl)
stays_informed depth p elem.Flip i = by_flip p (flip_newest p.held) i
stays_informed depth p elem.Overflow i = i
stays_informed depth p elem.Discard i = i

informed_after : (depth : ℕ) (p : Pending) (e : Elem) (b : Bool) → p.informed ≡ b → (p.informed ≡ false → IsInfo e) → informed_of (taken depth p e) ≡ true
informed_after depth p e true i first = stays_informed depth p e i
informed_after depth p e false i first =
    let info = first i in subst (λ (x : Elem). informed_of (taken depth p x) ≡ true) (sym info.1) (by_info depth p info.0 false i)

-- ---- counts

two_parts : (c a b : ℕ) → add (add c a) b ≡ add c (a + b)
two_parts c a b = omega arith

same_count : (n : ℕ) → n < 2 ^ 64 → add n 0 ≡ n
same_count n small = omega arith

entries_so : (x : Thing) (things : List Thing) → entries (x ∷ things) ≡ entries (x ∷ []) + entries things
entries_so (Seen entry) things = omega arith
entries_so Unseen things = omega arith
entries_so Gap things = omega arith
entries_so Stop things = omega arith

-- ---- what is due

module _ (r : PacketReading) (t : Told) (l : Left) (w w' : Waiting) (s : State) (f : Option (ℕ × Fault)) (thing : Thing)
    (order : w.due ≡ thing ∷ w'.due)
    (others : w' ≡ record w { due = w'.due; counts = counts_after w.counts 0 (committing (thing ∷ [])) }) where
  abbrev here : Decoding
  here = decoding_of r t l w s f

  abbrev next : Decoding
  next = decoding_of r t l w' s f

  due_counts : AreCounts w.counts → counted next ≡ counted here
  due_counts range k =
      record {
        made = (ap (λ (c : Counts). c.made) (ap (λ (x : Waiting). x.counts) others) ∙ same_count w.counts.made range.made) k;
        committed = (ap (λ (c : Counts). add c.committed (entries w'.due)) (ap (λ (x : Waiting). x.counts) others)
            ∙ two_parts w.counts.committed (entries (thing ∷ [])) (entries w'.due)
            ∙ ap (add w.counts.committed) (sym (entries_so thing w'.due) ∙ ap entries (sym order))) k;
        cancelled = (ap (λ (c : Counts). c.cancelled) (ap (λ (x : Waiting). x.counts) others) ∙ same_count w.counts.cancelled range.cancelled) k;
        lost = (ap (λ (c : Counts). c.lost) (ap (λ (x : Waiting). x.counts) others) ∙ same_count w.counts.lost range.lost) k;
      }

  pub leaves_due : AreCounts w.counts → Leaves here next (Some thing)
  leaves_due range =
      record {
        took = [];
        todo = refl;
        commits = (order, ap (λ (x : Waiting). x.pending) others);
        counts = due_counts range;
        rest = refl;
      }

  pub fewer_due : left next < left here
  fewer_due = let e = ap length order in omega (arith, e)

  pub due_aligned : IsDecoding here → All IsAlignedThing (thing ∷ [])
  due_aligned is =
      let all : All IsAlignedThing (thing ∷ (w'.due ++ w.pending.held)) =
      subst (λ (d : List Thing). All IsAlignedThing (d ++ w.pending.held)) order is.things in
      All-cons IsAlignedThing thing [] (All-head IsAlignedThing thing (w'.due ++ w.pending.held) all) (All-nil IsAlignedThing)

  pub holds_due : (w.depth ≡ (r.settings).depth) × IsDecoding here → IsWaiting w' → (w'.depth ≡ (r.settings).depth) × IsDecoding next
  holds_due is waits =
      let d = is.1 in
      let same : w'.pending ≡ w.pending = ap (λ (x : Waiting). x.pending) others in
      let depth : w'.depth ≡ (r.settings).depth = ap (λ (x : Waiting). x.depth) others ∙ is.0 in
      let all : All IsAlignedThing (thing ∷ (w'.due ++ w.pending.held)) =
      subst (λ (x : List Thing). All IsAlignedThing (x ++ w.pending.held)) order d.things in
      let rest : All IsAlignedThing (w'.due ++ w.pending.held) = All-tail IsAlignedThing thing (w'.due ++ w.pending.held) all in (
        depth,
        record {
          reads = d.reads;
          few = subst (λ n. length (w'.due ++ w'.pending.held) ≤ n) depth waits.few;
          balanced = waits.balanced;
          range = waits.range;
          things = subst (λ (p : Pending). All IsAlignedThing (w'.due ++ p.held)) (sym same) rest;
          address = subst (λ (p : Pending). ToldIsAligned p.pre.addr) (sym same) d.address;
          elements = d.elements;
          walk = d.walk;
          begins = λ e.
              absurd (let none = (d.begins (ap (λ (p : Pending). p.informed) (sym same) ∙ e)).0 in let bad : [] ≡ thing ∷ w'.due = sym none ∙ order in cc);
          stopped = λ met. absurd (let none = (d.stopped met).due in let bad : [] ≡ thing ∷ w'.due = sym none ∙ order in cc);
        },
      )

-- ---- an element

pub front_aligned : (xs ys : List Thing) → All IsAlignedThing (xs ++ ys) → All IsAlignedThing xs
front_aligned xs ys are = subst (All IsAlignedThing) (take_at xs ys (length xs) refl) (All-take IsAlignedThing (length xs) (xs ++ ys) are)

pub back_aligned : (xs ys : List Thing) → All IsAlignedThing (xs ++ ys) → All IsAlignedThing ys
back_aligned xs ys are = subst (All IsAlignedThing) (drop_at xs ys (length xs) refl) (All-drop IsAlignedThing (length xs) (xs ++ ys) are)

abbrev first_of : Elem → List Elem → Elem
first_of x [] = x
first_of x (y ∷ ys) = y

same_first : {a b : Elem} {xs ys : List Elem} → a ∷ xs ≡ b ∷ ys → a ≡ b
same_first {a = a} e = ap (first_of a) e

more_by : (m n : ℕ) → (m + 1) * (n + 1) ≡ m * (n + 1) + (n + 1)
more_by m n = let e : m + 1 ≡ suc m = omega arith in ap (λ (k : ℕ). k * (n + 1)) e ∙ suc-mul m (n + 1)

more_than : (m n k : ℕ) → k ≤ n → m * (n + 1) + k < (m + 1) * (n + 1) + 0
more_than m n k few = omega (arith, few, more_by m n)

module _ (r : PacketReading) (t : Told) (l l' : Left) (w w' : Waiting) (s : State) (f : Option (ℕ × Fault)) (e : Elem) (others : List Elem) (thing : Option Thing)
    (first : l.elements ≡ e ∷ others) (left_is : l' ≡ record l { elements = others }) (none : w.due ≡ [])
    (is : (w.depth ≡ (r.settings).depth) × IsDecoding (decoding_of r t l w s f)) (whole : f ≡ None)
    (c : Commits w e w' (option_to_list thing)) (waits : IsWaiting w') where
  abbrev before : Decoding
  before = decoding_of r t l w s f

  abbrev after : Decoding
  after = decoding_of r t l' w' s f

  rule : taken (depth_of before) w.pending e ≡ Ok (w'.pending, c.gone)
  rule = subst (λ (n : ℕ). taken n w.pending e ≡ Ok (w'.pending, c.gone)) is.0 c.rule

  aligned_taken : IsAlignedTaken (taken (depth_of before) w.pending e)
  aligned_taken =
      let held : All IsAlignedThing w.pending.held = subst (λ (d : List Thing). All IsAlignedThing (d ++ w.pending.held)) none is.1.things in
      let pending : IsAlignedPending w.pending = record { told = is.1.address; held = held } in
      let elements : All IsElem (e ∷ others) = subst (All IsElem) first is.1.elements in
      taken_aligned (depth_of before) w.pending e pending (All-head IsElem e others elements)

  gone_aligned : IsAlignedTaken (Ok (w'.pending, c.gone))
  gone_aligned = subst IsAlignedTaken rule aligned_taken

  given_and_due : All IsAlignedThing (option_to_list thing ++ w'.due)
  given_and_due = subst (All IsAlignedThing) c.commits gone_aligned.committed

  is_info : w.pending.informed ≡ false → IsInfo e
  is_info quiet =
      elim ((is.1.begins quiet).2) [
        | inl info ↦ (info.0, same_first (sym first ∙ info.1))
        | inr rest ↦ absurd (let bad : [] ≡ e ∷ others = sym rest.0 ∙ first in cc)
      ]

  informed : w'.pending.informed ≡ true
  informed =
      ap informed_of (sym rule) ∙ informed_after (depth_of before) w.pending e w.pending.informed refl is_info

  pub leaves_taken : Leaves before after thing
  leaves_taken =
      let elements : l'.elements ≡ others = ap (λ (x : Left). x.elements) left_is in
      let still : l.elements ≡ e ∷ l'.elements = first ∙ ap (λ (x : List Elem). e ∷ x) (sym elements) in
      record {
        took = e ∷ [];
        todo = still;
        commits = (none, (c.gone, rule, c.commits));
        counts = c.counts ∙ sym (ap (λ (k : Taken). tally_step (counted before) e k (λ (n : Pending) (m : Counts). tally (depth_of before) n m [])) rule);
        rest = ap (λ (n : ℕ). record after { at = n }) (ap (λ (x : Left). x.at) left_is);
      }

  pub fewer_taken : left after < left before
  fewer_taken =
      let elements : l'.elements ≡ others = ap (λ (x : Left). x.elements) left_is in
      let depth : w'.depth ≡ (r.settings).depth = c.depth ∙ is.0 in
      let few : length w'.due ≤ (r.settings).depth = omega (arith, length-append w'.due w'.pending.held, waits.few, depth) in
      let one : length l.elements ≡ length others + 1 = ap length first ∙ (omega arith) in
      let nothing : length w.due ≡ 0 = ap length none in
      rw elements (rw one (rw nothing (more_than (length others) (r.settings).depth (length w'.due) few)))

  pub taken_given : All IsAlignedThing (option_to_list thing)
  taken_given = front_aligned (option_to_list thing) w'.due given_and_due

  pub holds_taken : (w'.depth ≡ (r.settings).depth) × IsDecoding after
  holds_taken =
      let d = is.1 in
      let depth : w'.depth ≡ (r.settings).depth = c.depth ∙ is.0 in
      let elements : All IsElem (e ∷ others) = subst (All IsElem) first d.elements in (
        depth,
        record {
          reads = d.reads;
          few = subst (λ n. length (w'.due ++ w'.pending.held) ≤ n) depth waits.few;
          balanced = waits.balanced;
          range = waits.range;
          things = All-append IsAlignedThing w'.due w'.pending.held (back_aligned (option_to_list thing) w'.due given_and_due) gone_aligned.pending.held;
          address = gone_aligned.pending.told;
          elements = subst (All IsElem) (sym (ap (λ (x : Left). x.elements) left_is)) (All-tail IsElem e others elements);
          walk = d.walk;
          begins = λ quiet. absurd (let bad : true ≡ false = sym informed ∙ quiet in cc);
          stopped = λ met. absurd (met whole);
        },
      )
