-- From what a queue with its marks does to what elements come to.
use Rattle.std.proofs.Common.{◌≡◌, ℕ, ◌+◌, ◌-◌, ◌≤◌, List, [], ◌++◌, length, take, drop, Some, Ok, Err}
use Rattle.std.proofs.Common.{refl, ap, sym, ◌∙◌, subst, arith, append-nil, append_assoc}
use Rattle.std.proofs.Math.Seq.{take-add, take-length}
use Rattle.std.proofs.lemmas.Bool.{le-leb}
use Rattle.std.proofs.lemmas.List.{drop-drop}
use Rattle.element_queue.proofs.Balanced.{same_counts}
use Rattle.element_queue.specs.Counting.{add, counts_after, entries, made_by}
use Rattle.element_queue.specs.Pending.{Pending, committing, taken}
use Rattle.element_queue.specs.declared.ledger.Counts.{Counts}
use Rattle.etm_types.specs.declared.element.Elem.{Elem}
use Rattle.etm_types.specs.declared.element.Elem.TheVariants as elem
use Rattle.etm_types.specs.declared.element.Thing.{Thing}
use Rattle.etm_types.specs.declared.queue_fault.QueueFault.{QueueFault}
use Rattle.packet_grammar.specs.declared.stream_fault.Fault.TheVariants.{Queue}
use Rattle.stream_decoder.proofs.Waits.{same_counts as counted_none}
use Rattle.time_marks.proofs.Growing.{marks-append}
use Rattle.time_marks.proofs.Held.{entries-append}
use Rattle.time_marks.specs.Marked.{IsMarked, Marked, Moves, less, out_first}
use Rattle.time_marks.specs.Stamps.{Stamp}
use Rattle.time_marks.specs.Timed.{HasMarks, IsAt}
use Rattle.time_marks.specs.TimeLines.{mark_lines, shown_of}
use Rattle.time_marks.specs.Times.{Times, after_element, but_newest, mark_of, marks_left, marks_out, marks_with, taken_so}
use Rattle.time_marks.specs.declared.shown.Shown.{Shown}
use Rattle.time_marks.specs.declared.time_line.TimeLine.{TimeLine}
use Rattle.time_marks.specs.declared.timeline.Timeline.{Timeline}

-- ---- an element that is taken

module _ (l : Timeline) (t : Times) (at : ℕ) (e : Elem) (marks : HasMarks l t) (fault : l.fault ≡ t.fault) where
  abbrev next : Times
  next = after_element ((l.queue).depth) at t e

  module _ (l' : Timeline) (out : List Stamp) (moves : Moves l.queue t.stamp e out l'.queue)
      (shown : l'.shown ≡ shown_of (t.done ++ out)) (same : l'.fault ≡ l.fault) where
    abbrev so : Times
    so = taken_so at t e (Ok ((l'.queue).pending, moves.gone))

    rule : taken ((l.queue).depth) t.pending e ≡ Ok ((l'.queue).pending, moves.gone)
    rule = ap (λ (p : Pending). taken ((l.queue).depth) p e) (sym marks.pending) ∙ moves.rule

    is_next : next ≡ so
    is_next = ap (taken_so at t e) rule

    with_marks : (l.queue).marks ++ mark_of t.stamp e ≡ marks_with t e
    with_marks = ap (λ (xs : List Stamp). xs ++ mark_of t.stamp e) marks.held

    out_is : out ≡ marks_out moves.gone (marks_with t e)
    out_is = moves.out ∙ ap (marks_out moves.gone) with_marks

    at_so : IsAt l' so
    at_so = record {
      marks = record {
        pending = refl;
        held = moves.left ∙ ap (marks_left moves.gone) with_marks;
        counts = moves.counts ∙ ap (λ (c : Counts). counts_after c (made_by e) moves.gone) marks.counts;
        shown = shown ∙ ap (λ (xs : List Stamp). shown_of (t.done ++ xs)) out_is;
      };
      fault = same ∙ fault;
    }

    pub moved_to : IsAt l' next
    moved_to = subst (IsAt l') (sym is_next) at_so

    pub moved_lines : next.lines ≡ t.lines ++ mark_lines t.done out
    moved_lines = ap (λ (x : Times). x.lines) is_next ∙ ap (λ (xs : List Stamp). t.lines ++ mark_lines t.done xs) (sym out_is)

  module _ (l' : Timeline) (f : QueueFault) (refused : taken ((l.queue).depth) ((l.queue).pending) e ≡ Err f)
      (same : l'.queue ≡ l.queue) (kept : l'.shown ≡ l.shown)
      (is : l'.fault ≡ Some (at, Queue f)) where
    refused_next : next ≡ record t { fault = Some (at, Queue f) }
    refused_next = ap (taken_so at t e) (ap (λ (p : Pending). taken ((l.queue).depth) p e) (sym marks.pending) ∙ refused)

    at_fault : IsAt l' (record t { fault = Some (at, Queue f) })
    at_fault = record {
      marks = record {
        pending = ap (λ (m : Marked). m.pending) same ∙ marks.pending;
        held = ap (λ (m : Marked). m.marks) same ∙ marks.held;
        counts = ap (λ (m : Marked). m.counts) same ∙ marks.counts;
        shown = kept ∙ marks.shown;
      };
      fault = is;
    }

    pub refused_to : IsAt l' next
    refused_to = subst (IsAt l') (sym refused_next) at_fault

    pub refused_lines : next.lines ≡ t.lines
    refused_lines = ap (λ (x : Times). x.lines) refused_next

-- ---- the oldest are committed

all_but_none : (marks : List Stamp) → but_newest 0 marks ≡ marks
all_but_none marks = let all : length marks - 0 ≡ length marks = omega arith in ap (λ (k : ℕ). take k marks) all ∙ take-length marks

pub commit_moves : (m : Marked) (n : ℕ) (stamp : Stamp) → n ≤ length (m.pending).held → Moves m stamp (elem.Commit n) (out_first m n) (less m n)
commit_moves m n stamp few =
    let things = take n (m.pending).held in
    record {
      gone = committing things;
      rule = rw (le-leb n (length (m.pending).held) few) refl;
      out = ap (take (entries things)) (sym (append-nil m.marks));
      left = ap (drop (entries things)) (sym (append-nil m.marks)) ∙ sym (all_but_none (drop (entries things) (m.marks ++ [])));
      counts = refl;
      depth = refl;
    }

-- counts that rise twice
add_twice : (c a b : ℕ) → add (add c a) b ≡ add c (a + b)
add_twice c a b = omega arith

commit_twice : (c : Counts) (xs ys : List Thing) → counts_after (counts_after c 0 (committing xs)) 0 (committing ys) ≡ counts_after c 0 (committing (xs ++ ys))
commit_twice c xs ys =
    same_counts (counts_after (counts_after c 0 (committing xs)) 0 (committing ys)) (counts_after c 0 (committing (xs ++ ys)))
    (add_twice c.made 0 0) (add_twice c.committed (entries xs) (entries ys) ∙ ap (add c.committed) (sym (entries-append xs ys)))
    (add_twice c.cancelled 0 0) (add_twice c.lost 0 0)

abbrev less_so : Marked → List Thing → List Stamp → Counts → Marked
less_so m held marks counts = record m { pending = record (m.pending) { held = held }; marks = marks; counts = counts }

module _ (m : Marked) (n : ℕ) where
  abbrev held : List Thing
  held = (m.pending).held

  abbrev here : List Thing
  here = take n held

  abbrev oldest : List Thing
  oldest = take 1 (drop n held)

  one_more : take (n + 1) held ≡ here ++ oldest
  one_more = take-add n 1 held

  count : entries (take (n + 1) held) ≡ entries here + entries oldest
  count = ap entries one_more ∙ entries-append here oldest

  pub less_more : less (less m n) 1 ≡ less m (n + 1)
  less_more =
      ap (λ (x : List Thing). less_so m x (drop (entries oldest) (drop (entries here) m.marks))
      (counts_after (counts_after m.counts 0 (committing here)) 0 (committing oldest)))
      (drop-drop 1 n held)
      ∙ ap (λ (x : List Stamp). less_so m (drop (n + 1) held) x (counts_after (counts_after m.counts 0 (committing here)) 0 (committing oldest)))
      (drop-drop (entries oldest) (entries here) m.marks ∙ ap (λ (k : ℕ). drop k m.marks) (sym count))
      ∙ ap (less_so m (drop (n + 1) held) (drop (entries (take (n + 1) held)) m.marks))
      (commit_twice m.counts here oldest ∙ ap (λ (xs : List Thing). counts_after m.counts 0 (committing xs)) (sym one_more))

  pub out_more : out_first m (n + 1) ≡ out_first m n ++ out_first (less m n) 1
  out_more = ap (λ (k : ℕ). take k m.marks) count ∙ take-add (entries here) (entries oldest) m.marks

-- none are
pub less_none : (m : Marked) → IsMarked m → m ≡ less m 0
less_none m is = ap (λ (c : Counts). record m { counts = c }) (counted_none m.counts is.range)

-- the marks of n and one more
pub shown_more : (m : Marked) (n : ℕ) (done : List Stamp) (shown : Shown) → shown ≡ shown_of ((done ++ out_first m n) ++ out_first (less m n) 1)
    → shown ≡ shown_of (done ++ out_first m (n + 1))
shown_more m n done shown is =
    is ∙ ap shown_of (append_assoc done (out_first m n) (out_first (less m n) 1) ∙ ap (λ (xs : List Stamp). done ++ xs) (sym (out_more m n)))

pub lines_more : (m : Marked) (n : ℕ) (done : List Stamp)
    → mark_lines done (out_first m (n + 1)) ≡ mark_lines done (out_first m n) ++ mark_lines (done ++ out_first m n) (out_first (less m n) 1)
lines_more m n done = ap (mark_lines done) (out_more m n) ∙ marks-append done (out_first m n) (out_first (less m n) 1)

-- all of those are committed, of which these are the first
pub lines_parts : (m : Marked) (k n : ℕ) (done : List Stamp) → k ≤ n
    → (rest : List TimeLine) × (mark_lines done (out_first m n) ≡ mark_lines done (out_first m k) ++ rest)
lines_parts m k n done few = (
  mark_lines (done ++ out_first m k) (later k n few),
  ap (mark_lines done) (parts k n few) ∙ marks-append done (out_first m k) (later k n few),
)
  where
    later : (k n : ℕ) → k ≤ n → List Stamp
    later k n few = take (entries (take (n - k) (drop k ((m.pending).held)))) (drop (entries (take k ((m.pending).held))) m.marks)

    parts : (k n : ℕ) (few : k ≤ n) → out_first m n ≡ out_first m k ++ later k n few
    parts k n few =
        let held = (m.pending).held in
        let sum : n ≡ k + (n - k) = omega (arith, few) in
        let things : take n held ≡ take k held ++ take (n - k) (drop k held) = ap (λ (j : ℕ). take j held) sum ∙ take-add k (n - k) held in
        ap (λ (j : ℕ). take j m.marks) (ap entries things ∙ entries-append (take k held) (take (n - k) (drop k held)))
        ∙ take-add (entries (take k held)) (entries (take (n - k) (drop k held))) m.marks
