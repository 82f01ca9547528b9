-- What waits: of what a queue holds, the oldest may be due.
use Rattle.std.proofs.Common.{◌≡◌, ℕ, zero, suc, ◌+◌, ◌-◌, ◌^◌, ◌≤◌, ◌<◌, Bool, true, false, List, [], ◌∷◌, length, take, drop, replicate}
use Rattle.std.proofs.Common.{slice_get, Some, Err, refl, sym, ap, subst, ◌∙◌, arith, append-nil}
use Rattle.std.proofs.Math.Nat.{mod-lt}
use Rattle.std.proofs.lemmas.Bool.{le-leb}
use Rattle.std.proofs.lemmas.List.{drop_more, length-drop, length-take-le}
use Rattle.std.proofs.lemmas.Option.{get_or_from_slice_get, slice_get_within}
use Rattle.element_queue.specs.Counting.{AreCounts, add, counts_after, entries, made_by}
use Rattle.element_queue.specs.Pending.{Gone, committing, losing, nothing_gone, taken}
use Rattle.element_queue.specs.Queued.{Queued, Refuses, Takes, noted, pending_of}
use Rattle.element_queue.specs.declared.ledger.Counts.{Counts}
use Rattle.element_queue.specs.declared.queue.PreElem.TheVariants as pre_elem
use Rattle.etm_types.specs.Pre.{trace_missing}
use Rattle.etm_types.specs.declared.context.Ctx.{Ctx}
use Rattle.etm_types.specs.declared.element.Elem.{Elem}
use Rattle.etm_types.specs.declared.element.Elem.TheVariants as elem
use Rattle.etm_types.specs.declared.element.Thing.{Thing}
use Rattle.etm_types.specs.declared.element.Thing.TheVariants.{Gap, Stop, Unseen}
use Rattle.etm_types.specs.declared.queue_fault.QueueFault.{QueueFault}
use Rattle.stream_decoder.specs.Waiting.{Commits, Waiting, counted_with, waiting_of}

-- ---- lists

-- the next of a list
pub next_at : {X : Type 0} (xs : List X) (n : ℕ) (x : X) → slice_get xs n ≡ Some x → drop n xs ≡ x ∷ drop (n + 1) xs
next_at xs n x e = drop_more xs n x (slice_get_within xs n x e) ∙ ap (λ y. y ∷ drop (n + 1) xs) (get_or_from_slice_get xs n x x e)

-- nothing is left of a list
pub none_from : {X : Type 0} (xs : List X) (n : ℕ) → n ≤ length xs → drop n xs ≡ [] → n ≡ length xs
none_from xs n within e = omega (arith, length-drop n xs, ap length e)

-- none of a list is taken
pub none_to : {X : Type 0} (xs : List X) (n : ℕ) → n ≤ length xs → take n xs ≡ [] → n ≡ 0
none_to xs n within e = omega (arith, length-take-le n xs within, ap length e)

behind_oldest : {X : Type 0} (xs : List X) (n : ℕ) → drop n (drop 1 xs) ≡ drop (suc n) xs
behind_oldest [] zero = refl
behind_oldest [] (suc n) = refl
behind_oldest (x ∷ xs) n = refl

pub drop_one_less : {X : Type 0} (xs : List X) (n : ℕ) → (n ≡ 0 → ⊥) → drop (n - 1) (drop 1 xs) ≡ drop n xs
drop_one_less xs zero some = absurd (some refl)
drop_one_less xs (suc n) some = let less : suc n - 1 ≡ n = omega arith in rw less (behind_oldest xs n)

-- ---- counts

same_count : (n : ℕ) → n < 2 ^ 64 → n ≡ add n 0
same_count n small = omega arith

pub same_counts : (c : Counts) → AreCounts c → c ≡ counts_after c 0 nothing_gone
same_counts c are k =
    record {
      made = same_count c.made are.made k;
      committed = same_count c.committed are.committed k;
      cancelled = same_count c.cancelled are.cancelled k;
      lost = same_count c.lost are.lost k;
    }

pub in_range : (c : Counts) (made : ℕ) (gone : Gone) → AreCounts (counts_after c made gone)
in_range c made gone =
    record {
      made = mod-lt (c.made + made) (omega arith);
      committed = mod-lt (c.committed + entries gone.committed) (omega arith);
      cancelled = mod-lt (c.cancelled + entries gone.cancelled) (omega arith);
      lost = mod-lt (c.lost + entries gone.lost) (omega arith);
    }

pub in_range_by : (q q' : Queued) (e : Elem) (gone : Gone) → Takes q e gone q' → AreCounts q'.counts
in_range_by q q' e gone takes = subst AreCounts (sym takes.counts) (in_range q.counts (made_by e) gone)

counted_none : (c : Counts) → AreCounts c → c ≡ counted_with c []
counted_none c are = ap (λ n. record c { committed = n }) (same_count c.committed are.committed)

counted_due : (c : Counts) (due : List Thing) → AreCounts c → counted_with c due ≡ counts_after c 0 (committing due)
counted_due c due are k =
    record {
      made = same_count c.made are.made k;
      committed = add c.committed (entries due);
      cancelled = same_count c.cancelled are.cancelled k;
      lost = same_count c.lost are.lost k;
    }

-- ---- elements

-- an element that the queue takes
pub commits_by : (q q' : Queued) (informed : Bool) (e : Elem) (gone : Gone) (things : List Thing) → AreCounts q.counts
    → Takes q e gone q' → gone.committed ≡ things → Commits (waiting_of q informed 0) e (waiting_of q' informed 0) things
commits_by q q' informed e gone things are takes is =
    record {
      gone = gone;
      rule = takes.rule informed;
      commits = is ∙ sym (append-nil things);
      counts = sym (counted_none q'.counts (in_range_by q q' e gone takes)) ∙ takes.counts
          ∙ ap (λ (c : Counts). counts_after c (made_by e) gone) (counted_none q.counts are);
      depth = takes.depth;
    }

-- an element that gives something to the next
pub takes_on : (q : Queued) → AreCounts q.counts → Takes q elem.On nothing_gone (record q { pre = noted q.pre pre_elem.On })
takes_on q are = record { rule = λ informed. refl; counts = same_counts q.counts are; depth = refl }

pub takes_ctx : (q : Queued) (ctx : Ctx) → AreCounts q.counts → Takes q (elem.Ctx ctx) nothing_gone (record q { pre = noted q.pre (pre_elem.Ctx ctx) })
takes_ctx q ctx are = record { rule = λ informed. refl; counts = same_counts q.counts are; depth = refl }

pub takes_addr : (q : Queued) (addr : ℕ) → AreCounts q.counts
    → Takes q (elem.Addr addr) nothing_gone (record q { pre = noted q.pre (pre_elem.Addr addr) })
takes_addr q addr are = record { rule = λ informed. refl; counts = same_counts q.counts are; depth = refl }

pub takes_overflow : (q : Queued) → Takes q elem.Overflow (record { committed = Gap ∷ []; cancelled = []; lost = q.held })
    (record q { held = []; pre = trace_missing; counts = counts_after q.counts 0 (losing q.held) })
takes_overflow q = record { rule = λ informed. refl; counts = refl; depth = refl }

pub takes_discard : (q : Queued) → Takes q elem.Discard (record { committed = Stop ∷ []; cancelled = []; lost = q.held })
    (record q { held = []; pre = trace_missing; counts = counts_after q.counts 0 (losing q.held) })
takes_discard q = record { rule = λ informed. refl; counts = refl; depth = refl }

-- what a commit commits is due
pub commits_due : (q : Queued) (informed : Bool) (n : ℕ) → AreCounts q.counts → n ≤ length q.held
    → Commits (waiting_of q informed 0) (elem.Commit n) (waiting_of q informed n) []
commits_due q informed n are within =
    record {
      gone = committing (take n q.held);
      rule = rw (le-leb n (length q.held) within) refl;
      commits = refl;
      counts = counted_due q.counts (take n q.held) are
          ∙ ap (λ (c : Counts). counts_after c 0 (committing (take n q.held))) (counted_none q.counts are);
      depth = refl;
    }

-- a trace info that is not the first
pub informs_again : (q : Queued) (spec : ℕ) → AreCounts q.counts
    → Commits (waiting_of q true 0) (elem.Info spec) (waiting_of (record q { pre = noted q.pre pre_elem.Info }) true 0) []
informs_again q spec are =
    record {
      gone = nothing_gone;
      rule = refl;
      commits = refl;
      counts = sym (counted_none q.counts are) ∙ same_counts q.counts are ∙ ap (λ (c : Counts). counts_after c 0 nothing_gone) (counted_none q.counts are);
      depth = refl;
    }

-- the first
pub informs_first : (q : Queued) (spec : ℕ) → AreCounts q.counts → q.held ≡ [] → spec ≤ q.depth
    → Commits (waiting_of q false 0) (elem.Info spec)
    (waiting_of (record q { held = replicate spec Unseen; pre = noted q.pre pre_elem.Info }) true 0) []
informs_first q spec are none within =
    record {
      gone = nothing_gone;
      rule = rw (none, le-leb spec q.depth within) refl;
      commits = refl;
      counts = sym (counted_none q.counts are) ∙ same_counts q.counts are ∙ ap (λ (c : Counts). counts_after c 0 nothing_gone) (counted_none q.counts are);
      depth = refl;
    }

pub informs_again_if : (q : Queued) (informed : Bool) (spec : ℕ) → AreCounts q.counts → informed ≡ true
    → Commits (waiting_of q informed 0) (elem.Info spec) (waiting_of (record q { pre = noted q.pre pre_elem.Info }) informed 0) []
informs_again_if q true spec are e = informs_again q spec are
informs_again_if q false spec are e = absurd cc

pub informs_first_if : (q : Queued) (informed : Bool) (spec : ℕ) → AreCounts q.counts → informed ≡ false → q.held ≡ [] → spec ≤ q.depth
    → Commits (waiting_of q informed 0) (elem.Info spec)
    (waiting_of (record q { held = replicate spec Unseen; pre = noted q.pre pre_elem.Info }) true 0) []
informs_first_if q false spec are e none within = informs_first q spec are none within
informs_first_if q true spec are e none within = absurd cc

-- ---- from the code's fields

-- nothing was due
pub commits_from : (q q' q'' : Queued) (informed informed' : Bool) (n n' n'' : ℕ) (w : Waiting) (e e' : Elem) (things : List Thing)
    → waiting_of q informed n ≡ w → n ≡ 0 → e' ≡ e → q'' ≡ q' → n'' ≡ n'
    → Commits (waiting_of q informed 0) e (waiting_of q' informed' n') things → Commits w e' (waiting_of q'' informed' n'') things
commits_from q q' q'' informed informed' n n' n'' w e e' things is none elem queue due commits =
    let was : waiting_of q informed 0 ≡ w = ap (λ (k : ℕ). waiting_of q informed k) (sym none) ∙ is in
    let now : waiting_of q' informed' n' ≡ waiting_of q'' informed' n'' = λ k. waiting_of (sym queue k) informed' (sym due k) in
    subst (λ (v : Waiting). Commits v e' (waiting_of q'' informed' n'') things) was
    (subst (λ (v : Waiting). Commits (waiting_of q informed 0) e' v things) now
    (subst (λ (f : Elem). Commits (waiting_of q informed 0) f (waiting_of q' informed' n') things) (sym elem) commits))

pub refuses_from : (q : Queued) (informed : Bool) (n : ℕ) (w : Waiting) (e e' : Elem) (fault : QueueFault)
    → waiting_of q informed n ≡ w → n ≡ 0 → e' ≡ e → Refuses q e fault → taken w.depth w.pending e' ≡ Err fault
refuses_from q informed n w e e' fault is none elem refuses =
    let was : waiting_of q informed 0 ≡ w = ap (λ (k : ℕ). waiting_of q informed k) (sym none) ∙ is in
    subst (λ (v : Waiting). taken v.depth v.pending e' ≡ Err fault) was (ap (taken q.depth (pending_of q informed)) elem ∙ refuses informed)

-- the oldest that is due is given out
pub gives_oldest : (q q' : Queued) (informed : Bool) (n : ℕ) (w : Waiting) (xs things : List Thing)
    → waiting_of q informed n ≡ w → (n ≡ 0 → ⊥) → q' ≡ record q { held = drop 1 q.held; counts = counts_after q.counts 0 (committing xs) } → things ≡ xs
    → waiting_of q' informed (n - 1) ≡ record w { due = take (n - 1) q'.held; counts = counts_after w.counts 0 (committing things) }
gives_oldest q q' informed n w xs things is some queue same =
    let held = ap (λ (x : Queued). drop (n - 1) x.held) queue ∙ drop_one_less q.held n some in
    let counts = ap (λ (x : Queued). x.counts) queue ∙ ap (λ (l : List Thing). counts_after q.counts 0 (committing l)) (sym same) in
    let one : waiting_of q' informed (n - 1)
    ≡ record (waiting_of q informed n) { due = take (n - 1) q'.held; counts = counts_after q.counts 0 (committing things) } =
    λ k. record {
      pending = record { held = held k; pre = (queue k).pre; informed = informed };
      due = take (n - 1) q'.held;
      depth = (queue k).depth;
      counts = counts k;
    } in
    subst (λ (v : Waiting). waiting_of q' informed (n - 1) ≡ record v { due = take (n - 1) q'.held; counts = counts_after v.counts 0 (committing things) })
    is one

-- the oldest of some that are due is the oldest of all
pub oldest_of : (xs : List Thing) (n : ℕ) (x : Thing) (others : List Thing) → take n xs ≡ x ∷ others → take 1 xs ≡ x ∷ []
oldest_of [] zero x others e = absurd cc
oldest_of [] (suc n) x others e = absurd cc
oldest_of (y ∷ xs) zero x others e = absurd cc
oldest_of (y ∷ xs) (suc n) x others e = let same : y ≡ x = cc in ap (λ (t : Thing). t ∷ []) same
