-- Many atoms together: a full queue takes those of a run one by one, and those that are due are given out one by one.
use Rattle.std.proofs.Common.{◌≡◌, ℕ, zero, suc, ◌+◌, ◌-◌, ◌/◌, ◌%◌, ◌^◌, ◌==◌, ◌≤◌, ◌<◌, Bool, List, [], ◌∷◌, ◌++◌, length, map, take, drop, Option, refl, sym, ap, subst, ◌∙◌, arith}
use Rattle.std.proofs.Common.{append-nil, append_assoc, length-append, length-take}
use Rattle.std.proofs.Math.Nat.{mod-lt}
use Rattle.std.proofs.lemmas.List.{drop-append-le, drop-drop, drop-take, length-map, take-append-drop, take-append-le, take-map, take-take}
use Rattle.element_queue.specs.Counting.{AreCounts, Balances, add, counts_after, entries}
use Rattle.element_queue.specs.Pending.{Pending, commits, committing}
use Rattle.element_queue.specs.Queued.{IsQueued, Queued, entry_of, given_atoms, plain_atom}
use Rattle.element_queue.specs.declared.ledger.Counts.{Counts}
use Rattle.etm_types.specs.Atoms.{low_bits}
use Rattle.etm_types.specs.Pre.{nothing_told}
use Rattle.etm_types.specs.declared.element.Elem.{Elem}
use Rattle.etm_types.specs.declared.element.Elem.TheVariants as elem
use Rattle.etm_types.specs.declared.element.P0.TheVariants.{Atom}
use Rattle.etm_types.specs.declared.element.Thing.{Thing}
use Rattle.etm_types.specs.declared.element.Thing.TheVariants.{Seen}
use Rattle.path_elements.specs.Elements.{atoms}
use Rattle.stream_decoder.proofs.Runs.{counts_on}
use Rattle.stream_decoder.proofs.Waits.{in_range, same_counts}
use Rattle.stream_decoder.specs.Waiting.{Commits, DropsDue, HoldsAtoms, IsWaiting, TakesAtoms, Waiting, committed_by, counts_passed, waiting_of}

-- ---- the oldest of what waits

-- fewer bits are the first of them
low_bits-take : (n m bits : ℕ) → m ≤ n → low_bits m bits ≡ take m (low_bits n bits)
low_bits-take n zero bits few = refl
low_bits-take zero (suc m) bits few = absurd (omega arith)
low_bits-take (suc n) (suc m) bits few = ap (λ (l : List Bool). (bits % 2 == 1) ∷ l) (low_bits-take n m (bits / 2) (omega arith))

pub length_bits : (n bits : ℕ) → length (low_bits n bits) ≡ n
length_bits zero bits = refl
length_bits (suc n) bits = ap suc (length_bits n (bits / 2))

pub fewer_plain : (n m bits : ℕ) (things : List Thing) → m ≤ n → map plain_atom (low_bits n bits) ≡ take n things
    → map plain_atom (low_bits m bits) ≡ take m things
fewer_plain n m bits things few oldest =
    ap (map plain_atom) (low_bits-take n m bits few) ∙ sym (take-map plain_atom m (low_bits n bits))
    ∙ ap (take m) oldest ∙ take-take m n things few

-- the same where an address was given before the first
given_take : (addr : Option ℕ) (m : ℕ) (atoms : List Bool) → given_atoms addr (take m atoms) ≡ take m (given_atoms addr atoms)
given_take addr zero atoms = refl
given_take addr (suc m) [] = refl
given_take addr (suc m) (taken ∷ atoms) =
    ap (λ (l : List Thing). Seen (entry_of (record { addr = addr; taken = taken })) ∷ l) (sym (take-map plain_atom m atoms))

pub fewer_given : (addr : Option ℕ) (n m bits : ℕ) (things : List Thing) → m ≤ n → given_atoms addr (low_bits n bits) ≡ take n things
    → given_atoms addr (low_bits m bits) ≡ take m things
fewer_given addr n m bits things few oldest =
    ap (given_atoms addr) (low_bits-take n m bits few) ∙ given_take addr m (low_bits n bits) ∙ ap (take m) oldest ∙ take-take m n things few

-- ---- counts

entries-append : (xs ys : List Thing) → entries (xs ++ ys) ≡ entries xs + entries ys
entries-append [] ys = omega arith
entries-append (Seen entry ∷ xs) ys = omega (arith, entries-append xs ys)
entries-append (thing ∷ xs) ys = entries-append xs ys

add_twice : (c m n : ℕ) → add (add c m) n ≡ add c (m + n)
add_twice c m n = omega arith

-- ---- atoms that a full queue takes

-- what waits, where nothing is due and nothing was given
abbrev pub waiting_at : Bool → ℕ → List Thing → Counts → Waiting
waiting_at informed depth held c =
    record { pending = record { held = held; pre = nothing_told; informed = informed }; due = []; depth = depth; counts = c }

none_passed : (c : Counts) → AreCounts c → counts_passed 0 c ≡ c
none_passed c are k =
    let none : (n : ℕ) → n < 2 ^ 64 → add n 0 ≡ n = λ n small. omega (arith, small) in
    record { made = none c.made are.made k; committed = none c.committed are.committed k; cancelled = c.cancelled; lost = c.lost }

-- so many were made
abbrev pub made_more : ℕ → Counts → Counts
made_more n c = record c { made = add c.made n }

none_made : (c : Counts) → AreCounts c → made_more 0 c ≡ c
none_made c are k =
    let none : (n : ℕ) → n < 2 ^ 64 → add n 0 ≡ n = λ n small. omega (arith, small) in
    record { made = none c.made are.made k; committed = c.committed; cancelled = c.cancelled; lost = c.lost }

made_on : (n : ℕ) (c : Counts) → made_more n (made_more 1 c) ≡ made_more (suc n) c
made_on n c k =
    let more : add (add c.made 1) n ≡ add c.made (suc n) = omega arith in
    record { made = more k; committed = c.committed; cancelled = c.cancelled; lost = c.lost }

module _ (informed : Bool) (depth : ℕ) where
  one_turned : (rest : List Thing) (c : Counts) (o t : Bool) → suc (length rest) ≡ depth → AreCounts c
      → Commits (waiting_at informed depth (plain_atom o ∷ rest) c) (elem.P0 (Atom t))
      (waiting_at informed depth (rest ++ plain_atom t ∷ []) (counts_passed 1 c))
      (committed_by (waiting_at informed depth (plain_atom o ∷ rest) c) (Atom t))
  one_turned rest c o t full are =
      let w = waiting_at informed depth (plain_atom o ∷ rest) c in
      let all : List Thing = plain_atom o ∷ (rest ++ plain_atom t ∷ []) in
      let one : length all - depth ≡ 1 = omega (arith, length-append rest (plain_atom t ∷ []), full) in
      let none : (n : ℕ) → n < 2 ^ 64 → n ≡ add n 0 = λ n small. omega (arith, small) in
      let later : (n : ℕ) → add (add n 1) 0 ≡ add (add n 0) 1 = λ n. omega arith in
      record {
        gone = committing (plain_atom o ∷ []);
        rule = ap (λ (n : ℕ). commits (w.pending) nothing_told all n) one;
        commits = sym (append-nil (committed_by w (Atom t)) ∙ ap (λ (n : ℕ). take n all) one);
        counts = λ k. record {
          made = add c.made 1;
          committed = later c.committed k;
          cancelled = none c.cancelled are.cancelled k;
          lost = none c.lost are.lost k;
        };
        depth = refl;
      }

  one_waits : (rest : List Thing) (c : Counts) (o t : Bool) → suc (length rest) ≡ depth → AreCounts c → Balances c (suc (entries rest))
      → IsWaiting (waiting_at informed depth (rest ++ plain_atom t ∷ []) (counts_passed 1 c))
  one_waits rest c o t full are balanced =
      record {
        few = omega (arith, length-append rest (plain_atom t ∷ []), full);
        balanced = omega (arith, balanced, entries-append rest (plain_atom t ∷ []));
        range = record {
          made = mod-lt (c.made + 1) (omega arith);
          committed = mod-lt (c.committed + 1) (omega arith);
          cancelled = are.cancelled;
          lost = are.lost;
        };
      }

  pub turns : (held : List Thing) (c : Counts) (oldest run : List Bool) (others : List Elem) → AreCounts c → Balances c (entries held)
      → length held ≡ depth → map plain_atom oldest ≡ take (length run) held → length oldest ≡ length run
      → TakesAtoms (waiting_at informed depth held c) (atoms run ++ others) (length run)
      (waiting_at informed depth (drop (length run) held ++ map plain_atom run) (counts_passed (length run) c)) others
  turns held c oldest [] others are balanced full first same =
      let is : waiting_at informed depth (held ++ []) (counts_passed 0 c) ≡ waiting_at informed depth held c =
      ap (λ (h : List Thing). waiting_at informed depth h (counts_passed 0 c)) (append-nil held)
      ∙ ap (waiting_at informed depth held) (none_passed c are) in (is, refl)
  turns held c [] (t ∷ run) others are balanced full first same = absurd (omega (arith, same))
  turns [] c (o ∷ oldest) (t ∷ run) others are balanced full first same = absurd (let e = first in cc)
  turns (x ∷ rest) c (o ∷ oldest) (t ∷ run) others are balanced full first same =
      let is : x ≡ plain_atom o = let e = first in cc in
      let next = plain_atom t ∷ [] in let n = length run in
      let behind : map plain_atom oldest ≡ take n rest = ap (drop 1) first in
      let count : length oldest ≡ n = omega (arith, same) in
      let within : n ≤ length rest = omega (arith, ap length behind, length-map oldest plain_atom, count, length-take n rest) in
      let w = waiting_at informed depth (plain_atom o ∷ rest) c in
      let balanced' : Balances c (suc (entries rest)) = subst (λ (y : Thing). Balances c (entries (y ∷ rest))) is balanced in
      let waits = one_waits rest c o t full are balanced' in
      let more = turns (rest ++ next) (counts_passed 1 c) oldest run others waits.range waits.balanced
      (omega (arith, length-append rest next, full)) (behind ∙ sym (take-append-le n rest next within)) count in
      let left : drop n (rest ++ next) ++ map plain_atom run ≡ drop n rest ++ map plain_atom (t ∷ run) =
      ap (λ (l : List Thing). l ++ map plain_atom run) (drop-append-le n rest next within) ∙ append_assoc (drop n rest) next (map plain_atom run) in
      let last : waiting_at informed depth (drop n (rest ++ next) ++ map plain_atom run) (counts_passed n (counts_passed 1 c))
      ≡ waiting_at informed depth (drop n rest ++ map plain_atom (t ∷ run)) (counts_passed (suc n) c) =
      ap (λ (h : List Thing). waiting_at informed depth h (counts_passed n (counts_passed 1 c))) left
      ∙ ap (waiting_at informed depth (drop n rest ++ map plain_atom (t ∷ run))) (sym (counts_on n c)) in
      subst (λ (y : Thing). TakesAtoms (waiting_at informed depth (y ∷ rest) c) (atoms (t ∷ run) ++ others) (suc n)
      (waiting_at informed depth (drop n rest ++ map plain_atom (t ∷ run)) (counts_passed (suc n) c)) others) (sym is) (
        t,
        atoms run ++ others,
        waiting_at informed depth (rest ++ next) (counts_passed 1 c),
        refl,
        one_turned rest c o t full are,
        waits,
        subst (λ (v : Waiting). TakesAtoms (waiting_at informed depth (rest ++ next) (counts_passed 1 c)) (atoms run ++ others) n v others) last more,
      )

  -- ---- atoms for which there is room

  one_held : (held : List Thing) (c : Counts) (t : Bool) → length held < depth → AreCounts c
      → Commits (waiting_at informed depth held c) (elem.P0 (Atom t)) (waiting_at informed depth (held ++ plain_atom t ∷ []) (made_more 1 c)) []
  one_held held c t room are =
      let w = waiting_at informed depth held c in let all : List Thing = held ++ plain_atom t ∷ [] in
      let none : length all - depth ≡ 0 = omega (arith, length-append held (plain_atom t ∷ []), room) in
      let same : (n : ℕ) → n < 2 ^ 64 → n ≡ add n 0 = λ n small. omega (arith, small) in
      let twice : (n : ℕ) → add n 0 ≡ add (add n 0) 0 = λ n. omega arith in
      record {
        gone = committing [];
        rule = ap (λ (n : ℕ). commits (w.pending) nothing_told all n) none;
        commits = refl;
        counts = λ k. record {
          made = add c.made 1;
          committed = twice c.committed k;
          cancelled = same c.cancelled are.cancelled k;
          lost = same c.lost are.lost k;
        };
        depth = refl;
      }

  one_kept : (held : List Thing) (c : Counts) (t : Bool) → length held < depth → AreCounts c → Balances c (entries held)
      → IsWaiting (waiting_at informed depth (held ++ plain_atom t ∷ []) (made_more 1 c))
  one_kept held c t room are balanced =
      record {
        few = omega (arith, length-append held (plain_atom t ∷ []), room);
        balanced = omega (arith, balanced, entries-append held (plain_atom t ∷ []));
        range = record { made = mod-lt (c.made + 1) (omega arith); committed = are.committed; cancelled = are.cancelled; lost = are.lost };
      }

  pub keeps : (held : List Thing) (c : Counts) (run : List Bool) (others : List Elem) → AreCounts c → Balances c (entries held)
      → length held + length run ≤ depth
      → HoldsAtoms (waiting_at informed depth held c) (atoms run ++ others) (length run)
      (waiting_at informed depth (held ++ map plain_atom run) (made_more (length run) c)) others
  keeps held c [] others are balanced room =
      (ap (λ (h : List Thing). waiting_at informed depth h (made_more 0 c)) (append-nil held) ∙ ap (waiting_at informed depth held) (none_made c are), refl)
  keeps held c (t ∷ run) others are balanced room =
      let next = plain_atom t ∷ [] in let n = length run in
      let waits = one_kept held c t (omega (arith, room)) are balanced in
      let more = keeps (held ++ next) (made_more 1 c) run others waits.range waits.balanced (omega (arith, length-append held next, room)) in
      let last : waiting_at informed depth ((held ++ next) ++ map plain_atom run) (made_more n (made_more 1 c))
      ≡ waiting_at informed depth (held ++ map plain_atom (t ∷ run)) (made_more (suc n) c) =
      ap (λ (h : List Thing). waiting_at informed depth h (made_more n (made_more 1 c))) (append_assoc held next (map plain_atom run))
      ∙ ap (waiting_at informed depth (held ++ map plain_atom (t ∷ run))) (made_on n c) in (
        t,
        atoms run ++ others,
        waiting_at informed depth (held ++ next) (made_more 1 c),
        refl,
        one_held held c t (omega (arith, room)) are,
        waits,
        refl,
        subst (λ (v : Waiting). HoldsAtoms (waiting_at informed depth (held ++ next) (made_more 1 c)) (atoms run ++ others) n v others) last more,
      )

-- ---- what is due and given out

given_twice : (c : Counts) (x : Thing) (xs : List Thing)
    → counts_after (counts_after c 0 (committing (x ∷ []))) 0 (committing xs) ≡ counts_after c 0 (committing (x ∷ xs))
given_twice c x xs k =
    let parts : entries (x ∷ xs) ≡ entries (x ∷ []) + entries xs = entries-append (x ∷ []) xs in
    let none : (n : ℕ) → add (add n 0) 0 ≡ add n 0 = λ n. omega arith in
    record {
      made = none c.made k;
      committed = (add_twice c.committed (entries (x ∷ [])) (entries xs) ∙ ap (add c.committed) (sym parts)) k;
      cancelled = none c.cancelled k;
      lost = none c.lost k;
    }

one_given : (w : Waiting) (x : Thing) (others : List Thing) → w.due ≡ x ∷ others → IsWaiting w
    → IsWaiting (record w { due = others; counts = counts_after w.counts 0 (committing (x ∷ [])) })
one_given w x others first waits =
    let held = (w.pending).held in
    let same = ap (λ (due : List Thing). length (due ++ held)) first in
    let parts : entries (w.due ++ held) ≡ entries (x ∷ []) + entries (others ++ held) =
    ap (λ (due : List Thing). entries (due ++ held)) first ∙ entries-append (x ∷ []) (others ++ held) in
    record {
      few = omega (arith, waits.few, same);
      balanced = omega (arith, waits.balanced, parts);
      range = in_range w.counts 0 (committing (x ∷ []));
    }

pub gives_many : (p : Pending) (depth : ℕ) (due : List Thing) (c : Counts) (n : ℕ) → n ≤ length due
    → IsWaiting (record { pending = p; due = due; depth = depth; counts = c })
    → DropsDue (record { pending = p; due = due; depth = depth; counts = c }) n
    (record { pending = p; due = drop n due; depth = depth; counts = counts_after c 0 (committing (take n due)) })
gives_many p depth due c zero few waits =
    ap (λ (now : Counts). record { pending = p; due = due; depth = depth; counts = now }) (sym (same_counts c waits.range))
gives_many p depth [] c (suc n) few waits = absurd (omega (arith, few))
gives_many p depth (x ∷ due) c (suc n) few waits =
    let now = counts_after c 0 (committing (x ∷ [])) in
    let next : Waiting = record { pending = p; due = due; depth = depth; counts = now } in
    let waits' = one_given (record { pending = p; due = x ∷ due; depth = depth; counts = c }) x due refl waits in (
      x,
      due,
      next,
      (refl, refl, waits'),
      subst (λ (last : Counts). DropsDue next n (record { pending = p; due = drop n due; depth = depth; counts = last }))
          (given_twice c x (take n due)) (gives_many p depth due now n (omega (arith, few)) waits'),
    )

-- what is left of a queue that gave out some of those that are due
pub left_by_giving : (q : Queued) (informed : Bool) (due n : ℕ) → n ≤ due
    → waiting_of (record q { held = drop n q.held; counts = counts_after q.counts 0 (committing (take n q.held)) }) informed (due - n)
    ≡ record (waiting_of q informed due) {
      due = drop n (take due q.held);
      counts = counts_after q.counts 0 (committing (take n (take due q.held)));
    }
left_by_giving q informed due n few k =
    let sum : n + (due - n) ≡ due = omega (arith, few) in
    let held : drop (due - n) (drop n q.held) ≡ drop due q.held = drop-drop (due - n) n q.held ∙ ap (λ (m : ℕ). drop m q.held) sum in
    let gone : take (due - n) (drop n q.held) ≡ drop n (take due q.held) =
    sym (drop-take n (due - n) q.held) ∙ ap (λ (m : ℕ). drop n (take m q.held)) sum in
    let given : counts_after q.counts 0 (committing (take n q.held)) ≡ counts_after q.counts 0 (committing (take n (take due q.held))) =
    ap (λ (l : List Thing). counts_after q.counts 0 (committing l)) (sym (take-take n due q.held few)) in
    record {
      pending = record { held = held k; pre = q.pre; informed = informed };
      due = gone k;
      depth = q.depth;
      counts = given k;
    }

pub waits_of : (q : Queued) (informed : Bool) (due : ℕ) → IsQueued q → AreCounts q.counts → IsWaiting (waiting_of q informed due)
waits_of q informed due is are =
    let all : q.held ≡ take due q.held ++ drop due q.held = sym (take-append-drop due q.held) in
    record {
      few = subst (λ (l : List Thing). length l ≤ q.depth) all is.few;
      balanced = subst (λ (l : List Thing). Balances q.counts (entries l)) all is.balanced;
      range = are;
    }
