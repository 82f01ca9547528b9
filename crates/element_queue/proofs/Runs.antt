-- P0 elements one behind the other, and what takes them back or turns one over.
use Rattle.std.proofs.Common.{◌≡◌, ◌⊎◌, inl, inr, ℕ, zero, suc, ◌+◌, ◌-◌, ◌≤◌, ◌<◌, Bool, true, false, not, List, [], ◌∷◌, ◌++◌, length, take, drop}
use Rattle.std.proofs.Common.{Result, Ok, Err, refl, sym, ap, subst, ◌∙◌, arith, append_assoc, append-nil, length-append, length-take, length-drop}
use Rattle.std.specs.List.{flat_map}
use Rattle.std.specs.Prelude.{nat_le}
use Rattle.std.proofs.lemmas.Bool.{leb-false, leb-true, lt-leb}
use Rattle.std.proofs.lemmas.List.{drop-append-le, map-append, take-append-drop, take-append-le, take_all, drop_all}
use Rattle.etm_types.specs.Pre.{nothing_told}
use Rattle.etm_types.specs.declared.element.Elem.{Elem}
use Rattle.etm_types.specs.declared.element.Elem.TheVariants as elem
use Rattle.etm_types.specs.declared.element.P0.{P0}
use Rattle.etm_types.specs.declared.element.P0.TheVariants.{Atom}
use Rattle.etm_types.specs.declared.element.Pre.{Pre}
use Rattle.etm_types.specs.declared.element.Thing.{Thing}
use Rattle.etm_types.specs.declared.element.Thing.TheVariants.{Seen, Unseen, Gap, Stop}
use Rattle.etm_types.specs.declared.queue_fault.QueueFault.{QueueFault}
use Rattle.etm_types.specs.declared.queue_fault.QueueFault.TheVariants.{CancelOverrun, NoAtomToFlip}
use Rattle.element_queue.specs.Pending.{Pending, Taken, cancelling, commits, committing, flips, nothing_gone, taken}
use Rattle.element_queue.specs.Resolved.{Resolved, resolve_all, then_resolve, with_done}
use Rattle.element_queue.specs.Rewriting.{elements_of_run, taken_together, things_of_run}
use Rattle.element_queue.proofs.Cancelled.{pre_since, some, takes_back}
use Rattle.element_queue.proofs.Flipped.{flip_newest_at, pre_behind_at}
use Rattle.element_queue.proofs.Joined.{one_by_one}

-- ---- parts of joined lists

pub take_both : {X : Type 0} (n : ℕ) (xs ys : List X) → take n (xs ++ ys) ≡ take n xs ++ take (n - length xs) ys
take_both zero xs ys = let none : 0 - length xs ≡ 0 = omega arith in ap (λ k. take k ys) (sym none)
take_both (suc n) [] ys = let all : suc n - 0 ≡ suc n = omega arith in ap (λ k. take k ys) (sym all)
take_both (suc n) (x ∷ xs) ys =
    let less : n - length xs ≡ suc n - suc (length xs) = omega arith in
    ap (λ l. x ∷ l) (take_both n xs ys) ∙ ap (λ k. x ∷ take n xs ++ take k ys) less

pub drop_both : {X : Type 0} (n : ℕ) (xs ys : List X) → drop n (xs ++ ys) ≡ drop n xs ++ drop (n - length xs) ys
drop_both zero xs ys = let none : 0 - length xs ≡ 0 = omega arith in ap (λ k. xs ++ drop k ys) (sym none)
drop_both (suc n) [] ys = let all : suc n - 0 ≡ suc n = omega arith in ap (λ k. drop k ys) (sym all)
drop_both (suc n) (x ∷ xs) ys =
    let less : n - length xs ≡ suc n - suc (length xs) = omega arith in
    drop_both n xs ys ∙ ap (λ k. drop n xs ++ drop k ys) less

-- the newest of a list, and those before them
pub record Split {X : Type 0} (xs : List X) (n : ℕ) : Type 0 where
  pub kept : List X
  pub gone : List X
  pub whole : xs ≡ kept ++ gone
  pub count : length gone ≡ n
  pub left : length kept ≡ length xs - n

pub split : {X : Type 0} (xs : List X) (n : ℕ) → n ≤ length xs → Split xs n
split xs n within =
    record {
      kept = take (length xs - n) xs;
      gone = drop (length xs - n) xs;
      whole = sym (take-append-drop (length xs - n) xs);
      count = omega (arith, length-drop (length xs - n) xs);
      left = omega (arith, length-take (length xs - n) xs);
    }

-- ---- one element

pub resolves : (depth : ℕ) (r : Resolved) (e : Elem) (elements : List Elem) (t : Taken) → taken depth r.pending e ≡ t
    → resolve_all depth r (e ∷ elements) ≡ then_resolve (with_done r.done t) (λ next. resolve_all depth next elements)
resolves depth r e elements t is = ap (λ x. then_resolve (with_done r.done x) (λ next. resolve_all depth next elements)) is

-- what is resolved, by its parts
abbrev pub comes_to : List Thing → List Thing → Pre → Bool → Result Resolved QueueFault
comes_to done held pre informed = Ok (record { done = done; pending = record { held = held; pre = pre; informed = informed } })

pub same_parts : (done done' held held' : List Thing) (pre : Pre) (informed : Bool) → done ≡ done' → held ≡ held'
    → comes_to done held pre informed ≡ comes_to done' held' pre informed
same_parts done done' held held' pre informed d h = λ k. Ok (record { done = d k; pending = record { held = h k; pre = pre; informed = informed } })

pub goes_back : (depth n : ℕ) (p : Pending) (kept gone : List Thing) → p.held ≡ kept ++ gone → length gone ≡ n
    → taken depth p (elem.Cancel n) ≡ Ok (record { held = kept; pre = pre_since p.pre gone; informed = p.informed }, cancelling gone)
goes_back depth n p kept gone whole count =
    ap (λ held. taken depth (record p { held = held }) (elem.Cancel n)) whole ∙ takes_back depth n p.informed p.pre kept gone count

-- what is left behind a cancel
abbrev back_to : Resolved → List Thing → List Thing → Resolved
back_to r kept gone =
    record { done = r.done ++ []; pending = record { held = kept; pre = pre_since r.pending.pre gone; informed = r.pending.informed } }

resolves_cancel : (depth n : ℕ) (r : Resolved) (kept gone : List Thing) (elements : List Elem) → r.pending.held ≡ kept ++ gone → length gone ≡ n
    → resolve_all depth r (elem.Cancel n ∷ elements) ≡ resolve_all depth (back_to r kept gone) elements
resolves_cancel depth n r kept gone elements whole count =
    ap (λ x. then_resolve (with_done r.done x) (λ next. resolve_all depth next elements)) (goes_back depth n r.pending kept gone whole count)

pub too_many : (depth n : ℕ) (p : Pending) → length p.held < n → taken depth p (elem.Cancel n) ≡ Err (CancelOverrun n (length p.held))
too_many depth zero p more = absurd (omega arith)
too_many depth (suc n) p more = simp (some n, lt-leb (suc n) (length p.held) more)

refuses : (depth n : ℕ) (r : Resolved) (elements : List Elem) → length r.pending.held < n
    → resolve_all depth r (elem.Cancel n ∷ elements) ≡ Err (CancelOverrun n (length r.pending.held))
refuses depth n r elements more =
    resolves depth r (elem.Cancel n) elements (Err (CancelOverrun n (length r.pending.held))) (too_many depth n r.pending more)

-- ---- packing

joined_runs : (packets : List (List P0)) → elements_of_run (flat_map (λ packet. packet) packets) ≡ flat_map elements_of_run packets
joined_runs [] = refl
joined_runs (packet ∷ packets) =
    map-append elem.P0 packet (flat_map (λ packet. packet) packets) ∙ ap (λ l. elements_of_run packet ++ l) (joined_runs packets)

pub packets_alike : (depth : ℕ) (r : Resolved) (before after : List Elem) (packets : List (List P0))
    → resolve_all depth r (before ++ elements_of_run (flat_map (λ packet. packet) packets) ++ after)
    ≡ resolve_all depth r (before ++ flat_map elements_of_run packets ++ after)
packets_alike depth r before after packets = ap (λ l. resolve_all depth r (before ++ l ++ after)) (joined_runs packets)

-- so many of the oldest leave, and then as many as still are too many
two_steps : (depth n : ℕ) (front back : List Thing) → n ≡ length front + (length back - depth)
    → (front ++ take (length back - depth) back ≡ take n (front ++ back)) × (drop (length back - depth) back ≡ drop n (front ++ back))
two_steps depth n front back count =
    let more : length back - depth ≡ n - length front = omega arith in (
      ap (λ k. front ++ take k back) more ∙ ap (λ l. l ++ take (n - length front) back) (sym (take_all n front (omega arith)))
          ∙ sym (take_both n front back),
      ap (λ k. drop k back) more ∙ ap (λ l. l ++ drop (n - length front) back) (sym (drop_all n front (omega arith))) ∙ sym (drop_both n front back),
    )

run_from : (depth : ℕ) (done held : List Thing) (pre : Pre) (informed : Bool) (p0 : P0) (run : List P0)
    → resolve_all depth (record { done = done; pending = record { held = held; pre = pre; informed = informed } }) (elements_of_run (p0 ∷ run))
    ≡ with_done done (taken_together depth (record { held = held; pre = pre; informed = informed }) (p0 ∷ run))
run_from depth done held pre informed p0 [] = refl
run_from depth done held pre informed p0 (next ∷ run) =
    let newest : List Thing = Seen (record { pre = pre; p0 = p0 }) ∷ [] in
    let all = held ++ newest in
    let k = length all - depth in
    let rest = things_of_run nothing_told (next ∷ run) in
    let back = drop k all ++ rest in
    let whole : take k all ++ back ≡ held ++ (newest ++ rest) =
    sym (append_assoc (take k all) (drop k all) rest) ∙ ap (λ l. l ++ rest) (take-append-drop k all) ∙ append_assoc held newest rest in
    let n = length (held ++ (newest ++ rest)) - depth in
    let count : n ≡ length (take k all) + (length back - depth) =
    omega (arith, ap length whole, length-append (take k all) back, length-append (drop k all) rest, length-take k all, length-drop k all) in
    let two = two_steps depth n (take k all) back count in
    run_from depth (done ++ take k all) (drop k all) nothing_told informed next run
    ∙ same_parts _ _ _ _ nothing_told informed
    (append_assoc done (take k all) (take (length back - depth) back) ∙ ap (λ l. done ++ l) (two.0 ∙ ap (take n) whole)) (two.1 ∙ ap (drop n) whole)

pub at_once : (depth : ℕ) (r : Resolved) (p0 : P0) (run : List P0)
    → resolve_all depth r (elements_of_run (p0 ∷ run)) ≡ with_done r.done (taken_together depth r.pending (p0 ∷ run))
at_once depth r p0 run = run_from depth r.done r.pending.held r.pending.pre r.pending.informed p0 run

-- ---- inverting

abbrev atom_of : Pre → Bool → Thing
atom_of pre taken = Seen (record { pre = pre; p0 = Atom taken })

abbrev with_left : Pending → Pre → List Thing → List Thing → Taken
with_left p pre held left = Ok (record p { held = held; pre = pre }, committing left)

gives : (p : Pending) (pre : Pre) {held held' left left' : List Thing} → held ≡ held' → left ≡ left'
    → with_left p pre held left ≡ with_left p pre held' left'
gives p pre h l = λ k. Ok (record p { held = h k; pre = pre }, committing (l k))

-- an atom, where some may be held: so many of the oldest leave
abbrev atom_held : ℕ → Pending → Bool → Taken
atom_held n p b = with_left p nothing_told (drop n p.held ++ atom_of p.pre b ∷ []) (take n p.held)

abbrev without_loss : List Thing → Bool → Taken
without_loss held informed = Ok (record { held = held; pre = nothing_told; informed = informed }, nothing_gone)

takes_atom : (depth : ℕ) (p : Pending) (b : Bool) → 0 < depth → (n : ℕ) → n ≡ length p.held + 1 - depth
    → taken depth p (elem.P0 (Atom b)) ≡ atom_held n p b
takes_atom depth p b some n is =
    let newest : List Thing = atom_of p.pre b ∷ [] in
    let count : length (p.held ++ newest) - depth ≡ n = omega (arith, length-append p.held newest) in
    ap (commits p nothing_told (p.held ++ newest)) count
    ∙ gives p nothing_told (drop-append-le n p.held newest (omega arith)) (take-append-le n p.held newest (omega arith))

turns_over : (depth : ℕ) (others : List Thing) (pre : Pre) (informed b : Bool)
    → taken depth (record { held = others ++ atom_of pre b ∷ []; pre = nothing_told; informed = informed }) elem.Flip
    ≡ without_loss (others ++ atom_of pre (not b) ∷ []) informed
turns_over depth others pre informed b =
    ap (flips (record { held = others ++ atom_of pre b ∷ []; pre = nothing_told; informed = informed })) (flip_newest_at others (atom_of pre b))
    ∙ ap (λ behind. Ok (record { held = others ++ atom_of pre (not b) ∷ []; pre = behind; informed = informed }, nothing_gone))
    (pre_behind_at others (atom_of pre b) nothing_told)

pub inverted : (depth : ℕ) (r : Resolved) (b : Bool) → 0 < depth
    → resolve_all depth r (elem.P0 (Atom b) ∷ elem.Flip ∷ []) ≡ resolve_all depth r (elem.P0 (Atom (not b)) ∷ [])
inverted depth r b some =
    let p = r.pending in
    let n = length p.held + 1 - depth in
    let done = r.done ++ take n p.held in
    let after : Resolved = record { done = done; pending = record { held = drop n p.held ++ atom_of p.pre b ∷ []; pre = nothing_told; informed = p.informed } } in
    resolves depth r (elem.P0 (Atom b)) (elem.Flip ∷ []) (atom_held n p b) (takes_atom depth p b some n refl)
    ∙ resolves depth after elem.Flip [] (without_loss (drop n p.held ++ atom_of p.pre (not b) ∷ []) p.informed)
    (turns_over depth (drop n p.held) p.pre p.informed b)
    ∙ ap (λ l. comes_to l (drop n p.held ++ atom_of p.pre (not b) ∷ []) nothing_told p.informed) (append-nil done)
    ∙ sym (resolves depth r (elem.P0 (Atom (not b))) [] (atom_held n p (not b)) (takes_atom depth p (not b) some n refl))

pub none_to_flip : (r : Resolved) (b : Bool) → resolve_all 0 r (elem.P0 (Atom b) ∷ elem.Flip ∷ []) ≡ Err (NoAtomToFlip 0)
none_to_flip r b =
    let all = r.pending.held ++ atom_of r.pending.pre b ∷ [] in
    let empty = drop_all (length all - 0) all (omega arith) in
    ap (λ l. then_resolve (with_done (r.done ++ take (length all - 0) all) (taken 0 (record { held = l; pre = nothing_told; informed = r.pending.informed }) elem.Flip)) (λ next. Ok next)) empty

-- ---- vanishing

-- what is given before the first of them comes back
comes_back : (pre : Pre) (gone : List Thing) (p0 : P0) (run : List P0) → pre_since nothing_told (gone ++ things_of_run pre (p0 ∷ run)) ≡ pre_since pre gone
comes_back pre [] p0 run = refl
comes_back pre (Seen entry ∷ gone) p0 run = refl
comes_back pre (Unseen ∷ gone) p0 run = refl
comes_back pre (Gap ∷ gone) p0 run = refl
comes_back pre (Stop ∷ gone) p0 run = refl

pub length-run : (pre : Pre) (run : List P0) → length (things_of_run pre run) ≡ length run
length-run pre [] = refl
length-run pre (p0 ∷ run) = ap suc (length-run nothing_told run)

-- where there is room for all of them, none is committed
all_held : (depth : ℕ) (r : Resolved) (p0 : P0) (run : List P0) (elements : List Elem) → length r.pending.held + length (p0 ∷ run) ≤ depth
    → resolve_all depth r (elements_of_run (p0 ∷ run) ++ elements)
    ≡ resolve_all depth
    (record {
      done = r.done;
      pending = record { held = r.pending.held ++ things_of_run r.pending.pre (p0 ∷ run); pre = nothing_told; informed = r.pending.informed };
    })
    elements
all_held depth r p0 run elements room =
    let p = r.pending in
    let all = p.held ++ things_of_run p.pre (p0 ∷ run) in
    let none : length all - depth ≡ 0 =
    omega (arith, length-append p.held (things_of_run p.pre (p0 ∷ run)), length-run p.pre (p0 ∷ run)) in
    one_by_one depth r (elements_of_run (p0 ∷ run)) elements
    ∙ ap (λ x. then_resolve x (λ next. resolve_all depth next elements)) (at_once depth r p0 run)
    ∙ ap (λ n. resolve_all depth (record { done = r.done ++ take n all; pending = record { held = drop n all; pre = nothing_told; informed = p.informed } }) elements) none
    ∙ ap (λ l. resolve_all depth (record { done = l; pending = record { held = all; pre = nothing_told; informed = p.informed } }) elements) (append-nil r.done)

pub vanish : (depth n : ℕ) (r : Resolved) (run : List P0) → length run ≤ n → length r.pending.held + length run ≤ depth
    → n ≤ length r.pending.held + length run
    → resolve_all depth r (elements_of_run run ++ elem.Cancel n ∷ []) ≡ resolve_all depth r (elem.Cancel (n - length run) ∷ [])
vanish depth n r [] reach room within = let same : n ≡ n - 0 = omega arith in ap (λ k. resolve_all depth r (elem.Cancel k ∷ [])) same
vanish depth n r (p0 ∷ run) reach room within =
    let p = r.pending in
    let new = things_of_run p.pre (p0 ∷ run) in
    let s = split p.held (n - length (p0 ∷ run)) (omega arith) in
    let whole : p.held ++ new ≡ s.kept ++ (s.gone ++ new) = ap (λ l. l ++ new) s.whole ∙ append_assoc s.kept s.gone new in
    let count : length (s.gone ++ new) ≡ n = omega (arith, length-append s.gone new, length-run p.pre (p0 ∷ run), s.count) in
    let mid : Resolved = record { done = r.done; pending = record { held = p.held ++ new; pre = nothing_told; informed = p.informed } } in
    all_held depth r p0 run (elem.Cancel n ∷ []) room
    ∙ resolves_cancel depth n mid s.kept (s.gone ++ new) [] whole count
    ∙ ap (λ pre. comes_to (r.done ++ []) s.kept pre p.informed) (comes_back p.pre s.gone p0 run)
    ∙ sym (resolves_cancel depth (n - length (p0 ∷ run)) r s.kept s.gone [] s.whole s.count)

pub reaches_too_far : (depth n : ℕ) (r : Resolved) (run : List P0) → length r.pending.held + length run ≤ depth
    → length r.pending.held + length run < n
    → (resolve_all depth r (elements_of_run run ++ elem.Cancel n ∷ []) ≡ Err (CancelOverrun n (length r.pending.held + length run)))
    × (resolve_all depth r (elem.Cancel (n - length run) ∷ []) ≡ Err (CancelOverrun (n - length run) (length r.pending.held)))
reaches_too_far depth n r [] room more =
    let none : length r.pending.held ≡ length r.pending.held + 0 = omega arith in
    (refuses depth n r [] (omega arith) ∙ ap (λ h. Err (CancelOverrun n h)) none, refuses depth (n - 0) r [] (omega arith))
reaches_too_far depth n r (p0 ∷ run) room more =
    let p = r.pending in
    let new = things_of_run p.pre (p0 ∷ run) in
    let held : length (p.held ++ new) ≡ length p.held + length (p0 ∷ run) = length-append p.held new ∙ ap (λ k. length p.held + k) (length-run p.pre (p0 ∷ run)) in
    let mid : Resolved = record { done = r.done; pending = record { held = p.held ++ new; pre = nothing_told; informed = p.informed } } in (
      all_held depth r p0 run (elem.Cancel n ∷ []) room ∙ refuses depth n mid [] (omega (arith, held)) ∙ ap (λ h. Err (CancelOverrun n h)) held,
      refuses depth (n - length (p0 ∷ run)) r [] (omega arith),
    )

-- how many are done and held, or were asked for by a cancel that has a fault
abbrev told_by : Result Resolved QueueFault → Result (ℕ × ℕ) ℕ
told_by (Ok r) = Ok (length r.done, length r.pending.held)
told_by (Err (CancelOverrun asked held)) = Err asked
told_by (Err fault) = Err 0

abbrev done_or_asked : Bool → ℕ → ℕ → ℕ → Result (ℕ × ℕ) ℕ
done_or_asked true done left asked = Ok (done, left)
done_or_asked false done left asked = Err asked

abbrev first_told : Result (ℕ × ℕ) ℕ → ℕ
first_told (Ok both) = both.0
first_told (Err asked) = asked

abbrev second_told : Result (ℕ × ℕ) ℕ → ℕ
second_told (Ok both) = both.1
second_told (Err asked) = asked

told_if : (depth n : ℕ) (r : Resolved) (b : Bool) → nat_le n (length r.pending.held) ≡ b
    → told_by (resolve_all depth r (elem.Cancel n ∷ [])) ≡ done_or_asked b (length r.done) (length r.pending.held - n) n
told_if depth n r true is =
    let s = split r.pending.held n (leb-true n (length r.pending.held) is) in
    ap told_by (resolves_cancel depth n r s.kept s.gone [] s.whole s.count)
    ∙ ap (λ (l : List Thing). done_or_asked true (length l) (length s.kept) n) (append-nil r.done)
    ∙ ap (λ k. done_or_asked true (length r.done) k n) s.left
told_if depth n r false is = ap told_by (refuses depth n r [] (leb-false n (length r.pending.held) is))

-- two cancels, of what is held then, that are told alike: both have no fault, or both have
abbrev BothGood : ℕ → ℕ → ℕ → ℕ → ℕ → ℕ → Type 0
BothGood x y a h m n = (m ≤ a) × (n ≤ h) × (x ≡ y) × (a - m ≡ h - n)

abbrev BothBad : ℕ → ℕ → ℕ → Type 0
BothBad a m n = (a < m) × (m ≡ n)

told_alike : (b c : Bool) (x y a h m n : ℕ) → nat_le m a ≡ b → nat_le n h ≡ c → done_or_asked b x (a - m) m ≡ done_or_asked c y (h - n) n
    → BothGood x y a h m n ⊎ BothBad a m n
told_alike true true x y a h m n p q e = inl (leb-true m a p, leb-true n h q, ap first_told e, ap second_told e)
told_alike false false x y a h m n p q e = inr (leb-false m a p, ap first_told e)
told_alike true false x y a h m n p q e = absurd cc
told_alike false true x y a h m n p q e = absurd cc

-- the conditions, where so many of the oldest left
must_fit : (done held k a run depth n : ℕ) → k ≡ held + run - depth → a ≡ held + run - k → 0 < run
    → BothGood (done + k) done a held n (n - run) ⊎ BothBad a n (n - run) → (run ≤ n) × (held + run ≤ depth) × (n ≤ held + run)
must_fit done held k a run depth n is left some (inl good) =
    let none : k ≡ 0 = omega (arith, good.2) in (
      omega (arith, none, good.0, good.1, good.3),
      omega (arith, none),
      omega (arith, none, good.0),
    )
must_fit done held k a run depth n is left some (inr bad) = absurd (omega (arith, bad.0, bad.1))

pub conditions : (depth n : ℕ) (r : Resolved) (run : List P0)
    → resolve_all depth r (elements_of_run run ++ elem.Cancel n ∷ []) ≡ resolve_all depth r (elem.Cancel (n - length run) ∷ []) → 0 < length run
    → (length run ≤ n) × (length r.pending.held + length run ≤ depth) × (n ≤ length r.pending.held + length run)
conditions depth n r [] same some = absurd (omega arith)
conditions depth n r (p0 ∷ run) same some =
    let p = r.pending in
    let new = things_of_run p.pre (p0 ∷ run) in
    let all = p.held ++ new in
    let k = length all - depth in
    let mid : Resolved = record { done = r.done ++ take k all; pending = record { held = drop k all; pre = nothing_told; informed = p.informed } } in
    let left : resolve_all depth r (elements_of_run (p0 ∷ run) ++ elem.Cancel n ∷ []) ≡ resolve_all depth mid (elem.Cancel n ∷ []) =
    one_by_one depth r (elements_of_run (p0 ∷ run)) (elem.Cancel n ∷ [])
    ∙ ap (λ x. then_resolve x (λ next. resolve_all depth next (elem.Cancel n ∷ []))) (at_once depth r p0 run) in
    let told = sym (told_if depth n mid _ refl) ∙ ap told_by (sym left ∙ same) ∙ told_if depth (n - length (p0 ∷ run)) r _ refl in
    let alike = told_alike (nat_le n (length mid.pending.held)) (nat_le (n - length (p0 ∷ run)) (length p.held)) (length mid.done) (length r.done)
    (length mid.pending.held) (length p.held) n (n - length (p0 ∷ run)) refl refl told in
    let count : length all ≡ length p.held + length (p0 ∷ run) =
    length-append p.held new ∙ ap (λ m. length p.held + m) (length-run p.pre (p0 ∷ run)) in
    let went : length mid.done ≡ length r.done + k = omega (arith, length-append r.done (take k all), length-take k all) in
    must_fit (length r.done) (length p.held) k (length mid.pending.held) (length (p0 ∷ run)) depth n (ap (λ m. m - depth) count)
    (length-drop k all ∙ ap (λ m. m - k) count) some
    (subst (λ d. BothGood d (length r.done) (length mid.pending.held) (length p.held) n (n - length (p0 ∷ run)) ⊎ BothBad (length mid.pending.held) n (n - length (p0 ∷ run))) went alike)

-- ---- joining

given_before_all : (pre : Pre) (mid gone : List Thing) → pre_since (pre_since pre gone) mid ≡ pre_since pre (mid ++ gone)
given_before_all pre [] gone = refl
given_before_all pre (Seen entry ∷ mid) gone = refl
given_before_all pre (Unseen ∷ mid) gone = refl
given_before_all pre (Gap ∷ mid) gone = refl
given_before_all pre (Stop ∷ mid) gone = refl

pub cancels_join : (depth first second : ℕ) (r : Resolved) → first + second ≤ length r.pending.held
    → resolve_all depth r (elem.Cancel first ∷ elem.Cancel second ∷ []) ≡ resolve_all depth r (elem.Cancel (first + second) ∷ [])
cancels_join depth first second r within =
    let p = r.pending in
    let s = split p.held (first + second) within in
    let t = split s.gone first (omega (arith, s.count)) in
    let whole : p.held ≡ s.kept ++ t.kept ++ t.gone = s.whole ∙ ap (λ l. s.kept ++ l) t.whole ∙ sym (append_assoc s.kept t.kept t.gone) in
    resolves_cancel depth first r (s.kept ++ t.kept) t.gone (elem.Cancel second ∷ []) whole t.count
    ∙ resolves_cancel depth second (back_to r (s.kept ++ t.kept) t.gone) s.kept t.kept [] refl (omega (arith, s.count, t.left))
    ∙ ap (λ l. comes_to l s.kept (pre_since (pre_since p.pre t.gone) t.kept) p.informed) (append-nil (r.done ++ []))
    ∙ ap (λ pre. comes_to (r.done ++ []) s.kept pre p.informed)
    (given_before_all p.pre t.kept t.gone ∙ ap (pre_since p.pre) (sym t.whole))
    ∙ sym (resolves_cancel depth (first + second) r s.kept s.gone [] s.whole s.count)

pub sum_too_many : (depth first second : ℕ) (r : Resolved) → length r.pending.held < first + second
    → resolve_all depth r (elem.Cancel (first + second) ∷ []) ≡ Err (CancelOverrun (first + second) (length r.pending.held))
sum_too_many depth first second r more = refuses depth (first + second) r [] more

pub first_too_many : (depth first second : ℕ) (r : Resolved) → length r.pending.held < first
    → resolve_all depth r (elem.Cancel first ∷ elem.Cancel second ∷ []) ≡ Err (CancelOverrun first (length r.pending.held))
first_too_many depth first second r more = refuses depth first r (elem.Cancel second ∷ []) more

pub second_too_many : (depth first second : ℕ) (r : Resolved) → first ≤ length r.pending.held → length r.pending.held < first + second
    → resolve_all depth r (elem.Cancel first ∷ elem.Cancel second ∷ []) ≡ Err (CancelOverrun second (length r.pending.held - first))
second_too_many depth first second r within more =
    let s = split r.pending.held first within in
    resolves_cancel depth first r s.kept s.gone (elem.Cancel second ∷ []) s.whole s.count
    ∙ refuses depth second (back_to r s.kept s.gone) [] (omega (arith, s.left)) ∙ ap (λ h. Err (CancelOverrun second h)) s.left
