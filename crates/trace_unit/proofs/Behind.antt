-- A reader of the whole form is behind a reader that is told at once by what waits.
use Rattle.std.proofs.Common.{◌≡◌, ℕ, zero, suc, ◌+◌, ◌-◌, ◌≤◌, List, [], ◌∷◌, ◌++◌, length, take, drop, Ok, refl, sym, ap, ◌∙◌, arith, append_assoc}
use Rattle.std.proofs.Common.{append-nil, length-append}
use Rattle.std.proofs.lemmas.List.{take-append-le, drop-append-le, take-append-drop, length-drop, length-take-le, nil_from_length}
use Rattle.etm_types.specs.Pre.{nothing_told}
use Rattle.etm_types.specs.declared.element.Elem.TheVariants as elem
use Rattle.etm_types.specs.declared.element.P0.{P0}
use Rattle.etm_types.specs.declared.element.Pre.{Pre}
use Rattle.etm_types.specs.declared.element.Thing.{Thing}
use Rattle.etm_types.specs.declared.element.Thing.TheVariants.{Seen}
use Rattle.element_queue.specs.Pending.{pre_of}
use Rattle.element_queue.specs.Resolved.{Resolved, resolve}
use Rattle.spec_run.specs.Steps.{kept, newest}
use Rattle.trace_unit.proofs.Lists.{kept_at, newest_at}
use Rattle.trace_unit.specs.Whole.{at_once}

-- the entries that elements make, one behind the other, and what is pending behind them
abbrev pub entries : Pre → List P0 → List Thing
entries pre [] = []
entries pre (x ∷ xs) = Seen (record { pre = pre; p0 = x }) ∷ entries nothing_told xs

abbrev pub pend : Pre → List P0 → Pre
pend pre [] = pre
pend pre (x ∷ xs) = nothing_told

-- what is pending where these things go
abbrev pub back : List Thing → Pre → Pre
back [] pre = pre
back (t ∷ ts) pre = pre_of (t ∷ ts)

-- P0 elements that are held, and how many elements are still to be cancelled, to be committed, and held by the reader
pub record Behind (depth : ℕ) (xs : List P0) (q c h : ℕ) (rw rp : Resolved) : Type 0 where
  pub keep : List Thing
  pub gone : List Thing
  pub ahead : List Thing
  pub held : rw.pending.held ≡ keep ++ gone
  pub going : length gone ≡ q
  pub done : rp.done ≡ rw.done ++ ahead
  pub due : length ahead ≡ c
  pub all : keep ++ entries (back gone rw.pending.pre) xs ≡ ahead ++ rp.pending.held
  pub pre : rp.pending.pre ≡ pend (back gone rw.pending.pre) xs
  pub informed : rp.pending.informed ≡ rw.pending.informed
  pub many : h ≡ length rw.pending.held
  pub room : h ≤ depth
  pub fits : length rp.pending.held ≤ depth

pub entries-append : (pre : Pre) (xs ys : List P0) → entries pre (xs ++ ys) ≡ entries pre xs ++ entries (pend pre xs) ys
entries-append pre [] ys = refl
entries-append pre (x ∷ []) ys = refl
entries-append pre (x ∷ y ∷ xs) ys = ap (λ l. Seen (record { pre = pre; p0 = x }) ∷ l) (entries-append nothing_told (y ∷ xs) ys)

pub pend-append : (pre : Pre) (xs ys : List P0) → pend pre (xs ++ ys) ≡ pend (pend pre xs) ys
pend-append pre [] ys = refl
pend-append pre (x ∷ xs) [] = refl
pend-append pre (x ∷ xs) (y ∷ ys) = refl

pub length-entries : (pre : Pre) (xs : List P0) → length (entries pre xs) ≡ length xs
length-entries pre [] = refl
length-entries pre (x ∷ xs) = ap (λ n. suc n) (length-entries nothing_told xs)

-- two lists joined in two ways
pub same_parts : {X : Type 0} (us vs xs ys : List X) → us ++ vs ≡ xs ++ ys → length vs ≡ length ys → (us ≡ xs) × (vs ≡ ys)
same_parts us vs xs ys e c = (
  sym (kept_at (length ys) us vs c) ∙ ap (kept (length ys)) e ∙ kept_at (length ys) xs ys refl,
  sym (newest_at (length ys) us vs c)
      ∙ ap (newest (length ys)) e ∙ newest_at (length ys) xs ys refl,
)

-- ---- one P0 element

abbrev pub entry : Resolved → P0 → Thing
entry r x = Seen (record { pre = r.pending.pre; p0 = x })

abbrev pub full : Resolved → P0 → List Thing
full r x = r.pending.held ++ entry r x ∷ []

abbrev pub put_by : ℕ → Resolved → P0 → Resolved
put_by n r x = record { done = r.done ++ take n (full r x); pending = record { held = drop n (full r x); pre = nothing_told; informed = r.pending.informed } }

abbrev pub put : ℕ → Resolved → P0 → Resolved
put depth r x = put_by (length (full r x) - depth) r x

pub puts : (depth : ℕ) (r : Resolved) (x : P0) → resolve depth r (elem.P0 x) ≡ Ok (put depth r x)
puts depth r x = refl

over : (depth held all : ℕ) → all ≡ held + 1 → held + 1 ≤ depth + at_once depth → held ≤ depth → all - depth ≡ at_once depth
over zero held all e asks fits = omega (arith, e, asks, fits)
over (suc depth) held all e asks fits = omega (arith, e, asks, fits)

-- the reader that is told at once takes one: it is held, and at depth 0 it is due at once
pub pushed_on : (depth : ℕ) (xs : List P0) (q c h : ℕ) (rw rp : Resolved) (x : P0) → Behind depth xs q c h rw rp
    → length rp.pending.held + 1 ≤ depth + at_once depth
    → Behind depth (xs ++ x ∷ []) q (c + at_once depth) h rw (put depth rp x)
pushed_on depth xs q c h rw rp x b asks =
    let pre = back b.gone rw.pending.pre in
    let f = full rp x in
    let size : length f ≡ length rp.pending.held + 1 = length-append rp.pending.held (entry rp x ∷ []) in
    let n = length f - depth in
    let some : n ≡ at_once depth = over depth (length rp.pending.held) (length f) size asks b.fits in
    let enough : n ≤ length f = omega arith in
    let now : entry rp x ≡ Seen (record { pre = pend pre xs; p0 = x }) = ap (λ p. Seen (record { pre = p; p0 = x })) b.pre in
    record {
      keep = b.keep;
      gone = b.gone;
      ahead = b.ahead ++ take n f;
      held = b.held;
      going = b.going;
      done = ap (λ l. l ++ take n f) b.done ∙ append_assoc rw.done b.ahead (take n f);
      due = length-append b.ahead (take n f) ∙ ap (λ m. m + length (take n f)) b.due ∙ ap (λ m. c + m) (length-take-le n f enough ∙ some);
      all = ap (λ l. b.keep ++ l) (entries-append pre xs (x ∷ []))
          ∙ sym (append_assoc b.keep (entries pre xs) (Seen (record { pre = pend pre xs; p0 = x }) ∷ []))
          ∙ ap (λ l. l ++ Seen (record { pre = pend pre xs; p0 = x }) ∷ []) b.all ∙ ap (λ t. (b.ahead ++ rp.pending.held) ++ t ∷ []) (sym now)
          ∙ append_assoc b.ahead rp.pending.held (entry rp x ∷ [])
          ∙ ap (λ l. b.ahead ++ l) (sym (take-append-drop n f)) ∙ sym (append_assoc b.ahead (take n f) (drop n f));
      pre = sym (pend-append pre xs (x ∷ []));
      informed = b.informed;
      many = b.many;
      room = b.room;
      fits = omega (arith, length-drop n f);
    }

pends_none : (xs : List P0) → pend nothing_told xs ≡ nothing_told
pends_none [] = refl
pends_none (x ∷ xs) = refl

-- the reader of the whole form takes the oldest that is held: of a full queue the oldest is committed, and is due no more
pub put_out : (depth : ℕ) (x : P0) (xs : List P0) (c h : ℕ) (rw rp : Resolved) → Behind depth (x ∷ xs) 0 c h rw rp
    → Behind depth xs 0 (c - (h + 1 - depth)) (h + 1 - (h + 1 - depth)) (put depth rw x) rp
put_out depth x xs c h rw rp b =
    let f = full rw x in
    let none : b.gone ≡ [] = nil_from_length b.gone b.going in
    let held : b.keep ≡ rw.pending.held = sym (b.held ∙ ap (λ l. b.keep ++ l) none ∙ append-nil b.keep) in
    let pre : back b.gone rw.pending.pre ≡ rw.pending.pre = ap (λ l. back l rw.pending.pre) none in
    let size : length f ≡ h + 1 = length-append rw.pending.held (entry rw x ∷ []) ∙ ap (λ m. m + 1) (sym b.many) in
    let n = length f - depth in
    let same : n ≡ h + 1 - depth = ap (λ m. m - depth) size in
    let all : f ++ entries nothing_told xs ≡ b.ahead ++ rp.pending.held =
    append_assoc rw.pending.held (entry rw x ∷ []) (entries nothing_told xs) ∙ ap (λ l. l ++ entries rw.pending.pre (x ∷ xs)) (sym held)
    ∙ ap (λ p. b.keep ++ entries p (x ∷ xs)) (sym pre) ∙ b.all in
    let sizes : length f + length xs ≡ length b.ahead + length rp.pending.held =
    ap (λ m. length f + m) (sym (length-entries nothing_told xs)) ∙ sym (length-append f (entries nothing_told xs)) ∙ ap length all
    ∙ length-append b.ahead rp.pending.held in
    let few : n ≤ length b.ahead = omega (arith, sizes, b.fits) in
    let within : n ≤ length f = omega arith in
    let first : take n f ≡ take n b.ahead = sym (take-append-le n f (entries nothing_told xs) within) ∙ ap (take n) all
    ∙ take-append-le n b.ahead rp.pending.held few in
    record {
      keep = drop n f;
      gone = [];
      ahead = drop n b.ahead;
      held = sym (append-nil (drop n f));
      going = refl;
      done = b.done ∙ ap (λ l. rw.done ++ l) (sym (take-append-drop n b.ahead)) ∙ sym (append_assoc rw.done (take n b.ahead) (drop n b.ahead))
          ∙ ap (λ l. (rw.done ++ l) ++ drop n b.ahead) (sym first);
      due = length-drop n b.ahead ∙ ap (λ m. m - n) b.due ∙ ap (λ m. c - m) same;
      all = sym (drop-append-le n f (entries nothing_told xs) within) ∙ ap (drop n) all ∙ drop-append-le n b.ahead rp.pending.held few;
      pre = b.pre ∙ sym (pends_none xs);
      informed = b.informed;
      many = omega (arith, length-drop n f, size, same);
      room = omega (arith, b.room);
      fits = b.fits;
    }
