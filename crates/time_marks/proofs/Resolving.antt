-- As many marks are held as P0 elements that were seen.
use Rattle.std.proofs.Common.{◌≡◌, ℕ, ◌+◌, ◌-◌, Bool, true, false, if◌then◌else◌, List, [], ◌∷◌, ◌++◌, length, drop, replicate, Option}
use Rattle.std.proofs.Common.{Some, None, Ok, Err}
use Rattle.std.proofs.Common.{refl, arith, length-append, length-drop, length-take}
use Rattle.std.specs.Prelude.{nat_le, ◌==◌}
use Rattle.element_queue.specs.Counting.{entries, made_by}
use Rattle.element_queue.specs.Pending.{Gone, Pending, Taken, cancels, commits, flip_newest, flips, informs, taken, tells}
use Rattle.etm_types.specs.Pre.{nothing_told}
use Rattle.etm_types.specs.declared.element.Elem.{Elem}
use Rattle.etm_types.specs.declared.element.Elem.TheVariants as elem
use Rattle.etm_types.specs.declared.element.Pre.{Pre}
use Rattle.etm_types.specs.declared.element.Thing.{Thing}
use Rattle.etm_types.specs.declared.element.Thing.TheVariants.{Seen, Unseen}
use Rattle.time_marks.proofs.Held.{entries-append, entries_parts, flip_keeps, none_seen}
use Rattle.time_marks.specs.Stamps.{Stamp}
use Rattle.time_marks.specs.Times.{Times, mark_of, marks_with, taken_so}

-- ---- what was seen stays or goes

abbrev pub gone_in : Gone → ℕ
gone_in g = entries g.committed + (entries g.cancelled + entries g.lost)

-- what was seen and made by an element is held, or it went
abbrev pub Conserves : Pending → Elem → Taken → Type 0
Conserves p e (Ok x) = entries (x.0).held + gone_in x.1 ≡ entries p.held + made_by e
Conserves p e (Err f) = Unit {0}

tells_so : (p : Pending) (pre : Pre) (e : Elem) → made_by e ≡ 0 → Conserves p e (tells p pre)
tells_so p pre e none = omega (arith, none)

commits_so : (p : Pending) (pre : Pre) (all : List Thing) (n : ℕ) (e : Elem) → entries all ≡ entries p.held + made_by e → Conserves p e (commits p pre all n)
commits_so p pre all n e whole = omega (arith, whole, entries_parts n all)

cancels_so : (p : Pending) (n : ℕ) → Conserves p (elem.Cancel n) (cancels p n)
cancels_so p n = omega (arith, entries_parts (length p.held - n) p.held)

if_so : (b : Bool) (p : Pending) (e : Elem) (one other : Taken) → Conserves p e one → Conserves p e other → Conserves p e (if b then one else other)
if_so true p e one other is also = is
if_so false p e one other is also = also

informs_so : (depth : ℕ) (p : Pending) (spec : ℕ) → Conserves p (elem.Info spec) (informs depth p spec)
informs_so depth p spec =
    if_so p.informed p (elem.Info spec) _ _ (omega arith)
    (if_so (nat_le spec depth) p (elem.Info spec) _ _ (omega (arith, entries-append p.held (replicate spec Unseen), none_seen spec)) tt)

flips_so : (p : Pending) (flipped : Option (List Thing)) → flip_newest p.held ≡ flipped → Conserves p elem.Flip (flips p flipped)
flips_so p None is = tt
flips_so p (Some held) is = omega (arith, (flip_keeps p.held held is).count)

pub conserves : (depth : ℕ) (p : Pending) (e : Elem) → Conserves p e (taken depth p e)
conserves depth p (elem.Info spec) = informs_so depth p spec
conserves depth p elem.On = omega arith
conserves depth p (elem.Ctx ctx) = omega arith
conserves depth p (elem.Addr addr) = omega arith
conserves depth p (elem.P0 p0) =
    let entry = Seen (record { pre = p.pre; p0 = p0 }) in let all = p.held ++ entry ∷ [] in
    commits_so p nothing_told all (length all - depth) (elem.P0 p0) (entries-append p.held (entry ∷ []))
conserves depth p (elem.Commit n) =
    if_so (nat_le n (length p.held)) p (elem.Commit n) _ _ (commits_so p p.pre p.held n (elem.Commit n) (omega arith)) tt
conserves depth p (elem.Cancel n) =
    if_so (n == 0) p (elem.Cancel n) _ _ (omega arith) (if_so (nat_le n (length p.held)) p (elem.Cancel n) _ _ (cancels_so p n) tt)
conserves depth p elem.Flip = flips_so p (flip_newest p.held) refl
conserves depth p elem.Overflow = omega arith
conserves depth p elem.Discard = omega arith

-- ---- elements

-- there is one mark for each that was seen and is held
abbrev pub OneEach : Times → Type 0
OneEach t = length t.held ≡ entries (t.pending).held

pub marks_made : (stamp : Stamp) (e : Elem) → length (mark_of stamp e) ≡ made_by e
marks_made stamp (elem.P0 p0) = refl
marks_made stamp (elem.Info spec) = refl
marks_made stamp elem.On = refl
marks_made stamp (elem.Ctx ctx) = refl
marks_made stamp (elem.Addr addr) = refl
marks_made stamp (elem.Commit n) = refl
marks_made stamp (elem.Cancel n) = refl
marks_made stamp elem.Flip = refl
marks_made stamp elem.Overflow = refl
marks_made stamp elem.Discard = refl

module _ (at : ℕ) (t : Times) (e : Elem) (each : OneEach t) where
  pub marks_size : length (marks_with t e) ≡ entries (t.pending).held + made_by e
  marks_size = omega (arith, length-append t.held (mark_of t.stamp e), marks_made t.stamp e, each)

  pub each_kept : (outcome : Taken) → Conserves t.pending e outcome → OneEach (taken_so at t e outcome)
  each_kept (Ok x) all =
      let marks = marks_with t e in let behind = drop (entries (x.1).committed) marks in
      omega (
        arith,
        all,
        marks_size,
        length-drop (entries (x.1).committed) marks,
        length-take (length behind - (entries (x.1).cancelled + entries (x.1).lost)) behind,
      )
  each_kept (Err f) all = each
