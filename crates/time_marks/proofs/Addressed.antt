-- Where the number of each P0 element stands before it as an address, those that are committed have their marks as addresses.
use Rattle.std.proofs.Common.{◌≡◌, ℕ, zero, suc, ◌+◌, ◌-◌, Bool, true, false, if◌then◌else◌, List, [], ◌∷◌, ◌++◌, length, take, drop, map, replicate}
use Rattle.std.proofs.Common.{Option, Some, None, Result, Ok, Err, refl, ap, sym, ◌∙◌, subst, append-nil, length-append, arith}
use Rattle.std.specs.Prelude.{nat_le, not, ◌==◌}
use Rattle.std.specs.Option.{option_map}
use Rattle.std.proofs.Math.Seq.{drop-append_seam, take-append_seam}
use Rattle.std.proofs.lemmas.List.{drop-map, length-map, map-append, take-append-drop, take-map}
use Rattle.element_queue.specs.Counting.{entries, made_by}
use Rattle.element_queue.specs.Pending.{Gone, Pending, Taken, cancels, commits, flip_entry, flip_newest, flip_thing, flips, loses, pre_of, taken, tells}
use Rattle.element_queue.specs.Resolved.{Resolved, resolve_all, then_resolve, unresolved, with_done}
use Rattle.etm_types.specs.Pre.{nothing_told}
use Rattle.etm_types.specs.declared.element.Elem.{Elem}
use Rattle.etm_types.specs.declared.element.Elem.TheVariants as elem
use Rattle.etm_types.specs.declared.element.P0.{P0}
use Rattle.etm_types.specs.declared.element.P0.TheVariants.{Atom, Exc}
use Rattle.etm_types.specs.declared.element.Pre.{Pre}
use Rattle.etm_types.specs.declared.element.Thing.{Thing}
use Rattle.etm_types.specs.declared.element.Thing.TheVariants.{Gap, Seen, Stop, Unseen}
use Rattle.etm_types.specs.declared.queue_fault.QueueFault.{QueueFault}
use Rattle.etm_types.specs.declared.queue_fault.QueueFault.TheVariants.{CancelOverrun, CommitOverrun, NoAtomToFlip}
use Rattle.time_marks.specs.MarkLaws.{addresses, after_numbered, with_numbers}
use Rattle.time_marks.specs.Stamps.{Stamp}
use Rattle.time_marks.specs.Times.{Times, mark_of, marks_left, marks_out, marks_with, no_times, taken_so}

-- ---- addresses

addresses-append : (xs ys : List Thing) → addresses (xs ++ ys) ≡ addresses xs ++ addresses ys
addresses-append [] ys = refl
addresses-append (Seen e ∷ xs) ys = ap (λ (l : List (Option ℕ)). (e.pre).addr ∷ l) (addresses-append xs ys)
addresses-append (Unseen ∷ xs) ys = addresses-append xs ys
addresses-append (Gap ∷ xs) ys = addresses-append xs ys
addresses-append (Stop ∷ xs) ys = addresses-append xs ys

as_many : (xs : List Thing) → length (addresses xs) ≡ entries xs
as_many [] = refl
as_many (Seen e ∷ xs) = ap suc (as_many xs)
as_many (Unseen ∷ xs) = as_many xs
as_many (Gap ∷ xs) = as_many xs
as_many (Stop ∷ xs) = as_many xs

none_unseen : (n : ℕ) → addresses (replicate n Unseen) ≡ []
none_unseen zero = refl
none_unseen (suc n) = none_unseen n

parts_of : (n : ℕ) (xs : List Thing) → addresses xs ≡ addresses (take n xs) ++ addresses (drop n xs)
parts_of n xs = ap addresses (sym (take-append-drop n xs)) ∙ addresses-append (take n xs) (drop n xs)

-- a flip leaves them
abbrev Keeps : List Thing → Option (List Thing) → Type 0
Keeps xs flipped = (after : List Thing) → flipped ≡ Some after → addresses after ≡ addresses xs

keeps_entry : (pre : Pre) (p0 : P0) → Keeps (Seen (record { pre = pre; p0 = p0 }) ∷ []) (option_map (λ (f : Thing). f ∷ []) (flip_entry pre p0))
keeps_entry pre (Atom t) after is = let e : Seen (record { pre = pre; p0 = Atom (not t) }) ∷ [] ≡ after = cc in ap addresses (sym e)
keeps_entry pre (Exc kind ret) after is = absurd cc

keeps_thing : (thing : Thing) → Keeps (thing ∷ []) (option_map (λ (f : Thing). f ∷ []) (flip_thing thing))
keeps_thing (Seen entry) after is = keeps_entry entry.pre entry.p0 after is
keeps_thing Unseen after is = let e : Unseen ∷ [] ≡ after = cc in ap addresses (sym e)
keeps_thing Gap after is = absurd cc
keeps_thing Stop after is = absurd cc

keeps_behind : (thing : Thing) (xs : List Thing) (flipped : Option (List Thing)) → Keeps xs flipped
    → Keeps (thing ∷ xs) (option_map (λ (f : List Thing). thing ∷ f) flipped)
keeps_behind thing xs None keeps after is = absurd cc
keeps_behind thing xs (Some ys) keeps after is =
    let e : thing ∷ ys ≡ after = cc in
    ap addresses (sym e) ∙ addresses-append (thing ∷ []) ys ∙ ap (λ (l : List (Option ℕ)). addresses (thing ∷ []) ++ l) (keeps ys refl)
    ∙ sym (addresses-append (thing ∷ []) xs)

keeps_newest : (xs : List Thing) → Keeps xs (flip_newest xs)
keeps_newest [] after is = absurd cc
keeps_newest (thing ∷ []) after is = keeps_thing thing after is
keeps_newest (thing ∷ next ∷ xs) after is = keeps_behind thing (next ∷ xs) (flip_newest (next ∷ xs)) (keeps_newest (next ∷ xs)) after is

-- ---- what is held and made is committed, stays, or goes, in this order

abbrev made : Pending → Elem → List Thing
made p (elem.P0 p0) = Seen (record { pre = p.pre; p0 = p0 }) ∷ []
made p e = []

record PartsOf (all : List (Option ℕ)) (p : Pending) (g : Gone) : Type 0 where
  gone : List (Option ℕ)
  parts : all ≡ addresses g.committed ++ (addresses p.held ++ gone)
  size : length gone ≡ entries g.cancelled + entries g.lost

abbrev Parts : List Thing → Taken → Type 0
Parts all (Ok x) = PartsOf (addresses all) x.0 x.1
Parts all (Err f) = Unit {0}

parts_if : (b : Bool) (all : List Thing) (one other : Taken) → Parts all one → Parts all other → Parts all (if b then one else other)
parts_if true all one other is also = is
parts_if false all one other is also = also

tells_parts : (p : Pending) (pre : Pre) → Parts (p.held ++ []) (tells p pre)
tells_parts p pre = record { gone = []; parts = addresses-append p.held []; size = refl }

commits_parts : (p : Pending) (pre : Pre) (all : List Thing) (n : ℕ) → Parts all (commits p pre all n)
commits_parts p pre all n =
    record {
      gone = [];
      parts = parts_of n all ∙ ap (λ (l : List (Option ℕ)). addresses (take n all) ++ l) (sym (append-nil (addresses (drop n all))));
      size = refl;
    }

-- of no P0 element
bare_parts : (all : List Thing) (outcome : Taken) → Parts all outcome → Parts (all ++ []) outcome
bare_parts all outcome is = subst (λ (l : List Thing). Parts l outcome) (sym (append-nil all)) is

cancels_parts : (p : Pending) (n : ℕ) → Parts p.held (cancels p n)
cancels_parts p n =
    let k = length p.held - n in
    record { gone = addresses (drop k p.held); parts = parts_of k p.held; size = omega (arith, as_many (drop k p.held)) }

first_parts : (p : Pending) (pre : Pre) (spec : ℕ) → Parts (p.held ++ [])
    (Ok (record { held = p.held ++ replicate spec Unseen; pre = pre; informed = true }, record { committed = []; cancelled = []; lost = [] }))
first_parts p pre spec =
    record {
      gone = [];
      parts = addresses-append p.held []
          ∙ ap (λ (l : List (Option ℕ)). l ++ []) (sym (addresses-append p.held (replicate spec Unseen)
          ∙ ap (λ (l : List (Option ℕ)). addresses p.held ++ l) (none_unseen spec) ∙ append-nil (addresses p.held)));
      size = refl;
    }

flips_parts : (p : Pending) (flipped : Option (List Thing)) → Keeps p.held flipped → Parts p.held (flips p flipped)
flips_parts p None keeps = tt
flips_parts p (Some held) keeps = record { gone = []; parts = sym (append-nil (addresses held) ∙ keeps held refl); size = refl }

loses_parts : (p : Pending) (mark : Thing) → addresses (mark ∷ []) ≡ [] → Parts p.held (loses p mark)
loses_parts p mark none =
    record { gone = addresses p.held; parts = ap (λ (l : List (Option ℕ)). l ++ addresses p.held) (sym none); size = omega (arith, as_many p.held) }

parts : (depth : ℕ) (p : Pending) (e : Elem) → Parts (p.held ++ made p e) (taken depth p e)
parts depth p (elem.Info spec) =
    parts_if p.informed (p.held ++ []) _ _ (tells_parts p (record (p.pre) { flush = true }))
    (parts_if (nat_le spec depth) (p.held ++ []) _ _ (first_parts p (record (p.pre) { flush = true }) spec) tt)
parts depth p elem.On = tells_parts p (record (p.pre) { on = true; addr = None })
parts depth p (elem.Ctx ctx) = tells_parts p (record (p.pre) { ctx = Some ctx })
parts depth p (elem.Addr addr) = tells_parts p (record (p.pre) { addr = Some addr })
parts depth p (elem.P0 p0) = let all = p.held ++ made p (elem.P0 p0) in commits_parts p nothing_told all (length all - depth)
parts depth p (elem.Commit n) =
    parts_if (nat_le n (length p.held)) (p.held ++ []) _ _ (bare_parts p.held (commits p p.pre p.held n) (commits_parts p p.pre p.held n)) tt
parts depth p (elem.Cancel n) =
    parts_if (n == 0) (p.held ++ []) _ _ (tells_parts p p.pre)
    (parts_if (nat_le n (length p.held)) (p.held ++ []) _ _ (bare_parts p.held (cancels p n) (cancels_parts p n)) tt)
parts depth p elem.Flip = bare_parts p.held (flips p (flip_newest p.held)) (flips_parts p (flip_newest p.held) (keeps_newest p.held))
parts depth p elem.Overflow = bare_parts p.held (loses p Gap) (loses_parts p Gap refl)
parts depth p elem.Discard = bare_parts p.held (loses p Stop) (loses_parts p Stop refl)

-- ---- what was told before P0 elements changes nothing else

abbrev bare : Thing → Thing
bare (Seen entry) = Seen (record { pre = nothing_told; p0 = entry.p0 })
bare thing = thing

abbrev bares : List Thing → List Thing
bares things = map bare things

abbrev bare_of : Pending → Pending
bare_of p = record { held = bares p.held; pre = nothing_told; informed = p.informed }

-- what is held, whether a trace info came, what is committed, and how many that were seen go otherwise
abbrev Outcome : Type 0
Outcome = Result (List Thing × Bool × List Thing × ℕ) QueueFault

abbrev bared : Taken → Outcome
bared (Ok x) = Ok (bares (x.0).held, (x.0).informed, bares (x.1).committed, entries (x.1).cancelled + entries (x.1).lost)
bared (Err f) = Err f

twice : (xs : List Thing) → bares (bares xs) ≡ bares xs
twice [] = refl
twice (Seen e ∷ xs) = ap (λ (l : List Thing). Seen (record { pre = nothing_told; p0 = e.p0 }) ∷ l) (twice xs)
twice (Unseen ∷ xs) = ap (λ (l : List Thing). Unseen ∷ l) (twice xs)
twice (Gap ∷ xs) = ap (λ (l : List Thing). Gap ∷ l) (twice xs)
twice (Stop ∷ xs) = ap (λ (l : List Thing). Stop ∷ l) (twice xs)

bare_entries : (xs : List Thing) → entries (bares xs) ≡ entries xs
bare_entries [] = refl
bare_entries (Seen e ∷ xs) = ap suc (bare_entries xs)
bare_entries (Unseen ∷ xs) = bare_entries xs
bare_entries (Gap ∷ xs) = bare_entries xs
bare_entries (Stop ∷ xs) = bare_entries xs

module _ (xs ys : List Thing) (same : bares xs ≡ bares ys) where
  same_size : length xs ≡ length ys
  same_size = sym (length-map xs bare) ∙ ap length same ∙ length-map ys bare

  same_entries : entries xs ≡ entries ys
  same_entries = sym (bare_entries xs) ∙ ap entries same ∙ bare_entries ys

  same_first : (k : ℕ) → bares (take k xs) ≡ bares (take k ys)
  same_first k = sym (take-map bare k xs) ∙ ap (λ (l : List Thing). take k l) same ∙ take-map bare k ys

  same_others : (k : ℕ) → bares (drop k xs) ≡ bares (drop k ys)
  same_others k = sym (drop-map bare k xs) ∙ ap (λ (l : List Thing). drop k l) same ∙ drop-map bare k ys

-- two that differ but in what was told
record Alike (p q : Pending) : Type 0 where
  held : bares p.held ≡ bares q.held
  informed : p.informed ≡ q.informed

outcome : (held held' : List Thing) (b b' : Bool) (out out' : List Thing) (n n' : ℕ) → held ≡ held' → b ≡ b' → out ≡ out' → n ≡ n'
    → ◌≡◌ {A = Outcome} (Ok (held, b, out, n)) (Ok (held', b', out', n'))
outcome held held' b b' out out' n n' one two three four =
    ap (λ (l : List Thing). Ok (l, b, out, n)) one ∙ ap (λ (x : Bool). Ok (held', x, out, n)) two ∙ ap (λ (l : List Thing). Ok (held', b', l, n)) three
    ∙ ap (λ (k : ℕ). Ok (held', b', out', k)) four

module _ (p q : Pending) (is : Alike p q) where
  abbrev Same : Taken → Taken → Type 0
  Same one other = bared one ≡ bared other

  same_if : (b c : Bool) (one other one' other' : Taken) → b ≡ c → Same one one' → Same other other'
      → Same (if b then one else other) (if c then one' else other')
  same_if b c one other one' other' is first second = subst (λ (x : Bool). Same (if b then one else other) (if x then one' else other')) is (by b)
    where
      by : (x : Bool) → Same (if x then one else other) (if x then one' else other')
      by true = first
      by false = second

  tells_same : (pre pre' : Pre) → Same (tells p pre) (tells q pre')
  tells_same pre pre' = outcome (bares p.held) (bares q.held) p.informed q.informed [] [] 0 0 is.held is.informed refl refl

  commits_same : (pre pre' : Pre) (all all' : List Thing) (n n' : ℕ) → bares all ≡ bares all' → n ≡ n' → Same (commits p pre all n) (commits q pre' all' n')
  commits_same pre pre' all all' n n' same number =
      outcome (bares (drop n all)) (bares (drop n all')) p.informed q.informed (bares (take n all)) (bares (take n all')) 0 0
      (same_others all all' same n) is.informed (same_first all all' same n) refl
      ∙ ap (λ (k : ℕ). bared (commits q pre' all' k)) number

  size : length p.held ≡ length q.held
  size = same_size p.held q.held is.held

  cancels_same : (n : ℕ) → Same (cancels p n) (cancels q n)
  cancels_same n =
      let k = length p.held - n in
      let at : ℕ → Taken = λ j. Ok (
        record q { held = take (j - n) q.held; pre = pre_of (drop (j - n) q.held) },
        record { committed = []; cancelled = drop (j - n) q.held; lost = [] },
      ) in
      outcome (bares (take k p.held)) (bares (take k q.held)) p.informed q.informed [] [] (entries (drop k p.held) + 0) (entries (drop k q.held) + 0)
      (same_first p.held q.held is.held k) is.informed refl
      (ap (λ (j : ℕ). j + 0) (same_entries (drop k p.held) (drop k q.held) (same_others p.held q.held is.held k)))
      ∙ ap (λ (j : ℕ). bared (at j)) size

  first_same : (pre pre' : Pre) (spec : ℕ)
      → Same (Ok (record { held = p.held ++ replicate spec Unseen; pre = pre; informed = true }, record { committed = []; cancelled = []; lost = [] }))
      (Ok (record { held = q.held ++ replicate spec Unseen; pre = pre'; informed = true }, record { committed = []; cancelled = []; lost = [] }))
  first_same pre pre' spec =
      let all = replicate spec Unseen in
      outcome (bares (p.held ++ all)) (bares (q.held ++ all)) true true [] [] 0 0
      (map-append bare p.held all ∙ ap (λ (l : List Thing). l ++ bares all) is.held ∙ sym (map-append bare q.held all)) refl refl refl

  loses_same : (mark : Thing) → Same (loses p mark) (loses q mark)
  loses_same mark =
      outcome [] [] p.informed q.informed (bares (mark ∷ [])) (bares (mark ∷ [])) (0 + entries p.held) (0 + entries q.held) refl is.informed refl
      (ap (λ (k : ℕ). 0 + k) (same_entries p.held q.held is.held))

-- a flip of what is bare
flip_bare_entry : (pre : Pre) (p0 : P0) → flip_entry nothing_told p0 ≡ option_map bare (flip_entry pre p0)
flip_bare_entry pre (Atom t) = refl
flip_bare_entry pre (Exc kind ret) = refl

flip_bare_thing : (thing : Thing) → flip_thing (bare thing) ≡ option_map bare (flip_thing thing)
flip_bare_thing (Seen entry) = flip_bare_entry entry.pre entry.p0
flip_bare_thing Unseen = refl
flip_bare_thing Gap = refl
flip_bare_thing Stop = refl

flip_bare : (xs : List Thing) → flip_newest (bares xs) ≡ option_map bares (flip_newest xs)
flip_bare [] = refl
flip_bare (thing ∷ []) = ap (option_map (λ (f : Thing). f ∷ [])) (flip_bare_thing thing) ∙ by (flip_thing thing)
  where
    by : (flipped : Option Thing) → option_map (λ (f : Thing). f ∷ []) (option_map bare flipped) ≡ option_map bares (option_map (λ (f : Thing). f ∷ []) flipped)
    by None = refl
    by (Some f) = refl
flip_bare (thing ∷ next ∷ xs) =
    ap (option_map (λ (f : List Thing). bare thing ∷ f)) (flip_bare (next ∷ xs)) ∙ by (flip_newest (next ∷ xs))
  where
    by : (flipped : Option (List Thing)) → option_map (λ (f : List Thing). bare thing ∷ f) (option_map bares flipped)
        ≡ option_map bares (option_map (λ (f : List Thing). thing ∷ f) flipped)
    by None = refl
    by (Some f) = refl

module _ (p q : Pending) (is : Alike p q) where
  flips_same : (one other : Option (List Thing)) → option_map bares one ≡ option_map bares other → bared (flips p one) ≡ bared (flips q other)
  flips_same None None same = ap (λ (k : ℕ). Err (NoAtomToFlip k)) (size p q is)
  flips_same None (Some ys) same = absurd cc
  flips_same (Some xs) None same = absurd cc
  flips_same (Some xs) (Some ys) same =
      let held : bares xs ≡ bares ys = cc in outcome (bares xs) (bares ys) p.informed q.informed [] [] 0 0 held is.informed refl refl

  same_flips : option_map bares (flip_newest p.held) ≡ option_map bares (flip_newest q.held)
  same_flips = sym (flip_bare p.held) ∙ ap flip_newest is.held ∙ flip_bare q.held

  taken_same : (depth : ℕ) (e : Elem) → bared (taken depth p e) ≡ bared (taken depth q e)
  taken_same depth (elem.Info spec) =
      same_if p q is p.informed q.informed _ _ _ _ is.informed (tells_same p q is (record (p.pre) { flush = true }) (record (q.pre) { flush = true }))
      (same_if p q is (nat_le spec depth) (nat_le spec depth) _ _ _ _ refl
      (first_same p q is (record (p.pre) { flush = true }) (record (q.pre) { flush = true }) spec) refl)
  taken_same depth elem.On = tells_same p q is (record (p.pre) { on = true; addr = None }) (record (q.pre) { on = true; addr = None })
  taken_same depth (elem.Ctx ctx) = tells_same p q is (record (p.pre) { ctx = Some ctx }) (record (q.pre) { ctx = Some ctx })
  taken_same depth (elem.Addr addr) = tells_same p q is (record (p.pre) { addr = Some addr }) (record (q.pre) { addr = Some addr })
  taken_same depth (elem.P0 p0) =
      let all = p.held ++ made p (elem.P0 p0) in let all' = q.held ++ made q (elem.P0 p0) in
      let same : bares all ≡ bares all' =
      map-append bare p.held (made p (elem.P0 p0)) ∙ ap (λ (l : List Thing). l ++ Seen (record { pre = nothing_told; p0 = p0 }) ∷ []) is.held
      ∙ sym (map-append bare q.held (made q (elem.P0 p0))) in
      commits_same p q is nothing_told nothing_told all all' (length all - depth) (length all' - depth) same
      (ap (λ (k : ℕ). k - depth) (same_size all all' same))
  taken_same depth (elem.Commit n) =
      same_if p q is (nat_le n (length p.held)) (nat_le n (length q.held)) _ _ _ _ (ap (λ (k : ℕ). nat_le n k) (size p q is))
      (commits_same p q is p.pre q.pre p.held q.held n n is.held refl) (ap (λ (k : ℕ). Err (CommitOverrun n k)) (size p q is))
  taken_same depth (elem.Cancel n) =
      same_if p q is (n == 0) (n == 0) _ _ _ _ refl (tells_same p q is p.pre q.pre)
      (same_if p q is (nat_le n (length p.held)) (nat_le n (length q.held)) _ _ _ _ (ap (λ (k : ℕ). nat_le n k) (size p q is))
      (cancels_same p q is n) (ap (λ (k : ℕ). Err (CancelOverrun n k)) (size p q is)))
  taken_same depth elem.Flip = flips_same (flip_newest p.held) (flip_newest q.held) same_flips
  taken_same depth elem.Overflow = loses_same p q is Gap
  taken_same depth elem.Discard = loses_same p q is Stop

-- ---- one element more

-- beside the times with numbers for timestamps
record Beside (r : Resolved) (u : Times) : Type 0 where
  alike : Alike r.pending u.pending
  done : addresses r.done ≡ u.done
  held : addresses (r.pending).held ≡ u.held

abbrev held_in : Outcome → List Thing
held_in (Ok x) = x.0
held_in (Err f) = []

abbrev informed_in : Outcome → Bool
informed_in (Ok x) = x.1
informed_in (Err f) = false

abbrev done_in : Outcome → List Thing
done_in (Ok x) = x.2
done_in (Err f) = []

abbrev gone_in : Outcome → ℕ
gone_in (Ok x) = x.3
gone_in (Err f) = 0

module _ (n : ℕ) (r : Resolved) (u : Times) (is : Beside r u) (e : Elem) (tag : addresses (made r.pending e) ≡ mark_of (Some n) e)
    (x y : Pending × Gone) (parted : PartsOf (addresses ((r.pending).held ++ made r.pending e)) x.0 x.1) (same : bared (Ok x) ≡ bared (Ok y)) where
  abbrev now : Times
  now = record u { stamp = Some n }

  abbrev a : List Stamp
  a = addresses (x.1).committed

  abbrev b : List Stamp
  b = addresses (x.0).held

  all_marks : marks_with now e ≡ a ++ (b ++ parted.gone)
  all_marks =
      ap (λ (l : List Stamp). l ++ mark_of (Some n) e) (sym is.held) ∙ ap (λ (l : List Stamp). addresses (r.pending).held ++ l) (sym tag)
      ∙ sym (addresses-append (r.pending).held (made r.pending e)) ∙ parted.parts

  first_size : entries (y.1).committed ≡ length a
  first_size = sym (same_entries (x.1).committed (y.1).committed (ap done_in same)) ∙ sym (as_many (x.1).committed)

  out_is : marks_out y.1 (marks_with now e) ≡ a
  out_is = ap (λ (k : ℕ). take k (marks_with now e)) first_size ∙ ap (λ (l : List Stamp). take (length a) l) all_marks ∙ take-append_seam a (b ++ parted.gone)

  left_is : marks_left y.1 (marks_with now e) ≡ b
  left_is =
      let behind : drop (entries (y.1).committed) (marks_with now e) ≡ b ++ parted.gone =
      ap (λ (k : ℕ). drop k (marks_with now e)) first_size ∙ ap (λ (l : List Stamp). drop (length a) l) all_marks ∙ drop-append_seam a (b ++ parted.gone) in
      let others : entries (y.1).cancelled + entries (y.1).lost ≡ length parted.gone = sym (parted.size ∙ ap gone_in same) in
      let size : length (b ++ parted.gone) - (entries (y.1).cancelled + entries (y.1).lost) ≡ length b =
      omega (arith, length-append b parted.gone, others) in
      ap (λ (l : List Stamp). take (length l - (entries (y.1).cancelled + entries (y.1).lost)) l) behind
      ∙ ap (λ (k : ℕ). take k (b ++ parted.gone)) size ∙ take-append_seam b parted.gone

  one_more : Beside (record { done = r.done ++ (x.1).committed; pending = x.0 }) (taken_so 0 now e (Ok y))
  one_more =
      record {
        alike = record { held = ap held_in same; informed = ap informed_in same };
        done = addresses-append r.done (x.1).committed ∙ ap (λ (l : List Stamp). l ++ a) is.done ∙ ap (λ (l : List Stamp). u.done ++ l) (sym out_is);
        held = sym left_is;
      }

-- ---- all elements

abbrev with_number : ℕ → Elem → List Elem
with_number n (elem.P0 p0) = elem.Addr n ∷ elem.P0 p0 ∷ []
with_number n e = e ∷ []

numbers_first : (n : ℕ) (e : Elem) (es : List Elem) → with_numbers n (e ∷ es) ≡ with_number n e ++ with_numbers (n + made_by e) es
numbers_first n e es = by e
  where
    none : (x : Elem) → x ∷ with_numbers n es ≡ x ∷ with_numbers (n + 0) es
    none x = ap (λ (k : ℕ). x ∷ with_numbers k es) (omega arith)

    by : (x : Elem) → with_numbers n (x ∷ es) ≡ with_number n x ++ with_numbers (n + made_by x) es
    by (elem.P0 p0) = refl
    by (elem.Info spec) = none (elem.Info spec)
    by elem.On = none elem.On
    by (elem.Ctx ctx) = none (elem.Ctx ctx)
    by (elem.Addr addr) = none (elem.Addr addr)
    by (elem.Commit k) = none (elem.Commit k)
    by (elem.Cancel k) = none (elem.Cancel k)
    by elem.Flip = none elem.Flip
    by elem.Overflow = none elem.Overflow
    by elem.Discard = none elem.Discard

-- once the number of a P0 element stands before it
abbrev told : Resolved → ℕ → Elem → Resolved
told r n (elem.P0 p0) = record { done = r.done ++ []; pending = record (r.pending) { pre = record ((r.pending).pre) { addr = Some n } } }
told r n e = r

told_beside : (r : Resolved) (u : Times) (n : ℕ) (e : Elem) → Beside r u → Beside (told r n e) u
told_beside r u n (elem.P0 p0) is =
    record {
      alike = record { held = (is.alike).held; informed = (is.alike).informed };
      done = ap addresses (append-nil r.done) ∙ is.done;
      held = is.held;
    }
told_beside r u n (elem.Info spec) is = is
told_beside r u n elem.On is = is
told_beside r u n (elem.Ctx ctx) is = is
told_beside r u n (elem.Addr addr) is = is
told_beside r u n (elem.Commit k) is = is
told_beside r u n (elem.Cancel k) is = is
told_beside r u n elem.Flip is = is
told_beside r u n elem.Overflow is = is
told_beside r u n elem.Discard is = is

tagged : (r : Resolved) (n : ℕ) (e : Elem) → addresses (made (told r n e).pending e) ≡ mark_of (Some n) e
tagged r n (elem.P0 p0) = refl
tagged r n (elem.Info spec) = refl
tagged r n elem.On = refl
tagged r n (elem.Ctx ctx) = refl
tagged r n (elem.Addr addr) = refl
tagged r n (elem.Commit k) = refl
tagged r n (elem.Cancel k) = refl
tagged r n elem.Flip = refl
tagged r n elem.Overflow = refl
tagged r n elem.Discard = refl

told_first : (depth : ℕ) (r : Resolved) (n : ℕ) (e : Elem) (more : List Elem)
    → resolve_all depth r (with_number n e ++ more) ≡ resolve_all depth (told r n e) (e ∷ more)
told_first depth r n (elem.P0 p0) more = refl
told_first depth r n (elem.Info spec) more = refl
told_first depth r n elem.On more = refl
told_first depth r n (elem.Ctx ctx) more = refl
told_first depth r n (elem.Addr addr) more = refl
told_first depth r n (elem.Commit k) more = refl
told_first depth r n (elem.Cancel k) more = refl
told_first depth r n elem.Flip more = refl
told_first depth r n elem.Overflow more = refl
told_first depth r n elem.Discard more = refl

-- what they commit has these addresses
abbrev Commits : ℕ → Resolved → List Elem → List Stamp → Type 0
Commits depth r elements marks = (out : Resolved) × (resolve_all depth r elements ≡ Ok out) × (addresses out.done ≡ marks)

abbrev Later : ℕ → ℕ → List Elem → Resolved → Type 0
Later depth n es after =
    (plain r : Resolved) (u : Times) → u.pending ≡ plain.pending → Beside r u → resolve_all depth plain es ≡ Ok after
    → Commits depth r (with_numbers n es) (after_numbered depth n u es).done

step_told : (depth n : ℕ) (plain r : Resolved) (u : Times) (e : Elem) (es : List Elem) (after : Resolved) (one other : Taken) → Beside r u
    → addresses (made r.pending e) ≡ mark_of (Some n) e → Parts ((r.pending).held ++ made r.pending e) one → bared one ≡ bared other
    → Later depth (n + made_by e) es after → then_resolve (with_done plain.done other) (λ next. resolve_all depth next es) ≡ Ok after
    → (out : Resolved) × (then_resolve (with_done r.done one) (λ next. resolve_all depth next (with_numbers (n + made_by e) es)) ≡ Ok out)
    × (addresses out.done ≡ (after_numbered depth (n + made_by e) (taken_so 0 (record u { stamp = Some n }) e other) es).done)
step_told depth n plain r u e es after (Ok x) (Ok y) is tag parted same later ok =
    later (record { done = plain.done ++ (y.1).committed; pending = y.0 }) (record { done = r.done ++ (x.1).committed; pending = x.0 })
    (taken_so 0 (record u { stamp = Some n }) e (Ok y)) refl (one_more n r u is e tag x y parted same) ok
step_told depth n plain r u e es after (Err f) (Ok y) is tag parted same later ok = absurd cc
step_told depth n plain r u e es after one (Err f) is tag parted same later ok = absurd cc

told_all : (depth n : ℕ) (es : List Elem) (after : Resolved) → Later depth n es after
told_all depth n [] after plain r u pending is ok = (r, refl, is.done)
told_all depth n (e ∷ es) after plain r u pending is ok =
    let now = told r n e in let beside = told_beside r u n e is in
    let so = step_told depth n plain now u e es after (taken depth now.pending e) (taken depth u.pending e) beside (tagged r n e)
    (parts depth now.pending e) (taken_same now.pending u.pending beside.alike depth e) (told_all depth (n + made_by e) es after)
    (ap (λ (p : Pending). then_resolve (with_done plain.done (taken depth p e)) (λ next. resolve_all depth next es)) pending ∙ ok) in
    (so.0, ap (resolve_all depth r) (numbers_first n e es) ∙ told_first depth r n e (with_numbers (n + made_by e) es) ∙ so.1, so.2)

pub told_so : (depth : ℕ) (elements : List Elem) (r : Resolved) → resolve_all depth unresolved elements ≡ Ok r
    → Commits depth unresolved (with_numbers 0 elements) (after_numbered depth 0 no_times elements).done
told_so depth elements r ok =
    told_all depth 0 elements r unresolved unresolved no_times refl
    (record { alike = record { held = refl; informed = refl }; done = refl; held = refl }) ok
