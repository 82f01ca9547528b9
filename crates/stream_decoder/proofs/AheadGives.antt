-- Packets of atoms, commits, cancels and mispredicts that are taken one after the other lead to what settling does.
use Rattle.std.proofs.Common.{◌≡◌, ℕ, zero, suc, ◌+◌, ◌-◌, ◌%◌, ◌^◌, ◌≤◌, ◌<◌, Bool, false, List, [], ◌∷◌, ◌++◌, length, map, take, drop, Ok}
use Rattle.std.proofs.Common.{refl, sym, ap, subst, ◌∙◌, inl, inr, arith, append-nil, append_assoc, length-append, length-drop}
use Rattle.std.proofs.Math.Nat.{mod-lt}
use Rattle.std.proofs.lemmas.List.{drop_at, length-map, length-take-le, map-append, nil_from_length, take-append-drop, take-take, take_at}
use Rattle.element_queue.proofs.Cancelled.{pre_since, takes_back}
use Rattle.element_queue.proofs.FlippedAtoms.{as_many_flipped, flipped_by_rule}
use Rattle.element_queue.specs.Counting.{AreCounts, Balances, add, counts_after, entries}
use Rattle.element_queue.specs.Outlooks.{Outlook, flip_newest_atom}
use Rattle.element_queue.specs.Pending.{Pending, cancelling, committing, flips, nothing_gone, pre_behind, taken}
use Rattle.element_queue.specs.Queued.{Queued, plain_atom}
use Rattle.element_queue.specs.declared.ledger.Counts.{Counts}
use Rattle.etm_types.specs.Atoms.{atoms_in}
use Rattle.etm_types.specs.Pre.{nothing_told}
use Rattle.etm_types.specs.declared.atoms.AtomRun.{AtomRun}
use Rattle.etm_types.specs.declared.element.Elem.{Elem}
use Rattle.etm_types.specs.declared.element.Elem.TheVariants as elem
use Rattle.etm_types.specs.declared.element.P0.TheVariants.{Atom}
use Rattle.etm_types.specs.declared.element.Pre.{Pre}
use Rattle.etm_types.specs.declared.element.Thing.{Thing}
use Rattle.packet_grammar.specs.declared.packet.Packet.{Packet}
use Rattle.packet_grammar.specs.declared.packet.Packet.TheVariants.{Atoms, Cancel, Commit, Mispredict}
use Rattle.path_elements.specs.Elements.{atoms}
use Rattle.stream_decoder.proofs.Rotating.{gives_many, keeps, length_bits, made_more, waiting_at}
use Rattle.stream_decoder.proofs.Waits.{commits_due}
use Rattle.stream_decoder.specs.Ahead.{GiveOut, GivesOut, Moves, MovesAll, TakesEach, no_atoms, settled_waiting}
use Rattle.stream_decoder.specs.Waiting.{Commits, DropsDue, HoldsAtoms, IsWaiting, Waiting, waiting_of}

-- ---- what packets leave as it is

-- what is committed stays so
pub still_gone : (o o' : Outlook) (p : List ℕ × Packet) → Moves o p o' → (more : List Bool) × (o'.gone ≡ o.gone ++ more)
still_gone o o' p (inl (byte, run, is, spells, whole, room, made)) = ([], ap (λ (x : Outlook). x.gone) made ∙ sym (append-nil o.gone))
still_gone o o' p (inr (inl (n, is, small, nonzero, within, made))) = (take n o.held, ap (λ (x : Outlook). x.gone) made)
still_gone o o' p (inr (inr (inl (n, is, small, some, within, made)))) = ([], ap (λ (x : Outlook). x.gone) made ∙ sym (append-nil o.gone))
still_gone o o' p (inr (inr (inr (is, some, made)))) = ([], ap (λ (x : Outlook). x.gone) made ∙ sym (append-nil o.gone))

pub still_gone_all : (o o' : Outlook) (ps : List (List ℕ × Packet)) → MovesAll o ps o' → (more : List Bool) × (o'.gone ≡ o.gone ++ more)
still_gone_all o o' [] is = ([], ap (λ (x : Outlook). x.gone) is ∙ sym (append-nil o.gone))
still_gone_all o o' (p ∷ ps) (next, one, others) =
    let (a, first) = still_gone o next p one in let (b, rest) = still_gone_all next o' ps others in (
      a ++ b,
      rest ∙ ap (λ (l : List Bool). l ++ b) first ∙ append_assoc o.gone a b,
    )

-- how many were held at first
pub same_before_one : (o o' : Outlook) (p : List ℕ × Packet) → Moves o p o' → o'.before ≡ o.before
same_before_one o o' p (inl (byte, run, is, spells, whole, room, made)) = ap (λ (x : Outlook). x.before) made
same_before_one o o' p (inr (inl (n, is, small, nonzero, within, made))) = ap (λ (x : Outlook). x.before) made
same_before_one o o' p (inr (inr (inl (n, is, small, some, within, made)))) = ap (λ (x : Outlook). x.before) made
same_before_one o o' p (inr (inr (inr (is, some, made)))) = ap (λ (x : Outlook). x.before) made

pub same_before : (o o' : Outlook) (ps : List (List ℕ × Packet)) → MovesAll o ps o' → o'.before ≡ o.before
same_before o o' [] is = ap (λ (x : Outlook). x.before) is
same_before o o' (p ∷ ps) (next, one, others) = same_before next o' ps others ∙ same_before_one o next p one

-- the most that may be held
pub same_depth_one : (o o' : Outlook) (p : List ℕ × Packet) → Moves o p o' → o'.depth ≡ o.depth
same_depth_one o o' p (inl (byte, run, is, spells, whole, room, made)) = ap (λ (x : Outlook). x.depth) made
same_depth_one o o' p (inr (inl (n, is, small, nonzero, within, made))) = ap (λ (x : Outlook). x.depth) made
same_depth_one o o' p (inr (inr (inl (n, is, small, some, within, made)))) = ap (λ (x : Outlook). x.depth) made
same_depth_one o o' p (inr (inr (inr (is, some, made)))) = ap (λ (x : Outlook). x.depth) made

pub same_depth : (o o' : Outlook) (ps : List (List ℕ × Packet)) → MovesAll o ps o' → o'.depth ≡ o.depth
same_depth o o' [] is = ap (λ (x : Outlook). x.depth) is
same_depth o o' (p ∷ ps) (next, one, others) = same_depth next o' ps others ∙ same_depth_one o next p one

-- ---- how many are held

-- one packet commits what it holds no more
few_by_one : (o o' : Outlook) (p : List ℕ × Packet) → Moves o p o' → length o.held ≤ o.depth
    → (length o'.held ≤ o'.depth) × (length o'.gone + length o'.held ≤ length o.gone + o.depth)
few_by_one o o' p (inl (byte, run, is, spells, whole, room, made)) few =
    let held : length o'.held ≡ length o.held + run.count =
    ap (λ (x : Outlook). length x.held) made ∙ length-append o.held (atoms_in run) ∙ ap (λ (n : ℕ). length o.held + n) (length_bits run.count run.bits) in
    let gone : length o'.gone ≡ length o.gone = ap (λ (x : Outlook). length x.gone) made in
    let depth : o'.depth ≡ o.depth = ap (λ (x : Outlook). x.depth) made in (omega (arith, room.0), omega (arith, room.0))
few_by_one o o' p (inr (inl (n, is, small, nonzero, within, made))) few =
    let held : length o'.held ≡ length o.held - n = ap (λ (x : Outlook). length x.held) made ∙ length-drop n o.held in
    let gone : length o'.gone ≡ length o.gone + n =
    ap (λ (x : Outlook). length x.gone) made ∙ length-append o.gone (take n o.held) ∙ ap (λ (m : ℕ). length o.gone + m) (length-take-le n o.held within) in
    let depth : o'.depth ≡ o.depth = ap (λ (x : Outlook). x.depth) made in (omega arith, omega arith)
few_by_one o o' p (inr (inr (inl (n, is, small, some, within, made)))) few =
    let held : length o'.held ≡ length o.held - n =
    ap (λ (x : Outlook). length x.held) made ∙ length-take-le (length o.held - n) o.held (omega arith) in
    let gone : length o'.gone ≡ length o.gone = ap (λ (x : Outlook). length x.gone) made in
    let depth : o'.depth ≡ o.depth = ap (λ (x : Outlook). x.depth) made in (omega arith, omega arith)
few_by_one o o' p (inr (inr (inr (is, some, made)))) few =
    let held : length o'.held ≡ length o.held = ap (λ (x : Outlook). length x.held) made ∙ as_many_flipped o.held in
    let gone : length o'.gone ≡ length o.gone = ap (λ (x : Outlook). length x.gone) made in
    let depth : o'.depth ≡ o.depth = ap (λ (x : Outlook). x.depth) made in (omega arith, omega arith)

pub few_held : (o o' : Outlook) (ps : List (List ℕ × Packet)) → MovesAll o ps o' → length o.held ≤ o.depth → length o'.held ≤ o'.depth
few_held o o' [] is few = subst (λ (x : Outlook). length x.held ≤ x.depth) (sym is) few
few_held o o' (p ∷ ps) (next, one, others) few = few_held next o' ps others ((few_by_one o next p one few).0)

-- those that are due then and those that are held are no more than may be held
pub few_settled : (o o' before : Outlook) (w : Waiting) (first : List (List ℕ × Packet)) (last : List ℕ × Packet) (n : ℕ)
    → map plain_atom o.held ≡ (w.pending).held → o.depth ≡ w.depth → IsWaiting w → MovesAll o first before → Moves before last o'
    → length before.gone ≤ n → length o'.gone + length o'.held ≤ n + w.depth
few_settled o o' before w first last n held depth waits moves ends over =
    let fits : length o.held ≤ o.depth =
    omega (arith, waits.few, depth, ap length held, length-map o.held plain_atom, length-append w.due (w.pending).held) in
    let few = (few_by_one before o' last ends (few_held o before first moves fits)).1 in
    let same : before.depth ≡ w.depth = same_depth o before first moves ∙ depth in omega (arith, few, same, over)

-- ---- what holds on the way

each_waits : (w w' : Waiting) (es : List Elem) → TakesEach w es w' → IsWaiting w → IsWaiting w'
each_waits w w' [] is waits = subst IsWaiting (sym is) waits
each_waits w w' (e ∷ es) (next, none, commits, waits', more) waits = each_waits next w' es more waits'

drops_wait : (w w' : Waiting) (n : ℕ) → DropsDue w n w' → IsWaiting w → IsWaiting w'
drops_wait w w' zero is waits = subst IsWaiting (sym is) waits
drops_wait w w' (suc n) (thing, others, next, one, more) waits = drops_wait next w' n more one.2

pub gives_waits : (w w' : Waiting) (packet : Packet) (gone : List Bool) → GivesOut w packet gone w' → IsWaiting w'
gives_waits w w' packet gone gives = drops_wait gives.mid w' (length gone) gives.drops gives.holds

-- atoms that are held are taken one after the other
holds_each : (w w' : Waiting) (run : List Bool) (elements : List Elem) → elements ≡ atoms run → w.due ≡ []
    → HoldsAtoms w elements (length run) w' [] → TakesEach w (atoms run) w'
holds_each w w' [] elements same none (is, left) = is
holds_each w w' (t ∷ run) elements same none (which, others, next, first, commits, waits, quiet, more) =
    let both : elem.P0 (Atom which) ∷ others ≡ elem.P0 (Atom t) ∷ atoms run = sym first ∙ same in
    let one : which ≡ t = cc in let rest : others ≡ atoms run = cc in (
      next,
      none,
      subst (λ (b : Bool). Commits w (elem.P0 (Atom b)) next []) one commits,
      waits,
      holds_each next w' run others rest quiet more,
    )

entries_plain : (xs : List Bool) → entries (map plain_atom xs) ≡ length xs
entries_plain [] = refl
entries_plain (x ∷ xs) = ap suc (entries_plain xs)

-- nothing was given before atoms that are taken back
given_before : (back : List Bool) → pre_since nothing_told (map plain_atom back) ≡ nothing_told
given_before [] = refl
given_before (taken ∷ back) = refl

-- nor is anything given behind one that is flipped
given_behind : (held : List Bool) → pre_behind (map plain_atom held) nothing_told ≡ nothing_told
given_behind [] = refl
given_behind (taken ∷ []) = refl
given_behind (taken ∷ next ∷ held) = given_behind (next ∷ held)

none_more : (n : ℕ) → n < 2 ^ 64 → add n 0 ≡ n
none_more n small = omega (arith, small)

two_parts : (count a b : ℕ) → add (add count a) b ≡ add count (a + b)
two_parts count a b = omega arith

-- the same with other names of the parts
gives_as : (v w v' w' : Waiting) (p q : Packet) (xs ys : List Bool) → v ≡ w → v' ≡ w' → p ≡ q → xs ≡ ys → GivesOut v p xs v' → GivesOut w q ys w'
gives_as v w v' w' p q xs ys start end packet gone gives =
    subst (λ (x : Waiting). GivesOut x q ys w') start
    (subst (λ (x : Waiting). GivesOut v q ys x) end
    (subst (λ (x : Packet). GivesOut v x ys v') packet (subst (λ (l : List Bool). GivesOut v p l v') gone gives)))

-- ---- one packet, where atoms wait before which nothing was given

abbrev given : ℕ → Counts → Counts
given n c = record c { committed = add c.committed n }

abbrev taken_back : ℕ → Counts → Counts
taken_back n c = record c { cancelled = add c.cancelled n }

module _ (informed : Bool) (depth : ℕ) where
  -- these are due, and these are held
  abbrev plain_waiting : List Bool → List Bool → Counts → Waiting
  plain_waiting due held c =
      record {
        pending = record { held = map plain_atom held; pre = nothing_told; informed = informed };
        due = map plain_atom due;
        depth = depth;
        counts = c;
      }

  gives_atoms : (held : List Bool) (run : AtomRun) (c : Counts) → length held + run.count ≤ depth → IsWaiting (plain_waiting [] held c)
      → GivesOut (plain_waiting [] held c) (Atoms run) [] (plain_waiting [] (held ++ atoms_in run) (made_more run.count c))
  gives_atoms held run c room waits =
      let bits = atoms_in run in let count : length bits ≡ run.count = length_bits run.count run.bits in
      let w = plain_waiting [] held c in let w' = plain_waiting [] (held ++ bits) (made_more run.count c) in
      let kept = keeps informed depth (map plain_atom held) c bits [] waits.range waits.balanced (omega (arith, room, count, length-map held plain_atom)) in
      let now = waiting_at informed depth (map plain_atom held ++ map plain_atom bits) (made_more (length bits) c) in
      let end : now ≡ w' =
      ap (λ (h : List Thing). waiting_at informed depth h (made_more (length bits) c)) (sym (map-append plain_atom held bits))
      ∙ ap (λ (n : ℕ). plain_waiting [] (held ++ bits) (made_more n c)) count in
      let each : TakesEach w (atoms bits) w' =
      subst (TakesEach w (atoms bits)) end (holds_each w now bits (atoms bits ++ []) (append-nil (atoms bits)) refl kept) in
      record {
        elements = atoms bits;
        has = inl (run, refl, refl);
        mid = w';
        quiet = each;
        holds = each_waits w w' (atoms bits) each waits;
        others = [];
        due = refl;
        drops = refl;
      }

  -- of those that are due the oldest are given out
  gives_some : (now later held : List Bool) (c : Counts) → IsWaiting (plain_waiting (now ++ later) held c)
      → DropsDue (plain_waiting (now ++ later) held c) (length now) (plain_waiting later held (given (length now) c))
  gives_some now later held c waits =
      let n = length now in let due = map plain_atom (now ++ later) in let gone = map plain_atom now in let left = map plain_atom later in
      let p : Pending = record { held = map plain_atom held; pre = nothing_told; informed = informed } in
      let parts : due ≡ gone ++ left = map-append plain_atom now later in
      let size : length gone ≡ n = length-map now plain_atom in
      let front : take n due ≡ gone = ap (take n) parts ∙ take_at gone left n size in
      let rest : drop n due ≡ left = ap (drop n) parts ∙ drop_at gone left n size in
      let within : n ≤ length due = omega (arith, ap length parts, length-append gone left, size) in
      let are = waits.range in
      let end : record { pending = p; due = drop n due; depth = depth; counts = counts_after c 0 (committing (take n due)) }
      ≡ plain_waiting later held (given n c) = λ k. record {
        pending = p;
        due = rest k;
        depth = depth;
        counts = record {
          made = none_more c.made are.made k;
          committed = (ap (λ (l : List Thing). add c.committed (entries l)) front ∙ ap (add c.committed) (entries_plain now)) k;
          cancelled = none_more c.cancelled are.cancelled k;
          lost = none_more c.lost are.lost k;
        };
      } in
      subst (DropsDue (plain_waiting (now ++ later) held c) n) end (gives_many p depth due c n within waits)

  gives_committed : (n : ℕ) (now later held : List Bool) (c : Counts) → length (now ++ later) ≡ n → IsWaiting (plain_waiting [] ((now ++ later) ++ held) c)
      → GivesOut (plain_waiting [] ((now ++ later) ++ held) c) (Commit n) now (plain_waiting later held (given (length now) c))
  gives_committed n now later held c count waits =
      let all = (now ++ later) ++ held in let oldest = map plain_atom (now ++ later) in let left = map plain_atom held in
      let w = plain_waiting [] all c in let mid = plain_waiting (now ++ later) held c in
      let q : Queued = record { held = map plain_atom all; pre = nothing_told; depth = depth; counts = c } in
      let parts : map plain_atom all ≡ oldest ++ left = map-append plain_atom (now ++ later) held in
      let size : length oldest ≡ n = length-map (now ++ later) plain_atom ∙ count in
      let within : n ≤ length (map plain_atom all) = omega (arith, ap length parts, length-append oldest left, size) in
      let front : take n (map plain_atom all) ≡ oldest = ap (take n) parts ∙ take_at oldest left n size in
      let rest : drop n (map plain_atom all) ≡ left = ap (drop n) parts ∙ drop_at oldest left n size in
      let end : waiting_of q informed n ≡ mid = λ k. record {
        pending = record { held = rest k; pre = nothing_told; informed = informed };
        due = front k;
        depth = depth;
        counts = c;
      } in
      let commits : Commits w (elem.Commit n) mid [] =
      subst (λ (v : Waiting). Commits w (elem.Commit n) v []) end (commits_due q informed n waits.range within) in
      let waits' : IsWaiting mid = record {
        few = subst (λ (l : List Thing). length l ≤ depth) parts waits.few;
        balanced = subst (λ (l : List Thing). Balances c (entries l)) parts waits.balanced;
        range = waits.range;
      } in
      record {
        elements = elem.Commit n ∷ [];
        has = inr (inl (n, refl, refl));
        mid = mid;
        quiet = (mid, refl, commits, waits', refl);
        holds = waits';
        others = map plain_atom later;
        due = map-append plain_atom now later;
        drops = gives_some now later held c waits';
      }

  takes_newest : (n : ℕ) (held back : List Bool) (c : Counts) → length back ≡ n → AreCounts c
      → Commits (plain_waiting [] (held ++ back) c) (elem.Cancel n) (plain_waiting [] held (taken_back n c)) []
  takes_newest n held back c count are =
      let left = map plain_atom held in let gone = map plain_atom back in
      let pending : List Thing → Pre → Pending = λ l pre. record { held = l; pre = pre; informed = informed } in
      let same : (m : ℕ) → m < 2 ^ 64 → m ≡ add m 0 = λ m small. sym (none_more m small) in
      let twice : (m : ℕ) → add m 0 ≡ add (add m 0) 0 = λ m. omega arith in
      record {
        gone = cancelling gone;
        rule = ap (λ (l : List Thing). taken depth (pending l nothing_told) (elem.Cancel n)) (map-append plain_atom held back)
            ∙ takes_back depth n informed nothing_told left gone (length-map back plain_atom ∙ count)
            ∙ ap (λ (pre : Pre). Ok (pending left pre, cancelling gone)) (given_before back);
        commits = refl;
        counts = λ k. record {
          made = same c.made are.made k;
          committed = twice c.committed k;
          cancelled = ap (add c.cancelled) (sym (entries_plain back ∙ count)) k;
          lost = same c.lost are.lost k;
        };
        depth = refl;
      }

  gives_back : (n : ℕ) (held back : List Bool) (c : Counts) → length back ≡ n → IsWaiting (plain_waiting [] (held ++ back) c)
      → GivesOut (plain_waiting [] (held ++ back) c) (Cancel n false) [] (plain_waiting [] held (taken_back n c))
  gives_back n held back c count waits =
      let w' = plain_waiting [] held (taken_back n c) in let are = waits.range in
      let size : length (held ++ back) ≡ length held + n = length-append held back ∙ ap (λ (m : ℕ). length held + m) count in
      let were : entries (map plain_atom (held ++ back)) ≡ length held + n = entries_plain (held ++ back) ∙ size in
      let waits' : IsWaiting w' = record {
        few = omega (arith, waits.few, length-map (held ++ back) plain_atom, length-map held plain_atom, size);
        balanced = omega (arith, waits.balanced, were, entries_plain held);
        range = record { made = are.made; committed = are.committed; cancelled = mod-lt (c.cancelled + n) (omega arith); lost = are.lost };
      } in
      record {
        elements = elem.Cancel n ∷ [];
        has = inr (inr (inl (n, refl, refl)));
        mid = w';
        quiet = (w', refl, takes_newest n held back c count are, waits', refl);
        holds = waits';
        others = [];
        due = refl;
        drops = refl;
      }

  flips_newest : (held : List Bool) (c : Counts) → 0 < length held → AreCounts c
      → Commits (plain_waiting [] held c) elem.Flip (plain_waiting [] (flip_newest_atom held) c) []
  flips_newest held c some are =
      let things = map plain_atom held in
      let pending : List Thing → Pre → Pending = λ l pre. record { held = l; pre = pre; informed = informed } in
      let twice : (m : ℕ) → add m 0 ≡ add (add m 0) 0 = λ m. omega arith in
      record {
        gone = nothing_gone;
        rule = ap (flips (pending things nothing_told)) (flipped_by_rule held some)
            ∙ ap (λ (pre : Pre). Ok (pending (map plain_atom (flip_newest_atom held)) pre, nothing_gone)) (given_behind held);
        commits = refl;
        counts = λ k. record {
          made = sym (none_more c.made are.made) k;
          committed = twice c.committed k;
          cancelled = sym (none_more c.cancelled are.cancelled) k;
          lost = sym (none_more c.lost are.lost) k;
        };
        depth = refl;
      }

  gives_flipped : (held : List Bool) (c : Counts) → 0 < length held → IsWaiting (plain_waiting [] held c)
      → GivesOut (plain_waiting [] held c) (Mispredict no_atoms) [] (plain_waiting [] (flip_newest_atom held) c)
  gives_flipped held c some waits =
      let w' = plain_waiting [] (flip_newest_atom held) c in
      let size = as_many_flipped held in
      let waits' : IsWaiting w' = record {
        few = omega (arith, waits.few, length-map held plain_atom, length-map (flip_newest_atom held) plain_atom, size);
        balanced = waits.balanced ∙ ap (λ (n : ℕ). (c.committed + c.cancelled + c.lost + n) % 2 ^ 64)
            (entries_plain held ∙ sym size ∙ sym (entries_plain (flip_newest_atom held)));
        range = waits.range;
      } in
      record {
        elements = elem.Flip ∷ [];
        has = inr (inr (inr (refl, refl)));
        mid = w';
        quiet = (w', refl, flips_newest held c some waits.range, waits', refl);
        holds = waits';
        others = [];
        due = refl;
        drops = refl;
      }

-- ---- packets, one after the other

nothing_more : (xs now later : List Bool) → xs ≡ (xs ++ now) ++ later → (now ≡ []) × (later ≡ [])
nothing_more xs now later is =
    let size : length xs ≡ length xs + length now + length later =
    ap length is ∙ length-append (xs ++ now) later ∙ ap (λ (n : ℕ). n + length later) (length-append xs now) in
    (nil_from_length now (omega (arith, size)), nil_from_length later (omega (arith, size)))

-- what follows the first of three lists, and what follows the second
next_part : (xs ys zs a b t : List Bool) → ys ≡ xs ++ a → zs ≡ ys ++ b → drop (length xs) (zs ++ t) ≡ a ++ drop (length ys) (zs ++ t)
next_part xs ys zs a b t first second =
    let behind : zs ++ t ≡ ys ++ (b ++ t) = ap (λ (l : List Bool). l ++ t) second ∙ append_assoc ys b t in
    let all : zs ++ t ≡ xs ++ (a ++ (b ++ t)) = behind ∙ ap (λ (l : List Bool). l ++ (b ++ t)) first ∙ append_assoc xs a (b ++ t) in
    ap (drop (length xs)) all ∙ drop_at xs (a ++ (b ++ t)) (length xs) refl
    ∙ ap (λ (l : List Bool). a ++ l) (sym (ap (drop (length ys)) behind ∙ drop_at ys (b ++ t) (length ys) refl))

module _ (informed : Bool) (depth : ℕ) (c : Counts) where
  -- what waits behind an outlook, where these are due and so many were given out
  abbrev behind : Outlook → List Bool → ℕ → Waiting
  behind x due n =
      plain_waiting informed depth due x.held
      (record c { made = add c.made x.made; committed = add c.committed n; cancelled = add c.cancelled x.cancelled })

  same_waiting : (due due' held held' : List Bool) (m m' n n' k k' : ℕ) → due ≡ due' → held ≡ held' → m ≡ m' → n ≡ n' → k ≡ k'
      → plain_waiting informed depth due held (record c { made = m; committed = n; cancelled = k })
      ≡ plain_waiting informed depth due' held' (record c { made = m'; committed = n'; cancelled = k' })
  same_waiting due due' held held' m m' n n' k k' dues helds made committed cancelled i =
      plain_waiting informed depth (dues i) (helds i) (record c { made = made i; committed = committed i; cancelled = cancelled i })

  one_gives : (x x' : Outlook) (p : List ℕ × Packet) (now later : List Bool) → Moves x p x' → x.depth ≡ depth → x'.gone ≡ (x.gone ++ now) ++ later
      → IsWaiting (behind x [] (length x.gone)) → GivesOut (behind x [] (length x.gone)) p.1 now (behind x' later (length (x.gone ++ now)))
  one_gives x x' p now later (inl (byte, run, is, spells, whole, room, made)) deep gone waits =
      let none = nothing_more x.gone now later (sym (ap (λ (y : Outlook). y.gone) made) ∙ gone) in
      let same : x.gone ≡ x.gone ++ now = sym (append-nil x.gone) ∙ ap (λ (l : List Bool). x.gone ++ l) (sym none.0) in
      let cx : Counts = (behind x [] (length x.gone)).counts in
      let end = same_waiting [] later (x.held ++ atoms_in run) x'.held (add (add c.made x.made) run.count) (add c.made x'.made)
      (add c.committed (length x.gone)) (add c.committed (length (x.gone ++ now))) (add c.cancelled x.cancelled) (add c.cancelled x'.cancelled)
      (sym none.1) (ap (λ (y : Outlook). y.held) (sym made))
      (two_parts c.made x.made run.count ∙ ap (λ (y : Outlook). add c.made y.made) (sym made))
      (ap (λ (l : List Bool). add c.committed (length l)) same)
      (ap (λ (y : Outlook). add c.cancelled y.cancelled) (sym made)) in
      gives_as _ _ _ _ _ _ _ _ refl end (ap (λ (q : List ℕ × Packet). q.1) (sym is)) (sym none.0)
      (gives_atoms informed depth x.held run cx (omega (arith, room.0, deep)) waits)
  one_gives x x' p now later (inr (inl (n, is, small, nonzero, within, made))) deep gone waits =
      let both : x.gone ++ take n x.held ≡ x.gone ++ (now ++ later) =
      sym (ap (λ (y : Outlook). y.gone) made) ∙ gone ∙ append_assoc x.gone now later in
      let oldest : take n x.held ≡ now ++ later =
      sym (drop_at x.gone (take n x.held) (length x.gone) refl) ∙ ap (drop (length x.gone)) both ∙ drop_at x.gone (now ++ later) (length x.gone) refl in
      let parts : x.held ≡ (now ++ later) ++ drop n x.held =
      sym (take-append-drop n x.held) ∙ ap (λ (l : List Bool). l ++ drop n x.held) oldest in
      let count : length (now ++ later) ≡ n = ap length (sym oldest) ∙ length-take-le n x.held within in
      let cx : Counts = (behind x [] (length x.gone)).counts in
      let start : behind x [] (length x.gone) ≡ plain_waiting informed depth [] ((now ++ later) ++ drop n x.held) cx =
      ap (λ (h : List Bool). plain_waiting informed depth [] h cx) parts in
      let end = same_waiting later later (drop n x.held) x'.held (add c.made x.made) (add c.made x'.made)
      (add (add c.committed (length x.gone)) (length now)) (add c.committed (length (x.gone ++ now))) (add c.cancelled x.cancelled)
      (add c.cancelled x'.cancelled) refl (ap (λ (y : Outlook). y.held) (sym made)) (ap (λ (y : Outlook). add c.made y.made) (sym made))
      (two_parts c.committed (length x.gone) (length now) ∙ ap (add c.committed) (sym (length-append x.gone now)))
      (ap (λ (y : Outlook). add c.cancelled y.cancelled) (sym made)) in
      gives_as _ _ _ _ _ _ _ _ (sym start) end (ap (λ (q : List ℕ × Packet). q.1) (sym is)) refl
      (gives_committed informed depth n now later (drop n x.held) cx count (subst IsWaiting start waits))
  one_gives x x' p now later (inr (inr (inl (n, is, small, some, within, made)))) deep gone waits =
      let none = nothing_more x.gone now later (sym (ap (λ (y : Outlook). y.gone) made) ∙ gone) in
      let same : x.gone ≡ x.gone ++ now = sym (append-nil x.gone) ∙ ap (λ (l : List Bool). x.gone ++ l) (sym none.0) in
      let m = length x.held - n in
      let parts : x.held ≡ take m x.held ++ drop m x.held = sym (take-append-drop m x.held) in
      let count : length (drop m x.held) ≡ n = omega (arith, length-drop m x.held, within) in
      let cx : Counts = (behind x [] (length x.gone)).counts in
      let start : behind x [] (length x.gone) ≡ plain_waiting informed depth [] (take m x.held ++ drop m x.held) cx =
      ap (λ (h : List Bool). plain_waiting informed depth [] h cx) parts in
      let end = same_waiting [] later (take m x.held) x'.held (add c.made x.made) (add c.made x'.made)
      (add c.committed (length x.gone)) (add c.committed (length (x.gone ++ now))) (add (add c.cancelled x.cancelled) n) (add c.cancelled x'.cancelled)
      (sym none.1) (ap (λ (y : Outlook). y.held) (sym made)) (ap (λ (y : Outlook). add c.made y.made) (sym made))
      (ap (λ (l : List Bool). add c.committed (length l)) same)
      (two_parts c.cancelled x.cancelled n ∙ ap (λ (y : Outlook). add c.cancelled y.cancelled) (sym made)) in
      gives_as _ _ _ _ _ _ _ _ (sym start) end (ap (λ (q : List ℕ × Packet). q.1) (sym is)) (sym none.0)
      (gives_back informed depth n (take m x.held) (drop m x.held) cx count (subst IsWaiting start waits))
  one_gives x x' p now later (inr (inr (inr (is, some, made)))) deep gone waits =
      let none = nothing_more x.gone now later (sym (ap (λ (y : Outlook). y.gone) made) ∙ gone) in
      let same : x.gone ≡ x.gone ++ now = sym (append-nil x.gone) ∙ ap (λ (l : List Bool). x.gone ++ l) (sym none.0) in
      let cx : Counts = (behind x [] (length x.gone)).counts in
      let end = same_waiting [] later (flip_newest_atom x.held) x'.held (add c.made x.made) (add c.made x'.made)
      (add c.committed (length x.gone)) (add c.committed (length (x.gone ++ now))) (add c.cancelled x.cancelled) (add c.cancelled x'.cancelled)
      (sym none.1) (ap (λ (y : Outlook). y.held) (sym made)) (ap (λ (y : Outlook). add c.made y.made) (sym made))
      (ap (λ (l : List Bool). add c.committed (length l)) same) (ap (λ (y : Outlook). add c.cancelled y.cancelled) (sym made)) in
      gives_as _ _ _ _ _ _ _ _ refl end (ap (λ (q : List ℕ × Packet). q.1) (sym is)) (sym none.0) (gives_flipped informed depth x.held cx some waits)

  gives_from : (first : List (List ℕ × Packet)) (x before o' : Outlook) (last : List ℕ × Packet) (now later : List Bool) → x.depth ≡ depth
      → o'.gone ≡ (before.gone ++ now) ++ later → IsWaiting (behind x [] (length x.gone)) → MovesAll x first before → Moves before last o'
      → GiveOut (behind x [] (length x.gone)) first last (drop (length x.gone) (before.gone ++ now)) (behind o' later (length (before.gone ++ now)))
  gives_from [] x before o' last now later deep gone waits is ends =
      let w = behind x [] (length x.gone) in
      let gives = one_gives x o' last now later (subst (λ (y : Outlook). Moves y last o') is ends) deep
      (gone ∙ ap (λ (y : Outlook). (y.gone ++ now) ++ later) is) waits in
      let front : now ≡ drop (length x.gone) (x.gone ++ now) = sym (drop_at x.gone now (length x.gone) refl) in
      subst (λ (y : Outlook). GivesOut w last.1 (drop (length x.gone) (y.gone ++ now)) (behind o' later (length (y.gone ++ now)))) (sym is)
      (subst (λ (l : List Bool). GivesOut w last.1 l (behind o' later (length (x.gone ++ now)))) front gives)
  gives_from (p ∷ ps) x before o' last now later deep gone waits (next, one, others) ends =
      let (a, first) = still_gone x next p one in let (b, second) = still_gone_all next before ps others in
      let w = behind x [] (length x.gone) in let w' = behind next [] (length next.gone) in
      let gives : GivesOut w p.1 a w' =
      subst (λ (l : List Bool). GivesOut w p.1 a (behind next [] (length l))) (sym first)
      (one_gives x next p a [] one deep (first ∙ sym (append-nil (x.gone ++ a))) waits) in (
        w',
        a,
        drop (length next.gone) (before.gone ++ now),
        gives,
        refl,
        gives_from ps next before o' last now later (same_depth_one x next p one ∙ deep) gone (gives_waits w w' p.1 a gives) others ends,
        next_part x.gone next.gone before.gone a b now first second,
      )

-- the first of some that are taken of a list
front_of : (xs ys : List Bool) (n : ℕ) → length xs ≤ n → xs ++ drop (length xs) (take n (xs ++ ys)) ≡ take n (xs ++ ys)
front_of xs ys n over =
    let m = length xs in let l = take n (xs ++ ys) in
    let front : xs ≡ take m l = sym (take-take m n (xs ++ ys) over ∙ take_at xs ys m refl) in
    ap (λ (f : List Bool). f ++ drop m l) front ∙ take-append-drop m l

-- Packets are taken one after the other from what waits as it was tried on an outlook: what is left is what settling makes of it.
pub gives_out : (o o' before : Outlook) (w : Waiting) (first : List (List ℕ × Packet)) (last : List ℕ × Packet) (n : ℕ)
    → w.due ≡ [] → (w.pending).pre ≡ nothing_told → map plain_atom o.held ≡ (w.pending).held → o.depth ≡ w.depth → IsWaiting w
    → o.gone ≡ [] → o.made ≡ 0 → o.cancelled ≡ 0
    → MovesAll o first before → Moves before last o' → length before.gone ≤ n → n ≤ length o'.gone
    → GiveOut w first last (take n o'.gone) (settled_waiting o' n w)
gives_out o o' before w first last n none pre held deep waits gone made cancelled moves ends over within =
    let informed = (w.pending).informed in let depth = w.depth in let c = w.counts in let are = waits.range in
    let now = drop (length before.gone) (take n o'.gone) in let later = drop n o'.gone in
    let (more, is) = still_gone before o' last ends in
    let so_far : before.gone ++ now ≡ take n o'.gone =
    subst (λ (l : List Bool). before.gone ++ drop (length before.gone) (take n l) ≡ take n l) (sym is) (front_of before.gone more n over) in
    let parts : o'.gone ≡ (before.gone ++ now) ++ later =
    sym (take-append-drop n o'.gone) ∙ ap (λ (l : List Bool). l ++ later) (sym so_far) in
    let start : behind informed depth c o [] (length o.gone) ≡ w = λ k. record {
      pending = record { held = held k; pre = sym pre k; informed = informed };
      due = sym none k;
      depth = depth;
      counts = record {
        made = (ap (add c.made) made ∙ none_more c.made are.made) k;
        committed = (ap (λ (l : List Bool). add c.committed (length l)) gone ∙ none_more c.committed are.committed) k;
        cancelled = (ap (add c.cancelled) cancelled ∙ none_more c.cancelled are.cancelled) k;
        lost = c.lost;
      };
    } in
    let count : length (before.gone ++ now) ≡ n = ap length so_far ∙ length-take-le n o'.gone within in
    let end : behind informed depth c o' later (length (before.gone ++ now)) ≡ settled_waiting o' n w = λ k. record {
      pending = record { held = map plain_atom o'.held; pre = sym pre k; informed = informed };
      due = map plain_atom later;
      depth = depth;
      counts = record {
        made = add c.made o'.made;
        committed = add c.committed (count k);
        cancelled = add c.cancelled o'.cancelled;
        lost = c.lost;
      };
    } in
    let all : drop (length o.gone) (before.gone ++ now) ≡ take n o'.gone =
    ap (λ (l : List Bool). drop (length l) (before.gone ++ now)) gone ∙ so_far in
    let v = behind informed depth c o [] (length o.gone) in
    subst (λ (u : Waiting). GiveOut u first last (take n o'.gone) (settled_waiting o' n w)) start
    (subst (λ (u : Waiting). GiveOut v first last (take n o'.gone) u) end
    (subst (λ (l : List Bool). GiveOut v first last l (behind informed depth c o' later (length (before.gone ++ now)))) all
    (gives_from informed depth c first o before o' last now later deep parts (subst IsWaiting (sym start) waits) moves ends)))
