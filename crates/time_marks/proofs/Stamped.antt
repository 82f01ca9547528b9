-- The times of packets beside those with the number of each P0 element as its timestamp: each mark is the timestamp with its number.
use Rattle.std.proofs.Common.{◌≡◌, ℕ, ◌+◌, ◌-◌, Bool, true, false, if◌then◌else◌, List, [], ◌∷◌, ◌++◌, length, take, drop, map, Option}
use Rattle.std.proofs.Common.{Some, None, Result, Ok, Err, refl, ap, sym, ◌∙◌, subst, append_assoc, length-append, arith}
use Rattle.std.specs.Prelude.{is_some, slice_get}
use Rattle.std.proofs.lemmas.List.{drop-map, length-map, map-append, take-map}
use Rattle.element_queue.specs.Counting.{entries, made_by}
use Rattle.element_queue.specs.Pending.{Pending, Taken, taken}
use Rattle.element_queue.specs.Resolved.{Resolved, resolve_all, then_resolve, unresolved, with_done}
use Rattle.etm_types.specs.declared.element.Elem.{Elem}
use Rattle.etm_types.specs.declared.element.Elem.TheVariants as elem
use Rattle.etm_types.specs.declared.element.P0.{P0}
use Rattle.etm_types.specs.declared.queue_fault.QueueFault.{QueueFault}
use Rattle.packet_grammar.specs.declared.packet.Packet.{Packet}
use Rattle.packet_grammar.specs.declared.stream_fault.Fault.{Fault}
use Rattle.packet_grammar.specs.declared.stream_fault.Fault.TheVariants.{AddressAwaited, Queue}
use Rattle.path_elements.specs.Elements.{Gained, Told, all_elements, elements_of, is_misplaced, with_offset, told_after, untold, with_gained}
use Rattle.path_elements.specs.Path.{unplaced}
use Rattle.time_marks.proofs.Growing.{packet_good, packets_stop}
use Rattle.time_marks.proofs.Own.{get_last, get_more}
use Rattle.time_marks.proofs.Resolving.{marks_made}
use Rattle.time_marks.proofs.Tallies.{told_kept}
use Rattle.time_marks.specs.MarkLaws.{after_numbered, p0s_in, stamps_of}
use Rattle.time_marks.specs.Stamps.{Stamp}
use Rattle.time_marks.specs.Times.{Times, after_element, after_elements, after_packets, mark_of, marks_with, no_times, opened}
use Rattle.time_marks.specs.Times.{taken_so, times_of}

-- ---- the timestamps with these numbers

abbrev pub stamp_at : List Stamp → Stamp → Option Stamp
stamp_at stamps None = None
stamp_at stamps (Some n) = slice_get stamps n

abbrev pub AreAt : List Stamp → List Stamp → List Stamp → Type 0
AreAt stamps numbers marks = map Some marks ≡ map (stamp_at stamps) numbers

module _ (stamps : List Stamp) where
  pub at_size : (ns ms : List Stamp) → AreAt stamps ns ms → length ms ≡ length ns
  at_size ns ms is = sym (length-map ms Some) ∙ ap length is ∙ length-map ns (stamp_at stamps)

  at_take : (k : ℕ) (ns ms : List Stamp) → AreAt stamps ns ms → AreAt stamps (take k ns) (take k ms)
  at_take k ns ms is = sym (take-map Some k ms) ∙ ap (λ (l : List (Option Stamp)). take k l) is ∙ take-map (stamp_at stamps) k ns

  at_drop : (k : ℕ) (ns ms : List Stamp) → AreAt stamps ns ms → AreAt stamps (drop k ns) (drop k ms)
  at_drop k ns ms is = sym (drop-map Some k ms) ∙ ap (λ (l : List (Option Stamp)). drop k l) is ∙ drop-map (stamp_at stamps) k ns

  at_append : (ns ms ks ls : List Stamp) → AreAt stamps ns ms → AreAt stamps ks ls → AreAt stamps (ns ++ ks) (ms ++ ls)
  at_append ns ms ks ls one other =
      map-append Some ms ls ∙ ap (λ (l : List (Option Stamp)). l ++ map Some ls) one ∙ ap (λ (l : List (Option Stamp)). map (stamp_at stamps) ns ++ l) other
      ∙ sym (map-append (stamp_at stamps) ns ks)

  module _ (more : List Stamp) where
    one_more : (n m : Stamp) → Some m ≡ stamp_at stamps n → Some m ≡ stamp_at (stamps ++ more) n
    one_more None m is = absurd cc
    one_more (Some n) m is = sym (get_more stamps more n m (sym is))

    -- and still are, once there are more
    at_more : (ns ms : List Stamp) → AreAt stamps ns ms → AreAt (stamps ++ more) ns ms
    at_more [] [] is = refl
    at_more [] (m ∷ ms) is = absurd cc
    at_more (n ∷ ns) [] is = absurd cc
    at_more (n ∷ ns) (m ∷ ms) is =
        let first : ◌≡◌ {A = Option Stamp} (Some m) (stamp_at stamps n) = cc in
        let others : map Some ms ≡ map (stamp_at stamps) ns = cc in
        ap (λ (x : Option Stamp). x ∷ map Some ms) (one_more n m first)
        ∙ ap (λ (l : List (Option Stamp)). stamp_at (stamps ++ more) n ∷ l) (at_more ns ms others)

-- ---- one element more

-- these times are those with numbers for timestamps, but that each mark is the timestamp with its number
pub record Beside (stamps : List Stamp) (u t : Times) : Type 0 where
  pub pending : t.pending ≡ u.pending
  pub held : AreAt stamps u.held t.held
  pub done : AreAt stamps u.done t.done
  pub fault : t.fault ≡ u.fault

more_beside : (stamps more : List Stamp) (u t : Times) → Beside stamps u t → Beside (stamps ++ more) u t
more_beside stamps more u t is =
    record { pending = is.pending; held = at_more stamps more u.held t.held is.held; done = at_more stamps more u.done t.done is.done; fault = is.fault }

module _ (stamps : List Stamp) (u t : Times) (is : Beside stamps u t) (at : ℕ) (e : Elem) where
  abbrev more : List Stamp
  more = stamps ++ mark_of t.stamp e

  abbrev numbered_u : Times
  numbered_u = record u { stamp = Some (length stamps) }

  new_mark : (x : Elem) → AreAt (stamps ++ mark_of t.stamp x) (mark_of (Some (length stamps)) x) (mark_of t.stamp x)
  new_mark (elem.P0 p0) = ap (λ (x : Option Stamp). x ∷ []) (sym (get_last stamps t.stamp))
  new_mark (elem.Info spec) = refl
  new_mark elem.On = refl
  new_mark (elem.Ctx ctx) = refl
  new_mark (elem.Addr addr) = refl
  new_mark (elem.Commit n) = refl
  new_mark (elem.Cancel n) = refl
  new_mark elem.Flip = refl
  new_mark elem.Overflow = refl
  new_mark elem.Discard = refl

  marks : AreAt more (marks_with numbered_u e) (marks_with t e)
  marks =
      at_append more u.held t.held (mark_of (Some (length stamps)) e) (mark_of t.stamp e)
      (at_more stamps (mark_of t.stamp e) u.held t.held is.held) (new_mark e)

  step : (outcome : Taken) → Beside more (taken_so at numbered_u e outcome) (taken_so at t e outcome)
  step (Ok x) =
      let c = entries (x.1).committed in let n = entries (x.1).cancelled + entries (x.1).lost in
      let ns = drop c (marks_with numbered_u e) in let ms = drop c (marks_with t e) in
      let left = at_drop more c (marks_with numbered_u e) (marks_with t e) marks in
      record {
        pending = refl;
        held = subst (λ (k : ℕ). AreAt more (take (k - n) ns) (take (length ms - n) ms)) (at_size more ns ms left) (at_take more (length ms - n) ns ms left);
        done = at_append more u.done t.done (take c (marks_with numbered_u e)) (take c (marks_with t e))
            (at_more stamps (mark_of t.stamp e) u.done t.done is.done) (at_take more c (marks_with numbered_u e) (marks_with t e) marks);
        fault = is.fault;
      }
  step (Err f) =
      record {
        pending = is.pending;
        held = at_more stamps (mark_of t.stamp e) u.held t.held is.held;
        done = at_more stamps (mark_of t.stamp e) u.done t.done is.done;
        fault = refl;
      }

  element_beside : (depth : ℕ) → Beside more (after_element depth at numbered_u e) (after_element depth at t e)
  element_beside depth =
      subst (λ (p : Pending). Beside more (after_element depth at numbered_u e) (taken_so at t e (taken depth p e))) (sym is.pending)
      (step (taken depth u.pending e))

-- ---- elements with their offsets

-- what elements come to with numbers for timestamps, counted on from this one, up to the first that has a fault
abbrev run : ℕ → ℕ → Times → List (ℕ × Elem) → Times
run depth n u [] = u
run depth n u (e ∷ es) = if is_some u.fault then u else run depth (n + made_by e.1) (after_element depth e.0 (record u { stamp = Some n }) e.1) es

-- nothing follows a fault
run_stops : (depth n : ℕ) (u : Times) (stop : ℕ × Fault) (es : List (ℕ × Elem)) → u.fault ≡ Some stop → run depth n u es ≡ u
run_stops depth n u stop [] some = refl
run_stops depth n u stop (e ∷ es) some =
    ap (λ (f : Option (ℕ × Fault)). if is_some f then u else run depth (n + made_by e.1) (after_element depth e.0 (record u { stamp = Some n }) e.1) es) some

run_next : (depth n : ℕ) (u : Times) (e : ℕ × Elem) (es : List (ℕ × Elem)) → u.fault ≡ None
    → run depth n u (e ∷ es) ≡ run depth (n + made_by e.1) (after_element depth e.0 (record u { stamp = Some n }) e.1) es
run_next depth n u e es none =
    ap (λ (f : Option (ℕ × Fault)). if is_some f then u else run depth (n + made_by e.1) (after_element depth e.0 (record u { stamp = Some n }) e.1) es) none

run_on : (depth k : ℕ) (u next : Times) (m : ℕ) (xs ys : List (ℕ × Elem)) (met : Option (ℕ × Fault)) → u.fault ≡ met
    → run depth m next (xs ++ ys) ≡ run depth k (run depth m next xs) ys
    → (if is_some met then u else run depth m next (xs ++ ys)) ≡ run depth k (if is_some met then u else run depth m next xs) ys
run_on depth k u next m xs ys None none later = later
run_on depth k u next m xs ys (Some stop) some later = sym (run_stops depth k u stop ys some)

-- how many P0 elements there are
abbrev count : List (ℕ × Elem) → ℕ
count es = length (p0s_in (unplaced es))

count_first : (e : ℕ × Elem) (es : List (ℕ × Elem)) → made_by e.1 + count es ≡ count (e ∷ es)
count_first (at, e) es = by e
  where
    by : (x : Elem) → made_by x + count es ≡ length (p0s_in (x ∷ unplaced es))
    by (elem.P0 p0) = omega arith
    by (elem.Info spec) = omega arith
    by elem.On = omega arith
    by (elem.Ctx ctx) = omega arith
    by (elem.Addr addr) = omega arith
    by (elem.Commit n) = omega arith
    by (elem.Cancel n) = omega arith
    by elem.Flip = omega arith
    by elem.Overflow = omega arith
    by elem.Discard = omega arith

run-append : (depth n : ℕ) (u : Times) (xs ys : List (ℕ × Elem)) → run depth n u (xs ++ ys) ≡ run depth (n + count xs) (run depth n u xs) ys
run-append depth n u [] ys = ap (λ (k : ℕ). run depth k u ys) (omega arith)
run-append depth n u (e ∷ xs) ys =
    let next = after_element depth e.0 (record u { stamp = Some n }) e.1 in let m = n + made_by e.1 in
    let number : m + count xs ≡ n + count (e ∷ xs) = omega (arith, count_first e xs) in
    run_on depth (n + count (e ∷ xs)) u next m xs ys u.fault refl
    (run-append depth m next xs ys ∙ ap (λ (k : ℕ). run depth k (run depth m next xs) ys) number)

-- ---- elements of one packet

abbrev stamps_in : Stamp → List Elem → List Stamp
stamps_in stamp es = map (λ (p0 : P0). stamp) (p0s_in es)

stamps_first : (stamp : Stamp) (e : Elem) (es : List Elem) → mark_of stamp e ++ stamps_in stamp es ≡ stamps_in stamp (e ∷ es)
stamps_first stamp (elem.P0 p0) es = refl
stamps_first stamp (elem.Info spec) es = refl
stamps_first stamp elem.On es = refl
stamps_first stamp (elem.Ctx ctx) es = refl
stamps_first stamp (elem.Addr addr) es = refl
stamps_first stamp (elem.Commit n) es = refl
stamps_first stamp (elem.Cancel n) es = refl
stamps_first stamp elem.Flip es = refl
stamps_first stamp elem.Overflow es = refl
stamps_first stamp elem.Discard es = refl

-- elements leave the timestamp of their packet
stamp_so : (at : ℕ) (t : Times) (e : Elem) (outcome : Taken) → (taken_so at t e outcome).stamp ≡ t.stamp
stamp_so at t e (Ok x) = refl
stamp_so at t e (Err f) = refl

stamp_if : (b : Bool) (t t' : Times) → t'.stamp ≡ t.stamp → (if b then t else t').stamp ≡ t.stamp
stamp_if true t t' same = refl
stamp_if false t t' same = same

stamp_kept : (depth at : ℕ) (t : Times) (elements : List Elem) → (after_elements depth at t elements).stamp ≡ t.stamp
stamp_kept depth at t [] = refl
stamp_kept depth at t (e ∷ es) =
    let next = after_element depth at t e in
    stamp_if (is_some t.fault) t (after_elements depth at next es) (stamp_kept depth at next es ∙ stamp_so at t e (taken depth t.pending e))

if_beside : (stamps more : List Stamp) (u t next_u next_t : Times) → Beside stamps u t → Beside (stamps ++ more) next_u next_t
    → Beside (stamps ++ more) (if is_some u.fault then u else next_u) (if is_some t.fault then t else next_t)
if_beside stamps more u t next_u next_t is later =
    subst (λ (f : Option (ℕ × Fault)). Beside (stamps ++ more) (if is_some u.fault then u else next_u) (if is_some f then t else next_t)) (sym is.fault)
    (by (is_some u.fault))
  where
    by : (b : Bool) → Beside (stamps ++ more) (if b then u else next_u) (if b then t else next_t)
    by true = more_beside stamps more u t is
    by false = later

module _ (depth at : ℕ) where
  elements_beside : (stamps : List Stamp) (u t : Times) (es : List Elem) → Beside stamps u t
      → Beside (stamps ++ stamps_in t.stamp es) (run depth (length stamps) u (with_offset at es)) (after_elements depth at t es)
  elements_beside stamps u t [] is = more_beside stamps [] u t is
  elements_beside stamps u t (e ∷ es) is =
      let next_u = after_element depth at (record u { stamp = Some (length stamps) }) e in let next = after_element depth at t e in
      let more = stamps ++ mark_of t.stamp e in
      let all : more ++ stamps_in next.stamp es ≡ stamps ++ stamps_in t.stamp (e ∷ es) =
      ap (λ (s : Stamp). more ++ stamps_in s es) (stamp_so at t e (taken depth t.pending e)) ∙ append_assoc stamps (mark_of t.stamp e) (stamps_in t.stamp es)
      ∙ ap (λ (l : List Stamp). stamps ++ l) (stamps_first t.stamp e es) in
      let number : length more ≡ length stamps + made_by e =
      length-append stamps (mark_of t.stamp e) ∙ ap (λ (k : ℕ). length stamps + k) (marks_made t.stamp e) in
      if_beside stamps (stamps_in t.stamp (e ∷ es)) u t (run depth (length stamps + made_by e) next_u (with_offset at es)) (after_elements depth at next es) is
      (subst (λ (k : ℕ). Beside (stamps ++ stamps_in t.stamp (e ∷ es)) (run depth k next_u (with_offset at es)) (after_elements depth at next es)) number
      (subst (λ (l : List Stamp). Beside l (run depth (length more) next_u (with_offset at es)) (after_elements depth at next es)) all
      (elements_beside more next_u next es (element_beside stamps u t is at e depth))))

-- ---- packets

-- the fault of a packet that may not come where it does, if none was met before
abbrev awaits : Times → Option ℕ → Times
awaits u None = u
awaits u (Some at) = if is_some u.fault then u else record u { fault = Some (at, AddressAwaited) }

awaits_none : (u : Times) (stop : ℕ × Fault) (awaited : Option ℕ) → u.fault ≡ Some stop → awaits u awaited ≡ u
awaits_none u stop None some = refl
awaits_none u stop (Some at) some = ap (λ (f : Option (ℕ × Fault)). if is_some f then u else record u { fault = Some (at, AddressAwaited) }) some

unplaced_placed : (at : ℕ) (es : List Elem) → unplaced (with_offset at es) ≡ es
unplaced_placed at [] = refl
unplaced_placed at (e ∷ es) = ap (λ (l : List Elem). e ∷ l) (unplaced_placed at es)

module _ (depth : ℕ) (stamps : List Stamp) (u t : Times) (p : ℕ × Packet) (packets : List (ℕ × Packet)) (none : t.fault ≡ None) (is : Beside stamps u t) where
  abbrev here : List Elem
  here = elements_of t.told p.1

  abbrev begun : Times
  begun = opened t p.1

  abbrev further : Gained
  further = all_elements (told_after t.told p.1) packets

  abbrev others : List Stamp
  others = stamps_of (told_after t.told p.1) begun.stamp packets

  abbrev next_t : Times
  next_t = after_elements depth p.0 begun here

  abbrev next_u : Times
  next_u = run depth (length stamps) u (with_offset p.0 here)

  abbrev known : List Stamp
  known = stamps ++ stamps_in begun.stamp here

  -- what comes behind, from there on
  abbrev Later : List Stamp → Times → Times → Type 0
  Later all w y =
      Beside (all ++ stamps_of y.told y.stamp packets)
      (awaits (run depth (length all) w (all_elements y.told packets).elements) (all_elements y.told packets).awaited)
      (after_packets depth y packets)

  first : Beside known next_u next_t
  first = elements_beside depth p.0 stamps u begun here (record { pending = is.pending; held = is.held; done = is.done; fault = is.fault })

  behind : (next_t.fault ≡ None → Later known next_u next_t) → (met : Option (ℕ × Fault)) → next_t.fault ≡ met
      → Beside (known ++ others) (awaits (run depth (length known) next_u further.elements) further.awaited) (after_packets depth next_t packets)
  behind on None free =
      subst (λ (s : Stamp). Beside (known ++ stamps_of (told_after t.told p.1) s packets)
      (awaits (run depth (length known) next_u further.elements) further.awaited) (after_packets depth next_t packets)) (stamp_kept depth p.0 begun here)
      (subst (λ (g : Told). Beside (known ++ stamps_of g next_t.stamp packets)
      (awaits (run depth (length known) next_u (all_elements g packets).elements) (all_elements g packets).awaited) (after_packets depth next_t packets))
      (told_kept depth p.0 begun here) (on free))
  behind on (Some stop) some =
      let met : next_u.fault ≡ Some stop = sym first.fault ∙ some in
      let still : awaits (run depth (length known) next_u further.elements) further.awaited ≡ next_u =
      ap (λ (w : Times). awaits w further.awaited) (run_stops depth (length known) next_u stop further.elements met)
      ∙ awaits_none next_u stop further.awaited met in
      subst (λ (w : Times). Beside (known ++ others) w (after_packets depth next_t packets)) (sym still)
      (subst (Beside (known ++ others) next_u) (sym (packets_stop depth next_t stop packets some)) (more_beside known others next_u next_t first))

  -- the number of the next P0 element behind those of the packet
  number : length stamps + count (with_offset p.0 here) ≡ length known
  number =
      ap (λ (es : List Elem). length stamps + length (p0s_in es)) (unplaced_placed p.0 here)
      ∙ ap (λ (k : ℕ). length stamps + k) (sym (length-map (p0s_in here) (λ (p0 : P0). begun.stamp))) ∙ sym (length-append stamps (stamps_in begun.stamp here))

  packet_beside : (b : Bool) → (next_t.fault ≡ None → Later known next_u next_t)
      → Beside (stamps ++ (stamps_in begun.stamp here ++ others))
      (awaits
      (run depth (length stamps) u (if b then record { elements = []; awaited = Some p.0; told = t.told } else with_gained (with_offset p.0 here) further).elements)
      (if b then record { elements = []; awaited = Some p.0; told = t.told } else with_gained (with_offset p.0 here) further).awaited)
      (after_packets depth (if b then record t { fault = Some (p.0, AddressAwaited) } else next_t) packets)
  packet_beside true on =
      let stop : ℕ × Fault = (p.0, AddressAwaited) in let stopped : Times = record t { fault = Some stop } in let more = stamps_in begun.stamp here ++ others in
      let so : record u { fault = Some stop } ≡ awaits u (Some p.0) =
      sym (ap (λ (f : Option (ℕ × Fault)). if is_some f then u else record u { fault = Some stop }) (sym is.fault ∙ none)) in
      subst (Beside (stamps ++ more) (awaits u (Some p.0))) (sym (packets_stop depth stopped stop packets refl))
      (subst (λ (w : Times). Beside (stamps ++ more) w stopped) so
      (more_beside stamps more (record u { fault = Some stop }) stopped (record { pending = is.pending; held = is.held; done = is.done; fault = refl })))
  packet_beside false on =
      let so : run depth (length known) next_u further.elements ≡ run depth (length stamps) u (with_offset p.0 here ++ further.elements) =
      sym (run-append depth (length stamps) u (with_offset p.0 here) further.elements ∙ ap (λ (k : ℕ). run depth k next_u further.elements) number) in
      subst (λ (l : List Stamp). Beside l (awaits (run depth (length stamps) u (with_offset p.0 here ++ further.elements)) further.awaited)
      (after_packets depth next_t packets)) (append_assoc stamps (stamps_in begun.stamp here) others)
      (subst (λ (w : Times). Beside (known ++ others) (awaits w further.awaited) (after_packets depth next_t packets)) so (behind on next_t.fault refl))

packets_beside : (depth : ℕ) (stamps : List Stamp) (u t : Times) (packets : List (ℕ × Packet)) → t.fault ≡ None → Beside stamps u t
    → Beside (stamps ++ stamps_of t.told t.stamp packets)
    (awaits (run depth (length stamps) u (all_elements t.told packets).elements) (all_elements t.told packets).awaited) (after_packets depth t packets)
packets_beside depth stamps u t [] none is = more_beside stamps [] u t is
packets_beside depth stamps u t (p ∷ packets) none is =
    let all = all_elements t.told (p ∷ packets) in
    subst (λ (y : Times). Beside (stamps ++ stamps_of t.told t.stamp (p ∷ packets)) (awaits (run depth (length stamps) u all.elements) all.awaited)
    (after_packets depth y packets)) (sym (packet_good depth t p none))
    (packet_beside depth stamps u t p packets none is (is_misplaced t.told p.1) (λ free. packets_beside depth
    (known depth stamps u t p packets none is) (next_u depth stamps u t p packets none is) (next_t depth stamps u t p packets none is) packets free
    (first depth stamps u t p packets none is)))

-- ---- elements without a fault, and the first one with one

abbrev pub await_fault : Option ℕ → Option (ℕ × Fault)
await_fault None = None
await_fault (Some at) = Some (at, AddressAwaited)

module _ (depth : ℕ) where
  abbrev numbered : ℕ → Times → List (ℕ × Elem) → Times
  numbered n u es = after_numbered depth n u (unplaced es)

  -- the run meets no fault, and so is that without offsets
  pub record Goes (n : ℕ) (u : Times) (front : List (ℕ × Elem)) (after : Resolved) : Type 0 where
    pub same : run depth n u front ≡ numbered n u front
    pub pending : (numbered n u front).pending ≡ after.pending
    pub none : (numbered n u front).fault ≡ None

  same_ok : (a b : Resolved) → ◌≡◌ {A = Result Resolved QueueFault} (Ok a) (Ok b) → a ≡ b
  same_ok a b e = cc

  abbrev Goings : ℕ → List (ℕ × Elem) → Resolved → Type 0
  Goings n front after =
      (u : Times) (r : Resolved) → u.pending ≡ r.pending → u.fault ≡ None → resolve_all depth r (unplaced front) ≡ Ok after → Goes n u front after

  goes_on : (n : ℕ) (u : Times) (e : ℕ × Elem) (front : List (ℕ × Elem)) (r after : Resolved) (outcome : Taken) → u.fault ≡ None
      → Goings (n + made_by e.1) front after → then_resolve (with_done r.done outcome) (λ next. resolve_all depth next (unplaced front)) ≡ Ok after
      → (run depth (n + made_by e.1) (taken_so e.0 (record u { stamp = Some n }) e.1 outcome) front
      ≡ numbered (n + made_by e.1) (taken_so 0 (record u { stamp = Some n }) e.1 outcome) front)
      × ((numbered (n + made_by e.1) (taken_so 0 (record u { stamp = Some n }) e.1 outcome) front).pending ≡ after.pending)
      × ((numbered (n + made_by e.1) (taken_so 0 (record u { stamp = Some n }) e.1 outcome) front).fault ≡ None)
  goes_on n u e front r after (Ok x) none later ok =
      let so = later (taken_so 0 (record u { stamp = Some n }) e.1 (Ok x)) (record { done = r.done ++ (x.1).committed; pending = x.0 }) refl none ok in
      (so.same, so.pending, so.none)
  goes_on n u e front r after (Err f) none later ok = absurd cc

  goes : (n : ℕ) (front : List (ℕ × Elem)) (after : Resolved) → Goings n front after
  goes n [] after u r is none ok = record { same = refl; pending = is ∙ ap (λ (x : Resolved). x.pending) (same_ok r after ok); none = none }
  goes n (e ∷ front) after u r is none ok =
      let so = goes_on n u e front r after (taken depth u.pending e.1) none (goes (n + made_by e.1) front after)
      (ap (λ (p : Pending). then_resolve (with_done r.done (taken depth p e.1)) (λ next. resolve_all depth next (unplaced front))) is ∙ ok) in
      record { same = run_next depth n u e front none ∙ so.0; pending = so.1; none = so.2 }

  -- and the next one has this
  bad_run : (n : ℕ) (u : Times) (r : Resolved) (e : ℕ × Elem) (rest : List (ℕ × Elem)) (f : QueueFault) → u.pending ≡ r.pending → u.fault ≡ None
      → resolve_all depth r (e.1 ∷ []) ≡ Err f → run depth n u (e ∷ rest) ≡ record u { stamp = Some n; fault = Some (e.0, Queue f) }
  bad_run n u r e rest f is none bad =
      run_next depth n u e rest none
      ∙ by (taken depth u.pending e.1) (ap (λ (p : Pending). then_resolve (with_done r.done (taken depth p e.1)) (λ next. Ok next)) is ∙ bad)
    where
      same_err : (g : QueueFault) → ◌≡◌ {A = Result Resolved QueueFault} (Err g) (Err f) → g ≡ f
      same_err g e = cc

      by : (outcome : Taken) → then_resolve (with_done r.done outcome) (λ next. Ok next) ≡ Err f
          → run depth (n + made_by e.1) (taken_so e.0 (record u { stamp = Some n }) e.1 outcome) rest ≡ record u { stamp = Some n; fault = Some (e.0, Queue f) }
      by (Ok x) bad = absurd cc
      by (Err g) bad =
          run_stops depth (n + made_by e.1) (taken_so e.0 (record u { stamp = Some n }) e.1 (Err g)) (e.0, Queue g) rest refl
          ∙ ap (λ (q : QueueFault). record u { stamp = Some n; fault = Some (e.0, Queue q) }) (same_err g bad)

  -- ---- what packets come to, by their elements

  module _ (packets : List (ℕ × Packet)) where
    abbrev pub gained : Gained
    gained = all_elements untold packets

    abbrev all : Times
    all = times_of depth packets

    abbrev pub stamps : List Stamp
    stamps = stamps_of untold None packets

    -- the marks of what these elements commit
    abbrev pub own_marks : List (ℕ × Elem) → List Stamp
    own_marks front = (numbered 0 no_times front).done

    ran : Beside stamps (awaits (run depth 0 no_times gained.elements) gained.awaited) all
    ran = packets_beside depth [] no_times no_times packets refl (record { pending = refl; held = refl; done = refl; fault = refl })

    done_so : (u : Times) (awaited : Option ℕ) → (awaits u awaited).done ≡ u.done
    done_so u None = refl
    done_so u (Some at) = by (is_some u.fault)
      where
        by : (b : Bool) → (if b then u else record u { fault = Some (at, AddressAwaited) }).done ≡ u.done
        by true = refl
        by false = refl

    -- all elements have no fault
    pub all_good : (r : Resolved) → resolve_all depth unresolved (unplaced gained.elements) ≡ Ok r
        → AreAt stamps (own_marks gained.elements) all.done × (all.fault ≡ await_fault gained.awaited)
    all_good r ok =
        let so = goes 0 gained.elements r no_times unresolved refl refl ok in let u = numbered 0 no_times gained.elements in (
          subst (λ (ns : List Stamp). AreAt stamps ns all.done)
              (ap (λ (w : Times). (awaits w gained.awaited).done) so.same ∙ done_so u gained.awaited) ran.done,
          ran.fault ∙ ap (λ (w : Times). (awaits w gained.awaited).fault) so.same ∙ faults u gained.awaited so.none,
        )
      where
        faults : (u : Times) (awaited : Option ℕ) → u.fault ≡ None → (awaits u awaited).fault ≡ await_fault awaited
        faults u None none = none
        faults u (Some at) none = ap (λ (f : Option (ℕ × Fault)). (if is_some f then u else record u { fault = Some (at, AddressAwaited) }).fault) none

    -- one has a fault, and those before it none
    pub one_bad : (front : List (ℕ × Elem)) (e : ℕ × Elem) (rest : List (ℕ × Elem)) (r : Resolved) (f : QueueFault) → gained.elements ≡ front ++ e ∷ rest
        → resolve_all depth unresolved (unplaced front) ≡ Ok r → resolve_all depth r (e.1 ∷ []) ≡ Err f
        → AreAt stamps (own_marks front) all.done × (all.fault ≡ Some (e.0, Queue f))
    one_bad front e rest r f parts ok bad =
        let so = goes 0 front r no_times unresolved refl refl ok in let u = numbered 0 no_times front in let n = 0 + count front in
        let stopped : Times = record u { stamp = Some n; fault = Some (e.0, Queue f) } in
        let here : run depth 0 no_times gained.elements ≡ stopped =
        ap (run depth 0 no_times) parts ∙ run-append depth 0 no_times front (e ∷ rest) ∙ ap (λ (w : Times). run depth n w (e ∷ rest)) so.same
        ∙ bad_run n u r e rest f so.pending so.none bad in
        let whole : awaits (run depth 0 no_times gained.elements) gained.awaited ≡ stopped =
        ap (λ (w : Times). awaits w gained.awaited) here ∙ awaits_none stopped (e.0, Queue f) gained.awaited refl in
        (subst (λ (w : Times). AreAt stamps w.done all.done) whole ran.done, ran.fault ∙ ap (λ (w : Times). w.fault) whole)
