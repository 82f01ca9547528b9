-- What packets come to, from their front on: lines and marks that are there stay, and nothing follows a fault.
use Rattle.std.proofs.Common.{◌≡◌, ℕ, Bool, true, false, if◌then◌else◌, List, [], ◌∷◌, ◌++◌, Option, Some, None, Ok, Err, refl, ap, sym, ◌∙◌}
use Rattle.std.proofs.Common.{append-nil, append_assoc}
use Rattle.std.specs.Prelude.{is_some, option_to_list}
use Rattle.std.specs.List.{concat}
use Rattle.std.proofs.lemmas.List.{map-append}
use Rattle.std.proofs.lemmas.List.Folds.{concat-append}
use Rattle.element_queue.specs.Pending.{Taken, taken}
use Rattle.etm_types.specs.declared.element.Elem.{Elem}
use Rattle.packet_grammar.specs.declared.packet.Packet.{Packet}
use Rattle.packet_grammar.specs.declared.stream_fault.Fault.{Fault}
use Rattle.packet_grammar.specs.declared.stream_fault.Fault.TheVariants.{AddressAwaited}
use Rattle.path_elements.specs.Elements.{elements_of, is_misplaced}
use Rattle.time_marks.specs.Stamps.{Stamp}
use Rattle.time_marks.specs.TimeLines.{mark_line, mark_lines, shown_of, time_line, time_lines}
use Rattle.time_marks.specs.Times.{Times, after_element, after_elements, after_good, after_packet, after_packets, event_lines, marks_out}
use Rattle.time_marks.specs.Times.{marks_with, opened, taken_so}
use Rattle.time_marks.specs.declared.time_line.TimeLine.{TimeLine}

-- ---- lines

pub lines-append : (id : ℕ) (xs ys : List TimeLine) → time_lines id (xs ++ ys) ≡ time_lines id xs ++ time_lines id ys
lines-append id xs ys = map-append (time_line id) xs ys

pub text-append : (id : ℕ) (xs ys : List TimeLine) → concat (time_lines id xs) ++ concat (time_lines id ys) ≡ concat (time_lines id (xs ++ ys))
text-append id xs ys = sym (ap concat (lines-append id xs ys) ∙ concat-append (time_lines id xs) (time_lines id ys))

pub marks-append : (done xs ys : List Stamp) → mark_lines done (xs ++ ys) ≡ mark_lines done xs ++ mark_lines (done ++ xs) ys
marks-append done [] ys = ap (λ (d : List Stamp). mark_lines d ys) (sym (append-nil done))
marks-append done (x ∷ xs) ys =
    let first = option_to_list (mark_line (shown_of done) x) in
    ap (λ (l : List TimeLine). first ++ l) (marks-append (done ++ x ∷ []) xs ys)
    ∙ sym (append_assoc first (mark_lines (done ++ x ∷ []) xs) (mark_lines ((done ++ x ∷ []) ++ xs) ys))
    ∙ ap (λ (d : List Stamp). (first ++ mark_lines (done ++ x ∷ []) xs) ++ mark_lines d ys) (append_assoc done (x ∷ []) xs)

-- ---- what is printed stays

abbrev pub Grows : Times → Times → Type 0
Grows t t' = (more : List TimeLine) × (t'.lines ≡ t.lines ++ more)

pub grows_none : (t : Times) → Grows t t
grows_none t = ([], sym (append-nil t.lines))

pub grows_on : (a b c : Times) → Grows a b → Grows b c → Grows a c
grows_on a b c (xs, p) (ys, q) = (xs ++ ys, q ∙ ap (λ (l : List TimeLine). l ++ ys) p ∙ append_assoc a.lines xs ys)

taken_grows : (at : ℕ) (t : Times) (e : Elem) (outcome : Taken) → Grows t (taken_so at t e outcome)
taken_grows at t e (Ok x) = (mark_lines t.done (marks_out x.1 (marks_with t e)), refl)
taken_grows at t e (Err f) = grows_none t

pub element_grows : (depth at : ℕ) (t : Times) (e : Elem) → Grows t (after_element depth at t e)
element_grows depth at t e = taken_grows at t e (taken depth t.pending e)

grows_if : (b : Bool) (t t' : Times) → Grows t t' → Grows t (if b then t else t')
grows_if true t t' grows = grows_none t
grows_if false t t' grows = grows

pub elements_grow : (depth at : ℕ) (t : Times) (elements : List Elem) → Grows t (after_elements depth at t elements)
elements_grow depth at t [] = grows_none t
elements_grow depth at t (e ∷ elements) =
    let next = after_element depth at t e in
    grows_if (is_some t.fault) t (after_elements depth at next elements)
    (grows_on t next (after_elements depth at next elements) (element_grows depth at t e) (elements_grow depth at next elements))

good_grows_if : (b : Bool) (t stopped t' : Times) → Grows t stopped → Grows t t' → Grows t (if b then stopped else t')
good_grows_if true t stopped t' one other = one
good_grows_if false t stopped t' one other = other

pub good_grows : (depth : ℕ) (t : Times) (p : ℕ × Packet) → Grows t (after_good depth t p)
good_grows depth t p =
    let begun = opened t p.1 in let all = after_elements depth p.0 begun (elements_of t.told p.1) in
    good_grows_if (is_misplaced t.told p.1) t (record t { fault = Some (p.0, AddressAwaited) }) all (grows_none t)
    (grows_on t begun all (event_lines t.told.informed t.stamp p.1, refl) (elements_grow depth p.0 begun (elements_of t.told p.1)))

pub packet_grows : (depth : ℕ) (t : Times) (p : ℕ × Packet) → Grows t (after_packet depth t p)
packet_grows depth t p = grows_if (is_some t.fault) t (after_good depth t p) (good_grows depth t p)

pub packets_grow : (depth : ℕ) (t : Times) (packets : List (ℕ × Packet)) → Grows t (after_packets depth t packets)
packets_grow depth t [] = grows_none t
packets_grow depth t (p ∷ packets) =
    let next = after_packet depth t p in
    grows_on t next (after_packets depth next packets) (packet_grows depth t p) (packets_grow depth next packets)

-- ---- packets one after the other

pub packets-append : (depth : ℕ) (t : Times) (xs ys : List (ℕ × Packet)) → after_packets depth t (xs ++ ys) ≡ after_packets depth (after_packets depth t xs) ys
packets-append depth t [] ys = refl
packets-append depth t (p ∷ xs) ys = packets-append depth (after_packet depth t p) xs ys

-- where no fault was met
pub packet_good : (depth : ℕ) (t : Times) (p : ℕ × Packet) → t.fault ≡ None → after_packet depth t p ≡ after_good depth t p
packet_good depth t p none = ap (λ (f : Option (ℕ × Fault)). if is_some f then t else after_good depth t p) none

-- nothing follows a fault
pub packets_stop : (depth : ℕ) (t : Times) (stop : ℕ × Fault) (packets : List (ℕ × Packet)) → t.fault ≡ Some stop → after_packets depth t packets ≡ t
packets_stop depth t stop [] some = refl
packets_stop depth t stop (p ∷ packets) some =
    let here : after_packet depth t p ≡ t = ap (λ (f : Option (ℕ × Fault)). if is_some f then t else after_good depth t p) some in
    ap (λ (x : Times). after_packets depth x packets) here ∙ packets_stop depth t stop packets some

pub elements_stop : (depth at : ℕ) (t : Times) (stop : ℕ × Fault) (elements : List Elem) → t.fault ≡ Some stop → after_elements depth at t elements ≡ t
elements_stop depth at t stop [] some = refl
elements_stop depth at t stop (e ∷ elements) some =
    ap (λ (f : Option (ℕ × Fault)). if is_some f then t else after_elements depth at (after_element depth at t e) elements) some

pub elements_next : (depth at : ℕ) (t : Times) (e : Elem) (elements : List Elem) → t.fault ≡ None
    → after_elements depth at t (e ∷ elements) ≡ after_elements depth at (after_element depth at t e) elements
elements_next depth at t e elements none =
    ap (λ (f : Option (ℕ × Fault)). if is_some f then t else after_elements depth at (after_element depth at t e) elements) none
