-- What became of the P0 elements is what a tally of the elements says.
use Rattle.std.proofs.Common.{◌≡◌, ℕ, Bool, true, false, if◌then◌else◌, List, [], ◌∷◌, ◌++◌, Option, Some, None, Ok, Err, refl, ap, sym, ◌∙◌}
use Rattle.std.specs.Prelude.{is_some}
use Rattle.element_queue.specs.Counting.{counts_after, made_by, tally, tally_step}
use Rattle.element_queue.specs.Pending.{Gone, Pending, Taken, taken}
use Rattle.element_queue.specs.declared.ledger.Counts.{Counts}
use Rattle.etm_types.specs.declared.element.Elem.{Elem}
use Rattle.packet_grammar.specs.declared.packet.Packet.{Packet}
use Rattle.packet_grammar.specs.declared.stream_fault.Fault.{Fault}
use Rattle.packet_grammar.specs.declared.stream_fault.Fault.TheVariants.{AddressAwaited, Queue}
use Rattle.path_elements.specs.Elements.{Gained, Told, all_elements, elements_of, is_misplaced, with_offset, told_after, with_gained}
use Rattle.path_elements.specs.Path.{unplaced}
use Rattle.time_marks.proofs.Growing.{elements_next, elements_stop, packet_good, packets_stop}
use Rattle.time_marks.specs.Times.{Times, after_element, after_elements, after_packets, opened, taken_so}

-- ---- elements

-- what is counted once others come, if there was no fault
abbrev counted_with : ℕ → Times → List Elem → Option (ℕ × Fault) → Counts
counted_with depth t more None = tally depth t.pending t.counts more
counted_with depth t more (Some stop) = t.counts

abbrev counted_on : ℕ → Times → List Elem → Counts
counted_on depth t more = counted_with depth t more t.fault

counted_stop : (depth : ℕ) (t : Times) (more : List Elem) (stop : ℕ × Fault) → t.fault ≡ Some stop → counted_on depth t more ≡ t.counts
counted_stop depth t more stop some = ap (counted_with depth t more) some

step_counted : (depth at : ℕ) (t : Times) (e : Elem) (es more : List Elem) (outcome : Taken)
    → ((x : Pending × Gone) → tally depth x.0 (counts_after t.counts (made_by e) x.1) (es ++ more)
    ≡ counted_on depth (after_elements depth at (taken_so at t e (Ok x)) es) more)
    → tally_step t.counts e outcome (λ p c. tally depth p c (es ++ more)) ≡ counted_on depth (after_elements depth at (taken_so at t e outcome) es) more
step_counted depth at t e es more (Ok x) later = later x
step_counted depth at t e es more (Err f) later =
    let stopped : Times = taken_so at t e (Err f) in
    sym (ap (λ (x : Times). counted_on depth x more) (elements_stop depth at stopped (at, Queue f) es refl))

elements_counted : (depth at : ℕ) (t : Times) (elements more : List Elem) → t.fault ≡ None
    → tally depth t.pending t.counts (elements ++ more) ≡ counted_on depth (after_elements depth at t elements) more
elements_counted depth at t [] more none = sym (ap (counted_with depth t more) none)
elements_counted depth at t (e ∷ es) more none =
    step_counted depth at t e es more (taken depth t.pending e) (λ x. elements_counted depth at (taken_so at t e (Ok x)) es more none)
    ∙ sym (ap (λ (x : Times). counted_on depth x more) (elements_next depth at t e es none))

-- elements change nothing that packets gave
told_so : (at : ℕ) (t : Times) (e : Elem) (outcome : Taken) → (taken_so at t e outcome).told ≡ t.told
told_so at t e (Ok x) = refl
told_so at t e (Err f) = refl

told_if : (b : Bool) (t t' : Times) → t'.told ≡ t.told → (if b then t else t').told ≡ t.told
told_if true t t' same = refl
told_if false t t' same = same

pub told_kept : (depth at : ℕ) (t : Times) (elements : List Elem) → (after_elements depth at t elements).told ≡ t.told
told_kept depth at t [] = refl
told_kept depth at t (e ∷ es) =
    let next = after_element depth at t e in
    told_if (is_some t.fault) t (after_elements depth at next es) (told_kept depth at next es ∙ told_so at t e (taken depth t.pending e))

-- ---- packets

unplaced_behind : (at : ℕ) (es : List Elem) (more : List (ℕ × Elem)) → unplaced (with_offset at es ++ more) ≡ es ++ unplaced more
unplaced_behind at [] more = refl
unplaced_behind at (e ∷ es) more = ap (λ (l : List Elem). e ∷ l) (unplaced_behind at es more)

module _ (depth : ℕ) (t : Times) (p : ℕ × Packet) (packets : List (ℕ × Packet)) (none : t.fault ≡ None) where
  abbrev here : List Elem
  here = elements_of t.told p.1

  abbrev begun : Times
  begun = opened t p.1

  abbrev later : Gained
  later = all_elements (told_after t.told p.1) packets

  -- what is counted of the others, where they are counted from there on
  abbrev Counted : Times → Type 0
  Counted x = x.fault ≡ None → (after_packets depth x packets).counts ≡ tally depth x.pending x.counts (unplaced (all_elements x.told packets).elements)

  behind : (x : Times) → x.told ≡ told_after t.told p.1 → Counted x → (met : Option (ℕ × Fault)) → x.fault ≡ met
      → counted_with depth x (unplaced later.elements) met ≡ (after_packets depth x packets).counts
  behind x told counted None free =
      sym (counted free ∙ ap (λ (g : Told). tally depth x.pending x.counts (unplaced (all_elements g packets).elements)) told)
  behind x told counted (Some stop) some = sym (ap (λ (y : Times). y.counts) (packets_stop depth x stop packets some))

  one_counted : (b : Bool) → Counted (after_elements depth p.0 begun here)
      → (after_packets depth (if b then record t { fault = Some (p.0, AddressAwaited) } else after_elements depth p.0 begun here) packets).counts
      ≡ tally depth t.pending t.counts
      (unplaced (if b then record { elements = []; awaited = Some p.0; told = t.told } else with_gained (with_offset p.0 here) later).elements)
  one_counted true counted =
      let stopped : Times = record t { fault = Some (p.0, AddressAwaited) } in
      ap (λ (x : Times). x.counts) (packets_stop depth stopped (p.0, AddressAwaited) packets refl)
  one_counted false counted =
      let x = after_elements depth p.0 begun here in
      sym (
      ap (tally depth t.pending t.counts) (unplaced_behind p.0 here later.elements)
      ∙ elements_counted depth p.0 begun here (unplaced later.elements) none
      ∙ behind x (told_kept depth p.0 begun here) counted x.fault refl
      )

pub packets_counted : (depth : ℕ) (t : Times) (packets : List (ℕ × Packet)) → t.fault ≡ None
    → (after_packets depth t packets).counts ≡ tally depth t.pending t.counts (unplaced (all_elements t.told packets).elements)
packets_counted depth t [] none = refl
packets_counted depth t (p ∷ packets) none =
    ap (λ (x : Times). (after_packets depth x packets).counts) (packet_good depth t p none)
    ∙ one_counted depth t p packets none (is_misplaced t.told p.1)
    (packets_counted depth (after_elements depth p.0 (opened t p.1) (elements_of t.told p.1)) packets)
