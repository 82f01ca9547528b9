-- What is gained of a list of packets, from its front on.
use Rattle.std.proofs.Common.{◌≡◌, ℕ, Bool, true, false, if◌then◌else◌, List, [], ◌∷◌, ◌++◌, Option, Some, None, refl, sym, ap, ◌∙◌}
use Rattle.std.proofs.lemmas.List.{append_assoc, append-nil}
use Rattle.etm_types.specs.declared.element.Elem.{Elem}
use Rattle.packet_grammar.specs.declared.packet.Packet.{Packet}
use Rattle.path_elements.specs.Elements.{Told, Gained, all_elements, elements_of, told_after, is_misplaced, with_offset, with_gained}
use Rattle.path_elements.specs.Laws.{EachPacketAdds, NoneBehind}

same_gained : (elements others : List (ℕ × Elem)) (awaited other : Option ℕ) (told : Told) → elements ≡ others → awaited ≡ other
    → ◌≡◌ {A = Gained} (record { elements = elements; awaited = awaited; told = told }) (record { elements = others; awaited = other; told = told })
same_gained elements others awaited other told same as_well = cc

-- where packets end that may not all come
abbrev stopped : Told → ℕ → Gained
stopped told at = record { elements = []; awaited = Some at; told = told }

gained_both : (here : List (ℕ × Elem)) (elements : List (ℕ × Elem)) (g : Gained) → with_gained here (with_gained elements g) ≡ with_gained (here ++ elements) g
gained_both here elements g =
    same_gained (here ++ (elements ++ g.elements)) (here ++ elements ++ g.elements) g.awaited g.awaited g.told (sym (append_assoc here elements g.elements))
    refl

goes_on : (b : Bool) (told : Told) (at : ℕ) (here : List (ℕ × Elem)) (front whole : Gained) (packets : List (ℕ × Packet))
    → (front.awaited ≡ None → whole ≡ with_gained front.elements (all_elements front.told packets))
    → (if b then stopped told at else with_gained here front).awaited ≡ None
    → (if b then stopped told at else with_gained here whole)
    ≡ with_gained (if b then stopped told at else with_gained here front).elements
    (all_elements (if b then stopped told at else with_gained here front).told packets)
goes_on true told at here front whole packets later none = absurd (cc)
goes_on false told at here front whole packets later none =
    ap (λ (g : Gained). with_gained here g) (later none) ∙ gained_both here front.elements (all_elements front.told packets)

-- after packets that all may come where they do, what is gained of others is that from there on
pub elements_append : (told : Told) (packets more : List (ℕ × Packet)) → (all_elements told packets).awaited ≡ None
    → all_elements told (packets ++ more) ≡ with_gained (all_elements told packets).elements (all_elements (all_elements told packets).told more)
elements_append told [] more none = refl
elements_append told (p ∷ packets) more none =
    let after = told_after told p.1 in
    goes_on (is_misplaced told p.1) told p.0 (with_offset p.0 (elements_of told p.1)) (all_elements after packets) (all_elements after (packets ++ more)) more
    (elements_append after packets more) none

stays : (b : Bool) (told : Told) (at stop : ℕ) (here : List (ℕ × Elem)) (front whole : Gained)
    → (front.awaited ≡ Some at → whole ≡ front)
    → (if b then stopped told stop else with_gained here front).awaited ≡ Some at
    → (if b then stopped told stop else with_gained here whole) ≡ (if b then stopped told stop else with_gained here front)
stays true told at stop here front whole later some = refl
stays false told at stop here front whole later some = ap (λ (g : Gained). with_gained here g) (later some)

pub none_behind : NoneBehind
none_behind told [] more at some = absurd (cc)
none_behind told (p ∷ packets) more at some =
    let after = told_after told p.1 in
    stays (is_misplaced told p.1) told at p.0 (with_offset p.0 (elements_of told p.1)) (all_elements after packets) (all_elements after (packets ++ more))
    (none_behind after packets more at) some

one_more : (b : Bool) (g : Gained) (at : ℕ) (here : List (ℕ × Elem)) (after : Told) → g.awaited ≡ None
    → with_gained g.elements (if b then stopped g.told at else with_gained here (record { elements = []; awaited = None; told = after }))
    ≡ (if b then record g { awaited = Some at } else record g { elements = g.elements ++ here; told = after })
one_more true g at here after none = same_gained (g.elements ++ []) g.elements (Some at) (Some at) g.told (append-nil g.elements) refl
one_more false g at here after none =
    same_gained (g.elements ++ (here ++ [])) (g.elements ++ here) None g.awaited after (ap (λ (xs : List (ℕ × Elem)). g.elements ++ xs) (append-nil here))
    (sym none)

pub each_packet_adds : EachPacketAdds
each_packet_adds told packets at packet none =
    let g = all_elements told packets in
    elements_append told packets ((at, packet) ∷ []) none
    ∙ one_more (is_misplaced g.told packet) g at (with_offset at (elements_of g.told packet)) (told_after g.told packet) none
