-- Packets that tell elements, one after the other.
use Rattle.std.proofs.Common.{◌≡◌, ℕ, List, [], ◌∷◌, ◌++◌, map, Option, Some, None, refl, sym, ap, ◌∙◌}
use Rattle.std.specs.Prelude.{is_some}
use Rattle.std.proofs.lemmas.List.{map-append}
use Rattle.etm_types.specs.declared.element.Elem.{Elem}
use Rattle.packet_grammar.specs.declared.packet.Packet.{Packet}
use Rattle.path_elements.specs.Elements.{Gained, Told, all_elements, with_offset, with_gained}
use Rattle.path_elements.specs.Path.{unplaced}
use Rattle.path_elements.specs.PathLaws.{packets_alone}
use Rattle.path_elements.proofs.Joined.{elements_join, offsets_do_not_count}
use Rattle.trace_unit.specs.Telling.{AreTold}

-- each at offset 0
abbrev pub at_zero : List Packet → List (ℕ × Packet)
at_zero packets = map (λ p. (0, p)) packets

abbrev pub gained : List Elem → Told → Gained
gained elements told = record { elements = with_offset 0 elements; awaited = None; told = told }

-- the packets gain these elements, and leave this told
abbrev pub Tells : Told → List Packet → List Elem → Told → Type 0
Tells told packets elements next = all_elements told (at_zero packets) ≡ gained elements next

pub tells_none : (told : Told) → Tells told [] [] told
tells_none told = refl

pub tells_on : (told next last : Told) (xs ys : List Packet) (es fs : List Elem) → Tells told xs es next → Tells next ys fs last
    → Tells told (xs ++ ys) (es ++ fs) last
tells_on told next last xs ys es fs a b =
    ap (all_elements told) (map-append (λ (p : Packet). (0, p)) xs ys)
    ∙ elements_join told (at_zero xs) (at_zero ys) (ap (λ (g : Gained). g.awaited) a)
    ∙ ap (λ (g : Gained). with_gained g.elements (all_elements g.told (at_zero ys))) a
    ∙ ap (with_gained (with_offset 0 es)) b
    ∙ ap (λ l. record { elements = l; awaited = None; told = last }) (sym (map-append (λ (e : Elem). (0, e)) es fs))

-- ---- wherever they stand

packets_at_zero : (packets : List Packet) → packets_alone (at_zero packets) ≡ packets
packets_at_zero [] = refl
packets_at_zero (p ∷ packets) = ap (λ l. p ∷ l) (packets_at_zero packets)

elements_at_zero : (elements : List Elem) → unplaced (with_offset 0 elements) ≡ elements
elements_at_zero [] = refl
elements_at_zero (e ∷ elements) = ap (λ l. e ∷ l) (elements_at_zero elements)

none_some : (o p : Option ℕ) → is_some o ≡ is_some p → p ≡ None → o ≡ None
none_some None p e f = refl
none_some (Some at) p e f = absurd cc

pub are_told : (told : Told) (packets : List Packet) (elements : List Elem) (next : Told) → Tells told packets elements next
    → AreTold told packets elements next
are_told told packets elements next tells somewhere same =
    let alike = offsets_do_not_count told somewhere (at_zero packets) (same ∙ sym (packets_at_zero packets)) in
    record {
      are = alike.0 ∙ ap (λ (g : Gained). unplaced g.elements) tells ∙ elements_at_zero elements;
      in_place = none_some (all_elements told somewhere).awaited (all_elements told (at_zero packets)).awaited alike.1 (ap (λ (g : Gained). g.awaited) tells);
      behind = alike.2 ∙ ap (λ (g : Gained). g.told) tells;
    }
