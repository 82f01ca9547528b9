-- The elements of joined lists of packets, and of the same packets at other offsets.
use Rattle.std.proofs.Common.{◌≡◌, ℕ, Bool, true, false, if◌then◌else◌, List, [], ◌∷◌, ◌++◌, Option, Some, None, refl, sym, ap, subst, ◌∙◌}
use Rattle.std.proofs.Common.{append-nil}
use Rattle.std.specs.Prelude.{is_some}
use Rattle.std.proofs.lemmas.List.{map-append}
use Rattle.etm_types.specs.declared.element.Elem.{Elem}
use Rattle.packet_grammar.specs.declared.packet.Packet.{Packet}
use Rattle.path_elements.specs.Elements.{Told, Gained, all_elements, elements_of, told_after, is_misplaced, with_offset, with_gained}
use Rattle.path_elements.specs.Path.{unplaced}
use Rattle.path_elements.specs.PathLaws.{BeginsWith, ElementsJoin, OffsetsDoNotCount, packets_alone}
use Rattle.path_elements.proofs.Grows.{elements_append, none_behind}

pub elements_join : ElementsJoin
elements_join told packets more none = elements_append told packets more none

-- the elements of more packets begin with those of the first ones
elements_by : (told : Told) (packets more : List (ℕ × Packet)) (awaited : Option ℕ) → (all_elements told packets).awaited ≡ awaited
    → BeginsWith (all_elements told packets).elements (all_elements told (packets ++ more)).elements
elements_by told packets more None e =
    ((all_elements (all_elements told packets).told more).elements, ap (λ (g : Gained). g.elements) (elements_append told packets more e))
elements_by told packets more (Some at) e =
    ([], ap (λ (g : Gained). g.elements) (none_behind told packets more at e) ∙ sym (append-nil (all_elements told packets).elements))

pub elements_begin : (told : Told) (packets more : List (ℕ × Packet))
    → BeginsWith (all_elements told packets).elements (all_elements told (packets ++ more)).elements
elements_begin told packets more = elements_by told packets more (all_elements told packets).awaited refl

-- ---- other offsets

-- the same elements, and the same packets may come
record Alike (g h : Gained) : Type 0 where
  elements : unplaced g.elements ≡ unplaced h.elements
  awaited : is_some g.awaited ≡ is_some h.awaited
  told : g.told ≡ h.told

placed_alone : (at : ℕ) (es : List Elem) → unplaced (with_offset at es) ≡ es
placed_alone at [] = refl
placed_alone at (e ∷ es) = ap (λ l. e ∷ l) (placed_alone at es)

behind_alone : (at : ℕ) (es : List Elem) (more : List (ℕ × Elem)) → unplaced (with_offset at es ++ more) ≡ es ++ unplaced more
behind_alone at es more = map-append (λ (e : ℕ × Elem). e.1) (with_offset at es) more ∙ ap (λ l. l ++ unplaced more) (placed_alone at es)

one_alike : (b : Bool) (told : Told) (at at' : ℕ) (es : List Elem) (g h : Gained) → Alike g h
    → Alike (if b then record { elements = []; awaited = Some at; told = told } else with_gained (with_offset at es) g)
    (if b then record { elements = []; awaited = Some at'; told = told } else with_gained (with_offset at' es) h)
one_alike true told at at' es g h alike = record { elements = refl; awaited = refl; told = refl }
one_alike false told at at' es g h alike = record {
  elements = behind_alone at es g.elements ∙ ap (λ l. es ++ l) alike.elements ∙ sym (behind_alone at' es h.elements);
  awaited = alike.awaited;
  told = alike.told;
}

all_alike : (told : Told) (packets others : List (ℕ × Packet)) → packets_alone packets ≡ packets_alone others
    → Alike (all_elements told packets) (all_elements told others)
all_alike told [] [] e = record { elements = refl; awaited = refl; told = refl }
all_alike told [] (q ∷ others) e = absurd cc
all_alike told (p ∷ packets) [] e = absurd cc
all_alike told (p ∷ packets) (q ∷ others) e =
    let packet : p.1 ≡ q.1 = cc in
    let later : packets_alone packets ≡ packets_alone others = cc in
    let alike = one_alike (is_misplaced told p.1) told p.0 q.0 (elements_of told p.1) (all_elements (told_after told p.1) packets)
    (all_elements (told_after told p.1) others) (all_alike (told_after told p.1) packets others later) in
    subst (λ (r : Packet). Alike (all_elements told (p ∷ packets)) (all_elements told ((q.0, r) ∷ others))) packet alike

pub offsets_do_not_count : OffsetsDoNotCount
offsets_do_not_count told packets others e = let alike = all_alike told packets others e in (alike.elements, alike.awaited, alike.told)
