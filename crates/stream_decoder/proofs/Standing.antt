-- What the bytes at which a decoding stands say of it.
use Rattle.std.proofs.Common.{◌≡◌, ℕ, ◌==◌, false, if◌then◌else◌, List, [], ◌∷◌, length, inl, inr, arith, Option, Some, None, Ok, refl, sym, ap, subst, ◌∙◌}
use Rattle.element_queue.specs.Counting.{no_counts, tally}
use Rattle.element_queue.specs.Resolved.{at_first}
use Rattle.etm_types.specs.Settings.{AreSettings, Sizes}
use Rattle.etm_types.specs.declared.element.Elem.{Elem}
use Rattle.etm_types.specs.declared.item.Item.{Item}
use Rattle.packet_grammar.specs.Ends.{end_of, is_fault}
use Rattle.packet_grammar.specs.Parsed.{Ending, IsStream, no_sync}
use Rattle.packet_grammar.specs.declared.end.End.{End}
use Rattle.packet_grammar.specs.declared.end.End.TheVariants as end
use Rattle.packet_grammar.specs.declared.packet.Packet.{Packet}
use Rattle.packet_grammar.specs.declared.stream_fault.Fault.{Fault}
use Rattle.packet_reader.specs.Answered.{fault_of}
use Rattle.packet_reader.proofs.Adds.{nothing_is_a_stream}
use Rattle.std.proofs.lemmas.Bool.{eqb-true}
use Rattle.path_text.specs.EndLines.{end_line}
use Rattle.path_walker.proofs.Search.{cases}
use Rattle.path_walker.specs.State.{first_state}
use Rattle.path_elements.proofs.BytePaths.{one_path}
use Rattle.path_elements.proofs.Paths.{runs_to_path}
use Rattle.path_elements.specs.Elements.{Gained}
use Rattle.path_elements.specs.Path.{end_behind, IsPathOfElements, IsPathTaking, unplaced}
use Rattle.program_image.specs.declared.image.Image.{Image}
use Rattle.stream_decoder.specs.Decoding.{Decoding, depth_of}
use Rattle.stream_decoder.specs.Stands.{Came, ComesTo, end_at, shows_walk_fault}
use Rattle.stream_decoder.specs.Yields.{is_walk_fault}

-- the bytes parse so, and their path ends so, by the fault that was met
pub record EndsSo (image : Image) (d : Decoding) (bytes : List ℕ) (items : List Item) (took : List (ℕ × Elem)) : Type 0 where
  pub packets : List (ℕ × Packet)
  pub ending : Ending
  pub stream : IsStream ((d.reader).settings) bytes packets ending
  pub free : d.fault ≡ None → fault_of ending ≡ None
  pub path : IsPathTaking image ((d.reader).settings) bytes items (end_at d.fault ending) took

module _ (image : Image) (d : Decoding) (bytes : List ℕ) (items : List Item) where
  ends_by : (met : Option (ℕ × Fault)) (took : List (ℕ × Elem)) → d.fault ≡ met → ComesTo met image d bytes items took → EndsSo image d bytes items took
  ends_by (Some stop) took is path =
      record {
        packets = path.0;
        ending = path.1;
        stream = path.2;
        free = λ none. absurd (let e : Some stop ≡ None = sym is ∙ none in cc);
        path = subst (λ (f : Option (ℕ × Fault)). IsPathTaking image ((d.reader).settings) bytes items (end_at f path.1) took) (sym is) path;
      }
  ends_by None took is c =
      let path = runs_to_path image (depth_of d) took (end_of c.1) items (Ok (d.pending, d.walk)) took c.5 in
      record {
        packets = c.0;
        ending = c.1;
        stream = c.2;
        free = λ none. c.3;
        path = subst (λ (f : Option (ℕ × Fault)). IsPathTaking image ((d.reader).settings) bytes items (end_at f c.1) took) (sym is) (
          c.0,
          c.1,
          c.2,
          subst (λ (g : Gained). IsPathOfElements image (depth_of d) g.elements (end_behind g.awaited c.1) items (end_of c.1) took)
              (sym c.4) path,
        );
      }

  pub ends_so : (came : Came image d bytes items) → EndsSo image d bytes items came.took
  ends_so came = ends_by d.fault came.took refl came.comes

  walk_fault_shown : (f : Option (ℕ × Fault)) (ending : Ending) → shows_walk_fault (end_at f ending) ≡ false → is_walk_fault f ≡ false
  walk_fault_shown None ending e = refl
  walk_fault_shown (Some stop) ending e = e

  module _ (came : Came image d bytes items) (are : AreSettings ((d.reader).settings)) (others : List Item) (last : End) (took : List (ℕ × Elem))
      (path : IsPathTaking image ((d.reader).settings) bytes others last took) where
    same : (items ≡ others) × (end_at d.fault (ends_so came).ending ≡ last) × (came.took ≡ took)
    same = one_path image ((d.reader).settings) are bytes items others (end_at d.fault (ends_so came).ending) last came.took took (ends_so came).path path

    pub made_of : (d.counts).made ≡ (tally (depth_of d) at_first no_counts (unplaced took)).made
    made_of = came.made ∙ ap (λ (l : List (ℕ × Elem)). (tally (depth_of d) at_first no_counts (unplaced l)).made) same.2

    pub counts_of : shows_walk_fault last ≡ false → d.counts ≡ tally (depth_of d) at_first no_counts (unplaced took)
    counts_of free =
        came.counts (walk_fault_shown d.fault (ends_so came).ending (ap shows_walk_fault same.1 ∙ free))
        ∙ ap (λ (l : List (ℕ × Elem)). tally (depth_of d) at_first no_counts (unplaced l)) same.2

    -- the end that is known
    pub end_known : (known : End)
        → ((packets : List (ℕ × Packet)) (ending : Ending) → IsStream ((d.reader).settings) bytes packets ending → (d.fault ≡ None → fault_of ending ≡ None)
        → known ≡ end_at d.fault ending) → known ≡ last
    end_known known by = let so = ends_so came in by so.packets so.ending so.stream so.free ∙ same.1

-- the path of no bytes
nothing_shown : (image : Image) (s : Sizes) → IsPathTaking image s [] [] end.NoSync []
nothing_shown image s =
    ([], no_sync, nothing_is_a_stream s, runs_to_path image s.depth [] end.NoSync [] (Ok (at_first, first_state)) [] (refl, refl, refl))

pub nothing_ends_whole : (image : Image) (s : Sizes) → AreSettings s → (bytes : List ℕ) (items : List Item) (last : End) (took : List (ℕ × Elem))
    → length bytes ≡ 0 → IsPathTaking image s bytes items last took → false ≡ is_fault last
nothing_ends_whole image s are [] items last took none path =
    ap is_fault (one_path image s are [] [] items end.NoSync last [] took (nothing_shown image s) path).1
nothing_ends_whole image s are (b ∷ bytes) items last took none path = absurd (omega (arith, none))

-- what is printed of the end
pub printed_end : (id : ℕ) (bytes : List ℕ) (last : End) → (length bytes ≡ 0 → ⊥)
    → end_line id last ≡ (if length bytes == 0 then [] else end_line id last)
printed_end id [] last some = absurd (some refl)
printed_end id (b ∷ bytes) last some = elim (cases (length (b ∷ bytes) == 0)) [
  | inl t ↦ absurd (omega (arith, eqb-true (length (b ∷ bytes)) 0 t))
  | inr f ↦ rw f refl
]

pub printed_nothing : (id : ℕ) (bytes : List ℕ) (last : End) → length bytes ≡ 0 → [] ≡ (if length bytes == 0 then [] else end_line id last)
printed_nothing id [] last none = refl
printed_nothing id (b ∷ bytes) last none = absurd (omega (arith, none))
