-- Each instruction that is counted is a word of the image.
use Rattle.std.proofs.Common.{◌≡◌, ◌^◌, ℕ, ◌<◌, Bool, true, false, List, [], ◌∷◌, ◌++◌, length, take, inl, inr, refl, sym, ap}
use Rattle.std.proofs.Common.{subst, arith}
use Rattle.std.specs.Prelude.{All, IsSome}
use Rattle.std.proofs.Math.Seq.{drop-append_seam}
use Rattle.std.proofs.lemmas.Bool.Decides.{eqb_tells}
use Rattle.std.proofs.lemmas.List.Elements.{All-append, All-drop, All-head, All-nil, All-tail}
use Rattle.etm_types.specs.Settings.{Sizes}
use Rattle.etm_types.specs.declared.element.Elem.{Elem}
use Rattle.etm_types.specs.declared.item.Item.{Item}
use Rattle.etm_types.specs.declared.item.Item.TheVariants as item
use Rattle.packet_grammar.specs.declared.end.End.{End}
use Rattle.packet_grammar.specs.declared.stream_fault.Fault.{Fault}
use Rattle.capture_streams.specs.Texts.{AddedFrom, AddsIf, by_sizes, is_source}
use Rattle.packet_grammar.specs.declared.stream_fault.Fault.TheVariants as fault
use Rattle.path_counts.specs.Counts.{is_at, times}
use Rattle.path_counts.specs.Levels.{one_if}
use Rattle.path_elements.specs.Path.{IsPath, IsPathOfElements, StopsBehind, WalksAll}
use Rattle.program_image.specs.Blocks.{behind}
use Rattle.program_image.specs.Part.{word_of}
use Rattle.program_image.specs.declared.image.Image.{Image}
use Rattle.stream_decoder.specs.Follows.{items_under}
use Rattle.count_streams.proofs.PathWords.{HasWord, walks_words}
use Rattle.count_streams.specs.CountLaws.{OnlyWordsAreCounted}
use Rattle.count_streams.specs.Counted.{counted, items_alone}

module _ (image : Image) where
  abbrev Has : Item → Type 0
  Has = HasWord image

  -- ---- the items of a path

  all_walked : (depth : ℕ) (elements : List (ℕ × Elem)) (items : List Item) → WalksAll image depth elements items → All Has items
  all_walked depth elements items w = walks_words image _ (w.resolved).done items _ w.walks

  before_stop : (depth : ℕ) (elements : List (ℕ × Elem)) (before items : List Item) (stop : Fault) → All Has before
      → StopsBehind image depth elements before items stop → All Has items
  before_stop depth elements before items (fault.Packet why) all stops = absurd stops
  before_stop depth elements before items fault.AddressAwaited all stops = absurd stops
  before_stop depth elements before items (fault.Queue why) all stops = subst (All Has) (sym stops.1) all
  before_stop depth elements before items (fault.Walk why) all stops = walks_words image _ (stops.0).done items _ stops.2

  of_elements : (depth : ℕ) (elements : List (ℕ × Elem)) (ending : End) (items : List Item) (last : End) (took : List (ℕ × Elem))
      → IsPathOfElements image depth elements ending items last took → All Has items
  of_elements depth elements ending items last took (inl all) = all_walked depth elements items all.0
  of_elements depth elements ending items last took (inr f) =
      before_stop depth took f.before items f.fault (all_walked depth (take f.count elements) f.before f.none_before) f.stops

  of_path : (s : Sizes) (bytes : List ℕ) (items : List Item) (last : End) → IsPath image s bytes items last → All Has items
  of_path s bytes items last (took, (packets, ending, stream, path)) = of_elements s.depth _ _ items last took path

  -- ---- those of pairs

  module _ (t : ℕ → Sizes) where
    of_pair : (source : Bool) (before : List (ℕ × ℕ)) (pair : ℕ × ℕ) (items : List Item) → AddsIf source (by_sizes (counted image) t) before pair items
        → All Has items
    of_pair true before pair items adds =
        subst (All Has) (drop-append_seam adds.items items)
        (All-drop Has (length adds.items) (adds.items ++ items) (of_path (t pair.0) _ (adds.items ++ items) adds.next adds.is))
    of_pair false before pair items none = subst (All Has) (sym none) (All-nil Has)

    alone-under : (id : ℕ) (own : List Item) (others : List (ℕ × Item)) → items_alone (items_under id own ++ others) ≡ own ++ items_alone others
    alone-under id [] others = refl
    alone-under id (i ∷ own) others = ap (λ (l : List Item). i ∷ l) (alone-under id own others)

    of_pairs : (before pairs : List (ℕ × ℕ)) (items : List (ℕ × Item)) → AddedFrom (by_sizes (counted image) t) before pairs items
        → All Has (items_alone items)
    of_pairs before [] items none = subst (λ (l : List (ℕ × Item)). All Has (items_alone l)) (sym none) (All-nil Has)
    of_pairs before (pair ∷ pairs) items (first, rest, adds, later, is) =
        subst (λ (l : List (ℕ × Item)). All Has (items_alone l)) (sym is)
        (subst (All Has) (sym (alone-under pair.0 first rest))
        (All-append Has first (items_alone rest) (of_pair (is_source pair.0) before pair first adds) (of_pairs (before ++ pair ∷ []) pairs rest later)))

  -- ---- one that is counted is a word

  was_counted : (a : ℕ) (i : Item) (items : List Item) → a < 2 ^ 64 → All Has (i ∷ items)
      → (0 < times (is_at a) items → IsSome (word_of image a)) → 0 < times (is_at a) (i ∷ items) → IsSome (word_of image a)
  was_counted a (item.Instr b ctx took) items small all rest some = elim (eqb_tells b a) [
    | inl same ↦
        let here : behind b 0 ≡ a = omega (arith, same.1, small) in
        subst (λ (x : ℕ). IsSome (word_of image x)) here (All-head Has (item.Instr b ctx took) items all)
    | inr differ ↦ let none = ap one_if differ.0 in rest (omega (arith, some, none))
  ]
  was_counted a item.On items small all rest some = rest (omega (arith, some))
  was_counted a item.Unknown items small all rest some = rest (omega (arith, some))
  was_counted a item.Gap items small all rest some = rest (omega (arith, some))
  was_counted a item.Stop items small all rest some = rest (omega (arith, some))
  was_counted a (item.Exc kind ret) items small all rest some = rest (omega (arith, some))

  counted_words : (a : ℕ) (items : List Item) → a < 2 ^ 64 → All Has items → 0 < times (is_at a) items → IsSome (word_of image a)
  counted_words a [] small all some = absurd (omega (arith, some))
  counted_words a (i ∷ items) small all some =
      was_counted a i items small all (λ more. counted_words a items small (All-tail Has i items all) more) some

pub only_words_are_counted : OnlyWordsAreCounted
only_words_are_counted image t pairs items added address small some =
    counted_words image address (items_alone items) small (of_pairs image t [] pairs items added) some
