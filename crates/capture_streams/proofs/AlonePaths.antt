-- The lines of one stream among paths are those of the path of its own bytes.
use Rattle.std.proofs.Common.{◌≡◌, ℕ, zero, suc, ◌==◌, if◌then◌else◌, Bool, true, false, List, [], ◌∷◌, ◌++◌, Option, Some, None, inl, inr}
use Rattle.std.proofs.Common.{sym, ap, subst, ◌∙◌, append-nil, append_assoc}
use Rattle.std.specs.Prelude.{All}
use Rattle.std.proofs.lemmas.List.{map-append}
use Rattle.std.proofs.lemmas.List.Elements.{All-append, All-cons, All-map, All-nil}
use Rattle.etm_types.specs.Settings.{Sizes, AreSettings}
use Rattle.etm_types.specs.declared.context.Ctx.{Ctx}
use Rattle.etm_types.specs.declared.item.Item.{Item}
use Rattle.packet_grammar.specs.Parsed.{SyncAt}
use Rattle.packet_grammar.specs.declared.end.End.{End}
use Rattle.packet_grammar.specs.declared.packet.Packet.{Packet}
use Rattle.path_elements.specs.Elements.{all_elements, untold}
use Rattle.path_elements.specs.Path.{IsPath, IsPathOfPackets, end_behind}
use Rattle.path_elements.proofs.OnePath.{path_to_runs}
use Rattle.path_text.specs.EndLines.{end_line, frame_cut_line}
use Rattle.path_text.specs.Lines.{IsLine}
use Rattle.path_text.specs.PathLines.{line_list, shown_after_all}
use Rattle.capture_streams.specs.Laws.{EachIsALine, PathIsAlone, PathPrinted, StreamLines, lines_with}
use Rattle.capture_streams.specs.Paths.{paths}
use Rattle.capture_streams.specs.Texts.{BodyFrom, EndsOf, GainsIf, IsText, Listing, Printed, StreamBody, StreamEnds, cut_lines, is_source, lines_under, of, sources}
use Rattle.capture_streams.specs.Texts.{by_sizes}
use Rattle.path_text.proofs.Feeds.{cut_is, end_is}
use Rattle.path_text.proofs.LineLemmas.{shown_after_all-append}
use Rattle.path_text.proofs.LineLists.{line_list-append, list_each}
use Rattle.program_image.specs.declared.image.Image.{Image}
use Rattle.capture_streams.proofs.Alone.{source_is_alone}
use Rattle.capture_streams.proofs.BySizes.{own_lines}
use Rattle.capture_streams.proofs.PathTexts.{one_path}

-- ---- the path of no bytes

no_sync_in_nothing : (at : ℕ) → SyncAt at [] → ⊥
no_sync_in_nothing zero here = absurd cc
no_sync_in_nothing (suc at) here = absurd cc

-- it shows nothing
pub nothing_shown : (image : Image) (s : Sizes) (items : List Item) (last : End) → IsPath image s [] items last → items ≡ []
nothing_shown image s items last (took, (packets, ending, inl (at, first, parses), path)) = absurd (no_sync_in_nothing at first.here)
nothing_shown image s items last (took, (packets, ending, inr (none, no_packets, ends), path)) =
    let here = subst (λ (p : List (ℕ × Packet)). IsPathOfPackets image s.depth p ending items last took) no_packets path in
    let gained = all_elements untold [] in
    let run = path_to_runs image s.depth gained.elements (end_behind gained.awaited ending) items last took here in (run.1).0

-- ---- the lines of a path

module _ (image : Image) (s : Sizes) (are : AreSettings s) (id : ℕ) where
  -- what bytes add behind others is the lines of the items by which the path grows
  grown : (before bytes : List ℕ) (lines : List (List ℕ)) (front items : List Item) (last next : End) → IsPath image s before front last
      → IsPath image s (before ++ bytes) items next → StreamBody (paths image s) id before bytes lines
      → (more : List Item) × (items ≡ front ++ more) × (lines ≡ line_list id (shown_after_all None front) more)
  grown before [] lines front items last next was is none =
      let same = one_path image s are before items front next last (subst (λ (b : List ℕ). IsPath image s b items next) (append-nil before) is) was in
      ([], same.0 ∙ sym (append-nil front), none)
  grown before (b ∷ bytes) lines front items last next was is (first, rest, (shown, more, grows, adds), later, all) =
      let here = one_path image s are before grows.items front grows.last last grows.was was in
      let now = subst (λ (l : List Item). IsPath image s (before ++ b ∷ []) (l ++ more) grows.next) here.0 grows.is in
      let whole = subst (λ (l : List ℕ). IsPath image s l items next) (sym (append_assoc before (b ∷ []) bytes)) is in
      let behind = grown (before ++ b ∷ []) bytes rest (front ++ more) items grows.next next now whole later in
      let shown_first = shown_after_all None front in
      let context : shown ≡ shown_first = grows.context ∙ ap (shown_after_all None) here.0 in (
        more ++ behind.0,
        behind.1 ∙ append_assoc front more behind.0,
        all ∙ ap (λ (l : List (List ℕ)). l ++ rest) (adds ∙ ap (λ (c : Option Ctx). line_list id c more) context)
            ∙ ap (λ (l : List (List ℕ)). line_list id shown_first more ++ l)
            (behind.2 ∙ ap (λ (c : Option Ctx). line_list id c behind.0) (shown_after_all-append None front more))
            ∙ sym (line_list-append id shown_first more behind.0),
      )

  -- what all bytes add is the lines of all items
  lines_of_path : (b : ℕ) (bytes : List ℕ) (lines : List (List ℕ)) (items : List Item) (last : End) → IsPath image s (b ∷ bytes) items last
      → StreamBody (paths image s) id [] (b ∷ bytes) lines → lines ≡ line_list id None items
  lines_of_path b bytes lines items last is (first, rest, (shown, more, grows, adds), later, all) =
      let none = nothing_shown image s grows.items grows.last grows.was in
      let was = subst (λ (l : List Item). IsPath image s [] l grows.last) none grows.was in
      let grew = grown [] (b ∷ bytes) lines [] items grows.last last was is (first, rest, (shown, more, grows, adds), later, all) in
      grew.2 ∙ ap (line_list id None) (sym grew.1)

  path_printed : (bytes : List ℕ) (lines : List Printed) → StreamLines (paths image s) id bytes lines → PathPrinted image s id bytes lines
  path_printed [] lines is =
      is.all ∙ ap (λ (l : List (List ℕ)). lines_under id l ++ is.ending) is.body ∙ (is.ends).0
  path_printed (b ∷ bytes) lines is = printed is.ends
    where
      printed : StreamEnds (paths image s) id (b ∷ bytes) is.ending is.faulty → PathPrinted image s id (b ∷ bytes) lines
      printed (line, (items, last, path, line_is, fault_is), ending) =
          let body = lines_of_path b bytes is.gained items last path is.body in (
            items,
            last,
            path,
            is.all ∙ ap (λ (l : List (List ℕ)). lines_under id l ++ is.ending) body
                ∙ ap (λ (l : List Printed). lines_under id (line_list id None items) ++ l) (ending ∙ ap (λ (l : List ℕ). lines_under id (l ∷ [])) line_is)
                ∙ sym (map-append (λ (l : List ℕ). record { id = Some id; line = l }) (line_list id None items) (end_line id last ∷ [])),
          )

pub path_is_alone : PathIsAlone
path_is_alone image t id source are pairs left lines faulty is =
    path_printed image (t id) are id (of id pairs) (lines_with id lines)
    (own_lines (paths image) t id (of id pairs) (lines_with id lines)
    (source_is_alone (by_sizes (paths image) t) pairs left lines faulty id source is))

-- ---- each line has one LF

abbrev IsPrintedLine : Printed → Type 0
IsPrintedLine l = IsLine l.line

under_are : (id : ℕ) (lines : List (List ℕ)) → All IsLine lines → All IsPrintedLine (lines_under id lines)
under_are id lines are = All-map IsPrintedLine (λ (line : List ℕ). record { id = Some id; line = line }) lines are

-- what a stream prints has lines alone
pub record PrintsLines (g : Listing) : Type 0 where
  pub gained : (id : ℕ) (bytes : List ℕ) (byte : ℕ) (lines : List (List ℕ)) → g.gains id bytes byte lines → All IsLine lines
  pub ended : (id : ℕ) (bytes line : List ℕ) (faulty : Bool) → g.ends id bytes line faulty → IsLine line
  pub summed : (items : List (ℕ × Item)) → All IsLine (g.sums items)

-- each by its own sizes
pub print_by : (g : Sizes → Listing) (t : ℕ → Sizes) → ((id : ℕ) → PrintsLines (g (t id))) → PrintsLines (by_sizes g t)
print_by g t prints =
    record {
      gained = λ id bytes byte lines gains. (prints id).gained id bytes byte lines gains;
      ended = λ id bytes line faulty ends. (prints id).ended id bytes line faulty ends;
      summed = λ items. (prints 0).summed items;
    }

module _ (g : Listing) (prints : PrintsLines g) where
  gains_are : (source : Bool) (before : List (ℕ × ℕ)) (pair : ℕ × ℕ) (lines : List (List ℕ)) → GainsIf source g before pair lines → All IsLine lines
  gains_are true before pair lines gains = prints.gained pair.0 (of pair.0 before) pair.1 lines gains
  gains_are false before pair lines none = subst (λ (l : List (List ℕ)). All IsLine l) (sym none) (All-nil IsLine)

  body_is : (before pairs : List (ℕ × ℕ)) (lines : List Printed) → BodyFrom g before pairs lines → All IsPrintedLine lines
  body_is before [] lines none = subst (λ (l : List Printed). All IsPrintedLine l) (sym none) (All-nil IsPrintedLine)
  body_is before (pair ∷ pairs) lines (first, rest, gains, later, is) =
      subst (λ (l : List Printed). All IsPrintedLine l) (sym is)
      (All-append IsPrintedLine (lines_under pair.0 first) rest (under_are pair.0 first (gains_are (is_source pair.0) before pair first gains))
      (body_is (before ++ pair ∷ []) pairs rest later))

  end_lines : (id : ℕ) (bytes : List ℕ) (lines : List Printed) (faulty : Bool) → StreamEnds g id bytes lines faulty → All IsPrintedLine lines
  end_lines id [] lines faulty (none, whole) = subst (λ (l : List Printed). All IsPrintedLine l) (sym none) (All-nil IsPrintedLine)
  end_lines id (b ∷ bytes) lines faulty (line, ends, is) =
      let one = prints.ended id (b ∷ bytes) line faulty ends in
      subst (λ (l : List Printed). All IsPrintedLine l) (sym is) (under_are id (line ∷ []) (All-cons IsLine line [] one (All-nil IsLine)))

  ends_are : (pairs : List (ℕ × ℕ)) (ids : List ℕ) (lines : List Printed) (faulty : Bool) → EndsOf g pairs ids lines faulty → All IsPrintedLine lines
  ends_are pairs [] lines faulty (none, whole) = subst (λ (l : List Printed). All IsPrintedLine l) (sym none) (All-nil IsPrintedLine)
  ends_are pairs (id ∷ ids) lines faulty (first, rest, f, o, here, later, is, fault) =
      subst (λ (l : List Printed). All IsPrintedLine l) (sym is)
      (All-append IsPrintedLine first rest (end_lines id (of id pairs) first f here) (ends_are pairs ids rest o later))

cut_or_not : (left : ℕ) (whole : Bool) → All IsPrintedLine (if whole then [] else record { id = None; line = frame_cut_line left } ∷ [])
cut_or_not left true = All-nil IsPrintedLine
cut_or_not left false = All-cons IsPrintedLine (record { id = None; line = frame_cut_line left }) [] (cut_is left) (All-nil IsPrintedLine)

pub each_is : (g : Listing) → PrintsLines g → (pairs : List (ℕ × ℕ)) (left : ℕ) (lines : List Printed) (faulty : Bool) → IsText g pairs left lines faulty
    → All IsPrintedLine lines
each_is g prints pairs left lines faulty is =
    let last = is.ended in
    let behind = All-append IsPrintedLine last.ends (cut_lines left) (ends_are g prints pairs sources last.ends last.some_fault last.ended)
    (cut_or_not left (left == 0)) in
    let sums = subst (λ (l : List Printed). All IsPrintedLine l) (sym last.summed.2)
    (All-map IsPrintedLine (λ (line : List ℕ). record { id = None; line = line }) (g.sums last.summed.0) (prints.summed last.summed.0)) in
    let ending = All-append IsPrintedLine last.sums (last.ends ++ cut_lines left) sums behind in
    subst (λ (l : List Printed). All IsPrintedLine l) (sym is.all)
    (All-append IsPrintedLine is.body is.ending (body_is g prints [] pairs is.body is.gained)
    (subst (λ (l : List Printed). All IsPrintedLine l) (sym last.all) ending))

paths_print_lines : (image : Image) (s : Sizes) → PrintsLines (paths image s)
paths_print_lines image s =
    record {
      gained = λ id bytes byte lines (shown, more, grows, is). subst (λ (l : List (List ℕ)). All IsLine l) (sym is) (list_each id shown more);
      ended = λ id bytes line faulty (items, last, path, line_is, fault_is). subst IsLine (sym line_is) (end_is id last);
      summed = λ items. All-nil IsLine;
    }

pub each_is_a_line : EachIsALine
each_is_a_line image t = each_is (by_sizes (paths image) t) (print_by (paths image) t (λ id. paths_print_lines image (t id)))
