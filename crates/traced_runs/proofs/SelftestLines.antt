-- The number of lines is that of their line feeds.
use Rattle.std.proofs.Common.{◌≡◌, ◌≢◌, ℕ, ◌≤◌, ◌==◌, cond, Bool, true, false, List, [], ◌∷◌, ◌++◌, length, Result, Ok, Err, refl, sym, ap, subst, ◌∙◌, arith}
use Rattle.std.proofs.Common.{length-append}
use Rattle.std.specs.Prelude.{All, IfOk, MatchResult}
use Rattle.std.specs.Result.{IsErrAnd}
use Rattle.std.proofs.lemmas.Bool.{ne_eqb}
use Rattle.std.proofs.lemmas.List.Elements.{All-head, All-tail}
use Rattle.std.proofs.lemmas.List.Sums.{sum_by-append, sum_by-cons}
use Rattle.std.proofs.lemmas.Result.{err_from_is_err_and}
use Rattle.capture_streams.specs.Laid.{frames_laid}
use Rattle.etm_types.specs.SettingsTable.{sizes_at}
use Rattle.formatter_frames.specs.Unframed.{begun_frame, unframed}
use Rattle.run_file.specs.Parts.{BenchParts}
use Rattle.capture_streams.proofs.AlonePaths.{each_is_a_line}
use Rattle.capture_streams.specs.Paths.{paths}
use Rattle.capture_streams.specs.Texts.{IsText, Printed, by_sizes, text_of}
use Rattle.path_text.specs.Lines.{IsLine}
use Rattle.program_image.specs.declared.image.Image.{Image}
use Rattle.traced_runs.proofs.SelftestTexts.{all_taken, none_failed}
use Rattle.input_pieces.specs.Listed.{Completes, Listed, most_input}
use Rattle.traced_runs.specs.Selftest.{HasLines, line_feeds}
use Rattle.traced_runs.specs.Traced.{table_of}
use Rattle.answer_lines.specs.declared.status.Status.{Status}
use Rattle.answer_lines.specs.declared.status.Status.TheVariants as status
use Rattle.trace_io.specs.Bytes.{AppendsAll}
use Rattle.trace_io.specs.Memory.{Pieces, Writing, pieces_state, writing_state}
use Rattle.trace_io.specs.State.{IoState}

abbrev one_feed : ℕ → ℕ
one_feed b = cond (b == 10) 1 0

no_feed : (text : List ℕ) → All (λ b. b ≢ 10) text → line_feeds text ≡ 0
no_feed [] none = refl
no_feed (b ∷ text) none =
    let here : one_feed b ≡ 0 = ap (λ (t : Bool). cond t 1 0) (ne_eqb b 10 (All-head (λ b. b ≢ 10) b text none)) in
    let later = no_feed text (All-tail (λ b. b ≢ 10) b text none) in
    let first = sum_by-cons one_feed b text in
    omega (arith, here, later, first)

line_has_one : (line : List ℕ) → IsLine line → line_feeds line ≡ 1
line_has_one line (text, is, none) =
    omega (arith, ap line_feeds is, sum_by-append one_feed text (10 ∷ []), no_feed text none)

-- lines have as many
pub feeds_of_lines : (lines : List Printed) → All (λ (l : Printed). IsLine l.line) lines → line_feeds (text_of lines) ≡ length lines
feeds_of_lines [] are = refl
feeds_of_lines (l ∷ lines) are =
    let here = line_has_one l.line (All-head (λ (l : Printed). IsLine l.line) l lines are) in
    let later = feeds_of_lines lines (All-tail (λ (l : Printed). IsLine l.line) l lines are) in
    let joined = sum_by-append one_feed l.line (text_of lines) in
    omega (arith, here, later, joined)

-- so it is of the lines of paths
pub feeds_counted : (image : Image) (b : BenchParts) (bytes : List ℕ) (lines : List Printed) → HasLines image b bytes lines
    → line_feeds (text_of lines) ≡ length lines
feeds_counted image b bytes lines (faulty, is) =
    feeds_of_lines lines (each_is_a_line image (sizes_at (table_of b)) (unframed bytes) (length (begun_frame bytes)) lines faulty is)

whole : (image : Image) (b : BenchParts) (s s' : Pieces) (out out' : IoState) (faulty : Bool)
    → Completes frames_laid (by_sizes (paths image) (sizes_at (table_of b))) (pieces_state s) (pieces_state s') out out' faulty
    → (lines : List Printed) × HasLines image b s.left lines × AppendsAll out out' (text_of lines)
whole image b s s' out out' faulty c = (
  c.lines,
  (
    faulty,
    subst (λ (l : List ℕ). IsText (by_sizes (paths image) (sizes_at (table_of b))) (unframed l) (length (begun_frame l)) c.lines faulty) (all_taken s s' c.bytes c.read)
        c.shown,
  ),
  c.printed,
)

-- what was printed of bytes in memory are the lines of all of them
pub all_printed : (image : Image) (b : BenchParts) (s s' : Pieces) (out out' : IoState) (status : Status) → length s.left ≤ most_input
    → Listed frames_laid (by_sizes (paths image) (sizes_at (table_of b))) (pieces_state s) (pieces_state s') out out' (Ok status)
    → (lines : List Printed) × HasLines image b s.left lines × AppendsAll out out' (text_of lines)
all_printed image b s s' out out' status.Done few c = whole image b s s' out out' false c
all_printed image b s s' out out' status.Faulted few c = whole image b s s' out out' true c
all_printed image b s s' out out' status.ReadFault few c = absurd (none_failed s s' c.rose)
all_printed image b s s' out out' status.InputTooLong few c =
    absurd (omega (
      arith,
      few,
      c.many,
      ap length c.took,
      length-append (c.bytes ++ c.byte ∷ []) s'.left,
      length-append c.bytes (c.byte ∷ []),
    ))
all_printed image b s s' out out' status.Usage few none = absurd none
all_printed image b s s' out out' (status.ImageBad line why) few none = absurd none
all_printed image b s s' out out' (status.BenchBad line why) few none = absurd none
all_printed image b s s' out out' (status.ElfBad why) few none = absurd none
all_printed image b s s' out out' status.WriteFault few none = absurd none
all_printed image b s s' out out' status.NoMemory few none = absurd none

-- and so many line feeds were printed
abbrev pub Counts : Image → BenchParts → List ℕ → ℕ → Type 0
Counts image b bytes count = (lines : List Printed) × HasLines image b bytes lines × (count ≡ length lines)

pub lines_counted : (image : Image) (b : BenchParts) (s s' : Pieces) (text text' : Writing) (status : Status) → length s.left ≤ most_input
    → text.taken ≡ []
    → Listed frames_laid (by_sizes (paths image) (sizes_at (table_of b))) (pieces_state s) (pieces_state s')
    (writing_state text) (writing_state text') (Ok status)
    → Counts image b s.left (line_feeds text'.taken)
lines_counted image b s s' text text' status few none listed =
    let (lines, has, printed) = all_printed image b s s' (writing_state text) (writing_state text') status few listed in
    let all : text'.taken ≡ text_of lines = printed ∙ ap (λ (l : List ℕ). l ++ text_of lines) none in
    (lines, has, ap line_feeds all ∙ feeds_counted image b s.left lines has)

-- what holds of a success holds of it where its error is made another
pub kept_ok : {T E F : Type 0} (r : Result T E) (q : Result T F) (P : T → Type 0) (R : E → F → Type 0)
    → MatchResult r (λ x. q ≡ Ok x) (λ e. IsErrAnd q (R e)) → IfOk r P → IfOk q P
kept_ok (Ok x) q P R is holds = subst (λ y. IfOk y P) (sym is) holds
kept_ok (Err e) q P R is holds = let there = err_from_is_err_and q is in subst (λ y. IfOk y P) (sym there.1) tt
