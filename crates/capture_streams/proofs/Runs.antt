-- Bytes of one stream that were taken one after the other.
use Rattle.std.proofs.Common.{◌≡◌, ℕ, ◌+◌, ◌≤◌, Bool, false, List, [], ◌∷◌, ◌++◌, length, take, drop, arith, Some, Result, Ok, Err, refl, sym, ap, subst, ◌∙◌, append-nil, append_assoc}
use Rattle.std.specs.List.{concat}
use Rattle.std.proofs.Math.Seq.{take-add}
use Rattle.std.proofs.lemmas.List.{length-drop, length-map, length-take, map-append}
use Rattle.std.proofs.lemmas.List.Folds.{concat-append}
use Rattle.capture_streams.specs.Streams.{Adds, RunAdds}
use Rattle.capture_streams.specs.Texts.{BodyFrom, GainsIf, Listing, StreamBody, by_sizes, is_source, lines_under, of}
use Rattle.etm_types.specs.Id.{IsId}
use Rattle.etm_types.specs.Settings.{Sizes}
use Rattle.formatter_frames.specs.Symbols.{run_of}
use Rattle.path_text.proofs.Wrote.{Wrote, fails_after, wrote_more, wrote_nothing, writes_all}
use Rattle.path_text.specs.Writing.{Writes}
use Rattle.capture_streams.proofs.Bodies.{of_run, text_under}
use Rattle.capture_streams.proofs.BySizes.{body_by}
use Rattle.capture_streams.proofs.Standing.{is_one}
use Rattle.trace_io.specs.State.{IoState}

-- ---- bodies

pub stream_body_one : (g : Listing) (id : ℕ) (before : List ℕ) (byte : ℕ) (lines : List (List ℕ)) → g.gains id before byte lines
    → StreamBody g id before (byte ∷ []) lines
stream_body_one g id before byte lines gains = (lines, [], gains, refl, sym (append-nil lines))

pub stream_body-append : (g : Listing) (id : ℕ) (before xs ys : List ℕ) (lines more : List (List ℕ)) → StreamBody g id before xs lines
    → StreamBody g id (before ++ xs) ys more → StreamBody g id before (xs ++ ys) (lines ++ more)
stream_body-append g id before [] ys lines more none body =
    subst (λ (l : List (List ℕ)). StreamBody g id before ys (l ++ more)) (sym none) (subst (λ b. StreamBody g id b ys more) (append-nil before) body)
stream_body-append g id before (x ∷ xs) ys lines more (first, rest, gains, later, is) body = (
  first,
  rest ++ more,
  gains,
  stream_body-append g id (before ++ x ∷ []) xs ys rest more later
      (subst (λ b. StreamBody g id b ys more) (sym (append_assoc before (x ∷ []) xs)) body),
  ap (λ (l : List (List ℕ)). l ++ more) is ∙ append_assoc first rest more,
)

-- ---- what was written

-- the lines that bytes add behind others were written, in calls that did not fail
pub record RunWritten (g : Listing) (id : ℕ) (before run : List ℕ) (old new : IoState) : Type 0 where
  pub lines : List (List ℕ)
  pub body : StreamBody g id before run lines
  pub wrote : Wrote old new (concat lines)

module _ (g : Listing) (id : ℕ) (before run : List ℕ) (a b c : IoState) (was : RunWritten g id before run a b) where
  -- a byte more
  pub run_more : (byte : ℕ) (lines : List (List ℕ)) → g.gains id (before ++ run) byte lines → Wrote b c (concat lines)
      → RunWritten g id before (run ++ byte ∷ []) a c
  run_more byte lines gains wrote =
      record {
        lines = was.lines ++ lines;
        body = stream_body-append g id before run (byte ∷ []) was.lines lines was.body (stream_body_one g id (before ++ run) byte lines gains);
        wrote = subst (Wrote a c) (sym (concat-append was.lines lines)) (wrote_more a b c (concat was.lines) (concat lines) was.wrote wrote);
      }

  -- where a call failed behind them, a front of the lines of some bytes more is written
  pub run_fails : {T U E : Type 0} (e d : E) (took others : List ℕ) (lines : List (List ℕ)) → StreamBody g id (before ++ run) took lines
      → Writes {T = T} b c (Err e) (concat lines) → RunAdds {T = U} g id before ((run ++ took) ++ others) a c (Err d)
  run_fails e d took others lines body writes =
      record {
        took = run ++ took;
        others = others;
        parts = refl;
        lines = was.lines ++ lines;
        body = stream_body-append g id before run took was.lines lines was.body body;
        writes = fails_after a b c e d (concat was.lines) (concat lines) [] (concat (was.lines ++ lines))
            (ap (λ t. concat was.lines ++ t) (append-nil (concat lines)) ∙ sym (concat-append was.lines lines)) was.wrote writes;
        all = λ ok. absurd cc;
      }

-- all was written
pub run_added : {T E : Type 0} (g : Listing) (id : ℕ) (before run : List ℕ) (a b : IoState) (x : T) → RunWritten g id before run a b
    → RunAdds {T = T} {E = E} g id before run a b (Ok x)
run_added g id before run a b x was =
    record {
      took = run;
      others = [];
      parts = sym (append-nil run);
      lines = was.lines;
      body = was.body;
      writes = writes_all a b x (concat was.lines) was.wrote;
      all = λ ok. refl;
    }

-- ---- one stream among others

under-append : (id : ℕ) (xs ys : List (List ℕ)) → lines_under id (xs ++ ys) ≡ lines_under id xs ++ lines_under id ys
under-append id xs ys = map-append (λ (line : List ℕ). record { id = Some id; line = line }) xs ys

-- the lines of bytes of a source
run_body : (g : Listing) (id : ℕ) → IsId id → (pairs : List (ℕ × ℕ)) (before run : List ℕ) (lines : List (List ℕ)) → of id pairs ≡ before
    → StreamBody g id before run lines → BodyFrom g pairs (run_of id run) (lines_under id lines)
run_body g id is pairs before [] lines same none = ap (lines_under id) none
run_body g id is pairs before (b ∷ run) lines same (first, rest, gains, later, all) = (
  first,
  lines_under id rest,
  subst (λ (t : Bool). GainsIf t g pairs (id, b) first) (sym (is_one id is)) (subst (λ (l : List ℕ). g.gains id l b first) (sym same) gains),
  run_body g id is (pairs ++ (id, b) ∷ []) (before ++ b ∷ []) run rest (of_run id (b ∷ []) pairs ∙ ap (λ (l : List ℕ). l ++ b ∷ []) same) later,
  ap (lines_under id) all ∙ under-append id first rest,
)

-- and of no source
no_body : (g : Listing) (id : ℕ) → is_source id ≡ false → (pairs : List (ℕ × ℕ)) (run : List ℕ) → BodyFrom g pairs (run_of id run) []
no_body g id none pairs [] = refl
no_body g id none pairs (b ∷ run) =
    ([], [], subst (λ (t : Bool). GainsIf t g pairs (id, b) []) (sym none) refl, no_body g id none (pairs ++ (id, b) ∷ []) run, refl)

pub source_adds : {T E : Type 0} (listing : Sizes → Listing) (s : Sizes) (t : ℕ → Sizes) (id given : ℕ) (pairs : List (ℕ × ℕ)) (run : List ℕ)
    (a b : IoState) (result : Result T E) → IsId id → given ≡ id → s ≡ t id → RunAdds (listing s) given (of id pairs) run a b result
    → Adds (by_sizes listing t) pairs (run_of id run) a b result
source_adds listing s t id given pairs run a b result is named same adds =
    let body = body_by listing t id (of id pairs) adds.took adds.lines
    (subst (λ (u : Sizes). StreamBody (listing u) id (of id pairs) adds.took adds.lines) same
    (subst (λ (i : ℕ). StreamBody (listing s) i (of id pairs) adds.took adds.lines) named adds.body)) in
    record {
      took = run_of id adds.took;
      others = run_of id adds.others;
      parts = ap (run_of id) adds.parts ∙ map-append (λ (byte : ℕ). (id, byte)) adds.took adds.others;
      lines = lines_under id adds.lines;
      body = run_body (by_sizes listing t) id is pairs (of id pairs) adds.took adds.lines refl body;
      writes = subst (Writes a b result) (sym (text_under id adds.lines)) adds.writes;
      all = λ ok. ap (run_of id) (adds.all ok);
    }

pub no_source_adds : {T E : Type 0} (g : Listing) (id : ℕ) (pairs : List (ℕ × ℕ)) (run : List ℕ) (a : IoState) (x : T) → is_source id ≡ false
    → Adds {T = T} {E = E} g pairs (run_of id run) a a (Ok x)
no_source_adds g id pairs run a x none =
    record {
      took = run_of id run;
      others = [];
      parts = sym (append-nil (run_of id run));
      lines = [];
      body = no_body g id none pairs run;
      writes = writes_all a a x [] (wrote_nothing a);
      all = λ ok. refl;
    }

-- ---- runs of a frame

module _ (n id : ℕ) (frame : List (ℕ × ℕ)) (run : List ℕ) (is : take (length run) (drop n frame) ≡ run_of id run) where
  pub with_run : take (n + length run) frame ≡ take n frame ++ run_of id run
  with_run = take-add n (length run) frame ∙ ap (λ (l : List (ℕ × ℕ)). take n frame ++ l) is

  pub run_within : n ≤ length frame → n + length run ≤ length frame
  run_within within =
      let many : length (take (length run) (drop n frame)) ≡ length run = ap length is ∙ length-map run (λ (byte : ℕ). (id, byte)) in
      omega (arith, within, many, length-take (length run) (drop n frame), length-drop n frame)
