-- What is printed of paths that all end clean.
use Rattle.std.proofs.Common.{◌≡◌, ◌⊎◌, ℕ, zero, suc, ◌+◌, ◌<◌, ◌==◌, if◌then◌else◌, Bool, true, false, List, [], ◌∷◌, ◌++◌, map, Option, Some, None}
use Rattle.std.proofs.Common.{refl, sym, ap, subst, ◌∙◌, inl, inr, arith}
use Rattle.std.specs.Prelude.{All, ◌||◌, is_some, slice_index_or}
use Rattle.std.specs.List.{range_with_len}
use Rattle.std.proofs.lemmas.Bool.{eq-eqb}
use Rattle.std.proofs.lemmas.List.Elements.{All-append, All-cons, All-map, All-nil}
use Rattle.etm_types.specs.Settings.{Sizes, AreSettings}
use Rattle.etm_types.specs.declared.item.Item.{Item}
use Rattle.packet_grammar.specs.Ends.{is_fault}
use Rattle.packet_grammar.specs.Parsed.{Ending, SyncAt, no_sync}
use Rattle.packet_grammar.specs.declared.end.End.{End}
use Rattle.capture_streams.proofs.PathTexts.{one_path}
use Rattle.capture_streams.specs.Laws.{PathPrinted, has_id, lines_with}
use Rattle.capture_streams.specs.Paths.{PathEnds}
use Rattle.capture_streams.specs.Texts.{BodyFrom, EndsOf, IsText, Listing, Printed, StreamEnds, lines_under, of, sources}
use Rattle.packet_grammar.specs.declared.end.End.TheVariants as end
use Rattle.packet_grammar.specs.declared.packet.Packet.{Packet}
use Rattle.path_elements.specs.Path.{IsPath, IsPathOfPackets}
use Rattle.path_text.specs.EndLines.{end_line}
use Rattle.path_text.specs.PathLines.{line_list}
use Rattle.program_image.specs.declared.image.Image.{Image}

-- ---- a path that ends clean is one of some bytes

no_sync_in_nothing : (at : ℕ) → SyncAt at [] → ⊥
no_sync_in_nothing zero here = absurd cc
no_sync_in_nothing (suc at) here = absurd cc

pub nothing_is_not_clean : (image : Image) (s : Sizes) (items : List Item) → IsPath image s [] items end.Clean → ⊥
nothing_is_not_clean image s items (took, (packets, ending, inl (at, first, parses), path)) = no_sync_in_nothing at first.here
nothing_is_not_clean image s items (took, (packets, ending, inr (none, no_packets, ends), path)) =
    let here = subst (λ (p : List (ℕ × Packet)). IsPathOfPackets image s.depth p ending items end.Clean took) no_packets path in
    of_no_packet (subst (λ (e : Ending). IsPathOfPackets image s.depth [] e items end.Clean took) ends here)
  where
    of_no_packet : IsPathOfPackets image s.depth [] no_sync items end.Clean took → ⊥
    of_no_packet (inl (walks, other, all)) = absurd cc
    of_no_packet (inr faults) = let other = faults.ends in absurd cc

-- there are no bytes, or their path ends clean
abbrev pub EndsWell : Image → Sizes → List ℕ → Type 0
EndsWell image s bytes = (bytes ≡ []) ⊎ ((items : List Item) × IsPath image s bytes items end.Clean)

module _ (image : Image) (s : Sizes) (are : AreSettings s) where
  -- its lines, where it is that of the stream of an ID
  pub clean_lines : (id : ℕ) (bytes : List ℕ) (items : List Item) (lines : List Printed) → IsPath image s bytes items end.Clean
      → PathPrinted image s id bytes lines → lines ≡ lines_under id (line_list id None items ++ end_line id end.Clean ∷ [])
  clean_lines id [] items lines path none = absurd (nothing_is_not_clean image s items path)
  clean_lines id (b ∷ bytes) items lines path (others, last, also, is) =
      let same = one_path image s are (b ∷ bytes) others items last end.Clean also path in
      is ∙ ap (λ (i : List Item). lines_under id (line_list id None i ++ end_line id last ∷ [])) same.0
      ∙ ap (λ (e : End). lines_under id (line_list id None items ++ end_line id e ∷ [])) same.1

-- ---- no fault

-- the streams of this listing end as their paths do
abbrev pub EndAsPaths : Image → (ℕ → Sizes) → Listing → Type 0
EndAsPaths image t g = (id : ℕ) (bytes line : List ℕ) (faulty : Bool) → g.ends id bytes line faulty → PathEnds image (t id) id bytes line faulty

module _ (image : Image) (t : ℕ → Sizes) (are : (id : ℕ) → AreSettings (t id)) (g : Listing) (end_so : EndAsPaths image t g) where
  stream_well : (id : ℕ) (bytes : List ℕ) (lines : List Printed) (faulty : Bool) → EndsWell image (t id) bytes
      → StreamEnds g id bytes lines faulty → faulty ≡ false
  stream_well id [] lines faulty well (none, whole) = whole
  stream_well id (b ∷ bytes) lines faulty (inl none) ends = absurd cc
  stream_well id (b ∷ bytes) lines faulty (inr (items, path)) (line, ends, all) = of_path (end_so id (b ∷ bytes) line faulty ends)
    where
      of_path : PathEnds image (t id) id (b ∷ bytes) line faulty → faulty ≡ false
      of_path (others, last, also, line_is, fault_is) =
          fault_is ∙ ap is_fault (one_path image (t id) (are id) (b ∷ bytes) others items last end.Clean also path).1

  module _ (pairs : List (ℕ × ℕ)) (well : (id : ℕ) → 0 < id → EndsWell image (t id) (of id pairs)) where
    ends_well : (from count : ℕ) (lines : List Printed) (faulty : Bool) → 0 < from
        → EndsOf g pairs (range_with_len from count) lines faulty → faulty ≡ false
    ends_well from zero lines faulty some (none, whole) = whole
    ends_well from (suc count) lines faulty some (first, rest, one, others, here, later, is, fault) =
        let this = stream_well from (of from pairs) first one (well from some) here in
        fault ∙ ap (λ (b : Bool). b || others) this ∙ ends_well (from + 1) count rest others (omega arith) later

    pub text_well : (lines : List Printed) (faulty : Bool) → IsText g pairs 0 lines faulty → faulty ≡ false
    unfolding sources
    text_well lines faulty is =
        let last = is.ended in last.fault ∙ ap (λ (b : Bool). b || false) (ends_well 1 111 last.ends last.some_fault (omega arith) last.ended)

-- ---- each line is one of a stream

abbrev HasId : Printed → Type 0
HasId l = is_some l.id ≡ true

under_have : (id : ℕ) (lines : List (List ℕ)) → All HasId (lines_under id lines)
under_have id lines = All-map HasId (λ (line : List ℕ). record { id = Some id; line = line }) lines (λ k d within. refl)

body_has : (g : Listing) (before pairs : List (ℕ × ℕ)) (lines : List Printed) → BodyFrom g before pairs lines → All HasId lines
body_has g before [] lines none = subst (All HasId) (sym none) (All-nil HasId)
body_has g before (pair ∷ pairs) lines (first, rest, gains, later, is) =
    subst (All HasId) (sym is)
    (All-append HasId (lines_under pair.0 first) rest (under_have pair.0 first) (body_has g (before ++ pair ∷ []) pairs rest later))

stream_has : (g : Listing) (id : ℕ) (bytes : List ℕ) (lines : List Printed) (faulty : Bool) → StreamEnds g id bytes lines faulty → All HasId lines
stream_has g id [] lines faulty (none, whole) = subst (All HasId) (sym none) (All-nil HasId)
stream_has g id (b ∷ bytes) lines faulty (line, ends, is) = subst (All HasId) (sym is) (under_have id (line ∷ []))

pub ends_have : (g : Listing) (pairs : List (ℕ × ℕ)) (ids : List ℕ) (lines : List Printed) (faulty : Bool) → EndsOf g pairs ids lines faulty → All HasId lines
ends_have g pairs [] lines faulty (none, whole) = subst (All HasId) (sym none) (All-nil HasId)
ends_have g pairs (id ∷ ids) lines faulty (first, rest, one, others, here, later, is, fault) =
    subst (All HasId) (sym is) (All-append HasId first rest (stream_has g id (of id pairs) first one here) (ends_have g pairs ids rest others later))

-- where no line is of a sum
pub text_has : (g : Listing) → ((items : List (ℕ × Item)) → g.sums items ≡ []) → (pairs : List (ℕ × ℕ)) (lines : List Printed) (faulty : Bool)
    → IsText g pairs 0 lines faulty → All HasId lines
text_has g none pairs lines faulty is =
    let last = is.ended in
    let ends = All-append HasId last.ends [] (ends_have g pairs sources last.ends last.some_fault last.ended) (All-nil HasId) in
    let sums : last.sums ≡ [] = last.summed.2 ∙ ap (map (λ (line : List ℕ). record { id = None; line = line })) (none last.summed.0) in
    let ending = ap (λ (l : List Printed). l ++ (last.ends ++ [])) sums in
    subst (All HasId) (sym is.all)
    (All-append HasId is.body is.ending (body_has g [] pairs is.body is.gained) (subst (All HasId) (sym (last.all ∙ ending)) ends))

-- ---- and of no other

none_kept : (id : ℕ) (lines : List Printed) → lines_with id lines ≡ [] → All (λ (l : Printed). has_id id l.id ≡ false) lines
none_kept id [] none = All-nil (λ (l : Printed). has_id id l.id ≡ false)
none_kept id (l ∷ lines) none = by (has_id id l.id) refl (none_kept id lines)
  where
    here : (t : Bool) → has_id id l.id ≡ t → (if t then l ∷ lines_with id lines else lines_with id lines) ≡ []
    here t e = ap (λ (b : Bool). if b then l ∷ lines_with id lines else lines_with id lines) (sym e) ∙ none

    some_kept : l ∷ lines_with id lines ≡ [] → ⊥
    some_kept same = absurd cc

    by : (t : Bool) → has_id id l.id ≡ t → (lines_with id lines ≡ [] → All (λ (x : Printed). has_id id x.id ≡ false) lines)
        → All (λ (x : Printed). has_id id x.id ≡ false) (l ∷ lines)
    by true e more = absurd (some_kept (here true e))
    by false e more = All-cons (λ (x : Printed). has_id id x.id ≡ false) l lines e (more (here false e))

-- these IDs are those of lines, where no other ID has one
pub ids_are : (test : ℕ → Bool) (lines : List Printed) → All HasId lines → ((id : ℕ) → test id ≡ false → lines_with id lines ≡ [])
    → (of_option : Option ℕ → Bool) → ((id : ℕ) → of_option (Some id) ≡ test id) → All (λ (l : Printed). of_option l.id ≡ true) lines
ids_are test lines have others of_option is k d within =
    let l = slice_index_or lines k d in one l.id (have k d within) (λ id none. none_kept id lines (others id none) k d within)
  where
    one : (o : Option ℕ) → is_some o ≡ true → ((id : ℕ) → test id ≡ false → has_id id o ≡ false) → of_option o ≡ true
    one None some none = absurd cc
    one (Some id) some none = is id ∙ by (test id) refl
      where
        by : (t : Bool) → test id ≡ t → t ≡ true
        by true e = refl
        by false e = let other : (id == id) ≡ false = none id e in let own : (id == id) ≡ true = eq-eqb id id refl in absurd cc
