-- As many lines of paths pass a test as items are what it tells.
use Rattle.std.proofs.Common.{◌≡◌, ℕ, zero, suc, ◌+◌, ◌<◌, if◌then◌else◌, Bool, true, false, List, [], ◌∷◌, ◌++◌, Option, Some, None, refl, sym, ap, ◌∙◌, arith}
use Rattle.std.specs.Prelude.{◌==◌, bytes_eq, codes, drop}
use Rattle.std.proofs.lemmas.Bool.Decides.{nat_tests}
use Rattle.std.proofs.lemmas.List.{append_cancel_left, map-append}
use Rattle.etm_types.specs.SameContext.{same_context}
use Rattle.etm_types.specs.Settings.{AreSettings, Sizes}
use Rattle.etm_types.specs.declared.context.Ctx.{Ctx}
use Rattle.etm_types.specs.declared.item.Item.{Item}
use Rattle.etm_types.specs.declared.item.Item.TheVariants as item
use Rattle.packet_grammar.specs.declared.end.End.{End}
use Rattle.packet_grammar.specs.declared.end.End.TheVariants as end
use Rattle.path_counts.specs.CountLines.{mark_key}
use Rattle.path_counts.specs.Counts.{first_exception, is_at, is_mark, times}
use Rattle.path_counts.specs.Levels.{one_if}
use Rattle.capture_streams.proofs.PathTexts.{one_path}
use Rattle.capture_streams.specs.Paths.{paths}
use Rattle.path_counts.proofs.Counted.{times-append}
use Rattle.path_text.specs.EndLines.{end_text, frame_cut_line}
use Rattle.path_text.specs.Lines.{hex, line_of}
use Rattle.path_text.specs.PathLines.{context_line, exception_text, item_line_list, line_list, shown_after, where_any, whole_context_text}
use Rattle.program_image.specs.declared.image.Image.{Image}
use Rattle.capture_streams.specs.Texts.{AddedFrom, AddsIf, BodyFrom, EndsOf, GainsIf, IsText, Printed, StreamEnds, by_sizes, cut_lines, is_source}
use Rattle.capture_streams.specs.Texts.{lines_under, of, sources}
use Rattle.stream_decoder.specs.Follows.{items_under}
use Rattle.count_streams.proofs.HexTexts.{can_all_be_hex, hex_tells, is_no_hex, no_hex_is}
use Rattle.count_streams.specs.CountLaws.{AddressesAreLines, AreAsMany, MarksAreLines, is_text, lines_that}
use Rattle.count_streams.specs.Counted.{counted, items_alone}

-- a test of lines tells items: those whose own line passes, and no other line does
pub record Tells (passes : List ℕ → Bool) (test : Item → Bool) : Type 0 where
  pub on : passes (codes "on" ++ 10 ∷ []) ≡ test item.On
  pub gap : passes (codes "gap" ++ 10 ∷ []) ≡ test item.Gap
  pub stop : passes (codes "stop" ++ 10 ∷ []) ≡ test item.Stop
  pub unknown : passes (codes "?" ++ 10 ∷ []) ≡ test item.Unknown
  pub address : (a : ℕ) (ctx : Ctx) (took : Bool) → passes (hex a ++ 10 ∷ []) ≡ test (item.Instr a ctx took)
  pub exception : (kind ret : ℕ) → passes (exception_text kind ret ++ 10 ∷ []) ≡ test (item.Exc kind ret)
  pub context : (ctx : Ctx) → passes (whole_context_text ctx ++ 10 ∷ []) ≡ false
  pub ends : (last : End) → passes (end_text last ++ 10 ∷ []) ≡ false
  pub cut : (left : ℕ) → passes (drop 3 (frame_cut_line left)) ≡ false

that-append : (passes : List ℕ → Bool) (xs ys : List Printed) → lines_that passes (xs ++ ys) ≡ lines_that passes xs + lines_that passes ys
that-append passes [] ys = omega arith
that-append passes (l ∷ xs) ys = let rest = that-append passes xs ys in omega (arith, rest)

under_alone : (id : ℕ) (own : List Item) (others : List (ℕ × Item)) → items_alone (items_under id own ++ others) ≡ own ++ items_alone others
under_alone id [] others = refl
under_alone id (i ∷ own) others = ap (λ (l : List Item). i ∷ l) (under_alone id own others)

module _ (passes : List ℕ → Bool) (test : Item → Bool) (tells : Tells passes test) where
  abbrev count : List Printed → ℕ
  count lines = lines_that passes lines

  one_line : (same tested : Bool) → same ≡ tested → one_if same + 0 ≡ one_if tested
  one_line same tested is = let e = ap one_if is in omega (arith, e)

  -- ---- the lines of items

  unless : (id : ℕ) (ctx : Ctx) (shown : Bool) → count (lines_under id (where_any (if shown then [] else line_of id (whole_context_text ctx)))) ≡ 0
  unless id ctx true = refl
  unless id ctx false = one_line _ false (tells.context ctx)

  no_context : (id : ℕ) (shown : Option Ctx) (ctx : Ctx) → count (lines_under id (where_any (context_line id shown ctx))) ≡ 0
  no_context id None ctx = one_line _ false (tells.context ctx)
  no_context id (Some last) ctx = unless id ctx (same_context last ctx)

  under-append : (id : ℕ) (xs ys : List (List ℕ)) → count (lines_under id (xs ++ ys)) ≡ count (lines_under id xs) + count (lines_under id ys)
  under-append id xs ys =
      ap count (map-append (λ (line : List ℕ). record { id = Some id; line = line }) xs ys) ∙ that-append passes (lines_under id xs) (lines_under id ys)

  one_item : (id : ℕ) (shown : Option Ctx) (i : Item) → count (lines_under id (item_line_list id shown i)) ≡ one_if (test i)
  one_item id shown item.On = one_line _ _ tells.on
  one_item id shown item.Gap = one_line _ _ tells.gap
  one_item id shown item.Stop = one_line _ _ tells.stop
  one_item id shown item.Unknown = one_line _ _ tells.unknown
  one_item id shown (item.Exc kind ret) = one_line _ _ (tells.exception kind ret)
  one_item id shown (item.Instr address ctx took) =
      let own : count (lines_under id (line_of id (hex address) ∷ [])) ≡ one_if (test (item.Instr address ctx took))
      = one_line _ _ (tells.address address ctx took) in
      let none = no_context id shown ctx in
      let both = under-append id (where_any (context_line id shown ctx)) (line_of id (hex address) ∷ []) in
      both ∙ ap (λ (n : ℕ). n + count (lines_under id (line_of id (hex address) ∷ []))) none ∙ omega arith ∙ own

  all_items : (id : ℕ) (shown : Option Ctx) (items : List Item) → count (lines_under id (line_list id shown items)) ≡ times test items
  all_items id shown [] = refl
  all_items id shown (i ∷ items) =
      under-append id (item_line_list id shown i) (line_list id (shown_after shown i) items)
      ∙ ap (λ (n : ℕ). n + count (lines_under id (line_list id (shown_after shown i) items))) (one_item id shown i)
      ∙ ap (λ (n : ℕ). one_if (test i) + n) (all_items id (shown_after shown i) items)

  -- ---- those of pairs

  module _ (image : Image) (t : ℕ → Sizes) (are : (id : ℕ) → AreSettings (t id)) where
    one_pair : (source : Bool) (before : List (ℕ × ℕ)) (pair : ℕ × ℕ) (lines : List (List ℕ)) (items : List Item)
        → GainsIf source (by_sizes (paths image) t) before pair lines → AddsIf source (by_sizes (counted image) t) before pair items
        → count (lines_under pair.0 lines) ≡ times test items
    one_pair false before pair lines items none also =
        ap (λ (l : List (List ℕ)). count (lines_under pair.0 l)) none ∙ sym (ap (times test) also)
    one_pair true before pair lines items (shown, more, grows, is) adds =
        let s = t pair.0 in
        let set = are pair.0 in
        let bytes = of pair.0 before in
        let was = one_path image s set bytes grows.items adds.items grows.last adds.last grows.was adds.was in
        let now = one_path image s set (bytes ++ pair.1 ∷ []) (grows.items ++ more) (adds.items ++ items) grows.next adds.next grows.is adds.is in
        let same = append_cancel_left adds.items more items (ap (λ (l : List Item). l ++ more) (sym was.0) ∙ now.0) in
        ap (λ (l : List (List ℕ)). count (lines_under pair.0 l)) is ∙ all_items pair.0 shown more ∙ ap (times test) same

    all_pairs : (before pairs : List (ℕ × ℕ)) (lines : List Printed) (items : List (ℕ × Item)) → BodyFrom (by_sizes (paths image) t) before pairs lines
        → AddedFrom (by_sizes (counted image) t) before pairs items → count lines ≡ times test (items_alone items)
    all_pairs before [] lines items none also = ap count none ∙ sym (ap (λ (l : List (ℕ × Item)). times test (items_alone l)) also)
    all_pairs before (pair ∷ pairs) lines items (first, rest, gains, later, is) (own, others, adds, after, all) =
        let alone : items_alone (items_under pair.0 own ++ others) ≡ own ++ items_alone others = under_alone pair.0 own others in
        ap count is ∙ that-append passes (lines_under pair.0 first) rest
        ∙ ap (λ (n : ℕ). n + count rest) (one_pair (is_source pair.0) before pair first own gains adds)
        ∙ ap (λ (n : ℕ). times test own + n) (all_pairs (before ++ pair ∷ []) pairs rest others later after)
        ∙ sym (ap (λ (l : List (ℕ × Item)). times test (items_alone l)) all ∙ ap (times test) alone ∙ times-append test own (items_alone others))

    -- ---- those of how they end

    no_end : (id : ℕ) (bytes : List ℕ) (lines : List Printed) (faulty : Bool) → StreamEnds (by_sizes (paths image) t) id bytes lines faulty
        → count lines ≡ 0
    no_end id [] lines faulty (none, whole) = ap count none
    no_end id (b ∷ bytes) lines faulty (line, (items, last, path, line_is, fault_is), is) =
        ap count is ∙ ap (λ (l : List ℕ). count (lines_under id (l ∷ []))) line_is ∙ one_line _ false (tells.ends last)

    no_ends : (pairs : List (ℕ × ℕ)) (ids : List ℕ) (lines : List Printed) (faulty : Bool) → EndsOf (by_sizes (paths image) t) pairs ids lines faulty
        → count lines ≡ 0
    no_ends pairs [] lines faulty (none, whole) = ap count none
    no_ends pairs (id ∷ ids) lines faulty (first, rest, f, o, here, later, is, fault) =
        let one = no_end id (of id pairs) first f here in
        let others = no_ends pairs ids rest o later in
        let both = ap count is ∙ that-append passes first rest in
        omega (arith, one, others, both)

    no_cut : (left : ℕ) (whole : Bool) → count (if whole then [] else record { id = None; line = frame_cut_line left } ∷ []) ≡ 0
    no_cut left true = refl
    no_cut left false = one_line _ false (tells.cut left)

    all_lines : (pairs : List (ℕ × ℕ)) (left : ℕ) (lines : List Printed) (faulty : Bool) (items : List (ℕ × Item))
        → IsText (by_sizes (paths image) t) pairs left lines faulty → AddedFrom (by_sizes (counted image) t) [] pairs items
        → count lines ≡ times test (items_alone items)
    all_lines pairs left lines faulty items is added =
        let last = is.ended in
        let sums = ap count last.summed.2 in
        let ends = no_ends pairs sources last.ends last.some_fault last.ended in
        let cut = no_cut left (left == 0) in
        let ending = ap count last.all ∙ that-append passes last.sums (last.ends ++ cut_lines left) in
        let behind = that-append passes last.ends (cut_lines left) in
        let whole = ap count is.all ∙ that-append passes is.body is.ending in
        let body = all_pairs [] pairs is.body items is.gained added in
        omega (arith, sums, ends, cut, ending, behind, whole, body)

pub are_as_many : (passes : List ℕ → Bool) (test : Item → Bool) → Tells passes test → AreAsMany (lines_that passes) test
are_as_many passes test tells image t are pairs items added = (
  λ lines body. all_pairs passes test tells image t are [] pairs lines items body added,
  λ left lines faulty is. all_lines passes test tells image t are pairs left lines faulty items is added,
)

-- ---- addresses

end_is_no_hex : (last : End) → can_all_be_hex (end_text last ++ 10 ∷ []) ≡ false
end_is_no_hex end.Clean = refl
end_is_no_hex end.NoSync = refl
end_is_no_hex (end.Cut n) = refl
end_is_no_hex (end.Fault at why) = refl

address_tells : (address : ℕ) → Tells (is_text (hex address)) (is_at address)
address_tells address =
    record {
      on = is_no_hex (codes "on" ++ 10 ∷ []) address refl;
      gap = is_no_hex (codes "gap" ++ 10 ∷ []) address refl;
      stop = is_no_hex (codes "stop" ++ 10 ∷ []) address refl;
      unknown = is_no_hex (codes "?" ++ 10 ∷ []) address refl;
      address = λ a ctx took. hex_tells a address;
      exception = λ kind ret. is_no_hex (exception_text kind ret ++ 10 ∷ []) address refl;
      context = λ ctx. is_no_hex (whole_context_text ctx ++ 10 ∷ []) address refl;
      ends = λ last. is_no_hex (end_text last ++ 10 ∷ []) address (end_is_no_hex last);
      cut = λ left. is_no_hex (drop 3 (frame_cut_line left)) address refl;
    }

pub addresses_are_lines : AddressesAreLines
addresses_are_lines address = are_as_many (is_text (hex address)) (is_at address) (address_tells address)

-- ---- marks

no_such_exception : (number kind : ℕ) → number < first_exception → false ≡ ((first_exception + kind) == number)
no_such_exception number kind small = sym (grind (arith, nat_tests, small))

abbrev IsNoEnd : ℕ → Type 0
IsNoEnd number = (last : End) → bytes_eq (end_text last ++ 10 ∷ []) (mark_key number ++ 10 ∷ []) ≡ false

no_end_is_on : IsNoEnd 0
no_end_is_on end.Clean = refl
no_end_is_on end.NoSync = refl
no_end_is_on (end.Cut n) = refl
no_end_is_on (end.Fault at why) = refl

no_end_is_unknown : IsNoEnd 1
no_end_is_unknown end.Clean = refl
no_end_is_unknown end.NoSync = refl
no_end_is_unknown (end.Cut n) = refl
no_end_is_unknown (end.Fault at why) = refl

no_end_is_gap : IsNoEnd 2
no_end_is_gap end.Clean = refl
no_end_is_gap end.NoSync = refl
no_end_is_gap (end.Cut n) = refl
no_end_is_gap (end.Fault at why) = refl

no_end_is_stop : IsNoEnd 3
no_end_is_stop end.Clean = refl
no_end_is_stop end.NoSync = refl
no_end_is_stop (end.Cut n) = refl
no_end_is_stop (end.Fault at why) = refl

mark_tells : (number : ℕ) → number < first_exception → Tells (is_text (mark_key number)) (is_mark number)
mark_tells zero small =
    record {
      on = refl;
      gap = refl;
      stop = refl;
      unknown = refl;
      address = λ a ctx took. no_hex_is a (mark_key 0 ++ 10 ∷ []) refl;
      exception = λ kind ret. no_such_exception 0 kind small;
      context = λ ctx. refl;
      ends = no_end_is_on;
      cut = λ left. refl;
    }
mark_tells (suc zero) small =
    record {
      on = refl;
      gap = refl;
      stop = refl;
      unknown = refl;
      address = λ a ctx took. no_hex_is a (mark_key 1 ++ 10 ∷ []) refl;
      exception = λ kind ret. no_such_exception 1 kind small;
      context = λ ctx. refl;
      ends = no_end_is_unknown;
      cut = λ left. refl;
    }
mark_tells (suc (suc zero)) small =
    record {
      on = refl;
      gap = refl;
      stop = refl;
      unknown = refl;
      address = λ a ctx took. no_hex_is a (mark_key 2 ++ 10 ∷ []) refl;
      exception = λ kind ret. no_such_exception 2 kind small;
      context = λ ctx. refl;
      ends = no_end_is_gap;
      cut = λ left. refl;
    }
mark_tells (suc (suc (suc zero))) small =
    record {
      on = refl;
      gap = refl;
      stop = refl;
      unknown = refl;
      address = λ a ctx took. no_hex_is a (mark_key 3 ++ 10 ∷ []) refl;
      exception = λ kind ret. no_such_exception 3 kind small;
      context = λ ctx. refl;
      ends = no_end_is_stop;
      cut = λ left. refl;
    }
mark_tells (suc (suc (suc (suc number)))) small = absurd (omega (arith, small))

pub marks_are_lines : MarksAreLines
marks_are_lines number small = are_as_many (is_text (mark_key number)) (is_mark number) (mark_tells number small)
