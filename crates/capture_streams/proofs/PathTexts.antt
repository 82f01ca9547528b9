-- The paths of streams have one text.
use Rattle.std.proofs.Common.{◌≡◌, ℕ, ◌<◌, List, [], ◌∷◌, ◌++◌, Option, None, refl, sym, ap, subst, ◌∙◌, arith}
use Rattle.std.specs.Prelude.{All}
use Rattle.std.proofs.lemmas.List.{append_cancel_left, get_or_append_left, length-append}
use Rattle.etm_types.specs.Settings.{Sizes, AreSettings}
use Rattle.etm_types.specs.declared.context.Ctx.{Ctx}
use Rattle.etm_types.specs.declared.item.Item.{Item}
use Rattle.packet_grammar.specs.Ends.{is_fault}
use Rattle.packet_grammar.specs.declared.end.End.{End}
use Rattle.path_elements.specs.Path.{IsPath, IsPathTaking}
use Rattle.capture_streams.specs.Laws.{AddsAlways, AddsOnce, EndsAlways, EndsOnce, FrontsOfPathsBegin, GainsAlways, GainsOnce, OneTextOfPaths}
use Rattle.capture_streams.specs.Laws.{SomeTextOfPaths}
use Rattle.capture_streams.specs.Paths.{paths}
use Rattle.capture_streams.specs.Texts.{Printed, by_sizes}
use Rattle.path_elements.proofs.BytePaths as path
use Rattle.path_text.specs.EndLines.{end_line}
use Rattle.path_text.specs.PathLines.{line_list, shown_after_all}
use Rattle.program_image.specs.Part.{IsImage}
use Rattle.program_image.specs.declared.image.Image.{Image}
use Rattle.capture_streams.proofs.BySizes.{adds_always_by, adds_once_by, ends_always_by, ends_once_by, gains_always_by, gains_once_by}
use Rattle.capture_streams.proofs.OneText.{one_body, one_text, some_text}
use Rattle.capture_streams.proofs.Parted.{CarriesOn, fronts_begin}
use Rattle.path_elements.specs.PathLaws.{BeginsWith}

module _ (image : Image) (s : Sizes) (are : AreSettings s) where
  -- ---- one

  pub one_path : (bytes : List ℕ) (items others : List Item) (last other : End) → IsPath image s bytes items last → IsPath image s bytes others other
      → (items ≡ others) × (last ≡ other)
  one_path bytes items others last other (took, is) (also, too) =
      let same = path.one_path image s are bytes items others last other took also is too in (same.0, same.1)

  pub paths_gain_once : GainsOnce (paths image s)
  paths_gain_once id bytes byte lines others (shown, more, grows, is) (shown', more', grows', is') =
      let before = one_path bytes grows.items grows'.items grows.last grows'.last grows.was grows'.was in
      let after = one_path (bytes ++ byte ∷ []) (grows.items ++ more) (grows'.items ++ more') grows.next grows'.next grows.is grows'.is in
      let joined : grows'.items ++ more ≡ grows'.items ++ more' = ap (λ (l : List Item). l ++ more) (sym before.0) ∙ after.0 in
      let gained = append_cancel_left grows'.items more more' joined in
      let context : shown ≡ shown' = grows.context ∙ ap (shown_after_all None) before.0 ∙ sym grows'.context in
      is ∙ ap (λ (c : Option Ctx). line_list id c more) context ∙ ap (line_list id shown') gained ∙ sym is'

  pub paths_end_once : EndsOnce (paths image s)
  paths_end_once id bytes line other faulty also (items, last, is, line_is, fault_is) (items', last', is', line_is', fault_is') =
      let same = one_path bytes items items' last last' is is' in
      (line_is ∙ ap (end_line id) same.1 ∙ sym line_is', fault_is ∙ ap is_fault same.1 ∙ sym fault_is')

  -- they add nothing to a sum
  paths_add_once : AddsOnce (paths image s)
  paths_add_once id bytes byte items others none also = none ∙ sym also

  paths_add_always : AddsAlways (paths image s)
  paths_add_always id bytes byte small = ([], refl)

  -- ---- some

  abbrev IsByte : ℕ → Type 0
  IsByte b = b < 256

  front_small : (xs ys : List ℕ) → All IsByte (xs ++ ys) → All IsByte xs
  front_small xs ys all k d within = subst IsByte (get_or_append_left xs ys d k within) (all k d (omega (arith, within, length-append xs ys)))

  pub paths_gain_always : IsImage image → GainsAlways (paths image s)
  paths_gain_always is id bytes byte small =
      let was = path.some_path image s is are bytes (front_small bytes (byte ∷ []) small) in
      let now = path.some_path image s is are (bytes ++ byte ∷ []) small in
      let grows = path.path_grows image s are bytes (byte ∷ []) was.0 now.0 was.1 now.1 was.2 now.2 was.3 now.3 in
      let more = grows.0.0 in
      let shown = shown_after_all None was.0 in (
        line_list id shown more,
        (
          shown,
          more,
          record {
            items = was.0;
            last = was.1;
            next = now.1;
            was = (was.2, was.3);
            is = (now.2, subst (λ (i : List Item). IsPathTaking image s (bytes ++ byte ∷ []) i now.1 now.2) grows.0.1 now.3);
            context = refl;
          },
          refl,
        ),
      )

  pub paths_end_always : IsImage image → EndsAlways (paths image s)
  paths_end_always is id bytes small =
      let some = path.some_path image s is are bytes small in
      (end_line id some.1, is_fault some.1, (some.0, some.1, (some.2, some.3), refl, refl))

-- ---- many streams, each of its own sizes

module _ (image : Image) (t : ℕ → Sizes) (are : (id : ℕ) → AreSettings (t id)) where
  once_by : GainsOnce (by_sizes (paths image) t)
  once_by = gains_once_by (paths image) t (λ id. paths_gain_once image (t id) (are id))

pub one_text_of_paths : OneTextOfPaths
one_text_of_paths image t are =
    one_text (by_sizes (paths image) t) (once_by image t are) (adds_once_by (paths image) t (λ id. paths_add_once image (t id) (are id)))
    (ends_once_by (paths image) t (λ id. paths_end_once image (t id) (are id)))

pub some_text_of_paths : SomeTextOfPaths
some_text_of_paths image t is are =
    some_text (by_sizes (paths image) t) (gains_always_by (paths image) t (λ id. paths_gain_always image (t id) (are id) is))
    (adds_always_by (paths image) t (λ id. paths_add_always image (t id) (are id)))
    (ends_always_by (paths image) t (λ id. paths_end_always image (t id) (are id) is))

pub fronts_of_paths_begin : (carried : List ℕ → List (ℕ × ℕ)) → CarriesOn carried → FrontsOfPathsBegin carried
fronts_of_paths_begin carried on image t are bytes more first lines front body =
    let g = by_sizes (paths image) t in
    let some = fronts_begin carried g on bytes more lines body in
    let same = one_body g (once_by image t are) [] (carried bytes) some.0 first some.1 front in
    subst (λ (l : List Printed). BeginsWith l lines) same some.2
