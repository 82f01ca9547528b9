-- The counts of streams have one text.
use Rattle.std.proofs.Common.{ℕ, ◌<◌, List, [], ◌∷◌, ◌++◌, refl, sym, ap, subst, ◌∙◌, arith}
use Rattle.std.specs.Prelude.{All}
use Rattle.std.proofs.lemmas.List.{append_cancel_left, get_or_append_left, length-append}
use Rattle.etm_types.specs.Settings.{AreSettings, Sizes}
use Rattle.etm_types.specs.declared.item.Item.{Item}
use Rattle.path_elements.specs.Path.{IsPathTaking}
use Rattle.capture_streams.specs.Laws.{AddsAlways, AddsOnce, EndsAlways, EndsOnce, GainsAlways, GainsOnce}
use Rattle.capture_streams.specs.Texts.{by_sizes}
use Rattle.path_elements.proofs.BytePaths as path
use Rattle.program_image.specs.Part.{IsImage}
use Rattle.program_image.specs.declared.image.Image.{Image}
use Rattle.capture_streams.proofs.BySizes.{adds_always_by, adds_once_by, ends_always_by, ends_once_by, gains_always_by, gains_once_by}
use Rattle.capture_streams.proofs.OneText.{one_text, some_text}
use Rattle.capture_streams.proofs.PathTexts.{one_path, paths_end_always, paths_end_once}
use Rattle.count_streams.specs.CountLaws.{OneTextOfCounts, SomeTextOfCounts}
use Rattle.count_streams.specs.Counted.{counted}

abbrev IsByte : ℕ → Type 0
IsByte b = b < 256

front_small : (xs ys : List ℕ) → All IsByte (xs ++ ys) → All IsByte xs
front_small xs ys all k d within = subst IsByte (get_or_append_left xs ys d k within) (all k d (omega (arith, within, length-append xs ys)))

module _ (image : Image) (s : Sizes) (are : AreSettings s) where
  -- no line comes with a byte
  gain_once : GainsOnce (counted image s)
  gain_once id bytes byte lines others none also = none ∙ sym also

  gain_always : GainsAlways (counted image s)
  gain_always id bytes byte small = ([], refl)

  add_once : AddsOnce (counted image s)
  add_once id bytes byte items others grows grows' =
      let before = one_path image s are bytes grows.items grows'.items grows.last grows'.last grows.was grows'.was in
      let after =
      one_path image s are (bytes ++ byte ∷ []) (grows.items ++ items) (grows'.items ++ others) grows.next grows'.next grows.is grows'.is
      in
      append_cancel_left grows'.items items others (ap (λ (l : List Item). l ++ items) (sym before.0) ∙ after.0)

  end_once : EndsOnce (counted image s)
  end_once = paths_end_once image s are

  add_always : IsImage image → AddsAlways (counted image s)
  add_always is id bytes byte small =
      let was = path.some_path image s is are bytes (front_small bytes (byte ∷ []) small) in
      let now = path.some_path image s is are (bytes ++ byte ∷ []) small in
      let grows = path.path_grows image s are bytes (byte ∷ []) was.0 now.0 was.1 now.1 was.2 now.2 was.3 now.3 in (
        grows.0.0,
        record {
          items = was.0;
          last = was.1;
          next = now.1;
          was = (was.2, was.3);
          is = (now.2, subst (λ (i : List Item). IsPathTaking image s (bytes ++ byte ∷ []) i now.1 now.2) grows.0.1 now.3);
        },
      )

  end_always : IsImage image → EndsAlways (counted image s)
  end_always is = paths_end_always image s are is

-- ---- many streams, each of its own sizes

pub add_once_by : (image : Image) (t : ℕ → Sizes) → ((id : ℕ) → AreSettings (t id)) → AddsOnce (by_sizes (counted image) t)
add_once_by image t are = adds_once_by (counted image) t (λ id. add_once image (t id) (are id))

pub one_text_of_counts : OneTextOfCounts
one_text_of_counts image t are =
    one_text (by_sizes (counted image) t) (gains_once_by (counted image) t (λ id. gain_once image (t id) (are id)))
    (add_once_by image t are)
    (ends_once_by (counted image) t (λ id. end_once image (t id) (are id)))

pub some_text_of_counts : SomeTextOfCounts
some_text_of_counts image t is are =
    some_text (by_sizes (counted image) t) (gains_always_by (counted image) t (λ id. gain_always image (t id) (are id)))
    (adds_always_by (counted image) t (λ id. add_always image (t id) (are id) is))
    (ends_always_by (counted image) t (λ id. end_always image (t id) (are id) is))
