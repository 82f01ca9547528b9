-- Bytes that are taken one after the other, or whole packets together.
use Rattle.std.proofs.Common.{◌≡◌, ◌≢◌, ℕ, List, [], ◌∷◌, ◌++◌, Option, Result, Some, None, Ok, Err, false, refl, sym, ap, subst, ◌∙◌}
use Rattle.std.proofs.Common.{append_assoc, append-nil}
use Rattle.std.specs.Prelude.{IsOk}
use Rattle.std.specs.Result.{is_err}
use Rattle.std.proofs.lemmas.List.{append_cancel_left}
use Rattle.etm_types.specs.Settings.{AreSettings, Sizes}
use Rattle.etm_types.specs.declared.context.Ctx.{Ctx}
use Rattle.etm_types.specs.declared.item.Item.{Item}
use Rattle.packet_grammar.proofs.Fitting.{small_front}
use Rattle.packet_grammar.specs.declared.end.End.{End}
use Rattle.packet_grammar.specs.declared.stream_fault.Fault.{Fault}
use Rattle.path_elements.proofs.BytePaths.{front_path, one_path, path_grows}
use Rattle.path_elements.specs.Path.{IsPath, IsPathTaking}
use Rattle.path_text.proofs.LineLemmas.{shown_after_all-append}
use Rattle.path_text.specs.PathLines.{shown_after_all}
use Rattle.program_image.specs.declared.image.Image.{Image}
use Rattle.stream_decoder.proofs.Coming.{path_of}
use Rattle.stream_decoder.proofs.Growing.{Small}
use Rattle.stream_decoder.specs.Decoding.{Decoding}
use Rattle.stream_decoder.specs.Stands.{Came, GrowsBy}
use Rattle.stream_decoder.specs.Yields.{BegunByte, BegunFront, OpensBehind}

-- ---- the path grows with each of some bytes

module _ (image : Image) (s : Sizes) (are : AreSettings s) where
  pub grows_each : (bytes text : List ℕ) (items more : List Item) (last next : End) (shown : Option Ctx) → Small (bytes ++ text)
      → shown ≡ shown_after_all None items → IsPath image s bytes items last → IsPath image s (bytes ++ text) (items ++ more) next
      → GrowsBy image s bytes text shown more
  grows_each bytes [] items more last next shown small context was is =
      let there = subst (λ (b : List ℕ). IsPathTaking image s b (items ++ more) next is.0) (append-nil bytes) is.1 in
      let same = one_path image s are bytes (items ++ more) items next last is.0 was.0 there was.1 in
      append_cancel_left items more [] (same.0 ∙ sym (append-nil items))
  grows_each bytes (b ∷ text) items more last next shown small context was is =
      let here = bytes ++ b ∷ [] in
      let joined : bytes ++ (b ∷ text) ≡ here ++ text = sym (append_assoc bytes (b ∷ []) text) in
      let whole = subst (λ (t : List ℕ). IsPathTaking image s t (items ++ more) next is.0) joined is.1 in
      let mid = front_path image s are here text (items ++ more) next is.0 (small_front (bytes ++ (b ∷ text)) here text joined small) whole in
      let first = (path_grows image s are bytes (b ∷ []) items mid.0 last mid.1 was.0 mid.2 was.1 mid.3).0 in
      let rest = (path_grows image s are here text mid.0 (items ++ more) mid.1 next mid.2 is.0 mid.3 whole).0 in
      let parts : items ++ more ≡ (items ++ first.0) ++ rest.0 = rest.1 ∙ ap (λ (l : List Item). l ++ rest.0) first.1 in
      let now : IsPath image s here (items ++ first.0) mid.1 = (mid.2, subst (λ (l : List Item). IsPathTaking image s here l mid.1 mid.2) first.1 mid.3) in (
        first.0,
        rest.0,
        record { items = items; last = last; next = mid.1; was = was; is = now; context = context },
        grows_each here text (items ++ first.0) rest.0 mid.1 next (shown_after_all shown first.0) (subst Small joined small)
            (ap (λ (c : Option Ctx). shown_after_all c first.0) context ∙ sym (shown_after_all-append None items first.0)) now
            (is.0, subst (λ (l : List Item). IsPathTaking image s (here ++ text) l next is.0) parts whole),
        append_cancel_left items more (first.0 ++ rest.0) (parts ∙ append_assoc items first.0 rest.0),
      )

-- what a run of bytes adds to the path of those before it
pub run_grows_by : (image : Image) (d d' : Decoding) (bytes run : List ℕ) (items more : List Item) (shown : Option Ctx) → AreSettings ((d.reader).settings)
    → (d'.reader).settings ≡ (d.reader).settings → Came image d bytes items → Came image d' (bytes ++ run) (items ++ more)
    → shown ≡ shown_after_all None items → GrowsBy image ((d.reader).settings) bytes run shown more
run_grows_by image d d' bytes run items more shown are settings came now context =
    let all = items ++ more in
    let before = path_of image bytes [] items d d are refl came in
    let after = path_of image (bytes ++ run) [] all d' d' (subst AreSettings (sym settings) are) refl now in
    let path = subst (λ (s : Sizes). IsPathTaking image s (bytes ++ run) all after.0 now.took) settings after.1 in
    grows_each image ((d.reader).settings) are bytes run items more before.0 after.0 shown now.small context (came.took, before.1) (now.took, path)

pub not_failed : {T E : Type 0} (r : Result T E) → IsOk r → is_err r ≡ false
not_failed (Ok x) ok = refl
not_failed (Err e) ok = absurd cc

-- ---- behind a fault only the reader goes on

reader_alone : (f : Option (ℕ × Fault)) (d m : Decoding) (byte : ℕ) (begun : BegunByte d byte m) → f ≢ None → OpensBehind f d begun.0 m
    → m ≡ record d { reader = m.reader }
reader_alone None d m byte begun met opens = absurd (met refl)
reader_alone (Some stop) d m byte begun met opens = opens

pub still_stopped : (d d' : Decoding) (bytes behind : List ℕ) → d.fault ≢ None → BegunFront d d' bytes behind → d' ≡ record d { reader = d'.reader }
still_stopped d d' bytes behind met is = reader_alone d.fault d d' is.byte is.begins met (is.begins).2

pub still_met : (d m : Decoding) → m ≡ record d { reader = m.reader } → d.fault ≢ None → m.fault ≢ None
still_met d m same met none = met (sym (ap (λ (x : Decoding). x.fault) same) ∙ none)

pub stopped_more : (d d1 m d2 : Decoding) → d1 ≡ record d { reader = d1.reader } → m ≡ record d1 { reader = m.reader } → d2 ≡ m
    → d2 ≡ record d { reader = d2.reader }
stopped_more d d1 m d2 before now last =
    subst (λ (x : Decoding). x ≡ record d { reader = x.reader }) (sym last) (now ∙ ap (λ (x : Decoding). record x { reader = m.reader }) before)
