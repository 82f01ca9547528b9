-- The path of a stream among others.
use Rattle.std.proofs.Common.{◌≡◌, ◌≤◌, ℕ, Bool, true, false, List, [], ◌∷◌, ◌++◌, length, Option, Result, Ok, Err, refl, sym, ap, subst, ◌∙◌, inl, inr, arith, append-nil, length-append}
use Rattle.std.proofs.lemmas.Bool.Decides.{eqb_tells}
use Rattle.std.specs.Prelude.{IfOk, not, ◌==◌, if◌then◌else◌}
use Rattle.element_queue.specs.Counting.{entries, no_counts}
use Rattle.etm_types.specs.Settings.{Sizes}
use Rattle.etm_types.specs.declared.context.Ctx.{Ctx}
use Rattle.etm_types.specs.declared.element.Thing.{Thing}
use Rattle.capture_streams.specs.Paths.{paths}
use Rattle.capture_streams.specs.Streams.{HoldsToDepth, RunAdds}
use Rattle.capture_streams.specs.Texts.{Printed, StreamBody, StreamEnds, lines_under, text_of}
use Rattle.etm_types.specs.declared.element.Thing.TheVariants.{Gap, Seen, Stop, Unseen}
use Rattle.etm_types.specs.declared.item.Item.{Item}
use Rattle.packet_grammar.specs.Ends.{is_fault}
use Rattle.packet_grammar.specs.declared.end.End.{End}
use Rattle.path_elements.specs.Path.{IsPath}
use Rattle.path_text.proofs.LineLists.{line_list-append, list_joined}
use Rattle.path_text.specs.EndLines.{end_line}
use Rattle.path_text.specs.PathLines.{line_list, shown_after_all}
use Rattle.path_text.specs.Writing.{Writes}
use Rattle.program_image.specs.declared.image.Image.{Image}
use Rattle.stream_decoder.proofs.Standing.{ends_so}
use Rattle.stream_decoder.specs.Decoding.{Decoder}
use Rattle.stream_decoder.specs.Stands.{GrowsAlong, GrowsBy, StandsAt, end_at}
use Rattle.trace_io.specs.State.{IoState}
use Rattle.trace_io.specs.declared.traits.Failed.{Failed}

no_length : (x : ℕ) (bytes : List ℕ) → (length (x ∷ bytes) == 0) ≡ false
no_length x bytes = elim (eqb_tells (length (x ∷ bytes)) 0) [ inl is ↦ absurd (omega (arith, is.1)) | inr other ↦ other.0 ]

some_line : (id x : ℕ) (bytes : List ℕ) (last : End)
    → (if length (x ∷ bytes) == 0 then [] else end_line id last) ≡ text_of (lines_under id (end_line id last ∷ []))
some_line id x bytes last =
    ap (λ (t : Bool). if t then [] else end_line id last) (no_length x bytes) ∙ sym (append-nil (end_line id last))

module _ (image : Image) (d : Decoder) where
  -- bytes at which a decoder stands have a path
  pub stands_path : (bytes : List ℕ) → StandsAt image d bytes
      → (items : List Item) × (last : End) × IsPath image ((d.decoding).reader.settings) bytes items last
  stands_path bytes stands =
      let ends = ends_so image d.decoding bytes stands.items stands.came in
      (stands.items, end_at ((d.decoding).fault) ends.ending, (stands.came.took, ends.path))

  -- and end in this way
  pub path_ends : (id : ℕ) (bytes : List ℕ) (items : List Item) (last : End) → IsPath image ((d.decoding).reader.settings) bytes items last
      → (lines : List Printed) × (faulty : Bool) × StreamEnds (paths image ((d.decoding).reader.settings)) id bytes lines faulty
  path_ends id [] items last path = ([], false, (refl, refl))
  path_ends id (b ∷ bytes) items last path =
      (lines_under id (end_line id last ∷ []), is_fault last, (end_line id last, (items, last, path, refl, refl), refl))

  -- what was written of the end
  pub path_finished : (id : ℕ) (bytes : List ℕ) (result : Result Bool Failed) (a b : IoState) (items : List Item) (last : End)
      → IsPath image ((d.decoding).reader.settings) bytes items last
      → Writes a b result (if length bytes == 0 then [] else end_line id last) → IfOk result (λ (w : Bool). w ≡ not (is_fault last))
      → (length bytes ≡ 0 → IfOk result (λ (w : Bool). w ≡ true))
      → (lines : List Printed) × (faulty : Bool) × StreamEnds (paths image ((d.decoding).reader.settings)) id bytes lines faulty
      × Writes a b result (text_of lines) × IfOk result (λ (w : Bool). w ≡ not faulty)
  path_finished id [] result a b items last path writes same nothing = ([], false, (refl, refl), writes, nothing refl)
  path_finished id (x ∷ bytes) result a b items last path writes same nothing = (
    lines_under id (end_line id last ∷ []),
    is_fault last,
    (end_line id last, (items, last, path, refl, refl), refl),
    subst (Writes a b result) (some_line id x bytes last) writes,
    same,
  )

-- a decoder that stands at no bytes
pub fresh : {E : Type 0} (result : Result Decoder E) → IfOk result (λ (d : Decoder). (image : Image) → StandsAt image d [])
    → IfOk result (λ (d : Decoder). (d.broken ≡ false) × ((d.decoding).reader.offset ≡ 0))
fresh (Ok d) stands = let at = stands [] in (at.whole, sym at.came.reads.0)
fresh (Err e) stands = tt

-- and holds nothing
pub fresh_holds : {E : Type 0} (result : Result Decoder E) → IfOk result (λ (d : Decoder). (image : Image) → StandsAt image d [])
    → IfOk result (λ (d : Decoder). ((d.decoding).counts ≡ no_counts) × (((d.decoding).pending).held ≡ []))
    → IfOk result (HoldsToDepth (λ (d : Decoder). length ((d.decoding).due ++ ((d.decoding).pending).held)) (λ (d : Decoder). ((d.decoding).reader).settings))
fresh_holds (Ok d) stands none =
    let at = stands [] in
    omega (arith, length-append ((d.decoding).due) (((d.decoding).pending).held), ap length at.came.done.due, ap length none.1)
fresh_holds (Err e) stands none = tt

-- of the things that are held, some were seen
pub seen_within : (things : List Thing) → entries things ≤ length things
seen_within [] = omega arith
seen_within (Seen entry ∷ things) = omega (arith, seen_within things)
seen_within (Unseen ∷ things) = omega (arith, seen_within things)
seen_within (Gap ∷ things) = omega (arith, seen_within things)
seen_within (Stop ∷ things) = omega (arith, seen_within things)

-- ---- a run of bytes

-- the lines of what each of some bytes adds
pub path_body : (image : Image) (s : Sizes) (id : ℕ) (bytes run : List ℕ) (shown : Option Ctx) (more : List Item) → GrowsBy image s bytes run shown more
    → StreamBody (paths image s) id bytes run (line_list id shown more)
path_body image s id bytes [] shown more none = ap (line_list id shown) none
path_body image s id bytes (byte ∷ run) shown more (first, rest, grows, later, parts) = (
  line_list id shown first,
  line_list id (shown_after_all shown first) rest,
  (shown, first, grows, refl),
  path_body image s id (bytes ++ byte ∷ []) run (shown_after_all shown first) rest later,
  ap (line_list id shown) parts ∙ line_list-append id shown first rest,
)

pub path_adds : (image : Image) (s : Sizes) (id : ℕ) (bytes run : List ℕ) (shown : Option Ctx) (a b : IoState) (result : Result (Unit {0}) Failed)
    → GrowsAlong image s id bytes run shown a b result → RunAdds (paths image s) id bytes run a b result
path_adds image s id bytes run shown a b result is =
    record {
      took = run;
      others = [];
      parts = sym (append-nil run);
      lines = line_list id shown is.more;
      body = path_body image s id bytes run shown is.more is.grows;
      writes = subst (Writes a b result) (sym (list_joined id shown is.more)) is.writes;
      all = λ ok. refl;
    }
