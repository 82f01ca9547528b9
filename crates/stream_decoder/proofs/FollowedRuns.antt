-- What a follower was given of bytes that were taken one after the other, or whole packets together.
use Rattle.std.proofs.Common.{◌≡◌, ◌≢◌, ℕ, ◌+◌, ◌<◌, List, [], ◌∷◌, ◌++◌, length, Option, None, Some, refl, sym, ap, subst, ◌∙◌, inl, arith}
use Rattle.std.proofs.Common.{append_assoc, append-nil, length-append}
use Rattle.etm_types.specs.Settings.{AreSettings, Sizes}
use Rattle.etm_types.specs.declared.context.Ctx.{Ctx}
use Rattle.etm_types.specs.declared.item.Item.{Item}
use Rattle.packet_grammar.proofs.Fitting.{small_front}
use Rattle.packet_grammar.specs.declared.stream_fault.Fault.{Fault}
use Rattle.packet_reader.specs.Stands.{PacketReading}
use Rattle.path_text.specs.PathLines.{shown_after_all}
use Rattle.program_image.specs.declared.image.Image.{Image}
use Rattle.stream_decoder.proofs.Along.{run_grows_by}
use Rattle.stream_decoder.proofs.Following.{FollowsAll}
use Rattle.stream_decoder.proofs.Growing.{Small, by_fault, not_none, stands_on, stands_stopped}
use Rattle.stream_decoder.specs.Decoding.{Decoding}
use Rattle.stream_decoder.specs.Follows.{CameTo, FollowsFront, FollowsRun, GrowsByEach}
use Rattle.stream_decoder.specs.Stands as stands
use Rattle.stream_decoder.specs.Stands.{Came}
use Rattle.stream_decoder.specs.Yields.{BegunBy, BegunFront}

-- by which items the path grows with each byte, whatever context was printed last
each_alone : (image : Image) (s : Sizes) (bytes run : List ℕ) (shown : Option Ctx) (more : List Item) → stands.GrowsBy image s bytes run shown more
    → GrowsByEach image s bytes run more
each_alone image s bytes [] shown more none = none
each_alone image s bytes (b ∷ run) shown more (first, rest, grows, later, is) = (
  first,
  rest,
  record { items = grows.items; last = grows.last; next = grows.next; was = grows.was; is = grows.is },
  each_alone image s (bytes ++ b ∷ []) run (shown_after_all shown first) rest later,
  is,
)

module _ {F : Type 0} (Takes : F → List Item → F → Type 0) (none : (f : F) → Takes f [] f)
    (joins : (a b c : F) (xs ys : List Item) → Takes a xs b → Takes b ys c → Takes a (xs ++ ys) c) (image : Image) where
  -- ---- a run of bytes

  -- none is taken
  run_first : (d : Decoding) (f : F) → FollowsRun Takes image d [] d f f
  run_first d f =
      record {
        more = [];
        came = λ bytes items is. subst (λ (b : List ℕ). Came image d b (items ++ [])) (sym (append-nil bytes))
            (subst (Came image d bytes) (sym (append-nil items)) is);
        takes = none f;
        settings = refl;
        offset = omega arith;
      }

  -- a run is taken, and another behind it
  run_on : (d m d' : Decoding) (run others : List ℕ) (old mid new : F) → FollowsRun Takes image d run m old mid
      → FollowsRun Takes image m others d' mid new → FollowsRun Takes image d (run ++ others) d' old new
  run_on d m d' run others old mid new a b =
      record {
        more = a.more ++ b.more;
        came = λ bytes items is.
            subst (λ (l : List ℕ). Came image d' l (items ++ (a.more ++ b.more))) (append_assoc bytes run others)
            (subst (Came image d' ((bytes ++ run) ++ others)) (append_assoc items a.more b.more)
            (b.came (bytes ++ run) (items ++ a.more) (a.came bytes items is)));
        takes = joins old mid new a.more b.more a.takes b.takes;
        settings = b.settings ∙ a.settings;
        offset = omega (arith, a.offset, b.offset, length-append run others);
      }

  -- a run is taken, and then nothing more
  run_to : (d d' : Decoding) (run : List ℕ) (old new newer : F) → FollowsRun Takes image d run d' old new → Takes new [] newer
      → FollowsRun Takes image d run d' old newer
  run_to d d' run old new newer a takes =
      record {
        more = a.more;
        came = a.came;
        takes = subst (λ (l : List Item). Takes old l newer) (append-nil a.more)
            (joins old new newer a.more [] a.takes takes);
        settings = a.settings;
        offset = a.offset;
      }

  module _ (d d' : Decoding) (run : List ℕ) (old new : F) (follows : FollowsRun Takes image d run d' old new) (bytes : List ℕ)
      (came : CameTo image d bytes) where
    pub run_stands : CameTo image d' (bytes ++ run)
    run_stands = (came.0 ++ follows.more, follows.came bytes came.0 came.1)

    pub run_grows : AreSettings ((d.reader).settings)
        → (more : List Item) × GrowsByEach image ((d.reader).settings) bytes run more × Takes old more new
    run_grows are =
        let shown = shown_after_all None came.0 in (
          follows.more,
          each_alone image ((d.reader).settings) bytes run shown follows.more
              (run_grows_by image d d' bytes run came.0 follows.more shown are follows.settings came.1 (follows.came bytes came.0 came.1) refl),
          follows.takes,
        )

  -- ---- how far a run was taken

  -- a front of it was, and these bytes are left
  abbrev pub FollowedFront : Decoding → List ℕ → List ℕ → Decoding → F → F → Type 0
  FollowedFront d run rest d' old new = (front : List ℕ) × (run ≡ front ++ rest) × FollowsRun Takes image d front d' old new

  pub front_first : (d : Decoding) (run : List ℕ) (f : F) → FollowedFront d run run d f f
  front_first d run f = ([], refl, run_first d f)

  module _ (d d' : Decoding) (run rest : List ℕ) (old new : F) (was : FollowedFront d run rest d' old new) where
    pub front_taken : (d'.reader).offset + length rest ≡ (d.reader).offset + length run
    front_taken = omega (arith, (was.2).offset, ap length was.1, length-append was.0 rest)

    -- and bytes at the front of those that were left
    pub front_on : (d2 : Decoding) (behind : List ℕ) (newer : F) → FollowsFront Takes image d' rest behind d2 new newer
        → FollowedFront d run behind d2 old newer
    front_on d2 behind newer is = (
      was.0 ++ is.text,
      was.1 ∙ ap (λ (l : List ℕ). was.0 ++ l) is.parts ∙ sym (append_assoc was.0 is.text behind),
      run_on d d' d2 was.0 is.text old new newer was.2 is.follows,
    )

    -- all of it was, and nothing more was taken
    pub front_all : rest ≡ [] → (newer : F) → Takes new [] newer → FollowsRun Takes image d run d' old newer
    front_all nothing newer takes =
        let whole : run ≡ was.0 = was.1 ∙ ap (λ (l : List ℕ). was.0 ++ l) nothing ∙ append-nil was.0 in
        subst (λ (l : List ℕ). FollowsRun Takes image d l d' old newer) (sym whole) (run_to d d' was.0 old new newer was.2 takes)

  -- what stands behind is shorter
  pub less_behind : (d d' : Decoding) (bytes behind : List ℕ) (old new : F) → FollowsFront Takes image d bytes behind d' old new
      → length behind < length bytes
  less_behind d d' bytes behind old new is = omega (arith, is.some, ap length is.parts, length-append is.text behind)

  -- ---- the next bytes

  -- they are taken, and what they left to do is done; before that the follower took nothing
  module _ (d n d2 : Decoding) (bytes behind : List ℕ) (fits : Small bytes) (are : AreSettings ((d.reader).settings)) (old mid new : F)
      (begun : BegunFront d n bytes behind) (unread : d2.reader ≡ n.reader) (first : Takes old [] mid) where
    abbrev text : List ℕ
    text = begun.byte ∷ []

    begins : BegunBy d text n
    begins = inl (begun.byte, refl, begun.begins)

    small : Small text
    small = small_front bytes text behind begun.parts fits

    settings : (d2.reader).settings ≡ (d.reader).settings
    settings = ap (λ (r : PacketReading). r.settings) unread ∙ begun.settings

    taken : (d2.reader).offset ≡ (d.reader).offset + length text
    taken = ap (λ (r : PacketReading). r.offset) unread ∙ begun.offset

    next_on : n.fault ≡ None → FollowsAll Takes none joins image n d2 mid new → FollowsRun Takes image d text d2 old new
    next_on whole (others, ends, takes) =
        record {
          more = others;
          came = λ bytes items is. stands_on image bytes text small items d n are begun.settings begins is whole others d2 ends;
          takes = joins old mid new [] others first takes;
          settings = settings;
          offset = taken;
        }

    next_stopped : (stop : ℕ × Fault) → n.fault ≡ Some stop → (d2 ≡ n) × (new ≡ mid) → FollowsRun Takes image d text d2 old new
    next_stopped stop met (same, idle) =
        record {
          more = [];
          came = λ bytes items is.
              let now = stands_stopped image bytes text small items d n are begun.settings begins is stop met in
              subst (λ (x : Decoding). Came image x (bytes ++ text) (items ++ [])) (sym same)
              (subst (Came image n (bytes ++ text)) (sym (append-nil items)) now);
          takes = subst (λ (f : F). Takes old [] f) (sym idle) first;
          settings = settings;
          offset = taken;
        }

    pub next_front : (n.fault ≡ None → FollowsAll Takes none joins image n d2 mid new) → (n.fault ≢ None → (d2 ≡ n) × (new ≡ mid))
        → FollowsFront Takes image d bytes behind d2 old new
    next_front follows stopped =
        record {
          text = text;
          parts = begun.parts;
          some = omega arith;
          follows = by_fault n.fault (λ whole. next_on whole (follows whole))
              (λ stop met. next_stopped stop met (stopped (not_none n.fault stop met)));
        }
