-- Packets that were taken at the front of some bytes, and others behind those.
use Rattle.std.proofs.Common.{◌≡◌, ◌⊎◌, ℕ, ◌<◌, List, [], ◌∷◌, ◌++◌, length, refl, sym, ap, subst, ◌∙◌, arith, inl, inr, append-nil}
use Rattle.std.proofs.Common.{append_assoc, length-append}
use Rattle.etm_types.specs.declared.context.Ctx.{Ctx}
use Rattle.etm_types.specs.declared.item.Item.{Item}
use Rattle.path_walker.specs.Walk.{items_in}
use Rattle.path_walker.specs.declared.stretch.Stretch.{Stretch}
use Rattle.program_image.specs.declared.image.Image.{Image}
use Rattle.stream_decoder.proofs.LettingGo.{items_joined}
use Rattle.stream_decoder.specs.AtomPackets.{RunsFront, RunsPackets, bytes_in}
use Rattle.stream_decoder.specs.Decoding.{AtRest, Decoding, IsDecoding}

bytes_joined : (first second : List (List ℕ)) (last : List ℕ) → bytes_in (first ++ last ∷ second) ≡ bytes_in first ++ (last ++ bytes_in second)
bytes_joined [] second last = refl
bytes_joined (text ∷ texts) second last =
    ap (λ (l : List ℕ). text ++ l) (bytes_joined texts second last) ∙ sym (append_assoc text (bytes_in texts) (last ++ bytes_in second))

packets_joined : (image : Image) (d m d' : Decoding) (first second : List (List ℕ)) (mid last : List ℕ) (xs ys : List Item)
    → RunsPackets image d first mid xs m → AtRest m → IsDecoding m → RunsPackets image m second last ys d'
    → RunsPackets image d (first ++ mid ∷ second) last (xs ++ ys) d'
packets_joined image d m d' [] second mid last xs ys runs rest holds more = (m, xs, ys, runs, rest, holds, more, refl)
packets_joined image d m d' (text ∷ texts) second mid last xs ys (next, some, others, one, done, is, runs, parts) rest holds more = (
  next,
  some,
  others ++ ys,
  one,
  done,
  is,
  packets_joined image next m d' texts second mid last others ys runs rest holds more,
  ap (λ (l : List Item). l ++ ys) parts ∙ append_assoc some others ys,
)

-- packets were taken up to here, or none was
abbrev pub RunsMaybe : {V : Type 0} → (V → List Stretch → V → Type 0) → Image → Decoding → V → List ℕ → Decoding → V → List ℕ → Type 0
RunsMaybe Takes image d old bytes d' new behind = ((d' ≡ d) × Takes old [] new × (behind ≡ bytes)) ⊎ RunsFront Takes image d old bytes behind d' new

-- one run of packets, and then another
module _ {V : Type 0} (Takes : V → List Stretch → V → Type 0)
    (joins : (a b c : V) (xs ys : List Stretch) → Takes a xs b → Takes b ys c → Takes a (xs ++ ys) c) (image : Image) (d : Decoding) (old : V)
    (bytes : List ℕ) where
  runs_joined : (m d' : Decoding) (between new : V) (rest behind : List ℕ) → RunsFront Takes image d old bytes rest m between → AtRest m → IsDecoding m
      → (m.walk).ctx ≡ (d.walk).ctx → RunsFront Takes image m between rest behind d' new → RunsFront Takes image d old bytes behind d' new
  runs_joined m d' between new rest behind one done holds context two =
      let joined = bytes_joined one.first two.first one.last in
      let more : RunsPackets image m two.first two.last (items_in (d.walk).ctx two.added) d' =
      subst (λ (ctx : Ctx). RunsPackets image m two.first two.last (items_in ctx two.added) d') context two.packets in
      record {
        first = one.first ++ one.last ∷ two.first;
        last = two.last;
        parts = one.parts ∙ ap (λ (l : List ℕ). bytes_in one.first ++ (one.last ++ l)) two.parts
            ∙ ap (λ (l : List ℕ). bytes_in one.first ++ l) (sym (append_assoc one.last (bytes_in two.first) (two.last ++ behind)))
            ∙ sym (append_assoc (bytes_in one.first) (one.last ++ bytes_in two.first) (two.last ++ behind))
            ∙ ap (λ (l : List ℕ). l ++ (two.last ++ behind)) (sym joined);
        some = two.some;
        added = one.added ++ two.added;
        takes = joins old between new one.added two.added one.takes two.takes;
        packets = subst (λ (i : List Item). RunsPackets image d (one.first ++ one.last ∷ two.first) two.last i d')
            (items_joined (d.walk).ctx one.added two.added)
            (packets_joined image d m d' one.first two.first one.last two.last (items_in (d.walk).ctx one.added) (items_in (d.walk).ctx two.added)
            one.packets done holds more);
        settings = two.settings ∙ one.settings;
        offset = let long = ap length joined in
            let all = length-append (bytes_in one.first) (one.last ++ bytes_in two.first) in
            let few = length-append one.last (bytes_in two.first) in omega (arith, one.offset, two.offset, long, all, few);
      }

  -- the bytes behind them are fewer
  shorter : (d' : Decoding) (new : V) (behind : List ℕ) → RunsFront Takes image d old bytes behind d' new → length behind < length bytes
  shorter d' new behind runs =
      let all = ap length runs.parts ∙ length-append (bytes_in runs.first) (runs.last ++ behind) in
      omega (arith, runs.some, all, length-append runs.last behind)

  -- the taker took nothing more
  takes_no_more : (d' : Decoding) (between new : V) (behind : List ℕ) → RunsFront Takes image d old bytes behind d' between → Takes between [] new
      → RunsFront Takes image d old bytes behind d' new
  takes_no_more d' between new behind runs none =
      record {
        first = runs.first;
        last = runs.last;
        parts = runs.parts;
        some = runs.some;
        added = runs.added;
        takes = subst (λ (l : List Stretch). Takes old l new) (append-nil runs.added) (joins old between new runs.added [] runs.takes none);
        packets = runs.packets;
        settings = runs.settings;
        offset = runs.offset;
      }

  -- some more were taken
  pub ran_on : (m d' : Decoding) (between new : V) (rest behind : List ℕ) → RunsMaybe Takes image d old bytes m between rest → AtRest m → IsDecoding m
      → (m.walk).ctx ≡ (d.walk).ctx → RunsFront Takes image m between rest behind d' new → RunsMaybe Takes image d old bytes d' new behind
  ran_on m d' between new rest behind (inl (same, none, all)) done holds context runs = inr (
      let here : RunsFront Takes image d between bytes behind d' new =
      subst (λ (x : Decoding). RunsFront Takes image x between bytes behind d' new) same
      (subst (λ (l : List ℕ). RunsFront Takes image m between l behind d' new) all runs) in
      record {
        first = here.first;
        last = here.last;
        parts = here.parts;
        some = here.some;
        added = here.added;
        takes = joins old between new [] here.added none here.takes;
        packets = here.packets;
        settings = here.settings;
        offset = here.offset;
      })
  ran_on m d' between new rest behind (inr one) done holds context runs =
      inr (runs_joined m d' between new rest behind one done holds context runs)

  -- all that can be was taken: something, where bytes less are left
  pub ran_some : (m : Decoding) (between new : V) (rest : List ℕ) → RunsMaybe Takes image d old bytes m between rest → Takes between [] new
      → (length rest ≡ length bytes → ⊥) → RunsFront Takes image d old bytes rest m new
  ran_some m between new rest (inl (same, none, all)) more fewer = absurd (fewer (ap length all))
  ran_some m between new rest (inr runs) more fewer = takes_no_more m between new rest runs more

  -- or nothing
  pub ran_none : (m : Decoding) (between new : V) (rest : List ℕ) → RunsMaybe Takes image d old bytes m between rest → Takes between [] new
      → length rest ≡ length bytes → (m ≡ d) × Takes old [] new
  ran_none m between new rest (inl (same, none, all)) more many = (same, joins old between new [] [] none more)
  ran_none m between new rest (inr runs) more many = absurd (let fewer = shorter m between rest runs in omega (arith, fewer, many))
