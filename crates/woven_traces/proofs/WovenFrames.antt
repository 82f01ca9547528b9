-- Pairs that are pushed one after the other, and the frames that they fill.
use Rattle.std.proofs.Common.{◌≡◌, ℕ, ◌+◌, ◌-◌, ◌<◌, true, List, [], ◌∷◌, ◌++◌, length, take, drop, get_or}
use Rattle.std.proofs.Common.{None, Result, Ok, Err, refl, sym, ap, subst, ◌∙◌, arith, append-nil, append_assoc, length-drop}
use Rattle.std.specs.Prelude.{nat_lt}
use Rattle.std.proofs.KnownBytes.{Appends-nil, Appends-trans}
use Rattle.std.proofs.Math.Seq.{take-add}
use Rattle.std.proofs.lemmas.Bool.{ltb-true}
use Rattle.std.proofs.lemmas.List.{get_or-drop, map-append, take_more}
use Rattle.formatter_frames.proofs.Symbols.{symbols_of-push}
use Rattle.formatter_frames.proofs.Writing.{frames_of-append}
use Rattle.formatter_frames.specs.Framed.{begun, filled, framed, frames_of, whole_frames}
use Rattle.formatter_frames.specs.Pieces.{left_over}
use Rattle.formatter_frames.specs.Symbols.{id_after, symbols_of, told}
use Rattle.formatter_frames.specs.Writer.{AppendsGrowth, Begun, StandsAt}
use Rattle.formatter_frames.specs.declared.symbol.Symbol.TheVariants.{Data}
use Rattle.path_text.specs.Writing.{Writes}
use Rattle.woven_traces.specs.Weaving.{IsCut, IsWeaving, Weaves}
use Rattle.woven_traces.specs.Woven.{under}
use Rattle.trace_io.proofs.Known.{front_after, front_more, front_of_shorter}
use Rattle.trace_io.specs.Bytes.{AppendsAll, AppendsFront, ShowsAsBefore}
use Rattle.trace_io.specs.Causes.{HasCause, Rose}
use Rattle.trace_io.specs.State.{IoState}

-- ---- more pairs only add frames

whole_frames_grow : (pairs more : List (ℕ × ℕ)) → (rest : List ℕ) × (whole_frames (pairs ++ more) ≡ whole_frames pairs ++ rest)
whole_frames_grow pairs [] = ([], ap whole_frames (append-nil pairs) ∙ sym (append-nil (whole_frames pairs)))
whole_frames_grow pairs (pair ∷ more) =
    let before = symbols_of None pairs in
    let added = told (id_after None before) pair.0 ++ Data pair.1 ∷ [] in
    let next = whole_frames_grow (pairs ++ pair ∷ []) more in
    let one = frames_of (left_over 15 before ++ added) in (
      one ++ next.0,
      ap whole_frames (sym (append_assoc pairs (pair ∷ []) more)) ∙ next.1
          ∙ ap (λ (l : List ℕ). l ++ next.0) (ap frames_of (symbols_of-push None pairs pair) ∙ frames_of-append before added)
          ∙ append_assoc (whole_frames pairs) one next.0,
    )

pub cut_more : (pairs more : List (ℕ × ℕ)) (start now : IoState) → IsCut pairs start now → IsCut (pairs ++ more) start now
cut_more pairs more start now cut =
    let grow = whole_frames_grow pairs more in
    record {
      written = subst (AppendsFront start now) (sym grow.1) (front_more start now (whole_frames pairs) grow.0 cut.written);
      shows = cut.shows;
      later = cut.later;
      rose = cut.rose;
    }

-- ---- one call more

module _ (start old new : IoState) (before after : List ℕ) (all : AppendsAll start old before) where
  grown : {T E : Type 0} (x : T) → AppendsGrowth {T = T} {E = E} old new before after (Ok x) → AppendsAll start new after
  grown x g = subst (AppendsAll start new) (sym g.grows) (Appends-trans start.bytes old.bytes new.bytes before g.growth all g.ok)

  grown_front : {T E : Type 0} (e : E) → AppendsGrowth {T = T} {E = E} old new before after (Err e) → AppendsFront start new after
  grown_front e g =
      subst (AppendsFront start new) (sym g.grows) (front_after start old new before g.growth all (front_of_shorter old new g.growth g.failed))

module _ (frames next : Begun) (pairs : List (ℕ × ℕ)) (id byte : ℕ) (start old new : IoState) (was : IsWeaving frames pairs start old) where
  pushed : {T E : Type 0} (x : T) → StandsAt next (pairs ++ (id, byte) ∷ [])
      → AppendsGrowth {T = T} {E = E} old new (whole_frames pairs) (whole_frames (pairs ++ (id, byte) ∷ [])) (Ok x) → ShowsAsBefore old new
      → HasCause {T = T} {E = E} old new (Ok x) → IsWeaving next (pairs ++ (id, byte) ∷ []) start new
  pushed x stands grows shows cause = record {
    stands = stands;
    written = grown start old new (whole_frames pairs) (whole_frames (pairs ++ (id, byte) ∷ [])) was.written x grows;
    shows = shows ∙ was.shows;
    kept = cause.kept ∙ was.kept;
  }

  cut : {T E : Type 0} (e : E)
      → AppendsGrowth {T = T} {E = E} old new (whole_frames pairs) (whole_frames (pairs ++ (id, byte) ∷ [])) (Err e) → ShowsAsBefore old new
      → HasCause {T = T} {E = E} old new (Err e) → IsCut (pairs ++ (id, byte) ∷ []) start new
  cut e grows shows cause = record {
    written = grown_front start old new (whole_frames pairs) (whole_frames (pairs ++ (id, byte) ∷ [])) was.written e grows;
    shows = shows ∙ was.shows;
    later = omega (arith, was.kept, cause.later);
    rose = let rose : Rose old new = cause.failed in omega (arith, was.kept, rose);
  }

-- ---- the next byte of a stream

-- what is read at a place is the next byte of what was left at first
pub next_byte : (items view : List ℕ) (woven k at byte : ℕ) → view ≡ items → at ≡ woven + k → true ≡ nat_lt at (length view)
    → byte ≡ get_or view at byte → (k < length (drop woven items)) × (get_or (drop woven items) k byte ≡ byte)
next_byte items view woven k at byte same place within is =
    let lt : at < length view = ltb-true at (length view) (sym within) in
    let long = ap length same in (
      omega (arith, lt, place, long, length-drop woven items),
      get_or-drop woven items k byte ∙ ap (λ (n : ℕ). get_or items n byte) (sym place) ∙ ap (λ (l : List ℕ). get_or l at byte) (sym same) ∙ sym is,
    )

module _ (pairs : List (ℕ × ℕ)) (id : ℕ) (left : List ℕ) (k byte : ℕ) (within : k < length left) (is : get_or left k byte ≡ byte) where
  one_more : pairs ++ under id (take (k + 1) left) ≡ (pairs ++ under id (take k left)) ++ (id, byte) ∷ []
  one_more =
      ap (λ (l : List ℕ). pairs ++ under id l) (take_more left k byte within ∙ ap (λ (b : ℕ). take k left ++ b ∷ []) is)
      ∙ ap (λ (l : List (ℕ × ℕ)). pairs ++ l) (map-append (λ (b : ℕ). (id, b)) (take k left) (byte ∷ []))
      ∙ sym (append_assoc pairs (under id (take k left)) ((id, byte) ∷ []))

  -- it is one of so many
  of_more : (count : ℕ) → k < count
      → (more : List (ℕ × ℕ)) × (pairs ++ under id (take count left) ≡ ((pairs ++ under id (take k left)) ++ (id, byte) ∷ []) ++ more)
  of_more count lt =
      let behind = take (count - (k + 1)) (drop (k + 1) left) in
      let sum : count ≡ (k + 1) + (count - (k + 1)) = omega arith in (
        under id behind,
        ap (λ (n : ℕ). pairs ++ under id (take n left)) sum
            ∙ ap (λ (l : List ℕ). pairs ++ under id l) (take-add (k + 1) (count - (k + 1)) left)
            ∙ ap (λ (l : List (ℕ × ℕ)). pairs ++ l) (map-append (λ (b : ℕ). (id, b)) (take (k + 1) left) behind)
            ∙ sym (append_assoc pairs (under id (take (k + 1) left)) (under id behind)) ∙ ap (λ (l : List (ℕ × ℕ)). l ++ under id behind) one_more,
      )

module _ (frames next : Begun) (pairs : List (ℕ × ℕ)) (id given byte : ℕ) (left : List ℕ) (k : ℕ) (start old new : IoState) (same : given ≡ id)
    (within : k < length left) (is : get_or left k byte ≡ byte) (was : IsWeaving frames (pairs ++ under id (take k left)) start old) where
  abbrev before : List (ℕ × ℕ)
  before = pairs ++ under id (take k left)

  pub next_pushed : {T E : Type 0} (x : T) → StandsAt next (before ++ (given, byte) ∷ [])
      → AppendsGrowth {T = T} {E = E} old new (whole_frames before) (whole_frames (before ++ (given, byte) ∷ [])) (Ok x) → ShowsAsBefore old new
      → HasCause {T = T} {E = E} old new (Ok x) → IsWeaving next (pairs ++ under id (take (k + 1) left)) start new
  next_pushed x stands grows shows cause =
      let done = pushed frames next before given byte start old new was x stands grows shows cause in
      let own = subst (λ (i : ℕ). IsWeaving next (before ++ (i, byte) ∷ []) start new) same done in
      subst (λ (l : List (ℕ × ℕ)). IsWeaving next l start new) (sym (one_more pairs id left k byte within is)) own

  pub next_cut : {T E : Type 0} (e : E) (count : ℕ) → k < count
      → AppendsGrowth {T = T} {E = E} old new (whole_frames before) (whole_frames (before ++ (given, byte) ∷ [])) (Err e) → ShowsAsBefore old new
      → HasCause {T = T} {E = E} old new (Err e) → IsCut (pairs ++ under id (take count left)) start new
  next_cut e count lt grows shows cause =
      let failed = cut frames next before given byte start old new was e grows shows cause in
      let own = subst (λ (i : ℕ). IsCut (before ++ (i, byte) ∷ []) start new) same failed in
      let all = of_more pairs id left k byte within is count lt in
      subst (λ (l : List (ℕ × ℕ)). IsCut l start new) (sym all.1) (cut_more (before ++ (id, byte) ∷ []) all.0 start new own)

-- ---- one part of all after others

-- `one` comes behind what was pushed, and `rest` behind that
module _ (pairs whole pushed behind one rest : List (ℕ × ℕ)) (parts : whole ≡ pushed ++ behind) (next : behind ≡ one ++ rest) where
  pub parts_more : whole ≡ (pushed ++ one) ++ rest
  parts_more = parts ∙ ap (λ (l : List (ℕ × ℕ)). pushed ++ l) next ∙ sym (append_assoc pushed one rest)

  joined : ((pairs ++ pushed) ++ one) ++ rest ≡ pairs ++ whole
  joined =
      ap (λ (l : List (ℕ × ℕ)). l ++ rest) (append_assoc pairs pushed one) ∙ append_assoc pairs (pushed ++ one) rest
      ∙ ap (λ (l : List (ℕ × ℕ)). pairs ++ l) (sym parts_more)

  pub cut_part : (start now : IoState) → IsCut ((pairs ++ pushed) ++ one) start now → IsCut (pairs ++ whole) start now
  cut_part start now is = subst (λ (l : List (ℕ × ℕ)). IsCut l start now) joined (cut_more ((pairs ++ pushed) ++ one) rest start now is)

-- the last part
pub last_part : (pairs whole pushed one : List (ℕ × ℕ)) → whole ≡ pushed ++ one → (pairs ++ pushed) ++ one ≡ pairs ++ whole
last_part pairs whole pushed one parts = append_assoc pairs pushed one ∙ ap (λ (l : List (ℕ × ℕ)). pairs ++ l) (sym parts)

pub weaving_part : (frames : Begun) (pairs pushed one : List (ℕ × ℕ)) (start now : IoState) → IsWeaving frames ((pairs ++ pushed) ++ one) start now
    → IsWeaving frames (pairs ++ (pushed ++ one)) start now
weaving_part frames pairs pushed one start now is =
    subst (λ (l : List (ℕ × ℕ)). IsWeaving frames l start now) (append_assoc pairs pushed one) is

pub nothing_pushed : (frames : Begun) (pairs : List (ℕ × ℕ)) (start now : IoState) → IsWeaving frames pairs start now
    → IsWeaving frames (pairs ++ []) start now
nothing_pushed frames pairs start now is = subst (λ (l : List (ℕ × ℕ)). IsWeaving frames l start now) (sym (append-nil pairs)) is

-- ---- results

pub weaves_done : {T E : Type 0} (frames : Begun) (pairs : List (ℕ × ℕ)) (start now : IoState) (x : T) → IsWeaving frames pairs start now
    → Weaves {T = T} {E = E} frames pairs start now (Ok x)
weaves_done frames pairs start now x is = record { done = is; cut = tt }

pub weaves_cut : {T E : Type 0} (frames : Begun) (pairs : List (ℕ × ℕ)) (start now : IoState) (e : E) → IsCut pairs start now
    → Weaves {T = T} {E = E} frames pairs start now (Err e)
weaves_cut frames pairs start now e is = record { done = tt; cut = is }

-- ---- all of it

pub nothing_yet : (frames : Begun) (a : IoState) → StandsAt frames [] → IsWeaving frames [] a a
nothing_yet frames a stands = record { stands = stands; written = Appends-nil a.bytes; shows = refl; kept = refl }

-- a write failed before the last frame
pub fails_before : {T E : Type 0} (pairs : List (ℕ × ℕ)) (start now : IoState) (e : E) → IsCut pairs start now
    → Writes {T = T} start now (Err e) (framed pairs)
fails_before pairs start now e is = record {
  whole = tt;
  front = front_more start now (whole_frames pairs) (filled (begun pairs)) is.written;
  shows = is.shows;
  cause = record { later = is.later; kept = tt; failed = is.rose };
}

-- the last frame comes behind the others
pub finished : {T E : Type 0} (frames : Begun) (pairs : List (ℕ × ℕ)) (start old new : IoState) (r : Result T E) → IsWeaving frames pairs start old
    → AppendsGrowth old new (whole_frames pairs) (framed pairs) r → ShowsAsBefore old new → HasCause old new r → Writes start new r (framed pairs)
finished frames pairs start old new (Ok x) was grows shows cause = record {
  whole = grown start old new (whole_frames pairs) (framed pairs) was.written x grows;
  front = tt;
  shows = shows ∙ was.shows;
  cause = let kept = cause.kept ∙ was.kept in record { later = omega (arith, kept); kept = kept; failed = tt };
}
finished frames pairs start old new (Err e) was grows shows cause = record {
  whole = tt;
  front = grown_front start old new (whole_frames pairs) (framed pairs) was.written e grows;
  shows = shows ∙ was.shows;
  cause = record {
    later = omega (arith, was.kept, cause.later);
    kept = tt;
    failed = let rose : Rose old new = cause.failed in omega (arith, was.kept, rose);
  };
}
