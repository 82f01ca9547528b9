-- An input that is read by pieces.
use Rattle.std.proofs.Common.{◌≡◌, ◌⊎◌, ℕ, Bool, true, false, List, [], ◌∷◌, ◌++◌, length, take, Result, Ok, Err, arith, length-append, refl, sym, ap, subst, ◌∙◌, inl, inr}
use Rattle.std.proofs.Common.{append-nil, append_assoc}
use Rattle.std.proofs.KnownBytes.{Appends-trans, Consumes-trans}
use Rattle.std.proofs.lemmas.List.{take_all, take-append-le}
use Rattle.capture_streams.specs.Demuxed.{Gains}
use Rattle.capture_streams.specs.Texts.{BodyFrom, IsEnding, IsSum, IsText, Listing, Printed, text_of}
use Rattle.path_text.specs.Writing.{Writes}
use Rattle.capture_streams.proofs.Bodies.{body-append, text_of-append}
use Rattle.capture_streams.proofs.Writing.{Gained, Written, added, more_gained}
use Rattle.capture_streams.specs.Laid.{Grow, IsLaid, Laid, Rests}
use Rattle.answer_lines.specs.declared.status.Status.{Status}
use Rattle.answer_lines.specs.declared.status.Status.TheVariants as status
use Rattle.input_pieces.specs.Listed.{Breaks, Completes, Exceeds, Interrupts, Listed, PrintsBody, PrintsTaken, Takes, most_input}
use Rattle.input_pieces.specs.Reading.{Closes, StopsSo, TookUpTo}
use Rattle.input_pieces.specs.declared.input.InputEnd.{InputEnd}
use Rattle.input_pieces.specs.declared.input.InputEnd.TheVariants.{End, TooLong, ReadFault}
use Rattle.input_pieces.proofs.Interrupts.{cut_front, cut_rest, cut_sums}
use Rattle.trace_io.specs.Bytes.{AppendsAll, TakesAll}
use Rattle.trace_io.specs.Causes.{KeepsFaults, Rose}
use Rattle.trace_io.specs.State.{IoState}
use Rattle.trace_io.specs.declared.traits.Failed.{Failed}

pub stop_kept : (a b c : IoState) (n : ℕ) (stop : InputEnd) → KeepsFaults a b → StopsSo b c n stop
    → (◌≡◌ {A = Result InputEnd Failed} (Ok stop) (Ok ReadFault)) ⊎ KeepsFaults a c
stop_kept a b c n End kept stops = inr (stops.2 ∙ kept)
stop_kept a b c n TooLong kept stops = inr (stops.2 ∙ kept)
stop_kept a b c n ReadFault kept stops = inl refl

module _ (laid : Laid) (is_laid : IsLaid laid) (g : Listing) where
  abbrev carried : List ℕ → List (ℕ × ℕ)
  carried = laid.carried

  abbrev grow : Grow laid.carried
  grow = is_laid.grows

  -- a piece more that was taken and printed
  pub piece_gained : {T E : Type 0} (bytes piece : List ℕ) (a b c : IoState) (x : T) → Gained carried g [] bytes a b
      → Gains {T = T} {E = E} carried g bytes piece b c (Ok x) → Gained carried g [] (bytes ++ piece) a c
  piece_gained bytes piece a b c x was gains =
      more_gained carried g [] bytes a b was piece gains.pairs gains.grows c (added g (carried bytes) gains.pairs b c x gains.adds)

  -- what was gained is the body that was printed
  pub body_printed : (bytes : List ℕ) (a b : IoState) → Gained carried g [] bytes a b → PrintsBody carried g bytes a b
  body_printed bytes a b was =
      let pairs0 : carried bytes ≡ was.pairs = was.grows ∙ ap (λ p. p ++ was.pairs) grow.0 in (
        was.written.lines,
        subst (λ p. BodyFrom g [] p was.written.lines) (sym pairs0) (subst (λ p. BodyFrom g p was.pairs was.written.lines) grow.0 was.written.body),
        was.written.wrote.appended,
      )

  module _ (stands : List ℕ → Type 0) (a c old here : IoState) (took : TookUpTo stands laid g a c old here End) where
    abbrev bytes : List ℕ
    bytes = took.1

    read : TakesAll a c bytes
    read =
        (subst (Takes a c) (append-nil bytes) (Consumes-trans a.bytes (took.0).bytes c.bytes bytes [] took.2 took.7.1), took.7.0)

    pub rest_fails : {T : Type 0} (new : IoState) (e : Failed) → Rests {T = T} laid g bytes here new (Err e) → Interrupts laid g a c old new
    rest_fails new e rests = cut_rest laid is_laid g a c old here new bytes took.6.0 e read took.4 took.6.1 took.6.2 rests

    module _ {T : Type 0} (mid new : IoState) (x : T) (rests : Rests {T = T} {E = Failed} laid g bytes here mid (Ok x)) (ending : List Printed) (faulty : Bool)
        (ended : IsEnding g (laid.whole bytes) (laid.left bytes) ending faulty) where
      abbrev rest : Written g (carried bytes) rests.pairs here mid
      rest = added g (carried bytes) rests.pairs here mid x rests.adds

      abbrev body : List Printed
      body = took.6.0 ++ rest.lines

      body_is : BodyFrom g [] (laid.whole bytes) body
      body_is =
          subst (λ p. BodyFrom g [] p body) (sym rests.all) (body-append g [] (carried bytes) rests.pairs took.6.0 rest.lines took.6.1 rest.body)

      before : AppendsAll old mid (text_of body)
      before = subst (AppendsAll old mid) (sym (text_of-append took.6.0 rest.lines))
          (Appends-trans old.bytes here.bytes mid.bytes (text_of took.6.0) (text_of rest.lines) took.6.2 rest.wrote.appended)

      abbrev lines : List Printed
      lines = body ++ ending

      abbrev text : IsText g (laid.whole bytes) (laid.left bytes) lines faulty
      text = record { body = body; ending = ending; gained = body_is; ended = ended; all = refl }

      pub completes : (whole : Bool) → Writes {T = Bool} {E = Failed} mid new (Ok whole) (text_of ending) → Completes laid g a c old new faulty
      completes whole writes =
          record {
            bytes = bytes;
            read = read;
            few = took.4;
            lines = lines;
            shown = text;
            printed = subst (AppendsAll old new) (sym (text_of-append body ending))
                (Appends-trans old.bytes mid.bytes new.bytes (text_of body) (text_of ending) before writes.whole);
          }

      pub ending_fails : (e : Failed) → Writes {T = Bool} {E = Failed} mid new (Err e) (text_of ending) → Interrupts laid g a c old new
      ending_fails e writes =
          let front = writes.front in
          cut_front laid is_laid g a c old new bytes lines faulty (text_of body ++ front.front) read took.4 text
          (Appends-trans old.bytes mid.bytes new.bytes (text_of body) front.front before front.appended) (
            front.rest,
            text_of-append body ending ∙ ap (λ t. text_of body ++ t) front.whole ∙ sym (append_assoc (text_of body) front.front front.rest),
          )
          (front.front, refl)

-- what was written of the sum of bytes behind which no more is taken
abbrev pub Sums : {T : Type 0} → Laid → Listing → List ℕ → IoState → IoState → Result T Failed → Type 0
Sums laid g bytes here new result = (sums : List Printed) × IsSum g (laid.carried bytes) sums × Writes here new result (text_of sums)

pub sums_by : {T : Type 0} (laid : ℕ → Laid) (k n : ℕ) → k ≡ n → (g : Listing) (bytes : List ℕ) (here new : IoState) (r : Result T Failed)
    → Sums (laid k) g bytes here new r → Sums (laid n) g bytes here new r
sums_by laid k n same g bytes here new r sums = subst (λ (m : ℕ). Sums (laid m) g bytes here new r) same sums

-- where a read failed, or the input is too long
module _ (laid : Laid) (is_laid : IsLaid laid) (g : Listing) (stands : List ℕ → Type 0) (a c old here new : IoState) where
  taken_printed : {T : Type 0} (bytes : List ℕ) (x : T) → PrintsBody laid.carried g bytes old here → (sums : List Printed) → IsSum g (laid.carried bytes) sums
      → Writes {T = T} {E = Failed} here new (Ok x) (text_of sums) → PrintsTaken laid.carried g bytes old new
  taken_printed bytes x (body, gained, printed) sums summed writes = (
    body ++ sums,
    (body, sums, gained, summed, refl),
    subst (AppendsAll old new) (sym (text_of-append body sums))
        (Appends-trans old.bytes here.bytes new.bytes (text_of body) (text_of sums) printed writes.whole),
  )

  pub read_failed : {T : Type 0} (x : T) (took : TookUpTo stands laid g a c old here ReadFault) → Sums {T = T} laid g took.1 here new (Ok x) → Breaks laid g a c old new
  read_failed x took (sums, summed, writes) =
      record {
        bytes = took.1;
        took = subst (Takes a c) (append-nil took.1) (Consumes-trans a.bytes (took.0).bytes c.bytes took.1 [] took.2 took.7.0);
        few = took.4;
        printed = taken_printed took.1 x took.6 sums summed writes;
        rose = let kept : KeepsFaults a took.0 = took.3 in let rose : Rose took.0 c = took.7.1 in omega (arith, kept, rose);
      }

  pub was_too_long : {T : Type 0} (x : T) (took : TookUpTo stands laid g a c old here TooLong) → Sums {T = T} laid g took.1 here new (Ok x) → Exceeds laid g a c old new
  was_too_long x took (sums, summed, writes) =
      record {
        bytes = took.1;
        byte = took.7.1.0;
        took = Consumes-trans a.bytes (took.0).bytes c.bytes took.1 (took.7.1.0 ∷ []) took.2 took.7.1.1;
        many = took.7.0;
        printed = taken_printed took.1 x took.6 sums summed writes;
      }

  pub read_failed_cut : {T : Type 0} (e : Failed) (took : TookUpTo stands laid g a c old here ReadFault) → Sums {T = T} laid g took.1 here new (Err e)
      → Interrupts laid g a c old new
  read_failed_cut e took (sums, summed, writes) =
      let bytes = took.1 in let same = append-nil bytes in
      let takes = Consumes-trans a.bytes (took.0).bytes c.bytes bytes [] took.2 took.7.0 in
      let kept : KeepsFaults a took.0 = took.3 in let rose : Rose took.0 c = took.7.1 in
      cut_sums laid is_laid g a c old here new bytes [] e takes took.4 (omega arith) (omega (arith, took.4, length-append bytes []))
      (ap (take most_input) same ∙ take_all most_input bytes took.4) (inr (omega (arith, kept, rose))) took.6 sums summed writes

  pub too_long_cut : {T : Type 0} (e : Failed) (took : TookUpTo stands laid g a c old here TooLong) → Sums {T = T} laid g took.1 here new (Err e)
      → Interrupts laid g a c old new
  too_long_cut e took (sums, summed, writes) =
      let bytes = took.1 in let last = took.7.1.0 ∷ [] in let many : length bytes ≡ most_input = took.7.0 in
      cut_sums laid is_laid g a c old here new bytes last e (Consumes-trans a.bytes (took.0).bytes c.bytes bytes last took.2 took.7.1.1)
      (omega (arith, many)) (omega arith) (omega (arith, many, length-append bytes last))
      (take-append-le most_input bytes last (omega (arith, many)) ∙ take_all most_input bytes (omega (arith, many)))
      (inl (omega (arith, many, length-append bytes last))) took.6 sums summed writes

-- what a piece adds, where the number of frames that come last is one and the same
pub gains_by : {T E : Type 0} (laid : ℕ → Laid) (k n : ℕ) → k ≡ n → (g : Listing) (bytes piece : List ℕ) (old new : IoState) (r : Result T E)
    → Gains (laid k).carried g bytes piece old new r → Gains (laid n).carried g bytes piece old new r
gains_by laid k n same g bytes piece old new r gains = subst (λ (m : ℕ). Gains (laid m).carried g bytes piece old new r) same gains

pub closes_by : (laid : ℕ → Laid) (k n : ℕ) → k ≡ n → (g : Listing) (bytes : List ℕ) (old new : IoState) (r : Result Status Failed)
    → Closes (laid k) g bytes old new r → Closes (laid n) g bytes old new r
closes_by laid k n same g bytes old new r closes = subst (λ (m : ℕ). Closes (laid m) g bytes old new r) same closes

-- an input that was taken to its end, and what it shows there
pub closed : (laid : Laid) → IsLaid laid → (g : Listing) (stands : List ℕ → Type 0) (a c old here new : IoState) (took : TookUpTo stands laid g a c old here End)
    (r : Result Status Failed) → Closes laid g took.1 here new r → Listed laid g a c old new r
closed laid is_laid g stands a c old here new took (Ok status.Done) ends =
    completes laid is_laid g stands a c old here took ends.between new tt ends.rests ends.ending false ends.ended true ends.writes
closed laid is_laid g stands a c old here new took (Ok status.Faulted) ends =
    completes laid is_laid g stands a c old here took ends.between new tt ends.rests ends.ending true ends.ended false ends.writes
closed laid is_laid g stands a c old here new took (Ok status.Usage) ends = absurd ends
closed laid is_laid g stands a c old here new took (Ok (status.ImageBad _ _)) ends = absurd ends
closed laid is_laid g stands a c old here new took (Ok (status.BenchBad _ _)) ends = absurd ends
closed laid is_laid g stands a c old here new took (Ok (status.ElfBad _)) ends = absurd ends
closed laid is_laid g stands a c old here new took (Ok status.ReadFault) ends = absurd ends
closed laid is_laid g stands a c old here new took (Ok status.WriteFault) ends = absurd ends
closed laid is_laid g stands a c old here new took (Ok status.NoMemory) ends = absurd ends
closed laid is_laid g stands a c old here new took (Ok status.InputTooLong) ends = absurd ends
closed laid is_laid g stands a c old here new took (Err failed) (inl rests) = rest_fails laid is_laid g stands a c old here took new failed rests
closed laid is_laid g stands a c old here new took (Err failed) (inr (faulty, ends)) =
    ending_fails laid is_laid g stands a c old here took ends.between new tt ends.rests ends.ending faulty ends.ended failed ends.writes
