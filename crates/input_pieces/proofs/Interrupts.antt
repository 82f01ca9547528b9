-- What was printed of an input of which a write failed.
use Rattle.std.proofs.Common.{◌≡◌, ℕ, ◌+◌, ◌-◌, ◌≤◌, Bool, List, [], ◌∷◌, ◌++◌, length, take, drop, Err, refl, sym, ap, subst, ◌∙◌, inl, inr, arith}
use Rattle.std.proofs.Common.{append_assoc, append-nil, length-append}
use Rattle.std.proofs.KnownBytes.{Appends-kept, Appends-trans, Consumes-trans}
use Rattle.std.proofs.lemmas.List.{take_all, take-append-drop, take-append-le}
use Rattle.capture_streams.specs.Demuxed.{Gains}
use Rattle.path_elements.specs.PathLaws.{BeginsWith}
use Rattle.capture_streams.specs.Texts.{BodyFrom, IsSum, IsText, Listing, Printed, text_of}
use Rattle.path_text.specs.Writing.{Writes}
use Rattle.capture_streams.proofs.Bodies.{body-append, body_parts, text_of-append}
use Rattle.capture_streams.proofs.Writing.{Gained}
use Rattle.capture_streams.specs.Laid.{Grow, IsLaid, Laid, Rests}
use Rattle.input_pieces.specs.Listed.{Breaks, Completes, Exceeds, FrontOfTaken, HasStopped, Interrupts, PrintsBody, PrintsTaken, Takes}
use Rattle.input_pieces.specs.Listed.{most_at_once, most_input}
use Rattle.trace_io.specs.Bytes.{AppendsAll, KeepsBytes, TakesAll}
use Rattle.trace_io.specs.State.{IoState}

module _ (laid : Laid) (is_laid : IsLaid laid) (g : Listing) where
  abbrev carried : List ℕ → List (ℕ × ℕ)
  carried = laid.carried

  abbrev grow : Grow laid.carried
  grow = is_laid.grows

  -- the lines of a front of the bytes are a front of their lines
  front_body : (bytes : List ℕ) (k : ℕ) (lines : List Printed) → BodyFrom g [] (carried bytes) lines
      → (first : List Printed) × (more : List Printed) × BodyFrom g [] (carried (take k bytes)) first × (lines ≡ first ++ more)
  front_body bytes k lines body =
      let parts : take k bytes ++ drop k bytes ≡ bytes = take-append-drop k bytes in
      let grown = grow.1 (take k bytes) (drop k bytes) in
      let all : carried bytes ≡ carried (take k bytes) ++ grown.0 = ap carried (sym parts) ∙ grown.1 in
      let split = body_parts g [] (carried (take k bytes)) grown.0 lines (subst (λ p. BodyFrom g [] p lines) all body) in
      (split.0, split.1, split.2, split.4)

  -- so many bytes less than all, where no more came behind some
  front_of : (bytes more : List ℕ) → length more ≤ most_at_once
      → take (length (bytes ++ more) - most_at_once) (bytes ++ more) ≡ take (length (bytes ++ more) - most_at_once) bytes
  front_of bytes more few = take-append-le (length (bytes ++ more) - most_at_once) bytes more (omega (arith, length-append bytes more, few))

  early_by : (bytes more : List ℕ) (lines : List Printed) (shown : List ℕ) → length more ≤ most_at_once → BodyFrom g [] (carried bytes) lines
      → BeginsWith (text_of lines) shown
      → (first : List Printed) × BodyFrom g [] (carried (take (length (bytes ++ more) - most_at_once) (bytes ++ more))) first × BeginsWith (text_of first) shown
  early_by bytes more lines shown few body (behind, is) =
      let k = length (bytes ++ more) - most_at_once in
      let front = front_body bytes k lines body in (
        front.0,
        subst (λ b. BodyFrom g [] (carried b) front.0) (sym (front_of bytes more few)) front.2,
        (
          text_of front.1 ++ behind,
          is ∙ ap (λ t. t ++ behind) (ap text_of front.3 ∙ text_of-append front.0 front.1) ∙ append_assoc (text_of front.0) (text_of front.1) behind,
        ),
      )

  -- all lines of the bytes were printed before, and a front of those of their sum
  cut_behind : (a c old new : IoState) (bytes more : List ℕ) → Takes a c (bytes ++ more) → length bytes ≤ most_input → length more ≤ most_at_once
      → length (bytes ++ more) ≤ most_input + 1 → take most_input (bytes ++ more) ≡ bytes → HasStopped laid g a c (bytes ++ more)
      → (body sums : List Printed) (shown : List ℕ) → BodyFrom g [] (carried bytes) body → IsSum g (carried bytes) sums → AppendsAll old new shown
      → BeginsWith shown (text_of (body ++ sums)) → BeginsWith (text_of body) shown → Interrupts laid g a c old new
  cut_behind a c old new bytes more took few piece all first stopped body sums shown gained summed printed front behind =
      record {
        bytes = bytes ++ more;
        took = took;
        few = all;
        shown = shown;
        printed = printed;
        late = inr (inr (
          stopped,
          subst (λ b. FrontOfTaken laid g b shown) (sym first) (body ++ sums, (body, sums, gained, summed, refl), front),
        ));
        early = early_by bytes more body shown piece gained behind;
      }

  -- so where the lines of the sum could not be written
  pub cut_sums : {T E : Type 0} (a c old here new : IoState) (bytes more : List ℕ) (e : E) → Takes a c (bytes ++ more) → length bytes ≤ most_input
      → length more ≤ most_at_once → length (bytes ++ more) ≤ most_input + 1 → take most_input (bytes ++ more) ≡ bytes
      → HasStopped laid g a c (bytes ++ more) → PrintsBody carried g bytes old here → (sums : List Printed) → IsSum g (carried bytes) sums
      → Writes {T = T} here new (Err e) (text_of sums) → Interrupts laid g a c old new
  cut_sums a c old here new bytes more e took few piece all first stopped (body, gained, printed) sums summed writes =
      let front = writes.front in
      cut_behind a c old new bytes more took few piece all first stopped body sums (text_of body ++ front.front) gained summed
      (Appends-trans old.bytes here.bytes new.bytes (text_of body) front.front printed front.appended) (
        front.rest,
        text_of-append body sums ∙ ap (λ t. text_of body ++ t) front.whole ∙ sym (append_assoc (text_of body) front.front front.rest),
      ) (front.front, refl)

  -- or a flush failed behind all of them
  cut_taken : (a c old new : IoState) (bytes more : List ℕ) → Takes a c (bytes ++ more) → length bytes ≤ most_input → length more ≤ most_at_once
      → length (bytes ++ more) ≤ most_input + 1 → take most_input (bytes ++ more) ≡ bytes → HasStopped laid g a c (bytes ++ more)
      → PrintsTaken carried g bytes old new → Interrupts laid g a c old new
  cut_taken a c old new bytes more took few piece all first stopped (lines, (body, sums, gained, summed, is), printed) =
      cut_behind a c old new bytes more took few piece all first stopped body sums (text_of lines) gained summed printed
      ([], ap text_of (sym is) ∙ sym (append-nil (text_of lines))) (text_of sums, ap text_of is ∙ text_of-append body sums)

  -- a front of the whole text was printed, all that comes with the bytes included
  pub cut_front : (a c old new : IoState) (bytes : List ℕ) (lines : List Printed) (faulty : Bool) (shown : List ℕ) → TakesAll a c bytes
      → length bytes ≤ most_input → (is : IsText g (laid.whole bytes) (laid.left bytes) lines faulty) → AppendsAll old new shown → BeginsWith shown (text_of lines)
      → BeginsWith (text_of is.body) shown → Interrupts laid g a c old new
  cut_front a c old new bytes lines faulty shown read few is printed front behind =
      let same = append-nil bytes in
      let more = is_laid.first bytes in
      let split = body_parts g [] (carried bytes) more.0 is.body (subst (λ p. BodyFrom g [] p is.body) more.1 is.gained) in
      let before : BeginsWith (text_of split.0) shown = (
        text_of split.1 ++ behind.0,
        behind.1 ∙ ap (λ t. t ++ behind.0) (ap text_of split.4 ∙ text_of-append split.0 split.1) ∙ append_assoc (text_of split.0) (text_of split.1) behind.0,
      ) in
      let early = early_by bytes [] split.0 shown (omega arith) split.2 before in
      record {
        bytes = bytes;
        took = read.0;
        few = omega (arith, few);
        shown = shown;
        printed = printed;
        late = inr (inl (read.1, few, inr (lines, faulty, is, front)));
        early = (early.0, subst (λ b. BodyFrom g [] (carried (take (length b - most_at_once) b)) early.0) same early.1, early.2);
      }

  -- or all of it
  pub cut_whole : (a c old new : IoState) (bytes : List ℕ) (lines : List Printed) (faulty : Bool) → TakesAll a c bytes → length bytes ≤ most_input
      → IsText g (laid.whole bytes) (laid.left bytes) lines faulty → AppendsAll old new (text_of lines) → Interrupts laid g a c old new
  cut_whole a c old new bytes lines faulty read few is printed = cut_front a c old new bytes lines faulty (text_of lines) read few is printed
      ([], sym (append-nil (text_of lines))) (text_of is.ending, ap text_of is.all ∙ text_of-append is.body is.ending)

  -- the lines of a piece could not be written
  pub cut_within : {T E : Type 0} (a b c old here new : IoState) (bytes piece : List ℕ) (e : E) → Takes a b bytes → Takes b c piece
      → length bytes + length piece ≤ most_input → length piece ≤ most_at_once → Gained carried g [] bytes old here
      → Gains {T = T} carried g bytes piece here new (Err e) → Interrupts laid g a c old new
  cut_within a b c old here new bytes piece e took takes few most was gains =
      let lines0 = was.written.lines in let front = gains.adds.writes.front in let lines1 = gains.adds.lines in
      let pairs0 : carried bytes ≡ was.pairs = was.grows ∙ ap (λ p. p ++ was.pairs) grow.0 in
      let body0 : BodyFrom g [] (carried bytes) lines0 =
      subst (λ p. BodyFrom g [] p lines0) (sym pairs0) (subst (λ p. BodyFrom g p was.pairs lines0) grow.0 was.written.body) in
      let whole : take most_input (bytes ++ piece) ≡ bytes ++ piece = take_all most_input (bytes ++ piece) (omega (arith, length-append bytes piece, few)) in
      let shown = text_of lines0 ++ front.front in
      let parts : carried (bytes ++ piece) ≡ (carried bytes ++ gains.adds.took) ++ gains.adds.others =
      gains.grows ∙ ap (λ p. carried bytes ++ p) gains.adds.parts ∙ sym (append_assoc (carried bytes) gains.adds.took gains.adds.others) in
      let text : text_of (lines0 ++ lines1) ≡ shown ++ front.rest =
      text_of-append lines0 lines1 ∙ ap (λ t. text_of lines0 ++ t) front.whole ∙ sym (append_assoc (text_of lines0) front.front front.rest) in
      record {
        bytes = bytes ++ piece;
        took = Consumes-trans a.bytes b.bytes c.bytes bytes piece took takes;
        few = omega (arith, length-append bytes piece, few);
        shown = shown;
        printed = Appends-trans old.bytes here.bytes new.bytes (text_of lines0) front.front was.written.wrote.appended front.appended;
        late = inl (
          carried bytes ++ gains.adds.took,
          lines0 ++ lines1,
          (gains.adds.others, ap carried whole ∙ parts),
          body-append g [] (carried bytes) gains.adds.took lines0 lines1 body0 gains.adds.body,
          (front.rest, text),
        );
        early = early_by bytes piece lines0 shown most body0 (front.front, refl);
      }

  -- the lines of the pairs that did not come with the bytes could not be written
  pub cut_rest : {T E : Type 0} (a c old here new : IoState) (bytes : List ℕ) (lines : List Printed) (e : E) → TakesAll a c bytes
      → length bytes ≤ most_input → BodyFrom g [] (carried bytes) lines → AppendsAll old here (text_of lines)
      → Rests {T = T} laid g bytes here new (Err e) → Interrupts laid g a c old new
  cut_rest a c old here new bytes lines e read few body printed rests =
      let front = rests.adds.writes.front in let more = rests.adds.lines in let shown = text_of lines ++ front.front in
      let same = append-nil bytes in
      let parts : laid.whole bytes ≡ (carried bytes ++ rests.adds.took) ++ rests.adds.others =
      rests.all ∙ ap (λ p. carried bytes ++ p) rests.adds.parts ∙ sym (append_assoc (carried bytes) rests.adds.took rests.adds.others) in
      let text : text_of (lines ++ more) ≡ shown ++ front.rest =
      text_of-append lines more ∙ ap (λ t. text_of lines ++ t) front.whole ∙ sym (append_assoc (text_of lines) front.front front.rest) in
      let early = early_by bytes [] lines shown (omega arith) body (front.front, refl) in
      record {
        bytes = bytes;
        took = read.0;
        few = omega (arith, few);
        shown = shown;
        printed = Appends-trans old.bytes here.bytes new.bytes (text_of lines) front.front printed front.appended;
        late = inr (inl (
          read.1,
          few,
          inl (
            carried bytes ++ rests.adds.took,
            lines ++ more,
            (rests.adds.others, parts),
            body-append g [] (carried bytes) rests.adds.took lines more body rests.adds.body,
            (front.rest, text),
          ),
        ));
        early = (early.0, subst (λ b. BodyFrom g [] (carried (take (length b - most_at_once) b)) early.0) same early.1, early.2);
      }

  -- ---- a flush that fails behind an answer

  pub completed_cut : (a c old new newer : IoState) (faulty : Bool) → Completes laid g a c old new faulty → KeepsBytes new newer
      → Interrupts laid g a c old newer
  completed_cut a c old new newer faulty done kept =
      cut_whole a c old newer done.bytes done.lines faulty done.read done.few done.shown
      (Appends-kept old.bytes new.bytes newer.bytes (text_of done.lines) done.printed kept)

  kept_taken : (bytes : List ℕ) (old new newer : IoState) → PrintsTaken carried g bytes old new → KeepsBytes new newer
      → PrintsTaken carried g bytes old newer
  kept_taken bytes old new newer (lines, taken, printed) kept =
      (lines, taken, Appends-kept old.bytes new.bytes newer.bytes (text_of lines) printed kept)

  pub broken_cut : (a c old new newer : IoState) → Breaks laid g a c old new → KeepsBytes new newer → Interrupts laid g a c old newer
  broken_cut a c old new newer broken kept =
      let same = append-nil broken.bytes in
      cut_taken a c old newer broken.bytes [] (subst (Takes a c) (sym same) broken.took) broken.few (omega arith)
      (omega (arith, broken.few, length-append broken.bytes [])) (ap (take most_input) same ∙ take_all most_input broken.bytes broken.few)
      (inr broken.rose) (kept_taken broken.bytes old new newer broken.printed kept)

  pub exceeded_cut : (a c old new newer : IoState) → Exceeds laid g a c old new → KeepsBytes new newer → Interrupts laid g a c old newer
  exceeded_cut a c old new newer exceeds kept =
      let bytes = exceeds.bytes in let last = exceeds.byte ∷ [] in
      let first : take most_input (bytes ++ last) ≡ bytes =
      take-append-le most_input bytes last (omega (arith, exceeds.many)) ∙ take_all most_input bytes (omega (arith, exceeds.many)) in
      cut_taken a c old newer bytes last exceeds.took (omega (arith, exceeds.many)) (omega arith) (omega (arith, exceeds.many, length-append bytes last)) first
      (inl (omega (arith, exceeds.many, length-append bytes last))) (kept_taken bytes old new newer exceeds.printed kept)
