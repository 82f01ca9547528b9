-- What was written of pairs that were taken one after the other.
use Rattle.std.proofs.Common.{◌≡◌, ℕ, ◌+◌, ◌-◌, List, [], ◌++◌, length, take, drop, Ok, Err, arith, refl, sym, ap, subst, ◌∙◌, append-nil, append_assoc}
use Rattle.std.proofs.Math.Seq.{take-add}
use Rattle.std.proofs.lemmas.List.{length-drop, take_all}
use Rattle.capture_streams.specs.Demuxed.{Gains}
use Rattle.capture_streams.specs.Streams.{Adds}
use Rattle.capture_streams.specs.Texts.{BodyFrom, Listing, Printed, text_of}
use Rattle.path_text.proofs.Wrote.{Wrote, fails_after, wrote_by, wrote_more, writes_all}
use Rattle.path_text.specs.Writing.{Writes}
use Rattle.capture_streams.proofs.Bodies.{body-append, text_of-append}
use Rattle.trace_io.specs.State.{IoState}

-- the lines that pairs add behind others were written, in calls that did not fail
pub record Written (g : Listing) (before pairs : List (ℕ × ℕ)) (old new : IoState) : Type 0 where
  pub lines : List Printed
  pub body : BodyFrom g before pairs lines
  pub wrote : Wrote old new (text_of lines)

module _ (g : Listing) (before pairs : List (ℕ × ℕ)) (a b c : IoState) (was : Written g before pairs a b) where
  -- more pairs behind them
  pub more_written : (more : List (ℕ × ℕ)) → Written g (before ++ pairs) more b c → Written g before (pairs ++ more) a c
  more_written more next =
      record {
        lines = was.lines ++ next.lines;
        body = body-append g before pairs more was.lines next.lines was.body next.body;
        wrote = subst (Wrote a c) (sym (text_of-append was.lines next.lines)) (wrote_more a b c (text_of was.lines) (text_of next.lines) was.wrote next.wrote);
      }

  -- where a call failed behind them, a front of the lines of some pairs more is written
  pub more_fail : {T U E : Type 0} (e d : E) (took others : List (ℕ × ℕ)) (lines : List Printed) → BodyFrom g (before ++ pairs) took lines
      → Writes {T = T} b c (Err e) (text_of lines) → Adds {T = U} g before ((pairs ++ took) ++ others) a c (Err d)
  more_fail e d took others lines body writes =
      record {
        took = pairs ++ took;
        others = others;
        parts = refl;
        lines = was.lines ++ lines;
        body = body-append g before pairs took was.lines lines was.body body;
        writes = fails_after a b c e d (text_of was.lines) (text_of lines) [] (text_of (was.lines ++ lines))
            (ap (λ t. text_of was.lines ++ t) (append-nil (text_of lines)) ∙ sym (text_of-append was.lines lines)) was.wrote writes;
        all = λ ok. absurd cc;
      }

  -- the same, where the call says itself which pairs it took
  pub fails_behind : {T U E : Type 0} (e d : E) (more others : List (ℕ × ℕ)) → Adds {T = T} g (before ++ pairs) more b c (Err e)
      → Adds {T = U} g before ((pairs ++ more) ++ others) a c (Err d)
  fails_behind {U = U} e d more others adds =
      let parts : (pairs ++ adds.took) ++ (adds.others ++ others) ≡ (pairs ++ more) ++ others =
      sym (append_assoc (pairs ++ adds.took) adds.others others) ∙ ap (λ (l : List (ℕ × ℕ)). l ++ others) (append_assoc pairs adds.took adds.others)
      ∙ ap (λ (l : List (ℕ × ℕ)). (pairs ++ l) ++ others) (sym adds.parts) in
      subst (λ (l : List (ℕ × ℕ)). Adds {T = U} g before l a c (Err d)) parts
      (more_fail e d adds.took (adds.others ++ others) adds.lines adds.body adds.writes)

-- all that was written is what the pairs add
pub all_added : {T E : Type 0} (g : Listing) (before pairs : List (ℕ × ℕ)) (a b : IoState) (x : T) → Written g before pairs a b
    → Adds {T = T} {E = E} g before pairs a b (Ok x)
all_added g before pairs a b x was =
    record {
      took = pairs;
      others = [];
      parts = sym (append-nil pairs);
      lines = was.lines;
      body = was.body;
      writes = writes_all a b x (text_of was.lines) was.wrote;
      all = λ ok. refl;
    }

pub added : {T E : Type 0} (g : Listing) (before pairs : List (ℕ × ℕ)) (a b : IoState) (x : T) → Adds {T = T} {E = E} g before pairs a b (Ok x)
    → Written g before pairs a b
added g before pairs a b x adds =
    let all : adds.took ≡ pairs = sym (append-nil adds.took) ∙ ap (λ (t : List (ℕ × ℕ)). adds.took ++ t) (sym (adds.all refl)) ∙ sym adds.parts in
    record { lines = adds.lines; body = subst (λ p. BodyFrom g before p adds.lines) all adds.body; wrote = wrote_by a b x (text_of adds.lines) adds.writes }

-- ---- pieces, in whatever layout

-- the front of what is behind a place
pub front_behind : (at n : ℕ) (piece : List ℕ) → take (at + n) piece ≡ take at piece ++ take n (take (length piece - at) (drop at piece))
front_behind at n piece =
    take-add at n piece ∙ ap (λ l. take at piece ++ take n l) (sym (take_all (length piece - at) (drop at piece) (omega (arith, length-drop at piece))))

module _ (carry : List ℕ → List (ℕ × ℕ)) where
  -- the lines that a piece adds behind other bytes were written, in calls that did not fail
  pub record Gained (g : Listing) (bytes piece : List ℕ) (old new : IoState) : Type 0 where
    pub pairs : List (ℕ × ℕ)
    pub grows : carry (bytes ++ piece) ≡ carry bytes ++ pairs
    pub written : Written g (carry bytes) pairs old new

  module _ (g : Listing) (bytes piece : List ℕ) (a b : IoState) (was : Gained g bytes piece a b) (more : List ℕ) (pairs : List (ℕ × ℕ))
      (grows : carry ((bytes ++ piece) ++ more) ≡ carry (bytes ++ piece) ++ pairs) where
    joined_pairs : carry (bytes ++ (piece ++ more)) ≡ carry bytes ++ (was.pairs ++ pairs)
    joined_pairs =
        ap carry (sym (append_assoc bytes piece more)) ∙ grows ∙ ap (λ l. l ++ pairs) was.grows ∙ append_assoc (carry bytes) was.pairs pairs

    -- more bytes carry no pair
    pub more_gained : (c : IoState) → Written g (carry (bytes ++ piece)) pairs b c → Gained g bytes (piece ++ more) a c
    more_gained c next =
        record {
          pairs = was.pairs ++ pairs;
          grows = joined_pairs;
          written = more_written g (carry bytes) was.pairs a b c was.written pairs (subst (λ l. Written g l pairs b c) was.grows next);
        }

    -- where a write fails, a front of the lines of the pairs of all bytes is written
    pub gain_fails : {T U E : Type 0} (c : IoState) (e d : E) → Adds {T = T} g (carry (bytes ++ piece)) pairs b c (Err e)
        → (rest : List ℕ) (later : List (ℕ × ℕ))
        → carry ((bytes ++ (piece ++ more)) ++ rest) ≡ carry (bytes ++ (piece ++ more)) ++ later
        → Gains {T = U} carry g bytes ((piece ++ more) ++ rest) a c (Err d)
    gain_fails {T} {U} c e d adds rest later further =
        let all = (was.pairs ++ pairs) ++ later in
        let adds' = subst (λ l. Adds {T = T} g l pairs b c (Err e)) was.grows adds in
        let parts : (was.pairs ++ adds'.took) ++ (adds'.others ++ later) ≡ all =
        sym (append_assoc (was.pairs ++ adds'.took) adds'.others later)
        ∙ ap (λ l. l ++ later) (append_assoc was.pairs adds'.took adds'.others ∙ ap (λ l. was.pairs ++ l) (sym adds'.parts)) in
        record {
          pairs = all;
          grows = ap carry (sym (append_assoc bytes (piece ++ more) rest)) ∙ further ∙ ap (λ l. l ++ later) joined_pairs
              ∙ append_assoc (carry bytes) (was.pairs ++ pairs) later;
          adds = subst (λ l. Adds {T = U} g (carry bytes) l a c (Err d)) parts
              (more_fail g (carry bytes) was.pairs a b c was.written e d adds'.took (adds'.others ++ later) adds'.lines adds'.body adds'.writes);
        }

  pub all_gained : {T E : Type 0} (g : Listing) (bytes piece : List ℕ) (a b : IoState) (x : T) → Gained g bytes piece a b
      → Gains {T = T} {E = E} carry g bytes piece a b (Ok x)
  all_gained g bytes piece a b x was =
      record { pairs = was.pairs; grows = was.grows; adds = all_added g (carry bytes) was.pairs a b x was.written }

  -- more bytes that were taken
  pub gained_more : {T E : Type 0} (g : Listing) (bytes piece more : List ℕ) (a b c : IoState) (x : T) → Gained g bytes piece a b
      → Gains {T = T} {E = E} carry g (bytes ++ piece) more b c (Ok x) → Gained g bytes (piece ++ more) a c
  gained_more g bytes piece more a b c x was gains =
      more_gained g bytes piece a b was more gains.pairs gains.grows c (added g (carry (bytes ++ piece)) gains.pairs b c x gains.adds)
