-- Texts that are put behind each other, of which a front is written.
use Rattle.std.proofs.Common.{◌≡◌, ℕ, List, [], ◌++◌, Result, Ok, Err, refl, sym, ap, ◌∙◌, append_assoc, append-nil}
use Rattle.trace_io.specs.State.{IoState}
use Rattle.path_text.specs.Blocks.{Puts}
use Rattle.path_text.specs.Writing.{Writes}
use Rattle.path_text.proofs.Wrote.{Wrote, wrote_nothing, wrote_by, wrote_more, then_writes, last_fails, answers_err}

-- a text was put, in calls that did not fail
pub record HasPut (old new : IoState) (put put' text : List ℕ) : Type 0 where
  pub out : List ℕ
  pub parts : put ++ text ≡ out ++ put'
  pub wrote : Wrote old new out

pub put_nothing : (a : IoState) (put : List ℕ) → HasPut a a put put []
put_nothing a put = record { out = []; parts = append-nil put; wrote = wrote_nothing a }

-- a text is put, and none written
pub put_kept : (a : IoState) (p q text : List ℕ) → q ≡ p ++ text → HasPut a a p q text
put_kept a p q text is = record { out = []; parts = sym is; wrote = wrote_nothing a }

pub put_by : {T E : Type 0} (a b : IoState) (x : T) (p q text : List ℕ) → Puts {T = T} {E = E} a b p q (Ok x) text → HasPut a b p q text
put_by a b x p q text w =
    record { out = w.out; parts = w.parts ∙ ap (λ t. w.out ++ t) (sym (w.left refl)); wrote = wrote_by a b x w.out w.writes }

-- what was put before, written and not, and a text behind it
joined : (p x y out q more rest : List ℕ) → p ++ x ≡ out ++ q → q ++ y ≡ more ++ rest → p ++ (x ++ y) ≡ (out ++ more) ++ rest
joined p x y out q more rest first second =
    sym (append_assoc p x y) ∙ ap (λ t. t ++ y) first ∙ append_assoc out q y ∙ ap (λ t. out ++ t) second ∙ sym (append_assoc out more rest)

pub put_more : (a b c : IoState) (p q r x y : List ℕ) → HasPut a b p q x → HasPut b c q r y → HasPut a c p r (x ++ y)
put_more a b c p q r x y h k =
    record {
      out = h.out ++ k.out;
      parts = joined p x y h.out q k.out r h.parts k.parts;
      wrote = wrote_more a b c h.out k.out h.wrote k.wrote;
    }

-- one more call
pub then_puts : {T E : Type 0} (a b c : IoState) (r : Result T E) (p q s x y all : List ℕ) → x ++ y ≡ all → HasPut a b p q x → Puts b c q s r y
    → Puts a c p s r all
then_puts a b c r p q s x y all is h k =
    record {
      out = h.out ++ k.out;
      rest = k.rest;
      parts = ap (λ t. p ++ t) (sym is) ∙ joined p x y h.out q k.out k.rest h.parts k.parts;
      writes = then_writes a b c r h.out k.out (h.out ++ k.out) refl h.wrote k.writes;
      left = k.left;
    }

-- one more call failed: more was to be put
pub put_fails : {T U E : Type 0} (a b c : IoState) (e d : E) (p q s s' x y rest all : List ℕ) → x ++ (y ++ rest) ≡ all → HasPut a b p q x
    → Puts {T = T} b c q s (Err e) y → Puts {T = U} a c p s' (Err d) all
put_fails a b c e d p q s s' x y rest all is h k =
    record {
      out = h.out ++ k.out;
      rest = k.rest ++ rest;
      parts = ap (λ t. p ++ t) (sym is)
          ∙ joined p x (y ++ rest) h.out q k.out (k.rest ++ rest) h.parts
          (sym (append_assoc q y rest) ∙ ap (λ t. t ++ rest) k.parts ∙ append_assoc k.out k.rest rest);
      writes = last_fails a b c e d h.out k.out (h.out ++ k.out) refl h.wrote k.writes;
      left = λ ok. absurd cc;
    }

-- ---- all that was put is written, and then a text

pub puts_written : {T E : Type 0} (a b c : IoState) (x : T) (r : Result T E) (put put' text : List ℕ) → put' ≡ [] → Writes {E = E} a b (Ok x) put
    → Writes b c r text → Puts a c put put' r text
puts_written a b c x r put put' text none first second =
    record {
      out = put ++ text;
      rest = [];
      parts = sym (append-nil (put ++ text));
      writes = then_writes a b c r put text (put ++ text) refl (wrote_by a b x put first) second;
      left = λ _. none;
    }

-- or it fails
pub puts_unwritten : {T U E : Type 0} (a b : IoState) (e d : E) (put put' text : List ℕ) → Writes {T = T} a b (Err e) put
    → Puts {T = U} a b put put' (Err d) text
puts_unwritten a b e d put put' text w =
    record { out = put; rest = text; parts = refl; writes = answers_err a b e d put w; left = λ ok. absurd cc }
