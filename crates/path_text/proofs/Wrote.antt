-- What was written in several calls.
use Rattle.std.proofs.Common.{◌≡◌, ℕ, List, [], ◌++◌, Result, Ok, Err, refl, ap, subst, ◌∙◌, arith, append-nil}
use Rattle.std.specs.Prelude.{IfOk}
use Rattle.std.proofs.KnownBytes.{Appends-trans, Appends-nil}
use Rattle.trace_io.specs.State.{IoState}
use Rattle.trace_io.specs.Causes.{Rose, KeepsFaults, HasCause}
use Rattle.trace_io.specs.Bytes.{AppendsAll, AppendsFront, ShowsAsBefore}
use Rattle.trace_io.proofs.Known.{front_after, front_more}
use Rattle.path_text.specs.Writing.{Writes}

-- the sink took this text, in calls that did not fail
pub record Wrote (old new : IoState) (text : List ℕ) : Type 0 where
  pub appended : AppendsAll old new text
  pub shows : ShowsAsBefore old new
  pub kept : KeepsFaults old new

pub wrote_nothing : (a : IoState) → Wrote a a []
wrote_nothing a = record { appended = Appends-nil a.bytes; shows = refl; kept = refl }

pub wrote_by : {T E : Type 0} (a b : IoState) (x : T) (xs : List ℕ) → Writes {T = T} {E = E} a b (Ok x) xs → Wrote a b xs
wrote_by a b x xs w = record { appended = w.whole; shows = w.shows; kept = w.cause.kept }

pub wrote_more : (a b c : IoState) (xs ys : List ℕ) → Wrote a b xs → Wrote b c ys → Wrote a c (xs ++ ys)
wrote_more a b c xs ys p q =
    record { appended = Appends-trans a.bytes b.bytes c.bytes xs ys p.appended q.appended; shows = q.shows ∙ p.shows; kept = q.kept ∙ p.kept }

succeeds : {T E : Type 0} (a b : IoState) (x : T) → KeepsFaults a b → HasCause {T = T} {E = E} a b (Ok x)
succeeds a b x kept = record { later = omega (arith, kept); kept = kept; failed = tt }

pub writes_all : {T E : Type 0} (a b : IoState) (x : T) (xs : List ℕ) → Wrote a b xs → Writes {T = T} {E = E} a b (Ok x) xs
writes_all a b x xs w = record { whole = w.appended; front = tt; shows = w.shows; cause = succeeds a b x w.kept }

-- a call failed after others: a front of all that was to be written is written
pub fails_after : {T U E : Type 0} (a b c : IoState) (e d : E) (xs ys rest all : List ℕ) → xs ++ (ys ++ rest) ≡ all → Wrote a b xs
    → Writes {T = T} b c (Err e) ys → Writes {T = U} a c (Err d) all
fails_after a b c e d xs ys rest all is p q =
    record {
      whole = tt;
      front = subst (AppendsFront a c) is (front_after a b c xs (ys ++ rest) p.appended (front_more b c ys rest q.front));
      shows = q.shows ∙ p.shows;
      cause = record {
        later = omega (arith, p.kept, q.cause.later);
        kept = tt;
        failed = let rose : Rose b c = q.cause.failed in omega (arith, p.kept, rose);
      };
    }

-- the last call did not fail
pub all_written : {T U E : Type 0} (a b c : IoState) (x : T) (u : U) (xs ys all : List ℕ) → xs ++ ys ≡ all → Wrote a b xs
    → Writes {T = T} {E = E} b c (Ok x) ys → Writes {T = U} {E = E} a c (Ok u) all
all_written a b c x u xs ys all is p q = writes_all a c u all (subst (Wrote a c) is (wrote_more a b c xs ys p (wrote_by b c x ys q)))

-- the last call failed
pub last_fails : {T U E : Type 0} (a b c : IoState) (e d : E) (xs ys all : List ℕ) → xs ++ ys ≡ all → Wrote a b xs
    → Writes {T = T} b c (Err e) ys → Writes {T = U} a c (Err d) all
last_fails a b c e d xs ys all is p q = fails_after a b c e d xs ys [] all (ap (λ t. xs ++ t) (append-nil ys) ∙ is) p q

-- one call after others
pub then_writes : {T E : Type 0} (a b c : IoState) (r : Result T E) (xs ys all : List ℕ) → xs ++ ys ≡ all → Wrote a b xs
    → Writes b c r ys → Writes a c r all
then_writes a b c (Ok x) xs ys all is p q = all_written a b c x x xs ys all is p q
then_writes a b c (Err e) xs ys all is p q = last_fails a b c e e xs ys all is p q

-- the first call failed
pub fails_first : {T U E : Type 0} (a b : IoState) (e d : E) (xs rest all : List ℕ) → xs ++ rest ≡ all → Writes {T = T} a b (Err e) xs
    → Writes {T = U} a b (Err d) all
fails_first a b e d xs rest all is w =
    record {
      whole = tt;
      front = subst (AppendsFront a b) is (front_more a b xs rest w.front);
      shows = w.shows;
      cause = record { later = w.cause.later; kept = tt; failed = w.cause.failed };
    }

-- the same, where another value is answered
pub answers_ok : {T U E : Type 0} (a b : IoState) (x : T) (u : U) (xs : List ℕ) → Writes {T = T} {E = E} a b (Ok x) xs
    → Writes {T = U} {E = E} a b (Ok u) xs
answers_ok a b x u xs w = record { whole = w.whole; front = tt; shows = w.shows; cause = succeeds a b u w.cause.kept }

pub answers_err : {T U E : Type 0} (a b : IoState) (e d : E) (xs : List ℕ) → Writes {T = T} a b (Err e) xs → Writes {T = U} a b (Err d) xs
answers_err a b e d xs w =
    record { whole = tt; front = w.front; shows = w.shows; cause = record { later = w.cause.later; kept = tt; failed = w.cause.failed } }

-- ---- what holds whatever is answered

pub if_ok : {T E A : Type 0} (r : Result T E) → A → IfOk r (λ _. A)
if_ok (Ok x) a = a
if_ok (Err e) a = tt
