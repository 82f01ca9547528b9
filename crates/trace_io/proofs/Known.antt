-- Lemmas on bytes that a source gives and a sink takes, for this crate and for its callers.
use Rattle.std.proofs.Common.{◌≡◌, ℕ, ◌+◌, ◌-◌, ◌<◌, ◌≤◌, List, [], ◌++◌, length}
use Rattle.std.proofs.Common.{take, drop, sym, ap, ◌∙◌, subst, append_assoc, append-nil, add-zero, arith, length-append}
use Rattle.std.proofs.lemmas.List.{take-append-drop, drop-drop, take_rest}
use Rattle.std.proofs.Math.Seq.{take-add}
use Rattle.std.proofs.KnownBytes.{Appends-trans, Appends-kept, Consumes-trans}
use Rattle.std.specs.Io.KnownBytes.{Appends, Consumes}
use Rattle.std.specs.declared.option.Option.{Option}
use Rattle.trace_io.specs.State.{IoState}
use Rattle.trace_io.specs.Bytes.{AppendsAll, AppendsFront, AppendsShorter, KeepsBytes}

-- ---- for callers: a sink over several calls

-- after all of xs, a front of ys is a front of xs and then ys
pub front_after : (a b c : IoState) (xs ys : List ℕ) → AppendsAll a b xs → AppendsFront b c ys → AppendsFront a c (xs ++ ys)
front_after a b c xs ys p q =
    record {
      front = xs ++ q.front;
      rest = q.rest;
      whole = ap (λ l. xs ++ l) q.whole ∙ sym (append_assoc xs q.front q.rest);
      appended = Appends-trans a.bytes b.bytes c.bytes xs q.front p q.appended;
    }

-- a front of xs is a front of all that begins with xs
pub front_more : (a c : IoState) (xs ys : List ℕ) → AppendsFront a c xs → AppendsFront a c (xs ++ ys)
front_more a c xs ys p =
    record {
      front = p.front;
      rest = p.rest ++ ys;
      whole = ap (λ l. l ++ ys) p.whole ∙ append_assoc p.front p.rest ys;
      appended = p.appended;
    }

-- the first write took so many bytes, and of the others a front was appended
pub shorter_after : (a b c : IoState) (bytes : List ℕ) (n : ℕ) → AppendsAll a b (take n bytes)
    → AppendsShorter b c (take (length bytes - n) (drop n bytes)) → AppendsShorter a c bytes
shorter_after a b c bytes n p q =
    record {
      front = take n bytes ++ q.front;
      rest = q.rest;
      whole = sym (take-append-drop n bytes) ∙ ap (λ l. take n bytes ++ l) (sym (take_rest bytes n) ∙ q.whole)
          ∙ sym (append_assoc (take n bytes) q.front q.rest);
      appended = Appends-trans a.bytes b.bytes c.bytes (take n bytes) q.front p q.appended;
      shorter = q.shorter;
    }

pub front_of_shorter : (a c : IoState) (xs : List ℕ) → AppendsShorter a c xs → AppendsFront a c xs
front_of_shorter a c xs p = record { front = p.front; rest = p.rest; whole = p.whole; appended = p.appended }

-- all of the bytes is a front of them
pub front_of_all : (a c : IoState) (xs : List ℕ) → AppendsAll a c xs → AppendsFront a c xs
front_of_all a c xs p = record { front = xs; rest = []; whole = sym (append-nil xs); appended = p }

pub front_kept : (a b c : IoState) (xs : List ℕ) → AppendsFront a b xs → KeepsBytes b c → AppendsFront a c xs
front_kept a b c xs p q =
    record {
      front = p.front;
      rest = p.rest;
      whole = p.whole;
      appended = Appends-kept a.bytes b.bytes c.bytes p.front p.appended q;
    }

-- ---- for the proofs of this crate

-- what is left is what was given and what is left then, and that is nothing where nothing was given for a buffer with room
pub given : (bytes all buf : List ℕ) (at n : ℕ) → bytes ≡ all → take n buf ≡ take n (take (length bytes - at) (drop at bytes))
    → (n ≡ 0 → 0 < length buf → take (length bytes - at) (drop at bytes) ≡ [])
    → (drop at all ≡ take n buf ++ drop (at + n) all) × (n ≡ 0 → 0 < length buf → drop (at + n) all ≡ [])
given bytes all buf at n e front none =
    let rest : take (length bytes - at) (drop at bytes) ≡ drop at all = take_rest bytes at ∙ ap (drop at) e in (
      sym (take-append-drop n (drop at all)) ∙ ap (λ xs. xs ++ drop n (drop at all)) (sym (front ∙ ap (take n) rest))
          ∙ ap (λ xs. take n buf ++ xs) (drop-drop n at all),
      λ zero_given room. ap (λ m. drop m all) (ap (λ m. at + m) zero_given ∙ add-zero at) ∙ sym rest ∙ none zero_given room,
    )

-- the next bytes that a sink took
pub taken_more : (a b c : Option (List ℕ)) (bytes : List ℕ) (m n : ℕ) → Appends a b (take m bytes)
    → Appends b c (take n (take (length bytes - m) (drop m bytes))) → Appends a c (take (m + n) bytes)
taken_more a b c bytes m n p q = subst (Appends a c) (sym (take-add m n bytes ∙ ap (λ xs. take m bytes ++ take n xs) (sym (take_rest bytes m))))
    (Appends-trans a b c _ _ p q)

-- what a source gave in all the reads before and in the last one
pub taken_within : (a b c : Option (List ℕ)) (xs ys : List ℕ) (most : ℕ) → Consumes a b xs → Consumes b c ys → length xs + length ys ≤ most
    → (bytes : List ℕ) × (length bytes ≤ most) × Consumes a c bytes
taken_within a b c xs ys most p q few = (xs ++ ys, omega (arith, length-append xs ys), Consumes-trans a b c xs ys p q)
