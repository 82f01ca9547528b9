-- One stream that is not framed.
use Rattle.std.proofs.Common.{◌≡◌, ℕ, zero, suc, ◌+◌, ◌<◌, Bool, true, false, List, [], ◌++◌, Err, Result}
use Rattle.std.proofs.Common.{refl, sym, ap, subst, arith, append-nil}
use Rattle.std.specs.Prelude.{IfOk, not, ◌||◌}
use Rattle.std.specs.List.{range_with_len}
use Rattle.std.proofs.lemmas.List.{map-append}
use Rattle.capture_streams.specs.Demuxed.{Gains, raw_pairs}
use Rattle.capture_streams.specs.Texts.{EndsOf, IsSum, Listing, Printed, StreamEnds, by_sizes, of, sources, text_of}
use Rattle.etm_types.specs.Settings.{Sizes}
use Rattle.etm_types.specs.declared.item.Item.{Item}
use Rattle.path_text.proofs.Wrote.{Wrote, then_writes}
use Rattle.path_text.specs.Writing.{Writes}
use Rattle.capture_streams.specs.Streams.{RunAdds, SumAdds, SumStands}
use Rattle.capture_streams.proofs.Bodies.{of_none, of_own, text_of-append}
use Rattle.capture_streams.proofs.BySizes.{ends_by}
use Rattle.capture_streams.proofs.Ending.{Ends, sum_fails}
use Rattle.capture_streams.proofs.Runs.{source_adds}
use Rattle.capture_streams.proofs.Sums.{source_sums}
use Rattle.trace_io.specs.State.{IoState}

-- ---- its bytes

pub of_raw : (bytes : List ℕ) → of 1 (raw_pairs bytes) ≡ bytes
of_raw bytes = of_own 1 bytes

pub of_raw_other : (id : ℕ) (bytes : List ℕ) → 1 < id → of id (raw_pairs bytes) ≡ []
of_raw_other id bytes more = of_none id 1 bytes (λ same. omega (arith, same, more))

-- what they add
pub raw_run : {T E : Type 0} (listing : Sizes → Listing) (s : Sizes) (t : ℕ → Sizes) (id : ℕ) (bytes run : List ℕ) (a b : IoState) (result : Result T E)
    → id ≡ 1 → s ≡ t 1 → RunAdds (listing s) id bytes run a b result → Gains raw_pairs (by_sizes listing t) bytes run a b result
raw_run listing s t id bytes run a b result named same adds =
    record {
      pairs = raw_pairs run;
      grows = map-append (λ (x : ℕ). (1, x)) bytes run;
      adds = source_adds listing s t 1 id (raw_pairs bytes) run a b result (omega arith, omega arith) named same
          (subst (λ (l : List ℕ). RunAdds (listing s) id l run a b result) (sym (of_raw bytes)) adds);
    }

-- ---- how it ends

none_end : (g : Listing) (bytes : List ℕ) (from count : ℕ) → 1 < from → EndsOf g (raw_pairs bytes) (range_with_len from count) [] false
none_end g bytes from zero more = (refl, refl)
none_end g bytes from (suc count) more = (
  [],
  [],
  false,
  false,
  subst (λ (l : List ℕ). StreamEnds g from l [] false) (sym (of_raw_other from bytes more)) (refl, refl),
  none_end g bytes (from + 1) count (omega (arith, more)),
  refl,
  refl,
)

or_once : (a : Bool) → a ≡ (a || false)
or_once true = refl
or_once false = refl

raw_ended : (g : Listing) (bytes : List ℕ) (lines : List Printed) (faulty : Bool) → StreamEnds g 1 (of 1 (raw_pairs bytes)) lines faulty
    → EndsOf g (raw_pairs bytes) sources lines faulty
unfolding sources
raw_ended g bytes lines faulty here =
    (lines, [], faulty, false, here, none_end g bytes 2 110 (omega arith), sym (append-nil lines), or_once faulty)

pub raw_ends : {E : Type 0} (listing : Sizes → Listing) (s : Sizes) (t : ℕ → Sizes) (id : ℕ) (bytes : List ℕ) (sums lines : List Printed) (faulty : Bool)
    (a b c : IoState) (result : Result Bool E)
    → id ≡ 1 → s ≡ t 1 → IsSum (by_sizes listing t) (raw_pairs bytes) sums → Wrote a b (text_of sums)
    → StreamEnds (listing s) id bytes lines faulty → Writes b c result (text_of lines) → IfOk result (λ (w : Bool). w ≡ not faulty)
    → Ends {E = E} (by_sizes listing t) (raw_pairs bytes) 0 a c result
unfolding sources
raw_ends listing s t id bytes sums lines faulty a b c result named same summed wrote ends writes whole =
    let g = by_sizes listing t in
    let here : StreamEnds g 1 (of 1 (raw_pairs bytes)) lines faulty =
    subst (λ (l : List ℕ). StreamEnds g 1 l lines faulty) (sym (of_raw bytes))
    (ends_by listing t 1 bytes lines faulty (subst (λ (u : Sizes). StreamEnds (listing u) 1 bytes lines faulty) same
    (subst (λ (i : ℕ). StreamEnds (listing s) i bytes lines faulty) named ends))) in (
      sums ++ lines,
      faulty,
      record {
        sums = sums;
        summed = summed;
        ends = lines;
        some_fault = faulty;
        ended = raw_ended g bytes lines faulty here;
        all = ap (λ (l : List Printed). sums ++ l) (sym (append-nil lines));
        fault = or_once faulty;
      },
      then_writes a b c result (text_of sums) (text_of lines) (text_of (sums ++ lines)) (sym (text_of-append sums lines)) wrote writes,
      whole,
    )

-- where the lines of the sum fail, a front of all is written
pub raw_sum_fails : {T E : Type 0} (listing : Sizes → Listing) (s : Sizes) (t : ℕ → Sizes) (id : ℕ) (bytes : List ℕ) (sums lines : List Printed)
    (faulty : Bool) (a b : IoState) (e : E)
    → id ≡ 1 → s ≡ t 1 → IsSum (by_sizes listing t) (raw_pairs bytes) sums → Writes {T = T} a b (Err e) (text_of sums)
    → StreamEnds (listing s) id bytes lines faulty → Ends {E = E} (by_sizes listing t) (raw_pairs bytes) 0 a b (Err e)
raw_sum_fails listing s t id bytes sums lines faulty a b e named same summed writes ends =
    let g = by_sizes listing t in
    let here : StreamEnds g 1 (of 1 (raw_pairs bytes)) lines faulty =
    subst (λ (l : List ℕ). StreamEnds g 1 l lines faulty) (sym (of_raw bytes))
    (ends_by listing t 1 bytes lines faulty (subst (λ (u : Sizes). StreamEnds (listing u) 1 bytes lines faulty) same
    (subst (λ (i : ℕ). StreamEnds (listing s) i bytes lines faulty) named ends))) in
    sum_fails g (raw_pairs bytes) 0 sums summed lines faulty (raw_ended g bytes lines faulty here) a b e e writes

-- ---- what is summed

pub raw_sums : {Y : Type 0} (sums : Y → List (ℕ × Item) → Type 0) (listing : Sizes → Listing) (s : Sizes) (t : ℕ → Sizes) (id : ℕ) (bytes run : List ℕ)
    (old new : Y) → id ≡ 1 → s ≡ t 1 → SumAdds sums (listing s) id bytes run old new → SumStands sums (by_sizes listing t) old (raw_pairs bytes)
    → SumStands sums (by_sizes listing t) new (raw_pairs (bytes ++ run))
raw_sums sums listing s t id bytes run old new named same adds stands =
    subst (SumStands sums (by_sizes listing t) new) (sym (map-append (λ (x : ℕ). (1, x)) bytes run))
    (source_sums sums listing t s 1 id (raw_pairs bytes) run old new (omega arith, omega arith) named same
    (subst (λ (l : List ℕ). SumAdds sums (listing s) id l run old new) (sym (of_raw bytes)) adds) stands)
