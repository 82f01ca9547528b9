-- What `retired` prints of a small run file, from its bytes on, and of one that is bad, worked out by hand, and answers near these that none has.
use Rattle.std.proofs.Common.{◌≡◌, ◌⊎◌, ℕ, ◌<◌, true, false, List, [], ◌∷◌, ◌++◌, Some, Result, Ok, Err, refl, sym, ap, subst, ◌∙◌, inl, inr, arith}
use Rattle.std.proofs.Common.{append-nil, length, length-append}
use Rattle.std.specs.Prelude.{codes, get_or, take, drop}
use Rattle.std.specs.Str.{chars, is_utf8}
use Rattle.a64_branches.specs.Classes.{class_of}
use Rattle.answer_lines.specs.declared.status.Status.{Status}
use Rattle.answer_lines.specs.declared.status.Status.TheVariants as status
use Rattle.run_file.specs.BenchText.{parsed}
use Rattle.run_file.specs.Parts.{BenchParts, BenchStream}
use Rattle.run_file.specs.Refusals.{bench_of}
use Rattle.run_file.specs.declared.fault.BenchWhy.{BenchWhy}
use Rattle.etm_types.specs.declared.context.Ctx.{Ctx}
use Rattle.hex.specs.Hex.{decode_pairs}
use Rattle.path_text.specs.Lines.{in_base}
use Rattle.program_image.specs.Part.{Part}
use Rattle.retired_paths.specs.Retired.{IsBadBench, IsRetiredText, RetiresSo, retired_text}
use Rattle.run_file.specs.declared.fault.BenchWhy.TheVariants.{Syntax, Run}
use Rattle.run_file.specs.declared.line.BenchLine.{BenchLine}
use Rattle.spec_run.specs.declared.event.Event.{Event}
use Rattle.spec_run.specs.declared.event.Event.TheVariants as event
use Rattle.spec_run.specs.declared.run_fault.RunFault.TheVariants as fault
use Rattle.trace_io.specs.State.{IoState}
use Rattle.trace_io.specs.declared.traits.Failed.{Failed}

-- at 0x2008: B to itself, and a NOP
abbrev pub code : List Part
code = record { start = 0x2008; bytes = 0x00 ∷ 0x00 ∷ 0x00 ∷ 0x14 ∷ 0x1f ∷ 0x20 ∷ 0x03 ∷ 0xd5 ∷ [] } ∷ []

abbrev user : Ctx
user = record { el = 0; ns = false; vmid = 0; cid = 0 }

abbrev kernel : Ctx
kernel = record { el = 1; ns = true; vmid = 5; cid = 0x2a }

-- ---- a run file

-- The streams do not ascend, one has no event, and one shows nothing. What is held is not shown.
abbrev pub good : List ℕ
good =
    codes "etm 1\nstream 05\non 2008 el0 s 0 0\ntaken\nretire 1\ntaken\nstream 03\nstream 06\non 2008 el0 s 0 0\ntaken\nstream 02\non 2008 el1 ns 5 2a\ntaken\ntaken\nretire 2\noverflow\nweave 02:1\n"

abbrev line : ℕ → Event → BenchLine
line number e = record { line = number; event = e; times = 1 }

abbrev stream : ℕ → List BenchLine → BenchStream
stream id lines = record { id = id; settings = record { depth = 16; vmid_bytes = 1; cid_bytes = 4 }; stack = 15; lines = lines }

abbrev pub good_parts : BenchParts
good_parts = record {
  streams =
      stream 5 (line 3 (event.On 0x2008 user) ∷ line 4 event.Taken ∷ line 5 (event.Retire 1) ∷ line 6 event.Taken ∷ [])
      ∷ stream 3 [] ∷ stream 6 (line 9 (event.On 0x2008 user) ∷ line 10 event.Taken ∷ [])
      ∷ stream 2 (line 12 (event.On 0x2008 kernel) ∷ line 13 event.Taken ∷ line 14 event.Taken ∷ line 15 (event.Retire 2) ∷ line 16 event.Overflow ∷ []) ∷ [];
  weaves = record { id = 2; count = 1 } ∷ [];
}

-- all of one stream, and then of the next that was declared
abbrev pub good_text : List ℕ
good_text = codes "05 on\n05 ctx el0 s 0 0\n05 2008\n02 on\n02 ctx el1 ns 5 2a\n02 2008\n02 2008\n02 gap\n"

pub retired_text_is : retired_text code good_parts ≡ good_text
unfolding class_of in_base
retired_text_is = refl

pub not_by_ids : retired_text code good_parts
    ≡ codes "02 on\n02 ctx el1 ns 5 2a\n02 2008\n02 2008\n02 gap\n05 on\n05 ctx el0 s 0 0\n05 2008\n" → ⊥
not_by_ids e = absurd (omega (arith, ap (λ (l : List ℕ). get_or l 1 0) (sym retired_text_is ∙ e)))

pub no_context_of_another : retired_text code good_parts ≡ codes "05 on\n05 ctx el0 s 0 0\n05 2008\n02 on\n02 2008\n02 2008\n02 gap\n" → ⊥
no_context_of_another e = absurd (omega (arith, ap length (sym retired_text_is ∙ e)))

pub good_accepted : bench_of code good ≡ Ok good_parts
unfolding parsed decode_pairs class_of is_utf8 chars lib.Utf8.encode
good_accepted = refl

-- a run file whose first event is refused
abbrev pub bad : List ℕ
bad = codes "etm 1\nstream 05\nflip\n"

abbrev pub bad_text : List ℕ
bad_text = codes "bench line 3: not-on\n"

pub bad_refused : bench_of code bad ≡ Err (3, Run fault.NotOn)
unfolding parsed decode_pairs class_of is_utf8 chars lib.Utf8.encode
bad_refused = refl

-- ---- what is read and printed

-- these bytes are shown, and so many calls failed
abbrev shows : List ℕ → ℕ → IoState
shows bytes faults = record { bytes = Some bytes; faults = faults }

-- the run file is read, so much of it is left, and this is the text
abbrev pub IsText : List ℕ → List ℕ → List ℕ → Type 0
IsText file left text = IsRetiredText code (shows file 0) (shows left 0) text

pub text_is : IsText good [] good_text
text_is = record { run_file = good; read = (refl, refl); bench = good_parts; accepted = good_accepted; printed = sym retired_text_is }

pub text_once : (left text : List ℕ) → IsText good left text → (left ≡ []) × (text ≡ good_text)
text_once left text is =
    let file : is.run_file ≡ good = sym (append-nil is.run_file) ∙ ap (λ (l : List ℕ). is.run_file ++ l) (sym is.read.1) ∙ sym is.read.0 in
    let both : Ok is.bench ≡ Ok good_parts = sym (subst (λ (f : List ℕ). bench_of code f ≡ Ok is.bench) file is.accepted) ∙ good_accepted in
    let same : is.bench ≡ good_parts = cc in
    (is.read.1, is.printed ∙ ap (retired_text code) same ∙ retired_text_is)

pub not_while_a_byte_is_left : IsText good (10 ∷ []) good_text → ⊥
not_while_a_byte_is_left is = absurd (omega (arith, ap length (text_once (10 ∷ []) good_text is).0))

pub no_line_left_out : IsText good [] (drop 6 good_text) → ⊥
no_line_left_out is = absurd (omega (arith, ap length (text_once [] (drop 6 good_text) is).1))

-- a run file is not both
apart : (b : BenchParts) (f : ℕ × BenchWhy) → Ok b ≡ Err f → ⊥
apart b f e = cc

pub no_text_where_refused : (text : List ℕ) → IsText bad [] text → ⊥
no_text_where_refused text is =
    let file : is.run_file ≡ bad = sym (append-nil is.run_file) ∙ sym is.read.0 in
    apart is.bench (3, Run fault.NotOn) (sym (subst (λ (f : List ℕ). bench_of code f ≡ Ok is.bench) file is.accepted) ∙ bad_refused)

-- the run file is bad so, where so much of it is left
abbrev pub IsBad : List ℕ → List ℕ → ℕ → BenchWhy → List ℕ → Type 0
IsBad file left at why text = IsBadBench code (shows file 0) (shows left 0) at why text

pub bad_is : IsBad bad [] 3 (Run fault.NotOn) bad_text
unfolding in_base
bad_is = record { run_file = bad; read = refl; ended = inl refl; refused = bad_refused; printed = refl }

abbrev fault_in : Result BenchParts (ℕ × BenchWhy) → ℕ × BenchWhy
fault_in (Ok b) = (0, Syntax)
fault_in (Err told) = told

bad_once : (left : List ℕ) (at : ℕ) (why : BenchWhy) (text : List ℕ) → IsBad bad left at why text → (left ≡ []) × (at ≡ 3) × (why ≡ Run fault.NotOn)
bad_once left at why text is = by is.ended
  where
    by : (left ≡ []) ⊎ (67108864 < length is.run_file) → (left ≡ []) × (at ≡ 3) × (why ≡ Run fault.NotOn)
    by (inl end) =
        let file : is.run_file ≡ bad = sym (append-nil is.run_file) ∙ ap (λ (l : List ℕ). is.run_file ++ l) (sym end) ∙ sym is.read in
        let told : (at, why) ≡ (3, Run fault.NotOn) =
        ap fault_in (sym (subst (λ (f : List ℕ). bench_of code f ≡ Err (at, why)) file is.refused) ∙ bad_refused) in
        (end, ap (λ (t : ℕ × BenchWhy). t.0) told, ap (λ (t : ℕ × BenchWhy). t.1) told)
    by (inr long) = absurd (omega (arith, long, ap length is.read, length-append is.run_file left))

pub not_a_line_late : (text : List ℕ) → IsBad bad [] 4 (Run fault.NotOn) text → ⊥
not_a_line_late text is = absurd (omega (arith, (bad_once [] 4 (Run fault.NotOn) text is).1))

pub not_for_its_form : (text : List ℕ) → IsBad bad [] 3 Syntax text → ⊥
not_for_its_form text is = let same = (bad_once [] 3 Syntax text is).2 in absurd cc

pub not_before_its_end : (text : List ℕ) → IsBad bad (10 ∷ []) 3 (Run fault.NotOn) text → ⊥
not_before_its_end text is = absurd (omega (arith, ap length (bad_once (10 ∷ []) 3 (Run fault.NotOn) text is).0))

-- 64 MiB are not past the most that is read
pub not_before_the_end_of_64_mib : (file : List ℕ) (at : ℕ) (why : BenchWhy) (text : List ℕ) → length file ≡ 67108864
    → IsBad (file ++ 10 ∷ []) (10 ∷ []) at why text → ⊥
not_before_the_end_of_64_mib file at why text size is = elim is.ended [
  | inl end ↦ absurd (omega (arith, ap length end))
  | inr long ↦ absurd (omega (arith, long, size, ap length is.read, length-append file (10 ∷ []), length-append is.run_file (10 ∷ [])))
]

pub good_is_not_bad : (left : List ℕ) (at : ℕ) (why : BenchWhy) (text : List ℕ) → IsBad good left at why text → ⊥
good_is_not_bad left at why text is = by is.ended
  where
    by : (left ≡ []) ⊎ (67108864 < length is.run_file) → ⊥
    by (inl end) =
        let file : is.run_file ≡ good = sym (append-nil is.run_file) ∙ ap (λ (l : List ℕ). is.run_file ++ l) (sym end) ∙ sym is.read in
        apart good_parts (at, why) (sym good_accepted ∙ subst (λ (f : List ℕ). bench_of code f ≡ Err (at, why)) file is.refused)
    by (inr long) = absurd (omega (arith, long, ap length is.read, length-append is.run_file left))

-- ---- each answer, behind a byte 7 that was printed before

-- where so much of the run file is left, so many reads failed, and this was printed
abbrev Says : List ℕ → List ℕ → ℕ → List ℕ → Result Status Failed → Type 0
Says file left failed printed result = RetiresSo code (shows file 0) (shows left failed) (shows (7 ∷ []) 0) (shows (7 ∷ printed) 0) result

pub done : Says good [] 0 good_text (Ok status.Done)
done = (good_text, text_is, refl)

pub refused : Says bad [] 0 bad_text (Ok (status.BenchBad 3 (Run fault.NotOn)))
refused = (bad_text, bad_is, refl)

pub read_failed : Says good (drop 9 good) 1 [] (Ok status.ReadFault)
read_failed = (omega arith, refl)

pub no_memory : Says good (drop 9 good) 0 [] (Ok status.NoMemory)
no_memory = refl

pub a_front : (failed : Failed) → Says good [] 0 (take 9 good_text) (Err failed)
a_front failed = inl (good_text, text_is, record { front = take 9 good_text; rest = drop 9 good_text; whole = refl; appended = refl })

-- near misses: another text, another answer, no read that failed, a line before one that failed, and what is no front

pub done_with_its_ends : Says good [] 0 (good_text ++ codes "02 end\n05 end\n") (Ok status.Done) → ⊥
done_with_its_ends (text, is, printed) =
    let shown : 7 ∷ (good_text ++ codes "02 end\n05 end\n") ≡ 7 ∷ text = printed in
    absurd (omega (arith, ap length shown, ap length (text_once [] text is).1))

pub bad_is_not_done : Says bad [] 0 [] (Ok status.Done) → ⊥
bad_is_not_done (text, is, printed) = no_text_where_refused text is

pub good_is_refused : (at : ℕ) (why : BenchWhy) (printed : List ℕ) → Says good [] 0 printed (Ok (status.BenchBad at why)) → ⊥
good_is_refused at why printed (text, is, shown) = good_is_not_bad [] at why text is

pub no_read_failed : Says good (drop 9 good) 0 [] (Ok status.ReadFault) → ⊥
no_read_failed (rose, none) = absurd (omega (arith, rose))

pub lines_before_a_failed_read : Says good (drop 9 good) 1 (take 6 good_text) (Ok status.ReadFault) → ⊥
lines_before_a_failed_read (rose, none) = absurd (omega (arith, ap length none))

pub lines_without_memory : Says good [] 0 good_text (Ok status.NoMemory) → ⊥
lines_without_memory none = absurd (omega (arith, ap length none))

pub never_faulted : Says good [] 0 good_text (Ok status.Faulted) → ⊥
never_faulted is = is

pub no_front : (failed : Failed) → Says good [] 0 (drop 9 good_text) (Err failed) → ⊥
no_front failed (inl (text, is, part)) =
    let shown : 7 ∷ drop 9 good_text ≡ 7 ∷ part.front = part.appended in
    let front : part.front ≡ drop 9 good_text = cc in
    let whole : good_text ≡ drop 9 good_text ++ part.rest = sym (text_once [] text is).1 ∙ part.whole ∙ ap (λ (l : List ℕ). l ++ part.rest) front in
    absurd (omega (arith, ap (λ (l : List ℕ). get_or l 0 0) whole))
no_front failed (inr (at, why, (text, is, part))) = good_is_not_bad [] at why text is
