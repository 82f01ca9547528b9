-- The frames that are written of a small run file, from its bytes on, and what its traces show, worked out by hand, and near misses.
use Rattle.std.proofs.Common.{◌≡◌, ℕ, ◌-◌, ◌*◌, true, false, List, [], ◌∷◌, ◌++◌, Option, Some, None, Ok, Err, refl, sym, ap, subst, ◌∙◌}
use Rattle.std.proofs.Common.{arith, append-nil, length}
use Rattle.std.specs.Prelude.{All, codes, drop, get_or}
use Rattle.std.proofs.lemmas.List.Elements.{All-from_recursion, recursion_from_All}
use Rattle.std.specs.Str.{chars, is_utf8}
use Rattle.a64_branches.specs.Classes.{class_of}
use Rattle.atom_formats.specs.Bytes.{byte_of}
use Rattle.atom_formats.specs.Formats.{atom_formats}
use Rattle.run_file.proofs.Benches.{parsed_good}
use Rattle.run_file.specs.BenchText.{parsed}
use Rattle.run_file.specs.Parts.{BenchParts, BenchStream}
use Rattle.run_file.specs.Refusals.{bench_of, unless_refused}
use Rattle.run_file.specs.declared.fault.BenchWhy.{BenchWhy}
use Rattle.etm_types.specs.Settings.{Sizes}
use Rattle.etm_types.specs.SettingsTable.{IsTable}
use Rattle.etm_types.specs.declared.context.Ctx.{Ctx}
use Rattle.hex.specs.Hex.{decode_pairs}
use Rattle.path_text.specs.Lines.{in_base}
use Rattle.program_image.proofs.Placed.{image_read}
use Rattle.program_image.specs.ImageText.{image_of}
use Rattle.program_image.specs.Part.{IsImage, Part}
use Rattle.run_file.specs.declared.fault.BenchWhy.TheVariants.{Run}
use Rattle.run_file.specs.declared.line.BenchLine.{BenchLine}
use Rattle.spec_run.specs.declared.event.Event.{Event}
use Rattle.capture_streams.specs.Laws.{lines_with}
use Rattle.capture_streams.specs.Texts.{Printed, lines_under}
use Rattle.spec_run.specs.declared.event.Event.TheVariants as event
use Rattle.spec_run.specs.declared.run_fault.RunFault.TheVariants as fault
use Rattle.trace_io.specs.Bytes.{TakesAll}
use Rattle.trace_io.specs.State.{IoState}
use Rattle.traced_runs.proofs.TracedExamples.{HasEnd, all_traces}
use Rattle.traced_runs.proofs.TracedStreams.{traces_are_shown}
use Rattle.traced_runs.specs.Traced.{AreAccepted, AreWritten, IsLastFrames, IsTraceText, IsTracedFrames, ShowsTraces, Suits, trace_frames}
use Rattle.traced_runs.specs.Traced.{trace_lines, traces, with_syncs}

-- ---- a run file of three streams, of which one has no event

-- at 0x2008: B to itself
abbrev loop : List Part
loop = record { start = 0x2008; bytes = 0x00 ∷ 0x00 ∷ 0x00 ∷ 0x14 ∷ [] } ∷ []

abbrev run_file : List ℕ
run_file =
    codes "etm 2\nstream 05 depth 64 vmid 0 cid 0\non 2008 el0 s 0 0\ntaken\nretire 1\nstream 03 depth 8 vmid 0\nstream 02 depth 0 vmid 0 cid 0\non 2008 el0 s 0 0\nweave 05:1 02:2\nweave 03:7 05:99\n"

abbrev user : Ctx
user = record { el = 0; ns = false; vmid = 0; cid = 0 }

abbrev sizes : ℕ → ℕ → ℕ → Sizes
sizes depth vmid_bytes cid_bytes = record { depth = depth; vmid_bytes = vmid_bytes; cid_bytes = cid_bytes }

abbrev line : ℕ → Event → BenchLine
line number e = record { line = number; event = e; times = 1 }

abbrev stream : ℕ → Sizes → List BenchLine → BenchStream
stream id settings lines = record { id = id; settings = settings; stack = 15; lines = lines }

abbrev parts : BenchParts
parts = record {
  streams =
      stream 5 (sizes 64 0 0) (line 3 (event.On 0x2008 user) ∷ line 4 event.Taken ∷ line 5 (event.Retire 1) ∷ [])
      ∷ stream 3 (sizes 8 0 4) [] ∷ stream 2 (sizes 0 0 0) (line 8 (event.On 0x2008 user) ∷ []) ∷ [];
  weaves = record { id = 5; count = 1 } ∷ record { id = 2; count = 2 } ∷ record { id = 3; count = 7 } ∷ record { id = 5; count = 99 } ∷ [];
}

-- The trace of stream 05 is A-sync, trace info, trace on, address and context, an atom and a commit; that of 02 lacks the last two. One byte of
-- 05 comes first, then two of 02, the rest of 05, and the rest of 02.
abbrev first_frame : List ℕ
first_frame = 0x0b ∷ 0x00 ∷ 0x05 ∷ 0x00 ∷ 0x0b ∷ 0x00 ∷ 0x00 ∷ 0x00 ∷ 0x00 ∷ 0x00 ∷ 0x00 ∷ 0x00 ∷ 0x00 ∷ 0x00 ∷ 0x00 ∷ 0x04 ∷ []

abbrev second_frame : List ℕ
second_frame = 0x00 ∷ 0x80 ∷ 0x00 ∷ 0x01 ∷ 0x00 ∷ 0x04 ∷ 0x84 ∷ 0x02 ∷ 0x10 ∷ 0x00 ∷ 0x00 ∷ 0x00 ∷ 0x00 ∷ 0x00 ∷ 0x00 ∷ 0x0a ∷ []

abbrev third_frame : List ℕ
third_frame = 0x10 ∷ 0xf7 ∷ 0x2c ∷ 0x01 ∷ 0x05 ∷ 0x00 ∷ 0x00 ∷ 0x00 ∷ 0x00 ∷ 0x00 ∷ 0x00 ∷ 0x00 ∷ 0x00 ∷ 0x00 ∷ 0x80 ∷ 0x02 ∷ []

abbrev fourth_frame : List ℕ
fourth_frame = 0x00 ∷ 0x01 ∷ 0x00 ∷ 0x04 ∷ 0x84 ∷ 0x02 ∷ 0x10 ∷ 0x00 ∷ 0x00 ∷ 0x00 ∷ 0x00 ∷ 0x00 ∷ 0x00 ∷ 0x10 ∷ 0x01 ∷ 0x05 ∷ []

abbrev all_frames : List ℕ
all_frames = first_frame ++ (second_frame ++ (third_frame ++ fourth_frame))

abbrev sync : List ℕ
sync = 0xff ∷ 0xff ∷ 0xff ∷ 0x7f ∷ []

frames_are : trace_frames loop parts ≡ all_frames
unfolding class_of atom_formats byte_of
frames_are = refl

is_parsed : parsed run_file ≡ Ok parts
unfolding parsed decode_pairs is_utf8 chars lib.Utf8.encode
is_parsed = refl

are_accepted : AreAccepted loop parts
unfolding class_of
are_accepted = refl

bench_is : bench_of loop run_file ≡ Ok parts
unfolding class_of
bench_is = ap (unless_refused loop) is_parsed

loop_is : IsImage loop
unfolding image_of decode_pairs is_utf8 chars lib.Utf8.encode
loop_is = image_read (codes "@2008\n00000014\n") loop refl

-- ---- its frames

abbrev shows : List ℕ → IoState
shows bytes = record { bytes = Some bytes; faults = 0 }

-- so much of the run file is left, and these are the frames
abbrev Frames : List ℕ → List ℕ → Type 0
Frames left frames = IsTracedFrames loop (shows run_file) (shows left) frames

pub traced : Frames [] all_frames
traced = record {
  run_file = run_file;
  read = (refl, refl);
  bench = parts;
  accepted = bench_is;
  written = sym frames_are;
  shown = traces_are_shown loop parts loop_is (parsed_good run_file parts is_parsed) are_accepted;
}

-- what was read of it to its end is all of it
parts_of : (left file : List ℕ) (b : BenchParts) → TakesAll (shows run_file) (shows left) file → bench_of loop file ≡ Ok b → b ≡ parts
parts_of left file b read accepted =
    let whole : file ≡ run_file = sym (append-nil file) ∙ ap (λ (l : List ℕ). file ++ l) (sym read.1) ∙ sym read.0 in
    let both : Ok b ≡ Ok parts = sym (subst (λ (f : List ℕ). bench_of loop f ≡ Ok b) whole accepted) ∙ bench_is in cc

same_parts : (left frames : List ℕ) (is : Frames left frames) → is.bench ≡ parts
same_parts left frames is = parts_of left is.run_file is.bench is.read is.accepted

written_so : (left frames : List ℕ) → Frames left frames → (left ≡ []) × (frames ≡ all_frames)
written_so left frames is = (is.read.1, is.written ∙ ap (trace_frames loop) (same_parts left frames is) ∙ frames_are)

pub not_before_its_end : Frames (10 ∷ []) all_frames → ⊥
not_before_its_end is = absurd (omega (arith, ap length (written_so (10 ∷ []) all_frames is).0))

pub not_a_frame_less : Frames [] (first_frame ++ (second_frame ++ third_frame)) → ⊥
not_a_frame_less is = absurd (omega (arith, ap length (written_so [] (first_frame ++ (second_frame ++ third_frame)) is).1))

pub not_the_other_stream_first : Frames [] (0x05 ∷ drop 1 all_frames) → ⊥
not_the_other_stream_first is = absurd (omega (arith, ap (λ (l : List ℕ). get_or l 0 0) (written_so [] (0x05 ∷ drop 1 all_frames) is).1))

pub not_in_another_order : Frames [] (third_frame ++ (fourth_frame ++ (first_frame ++ second_frame))) → ⊥
not_in_another_order is =
    absurd (omega (arith, ap (λ (l : List ℕ). get_or l 0 0) (written_so [] (third_frame ++ (fourth_frame ++ (first_frame ++ second_frame))) is).1))

-- a run file with an event that is refused has none
abbrev refused_file : List ℕ
refused_file = codes "etm 1\nstream 05\nflip\n"

refused : bench_of loop refused_file ≡ Err (3, Run fault.NotOn)
unfolding parsed decode_pairs class_of is_utf8 chars lib.Utf8.encode
refused = refl

apart : (b : BenchParts) (f : ℕ × BenchWhy) → Ok b ≡ Err f → ⊥
apart b f e = cc

no_parts : (file : List ℕ) (b : BenchParts) → TakesAll (shows refused_file) (shows []) file → bench_of loop file ≡ Ok b → ⊥
no_parts file b read accepted =
    let whole : file ≡ refused_file = sym (append-nil file) ∙ sym read.0 in
    apart b (3, Run fault.NotOn) (sym (subst (λ (f : List ℕ). bench_of loop f ≡ Ok b) whole accepted) ∙ refused)

pub none_where_refused : (frames : List ℕ) → IsTracedFrames loop (shows refused_file) (shows []) frames → ⊥
none_where_refused frames is = no_parts is.run_file is.bench is.read is.accepted

-- ---- its last frames

-- so much of the run file is left, and these are the last n of the frames
abbrev Last : List ℕ → ℕ → List ℕ → Type 0
Last left n frames = IsLastFrames loop (shows run_file) (shows left) n frames

traces_are : traces loop parts ≡ all_traces
unfolding class_of atom_formats byte_of
traces_are = refl

-- In two frames no ID is told before the bytes of stream 05 are over, and all bytes of stream 02 but the first two stand behind its ID.
pub last_two : Last [] 2 (third_frame ++ fourth_frame)
last_two = record {
  run_file = run_file;
  read = (refl, refl);
  bench = parts;
  accepted = bench_is;
  last = record {
    written = ap (λ (l : List ℕ). drop (length l - 32) l) (sym frames_are);
    carried = subst (All (HasEnd (third_frame ++ fourth_frame))) (sym traces_are)
        (All-from_recursion (HasEnd (third_frame ++ fourth_frame)) all_traces
        ((29, omega arith, refl), ((0, omega arith, refl), ((2, omega arith, refl), tt))));
  };
}

last_so : (left : List ℕ) (n : ℕ) (frames : List ℕ) → Last left n frames
    → (left ≡ []) × (frames ≡ drop (length all_frames - 16 * n) all_frames)
last_so left n frames is =
    let same = ap (trace_frames loop) (parts_of left is.run_file is.bench is.read is.accepted) ∙ frames_are in
    (is.read.1, is.last.written ∙ ap (λ (l : List ℕ). drop (length l - 16 * n) l) same)

pub no_last_before_its_end : Last (10 ∷ []) 2 (third_frame ++ fourth_frame) → ⊥
no_last_before_its_end is = absurd (omega (arith, ap length (last_so (10 ∷ []) 2 (third_frame ++ fourth_frame) is).0))

pub not_the_first_two : Last [] 2 (first_frame ++ second_frame) → ⊥
not_the_first_two is = absurd (omega (arith, ap (λ (l : List ℕ). get_or l 0 0) (last_so [] 2 (first_frame ++ second_frame) is).1))

pub not_a_last_one_more : Last [] 2 (second_frame ++ (third_frame ++ fourth_frame)) → ⊥
not_a_last_one_more is = absurd (omega (arith, ap length (last_so [] 2 (second_frame ++ (third_frame ++ fourth_frame)) is).1))

pub no_last_where_refused : (n : ℕ) (frames : List ℕ) → IsLastFrames loop (shows refused_file) (shows []) n frames → ⊥
no_last_where_refused n frames is = no_parts is.run_file is.bench is.read is.accepted

-- ---- what they show

abbrev printed : ℕ → List ℕ → Printed
printed id text = record { id = Some id; line = text ++ 10 ∷ [] }

abbrev Has : List Printed → BenchStream → Type 0
Has lines s = lines_with s.id lines ≡ lines_under s.id (trace_lines loop s)

-- of each stream its retired path and its end, and of the one without an event nothing
pub lines_shown : (frames : List ℕ) (is : Frames [] frames)
    → (lines_with 5 is.shown.lines
    ≡ printed 5 (codes "05 on") ∷ printed 5 (codes "05 ctx el0 s 0 0") ∷ printed 5 (codes "05 2008") ∷ printed 5 (codes "05 end") ∷ [])
    × (lines_with 3 is.shown.lines ≡ []) × (lines_with 2 is.shown.lines ≡ printed 2 (codes "02 end") ∷ [])
unfolding class_of in_base
lines_shown frames is =
    let lines = is.shown.lines in
    let shows_them = subst (λ (b : BenchParts). ShowsTraces loop b lines) (same_parts [] frames is) is.shown.shows in
    let (five, (three, (two, none))) = recursion_from_All (Has lines) parts.streams shows_them.streams in (five, three, two)

-- and no fault, under any table that gives the streams their sizes
pub no_fault : (frames : List ℕ) → Frames [] frames → (table : List Sizes) → IsTable table → Suits parts table → (lines : List Printed)
    → IsTraceText loop table parts lines true → ⊥
no_fault frames is table is_table suits lines text =
    let same = same_parts [] frames is in
    let here = subst (λ (b : BenchParts). Suits b table) (sym same) suits in
    let there = subst (λ (b : BenchParts). IsTraceText loop table b lines true) (sym same) text in
    let faulty : true ≡ false = (is.shown.only table is_table here lines true there).1 in cc

-- ---- as they are written

abbrev Written : Option ℕ → List ℕ → Type 0
Written every bytes = AreWritten loop None every (shows run_file) (shows []) bytes

abbrev synced_by_threes : List ℕ
synced_by_threes = sync ++ (first_frame ++ (second_frame ++ (third_frame ++ (sync ++ fourth_frame))))

pub written_alone : Written None all_frames
written_alone = record { frames = all_frames; traced = traced; synced = refl }

pub written_among_syncs : Written (Some 3) synced_by_threes
written_among_syncs = record { frames = all_frames; traced = traced; synced = refl }

pub no_syncs_unasked : Written None synced_by_threes → ⊥
no_syncs_unasked is = absurd (omega (arith, ap length (is.synced ∙ (written_so [] is.frames is.traced).1)))

pub not_without_syncs : Written (Some 3) all_frames → ⊥
not_without_syncs is =
    let same : all_frames ≡ synced_by_threes = is.synced ∙ ap (with_syncs (Some 3)) (written_so [] is.frames is.traced).1 in
    absurd (omega (arith, ap length same))

-- the last two of them
abbrev WrittenLast : Option ℕ → List ℕ → Type 0
WrittenLast every bytes = AreWritten loop (Some 2) every (shows run_file) (shows []) bytes

pub last_among_syncs : WrittenLast (Some 1) (sync ++ (third_frame ++ (sync ++ fourth_frame)))
last_among_syncs = record { frames = third_frame ++ fourth_frame; traced = last_two; synced = refl }

pub not_all_frames : WrittenLast None all_frames → ⊥
not_all_frames is = absurd (omega (arith, ap length (is.synced ∙ (last_so [] 2 is.frames is.traced).1)))
