-- The frames and the lines of a small run file, as they were worked out by hand, beside what a wrong rule would write or show.
use Rattle.std.proofs.Common.{◌≡◌, ℕ, ◌-◌, ◌*◌, ◌≤◌, true, false, List, [], ◌∷◌, ◌++◌, Some, None, drop, take, refl, sym, arith, ap, subst, ◌∙◌}
use Rattle.std.specs.Prelude.{All, codes, get_or, length, replicate, slice_set}
use Rattle.std.specs.List.{concat}
use Rattle.std.proofs.lemmas.List.Elements.{All-from_recursion, recursion_from_All}
use Rattle.a64_branches.specs.Classes.{class_of}
use Rattle.atom_formats.specs.Formats.{atom_formats}
use Rattle.etm_types.specs.Settings.{Sizes}
use Rattle.etm_types.specs.SettingsTable.{sizes_at}
use Rattle.etm_types.specs.declared.context.Ctx.{Ctx}
use Rattle.formatter_frames.specs.Unframed.{unframed}
use Rattle.path_text.specs.Lines.{in_base}
use Rattle.program_image.specs.Part.{Part}
use Rattle.run_file.specs.Parts.{BenchParts, BenchStream, events_of}
use Rattle.run_file.specs.declared.line.BenchLine.{BenchLine}
use Rattle.spec_run.specs.declared.event.Event.{Event}
use Rattle.capture_streams.specs.Laws.{lines_with}
use Rattle.capture_streams.specs.Texts.{Printed, lines_under, of, text_of}
use Rattle.spec_run.specs.declared.event.Event.TheVariants as event
use Rattle.retired_paths.specs.Retired.{stream_text}
use Rattle.traced_runs.specs.Traced.{AreLast, ShowsTraces, Suits, end_lines, is_of_one, kept_frames, table_of, trace_frames, trace_lines, trace_pairs}
use Rattle.traced_runs.specs.Traced.{traces, with_syncs}
use Rattle.woven_traces.specs.Woven.{under}
use Rattle.atom_formats.specs.Bytes.{byte_of}

-- ---- three streams, of which one has no event

abbrev pub user : Ctx
user = record { el = 0; ns = false; vmid = 0; cid = 0 }

-- at 0x2008: B to itself
abbrev pub loop : List Part
loop = record { start = 0x2008; bytes = 0x00 ∷ 0x00 ∷ 0x00 ∷ 0x14 ∷ [] } ∷ []

abbrev pub once : Event → BenchLine
once e = record { line = 9; event = e; times = 1 }

abbrev pub sizes : ℕ → ℕ → ℕ → Sizes
sizes depth vmid_bytes cid_bytes = record { depth = depth; vmid_bytes = vmid_bytes; cid_bytes = cid_bytes }

abbrev pub stream : ℕ → Sizes → List BenchLine → BenchStream
stream id settings lines = record { id = id; settings = settings; stack = 15; lines = lines }

abbrev pub bench : BenchParts
bench = record {
  streams =
      stream 5 (sizes 64 0 0) (once (event.On 0x2008 user) ∷ once event.Taken ∷ once (event.Retire 1) ∷ [])
      ∷ stream 3 (sizes 8 0 4) [] ∷ stream 2 (sizes 0 0 0) (once (event.On 0x2008 user) ∷ []) ∷ [];
  weaves = record { id = 5; count = 1 } ∷ record { id = 2; count = 2 } ∷ record { id = 3; count = 7 } ∷ record { id = 5; count = 99 } ∷ [];
}

-- ---- their bytes

-- eleven bytes 00, and 80; trace info; trace on; address and context
abbrev pub beginning : List ℕ
beginning =
    0x00 ∷ 0x00 ∷ 0x00 ∷ 0x00 ∷ 0x00 ∷ 0x00 ∷ 0x00 ∷ 0x00 ∷ 0x00 ∷ 0x00 ∷ 0x00 ∷ 0x80 ∷ 0x01 ∷ 0x01 ∷ 0x00 ∷ 0x04
    ∷ 0x85 ∷ 0x02 ∷ 0x10 ∷ 0x00 ∷ 0x00 ∷ 0x00 ∷ 0x00 ∷ 0x00 ∷ 0x00 ∷ 0x10 ∷ []

-- an atom, and a commit
abbrev pub of_five : List ℕ
of_five = beginning ++ 0xf7 ∷ 0x2d ∷ 0x01 ∷ []

pub traces_are : traces loop bench ≡ (5, of_five) ∷ (3, []) ∷ (2, beginning) ∷ []
unfolding class_of atom_formats byte_of
traces_are = refl

-- The events of one core under three return stacks: a call in a call, and both returns. By a stack of 15 addresses no return needs one told,
-- by a stack of one the second does, and by none both do.

-- at 0x3000: BL to 0x3010, B to itself, NOP, NOP, BL to 0x3018, RET, RET
abbrev nested : List Part
nested = record {
  start = 0x3000;
  bytes = 0x04 ∷ 0x00 ∷ 0x00 ∷ 0x94 ∷ 0x00 ∷ 0x00 ∷ 0x00 ∷ 0x14 ∷ 0x1f ∷ 0x20 ∷ 0x03 ∷ 0xd5 ∷ 0x1f ∷ 0x20 ∷ 0x03 ∷ 0xd5
      ∷ 0x02 ∷ 0x00 ∷ 0x00 ∷ 0x94 ∷ 0xc0 ∷ 0x03 ∷ 0x5f ∷ 0xd6 ∷ 0xc0 ∷ 0x03 ∷ 0x5f ∷ 0xd6 ∷ [];
} ∷ []

abbrev with_stack : ℕ → ℕ → BenchStream
with_stack id stack = record {
  id = id;
  settings = sizes 8 0 0;
  stack = stack;
  lines = once (event.On 0x3000 user) ∷ once event.Taken ∷ once event.Taken ∷ once (event.To 0x3014) ∷ once (event.To 0x3004) ∷ once event.Taken
      ∷ once (event.Retire 5) ∷ [];
}

abbrev beginning_at_3000 : List ℕ
beginning_at_3000 = take 17 beginning ++ 0x00 ∷ 0x18 ∷ drop 19 beginning

pub traces_by_stacks : traces nested (record { streams = with_stack 1 1 ∷ with_stack 2 15 ∷ with_stack 3 0 ∷ []; weaves = [] })
    ≡ (1, beginning_at_3000 ++ 0xc0 ∷ 0x95 ∷ 0x01 ∷ 0xf7 ∷ 0x2d ∷ 0x05 ∷ [])
    ∷ (2, beginning_at_3000 ++ 0xc1 ∷ 0x2d ∷ 0x05 ∷ [])
    ∷ (3, beginning_at_3000 ++ 0xff ∷ 0x95 ∷ 0x05 ∷ 0xf7 ∷ 0x95 ∷ 0x01 ∷ 0xf7 ∷ 0x2d ∷ 0x05 ∷ []) ∷ []
unfolding class_of atom_formats byte_of
traces_by_stacks = refl

-- woven: the weaves of the stream without bytes take nothing, and what no weave takes comes behind
abbrev rest_of_five : List (ℕ × ℕ)
rest_of_five = under 5 (drop 1 of_five)

abbrev rest_of_two : List (ℕ × ℕ)
rest_of_two = under 2 (drop 2 beginning)

pub pairs_are : trace_pairs loop bench ≡ (5, 0x00) ∷ (2, 0x00) ∷ (2, 0x00) ∷ (rest_of_five ++ rest_of_two)
unfolding class_of atom_formats byte_of
pairs_are = refl

-- ---- their frames, and the last ones

abbrev first_frame : List ℕ
first_frame = 0x0b ∷ 0x00 ∷ 0x05 ∷ 0x00 ∷ 0x0b ∷ 0x00 ∷ 0x00 ∷ 0x00 ∷ 0x00 ∷ 0x00 ∷ 0x00 ∷ 0x00 ∷ 0x00 ∷ 0x00 ∷ 0x00 ∷ 0x04 ∷ []

abbrev second_frame : List ℕ
second_frame = 0x00 ∷ 0x80 ∷ 0x00 ∷ 0x01 ∷ 0x00 ∷ 0x04 ∷ 0x84 ∷ 0x02 ∷ 0x10 ∷ 0x00 ∷ 0x00 ∷ 0x00 ∷ 0x00 ∷ 0x00 ∷ 0x00 ∷ 0x0a ∷ []

abbrev third_frame : List ℕ
third_frame = 0x10 ∷ 0xf7 ∷ 0x2c ∷ 0x01 ∷ 0x05 ∷ 0x00 ∷ 0x00 ∷ 0x00 ∷ 0x00 ∷ 0x00 ∷ 0x00 ∷ 0x00 ∷ 0x00 ∷ 0x00 ∷ 0x80 ∷ 0x02 ∷ []

abbrev fourth_frame : List ℕ
fourth_frame = 0x00 ∷ 0x01 ∷ 0x00 ∷ 0x04 ∷ 0x84 ∷ 0x02 ∷ 0x10 ∷ 0x00 ∷ 0x00 ∷ 0x00 ∷ 0x00 ∷ 0x00 ∷ 0x00 ∷ 0x10 ∷ 0x01 ∷ 0x05 ∷ []

abbrev pub all_frames : List ℕ
all_frames = first_frame ++ (second_frame ++ (third_frame ++ fourth_frame))

pub frames_are : trace_frames loop bench ≡ all_frames
unfolding class_of atom_formats byte_of
frames_are = refl

-- the last bytes of a trace
abbrev pub HasEnd : List ℕ → ℕ × List ℕ → Type 0
HasEnd frames t = (missing : ℕ) × (missing ≤ length t.1) × (of t.0 (unframed frames) ≡ drop missing t.1)

abbrev pub all_traces : List (ℕ × List ℕ)
all_traces = (5, of_five) ∷ (3, []) ∷ (2, beginning) ∷ []

-- In two frames no ID is told before the bytes of stream 05 are over, and all bytes of stream 02 but the first two stand behind its ID.
pub last_two : AreLast loop bench 2 (third_frame ++ fourth_frame)
last_two = record {
  written = ap (λ (l : List ℕ). drop (length l - 32) l) (sym frames_are);
  carried = subst (All (HasEnd (third_frame ++ fourth_frame))) (sym traces_are)
      (All-from_recursion (HasEnd (third_frame ++ fourth_frame)) all_traces
      ((29, omega arith, refl), ((0, omega arith, refl), ((2, omega arith, refl), tt))));
}

-- there are no nine frames
pub last_nine : AreLast loop bench 9 all_frames
last_nine = record {
  written = ap (λ (l : List ℕ). drop (length l - 144) l) (sym frames_are);
  carried = subst (All (HasEnd all_frames)) (sym traces_are)
      (All-from_recursion (HasEnd all_frames) all_traces ((0, omega arith, refl), ((0, omega arith, refl), ((0, omega arith, refl), tt))));
}

abbrev first_of : List ℕ → ℕ
first_of bytes = get_or bytes 0 0

written_so : (n : ℕ) (frames : List ℕ) → AreLast loop bench n frames → frames ≡ drop (length all_frames - 16 * n) all_frames
written_so n frames last = last.written ∙ ap (λ (l : List ℕ). drop (length l - 16 * n) l) frames_are

-- the first ones are not the last, nor is one more
not_the_first : AreLast loop bench 2 (first_frame ++ second_frame) → ⊥
not_the_first last = absurd (omega (arith, ap first_of (written_so 2 (first_frame ++ second_frame) last)))

not_three : AreLast loop bench 2 (second_frame ++ (third_frame ++ fourth_frame)) → ⊥
not_three last = absurd (omega (arith, ap length (written_so 2 (second_frame ++ (third_frame ++ fourth_frame)) last)))

-- frames are counted, and not bytes
not_two_bytes : AreLast loop bench 2 (0x01 ∷ 0x05 ∷ []) → ⊥
not_two_bytes last = absurd (omega (arith, ap length (written_so 2 (0x01 ∷ 0x05 ∷ []) last)))

-- where there are no more, none is left out
not_none : AreLast loop bench 9 [] → ⊥
not_none last = absurd (omega (arith, ap length (written_so 9 [] last)))

-- and the ID that held is not told anew
not_anew : AreLast loop bench 2 (0x0b ∷ drop 1 third_frame ++ fourth_frame) → ⊥
not_anew last = absurd (omega (arith, ap first_of (written_so 2 (0x0b ∷ drop 1 third_frame ++ fourth_frame) last)))

-- ---- as they are written

abbrev sync : List ℕ
sync = 0xff ∷ 0xff ∷ 0xff ∷ 0x7f ∷ []

pub without_syncs : with_syncs None all_frames ≡ all_frames
without_syncs = refl

-- before the first frame, and before each second or third behind it
pub synced_by_twos : with_syncs (Some 2) all_frames ≡ sync ++ (first_frame ++ (second_frame ++ (sync ++ (third_frame ++ fourth_frame))))
synced_by_twos = refl

pub synced_by_threes : with_syncs (Some 3) all_frames ≡ sync ++ (first_frame ++ (second_frame ++ (third_frame ++ (sync ++ fourth_frame))))
synced_by_threes = refl

-- frames are counted from the first that is written
pub last_synced : with_syncs (Some 3) (kept_frames (Some 2) all_frames) ≡ sync ++ (third_frame ++ fourth_frame)
last_synced = refl

-- and where there is none, nothing is written
pub none_synced : with_syncs (Some 1) (kept_frames (Some 2) []) ≡ []
none_synced = refl

not_before_the_second : with_syncs (Some 2) all_frames ≡ first_frame ++ (sync ++ (second_frame ++ (third_frame ++ (sync ++ fourth_frame)))) → ⊥
not_before_the_second e = absurd (omega (arith, ap first_of e))

not_behind_the_last : with_syncs (Some 4) all_frames ≡ sync ++ (all_frames ++ sync) → ⊥
not_behind_the_last e = absurd (omega (arith, ap length e))

-- ---- their lines

abbrev pub line : ℕ → List ℕ → Printed
line id text = record { id = Some id; line = text ++ 10 ∷ [] }

abbrev five : List Printed
five = line 5 (codes "05 on") ∷ line 5 (codes "05 ctx el0 s 0 0") ∷ line 5 (codes "05 2008") ∷ []

abbrev pub ends : List Printed
ends = line 2 (codes "02 end") ∷ line 5 (codes "05 end") ∷ []

abbrev Has : List Printed → BenchStream → Type 0
Has lines s = lines_with s.id lines ≡ lines_under s.id (trace_lines loop s)

abbrev HasText : List Printed → BenchStream → Type 0
HasText lines s = text_of (lines_with s.id lines) ≡ stream_text loop s ++ concat (end_lines s.id (events_of s.lines))

abbrev IsOne : Printed → Type 0
IsOne l = is_of_one bench.streams l.id ≡ true

pub lines_are : ShowsTraces loop bench (five ++ ends)
unfolding class_of in_base
lines_are = record {
  streams = All-from_recursion (Has (five ++ ends)) bench.streams (refl, (refl, (refl, tt)));
  retired = All-from_recursion (HasText (five ++ ends)) bench.streams (refl, (refl, (refl, tt)));
  alone = All-from_recursion IsOne (five ++ ends) (refl, (refl, (refl, (refl, (refl, tt)))));
}

-- the stream without an event has no end
abbrev with_an_end : List Printed
with_an_end = five ++ line 2 (codes "02 end") ∷ line 3 (codes "03 end") ∷ line 5 (codes "05 end") ∷ []

not_an_end : ShowsTraces loop bench with_an_end → ⊥
unfolding class_of in_base
not_an_end shows =
    let (first, (second, (third, none))) = recursion_from_All (Has with_an_end) bench.streams shows.streams in
    absurd (omega (arith, ap length second))

-- one with events has one, though it retires nothing
abbrev without_an_end : List Printed
without_an_end = five ++ line 5 (codes "05 end") ∷ []

not_without : ShowsTraces loop bench without_an_end → ⊥
unfolding class_of in_base
not_without shows =
    let (first, (second, (third, none))) = recursion_from_All (Has without_an_end) bench.streams shows.streams in
    absurd (omega (arith, ap length third))

-- no line is one of no stream
abbrev with_a_cut : List Printed
with_a_cut = five ++ ends ++ record { id = None; line = codes "frame cut 3" ++ 10 ∷ [] } ∷ []

not_cut : ShowsTraces loop bench with_a_cut → ⊥
not_cut shows = let last : false ≡ true = shows.alone 5 (line 5 []) (omega arith) in cc

-- nor of another
abbrev with_another : List Printed
with_another = line 7 (codes "07 end") ∷ (five ++ ends)

not_another : ShowsTraces loop bench with_another → ⊥
not_another shows = let first : false ≡ true = shows.alone 0 (line 5 []) (omega arith) in cc

-- lines of one stream do not change places
abbrev turned : List Printed
turned = line 5 (codes "05 ctx el0 s 0 0") ∷ line 5 (codes "05 on") ∷ line 5 (codes "05 2008") ∷ ends

not_turned : ShowsTraces loop bench turned → ⊥
unfolding class_of in_base
not_turned shows =
    let (first, (second, (third, none))) = recursion_from_All (Has turned) bench.streams shows.streams in
    absurd (omega (arith, ap (λ (l : List Printed). length (text_of (take 1 l))) first))

-- ---- tables

abbrev others : Sizes
others = sizes 1 4 4

abbrev pub HasOwn : List Sizes → BenchStream → Type 0
HasOwn table s = sizes_at table s.id ≡ s.settings

-- the sizes of an ID that no stream has may be any
pub table_suits : Suits bench (slice_set (table_of bench) 6 others)
table_suits = All-from_recursion (HasOwn (slice_set (table_of bench) 6 others)) bench.streams (refl, (refl, (refl, tt)))

-- those of a stream may not, though it has no event
not_suits : Suits bench (slice_set (table_of bench) 2 others) → ⊥
not_suits suits =
    let (first, (second, (third, none))) = recursion_from_All (HasOwn (slice_set (table_of bench) 2 others)) bench.streams suits in
    absurd (omega (arith, ap (λ (s : Sizes). s.depth) second))

-- nor may all streams have those of the first
not_of_the_first : Suits bench (replicate 111 (sizes 64 0 0)) → ⊥
not_of_the_first suits =
    let (first, (second, (third, none))) = recursion_from_All (HasOwn (replicate 111 (sizes 64 0 0))) bench.streams suits in
    absurd (omega (arith, ap (λ (s : Sizes). s.depth) third))

-- an ID without a stream has the default sizes
others_by_default : sizes_at (table_of bench) 4 ≡ sizes 16 1 4
others_by_default = refl

-- and a table ends with that of 6f
whole_table : length (table_of bench) ≡ 111
whole_table = refl
