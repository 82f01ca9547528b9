-- Run files that were worked out by hand, each beside what a wrong definition would say.
use Rattle.std.proofs.Common.{◌≡◌, ◌∷◌, ◌++◌, ◌∙◌, ◌+◌, ℕ, Bool, false, true, List, [], Option, None, Result, Ok, Err, ap, eq-eqb}
use Rattle.std.proofs.Common.{nat_eq, refl, sym, true≢false}
use Rattle.std.specs.Prelude.{⊤, codes}
use Rattle.std.specs.Option.{option_map, unwrap_or}
use Rattle.std.specs.Str.{is_utf8}
use Rattle.hex.specs.Hex.{decode_pairs}
use Rattle.line_words.specs.Line.{words_in}
use Rattle.etm_types.specs.Settings.{Sizes}
use Rattle.etm_types.specs.declared.context.Ctx.{Ctx}
use Rattle.spec_run.specs.declared.event.Event.{Event}
use Rattle.spec_run.specs.declared.event.Event.TheVariants as event
use Rattle.run_file.specs.BenchText.{Draft, add_any, add_lines, finished, newest, then_lines}
use Rattle.run_file.specs.Parts.{BenchParts, BenchStream, events_of}
use Rattle.run_file.specs.WhyNumbers.{why_number}
use Rattle.run_file.specs.declared.fault.BenchWhy.{BenchWhy}
use Rattle.run_file.specs.declared.fault.BenchWhy.TheVariants.{Header, Syntax, IdRange, DuplicateId, Range}

-- what lines say that are UTF-8
abbrev read : ℕ → Option Draft → List (List ℕ) → Result (Option Draft) (ℕ × BenchWhy)
read number draft [] = Ok draft
read number draft (line ∷ lines) = then_lines number (add_any number draft (words_in line)) (λ next. read (number + 1) next lines)

abbrev AreUtf8 : List (List ℕ) → Type 0
AreUtf8 [] = ⊤
AreUtf8 (line ∷ lines) = (is_utf8 line ≡ true) × AreUtf8 lines

read_is : (number : ℕ) (draft : Option Draft) (lines : List (List ℕ)) → AreUtf8 lines → add_lines number draft lines ≡ read number draft lines
read_is number draft [] h = refl
read_is number draft (line ∷ lines) h = rw h.0 (by (add_any number draft (words_in line)) (λ next. read_is (number + 1) next lines h.1))
  where
    by : (r : Result (Option Draft) BenchWhy) → ((next : Option Draft) → add_lines (number + 1) next lines ≡ read (number + 1) next lines)
        → then_lines number r (λ next. add_lines (number + 1) next lines) ≡ then_lines number r (λ next. read (number + 1) next lines)
    by (Ok next) more = more next
    by (Err why) more = refl

abbrev said : List (List ℕ) → Result BenchParts (ℕ × BenchWhy)
said lines = finished (read 1 None lines)

-- a text has one fault at most
abbrev number_in : Result BenchParts (ℕ × BenchWhy) → ℕ
number_in (Ok b) = 0
number_in (Err fault) = why_number fault.1

one_fault : (r : Result BenchParts (ℕ × BenchWhy)) (line : ℕ) (why other : BenchWhy) → r ≡ Err (line, why) → nat_eq (why_number why) (why_number other) ≡ false
    → r ≡ Err (line, other) → ⊥
one_fault r line why other told differ h =
    let same : why_number why ≡ why_number other = sym (ap number_in told) ∙ ap number_in h in
    true≢false (sym (eq-eqb (why_number why) (why_number other) same) ∙ differ)

abbrev etm : List (List ℕ) → List (List ℕ)
etm lines = codes "etm 1" ∷ lines

abbrev etm_2 : List (List ℕ) → List (List ℕ)
etm_2 lines = codes "etm 2" ∷ lines

abbrev stream_01 : List (List ℕ) → List (List ℕ)
stream_01 lines = etm (codes "stream 01" ∷ lines)

-- ---- on one line: a reason, and one that is tested after it

-- the first word has an ID of no source, the second no form
syntax_before_id_range : said (stream_01 (codes "weave 70:1 01" ∷ [])) ≡ Err (3, Syntax)
unfolding decode_pairs
syntax_before_id_range = refl

no_id_range_before_syntax : said (stream_01 (codes "weave 70:1 01" ∷ [])) ≡ Err (3, IdRange) → ⊥
no_id_range_before_syntax = one_fault _ 3 Syntax IdRange syntax_before_id_range refl

-- an ID that has a stream already, behind a weave
syntax_before_duplicate_id : said (stream_01 (codes "weave 01:1" ∷ codes "stream 01" ∷ [])) ≡ Err (4, Syntax)
unfolding decode_pairs
syntax_before_duplicate_id = refl

-- of all words the IDs come first
id_range_before_range : said (stream_01 (codes "weave 01:0 02:1" ∷ [])) ≡ Err (3, IdRange)
unfolding decode_pairs
id_range_before_range = refl

no_word_by_word : said (stream_01 (codes "weave 01:0 02:1" ∷ [])) ≡ Err (3, Range) → ⊥
no_word_by_word = one_fault _ 3 IdRange Range id_range_before_range refl

syntax_before_range : said (stream_01 (codes "exc 32 1000 el0 s 0" ∷ [])) ≡ Err (3, Syntax)
unfolding decode_pairs
syntax_before_range = refl

-- ---- the header

no_lines_at_all : said [] ≡ Err (0, Header)
no_lines_at_all = refl

no_line_with_words : said (codes "# etm 1" ∷ codes "" ∷ []) ≡ Err (0, Header)
no_line_with_words = refl

another_version : said (codes "etm 3" ∷ []) ≡ Err (1, Header)
another_version = refl

no_number_of_a_version : said (codes "etm 02" ∷ []) ≡ Err (1, Header)
no_number_of_a_version = refl

words_behind_the_header : said (codes "etm 1 1" ∷ []) ≡ Err (1, Header)
words_behind_the_header = refl

-- a line without words counts
header_on_line_2 : said ([] ∷ codes "etm" ∷ []) ≡ Err (2, Header)
header_on_line_2 = refl

not_utf8_before_the_header : (bytes : List ℕ) → is_utf8 bytes ≡ false → finished (add_lines 1 None (bytes ∷ codes "etm 1" ∷ [])) ≡ Err (1, Syntax)
not_utf8_before_the_header bytes bad = rw bad refl

not_utf8_is_no_header : (bytes : List ℕ) → is_utf8 bytes ≡ false → finished (add_lines 1 None (bytes ∷ codes "etm 1" ∷ [])) ≡ Err (1, Header) → ⊥
not_utf8_is_no_header bytes bad = one_fault _ 1 Syntax Header (not_utf8_before_the_header bytes bad) refl

-- ---- settings

given_twice : said (etm (codes "depth 1" ∷ codes "depth 4097" ∷ [])) ≡ Err (3, Syntax)
given_twice = refl

no_range_of_a_second : said (etm (codes "depth 1" ∷ codes "depth 4097" ∷ [])) ≡ Err (3, Range) → ⊥
no_range_of_a_second = one_fault _ 3 Syntax Range given_twice refl

depth_too_great : said (etm (codes "depth 4097" ∷ [])) ≡ Err (2, Range)
depth_too_great = refl

depth_too_great_in_2 : said (etm_2 (codes "depth 16385" ∷ [])) ≡ Err (2, Range)
depth_too_great_in_2 = refl

no_size_of_vmids : said (etm (codes "vmid 3" ∷ [])) ≡ Err (2, Range)
no_size_of_vmids = refl

no_size_of_context_ids : said (etm (codes "cid 1" ∷ [])) ≡ Err (2, Range)
no_size_of_context_ids = refl

stack_too_deep : said (etm (codes "stack 16" ∷ [])) ≡ Err (2, Range)
stack_too_deep = refl

setting_behind_a_stream : said (stream_01 (codes "depth 5" ∷ [])) ≡ Err (3, Syntax)
unfolding decode_pairs
setting_behind_a_stream = refl

no_setting_behind_a_stream : said (stream_01 (codes "depth 5" ∷ [])) ≡ Err (3, Range) → ⊥
no_setting_behind_a_stream = one_fault _ 3 Syntax Range setting_behind_a_stream refl

abbrev sizes : ℕ → ℕ → ℕ → Sizes
sizes depth vmid_bytes cid_bytes = record { depth = depth; vmid_bytes = vmid_bytes; cid_bytes = cid_bytes }

-- a run file of streams alone
abbrev streams_alone : List BenchStream → Result BenchParts (ℕ × BenchWhy)
streams_alone streams = Ok (record { streams = streams; weaves = [] })

abbrev idle : ℕ → Sizes → ℕ → BenchStream
idle id settings stack = record { id = id; settings = settings; stack = stack; lines = [] }

no_streams : said (etm (codes "stack 0" ∷ [])) ≡ streams_alone []
no_streams = refl

settings_told : said (etm (codes "stack 0" ∷ codes "vmid 4" ∷ codes "cid 0" ∷ codes "depth 4096" ∷ codes "stream 01" ∷ codes "stream 02" ∷ []))
    ≡ streams_alone (idle 1 (sizes 4096 4 0) 0 ∷ idle 2 (sizes 4096 4 0) 0 ∷ [])
unfolding decode_pairs
settings_told = refl

settings_left_out : said (stream_01 []) ≡ streams_alone (idle 1 (sizes 16 1 4) 15 ∷ [])
unfolding decode_pairs
settings_left_out = refl

-- ---- streams

no_source : said (etm (codes "stream 70" ∷ [])) ≡ Err (2, IdRange)
unfolding decode_pairs
no_source = refl

null_id : said (etm (codes "stream 00" ∷ [])) ≡ Err (2, IdRange)
unfolding decode_pairs
null_id = refl

two_streams_of_one_id : said (stream_01 (codes "stream 01" ∷ [])) ≡ Err (3, DuplicateId)
unfolding decode_pairs
two_streams_of_one_id = refl

-- ---- settings of one stream

-- what a stream has of its own, none after it has
own_settings : said (etm_2 (codes "depth 4" ∷ codes "stream 01 depth 1" ∷ codes "stream 02" ∷ []))
    ≡ streams_alone (idle 1 (sizes 1 1 4) 15 ∷ idle 2 (sizes 4 1 4) 15 ∷ [])
unfolding decode_pairs
own_settings = refl

no_depth_that_sticks : said (etm_2 (codes "depth 4" ∷ codes "stream 01 depth 1" ∷ codes "stream 02" ∷ []))
    ≡ streams_alone (idle 1 (sizes 1 1 4) 15 ∷ idle 2 (sizes 1 1 4) 15 ∷ []) → ⊥
no_depth_that_sticks told = true≢false (ap (λ r. nat_eq 4 (last_depth r)) (sym own_settings ∙ told))
  where
    last_depth : Result BenchParts (ℕ × BenchWhy) → ℕ
    last_depth (Ok b) = unwrap_or (option_map (λ s. s.settings.depth) (newest b.streams)) 0
    last_depth (Err fault) = 0

own_settings_in_any_order : said (etm_2 (codes "stack 3" ∷ codes "stream 01 stack 0 cid 0 depth 16384 vmid 4" ∷ []))
    ≡ streams_alone (idle 1 (sizes 16384 4 0) 0 ∷ [])
unfolding decode_pairs
own_settings_in_any_order = refl

none_in_version_1 : said (etm (codes "stream 01 depth 1" ∷ [])) ≡ Err (2, Syntax)
unfolding decode_pairs
none_in_version_1 = refl

own_depth_too_great : said (etm_2 (codes "stream 01 depth 16385" ∷ [])) ≡ Err (2, Range)
unfolding decode_pairs
own_depth_too_great = refl

-- all words have a form before a number is out of range
own_syntax_before_range : said (etm_2 (codes "stream 01 depth 20000 foo 1" ∷ [])) ≡ Err (2, Syntax)
unfolding decode_pairs
own_syntax_before_range = refl

no_own_range_before_syntax : said (etm_2 (codes "stream 01 depth 20000 foo 1" ∷ [])) ≡ Err (2, Range) → ⊥
no_own_range_before_syntax = one_fault _ 2 Syntax Range own_syntax_before_range refl

own_setting_twice : said (etm_2 (codes "stream 01 depth 1 depth 1" ∷ [])) ≡ Err (2, Syntax)
unfolding decode_pairs
own_setting_twice = refl

own_syntax_before_id_range : said (etm_2 (codes "stream 70 depth 1 depth 1" ∷ [])) ≡ Err (2, Syntax)
unfolding decode_pairs
own_syntax_before_id_range = refl

number_without_a_name : said (etm_2 (codes "stream 01 1" ∷ [])) ≡ Err (2, Syntax)
unfolding decode_pairs
number_without_a_name = refl

name_without_a_number : said (etm_2 (codes "stream 01 depth" ∷ [])) ≡ Err (2, Syntax)
unfolding decode_pairs
name_without_a_number = refl

id_range_before_own_range : said (etm_2 (codes "stream 70 vmid 3" ∷ [])) ≡ Err (2, IdRange)
unfolding decode_pairs
id_range_before_own_range = refl

duplicate_id_before_own_range : said (etm_2 (codes "stream 01" ∷ codes "stream 01 depth 99999" ∷ [])) ≡ Err (3, DuplicateId)
unfolding decode_pairs
duplicate_id_before_own_range = refl

no_own_range_before_duplicate_id : said (etm_2 (codes "stream 01" ∷ codes "stream 01 depth 99999" ∷ [])) ≡ Err (3, Range) → ⊥
no_own_range_before_duplicate_id = one_fault _ 3 DuplicateId Range duplicate_id_before_own_range refl

setting_of_the_file_behind_a_stream : said (etm_2 (codes "stream 01" ∷ codes "vmid 2" ∷ [])) ≡ Err (3, Syntax)
unfolding decode_pairs
setting_of_the_file_behind_a_stream = refl

-- contexts go by the sizes of their own stream, the newest
context_of_its_stream : said (etm_2 (codes "vmid 4" ∷ codes "stream 01 vmid 0" ∷ codes "on 1000 el0 s 1 0" ∷ [])) ≡ Err (4, Range)
unfolding decode_pairs
context_of_its_stream = refl

context_of_the_newest_stream : said (etm_2 (codes "vmid 4" ∷ codes "stream 01" ∷ codes "stream 02 vmid 0" ∷ codes "context el0 s 1 0" ∷ [])) ≡ Err (5, Range)
unfolding decode_pairs
context_of_the_newest_stream = refl

event_before_a_stream : said (etm (codes "step" ∷ [])) ≡ Err (2, Syntax)
event_before_a_stream = refl

event_behind_a_weave : said (stream_01 (codes "weave 01:1" ∷ codes "step" ∷ [])) ≡ Err (4, Syntax)
unfolding decode_pairs
event_behind_a_weave = refl

-- ---- counts of digits

depth_of_eleven_digits : said (etm (codes "depth 00000000004" ∷ [])) ≡ Err (2, Syntax)
depth_of_eleven_digits = refl

no_range_of_eleven_digits : said (etm (codes "depth 00000000004" ∷ [])) ≡ Err (2, Range) → ⊥
no_range_of_eleven_digits = one_fault _ 2 Syntax Range depth_of_eleven_digits refl

vmid_of_nine_digits : said (stream_01 (codes "on 1000 el0 s 000000000 0" ∷ [])) ≡ Err (3, Syntax)
unfolding decode_pairs
vmid_of_nine_digits = refl

-- ---- numbers of events

no_step : said (stream_01 (codes "step 0" ∷ [])) ≡ Err (3, Range)
unfolding decode_pairs
no_step = refl

too_many_steps : said (stream_01 (codes "step 65536" ∷ [])) ≡ Err (3, Range)
unfolding decode_pairs
too_many_steps = refl

no_kind : said (stream_01 (codes "exc 32 1000 el0 s 0 0" ∷ [])) ≡ Err (3, Range)
unfolding decode_pairs
no_kind = refl

-- the VMID has one byte where no line says otherwise
context_does_not_fit : said (stream_01 (codes "context el0 ns 100 0" ∷ [])) ≡ Err (3, Range)
unfolding decode_pairs
context_does_not_fit = refl

-- ---- each event by its words

abbrev events_in : List BenchStream → List Event
events_in [] = []
events_in (s ∷ streams) = events_of s.lines ++ events_in streams

-- none where a line is bad
abbrev events_said : Result BenchParts (ℕ × BenchWhy) → List Event
events_said (Ok b) = events_in b.streams
events_said (Err fault) = []

abbrev core : ℕ → Bool → ℕ → ℕ → Ctx
core el ns vmid cid = record { el = el; ns = ns; vmid = vmid; cid = cid }

abbrev event_lines : List (List ℕ)
event_lines =
    codes "on 1000 el0 s 1 2" ∷ codes "step" ∷ codes "step 2" ∷ codes "taken" ∷ codes "not" ∷ codes "to fffffffffffffffc"
    ∷ codes "eret 80 el2 ns ff 0" ∷ codes "exc 3 200 el3 ns 0 0" ∷ codes "context el1 s 0 ffffffff" ∷ codes "retire 3" ∷ codes "cancel 2"
    ∷ codes "flip" ∷ codes "sync" ∷ codes "overflow" ∷ codes "off" ∷ []

each_event : events_said (said (stream_01 event_lines)) ≡
    event.On 0x1000 (core 0 false 1 2) ∷ event.Step ∷ event.Step ∷ event.Step ∷ event.Taken ∷ event.NotTaken ∷ event.To 0xfffffffffffffffc
    ∷ event.Eret 0x80 (core 2 true 255 0) ∷ event.Exc 3 0x200 (core 3 true 0 0) ∷ event.Context (core 1 false 0 0xffffffff) ∷ event.Retire 3
    ∷ event.Cancel 2 ∷ event.Flip ∷ event.Sync ∷ event.Overflow ∷ event.Off ∷ []
unfolding decode_pairs
each_event = refl

-- ---- a whole run file

abbrev whole : List (List ℕ)
whole = etm (codes "vmid 0" ∷ codes "" ∷ codes "stream 6f" ∷ codes "on 1000 el1 ns 0 2a" ∷ codes "step 3" ∷ codes "stream 01" ∷ codes "# none"
    ∷ codes "exc 31 80 el3 s 0 0" ∷ codes "weave 01:2 6f:1048576" ∷ [])

abbrev whole_parts : BenchParts
whole_parts = record {
  streams = record {
    id = 111;
    settings = sizes 16 0 4;
    stack = 15;
    lines = record { line = 5; event = event.On 0x1000 (record { el = 1; ns = true; vmid = 0; cid = 42 }); times = 1 }
        ∷ record { line = 6; event = event.Step; times = 3 } ∷ [];
  } ∷ record {
    id = 1;
    settings = sizes 16 0 4;
    stack = 15;
    lines = record { line = 9; event = event.Exc 31 0x80 (record { el = 3; ns = false; vmid = 0; cid = 0 }); times = 1 } ∷ [];
  } ∷ [];
  weaves = record { id = 1; count = 2 } ∷ record { id = 111; count = 1048576 } ∷ [];
}

whole_told : said whole ≡ Ok whole_parts
unfolding decode_pairs
whole_told = refl

steps_written_out : events_of (record { line = 6; event = event.Step; times = 3 } ∷ record { line = 7; event = event.Sync; times = 1 } ∷ [])
    ≡ event.Step ∷ event.Step ∷ event.Step ∷ event.Sync ∷ []
steps_written_out = refl
