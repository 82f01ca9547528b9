-- Run files, from their bytes on, worked out by hand: what they say, the first line that has a fault, and what each of many wrong lines has.
use Rattle.std.proofs.Common.{◌≡◌, ◌∷◌, ℕ, Bool, false, true, List, [], Option, Some, None, Result, Ok, Err, length, refl, arith}
use Rattle.std.proofs.lemmas.Bool.{le-ltb, lt-ltb}
use Rattle.std.specs.Prelude.{codes, map}
use Rattle.std.specs.Str.{chars, is_utf8}
use Rattle.a64_branches.specs.Classes.{class_of}
use Rattle.hex.specs.Hex.{decode_pairs}
use Rattle.line_words.specs.Line.{words_in}
use Rattle.etm_types.specs.Settings.{Sizes}
use Rattle.etm_types.specs.declared.context.Ctx.{Ctx}
use Rattle.program_image.specs.Part.{Part}
use Rattle.spec_run.specs.declared.event.Event.{Event}
use Rattle.spec_run.specs.declared.event.Event.TheVariants as event
use Rattle.spec_run.specs.declared.run_fault.RunFault.TheVariants as fault
use Rattle.run_file.specs.BenchText.{Draft, add_any, parsed}
use Rattle.run_file.specs.EventLines.{fits}
use Rattle.run_file.specs.Parts.{BenchParts, BenchStream}
use Rattle.run_file.specs.Refusals.{bench_of}
use Rattle.run_file.specs.WhyNumbers.{why_number}
use Rattle.run_file.specs.declared.fault.BenchWhy.{BenchWhy}
use Rattle.run_file.specs.declared.fault.BenchWhy.TheVariants.{Header, Syntax, IdRange, DuplicateId, Range, TooLong, Run}
use Rattle.run_file.specs.declared.given.Given.{Given}
use Rattle.run_file.specs.declared.line.BenchLine.{BenchLine}
use Rattle.run_file.specs.declared.line.Weave.{Weave}
use Rattle.run_file.specs.declared.version.Version.{Version}
use Rattle.run_file.specs.declared.version.Version.TheVariants as version

abbrev context : ℕ → Bool → ℕ → ℕ → Ctx
context el ns vmid cid = record { el = el; ns = ns; vmid = vmid; cid = cid }

abbrev sizes : ℕ → ℕ → ℕ → Sizes
sizes depth vmid_bytes cid_bytes = record { depth = depth; vmid_bytes = vmid_bytes; cid_bytes = cid_bytes }

abbrev line : ℕ → Event → ℕ → BenchLine
line number e times = record { line = number; event = e; times = times }

abbrev weaving : ℕ → ℕ → Weave
weaving id count = record { id = id; count = count }

abbrev stream : ℕ → Sizes → ℕ → List BenchLine → BenchStream
stream id settings stack lines = record { id = id; settings = settings; stack = stack; lines = lines }

-- ---- a text with all that one may have

-- Comments, lines without words, tabs, CR before LF and no LF at the end; each setting of the file; a stream with some of its own, and one with
-- none, each with events; and weaves of two lines and three words.
abbrev full : List ℕ
full =
    codes "# all settings\netm 2\n\nstack 3\ncid 4\n\tvmid  2\r\ndepth 5\nstream 6F depth 0 stack 0\non 2008 el1 ns ff0 2a\r\ntaken\nstream 05\non 200c el0 s 0 0\nstep 2\nretire 1\nweave 05:1 6f:1048576\n# between\nweave 05:7"

abbrev full_parts : BenchParts
full_parts = record {
  streams =
      stream 111 (sizes 0 2 4) 0 (line 9 (event.On 0x2008 (context 1 true 0xff0 0x2a)) 1 ∷ line 10 event.Taken 1 ∷ [])
      ∷ stream 5 (sizes 5 2 4) 3 (line 12 (event.On 0x200c (context 0 false 0 0)) 1 ∷ line 13 event.Step 2 ∷ line 14 (event.Retire 1) 1 ∷ []) ∷ [];
  weaves = weaving 5 1 ∷ weaving 111 1048576 ∷ weaving 5 7 ∷ [];
}

pub full_text : parsed full ≡ Ok full_parts
unfolding parsed decode_pairs is_utf8 chars lib.Utf8.encode
full_text = refl

-- ---- over an image: at 0x2008 B to itself, then two NOPs, and no word behind them

abbrev code : List Part
code = record { start = 0x2008; bytes = 0x00 ∷ 0x00 ∷ 0x00 ∷ 0x14 ∷ 0x1f ∷ 0x20 ∷ 0x03 ∷ 0xd5 ∷ 0x1f ∷ 0x20 ∷ 0x03 ∷ 0xd5 ∷ [] } ∷ []

-- a short one that is accepted: all by default
pub accepted : bench_of code (codes "etm 1\nstream 05\non 2008 el0 s 0 0\ntaken\n")
    ≡ Ok (record {
      streams = stream 5 (sizes 16 1 4) 15 (line 3 (event.On 0x2008 (context 0 false 0 0)) 1 ∷ line 4 event.Taken 1 ∷ []) ∷ [];
      weaves = [];
    })
unfolding parsed decode_pairs class_of is_utf8 chars lib.Utf8.encode
accepted = refl

-- the line of the first event that is refused, though another stream has one too
pub first_refused : bench_of code (codes "etm 1\nstream 05\non 2008 el0 s 0 0\ntaken\nstep 3\nstream 06\nflip\n") ≡ Err (5, Run (fault.WrongKind 0x2008))
unfolding parsed decode_pairs class_of is_utf8 chars lib.Utf8.encode
first_refused = refl

-- in the second stream, on a line of many events, and not on the one behind it
pub refused_within_a_line : bench_of code (codes "etm 1\nstream 05\nstream 06\non 200c el0 s 0 0\n\nstep 3\noff\nflip\n") ≡ Err (6, Run (fault.NoCode 0x2014))
unfolding parsed decode_pairs class_of is_utf8 chars lib.Utf8.encode
refused_within_a_line = refl

-- and on the line behind one of many events
pub refused_behind_a_line : bench_of code (codes "etm 1\nstream 05\non 200c el0 s 0 0\nstep 2\nflip\nstep\n") ≡ Err (5, Run fault.NoBranchToFlip)
unfolding parsed decode_pairs class_of is_utf8 chars lib.Utf8.encode
refused_behind_a_line = refl

-- each stream is run by its own depth, and the numbers are those behind the step
pub refused_by_its_own_depth : bench_of code (codes "etm 2\ndepth 4\nstream 05 depth 1\non 2008 el0 s 0 0\ntaken\ntaken\n") ≡ Err (6, Run (fault.TooDeep 2 1))
unfolding parsed decode_pairs class_of is_utf8 chars lib.Utf8.encode
refused_by_its_own_depth = refl

-- a line of no form comes before each event that is refused
pub no_form_comes_first : bench_of code (codes "etm 1\nstream 05\nflip\nstream 06\nfli\n") ≡ Err (5, Syntax)
unfolding parsed decode_pairs class_of is_utf8 chars lib.Utf8.encode
no_form_comes_first = refl

-- no header
pub no_header : bench_of code (codes "# etm 1\n") ≡ Err (0, Header)
unfolding parsed decode_pairs class_of is_utf8 chars lib.Utf8.encode
no_header = refl

-- ---- many wrong lines, each alone behind a text that has no fault

-- what each of these lines has as line 9
abbrev fault_of : Result (Option Draft) BenchWhy → Option BenchWhy
fault_of (Ok draft) = None
fault_of (Err why) = Some why

abbrev faults_behind : Option Draft → List (List ℕ) → List (Option BenchWhy)
faults_behind draft lines = map (λ text. fault_of (add_any 9 draft (words_in text))) lines

abbrev settings : Option ℕ → Given
settings depth = record { depth = depth; vmid_bytes = None; cid_bytes = None; stack = None }

-- what the header says, or a line behind it that gives a depth
abbrev behind_header : Version → Option ℕ → Option Draft
behind_header v depth = Some (record { version = v; given = settings depth; streams = []; weaves = [] })

-- a stream 10 whose unit keeps a VMID in one byte and a context ID in four, and one weave
abbrev behind_stream : List Weave → Option Draft
behind_stream weaves = Some (record { version = version.Two; given = settings None; streams = stream 0x10 (sizes 16 1 4) 15 [] ∷ []; weaves = weaves })

pub wrong_headers :
    faults_behind None (codes "etm 1" ∷ codes "etm\t2" ∷ codes "etm" ∷ codes "etm 3" ∷ codes "etm 01" ∷ codes "etm 1 1" ∷ codes "Etm 1" ∷ codes "x 1"
    ∷ codes "1" ∷ codes "depth 4" ∷ codes "#etm" ∷ codes "!etm" ∷ codes "$" ∷ [])
    ≡ None ∷ None ∷ Some Header ∷ Some Header ∷ Some Header ∷ Some Header ∷ Some Header ∷ Some Header ∷ Some Header ∷ Some Header ∷ None ∷ Some Header
    ∷ Some Header ∷ []
wrong_headers = refl

pub wrong_settings :
    faults_behind (behind_header version.One None)
    (codes "depth 0" ∷ codes "depth 4096" ∷ codes "depth 4097" ∷ codes "depth 0000000004" ∷ codes "depth 00000000004" ∷ codes "depth" ∷ codes "depth 1 2"
    ∷ codes "depth x" ∷ codes "Depth 1" ∷ codes "vmid 0" ∷ codes "vmid 1" ∷ codes "vmid 2" ∷ codes "vmid 3" ∷ codes "vmid 4" ∷ codes "vmid 5"
    ∷ codes "cid 0" ∷ codes "cid 1" ∷ codes "cid 2" ∷ codes "cid 4" ∷ codes "cid 8" ∷ codes "stack 0" ∷ codes "stack 15" ∷ codes "stack 16"
    ∷ codes "step" ∷ codes "weave" ∷ codes "weave 10:1" ∷ [])
    ≡ None ∷ None ∷ Some Range ∷ None ∷ Some Syntax ∷ Some Syntax ∷ Some Syntax ∷ Some Syntax ∷ Some Syntax ∷ None ∷ None ∷ None ∷ Some Range ∷ None
    ∷ Some Range ∷ None ∷ Some Range ∷ Some Range ∷ None ∷ Some Range ∷ None ∷ None ∷ Some Range ∷ Some Syntax ∷ Some Syntax ∷ Some IdRange ∷ []
unfolding decode_pairs
wrong_settings = refl

-- with `etm 2`, behind a line `depth 9`
pub wrong_settings_of_2 :
    faults_behind (behind_header version.Two (Some 9)) (codes "depth 1" ∷ codes "depth 99999" ∷ codes "stack 15" ∷ codes "vmid 3" ∷ [])
    ≡ Some Syntax ∷ Some Syntax ∷ None ∷ Some Range ∷ []
wrong_settings_of_2 = refl

pub most_depths :
    faults_behind (behind_header version.Two None) (codes "depth 4097" ∷ codes "depth 16384" ∷ codes "depth 16385" ∷ []) ≡ None ∷ None ∷ Some Range ∷ []
most_depths = refl

pub wrong_streams :
    faults_behind (behind_stream [])
    (codes "stream 01" ∷ codes "stream 6f" ∷ codes "stream 00" ∷ codes "stream 70" ∷ codes "stream ff" ∷ codes "stream 10" ∷ codes "stream" ∷ codes "stream 1"
    ∷ codes "stream 011" ∷ codes "stream 1g" ∷ codes "stream 11 stack 15 depth 16384" ∷ codes "stream 11 stack 16" ∷ codes "stream 11 depth 16385"
    ∷ codes "stream 11 vmid 3" ∷ codes "stream 11 cid 1" ∷ codes "stream 11 depth" ∷ codes "stream 11 4" ∷ codes "stream 11 depth 1 depth 1"
    ∷ codes "stream 10 depth 1 depth 1" ∷ codes "stream 10 depth 16385" ∷ codes "depth 4" ∷ codes "etm 2" ∷ codes "# step 0" ∷ [])
    ≡ None ∷ None ∷ Some IdRange ∷ Some IdRange ∷ Some IdRange ∷ Some DuplicateId ∷ Some Syntax ∷ Some Syntax ∷ Some Syntax ∷ Some Syntax ∷ None ∷ Some Range
    ∷ Some Range ∷ Some Range ∷ Some Range ∷ Some Syntax ∷ Some Syntax ∷ Some Syntax ∷ Some Syntax ∷ Some DuplicateId ∷ Some Syntax ∷ Some Syntax ∷ None ∷ []
unfolding decode_pairs
wrong_streams = refl

pub wrong_counts :
    faults_behind (behind_stream [])
    (codes "step 1" ∷ codes "step 65535" ∷ codes "step 0" ∷ codes "step 65536" ∷ codes "step 1 1" ∷ codes "step x" ∷ codes "retire 65535" ∷ codes "retire 1"
    ∷ codes "retire 0" ∷ codes "retire 65536" ∷ codes "retire" ∷ codes "retire 1 1" ∷ codes "cancel 65535" ∷ codes "cancel 0" ∷ codes "cancel 65536"
    ∷ codes "cancel" ∷ codes "taken 1" ∷ codes "not 1" ∷ codes "flip 1" ∷ codes "sync 1" ∷ codes "overflow 1" ∷ codes "off 1" ∷ codes "Off" ∷ [])
    ≡ None ∷ None ∷ Some Range ∷ Some Range ∷ Some Syntax ∷ Some Syntax ∷ None ∷ None ∷ Some Range ∷ Some Range ∷ Some Syntax ∷ Some Syntax ∷ None ∷ Some Range
    ∷ Some Range ∷ Some Syntax ∷ Some Syntax ∷ Some Syntax ∷ Some Syntax ∷ Some Syntax ∷ Some Syntax ∷ Some Syntax ∷ Some Syntax ∷ []
wrong_counts = refl

pub wrong_places :
    faults_behind (behind_stream [])
    (codes "on ffffffffffffffff el3 s ff ffffffff" ∷ codes "on 1000 el0 s 0" ∷ codes "on 1000 el0 s 0 0 0" ∷ codes "on" ∷ codes "on 1000"
    ∷ codes "on 00000000000001000 el0 s 0 0" ∷ codes "on 1000 el4 s 0 0" ∷ codes "on 1000 el0 S 0 0" ∷ codes "on 1000 el0 s 100 0"
    ∷ codes "on 1000 el0 s 0 100000000" ∷ codes "to 1000" ∷ codes "to" ∷ codes "to 1000 1" ∷ codes "to 00000000000001000" ∷ codes "eret 1000 el0 ns 0 0"
    ∷ codes "eret 1000" ∷ codes "eret 1000 el0 ns 100 0" ∷ codes "context el0 ns ff 0" ∷ codes "context" ∷ codes "context el0 ns 0"
    ∷ codes "context el0 ns 100 0" ∷ [])
    ≡ None ∷ Some Syntax ∷ Some Syntax ∷ Some Syntax ∷ Some Syntax ∷ Some Syntax ∷ Some Syntax ∷ Some Syntax ∷ Some Range ∷ Some Syntax ∷ None ∷ Some Syntax
    ∷ Some Syntax ∷ Some Syntax ∷ None ∷ Some Syntax ∷ Some Range ∷ None ∷ Some Syntax ∷ Some Syntax ∷ Some Range ∷ []
unfolding decode_pairs
wrong_places = refl

pub wrong_exceptions :
    faults_behind (behind_stream [])
    (codes "exc 0 1000 el0 s 0 0" ∷ codes "exc 31 1000 el0 s ff 0" ∷ codes "exc 32 1000 el0 s 0 0" ∷ codes "exc 31 1000 el0 s 100 0" ∷ codes "exc" ∷ codes "exc 3"
    ∷ codes "exc 3 1000" ∷ codes "exc 3 1000 el0 s 0" ∷ codes "exc a 1000 el0 s 0 0" ∷ [])
    ≡ None ∷ None ∷ Some Range ∷ Some Range ∷ Some Syntax ∷ Some Syntax ∷ Some Syntax ∷ Some Syntax ∷ Some Syntax ∷ []
unfolding decode_pairs
wrong_exceptions = refl

-- behind a weave there are weaves alone
pub wrong_weaves :
    faults_behind (behind_stream (weaving 0x10 3 ∷ []))
    (codes "weave 10:1" ∷ codes "weave 10:1048576 10:1" ∷ codes "weave 10:0" ∷ codes "weave 10:1048577" ∷ codes "weave 11:1" ∷ codes "weave" ∷ codes "weave 10"
    ∷ codes "weave 10:" ∷ codes "weave 10;1" ∷ codes "weave 010:1" ∷ codes "weave 10:00000000001" ∷ codes "weave 10:1 10" ∷ codes "weave 10:0 11:1"
    ∷ codes "weave 10:1 10:0" ∷ codes "weave 10.1" ∷ codes "weave 11:1 10" ∷ codes "stream 12" ∷ codes "step" ∷ codes "depth 1" ∷ [])
    ≡ None ∷ None ∷ Some Range ∷ Some Range ∷ Some IdRange ∷ Some Syntax ∷ Some Syntax ∷ Some Syntax ∷ Some Syntax ∷ Some Syntax ∷ Some Syntax ∷ Some Syntax
    ∷ Some IdRange ∷ Some Range ∷ Some Syntax ∷ Some Syntax ∷ Some Syntax ∷ Some Syntax ∷ Some Syntax ∷ []
unfolding decode_pairs
wrong_weaves = refl

-- a unit that keeps neither a VMID nor a context ID has those that are 0
pub wrong_contexts :
    map (λ text. fault_of (add_any 9 (Some (record {
      version = version.Two;
      given = settings None;
      streams = stream 0x10 (sizes 16 0 0) 15 [] ∷ [];
      weaves = [];
    })) (words_in text)))
    (codes "context el3 s 0 0" ∷ codes "context el0 s 0 1" ∷ codes "context el0 s 1 0" ∷ [])
    ≡ None ∷ Some Range ∷ Some Range ∷ []
unfolding decode_pairs
wrong_contexts = refl

-- the highest values that fit, and each one higher
pub contexts_at_bounds :
    map (fits (sizes 16 2 4))
    (context 3 true 65535 4294967295 ∷ context 4 true 65535 4294967295 ∷ context 3 true 65536 4294967295 ∷ context 3 true 65535 4294967296 ∷ [])
    ≡ true ∷ false ∷ false ∷ false ∷ []
contexts_at_bounds = refl

-- each setting of a stream stays, whatever comes behind it
abbrev streams_of : Result (Option Draft) BenchWhy → List BenchStream
streams_of (Ok (Some d)) = d.streams
streams_of other = []

pub own_settings_stay :
    streams_of (add_any 9 (behind_header version.Two None) (words_in (codes "stream 11 depth 7 vmid 2 cid 0 stack 1"))) ≡ stream 0x11 (sizes 7 2 0) 1 [] ∷ []
unfolding decode_pairs
own_settings_stay = refl

-- ---- texts at their longest

-- 64 MiB
pub longest : (text : List ℕ) → length text ≡ 67108864 → parsed text ≡ Err (9, Syntax) → bench_of code text ≡ Err (9, Syntax)
longest text size bad =
    let short = le-ltb 67108864 (length text) (omega (arith, size)) in
    rw (short, bad) refl

-- and one byte more, whatever it says
pub too_long : (text : List ℕ) → length text ≡ 67108865 → bench_of code text ≡ Err (0, TooLong)
too_long text size =
    let long = lt-ltb 67108864 (length text) (omega (arith, size)) in
    rw long refl

-- ---- the numbers of the reasons

pub numbers_of_reasons : map why_number (Header ∷ Syntax ∷ IdRange ∷ DuplicateId ∷ Range ∷ TooLong ∷ Run fault.NotOn ∷ []) ≡ 1 ∷ 2 ∷ 3 ∷ 4 ∷ 5 ∷ 6 ∷ 7 ∷ []
numbers_of_reasons = refl
