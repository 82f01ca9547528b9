-- The last frames of a run file's traces, and how they are written.
use Rattle.std.proofs.Common.{◌≡◌, ◌⊎◌, ℕ, ◌+◌, ◌-◌, ◌*◌, ◌%◌, List, [], ◌++◌, length, take, drop, Ok, Err, Result, Option, Some, None, inl, inr}
use Rattle.std.proofs.Common.{refl, sym, ap, subst, ◌∙◌, append_assoc, arith, length-drop, take-add, take-append-drop}
use Rattle.std.proofs.KnownBytes.{Appends-nil}
use Rattle.std.specs.Prelude.{IfOk, OnErr, OnOk, slice_index_or}
use Rattle.answer_lines.specs.declared.status.Status.{Status}
use Rattle.answer_lines.specs.declared.status.Status.TheVariants as status
use Rattle.capture_streams.specs.Texts.{of}
use Rattle.formatter_frames.proofs.Pieces.{length-left_over}
use Rattle.formatter_frames.proofs.RoundTrip.{nothing_left}
use Rattle.formatter_frames.specs.Framed.{framed}
use Rattle.formatter_frames.specs.Unframed.{unframed}
use Rattle.path_text.specs.Writing.{Writes}
use Rattle.program_image.specs.Part.{IsImage}
use Rattle.program_image.specs.declared.image.Image.{Image}
use Rattle.retired_paths.proofs.RetiredStreams.{bench_accepted}
use Rattle.retired_paths.specs.Retired.{RunsSo, TakesBench}
use Rattle.run_file.specs.Parts.{BenchParts, IsBench}
use Rattle.trace_io.proofs.Known.{front_of_shorter}
use Rattle.trace_io.specs.Bytes.{AppendsAll, AppendsShorter, ShowsAsBefore}
use Rattle.trace_io.specs.Causes.{HasCause}
use Rattle.trace_io.specs.State.{IoState}
use Rattle.trace_io.specs.declared.traits.Failed.{Failed}
use Rattle.traced_runs.proofs.TracedStreams.{traces_are_shown}
use Rattle.traced_runs.proofs.Tracing.{traced_so}
use Rattle.traced_runs.specs.Traced.{AreAccepted, AreTracedFrames, AreWritten, IsLastFrames, TracesSo, WritesTraces, kept_frames, last_of, trace_frames}
use Rattle.traced_runs.specs.Traced.{trace_pairs, traces, with_syncs}
use Rattle.ring_capture.proofs.LastOfEach.{each_ends, ends_behind}
use Rattle.ring_capture.proofs.MissingFrames.{last_end}
use Rattle.ring_capture.specs.Ends.{EndsWith}

-- ---- whole frames

pub whole_framed : (pairs : List (ℕ × ℕ)) → length (framed pairs) % 16 ≡ 0
whole_framed pairs = sym (length-left_over 16 (framed pairs)) ∙ ap length (nothing_left pairs)

pub whole_last : (bytes : List ℕ) (n : ℕ) → length bytes % 16 ≡ 0 → length (drop (length bytes - 16 * n) bytes) % 16 ≡ 0
whole_last bytes n whole = omega (arith, length-drop (length bytes - 16 * n) bytes, whole)

-- ---- the answer

last_so : (image : Image) (input input' : IoState) (b : BenchParts) (n : ℕ) → TakesBench input input' b → IsImage image → IsBench b
    → AreAccepted image b → IsLastFrames image input input' n (last_of n (trace_frames image b))
last_so image input input' b n taken is bench none =
    let all = trace_frames image b in
    let left = unframed (last_of n all) in
    let shown = traces_are_shown image b is bench none in
    let ends = last_end all n (whole_framed (trace_pairs image b)) in
    record {
      run_file = taken.0;
      read = taken.1;
      bench = b;
      accepted = bench_accepted image taken.0 b taken.2 taken.3 none;
      last = record {
        written = refl;
        carried = λ k d within.
            let t = slice_index_or (traces image b) k d in
            ends_behind (of t.0 left) t.1
            (subst (λ (l : List ℕ). EndsWith (of t.0 left) l) (shown.carried k d within) (each_ends left (unframed all) t.0 ends));
      };
    }

-- all frames, or the last ones, as they are wanted
kept_so : (image : Image) (last : Option ℕ) (input input' : IoState) (b : BenchParts) → TakesBench input input' b → IsImage image → IsBench b
    → AreAccepted image b → AreTracedFrames image last input input' (kept_frames last (trace_frames image b))
kept_so image None input input' b taken is bench none = traced_so image input input' b taken is bench none
kept_so image (Some n) input input' b taken is bench none = last_so image input input' b n taken is bench none

-- the frames are written, or memory is wanting and nothing is
answered_by : (kind : List ℕ → Type 0) (image : Image) (input input' old new : IoState) (text : List ℕ) (r : Result Status Failed)
    → (r ≡ Ok status.NoMemory) ⊎ (Writes old new r text × IfOk r (λ s. s ≡ status.Done)) → (r ≡ Ok status.NoMemory → new ≡ old) → kind text
    → RunsSo kind image input input' old new r
answered_by kind image input input' old new text r (inl none) memory is =
    subst (RunsSo kind image input input' old new) (sym none)
    (subst (λ (s : IoState). AppendsAll old s []) (sym (memory none)) (Appends-nil old.bytes))
answered_by kind image input input' old new text (Ok s) (inr (w, done)) memory is =
    subst (λ (t : Status). RunsSo kind image input input' old new (Ok t)) (sym done) (text, is, w.whole)
answered_by kind image input input' old new text (Err e) (inr (w, done)) memory is = inl (text, is, w.front)

pub traces_so : (image : Image) (last every : Option ℕ) (input input' old new : IoState) (b : BenchParts) (made : List (ℕ × List ℕ))
    (r : Result Status Failed) → TakesBench input input' b → IsImage image → IsBench b → AreAccepted image b → made ≡ traces image b
    → WritesTraces b.weaves made last every old new r → (r ≡ Ok status.NoMemory → new ≡ old) → TracesSo image last every input input' old new r
traces_so image last every input input' old new b made r taken is bench none made_is writes memory =
    let frames = kept_frames last (trace_frames image b) in
    let by_traces = subst (λ (t : List (ℕ × List ℕ)). WritesTraces b.weaves t last every old new r) made_is writes in
    answered_by (AreWritten image last every input input') image input input' old new (with_syncs every frames) r by_traces memory
    (record { frames = frames; traced = kept_so image last input input' b taken is bench none; synced = refl })

-- ---- which frames are kept

pub kept_whole : (last : Option ℕ) (frames : List ℕ) → length frames % 16 ≡ 0 → length (kept_frames last frames) % 16 ≡ 0
kept_whole None frames whole = whole
kept_whole (Some n) frames whole = whole_last frames n whole

-- ---- a frame is written at once

pub one_written : {T E : Type 0} (old new : IoState) (result : Result T E) (bytes : List ℕ) → OnOk result (AppendsAll old new bytes)
    → OnErr result (AppendsShorter old new bytes) → ShowsAsBefore old new → HasCause old new result → Writes old new result bytes
one_written old new (Ok x) bytes all shorter shows cause = record { whole = all; front = tt; shows = shows; cause = cause }
one_written old new (Err e) bytes all shorter shows cause =
    record { whole = tt; front = front_of_shorter old new bytes shorter; shows = shows; cause = cause }

pub frame_next : (at : ℕ) (bytes : List ℕ) → take at bytes ++ take (at + 16 - at) (drop at bytes) ≡ take (at + 16) bytes
frame_next at bytes =
    let sixteen : at + 16 - at ≡ 16 = omega arith in
    ap (λ n. take at bytes ++ take n (drop at bytes)) sixteen ∙ sym (take-add at 16 bytes)

pub frame_between : (at : ℕ) (bytes : List ℕ) → take at bytes ++ (take (at + 16 - at) (drop at bytes) ++ drop (at + 16) bytes) ≡ bytes
frame_between at bytes =
    let rest = drop (at + 16) bytes in
    sym (append_assoc (take at bytes) (take (at + 16 - at) (drop at bytes)) rest) ∙ ap (λ l. l ++ rest) (frame_next at bytes)
    ∙ take-append-drop (at + 16) bytes
