use Rattle.std.proofs.Common.{◌≡◌, ◌+◌, ◌∷◌, ◌++◌, [], List, ℕ, Ok, Err, take, drop, get_or, refl, sym, ap, subst, ◌∙◌, arith, append_assoc}
use Rattle.std.specs.List.{concat}
use Rattle.std.proofs.lemmas.List.{take_all, take_more, take-append-drop}
use Rattle.capture_streams.specs.Streams.{RunAdds}
use Rattle.etm_types.specs.Settings.{Sizes}
use Rattle.path_text.proofs.Wrote.{wrote_by}
use Rattle.capture_streams.proofs.Runs.{RunWritten, run_added, run_fails, run_more, stream_body_one}
use Rattle.capture_streams.proofs.Standing.{by_err, whole_where_ok}
use Rattle.capture_streams.proofs.Sums.{no_stream_items}
use Rattle.time_marks.specs.TimeList.{times}
use Rattle.time_marks.specs.Timed.{StandsAt}
use Rattle.time_marks.proofs.streams.TimedDecoderStream.take_run.Goals as goal
use Rattle.trace_io.specs.declared.traits.Failed.{Failed}

pub returns-in_err-take-clause-gains : goal.returns-in_err-take-clause-gains
returns-in_err-take-clause-gains g c bytes stands =
    let state = g.K.Sink.state in let i = c.loop-byte.invariant in let n = c.loop-byte.byte-index in let run = c.args.run.now in
    let front = take n run in let byte = get_or run n 0 in let rest = drop (n + 1) run in let id = c.args.id in
    let own = times c.args.self.now.reader.settings in
    let more : take (n + 1) run ≡ front ++ byte ∷ [] = take_more run n 0 c.loop-byte-test.true in
    let parts : (front ++ byte ∷ []) ++ rest ≡ run = ap (λ l. l ++ rest) (sym more) ∙ take-append-drop (n + 1) run in
    let old = state c.args.sink.now in let here = state c.loop-byte.sink in let new = state c.take.new.sink in
    let adds = c.in_err-take.ensures.gains (bytes ++ front) (i.stands bytes stands) in
    let gains = subst (λ (s : Sizes). (times s).gains id (bytes ++ front) byte adds.0) i.sizes adds.1 in
    by_err (RunAdds {T = Unit {0}} own id bytes run old new) c.from_residual.result c.from_residual.ensures.0 (λ d.
    subst (λ (l : List ℕ). RunAdds {T = Unit {0}} own id bytes l old new (Err d)) parts
    (run_fails own id bytes front old here new (i.written bytes stands) {T = Unit {0}} c.in_err-take.field-0.0 d (byte ∷ []) rest adds.0
    (stream_body_one own id (bytes ++ front) byte adds.0 gains) adds.2))

pub loop-byte-preserved : goal.loop-byte-preserved
loop-byte-preserved g c =
    let state = g.K.Sink.state in let i = c.loop-byte.invariant in let n = c.loop-byte.byte-index in let run = c.args.run.now in
    let front = take n run in let byte = get_or run n 0 in let id = c.args.id in let own = times c.args.self.now.reader.settings in
    let more : take (n + 1) run ≡ front ++ byte ∷ [] = take_more run n 0 c.loop-byte-test.true in
    let old = state c.args.sink.now in let here = state c.loop-byte.sink in let new = state c.take.new.sink in
    record {
      stands = λ bytes stands.
          subst (λ (l : List ℕ). StandsAt c.take.new.self (bytes ++ l)) (sym more)
          (subst (StandsAt c.take.new.self) (append_assoc bytes front (byte ∷ []))
          (c.in_ok-take.ensures.stands refl (bytes ++ front) (i.stands bytes stands)));
      written = λ bytes stands.
          let adds = c.in_ok-take.ensures.gains (bytes ++ front) (i.stands bytes stands) in
          let gains = subst (λ (s : Sizes). (times s).gains id (bytes ++ front) byte adds.0) i.sizes adds.1 in
          subst (λ (l : List ℕ). RunWritten own id bytes l old new) (sym more)
          (run_more own id bytes front old here new (i.written bytes stands) byte adds.0 gains
          (wrote_by here new c.in_ok-take.field-0 (concat adds.0) adds.2));
      kept = c.in_ok-take.ensures.serves.cause.kept ∙ i.kept;
      shows = c.take.ensures.serves.shows ∙ i.shows;
      offset = omega (arith, c.take.ensures.offset, i.offset);
      whole = whole_where_ok {E = Failed} c.take.new.self.broken (Ok c.in_ok-take.field-0) refl c.in_ok-take.ensures.broken;
      sizes = c.take.ensures.settings ∙ i.sizes;
      most = λ _. c.take.ensures.most;
    }

pub returns-clause-gains : goal.returns-clause-gains
returns-clause-gains g c bytes stands =
    let state = g.K.Sink.state in let n = c.loop-byte.byte-index in let run = c.args.run.now in
    let all = take_all n run (omega (arith, c.loop-byte-test.false)) in
    let own = times c.args.self.now.reader.settings in
    let old = state c.args.sink.now in let new = state c.loop-byte.sink in
    run_added own c.args.id bytes run old new tt
    (subst (λ (l : List ℕ). RunWritten own c.args.id bytes l old new) all (c.loop-byte.invariant.written bytes stands))

pub returns-clause-adds : goal.returns-clause-adds
returns-clause-adds g c ok bytes stands =
    ([], no_stream_items (times c.args.self.now.reader.settings) (λ id before byte. refl) c.args.id bytes c.args.run.now, λ items has. tt)
