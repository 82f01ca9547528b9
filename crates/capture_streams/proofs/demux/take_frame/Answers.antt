use Rattle.std.proofs.Common.{◌≡◌, ◌+◌, ◌++◌, Err, length, take, drop, refl, sym, ap, subst, ◌∙◌, arith, append_assoc}
use Rattle.std.specs.Prelude.{All}
use Rattle.std.proofs.lemmas.List.{take_all, take-append-drop}
use Rattle.capture_streams.specs.Streams.{Adds, AllStand, IsReady}
use Rattle.capture_streams.specs.Texts.{by_sizes}
use Rattle.formatter_frames.specs.Symbols.{run_of}
use Rattle.capture_streams.proofs.Runs.{run_within, with_run}
use Rattle.capture_streams.proofs.Standing.{by_err, later_ready}
use Rattle.capture_streams.proofs.Writing.{Written, added, all_added, fails_behind, more_written}
use Rattle.capture_streams.proofs.demux.take_frame.Goals as goal

pub take_run-requires : goal.take_run-requires
take_run-requires g c =
    let n = c.loop-id.place in let run = c.in-Some.run'.now in
    let within = run_within n c.in-Some.id c.args.frame.now run c.in-Some.ensures.run.1 c.loop-id.invariant.within in
    (2305843009213693952 + n, c.loop-id.invariant.ready 2305843009213693952 c.requires, omega (arith, within, c.in-Some.ensures.most))

pub returns-in_err-take_run-clause-adds : goal.returns-in_err-take_run-clause-adds
returns-in_err-take_run-clause-adds g c t pairs all =
    let state = g.K.Sink.state in let i = c.loop-id.invariant in let n = c.loop-id.place in let frame = c.args.frame.now in
    let front = take n frame in let run = c.in-Some.run'.now in let listing = by_sizes (g.S.Stream.listing c.args.shared.now) t in
    let more = with_run n c.in-Some.id frame run c.in-Some.ensures.run.1 in
    let parts : (front ++ run_of c.in-Some.id run) ++ drop (n + length run) frame ≡ frame =
    ap (λ l. l ++ drop (n + length run) frame) (sym more) ∙ take-append-drop (n + length run) frame in
    let adds = c.in_err-take_run.ensures.adds t (pairs ++ front) (i.stands t pairs all) in
    let old = state c.args.sink.now in let here = state c.loop-id.sink in let new = state c.take_run.new.sink in
    by_err (Adds {T = Unit {0}} listing pairs frame old new) c.from_residual.result c.from_residual.ensures.0 (λ d.
    subst (λ l. Adds {T = Unit {0}} listing pairs l old new (Err d)) parts
    (fails_behind listing pairs front old here new (i.written t pairs all) c.in_err-take_run.field-0.0 d (run_of c.in-Some.id run)
    (drop (n + length run) frame) adds))

pub overflow_add-place : goal.overflow_add-place
overflow_add-place g c =
    let within = run_within c.loop-id.place c.in-Some.id c.args.frame.now c.in-Some.run'.now c.in-Some.ensures.run.1 c.loop-id.invariant.within in
    omega (arith, within, c.in-Some.ensures.most)

pub loop-id-preserved : goal.loop-id-preserved
loop-id-preserved g c =
    let state = g.K.Sink.state in let i = c.loop-id.invariant in let n = c.loop-id.place in let frame = c.args.frame.now in
    let front = take n frame in let run = c.in-Some.run'.now in
    let more = with_run n c.in-Some.id frame run c.in-Some.ensures.run.1 in
    let shared = c.args.shared.now in
    let all_stand = AllStand (g.S.Stream.stands shared) g.S.Stream.sizes (g.S.Stream.sums shared) (g.S.Stream.listing shared) in
    let old = state c.args.sink.now in let here = state c.loop-id.sink in let new = state c.take_run.new.sink in
    record {
      within = run_within n c.in-Some.id frame run c.in-Some.ensures.run.1 i.within;
      stands = λ t pairs all.
          subst (λ l. all_stand t c.take_run.new.self (pairs ++ l)) (sym more)
          (subst (all_stand t c.take_run.new.self) (append_assoc pairs front (run_of c.in-Some.id run))
          (c.in_ok-take_run.ensures.stands t (pairs ++ front) (i.stands t pairs all) refl));
      written = λ t pairs all.
          let listing = by_sizes (g.S.Stream.listing c.args.shared.now) t in
          let adds = c.in_ok-take_run.ensures.adds t (pairs ++ front) (i.stands t pairs all) in
          subst (λ l. Written listing pairs l old new) (sym more)
          (more_written listing pairs front old here new (i.written t pairs all) (run_of c.in-Some.id run)
          (added listing (pairs ++ front) (run_of c.in-Some.id run) here new c.in_ok-take_run.field-0 adds));
      kept = c.in_ok-take_run.ensures.serves.cause.kept ∙ i.kept;
      shows = c.take_run.ensures.serves.shows ∙ i.shows;
      ready = λ most all.
          let sum : most + n + length run ≡ most + (n + length run) = omega arith in
          subst (λ k. All (IsReady g.S.Stream.broken g.S.Stream.offset k) c.take_run.new.self.streams) sum
          (c.in_ok-take_run.ensures.ready (most + n) (i.ready most all) refl);
      sizes = c.take_run.ensures.sizes ∙ i.sizes;
      held = λ all. c.take_run.ensures.most (i.held all);
    }

pub returns-clause-stands : goal.returns-clause-stands
returns-clause-stands g c t pairs all ok =
    let n = c.loop-id.place in let whole = take_all n c.args.frame.now (c.in_default.ensures.none.0 refl) in
    let shared = c.args.shared.now in
    let all_stand = AllStand (g.S.Stream.stands shared) g.S.Stream.sizes (g.S.Stream.sums shared) (g.S.Stream.listing shared) in
    subst (λ l. all_stand t c.loop-id.sources (pairs ++ l)) whole
    (c.loop-id.invariant.stands t pairs all)

pub returns-clause-adds : goal.returns-clause-adds
returns-clause-adds g c t pairs all =
    let state = g.K.Sink.state in let n = c.loop-id.place in
    let whole = take_all n c.args.frame.now (c.in_default.ensures.none.0 refl) in
    let listing = by_sizes (g.S.Stream.listing c.args.shared.now) t in
    all_added listing pairs c.args.frame.now (state c.args.sink.now) (state c.loop-id.sink) tt
    (subst (λ l. Written listing pairs l (state c.args.sink.now) (state c.loop-id.sink)) whole (c.loop-id.invariant.written t pairs all))

pub returns-clause-ready : goal.returns-clause-ready
returns-clause-ready g c most all ok =
    let n = c.loop-id.place in
    later_ready g.S.Stream.broken g.S.Stream.offset (most + n) (most + 15) c.loop-id.sources.streams
    (omega (arith, c.loop-id.invariant.within, c.run_at.ensures.most)) (c.loop-id.invariant.ready most all)
