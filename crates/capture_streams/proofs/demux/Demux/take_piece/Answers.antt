use Rattle.std.proofs.Common.{◌≡◌, ℕ, ◌+◌, ◌-◌, ◌*◌, ◌++◌, Ok, Err, length, take, drop, length-append, refl, sym, ap, subst, ◌∙◌, arith, append_assoc}
use Rattle.std.proofs.lemmas.List.{length-drop, length-take-le, take_all, take-append-drop}
use Rattle.formatter_frames.specs.Reader as reader
use Rattle.capture_streams.specs.Demuxed.{Gains, StandsAt}
use Rattle.capture_streams.specs.Streams.{AllStand}
use Rattle.capture_streams.specs.Texts.{by_sizes}
use Rattle.formatter_frames.proofs.Going.{more_pairs}
use Rattle.formatter_frames.specs.Symbols.{pairs_of}
use Rattle.formatter_frames.specs.Unframed.{begun_frame, id_after_frames, symbols_of_frames, unframed}
use Rattle.capture_streams.proofs.Standing.{later_ready}
use Rattle.capture_streams.proofs.Writing.{Gained, all_gained, front_behind, gain_fails, gained_more}
use Rattle.capture_streams.proofs.demux.Demux.take_piece.Goals as goal
use Rattle.trace_io.specs.declared.traits.Failed.{Failed}

pub returns-in-Err-clause-gains : goal.returns-in-Err-clause-gains
returns-in-Err-clause-gains g c t bytes stands =
    let state = g.K.Sink.state in let i = c.loop-at.invariant in let n = c.loop-at.at in let piece = c.args.piece.now in
    let front = take n piece in let listing = by_sizes (g.S.Stream.listing c.args.shared.now) t in let there = i.stands t bytes stands in
    let gains = c.in-Err.ensures.gains t (bytes ++ front) there.frames there.streams in
    let more = take gains.0 (take (length piece - n) (drop n piece)) in let rest = drop (n + gains.0) piece in
    let parts : (front ++ more) ++ rest ≡ piece = ap (λ l. l ++ rest) (sym (front_behind n gains.0 piece)) ∙ take-append-drop (n + gains.0) piece in
    let old = state c.args.sink.now in let here = state c.loop-at.sink in let new = state c.take_front.new.sink in
    let all = bytes ++ (front ++ more) in let later = pairs_of (id_after_frames all) (symbols_of_frames (begun_frame all ++ rest)) in
    subst (λ l. Gains {T = Unit {0}} unframed listing bytes l old new (Err c.in-Err.failed)) parts
    (gain_fails unframed listing bytes front old here (i.gained t bytes stands) more gains.1.pairs gains.1.grows new
    c.in-Err.failed c.in-Err.failed gains.1.adds rest later (more_pairs all rest))

pub loop-at-preserved : goal.loop-at-preserved
loop-at-preserved g c =
    let state = g.K.Sink.state in let i = c.loop-at.invariant in let n = c.loop-at.at in let m = c.in-Ok.count in let piece = c.args.piece.now in
    let front = take n piece in let behind = take (length piece - n) (drop n piece) in let more = take m behind in
    let at = g.S.Stream.stands c.args.shared.now in let next : take (n + m) piece ≡ front ++ more = front_behind n m piece in
    let size : length behind ≡ length piece - n = length-take-le (length piece - n) (drop n piece) (omega (arith, length-drop n piece)) in
    let many : length more ≡ m = length-take-le m behind (c.in-Ok.ensures.some.0) in
    let old = state c.args.sink.now in let here = state c.loop-at.sink in let new = state c.take_front.new.sink in
    record {
      within = omega (arith, i.within, c.in-Ok.ensures.some.0, size);
      stands = λ t bytes stands.
          let there = i.stands t bytes stands in let joined = append_assoc bytes front more in
          let longer : c.loop-at.self-inside.offset + m ≡ length (bytes ++ (front ++ more)) =
          omega (arith, there.offset, many, ap length joined, length-append (bytes ++ front) more) in
          subst (λ l. StandsAt at g.S.Stream.sizes (g.S.Stream.sums c.args.shared.now) (g.S.Stream.listing c.args.shared.now) t
          (record {
            frames = c.take_front.new.frames;
            sources = c.take_front.new.sources;
            offset = c.loop-at.self-inside.offset + m;
            broken = c.loop-at.self-inside.broken;
          }) (bytes ++ l))
          (sym next)
          (record {
            whole = there.whole;
            offset = longer;
            frames = subst (reader.StandsAt c.take_front.new.frames) joined (c.in-Ok.ensures.frames (bytes ++ front) there.frames);
            streams = subst (λ l. AllStand at g.S.Stream.sizes (g.S.Stream.sums c.args.shared.now) (g.S.Stream.listing c.args.shared.now) t c.take_front.new.sources (unframed l)) joined
                (c.in-Ok.ensures.stands t (bytes ++ front) there.frames there.streams);
          });
      gained = λ t bytes stands.
          let listing = by_sizes (g.S.Stream.listing c.args.shared.now) t in let there = i.stands t bytes stands in
          let gains = c.in-Ok.ensures.gains t (bytes ++ front) there.frames there.streams in
          subst (λ l. Gained unframed listing bytes l old new) (sym next)
          (gained_more unframed listing bytes front more old here new m (i.gained t bytes stands)
          (subst (λ k. Gains {T = ℕ} {E = Failed} unframed listing (bytes ++ front) (take k behind) here new (Ok m)) (sym gains.2) gains.1));
      kept = c.in-Ok.ensures.serves.cause.kept ∙ i.kept;
      shows = c.take_front.ensures.serves.shows ∙ i.shows;
      offset = omega (arith, i.offset);
      whole = i.whole;
      ready = later_ready g.S.Stream.broken g.S.Stream.offset (15 * c.loop-at.self-inside.offset + 15) (15 * (c.loop-at.self-inside.offset + m))
          c.take_front.new.sources.streams (omega (arith, c.in-Ok.ensures.some.1 (omega (arith, size, c.loop-at-test.true))))
          (c.in-Ok.ensures.ready (15 * c.loop-at.self-inside.offset) i.ready refl);
      sizes = c.take_front.ensures.sizes ∙ i.sizes;
      most = c.take_front.ensures.most i.most;
    }

pub returns-clause-gains : goal.returns-clause-gains
returns-clause-gains g c t bytes stands =
    let state = g.K.Sink.state in let n = c.loop-at.at in let piece = c.args.piece.now in
    let whole = take_all n piece (omega (arith, c.loop-at-test.false)) in let listing = by_sizes (g.S.Stream.listing c.args.shared.now) t in
    all_gained unframed listing bytes piece (state c.args.sink.now) (state c.loop-at.sink) tt
    (subst (λ l. Gained unframed listing bytes l (state c.args.sink.now) (state c.loop-at.sink)) whole (c.loop-at.invariant.gained t bytes stands))
