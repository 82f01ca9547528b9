use Rattle.std.proofs.Common.{◌≡◌, ◌+◌, ◌*◌, ◌++◌, Err, length, take, drop, refl, sym, ap, subst, ◌∙◌, arith, append_assoc}
use Rattle.std.proofs.lemmas.List.{length-drop, length-take-le}
use Rattle.capture_streams.specs.Demuxed.{Gains, StandsAt}
use Rattle.capture_streams.specs.Texts.{by_sizes}
use Rattle.formatter_frames.proofs.Going.{more_pairs}
use Rattle.formatter_frames.specs.Symbols.{pairs_of}
use Rattle.formatter_frames.specs.Unframed.{begun_frame, id_after_frames, symbols_of_frames, unframed}
use Rattle.capture_streams.proofs.Writing.{Gained, gain_fails, gained_more}
use Rattle.ring_capture.specs.Rotated.{first_frames, later_frames}
use Rattle.ring_capture.proofs.KeptFrames.{all_behind, frame_there, next_frame, none_there, not_true, rest_behind, then_gains}
use Rattle.ring_capture.proofs.wrapped.take_kept.Goals as goal

pub loop-frame-preserved : goal.loop-frame-preserved
loop-frame-preserved g c =
    let state = g.K.Sink.state in let i = c.loop-frame.invariant in let j = c.loop-frame.j in let u = c.args.unwrap.now in
    let frame = c.in-Some.frame in let there = frame_there j u.kept frame c.in-Some.ensures.value in
    let front = take (16 * j) u.kept in let next = next_frame j u.kept frame there.1 in let stand = g.S.Stream.stands c.args.shared.now in
    let long : length frame ≡ 16 =
    ap length there.1 ∙ length-take-le 16 (drop (16 * j) u.kept) (omega (arith, there.0, length-drop (16 * j) u.kept)) in
    let old = state c.args.sink.now in let here = state c.loop-frame.sink in let new = state c.take_piece.new.sink in
    record {
      within = omega (arith, there.0);
      stands = λ t bytes stands.
          let before = later_frames u.frames bytes in
          subst (StandsAt stand g.S.Stream.sizes (g.S.Stream.sums c.args.shared.now) (g.S.Stream.listing c.args.shared.now) t c.take_piece.new.self) (append_assoc before front frame ∙ ap (λ l. before ++ l) (sym next))
          (c.in-Ok.ensures.stands t (before ++ front) (i.stands t bytes stands) refl);
      gained = λ t bytes stands.
          let before = later_frames u.frames bytes in let listing = by_sizes (g.S.Stream.listing c.args.shared.now) t in
          subst (λ l. Gained unframed listing before l old new) (sym next)
          (gained_more unframed listing before front frame old here new c.in-Ok.field-0 (i.gained t bytes stands)
          (c.in-Ok.ensures.gains t (before ++ front) (i.stands t bytes stands)));
      kept = c.in-Ok.ensures.serves.cause.kept ∙ i.kept;
      shows = c.take_piece.ensures.serves.shows ∙ i.shows;
      offset = omega (arith, i.offset, c.in-Ok.ensures.offset refl, long);
      whole = not_true c.take_piece.new.self.broken c.in-Ok.ensures.broken.0;
    }

pub returns-in-Err-clause-gains : goal.returns-in-Err-clause-gains
returns-in-Err-clause-gains g c t bytes stands =
    let state = g.K.Sink.state in let i = c.loop-frame.invariant in let j = c.loop-frame.j in let u = c.args.unwrap.now in
    let frame = c.in-Some.frame in let there = frame_there j u.kept frame c.in-Some.ensures.value in
    let front = take (16 * j) u.kept in let before = later_frames u.frames bytes in let listing = by_sizes (g.S.Stream.listing c.args.shared.now) t in
    let old = state c.args.sink.now in let here = state c.loop-frame.sink in let new = state c.take_piece.new.sink in
    let gains = c.in-Err.ensures.gains t (before ++ front) (i.stands t bytes stands) in
    let rest = rest_behind (j + 1) bytes u stands.unwrap (omega (arith, there.0)) in
    let all = before ++ (front ++ frame) in
    let parts : (front ++ frame) ++ rest.0 ≡ first_frames u.frames bytes ++ begun_frame bytes =
    ap (λ l. l ++ rest.0) (sym (next_frame j u.kept frame there.1)) ∙ rest.1 in
    subst (λ l. Gains {T = Unit {0}} unframed listing before l old new (Err c.in-Err.failed)) parts
    (gain_fails unframed listing before front old here (i.gained t bytes stands) frame gains.pairs gains.grows new
    c.in-Err.failed c.in-Err.failed gains.adds rest.0 (pairs_of (id_after_frames all) (symbols_of_frames (begun_frame all ++ rest.0)))
    (more_pairs all rest.0))

pub returns-clause-stands : goal.returns-clause-stands
returns-clause-stands g c t bytes stands ok =
    let i = c.loop-frame.invariant in let j = c.loop-frame.j in let u = c.args.unwrap.now in
    let front = take (16 * j) u.kept in let before = later_frames u.frames bytes in let stand = g.S.Stream.stands c.args.shared.now in
    let whole = all_behind j bytes u stands.unwrap i.within (none_there j u.kept c.in_default.ensures.value) in
    let tail = c.tail.ensures.stands bytes stands.unwrap in
    subst (StandsAt stand g.S.Stream.sizes (g.S.Stream.sums c.args.shared.now) (g.S.Stream.listing c.args.shared.now) t c.take_piece-2.new.self)
    (append_assoc before front c.tail.result.now ∙ ap (λ l. before ++ (l ++ c.tail.result.now)) whole
    ∙ ap (λ l. before ++ (first_frames u.frames bytes ++ l)) tail)
    (c.take_piece-2.ensures.stands t (before ++ front) (i.stands t bytes stands) ok)

pub returns-clause-gains : goal.returns-clause-gains
returns-clause-gains g c t bytes stands =
    let state = g.K.Sink.state in let i = c.loop-frame.invariant in let j = c.loop-frame.j in let u = c.args.unwrap.now in
    let front = take (16 * j) u.kept in let before = later_frames u.frames bytes in let listing = by_sizes (g.S.Stream.listing c.args.shared.now) t in
    let whole = all_behind j bytes u stands.unwrap i.within (none_there j u.kept c.in_default.ensures.value) in
    let tail = c.tail.ensures.stands bytes stands.unwrap in
    let old = state c.args.sink.now in let here = state c.loop-frame.sink in let new = state c.take_piece-2.new.sink in
    subst (λ l. Gains unframed listing before l old new c.take_piece-2.result)
    (ap (λ l. l ++ c.tail.result.now) whole ∙ ap (λ l. first_frames u.frames bytes ++ l) tail)
    (then_gains listing before front c.tail.result.now old here new c.take_piece-2.result (i.gained t bytes stands)
    (c.take_piece-2.ensures.gains t (before ++ front) (i.stands t bytes stands)))
