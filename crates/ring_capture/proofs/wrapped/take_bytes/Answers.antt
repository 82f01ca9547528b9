use Rattle.std.proofs.Common.{◌≡◌, ◌+◌, ◌∷◌, [], ◌++◌, Ok, Err, take, drop, slice_index_or, refl, sym, ap, subst, ◌∙◌, arith, append_assoc}
use Rattle.std.proofs.lemmas.List.{take_all, take-append-drop}
use Rattle.capture_streams.specs.Demuxed.{Gains}
use Rattle.capture_streams.specs.Texts.{by_sizes}
use Rattle.capture_streams.proofs.Writing.{Gained, all_gained, gain_fails, gained_more}
use Rattle.trace_io.specs.declared.traits.Failed.{Failed}
use Rattle.ring_capture.specs.Laid.{later_pairs}
use Rattle.ring_capture.specs.Wrapped.{HaveTaken}
use Rattle.ring_capture.proofs.GivenFrames.{carried_on, next_byte}
use Rattle.ring_capture.proofs.wrapped.take_bytes.Goals as goal

pub loop-at-preserved : goal.loop-at-preserved
loop-at-preserved g c =
    let state = g.K.Sink.state in let i = c.loop-at.invariant in let n = c.loop-at.at in let piece = c.args.piece.now in
    let front = take n piece in let byte = slice_index_or piece n 0 in let k = c.args.unwrap.now.frames in
    let next = next_byte piece n c.loop-at-test.true in let stand = g.S.Stream.stands c.args.shared.now in
    let old = state c.args.sink.now in let here = state c.loop-at.sink in let new = state c.take_byte.new.sink in
    record {
      within = omega (arith, c.loop-at-test.true);
      stands = λ t bytes stands.
          subst (HaveTaken stand g.S.Stream.sizes (g.S.Stream.sums c.args.shared.now) (g.S.Stream.listing c.args.shared.now) t c.take_byte.new.unwrap c.take_byte.new.demux)
          (append_assoc bytes front (byte ∷ []) ∙ ap (λ l. bytes ++ l) (sym next))
          (c.in-Ok.ensures.stands t (bytes ++ front) (i.stands t bytes stands) refl);
      gained = λ t bytes stands.
          let listing = by_sizes (g.S.Stream.listing c.args.shared.now) t in
          subst (λ l. Gained (later_pairs k) listing bytes l old new) (sym next)
          (gained_more (later_pairs k) listing bytes front (byte ∷ []) old here new c.in-Ok.field-0 (i.gained t bytes stands)
          (subst (λ j. Gains {E = Failed} (later_pairs j) listing (bytes ++ front) (byte ∷ []) here new (Ok c.in-Ok.field-0)) i.frames
          (c.in-Ok.ensures.gains t (bytes ++ front) (i.stands t bytes stands))));
      kept = c.in-Ok.ensures.serves.cause.kept ∙ i.kept;
      shows = c.take_byte.ensures.serves.shows ∙ i.shows;
      offset = omega (arith, i.offset, c.in-Ok.ensures.offset refl);
      whole = c.in-Ok.ensures.good refl;
      frames = c.in-Ok.ensures.frames ∙ i.frames;
    }

pub returns-in-Err-clause-gains : goal.returns-in-Err-clause-gains
returns-in-Err-clause-gains g c t bytes stands =
    let state = g.K.Sink.state in let i = c.loop-at.invariant in let n = c.loop-at.at in let piece = c.args.piece.now in
    let front = take n piece in let byte = slice_index_or piece n 0 in let k = c.args.unwrap.now.frames in
    let listing =
    by_sizes (g.S.Stream.listing c.args.shared.now) t in let next = next_byte piece n c.loop-at-test.true in let rest = drop (n + 1) piece in
    let old = state c.args.sink.now in let here = state c.loop-at.sink in let new = state c.take_byte.new.sink in
    let gains = subst (λ j. Gains {T = Unit {0}} (later_pairs j) listing (bytes ++ front) (byte ∷ []) here new (Err c.in-Err.failed)) i.frames
    (c.in-Err.ensures.gains t (bytes ++ front) (i.stands t bytes stands)) in
    let parts : (front ++ byte ∷ []) ++ rest ≡ piece = ap (λ l. l ++ rest) (sym next) ∙ take-append-drop (n + 1) piece in
    let more = carried_on k (bytes ++ (front ++ byte ∷ [])) rest in
    subst (λ l. Gains {T = Unit {0}} (later_pairs k) listing bytes l old new (Err c.in-Err.failed)) parts
    (gain_fails (later_pairs k) listing bytes front old here (i.gained t bytes stands) (byte ∷ []) gains.pairs gains.grows new
    c.in-Err.failed c.in-Err.failed gains.adds rest more.0 more.1)

pub returns-clause-gains : goal.returns-clause-gains
returns-clause-gains g c t bytes stands =
    let state = g.K.Sink.state in let n = c.loop-at.at in let piece = c.args.piece.now in let k = c.args.unwrap.now.frames in
    let whole = take_all n piece (omega (arith, c.loop-at-test.false)) in let listing = by_sizes (g.S.Stream.listing c.args.shared.now) t in
    all_gained (later_pairs k) listing bytes piece (state c.args.sink.now) (state c.loop-at.sink) tt
    (subst (λ l. Gained (later_pairs k) listing bytes l (state c.args.sink.now) (state c.loop-at.sink)) whole (c.loop-at.invariant.gained t bytes stands))
