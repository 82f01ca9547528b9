use Rattle.std.proofs.Common.{◌≡◌, ◌*◌, Ok, Err, length, sym, ap, subst, ◌∙◌}
use Rattle.capture_streams.specs.Demuxed.{Demuxed, StandsAt}
use Rattle.capture_streams.specs.Texts.{by_sizes}
use Rattle.formatter_frames.specs.Unframed.{begun_frame, unframed}
use Rattle.path_text.specs.EndLines.{frame_cut_line}
use Rattle.path_text.specs.Writing.{Writes}
use Rattle.capture_streams.proofs.Ending.{Ends, cut_fails, ends_cut, ends_fail, ends_uncut}
use Rattle.capture_streams.proofs.Standing.{by_err}
use Rattle.capture_streams.proofs.demux.Demux.finish.Goals as goal
use Rattle.trace_io.specs.declared.traits.Failed.{Failed}

pub finish-requires : goal.finish-requires
finish-requires g c = (15 * c.self.inside.offset, c.self.invariant.1 (ap (λ (d : Demuxed g.row.S.Denot g.row.S-Sum.Denot). d.broken) c.self.view_is ∙ c.requires))

pub returns-in_err-whole-clause-ending : goal.returns-in_err-whole-clause-ending
returns-in_err-whole-clause-ending g c t bytes stands =
    let shared = c.args.shared.now in let state = g.K.Sink.state in let pairs = unframed bytes in let left = length (begun_frame bytes) in let listing = by_sizes (g.S.Stream.listing shared) t in
    let there = subst (λ d. StandsAt (g.S.Stream.stands shared) g.S.Stream.sizes (g.S.Stream.sums shared) (g.S.Stream.listing shared) t d bytes) (sym c.self.view_is) stands in
    let ends = c.in_err-whole.ensures.ends t pairs there.streams in
    by_err (Ends listing pairs left (state c.args.sink.now) (state c.finish.new.sink)) c.from_residual.result c.from_residual.ensures.0 (λ d.
    ends_fail listing pairs left ends.0 ends.1 ends.2 ends.3 ends.4 (state c.args.sink.now) (state c.finish.new.sink) c.in_err-whole.field-0.0 d ends.5)

pub returns-then-left-eq0-clause-ending : goal.returns-then-left-eq0-clause-ending
returns-then-left-eq0-clause-ending g c t bytes stands =
    let shared = c.args.shared.now in let state = g.K.Sink.state in let pairs = unframed bytes in let left = length (begun_frame bytes) in let listing = by_sizes (g.S.Stream.listing shared) t in
    let there = subst (λ d. StandsAt (g.S.Stream.stands shared) g.S.Stream.sizes (g.S.Stream.sums shared) (g.S.Stream.listing shared) t d bytes) (sym c.self.view_is) stands in
    let ends = c.in_ok-whole.ensures.ends t pairs there.streams in
    let none : left ≡ 0 = sym (c.left-left.ensures.all bytes there.frames) ∙ c.if-left-eq0.true in
    ends_uncut listing pairs left ends.0 ends.1 ends.2 ends.3 ends.4 (state c.args.sink.now) (state c.finish.new.sink) c.in_ok-whole.whole none ends.5 ends.6

pub returns-in_err-write_frame_cut-clause-ending : goal.returns-in_err-write_frame_cut-clause-ending
returns-in_err-write_frame_cut-clause-ending g c t bytes stands =
    let shared = c.args.shared.now in let state = g.K.Sink.state in let pairs = unframed bytes in let left = length (begun_frame bytes) in let listing = by_sizes (g.S.Stream.listing shared) t in
    let there = subst (λ d. StandsAt (g.S.Stream.stands shared) g.S.Stream.sizes (g.S.Stream.sums shared) (g.S.Stream.listing shared) t d bytes) (sym c.self.view_is) stands in
    let ends = c.in_ok-whole.ensures.ends t pairs there.streams in
    let same : c.left-left.result ≡ left = c.left-left.ensures.all bytes there.frames in
    let old = state c.args.sink.now in let here = state c.finish.new.sink in let new = state c.write_frame_cut.new.sink in
    let last = subst (λ n. Writes {T = Unit {0}} here new (Err c.in_err-write_frame_cut.field-0.0) (frame_cut_line n)) same c.in_err-write_frame_cut.ensures in
    by_err (Ends listing pairs left old new) c.from_residual-in_err-write_frame_cut.result c.from_residual-in_err-write_frame_cut.ensures.0 (λ d.
    cut_fails listing pairs left ends.0 ends.1 ends.2 ends.3 ends.4 (λ none. c.if-left-eq0.false (same ∙ none)) old here new
    c.in_ok-whole.whole c.in_err-write_frame_cut.field-0.0 d ends.5 last)

pub returns-clause-ending : goal.returns-clause-ending
returns-clause-ending g c t bytes stands =
    let shared = c.args.shared.now in let state = g.K.Sink.state in let pairs = unframed bytes in let left = length (begun_frame bytes) in let listing = by_sizes (g.S.Stream.listing shared) t in
    let there = subst (λ d. StandsAt (g.S.Stream.stands shared) g.S.Stream.sizes (g.S.Stream.sums shared) (g.S.Stream.listing shared) t d bytes) (sym c.self.view_is) stands in
    let ends = c.in_ok-whole.ensures.ends t pairs there.streams in
    let same : c.left-left.result ≡ left = c.left-left.ensures.all bytes there.frames in
    let old = state c.args.sink.now in let here = state c.finish.new.sink in let new = state c.write_frame_cut.new.sink in
    let last = subst (λ n. Writes {T = Unit {0}} {E = Failed} here new (Ok c.in_ok-write_frame_cut.field-0) (frame_cut_line n)) same
    c.in_ok-write_frame_cut.ensures in
    ends_cut listing pairs left ends.0 ends.1 ends.2 ends.3 ends.4 (λ none. c.if-left-eq0.false (same ∙ none)) old here new
    c.in_ok-whole.whole c.in_ok-write_frame_cut.field-0 ends.5 last
