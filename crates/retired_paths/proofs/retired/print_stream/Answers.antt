use Rattle.std.proofs.Common.{arith, sym, take, ◌∙◌}
use Rattle.std.proofs.lemmas.Option.{slice_get_within}
use Rattle.std.proofs.lemmas.Result.{err_from_is_err_and}
use Rattle.std.specs.Prelude.{slice_get}
use Rattle.retired_paths.proofs.Refused.{looked_up, some_line}
use Rattle.retired_paths.proofs.RetiredStreams.{can_line, id_found, line_fails, line_more, stream_done, whole_stream}
use Rattle.retired_paths.proofs.retired.print_stream.Goals as goal
use Rattle.run_file.specs.Parts.{events_of}

pub print_line-requires : goal.print_line-requires
print_line-requires g c =
    let stream = c.requires.0 in
    let there = c.requires.1 in
    let can = c.requires.2 in
    let k = c.loop-line.k in
    let line = c.in-Some-line_at.line in
    let found = sym (c.in-Some-line_at.ensures.value ∙ looked_up c.args.bench.now.streams c.args.s k stream there) in (
      stream.settings,
      events_of (take k stream.lines),
      can_line c.args.image.now stream.settings c.args.retiring.now c.loop-line.retiring stream.lines k line found can
          (c.loop-line.invariant stream there can).stands,
    )

pub returns-in_err-print_line : goal.returns-in_err-print_line
returns-in_err-print_line g c stream there can =
    let image = c.args.image.now in
    let k = c.loop-line.k in
    let was = c.args.retiring.now in
    let line = c.in-Some-line_at.line in
    let id = c.in-Some.id in
    let found = sym (c.in-Some-line_at.ensures.value ∙ looked_up c.args.bench.now.streams c.args.s k stream there) in
    let so_far = c.loop-line.invariant stream there can in
    let next = can_line image stream.settings was c.loop-line.retiring stream.lines k line found can so_far.stands in
    let p = err_from_is_err_and c.from_residual.result c.from_residual.ensures.1 in
    rw p.1 (whole_stream image id stream was c.print_line.new.self _ _ _ (id_found c.args.bench.now.streams c.args.s id stream there c.in-Some.ensures)
    can.stands (line_fails image stream.settings id was c.loop-line.retiring c.print_line.new.self stream.lines k line _ _ _ c.in_err-print_line.field-0.0 p.0 found can
    so_far (c.in_err-print_line.ensures stream.settings (events_of (take k stream.lines)) next)))

pub loop-line-smaller : goal.loop-line-smaller
loop-line-smaller g c =
    let found = some_line (slice_get c.args.bench.now.streams c.args.s) c.loop-line.k c.in-Some-line_at.line c.in-Some-line_at.ensures.value in
    let lt = slice_get_within _ c.loop-line.k c.in-Some-line_at.line found in
    omega (arith, lt)

pub loop-line-preserved : goal.loop-line-preserved
loop-line-preserved g c = λ stream there can.
    let image = c.args.image.now in
    let k = c.loop-line.k in
    let was = c.args.retiring.now in
    let line = c.in-Some-line_at.line in
    let id = c.in-Some.id in
    let found = sym (c.in-Some-line_at.ensures.value ∙ looked_up c.args.bench.now.streams c.args.s k stream there) in
    let so_far = c.loop-line.invariant stream there can in
    let next = can_line image stream.settings was c.loop-line.retiring stream.lines k line found can so_far.stands in
    line_more image stream.settings id was c.loop-line.retiring c.print_line.new.self stream.lines k line _ _ _ c.in_ok-print_line.field-0 found can so_far
    (c.in_ok-print_line.ensures stream.settings (events_of (take k stream.lines)) next)

pub returns : goal.returns
returns g c stream there can =
    let k = c.loop-line.k in
    let id = c.in-Some.id in
    let none = sym (c.in_default-line_at.ensures.value ∙ looked_up c.args.bench.now.streams c.args.s k stream there) in
    stream_done c.args.image.now id stream c.args.retiring.now c.loop-line.retiring k _ _ _
    (id_found c.args.bench.now.streams c.args.s id stream there c.in-Some.ensures) can.stands none (c.loop-line.invariant stream there can)
