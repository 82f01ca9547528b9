use Rattle.std.proofs.Common.{◌+◌, ◌<◌, ◌≤◌, [], ◌++◌, append-nil, ap, arith, drop, length, refl, subst, sym, ◌∙◌}
use Rattle.std.proofs.lemmas.List.{drop_all}
use Rattle.std.proofs.lemmas.Result.{err_from_is_err_and}
use Rattle.path_text.proofs.Wrote.{Wrote, fails_after, wrote_by, wrote_more, wrote_nothing, writes_all}
use Rattle.retired_paths.proofs.Refused.{settings_found, there_is}
use Rattle.retired_paths.proofs.RetiredStreams.{can_begin, stream_behind, stream_between}
use Rattle.retired_paths.specs.Retired.{stream_text, streams_text}
use Rattle.retired_paths.specs.Retiring.{IsRetiring}
use Rattle.retired_paths.proofs.retired.print_retired.Goals as goal

pub loop-s-init : goal.loop-s-init
loop-s-init g c = ([], wrote_nothing _, refl)

pub print_stream-requires : goal.print_stream-requires
print_stream-requires g c =
    let image = c.args.image.now in
    let bench = c.args.bench.now in
    let s = c.loop-s.s in
    let lt : s < length bench.streams = omega (arith, c.streams-s-end.ensures) in
    let found = there_is bench.streams s lt in
    let same = settings_found bench.streams s c.in-Some.settings found.0 found.1 c.in-Some.ensures in
    let at = subst (λ sizes. IsRetiring image sizes c.restart.new.self []) same (c.restart.ensures image) in
    (found.0, found.1, can_begin image bench s found.0 c.restart.new.self c.requires.gap c.requires.parts c.requires.accepted found.1 at)

pub returns-in_err-print_stream : goal.returns-in_err-print_stream
returns-in_err-print_stream g c =
    let image = c.args.image.now in
    let bench = c.args.bench.now in
    let s = c.loop-s.s in
    let lt : s < length bench.streams = omega (arith, c.streams-s-end.ensures) in
    let found = there_is bench.streams s lt in
    let i = c.loop-s.invariant in
    let same = settings_found bench.streams s c.in-Some.settings found.0 found.1 c.in-Some.ensures in
    let at = subst (λ sizes. IsRetiring image sizes c.restart.new.self []) same (c.restart.ensures image) in
    let can = can_begin image bench s found.0 c.restart.new.self c.requires.gap c.requires.parts c.requires.accepted found.1 at in
    let p = err_from_is_err_and c.from_residual.result c.from_residual.ensures.1 in
    let rest = streams_text image (drop (s + 1) bench.streams) in
    let all = streams_text image bench.streams in
    rw p.1 (fails_after _ _ _ c.in_err-print_stream.field-0.0 p.0 i.0 (stream_text image found.0) rest all
    (stream_between image bench.streams s found.0 i.0 all found.1 i.2) i.1
    (c.in_err-print_stream.ensures found.0 found.1 can))

pub loop-s-preserved : goal.loop-s-preserved
loop-s-preserved g c =
    let image = c.args.image.now in
    let bench = c.args.bench.now in
    let s = c.loop-s.s in
    let lt : s < length bench.streams = omega (arith, c.streams-s-end.ensures) in
    let found = there_is bench.streams s lt in
    let i = c.loop-s.invariant in
    let same = settings_found bench.streams s c.in-Some.settings found.0 found.1 c.in-Some.ensures in
    let at = subst (λ sizes. IsRetiring image sizes c.restart.new.self []) same (c.restart.ensures image) in
    let can = can_begin image bench s found.0 c.restart.new.self c.requires.gap c.requires.parts c.requires.accepted found.1 at in
    let text = stream_text image found.0 in (
      i.0 ++ text,
      wrote_more _ _ _ i.0 text i.1 (wrote_by _ _ c.in_ok-print_stream.field-0 text (c.in_ok-print_stream.ensures found.0 found.1 can)),
      stream_behind image bench.streams s found.0 i.0 (streams_text image bench.streams) found.1 i.2,
    )

pub returns : goal.returns
returns g c =
    let image = c.args.image.now in
    let bench = c.args.bench.now in
    let i = c.loop-s.invariant in
    let past : length bench.streams ≤ c.loop-s.s = omega (arith, c.streams-s-end.ensures) in
    let none = drop_all c.loop-s.s bench.streams past in
    let all = sym (append-nil i.0) ∙ ap (λ l. i.0 ++ streams_text image l) (sym none) ∙ i.2 in
    writes_all _ _ _ (streams_text image bench.streams) (subst (Wrote _ _) all i.1)
