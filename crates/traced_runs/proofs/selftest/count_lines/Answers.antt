use Rattle.std.proofs.Common.{◌≤◌, List, ℕ, length, Ok, ap, subst, sym, ◌∙◌}
use Rattle.capture_streams.specs.Laid.{frames_laid}
use Rattle.capture_streams.specs.Paths.{paths}
use Rattle.capture_streams.specs.Texts.{by_sizes}
use Rattle.etm_types.specs.Settings.{Sizes}
use Rattle.etm_types.specs.SettingsTable.{sizes_at}
use Rattle.traced_runs.proofs.SelftestLines.{Counts, lines_counted}
use Rattle.input_pieces.specs.Listed.{Listed, most_input}
use Rattle.traced_runs.specs.Selftest.{line_feeds}
use Rattle.trace_io.specs.Memory.{Writing, pieces_state, writing_state}
use Rattle.traced_runs.proofs.selftest.count_lines.Goals as goal

pub print_input-requires : goal.print_input-requires
print_input-requires c = let stands = c.in_ok-demux.ensures.stands in record { fresh = (stands.whole, stands.offset) }

pub returns-in-Ok : goal.returns-in-Ok
returns-in-Ok c =
    let image = c.args.image.now in
    let b = c.args.bench.now in
    let source = c.in_ok-source.source in
    let source' = c.print_input.new.input in
    let text = c.new-text.result in
    let text' = c.print_input.new.out in
    let same = c.in_ok-source.ensures.0 in
    let few : length source.left ≤ most_input = subst (λ (l : List ℕ). length l ≤ most_input) (sym same) c.requires.few in
    let listed = subst (λ (l : List Sizes). Listed frames_laid (by_sizes (paths image) (sizes_at l)) (pieces_state source)
    (pieces_state source') (writing_state text) (writing_state text') (Ok c.in-Ok.field-0)) c.table_of.ensures
    (c.in-Ok.ensures.answer (sizes_at c.table_of.result) c.in_ok-demux.ensures.stands) in
    let counted = lines_counted image b source source' text text' c.in-Ok.field-0 few (ap (λ (w : Writing). w.taken) c.new-text.ensures) listed in
    let all = subst (λ (l : List ℕ). Counts image b l (line_feeds text'.taken)) same counted in
    (all.0, all.1, c.line_feeds.ensures ∙ ap line_feeds c.written.ensures ∙ all.2)
