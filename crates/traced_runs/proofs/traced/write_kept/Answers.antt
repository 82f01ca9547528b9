use Rattle.std.proofs.Common.{◌≡◌, ◌%◌, ℕ, List, length, subst, sym, ◌∙◌}
use Rattle.woven_traces.specs.Weaving.{all_left}
use Rattle.woven_traces.specs.Woven.{woven}
use Rattle.traced_runs.proofs.LastFrames.{whole_framed}
use Rattle.traced_runs.proofs.traced.write_kept.Goals as goal

pub kept_frames-requires : goal.kept_frames-requires
kept_frames-requires g c =
    let pairs = woven c.args.bench.now.weaves (all_left c.args.traces.now) in
    subst (λ (l : List ℕ). length l % 16 ≡ 0) (sym (c.written.ensures ∙ c.in-Ok.ensures)) (whole_framed pairs)
