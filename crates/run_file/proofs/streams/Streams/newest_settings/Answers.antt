use Rattle.std.proofs.Common.{◌∙◌, ap}
use Rattle.std.specs.Option.{option_map}
use Rattle.run_file.specs.BenchText.{newest}
use Rattle.run_file.specs.KeptStreams.{TextStreams}
use Rattle.run_file.proofs.Entries.{newest_sizes}
use Rattle.run_file.proofs.streams.Streams.newest_settings.Goals as goal

pub returns : goal.returns
returns c =
    newest_sizes c.self.inside.text.now c.self.inside.by_id.entries _ c.in_ok-stream.ensures.entry
    ∙ ap (λ (v : TextStreams). option_map (λ s. s.settings) (newest v.streams)) c.self.view_is
