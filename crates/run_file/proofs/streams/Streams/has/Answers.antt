use Rattle.std.proofs.Common.{◌≡◌, ◌∙◌, ap, sym, true}
use Rattle.run_file.specs.KeptStreams.{TextStreams, streams_in}
use Rattle.run_file.specs.Parts.{has_stream}
use Rattle.run_file.proofs.Entries.{found, source_of}
use Rattle.run_file.proofs.streams.Streams.has.Goals as goal

pub returns-clause-value : goal.returns-clause-value
returns-clause-value c =
    c.contains_key.ensures ∙ found c.self.inside.text.now c.args.id c.self.inside.by_id.entries
    ∙ ap (λ (v : TextStreams). has_stream c.args.id v.streams) c.self.view_is

pub returns-clause-source : goal.returns-clause-source
returns-clause-source c has =
    let text = c.self.inside.text.now in
    let entries = c.self.inside.by_id.entries in
    let of : has_stream c.args.id (streams_in text entries) ≡ true = sym (found text c.args.id entries) ∙ sym c.contains_key.ensures ∙ has in
    source_of text c.args.id entries c.self.invariant of
