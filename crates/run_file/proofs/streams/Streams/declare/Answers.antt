use Rattle.std.proofs.Common.{◌≡◌, ◌∙◌, ◌∷◌, ◌++◌, [], List, ap, false, map, subst, sym}
use Rattle.run_file.specs.KeptStreams.{AreKept, TextStreams, streams_in}
use Rattle.run_file.specs.Parts.{BenchStream, has_stream}
use Rattle.run_file.specs.Places.{line_of}
use Rattle.run_file.specs.declared.place.LineStart.{LineStart}
use Rattle.run_file.proofs.Entries.{declared_kept, declared_streams}
use Rattle.run_file.proofs.streams.Streams.declare.Goals as goal

pub invariant_of-self-2 : goal.invariant_of-self-2
invariant_of-self-2 c =
    let text = c.self.inside.text.now in
    let entries = c.self.inside.by_id.entries in
    let none : has_stream c.args.id (streams_in text entries) ≡ false =
    subst (λ (v : TextStreams). has_stream c.args.id v.streams ≡ false) (sym c.self.view_is) c.requires.new in
    subst (AreKept text) (sym c.in_ok-insert.ensures.entries)
    (declared_kept text c.args.id _ entries c.requires.source none c.new.ensures.items c.self.invariant)

pub returns-clause-streams : goal.returns-clause-streams
returns-clause-streams c =
    let text = c.self.inside.text.now in
    let entries = c.self.inside.by_id.entries in
    let none : has_stream c.args.id (streams_in text entries) ≡ false =
    subst (λ (v : TextStreams). has_stream c.args.id v.streams ≡ false) (sym c.self.view_is) c.requires.new in
    let with_places : List LineStart → BenchStream =
    λ places. record { id = c.args.id; settings = c.args.settings; stack = c.args.stack; lines = map (line_of text c.args.settings) places } in
    ap (streams_in text) c.in_ok-insert.ensures.entries
    ∙ declared_streams text c.args.id _ entries none
    ∙ ap (λ (places : List LineStart). streams_in text entries ++ with_places places ∷ []) c.new.ensures.items
    ∙ ap (λ (v : TextStreams). v.streams ++ with_places [] ∷ []) c.self.view_is
