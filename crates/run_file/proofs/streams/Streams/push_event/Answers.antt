use Rattle.std.proofs.Common.{◌≡◌, ◌∙◌, Ok, Some, ap, rules, sym}
use Rattle.std.specs.Option.{option_map}
use Rattle.line_words.specs.Line.{words_in}
use Rattle.run_file.specs.BenchText.{newest, with_line}
use Rattle.run_file.specs.EventLines.{event_of}
use Rattle.run_file.specs.Places.{line_of}
use Rattle.run_file.specs.declared.line.BenchLine.{BenchLine}
use Rattle.run_file.proofs.PlaceLines.{read_line}
use Rattle.run_file.proofs.streams.Streams.push_event.Goals as goal

pub returns-clause-streams : goal.returns-clause-streams
returns-clause-streams c =
    let old = c.args.self.now in
    let settings = c.in_ok-settings.settings in
    let event = c.in_ok-map_err.field-0 in
    let sizes : option_map (λ s. s.settings) (newest old.streams) ≡ Some settings = search rules in
    let read : event_of settings c.args.word.now (words_in c.args.rest.now) ≡ Ok event = search rules in
    let ok = c.push_place.ensures.streams settings sizes in
    let pushed : c.push_place.new.self.streams ≡ with_line (line_of old.text settings c.args.place) old.streams = search (rules, ok) in
    let line = read_line old.text settings c.args.place c.args.word.now (words_in c.args.rest.now) event c.requires read in
    rw sizes (rw read (ap Ok (ap (λ (l : BenchLine). with_line l old.streams) (sym line) ∙ sym pushed)))
