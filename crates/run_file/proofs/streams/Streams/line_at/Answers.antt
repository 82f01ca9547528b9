use Rattle.std.proofs.Common.{◌≡◌, ◌∙◌, Some, ap, slice_get}
use Rattle.std.specs.Option.{option_and_then}
use Rattle.run_file.specs.KeptStreams.{TextStreams}
use Rattle.run_file.specs.Parts.{BenchStream}
use Rattle.run_file.proofs.Entries.{kept_entry, kept_line, place_at, read_place}
use Rattle.run_file.proofs.streams.Streams.line_at.Goals as goal

pub line_of-requires : goal.line_of-requires
line_of-requires c =
    let text = c.self.inside.text.now in
    let at : Some c.in_ok-place.place.now ≡ slice_get c.in_ok-stream.stream.now.places.items c.args.k =
    place_at _ _ c.args.k _ c.deref.ensures.value c.in_ok-place.ensures.lookup.0 c.in_ok-place.ensures.lookup.1 in
    let entry = kept_entry text c.self.inside.by_id.entries c.args.s _ c.in_ok-stream.ensures.entry c.self.invariant in
    read_place text c.in_ok-stream.stream.now.settings c.in_ok-stream.stream.now.places.items c.args.k _ at entry.lines

pub returns-clause-value : goal.returns-clause-value
returns-clause-value c =
    let text = c.self.inside.text.now in
    let at : Some c.in_ok-place.place.now ≡ slice_get c.in_ok-stream.stream.now.places.items c.args.k =
    place_at _ _ c.args.k _ c.deref.ensures.value c.in_ok-place.ensures.lookup.0 c.in_ok-place.ensures.lookup.1 in
    ap Some c.line_of.ensures
    ∙ kept_line text c.self.inside.by_id.entries c.args.s c.args.k _ _ c.in_ok-stream.ensures.entry at
    ∙ ap (λ (v : TextStreams). option_and_then (λ (stream : BenchStream). slice_get stream.lines c.args.k) (slice_get v.streams c.args.s)) c.self.view_is
