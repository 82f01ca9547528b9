use Rattle.std.proofs.Common.{◌≡◌, ◌<◌, ◌∙◌, Some, ap, arith, length, refl, subst, sym}
use Rattle.std.specs.Option.{option_map}
use Rattle.std.specs.Prelude.{All}
use Rattle.run_file.specs.BenchText.{newest, with_line}
use Rattle.run_file.specs.KeptStreams.{TextStreams, streams_in}
use Rattle.run_file.specs.Places.{IsRead, line_of}
use Rattle.run_file.proofs.Entries.{kept_set, push_kept, push_streams, read_at}
use Rattle.run_file.proofs.streams.Streams.push_place.Goals as goal

pub invariant_of-self : goal.invariant_of-self
invariant_of-self c =
    let text = c.self.inside.text.now in
    let before = read_at text c.self.inside.by_id.entries _ c.in-Some.stream.now (sym c.in-Some.ensures.value) c.self.invariant in
    let own = subst (All (IsRead text c.in-Some.stream.now.settings)) (sym c.in_err-push.ensures.items) before in
    kept_set text c.self.inside.by_id.entries _ (record c.in-Some.stream.now { places = c.push.new.self }) own c.self.invariant

pub invariant_of-self-2 : goal.invariant_of-self-2
invariant_of-self-2 c =
    let text = c.self.inside.text.now in
    let entries = c.self.inside.by_id.entries in
    let some : 0 < length entries = c.in-Some.ensures.found.0 refl in
    let s = c.requires.0 in
    let sizes : option_map (λ s. s.settings) (newest (streams_in text entries)) ≡ Some s =
    subst (λ (v : TextStreams). option_map (λ s. s.settings) (newest v.streams) ≡ Some s) (sym c.self.view_is) c.requires.1 in
    let read : IsRead text s c.args.place = subst (λ (v : TextStreams). IsRead v.text s c.args.place) (sym c.self.view_is) c.requires.2 in
    push_kept text entries _ c.in-Some.stream.now c.push.new.self c.args.place s (omega (arith, some)) (sym c.in-Some.ensures.value)
    c.in_ok-push.ensures.items sizes read c.self.invariant

pub returns-clause-streams : goal.returns-clause-streams
returns-clause-streams c = λ s h.
    let text = c.self.inside.text.now in
    let entries = c.self.inside.by_id.entries in
    let some : 0 < length entries = c.in-Some.ensures.found.0 refl in
    let sizes : option_map (λ s. s.settings) (newest (streams_in text entries)) ≡ Some s =
    subst (λ (v : TextStreams). option_map (λ s. s.settings) (newest v.streams) ≡ Some s) (sym c.self.view_is) h in
    push_streams text entries _ c.in-Some.stream.now c.push.new.self c.args.place s (omega (arith, some)) (sym c.in-Some.ensures.value)
    c.in_ok-push.ensures.items sizes
    ∙ ap (λ (v : TextStreams). with_line (line_of v.text s c.args.place) v.streams) c.self.view_is
