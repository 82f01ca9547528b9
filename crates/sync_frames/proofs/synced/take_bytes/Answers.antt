use Rattle.std.proofs.Common.{◌≡◌, ◌+◌, ◌-◌, ◌++◌, Err, Result, length, take, drop, refl, sym, ap, subst, ◌∙◌, arith, append_assoc}
use Rattle.std.specs.Prelude.{IsOk, OnOk}
use Rattle.std.proofs.lemmas.List.{length-drop, length-take-le, take_all, take-append-drop}
use Rattle.capture_streams.specs.Demuxed.{Gains}
use Rattle.capture_streams.specs.Texts.{by_sizes}
use Rattle.capture_streams.proofs.Writing.{Gained, all_gained, front_behind, gain_fails, gained_more}
use Rattle.sync_frames.specs.Laid.{synced_grows, synced_pairs}
use Rattle.sync_frames.specs.Synchronised.{HaveTaken}
use Rattle.sync_frames.proofs.synced.take_bytes.Goals as goal
use Rattle.trace_io.specs.Causes.{KeepsFaults}
use Rattle.trace_io.specs.declared.traits.Failed.{Failed}

pub loop-at-preserved : goal.loop-at-preserved
loop-at-preserved g c =
    let state = g.K.Sink.state in let i = c.loop-at.invariant in let n = c.loop-at.at in let m = c.take_front-count.result.0 in
    let piece = c.args.piece.now in let front = take n piece in let behind = take (length piece - n) (drop n piece) in let more = take m behind in
    let there = g.S.Stream.stands c.args.shared.now in let next : take (n + m) piece ≡ front ++ more = front_behind n m piece in
    let size : length behind ≡ length piece - n = length-take-le (length piece - n) (drop n piece) (omega (arith, length-drop n piece)) in
    let old = state c.args.sink.now in let here = state c.loop-at.sink in let new = state c.take_front-count.new.sink in
    let is_ok = subst (IsOk {T = Unit {0}} {E = Failed}) (sym c.in-Ok.is) refl in
    record {
      within = omega (arith, i.within, c.take_front-count.ensures.count.1, size);
      stands = λ t bytes stands.
          subst (HaveTaken there g.S.Stream.sizes (g.S.Stream.sums c.args.shared.now) (g.S.Stream.listing c.args.shared.now) t c.take_front-count.new.unsync c.take_front-count.new.demux)
          (append_assoc bytes front more ∙ ap (λ l. bytes ++ l) (sym next))
          (c.take_front-count.ensures.stands t (bytes ++ front) (i.stands t bytes stands) is_ok);
      gained = λ t bytes stands.
          let listing = by_sizes (g.S.Stream.listing c.args.shared.now) t in
          subst (λ l. Gained synced_pairs listing bytes l old new) (sym next)
          (gained_more synced_pairs listing bytes front more old here new tt (i.gained t bytes stands)
          (subst (λ (r : Result (Unit {0}) Failed). Gains synced_pairs listing (bytes ++ front) more here new r) c.in-Ok.is
          (c.take_front-count.ensures.gains t (bytes ++ front) (i.stands t bytes stands))));
      kept = subst (λ (r : Result (Unit {0}) Failed). OnOk r (KeepsFaults here new)) c.in-Ok.is c.take_front-count.ensures.serves.cause.kept ∙ i.kept;
      shows = c.take_front-count.ensures.serves.shows ∙ i.shows;
      room = omega (arith, i.room, c.take_front-count.ensures.room);
      whole = c.take_front-count.ensures.good is_ok;
    }

pub returns-in-Err-clause-gains : goal.returns-in-Err-clause-gains
returns-in-Err-clause-gains g c t bytes stands =
    let state = g.K.Sink.state in let i = c.loop-at.invariant in let n = c.loop-at.at in let m = c.take_front-count.result.0 in
    let piece = c.args.piece.now in let front = take n piece in let more = take m (take (length piece - n) (drop n piece)) in
    let rest = drop (n + m) piece in let listing = by_sizes (g.S.Stream.listing c.args.shared.now) t in
    let parts : (front ++ more) ++ rest ≡ piece = ap (λ l. l ++ rest) (sym (front_behind n m piece)) ∙ take-append-drop (n + m) piece in
    let old = state c.args.sink.now in let here = state c.loop-at.sink in let new = state c.take_front-count.new.sink in
    let gains = subst (λ (r : Result (Unit {0}) Failed). Gains synced_pairs listing (bytes ++ front) more here new r) c.in-Err.is
    (c.take_front-count.ensures.gains t (bytes ++ front) (i.stands t bytes stands)) in
    let later = synced_grows (bytes ++ (front ++ more)) rest in
    subst (λ l. Gains {T = Unit {0}} synced_pairs listing bytes l old new (Err c.in-Err.failed)) parts
    (gain_fails synced_pairs listing bytes front old here (i.gained t bytes stands) more gains.pairs gains.grows new
    c.in-Err.failed c.in-Err.failed gains.adds rest later.0 later.1)

pub returns-clause-gains : goal.returns-clause-gains
returns-clause-gains g c t bytes stands =
    let state = g.K.Sink.state in let n = c.loop-at.at in let piece = c.args.piece.now in
    let whole = take_all n piece (omega (arith, c.loop-at-test.false)) in let listing = by_sizes (g.S.Stream.listing c.args.shared.now) t in
    all_gained synced_pairs listing bytes piece (state c.args.sink.now) (state c.loop-at.sink) tt
    (subst (λ l. Gained synced_pairs listing bytes l (state c.args.sink.now) (state c.loop-at.sink)) whole (c.loop-at.invariant.gained t bytes stands))
