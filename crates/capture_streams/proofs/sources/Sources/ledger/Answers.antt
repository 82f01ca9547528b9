use Rattle.std.proofs.Common.{◌≡◌, ◌+◌, ◌<◌, ◌∷◌, ◌++◌, [], length, map, take, Some, refl, sym, ap, subst, ◌∙◌, arith}
use Rattle.std.specs.Prelude.{slice_get}
use Rattle.std.proofs.lemmas.List.{length-take-le, take_more}
use Rattle.std.proofs.lemmas.Option.{get_or_from_slice_get, slice_get_within}
use Rattle.capture_streams.specs.Streams.{TalliedFrom, total}
use Rattle.capture_streams.specs.Texts.{of}
use Rattle.element_queue.specs.Counting.{no_counts, sum_of}
use Rattle.capture_streams.proofs.Standing.{source_stands, tallied_more, total_more}
use Rattle.capture_streams.proofs.sources.Sources.ledger.Goals as goal

pub loop-stream-preserved : goal.loop-stream-preserved
loop-stream-preserved g c =
    let n = c.loop-stream.place in let streams = c.self.inside.ring.items in let stream = c.in-Some.stream.now in
    let counts = g.S.Stream.counts in let i = c.loop-stream.invariant in
    let at : slice_get streams n ≡ Some stream = sym c.in-Some.ensures.value in
    let within : n < length streams = slice_get_within streams n stream at in
    let more : take (n + 1) streams ≡ take n streams ++ stream ∷ [] =
    take_more streams n stream within ∙ ap (λ x. take n streams ++ x ∷ []) (get_or_from_slice_get streams n stream stream at) in
    record {
      value = c.sum_of-sum.ensures ∙ ap (λ a. sum_of a c.ledger.result) i.value
          ∙ ap (sum_of (total no_counts (map counts (take n streams)))) c.ledger.ensures.value
          ∙ sym (total_more counts no_counts (take n streams) stream) ∙ ap (λ l. total no_counts (map counts l)) (sym more);
      tallied = λ shared t pairs all.
          let one = source_stands (g.S.Stream.stands shared) g.S.Stream.sizes t streams pairs (n + 1) n stream refl all (sym at) in
          subst (λ l. TalliedFrom (g.S.Stream.tallies shared) t 1 (map counts l) pairs) (sym more)
          (tallied_more counts (g.S.Stream.tallies shared) t 1 (take n streams) stream pairs (i.tallied shared t pairs all)
          (let count : 1 + length (take n streams) ≡ n + 1 = omega (arith, length-take-le n streams (omega (arith, within))) in
          subst (λ k. g.S.Stream.tallies shared (t k) (of k pairs) (counts stream)) (sym count)
          (subst (λ s. g.S.Stream.tallies shared s (of (n + 1) pairs) (counts stream)) one.1
          (subst (g.S.Stream.tallies shared (g.S.Stream.sizes stream) (of (n + 1) pairs)) c.ledger.ensures.value
          (c.ledger.ensures.tallied shared (of (n + 1) pairs) one.0)))));
      within = omega (arith, within);
    }
