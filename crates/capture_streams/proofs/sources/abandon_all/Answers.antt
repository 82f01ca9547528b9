use Rattle.std.proofs.Common.{◌≡◌, ◌∷◌, map, refl, sym, ap, subst, ◌∙◌}
use Rattle.capture_streams.specs.Streams.{total}
use Rattle.element_queue.specs.Counting.{Balances, sum_of}
use Rattle.element_queue.specs.declared.ledger.Counts.{Counts}
use Rattle.capture_streams.proofs.Ending.{Left, all_remain, none_left, none_remain, one_less}
use Rattle.capture_streams.proofs.sources.abandon_all.Goals as goal

pub loop-stream-init : goal.loop-stream-init
loop-stream-init g c =
    record {
      value = ap (λ l. total l (map g.S.Stream.counts_left c.args.ring.items)) c.new-ledger.ensures;
      balanced = subst (λ (l : Counts). Balances l 0) (sym c.new-ledger.ensures) refl;
      left = λ shared t pairs id stand. all_remain (g.S.Stream.stands shared) g.S.Stream.sizes t (g.S.Stream.listing shared) pairs id c.args.ring.items stand;
    }

pub loop-stream-preserved : goal.loop-stream-preserved
loop-stream-preserved g c =
    let f = g.S.Stream.counts_left in let stream = c.in-Some.stream in let rest = c.pop_front.new.self.items in
    let order : c.loop-stream.ring.items ≡ stream ∷ rest = c.in-Some.ensures.order in
    record {
      value = ap (λ l. total l (map f rest)) (c.absorb.ensures.value ∙ ap (sum_of c.loop-stream.ledger) c.abandon.ensures.value)
          ∙ ap (λ l. total c.loop-stream.ledger (map f l)) (sym order) ∙ c.loop-stream.invariant.value;
      balanced = c.absorb.ensures.balanced 0 0 c.loop-stream.invariant.balanced
          (subst (λ (l : Counts). Balances l 0) (sym c.abandon.ensures.value) c.abandon.ensures.balanced);
      left = λ shared t pairs id stand.
          one_less (g.S.Stream.stands shared) g.S.Stream.sizes t (g.S.Stream.listing shared) pairs id c.args.ring.items stream rest
          (subst (Left (g.S.Stream.stands shared) g.S.Stream.sizes t (g.S.Stream.listing shared) pairs id c.args.ring.items) order
          (c.loop-stream.invariant.left shared t pairs id stand)) (λ k bytes stood. c.abandon.ensures.ends shared k bytes stood);
    }

pub returns-clause-ends : goal.returns-clause-ends
returns-clause-ends g c shared t pairs id stand =
    let none = none_left c.loop-stream.ring.items c.in_default.ensures.empty.1 in
    none_remain (g.S.Stream.stands shared) g.S.Stream.sizes t (g.S.Stream.listing shared) pairs id c.args.ring.items
    (subst (Left (g.S.Stream.stands shared) g.S.Stream.sizes t (g.S.Stream.listing shared) pairs id c.args.ring.items) (sym none)
    (c.loop-stream.invariant.left shared t pairs id stand))
