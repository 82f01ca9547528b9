use Rattle.std.proofs.Common.{◌≡◌, ◌+◌, ◌∷◌, suc, length, sym, ap, subst, ◌∙◌, arith}
use Rattle.std.specs.Prelude.{All, IfSome, slice_get, ◌&&◌}
use Rattle.std.specs.List.{range_with_len}
use Rattle.std.proofs.lemmas.List.Elements.{All-tail}
use Rattle.capture_streams.specs.Streams.{IsReady, StandFrom}
use Rattle.capture_streams.specs.Texts.{EndsOf, by_sizes, of, sources, text_of}
use Rattle.path_text.proofs.Wrote.{wrote_by}
use Rattle.capture_streams.proofs.Ending.{EndedOf, all_ended, end_fails, ends_here, ids, ids_more, ids_parts, none_left, one_more_ended, written_ends}
use Rattle.capture_streams.proofs.Standing.{ready_at}
use Rattle.capture_streams.proofs.sources.finish_all.Goals as goal

pub finish-requires : goal.finish-requires
finish-requires g c =
    let order : c.loop-stream.ring.items ≡ c.in-Some.stream ∷ c.pop_front.new.self.items = c.in-Some.ensures.order in
    let ready = c.loop-stream.invariant.ready in
    (ready_at (IsReady g.S.Stream.broken g.S.Stream.offset ready.0) c.loop-stream.ring.items 0 c.in-Some.stream ready.1
    (sym (ap (λ l. slice_get l 0) order))).whole

pub returns-in-Err-clause-ends : goal.returns-in-Err-clause-ends
returns-in-Err-clause-ends g c shared t pairs all =
    let state = g.K.Sink.state in let i = c.loop-stream.invariant in let id = c.loop-stream.id in
    let stream = c.in-Some.stream in let rest = c.pop_front.new.self.items in let listing = g.S.Stream.listing shared in
    let order : c.loop-stream.ring.items ≡ stream ∷ rest = c.in-Some.ensures.order in
    let stand = subst (λ l. StandFrom (g.S.Stream.stands shared) g.S.Stream.sizes t id l pairs) order (i.stands shared t pairs all) in
    let later = subst (λ k. StandFrom (g.S.Stream.stands shared) g.S.Stream.sizes t k rest pairs) (let e : suc id ≡ id + 1 = omega arith in e) stand.2 in
    let ends = c.in-Err.ensures.ends shared (of id pairs) stand.0 in
    let given : c.unwrap.result ≡ id = subst (λ r. IfSome r (λ k. k ≡ id)) c.unwrap.ensures c.new.ensures.value in
    let here = ends_here listing (g.S.Stream.sizes stream) t c.unwrap.result id (of id pairs) ends.0 ends.1 stand.1 given ends.2 in
    let others = c.abandon_all.ensures.ends shared t pairs (id + 1) later in
    let count : id + suc (length rest) ≡ 112 = omega (arith, i.count, ap length order) in
    let fails = end_fails (by_sizes listing t) pairs (ids 1 id) c.loop-stream.whole (state c.args.sink.now) (state c.loop-stream.sink) (state c.finish.new.sink)
    (i.ended shared t pairs all) id ends.0 ends.1 here c.in-Err.failed c.in-Err.failed
    (range_with_len (id + 1) (length rest)) others.0 others.1 others.2 ends.3 in
    (fails.0, fails.1, subst (λ l. EndsOf (by_sizes listing t) pairs l fails.0 fails.1) (ids_parts id (length rest) i.from count) fails.2, fails.3, tt)

pub loop-stream-preserved : goal.loop-stream-preserved
loop-stream-preserved g c =
    let state = g.K.Sink.state in let i = c.loop-stream.invariant in let id = c.loop-stream.id in
    let stream = c.in-Some.stream in let rest = c.pop_front.new.self.items in
    let order : c.loop-stream.ring.items ≡ stream ∷ rest = c.in-Some.ensures.order in
    let ready = IsReady g.S.Stream.broken g.S.Stream.offset i.ready.0 in
    record {
      count = omega (arith, i.count, ap length order);
      stands = λ shared t pairs all.
          let stand = subst (λ l. StandFrom (g.S.Stream.stands shared) g.S.Stream.sizes t id l pairs) order (i.stands shared t pairs all) in
          subst (λ k. StandFrom (g.S.Stream.stands shared) g.S.Stream.sizes t k rest pairs) (let e : suc id ≡ id + 1 = omega arith in e) stand.2;
      ended = λ shared t pairs all.
          let listing = g.S.Stream.listing shared in
          let stand = subst (λ l. StandFrom (g.S.Stream.stands shared) g.S.Stream.sizes t id l pairs) order (i.stands shared t pairs all) in
          let ends = c.in-Ok.ensures.ends shared (of id pairs) stand.0 in
          let given : c.unwrap.result ≡ id = subst (λ r. IfSome r (λ k. k ≡ id)) c.unwrap.ensures c.new.ensures.value in
          let here = ends_here listing (g.S.Stream.sizes stream) t c.unwrap.result id (of id pairs) ends.0 ends.1 stand.1 given ends.2 in
          let wrote = wrote_by (state c.loop-stream.sink) (state c.finish.new.sink) c.in-Ok.one (text_of ends.0) ends.3 in
          subst (λ l. EndedOf (by_sizes listing t) pairs l (c.loop-stream.whole && c.in-Ok.one) (state c.args.sink.now) (state c.finish.new.sink))
          (sym (ids_more id i.from))
          (one_more_ended (by_sizes listing t) pairs (ids 1 id) c.loop-stream.whole (state c.args.sink.now) (state c.loop-stream.sink) (state c.finish.new.sink)
          (i.ended shared t pairs all) id ends.0 ends.1 here c.in-Ok.one ends.4 wrote);
      kept = c.in-Ok.ensures.serves.cause.kept ∙ i.kept;
      shows = c.finish.ensures.serves.shows ∙ i.shows;
      ready = (i.ready.0, All-tail ready stream rest (subst (All ready) order i.ready.1));
      from = omega arith;
    }

pub returns-clause-ends : goal.returns-clause-ends
returns-clause-ends g c shared t pairs all =
    let state = g.K.Sink.state in let i = c.loop-stream.invariant in let id = c.loop-stream.id in
    let none = none_left c.loop-stream.ring.items c.in_default.ensures.empty.1 in
    let last : id ≡ 112 = omega (arith, i.count, ap length none) in
    written_ends (by_sizes (g.S.Stream.listing shared) t) pairs sources c.loop-stream.whole (state c.args.sink.now) (state c.loop-stream.sink)
    (all_ended (by_sizes (g.S.Stream.listing shared) t) pairs id c.loop-stream.whole (state c.args.sink.now) (state c.loop-stream.sink) last (i.ended shared t pairs all))
