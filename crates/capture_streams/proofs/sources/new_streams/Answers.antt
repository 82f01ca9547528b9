use Rattle.std.proofs.Common.{◌≡◌, ◌∷◌, ◌+◌, [], length, sym, ap, subst, ◌∙◌, arith, length-append}
use Rattle.std.specs.Prelude.{All}
use Rattle.std.proofs.lemmas.List.Elements.{All-append, All-cons, All-nil}
use Rattle.capture_streams.specs.Streams.{HoldsToDepth, IsReady, StandFrom}
use Rattle.etm_types.specs.SettingsTable.{sizes_at}
use Rattle.capture_streams.proofs.Standing.{one_more}
use Rattle.capture_streams.proofs.sources.new_streams.Goals as goal

pub loop-id-preserved : goal.loop-id-preserved
loop-id-preserved g c =
    let ready = IsReady g.S.Stream.broken g.S.Stream.offset 0 in
    let to_depth = HoldsToDepth g.S.Stream.held g.S.Stream.sizes in
    let table = sizes_at c.args.table.now in
    let i = c.loop-id.invariant in
    let more : length c.add.new.ring.items ≡ length c.loop-id.ring.items + 1 =
    ap length c.add.ensures.items ∙ length-append c.loop-id.ring.items (c.in-Ok.stream ∷ []) in
    let id : c.in-Some.id ≡ 1 + length c.loop-id.ring.items = c.in-Some.ensures.value ∙ i.place in
    let own = c.in-Ok.ensures.sizes ∙ c.get.ensures.value ∙ ap table id in
    record {
      capacity = c.add.ensures.capacity ∙ i.capacity;
      place = omega (arith, i.place, more);
      few = omega (arith, more, i.place, c.in-Some.ensures);
      stands = λ shared.
          subst (λ l. StandFrom (g.S.Stream.stands shared) g.S.Stream.sizes table 1 l []) (sym c.add.ensures.items)
          (one_more (g.S.Stream.stands shared) g.S.Stream.sizes table 1 c.loop-id.ring.items c.in-Ok.stream
          (i.stands shared) (c.in-Ok.ensures.stands shared) own);
      ready = subst (All ready) (sym c.add.ensures.items)
          (All-append ready c.loop-id.ring.items (c.in-Ok.stream ∷ []) i.ready
          (All-cons ready c.in-Ok.stream [] (record { whole = c.in-Ok.ensures.ready.0; few = omega (arith, c.in-Ok.ensures.ready.1) }) (All-nil ready)));
      most = subst (All to_depth) (sym c.add.ensures.items)
          (All-append to_depth c.loop-id.ring.items (c.in-Ok.stream ∷ []) i.most
          (All-cons to_depth c.in-Ok.stream [] c.in-Ok.ensures.most (All-nil to_depth)));
    }
