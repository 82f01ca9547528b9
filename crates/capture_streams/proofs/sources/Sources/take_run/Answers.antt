use Rattle.std.proofs.Common.{◌≡◌, ◌+◌, ◌-◌, true, false, sym, ap, subst, ◌∙◌, length, map, arith}
use Rattle.std.specs.Option.{option_copied_mut}
use Rattle.std.specs.Prelude.{All}
use Rattle.std.proofs.lemmas.List.{length-set}
use Rattle.std.proofs.lemmas.List.Elements.{All-set}
use Rattle.capture_streams.specs.Streams.{AllStand, HoldsToDepth, IsReady, Summed}
use Rattle.capture_streams.specs.Texts.{by_sizes, of}
use Rattle.etm_types.specs.Id.{IsId}
use Rattle.capture_streams.proofs.Standing.{is_none_of, map_kept, no_source_moves, one_ready, ready_at, source_moves, source_stands, whole_where_ok}
use Rattle.capture_streams.proofs.Runs.{no_source_adds, source_adds}
use Rattle.capture_streams.proofs.Sums.{no_source_sums, source_sums}
use Rattle.capture_streams.proofs.sources.Sources.take_run.Goals as goal

pub returns-in_default-clause-stands : goal.returns-in_default-clause-stands
returns-in_default-clause-stands g c t pairs all ok =
    let shared = c.args.shared.now in
    let none : IsId c.args.id → ⊥ = λ is. let e : false ≡ true = c.in_default.ensures.some.1 is in cc in
    record {
      count = all.count;
      each = no_source_moves (g.S.Stream.stands shared) g.S.Stream.sizes t c.args.self.now.streams pairs c.args.id c.args.run.now none all.count all.each;
      sum = no_source_sums (g.S.Stream.sums shared) (g.S.Stream.listing shared) t c.args.id pairs c.args.run.now c.args.self.now.sum
          (is_none_of c.args.id none) all.sum;
    }

pub take_run-requires-clause-whole : goal.take_run-requires-clause-whole
take_run-requires-clause-whole g c =
    let at = sym (ap option_copied_mut c.in-Some-get_mut.is) ∙ c.get_mut.follows.0 in
    let ready = IsReady g.S.Stream.broken g.S.Stream.offset c.requires.0 in
    (ready_at ready c.self.inside.ring.items (c.from.result - 1) c.in-Some-get_mut.stream.now (subst (λ (w : Summed g.row.S.Denot g.row.S-Sum.Denot). All ready w.streams) (sym c.self.view_is) c.requires.1) at).whole

pub take_run-requires-clause-few : goal.take_run-requires-clause-few
take_run-requires-clause-few g c =
    let at = sym (ap option_copied_mut c.in-Some-get_mut.is) ∙ c.get_mut.follows.0 in
    let ready = IsReady g.S.Stream.broken g.S.Stream.offset c.requires.0 in
    let one = ready_at ready c.self.inside.ring.items (c.from.result - 1) c.in-Some-get_mut.stream.now (subst (λ (w : Summed g.row.S.Denot g.row.S-Sum.Denot). All ready w.streams) (sym c.self.view_is) c.requires.1) at in
    omega (arith, one.few, c.requires.2)

pub returns-clause-stands : goal.returns-clause-stands
returns-clause-stands g c t pairs all ok =
    let at = sym (ap option_copied_mut c.in-Some-get_mut.is) ∙ c.get_mut.follows.0 in
    let shared = c.args.shared.now in let stands = g.S.Stream.stands shared in let sizes = g.S.Stream.sizes in let stream = c.in-Some-get_mut.stream.now in
    let sums = g.S.Stream.sums shared in let listing = g.S.Stream.listing shared in
    let place : c.from.result - 1 + 1 ≡ c.args.id = omega (arith, c.from.ensures, c.get.ensures.value, c.get.ensures.within.0, c.in-Some.ensures.value) in
    let each = subst (λ w. AllStand stands sizes sums listing t w pairs) (sym c.self.view_is) all in
    let one = source_stands stands sizes t c.self.inside.ring.items pairs c.args.id (c.from.result - 1) stream place each.each at in
    let is : IsId c.args.id = (
      omega (arith, c.get.ensures.within.0, c.get.ensures.value, c.in-Some.ensures.value),
      omega (arith, c.get.ensures.within.1, c.get.ensures.value, c.in-Some.ensures.value),
    ) in
    record {
      count = length-set c.self.inside.ring.items (c.from.result - 1) c.take_run.new.self ∙ each.count;
      each = source_moves stands sizes t c.self.inside.ring.items pairs c.args.id (c.from.result - 1) c.args.run.now stream c.take_run.new.self
          place each.each at (c.take_run.ensures.stands ok (of c.args.id pairs) one.0) c.take_run.ensures.sizes;
      sum = source_sums sums listing t (sizes stream) c.args.id c.in-Some.id pairs c.args.run.now c.self.inside.sum c.take_run.new.sum is
          c.in-Some.ensures.value one.1 (c.take_run.ensures.adds ok (of c.args.id pairs) one.0) each.sum;
    }

pub returns-in_default-clause-adds : goal.returns-in_default-clause-adds
returns-in_default-clause-adds g c t pairs all =
    no_source_adds (by_sizes (g.S.Stream.listing c.args.shared.now) t) c.args.id pairs c.args.run.now (g.K.Sink.state c.args.sink.now) tt
    (is_none_of c.args.id (λ is. let e : false ≡ true = c.in_default.ensures.some.1 is in cc))

pub returns-clause-adds : goal.returns-clause-adds
returns-clause-adds g c t pairs all =
    let at = sym (ap option_copied_mut c.in-Some-get_mut.is) ∙ c.get_mut.follows.0 in
    let shared = c.args.shared.now in let stands = g.S.Stream.stands shared in let sizes = g.S.Stream.sizes in
    let place : c.from.result - 1 + 1 ≡ c.args.id = omega (arith, c.from.ensures, c.get.ensures.value, c.get.ensures.within.0, c.in-Some.ensures.value) in
    let each = subst (λ w. AllStand stands sizes (g.S.Stream.sums shared) (g.S.Stream.listing shared) t w pairs) (sym c.self.view_is) all in
    let one = source_stands stands sizes t c.self.inside.ring.items pairs c.args.id (c.from.result - 1) c.in-Some-get_mut.stream.now place each.each at in
    let is : IsId c.args.id = (
      omega (arith, c.get.ensures.within.0, c.get.ensures.value, c.in-Some.ensures.value),
      omega (arith, c.get.ensures.within.1, c.get.ensures.value, c.in-Some.ensures.value),
    ) in
    source_adds (g.S.Stream.listing shared) (sizes c.in-Some-get_mut.stream.now) t c.args.id c.in-Some.id pairs c.args.run.now _ _ _ is
    c.in-Some.ensures.value one.1 (c.take_run.ensures.gains (of c.args.id pairs) one.0)

pub returns-clause-sizes : goal.returns-clause-sizes
returns-clause-sizes g c =
    let at = sym (ap option_copied_mut c.in-Some-get_mut.is) ∙ c.get_mut.follows.0 in
    map_kept g.S.Stream.sizes c.self.inside.ring.items (c.from.result - 1) c.in-Some-get_mut.stream.now c.take_run.new.self at c.take_run.ensures.sizes
    ∙ ap (λ (w : Summed g.row.S.Denot g.row.S-Sum.Denot). map g.S.Stream.sizes w.streams) c.self.view_is

pub returns-clause-most : goal.returns-clause-most
returns-clause-most g c all =
    let at = sym (ap option_copied_mut c.in-Some-get_mut.is) ∙ c.get_mut.follows.0 in
    let to_depth = HoldsToDepth g.S.Stream.held g.S.Stream.sizes in
    let each = subst (λ (w : Summed g.row.S.Denot g.row.S-Sum.Denot). All to_depth w.streams) (sym c.self.view_is) all in
    All-set to_depth c.self.inside.ring.items (c.from.result - 1) c.take_run.new.self
    (c.take_run.ensures.most (ready_at to_depth c.self.inside.ring.items (c.from.result - 1) c.in-Some-get_mut.stream.now each at)) each

pub returns-clause-ready : goal.returns-clause-ready
returns-clause-ready g c most all ok =
    let at = sym (ap option_copied_mut c.in-Some-get_mut.is) ∙ c.get_mut.follows.0 in
    one_ready g.S.Stream.broken g.S.Stream.offset most (length c.args.run.now) (c.from.result - 1) c.self.inside.ring.items c.in-Some-get_mut.stream.now c.take_run.new.self
    (subst (λ (w : Summed g.row.S.Denot g.row.S-Sum.Denot). All (IsReady g.S.Stream.broken g.S.Stream.offset most) w.streams) (sym c.self.view_is) all) at
    (whole_where_ok (g.S.Stream.broken c.take_run.new.self) c.take_run.result ok c.take_run.ensures.broken) (c.take_run.ensures.offset ok)
