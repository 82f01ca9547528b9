use Rattle.std.proofs.Common.{◌≡◌, ◌<◌, ◌∙◌, ap, arith, length, refl, subst, sym}
use Rattle.spec_run.specs.Checks.{held_at}
use Rattle.spec_run.specs.Steps.{p0s}
use Rattle.spec_run.specs.Windows.{place_of_standing}
use Rattle.spec_run.proofs.ManySteps.{held_more, held_size, plain_counts, stepped_more}
use Rattle.spec_run.proofs.Windows.{held_there, pushed}
use Rattle.spec_run.proofs.run.Run.hold_plain.Goals as goal

pub loop-preserved : goal.loop-preserved
loop-preserved c =
    let i = c.loop.invariant in
    let r = c.self.inside in
    let held = c.loop.self-inside.held in
    let p = place_of_standing c.loop.standing held.items in
    let s = c.step.result in
    let was : length (held_at c.args.self.now.place) ≡ length r.held.items =
    ap (λ v. length (held_at v.place)) (sym c.self.view_is) ∙ ap length (held_there r.standing r.held.items c.self.invariant.off) in
    let room : length held.items < held.capacity = omega (arith, c.requires.room, was, i.size, i.capacity, c.self.invariant.room) in
    let more = pushed held.items held.capacity s c.push_back.new.self c.push_back.ensures.items room in
    let items = ap (λ b. b.items) more in
    let same = c.step.ensures held.items in record {
      depth = i.depth;
      capacity = ap (λ b. b.capacity) more ∙ i.capacity;
      counted = i.counted;
      same = ap p0s items ∙ plain_counts p held.items s _ same ∙ i.same;
      size = let size = held_size held.items c.push_back.new.self.items s items in omega (arith, size, i.size);
      there = held_more r.depth _ _ c.loop.standing held.items c.push_back.new.self.items s
          (subst (λ d. 0 < d) (ap (λ v. v.depth) (sym c.self.view_is)) c.requires.deep) i.there same refl items
          ∙ stepped_more r.depth _ c.loop.counter _ (omega arith);
    }
