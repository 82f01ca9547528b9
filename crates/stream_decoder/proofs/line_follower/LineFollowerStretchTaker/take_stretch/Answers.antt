use Rattle.std.proofs.Common.{List, [], ◌++◌, refl, sym, subst}
use Rattle.etm_types.specs.Walked.{instructions, items_of}
use Rattle.etm_types.specs.declared.item.Item.{Item}
use Rattle.path_text.specs.Blocks.{Block}
use Rattle.path_walker.specs.Walk.{walked_in}
use Rattle.stream_decoder.specs.LineFollowing.{following}
use Rattle.stream_decoder.specs.LinesPut.{TakesLines}
use Rattle.stream_decoder.proofs.NearLines.{near_taken, stretch_alone}
use Rattle.stream_decoder.proofs.line_follower.LineFollowerStretchTaker.take_stretch.Goals as goal

pub returns-then-not-put_near-clause-adds : goal.returns-then-not-put_near-clause-adds
returns-then-not-put_near-clause-adds g c =
    let old = c.args.self.now in let new = c.put_far.new.self in let s = g.K.Sink.state old.sink.now in let far = c.put_far.ensures in
    let after = following (g.K.Sink.state new.sink.now) new.lines.now new.result in let stretch = c.args.stretch in
    let items = instructions c.args.ctx.now stretch.start stretch.count stretch.took in (
      far.same.0,
      far.same.1,
      subst (λ (items : List Item). TakesLines (following s old.lines.now old.result) items after) (sym (stretch_alone c.args.ctx.now stretch))
          (subst (λ (b : Block). TakesLines (following s b old.result) items after) (c.if-not-put_near.ensures.unchanged refl) (far.takes stretch.took)),
    )

pub returns-else-not-put_near-clause-adds : goal.returns-else-not-put_near-clause-adds
returns-else-not-put_near-clause-adds g c =
    let old = c.args.self.now in let s = g.K.Sink.state old.sink.now in let near = c.if-not-put_near.ensures in
    let items = items_of (walked_in c.args.ctx.now c.args.stretch) ++ [] in (
      refl,
      refl,
      subst (λ (b : Block). TakesLines (following s old.lines.now old.result) items (following s b old.result)) (sym (near.put refl))
          (near_taken s old.lines.now old.result c.args.ctx.now c.args.stretch c.requires.begun (near.near refl)),
    )
