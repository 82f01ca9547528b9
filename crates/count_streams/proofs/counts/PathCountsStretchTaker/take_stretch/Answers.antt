use Rattle.std.proofs.Common.{◌≡◌, ◌^◌, List, true, false, append-nil, arith, sym, ap, subst, ◌∙◌}
use Rattle.etm_types.specs.declared.item.Item.{Item}
use Rattle.path_counts.specs.Counts.{Counts}
use Rattle.program_image.proofs.WordPlaces.{few_words}
use Rattle.stream_decoder.specs.Follows.{TakesMore, items_under}
use Rattle.count_streams.proofs.Adding.{takes_more}
use Rattle.count_streams.proofs.Fitting.{counts_fit}
use Rattle.count_streams.proofs.RunItems.{place_within, shown, stretch_items}
use Rattle.count_streams.specs.Counted.{CountsAre, PathCounting, items_alone}
use Rattle.count_streams.proofs.counts.PathCountsStretchTaker.take_stretch.Goals as goal

pub add_words-requires-clause-small : goal.add_words-requires-clause-small
add_words-requires-clause-small c =
    omega (arith, c.fits.ensures.value.0 c.if-fits.true, few_words c.args.image.now (2 ^ 64) c.fits.ensures.parts)

pub add_words-requires-clause-place : goal.add_words-requires-clause-place
add_words-requires-clause-place c =
    omega (arith, c.fits.ensures.value.0 c.if-fits.true, place_within c.args.image.now c.args.stretch c.fits.ensures.parts c.requires.words)

pub add_words-requires-clause-some : goal.add_words-requires-clause-some
add_words-requires-clause-some c = c.requires.words.1.some

pub returns-then-fits : goal.returns-then-fits
returns-then-fits c =
    let image = c.args.image.now in let id = c.args.id in let ctx = c.args._ctx.now in let stretch = c.args.stretch in let more = shown ctx stretch in
    let inside = c.self.inside in let old : PathCounting = record { counts = inside.counter; branches = inside.branches } in
    let new : PathCounting = record { counts = c.add_words.new.self; branches = c.take_stretch.new.self } in
    let words = c.requires.words in
    let counted : Counts image old.counts new.counts more =
    subst (λ (l : List Item). Counts image old.counts new.counts l) (sym (stretch_items ctx stretch))
    (c.add_words.ensures.counted image stretch.start c.fits.ensures.parts (c.fits.ensures.value.0 c.if-fits.true) words.1.place words.0.words ctx) in
    record {
      adds = subst (λ (l : List Item). TakesMore (CountsAre image) c.args.self.now new (items_under id l)) (sym (append-nil more))
          (subst (λ (x : PathCounting). TakesMore (CountsAre image) x new (items_under id more)) c.self.view_is
          (takes_more image id old new more counted (c.take_stretch.ensures ctx)));
      begun = tt;
      space = omega arith;
    }

-- it has the counts of no items over this image
pub returns-else-fits : goal.returns-else-fits
returns-else-fits c =
    record {
      adds = λ items is.
          let counts = ap (λ (x : PathCounting). x.counts) c.self.view_is ∙ is.counts in
          let fits = c.fits.ensures.value.1 (counts_fit c.args.image.now c.self.inside.counter (items_alone items) c.fits.ensures.parts counts) in
          absurd (let e : true ≡ false = sym fits ∙ c.if-fits.false in cc);
      begun = tt;
      space = omega arith;
    }
