use Rattle.std.proofs.Common.{◌^◌, arith}
use Rattle.std.proofs.lemmas.Option.{slice_get_within}
use Rattle.program_image.specs.Places.{word_addresses}
use Rattle.program_image.proofs.WordPlaces.{few_words, length_addresses}
use Rattle.path_counts.proofs.Counted.{no_run, no_words}
use Rattle.path_counts.proofs.counter.Counter.add_run.Goals as goal

pub add_words-requires-clause-small : goal.add_words-requires-clause-small
add_words-requires-clause-small c = omega (arith, c.requires, few_words c.args.image.now (2 ^ 64) c.in-Some.ensures.parts)

pub add_words-requires-clause-place : goal.add_words-requires-clause-place
add_words-requires-clause-place c =
    omega (
      arith,
      c.requires,
      slice_get_within (word_addresses c.args.image.now) c.in-Some.place c.args.start c.in-Some.ensures.place,
      length_addresses c.args.image.now c.in-Some.ensures.parts.parts,
    )

pub returns-then-count-eq0-clause-counted : goal.returns-then-count-eq0-clause-counted
returns-then-count-eq0-clause-counted c = λ are ctx.
    no_run c.args.image.now c.args.self.now c.args.start c.args.count ctx c.args.took (omega (arith, c.if-count-eq0.true))

pub returns-in-Some-clause-counted : goal.returns-in-Some-clause-counted
returns-in-Some-clause-counted c = λ are ctx.
    c.add_words.ensures.counted c.args.image.now c.args.start c.in-Some.ensures.parts c.requires c.in-Some.ensures.place are ctx

pub returns-in-None-clause-counted : goal.returns-in-None-clause-counted
returns-in-None-clause-counted c = λ are ctx.
    no_run c.args.image.now c.args.self.now c.args.start c.args.count ctx c.args.took
    (no_words c.args.image.now c.args.start c.args.count (omega arith) c.in-None.ensures.place are)
