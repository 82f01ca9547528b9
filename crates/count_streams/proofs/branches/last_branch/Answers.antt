use Rattle.std.proofs.Common.{◌∙◌, sym}
use Rattle.count_streams.proofs.Walking.{is_branch, is_nothing, is_other, left_some, left_taken}
use Rattle.count_streams.proofs.branches.last_branch.Goals as goal

pub returns-then-took : goal.returns-then-took
returns-then-took c ctx left =
    sym (left_taken c.args.image.now ctx c.args.start c.args.count c.args.took left c.requires.some c.ranges.start.fits (c.requires.cond c.if-took.true))

pub returns-in-Some : goal.returns-in-Some
returns-in-Some c ctx left =
    sym (left_some c.args.image.now ctx c.args.start c.args.count c.args.took left c.requires.some c.ranges.start.fits
    ∙ is_branch c.args.image.now _ c.in-Some.word (sym c.word_at.ensures.value ∙ c.in-Some.is)
    (sym c.is_pointer_branch.ensures ∙ c.if-is_pointer_branch.true))

pub returns-in_default : goal.returns-in_default
returns-in_default c ctx left =
    sym (left_some c.args.image.now ctx c.args.start c.args.count c.args.took left c.requires.some c.ranges.start.fits
    ∙ is_other c.args.image.now _ c.in-Some.word (sym c.word_at.ensures.value ∙ c.in-Some.is)
    (sym c.is_pointer_branch.ensures ∙ c.if-is_pointer_branch.false))

pub returns-in_default-2 : goal.returns-in_default-2
returns-in_default-2 c ctx left =
    sym (left_some c.args.image.now ctx c.args.start c.args.count c.args.took left c.requires.some c.ranges.start.fits
    ∙ is_nothing c.args.image.now _ (sym c.word_at.ensures.value ∙ c.in_default.is))
