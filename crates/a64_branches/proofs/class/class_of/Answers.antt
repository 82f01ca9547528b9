use Rattle.std.proofs.Common.{◌∙◌, sym}
use Rattle.a64_branches.proofs.Order.{plain_outside, same_class}
use Rattle.a64_branches.proofs.class.class_of.Goals as goal

pub returns-then-fits-clause-value : goal.returns-then-fits-clause-value
returns-then-fits-clause-value c = c.class_in_group.ensures ∙ same_class c.args.word

pub returns-else-fits-clause-value : goal.returns-else-fits-clause-value
returns-else-fits-clause-value c = sym (plain_outside c.args.word (sym c.fits.ensures ∙ c.if-fits.false))
