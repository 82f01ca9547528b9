use Rattle.std.proofs.Common.{arith, sym, ◌∙◌}
use Rattle.packet_reader.proofs.Fronts.{short_1, short_2}
use Rattle.packet_reader.proofs.front.short_at.Goals as goal

pub returns-then-is_last-clause-front : goal.returns-then-is_last-clause-front
returns-then-is_last-clause-front c s =
    short_1 s _ _ c.in_ok-a.a.now _ c.in_ok-a.ensures.cases.0 (sym c.is_last.ensures ∙ c.if-is_last.true) (omega (arith, c.from.ensures))

pub returns-clause-front : goal.returns-clause-front
returns-clause-front c s =
    short_2 s _ _ _ c.in_ok-a.a.now c.in_ok-b.b.now _ c.in_ok-a.ensures.cases.0 c.in_ok-b.ensures.cases.0 (sym c.is_last.ensures ∙ c.if-is_last.false)
    (omega (arith, c.from-2.ensures, c.from-3.ensures))
