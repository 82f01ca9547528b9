use Rattle.std.proofs.Common.{◌≡◌, ◌+◌, ◌%◌, ◌^◌, ◌∙◌, Bool, true, false, refl, sym, subst, ap, arith, List, ℕ, length}
use mir.Val.{bool_byte}
use Rattle.path_counts.specs.Levels.{AreNumbers, one_if}
use Rattle.path_counts.proofs.Points.{number_grows_if}
use Rattle.path_counts.proofs.numbers.Numbers.raise_if.Goals as goal

as_one : (b : Bool) → bool_byte b ≡ one_if b
as_one true = refl
as_one false = refl

pub returns-clause-raised : goal.returns-clause-raised
returns-clause-raised c f are =
    number_grows_if c.args.so c.self.inside.of_places.items f c.args.place c.index.result.now _
    (omega (arith, c.requires, ap (λ (l : List ℕ). length l) c.self.view_is))
    (subst (λ l. AreNumbers l f) (sym c.self.view_is) are) c.index.ensures
    (ap (λ n. (c.index.result.now + n) % 2 ^ 64) (c.from.ensures ∙ as_one c.args.so))
