use Rattle.std.proofs.Common.{◌++◌, [], arith, ap, sym, ◌∙◌}
use Rattle.sync_frames.specs.Unsyncing.{rest_of, state_of}
use Rattle.sync_frames.proofs.Hunting.{none_found}
use Rattle.sync_frames.proofs.Standing.{all_given}
use Rattle.sync_frames.proofs.unsync.Unsync.finish.Goals as goal

pub returns-in-Hunting-clause-value : goal.returns-in-Hunting-clause-value
returns-in-Hunting-clause-value c = grind (arith, none_found)

pub returns-in-Hunting-clause-all : goal.returns-in-Hunting-clause-all
returns-in-Hunting-clause-all c = let value = returns-in-Hunting-clause-value c in grind (arith, all_given, value)

pub returns-in-Within-clause-all : goal.returns-in-Within-clause-all
returns-in-Within-clause-all c bytes given s =
    all_given c.args.self bytes given s
    ∙ ap (λ l. given ++ l) (ap (λ u. rest_of u []) (sym c.self.view_is ∙ ap state_of c.in-Within.is) ∙ sym c.of-in-Within.ensures)

pub returns-in-TwoOnes-clause-all : goal.returns-in-TwoOnes-clause-all
returns-in-TwoOnes-clause-all c bytes given s =
    all_given c.args.self bytes given s
    ∙ ap (λ l. given ++ l) (ap (λ u. rest_of u []) (sym c.self.view_is ∙ ap state_of c.in-TwoOnes.is) ∙ sym c.of-in-TwoOnes.ensures)

pub returns-in-ThreeOnes-clause-all : goal.returns-in-ThreeOnes-clause-all
returns-in-ThreeOnes-clause-all c bytes given s =
    all_given c.args.self bytes given s
    ∙ ap (λ l. given ++ l) (ap (λ u. rest_of u []) (sym c.self.view_is ∙ ap state_of c.in-ThreeOnes.is) ∙ sym c.of-in-ThreeOnes.ensures)
