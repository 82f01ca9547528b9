use Rattle.std.proofs.Common.{◌≡◌, ◌∙◌, ◌<◌, ◌≤◌, ℕ, List, ap, arith, length, get_or, sym, subst}
use Rattle.std.proofs.lemmas.List.{length-set}
use Rattle.path_counts.specs.declared.targets.Target.{Target}
use Rattle.path_counts.specs.Targets.{Targeting, most_pairs, pair_of}
use Rattle.path_counts.proofs.Added.{Comes, pair_again, rises_again, stands_among, table}
use Rattle.path_counts.proofs.targets.Targets.add_at.Goals as goal

pub invariant_of-self : goal.invariant_of-self
invariant_of-self c = (
  rises_again c.self.inside.entries.items c.args.place _ c.index_mut-target.result.now (ap pair_of c.index_mut-target.ensures.value) c.self.invariant.0,
  subst (λ n. n ≤ most_pairs) (sym (length-set c.self.inside.entries.items c.args.place _)) c.self.invariant.1,
  c.self.invariant.2,
)

pub returns : goal.returns
returns c = λ pairs is.
    let p : ℕ × ℕ = (c.args.from, c.args.to) in
    let items = c.self.inside.entries.items in
    let i = c.args.place in
    let same : c.args.self.now.entries ≡ items = ap (λ (t : Targeting). t.entries) (sym c.self.view_is) in
    let short : i < length items = subst (λ (l : List Target). i < length l) same c.requires.within in
    let there : (d : Target) → pair_of (get_or items i d) ≡ p =
    subst (λ (l : List Target). (d : Target) → pair_of (get_or l i d) ≡ p) same c.requires.there in
    let e = c.index_mut-target.result.now in
    let is_it = c.index_mut-target.ensures.value in
    let pair : pair_of e ≡ p = ap pair_of is_it ∙ there e in
    let comes : Comes most_pairs pairs (table items c.self.inside.more) p i =
    record { table = c.self.view_is ∙ is; within = omega (arith, short); place = stands_among items i p c.self.invariant.0 short there } in
    pair_again most_pairs pairs (table items c.self.inside.more) p i e comes short pair is_it
