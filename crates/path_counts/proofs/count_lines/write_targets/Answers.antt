use Rattle.std.proofs.Common.{◌+◌, ◌≤◌, ◌<◌, ◌++◌, ◌∷◌, ◌∙◌, [], sym, ap, subst, arith, append_assoc, append-nil, drop, get_or}
use Rattle.std.proofs.lemmas.Result.{err_from_is_err_and}
use Rattle.std.proofs.lemmas.List.Elements.{All-weaker}
use Rattle.path_text.proofs.Wrote.{Wrote, wrote_nothing, wrote_by, wrote_more, writes_all, fails_after}
use Rattle.path_counts.specs.declared.targets.Target.{Target}
use Rattle.path_counts.specs.CountLines.{from_entries, to_lines}
use Rattle.path_counts.proofs.FromEntries.{lines_next, none_from_lower, none_left, upto_more}
use Rattle.path_counts.proofs.count_lines.write_targets.Goals as goal

pub loop-sink-init : goal.loop-sink-init
loop-sink-init g c = record {
  within = c.requires.next;
  upto = All-weaker (λ (e : Target). e.from < c.args.addr) (λ (e : Target). e.from ≤ c.args.addr) (λ e lt. omega (arith, lt)) _ c.requires.before;
  so_far = ([], wrote_nothing _, ap to_lines (none_from_lower c.args.entries.now c.args.next c.args.addr c.requires.before));
}

pub loop-sink-preserved : goal.loop-sink-preserved
loop-sink-preserved g c =
    let i = c.loop-sink.invariant in
    let entries = c.args.entries.now in
    let a = c.args.addr in
    let at = c.loop-sink.at in
    let none : Target = record { from = 0; to = 0; times = 0 } in
    let there = c.is_upto.ensures.there c.loop-sink-test.true in
    let text = wrote_by _ _ _ _ c.in_ok-write_if_from.ensures in
    let next = lines_next entries at a none there.0 in
    let rest = to_lines (from_entries a (drop (at + 1) entries)) in
    record {
      within = omega (arith, there.0);
      upto = upto_more entries at a none there.0 (there.1 none) i.upto;
      so_far = (
        i.so_far.0 ++ to_lines (from_entries a (get_or entries at none ∷ [])),
        wrote_more _ _ _ _ _ i.so_far.1 text,
        append_assoc i.so_far.0 (to_lines (from_entries a (get_or entries at none ∷ []))) rest ∙ ap (λ t. i.so_far.0 ++ t) (sym next) ∙ i.so_far.2,
      );
    }

pub returns-in_err-write_if_from : goal.returns-in_err-write_if_from
returns-in_err-write_if_from g c =
    let p = err_from_is_err_and c.from_residual.result c.from_residual.ensures.1 in
    let i = c.loop-sink.invariant in
    let entries = c.args.entries.now in
    let a = c.args.addr in
    let at = c.loop-sink.at in
    let none : Target = record { from = 0; to = 0; times = 0 } in
    let there = c.is_upto.ensures.there c.loop-sink-test.true in
    let next = lines_next entries at a none there.0 in
    record {
      text = rw p.1 (fails_after _ _ _ c.in_err-write_if_from.field-0.0 p.0 i.so_far.0 _ _ _ (ap (λ t. i.so_far.0 ++ t) (sym next) ∙ i.so_far.2) i.so_far.1
          c.in_err-write_if_from.ensures);
      within = rw p.1 tt;
      before = rw p.1 tt;
    }

pub returns : goal.returns
returns g c =
    let i = c.loop-sink.invariant in
    let none = none_left c.args.entries.now c.loop-sink.at c.args.addr c.requires.order (c.is_upto.ensures.past c.loop-sink-test.false) in
    let all = sym (append-nil i.so_far.0) ∙ ap (λ t. i.so_far.0 ++ t) (sym none) ∙ i.so_far.2 in
    record {
      text = writes_all _ _ _ _ (subst (Wrote _ _) all i.so_far.1);
      within = i.within;
      before = i.upto;
    }
