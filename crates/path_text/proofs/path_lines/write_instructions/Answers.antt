use Rattle.std.proofs.Common.{◌+◌, ◌-◌, ◌*◌, ◌%◌, ◌^◌, ◌<◌, ◌≤◌, ◌++◌, ap, ◌∙◌, arith, append_assoc}
use Rattle.std.proofs.lemmas.Result.{err_from_is_err_and}
use Rattle.path_text.specs.PathLines.{instruction_lines}
use Rattle.path_text.proofs.Wrote.{wrote_by, wrote_more, fails_after}
use Rattle.path_text.proofs.LineLemmas.{instruction_lines-parts}
use Rattle.path_text.proofs.path_lines.write_instructions.Goals as goal

pub returns-in_err-write_near-clause-lines : goal.returns-in_err-write_near-clause-lines
returns-in_err-write_near-clause-lines g c =
    let p = err_from_is_err_and c.from_residual.result c.from_residual.ensures.1 in
    let i = c.loop-left.invariant in let id = c.args.line.now.id in let address = c.loop-left.address in let left = c.loop-left.left in
    let near = c.min-near.result in let moved = c.move_to.new.self in
    let some : 0 < near = omega (arith, c.min-near.ensures, c.near_lines.ensures.some, c.loop-left-test.true) in
    let few : near ≤ left = omega (arith, c.min-near.ensures) in
    let text = ap (λ n. instruction_lines n moved.address near ++ instruction_lines id ((address + near * 4) % 2 ^ 64) (left - near)) (c.move_to.ensures.id ∙ i.same_id)
    ∙ ap (λ n. instruction_lines id n near ++ instruction_lines id ((address + near * 4) % 2 ^ 64) (left - near)) c.move_to.ensures.address
    ∙ instruction_lines-parts id address near left some few in
    rw p.1 (fails_after _ _ _ c.in_err-write_near.field-0.0 p.0 i.so_far.0 _ _ _ (ap (λ t. i.so_far.0 ++ t) text ∙ i.so_far.2) i.so_far.1 c.in_err-write_near.ensures)

pub loop-left-preserved : goal.loop-left-preserved
loop-left-preserved g c =
    let i = c.loop-left.invariant in let id = c.args.line.now.id in let address = c.loop-left.address in let left = c.loop-left.left in
    let near = c.min-near.result in let moved = c.move_to.new.self in let text = i.so_far.0 in
    let some : 0 < near = omega (arith, c.min-near.ensures, c.near_lines.ensures.some, c.loop-left-test.true) in
    let few : near ≤ left = omega (arith, c.min-near.ensures) in
    let rest = instruction_lines id ((address + near * 4) % 2 ^ 64) (left - near) in
    record {
      same_id = c.move_to.ensures.id ∙ i.same_id;
      so_far = (
        text ++ instruction_lines moved.id moved.address near,
        wrote_more _ _ _ _ _ i.so_far.1 (wrote_by _ _ _ _ c.in_ok-write_near.ensures),
        append_assoc text (instruction_lines moved.id moved.address near) rest
            ∙ ap (λ n. text ++ (instruction_lines n moved.address near ++ rest)) (c.move_to.ensures.id ∙ i.same_id)
            ∙ ap (λ n. text ++ (instruction_lines id n near ++ rest)) c.move_to.ensures.address
            ∙ ap (λ t. text ++ t) (instruction_lines-parts id address near left some few) ∙ i.so_far.2,
      );
    }
