use Rattle.std.proofs.Common.{◌≡◌, ◌+◌, ◌-◌, ◌*◌, ◌%◌, ◌^◌, ◌++◌, [], ap, ◌∙◌, arith, append_assoc}
use Rattle.std.proofs.lemmas.Result.{err_from_is_err_and}
use Rattle.path_text.specs.PathLines.{instruction_lines}
use Rattle.path_text.proofs.LineLemmas.{instruction_lines-parts}
use Rattle.path_text.proofs.Putting.{put_by, put_fails, put_kept, put_more, then_puts}
use Rattle.path_text.proofs.line_block.LineBlock.put_instructions.Goals as goal

pub returns-then-address-lt4096-clause-puts : goal.returns-then-address-lt4096-clause-puts
returns-then-address-lt4096-clause-puts g c =
    let i = c.loop-left.invariant in
    let all = ap (λ n. i.so_far.0 ++ instruction_lines n c.loop-left.address c.loop-left.left) i.same_id ∙ i.so_far.2 in
    then_puts _ _ _ c.put_one_by_one.result _ _ _ _ _ _ all i.so_far.1 c.put_one_by_one.ensures.puts

pub returns-in_err-make_room-clause-puts : goal.returns-in_err-make_room-clause-puts
returns-in_err-make_room-clause-puts g c =
    let p = err_from_is_err_and c.from_residual.result c.from_residual.ensures.1 in let i = c.loop-left.invariant in
    let rest = instruction_lines c.args.self.now.id c.loop-left.address c.loop-left.left in
    rw p.1 (put_fails _ _ _ c.in_err-make_room.field-0.0 p.0 _ _ _ _ i.so_far.0 [] rest _ i.so_far.2 i.so_far.1 c.in_err-make_room.ensures.puts)

pub loop-left-preserved : goal.loop-left-preserved
loop-left-preserved g c =
    let i = c.loop-left.invariant in let id = c.args.self.now.id in let address = c.loop-left.address in let left = c.loop-left.left in
    let text = i.so_far.0 in let room = c.make_room.new.self in let done = c.put_some-done.result in
    let others = c.in_ok-make_room.ensures.others in let put = c.put_some-done.ensures.put in
    let same_id : room.id ≡ id = ap (λ b. b.id) others ∙ i.same_id in
    let next : (address + 4 * done) % 2 ^ 64 ≡ (address + done * 4) % 2 ^ 64 = omega arith in
    let lines = instruction_lines room.id address done in
    record {
      same_id = ap (λ b. b.id) put ∙ same_id;
      same_shown = ap (λ b. b.shown) put ∙ ap (λ b. b.shown) others ∙ i.same_shown;
      so_far = (
        text ++ lines,
        put_more _ _ _ _ _ _ text lines i.so_far.1
            (put_more _ _ _ _ _ _ [] lines (put_by _ _ _ _ _ _ c.in_ok-make_room.ensures.puts) (put_kept _ _ _ lines (ap (λ b. b.put) put))),
        append_assoc text lines (instruction_lines id ((address + 4 * done) % 2 ^ 64) (left - done))
            ∙ ap (λ n. text ++ (instruction_lines n address done ++ instruction_lines id ((address + 4 * done) % 2 ^ 64) (left - done))) same_id
            ∙ ap (λ n. text ++ (instruction_lines id address done ++ instruction_lines id n (left - done))) next
            ∙ ap (λ t. text ++ t) (instruction_lines-parts id address done left c.put_some-done.ensures.some c.put_some-done.ensures.most.0)
            ∙ i.so_far.2,
      );
    }
