use Rattle.std.proofs.Common.{◌≡◌, ◌+◌, ◌-◌, ◌*◌, ◌%◌, ◌^◌, ◌<◌, ℕ, suc, List, ◌++◌, length, take, drop, ap, ◌∙◌, arith, append_assoc}
use Rattle.std.proofs.Math.Nat.{mod-eq_of_lt}
use Rattle.std.proofs.lemmas.Result.{err_from_is_err_and}
use Rattle.path_text.specs.Lines.{AtAddress, address_line, last_four_hex}
use Rattle.path_text.specs.Near.{AreNear, DifferInLastFour, IsNearLine}
use Rattle.path_text.specs.PathLines.{instruction_lines}
use Rattle.path_text.proofs.HexLemmas.{at_least_four_hex}
use Rattle.path_text.proofs.AddressLines.{whole_length, whole_changed, same_size}
use Rattle.path_text.proofs.Wrote.{wrote_by, wrote_more, fails_after}
use Rattle.path_text.proofs.path_lines.write_near_lines.Goals as goal

-- the address of the next line: it stands in the same part of 65,536
next_near : (address start count done at : ℕ) → AreNear address start count → done < count → start < 2 ^ 64 → at ≡ (start + 4 * done) % 2 ^ 64
    → DifferInLastFour address at
next_near address start count done at near more fits is =
    let whole : (start + 4 * done) % 2 ^ 64 ≡ start + 4 * done = mod-eq_of_lt (omega (arith, near.1, more, fits)) in
    let there : at ≡ start + 4 * done = is ∙ whole in
    (near.0.0, omega (arith, near.0.1, there), omega (arith, near.0.2, near.1, more, there))

-- the line of that address, once its last four digits are put
line_put : (line : AtAddress) (bytes : List ℕ) (last at : ℕ) → IsNearLine line bytes → DifferInLastFour line.address at → length bytes ≡ last + 1
    → take (last - 4) bytes ++ (last_four_hex at ++ drop last bytes) ≡ address_line line.id at
line_put line bytes last at is near size =
    whole_changed line.id is.0 at last bytes is.1.1 near.1 (omega (arith, is.1.2, near.2)) size is.2

pub put_last_four_hex-requires-clause-room : goal.put_last_four_hex-requires-clause-room
put_last_four_hex-requires-clause-room g c =
    let i = c.loop-done.invariant in
    omega (arith, i.size, whole_length c.args.line.now.id i.line.0 c.loop-done.bytes i.line.2, at_least_four_hex i.line.0 i.line.1.1)

pub returns-in_err-write_bytes-clause-lines : goal.returns-in_err-write_bytes-clause-lines
returns-in_err-write_bytes-clause-lines g c =
    let p = err_from_is_err_and c.from_residual.result c.from_residual.ensures.1 in
    let i = c.loop-done.invariant in let line = c.args.line.now in let address = c.loop-done.address in
    let left = c.args.count - (c.loop-done._done + 1) in
    let near = next_near line.address c.args.start c.args.count c.loop-done._done address c.requires.near (omega arith) (omega arith) i.place in
    let many = whole_length line.id i.line.0 c.loop-done.bytes i.line.2 in
    let put = line_put line c.loop-done.bytes (g.row.L - 1) address i.line near (omega (arith, i.size, many)) in
    let all : suc left ≡ c.args.count - c.loop-done._done = omega arith in
    let text =
    ap (λ t. t ++ instruction_lines line.id ((address + 4) % 2 ^ 64) left) (c.put_last_four_hex.ensures ∙ put)
    ∙ ap (λ n. instruction_lines line.id address n) all in
    rw p.1 (fails_after _ _ _ c.in_err-write_bytes.field-0.0 p.0 i.so_far.0 _ _ _ (ap (λ t. i.so_far.0 ++ t) text ∙ i.so_far.2) i.so_far.1 c.in_err-write_bytes.ensures)

pub returns-in_err-write_bytes-clause-line : goal.returns-in_err-write_bytes-clause-line
returns-in_err-write_bytes-clause-line g c =
    let i = c.loop-done.invariant in let line = c.args.line.now in let address = c.loop-done.address in
    let near = next_near line.address c.args.start c.args.count c.loop-done._done address c.requires.near (omega arith) (omega arith) i.place in
    let many = whole_length line.id i.line.0 c.loop-done.bytes i.line.2 in
    (address, near, c.put_last_four_hex.ensures ∙ line_put line c.loop-done.bytes (g.row.L - 1) address i.line near (omega (arith, i.size, many)))

pub loop-done-preserved : goal.loop-done-preserved
loop-done-preserved g c =
    let i = c.loop-done.invariant in let line = c.args.line.now in let address = c.loop-done.address in
    let done = c.loop-done._done in let left = c.args.count - (done + 1) in let last = g.row.L - 1 in
    let near = next_near line.address c.args.start c.args.count done address c.requires.near (omega arith) (omega arith) i.place in
    let many = whole_length line.id i.line.0 c.loop-done.bytes i.line.2 in
    let four = at_least_four_hex i.line.0 i.line.1.1 in
    let size : length c.loop-done.bytes ≡ last + 1 = omega (arith, i.size, many) in
    let is = c.put_last_four_hex.ensures ∙ line_put line c.loop-done.bytes last address i.line near size in
    let all : suc left ≡ c.args.count - done = omega arith in
    let next = instruction_lines line.id ((address + 4) % 2 ^ 64) left in
    let text = i.so_far.0 in let bytes = c.put_last_four_hex.new.text in
    record {
      line = (address, near, is);
      size = ap length c.put_last_four_hex.ensures ∙ same_size address last c.loop-done.bytes (omega (arith, many, four, size)) size ∙ omega (arith, many, size, i.size);
      place = omega (arith, i.place);
      so_far = (
        text ++ bytes,
        wrote_more _ _ _ _ _ i.so_far.1 (wrote_by _ _ _ _ c.in_ok-write_bytes.ensures),
        append_assoc text bytes next ∙ ap (λ t. text ++ (t ++ next)) is ∙ ap (λ n. text ++ instruction_lines line.id address n) all ∙ i.so_far.2,
      );
    }
