use Rattle.std.proofs.Common.{◌≡◌, ◌+◌, ◌-◌, ◌*◌, ◌/◌, ◌++◌, take, drop, ap, sym, ◌∙◌, arith, append-nil}
use Rattle.std.specs.Prelude.{map}
use Rattle.etm_types.specs.Atoms.{low_bits}
use Rattle.path_text.specs.PacketLines.{letter}
use Rattle.path_text.proofs.Fours.{four_put, front_of_letters}
use Rattle.path_text.proofs.letters.put_atoms.Goals as goal

pub loop-four-preserved : goal.loop-four-preserved
loop-four-preserved c =
    let i = c.loop-four.invariant in let text = c.loop-four.text in let rest = c.loop-four.rest in let k = c.loop-four.four in
    let at = c.args.start + 4 * k in let next = c.args.start + 4 * (k + 1) in let n = 24 - 4 * (k + 1) in
    let there : next ≡ at + 4 = omega arith in
    let left : n + 4 ≡ 24 - 4 * k = omega (arith, c.loop-four-test.true) in
    record {
      len = c.put_four.auto.text ∙ i.len;
      so_far = ap (λ t. take next t ++ map letter (low_bits n (rest / 16))) (c.put_four.ensures
          ∙ ap (λ m. take at text ++ (map letter (low_bits 4 rest) ++ drop m text)) (sym there))
          ∙ four_put at next n rest text (omega (arith, i.len, c.requires.room, c.loop-four-test.true)) there
          ∙ ap (λ m. take at text ++ map letter (low_bits m rest)) left ∙ i.so_far;
    }

pub returns-clause-letters : goal.returns-clause-letters
returns-clause-letters c =
    let i = c.loop-four.invariant in let text = c.loop-four.text in let run = c.args.run.now in let old = c.args.text.now in
    let last : c.loop-four.four ≡ 6 = omega (arith, c.loop-four-test.false, c.loop-four.auto.four-end) in
    let none : 24 - 4 * c.loop-four.four ≡ 0 = omega (arith, last) in
    let end : c.args.start + 24 ≡ c.args.start + 4 * c.loop-four.four = omega (arith, last) in
    let all = sym (append-nil (take (c.args.start + 24) text))
    ∙ ap (λ n. take n text ++ map letter (low_bits 0 c.loop-four.rest)) end
    ∙ ap (λ m. take (c.args.start + 4 * c.loop-four.four) text ++ map letter (low_bits m c.loop-four.rest)) (sym none) ∙ i.so_far in
    front_of_letters c.args.start run.count run.bits text old c.requires.most (omega (arith, c.requires.room)) all
