use Rattle.std.proofs.Common.{◌≡◌, ◌+◌, ◌-◌, ◌*◌, ◌/◌, ◌%◌, ◌<◌, ◌∷◌, ◌++◌, take, sym, ap, ◌∙◌, arith, append_assoc}
use Rattle.path_text.specs.Lines.{digit}
use Rattle.path_text.specs.PageLines.{line_end, line_head}
use Rattle.path_text.specs.PathLines.{instruction_lines}
use Rattle.path_text.proofs.PageLemmas.{line_behind}
use Rattle.path_text.proofs.page_lines.put_lines.Goals as goal

pub put_line-requires-clause-within : goal.put_line-requires-clause-within
put_line-requires-clause-within c = omega (arith, c.loop-place.invariant.short, c.loop-place-test.true, c.loop-place.auto.block, c.requires.within)

pub loop-place-preserved : goal.loop-place-preserved
loop-place-preserved c =
    let start = c.args.start in let first = start / 4 % 1024 in let place = c.loop-place.place in let done = place - first in
    let end = c.loop-place.end in let len = c.args.len in let fourth = digit (start / 4096 % 16) in
    let there : place ≡ start / 4 % 1024 + done = omega (arith, c.loop-place.auto.place) in
    let more : place + 1 - first ≡ done + 1 = omega (arith, c.loop-place.auto.place) in
    let near : start % 4096 + 4 * done < 4096 = omega (arith, c.requires.near, c.requires.start, c.loop-place-test.true, there) in
    let all : end + (len + 5) ≡ end + len + 5 = omega arith in
    record {
      short = omega (arith, c.loop-place.invariant.short, c.requires.len, more);
      lines = λ id head.
          let before = take c.args.at c.args.block.now in let lines = instruction_lines id start done in
          ap (λ n. take n c.put_line.new.block) all ∙ c.put_line.ensures
          ∙ ap (λ t. t ++ (take len c.args.head.now ++ (c.digit-fourth.result ∷ c.end_of.result))) (c.loop-place.invariant.lines id head)
          ∙ ap (λ t. (before ++ lines) ++ (t ++ (c.digit-fourth.result ∷ c.end_of.result))) head
          ∙ ap (λ d. (before ++ lines) ++ (line_head id start ++ (d ∷ c.end_of.result))) c.digit-fourth.ensures
          ∙ ap (λ t. (before ++ lines) ++ (line_head id start ++ (fourth ∷ t))) c.end_of.ensures
          ∙ append_assoc before lines (line_head id start ++ (fourth ∷ line_end place))
          ∙ ap (λ t. before ++ t) (line_behind id start done place c.requires.start.0 c.requires.start.1 (omega arith) near there)
          ∙ ap (λ n. before ++ instruction_lines id start n) (sym more);
    }
