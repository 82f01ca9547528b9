use Rattle.std.proofs.Common.{◌≡◌, ◌+◌, ◌-◌, ◌/◌, ◌%◌, ◌++◌, ◌∷◌, ◌≤◌, ◌∙◌, ap, length, take, drop, arith}
use Rattle.std.proofs.lemmas.List.{length-take-le, take_at}
use Rattle.path_text.specs.Lines.{digit, hex}
use Rattle.path_text.proofs.HexLemmas.{two_more_hex_digits, put_two_hex}
use Rattle.path_text.proofs.DigitLemmas.{take_less}
use Rattle.path_text.proofs.digits.put_hex.Goals as goal

pub overflow_sub-at : goal.overflow_sub-at
overflow_sub-at c = omega (arith, c.loop-rest.invariant.place, c.requires.room, two_more_hex_digits c.loop-rest.rest c.loop-rest-test.true)

pub put_byte-requires : goal.put_byte-requires
put_byte-requires c =
    let i = c.loop-rest.invariant in
    omega (arith, i.place, i.within, i.len, c.requires.room, c.requires.within, two_more_hex_digits c.loop-rest.rest c.loop-rest-test.true)

pub loop-rest-preserved : goal.loop-rest-preserved
loop-rest-preserved c =
    let i = c.loop-rest.invariant in let rest = c.loop-rest.rest in let at = c.loop-rest.at - 2 in let text = c.loop-rest.text in
    let more = two_more_hex_digits rest c.loop-rest-test.true in
    let next : at + 2 ≡ c.loop-rest.at = omega (arith, i.place, c.requires.room, more) in
    let inside : at + 2 ≤ length text = omega (arith, next, i.within, i.len, c.requires.within) in
    let later = digit (rest % 256 / 16) ∷ digit (rest % 256 % 16) ∷ drop (at + 2) text in
    record {
      len = c.put_byte.auto.text ∙ i.len;
      within = omega (arith, i.within);
      place = omega (arith, more, next, i.place);
      before = ap (take at) c.put_byte.ensures ∙ take_at (take at text) later at (length-take-le at text (omega (arith, inside)))
          ∙ take_less at c.loop-rest.at text c.args.text.now (omega arith) i.before;
      so_far = ap (λ t. hex (rest / 256) ++ drop at t) c.put_byte.ensures ∙ put_two_hex rest at text c.loop-rest-test.true inside
          ∙ ap (λ k. hex rest ++ drop k text) next ∙ i.so_far;
    }

pub returns : goal.returns
returns c =
    let i = c.loop-rest.invariant in let rest = c.loop-rest.rest in let at = c.loop-rest.at in let old = c.args.text.now in
    let all = hex c.args.n ++ drop c.args.end old in
    let start : at - length (hex rest) ≡ c.args.end - length (hex c.args.n) = omega (arith, i.place, c.requires.room) in
    c.put_short_hex.ensures ∙ ap (λ t. take (at - length (hex rest)) c.loop-rest.text ++ t) i.so_far
    ∙ ap (λ t. t ++ all) (take_less (at - length (hex rest)) at c.loop-rest.text old (omega arith) i.before)
    ∙ ap (λ k. take k old ++ all) start
