use Rattle.std.proofs.Common.{◌≡◌, ◌∙◌, ◌≤◌, true, length, rules, sym}
use Rattle.std.specs.Char.{is_ascii_digit}
use Rattle.std.specs.List.{list_all}
use Rattle.line_words.proofs.Decimals.{decimal_parsed, never_no_text, text_is}
use Rattle.line_words.proofs.numbers.decimal.Goals as goal

pub returns-in_err-ok : goal.returns-in_err-ok
returns-in_err-ok c =
    let all : list_all is_ascii_digit c.args.digits.now ≡ true = search rules in
    absurd (never_no_text c.from_utf8.result c.args.digits.now _ _ c.from_utf8.ensures.cases all (sym c.ok.ensures.value ∙ c.in_err-ok.was))

pub returns : goal.returns
returns c =
    let all : list_all is_ascii_digit c.args.digits.now ≡ true = search rules in
    let some : 1 ≤ length c.args.digits.now = search rules in
    let few : length c.args.digits.now ≤ 10 = search rules in
    let same =
    text_is c.from_utf8.result c.in_ok-ok.field-0 c.args.digits.now (λ s. s.now) _ c.from_utf8.ensures.cases (sym c.ok.ensures.value ∙ c.in_ok-ok.was) in
    c.ok-2.ensures.value ∙ decimal_parsed c.args.digits.now c.in_ok-ok.field-0.now c.parse.result c.parse.ensures.value.0 same all some few
