use Rattle.std.proofs.Common.{◌≡◌, ◌∙◌, ◌∷◌, Some, ap, rules}
use Rattle.line_words.specs.Line.{decimal_of, words_in}
use Rattle.run_file.specs.GivenSettings.{give, pairs_in, setting_named}
use Rattle.run_file.proofs.Pairs.{read_on}
use Rattle.run_file.proofs.given.Given.in_pairs.Goals as goal

pub loop-name-preserved : goal.loop-name-preserved
loop-name-preserved c =
    let given = c.loop-name.given in
    let name = c.in-Some.name.now in
    let digits = c.in_ok-digits.digits.now in
    let rest = words_in c.in_ok-digits.after.now in
    let words : words_in c.loop-name.rest.now ≡ name ∷ digits ∷ rest = search rules in
    let named : setting_named name ≡ Some c.in_ok-setting.setting = search rules in
    let number : decimal_of digits ≡ Some c.in_ok-decimal.field-0 = search rules in
    let next : give c.in_ok-setting.setting c.in_ok-decimal.field-0 given ≡ Some c.in_ok-given.given = search rules in
    c.loop-name.invariant ∙ ap (pairs_in given) words ∙ read_on given c.in_ok-given.given name digits rest _ _ named number next
