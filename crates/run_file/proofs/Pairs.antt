-- The pairs of words that give settings, one after another.
use Rattle.std.proofs.Common.{◌≡◌, ◌∷◌, ℕ, List, Some, refl}
use Rattle.line_words.specs.Line.{decimal_of}
use Rattle.run_file.specs.GivenSettings.{give, pairs_in, setting_named}
use Rattle.run_file.specs.declared.given.Given.{Given}
use Rattle.run_file.specs.declared.setting.Setting.{Setting}

pub read_on : (given more : Given) (name digits : List ℕ) (words : List (List ℕ)) (s : Setting) (n : ℕ) → setting_named name ≡ Some s
    → decimal_of digits ≡ Some n → give s n given ≡ Some more → pairs_in given (name ∷ digits ∷ words) ≡ pairs_in more words
read_on given more name digits words s n named number next = rw named (rw number (rw next refl))
