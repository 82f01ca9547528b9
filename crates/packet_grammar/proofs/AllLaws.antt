-- The laws of the spellings.
use Rattle.std.proofs.Common.{◌≡◌, ◌⊎◌, ℕ, ◌<◌, List, [], ◌++◌, length, refl, sym, ap, ◌∙◌, append-nil, append_assoc, inl, inr, arith, length-append}
use Rattle.std.specs.Prelude.{All}
use Rattle.etm_types.specs.Settings.{Sizes, AreSettings}
use Rattle.packet_grammar.specs.declared.packet.Packet.{Packet}
use Rattle.packet_grammar.specs.Parts.{Outcome}
use Rattle.packet_grammar.specs.Parsed.{Spells, Begins}
use Rattle.packet_grammar.specs.Laws.{AtMost as SpellingsAtMost, NoneBeginsAnother, OneOutcome, BeginsWithOne, SpelledOrBegun, NotBoth, longest_packet}
use Rattle.packet_grammar.proofs.Codes.{Apart, Begun, Stands}
use Rattle.packet_grammar.proofs.Table.{Told}
use Rattle.packet_grammar.proofs.Whole.{told_apart, told_covers, told_short}
use Rattle.packet_grammar.proofs.Inverse.{told_to, told_back}

-- a spelling has a byte
pub some_byte : (s : Sizes) (outcome : Outcome Packet) (text : List ℕ) → Spells s outcome text → 0 < length text
some_byte s outcome text is = omega (arith, ap length (told_back s outcome text is).whole)

module _ (s : Sizes) (are : AreSettings s) where
  pub spells_apart : Apart (Spells s)
  spells_apart outcome other text text' rest rest' is is' e =
      told_apart s are outcome other text text' rest rest' (told_back s outcome text is) (told_back s other text' is') e

  either_way : (bytes : List ℕ) → Begun (Told s) bytes ⊎ Stands (Told s) bytes → Begins s bytes ⊎ BeginsWithOne s bytes
  either_way bytes (inl x) = inl (record {
    outcome = x.outcome;
    more = x.more;
    some = x.some;
    small = x.small;
    spells = told_to s x.outcome (bytes ++ x.more)
        x.is;
  })
  either_way bytes (inr x) = inr (record { outcome = x.outcome; text = x.text; rest = x.rest; parts = x.parts; spells = told_to s x.outcome x.text x.is })

  pub spells_covers : (bytes : List ℕ) → All (λ b. b < 256) bytes → Begins s bytes ⊎ BeginsWithOne s bytes
  spells_covers bytes bounded = either_way bytes (told_covers s are bytes bounded)

pub none_begins_another : NoneBeginsAnother
none_begins_another s are outcome other text rest is is' =
    (spells_apart s are other outcome text (text ++ rest) rest [] is' is (sym (append-nil (text ++ rest)))).rests

pub one_outcome : OneOutcome
one_outcome s are outcome other bytes is is' = (spells_apart s are outcome other bytes bytes [] [] is is' refl).outcomes

pub spelled_or_begun : SpelledOrBegun
spelled_or_begun s are bytes bounded = spells_covers s are bytes bounded

pub not_both : NotBoth
not_both s are bytes begun stands =
    let e : stands.text ++ (stands.rest ++ begun.more) ≡ (bytes ++ begun.more) ++ [] =
    sym (append_assoc stands.text stands.rest begun.more) ∙ ap (λ t. t ++ begun.more) (sym stands.parts) ∙ sym (append-nil (bytes ++ begun.more)) in
    let same = spells_apart s are stands.outcome begun.outcome stands.text (bytes ++ begun.more) (stands.rest ++ begun.more) [] stands.spells begun.spells e in
    absurd (omega (arith, ap length same.rests, length-append stands.rest begun.more, begun.some))

pub at_most : SpellingsAtMost longest_packet
at_most s are outcome bytes is = told_short s are outcome bytes (told_back s outcome bytes is)
