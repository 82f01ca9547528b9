use Rattle.std.proofs.Common.{ap, codes, ◌∙◌}
use Rattle.clap.specs.Words.{found_of}
use Rattle.clap.proofs.WalkLemmas.{first_value-rows}
use Rattle.command_words.specs.WordRules.{is_true_text}
use Rattle.command_words.proofs.WordMeaning.{same_seen}
use Rattle.command_words.proofs.parser.seen_in.Goals as goal

pub returns : goal.returns
returns c =
    let found = found_of c.args.matches.now in
    same_seen (c.is_true_text.ensures ∙ ap is_true_text (c.get_str.ensures ∙ first_value-rows found (codes "raw")))
    (c.get_str-2.ensures ∙ first_value-rows found (codes "wrap"))
    (c.is_true_text-2.ensures ∙ ap is_true_text (c.get_str-3.ensures ∙ first_value-rows found (codes "sync")))
    (c.get_str-4.ensures ∙ first_value-rows found (codes "depth")) (c.get_str-5.ensures ∙ first_value-rows found (codes "vmid"))
    (c.get_str-6.ensures ∙ first_value-rows found (codes "cid")) (c.get_str-7.ensures ∙ first_value-rows found (codes "settings"))
    (c.is_true_text-3.ensures ∙ ap is_true_text (c.get_str-8.ensures ∙ first_value-rows found (codes "elf")))
    (c.is_true_text-4.ensures ∙ ap is_true_text (c.get_str-9.ensures ∙ first_value-rows found (codes "count")))
    (c.get_str-10.ensures ∙ first_value-rows found (codes "last")) (c.get_str-11.ensures ∙ first_value-rows found (codes "sync-every"))
    (c.get_str-12.ensures ∙ first_value-rows found (codes "cut")) (c.get_str-13.ensures ∙ first_value-rows found (codes "POSITIONAL"))
