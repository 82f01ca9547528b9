use Rattle.std.proofs.Common.{[], ◌∷◌, ◌++◌, take, ap, ◌∙◌}
use Rattle.path_text.specs.Lines.{decimal}
use Rattle.path_text.proofs.packet_line.put_offset.Goals as goal

pub returns : goal.returns
returns c id old is =
    c.text.ensures
    ∙ ap (λ t. t ++ (32 ∷ [])) (c.decimal.ensures.value ∙ ap (λ t. t ++ decimal c.args.at) (c.cut.ensures ∙ ap (take 3) is))
