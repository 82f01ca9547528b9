use Rattle.std.proofs.Common.{◌-◌, [], ◌∷◌, ◌++◌, take, ap, ◌∙◌}
use Rattle.path_text.proofs.PacketHeads.{last_two, last_digits_put}
use Rattle.path_text.proofs.packet_line.put_last_digits.Goals as goal

pub returns : goal.returns
returns c id old above same is =
    let at = c.args.at in let line = c.args.line.now in
    c.text.ensures
    ∙ ap (λ t. t ++ (32 ∷ [])) (c.pair.ensures ∙ ap (λ t. t ++ last_two at) (c.cut.ensures ∙ ap (λ n. take (n - 3) line) c.len.ensures))
    ∙ last_digits_put id old at line above same is
