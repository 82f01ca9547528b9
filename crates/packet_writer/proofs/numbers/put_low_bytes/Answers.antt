use Rattle.std.proofs.Common.{◌++◌, ap, ◌∙◌, take, []}
use Rattle.packet_writer.proofs.Digits.{take_low_bytes}
use Rattle.packet_writer.proofs.numbers.put_low_bytes.Goals as goal

pub returns-clause-bytes : goal.returns-clause-bytes
returns-clause-bytes c =
    c.put_all.ensures ∙ ap (λ t. c.args.out.now ++ take c.args.size t) c.write_u64.ensures
    ∙ ap (λ t. c.args.out.now ++ t) (take_low_bytes c.args.size c.args.n [] c.requires.few)
