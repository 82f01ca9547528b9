use Rattle.std.proofs.Common.{[], ◌∷◌, ◌++◌, sym, ◌∙◌}
use Rattle.stream_decoder.proofs.AheadMoves.{all_more, bytes_more, foretold_reaches}
use Rattle.stream_decoder.proofs.machine.packets_together.ahead.no_further.Goals as goal

pub foretell_again-requires-clause-reaches : goal.foretell_again-requires-clause-reaches
foretell_again-requires-clause-reaches c =
    let ahead = c.args.ahead in let foretold = c.requires.foretold in
    foretold_reaches c.args.outlook ahead.outlook c.args.bytes.now ahead.behind.now foretold.0 ahead.last c.args.n foretold.1 c.requires.few

pub returns-clause-front : goal.returns-clause-front
returns-clause-front c =
    let ahead = c.args.ahead in let f = c.requires.foretold.1 in
    c.foretell_again.ensures.front (f.first ++ f.last ∷ []) ahead.behind.now ahead.outlook
    (f.parts ∙ sym (bytes_more f.first f.last ahead.behind.now)) (all_more c.args.outlook f.before ahead.outlook f.first f.last f.moves f.ends)
    c.requires.few
