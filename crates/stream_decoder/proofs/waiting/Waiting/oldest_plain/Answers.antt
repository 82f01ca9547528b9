use Rattle.std.proofs.Common.{◌≡◌, ◌≤◌, List, take, ap, arith, sym, ◌∙◌}
use Rattle.std.proofs.lemmas.List.{take-append-drop}
use Rattle.etm_types.specs.declared.element.Thing.{Thing}
use Rattle.stream_decoder.specs.Waiting.{all_of}
use Rattle.stream_decoder.proofs.Rotating.{fewer_plain}
use Rattle.stream_decoder.proofs.waiting.Waiting.oldest_plain.Goals as goal

pub returns-clause-atoms : goal.returns-clause-atoms
returns-clause-atoms c =
    let s = c.self.inside in let kept = c.oldest_plain-count in
    let all : s.queue.held ≡ all_of c.args.self.now = sym (take-append-drop s.due s.queue.held) ∙ ap all_of c.self.view_is in
    let few : c.min.result ≤ kept.result.count = omega (arith, c.min.ensures, c.from.ensures) in
    fewer_plain kept.result.count c.min.result kept.result.bits (all_of c.args.self.now) few
    (kept.ensures.atoms ∙ ap (λ (l : List Thing). take kept.result.count l) all)
