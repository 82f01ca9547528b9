use Rattle.std.proofs.Common.{◌≡◌, ◌-◌, ◌*◌, length, drop, take, sym, subst, ap, ◌∙◌, arith}
use Rattle.std.proofs.lemmas.List.{take_rest}
use Rattle.formatter_frames.specs.Unframed.{unframed}
use Rattle.ring_capture.specs.Ends.{EndsWith}
use Rattle.ring_capture.proofs.LastOfEach.{framed_ends}
use Rattle.ring_capture.proofs.MissingFrames.{last_end}
use Rattle.ring_capture.proofs.last.last_frames.Goals as goal

pub returns-clause-last : goal.returns-clause-last
returns-clause-last c =
    let bytes = c.args.bytes.now in
    let from : c.saturating_sub-from.result ≡ length bytes - 16 * c.args.n = omega (arith, c.saturating_sub-from.ensures) in
    subst (λ l. EndsWith (unframed l) (unframed bytes)) (ap (λ n. drop n bytes) (sym from) ∙ sym (take_rest bytes c.saturating_sub-from.result))
    (last_end bytes c.args.n c.requires)

pub returns-clause-carried : goal.returns-clause-carried
returns-clause-carried c = λ pairs id is lt.
    let bytes = c.args.bytes.now in
    let from = c.saturating_sub-from.result in
    let left = unframed (take (length bytes - from) (drop from bytes)) in
    framed_ends pairs left id lt (subst (λ l. EndsWith left (unframed l)) is (returns-clause-last c))
