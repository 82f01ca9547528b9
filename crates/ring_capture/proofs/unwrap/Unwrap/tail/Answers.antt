use Rattle.std.proofs.Common.{◌-◌, ◌%◌, ◌*◌, ◌<◌, take, length, drop, ap, subst, ◌∙◌, arith}
use Rattle.std.proofs.lemmas.List.{length-take-le}
use Rattle.formatter_frames.specs.Unframed.{begun_frame}
use Rattle.ring_capture.specs.Unwrapping.{Unwrapping}
use Rattle.ring_capture.proofs.Unwrapped.{cut_tail, tail_first}
use Rattle.ring_capture.proofs.unwrap.Unwrap.tail.Goals as goal

pub returns-then-self-len-clause-stands : goal.returns-then-self-len-clause-stands
returns-then-self-len-clause-stands c = λ bytes at.
    let v = c.args.self.now in
    let u = c.self.inside in
    let less : length v.kept < 16 * v.frames =
    subst (λ (w : Unwrapping). length w.kept < 16 * w.frames) c.self.view_is
    (omega (arith, length-take-le u.kept u.first.items c.self.invariant.1, c.self.invariant.0, c.if-self-len.true, c.len.ensures)) in
    ap (λ l. take (u.kept - (u.kept - u.kept % 16)) (drop (u.kept - u.kept % 16) l)) c.deref.ensures.value
    ∙ cut_tail u.first.items u.kept c.self.invariant.1 ∙ ap (λ (w : Unwrapping). begun_frame w.kept) c.self.view_is
    ∙ tail_first v.frames bytes v.kept v.begun at less
