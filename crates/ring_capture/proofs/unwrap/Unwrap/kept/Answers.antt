use Rattle.std.proofs.Common.{◌≡◌, ◌+◌, ◌-◌, ◌*◌, Some, take, drop, sym, ap, subst, ◌∙◌, arith}
use Rattle.ring_capture.specs.Unwrapping.{Unwrapping, frame_at}
use Rattle.ring_capture.proofs.Unwrapped.{front_of_frame}
use Rattle.ring_capture.proofs.unwrap.Unwrap.kept.Goals as goal

pub returns-clause-value : goal.returns-clause-value
returns-clause-value c =
    let u = c.self.inside in
    let j = c.args.j in
    let place : j * 16 ≡ 16 * j = omega arith in
    let long : j * 16 + 16 - j * 16 ≡ 16 = omega arith in
    let copied : c.copy_from_slice.new.self ≡ take 16 (drop (16 * j) u.first.items) =
    c.copy_from_slice.ensures.after ∙ ap (λ n. take n (drop (j * 16) c.deref.result.now)) long ∙ ap (λ n. take 16 (drop n c.deref.result.now)) place
    ∙ ap (λ l. take 16 (drop (16 * j) l)) c.deref.ensures.value in
    subst (λ (w : Unwrapping). Some c.copy_from_slice.new.self ≡ frame_at j w.kept) c.self.view_is
    (ap (λ l. Some l) copied ∙ sym (front_of_frame u.first.items u.kept j (omega (arith, c.if-start-self.false)) c.self.invariant.1))

pub returns-clause-stands : goal.returns-clause-stands
returns-clause-stands c = λ bytes at. returns-clause-value c ∙ ap (frame_at c.args.j) at.kept
