use Rattle.std.proofs.Common.{◌≡◌, ◌+◌, ◌*◌, ◌<◌, ◌∷◌, ◌++◌, [], length, slice_set, refl, sym, ap, subst, ◌∙◌, arith, append-nil}
use Rattle.std.proofs.lemmas.List.{length-set, length-take-le, take_all, take_more_set}
use Rattle.ring_capture.specs.Unwrapping.{Unwrapping}
use Rattle.ring_capture.specs.Rotated.{later_frames}
use Rattle.ring_capture.proofs.Unwrapped.{full_stands, later_stands}
use Rattle.ring_capture.proofs.unwrap.Unwrap.take.Goals as goal

pub returns-then-self-lt-FRAME_BYTES-clause-gains : goal.returns-then-self-lt-FRAME_BYTES-clause-gains
returns-then-self-lt-FRAME_BYTES-clause-gains c = λ bytes at.
    let v = c.args.self.now in
    let u = c.self.inside in
    let kept : length v.kept ≡ 16 * v.frames =
    subst (λ (w : Unwrapping). length w.kept ≡ 16 * w.frames) c.self.view_is
    (omega (arith, length-take-le u.kept u.first.items c.self.invariant.1, c.self.invariant.0, c.self.invariant.1, c.if-self-len.false, c.len.ensures)) in
    let begun : length v.begun < 15 =
    subst (λ (w : Unwrapping). length w.begun < 15) c.self.view_is
    (omega (arith, length-take-le u.filled u.frame (omega (arith, c.if-self-lt-FRAME_BYTES.true, c.self.told)), c.if-self-lt-FRAME_BYTES.true)) in
    (later_stands v.frames c.args.byte bytes v.kept v.begun (v.begun ++ c.args.byte ∷ []) at kept begun refl).1
    ∙ sym (append-nil (later_frames v.frames bytes))

pub returns-clause-gains : goal.returns-clause-gains
returns-clause-gains c = λ bytes at.
    let v = c.args.self.now in
    let u = c.self.inside in
    let byte = c.args.byte in
    let last : u.filled ≡ 15 = omega (arith, c.if-self-lt-FRAME_BYTES.false, c.self.invariant.2) in
    let size = length-take-le u.filled u.frame (omega (arith, last, c.self.told)) in
    let kept : length v.kept ≡ 16 * v.frames =
    subst (λ (w : Unwrapping). length w.kept ≡ 16 * w.frames) c.self.view_is
    (omega (arith, length-take-le u.kept u.first.items c.self.invariant.1, c.self.invariant.0, c.self.invariant.1, c.if-self-len.false, c.len.ensures)) in
    let begun : length v.begun ≡ 15 = subst (λ (w : Unwrapping). length w.begun ≡ 15) c.self.view_is (size ∙ last) in
    let filled : slice_set u.frame u.filled byte ≡ v.begun ++ byte ∷ [] =
    sym (take_all (u.filled + 1) (slice_set u.frame u.filled byte) (omega (arith, last, c.self.told, length-set u.frame u.filled byte)))
    ∙ take_more_set u.frame u.filled byte (omega (arith, last, c.self.told)) ∙ ap (λ (w : Unwrapping). w.begun ++ byte ∷ []) c.self.view_is in
    (full_stands v.frames byte bytes v.kept v.begun at kept begun).1 ∙ ap (λ l. later_frames v.frames bytes ++ l) (sym filled)
