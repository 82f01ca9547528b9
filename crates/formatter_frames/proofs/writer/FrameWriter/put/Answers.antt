use Rattle.std.proofs.Common.{◌≡◌, ◌+◌, ◌≤◌, ◌++◌, ◌∷◌, [], take, refl, ap, sym, ◌∙◌, arith}
use Rattle.std.proofs.lemmas.Bool.{eqb-false, eq-eqb}
use Rattle.std.proofs.lemmas.Result.{err_from_is_err_and}
use Rattle.formatter_frames.specs.Framed.{frames_of}
use Rattle.formatter_frames.specs.Pieces.{left_over}
use Rattle.formatter_frames.proofs.Writing.{frame_filled}
use Rattle.formatter_frames.proofs.writer.FrameWriter.put.Given.{Over}
use Rattle.formatter_frames.proofs.writer.FrameWriter.put.Goals as goal
use Rattle.formatter_frames.proofs.writer.FrameWriter.put.Goals.{After-write_all}

-- the last place was taken
last : (g : Over) (c : After-write_all g) → c.self.inside.begun + 1 ≡ 15
last g c =
    let not_full = eqb-false c.self.inside.begun 15 (ap (λ v. v.failed) c.self.view_is ∙ c.requires) in
    let within : c.self.inside.begun ≤ 15 = c.self.invariant.0 in
    omega (arith, not_full, c.if-self-lt-SYMBOLS.false)

-- and the frame was written that these symbols fill
filled : (g : Over) (c : After-write_all g)
    → (c.frame_of.result ≡ frames_of (c.args.self.now.symbols ++ c.args.symbol ∷ [])) × (left_over 15 (c.args.self.now.symbols ++ c.args.symbol ∷ []) ≡ [])
filled g c =
    let front : take c.self.inside.begun c.self.inside.symbols ≡ c.args.self.now.symbols = ap (λ v. v.symbols) c.self.view_is in
    let both = frame_filled c.self.inside.symbols c.args.self.now.symbols c.self.inside.begun c.args.symbol front c.self.invariant.1 (last g c) in
    (c.frame_of.ensures ∙ both.0, both.1)

pub returns-in_err-write_all-clause-puts : goal.returns-in_err-write_all-clause-puts
returns-in_err-write_all-clause-puts g c =
    let p = err_from_is_err_and c.from_residual.result c.from_residual.ensures.1 in
    let before = (goal.at.returns-in_err-write_all-clause-puts g c).After-write_all in
    rw p.1 (record {
      begun = tt;
      ok = tt;
      failed = rw (filled g before).0 at c.in_err-write_all.ensures.failed;
      fails = eq-eqb _ 15 (last g before);
    })

pub returns-clause-puts : goal.returns-clause-puts
returns-clause-puts g c =
    let before = (goal.at.returns-clause-puts g c).After-write_all in
    record {
      begun = sym (filled g before).1;
      ok = rw (filled g before).0 at c.in_ok-write_all.ensures.ok;
      failed = tt;
      fails = refl;
    }
