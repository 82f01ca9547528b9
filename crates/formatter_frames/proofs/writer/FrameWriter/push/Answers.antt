use Rattle.std.proofs.Common.{◌++◌, ◌∷◌, [], refl, sym, ◌∙◌}
use Rattle.formatter_frames.specs.declared.symbol.Symbol.TheVariants.{Data}
use Rattle.formatter_frames.specs.Symbols.{told}
use Rattle.formatter_frames.specs.Framed.{frames_of, whole_frames}
use Rattle.formatter_frames.specs.Pieces.{left_over}
use Rattle.std.proofs.lemmas.Result.{err_from_is_err_and, on_ok_weaker, on_err_weaker}
use Rattle.std.proofs.KnownBytes.{Appends-trans}
use Rattle.formatter_frames.proofs.Symbols.{id_after-push}
use Rattle.formatter_frames.proofs.Writing.{begun-push, whole_frames-push, shorter_first, shorter_second, stands, no_growth, none_first}
use Rattle.formatter_frames.proofs.writer.FrameWriter.push.Goals as goal

pub returns-in_err-tell-clause-written : goal.returns-in_err-tell-clause-written
returns-in_err-tell-clause-written g c = λ pairs at.
    let writer = c.args.self.now in
    let put = told writer.current c.args.id in
    let mid = left_over 15 (writer.symbols ++ put) in
    let p = err_from_is_err_and c.from_residual.result c.from_residual.ensures.1 in
    rw p.1 (record {
      growth = frames_of (writer.symbols ++ put) ++ frames_of (mid ++ Data c.args.byte ∷ []);
      grows = whole_frames-push writer pairs c.args.id c.args.byte mid at refl;
      ok = tt;
      failed = shorter_first _ _ (frames_of (writer.symbols ++ put)) _ c.in_err-tell.ensures.puts.failed;
    })

pub returns-clause-stands : goal.returns-clause-stands
returns-clause-stands g c = λ pairs at.
    stands c.put.result c.put.new.self (pairs ++ (c.args.id, c.args.byte) ∷ [])
    (on_ok_weaker c.put.result (begun-push c.args.self.now pairs c.args.id c.args.byte c.tell.new.self.symbols c.put.new.self.symbols at
    c.in_ok-tell.ensures.puts.begun) c.put.ensures.puts.begun)
    (c.put.ensures.current ∙ c.in_ok-tell.ensures.current ∙ sym (id_after-push pairs (c.args.id, c.args.byte)))
    c.put.ensures.puts.fails

pub returns-clause-written : goal.returns-clause-written
returns-clause-written g c = λ pairs at.
    let writer = c.args.self.now in
    let first = frames_of (writer.symbols ++ told writer.current c.args.id) in
    let second = frames_of (c.tell.new.self.symbols ++ Data c.args.byte ∷ []) in
    let before = c.in_ok-tell.ensures.puts.ok in
    record {
      growth = first ++ second;
      grows = whole_frames-push writer pairs c.args.id c.args.byte c.tell.new.self.symbols at c.in_ok-tell.ensures.puts.begun;
      ok = on_ok_weaker c.put.result (Appends-trans _ _ _ first second before) c.put.ensures.puts.ok;
      failed = on_err_weaker c.put.result (shorter_second _ _ _ first second before) c.put.ensures.puts.failed;
    }

pub returns-in_err-tell-clause-idle : goal.returns-in_err-tell-clause-idle
returns-in_err-tell-clause-idle g c = λ pairs at same.
    let writer = c.args.self.now in
    let put = told writer.current c.args.id in
    let mid = left_over 15 (writer.symbols ++ put) in
    let grows = whole_frames-push writer pairs c.args.id c.args.byte mid at refl in
    let none = no_growth (whole_frames pairs) _ (sym grows ∙ same) in
    c.in_err-tell.ensures.idle (none_first (frames_of (writer.symbols ++ put)) (frames_of (mid ++ Data c.args.byte ∷ [])) none).0

pub returns-clause-idle : goal.returns-clause-idle
returns-clause-idle g c = λ pairs at same.
    let writer = c.args.self.now in
    let first = frames_of (writer.symbols ++ told writer.current c.args.id) in
    let second = frames_of (c.tell.new.self.symbols ++ Data c.args.byte ∷ []) in
    let grows = whole_frames-push writer pairs c.args.id c.args.byte c.tell.new.self.symbols at c.in_ok-tell.ensures.puts.begun in
    let none = none_first first second (no_growth (whole_frames pairs) (first ++ second) (sym grows ∙ same)) in
    c.put.ensures.idle none.1 ∙ c.in_ok-tell.ensures.idle none.0
