use Rattle.std.proofs.Common.{◌≡◌, ◌+◌, ◌-◌, ◌≤◌, ◌<◌, ◌++◌, ◌∷◌, [], length, take, ap, sym, ◌∙◌, arith, append_assoc, length-take, ℕ, List}
use Rattle.std.specs.Prelude.{replicate}
use Rattle.std.proofs.Math.ListN.{set, length-set}
use Rattle.std.proofs.Math.Seq.{take-length}
use Rattle.std.proofs.lemmas.List.{take_more_set, replicate_more}
use Rattle.formatter_frames.specs.declared.symbol.Symbol.{Symbol}
use Rattle.formatter_frames.specs.declared.symbol.Symbol.TheVariants.{NewId, Data}
use Rattle.formatter_frames.specs.Frame.{frame_of}
use Rattle.formatter_frames.specs.Framed.{filled, framed, whole_frames}
use Rattle.formatter_frames.specs.Writer.{StandsAt}
use Rattle.formatter_frames.proofs.Writing.{filled_some, no_growth}
use Rattle.formatter_frames.proofs.writer.FrameWriter.finish.Goals as goal
use Rattle.formatter_frames.proofs.writer.FrameWriter.finish.Goals.{After-write_all}
use Rattle.formatter_frames.proofs.writer.FrameWriter.finish.Given.{Over}
use Rattle.std.proofs.lemmas.Bool.{eqb-false}

-- one place more is filled
more_filled : (symbols front : List Symbol) (place : ℕ) → length symbols ≡ 15 → place < 15 → length front + 1 ≤ place
    → take place symbols ≡ front ++ NewId 0 ∷ replicate (place - (length front + 1)) (Data 0)
    → take (place + 1) (set symbols place (Data 0)) ≡ front ++ NewId 0 ∷ replicate (place + 1 - (length front + 1)) (Data 0)
more_filled symbols front place long within past so_far =
    let inside : place < length symbols = omega arith in
    let count : place - (length front + 1) + 1 ≡ place + 1 - (length front + 1) = omega arith in
    take_more_set symbols place (Data 0) inside
    ∙ ap (λ xs. xs ++ Data 0 ∷ []) so_far
    ∙ append_assoc front (NewId 0 ∷ replicate (place - (length front + 1)) (Data 0)) (Data 0 ∷ [])
    ∙ ap (λ xs. front ++ NewId 0 ∷ xs) (replicate_more (place - (length front + 1)) (Data 0) ∙ ap (λ n. replicate n (Data 0)) count)

-- how many symbols the begun frame has
count_held : (symbols front : List Symbol) (begun : ℕ) → take begun symbols ≡ front → begun ≤ 15 → length symbols ≡ 15 → length front ≡ begun
count_held symbols front begun is within long = omega (arith, sym (ap length is), length-take begun symbols)

pub loop-place-preserved : goal.loop-place-preserved
loop-place-preserved g c =
    let count =
    count_held c.self.inside.symbols c.args.self.symbols c.self.inside.begun (ap (λ v. v.symbols) c.self.view_is) c.self.invariant.0 c.self.invariant.1 in
    let past : length c.args.self.symbols + 1 ≤ c.loop-place.place = omega (arith, count) in
    record {
      size = length-set c.loop-place.symbols c.loop-place.place (Data 0) ∙ c.loop-place.invariant.size;
      filled = more_filled c.loop-place.symbols c.args.self.symbols c.loop-place.place c.loop-place.invariant.size c.loop-place-test.true past
          c.loop-place.invariant.filled;
    }

-- all places are filled
all_filled : (symbols front : List Symbol) (place : ℕ) → length symbols ≡ 15 → place ≡ 15 → 0 < length front
    → take place symbols ≡ front ++ NewId 0 ∷ replicate (place - (length front + 1)) (Data 0) → frame_of symbols ≡ filled front
all_filled symbols front place long end some are =
    let count : place - (length front + 1) ≡ 14 - length front = omega arith in
    let whole : length symbols ≡ place = omega arith in
    ap frame_of (sym (take-length symbols) ∙ ap (λ n. take n symbols) whole ∙ are ∙ ap (λ n. front ++ NewId 0 ∷ replicate n (Data 0)) count)
    ∙ sym (filled_some front some)

-- the frame that is written
last_frame : (g : Over) (c : After-write_all g) → c.frame_of.result ≡ filled c.args.self.symbols
last_frame g c =
    let count =
    count_held c.self.inside.symbols c.args.self.symbols c.self.inside.begun (ap (λ v. v.symbols) c.self.view_is) c.self.invariant.0 c.self.invariant.1 in
    let within : c.self.inside.begun ≤ 15 = c.self.invariant.0 in
    let not_full = eqb-false c.self.inside.begun 15 (ap (λ v. v.failed) c.self.view_is ∙ c.requires) in
    let some : 0 < length c.args.self.symbols = omega (arith, count) in
    let end : c.loop-place.place ≡ 15 = omega (arith, not_full, within) in
    c.frame_of.ensures ∙ all_filled c.loop-place.symbols c.args.self.symbols c.loop-place.place c.loop-place.invariant.size end some
    c.loop-place.invariant.filled

grows : (g : Over) (c : After-write_all g) (pairs : List (ℕ × ℕ)) → StandsAt c.args.self pairs
    → framed pairs ≡ whole_frames pairs ++ filled c.args.self.symbols
grows g c pairs at = ap (λ xs. whole_frames pairs ++ filled xs) (sym at.symbols)

pub returns-clause-written : goal.returns-clause-written
returns-clause-written g c = λ pairs at. record {
  growth = filled c.args.self.symbols;
  grows = grows g c pairs at;
  ok = rw (last_frame g c) at c.write_all.ensures.ok;
  failed = rw (last_frame g c) at c.write_all.ensures.failed;
}

pub returns-clause-idle : goal.returns-clause-idle
returns-clause-idle g c = λ pairs at same.
    c.write_all.ensures.empty (last_frame g c ∙ no_growth (whole_frames pairs) (filled c.args.self.symbols) (sym (grows g c pairs at) ∙ same))
