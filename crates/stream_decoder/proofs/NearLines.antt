-- The lines of a stretch that are put behind the line before it.
use Rattle.std.proofs.Common.{◌≡◌, ℕ, List, [], ◌++◌, Option, Some, Ok, Err, refl, sym, ap, subst, ◌∙◌, append-nil}
use Rattle.std.specs.Prelude.{IsTrue}
use Rattle.etm_types.specs.Walked.{instructions, items_of}
use Rattle.etm_types.specs.declared.context.Ctx.{Ctx}
use Rattle.path_text.proofs.LineLemmas.{lines_of-instructions, shown_after_all-instructions}
use Rattle.path_text.proofs.Wrote.{writes_all, wrote_nothing}
use Rattle.path_text.specs.Blocks.{Block, Puts}
use Rattle.path_text.specs.PathLines.{instruction_lines, lines_of, shown_after_all}
use Rattle.path_walker.specs.Walk.{walked_in}
use Rattle.path_walker.specs.declared.stretch.Stretch.{Stretch}
use Rattle.stream_decoder.specs.LineFollowing.{Outcome, following}
use Rattle.stream_decoder.specs.LinesPut.{IsIn, TakesLines}
use Rattle.trace_io.specs.State.{IoState}
use Rattle.trace_io.specs.declared.traits.Failed.{Failed}

-- a stretch shows its instructions, and nothing else
pub stretch_alone : (ctx : Ctx) (stretch : Stretch)
    → items_of (walked_in ctx stretch) ++ [] ≡ instructions ctx stretch.start stretch.count stretch.took
stretch_alone ctx stretch =
    append-nil (items_of (walked_in ctx stretch)) ∙ append-nil (instructions ctx stretch.start stretch.count stretch.took)

-- lines that are put where nothing is written
put_alone : (s : IoState) (put text : List ℕ) (x : Unit {0}) → Puts {E = Failed} s s put (put ++ text) (Ok x) text
put_alone s put text x = record { out = []; rest = put ++ text; parts = refl; writes = writes_all s s x [] (wrote_nothing s); left = λ ok. refl }

-- the lines of instructions in the context that was printed last
pub near_taken : (s : IoState) (b : Block) (r : Outcome) (ctx : Ctx) (stretch : Stretch) → IsIn ctx (following s b r) → IsTrue b.near
    → TakesLines (following s b r) (items_of (walked_in ctx stretch) ++ [])
    (following s (record b { put = b.put ++ instruction_lines b.id stretch.start stretch.count }) r)
near_taken s b (Err e) ctx stretch within near = record { id = refl; takes = record { sink = refl; result = refl } }
near_taken s b (Ok x) ctx stretch within near =
    let text = instruction_lines b.id stretch.start stretch.count in
    let items = instructions ctx stretch.start stretch.count stretch.took in
    let shown : b.shown ≡ Some ctx = within refl near in
    let lines : text ≡ lines_of b.id b.shown (items_of (walked_in ctx stretch) ++ []) =
    sym (ap (lines_of b.id b.shown) (stretch_alone ctx stretch) ∙ ap (λ (o : Option Ctx). lines_of b.id o items) shown
    ∙ lines_of-instructions b.id stretch.start ctx stretch.count stretch.took) in
    let after : shown_after_all b.shown (items_of (walked_in ctx stretch) ++ []) ≡ Some ctx =
    ap (shown_after_all b.shown) (stretch_alone ctx stretch) ∙ ap (λ (o : Option Ctx). shown_after_all o items) shown
    ∙ shown_after_all-instructions ctx stretch.start stretch.count stretch.took in
    record {
      id = refl;
      takes = record {
        puts = subst (Puts s s b.put (b.put ++ text) (Ok x)) lines (put_alone s b.put text x);
        shown = λ ok. shown ∙ sym after;
      };
    }
