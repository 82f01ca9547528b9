-- Lines that were put and then written.
use Rattle.std.proofs.Common.{◌≡◌, ℕ, List, [], ◌++◌, Ok, Err, refl, sym, ap, subst, ◌∙◌}
use Rattle.std.specs.Prelude.{IsOk}
use Rattle.etm_types.specs.declared.item.Item.{Item}
use Rattle.path_text.proofs.Wrote.{fails_first, then_writes, wrote_by}
use Rattle.path_text.specs.Blocks.{Block}
use Rattle.path_text.specs.PathLines.{lines_of, shown_after_all}
use Rattle.path_text.specs.Writing.{Writes}
use Rattle.stream_decoder.specs.LineFollowing.{Outcome, following}
use Rattle.stream_decoder.specs.LinesPut.{TakesLines, WritesUnless}
use Rattle.trace_io.specs.State.{IoState}
use Rattle.trace_io.specs.declared.traits.Failed.{Failed}

module _ (s t u : IoState) (b c d : Block) (items : List Item) (none : b.put ≡ []) where
  all_written : (p q r : Outcome) (x : Unit {0}) → p ≡ Ok x → TakesLines (following s b p) items (following t c q)
      → WritesUnless q (following t c q) (following u d r)
      → Writes s u r (lines_of b.id b.shown items) × (IsOk r → d.shown ≡ shown_after_all b.shown items)
  all_written (Err e) q r x is first last = absurd cc
  all_written (Ok y) (Ok z) r x is first last =
      let text = lines_of b.id b.shown items in let puts = (first.takes).puts in
      let parts : puts.out ++ puts.rest ≡ text = sym puts.parts ∙ ap (λ (l : List ℕ). l ++ text) none in (
        then_writes s t u r puts.out puts.rest text parts (wrote_by s t z puts.out puts.writes)
            (subst (Writes t u r) (puts.left refl) last.writes),
        λ ok. last.shown ∙ (first.takes).shown refl,
      )
  all_written (Ok y) (Err e) r x is first last =
      let text = lines_of b.id b.shown items in let puts = (first.takes).puts in
      let parts : puts.out ++ puts.rest ≡ text = sym puts.parts ∙ ap (λ (l : List ℕ). l ++ text) none in
      subst (λ (o : Outcome). Writes s u o text × (IsOk o → d.shown ≡ shown_after_all b.shown items)) (sym last.result)
      (subst (λ (i : IoState). Writes {T = Unit {0}} {E = Failed} s i (Err e) text × (IsOk {T = Unit {0}} (Err e) → d.shown ≡ shown_after_all b.shown items)) (sym last.sink)
      (fails_first s t e e puts.out puts.rest text parts puts.writes, λ ok. absurd cc))

  -- all of it was put by one call and written by another
  pub lines_written : (q r : Outcome) (x : Unit {0}) → TakesLines (following s b (Ok x)) items (following t c q)
      → WritesUnless q (following t c q) (following u d r)
      → Writes s u r (lines_of b.id b.shown items) × (IsOk r → d.shown ≡ shown_after_all b.shown items)
  lines_written q r x first last = all_written (Ok x) q r x refl first last
