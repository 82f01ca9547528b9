-- What follows a path by its lines takes nothing where it stays as it is, and some items, and others behind them.
use Rattle.std.proofs.Common.{◌≡◌, ℕ, List, [], ◌∷◌, ◌++◌, Option, Result, Ok, Err, refl, sym, ap, subst, ◌∙◌, append-nil, append_assoc}
use Rattle.etm_types.specs.Walked.{items_of}
use Rattle.etm_types.specs.declared.context.Ctx.{Ctx}
use Rattle.etm_types.specs.declared.item.Item.{Item}
use Rattle.path_text.proofs.LineLemmas.{lines_of-append, shown_after_all-append}
use Rattle.path_text.proofs.Wrote.{then_writes, wrote_by, wrote_nothing, writes_all}
use Rattle.path_text.specs.Blocks.{Block, Puts}
use Rattle.path_text.specs.PathLines.{lines_of, shown_after_all}
use Rattle.path_walker.specs.Walk.{items_in, walked_in}
use Rattle.path_walker.specs.declared.stretch.Stretch.{Stretch}
use Rattle.stream_decoder.specs.LinesPut.{Following, PutsLines, PutsUnless, TakesLines}
use Rattle.trace_io.specs.State.{IoState}
use Rattle.trace_io.specs.declared.traits.Failed.{Failed}

abbrev pub Outcome : Type 0
Outcome = Result (Unit {0}) Failed

abbrev pub following : IoState → Block → Outcome → Following
following sink lines result = record { sink = sink; lines = lines; result = result }

-- ---- texts that are put one behind the other

pub puts_nothing : (s : IoState) (put : List ℕ) (x : Unit {0}) → Puts {E = Failed} s s put put (Ok x) []
puts_nothing s put x =
    record { out = []; rest = put; parts = append-nil put; writes = writes_all s s x [] (wrote_nothing s); left = λ ok. refl }

pub puts_more : (a b c : IoState) (p q r : List ℕ) (x : Unit {0}) (result : Outcome) (xs ys : List ℕ) → Puts {E = Failed} a b p q (Ok x) xs
    → Puts b c q r result ys → Puts a c p r result (xs ++ ys)
puts_more a b c p q r x result xs ys first more =
    record {
      out = first.out ++ more.out;
      rest = more.rest;
      parts = sym (append_assoc p xs ys) ∙ ap (λ (l : List ℕ). l ++ ys) first.parts ∙ append_assoc first.out first.rest ys
          ∙ ap (λ (l : List ℕ). first.out ++ (l ++ ys)) (sym (first.left refl)) ∙ ap (λ (l : List ℕ). first.out ++ l) more.parts
          ∙ sym (append_assoc first.out more.out more.rest);
      writes = then_writes a b c result first.out more.out (first.out ++ more.out) refl (wrote_by a b x first.out first.writes) more.writes;
      left = more.left;
    }

-- behind a write that failed a front of more is written
pub puts_failed : (a b : IoState) (p q r : List ℕ) (e : Failed) (xs ys : List ℕ) → Puts {T = Unit {0}} a b p q (Err e) xs
    → Puts {T = Unit {0}} a b p r (Err e) (xs ++ ys)
puts_failed a b p q r e xs ys first =
    record {
      out = first.out;
      rest = first.rest ++ ys;
      parts = sym (append_assoc p xs ys) ∙ ap (λ (l : List ℕ). l ++ ys) first.parts ∙ append_assoc first.out first.rest ys;
      writes = first.writes;
      left = λ ok. absurd cc;
    }

-- ---- items

pub takes_lines-none : (s : IoState) (b : Block) (r : Outcome) → TakesLines (following s b r) [] (following s b r)
takes_lines-none s b (Ok x) = record { id = refl; takes = record { puts = puts_nothing s b.put x; shown = λ ok. refl } }
takes_lines-none s b (Err e) = record { id = refl; takes = record { sink = refl; result = refl } }

-- the lines of more items stand behind those of some
lines_more : (b c : Block) (xs ys : List Item) → c.id ≡ b.id → c.shown ≡ shown_after_all b.shown xs
    → lines_of b.id b.shown xs ++ lines_of c.id c.shown ys ≡ lines_of b.id b.shown (xs ++ ys)
lines_more b c xs ys id shown =
    ap (λ (l : List ℕ). lines_of b.id b.shown xs ++ l)
    (ap (λ (n : ℕ). lines_of n c.shown ys) id ∙ ap (λ (o : Option Ctx). lines_of b.id o ys) shown)
    ∙ sym (lines_of-append b.id b.shown xs ys)

module _ (s t u : IoState) (b c d : Block) (xs ys : List Item) where
  both_put : (x y : Unit {0}) (result : Outcome) → c.id ≡ b.id → PutsLines (following s b (Ok x)) xs (following t c (Ok y))
      → PutsLines (following t c (Ok y)) ys (following u d result) → PutsLines (following s b (Ok x)) (xs ++ ys) (following u d result)
  both_put x y result id first more =
      let text = puts_more s t u b.put c.put d.put y result (lines_of b.id b.shown xs) (lines_of c.id c.shown ys) first.puts more.puts in
      record {
        puts = subst (Puts s u b.put d.put result) (lines_more b c xs ys id (first.shown refl)) text;
        shown = λ ok. more.shown ok ∙ ap (λ (o : Option Ctx). shown_after_all o ys) (first.shown refl) ∙ sym (shown_after_all-append b.shown xs ys);
      }

  first_failed : (x : Unit {0}) (e : Failed) → PutsLines (following s b (Ok x)) xs (following t c (Err e))
      → PutsLines (following s b (Ok x)) (xs ++ ys) (following t d (Err e))
  first_failed x e first =
      let more = lines_of b.id (shown_after_all b.shown xs) ys in
      record {
        puts = subst (Puts s t b.put d.put (Err e)) (sym (lines_of-append b.id b.shown xs ys))
            (puts_failed s t b.put c.put d.put e (lines_of b.id b.shown xs) more first.puts);
        shown = λ ok. absurd cc;
      }

  puts_both : (p q r : Outcome) → c.id ≡ b.id → PutsUnless p (following s b p) xs (following t c q) → PutsUnless q (following t c q) ys (following u d r)
      → PutsUnless p (following s b p) (xs ++ ys) (following u d r)
  puts_both (Ok x) (Ok y) r id first more = both_put x y r id first more
  puts_both (Ok x) (Err e) r id first more =
      subst (λ (o : Outcome). PutsLines (following s b (Ok x)) (xs ++ ys) (following u d o)) (sym more.result)
      (subst (λ (i : IoState). PutsLines (following s b (Ok x)) (xs ++ ys) (following i d (Err e))) (sym more.sink) (first_failed x e first))
  puts_both (Err e) q r id first more =
      let rest = subst (λ (o : Outcome). PutsUnless o (following t c q) ys (following u d r)) first.result more in
      record { sink = rest.sink ∙ first.sink; result = rest.result ∙ first.result }

  pub takes_lines-joined : (p q r : Outcome) → TakesLines (following s b p) xs (following t c q) → TakesLines (following t c q) ys (following u d r)
      → TakesLines (following s b p) (xs ++ ys) (following u d r)
  takes_lines-joined p q r first more = record { id = more.id ∙ first.id; takes = puts_both p q r first.id first.takes more.takes }

-- the items of more stretches
pub items_joined : (ctx : Ctx) (xs ys : List Stretch) → items_in ctx xs ++ items_in ctx ys ≡ items_in ctx (xs ++ ys)
items_joined ctx [] ys = refl
items_joined ctx (x ∷ xs) ys =
    append_assoc (items_of (walked_in ctx x)) (items_in ctx xs) (items_in ctx ys)
    ∙ ap (λ (items : List Item). items_of (walked_in ctx x) ++ items) (items_joined ctx xs ys)
