use Rattle.std.proofs.Common.{◌≡◌, ◌-◌, ◌/◌, ◌<◌, ◌≤◌, ◌∙◌, List, ap, arith, get_or, length, subst, sym}
use Rattle.std.specs.Prelude.{slice_get, MatchOption, None, Option, Some}
use Rattle.program_image.specs.Part.{Part, word_in, word_of}
use Rattle.program_image.specs.Blocks.{class_at}
use Rattle.program_image.specs.Runs.{run_of}
use Rattle.program_image.specs.declared.run.PlainRun.{PlainRun}
use Rattle.program_image.specs.declared.run.WordRun.{WordRun}
use Rattle.program_image.proofs.Tables.{HasRun, run_found, same_length}
use Rattle.program_image.proofs.image.Image.run_in.Goals as goal

pub index-requires-2 : goal.index-requires-2
index-requires-2 c =
    let same = same_length c.self.inside.parts.items c.self.inside.parts.items c.self.inside.table.items c.self.invariant.1 in
    omega (arith, c.requires.within, ap length c.self.view_is, same)

-- what holds of the run that is found holds of it as it is kept
as_kept : (found : Option PlainRun) (kept : Option WordRun) (P : Type 0) (Q : PlainRun → Type 0) → MatchOption found P Q
    → MatchOption kept (found ≡ None) (λ run. found ≡ Some (run_of run)) → MatchOption kept P (λ run. Q (run_of run))
as_kept found None P Q holds same = subst (λ o. MatchOption o P Q) same holds
as_kept found (Some run) P Q holds same = subst (λ o. MatchOption o P Q) same holds

pub returns : goal.returns
returns c =
    let addr = c.args.addr in
    let place = c.args.part in
    let parts = c.self.inside.parts.items in
    let part = c.index.result.now in
    let runs = c.index-2.result.now in
    let same = sym c.self.view_is in
    let within : place < length parts = omega (arith, c.requires.within, ap length same) in
    let word = ap (λ parts. word_of parts addr) (sym same) ∙ c.requires.part part ∙ ap (λ parts. word_in (get_or parts place part) addr) same in
    let begun : (get_or parts place part).start ≤ addr =
    subst (λ (parts : List Part). (get_or parts place part).start ≤ addr) same (c.requires.begun part) in
    let found =
    run_found parts c.self.inside.table.items addr place part runs c.self.invariant.0 c.self.invariant.1 c.requires.aligned within
    c.index.ensures c.index-2.ensures word begun in
    let at : (addr - part.start) / 4 ≡ (addr - c.start.result) / 4 = ap (λ start. (addr - start) / 4) (sym c.start.ensures) in
    let there = subst (λ k. MatchOption (slice_get runs k) (class_at parts addr ≡ None) (HasRun parts addr)) at found in
    record {
      run = subst (λ (l : List Part). MatchOption c.kept_at.result (class_at l addr ≡ None) (λ run. HasRun l addr (run_of run))) c.self.view_is
          (as_kept _ c.kept_at.result (class_at parts addr ≡ None) (HasRun parts addr) there c.kept_at.ensures);
    }
