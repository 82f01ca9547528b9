use Rattle.std.proofs.Common.{◌≡◌, ◌∷◌, ◌++◌, [], ℕ, List, ap, append_assoc, refl, subst, ◌∙◌}
use Rattle.std.specs.Prelude.{codes}
use Rattle.bench_gen.specs.Bench.{rounds, streams}
use Rattle.path_text.specs.Lines.{decimal}
use Rattle.path_text.specs.Writing.{Writes}
use Rattle.answer_lines.specs.SummaryLine.{counted, summary_line, word_of}
use Rattle.trace_io.specs.declared.traits.Failed.{Failed}
use Rattle.answer_lines.proofs.summary_line.write_summary.Goals as goal

-- a number and its text come behind a line
count_added : (count is : ℕ) (things before line line' line'' : List ℕ) → line ≡ before → count ≡ is → line' ≡ line ++ decimal count
    → line'' ≡ line' ++ (codes " " ++ things ++ codes ", ") → line'' ≡ before ++ counted is things
count_added count is things before line line' line'' begun same number text =
    let digits : line' ≡ before ++ decimal is = number ∙ ap (λ (l : List ℕ). l ++ decimal count) begun ∙ ap (λ (n : ℕ). before ++ decimal n) same in
    text ∙ ap (λ (l : List ℕ). l ++ (codes " " ++ things ++ codes ", ")) digits ∙ simp append_assoc

pub returns : goal.returns
returns g c =
    let out = g.K.Sink.state in
    let n = c.args.number in
    let begun : c.text-2.new.self ≡ codes "selftest " ++ decimal n ++ codes ": " =
    c.text-2.ensures ∙ ap (λ (l : List ℕ). l ++ codes ": ") (c.decimal_u32.ensures.value
    ∙ ap (λ (l : List ℕ). l ++ decimal n) (c.text.ensures ∙ ap (λ (l : List ℕ). l ++ codes "selftest ") c.new-text.ensures)) in
    let with_streams = count_added c.from.result (streams n) (codes "streams") _ c.text-2.new.self _ _ begun (c.from.ensures ∙ c.stream_count.ensures)
    c.decimal_u32-2.ensures.value c.text-3.ensures in
    let with_rounds = count_added c.round_count.result (rounds n) (codes "rounds") _ c.text-3.new.self _ _ with_streams c.round_count.ensures
    c.decimal_u32-3.ensures.value c.text-4.ensures in
    let with_lines = count_added c.args.lines c.args.lines (codes "lines") _ c.text-4.new.self _ _ with_rounds refl c.decimal.ensures.value c.text-5.ensures in
    let whole : c.text-6.new.self ++ 10 ∷ [] ≡ summary_line n c.args.cut c.args.lines =
    ap (λ (l : List ℕ). l ++ 10 ∷ []) (c.text-6.ensures ∙ ap (λ (w : List ℕ). c.text-5.new.self ++ w) c.last_word.ensures
    ∙ ap (λ (l : List ℕ). l ++ word_of c.args.cut) with_lines) in
    subst (λ (l : List ℕ). Writes {T = Unit {0}} {E = Failed} (out c.args.out.now) (out c.write.new.sink) c.write.result l) whole c.write.ensures.written
