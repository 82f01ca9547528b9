use Rattle.std.proofs.Common.{◌≡◌, ◌∙◌, ◌^◌, List, ℕ, ap, arith, get_or, length, rules}
use Rattle.program_image.specs.Places.{word_count, words_before}
use Rattle.program_image.proofs.WordPlaces.{all_before, few_words, length_before}
use Rattle.program_image.proofs.image.Image.word_count.Goals as goal

pub count_before-requires : goal.count_before-requires
count_before-requires c =
    let parts = c.self.inside.parts.items in
    let at : c.len.result ≡ length parts = search rules in
    let long = ap (λ (l : List ℕ). length l) c.self.invariant.2 in
    omega (arith, at, long, length_before 0 parts)

pub returns-clause-value : goal.returns-clause-value
returns-clause-value c =
    let parts = c.self.inside.parts.items in
    let at : c.len.result ≡ length parts = search rules in
    c.count_before.ensures ∙ ap (λ (l : List ℕ). get_or l c.len.result 0) c.self.invariant.2 ∙ ap (λ n. get_or (words_before 0 parts) n 0) at
    ∙ all_before parts c.self.invariant.0 ∙ ap word_count c.self.view_is

pub returns-clause-few : goal.returns-clause-few
returns-clause-few c =
    let parts = c.self.inside.parts.items in
    let at : c.len.result ≡ length parts = search rules in
    let count : c.count_before.result ≡ word_count parts =
    c.count_before.ensures ∙ ap (λ (l : List ℕ). get_or l c.len.result 0) c.self.invariant.2 ∙ ap (λ n. get_or (words_before 0 parts) n 0) at
    ∙ all_before parts c.self.invariant.0 in
    omega (arith, count, few_words parts (2 ^ 64) c.self.invariant.0)
