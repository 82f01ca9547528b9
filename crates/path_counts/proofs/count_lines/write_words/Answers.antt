use Rattle.std.proofs.Common.{◌≡◌, ◌+◌, ◌≤◌, ◌<◌, ◌++◌, ◌∙◌, [], refl, sym, ap, subst, arith, append_assoc, append-nil, get_or, ◌^◌, None, rules}
use Rattle.std.specs.Prelude.{slice_get}
use Rattle.std.proofs.lemmas.List.Elements.{All-nil, All-weaker}
use Rattle.std.proofs.lemmas.Option.{slice_get_within}
use Rattle.std.proofs.lemmas.Result.{err_from_is_err_and}
use Rattle.program_image.specs.Places.{word_addresses}
use Rattle.program_image.proofs.WordPlaces.{few_words, length_addresses}
use Rattle.path_text.proofs.Wrote.{Wrote, wrote_nothing, wrote_by, wrote_more, writes_all, fails_after}
use Rattle.path_counts.specs.declared.targets.Target.{Target}
use Rattle.path_counts.specs.CountLines.{word_lines}
use Rattle.path_counts.proofs.FromEntries.{rising_addresses}
use Rattle.path_counts.proofs.TextSteps.{slice_get_none, words_end, words_left, words_next}
use Rattle.path_counts.proofs.count_lines.write_words.Goals as goal

pub loop-addr-init : goal.loop-addr-init
loop-addr-init g c = record {
  within = omega arith;
  next = omega arith;
  before = λ k a le at. All-nil (λ (e : Target). e.from < a);
  so_far = ([], wrote_nothing _, refl);
}

pub at-requires : goal.at-requires
at-requires g c =
    let short = slice_get_within (word_addresses c.args.image.now) c.loop-addr.place c.in-Some.addr (sym c.in-Some.ensures.address) in
    omega (arith, short, c.requires.visits, length_addresses c.args.image.now c.in-Some.ensures.parts.parts)

pub at-requires-in-Some : goal.at-requires-in-Some
at-requires-in-Some g c =
    let short = slice_get_within (word_addresses c.args.image.now) c.loop-addr.place c.in-Some.addr (sym c.in-Some.ensures.address) in
    omega (arith, short, c.requires.taken, length_addresses c.args.image.now c.in-Some.ensures.parts.parts)

pub write_word-requires-clause-before : goal.write_word-requires-clause-before
write_word-requires-clause-before g c =
    c.loop-addr.invariant.before c.loop-addr.place c.in-Some.addr (omega arith) (sym c.in-Some.ensures.address)

pub overflow_add-place : goal.overflow_add-place
overflow_add-place g c =
    let image = c.args.image.now in
    let short = slice_get_within (word_addresses image) c.loop-addr.place c.in-Some.addr (sym c.in-Some.ensures.address) in
    omega (arith, short, length_addresses image c.in-Some.ensures.parts.parts, few_words image (2 ^ 64) c.in-Some.ensures.parts)

pub loop-addr-smaller : goal.loop-addr-smaller
loop-addr-smaller g c =
    let short = slice_get_within (word_addresses c.args.image.now) c.loop-addr.place c.in-Some.addr (sym c.in-Some.ensures.address) in
    omega (arith, short)

pub returns-in_err-next : goal.returns-in_err-next
returns-in_err-next g c =
    let p = err_from_is_err_and c.from_residual.result c.from_residual.ensures.1 in
    let i = c.loop-addr.invariant in
    let image = c.args.image.now in
    let visits = c.args.visits.now in
    let taken = c.args.taken.now in
    let entries = c.args.entries.now in
    let place = c.loop-addr.place in
    let count = length_addresses image c.in-Some.ensures.parts.parts in
    let rest = words_left (word_addresses image) visits taken entries (place + 1) in
    let next = words_next (word_addresses image) visits taken entries place c.in-Some.addr (sym c.in-Some.ensures.address)
    (c.requires.visits ∙ sym count) (c.requires.taken ∙ sym count) in
    let shown = ap (λ n. word_lines c.in-Some.addr n c.at-in-Some.result entries ++ rest) c.at.ensures
    ∙ ap (λ n. word_lines c.in-Some.addr (get_or visits place 0) n entries ++ rest) c.at-in-Some.ensures in
    rw p.1 (fails_after _ _ _ c.in_err-next.field-0.0 p.0 i.so_far.0 _ _ _ (ap (λ t. i.so_far.0 ++ t) (shown ∙ sym next) ∙ i.so_far.2) i.so_far.1
    c.in_err-next.ensures.text)

pub loop-addr-preserved : goal.loop-addr-preserved
loop-addr-preserved g c =
    let i = c.loop-addr.invariant in
    let image = c.args.image.now in
    let visits = c.args.visits.now in
    let taken = c.args.taken.now in
    let entries = c.args.entries.now in
    let place = c.loop-addr.place in
    let addr = c.in-Some.addr in
    let here = sym c.in-Some.ensures.address in
    let short = slice_get_within (word_addresses image) place addr here in
    let count = length_addresses image c.in-Some.ensures.parts.parts in
    let rest = words_left (word_addresses image) visits taken entries (place + 1) in
    let next = words_next (word_addresses image) visits taken entries place addr here (c.requires.visits ∙ sym count) (c.requires.taken ∙ sym count) in
    let shown = ap (λ n. word_lines addr n c.at-in-Some.result entries ++ rest) c.at.ensures
    ∙ ap (λ n. word_lines addr (get_or visits place 0) n entries ++ rest) c.at-in-Some.ensures in
    record {
      within = omega (arith, short);
      next = c.in_ok-next.ensures.within;
      before = λ k a le at.
          let lt : addr < a = rising_addresses image place k addr a c.in-Some.ensures.parts here at (omega (arith, le)) in
          All-weaker (λ (e : Target). e.from ≤ addr) (λ (e : Target). e.from < a) (λ e upto. omega (arith, upto, lt)) _ c.in_ok-next.ensures.before;
      so_far = (
        i.so_far.0 ++ word_lines addr c.at.result c.at-in-Some.result entries,
        wrote_more _ _ _ _ _ i.so_far.1 (wrote_by _ _ _ _ c.in_ok-next.ensures.text),
        append_assoc i.so_far.0 (word_lines addr c.at.result c.at-in-Some.result entries) rest ∙ ap (λ t. i.so_far.0 ++ t) (shown ∙ sym next) ∙ i.so_far.2,
      );
    }

pub returns : goal.returns
returns g c =
    let i = c.loop-addr.invariant in
    let addresses = word_addresses c.args.image.now in
    let none : slice_get addresses c.loop-addr.place ≡ None = search rules in
    let past = slice_get_none addresses c.loop-addr.place none in
    let end = words_end addresses c.args.visits.now c.args.taken.now c.args.entries.now c.loop-addr.place past in
    let all = sym (append-nil i.so_far.0) ∙ ap (λ t. i.so_far.0 ++ t) (sym end) ∙ i.so_far.2 in
    writes_all _ _ _ _ (subst (Wrote _ _) all i.so_far.1)
