use Rattle.std.proofs.Common.{◌≡◌, ◌<◌, ◌++◌, [], ◌∷◌, arith, ap, length, map, None, refl, sym, ◌∙◌}
use Rattle.std.proofs.lemmas.Bool.{ltb-false, ltb-true}
use Rattle.etm_types.specs.Atoms.{most_atoms}
use Rattle.element_queue.specs.Queued.{plain_entry}
use Rattle.element_queue.proofs.Fronts.{all_bits, front_enough, front_whole, front_within, not_some}
use Rattle.element_queue.proofs.entries.AtomsAndEntry.add_to.Goals.{After-len-2}
use Rattle.element_queue.proofs.entries.AtomsAndEntry.add_to.Goals as goal

pub returns-then-len-ge-MOST_OF_RUN-clause-ends : goal.returns-then-len-ge-MOST_OF_RUN-clause-ends
returns-then-len-ge-MOST_OF_RUN-clause-ends c stops others =
    let old = c.args.front.now in let run = c.args.self.now in
    front_within old run.plain c.push_run.new.self run.last others c.front.result.count
    (c.push_run.ensures ∙ ap (λ l. old ++ l) c.front.ensures.atoms)
    (λ less. absurd (omega (arith, less, c.len.ensures.len, c.if-len-ge-MOST_OF_RUN.true)))

pub returns-in_default-clause-ends : goal.returns-in_default-clause-ends
returns-in_default-clause-ends c stops others =
    let old = c.args.front.now in let run = c.args.self.now in let n = c.front.result.count in
    let bits = c.push_run.ensures ∙ ap (λ l. old ++ l) c.front.ensures.atoms in
    front_within old run.plain c.push_run.new.self run.last others n bits
    (λ less. (
      all_bits old run.plain c.push_run.new.self n bits c.front.ensures.within c.front.ensures.all less,
      λ taken is. not_some None refl (c.in_default.ensures.some taken (c.packed.ensures ∙ is)),
    ))

-- all of its entries stand behind the front
whole : (c : After-len-2) → map plain_entry c.push.new.self
    ≡ map plain_entry c.args.front.now ++ map plain_entry c.args.self.now.plain ++ c.args.self.now.last ∷ []
whole c =
    let old = c.args.front.now in let run = c.args.self.now in let n = c.front.result.count in
    let bits = c.push_run.ensures ∙ ap (λ l. old ++ l) c.front.ensures.atoms in
    let less : length c.push_run.new.self < most_atoms = omega (arith, c.len.ensures.len, c.if-len-ge-MOST_OF_RUN.false) in
    front_whole old run.plain c.push.new.self c.push_run.new.self run.last c.in-Some.taken n bits
    (all_bits old run.plain c.push_run.new.self n bits c.front.ensures.within c.front.ensures.all less)
    (sym c.packed.ensures ∙ c.in-Some.ensures.value) c.push.ensures

pub returns-clause-goes_on : goal.returns-clause-goes_on
returns-clause-goes_on c more = (whole c, omega (arith, c.len-2.ensures.len, ltb-true c.len-2.result 24 more))

pub returns-clause-ends : goal.returns-clause-ends
returns-clause-ends c stops others =
    front_enough c.args.front.now c.args.self.now.plain c.push.new.self c.args.self.now.last others (whole c)
    (omega (arith, c.len-2.ensures.len, ltb-false c.len-2.result 24 stops))
