use Rattle.std.proofs.Common.{◌≡◌, ◌∷◌, Bool, false, not, Option, None, Some, ap, arith, refl, ◌∙◌}
use Rattle.std.specs.Prelude.{IsSome}
use Rattle.std.specs.Option.{is_some}
use Rattle.element_queue.specs.Queued.{plain_entry}
use Rattle.element_queue.proofs.Fronts.{same_entry}
use Rattle.element_queue.proofs.entries.AtomsAndEntry.has_front.Goals as goal

some_or_none : (taken : Option Bool) → IsSome taken → is_some taken ≡ false → ⊥
some_or_none None some none = cc
some_or_none (Some taken) some none = cc

pub returns-then-len-ge-MOST_OF_RUN : goal.returns-then-len-ge-MOST_OF_RUN
returns-then-len-ge-MOST_OF_RUN c enough others =
    (c.args.self.now.last ∷ others, refl, λ less taken there. absurd (omega (arith, less, c.len.ensures.len, c.if-len-ge-MOST_OF_RUN.true)))

pub returns-else-len-ge-MOST_OF_RUN : goal.returns-else-len-ge-MOST_OF_RUN
returns-else-len-ge-MOST_OF_RUN c none others =
    let last = c.args.self.now.last in (
      last ∷ others,
      refl,
      λ less taken there.
          let some = c.plain_atom.ensures.some taken (c.packed.ensures ∙ same_entry last (plain_entry taken) there) in
          some_or_none c.plain_atom.result some (c.is_none.ensures ∙ ap not none),
    )
