use Rattle.std.proofs.Common.{◌∷◌, [], Ok, refl, sym, ap, subst, inl, append-nil}
use Rattle.etm_types.specs.Walked.{items_of}
use Rattle.etm_types.specs.declared.element.Thing.{Thing}
use Rattle.etm_types.specs.declared.element.Thing.TheVariants.{Seen}
use Rattle.path_walker.specs.State.{State}
use Rattle.path_walker.specs.Things.{Walks}
use Rattle.path_walker.specs.Walk.{Shows}
use Rattle.stream_decoder.specs.Decoding.{Decoding}
use Rattle.path_walker.proofs.Worded.{shows_words}
use Rattle.stream_decoder.proofs.machine.Decoding.walk.Goals as goal

pub returns-in-Unseen-clause-walks : goal.returns-in-Unseen-clause-walks
returns-in-Unseen-clause-walks c = rw c.in-Unseen.is (inl ([], [], c.args.self.now.walk, (refl, refl), (refl, refl), refl))

pub returns-in-Gap-clause-walks : goal.returns-in-Gap-clause-walks
returns-in-Gap-clause-walks c = rw c.in-Gap.is (inl (_, [], c.args.self.now.walk, (refl, refl), (refl, refl), refl))

pub returns-in-Stop-clause-walks : goal.returns-in-Stop-clause-walks
returns-in-Stop-clause-walks c = rw c.in-Stop.is (inl (_, [], c.args.self.now.walk, (refl, refl), (refl, refl), refl))

pub returns-clause-walks : goal.returns-clause-walks
returns-clause-walks c =
    let walked = c.in-Ok.walked in let next = c.walk.new.self in let image = c.args.image.now in
    let shows : Shows image c.args.self.now.walk c.in-Seen.entry walked next =
    subst (λ (w : State). Shows image w c.in-Seen.entry walked next) (ap (λ (d : Decoding). d.walk) c.self.view_is) c.in-Ok.ensures.shows in
    let walks : Walks image c.args.self.now.walk (Seen c.in-Seen.entry ∷ []) (items_of walked) (Ok next) =
    inl (items_of walked, [], next, (walked, shows, refl), (refl, refl), sym (append-nil (items_of walked))) in
    subst (λ (t : Thing). Walks image c.args.self.now.walk (t ∷ []) (items_of walked) (Ok next)) (sym c.in-Seen.is) walks

pub returns-clause-words : goal.returns-clause-words
returns-clause-words c =
    shows_words c.args.image.now c.self.inside.walker c.walk.new.self c.in-Seen.entry c.in-Ok.walked c.in-Ok.ensures.shows
