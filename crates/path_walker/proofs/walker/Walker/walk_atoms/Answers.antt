use Rattle.std.proofs.Common.{◌∙◌, ◌<◌, ◌+◌, [], arith, refl, subst, sym}
use Rattle.etm_types.specs.Atoms.{low_bits}
use Rattle.path_walker.specs.State.{State}
use Rattle.path_walker.specs.Walk.{WalksNoMore}
use Rattle.path_walker.proofs.AtomRuns.{no_more_behind, no_more_first, no_more_left}
use Rattle.path_walker.proofs.Together.{into_joined, into_more, run_begun}
use Rattle.path_walker.proofs.walker.Walker.walk_atoms.Goals as goal

pub returns-in_default-clause-stops : goal.returns-in_default-clause-stops
returns-in_default-clause-stops g c =
    let image = c.args.image.now in let s = c.args.self.now in let given = c.args.given in
    let bits = c.args.atoms.now.bits in let count = c.args.atoms.now.count in
    let same = c.in_default.ensures.unchanged refl in
    let some : 0 < count → 0 < c.room.result → 0 < c.min-most.result = λ any room. omega (arith, any, room, c.min-most.ensures, c.from.ensures) in
    subst (λ room. WalksNoMore image c.walk_given.new.self given (low_bits count bits) 0 room) (c.room.ensures.space ∙ c.begin.ensures.space)
    (subst (λ (x : State). WalksNoMore image x given (low_bits count bits) 0 c.room.result) (sym same.0)
    (no_more_first image s given c.min-most.result count bits c.room.result some (c.in_default.ensures.none refl)))

pub returns-clause-walks : goal.returns-clause-walks
returns-clause-walks g c =
    let taker = g.T.StretchTaker in let law = g.met.T.StretchTaker in let image = c.args.image.now in let id = c.args.id in let s = c.args.self.now in
    let adds = taker.adds image id in let none = law.none image id in let joins = law.joins image id in let begun = c.begin.new.self in
    let given = c.args.given in let bits = c.args.atoms.now.bits in let count = c.args.atoms.now.count in let most = c.min-most.result in
    let first = c.in-Some.first in let more = c.walk_on in
    run_begun adds none joins taker.space taker.begun image s more.new.self given (low_bits count bits) (first + more.result) c.args.taker.now begun
    more.new.taker (subst (λ (x : State). adds x.ctx c.args.taker.now [] begun) c.self.view_is (c.begin.ensures.adds image id))
    (into_more adds none joins taker.space taker.begun image s more.new.self given most count bits (first + more.result) begun more.new.taker
    (omega (arith, c.min-most.ensures, c.from.ensures))
    (into_joined adds none joins taker.space taker.begun image s c.walk_given.new.self more.new.self given most bits first more.result begun
    c.walk_given.new.taker more.new.taker c.in-Some.ensures.behind.1 c.in-Some.ensures.behind.0 c.in-Some.ensures.walks more.ensures.walks))

pub returns-clause-stops : goal.returns-clause-stops
returns-clause-stops g c =
    let bits = c.args.atoms.now.bits in let count = c.args.atoms.now.count in let first = c.in-Some.first in let more = c.walk_on.result in
    let some : first + more < count → first + more < c.room.result → first + more < c.min-most.result =
    λ any short. omega (arith, any, short, c.min-most.ensures, c.from.ensures) in
    subst (λ room. WalksNoMore c.args.image.now c.walk_on.new.self c.args.given (low_bits count bits) (first + more) room)
    (c.room.ensures.space ∙ c.begin.ensures.space)
    (no_more_behind c.args.image.now c.walk_on.new.self c.args.given c.min-most.result count bits first more c.room.result
    c.in-Some.ensures.behind.0 some c.walk_on.ensures.stops)

-- ---- all were walked where the address was given

pub returns-then-first-most-clause-walks : goal.returns-then-first-most-clause-walks
returns-then-first-most-clause-walks g c =
    let taker = g.T.StretchTaker in let law = g.met.T.StretchTaker in let image = c.args.image.now in let id = c.args.id in let s = c.args.self.now in
    let adds = taker.adds image id in let none = law.none image id in let joins = law.joins image id in let begun = c.begin.new.self in
    let bits = c.args.atoms.now.bits in let count = c.args.atoms.now.count in let walked = c.walk_given.new in
    run_begun adds none joins taker.space taker.begun image s walked.self c.args.given (low_bits count bits) c.in-Some.first c.args.taker.now begun
    walked.taker (subst (λ (x : State). adds x.ctx c.args.taker.now [] begun) c.self.view_is (c.begin.ensures.adds image id))
    (into_more adds none joins taker.space taker.begun image s walked.self c.args.given c.min-most.result count bits c.in-Some.first begun walked.taker
    (omega (arith, c.min-most.ensures, c.from.ensures)) c.in-Some.ensures.walks)

pub returns-then-first-most-clause-stops : goal.returns-then-first-most-clause-stops
returns-then-first-most-clause-stops g c =
    let bits = c.args.atoms.now.bits in let count = c.args.atoms.now.count in let first = c.in-Some.first in
    let all : first < count → first < c.room.result → ⊥ =
    λ any short. omega (arith, any, short, c.if-first-most.true, c.min-most.ensures, c.from.ensures) in
    subst (λ room. WalksNoMore c.args.image.now c.walk_given.new.self c.args.given (low_bits count bits) first room)
    (c.room.ensures.space ∙ c.begin.ensures.space)
    (no_more_left c.args.image.now c.walk_given.new.self c.args.given count bits first c.room.result all)
