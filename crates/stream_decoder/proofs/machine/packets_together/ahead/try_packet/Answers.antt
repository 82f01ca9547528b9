use Rattle.std.proofs.Common.{sym, refl, ◌∙◌, arith}
use Rattle.stream_decoder.proofs.AheadMoves.{header_is, number_follows, number_is_few, number_is_small, number_is_some, room_is}
use Rattle.stream_decoder.proofs.AheadMoves.{some_held, tried_atoms, tried_cancel, tried_commit, tried_flip}
use Rattle.stream_decoder.proofs.machine.packets_together.ahead.try_packet.Goals as goal
use Rattle.stream_decoder.proofs.machine.packets_together.ahead.try_packet.Goals.{then-header-eq-COMMIT, else-header-eq-COMMIT+then-header-eq-CANCEL_FORMAT_1, else-header-eq-COMMIT+else-header-eq-CANCEL_FORMAT_1}

-- ---- atoms

pub returns-then-hold-clause-moves : goal.returns-then-hold-clause-moves
returns-then-hold-clause-moves c =
    let head = c.in_ok-header in
    tried_atoms c.args.bytes.now head.rest.now head.header.now c.args.outlook.now c.hold.new.self head.ensures.cases.0 c.in-Some.run'
    c.in-Some.ensures.run c.in-Some.ensures.within (c.hold.ensures.when.0 c.if-hold.true) (c.hold.ensures.holds c.if-hold.true)

pub returns-else-hold-clause-some : goal.returns-else-hold-clause-some
returns-else-hold-clause-some c p behind o parts moves =
    let head = c.in_ok-header in
    let room = room_is c.args.bytes.now head.rest.now behind head.header.now c.in-Some.run' p c.args.outlook.now o head.ensures.cases.0
    c.in-Some.ensures.run parts moves in
    sym c.if-hold.false ∙ c.hold.ensures.when.1 room

-- ---- a mispredict

pub returns-then-flip-clause-moves : goal.returns-then-flip-clause-moves
returns-then-flip-clause-moves c =
    let head = c.in_ok-header in
    tried_flip c.args.bytes.now head.rest.now head.header.now c.args.outlook.now c.flip.new.self head.ensures.cases.0 c.if-header-eq-MISPREDICT.true
    (c.flip.ensures.when.0 c.if-flip.true) (c.flip.ensures.flips c.if-flip.true)

pub returns-else-flip-clause-some : goal.returns-else-flip-clause-some
returns-else-flip-clause-some c p behind o parts moves =
    let head = c.in_ok-header in
    let some = some_held c.args.bytes.now head.rest.now behind head.header.now p c.args.outlook.now o head.ensures.cases.0 c.if-header-eq-MISPREDICT.true
    parts moves in
    sym c.if-flip.false ∙ c.flip.ensures.when.1 some

-- ---- a header and a number

pub returns-in_err-n-clause-some : goal.returns-in_err-n-clause-some
returns-in_err-n-clause-some c p behind o parts moves =
    let head = c.in_ok-header in
    absurd (number_follows c.args.bytes.now head.rest.now behind head.header.now p c.args.outlook.now o head.ensures.cases.0
    (c.in_default.ensures.none.0 refl) c.if-header-eq-MISPREDICT.false parts moves c.in_err-n.ensures.cases)

pub returns-then-n-ge-CONTINUES-clause-some : goal.returns-then-n-ge-CONTINUES-clause-some
returns-then-n-ge-CONTINUES-clause-some c p behind o parts moves =
    let head = c.in_ok-header in let number = c.in_ok-n in
    let small = number_is_small c.args.bytes.now head.rest.now behind head.header.now p c.args.outlook.now o head.ensures.cases.0
    (c.in_default.ensures.none.0 refl) c.if-header-eq-MISPREDICT.false parts moves number.n.now number.behind.now number.ensures.cases.0 in
    absurd (omega (arith, small, c.if-n-ge-CONTINUES.true))

pub returns-then-taken-clause-moves : goal.returns-then-taken-clause-moves
returns-then-taken-clause-moves c =
    let head = c.in_ok-header in let number = c.in_ok-n in let o = c.args.outlook.now in let o' = c.if-header-eq-COMMIT.outlook in
    elim c.if-header-eq-COMMIT.branch [
      | then-header-eq-COMMIT w ↦
          let taken = sym w.taken-is ∙ c.if-taken.true in
          tried_commit c.args.bytes.now head.rest.now head.header.now o o' head.ensures.cases.0 w.from.result number.n.now number.behind.now
          number.ensures.cases.0 w.from.ensures c.if-n-ge-CONTINUES.false w.if-header-eq-COMMIT.true (w.commit-taken.ensures.when.0 taken)
          (w.outlook-is ∙ w.commit-taken.ensures.commits taken)
      | else-header-eq-COMMIT+then-header-eq-CANCEL_FORMAT_1 w ↦
          let from = w.from-then-header-eq-CANCEL_FORMAT_1 in let taken = sym w.taken-is ∙ c.if-taken.true in
          tried_cancel c.args.bytes.now head.rest.now head.header.now o o' head.ensures.cases.0 from.result number.n.now number.behind.now
          number.ensures.cases.0 from.ensures c.if-n-ge-CONTINUES.false w.if-header-eq-CANCEL_FORMAT_1.true (w.cancel.ensures.when.0 taken)
          (w.outlook-is ∙ w.cancel.ensures.takes taken)
      | else-header-eq-COMMIT+else-header-eq-CANCEL_FORMAT_1 w ↦ absurd (let taken = sym w.taken-is ∙ c.if-taken.true in cc)
    ]

pub returns-else-taken-clause-some : goal.returns-else-taken-clause-some
returns-else-taken-clause-some c p behind o' parts moves =
    let head = c.in_ok-header in let number = c.in_ok-n in let o = c.args.outlook.now in let below = c.in_default.ensures.none.0 refl in
    let other = c.if-header-eq-MISPREDICT.false in
    elim c.if-header-eq-COMMIT.branch [
      | then-header-eq-COMMIT w ↦
          let few = number_is_few c.args.bytes.now head.rest.now behind head.header.now p o o' head.ensures.cases.0 below other parts moves number.n.now
          number.behind.now number.ensures.cases.0 w.from.result w.from.ensures in
          let some = number_is_some c.args.bytes.now head.rest.now behind head.header.now p o o' head.ensures.cases.0 below other parts moves number.n.now
          number.behind.now number.ensures.cases.0 w.from.result w.from.ensures in
          sym c.if-taken.false ∙ w.taken-is ∙ w.commit-taken.ensures.when.1 (some, few)
      | else-header-eq-COMMIT+then-header-eq-CANCEL_FORMAT_1 w ↦
          let from = w.from-then-header-eq-CANCEL_FORMAT_1 in
          let few = number_is_few c.args.bytes.now head.rest.now behind head.header.now p o o' head.ensures.cases.0 below other parts moves number.n.now
          number.behind.now number.ensures.cases.0 from.result from.ensures in
          let some = number_is_some c.args.bytes.now head.rest.now behind head.header.now p o o' head.ensures.cases.0 below other parts moves number.n.now
          number.behind.now number.ensures.cases.0 from.result from.ensures in
          sym c.if-taken.false ∙ w.taken-is ∙ w.cancel.ensures.when.1 (some, few)
      | else-header-eq-COMMIT+else-header-eq-CANCEL_FORMAT_1 w ↦
          absurd (w.if-header-eq-CANCEL_FORMAT_1.false (header_is c.args.bytes.now head.rest.now behind head.header.now p o o' head.ensures.cases.0 below
          other parts moves w.if-header-eq-COMMIT.false))
    ]
