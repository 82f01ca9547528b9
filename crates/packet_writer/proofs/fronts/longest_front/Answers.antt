use Rattle.std.proofs.Common.{take}
use Rattle.packet_writer.proofs.Longest.{by_all, by_table, by_then, front_24, front_within}
use Rattle.packet_writer.proofs.fronts.longest_front.Goals as goal

pub returns-then-most-le-MOST_IN_ROW-clause-front : goal.returns-then-most-le-MOST_IN_ROW-clause-front
returns-then-most-le-MOST_IN_ROW-clause-front c =
    let front =
    front_24 c.args.atoms.now c.min-most.result c.unwrap_or-taken.result c.first_not_taken.result c.min-most.ensures c.first_not_taken.ensures
    c.unwrap_or-taken.ensures in
    (by_table c.args.atoms.now c.min-most.result c.unwrap_or-taken.result c.min-few.result c.front_of_few.result.0 c.front_of_few.result.1 front
    c.min-few.ensures c.then-most-le-MOST_IN_ROW.either
    (record { front = c.front_of_few.ensures.front; longest = c.front_of_few.ensures.longest })).front

pub returns-then-most-le-MOST_IN_ROW-clause-longest : goal.returns-then-most-le-MOST_IN_ROW-clause-longest
returns-then-most-le-MOST_IN_ROW-clause-longest c =
    let front =
    front_24 c.args.atoms.now c.min-most.result c.unwrap_or-taken.result c.first_not_taken.result c.min-most.ensures c.first_not_taken.ensures
    c.unwrap_or-taken.ensures in
    (by_table c.args.atoms.now c.min-most.result c.unwrap_or-taken.result c.min-few.result c.front_of_few.result.0 c.front_of_few.result.1 front
    c.min-few.ensures c.then-most-le-MOST_IN_ROW.either
    (record { front = c.front_of_few.ensures.front; longest = c.front_of_few.ensures.longest })).longest

pub returns-then-most-le-MOST_IN_ROW-clause-within : goal.returns-then-most-le-MOST_IN_ROW-clause-within
returns-then-most-le-MOST_IN_ROW-clause-within c =
    front_within (take c.min-few.result (take c.min-most.result c.args.atoms.now)) c.front_of_few.result.0 c.front_of_few.result.1
    c.front_of_few.ensures.front

pub returns-then-taken-most-clause-front : goal.returns-then-taken-most-clause-front
returns-then-taken-most-clause-front c =
    (by_then c.args.atoms.now c.min-most.result c.unwrap_or-taken.result
    (front_24 c.args.atoms.now c.min-most.result c.unwrap_or-taken.result c.first_not_taken.result c.min-most.ensures c.first_not_taken.ensures
    c.unwrap_or-taken.ensures)
    c.if-taken-lt-LEAST_TAKEN.false c.if-taken-most.true).front

pub returns-then-taken-most-clause-longest : goal.returns-then-taken-most-clause-longest
returns-then-taken-most-clause-longest c =
    (by_then c.args.atoms.now c.min-most.result c.unwrap_or-taken.result
    (front_24 c.args.atoms.now c.min-most.result c.unwrap_or-taken.result c.first_not_taken.result c.min-most.ensures c.first_not_taken.ensures
    c.unwrap_or-taken.ensures)
    c.if-taken-lt-LEAST_TAKEN.false c.if-taken-most.true).longest

pub returns-else-taken-most-clause-front : goal.returns-else-taken-most-clause-front
returns-else-taken-most-clause-front c =
    (by_all c.args.atoms.now c.min-most.result c.unwrap_or-taken.result
    (front_24 c.args.atoms.now c.min-most.result c.unwrap_or-taken.result c.first_not_taken.result c.min-most.ensures c.first_not_taken.ensures
    c.unwrap_or-taken.ensures)
    c.if-most-le-MOST_IN_ROW.false c.if-taken-most.false).front

pub returns-else-taken-most-clause-longest : goal.returns-else-taken-most-clause-longest
returns-else-taken-most-clause-longest c =
    (by_all c.args.atoms.now c.min-most.result c.unwrap_or-taken.result
    (front_24 c.args.atoms.now c.min-most.result c.unwrap_or-taken.result c.first_not_taken.result c.min-most.ensures c.first_not_taken.ensures
    c.unwrap_or-taken.ensures)
    c.if-most-le-MOST_IN_ROW.false c.if-taken-most.false).longest
