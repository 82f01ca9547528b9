use Rattle.element_queue.proofs.Runs.{cancels_join, first_too_many, second_too_many, sum_too_many}
use Rattle.element_queue.proofs.laws.joined_cancels_are_their_sum.Goals as goal

pub returns-clause-sum : goal.returns-clause-sum
returns-clause-sum c = cancels_join

pub returns-clause-refused : goal.returns-clause-refused
returns-clause-refused c = sum_too_many

pub returns-clause-first : goal.returns-clause-first
returns-clause-first c = first_too_many

pub returns-clause-second : goal.returns-clause-second
returns-clause-second c = second_too_many
