use Rattle.capture_streams.proofs.OneText.{one_body, one_ending, one_sum, one_text, some_body, some_ending, some_text}
use Rattle.capture_streams.specs.Texts.{by_sizes}
use Rattle.capture_streams.proofs.laws.a_text_is_one.Goals as goal

pub returns-clause-body : goal.returns-clause-body
returns-clause-body g c shared t = one_body (by_sizes (g.S.Stream.listing shared) t)

pub returns-clause-ending : goal.returns-clause-ending
returns-clause-ending g c shared t = one_ending (by_sizes (g.S.Stream.listing shared) t)

pub returns-clause-text : goal.returns-clause-text
returns-clause-text g c shared t = one_text (by_sizes (g.S.Stream.listing shared) t)

pub returns-clause-some_body : goal.returns-clause-some_body
returns-clause-some_body g c shared t = some_body (by_sizes (g.S.Stream.listing shared) t)

pub returns-clause-some_ending : goal.returns-clause-some_ending
returns-clause-some_ending g c shared t = some_ending (by_sizes (g.S.Stream.listing shared) t)

pub returns-clause-some_text : goal.returns-clause-some_text
returns-clause-some_text g c shared t = some_text (by_sizes (g.S.Stream.listing shared) t)

pub returns-clause-sum : goal.returns-clause-sum
returns-clause-sum g c shared t = one_sum (by_sizes (g.S.Stream.listing shared) t)
