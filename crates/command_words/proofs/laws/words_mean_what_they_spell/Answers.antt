use Rattle.std.proofs.Common.{true, false}
use Rattle.command_words.proofs.CommandLines.{packets_line, retired_line, selftest_line, times_line, trace_line, walk_line}
use Rattle.command_words.proofs.CommandLines.{packets_said, retired_said, selftest_said, times_said, trace_said, walk_said}
use Rattle.command_words.proofs.laws.words_mean_what_they_spell.Goals as goal

pub returns-clause-path : goal.returns-clause-path
returns-clause-path c = λ words program intake. (walk_line words program intake false, walk_said words program intake false)

pub returns-clause-counts : goal.returns-clause-counts
returns-clause-counts c = λ words program intake. (walk_line words program intake true, walk_said words program intake true)

pub returns-clause-packets : goal.returns-clause-packets
returns-clause-packets c = λ words intake. (packets_line words intake, packets_said words intake)

pub returns-clause-times : goal.returns-clause-times
returns-clause-times c = λ words intake. (times_line words intake, times_said words intake)

pub returns-clause-retired : goal.returns-clause-retired
returns-clause-retired c = λ words program. (retired_line words program, retired_said words program)

pub returns-clause-trace : goal.returns-clause-trace
returns-clause-trace c = λ words program last every. (trace_line words program last every, trace_said words program last every)

pub returns-clause-selftest : goal.returns-clause-selftest
returns-clause-selftest c = λ words n cut. (selftest_line words n cut, selftest_said words n cut)
