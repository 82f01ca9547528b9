use Rattle.answer_laws.proofs.Complete.{faults_are_decided, numbers_are_done, packets_are_done, paths_are_done, run_files_are_done}
use Rattle.answer_laws.proofs.laws.good_input_is_answered.Goals as goal

pub returns-clause-run_files : goal.returns-clause-run_files
returns-clause-run_files c = run_files_are_done

pub returns-clause-numbers : goal.returns-clause-numbers
returns-clause-numbers c = numbers_are_done

pub returns-clause-paths : goal.returns-clause-paths
returns-clause-paths c = paths_are_done

pub returns-clause-packets : goal.returns-clause-packets
returns-clause-packets c = packets_are_done

pub returns-clause-decided : goal.returns-clause-decided
returns-clause-decided c = faults_are_decided
