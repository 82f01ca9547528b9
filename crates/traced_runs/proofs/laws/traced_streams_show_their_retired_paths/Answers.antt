use Rattle.traced_runs.proofs.SyncedFrames.{synced_again}
use Rattle.traced_runs.proofs.TracedStreams.{no_event_no_line, traces_are_shown}
use Rattle.traced_runs.proofs.TracedTables.{some_table_suits}
use Rattle.traced_runs.proofs.laws.traced_streams_show_their_retired_paths.Goals as goal

pub returns-clause-no_event : goal.returns-clause-no_event
returns-clause-no_event c = no_event_no_line

pub returns-clause-shown : goal.returns-clause-shown
returns-clause-shown c = traces_are_shown

pub returns-clause-some_table : goal.returns-clause-some_table
returns-clause-some_table c = some_table_suits

pub returns-clause-synced : goal.returns-clause-synced
returns-clause-synced c = synced_again
