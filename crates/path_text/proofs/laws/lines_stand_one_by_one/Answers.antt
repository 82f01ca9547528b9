use Rattle.path_text.proofs.Feeds.{cut_is, end_is, packet_is}
use Rattle.path_text.proofs.LineLemmas.{lines_of-append, shown_after_all-append}
use Rattle.path_text.proofs.LineLists.{line_list-append, list_each, list_joined}
use Rattle.path_text.proofs.laws.lines_stand_one_by_one.Goals as goal

pub returns-clause-joined : goal.returns-clause-joined
returns-clause-joined c = list_joined

pub returns-clause-each : goal.returns-clause-each
returns-clause-each c = list_each

pub returns-clause-packet : goal.returns-clause-packet
returns-clause-packet c = packet_is

pub returns-clause-last : goal.returns-clause-last
returns-clause-last c = end_is

pub returns-clause-cut : goal.returns-clause-cut
returns-clause-cut c = cut_is

pub returns-clause-list : goal.returns-clause-list
returns-clause-list c = line_list-append

pub returns-clause-lines : goal.returns-clause-lines
returns-clause-lines c = lines_of-append

pub returns-clause-context : goal.returns-clause-context
returns-clause-context c = shown_after_all-append
