use Rattle.packet_list.proofs.PacketLists.{one_end, one_gain, some_gain, some_line}
use Rattle.packet_list.proofs.laws.packets_have_one_list.Goals as goal

pub returns-clause-one_gain : goal.returns-clause-one_gain
returns-clause-one_gain c = one_gain

pub returns-clause-one_end : goal.returns-clause-one_end
returns-clause-one_end c = one_end

pub returns-clause-some_gain : goal.returns-clause-some_gain
returns-clause-some_gain c = some_gain

pub returns-clause-some_end : goal.returns-clause-some_end
returns-clause-some_end c = some_line
