use Rattle.path_elements.proofs.Grows.{each_packet_adds, none_behind}
use Rattle.path_elements.proofs.laws.elements_come_one_by_one.Goals as goal

pub returns-clause-adds : goal.returns-clause-adds
returns-clause-adds c = each_packet_adds

pub returns-clause-none_behind : goal.returns-clause-none_behind
returns-clause-none_behind c = none_behind
