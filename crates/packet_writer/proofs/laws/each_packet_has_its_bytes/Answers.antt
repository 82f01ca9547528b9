use Rattle.packet_writer.proofs.Having.{it_spells, of_bytes, spelled_where_fits}
use Rattle.packet_writer.proofs.Shortest.{none_is_shorter}
use Rattle.packet_writer.proofs.Zeros.{none_is_set}
use Rattle.packet_writer.proofs.laws.each_packet_has_its_bytes.Goals as goal

pub returns-clause-spells : goal.returns-clause-spells
returns-clause-spells c = it_spells

pub returns-clause-of_bytes : goal.returns-clause-of_bytes
returns-clause-of_bytes c = of_bytes

pub returns-clause-shortest : goal.returns-clause-shortest
returns-clause-shortest c = none_is_shorter

pub returns-clause-by_values : goal.returns-clause-by_values
returns-clause-by_values c = spelled_where_fits

pub returns-clause-passed_over : goal.returns-clause-passed_over
returns-clause-passed_over c = none_is_set
