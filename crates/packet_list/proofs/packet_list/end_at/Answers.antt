use Rattle.std.proofs.Common.{◌∙◌}
use Rattle.packet_list.proofs.packet_list.end_at.Goals as goal

pub returns-in-None : goal.returns-in-None
returns-in-None c bytes read = c.end_without_fault.ensures bytes read.packets read.ending read.stands read.stream (read.fault ∙ c.in-None.is)
