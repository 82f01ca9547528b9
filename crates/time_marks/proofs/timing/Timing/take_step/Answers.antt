use Rattle.time_marks.proofs.timing.Timing.take_step.Goals as goal

pub take_packet-requires-clause-stamp : goal.take_packet-requires-clause-stamp
take_packet-requires-clause-stamp g c = (c.requires.packet c.in-Whole.at c.in-Whole.packet c.in-Whole.is).1
