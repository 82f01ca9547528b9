use Rattle.std.proofs.Common.{◌/◌, ◌-◌}
use Rattle.packet_writer.proofs.Digits.{Stamping}
use Rattle.packet_writer.proofs.numbers.put_time_stamp.Given as goal

abbrev pub invariant-loop : goal.invariant-loop
invariant-loop l = Stamping l.fn.out l.out (l.bits / 7 - 1) l.low (l.bits / 7 - l.counter) l.rest
