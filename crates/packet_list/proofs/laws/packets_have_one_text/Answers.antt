use Rattle.capture_streams.specs.Demuxed.{raw_pairs}
use Rattle.formatter_frames.specs.Unframed.{unframed}
use Rattle.capture_streams.proofs.Parted.{frames_carry_on, raw_carries_on}
use Rattle.packet_list.proofs.PacketTexts.{each_packet_is_a_line, fronts_of_packets_begin, one_text_of_packets, packets_are_alone, some_text_of_packets}
use Rattle.packet_list.proofs.laws.packets_have_one_text.Goals as goal

pub returns-clause-one : goal.returns-clause-one
returns-clause-one c = one_text_of_packets

pub returns-clause-some : goal.returns-clause-some
returns-clause-some c = some_text_of_packets

pub returns-clause-framed : goal.returns-clause-framed
returns-clause-framed c = fronts_of_packets_begin unframed frames_carry_on

pub returns-clause-raw : goal.returns-clause-raw
returns-clause-raw c = fronts_of_packets_begin raw_pairs raw_carries_on

pub returns-clause-alone : goal.returns-clause-alone
returns-clause-alone c = packets_are_alone

pub returns-clause-lines : goal.returns-clause-lines
returns-clause-lines c = each_packet_is_a_line
