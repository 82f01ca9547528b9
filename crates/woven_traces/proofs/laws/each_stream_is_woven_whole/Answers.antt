use Rattle.woven_traces.proofs.WovenWhole.{others_have_no_byte, woven_alone, woven_bytes, woven_whole}
use Rattle.woven_traces.proofs.laws.each_stream_is_woven_whole.Goals as goal

pub returns-clause-whole : goal.returns-clause-whole
returns-clause-whole c = woven_whole

pub returns-clause-alone : goal.returns-clause-alone
returns-clause-alone c = woven_alone

pub returns-clause-others : goal.returns-clause-others
returns-clause-others c = others_have_no_byte

pub returns-clause-bytes : goal.returns-clause-bytes
returns-clause-bytes c = woven_bytes
