use Rattle.std.proofs.Common.{[]}
use Rattle.stream_decoder.proofs.AtFirst.{came_first}
use Rattle.stream_decoder.proofs.followed.FollowedStream.new.Goals as goal

pub returns-clause-stands : goal.returns-clause-stands
returns-clause-stands c image = ([], came_first image c.args.settings.now c.in_ok-new.field-0 c.in_ok-new.ensures)
