use Rattle.std.proofs.Common.{true, false, refl, arith}
use Rattle.packet_grammar.proofs.Table.{headers, commit, cancel}
use Rattle.packet_reader.proofs.Rows.{says}
use Rattle.packet_reader.proofs.Headed.{by_row}
use Rattle.packet_reader.proofs.headers.purpose_of.Goals as goal

pub returns-in-45 : goal.returns-in-45
unfolding headers
returns-in-45 c = by_row c.args.h _ commit (says c.args.h 0x2d 0x2d commit refl refl (omega arith) (omega arith)) refl

pub returns-in-46 : goal.returns-in-46
unfolding headers
returns-in-46 c = by_row c.args.h _ (cancel false) (says c.args.h 0x2e 0x2e (cancel false) refl refl (omega arith) (omega arith)) refl

pub returns-in-47 : goal.returns-in-47
unfolding headers
returns-in-47 c = by_row c.args.h _ (cancel true) (says c.args.h 0x2f 0x2f (cancel true) refl refl (omega arith) (omega arith)) refl
