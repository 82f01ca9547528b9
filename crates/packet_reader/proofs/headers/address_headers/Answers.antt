use Rattle.std.proofs.Common.{None, Ok, Err, refl, ap, ◌∙◌, arith}
use Rattle.packet_grammar.specs.declared.packet.Packet.{Packet}
use Rattle.packet_reader.specs.declared.state.Progress.TheVariants.{Done}
use Rattle.std.specs.Prelude.{◌-◌}
use Rattle.etm_types.specs.declared.address.AddrForm.TheVariants.{Match}
use Rattle.packet_grammar.specs.declared.packet.Packet.TheVariants.{CtxSame, Addr}
use Rattle.packet_grammar.specs.declared.fault.RefusedKind.TheVariants.{Aarch32Address}
use Rattle.packet_grammar.specs.declared.fault.PacketFault.TheVariants.{Refused, Reserved}
use Rattle.packet_grammar.specs.Headers.{refused_headers}
use Rattle.packet_grammar.proofs.Table.{alone, headers, whole, context, short_address, long_32, long_64, long_32_with_context, long_64_with_context}
use Rattle.packet_reader.proofs.Rows.{says, refuses}
use Rattle.packet_reader.proofs.Headed.{by_row}
use Rattle.packet_reader.proofs.headers.address_headers.Goals as goal

pub returns-in-128-clause-row : goal.returns-in-128-clause-row
unfolding headers refused_headers
returns-in-128-clause-row c =
    by_row c.args.h _ (whole CtxSame)
    (says c.args.h 0x80 0x80 (whole CtxSame) refl refl (omega arith) (omega arith))
    (c.whole.ensures)

pub returns-in-129-clause-row : goal.returns-in-129-clause-row
unfolding headers refused_headers
returns-in-129-clause-row c =
    by_row c.args.h _ (context)
    (says c.args.h 0x81 0x81 (context) refl refl (omega arith) (omega arith))
    (refl)

pub returns-in-130-clause-row : goal.returns-in-130-clause-row
unfolding headers refused_headers
returns-in-130-clause-row c =
    by_row c.args.h _ (long_32_with_context)
    (says c.args.h 0x82 0x82 (long_32_with_context) refl refl (omega arith) (omega arith))
    (c.long.ensures)

pub returns-in-131-clause-row : goal.returns-in-131-clause-row
unfolding headers refused_headers
returns-in-131-clause-row c =
    by_row c.args.h _ (alone (Err (Refused Aarch32Address c.args.h)))
    (refuses c.args.h 0x83 0x83 (Refused Aarch32Address c.args.h) refl refl refl (omega arith) (omega arith))
    (c.refused.ensures)

pub returns-in-132-clause-row : goal.returns-in-132-clause-row
unfolding headers refused_headers
returns-in-132-clause-row c =
    by_row c.args.h _ (alone (Err (Reserved c.args.h)))
    (refuses c.args.h 0x84 0x84 (Reserved c.args.h) refl refl refl (omega arith) (omega arith))
    (c.reserved.ensures)

pub returns-in-133-clause-row : goal.returns-in-133-clause-row
unfolding headers refused_headers
returns-in-133-clause-row c =
    by_row c.args.h _ (long_64_with_context)
    (says c.args.h 0x85 0x85 (long_64_with_context) refl refl (omega arith) (omega arith))
    (c.long-in-133.ensures)

pub returns-in-134-clause-row : goal.returns-in-134-clause-row
unfolding headers refused_headers
returns-in-134-clause-row c =
    by_row c.args.h _ (alone (Err (Refused Aarch32Address c.args.h)))
    (refuses c.args.h 0x86 0x86 (Refused Aarch32Address c.args.h) refl refl refl (omega arith) (omega arith))
    (c.refused-in-134.ensures)

pub returns-in-135-to-143-clause-row : goal.returns-in-135-to-143-clause-row
unfolding headers refused_headers
returns-in-135-to-143-clause-row c =
    by_row c.args.h _ (alone (Err (Reserved c.args.h)))
    (refuses c.args.h 0x87 0x8f (Reserved c.args.h) refl refl refl (omega arith) (omega arith))
    (c.reserved-in-135-to-143.ensures)

pub returns-in-144-to-146-clause-row : goal.returns-in-144-to-146-clause-row
unfolding headers refused_headers
returns-in-144-to-146-clause-row c =
    by_row c.args.h _ (whole (Addr (Match (c.args.h - 0x90)) None))
    (says c.args.h 0x90 0x92 (whole (Addr (Match (c.args.h - 0x90)) None)) refl refl (omega arith) (omega arith))
    (c.whole-in-144-to-146.ensures ∙ ap (λ (p : Packet). Done (Ok p)) c.match_address.ensures)

pub returns-in-147-to-148-clause-row : goal.returns-in-147-to-148-clause-row
unfolding headers refused_headers
returns-in-147-to-148-clause-row c =
    by_row c.args.h _ (alone (Err (Reserved c.args.h)))
    (refuses c.args.h 0x93 0x94 (Reserved c.args.h) refl refl refl (omega arith) (omega arith))
    (c.reserved-in-147-to-148.ensures)

pub returns-in-149-clause-row : goal.returns-in-149-clause-row
unfolding headers refused_headers
returns-in-149-clause-row c =
    by_row c.args.h _ (short_address)
    (says c.args.h 0x95 0x95 (short_address) refl refl (omega arith) (omega arith))
    (refl)

pub returns-in-150-clause-row : goal.returns-in-150-clause-row
unfolding headers refused_headers
returns-in-150-clause-row c =
    by_row c.args.h _ (alone (Err (Refused Aarch32Address c.args.h)))
    (refuses c.args.h 0x96 0x96 (Refused Aarch32Address c.args.h) refl refl refl (omega arith) (omega arith))
    (c.refused-in-150.ensures)

pub returns-in-151-to-153-clause-row : goal.returns-in-151-to-153-clause-row
unfolding headers refused_headers
returns-in-151-to-153-clause-row c =
    by_row c.args.h _ (alone (Err (Reserved c.args.h)))
    (refuses c.args.h 0x97 0x99 (Reserved c.args.h) refl refl refl (omega arith) (omega arith))
    (c.reserved-in-151-to-153.ensures)

pub returns-in-154-clause-row : goal.returns-in-154-clause-row
unfolding headers refused_headers
returns-in-154-clause-row c =
    by_row c.args.h _ (long_32)
    (says c.args.h 0x9a 0x9a (long_32) refl refl (omega arith) (omega arith))
    (c.long-in-154.ensures)

pub returns-in-155-clause-row : goal.returns-in-155-clause-row
unfolding headers refused_headers
returns-in-155-clause-row c =
    by_row c.args.h _ (alone (Err (Refused Aarch32Address c.args.h)))
    (refuses c.args.h 0x9b 0x9b (Refused Aarch32Address c.args.h) refl refl refl (omega arith) (omega arith))
    (c.refused-in-155.ensures)

pub returns-in-156-clause-row : goal.returns-in-156-clause-row
unfolding headers refused_headers
returns-in-156-clause-row c =
    by_row c.args.h _ (alone (Err (Reserved c.args.h)))
    (refuses c.args.h 0x9c 0x9c (Reserved c.args.h) refl refl refl (omega arith) (omega arith))
    (c.reserved-in-156.ensures)

pub returns-in-157-clause-row : goal.returns-in-157-clause-row
unfolding headers refused_headers
returns-in-157-clause-row c =
    by_row c.args.h _ (long_64)
    (says c.args.h 0x9d 0x9d (long_64) refl refl (omega arith) (omega arith))
    (c.long-in-157.ensures)

pub returns-in-158-clause-row : goal.returns-in-158-clause-row
unfolding headers refused_headers
returns-in-158-clause-row c =
    by_row c.args.h _ (alone (Err (Refused Aarch32Address c.args.h)))
    (refuses c.args.h 0x9e 0x9e (Refused Aarch32Address c.args.h) refl refl refl (omega arith) (omega arith))
    (c.refused-in-158.ensures)

pub returns-in-159-clause-row : goal.returns-in-159-clause-row
unfolding headers refused_headers
returns-in-159-clause-row c =
    by_row c.args.h _ (alone (Err (Reserved c.args.h)))
    (refuses c.args.h 0x9f 0x9f (Reserved c.args.h) refl refl refl (omega arith) (omega arith))
    (c.reserved-in-159.ensures)
