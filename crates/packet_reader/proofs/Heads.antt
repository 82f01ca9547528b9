-- What the row of a header says of what the header makes of a packet.
use Rattle.std.proofs.Common.{◌≡◌, true, false, None}
use Rattle.packet_grammar.proofs.Table.{Body, alone, atoms, extension, trace_info, time_stamp, exception}
use Rattle.packet_grammar.proofs.Table.{commit, cancel, context, short_address, long_32, long_64, long_32_with_context, long_64_with_context}
use Rattle.packet_reader.specs.declared.state.Progress.{Progress}
use Rattle.packet_reader.specs.declared.state.Progress.TheVariants.{Next, Done}
use Rattle.packet_reader.specs.declared.state.State.TheVariants.{Extension as AtExtension, Control, Number, Stamp, Exception, Short, LongFirst, Context}
use Rattle.packet_reader.specs.declared.state.Purpose.TheVariants.{Commit as ForCommit, Cancel as ForCancel}
use Rattle.packet_reader.specs.States.{IsRun}

-- what a header's row says of what the header makes of a packet that has not begun
abbrev pub Heads : Body → Progress → Type 0
Heads (alone outcome) progress = progress ≡ Done outcome
Heads (atoms h) progress = IsRun h progress
Heads extension progress = progress ≡ Next AtExtension
Heads trace_info progress = progress ≡ Next Control
Heads time_stamp progress = progress ≡ Next (Stamp 8 0 0)
Heads exception progress = progress ≡ Next Exception
Heads commit progress = progress ≡ Next (Number ForCommit 4 0 0)
Heads (cancel flip) progress = progress ≡ Next (Number (ForCancel flip) 4 0 0)
Heads context progress = progress ≡ Next (Context None)
Heads short_address progress = progress ≡ Next Short
Heads long_32 progress = progress ≡ Next (LongFirst (record { wide = false; with_context = false }))
Heads long_64 progress = progress ≡ Next (LongFirst (record { wide = true; with_context = false }))
Heads long_32_with_context progress = progress ≡ Next (LongFirst (record { wide = false; with_context = true }))
Heads long_64_with_context progress = progress ≡ Next (LongFirst (record { wide = true; with_context = true }))
