use Rattle.std.proofs.Common.{sym, ap, ◌∙◌}
use Rattle.command_words.specs.Said.{said_intake}
use Rattle.trace_cmd.specs.Printing.{laid_in, sizes_by}
use Rattle.trace_cmd.proofs.Layouts.{by_both, fresh_synced, fresh_wrapped, of_made}
use Rattle.ring_capture.specs.Laid.{wrapped_laid}
use Rattle.trace_cmd.proofs.command.print_streams.Goals as goal

-- ---- a printer that was made took nothing

pub print_by-requires : goal.print_by-requires
print_by-requires g c = record {
  fresh = of_made _ _ c.new-raw.result c.new-raw.ensures.stands (λ p s. (s.whole, s.count));
}

pub print_by-requires-in-Frames : goal.print_by-requires-in-Frames
print_by-requires-in-Frames g c = record {
  fresh = of_made _ _ c.new-frames.result c.new-frames.ensures.stands (λ p s. (s.whole, s.offset));
}

pub print_by-requires-in-Wrapped : goal.print_by-requires-in-Wrapped
print_by-requires-in-Wrapped g c = record {
  fresh = of_made _ _ c.new-wrapped.result c.new-wrapped.ensures.stands (λ p stands. fresh_wrapped _ _ _ _ _ p.unwrap p.demux stands);
}

pub print_by-requires-in-Synced : goal.print_by-requires-in-Synced
print_by-requires-in-Synced g c = record {
  fresh = of_made _ _ c.new-synced.result c.new-synced.ensures.stands (λ p stands. fresh_synced _ _ _ _ _ p stands);
}

-- ---- it prints what is asked for, in the layout of the input

pub returns-in-Raw-clause-listed : goal.returns-in-Raw-clause-listed
returns-in-Raw-clause-listed g c =
    c.print_by.ensures.listed (sizes_by (said_intake c.args.intake.now)) (laid_in c.args.intake.now.layout)
    (of_made _ _ c.new-raw.result c.new-raw.ensures.stands (λ p stands. (stands, ap laid_in (sym c.in-Raw.is))))

pub returns-in-Frames-clause-listed : goal.returns-in-Frames-clause-listed
returns-in-Frames-clause-listed g c =
    c.print_by-in-Frames.ensures.listed (sizes_by (said_intake c.args.intake.now)) (laid_in c.args.intake.now.layout)
    (of_made _ _ c.new-frames.result c.new-frames.ensures.stands (λ p stands. (stands, ap laid_in (sym c.in-Frames.is))))

pub returns-in-Wrapped-clause-listed : goal.returns-in-Wrapped-clause-listed
returns-in-Wrapped-clause-listed g c =
    c.print_by-in-Wrapped.ensures.listed (sizes_by (said_intake c.args.intake.now)) (laid_in c.args.intake.now.layout)
    (by_both _ _ _ c.new-wrapped.result c.new-wrapped.ensures.stands c.new-wrapped.ensures.frames
    (λ p stands frames. (stands, ap wrapped_laid frames ∙ ap laid_in (sym c.in-Wrapped.is))))

pub returns-in-Synced-clause-listed : goal.returns-in-Synced-clause-listed
returns-in-Synced-clause-listed g c =
    c.print_by-in-Synced.ensures.listed (sizes_by (said_intake c.args.intake.now)) (laid_in c.args.intake.now.layout)
    (of_made _ _ c.new-synced.result c.new-synced.ensures.stands (λ p stands. (stands, ap laid_in (sym c.in-Synced.is))))
