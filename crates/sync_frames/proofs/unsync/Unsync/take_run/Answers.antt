use Rattle.std.proofs.Common.{◌+◌, ◌%◌, ◌++◌, Some, [], take, arith, ap, sym, subst, ◌∙◌}
use Rattle.sync_frames.specs.Unsyncing.{IsPhase, StandsAt, plain_length, state_of}
use Rattle.sync_frames.proofs.Plain.{plain_even}
use Rattle.sync_frames.proofs.Standing.{run_taken}
use Rattle.sync_frames.proofs.unsync.Unsync.take_run.Goals as goal

pub invariant_of-self : goal.invariant_of-self
invariant_of-self c =
    let place = subst IsPhase c.in-Between.is c.self.invariant in
    (omega (arith, place.0, c.plain_front-count.ensures.value, plain_even c.args.bytes.now), omega arith)

pub returns-clause-stands : goal.returns-clause-stands
returns-clause-stands c before given s =
    let at = c.in-Between.at in
    let bytes = c.args.bytes.now in
    let place = subst IsPhase c.in-Between.is c.self.invariant in
    let there = subst (λ u. StandsAt u before given) (sym c.self.view_is ∙ ap state_of c.in-Between.is) s in
    subst (λ n. StandsAt (record { place = Some ((at + n % 16) % 16); held = [] }) (before ++ take n bytes) (given ++ take n bytes))
    (sym c.plain_front-count.ensures.value)
    (run_taken at ((at + plain_length bytes % 16) % 16) before given bytes place.1 (omega arith) there)
