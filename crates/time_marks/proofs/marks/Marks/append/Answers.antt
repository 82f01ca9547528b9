use Rattle.std.proofs.Common.{length, ap, arith}
use Rattle.time_marks.proofs.Runs.{few_between}
use Rattle.time_marks.proofs.marks.Marks.append.Goals as goal

pub begin_run-requires-clause-room : goal.begin_run-requires-clause-room
begin_run-requires-clause-room c some =
    let s = c.self.inside in let i = c.self.invariant in
    omega (
      arith,
      some,
      few_between s.oldest s.newest s.between.items i.4,
      ap (λ r. length r.items) c.self.view_is,
      ap (λ r. r.capacity) c.self.view_is,
      c.requires.room,
      i.2,
    )
