use Rattle.std.proofs.Common.{refl}
use Rattle.trace_unit.proofs.Growing.{places_grow, shared_grows, waiting_grows, written_grows}
use Rattle.trace_unit.proofs.laws.a_trace_grows_event_by_event.Goals as goal

pub returns-clause-none : goal.returns-clause-none
returns-clause-none c image s most = (refl, refl)

pub returns-clause-grows : goal.returns-clause-grows
returns-clause-grows c = written_grows

pub returns-clause-keeps : goal.returns-clause-keeps
returns-clause-keeps c image s most events x e ran = (
  waiting_grows image s most events x e ran,
  shared_grows image s most events x e ran,
  places_grow image s most events x e ran,
)
