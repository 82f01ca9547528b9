use Rattle.spec_run.proofs.PathGrows.{event_adds, items_joined, only_items, stretch_grows}
use Rattle.spec_run.proofs.laws.retired_path_grows.Goals as goal

pub returns-clause-event : goal.returns-clause-event
returns-clause-event c = event_adds

pub returns-clause-stretch : goal.returns-clause-stretch
returns-clause-stretch c = stretch_grows

pub returns-clause-only : goal.returns-clause-only
returns-clause-only c = only_items

pub returns-clause-joined : goal.returns-clause-joined
returns-clause-joined c = items_joined
