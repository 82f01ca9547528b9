use Rattle.spec_run.proofs.EventsJoined.{events_front, events_joined, events_refused, refused_among}
use Rattle.spec_run.proofs.laws.events_go_one_by_one.Goals as goal

pub returns-clause-joined : goal.returns-clause-joined
returns-clause-joined c = events_joined

pub returns-clause-front : goal.returns-clause-front
returns-clause-front c = events_front

pub returns-clause-refused : goal.returns-clause-refused
returns-clause-refused c = events_refused

pub returns-clause-within : goal.returns-clause-within
returns-clause-within c = refused_among
