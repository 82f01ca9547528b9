use Rattle.std.proofs.Common.{◌++◌, ◌∙◌, List, ℕ, ap, get_or, subst, sym, take}
use Rattle.std.proofs.lemmas.Result.{on_ok_weaker}
use Rattle.woven_traces.proofs.WovenFrames.{nothing_pushed, weaves_done}
use Rattle.woven_traces.proofs.WovenPlaces.{next_found, none_found}
use Rattle.woven_traces.specs.Weaving.{IsWeaving, Weaves, left_of}
use Rattle.woven_traces.specs.Woven.{under}
use Rattle.woven_traces.specs.declared.weaving.Trace.{Trace}
use Rattle.trace_io.specs.declared.traits.Failed.{Failed}
use Rattle.woven_traces.proofs.weaving.push_weave.Goals as goal

pub returns-in-Some-clause-weaves : goal.returns-in-Some-clause-weaves
returns-in-Some-clause-weaves g c start pairs was =
    let state = g.K.Sink.state in
    let weave = c.args.weave in
    let k = c.in-Some.k in
    let traces = c.args.traces.now in
    let t = get_or traces k c.index-traces-k.result in
    let next = next_found weave.id weave.count traces k t (sym c.in-Some.ensures) (ap (λ (u : Trace). get_or traces k u) c.index-traces-k.is) in
    let taken = ap (λ (id : ℕ). pairs ++ under id (take weave.count (left_of t).1)) next.own
    ∙ ap (λ (l : List ℕ). pairs ++ under weave.id l) (sym next.next) in
    subst (λ (l : List (ℕ × ℕ)). Weaves {T = Unit {0}} {E = Failed} c.push_next.new.frames l start (state c.push_next.new.out) c.push_next.result) taken
    (c.push_next.ensures.weaves start pairs was)

pub returns-in-Some-clause-left : goal.returns-in-Some-clause-left
returns-in-Some-clause-left g c =
    let weave = c.args.weave in
    let k = c.in-Some.k in
    let traces = c.args.traces.now in
    let t = get_or traces k c.index-traces-k.result in
    let next = next_found weave.id weave.count traces k t (sym c.in-Some.ensures) (ap (λ (u : Trace). get_or traces k u) c.index-traces-k.is) in
    on_ok_weaker c.push_next.result (next.left c.push_next.new.self) c.push_next.ensures.left

pub returns-in-None-clause-weaves : goal.returns-in-None-clause-weaves
returns-in-None-clause-weaves g c start pairs was =
    let weave = c.args.weave in
    let none = none_found weave.id weave.count c.args.traces.now (sym c.in-None.ensures) in
    let frames = c.args.frames.now in
    let out = g.K.Sink.state c.args.out.now in
    weaves_done frames _ start out tt (subst (λ (l : List ℕ). IsWeaving frames (pairs ++ under weave.id l) start out) (sym none.0)
    (nothing_pushed frames pairs start out was))

pub returns-in-None-clause-left : goal.returns-in-None-clause-left
returns-in-None-clause-left g c = (none_found c.args.weave.id c.args.weave.count c.args.traces.now (sym c.in-None.ensures)).1
