use Rattle.std.proofs.Common.{◌<◌, ◌++◌, drop, take, ap, arith, ◌∙◌}
use Rattle.std.proofs.lemmas.Result.{err_from_is_err_and}
use Rattle.woven_traces.proofs.WovenFrames.{next_byte, next_cut, next_pushed, weaves_cut}
use Rattle.woven_traces.specs.Woven.{under}
use Rattle.woven_traces.proofs.weaving.Trace.push_next.Goals as goal

pub returns-in_err-push-clause-weaves : goal.returns-in_err-push-clause-weaves
returns-in_err-push-clause-weaves g c start pairs was =
    let state = g.K.Sink.state in
    let t = c.args.self.now in
    let k = c.loop.counter in
    let byte = c.in-Some.byte.now in
    let i = c.loop.invariant in
    let left = drop t.woven t.bytes.items in
    let view = c.deref.ensures.value ∙ ap (λ v. v.items) i.bytes in
    let here = next_byte t.bytes.items c.deref.result.now t.woven k c.loop.self.woven byte view i.woven c.in-Some.ensures.lookup.0 c.in-Some.ensures.lookup.1 in
    let so_far = i.so_far start pairs was in
    let e = c.in_err-push.ensures in
    let lt : k < c.args.count = omega (arith, c.loop-test.true) in
    let cut = next_cut c.loop.frames c.push.new.self pairs t.id c.loop.self.id byte left k start (state c.loop.out) (state c.push.new.sink) i.id here.0 here.1
    so_far c.in_err-push.field-0.0 c.args.count lt (e.written _ so_far.stands) e.serves.shows e.serves.cause in
    let p = err_from_is_err_and c.from_residual.result c.from_residual.ensures.1 in
    rw p.1 (weaves_cut c.push.new.self (pairs ++ under t.id (take c.args.count left)) start (state c.push.new.sink) p.0 cut)

pub loop-preserved : goal.loop-preserved
loop-preserved g c =
    let state = g.K.Sink.state in
    let t = c.args.self.now in
    let k = c.loop.counter in
    let byte = c.in-Some.byte.now in
    let i = c.loop.invariant in
    let left = drop t.woven t.bytes.items in
    let view = c.deref.ensures.value ∙ ap (λ v. v.items) i.bytes in
    let here = next_byte t.bytes.items c.deref.result.now t.woven k c.loop.self.woven byte view i.woven c.in-Some.ensures.lookup.0 c.in-Some.ensures.lookup.1 in
    let e = c.in_ok-push.ensures in
    record {
      id = i.id;
      bytes = i.bytes;
      woven = omega (arith, i.woven);
      ready = e.failed;
      so_far = λ start pairs was.
          let so_far = i.so_far start pairs was in
          next_pushed c.loop.frames c.push.new.self pairs t.id c.loop.self.id byte left k start (state c.loop.out) (state c.push.new.sink) i.id here.0 here.1
          so_far c.in_ok-push.field-0 (e.stands _ so_far.stands) (e.written _ so_far.stands) e.serves.shows e.serves.cause;
    }
