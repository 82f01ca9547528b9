use Rattle.std.proofs.Common.{[], sym, subst, arith}
use Rattle.std.specs.Prelude.{IsOk}
use Rattle.std.proofs.lemmas.Grind.{common_steps}
use Rattle.etm_types.specs.declared.element.Elem.TheVariants as elem
use Rattle.packet_grammar.specs.declared.packet.Packet.TheVariants as packet
use Rattle.time_marks.proofs.Frequents.{frequent_at, frequent_ends, frequent_stamp, prints_one}
use Rattle.time_marks.proofs.Growing.{elements_next}
use Rattle.time_marks.specs.Frequent.{packet_of}
use Rattle.time_marks.specs.Timed.{IsAt, Prints}
use Rattle.time_marks.specs.Times.{Times, opened}
use Rattle.time_marks.specs.declared.frequent.Frequent.TheVariants.{Atoms, Commit}
use Rattle.time_marks.proofs.timing.Timing.take_frequent.Goals as goal

pub returns-in-Atoms : goal.returns-in-Atoms
returns-in-Atoms g c =
    let x = c.args.self.now in let f = Atoms c.in-Atoms.run' in let at = c.args.at in let id = c.args.id in let depth = x.line.queue.depth in
    let state = g.K.Sink.state in let ready = c.requires.ready in
    let a = state c.args.sink.now in let b = state c.take_atoms.new.sink in let r = c.take_atoms.result in let line = c.take_atoms.new.self in
    record {
      prints = λ t is none.
          prints_one id a b r (record x { line = line }) depth t none at (packet_of c.args.packet)
          (frequent_ends x ready f t is none depth at id a b r line c.args.packet c.in-Atoms.is
          (c.take_atoms.ensures.prints (opened t (packet.Atoms c.in-Atoms.run')) (frequent_at x ready f t is none depth at id)
          (frequent_stamp x ready f t is none depth at id)));
      informed = grind (arith, common_steps);
      depth = search;
      holds = search;
      serves = grind (arith, common_steps);
    }

pub returns-in-Commit : goal.returns-in-Commit
returns-in-Commit g c =
    let x = c.args.self.now in let n = c.in-Commit.n in let f = Commit n in let at = c.args.at in let id = c.args.id in let depth = x.line.queue.depth in
    let state = g.K.Sink.state in let ready = c.requires.ready in
    let a = state c.args.sink.now in let b = state c.commit.new.sink in let r = c.commit.result in let line = c.commit.new.self in
    record {
      prints = λ t is none.
          let begun = opened t (packet.Commit n) in
          prints_one id a b r (record x { line = line }) depth t none at (packet_of c.args.packet)
          (frequent_ends x ready f t is none depth at id a b r line c.args.packet c.in-Commit.is
          (subst (λ (u : Times). Prints id begun u a b r × (IsOk r → IsAt line u)) (sym (elements_next depth at begun (elem.Commit n) [] none))
          (c.commit.ensures.prints begun (frequent_at x ready f t is none depth at id))));
      informed = grind (arith, common_steps);
      depth = search;
      holds = search;
      serves = grind (arith, common_steps);
    }
