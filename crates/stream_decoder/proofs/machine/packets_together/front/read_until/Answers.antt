use Rattle.std.proofs.Common.{◌≡◌, ◌-◌, ℕ, Option, Some, None, subst, sym, arith}
use Rattle.std.specs.Prelude.{IsSome}
use Rattle.stream_decoder.proofs.AtomBytes.{IsOnTheWay, next_least, on_the_way_more, there}
use Rattle.stream_decoder.proofs.machine.packets_together.front.read_until.Goals as goal

none_there : {X : Type 0} (r : Option X) → r ≡ None → IsSome r → ⊥
none_there None is some = absurd cc
none_there (Some x) is some = absurd cc

pub unreachable-requires-in_default-take_atoms : goal.unreachable-requires-in_default-take_atoms
unreachable-requires-in_default-take_atoms c =
    let l = c.loop-byte in
    let least = next_least c.args.reader.now l.reader c.args.bytes.now l.rest.now c.in-Some.behind.now c.args.n l.left c.in-Some.byte.now
    c.in-Some.ensures.cases.0 l.invariant in
    none_there c.take_atoms.result c.in_default-take_atoms.is (c.take_atoms.ensures.some.1 least)

pub returns-then-left-count-clause-reads : goal.returns-then-left-count-clause-reads
returns-then-left-count-clause-reads c =
    let l = c.loop-byte in let a = c.in-Some-take_atoms in
    there c.args.reader.now l.reader c.take_atoms.new.self c.args.bytes.now l.rest.now c.in-Some.behind.now c.args.n l.left c.in-Some.byte.now
    a.at a.atoms c.in-Some.ensures.cases.0 l.invariant a.ensures.takes a.ensures.tells (omega (arith, c.from-count.ensures, c.if-left-count.true))

pub loop-byte-preserved : goal.loop-byte-preserved
loop-byte-preserved c =
    let l = c.loop-byte in let a = c.in-Some-take_atoms in
    let more = on_the_way_more c.args.reader.now l.reader c.take_atoms.new.self c.args.bytes.now l.rest.now c.in-Some.behind.now c.args.n l.left
    c.in-Some.byte.now a.at a.atoms c.in-Some.ensures.cases.0 l.invariant a.ensures.takes a.ensures.tells
    (omega (arith, c.from-count.ensures, c.if-left-count.false)) a.ensures.between in
    subst (λ (k : ℕ). IsOnTheWay c.args.reader.now c.args.bytes.now c.args.n (l.left - k) c.in-Some.behind.now c.take_atoms.new.self)
    (sym c.from-count.ensures) more
