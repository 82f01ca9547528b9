use Rattle.std.proofs.Common.{◌≤◌, ◌+◌, ◌^◌, List, ℕ, [], ◌∷◌, ◌++◌, Bool, ap, append_assoc, sym, subst, ◌∙◌, arith}
use Rattle.std.proofs.Math.Nat.{pow-le-pow_right}
use Rattle.etm_types.specs.Atoms.{atoms_in}
use Rattle.stream_decoder.specs.AtomPackets.{TellAtoms}
use Rattle.stream_decoder.proofs.AtomBytes.{run_more, tell_more}
use Rattle.stream_decoder.proofs.machine.packets_together.front.atoms_at.Goals as goal

pub overflow_add-run : goal.overflow_add-run
overflow_add-run c =
    let run = c.loop-byte.run in let atoms = c.in-Some-atoms_of.atoms in
    let few : run.count + atoms.count ≤ 24 = omega (arith, c.from.ensures, c.if-from-gt-MOST_ATOMS.false) in
    let more = run_more run.count run.bits atoms.count atoms.bits c.loop-byte.invariant.fits (c.in-Some-atoms_of.ensures.within).bits few in
    let most : 2 ^ (run.count + atoms.count) ≤ 2 ^ 24 = pow-le-pow_right (omega arith) few in omega (arith, more.0, most)

pub loop-byte-preserved : goal.loop-byte-preserved
loop-byte-preserved c =
    let run = c.loop-byte.run in let atoms = c.in-Some-atoms_of.atoms in let front = c.loop-byte.invariant.front in
    let few : run.count + atoms.count ≤ 24 = omega (arith, c.from.ensures, c.if-from-gt-MOST_ATOMS.false) in
    let more = run_more run.count run.bits atoms.count atoms.bits c.loop-byte.invariant.fits (c.in-Some-atoms_of.ensures.within).bits few in
    let byte = c.in-Some.byte.now in let text = front.0 in
    let tell = tell_more text (atoms_in run) byte (atoms_in atoms) front.2 c.in-Some-atoms_of.ensures.run in
    record {
      front = (
        text ++ byte ∷ [],
        front.1 ∙ ap (λ (l : List ℕ). text ++ l) c.in-Some.ensures.cases.0 ∙ sym (append_assoc text (byte ∷ []) c.in-Some.behind.now),
        subst (λ (l : List Bool). TellAtoms (text ++ byte ∷ []) l) (sym more.1) tell,
      );
      few = few;
      fits = more.0;
    }
