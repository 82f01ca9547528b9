use Rattle.std.proofs.Common.{◌≡◌, ℕ, length, refl, sym, ◌∙◌, arith}
use Rattle.element_queue.proofs.LowBits.{low_bits-length}
use Rattle.etm_types.specs.Atoms.{atoms_in}
use Rattle.etm_types.specs.declared.atoms.AtomRun.{AtomRun}
use Rattle.stream_decoder.proofs.Fronts.{small_bytes}
use Rattle.stream_decoder.proofs.SkippedAtoms.{are_runs, begins_with, packet_in, packets_in, reaches_last, skipped_packets}
use Rattle.stream_decoder.proofs.machine.packets_together.front.take_up_to.Goals as goal

-- all atoms of the packets are taken
all_taken : (n count : ℕ) (run : AtomRun) → n ≡ count → count ≡ run.count → n ≡ length (atoms_in run)
all_taken n count run same is = same ∙ is ∙ sym (low_bits-length run.count run.bits)

pub skip-requires-clause-packets : goal.skip-requires-clause-packets
skip-requires-clause-packets c =
    let bytes = c.args.bytes.now in let run = c.args.atoms.now in let f = c.requires.front in
    let many = all_taken c.args.n c.from.result run c.if-n-from.true c.from.ensures in
    let a = are_runs f.0 (atoms_in run) c.args.n f.2 c.requires.some many in
    let small = small_bytes bytes (λ n. omega (arith, c.type_inv.bytes n)) in
    let whole = skipped_packets c.args.reader.now.settings bytes f.0 c.args.behind.now (atoms_in run) a small f.1 in
    (packets_in a.first, packet_in a.last, whole.0, whole.1, refl)

pub returns-then-n-from-clause-reaches : goal.returns-then-n-from-clause-reaches
returns-then-n-from-clause-reaches c =
    let bytes = c.args.bytes.now in let run = c.args.atoms.now in let f = c.requires.front in
    let many = all_taken c.args.n c.from.result run c.if-n-from.true c.from.ensures in
    let a = are_runs f.0 (atoms_in run) c.args.n f.2 c.requires.some many in
    let small = small_bytes bytes (λ n. omega (arith, c.type_inv.bytes n)) in
    let whole = skipped_packets c.args.reader.now.settings bytes f.0 c.args.behind.now (atoms_in run) a small f.1 in
    let takes = c.skip.ensures.takes (packets_in a.first) (packet_in a.last) whole.0 whole.1 refl in
    reaches_last c.args.reader.now c.skip.new.self bytes f.0 c.args.behind.now (atoms_in run) c.args.n c.skip.result c.move_to.new.self a f.1 many takes
    c.move_to.ensures

pub take_among-requires-clause-atoms : goal.take_among-requires-clause-atoms
take_among-requires-clause-atoms c =
    begins_with c.args.bytes.now c.args.behind.now c.args.atoms.now c.args.n c.requires.front c.requires.few
