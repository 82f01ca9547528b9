use Rattle.std.proofs.Common.{◌≡◌, ℕ, Bool, List, [], length, map, ap, sym, ◌∙◌}
use Rattle.std.proofs.lemmas.List.{length-map}
use Rattle.etm_types.specs.Atoms.{low_bits}
use Rattle.element_queue.specs.Outlooks.{Outlook}
use Rattle.element_queue.specs.Queued.{Queued, plain_atom}
use Rattle.element_queue.proofs.LowBits.{low_bits-length}
use Rattle.element_queue.proofs.ManyAtoms.{all_held}
use Rattle.element_queue.proofs.queue.Queue.outlook.Goals as goal

same_new : (o : Outlook) (held : List Bool) (m n c d : ℕ)
    → o ≡ record { gone = []; held = held; before = m; made = 0; cancelled = 0; depth = c } → m ≡ n → c ≡ d
    → o ≡ record { gone = []; held = o.held; before = n; made = 0; cancelled = 0; depth = d }
same_new o held m n c d is size depth =
    is ∙ (λ k. record { gone = []; held = sym (ap Outlook.held is) k; before = size k; made = 0; cancelled = 0; depth = depth k })

pub returns-clause-held : goal.returns-clause-held
returns-clause-held c =
    let q = c.self.inside in
    let atoms = low_bits c.in_ok-bits.count c.in_ok-bits.bits in
    let held = all_held q.unseen q.entries.items atoms c.if-self-gt0.false c.in_ok-bits.ensures.atoms in
    ap (λ (o : Outlook). map plain_atom o.held) c.new.ensures ∙ held ∙ ap (λ (v : Queued). v.held) c.self.view_is

pub returns-clause-new : goal.returns-clause-new
returns-clause-new c =
    let q = c.self.inside in
    let atoms = low_bits c.in_ok-bits.count c.in_ok-bits.bits in
    let held = all_held q.unseen q.entries.items atoms c.if-self-gt0.false c.in_ok-bits.ensures.atoms in
    let size : c.in_ok-bits.count ≡ length c.args.self.now.held =
    sym (low_bits-length c.in_ok-bits.count c.in_ok-bits.bits) ∙ sym (length-map atoms plain_atom) ∙ ap length held
    ∙ ap (λ (v : Queued). length v.held) c.self.view_is in
    same_new c.new.result atoms _ _ _ _ c.new.ensures size (ap (λ (v : Queued). v.depth) c.self.view_is)
