use Rattle.std.proofs.Common.{◌≡◌, ◌∙◌, refl}
use Rattle.command_words.proofs.WordLemmas.{converted, sized}
use Rattle.command_words.proofs.lists.settings_of.Goals as goal

pub returns-clause-value : goal.returns-clause-value
returns-clause-value c =
    let n = c.new.ensures in
    let depth : c.in_ok-depth.depth ≡ c.args.depth = converted _ c.try_from.result _ _ c.try_from.ensures c.in_ok-depth.ensures.value in
    let vmid : c.in_ok-vmid_bytes.vmid_bytes ≡ c.args.vmid_bytes = converted _ c.try_from-2.result _ _ c.try_from-2.ensures c.in_ok-vmid_bytes.ensures.value in
    let cid : c.in_ok-cid_bytes.cid_bytes ≡ c.args.cid_bytes = converted _ c.try_from-3.result _ _ c.try_from-3.ensures c.in_ok-cid_bytes.ensures.value in
    c.ok-4.ensures.value ∙ sized c.in_ok-depth.depth c.in_ok-vmid_bytes.vmid_bytes c.in_ok-cid_bytes.cid_bytes
    c.new.result n.ok n.depth n.vmid n.cid ∙ (rw depth (rw vmid (rw cid refl)))
