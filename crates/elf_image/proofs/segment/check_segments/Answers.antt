use Rattle.std.proofs.Common.{◌≡◌, ◌≤◌, ◌+◌, ◌++◌, ◌∷◌, ℕ, [], Bool, cond, is_ok, sym, ap, ◌∙◌, arith}
use Rattle.elf_image.specs.Refusals.{most_file}
use Rattle.elf_image.specs.Segments.{addresses_of, is_chosen, segment_size}
use Rattle.elf_image.specs.declared.segment.Addresses.{Addresses}
use Rattle.elf_image.proofs.Checked.{checked_chosen, checked_passed, nth, refused_at, same_checked, same_refusal}
use Rattle.elf_image.proofs.Sound.{sound}
use Rattle.elf_image.proofs.segment.check_segments.Goals as goal
use Rattle.elf_image.proofs.segment.check_segments.Goals.{then-is_chosen+in-Ok+in_ok-map_err, else-is_chosen}

pub returns-in-Err : goal.returns-in-Err
returns-in-Err c =
    let file = c.args.file.now in
    let table = c.args.table.now in
    let taken = c.loop-k.taken.items in
    let h = nth file table c.loop-k.k in
    let is = ap is_chosen (sym c.header-header.ensures) ∙ sym c.is_chosen.ensures ∙ c.if-is_chosen.true in
    let same =
    same_refusal file taken c.deref.result.now c.loop-k.k c.from.result h c.header-header.result c.deref.ensures.value c.from.ensures
    c.header-header.ensures in
    refused_at file table c.loop-k.k taken c.loop-k.size c.in-Err.why c.requires c.loop-k.invariant (omega (arith, c.loop-k-test.true)) is (same ∙ c.in-Err.ensures.refused)

pub loop-k-preserved : goal.loop-k-preserved
loop-k-preserved c =
    let file = c.args.file.now in
    let table = c.args.table.now in
    let taken = c.loop-k.taken.items in
    let h = nth file table c.loop-k.k in
    elim c.if-is_chosen.branch [
      | then-is_chosen+in-Ok+in_ok-map_err w ↦
          let is = ap is_chosen (sym c.header-header.ensures) ∙ sym c.is_chosen.ensures ∙ w.if-is_chosen.true in
          let same =
          same_refusal file taken w.deref.result.now c.loop-k.k w.from.result h c.header-header.result w.deref.ensures.value w.from.ensures
          c.header-header.ensures in
          let free = w.in-Ok.ensures.free in
          let size : w.size-size.result ≡ segment_size h = w.size-size.ensures ∙ ap segment_size c.header-header.ensures in
          let addresses : w.in-Ok.addresses ≡ addresses_of h = free.0 ∙ ap addresses_of c.header-header.ensures in
          let stands = (sound file taken c.loop-k.k h is (same ∙ free.1)).0.stands in
          let short : segment_size h ≤ most_file = omega (arith, stands, c.requires.short) in
          let more = checked_chosen file table c.loop-k.k taken c.loop-k.size c.loop-k.invariant is (same ∙ free.1) short in
          let ok = sym w.map_err.ensures.variant ∙ ap is_ok w.in_ok-map_err.was in
          let items = w.push.ensures.items ∙ ap (λ (b : Bool). cond b (taken ++ w.in-Ok.addresses ∷ []) taken) ok in
          rw (w.taken-is, w.size-is)
          (same_checked file table (c.loop-k.k + 1) (taken ++ addresses_of h ∷ []) w.push.new.self.items (c.loop-k.size + segment_size h)
          (c.loop-k.size + w.size-size.result) (items ∙ ap (λ (a : Addresses). taken ++ a ∷ []) addresses) (ap (λ (n : ℕ). c.loop-k.size + n) size) more)
      | else-is_chosen w ↦
          let is = ap is_chosen (sym c.header-header.ensures) ∙ sym c.is_chosen.ensures ∙ w.if-is_chosen.false in
          let more = checked_passed file table c.loop-k.k taken c.loop-k.size c.loop-k.invariant is in
          rw (w.taken-is, w.size-is) more
    ]
