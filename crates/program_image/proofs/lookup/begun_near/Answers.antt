use Rattle.std.proofs.Common.{◌+◌, arith, get_or, nat_le, refl}
use Rattle.std.proofs.lemmas.Bool.{false_from_ne_true, le-leb, leb-true}
use Rattle.program_image.proofs.lookup.begun_near.Goals as goal

-- all before the part begin no later, and all behind it no earlier than the next
pub returns-then-is_last_begun-clause-value : goal.returns-then-is_last_begun-clause-value
returns-then-is_last_begun-clause-value c =
    let parts = c.args.parts.now in let near = c.args.near in let addr = c.args.addr in
    let begun = c.if-is_last_begun.ensures.begun refl in let next = c.if-is_last_begun.ensures.next refl in (
      λ k d from upto.
          c.requires k near d (omega (arith, upto)) begun.0 (le-leb (get_or parts near d).start addr (begun.1 d)),
      λ k d from within.
          false_from_ne_true (nat_le (get_or parts k d).start addr)
          (λ yes.
          let before = c.requires (near + 1) k d from within yes in
          let low = leb-true (get_or parts (near + 1) d).start addr before in
          let high = next (omega (arith, from, within)) d in
          omega (arith, low, high)),
    )
