-- Bytes within a part of a packet.
use Rattle.std.proofs.Common.{◌≡◌, ℕ, suc, ◌+◌, ◌-◌, ◌*◌, ◌^◌, ◌==◌, ◌||◌, not, Bool, true, false, IsTrue, refl}
use Rattle.packet_grammar.specs.Fields.{continues, is_last}
use Rattle.packet_reader.specs.Trees.{Tree, after, number_tree, stamp_tree, bytes_tree, sync_tree}

-- a byte that is within a part neither comes as its last one nor says that it is
pub neither : (a b r : Bool) → r ≡ not (a || b) → IsTrue r → (a ≡ false) × (b ≡ false)
neither false false r e is = (refl, refl)
neither true b r e is = absurd cc
neither false true r e is = absurd cc

pub is_so : (a : Bool) → not a ≡ false → a ≡ true
is_so true e = refl
is_so false e = absurd cc

pub zero_within : (left new b : ℕ) → left ≡ suc new → (b == 0) ≡ true → sync_tree new ≡ after (sync_tree left) b
unfolding sync_tree
zero_within left new b e zero_is = rw (e, zero_is) refl

module _ (left new groups groups' value value' b : ℕ) (e : left ≡ suc new) (more : is_last b ≡ false) (g : groups' ≡ groups + 1)
    (v : value' ≡ value + (b - continues) * 128 ^ groups) where
  pub group_within : (behind : ℕ → Tree) → number_tree new groups' value' behind ≡ after (number_tree left groups value behind) b
  unfolding number_tree
  group_within behind = rw (e, more, g, v) refl

  pub stamp_within : stamp_tree new groups' value' ≡ after (stamp_tree left groups value) b
  unfolding stamp_tree
  stamp_within = rw (e, more, g, v) refl

pub byte_within : (left new count count' value value' b : ℕ) → left ≡ suc new → count' ≡ count + 1 → value' ≡ value + b * 256 ^ count
    → (behind : ℕ → Tree) → bytes_tree new count' value' behind ≡ after (bytes_tree left count value behind) b
unfolding bytes_tree
byte_within left new count count' value value' b e g v behind = rw (e, g, v) refl
