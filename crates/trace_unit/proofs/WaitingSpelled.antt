-- The packets of what waits have spellings.
use Rattle.std.proofs.Common.{◌≡◌, ℕ, zero, suc, ◌^◌, ◌<◌, ◌≤◌, Bool, true, false, if◌then◌else◌, nat_le, refl, inl, arith}
use Rattle.std.proofs.lemmas.Bool.{leb-true}
use Rattle.etm_types.specs.Settings.{Sizes}
use Rattle.packet_grammar.specs.declared.packet.Packet.TheVariants.{Cancel, Cancel2, Cancel3, Commit, Mispredict}
use Rattle.packet_writer.specs.Fitting.{HasSpelling}
use Rattle.trace_unit.proofs.SharedSpelled.{has}
use Rattle.trace_unit.specs.Packets.{flip_packet, no_atoms}

pub cancel_has : (s : Sizes) (n : ℕ) → n < 2 ^ 32 → HasSpelling s (Cancel n false)
cancel_has s n less = has s (Cancel n false) (less, tt)

pub commit_has : (s : Sizes) (n : ℕ) → n < 2 ^ 32 → HasSpelling s (Commit n)
commit_has s n less = has s (Commit n) (less, tt)

many_has : (s : Sizes) (n : ℕ) (few : Bool) → 2 ≤ n → n < 2 ^ 32 → (few ≡ true → n ≤ 5) → HasSpelling s (if few then Cancel3 false n else Cancel n true)
many_has s n true some less most = has s (Cancel3 false n) ((some, most refl), tt)
many_has s n false some less most = has s (Cancel n true) (less, tt)

pub flip_has : (s : Sizes) (n : ℕ) → n < 2 ^ 32 → HasSpelling s (flip_packet n)
flip_has s zero less = has s (Mispredict no_atoms) (inl refl, tt)
flip_has s (suc zero) less = has s (Cancel2 no_atoms) (inl refl, tt)
flip_has s (suc (suc n)) less = many_has s (suc (suc n)) (nat_le (suc (suc n)) 5) (omega arith) less (leb-true (suc (suc n)) 5)
