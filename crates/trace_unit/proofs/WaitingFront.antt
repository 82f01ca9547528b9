-- The front of the atoms that wait that a search found is the longest one, and its packet is the byte that was found.
use Rattle.std.proofs.Common.{◌≡◌, ℕ, ◌<◌, ◌≤◌, Bool, List, [], ◌∷◌, length, sym, subst, arith}
use Rattle.etm_types.specs.Settings.{Sizes}
use Rattle.packet_writer.specs.Front.{SpellsFront}
use Rattle.packet_writer.specs.Spelling.{spelling}
use Rattle.trace_unit.proofs.Packed.{front_is, front_written, longest_front}
use Rattle.trace_unit.specs.Packets.{front_packet}
use Rattle.trace_unit.specs.Packing.{longest}

-- some of the atoms, and no more than there are
pub longest_is : (atoms : List Bool) → 0 < length atoms → (1 ≤ longest atoms) × (longest atoms ≤ length atoms)
longest_is [] some = absurd (omega (arith, some))
longest_is (a ∷ atoms) some = let is = longest_front a atoms in (is.some, is.within)

-- the front that a search found of these atoms
pub record Front (atoms : List Bool) (byte n : ℕ) : Type 0 where
  pub count : n ≡ longest atoms
  pub within : n ≤ length atoms
  pub spelled : (s : Sizes) → spelling s (front_packet atoms) ≡ byte ∷ []

pub front_found : (atoms given : List Bool) (byte n : ℕ) → given ≡ atoms → SpellsFront given byte n
    → ((other m : ℕ) → SpellsFront given other m → m ≤ n) → Front atoms byte n
front_found atoms given byte n is spells most =
    let here : SpellsFront atoms byte n = subst (λ l. SpellsFront l byte n) is spells in
    let first : n ≡ longest atoms = front_is atoms byte n here (λ other m front. most other m (subst (λ l. SpellsFront l other m) (sym is) front)) in
    record { count = first; within = here.0; spelled = λ s. front_written s atoms byte n first here }
