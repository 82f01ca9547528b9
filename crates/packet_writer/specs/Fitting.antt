-- Which packets have a spelling (Arm IHI 0064, "Descriptions of Trace Packets").
use Rattle.std.specs.Prelude.{ℕ, ◌^◌, ◌<◌, All, List, Some, None}
use Rattle.etm_types.specs.Settings.{Sizes}
use Rattle.etm_types.specs.Atoms.{atoms_in}
use Rattle.etm_types.specs.declared.address.AddrForm.TheVariants.{Long32, Long64}
use Rattle.atom_formats.specs.Formats.{Spells as TellsAtoms}
use Rattle.packet_grammar.specs.declared.packet.Packet.{Packet}
use Rattle.packet_grammar.specs.declared.packet.Packet.TheVariants.{Addr, Atoms}
use Rattle.packet_grammar.specs.Ranges.{IsPacket}
use Rattle.packet_grammar.specs.Spelling.{SpellsPacket}

-- some bytes spell the packet
abbrev pub HasSpelling : Sizes → Packet → Type 0
HasSpelling s packet = (bytes : List ℕ) × All (λ b. b < 256) bytes × SpellsPacket s packet bytes

-- what the ranges of its values leave open: an address has 64 bits, only the two long forms come with a context, and a byte tells the
-- atoms
abbrev pub HasForm : Packet → Type 0
HasForm (Addr (Long64 a) None) = a < 2 ^ 64
HasForm (Addr (Long32 a) (Some ctx)) = Unit {0}
HasForm (Addr (Long64 a) (Some ctx)) = a < 2 ^ 64
HasForm (Addr form (Some ctx)) = ⊥
HasForm (Atoms run) = (byte : ℕ) × TellsAtoms byte (atoms_in run)
HasForm packet = Unit {0}

-- the packet has a spelling, by its values
abbrev pub Fits : Sizes → Packet → Type 0
Fits s packet = IsPacket s packet × HasForm packet
