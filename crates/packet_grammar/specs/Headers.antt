-- Headers, in the order of their numbers (Arm IHI 0064, "Descriptions of Trace Packets").
use Rattle.std.specs.Prelude.{ℕ, ◌==◌, ◌&&◌, true, false, List, [], ◌∷◌, Option, Some, None, nat_le, if◌then◌else◌}
use Rattle.etm_types.specs.declared.atoms.FewAtoms.{FewAtoms}
use Rattle.packet_grammar.specs.declared.fault.PacketFault.{PacketFault}
use Rattle.packet_grammar.specs.declared.fault.PacketFault.TheVariants.{Reserved, Refused}
use Rattle.packet_grammar.specs.declared.fault.RefusedKind.TheVariants.{CycleCount, TimeCycle, DataSync, Conditional, Q, MProfile, Aarch32Address}
use Rattle.packet_grammar.specs.Fields.{lowest}

-- bits 1 and 0 (A): no atom, E, EE, N
abbrev pub few_atoms : ℕ → FewAtoms
few_atoms h =
    if lowest 2 h == 0 then record { count = 0; first = false }
    else if lowest 2 h == 1 then record { count = 1; first = true }
    else if lowest 2 h == 2 then record { count = 2; first = true }
    else record { count = 1; first = false }

-- the headers that are no packet's: the first and the last of a row, and the fault that each of them shows
unfoldable pub refused_headers : List (ℕ × ℕ × (ℕ → PacketFault))
refused_headers =
    (0x03, 0x03, λ h. Refused TimeCycle h)
    ∷ (0x05, 0x05, λ h. Refused MProfile h)
    ∷ (0x07, 0x07, λ h. Refused MProfile h)
    ∷ (0x08, 0x0b, λ h. Reserved h)
    ∷ (0x0c, 0x1f, λ h. Refused CycleCount h)
    ∷ (0x20, 0x2c, λ h. Refused DataSync h)
    ∷ (0x40, 0x46, λ h. Refused Conditional h)
    ∷ (0x47, 0x47, λ h. Reserved h)
    ∷ (0x48, 0x4a, λ h. Refused Conditional h)
    ∷ (0x4b, 0x4b, λ h. Reserved h)
    ∷ (0x4c, 0x4e, λ h. Refused Conditional h)
    ∷ (0x4f, 0x4f, λ h. Reserved h)
    ∷ (0x50, 0x5f, λ h. Refused Conditional h)
    ∷ (0x60, 0x67, λ h. Reserved h)
    ∷ (0x68, 0x6f, λ h. Refused Conditional h)
    ∷ (0x83, 0x83, λ h. Refused Aarch32Address h)
    ∷ (0x84, 0x84, λ h. Reserved h)
    ∷ (0x86, 0x86, λ h. Refused Aarch32Address h)
    ∷ (0x87, 0x8f, λ h. Reserved h)
    ∷ (0x93, 0x94, λ h. Reserved h)
    ∷ (0x96, 0x96, λ h. Refused Aarch32Address h)
    ∷ (0x97, 0x99, λ h. Reserved h)
    ∷ (0x9b, 0x9b, λ h. Refused Aarch32Address h)
    ∷ (0x9c, 0x9c, λ h. Reserved h)
    ∷ (0x9e, 0x9e, λ h. Refused Aarch32Address h)
    ∷ (0x9f, 0x9f, λ h. Reserved h)
    ∷ (0xa0, 0xa2, λ h. Refused Q h)
    ∷ (0xa3, 0xa4, λ h. Reserved h)
    ∷ (0xa5, 0xa6, λ h. Refused Q h)
    ∷ (0xa7, 0xa9, λ h. Reserved h)
    ∷ (0xaa, 0xac, λ h. Refused Q h)
    ∷ (0xad, 0xae, λ h. Reserved h)
    ∷ (0xaf, 0xaf, λ h. Refused Q h)
    ∷ (0xb0, 0xbf, λ h. Reserved h)
    ∷ []

-- the fault that a header shows
abbrev pub fault_in : List (ℕ × ℕ × (ℕ → PacketFault)) → ℕ → Option PacketFault
fault_in [] h = None
fault_in (row ∷ rows) h = if nat_le row.0 h && nat_le h row.1 then Some (row.2 h) else fault_in rows h
