-- Runs that are told at once: the packets that were written down for them by hand have these elements, and these bytes.
use Rattle.std.proofs.Common.{◌≡◌, Bool, true, false, List, [], ◌∷◌, ◌++◌, Some, None, map, refl}
use Rattle.a64_branches.specs.Classes.{class_of}
use Rattle.atom_formats.specs.Bytes.{byte_of}
use Rattle.atom_formats.specs.Formats.{atom_formats}
use Rattle.etm_types.specs.declared.address.AddrForm.TheVariants.{Long64}
use Rattle.etm_types.specs.declared.context.Ctx.{Ctx}
use Rattle.etm_types.specs.declared.element.Elem.{Elem}
use Rattle.packet_grammar.specs.declared.packet.Packet.{Packet}
use Rattle.packet_grammar.specs.declared.packet.Packet.TheVariants.{Async, Info, On, Addr, Atoms, Cancel, Mispredict, Commit}
use Rattle.path_elements.specs.Elements.{all_elements, untold}
use Rattle.path_elements.specs.Path.{unplaced}
use Rattle.program_image.specs.Part.{Part}
use Rattle.spec_run.specs.declared.event.Event.{Event}
use Rattle.spec_run.specs.declared.event.Event.TheVariants as event
use Rattle.trace_unit.proofs.TraceExamples.{async, branches, sizes, user}
use Rattle.trace_unit.specs.Effects.{orders}
use Rattle.trace_unit.specs.Packets.{no_atoms, run_of}
use Rattle.trace_unit.specs.Told.{all_told}
use Rattle.trace_unit.specs.Written.{spelled}

abbrev kernel : Ctx
kernel = record { el = 1; ns = true; vmid = 0; cid = 0 }

abbrev one : Bool → Packet
one taken = Atoms (run_of (taken ∷ []))

-- the elements of packets, wherever they stand
abbrev told_of : List Packet → List Elem
told_of packets = unplaced (all_elements untold (map (λ (p : Packet). (0, p)) packets)).elements

-- ---- a branch that is predicted wrongly: two more are taken back, and it goes the other way

abbrev turned : List Event
turned =
    event.On 0x1000 kernel ∷ event.Step ∷ event.Taken ∷ event.Taken ∷ event.Step ∷ event.NotTaken ∷ event.Cancel 3 ∷ event.Flip ∷ event.Step
    ∷ event.Taken ∷ event.Retire 4 ∷ []

abbrev turned_packets : List Packet
turned_packets =
    Async ∷ Info (Some 0) None None None ∷ On ∷ Addr (Long64 0x1000) (Some (record { el = 1; ns = true; vmid = None; cid = None })) ∷ one true
    ∷ one true ∷ one false ∷ Cancel 2 false ∷ Mispredict no_atoms ∷ one true ∷ Commit 2 ∷ []

turned_is_told : all_told (orders branches (sizes 4) 15 turned) ≡ told_of turned_packets
unfolding class_of
turned_is_told = refl

turned_has_bytes : spelled (sizes 4) turned_packets ≡
    async ++ 0x01 ∷ 0x01 ∷ 0x00 ∷ 0x04 ∷ 0x85 ∷ 0x00 ∷ 0x08 ∷ 0x00 ∷ 0x00 ∷ 0x00 ∷ 0x00 ∷ 0x00 ∷ 0x00 ∷ 0x31 ∷ 0xf7 ∷ 0xf7 ∷ 0xf6 ∷ 0x2e ∷ 0x02
    ∷ 0x30 ∷ 0xf7 ∷ 0x2d ∷ 0x02 ∷ []
unfolding atom_formats byte_of
turned_has_bytes = refl

-- ---- a call that is taken back, and a return to the address of the call before it

-- from 0x2000: BL to 0x2010, NOP, B to itself, NOP; CBZ to 0x2018, BL to 0x2020, RET, NOP; NOP, RET
abbrev calls : List Part
calls =
    record {
      start = 0x2000;
      bytes =
          0x04 ∷ 0x00 ∷ 0x00 ∷ 0x94 ∷ 0x1f ∷ 0x20 ∷ 0x03 ∷ 0xd5 ∷ 0x00 ∷ 0x00 ∷ 0x00 ∷ 0x14 ∷ 0x1f ∷ 0x20 ∷ 0x03 ∷ 0xd5 ∷ 0x40 ∷ 0x00 ∷ 0x00 ∷ 0xb4
          ∷ 0x03 ∷ 0x00 ∷ 0x00 ∷ 0x94 ∷ 0xc0 ∷ 0x03 ∷ 0x5f ∷ 0xd6 ∷ 0x1f ∷ 0x20 ∷ 0x03 ∷ 0xd5 ∷ 0x1f ∷ 0x20 ∷ 0x03 ∷ 0xd5 ∷ 0xc0 ∷ 0x03 ∷ 0x5f ∷ 0xd6 ∷ [];
    }
    ∷ []

abbrev called : List Event
called =
    event.On 0x2000 user ∷ event.Taken ∷ event.NotTaken ∷ event.Taken ∷ event.Step ∷ event.Cancel 2 ∷ event.Flip ∷ event.To 0x2004 ∷ event.Step
    ∷ event.Taken ∷ event.Retire 5 ∷ []

abbrev called_packets : List Packet
called_packets =
    Async ∷ Info (Some 0) None None None ∷ On ∷ Addr (Long64 0x2000) (Some (record { el = 0; ns = false; vmid = None; cid = None })) ∷ one true
    ∷ one false ∷ one true ∷ Cancel 1 false ∷ Mispredict no_atoms ∷ one true ∷ one true ∷ Commit 4 ∷ []

called_is_told : all_told (orders calls (sizes 4) 15 called) ≡ told_of called_packets
unfolding class_of
called_is_told = refl

called_has_bytes : spelled (sizes 4) called_packets ≡
    async ++ 0x01 ∷ 0x01 ∷ 0x00 ∷ 0x04 ∷ 0x85 ∷ 0x00 ∷ 0x10 ∷ 0x00 ∷ 0x00 ∷ 0x00 ∷ 0x00 ∷ 0x00 ∷ 0x00 ∷ 0x10 ∷ 0xf7 ∷ 0xf6 ∷ 0xf7 ∷ 0x2e ∷ 0x01
    ∷ 0x30 ∷ 0xf7 ∷ 0xf7 ∷ 0x2d ∷ 0x04 ∷ []
unfolding atom_formats byte_of
called_has_bytes = refl
