-- Packets whose values are in their ranges can be taken.
use Rattle.std.proofs.Common.{◌≤◌, Some, None, inl, inr, arith}
use Rattle.etm_types.specs.AddrForm.{IsAddrForm}
use Rattle.etm_types.specs.Atoms.{IsFewAtoms}
use Rattle.etm_types.specs.declared.address.AddrForm.{AddrForm}
use Rattle.etm_types.specs.declared.address.AddrForm.TheVariants.{Match, Short1, Short2, Long32, Long64}
use Rattle.etm_types.specs.declared.atoms.FewAtoms.{FewAtoms}
use Rattle.packet_grammar.proofs.InRange.{values_fit}
use Rattle.packet_grammar.specs.declared.packet.Packet.TheVariants as packet
use Rattle.address_history.specs.Forms.{HasEntry}
use Rattle.path_elements.specs.Laws.{PacketsInRange, PacketsSpelled}

few : (atoms : FewAtoms) → IsFewAtoms atoms → atoms.count ≤ 2
few atoms (inl none) = rw none (omega arith)
few atoms (inr (inl e)) = rw e (omega arith)
few atoms (inr (inr (inl ee))) = rw ee (omega arith)
few atoms (inr (inr (inr n))) = rw n (omega arith)

entry : (form : AddrForm) → IsAddrForm form → HasEntry form
entry (Match index) is = is
entry (Short1 value) is = tt
entry (Short2 value) is = tt
entry (Long32 value) is = tt
entry (Long64 value) is = tt

pub in_range : PacketsInRange
in_range s packet.Async is = tt
in_range s packet.Discard is = tt
in_range s packet.Overflow is = tt
in_range s (packet.Info info key spec cyct) is = tt
in_range s packet.On is = tt
in_range s packet.Ignore is = tt
in_range s (packet.Event n) is = tt
in_range s (packet.Time bits low) is = tt
in_range s (packet.Exc kind target) is = is
in_range s (packet.Commit n) is = tt
in_range s (packet.Cancel n flip) is = tt
in_range s (packet.Mispredict atoms) is = few atoms is
in_range s (packet.Cancel2 atoms) is = few atoms is
in_range s (packet.Cancel3 e n) is = tt
in_range s packet.CtxSame is = tt
in_range s (packet.CtxInfo ctx) is = is.el
in_range s (packet.Addr form None) is = (entry form is.0, tt)
in_range s (packet.Addr form (Some ctx)) is = (entry form is.0, is.1.el)
in_range s (packet.Atoms run) is = is.most

pub spelled : PacketsSpelled
spelled s p bytes small spells = in_range s p (values_fit s p bytes small spells)
