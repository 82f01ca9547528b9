-- The packets of what both ends share have spellings.
use Rattle.std.proofs.Common.{◌≡◌, ℕ, ◌^◌, ◌<◌, zero, suc, Bool, All, List, [], ◌∷◌, nat_lt, Option, Some, None, refl, subst, sym, arith}
use Rattle.std.specs.Bool.{then_some}
use Rattle.std.proofs.lemmas.Bool.{lt-ltb}
use Rattle.address_history.specs.Forms.{address_told}
use Rattle.etm_types.specs.AddrForm.{IsAddrForm}
use Rattle.etm_types.specs.Settings.{Sizes}
use Rattle.etm_types.specs.declared.address.AddrForm.{AddrForm}
use Rattle.etm_types.specs.declared.address.AddrForm.TheVariants.{Match, Short1, Short2, Long32, Long64}
use Rattle.packet_grammar.specs.declared.packet.Packet.{Packet}
use Rattle.packet_grammar.specs.declared.packet.Packet.TheVariants.{Addr, Exc, Info}
use Rattle.packet_writer.specs.Fitting.{Fits, HasForm, HasSpelling}
use Rattle.packet_writer.proofs.Having.{spelled_where_fits}
use Rattle.trace_unit.specs.Packets.{announced}

pub has : (s : Sizes) (packet : Packet) → Fits s packet → HasSpelling s packet
has s packet fits = (spelled_where_fits s packet).1 fits

given_alone : (history : List ℕ) (form : AddrForm) (addr : ℕ) → addr < 2 ^ 64 → IsAddrForm form → address_told history form ≡ addr → HasForm (Addr form None)
given_alone history (Match index) addr less is told = tt
given_alone history (Short1 a) addr less is told = tt
given_alone history (Short2 a) addr less is told = tt
given_alone history (Long32 a) addr less is told = tt
given_alone history (Long64 a) addr less is told = omega (arith, less, is, told)

-- a form that gives an address of 64 bits
pub form_alone : (s : Sizes) (history : List ℕ) (form : AddrForm) (addr : ℕ) → addr < 2 ^ 64 → IsAddrForm form → address_told history form ≡ addr
    → HasSpelling s (Addr form None)
form_alone s history form addr less is told = has s (Addr form None) ((is, tt), given_alone history form addr less is told)

pub exception_has : (s : Sizes) (kind : ℕ) (target : Bool) → kind < 32 → HasSpelling s (Exc kind target)
exception_has s kind target less = has s (Exc kind target) (less, tt)

-- a trace info that announces so many P0 elements
pub info_has : (s : Sizes) (n : ℕ) (count : Option ℕ) → n < 2 ^ 32 → count ≡ announced n → HasSpelling s (Info (Some 0) None count None)
info_has s zero count less is = subst (λ o. HasSpelling s (Info (Some 0) None o None)) (sym is) (has s (Info (Some 0) None None None) ((refl, tt, tt, tt), tt))
info_has s (suc n) count less is =
    subst (λ o. HasSpelling s (Info (Some 0) None o None)) (sym is) (has s (Info (Some 0) None (Some (suc n)) None) ((refl, tt, less, tt), tt))

-- of one packet
pub one_has : (s : Sizes) (packet other : Packet) → other ≡ packet → All (HasSpelling s) (packet ∷ []) → HasSpelling s other
one_has s packet other is all = subst (HasSpelling s) (sym is) (all 0 packet (omega arith))

pub announced_is : (n : ℕ) → then_some (nat_lt 0 n) n ≡ announced n
announced_is zero = refl
announced_is (suc n) = rw (lt-ltb 0 (suc n) (omega arith)) refl
