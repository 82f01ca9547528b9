-- Packets that are frequent have no timestamp and are no events: where they count and may come, they come to their elements alone.
use Rattle.std.proofs.Common.{◌≡◌, ◌≤◌, ◌<◌, ◌+◌, ◌/◌, ◌%◌, ◌^◌, ◌==◌, ◌&&◌, ◌++◌, ℕ, Bool, true, false, if◌then◌else◌, List, [], ◌∷◌, length, drop, slice_get}
use Rattle.std.proofs.Common.{Option, Some, None, Result, refl, sym, ap, subst, ◌∙◌, append-nil, arith}
use Rattle.std.proofs.lemmas.List.{drop_all}
use Rattle.std.specs.Prelude.{IsOk, is_some}
use Rattle.etm_types.specs.Atoms.{atoms_in}
use Rattle.etm_types.specs.declared.atoms.AtomRun.{AtomRun}
use Rattle.etm_types.specs.declared.element.Elem.{Elem}
use Rattle.etm_types.specs.declared.element.Elem.TheVariants as elem
use Rattle.etm_types.specs.declared.element.P0.TheVariants.{Atom}
use Rattle.packet_grammar.specs.declared.packet.Packet.{Packet}
use Rattle.packet_grammar.specs.declared.stream_fault.Fault.{Fault}
use Rattle.path_elements.proofs.AtomElems.{atom_at, count_all}
use Rattle.path_elements.specs.Elements.{Told, atoms, elements_in, elements_of, is_misplaced, told_after}
use Rattle.path_elements.specs.declared.maker.Interrupt.{Interrupt}
use Rattle.path_text.proofs.Wrote.{wrote_nothing}
use Rattle.stream_decoder.proofs.Waits.{next_at}
use Rattle.time_marks.proofs.Going.{Printed}
use Rattle.time_marks.proofs.Packets.{all_prints, all_times, begun_at, begun_stamp}
use Rattle.time_marks.specs.Frequent.{IsReady, packet_of}
use Rattle.time_marks.specs.Stamps.{Stamp, stamp_after}
use Rattle.time_marks.specs.Timed.{HasTimes, IsAt, Prints, fault_behind}
use Rattle.time_marks.specs.Times.{Times, after_elements, after_good, after_packets, event_lines, opened}
use Rattle.time_marks.specs.declared.frequent.Frequent.{Frequent}
use Rattle.time_marks.specs.declared.frequent.Frequent.TheVariants.{Atoms, Commit}
use Rattle.time_marks.specs.declared.time_line.TimeLine.{TimeLine}
use Rattle.time_marks.specs.declared.timeline.Timeline.{Timeline}
use Rattle.time_marks.specs.declared.timing.Timing.{Timing}
use Rattle.trace_io.specs.State.{IoState}

-- ---- atoms one by one

-- the next one is the bit at its place
pub next_atom : (run : AtomRun) (n : ℕ) → n < run.count
    → drop n (atoms (atoms_in run)) ≡ elem.P0 (Atom (run.bits / 2 ^ n % 2 == 1)) ∷ drop (n + 1) (atoms (atoms_in run))
next_atom run n below =
    let e = elem.P0 (Atom (run.bits / 2 ^ n % 2 == 1)) in
    next_at (atoms (atoms_in run)) n e
    (subst (λ (es : List Elem). slice_get es n ≡ Some e) (append-nil (atoms (atoms_in run))) (atom_at run.count run.bits n [] below))

-- none is left behind the last
pub no_more_atoms : (run : AtomRun) (n : ℕ) → run.count ≤ n → drop n (atoms (atoms_in run)) ≡ []
no_more_atoms run n past =
    let all : length (atoms (atoms_in run)) ≡ run.count + 0 =
    ap (λ (es : List Elem). length es) (sym (append-nil (atoms (atoms_in run)))) ∙ count_all run.count run.bits [] in
    drop_all n (atoms (atoms_in run)) (omega (arith, all, past))

-- ---- the packet

stamp_same : (f : Frequent) (informed : Bool) (stamp : Stamp) → stamp_after informed stamp (packet_of f) ≡ stamp
stamp_same (Atoms run) informed stamp = refl
stamp_same (Commit n) informed stamp = refl

no_event : (f : Frequent) (informed : Bool) (stamp : Stamp) → event_lines informed stamp (packet_of f) ≡ []
no_event (Atoms run) informed stamp = refl
no_event (Commit n) informed stamp = refl

placed_so : (informed : Bool) (awaiting : Option Interrupt) (b : Bool) → awaiting ≡ None → (informed && is_some awaiting && b) ≡ false
placed_so true None b none = refl
placed_so false None b none = refl
placed_so informed (Some e) b none = absurd cc

-- such a packet tells nothing but its elements
abbrev Tells : Told → Packet → List Elem → Type 0
Tells told p elements = (is_misplaced told p ≡ false) × (elements ≡ elements_of told p) × (told ≡ told_after told p)

tells_so : (f : Frequent) (told : Told) → told.informed ≡ true → told.awaiting ≡ None → Tells told (packet_of f) (elements_in told (packet_of f))
tells_so (Atoms run) told said none = (
  placed_so told.informed told.awaiting true none,
  sym (ap (λ (b : Bool). if b then atoms (atoms_in run) else []) said),
  sym (ap (λ (b : Bool). if b then told else told) said),
)
tells_so (Commit n) told said none = (
  placed_so told.informed told.awaiting true none,
  sym (ap (λ (b : Bool). if b then elem.Commit n ∷ [] else []) said),
  sym (ap (λ (b : Bool). if b then told else told) said),
)

module _ (x : Timing) (ready : IsReady x) (f : Frequent) (t : Times) (is : HasTimes x t) (none : t.fault ≡ None) (depth at id : ℕ) where
  abbrev p : Packet
  p = packet_of f

  abbrev elements : List Elem
  elements = elements_in x.maker p

  tells : Tells x.maker p elements
  tells = tells_so f x.maker ready.1 ready.2

  -- it begins where the packets before it end
  pub frequent_at : IsAt x.line (opened t p)
  frequent_at = begun_at x t is none ready.0 depth at id p true (sym ready.1) elements x.maker tells

  pub frequent_stamp : (opened t p).stamp ≡ x.stamp
  frequent_stamp = begun_stamp x t is none ready.0 depth at id p true (sym ready.1) elements x.maker tells ∙ stamp_same f true x.stamp

  opens : (a : IoState) → Printed id t (opened t p) a a
  opens a =
      record {
        more = [];
        grows = ap (λ (l : List TimeLine). t.lines ++ l) (no_event f (t.told).informed t.stamp);
        wrote = wrote_nothing a;
      }

  -- and then its elements are all that comes
  pub frequent_ends : {T E : Type 0} (a c : IoState) (r : Result T E) (line : Timeline) (packet : Frequent) → packet ≡ f
      → Prints id (opened t p) (after_elements depth at (opened t p) elements) a c r
      × (IsOk r → IsAt line (after_elements depth at (opened t p) elements))
      → Prints id t (after_good depth t (at, packet_of packet)) a c r
      × (IsOk r → HasTimes (record x { line = line }) (after_good depth t (at, packet_of packet))
      × (line.fault ≡ (after_good depth t (at, packet_of packet)).fault))
  frequent_ends a c r line packet same prints =
      subst (λ (h : Frequent). Prints id t (after_good depth t (at, packet_of h)) a c r
      × (IsOk r → HasTimes (record x { line = line }) (after_good depth t (at, packet_of h)) × (line.fault ≡ (after_good depth t (at, packet_of h)).fault)))
      (sym same) (
        all_prints x t is none ready.0 depth at id p true (sym ready.1) elements x.maker tells a a c r (opens a) prints.0,
        λ ok. all_times x t is none ready.0 depth at id p true (sym ready.1) elements x.maker tells line x.stamp (sym (stamp_same f true x.stamp)) (prints.1 ok),
      )

-- one packet more, where no fault was met
pub one_good : (depth : ℕ) (t : Times) (at : ℕ) (p : Packet) → t.fault ≡ None → after_packets depth t ((at, p) ∷ []) ≡ after_good depth t (at, p)
one_good depth t at p none = ap (λ (met : Option (ℕ × Fault)). if is_some met then t else after_good depth t (at, p)) none

-- no fault of the bytes stands behind that of the packets
pub behind_none : (met : Option (ℕ × Fault)) → fault_behind met None ≡ met
behind_none None = refl
behind_none (Some stop) = refl

module _ {T E : Type 0} (id : ℕ) (a b : IoState) (r : Result T E) (x : Timing) (depth : ℕ) (t : Times) (none : t.fault ≡ None) (at : ℕ) (p : Packet) where
  -- a packet behind which no fault was met comes to this, as printed from one state to another
  abbrev pub ComesTo : Times → Option (ℕ × Fault) → Type 0
  ComesTo u fault = Prints id t u a b r × (IsOk r → HasTimes x u × ((x.line).fault ≡ fault))

  -- as packets that are one do
  pub prints_one : ComesTo (after_good depth t (at, p)) (after_good depth t (at, p)).fault
      → ComesTo (after_packets depth t ((at, p) ∷ [])) (fault_behind (after_packets depth t ((at, p) ∷ [])).fault None)
  prints_one given =
      subst (λ (u : Times). ComesTo u (fault_behind u.fault None)) (sym (one_good depth t at p none))
      (given.0, λ ok. ((given.1 ok).0, (given.1 ok).1 ∙ sym (behind_none (after_good depth t (at, p)).fault)))
