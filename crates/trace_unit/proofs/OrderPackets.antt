-- The packets of one order tell its elements.
use Rattle.std.proofs.Common.{◌≡◌, ℕ, zero, suc, ◌*◌, ◌/◌, ◌≤◌, Bool, true, false, if◌then◌else◌, nat_le, List, [], ◌∷◌, ◌++◌, length, map, take, drop}
use Rattle.std.proofs.Common.{Option, Some, None, refl, sym, ap, subst, ◌∙◌, arith}
use Rattle.std.proofs.lemmas.List.{append-nil, length-drop, map-append, take-append-drop, take_all}
use Rattle.address_history.specs.Forms.{address_told}
use Rattle.etm_types.proofs.SameContexts.{same_is}
use Rattle.etm_types.specs.Atoms.{atoms_in}
use Rattle.etm_types.specs.CtxBits.{bits_against}
use Rattle.etm_types.specs.SameContext.{same_context}
use Rattle.etm_types.specs.Settings.{Sizes}
use Rattle.etm_types.specs.declared.address.AddrForm.{AddrForm}
use Rattle.etm_types.specs.declared.address.AddrForm.TheVariants.{Long64}
use Rattle.etm_types.specs.declared.context.Ctx.{Ctx}
use Rattle.etm_types.specs.declared.element.Elem.{Elem}
use Rattle.etm_types.specs.declared.element.Elem.TheVariants as elem
use Rattle.etm_types.specs.declared.element.P0.TheVariants as p0
use Rattle.packet_grammar.specs.declared.packet.Packet.{Packet}
use Rattle.packet_grammar.specs.declared.packet.Packet.TheVariants as packet
use Rattle.path_elements.specs.Elements.{atoms, with_offset, untold}
use Rattle.spec_run.specs.Runs.{ByOff, ByOverflow, Closing}
use Rattle.trace_unit.proofs.Chosen.{context_back, form_gives, long_gives}
use Rattle.trace_unit.proofs.Packed.{bits_are, longest_front}
use Rattle.trace_unit.proofs.Telling.{Tells, gained, tells_on}
use Rattle.trace_unit.specs.Fitting.{FitsNotice, FitsOrder}
use Rattle.trace_unit.specs.Orders.{Address, Branch, Cancel, Close, Context, Exception, ExceptionAtTarget, Flip, Notice, On, Order, Place, Retire}
use Rattle.trace_unit.specs.Orders.{Settle, Start, Sync, Tell, target_notice}
use Rattle.trace_unit.specs.Packets.{Shared, cancel_packets, closing_packet, commit_packets, context_packet, exception_packets, flip_packet, flip_packets}
use Rattle.trace_unit.specs.Packets.{form_of, front_packet, long_form, nothing_shared, notice_packets, out_packets, packed, packed_within, packets_of}
use Rattle.trace_unit.specs.Packets.{run_of, settle_packets, shared_after, shared_by, spilled_packets, target_packets, with_address, with_context}
use Rattle.trace_unit.specs.Packing.{longest}
use Rattle.trace_unit.specs.Telling.{told_with}
use Rattle.trace_unit.specs.Told.{atom_element, cancels_of, closing_element, commits_of, notice_elements, target_elements}
use Rattle.trace_unit.specs.Whole.{PutOff, flip_elements, is_full, out, out_elements, settle_elements, spilled_elements, whole, with_atom}

-- the reader's own state stays as it is
abbrev Adds : Shared → List Packet → List Elem → Type 0
Adds shared packets elements = Tells (told_with shared) packets elements (told_with shared)

adds_on : (shared : Shared) (xs ys : List Packet) (es fs : List Elem) → Adds shared xs es → Adds shared ys fs → Adds shared (xs ++ ys) (es ++ fs)
adds_on shared xs ys es fs a b = tells_on (told_with shared) (told_with shared) (told_with shared) xs ys es fs a b

-- ---- what waits

commits_tell : (shared : Shared) (n : ℕ) → Adds shared (commit_packets n) (commits_of n)
commits_tell shared zero = refl
commits_tell shared (suc n) = refl

cancels_tell : (shared : Shared) (n : ℕ) → Adds shared (cancel_packets n) (cancels_of n)
cancels_tell shared zero = refl
cancels_tell shared (suc n) = refl

run_tells : (shared : Shared) (l : List Bool) → Adds shared (packet.Atoms (run_of l) ∷ []) (map atom_element l)
run_tells shared l =
    ap (λ k. record { elements = k; awaited = None; told = told_with shared }) (append-nil (with_offset 0 (atoms (atoms_in (run_of l)))))
    ∙ ap (λ k. gained (atoms k) (told_with shared)) (bits_are l)

within_tells : (shared : Shared) (n : ℕ) (l : List Bool) → length l ≤ n → Adds shared (packed_within n l) (map atom_element l)
within_tells shared zero [] le = refl
within_tells shared zero (a ∷ l) le = absurd (omega (arith, le))
within_tells shared (suc n) [] le = refl
within_tells shared (suc n) (a ∷ l) le =
    let k = longest (a ∷ l) in
    let front = take k (a ∷ l) in
    let rest = drop k (a ∷ l) in
    let less : length rest ≤ n = omega (arith, le, (longest_front a l).some, length-drop k (a ∷ l)) in
    subst (λ es. Adds shared (packed_within (suc n) (a ∷ l)) es) (sym (map-append atom_element front rest) ∙ ap (map atom_element) (take-append-drop k (a ∷ l)))
    (adds_on shared (front_packet (a ∷ l) ∷ []) (packed_within n rest) (map atom_element front) (map atom_element rest) (run_tells shared front)
    (within_tells shared n rest less))

out_tells : (shared : Shared) (u : PutOff) → Adds shared (out_packets u) (out_elements u)
out_tells shared u =
    subst (λ l. Adds shared (out_packets u) (cancels_of u.cancels ++ map atom_element l)) (sym (take_all (length u.atoms) u.atoms (omega arith)))
    (adds_on shared (cancel_packets u.cancels) (packed u.atoms) (cancels_of u.cancels) (map atom_element u.atoms) (cancels_tell shared u.cancels)
    (within_tells shared (length u.atoms) u.atoms (omega arith)))

pub settle_tells : (depth : ℕ) (u : PutOff) (shared : Shared) → Tells (told_with shared) (settle_packets depth u) (settle_elements depth u) (told_with shared)
settle_tells depth u shared =
    adds_on shared (out_packets u) (commit_packets (out depth u).commits) (out_elements u) (commits_of (out depth u).commits) (out_tells shared u)
    (commits_tell shared (out depth u).commits)

spill_tells : (shared : Shared) (full : Bool) (u : PutOff) → Adds shared (spilled_packets full u) (spilled_elements full u)
spill_tells shared true u =
    adds_on shared (cancel_packets u.cancels) (front_packet u.atoms ∷ []) (cancels_of u.cancels) (map atom_element (take (longest u.atoms) u.atoms))
    (cancels_tell shared u.cancels) (run_tells shared (take (longest u.atoms) u.atoms))
spill_tells shared false u = refl

mispredict_tells : (shared : Shared) (n : ℕ) → Adds shared (flip_packet n ∷ []) (cancels_of n ++ elem.Flip ∷ [])
mispredict_tells shared zero = refl
mispredict_tells shared (suc zero) = refl
mispredict_tells shared (suc (suc n)) = by (nat_le (suc (suc n)) 5)
  where
    by : (b : Bool)
        → Adds shared ((if b then packet.Cancel3 false (suc (suc n)) else packet.Cancel (suc (suc n)) true) ∷ []) (elem.Cancel (suc (suc n)) ∷ elem.Flip ∷ [])
    by true = refl
    by false = refl

flip_tells : (shared : Shared) (u : PutOff) (l : List Bool) → Adds shared (flip_packets u l) (flip_elements u l)
flip_tells shared u [] = mispredict_tells shared u.cancels
flip_tells shared u (a ∷ l) = refl

closing_tells : (shared : Shared) (closing : Closing) → Adds shared (closing_packet closing ∷ []) (closing_element closing ∷ [])
closing_tells shared ByOverflow = refl
closing_tells shared ByOff = refl

-- ---- notices and exceptions

info_tells : (shared : Shared) (n : ℕ) → Tells (told_with shared) (notice_packets shared (Sync n)) (elem.Info n ∷ []) (told_with nothing_shared)
info_tells shared zero = refl
info_tells shared (suc n) = refl

abbrev at_place : Shared → ℕ → Ctx → Shared
at_place shared addr ctx = record (with_address shared addr) { context = ctx }

both_tell : (shared : Shared) (form : AddrForm) (addr : ℕ) (ctx : Ctx) → address_told shared.history form ≡ addr
    → Tells (told_with shared) (with_context shared form ctx ∷ []) (elem.Ctx ctx ∷ elem.Addr addr ∷ []) (told_with (at_place shared addr ctx))
both_tell shared form addr ctx gives =
    ap (λ c. gained (elem.Ctx c ∷ elem.Addr (address_told shared.history form) ∷ []) (told_with (at_place shared (address_told shared.history form) c)))
    (context_back shared.context ctx)
    ∙ ap (λ a. gained (elem.Ctx ctx ∷ elem.Addr a ∷ []) (told_with (at_place shared a ctx))) gives

address_tells : (shared : Shared) (addr : ℕ) → address_told shared.history (form_of shared.history addr) ≡ addr
    → Tells (told_with shared) (packet.Addr (form_of shared.history addr) None ∷ []) (elem.Addr addr ∷ []) (told_with (with_address shared addr))
address_tells shared addr gives = ap (λ a. gained (elem.Addr a ∷ []) (told_with (with_address shared a))) gives

context_tells : (shared : Shared) (ctx : Ctx)
    → Tells (told_with shared) (context_packet shared ctx ∷ []) (elem.Ctx ctx ∷ []) (told_with (record shared { context = ctx }))
context_tells shared ctx = by (same_context ctx shared.context) (λ t. same_is ctx shared.context t)
  where
    by : (b : Bool) → (b ≡ true → ctx ≡ shared.context)
        → Tells (told_with shared) ((if b then packet.CtxSame else packet.CtxInfo (bits_against shared.context ctx)) ∷ []) (elem.Ctx ctx ∷ [])
        (told_with (record shared { context = ctx }))
    by true same = ap (λ c. gained (elem.Ctx c ∷ []) (told_with (record shared { context = c }))) (sym (same refl))
    by false same = ap (λ c. gained (elem.Ctx c ∷ []) (told_with (record shared { context = c }))) (context_back shared.context ctx)

notice_tells : (s : Sizes) (shared : Shared) (notice : Notice) → FitsNotice s notice
    → Tells (told_with shared) (notice_packets shared notice) (notice_elements notice) (told_with (shared_by shared notice))
notice_tells s shared (Sync n) fits = info_tells shared n
notice_tells s shared On fits = refl
notice_tells s shared (Start addr ctx) fits =
    let whole : addr / 4 * 4 ≡ addr = omega (arith, fits.0.1) in both_tell shared (Long64 addr) addr ctx whole
notice_tells s shared (Place addr ctx) fits =
    both_tell shared (long_form shared.history addr) addr ctx (long_gives shared.history addr fits.0.1)
notice_tells s shared (Address addr) fits = address_tells shared addr (form_gives shared.history addr fits.1)
notice_tells s shared (Context ctx) fits = context_tells shared ctx

exception_tells : (shared : Shared) (kind ret : ℕ) → address_told shared.history (form_of shared.history ret) ≡ ret
    → Tells (told_with shared) (exception_packets shared kind ret) (elem.P0 (p0.Exc kind ret) ∷ []) (told_with (with_address shared ret))
exception_tells shared kind ret gives = ap (λ a. gained (elem.P0 (p0.Exc kind a) ∷ []) (told_with (with_address shared a))) gives

target_address_tells : (shared : Shared) (kind addr : ℕ) → address_told shared.history (form_of shared.history addr) ≡ addr
    → Tells (told_with shared) (target_packets shared None kind addr) (target_elements None kind addr) (told_with (with_address shared addr))
target_address_tells shared kind addr gives =
    ap (λ a. gained (elem.Addr a ∷ elem.P0 (p0.Exc kind a) ∷ []) (told_with (with_address shared a))) gives

target_place_tells : (shared : Shared) (ctx : Ctx) (kind addr : ℕ) → address_told shared.history (long_form shared.history addr) ≡ addr
    → Tells (told_with shared) (target_packets shared (Some ctx) kind addr) (target_elements (Some ctx) kind addr) (told_with (at_place shared addr ctx))
target_place_tells shared ctx kind addr gives =
    let form = long_form shared.history addr in
    ap (λ c. gained (elem.Ctx c ∷ elem.Addr (address_told shared.history form) ∷ elem.P0 (p0.Exc kind (address_told shared.history form)) ∷ [])
    (told_with (at_place shared (address_told shared.history form) c))) (context_back shared.context ctx)
    ∙ ap (λ a. gained (elem.Ctx ctx ∷ elem.Addr a ∷ elem.P0 (p0.Exc kind a) ∷ []) (told_with (at_place shared a ctx))) gives

target_tells : (s : Sizes) (shared : Shared) (context : Option Ctx) (kind addr : ℕ) → FitsNotice s (target_notice context addr)
    → Tells (told_with shared) (target_packets shared context kind addr) (target_elements context kind addr)
    (told_with (shared_by shared (target_notice context addr)))
target_tells s shared None kind addr fits = target_address_tells shared kind addr (form_gives shared.history addr fits.1)
target_tells s shared (Some ctx) kind addr fits = target_place_tells shared ctx kind addr (long_gives shared.history addr fits.0.1)

-- ---- an order

out_then : (shared next : Shared) (u : PutOff) (packets : List Packet) (elements : List Elem)
    → Tells (told_with shared) packets elements (told_with next)
    → Tells (told_with shared) (out_packets u ++ packets) (out_elements u ++ elements) (told_with next)
out_then shared next u packets elements tells =
    tells_on (told_with shared) (told_with shared) (told_with next) (out_packets u) packets (out_elements u) elements (out_tells shared u) tells

pub order_tells : (s : Sizes) (depth : ℕ) (u : PutOff) (shared : Shared) (order : Order) → FitsOrder s order
    → Tells (told_with shared) (packets_of depth u shared order) (whole depth u order) (told_with (shared_after shared order))
order_tells s depth u shared (Tell notice) fits =
    out_then shared (shared_by shared notice) u (notice_packets shared notice) (notice_elements notice) (notice_tells s shared notice fits)
order_tells s depth u shared (Branch taken) fits =
    let v : PutOff = with_atom depth u taken in spill_tells shared (is_full v) v
order_tells s depth u shared (Exception kind ret) fits =
    out_then shared (with_address shared ret) u (exception_packets shared kind ret) (elem.P0 (p0.Exc kind ret) ∷ [])
    (exception_tells shared kind ret (form_gives shared.history ret fits.1.1))
order_tells s depth u shared (ExceptionAtTarget context kind addr) fits =
    out_then shared (shared_by shared (target_notice context addr)) u (target_packets shared context kind addr) (target_elements context kind addr)
    (target_tells s shared context kind addr fits.1)
order_tells s depth u shared (Retire n) fits = refl
order_tells s depth u shared (Cancel n) fits = refl
order_tells s depth u shared Flip fits = flip_tells shared u u.atoms
order_tells s depth u shared Settle fits = settle_tells depth u shared
order_tells s depth u shared (Close closing) fits =
    adds_on shared (settle_packets depth u) (closing_packet closing ∷ []) (settle_elements depth u) (closing_element closing ∷ [])
    (settle_tells depth u shared) (closing_tells shared closing)

-- the first trace info of all
pub first_tells : (n : ℕ) → Tells untold (notice_packets nothing_shared (Sync n)) (elem.Info n ∷ []) (told_with nothing_shared)
first_tells zero = refl
first_tells (suc n) = refl
