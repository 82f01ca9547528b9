-- The bytes of orders are few.
use Rattle.std.proofs.Common.{◌≡◌, ℕ, zero, suc, ◌+◌, ◌-◌, ◌≤◌, Bool, true, false, if◌then◌else◌, List, [], ◌∷◌, ◌++◌, length, drop, Option, Some, None}
use Rattle.std.proofs.Common.{refl, ap, ◌∙◌, inl, inr, arith, length-append}
use Rattle.std.proofs.lemmas.Bool.{eqb-true, or_cases}
use Rattle.std.proofs.lemmas.List.{length-drop, length-take}
use Rattle.std.proofs.lemmas.List.Concat.{flat_map-cons}
use Rattle.std.specs.Prelude.{IsTrue, nat_le, ◌==◌, ◌||◌}
use Rattle.etm_types.specs.CtxBits.{bits_against}
use Rattle.etm_types.specs.SameContext.{same_context}
use Rattle.etm_types.specs.Settings.{AreSettings, Sizes, is_cid_size, is_vmid_size}
use Rattle.etm_types.specs.declared.address.AddrForm.{AddrForm}
use Rattle.etm_types.specs.declared.address.AddrForm.TheVariants.{Long32, Long64, Match, Short1, Short2}
use Rattle.etm_types.specs.declared.context.Ctx.{Ctx}
use Rattle.etm_types.specs.declared.context.CtxBits.{CtxBits}
use Rattle.packet_grammar.specs.declared.packet.Packet.{Packet}
use Rattle.packet_grammar.specs.declared.packet.Packet.TheVariants as packet
use Rattle.packet_writer.proofs.Digits.{length-low_bytes, number_long}
use Rattle.packet_writer.specs.Contexts.{context, sized}
use Rattle.packet_writer.specs.Spelling.{section, spelling}
use Rattle.spec_run.specs.Runs.{ByOff, ByOverflow, Closing}
use Rattle.trace_unit.proofs.Growing.{spelled_joined}
use Rattle.trace_unit.proofs.Out.{none_left, none_out}
use Rattle.trace_unit.proofs.Sizes.{some_front, turn_many}
use Rattle.trace_unit.specs.Ordered.{bytes_all, bytes_of, told_all, told_by}
use Rattle.trace_unit.specs.Orders.{Address, Branch, Cancel, Close, Context, Exception, ExceptionAtTarget, Flip, Notice, On, Order, Place, Retire}
use Rattle.trace_unit.specs.Orders.{Settle, Start, Sync, Tell, target_notice}
use Rattle.trace_unit.specs.Packets.{Shared, announced, cancel_packets, closing_packet, commit_packets, context_packet, exception_packets}
use Rattle.trace_unit.specs.Packets.{flip_packet, flip_packets, front_packet}
use Rattle.trace_unit.specs.Packets.{form_of, long_form, notice_packets, out_packets, packed, packed_within, packets_of}
use Rattle.trace_unit.specs.Packets.{settle_packets, spilled_packets, target_packets, with_context}
use Rattle.trace_unit.specs.Packing.{longest}
use Rattle.trace_unit.specs.Whole.{PutOff, at_once, flipped, is_full, out, some_out, spilled, waits, with_atom, wrote}
use Rattle.trace_unit.specs.Written.{spelled}
use Rattle.trace_unit.specs.declared.teller.Teller.{Teller}

-- ---- sizes of fields

small_vmid : (n : ℕ) → IsTrue (is_vmid_size n) → n ≤ 4
small_vmid n h = elim (or_cases ((n == 0) || (n == 1) || (n == 2)) (n == 4) h) [
  | inl few ↦ elim (or_cases ((n == 0) || (n == 1)) (n == 2) few) [
    | inl fewer ↦ elim (or_cases (n == 0) (n == 1) fewer) [
      | inl none ↦ omega (arith, eqb-true n 0 none)
      | inr one ↦ omega (arith, eqb-true n 1 one)
    ]
    | inr two ↦ omega (arith, eqb-true n 2 two)
  ]
  | inr four ↦ omega (arith, eqb-true n 4 four)
]

small_cid : (n : ℕ) → IsTrue (is_cid_size n) → n ≤ 4
small_cid n h = elim (or_cases (n == 0) (n == 4) h) [
  | inl none ↦ omega (arith, eqb-true n 0 none)
  | inr four ↦ omega (arith, eqb-true n 4 four)
]

sized_few : (size : ℕ) (n : Option ℕ) → length (sized size n) ≤ size
sized_few size None = omega arith
sized_few size (Some n) = omega (arith, length-low_bytes size n)

section_few : (n : Option ℕ) → length (section n) ≤ 5
section_few None = omega arith
section_few (Some n) = omega (arith, number_long 4 n)

-- ---- what an order adds at most

-- the bytes that what waits is written in at most
abbrev pub weight_of : ℕ → ℕ
weight_of zero = 0
weight_of (suc n) = 6

abbrev pub weight : PutOff → ℕ
weight u = weight_of u.cancels + length u.atoms

abbrev pub notice_size : Notice → ℕ
notice_size (Sync n) = 24
notice_size On = 1
notice_size (Start addr ctx) = 18
notice_size (Place addr ctx) = 18
notice_size (Address addr) = 9
notice_size (Context ctx) = 10

abbrev pub order_size : Order → ℕ
order_size (Tell notice) = notice_size notice
order_size (Branch taken) = 1
order_size (Exception kind ret) = 11
order_size (ExceptionAtTarget context kind addr) = 20
order_size (Retire n) = 0
order_size (Cancel n) = 6
order_size Flip = 6
order_size Settle = 6
order_size (Close closing) = 8

abbrev pub orders_size : List Order → ℕ
orders_size [] = 0
orders_size (order ∷ orders) = order_size order + orders_size orders

module _ (s : Sizes) (are : AreSettings s) where
  context_few : (bits : CtxBits) → length (context s bits) ≤ 9
  context_few bits =
      let v = sized_few s.vmid_bytes bits.vmid in
      let c = sized_few s.cid_bytes bits.cid in
      let both = length-append (sized s.vmid_bytes bits.vmid) (sized s.cid_bytes bits.cid) in
      omega (arith, v, c, small_vmid s.vmid_bytes are.vmid, small_cid s.cid_bytes are.cid, both)

  -- ---- packets

  pub spelled_with : (p : Packet) (packets : List Packet) → length (spelled s (p ∷ packets)) ≡ length (spelling s p) + length (spelled s packets)
  spelled_with p packets = ap length (flat_map-cons (spelling s) p packets) ∙ length-append (spelling s p) (spelled s packets)

  spelled_alone : (p : Packet) → length (spelled s (p ∷ [])) ≡ length (spelling s p)
  spelled_alone p = omega (arith, spelled_with p [])

  spelled_both : (xs ys : List Packet) → length (spelled s (xs ++ ys)) ≡ length (spelled s xs) + length (spelled s ys)
  spelled_both xs ys = ap length (spelled_joined s xs ys) ∙ length-append (spelled s xs) (spelled s ys)

  address_few : (form : AddrForm) → length (spelling s (packet.Addr form None)) ≤ 9
  address_few (Match index) = omega arith
  address_few (Short1 a) = omega arith
  address_few (Short2 a) = omega arith
  address_few (Long32 a) = omega arith
  address_few (Long64 a) = omega arith

  placed_few : (form : AddrForm) (bits : CtxBits) → length (spelling s (packet.Addr form (Some bits))) ≤ 18
  placed_few (Match index) bits = omega arith
  placed_few (Short1 a) bits = omega arith
  placed_few (Short2 a) bits = omega arith
  placed_few (Long32 a) bits = omega (arith, context_few bits)
  placed_few (Long64 a) bits = omega (arith, context_few bits)

  context_packet_few : (shared : Shared) (ctx : Ctx) → length (spelling s (context_packet shared ctx)) ≤ 10
  context_packet_few shared ctx = by (same_context ctx shared.context)
    where
      by : (b : Bool) → length (spelling s (if b then packet.CtxSame else packet.CtxInfo (bits_against shared.context ctx))) ≤ 10
      by true = omega arith
      by false = omega (arith, context_few (bits_against shared.context ctx))

  -- ---- what waits

  cancel_few : (n : ℕ) → length (spelled s (cancel_packets n)) ≤ weight_of n
  cancel_few zero = omega arith
  cancel_few (suc n) = omega (arith, spelled_alone (packet.Cancel (suc n) false), number_long 4 (suc n))

  commit_few : (n : ℕ) → length (spelled s (commit_packets n)) ≤ 6
  commit_few zero = omega arith
  commit_few (suc n) = omega (arith, spelled_alone (packet.Commit (suc n)), number_long 4 (suc n))

  packed_few : (n : ℕ) (atoms : List Bool) → length (spelled s (packed_within n atoms)) ≤ n
  packed_few zero atoms = omega arith
  packed_few (suc n) [] = omega arith
  packed_few (suc n) (a ∷ atoms) =
      let rest = packed_within n (drop (longest (a ∷ atoms)) (a ∷ atoms)) in
      omega (arith, spelled_with (front_packet (a ∷ atoms)) rest, packed_few n (drop (longest (a ∷ atoms)) (a ∷ atoms)))

  out_few : (u : PutOff) → length (spelled s (out_packets u)) ≤ weight u
  out_few u = omega (arith, spelled_both (cancel_packets u.cancels) (packed u.atoms), cancel_few u.cancels, packed_few (length u.atoms) u.atoms)

  settle_few : (depth : ℕ) (u : PutOff) → length (spelled s (settle_packets depth u)) ≤ weight u + 6
  settle_few depth u =
      omega (arith, spelled_both (out_packets u) (commit_packets (out depth u).commits), out_few u, commit_few (out depth u).commits)

  -- ---- orders

  notice_few : (shared : Shared) (notice : Notice) → length (spelled s (notice_packets shared notice)) ≤ notice_size notice
  notice_few shared (Sync n) =
      let info = packet.Info (Some 0) None (announced n) None in
      omega (
        arith,
        spelled_with packet.Async (info ∷ []),
        spelled_alone info,
        length-append (section (Some 0)) (section (announced n) ++ []),
        length-append (section (announced n)) [],
        section_few (announced n),
      )
  notice_few shared On = omega (arith, spelled_alone packet.On)
  notice_few shared (Start addr ctx) =
      omega (arith, spelled_alone (with_context shared (Long64 addr) ctx), placed_few (Long64 addr) (bits_against shared.context ctx))
  notice_few shared (Place addr ctx) =
      let form = long_form shared.history addr in
      omega (arith, spelled_alone (with_context shared form ctx), placed_few form (bits_against shared.context ctx))
  notice_few shared (Address addr) =
      let form = form_of shared.history addr in omega (arith, spelled_alone (packet.Addr form None), address_few form)
  notice_few shared (Context ctx) = omega (arith, spelled_alone (context_packet shared ctx), context_packet_few shared ctx)

  exception_few : (shared : Shared) (kind ret : ℕ) → length (spelled s (exception_packets shared kind ret)) ≤ 11
  exception_few shared kind ret =
      let addr = packet.Addr (form_of shared.history ret) None in
      omega (arith, spelled_with (packet.Exc kind false) (addr ∷ []), spelled_alone addr, address_few (form_of shared.history ret))

  target_few : (shared : Shared) (context : Option Ctx) (kind addr : ℕ) → length (spelled s (target_packets shared context kind addr)) ≤ 20
  target_few shared context kind addr =
      let notice = target_notice context addr in
      omega (arith, spelled_with (packet.Exc kind true) (notice_packets shared notice), notice_few shared notice, by context)
    where
      by : (context : Option Ctx) → notice_size (target_notice context addr) ≤ 18
      by None = omega arith
      by (Some ctx) = omega arith

  flip_packet_few : (n : ℕ) → length (spelling s (flip_packet n)) ≤ 6
  flip_packet_few zero = omega arith
  flip_packet_few (suc zero) = omega arith
  flip_packet_few (suc (suc n)) = by (nat_le (suc (suc n)) 5)
    where
      by : (b : Bool) → length (spelling s (if b then packet.Cancel3 false (suc (suc n)) else packet.Cancel (suc (suc n)) true)) ≤ 6
      by true = omega arith
      by false = omega (arith, number_long 4 (suc (suc n)))

  flips_few : (u : PutOff) (atoms : List Bool) → length atoms ≡ length u.atoms
      → length (spelled s (flip_packets u atoms)) + weight (flipped u atoms) ≤ weight u + 6
  flips_few u [] e = omega (arith, spelled_alone (flip_packet u.cancels), flip_packet_few u.cancels, e)
  flips_few u (a ∷ atoms) e = omega (arith, turn_many (a ∷ atoms), e)

  spills_few : (depth : ℕ) (full : Bool) (u : PutOff) → (full ≡ true → 1 ≤ length u.atoms)
      → length (spelled s (spilled_packets full u)) + weight (spilled full depth u) ≤ weight u
  spills_few depth true u some =
      let one = some refl in
      let front = some_front 23 u.atoms in
      let none : weight_of (some_out depth (longest u.atoms) u).cancels ≡ 0 = ap weight_of (none_out depth (longest u.atoms) u) in
      omega (
        arith,
        spelled_both (cancel_packets u.cancels) (front_packet u.atoms ∷ []),
        cancel_few u.cancels,
        spelled_alone (front_packet u.atoms),
        length-drop (longest u.atoms) u.atoms,
        one,
        front,
        none,
      )
  spills_few depth false u some = omega arith

  nothing_out : (depth : ℕ) (u : PutOff) → weight (out depth u) ≡ 0
  nothing_out depth u =
      let cancels : weight_of (out depth u).cancels ≡ 0 = ap weight_of (none_out depth (length u.atoms) u) in
      let atoms : length (out depth u).atoms ≡ 0 = ap length (none_left u) in
      omega (arith, cancels, atoms)

  nothing_wrote : (depth : ℕ) (u : PutOff) → weight u ≡ 0 → weight (wrote depth u) ≡ 0
  nothing_wrote depth u none = by (nat_le (u.held + 1) depth)
    where
      by : (b : Bool) → weight (if b then record u { held = u.held + 1 } else record u { commits = u.commits - 1 }) ≡ 0
      by true = none
      by false = none

  cancels_more : (n k : ℕ) → weight_of (n + k) ≤ weight_of n + 6
  cancels_more n k = by n (n + k)
    where
      most : (m : ℕ) → weight_of m ≤ 6
      most zero = omega arith
      most (suc m) = omega arith

      by : (n m : ℕ) → weight_of m ≤ weight_of n + 6
      by n m = omega (arith, most m)

  order_few : (depth : ℕ) (u : PutOff) (shared : Shared) (order : Order)
      → length (spelled s (packets_of depth u shared order)) + weight (waits depth u order) ≤ weight u + order_size order
  order_few depth u shared (Tell notice) =
      omega (arith, spelled_both (out_packets u) (notice_packets shared notice), out_few u, notice_few shared notice, nothing_out depth u)
  order_few depth u shared (Branch taken) =
      let v = with_atom depth u taken in
      omega (arith, spills_few depth (is_full v) v (λ t. omega (arith, eqb-true (length v.atoms) 24 t)), length-append u.atoms (taken ∷ []))
  order_few depth u shared (Exception kind ret) =
      let none = nothing_wrote depth (record (out depth u) { commits = (out depth u).commits + at_once depth }) (nothing_out depth u) in
      omega (arith, spelled_both (out_packets u) (exception_packets shared kind ret), out_few u, exception_few shared kind ret, none)
  order_few depth u shared (ExceptionAtTarget context kind addr) =
      let none = nothing_wrote depth (record (out depth u) { commits = (out depth u).commits + at_once depth }) (nothing_out depth u) in
      omega (arith, spelled_both (out_packets u) (target_packets shared context kind addr), out_few u, target_few shared context kind addr, none)
  order_few depth u shared (Retire n) = omega arith
  order_few depth u shared (Cancel n) =
      omega (arith, cancels_more u.cancels (n - length u.atoms), length-take (length u.atoms - n) u.atoms)
  order_few depth u shared Flip = flips_few u u.atoms refl
  order_few depth u shared Settle = omega (arith, settle_few depth u, nothing_out depth u)
  order_few depth u shared (Close closing) =
      omega (
        arith,
        spelled_both (settle_packets depth u) (closing_packet closing ∷ []),
        settle_few depth u,
        spelled_alone (closing_packet closing),
        closing_few closing,
        nothing_out depth u,
      )
    where
      closing_few : (closing : Closing) → length (spelling s (closing_packet closing)) ≤ 2
      closing_few ByOverflow = omega arith
      closing_few ByOff = omega arith

-- ---- all orders

pub orders_few : (t : Teller) (orders : List Order) → AreSettings t.settings
    → length (bytes_all t orders) + weight (told_all t orders).waiting ≤ weight t.waiting + orders_size orders
orders_few t [] are = omega arith
orders_few t (order ∷ orders) are =
    let one = order_few t.settings are t.settings.depth t.waiting t.shared order in
    let rest = orders_few (told_by t order) orders are in
    omega (arith, one, rest, length-append (bytes_of t order) (bytes_all (told_by t order) orders))
