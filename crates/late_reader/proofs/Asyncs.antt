-- The A-syncs among the packets of a trace: each is that of an order of synchronisation, and a trace info follows it.
use Rattle.std.proofs.Common.{◌≡◌, ◌⊎◌, ℕ, zero, suc, Bool, true, false, if◌then◌else◌, List, [], ◌∷◌, ◌++◌, nat_le, length, drop, Option, None, Some}
use Rattle.std.proofs.Common.{refl, sym, ap, ◌∙◌, inl, inr, append_assoc}
use Rattle.std.specs.Prelude.{⊤}
use Rattle.etm_types.specs.CtxBits.{bits_against}
use Rattle.etm_types.specs.declared.context.Ctx.{Ctx}
use Rattle.packet_grammar.specs.declared.packet.Packet.{Packet}
use Rattle.packet_grammar.specs.declared.packet.Packet.TheVariants as packet
use Rattle.spec_run.specs.Runs.{ByOff, ByOverflow, Closing}
use Rattle.etm_types.specs.SameContext.{same_context}
use Rattle.trace_unit.specs.Orders.{Address, Branch, Cancel, Close, Context, Exception, ExceptionAtTarget, Flip, On, Order, Place, Retire, Settle}
use Rattle.trace_unit.specs.Orders.{Start, Sync}
use Rattle.trace_unit.specs.Orders.{Tell, target_notice}
use Rattle.trace_unit.specs.Packets.{Shared, cancel_packets, closing_packet, commit_packets, context_packet, exception_packets, flip_packet}
use Rattle.trace_unit.specs.Packets.{flip_packets}
use Rattle.trace_unit.specs.Packets.{front_packet, notice_packets, nothing_shared, out_packets, packed, packed_within, packets_all, packets_of}
use Rattle.trace_unit.specs.Packets.{settle_packets}
use Rattle.trace_unit.specs.Packets.{shared_after, spilled_packets, target_packets}
use Rattle.trace_unit.specs.Packing.{longest}
use Rattle.trace_unit.specs.Whole.{PutOff, is_full, out, waits, waits_all, with_atom}
use Rattle.late_reader.proofs.Lists.{heads}
use Rattle.late_reader.specs.LastBytes.{info}

-- ---- no A-sync among packets

abbrev pub is_async : Packet → Bool
is_async packet.Async = true
is_async p = false

abbrev pub NoAsync : List Packet → Type 0
NoAsync [] = ⊤
NoAsync (p ∷ packets) = (is_async p ≡ false) × NoAsync packets

none_joined : (xs ys : List Packet) → NoAsync xs → NoAsync ys → NoAsync (xs ++ ys)
none_joined [] ys a b = b
none_joined (x ∷ xs) ys a b = (a.0, none_joined xs ys a.1 b)

not_one : (p : Packet) → is_async p ≡ false → p ≡ packet.Async → ⊥
not_one p f e = let t : is_async p ≡ true = ap is_async e in absurd cc

never : (packets front rest : List Packet) → NoAsync packets → packets ≡ front ++ packet.Async ∷ rest → ⊥
never [] [] rest n e = absurd cc
never [] (f ∷ front) rest n e = absurd cc
never (p ∷ packets) [] rest n e = not_one p n.0 (heads p packet.Async packets rest e).0
never (p ∷ packets) (f ∷ front) rest n e = never packets front rest n.1 (heads p f packets (front ++ packet.Async ∷ rest) e).1

-- one A-sync among packets is found where it stands
only : (before after front rest : List Packet) → NoAsync before → NoAsync after → before ++ packet.Async ∷ after ≡ front ++ packet.Async ∷ rest
    → (front ≡ before) × (rest ≡ after)
only [] after [] rest a b e = (refl, sym (heads packet.Async packet.Async after rest e).1)
only [] after (f ∷ front) rest a b e = absurd (never after front rest b (heads packet.Async f after (front ++ packet.Async ∷ rest) e).1)
only (x ∷ before) after [] rest a b e = absurd (not_one x a.0 (heads x packet.Async (before ++ packet.Async ∷ after) rest e).0)
only (x ∷ before) after (f ∷ front) rest a b e =
    let h = heads x f (before ++ packet.Async ∷ after) (front ++ packet.Async ∷ rest) e in
    let r = only before after front rest a.1 b h.1 in
    (ap (λ p. p ∷ front) (sym h.0) ∙ ap (λ l. x ∷ l) r.0, r.1)

-- ---- the packets of an order

cancel_none : (n : ℕ) → NoAsync (cancel_packets n)
cancel_none zero = tt
cancel_none (suc n) = (refl, tt)

commit_none : (n : ℕ) → NoAsync (commit_packets n)
commit_none zero = tt
commit_none (suc n) = (refl, tt)

packed_none : (n : ℕ) (atoms : List Bool) → NoAsync (packed_within n atoms)
packed_none zero atoms = tt
packed_none (suc n) [] = tt
packed_none (suc n) (a ∷ atoms) = (refl, packed_none n (drop (longest (a ∷ atoms)) (a ∷ atoms)))

out_none : (u : PutOff) → NoAsync (out_packets u)
out_none u = none_joined (cancel_packets u.cancels) (packed u.atoms) (cancel_none u.cancels) (packed_none (length u.atoms) u.atoms)

pub settle_none : (depth : ℕ) (u : PutOff) → NoAsync (settle_packets depth u)
settle_none depth u = none_joined (out_packets u) (commit_packets (out depth u).commits) (out_none u) (commit_none (out depth u).commits)

spilled_none : (full : Bool) (u : PutOff) → NoAsync (spilled_packets full u)
spilled_none true u = none_joined (cancel_packets u.cancels) (front_packet u.atoms ∷ []) (cancel_none u.cancels) (refl, tt)
spilled_none false u = tt

context_none : (b : Bool) (shared : Shared) (ctx : Ctx)
    → is_async (if b then packet.CtxSame else packet.CtxInfo (bits_against shared.context ctx)) ≡ false
context_none true shared ctx = refl
context_none false shared ctx = refl

flip_none : (n : ℕ) → is_async (flip_packet n) ≡ false
flip_none zero = refl
flip_none (suc zero) = refl
flip_none (suc (suc n)) = by (nat_le (suc (suc n)) 5)
  where
    by : (b : Bool) → is_async (if b then packet.Cancel3 false (suc (suc n)) else packet.Cancel (suc (suc n)) true) ≡ false
    by true = refl
    by false = refl

flips_none : (u : PutOff) (atoms : List Bool) → NoAsync (flip_packets u atoms)
flips_none u [] = (flip_none u.cancels, tt)
flips_none u (a ∷ atoms) = tt

closing_none : (closing : Closing) → is_async (closing_packet closing) ≡ false
closing_none ByOverflow = refl
closing_none ByOff = refl

target_none : (shared : Shared) (context : Option Ctx) (addr : ℕ) → NoAsync (notice_packets shared (target_notice context addr))
target_none shared None addr = (refl, tt)
target_none shared (Some ctx) addr = (refl, tt)

-- an A-sync in the packets of an order is that of a synchronisation
record AtSync (u : PutOff) (order : Order) (front rest : List Packet) : Type 0 where
  pub count : ℕ
  pub is : order ≡ Tell (Sync count)
  pub before : front ≡ out_packets u
  pub behind : rest ≡ info count ∷ []

none_at : (u : PutOff) (order : Order) (packets front rest : List Packet) → NoAsync packets → packets ≡ front ++ packet.Async ∷ rest
    → AtSync u order front rest
none_at u order packets front rest bare e = absurd (never packets front rest bare e)

behind_out : (u : PutOff) (p : Packet) → is_async p ≡ false → NoAsync (out_packets u ++ p ∷ [])
behind_out u p bare = none_joined (out_packets u) (p ∷ []) (out_none u) (bare, tt)

at_sync : (depth : ℕ) (u : PutOff) (shared : Shared) (order : Order) (front rest : List Packet)
    → packets_of depth u shared order ≡ front ++ packet.Async ∷ rest → AtSync u order front rest
at_sync depth u shared (Tell (Sync n)) front rest e =
    let r = only (out_packets u) (info n ∷ []) front rest (out_none u) (refl, tt) e in
    record { count = n; is = refl; before = r.0; behind = r.1 }
at_sync depth u shared (Tell On) front rest e = none_at u (Tell On) (out_packets u ++ packet.On ∷ []) front rest (behind_out u packet.On refl) e
at_sync depth u shared (Tell (Start addr ctx)) front rest e =
    none_at u (Tell (Start addr ctx)) (packets_of depth u shared (Tell (Start addr ctx))) front rest (behind_out u _ refl) e
at_sync depth u shared (Tell (Place addr ctx)) front rest e =
    none_at u (Tell (Place addr ctx)) (packets_of depth u shared (Tell (Place addr ctx))) front rest (behind_out u _ refl) e
at_sync depth u shared (Tell (Address addr)) front rest e =
    none_at u (Tell (Address addr)) (packets_of depth u shared (Tell (Address addr))) front rest (behind_out u _ refl) e
at_sync depth u shared (Tell (Context ctx)) front rest e =
    none_at u (Tell (Context ctx)) (packets_of depth u shared (Tell (Context ctx))) front rest
    (behind_out u (context_packet shared ctx) (context_none (same_context ctx shared.context) shared ctx)) e
at_sync depth u shared (Branch taken) front rest e =
    none_at u (Branch taken) (packets_of depth u shared (Branch taken)) front rest
    (spilled_none (is_full (with_atom depth u taken)) (with_atom depth u taken)) e
at_sync depth u shared (Exception kind ret) front rest e =
    none_at u (Exception kind ret) (packets_of depth u shared (Exception kind ret)) front rest
    (none_joined (out_packets u) (exception_packets shared kind ret) (out_none u) (refl, (refl, tt))) e
at_sync depth u shared (ExceptionAtTarget context kind addr) front rest e =
    none_at u (ExceptionAtTarget context kind addr) (packets_of depth u shared (ExceptionAtTarget context kind addr)) front rest
    (none_joined (out_packets u) (target_packets shared context kind addr) (out_none u) (refl, target_none shared context addr)) e
at_sync depth u shared (Retire n) front rest e = none_at u (Retire n) [] front rest tt e
at_sync depth u shared (Cancel n) front rest e = none_at u (Cancel n) [] front rest tt e
at_sync depth u shared Flip front rest e = none_at u Flip (flip_packets u u.atoms) front rest (flips_none u u.atoms) e
at_sync depth u shared Settle front rest e = none_at u Settle (settle_packets depth u) front rest (settle_none depth u) e
at_sync depth u shared (Close closing) front rest e =
    none_at u (Close closing) (packets_of depth u shared (Close closing)) front rest
    (none_joined (settle_packets depth u) (closing_packet closing ∷ []) (settle_none depth u) (closing_none closing, tt)) e

-- ---- the packets of all orders

abbrev Two : List Packet → List Packet → List Packet → Packet → List Packet → Type 0
Two xs ys front a rest =
    ((m : List Packet) × (xs ≡ front ++ a ∷ m) × (rest ≡ m ++ ys)) ⊎ ((m : List Packet) × (front ≡ xs ++ m) × (ys ≡ m ++ a ∷ rest))

two : (xs ys front rest : List Packet) (a : Packet) → xs ++ ys ≡ front ++ a ∷ rest → Two xs ys front a rest
two [] ys front rest a e = inr (front, refl, e)
two (x ∷ xs) ys [] rest a e = let h = heads x a (xs ++ ys) rest e in inl (xs, ap (λ p. p ∷ xs) h.0, sym h.1)
two (x ∷ xs) ys (f ∷ front) rest a e =
    let h = heads x f (xs ++ ys) (front ++ a ∷ rest) e in
    elim (two xs ys front rest a h.1) [
      | inl t ↦ inl (t.0, ap (λ p. p ∷ xs) h.0 ∙ ap (λ l. f ∷ l) t.1, t.2)
      | inr t ↦ inr (t.0, ap (λ p. p ∷ front) (sym h.0) ∙ ap (λ l. x ∷ l) t.1, t.2)
    ]

-- what stands before and behind an A-sync among the packets of orders, behind which others follow
pub record SyncedAt (depth : ℕ) (u : PutOff) (shared : Shared) (orders : List Order) (last front rest : List Packet) : Type 0 where
  pub early : List Order
  pub count : ℕ
  pub late : List Order
  pub orders_are : orders ≡ early ++ Tell (Sync count) ∷ late
  pub before : front ≡ packets_all depth u shared early ++ out_packets (waits_all depth u early)
  pub behind : rest ≡ info count ∷ (packets_all depth (waits depth (waits_all depth u early) (Tell (Sync count))) nothing_shared late ++ last)

pub synced_at : (depth : ℕ) (u : PutOff) (shared : Shared) (orders : List Order) (last front rest : List Packet) → NoAsync last
    → packets_all depth u shared orders ++ last ≡ front ++ packet.Async ∷ rest → SyncedAt depth u shared orders last front rest
synced_at depth u shared [] last front rest bare e = absurd (never last front rest bare e)
synced_at depth u shared (order ∷ orders) last front rest bare e =
    let here = packets_of depth u shared order in
    let v = waits depth u order in
    let next = shared_after shared order in
    let later = packets_all depth (waits depth u order) (shared_after shared order) orders in
    elim (two here (later ++ last) front rest packet.Async (sym (append_assoc here later last) ∙ e)) [
      | inl t ↦
          let o = at_sync depth u shared order front t.0 t.1 in
          record {
            early = [];
            count = o.count;
            late = orders;
            orders_are = ap (λ q. q ∷ orders) o.is;
            before = o.before;
            behind = t.2 ∙ ap (λ l. l ++ (later ++ last)) o.behind
                ∙ ap (λ q. info o.count ∷ (packets_all depth (waits depth u q) (shared_after shared q) orders ++ last)) o.is;
          }
      | inr t ↦
          let f = synced_at depth (waits depth u order) (shared_after shared order) orders last t.0 rest bare t.2 in
          record {
            early = order ∷ f.early;
            count = f.count;
            late = f.late;
            orders_are = ap (λ l. order ∷ l) f.orders_are;
            before = t.1 ∙ ap (λ l. here ++ l) f.before
                ∙ sym (append_assoc here (packets_all depth v next f.early) (out_packets (waits_all depth v f.early)));
            behind = f.behind;
          }
    ]
