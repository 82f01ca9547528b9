-- Each packet of an order whose values fit has a spelling.
use Rattle.std.proofs.Common.{◌≡◌, ℕ, zero, suc, ◌+◌, ◌-◌, ◌^◌, ◌<◌, ◌≤◌, Bool, true, false, if◌then◌else◌, nat_le, List, [], ◌∷◌, ◌++◌, length, take, Some}
use Rattle.std.proofs.Common.{Option, None, refl, inl, arith}
use Rattle.std.specs.Prelude.{All, IfSome}
use Rattle.std.proofs.Math.Nat.{pow-suc}
use Rattle.std.proofs.lemmas.Bool.{eqb-true, leb-true}
use Rattle.std.proofs.lemmas.List.{length-take-le}
use Rattle.std.proofs.lemmas.List.Elements.{All-append, All-cons, All-nil, All-take}
use Rattle.address_history.specs.Forms.{IsHistory, put_first}
use Rattle.etm_types.specs.Settings.{AreSettings, Sizes}
use Rattle.etm_types.specs.declared.address.AddrForm.TheVariants.{Long64}
use Rattle.etm_types.specs.declared.context.Ctx.{Ctx}
use Rattle.packet_grammar.specs.declared.packet.Packet.{Packet}
use Rattle.packet_grammar.specs.declared.packet.Packet.TheVariants as packet
use Rattle.packet_writer.specs.Fitting.{Fits, HasSpelling}
use Rattle.packet_writer.proofs.Having.{spelled_where_fits}
use Rattle.spec_run.specs.Executed.{IsPlace}
use Rattle.spec_run.specs.Runs.{ByOff, ByOverflow, Closing}
use Rattle.trace_unit.proofs.Chosen.{address_spelled, context_spelled, full_spelled, place_spelled}
use Rattle.trace_unit.proofs.Packed.{front_spelled, packed_spelled}
use Rattle.trace_unit.specs.Fitting.{FitsNotice, FitsOrder, IsCounted, IsShared}
use Rattle.trace_unit.specs.Orders.{Address, Branch, Cancel, Close, Context, Exception, ExceptionAtTarget, Flip, Notice, On, Order, Place, Retire}
use Rattle.trace_unit.specs.Orders.{Settle, Start, Sync, Tell, target_notice}
use Rattle.trace_unit.specs.Packets.{Shared, announced, cancel_packets, closing_packet, commit_packets, context_packet, exception_packets, flip_packet}
use Rattle.trace_unit.specs.Packets.{flip_packets, form_of, front_packet, long_form, no_atoms, nothing_shared, notice_packets, out_packets, packed, packets_of}
use Rattle.trace_unit.specs.Packets.{settle_packets, shared_after, shared_by, spilled_packets, target_packets, with_context}
use Rattle.trace_unit.specs.Small.{Small}
use Rattle.trace_unit.specs.Whole.{PutOff, cancelled_out, is_full, out, waits, with_atom, wrote, wrote_all}

-- ---- what is counted, where it goes out too

wrote_fewer : (depth : ℕ) (u : PutOff) → (wrote depth u).commits ≤ u.commits
wrote_fewer depth u = by (nat_le (u.held + 1) depth)
  where
    by : (b : Bool) → let after : PutOff = if b then record u { held = u.held + 1 } else record u { commits = u.commits - 1 } in after.commits ≤ u.commits
    by true = omega arith
    by false = omega arith

wrote_same : (depth : ℕ) (u : PutOff) → (wrote depth u).cancels ≡ u.cancels
wrote_same depth u = by (nat_le (u.held + 1) depth)
  where
    by : (b : Bool) → let after : PutOff = if b then record u { held = u.held + 1 } else record u { commits = u.commits - 1 } in after.cancels ≡ u.cancels
    by true = refl
    by false = refl

all_wrote : (depth : ℕ) (atoms : List Bool) (u : PutOff) → IsCounted u → IsCounted (wrote_all depth atoms u)
all_wrote depth [] u counted = counted
all_wrote depth (a ∷ atoms) u counted =
    all_wrote depth atoms (wrote depth u) (record {
      cancels = omega (arith, counted.cancels, wrote_same depth u);
      commits = omega (arith, counted.commits, wrote_fewer depth u);
    })

pub out_counted : (depth : ℕ) (u : PutOff) → IsCounted u → IsCounted (out depth u)
out_counted depth u counted =
    let v = wrote_all depth (take (length u.atoms) u.atoms) (cancelled_out u) in
    let is = all_wrote depth (take (length u.atoms) u.atoms) (cancelled_out u) (record { cancels = omega arith; commits = counted.commits }) in
    record { cancels = is.cancels; commits = is.commits }

-- so it is between the orders of one event, of which only the last is another one
pub told_counted : (depth : ℕ) (u : PutOff) (notice : Notice) → IsCounted u → IsCounted (waits depth u (Tell notice))
told_counted depth u notice counted = out_counted depth u counted

pub settled_counted : (depth : ℕ) (u : PutOff) → IsCounted u → IsCounted (waits depth u Settle)
settled_counted depth u counted = record { cancels = (out_counted depth u counted).cancels; commits = omega arith }

pub small_counted : (s : Sizes) (unretired : ℕ) (u : PutOff) → AreSettings s → Small s.depth unretired u → IsCounted u
small_counted s unretired u settings small =
    record { cancels = omega (arith, small.cancels, small.held, settings.depth); commits = omega (arith, small.commits, settings.depth) }

byte_room : (size : ℕ) → 0 < 256 ^ size
byte_room zero = omega arith
byte_room (suc size) = let more = byte_room size in let next = pow-suc 256 size in omega (arith, more, next)

-- ---- packets

module _ (s : Sizes) where
  abbrev pub AreSpelled : List Packet → Type 0
  AreSpelled packets = All (HasSpelling s) packets

  by_values : (p : Packet) → Fits s p → HasSpelling s p
  by_values p fits = (spelled_where_fits s p).1 fits

  alone : (p : Packet) → HasSpelling s p → AreSpelled (p ∷ [])
  alone p has = All-cons (HasSpelling s) p [] has (All-nil (HasSpelling s))

  both : (p q : Packet) → HasSpelling s p → HasSpelling s q → AreSpelled (p ∷ q ∷ [])
  both p q has also = All-cons (HasSpelling s) p (q ∷ []) has (alone q also)

  pub joined : (xs ys : List Packet) → AreSpelled xs → AreSpelled ys → AreSpelled (xs ++ ys)
  joined xs ys a b = All-append (HasSpelling s) xs ys a b

  -- ---- what waits

  commits_spelled : (n : ℕ) → n < 2 ^ 32 → AreSpelled (commit_packets n)
  commits_spelled zero less = All-nil (HasSpelling s)
  commits_spelled (suc n) less = alone (packet.Commit (suc n)) (by_values (packet.Commit (suc n)) (less, tt))

  cancels_spelled : (n : ℕ) → n < 2 ^ 32 → AreSpelled (cancel_packets n)
  cancels_spelled zero less = All-nil (HasSpelling s)
  cancels_spelled (suc n) less = alone (packet.Cancel (suc n) false) (by_values (packet.Cancel (suc n) false) (less, tt))

  out_spelled : (u : PutOff) → IsCounted u → AreSpelled (out_packets u)
  out_spelled u counted = joined (cancel_packets u.cancels) (packed u.atoms) (cancels_spelled u.cancels counted.cancels) (packed_spelled s u.atoms)

  flip_spelled : (n : ℕ) → n < 2 ^ 32 → HasSpelling s (flip_packet n)
  flip_spelled zero less = by_values (packet.Mispredict no_atoms) (inl refl, tt)
  flip_spelled (suc zero) less = by_values (packet.Cancel2 no_atoms) (inl refl, tt)
  flip_spelled (suc (suc n)) less = by (nat_le (suc (suc n)) 5) (λ t. leb-true (suc (suc n)) 5 t)
    where
      by : (b : Bool) → (b ≡ true → suc (suc n) ≤ 5) → HasSpelling s (if b then packet.Cancel3 false (suc (suc n)) else packet.Cancel (suc (suc n)) true)
      by true few = let le = few refl in by_values (packet.Cancel3 false (suc (suc n))) ((omega arith, le), tt)
      by false few = by_values (packet.Cancel (suc (suc n)) true) (less, tt)

  flips_spelled : (u : PutOff) (atoms : List Bool) → IsCounted u → AreSpelled (flip_packets u atoms)
  flips_spelled u [] counted = alone (flip_packet u.cancels) (flip_spelled u.cancels counted.cancels)
  flips_spelled u (a ∷ atoms) counted = All-nil (HasSpelling s)

  spills_spelled : (full : Bool) (u : PutOff) → (full ≡ true → 1 ≤ length u.atoms) → u.cancels < 2 ^ 32 → AreSpelled (spilled_packets full u)
  spills_spelled true u some less =
      joined (cancel_packets u.cancels) (front_packet u.atoms ∷ []) (cancels_spelled u.cancels less)
      (alone (front_packet u.atoms) (front_spelled s u.atoms (some refl)))
  spills_spelled false u some less = All-nil (HasSpelling s)

  closing_spelled : (closing : Closing) → AreSpelled (closing_packet closing ∷ [])
  closing_spelled ByOverflow = alone packet.Overflow (by_values packet.Overflow (tt, tt))
  closing_spelled ByOff = alone packet.Discard (by_values packet.Discard (tt, tt))

  -- ---- notices and exceptions

  sync_spelled : (shared : Shared) (n : ℕ) → n < 2 ^ 32 → AreSpelled (notice_packets shared (Sync n))
  sync_spelled shared n less =
      both packet.Async (packet.Info (Some 0) None (announced n) None) (by_values packet.Async (tt, tt))
      (by_values (packet.Info (Some 0) None (announced n) None) ((refl, tt, number n less, tt), tt))
    where
      number : (n : ℕ) → n < 2 ^ 32 → IfSome (announced n) (λ k. k < 2 ^ 32)
      number zero less = tt
      number (suc n) less = less

  pub notice_spelled : (shared : Shared) (notice : Notice) → IsShared s shared → FitsNotice s notice → AreSpelled (notice_packets shared notice)
  notice_spelled shared (Sync n) is fits = sync_spelled shared n fits
  notice_spelled shared On is fits = alone packet.On (by_values packet.On (tt, tt))
  notice_spelled shared (Start addr ctx) is fits =
      alone (with_context shared (Long64 addr) ctx) (full_spelled s shared addr ctx is.context fits.0 fits.1)
  notice_spelled shared (Place addr ctx) is fits =
      alone (with_context shared (long_form shared.history addr) ctx) (place_spelled s shared addr ctx is.context fits.0 fits.1)
  notice_spelled shared (Address addr) is fits =
      alone (packet.Addr (form_of shared.history addr) None) (address_spelled s shared.history addr fits)
  notice_spelled shared (Context ctx) is fits = alone (context_packet shared ctx) (context_spelled s shared ctx is.context fits)

  exception_spelled : (shared : Shared) (kind ret : ℕ) → kind < 32 → IsPlace ret → AreSpelled (exception_packets shared kind ret)
  exception_spelled shared kind ret less place =
      both (packet.Exc kind false) (packet.Addr (form_of shared.history ret) None) (by_values (packet.Exc kind false) (less, tt))
      (address_spelled s shared.history ret place)

  target_spelled : (shared : Shared) (context : Option Ctx) (kind addr : ℕ) → IsShared s shared → kind < 32 → FitsNotice s (target_notice context addr)
      → AreSpelled (target_packets shared context kind addr)
  target_spelled shared context kind addr is less fits =
      joined (packet.Exc kind true ∷ []) (notice_packets shared (target_notice context addr))
      (alone (packet.Exc kind true) (by_values (packet.Exc kind true) (less, tt))) (notice_spelled shared (target_notice context addr) is fits)

  -- ---- what both ends have

  put_one : (history : List ℕ) (addr : ℕ) → IsHistory history → addr < 2 ^ 64 → IsHistory (put_first addr history)
  put_one history addr is less =
      record {
        three = omega (arith, is.three, length-take-le 2 history (omega (arith, is.three)));
        addresses = All-cons (λ a. a < 2 ^ 64) addr (take 2 history) less (All-take (λ a. a < 2 ^ 64) 2 history is.addresses);
      }

  pub nothing_is_shared : IsShared s nothing_shared
  nothing_is_shared =
      record {
        history =
            record {
              three = refl;
              addresses =
                  All-cons (λ a. a < 2 ^ 64) 0 (0 ∷ 0 ∷ []) (omega arith)
                  (All-cons (λ a. a < 2 ^ 64) 0 (0 ∷ []) (omega arith) (All-cons (λ a. a < 2 ^ 64) 0 [] (omega arith) (All-nil (λ a. a < 2 ^ 64))));
            };
        context = record { el = omega arith; vmid = byte_room s.vmid_bytes; cid = byte_room s.cid_bytes };
      }

  notice_shared : (shared : Shared) (notice : Notice) → IsShared s shared → FitsNotice s notice → IsShared s (shared_by shared notice)
  notice_shared shared (Sync n) is fits = nothing_is_shared
  notice_shared shared On is fits = is
  notice_shared shared (Start addr ctx) is fits = record { history = put_one shared.history addr is.history fits.0.0; context = fits.1 }
  notice_shared shared (Place addr ctx) is fits = record { history = put_one shared.history addr is.history fits.0.0; context = fits.1 }
  notice_shared shared (Address addr) is fits = record { history = put_one shared.history addr is.history fits.0; context = is.context }
  notice_shared shared (Context ctx) is fits = record { history = is.history; context = fits }

  order_shared : (shared : Shared) (order : Order) → IsShared s shared → FitsOrder s order → IsShared s (shared_after shared order)
  order_shared shared (Tell notice) is fits = notice_shared shared notice is fits
  order_shared shared (Branch taken) is fits = is
  order_shared shared (Exception kind ret) is fits = record { history = put_one shared.history ret is.history fits.1.0; context = is.context }
  order_shared shared (ExceptionAtTarget context kind addr) is fits = notice_shared shared (target_notice context addr) is fits.1
  order_shared shared (Retire n) is fits = is
  order_shared shared (Cancel n) is fits = is
  order_shared shared Flip is fits = is
  order_shared shared Settle is fits = is
  order_shared shared (Close closing) is fits = is

  -- ---- an order

  pub settle_spelled : (depth : ℕ) (u : PutOff) → IsCounted u → AreSpelled (settle_packets depth u)
  settle_spelled depth u counted =
      joined (out_packets u) (commit_packets (out depth u).commits) (out_spelled u counted)
      (commits_spelled (out depth u).commits (out_counted depth u counted).commits)

  packets_spelled : (depth : ℕ) (u : PutOff) (shared : Shared) (order : Order) → FitsOrder s order → IsShared s shared → IsCounted u
      → AreSpelled (packets_of depth u shared order)
  packets_spelled depth u shared (Tell notice) fits is counted =
      joined (out_packets u) (notice_packets shared notice) (out_spelled u counted) (notice_spelled shared notice is fits)
  packets_spelled depth u shared (Branch taken) fits is counted =
      let v : PutOff = with_atom depth u taken in
      spills_spelled (is_full v) v (λ t. let full = eqb-true (length v.atoms) 24 t in omega (arith, full)) counted.cancels
  packets_spelled depth u shared (Exception kind ret) fits is counted =
      joined (out_packets u) (exception_packets shared kind ret) (out_spelled u counted) (exception_spelled shared kind ret fits.0 fits.1)
  packets_spelled depth u shared (ExceptionAtTarget context kind addr) fits is counted =
      joined (out_packets u) (target_packets shared context kind addr) (out_spelled u counted)
      (target_spelled shared context kind addr is fits.0 fits.1)
  packets_spelled depth u shared (Retire n) fits is counted = All-nil (HasSpelling s)
  packets_spelled depth u shared (Cancel n) fits is counted = All-nil (HasSpelling s)
  packets_spelled depth u shared Flip fits is counted = flips_spelled u u.atoms counted
  packets_spelled depth u shared Settle fits is counted = settle_spelled depth u counted
  packets_spelled depth u shared (Close closing) fits is counted =
      joined (settle_packets depth u) (closing_packet closing ∷ []) (settle_spelled depth u counted) (closing_spelled closing)

  pub order_spelled : (depth : ℕ) (u : PutOff) (shared : Shared) (order : Order) → FitsOrder s order → IsShared s shared → IsCounted u
      → AreSpelled (packets_of depth u shared order) × IsShared s (shared_after shared order)
  order_spelled depth u shared order fits is counted = (packets_spelled depth u shared order fits is counted, order_shared shared order is fits)
