-- What waits stays small: an order tells the P0 steps that it stands for, and no number falls short.
use Rattle.std.proofs.Common.{◌≡◌, ℕ, zero, suc, ◌+◌, ◌-◌, ◌≤◌, Bool, true, false, List, [], ◌∷◌, length, take, refl, ap, arith}
use Rattle.std.proofs.Common.{length-append}
use Rattle.std.proofs.lemmas.List.{length-drop, length-take}
use Rattle.trace_unit.proofs.OrderTold.{wrote_atoms}
use Rattle.trace_unit.proofs.Out.{none_out, none_wrote}
use Rattle.trace_unit.proofs.Sizes.{few_atoms, turn_many}
use Rattle.trace_unit.proofs.WaitingOut.{wrote_one, wrote_some}
use Rattle.trace_unit.specs.Ordered.{Allows, unretired_by}
use Rattle.trace_unit.specs.Orders.{Branch, Cancel, Close, Exception, ExceptionAtTarget, Flip, Order, Retire, Settle, Tell}
use Rattle.trace_unit.specs.Packing.{longest}
use Rattle.trace_unit.specs.Small.{Small}
use Rattle.trace_unit.specs.Whole.{PutOff, at_once, cancelled_out, flipped, is_full, out, some_out, spilled, waits, with_atom, wrote}

-- the numbers tell so many P0 steps that are not retired, and none is too great
pub record Balanced (depth n : ℕ) (u : PutOff) : Type 0 where
  pub held : u.held ≤ depth
  pub cancels : u.cancels ≤ u.held
  pub balance : u.held + length u.atoms ≡ u.commits + n + u.cancels

pub balanced : (depth n : ℕ) (u : PutOff) → Small depth n u → Balanced depth n u
balanced depth n u small = record { held = small.held; cancels = small.cancels; balance = small.balance }

-- what is to be cancelled goes out, and so many of the oldest atoms
some_balanced : (depth n k : ℕ) (u : PutOff) → n ≤ depth → Balanced depth n u → Balanced depth n (some_out depth k u)
some_balanced depth n k u le b =
    let taken = length-take k u.atoms in
    let left = length-drop k u.atoms in
    let room : u.held - u.cancels + length (take k u.atoms) ≤ depth + u.commits = omega (arith, b.held, b.cancels, b.balance, le, taken) in
    let all = wrote_some depth (take k u.atoms) (cancelled_out u) (omega (arith, b.held)) room in
    let none = none_out depth k u in
    record {
      held = all.held;
      cancels = omega (arith, none);
      balance = omega (arith, none, all.balance, b.cancels, b.balance, taken, left);
    }

-- ---- all but what is to be committed

pub record Outside (depth n : ℕ) (v : PutOff) : Type 0 where
  pub held : v.held ≤ depth
  pub cancels : v.cancels ≡ 0
  pub atoms : length v.atoms ≡ 0
  pub balance : v.held ≡ v.commits + n

pub out_balanced : (depth n : ℕ) (u : PutOff) → n ≤ depth → Balanced depth n u → Outside depth n (out depth u)
out_balanced depth n u le b =
    let some = some_balanced depth n (length u.atoms) u le b in
    let gone = none_out depth (length u.atoms) u in
    let none : length (out depth u).atoms ≡ 0 = omega (arith, length-drop (length u.atoms) u.atoms) in
    record { held = some.held; cancels = gone; atoms = none; balance = omega (arith, gone, some.balance, none) }

-- ---- an order

one_at_once : (depth : ℕ) → at_once depth ≤ 1
one_at_once zero = omega arith
one_at_once (suc depth) = omega arith

spilled_balanced : (depth n : ℕ) (full : Bool) (u : PutOff) → n ≤ depth → Balanced depth n u → Balanced depth n (spilled full depth u)
spilled_balanced depth n true u le b = some_balanced depth n (longest u.atoms) u le b
spilled_balanced depth n false u le b = b

atom_balanced : (depth n : ℕ) (u : PutOff) (taken : Bool) → n + 1 ≤ depth + at_once depth → Balanced depth n u
    → Balanced depth (n + 1 - at_once depth) (with_atom depth u taken)
atom_balanced depth n u taken le b =
    let more = length-append u.atoms (taken ∷ []) in
    let one = one_at_once depth in
    record { held = b.held; cancels = b.cancels; balance = omega (arith, more, one, b.balance) }

-- an exception, behind all that goes out before it
excepted : (depth n : ℕ) (u : PutOff) → n + 1 ≤ depth + at_once depth → Outside depth n u
    → Balanced depth (n + 1 - at_once depth) (wrote depth (record u { commits = u.commits + at_once depth }))
excepted depth n u le o =
    let v : PutOff = record u { commits = u.commits + at_once depth } in
    let one = one_at_once depth in
    let w = wrote_one depth v o.held (omega (arith, le, o.balance)) in
    let atoms = ap length (wrote_atoms depth v) in
    let cancels = none_wrote depth v in
    record {
      held = w.held;
      cancels = omega (arith, cancels, o.cancels);
      balance = omega (arith, w.balance, cancels, atoms, o.atoms, o.cancels, o.balance, one);
    }

flip_balanced : (depth n : ℕ) (u : PutOff) (atoms : List Bool) → length atoms ≡ length u.atoms → Balanced depth n u → Balanced depth n (flipped u atoms)
flip_balanced depth n u [] e b = record { held = omega (arith, b.held); cancels = omega arith; balance = omega (arith, b.cancels, b.balance) }
flip_balanced depth n u (a ∷ atoms) e b =
    let same = turn_many (a ∷ atoms) in record { held = b.held; cancels = b.cancels; balance = omega (arith, same, e, b.balance) }

order_balanced : (depth n : ℕ) (u : PutOff) (order : Order) → n ≤ depth → Allows depth n order → Balanced depth n u
    → Balanced depth (unretired_by depth n order) (waits depth u order)
order_balanced depth n u (Tell notice) le can b =
    let o = out_balanced depth n u le b in
    record { held = o.held; cancels = omega (arith, o.cancels); balance = omega (arith, o.balance, o.atoms, o.cancels) }
order_balanced depth n u (Branch taken) le can b =
    let one = one_at_once depth in
    let v = with_atom depth u taken in
    spilled_balanced depth (n + 1 - at_once depth) (is_full v) v (omega (arith, can)) (atom_balanced depth n u taken can b)
order_balanced depth n u (Exception kind ret) le can b = excepted depth n (out depth u) can (out_balanced depth n u le b)
order_balanced depth n u (ExceptionAtTarget context kind addr) le can b = excepted depth n (out depth u) can (out_balanced depth n u le b)
order_balanced depth n u (Retire k) le can b = record { held = b.held; cancels = b.cancels; balance = omega (arith, can, b.balance) }
order_balanced depth n u (Cancel k) le can b =
    let left = length-take (length u.atoms - k) u.atoms in
    let sum : u.held + length (take (length u.atoms - k) u.atoms) ≡ u.commits + (n - k) + (u.cancels + (k - length u.atoms)) =
    omega (arith, left, can, b.balance) in
    record { held = b.held; cancels = omega (arith, left, can, b.balance, b.cancels); balance = sum }
order_balanced depth n u Flip le can b = flip_balanced depth n u u.atoms refl b
order_balanced depth n u Settle le can b =
    let o = out_balanced depth n u le b in
    record { held = omega (arith, o.held); cancels = omega (arith, o.cancels); balance = omega (arith, o.balance, o.atoms, o.cancels) }
order_balanced depth n u (Close closing) le can b =
    let o = out_balanced depth n u le b in
    record { held = omega arith; cancels = omega (arith, o.cancels); balance = omega (arith, o.balance, o.atoms, o.cancels) }

pub small_kept : (depth n : ℕ) (u : PutOff) (order : Order) → n ≤ depth → Allows depth n order → Small depth n u
    → Small depth (unretired_by depth n order) (waits depth u order)
small_kept depth n u order le can small =
    let b = order_balanced depth n u order le can (balanced depth n u small) in
    let few = few_atoms depth u order small.atoms in
    record { held = b.held; cancels = b.cancels; atoms = few; commits = omega (arith, b.held, b.balance, few); balance = b.balance }

pub few_kept : (depth n : ℕ) (order : Order) → n ≤ depth → Allows depth n order → unretired_by depth n order ≤ depth
few_kept depth n (Tell notice) le can = le
few_kept depth n (Branch taken) le can = omega (arith, can)
few_kept depth n (Exception kind ret) le can = omega (arith, can)
few_kept depth n (ExceptionAtTarget context kind addr) le can = omega (arith, can)
few_kept depth n (Retire k) le can = omega (arith, le)
few_kept depth n (Cancel k) le can = omega (arith, le)
few_kept depth n Flip le can = le
few_kept depth n Settle le can = le
few_kept depth n (Close closing) le can = omega arith
