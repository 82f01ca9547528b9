-- What orders tell where a unit puts off what it can: atoms are held, and packed once they go out, what is taken back is cancelled
-- late, and what is retired is committed late.
use Rattle.std.specs.Prelude.{ℕ, zero, suc, ◌+◌, ◌-◌, ◌==◌, nat_le, Bool, true, false, not, if◌then◌else◌, List, [], ◌∷◌, ◌++◌, length, take, drop, map}
use Rattle.etm_types.specs.declared.element.Elem.{Elem}
use Rattle.etm_types.specs.declared.element.Elem.TheVariants as elem
use Rattle.etm_types.specs.declared.element.P0.TheVariants as p0
use Rattle.spec_run.specs.Steps.{kept}
use Rattle.trace_unit.specs.Orders.{Branch, Cancel, Close, Exception, ExceptionAtTarget, Flip, Order, Retire, Settle, Tell}
use Rattle.trace_unit.specs.Packing.{longest}
use Rattle.trace_unit.specs.Told.{atom_element, cancels_of, closing_element, commits_of, notice_elements, target_elements}

-- The atoms that are held, oldest first; how many elements that were written are still to be cancelled; how many P0 steps that are
-- retired are still to be committed; and how many P0 elements the reader's queue holds.
pub record PutOff : Type 0 where
  pub atoms : List Bool
  pub cancels : ℕ
  pub commits : ℕ
  pub held : ℕ

abbrev pub nothing_waits : PutOff
nothing_waits = record { atoms = []; cancels = 0; commits = 0; held = 0 }

-- ---- what goes out

-- at depth 0 a P0 step is retired as it is executed
abbrev pub at_once : ℕ → ℕ
at_once zero = 1
at_once (suc depth) = 0

-- one P0 element is written: of a full queue the oldest is committed
abbrev pub wrote : ℕ → PutOff → PutOff
wrote depth u = if nat_le (u.held + 1) depth then record u { held = u.held + 1 } else record u { commits = u.commits - 1 }

abbrev pub wrote_all : ℕ → List Bool → PutOff → PutOff
wrote_all depth [] u = u
wrote_all depth (a ∷ atoms) u = wrote_all depth atoms (wrote depth u)

abbrev pub cancelled_out : PutOff → PutOff
cancelled_out u = record u { cancels = 0; held = u.held - u.cancels }

-- what is to be cancelled, and so many of the oldest atoms
abbrev pub some_out : ℕ → ℕ → PutOff → PutOff
some_out depth n u = record (wrote_all depth (take n u.atoms) (cancelled_out u)) { atoms = drop n u.atoms }

abbrev pub some_elements : ℕ → PutOff → List Elem
some_elements n u = cancels_of u.cancels ++ map atom_element (take n u.atoms)

-- all atoms
abbrev pub out : ℕ → PutOff → PutOff
out depth u = some_out depth (length u.atoms) u

abbrev pub out_elements : PutOff → List Elem
out_elements u = some_elements (length u.atoms) u

-- and what is to be committed
abbrev pub settled : PutOff → PutOff
settled u = record u { commits = 0; held = u.held - u.commits }

abbrev pub settle_elements : ℕ → PutOff → List Elem
settle_elements depth u = out_elements u ++ commits_of (out depth u).commits

-- ---- one atom more: where there are 24, what is to be cancelled and one packet go out

abbrev pub with_atom : ℕ → PutOff → Bool → PutOff
with_atom depth u taken = record u { atoms = u.atoms ++ taken ∷ []; commits = u.commits + at_once depth }

abbrev pub is_full : PutOff → Bool
is_full u = length u.atoms == 24

abbrev pub spilled : Bool → ℕ → PutOff → PutOff
spilled true depth u = some_out depth (longest u.atoms) u
spilled false depth u = u

abbrev pub spilled_elements : Bool → PutOff → List Elem
spilled_elements true u = some_elements (longest u.atoms) u
spilled_elements false u = []

-- ---- an exception, behind all that goes out

abbrev pub with_exception : ℕ → PutOff → PutOff
with_exception depth u = wrote depth (record (out depth u) { commits = (out depth u).commits + at_once depth })

-- ---- the newest atom is the other one: it is held, or it was written

abbrev pub turn_last : List Bool → List Bool
turn_last [] = []
turn_last (a ∷ []) = not a ∷ []
turn_last (a ∷ b ∷ atoms) = a ∷ turn_last (b ∷ atoms)

abbrev pub flipped : PutOff → List Bool → PutOff
flipped u [] = cancelled_out u
flipped u (a ∷ atoms) = record u { atoms = turn_last (a ∷ atoms) }

abbrev pub flip_elements : PutOff → List Bool → List Elem
flip_elements u [] = cancels_of u.cancels ++ elem.Flip ∷ []
flip_elements u (a ∷ atoms) = []

-- ---- an order

abbrev pub waits : ℕ → PutOff → Order → PutOff
waits depth u (Tell notice) = out depth u
waits depth u (Branch taken) = spilled (is_full (with_atom depth u taken)) depth (with_atom depth u taken)
waits depth u (Exception kind ret) = with_exception depth u
waits depth u (ExceptionAtTarget context kind addr) = with_exception depth u
waits depth u (Retire n) = record u { commits = u.commits + n }
waits depth u (Cancel n) = record u { atoms = kept n u.atoms; cancels = u.cancels + (n - length u.atoms) }
waits depth u Flip = flipped u u.atoms
waits depth u Settle = settled (out depth u)
waits depth u (Close closing) = record (settled (out depth u)) { held = 0 }

abbrev pub whole : ℕ → PutOff → Order → List Elem
whole depth u (Tell notice) = out_elements u ++ notice_elements notice
whole depth u (Branch taken) = spilled_elements (is_full (with_atom depth u taken)) (with_atom depth u taken)
whole depth u (Exception kind ret) = out_elements u ++ elem.P0 (p0.Exc kind ret) ∷ []
whole depth u (ExceptionAtTarget context kind addr) = out_elements u ++ target_elements context kind addr
whole depth u (Retire n) = []
whole depth u (Cancel n) = []
whole depth u Flip = flip_elements u u.atoms
whole depth u Settle = settle_elements depth u
whole depth u (Close closing) = settle_elements depth u ++ closing_element closing ∷ []

-- ---- all orders

abbrev pub waits_all : ℕ → PutOff → List Order → PutOff
waits_all depth u [] = u
waits_all depth u (order ∷ orders) = waits_all depth (waits depth u order) orders

abbrev pub whole_all : ℕ → PutOff → List Order → List Elem
whole_all depth u [] = []
whole_all depth u (order ∷ orders) = whole depth u order ++ whole_all depth (waits depth u order) orders

-- with all that waits behind them
abbrev pub whole_settled : ℕ → List Order → List Elem
whole_settled depth orders = whole_all depth nothing_waits orders ++ settle_elements depth (waits_all depth nothing_waits orders)
