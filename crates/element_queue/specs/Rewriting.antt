-- Words of the laws by which two ways of writing the same trace are resolved alike. These laws are this project's own: no section of
-- Arm IHI 0064 has them, though each rests on its rules of speculation.
use Rattle.std.specs.Prelude.{ℕ, ◌-◌, ◌+◌, ◌≤◌, ◌<◌, List, [], ◌∷◌, ◌++◌, length, map, Ok, Err, ⊤}
use Rattle.etm_types.specs.Pre.{nothing_told}
use Rattle.etm_types.specs.declared.element.Elem.{Elem}
use Rattle.etm_types.specs.declared.element.Elem.TheVariants as elem
use Rattle.etm_types.specs.declared.element.P0.{P0}
use Rattle.etm_types.specs.declared.element.Pre.{Pre}
use Rattle.etm_types.specs.declared.element.Thing.{Thing}
use Rattle.etm_types.specs.declared.element.Thing.TheVariants.{Seen}
use Rattle.element_queue.specs.Pending.{Gone, Pending, Taken, commits, taken}

-- ---- P0 elements one behind the other, such as the atoms of a packet

abbrev pub elements_of_run : List P0 → List Elem
elements_of_run run = map elem.P0 run

-- what each is with what was given before it, which is nothing but before the first
abbrev pub things_of_run : Pre → List P0 → List Thing
things_of_run pre [] = []
things_of_run pre (p0 ∷ run) = Seen (record { pre = pre; p0 = p0 }) ∷ things_of_run nothing_told run

-- all of them together, one at least: all are held, and then the oldest of what is more than the depth are committed
abbrev pub taken_together : ℕ → Pending → List P0 → Taken
taken_together depth p run = let all = p.held ++ things_of_run p.pre run in commits p nothing_told all (length all - depth)

-- ---- elements that a commit may stand behind

-- trace is lost by an overflow or a discard alone
abbrev pub KeepsTrace : Elem → Type 0
KeepsTrace elem.Overflow = ⊥
KeepsTrace elem.Discard = ⊥
KeepsTrace e = ⊤

-- how many things a P0 element commits, as no more than the depth are held
abbrev pub made_room : Elem → Gone → ℕ
made_room (elem.P0 p0) gone = length gone.committed
made_room e gone = 0

-- how many a full queue commits while it takes elements, up to the first that has a fault
abbrev pub room_by_step : Elem → Taken → (Pending → ℕ) → ℕ
room_by_step e (Ok t) next = made_room e t.1 + next t.0
room_by_step e (Err fault) next = 0

abbrev pub room_made : ℕ → Pending → List Elem → ℕ
room_made depth p [] = 0
room_made depth p (e ∷ elements) = room_by_step e (taken depth p e) (λ p'. room_made depth p' elements)

-- An element spares so many of the oldest: it neither loses nor takes back nor flips any of them, and asks for no commit of more
-- than what is held behind them.
abbrev pub Spares : ℕ → Pending → Elem → Type 0
Spares n p (elem.Commit m) = n + m ≤ length p.held
Spares n p (elem.Cancel m) = n + m ≤ length p.held
Spares n p elem.Flip = n < length p.held
Spares n p elem.Overflow = ⊥
Spares n p elem.Discard = ⊥
Spares n p e = ⊤

-- each element spares so many of the oldest, less those that a full queue has committed by then
abbrev pub SparesNext : Elem → Taken → (Pending → ℕ → Type 0) → Type 0
SparesNext e (Ok t) next = next t.0 (made_room e t.1)
SparesNext e (Err fault) next = ⊤

abbrev pub SpareAll : ℕ → ℕ → Pending → List Elem → Type 0
SpareAll depth n p [] = ⊤
SpareAll depth n p (e ∷ elements) = Spares n p e × SparesNext e (taken depth p e) (λ p' room. SpareAll depth (n - room) p' elements)
