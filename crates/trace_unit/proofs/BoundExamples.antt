-- The values of what is told, what a unit keeps, and what a reader can take, at their bounds and past them by one.
use Rattle.std.proofs.Common.{◌≡◌, ℕ, Bool, true, false, List, [], ◌∷◌, map, replicate, Some, None, refl, inl, inr, arith}
use Rattle.std.proofs.lemmas.List.Elements.{All-cons, All-head, All-nil}
use Rattle.etm_types.specs.Pre.{nothing_told}
use Rattle.etm_types.specs.Settings.{FitsSettings, Sizes}
use Rattle.etm_types.specs.declared.context.Ctx.{Ctx}
use Rattle.etm_types.specs.declared.element.P0.TheVariants as p0
use Rattle.etm_types.specs.declared.element.Thing.{Thing}
use Rattle.etm_types.specs.declared.element.Thing.TheVariants.{Seen}
use Rattle.element_queue.specs.Pending.{Pending}
use Rattle.spec_run.specs.Executed.{IsPlace}
use Rattle.spec_run.specs.Runs.{ByOff, Running}
use Rattle.spec_run.specs.declared.step.RunStep.{RunStep}
use Rattle.spec_run.specs.declared.step.StepKind.{StepKind}
use Rattle.spec_run.specs.declared.step.StepKind.TheVariants as kind
use Rattle.trace_unit.specs.Fitting.{FitsNotice, FitsOrder, FitsPlaces, FitsRunning, FitsStep, IsCounted, IsShared}
use Rattle.trace_unit.specs.Orders.{Address, Branch, Cancel, Close, Context, Exception, ExceptionAtTarget, Flip, On, Place, Retire, Settle, Start, Sync, Tell}
use Rattle.trace_unit.specs.Places.{Places, Saved}
use Rattle.trace_unit.specs.Small.{Small, unretired}
use Rattle.trace_unit.specs.Taken.{CanHear, CanTake}
use Rattle.trace_unit.specs.Whole.{PutOff}

-- a VMID of one byte and a context ID of four
abbrev sizes : Sizes
sizes = record { depth = 4; vmid_bytes = 1; cid_bytes = 4 }

abbrev level : ℕ → Ctx
level el = record { el = el; ns = true; vmid = 255; cid = 0xffffffff }

largest_fits : FitsSettings sizes (level 3)
largest_fits = record { el = omega arith; vmid = omega arith; cid = omega arith }

last_place : IsPlace 0xfffffffffffffffc
last_place = (omega arith, refl)

-- ---- notices and orders

notices_fit : FitsNotice sizes (Sync 0xffffffff) × FitsNotice sizes On × FitsNotice sizes (Start 0xfffffffffffffffc (level 3))
    × FitsNotice sizes (Place 0xfffffffffffffffc (level 3)) × FitsNotice sizes (Address 0xfffffffffffffffc) × FitsNotice sizes (Context (level 3))
notices_fit = (omega arith, tt, (last_place, largest_fits), (last_place, largest_fits), last_place, largest_fits)

no_large_number : FitsNotice sizes (Sync 0x100000000) → ⊥
no_large_number fits = omega (arith, fits)

no_start_within_a_word : FitsNotice sizes (Start 0x1002 (level 3)) → ⊥
no_start_within_a_word fits = omega (arith, fits.0.1)

no_start_at_level_4 : FitsNotice sizes (Start 0x1000 (level 4)) → ⊥
no_start_at_level_4 fits = omega (arith, fits.1.el)

no_place_within_a_word : FitsNotice sizes (Place 0x1002 (level 3)) → ⊥
no_place_within_a_word fits = omega (arith, fits.0.1)

no_place_at_level_4 : FitsNotice sizes (Place 0x1000 (level 4)) → ⊥
no_place_at_level_4 fits = omega (arith, fits.1.el)

no_address_of_65_bits : FitsNotice sizes (Address 0x10000000000000000) → ⊥
no_address_of_65_bits fits = omega (arith, fits.0)

no_level_4 : FitsNotice sizes (Context (level 4)) → ⊥
no_level_4 fits = omega (arith, fits.el)

orders_fit : FitsOrder sizes (Tell (Sync 0xffffffff)) × FitsOrder sizes (Exception 31 0xfffffffffffffffc)
    × FitsOrder sizes (ExceptionAtTarget None 31 0xfffffffffffffffc) × FitsOrder sizes (ExceptionAtTarget (Some (level 3)) 0 0x1000)
orders_fit = (omega arith, (omega arith, last_place), (omega arith, last_place), (omega arith, ((omega arith, refl), largest_fits)))

other_orders_fit : FitsOrder sizes (Branch true) × FitsOrder sizes (Retire 0x100000000) × FitsOrder sizes (Cancel 0x100000000) × FitsOrder sizes Flip
    × FitsOrder sizes Settle × FitsOrder sizes (Close ByOff)
other_orders_fit = (tt, tt, tt, tt, tt, tt)

no_large_number_told : FitsOrder sizes (Tell (Sync 0x100000000)) → ⊥
no_large_number_told fits = omega (arith, fits)

no_kind_32 : FitsOrder sizes (Exception 32 0x1000) → ⊥
no_kind_32 fits = omega (arith, fits.0)

no_return_within_a_word : FitsOrder sizes (Exception 31 0x1002) → ⊥
no_return_within_a_word fits = omega (arith, fits.1.1)

no_kind_32_at_its_target : FitsOrder sizes (ExceptionAtTarget None 32 0x1000) → ⊥
no_kind_32_at_its_target fits = omega (arith, fits.0)

no_target_within_a_word : FitsOrder sizes (ExceptionAtTarget None 31 0x1002) → ⊥
no_target_within_a_word fits = omega (arith, fits.1.1)

-- ---- what is shared, put off and kept

two_entries : IsShared sizes (record { history = 0 ∷ 0 ∷ []; context = level 3 }) → ⊥
two_entries is = omega (arith, is.history.three)

shared_at_level_4 : IsShared sizes (record { history = 0 ∷ 0 ∷ 0 ∷ []; context = level 4 }) → ⊥
shared_at_level_4 is = omega (arith, is.context.el)

abbrev put_off : List Bool → ℕ → ℕ → ℕ → PutOff
put_off atoms cancels commits held = record { atoms = atoms; cancels = cancels; commits = commits; held = held }

most_counted : IsCounted (put_off [] 0xffffffff 0xffffffff 0)
most_counted = record { cancels = omega arith; commits = omega arith }

cancels_past_it : IsCounted (put_off [] 0x100000000 0 0) → ⊥
cancels_past_it is = omega (arith, is.cancels)

commits_past_it : IsCounted (put_off [] 0 0x100000000 0) → ⊥
commits_past_it is = omega (arith, is.commits)

abbrev step : ℕ → ℕ → StepKind → RunStep
step addr el kind = record { addr = addr; ctx = level el; kind = kind; next = 0; link = false }

a_step : FitsStep sizes (step 0xfffffffffffffffc 3 kind.Plain)
a_step = record { addr = last_place; ctx = largest_fits }

step_within_a_word : FitsStep sizes (step 0x1002 3 kind.Plain) → ⊥
step_within_a_word fits = omega (arith, fits.addr.1)

step_at_level_4 : FitsStep sizes (step 0x1000 4 kind.Plain) → ⊥
step_at_level_4 fits = omega (arith, fits.ctx.el)

abbrev running : ℕ → ℕ → List RunStep → Running
running pc el held = record { start = 0; retired = []; held = held; pc = pc; ctx = level el }

a_run : FitsRunning sizes (running 0xfffffffffffffffc 3 (step 0xfffffffffffffffc 3 kind.Plain ∷ []))
a_run = record {
  pc = last_place;
  ctx = largest_fits;
  held = All-cons (FitsStep sizes) (step 0xfffffffffffffffc 3 kind.Plain) [] a_step (All-nil (FitsStep sizes));
  few = omega arith;
}

run_within_a_word : FitsRunning sizes (running 0x1002 3 []) → ⊥
run_within_a_word fits = omega (arith, fits.pc.1)

run_at_level_4 : FitsRunning sizes (running 0x1000 4 []) → ⊥
run_at_level_4 fits = omega (arith, fits.ctx.el)

held_at_level_4 : FitsRunning sizes (running 0x1000 3 (step 0x1000 4 kind.Plain ∷ [])) → ⊥
held_at_level_4 fits = let fits = All-head (FitsStep sizes) (step 0x1000 4 kind.Plain) [] fits.held in omega (arith, fits.ctx.el)

abbrev places : ℕ → ℕ → Places
places start saved = record {
  stack = [];
  saved = record { stack = []; context = level 3; start = saved } ∷ [];
  needs = false;
  start = start;
  reader_context = level 3;
}

abbrev Stands : Saved → Type 0
Stands v = IsPlace v.start

some_places : FitsPlaces (places 0xfffffffffffffffc 0x1000)
some_places = record {
  start = last_place;
  saved = All-cons Stands (record { stack = []; context = level 3; start = 0x1000 }) [] (omega arith, refl) (All-nil Stands);
}

start_within_a_word : FitsPlaces (places 0x1002 0x1000) → ⊥
start_within_a_word fits = omega (arith, fits.start.1)

saved_within_a_word : FitsPlaces (places 0x1000 0x1002) → ⊥
saved_within_a_word fits =
    let stands : IsPlace 0x1002 = All-head Stands (record { stack = []; context = level 3; start = 0x1002 }) [] fits.saved in omega (arith, stands.1)

-- ---- how much waits

p0s_of_a_run :
    map unretired (None ∷ Some (running 0x1000 3 (step 0x1000 3 kind.Jump ∷ step 0x1000 3 kind.Plain ∷ step 0x1000 3 kind.Isb ∷ [])) ∷ []) ≡ 0 ∷ 2 ∷ []
p0s_of_a_run = refl

-- the most of each at depth 4: four elements are held and cancelled, and 23 atoms stand behind them
most_held : Small 4 0 (put_off (replicate 23 true) 0 27 4)
most_held = record { held = omega arith; cancels = omega arith; atoms = omega arith; commits = omega arith; balance = refl }

all_cancelled : Small 4 23 (put_off (replicate 23 true) 4 0 4)
all_cancelled = record { held = omega arith; cancels = omega arith; atoms = omega arith; commits = omega arith; balance = refl }

some_of_each : Small 4 2 (put_off (true ∷ false ∷ []) 1 2 3)
some_of_each = record { held = omega arith; cancels = omega arith; atoms = omega arith; commits = omega arith; balance = refl }

held_past_it : Small 4 5 (put_off [] 0 0 5) → ⊥
held_past_it small = omega (arith, small.held)

cancels_past_those : Small 4 0 (put_off (true ∷ []) 4 0 3) → ⊥
cancels_past_those small = omega (arith, small.cancels)

atoms_past_it : Small 4 24 (put_off (replicate 24 true) 0 0 0) → ⊥
atoms_past_it small = omega (arith, small.atoms)

commits_past_those : Small 4 0 (put_off (replicate 23 true) 0 28 5) → ⊥
commits_past_those small = omega (arith, small.commits)

one_step_too_few : Small 4 1 (put_off (true ∷ false ∷ []) 1 2 3) → ⊥
one_step_too_few small = omega (arith, small.balance)

one_step_too_many : Small 4 3 (put_off (true ∷ false ∷ []) 1 2 3) → ⊥
one_step_too_many small = omega (arith, small.balance)

-- ---- what a reader can take

heard : CanHear true (Sync 3) × CanHear false (Sync 0) × CanHear false On × CanHear false (Address 0x1000) × CanHear false (Context (level 3))
    × CanHear false (Start 0x1000 (level 3)) × CanHear false (Place 0x1000 (level 3))
heard = (inl refl, inr refl, tt, tt, tt, tt, tt)

none_first : CanHear false (Sync 1) → ⊥
none_first (inl is) = cc is
none_first (inr is) = omega (arith, is)

-- an atom, and an exception, that were seen
abbrev an_atom : Thing
an_atom = Seen (record { pre = nothing_told; p0 = p0.Atom true })

abbrev an_exception : Thing
an_exception = Seen (record { pre = nothing_told; p0 = p0.Exc 3 0x1000 })

abbrev holding : List Thing → Pending
holding things = record { held = things; pre = nothing_told; informed = false }

-- two are held at depth 3; at depth 0 one passes at once
taken : CanTake 3 (holding (an_atom ∷ an_atom ∷ [])) (Branch true) × CanTake 3 (holding (an_atom ∷ an_atom ∷ [])) (Exception 3 0x1000)
    × CanTake 3 (holding (an_atom ∷ an_atom ∷ [])) (ExceptionAtTarget None 3 0x1000) × CanTake 0 (holding []) (Branch true)
    × CanTake 3 (holding (an_atom ∷ an_atom ∷ [])) (Retire 2) × CanTake 3 (holding (an_atom ∷ an_atom ∷ [])) (Cancel 2)
taken = (omega arith, omega arith, omega arith, omega arith, omega arith, omega arith)

taken_as_they_are : CanTake 3 (holding []) Settle × CanTake 3 (holding []) (Close ByOff) × CanTake 3 (holding []) (Tell (Sync 0))
    × CanTake 3 (holding []) (Tell On)
taken_as_they_are = (tt, tt, inr refl, tt)

an_atom_flipped : CanTake 3 (holding (an_atom ∷ [])) Flip
an_atom_flipped = (_, refl)

no_atom_past_the_depth : CanTake 2 (holding (an_atom ∷ an_atom ∷ [])) (Branch true) → ⊥
no_atom_past_the_depth can = omega (arith, can)

no_exception_past_the_depth : CanTake 2 (holding (an_atom ∷ an_atom ∷ [])) (Exception 3 0x1000) → ⊥
no_exception_past_the_depth can = omega (arith, can)

no_target_past_the_depth : CanTake 2 (holding (an_atom ∷ an_atom ∷ [])) (ExceptionAtTarget None 3 0x1000) → ⊥
no_target_past_the_depth can = omega (arith, can)

no_more_retired : CanTake 3 (holding (an_atom ∷ an_atom ∷ [])) (Retire 3) → ⊥
no_more_retired can = omega (arith, can)

no_more_cancelled : CanTake 3 (holding (an_atom ∷ an_atom ∷ [])) (Cancel 3) → ⊥
no_more_cancelled can = omega (arith, can)

no_exception_flipped : CanTake 3 (holding (an_atom ∷ an_exception ∷ [])) Flip → ⊥
no_exception_flipped can = cc (can.1)

none_announced_first : CanTake 3 (holding []) (Tell (Sync 1)) → ⊥
none_announced_first (inl is) = cc is
none_announced_first (inr is) = omega (arith, is)
