-- What orders tell where each is written at once: the elements, in their order.
use Rattle.std.specs.Prelude.{ℕ, zero, suc, Bool, List, [], ◌∷◌, ◌++◌, Option}
use Rattle.etm_types.specs.declared.context.Ctx.{Ctx}
use Rattle.etm_types.specs.declared.element.Elem.{Elem}
use Rattle.etm_types.specs.declared.element.Elem.TheVariants as elem
use Rattle.etm_types.specs.declared.element.P0.TheVariants as p0
use Rattle.spec_run.specs.Runs.{ByOff, ByOverflow, Closing}
use Rattle.trace_unit.specs.Orders.{Address, Branch, Cancel, Close, Context, Exception, ExceptionAtTarget, Flip, Notice, On, Order, Place, Retire}
use Rattle.trace_unit.specs.Orders.{Settle, Start, Sync, Tell, target_notice}

abbrev pub notice_elements : Notice → List Elem
notice_elements (Sync announced) = elem.Info announced ∷ []
notice_elements On = elem.On ∷ []
notice_elements (Start addr ctx) = elem.Ctx ctx ∷ elem.Addr addr ∷ []
notice_elements (Place addr ctx) = elem.Ctx ctx ∷ elem.Addr addr ∷ []
notice_elements (Address addr) = elem.Addr addr ∷ []
notice_elements (Context ctx) = elem.Ctx ctx ∷ []

-- none are neither committed nor cancelled
abbrev pub commits_of : ℕ → List Elem
commits_of zero = []
commits_of (suc n) = elem.Commit (suc n) ∷ []

abbrev pub cancels_of : ℕ → List Elem
cancels_of zero = []
cancels_of (suc n) = elem.Cancel (suc n) ∷ []

abbrev pub atom_element : Bool → Elem
atom_element taken = elem.P0 (p0.Atom taken)

abbrev pub closing_element : Closing → Elem
closing_element ByOverflow = elem.Overflow
closing_element ByOff = elem.Discard

-- the address stands before the exception, so that a cancel of the exception leaves it
abbrev pub target_elements : Option Ctx → ℕ → ℕ → List Elem
target_elements context kind addr = notice_elements (target_notice context addr) ++ elem.P0 (p0.Exc kind addr) ∷ []

abbrev pub told : Order → List Elem
told (Tell notice) = notice_elements notice
told (Branch taken) = atom_element taken ∷ []
told (Exception kind ret) = elem.P0 (p0.Exc kind ret) ∷ []
told (ExceptionAtTarget context kind addr) = target_elements context kind addr
told (Retire n) = commits_of n
told (Cancel n) = cancels_of n
told Flip = elem.Flip ∷ []
told Settle = []
told (Close closing) = closing_element closing ∷ []

abbrev pub all_told : List Order → List Elem
all_told [] = []
all_told (order ∷ orders) = told order ++ all_told orders
