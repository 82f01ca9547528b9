-- What the code answers of a P0 element, before it touches the return stack.
use Rattle.std.specs.Prelude.{◌≡◌, ◌&&◌, ◌+◌, ◌-◌, ℕ, Bool, List, Option, Some, None, slice_get}
use Rattle.program_image.specs.declared.image.Image.{Image}
use Rattle.program_image.specs.declared.run.PlacedRun.{PlacedRun}
use Rattle.program_image.specs.Blocks.{behind, class_at}
use Rattle.program_image.specs.Places.{word_addresses}
use Rattle.program_image.specs.Runs.{IsRun, class_behind, run_of}
use Rattle.etm_types.specs.declared.element.P0.{P0}
use Rattle.etm_types.specs.declared.element.P0.TheVariants.{Atom}
use Rattle.a64_branches.specs.declared.class.Class.{Class}
use Rattle.path_walker.specs.declared.leg.Leg.{Leg}
use Rattle.path_walker.specs.declared.pc.Pc.{Pc}
use Rattle.path_walker.specs.State.{IsAligned, IsPc}
use Rattle.path_walker.specs.Steps.{linked, next_of, stack_after}
use Rattle.path_walker.specs.Walk.{Leads, ToldIsAligned, is_cond, is_to_register, takes}

-- a P0 element leads there from an address that is known or not, whatever the return addresses are
abbrev pub IsLeg : Image → Option ℕ → P0 → Leg → Type 0
IsLeg image at p0 leg = (stack : List ℕ) → Leads image at stack p0 leg.count leg.next (linked leg.link stack)

-- where a word at an address goes on by an atom, and what return addresses it leaves; nowhere, where none begins there
abbrev pub next_by : Option Class → ℕ → Bool → Option Pc
next_by None address taken = None
next_by (Some class) address taken = next_of class address taken

abbrev pub stack_by : Option Class → ℕ → List ℕ → List ℕ
stack_by None address stack = stack
stack_by (Some class) address stack = stack_after class address stack

-- the addresses in a leg are those of instructions
abbrev pub IsAlignedLeg : Leg → Type 0
IsAlignedLeg leg = IsPc leg.next × ToldIsAligned leg.link

-- an atom executes plain words that were looked up and the word behind them, which stands at an address, and leads there
pub record IsLegBehind (placed : PlacedRun) (address : ℕ) (taken : Bool) (leg : Leg) : Type 0 where
  pub next : next_by (class_behind placed.run.behind) address taken ≡ Some leg.next
  pub link : (stack : List ℕ) → linked leg.link stack ≡ stack_by (class_behind placed.run.behind) address stack
  pub took : leg.took ≡ taken && is_cond (class_behind placed.run.behind)
  pub register : leg.to_register ≡ is_to_register (class_behind placed.run.behind)
  pub count : leg.count ≡ placed.run.plain + 1
  pub place : leg.place ≡ placed.place
  pub aligned : IsAlignedLeg leg

-- a run of words that was looked up stands at an address, at which an instruction may begin
pub record IsRunAt (image : Image) (address : ℕ) (placed : PlacedRun) : Type 0 where
  pub aligned : IsAligned address
  pub run : IsRun image address (run_of placed.run)
  pub place : slice_get (word_addresses image) placed.place ≡ Some address

-- an atom leads there from an address; the leg has the place of the first instruction, and says of what kind the last one is
pub record IsLegOfAtom (image : Image) (address : ℕ) (taken : Bool) (leg : Leg) : Type 0 where
  pub leads : IsLeg image (Some address) (Atom taken) leg
  pub took : leg.took ≡ takes image (Some address) (Atom taken) leg.count
  pub placed : slice_get (word_addresses image) leg.place ≡ Some address
  pub register : leg.to_register ≡ is_to_register (class_at image (behind address (leg.count - 1)))
  pub aligned : IsAlignedLeg leg
