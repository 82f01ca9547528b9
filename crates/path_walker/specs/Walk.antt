-- The walk of one entry over an image: what it shows and the state after it, or the fault with which it stops (Arm IHI 0064,
-- "Descriptions of Trace Elements": the atom and exception elements). Which faults there are is this project's own choice.
use Rattle.std.specs.Prelude.{◌≡◌, ◌≢◌, ◌⊎◌, ℕ, zero, suc, ◌+◌, ◌-◌, ◌<◌, Bool, true, false, ◌&&◌}
use Rattle.std.specs.Prelude.{if◌then◌else◌, All, List, [], ◌∷◌, ◌++◌, length, Option, Some, None, is_none, slice_get, Result, Ok, Err, ⊤}
use Rattle.std.specs.Option.{unwrap_or}
use Rattle.a64_branches.specs.declared.class.Class.{Class}
use Rattle.a64_branches.specs.declared.class.Class.TheVariants.{Cond, Ind, Plain, Odd}
use Rattle.program_image.specs.Blocks.{class_at, behind, IsPlainRun}
use Rattle.program_image.specs.Places.{AreWords, word_addresses}
use Rattle.program_image.specs.declared.image.Image.{Image}
use Rattle.etm_types.specs.declared.element.P0.{P0}
use Rattle.etm_types.specs.declared.element.P0.TheVariants.{Atom, Exc}
use Rattle.etm_types.specs.declared.element.Entry.{Entry}
use Rattle.etm_types.specs.Pre.{nothing_told}
use Rattle.etm_types.specs.declared.walked.Walked.{Walked}
use Rattle.etm_types.specs.declared.walked.ExcMark.{ExcMark}
use Rattle.etm_types.specs.Walked.{items_of}
use Rattle.etm_types.specs.declared.item.Item.{Item}
use Rattle.etm_types.specs.declared.walk_fault.WalkFault.{WalkFault}
use Rattle.etm_types.specs.declared.walk_fault.WalkFault.TheVariants as fault
use Rattle.etm_types.specs.declared.context.Ctx.{Ctx}
use Rattle.path_walker.specs.declared.stretch.Stretch.{Stretch}
use Rattle.path_walker.specs.declared.pc.Pc.{Pc}
use Rattle.path_walker.specs.declared.pc.Pc.TheVariants.{Awaited, Lost}
use Rattle.path_walker.specs.State.{State, IsAligned, IsState}
use Rattle.path_walker.specs.Start.{pc_before, context_of, mismatch_of, start_of}
use Rattle.path_walker.specs.Steps.{next_of, stack_after}

-- ---- an atom: plain words, and the P0 instruction after them

-- so many instructions are executed from an address on, and the last one goes on at pc
pub record GoesOn (image : Image) (address : ℕ) (stack : List ℕ) (taken : Bool) (count : ℕ) (pc : Pc) (after : List ℕ) : Type 0 where
  pub plain : ℕ
  pub class : Class
  pub run : IsPlainRun image address plain
  pub there : class_at image (behind address plain) ≡ Some class
  pub next : next_of class (behind address plain) taken ≡ Some pc
  pub counted : count ≡ plain + 1
  pub kept : after ≡ stack_after class (behind address plain) stack

-- no instruction that fits the atom stands at an address
abbrev pub Refuses : Option Class → ℕ → Bool → WalkFault → Type 0
Refuses None address taken f = f ≡ fault.NoCode address
Refuses (Some Plain) address taken f = ⊥
Refuses (Some Odd) address taken f = f ≡ fault.Odd address
Refuses (Some class) address taken f = (next_of class address taken ≡ None) × (f ≡ fault.BadAtom address)

-- ---- an exception: plain words up to its preferred return address

-- the n words from an address on are plain, and none of them stands at the return address
abbrev pub IsRunBefore : Image → ℕ → ℕ → ℕ → Type 0
IsRunBefore image ret address n = (k : ℕ) → k < n → (behind address k ≢ ret) × (class_at image (behind address k) ≡ Some Plain)

-- no plain word stands at an address, which is not yet the return address
abbrev pub Misses : Option Class → ℕ → ℕ → WalkFault → Type 0
Misses None address ret f = f ≡ fault.NoCode address
Misses (Some Plain) address ret f = ⊥
Misses (Some Odd) address ret f = f ≡ fault.Odd address
Misses (Some class) address ret f = f ≡ fault.ReturnMissed address ret

-- ---- a P0 element

-- From an address that is known or not, with these return addresses, so many instructions are shown, and the walk goes on at pc
-- with others. After an exception the address is awaited, and is not taken off the return stack.
abbrev pub Leads : Image → Option ℕ → List ℕ → P0 → ℕ → Pc → List ℕ → Type 0
Leads image None stack (Atom taken) count pc after = (count ≡ 0) × (pc ≡ Lost) × (after ≡ stack)
Leads image None stack (Exc kind ret) count pc after = (count ≡ 0) × (pc ≡ Awaited false) × (after ≡ stack)
Leads image (Some address) stack (Atom taken) count pc after = GoesOn image address stack taken count pc after
Leads image (Some address) stack (Exc kind ret) count pc after =
    IsRunBefore image ret address count × (behind address count ≡ ret) × (pc ≡ Awaited false) × (after ≡ stack)

-- the walk from there stops
abbrev pub Halts : Image → Option ℕ → P0 → WalkFault → Type 0
Halts image None p0 f = ⊥
Halts image (Some address) (Atom taken) f =
    (n : ℕ) × IsPlainRun image address n × Refuses (class_at image (behind address n)) (behind address n) taken f
Halts image (Some address) (Exc kind ret) f =
    (n : ℕ) × IsRunBefore image ret address n × (behind address n ≢ ret) × Misses (class_at image (behind address n)) (behind address n) ret f

-- ---- an entry

abbrev pub mark_of : P0 → Option ExcMark
mark_of (Atom taken) = None
mark_of (Exc kind ret) = Some (record { kind = kind; ret = ret })

abbrev pub is_cond : Option Class → Bool
is_cond (Some (Cond offset)) = true
is_cond class = false

abbrev pub is_to_register : Option Class → Bool
is_to_register (Some (Ind link)) = true
is_to_register class = false

-- of so many instructions from an address on the element takes the last: it is an atom E, and that one is a conditional branch
abbrev pub takes : Image → Option ℕ → P0 → ℕ → Bool
takes image (Some address) (Atom taken) count = taken && is_cond (class_at image (behind address (count - 1)))
takes image at p0 count = false

-- an atom before which nothing was given but, where there is one, an address
abbrev pub atom_at : Option ℕ → Bool → Entry
atom_at addr taken = record { pre = record nothing_told { addr = addr }; p0 = Atom taken }

-- the instructions of an atom that shows nothing else, in a context
abbrev pub walked_in : Ctx → Stretch → Walked
walked_in ctx stretch = record {
  on = false;
  unknown = false;
  ctx = ctx;
  start = stretch.start;
  count = stretch.count;
  took = stretch.took;
  exc = None;
}

-- it has some words; the first has this place among all words of the image, and the last is a branch to a register where it says so
pub record IsPlaced (image : Image) (stretch : Stretch) : Type 0 where
  pub some : 0 < stretch.count
  pub place : slice_get (word_addresses image) stretch.place ≡ Some stretch.start
  pub last : stretch.to_register ≡ is_to_register (class_at image (behind stretch.start (stretch.count - 1)))

-- the items of atoms that show nothing else, one after the other
abbrev pub items_in : Ctx → List Stretch → List Item
items_in ctx [] = []
items_in ctx (stretch ∷ run) = items_of (walked_in ctx stretch) ++ items_in ctx run

-- the entry is walked
pub record Shows (image : Image) (s : State) (entry : Entry) (walked : Walked) (after : State) : Type 0 where
  pub agrees : mismatch_of (pc_before s entry.pre) entry.pre.addr ≡ None
  pub leads : Leads image (start_of s entry.pre).at (start_of s entry.pre).stack entry.p0 walked.count after.pc after.stack
  pub on : walked.on ≡ entry.pre.on
  pub unknown : walked.unknown ≡ is_none (start_of s entry.pre).at
  pub start : walked.start ≡ unwrap_or (start_of s entry.pre).at 0
  pub ctx : walked.ctx ≡ context_of s entry.pre
  pub kept : after.ctx ≡ context_of s entry.pre
  pub exc : walked.exc ≡ mark_of entry.p0
  pub took : walked.took ≡ takes image (start_of s entry.pre).at entry.p0 walked.count

-- the entry stops
abbrev pub Stops : Image → State → Entry → WalkFault → Type 0
Stops image s entry f =
    (mismatch_of (pc_before s entry.pre) entry.pre.addr ≡ Some f)
    ⊎ ((mismatch_of (pc_before s entry.pre) entry.pre.addr ≡ None) × Halts image (start_of s entry.pre).at entry.p0 f)

-- no stretch of instructions is the entry's: the address at which it begins is not known, or the entry stops
abbrev pub HasNoStretch : Image → State → Entry → Type 0
HasNoStretch image s entry = ((start_of s entry.pre).at ≡ None) ⊎ ((f : WalkFault) × Stops image s entry f)

-- the walk of an entry: it shows something and goes on from a state, or it stops with a fault
abbrev pub IsWalk : Image → State → Entry → Result (Walked × State) WalkFault → Type 0
IsWalk image s entry (Ok w) = Shows image s entry w.0 w.1
IsWalk image s entry (Err f) = Stops image s entry f

-- the addresses in an entry are those of instructions
abbrev pub ReturnIsAligned : P0 → Type 0
ReturnIsAligned (Atom taken) = ⊤
ReturnIsAligned (Exc kind ret) = IsAligned ret

abbrev pub ToldIsAligned : Option ℕ → Type 0
ToldIsAligned None = ⊤
ToldIsAligned (Some address) = IsAligned address

abbrev pub HasAlignedAddresses : Entry → Type 0
HasAlignedAddresses entry = ToldIsAligned entry.pre.addr × ReturnIsAligned entry.p0

-- ---- atoms

-- Atoms are walked one after the other, before the first of which this address was given, where one was, and nothing before the others:
-- these are the stretches of the first of them, and the walk goes on from a state.
abbrev pub WalksAtoms : Image → State → Option ℕ → List Bool → List Stretch → State → Type 0
WalksAtoms image s addr atoms [] s' = s' ≡ s
WalksAtoms image s addr [] (stretch ∷ run) s' = ⊥
WalksAtoms image s addr (taken ∷ atoms) (stretch ∷ run) s' =
    (next : State) × Shows image s (atom_at addr taken) (walked_in s.ctx stretch) next × IsState next × WalksAtoms image next None atoms run s'

-- the stretches of so many of them were taken, one after the other
pub record WalksRun {V : Type 0} (Takes : V → List Stretch → V → Type 0) (image : Image) (s : State) (addr : Option ℕ) (atoms : List Bool) (old : V)
    (n : ℕ) (s' : State) (new : V) : Type 0 where
  pub added : List Stretch
  pub takes : Takes old added new
  pub count : length added ≡ n
  pub walks : WalksAtoms image s addr atoms added s'
  pub placed : All (IsPlaced image) added

-- what is given before the atom at n, counted from 0: this address, where it is the first one and there is an address, else nothing
abbrev pub given_before : ℕ → Option ℕ → Option ℕ
given_before zero addr = addr
given_before (suc n) addr = None

-- n of them were walked up to a state, and no more can be: where there is another, and there was room for it, it has no stretch there
abbrev pub WalksNoMore : Image → State → Option ℕ → List Bool → ℕ → ℕ → Type 0
WalksNoMore image s' addr atoms n room =
    (taken : Bool) → slice_get atoms n ≡ Some taken → n < room → HasNoStretch image s' (atom_at (given_before n addr) taken)

-- ---- words

-- so many words of an image from an address on, of which so many are plain, and the last is a conditional branch where it was taken
pub record AreWalked (image : Image) (start count plain : ℕ) (taken : Bool) : Type 0 where
  pub words : AreWords image start count
  pub run : IsPlainRun image start plain
  pub cond : taken ≡ true → is_cond (class_at image (behind start (count - 1))) ≡ true

-- All instructions of an atom but the last are plain, and so are all before an exception.
abbrev pub ShowsWords : Image → Walked → Type 0
ShowsWords image walked =
    walked.unknown ≡ false
    → AreWalked image walked.start walked.count (if is_none walked.exc then walked.count - 1 else walked.count) walked.took

-- the same of the stretch of an atom, with its place
abbrev pub IsStretchOfWords : Image → Stretch → Type 0
IsStretchOfWords image stretch =
    AreWalked image stretch.start stretch.count (stretch.count - 1) stretch.took × IsPlaced image stretch
