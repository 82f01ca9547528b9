-- The walk of one atom before which nothing was given but, where there is one, an address.
use Rattle.std.specs.Prelude.{◌≡◌, ℕ, Bool, Option}
use Rattle.path_walker.specs.State.{IsState, State}
use Rattle.path_walker.specs.Walk.{IsPlaced, Shows, atom_at, walked_in}
use Rattle.path_walker.specs.declared.stretch.Stretch.{Stretch}
use Rattle.program_image.specs.declared.image.Image.{Image}

-- the atom is walked: this is its stretch, and the walk goes on from a state
pub record WalksOneAtom (image : Image) (s : State) (addr : Option ℕ) (taken : Bool) (stretch : Stretch) (s' : State) : Type 0 where
  pub shows : Shows image s (atom_at addr taken) (walked_in s.ctx stretch) s'
  pub placed : IsPlaced image stretch
  pub state : IsState s'

-- nothing but the return addresses changes
pub record ChangesReturns (s s' : State) : Type 0 where
  pub pc : s'.pc ≡ s.pc
  pub context : s'.ctx ≡ s.ctx
  pub state : IsState s'
