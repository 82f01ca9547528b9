-- Atoms that are walked one after the other, where what takes their stretches was told the context before.
use Rattle.std.specs.Prelude.{◌≡◌, ℕ, ◌+◌, ◌≤◌, Bool, true, false, List, [], ◌∷◌, Option}
use Rattle.etm_types.specs.declared.context.Ctx.{Ctx}
use Rattle.path_walker.specs.State.{State, IsState}
use Rattle.path_walker.specs.Walk.{WalksRun}
use Rattle.path_walker.specs.declared.stretch.Stretch.{Stretch}
use Rattle.program_image.specs.declared.image.Image.{Image}

-- So many of the atoms are walked, and something took their stretches: it has the rest of its room, and is told the context still, in which the
-- walk goes on.
pub record WalksInto {V : Type 0} (Takes : Ctx → V → List Stretch → V → Type 0) (room : V → ℕ) (Begun : Ctx → V → Type 0) (image : Image) (s : State)
    (addr : Option ℕ) (atoms : List Bool) (old : V) (n : ℕ) (s' : State) (new : V) : Type 0 where
  pub run : WalksRun (Takes s.ctx) image s addr atoms old n s' new
  pub space : room old ≤ room new + n
  pub begun : Begun s.ctx new
  pub context : s'.ctx ≡ s.ctx
  pub state : IsState s'

-- the one atom is walked where the answer says so, and else nothing changes
pub record WalksOneInto {V : Type 0} (Takes : Ctx → V → List Stretch → V → Type 0) (room : V → ℕ) (Begun : Ctx → V → Type 0) (image : Image) (s : State)
    (addr : Option ℕ) (taken : Bool) (old : V) (walked : Bool) (s' : State) (new : V) : Type 0 where
  pub walks : walked ≡ true → WalksInto Takes room Begun image s addr (taken ∷ []) old 1 s' new
  pub unchanged : walked ≡ false → (s' ≡ s) × (new ≡ old)
  pub state : IsState s'
