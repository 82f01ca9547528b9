-- Atoms are walked one after the other, and their stretches taken.
use Rattle.std.proofs.Common.{◌≡◌, ℕ, ◌-◌, ◌/◌, ◌%◌, ◌^◌, ◌<◌, ◌≤◌, ◌+◌, Bool, List, [], ◌∷◌, ◌++◌, Option, None, refl, subst, ◌∙◌, arith}
use Rattle.std.specs.Prelude.{◌==◌}
use Rattle.etm_types.specs.Atoms.{low_bits}
use Rattle.etm_types.specs.declared.context.Ctx.{Ctx}
use Rattle.path_walker.specs.State.{IsState, State}
use Rattle.path_walker.specs.Together.{WalksInto}
use Rattle.path_walker.specs.Walk.{WalksRun, given_before}
use Rattle.path_walker.specs.declared.stretch.Stretch.{Stretch}
use Rattle.path_walker.proofs.AtomRuns.{none_before, run_behind_none, run_joined, run_of_more, run_of_none}
use Rattle.program_image.specs.declared.image.Image.{Image}

module _ {V : Type 0} (Takes : Ctx → V → List Stretch → V → Type 0) (none : (ctx : Ctx) (v : V) → Takes ctx v [] v)
    (joins : (ctx : Ctx) (a b c : V) (xs ys : List Stretch) → Takes ctx a xs b → Takes ctx b ys c → Takes ctx a (xs ++ ys) c) (room : V → ℕ)
    (Begun : Ctx → V → Type 0) (image : Image) where
  -- none of them is walked
  pub into_none : (s : State) (addr : Option ℕ) (atoms : List Bool) (v : V) → Begun s.ctx v → IsState s
      → WalksInto Takes room Begun image s addr atoms v 0 s v
  into_none s addr atoms v begun state =
      record { run = run_of_none Takes none joins image s addr atoms v; space = omega arith; begun = begun; context = refl; state = state }

  -- of more atoms
  pub into_more : (s s' : State) (addr : Option ℕ) (few count bits n : ℕ) (old new : V) → few ≤ count
      → WalksInto Takes room Begun image s addr (low_bits few bits) old n s' new → WalksInto Takes room Begun image s addr (low_bits count bits) old n s' new
  into_more s s' addr few count bits n old new within walks =
      record {
        run = run_of_more Takes none joins image s.ctx s s' addr few count bits n old new within walks.run;
        space = walks.space;
        begun = walks.begun;
        context = walks.context;
        state = walks.state;
      }

  -- and behind them of those that are left
  pub into_joined : (s mid s' : State) (addr : Option ℕ) (count bits n m : ℕ) (old between new : V) → n ≤ count → given_before n addr ≡ None
      → WalksInto Takes room Begun image s addr (low_bits count bits) old n mid between
      → WalksInto Takes room Begun image mid None (low_bits (count - n) (bits / 2 ^ n)) between m s' new
      → WalksInto Takes room Begun image s addr (low_bits count bits) old (n + m) s' new
  into_joined s mid s' addr count bits n m old between new within first walks more =
      record {
        run = run_joined Takes none joins image s mid s' addr count bits n m old between new within first walks.context walks.run more.run;
        space = omega (arith, walks.space, more.space);
        begun = subst (λ (c : Ctx). Begun c new) walks.context more.begun;
        context = more.context ∙ walks.context;
        state = more.state;
      }

  -- one atom more, the lowest of the bits that are left
  pub into_one_more : (s mid next : State) (most bits left n : ℕ) (old between new : V) → n < most → left ≡ bits / 2 ^ n
      → WalksInto Takes room Begun image s None (low_bits most bits) old n mid between
      → WalksInto Takes room Begun image mid None ((left % 2 == 1) ∷ []) between 1 next new
      → WalksInto Takes room Begun image s None (low_bits most bits) old (n + 1) next new
  into_one_more s mid next most bits left n old between new within is walks one =
      into_joined s mid next None most bits n 1 old between new (omega (arith, within)) (none_before n) walks
      (into_more mid next None 1 (most - n) (bits / 2 ^ n) 1 between new (omega (arith, within))
      (subst (λ (b : ℕ). WalksInto Takes room Begun image mid None ((b % 2 == 1) ∷ []) between 1 next new) is one))

  -- where none was taken before them
  pub run_begun : (s s' : State) (addr : Option ℕ) (atoms : List Bool) (n : ℕ) (old mid new : V) → Takes s.ctx old [] mid
      → WalksInto Takes room Begun image s addr atoms mid n s' new → WalksRun (Takes s.ctx) image s addr atoms old n s' new
  run_begun s s' addr atoms n old mid new first walks =
      run_behind_none Takes none joins image s.ctx s s' addr atoms n old mid new first walks.run
