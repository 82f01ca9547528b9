-- Atoms of a run are walked one after the other.
use Rattle.std.proofs.Common.{◌≡◌, ℕ, zero, suc, ◌-◌, ◌/◌, ◌%◌, ◌^◌, ◌<◌, ◌≤◌, ◌+◌, Bool, List, [], ◌∷◌, ◌++◌, length, drop, slice_get}
use Rattle.std.proofs.Common.{Option, Some, None, refl, sym, ap, subst, ◌∙◌, arith, length-append}
use Rattle.std.specs.Prelude.{◌==◌}
use Rattle.std.proofs.Math.Nat.{div-one}
use Rattle.std.proofs.lemmas.List.Elements.{All-append, All-nil}
use Rattle.std.proofs.lemmas.Nat.{shr-shr}
use Rattle.std.proofs.lemmas.Option.{slice_get_within}
use Rattle.etm_types.specs.Atoms.{low_bits}
use Rattle.etm_types.specs.declared.context.Ctx.{Ctx}
use Rattle.path_walker.specs.State.{State, standing}
use Rattle.path_walker.specs.Walk.{HasNoStretch, IsPlaced, WalksAtoms, WalksNoMore, WalksRun, atom_at, given_before}
use Rattle.path_walker.specs.declared.pc.Pc.{Pc}
use Rattle.path_walker.specs.declared.stretch.Stretch.{Stretch}
use Rattle.program_image.specs.declared.image.Image.{Image}

pub same_standing : (s : State) (pc : Pc) → s.pc ≡ pc → standing pc s ≡ s
same_standing s pc is k = record { pc = sym is k; stack = s.stack; ctx = s.ctx }

-- ---- atoms behind atoms that were walked

-- more of them change nothing
walks_of_more : (image : Image) (s s' : State) (addr : Option ℕ) (atoms more : List Bool) (run : List Stretch) → WalksAtoms image s addr atoms run s'
    → WalksAtoms image s addr (atoms ++ more) run s'
walks_of_more image s s' addr [] more [] walks = walks
walks_of_more image s s' addr [] more (x ∷ run) walks = absurd walks
walks_of_more image s s' addr (t ∷ atoms) more [] walks = walks
walks_of_more image s s' addr (t ∷ atoms) more (x ∷ run) (next, shows, state, rest) =
    (next, shows, state, walks_of_more image next s' None atoms more run rest)

pub none_before : (n : ℕ) → given_before n None ≡ None
none_before zero = refl
none_before (suc n) = refl

-- those that are left are walked from where the first ones lead
walks_joined : (image : Image) (s mid s' : State) (addr : Option ℕ) (atoms : List Bool) (run more : List Stretch)
    → WalksAtoms image s addr atoms run mid → WalksAtoms image mid None (drop (length run) atoms) more s' → given_before (length run) addr ≡ None
    → WalksAtoms image s addr atoms (run ++ more) s'
walks_joined image s mid s' addr atoms [] more walks rest none =
    subst (λ (a : Option ℕ). WalksAtoms image s a atoms more s') (sym none) (subst (λ (m : State). WalksAtoms image m None atoms more s') walks rest)
walks_joined image s mid s' addr [] (x ∷ run) more walks rest none = absurd walks
walks_joined image s mid s' addr (t ∷ atoms) (x ∷ run) more (next, shows, state, walks) rest none =
    (next, shows, state, walks_joined image next mid s' None atoms run more walks rest (none_before (length run)))

-- ---- atoms as bits

half_of : (n bits : ℕ) → bits / 2 / 2 ^ n ≡ bits / 2 ^ suc n
half_of n bits = let same : 1 + n ≡ suc n = omega arith in shr-shr bits 1 n ∙ ap (λ (j : ℕ). bits / 2 ^ j) same

-- those that are left behind n atoms
drop_bits : (n count bits : ℕ) → n ≤ count → drop n (low_bits count bits) ≡ low_bits (count - n) (bits / 2 ^ n)
drop_bits zero count bits within =
    let all : count ≡ count - 0 = omega arith in ap (low_bits count) (sym (div-one bits)) ∙ ap (λ (k : ℕ). low_bits k (bits / 1)) all
drop_bits (suc n) zero bits within = absurd (omega (arith, within))
drop_bits (suc n) (suc count) bits within =
    let left : count - n ≡ suc count - suc n = omega arith in
    drop_bits n count (bits / 2) (omega (arith, within)) ∙ ap (low_bits (count - n)) (half_of n bits)
    ∙ ap (λ (k : ℕ). low_bits k (bits / 2 ^ suc n)) left

-- the atom at n
bit_at : (n count bits : ℕ) (taken : Bool) → slice_get (low_bits count bits) n ≡ Some taken → (bits / 2 ^ n % 2 == 1) ≡ taken
bit_at n zero bits taken there = absurd cc
bit_at zero (suc count) bits taken there =
    let first : (bits % 2 == 1) ≡ taken = cc in ap (λ (b : ℕ). b % 2 == 1) (div-one bits) ∙ first
bit_at (suc n) (suc count) bits taken there =
    ap (λ (b : ℕ). b % 2 == 1) (sym (half_of n bits)) ∙ bit_at n count (bits / 2) taken there

-- fewer bits have the first of the atoms
first_bits : (few count bits : ℕ) → few ≤ count → (more : List Bool) × (low_bits count bits ≡ low_bits few bits ++ more)
first_bits zero count bits within = (low_bits count bits, refl)
first_bits (suc few) zero bits within = absurd (omega (arith, within))
first_bits (suc few) (suc count) bits within =
    let rest = first_bits few count (bits / 2) (omega (arith, within)) in
    (rest.0, ap (λ (atoms : List Bool). (bits % 2 == 1) ∷ atoms) rest.1)

low_bits_length : (count bits : ℕ) → length (low_bits count bits) ≡ count
low_bits_length zero bits = refl
low_bits_length (suc count) bits = ap suc (low_bits_length count (bits / 2))

-- ---- runs

module _ {V : Type 0} (Takes : Ctx → V → List Stretch → V → Type 0) (none : (ctx : Ctx) (v : V) → Takes ctx v [] v)
    (joins : (ctx : Ctx) (a b c : V) (xs ys : List Stretch) → Takes ctx a xs b → Takes ctx b ys c → Takes ctx a (xs ++ ys) c) where
  pub run_of_none : (image : Image) (s : State) (addr : Option ℕ) (atoms : List Bool) (v : V) → WalksRun (Takes s.ctx) image s addr atoms v 0 s v
  run_of_none image s addr [] v =
      record { added = []; takes = none s.ctx v; count = refl; walks = refl; placed = All-nil (IsPlaced image) }
  run_of_none image s addr (t ∷ atoms) v =
      record { added = []; takes = none s.ctx v; count = refl; walks = refl; placed = All-nil (IsPlaced image) }

  -- of more atoms
  pub run_of_more : (image : Image) (ctx : Ctx) (s s' : State) (addr : Option ℕ) (few count bits n : ℕ) (old new : V) → few ≤ count
      → WalksRun (Takes ctx) image s addr (low_bits few bits) old n s' new → WalksRun (Takes ctx) image s addr (low_bits count bits) old n s' new
  run_of_more image ctx s s' addr few count bits n old new within walked =
      let first = first_bits few count bits within in
      record {
        added = walked.added;
        takes = walked.takes;
        count = walked.count;
        walks = subst (λ (atoms : List Bool). WalksAtoms image s addr atoms walked.added s') (sym first.1)
            (walks_of_more image s s' addr (low_bits few bits) first.0 walked.added walked.walks);
        placed = walked.placed;
      }

  -- the same, where nothing was taken before
  pub run_behind_none : (image : Image) (ctx : Ctx) (s s' : State) (addr : Option ℕ) (atoms : List Bool) (n : ℕ) (old mid new : V)
      → Takes ctx old [] mid → WalksRun (Takes ctx) image s addr atoms mid n s' new → WalksRun (Takes ctx) image s addr atoms old n s' new
  run_behind_none image ctx s s' addr atoms n old mid new first run =
      record { added = run.added; takes = joins ctx old mid new [] run.added first run.takes; count = run.count; walks = run.walks; placed = run.placed }

  -- and behind them of those that are left
  pub run_joined : (image : Image) (s mid s' : State) (addr : Option ℕ) (count bits n m : ℕ) (old between new : V) → n ≤ count
      → given_before n addr ≡ None → mid.ctx ≡ s.ctx → WalksRun (Takes s.ctx) image s addr (low_bits count bits) old n mid between
      → WalksRun (Takes mid.ctx) image mid None (low_bits (count - n) (bits / 2 ^ n)) between m s' new
      → WalksRun (Takes s.ctx) image s addr (low_bits count bits) old (n + m) s' new
  run_joined image s mid s' addr count bits n m old between new within none same first rest =
      let left : low_bits (count - n) (bits / 2 ^ n) ≡ drop (length first.added) (low_bits count bits) =
      sym (drop_bits n count bits within) ∙ ap (λ (k : ℕ). drop k (low_bits count bits)) (sym first.count) in
      record {
        added = first.added ++ rest.added;
        takes = joins s.ctx old between new first.added rest.added first.takes
            (subst (λ (c : Ctx). Takes c between rest.added new) same rest.takes);
        count = omega (arith, length-append first.added rest.added, first.count, rest.count);
        walks = walks_joined image s mid s' addr (low_bits count bits) first.added rest.added first.walks
            (subst (λ (atoms : List Bool). WalksAtoms image mid None atoms rest.added s') left rest.walks)
            (ap (λ (k : ℕ). given_before k addr) first.count ∙ none);
        placed = All-append (IsPlaced image) first.added rest.added first.placed rest.placed;
      }

-- the bits that are left behind one more
pub next_left : (bits left n : ℕ) → left ≡ bits / 2 ^ n → left / 2 ≡ bits / 2 ^ (n + 1)
next_left bits left n is = ap (λ (b : ℕ). b / 2) is ∙ shr-shr bits n 1

-- ---- where no more are walked

-- the first atom, where an address was given
pub no_more_first : (image : Image) (s : State) (addr : Option ℕ) (most count bits room : ℕ) → (0 < count → 0 < room → 0 < most)
    → (0 < most → HasNoStretch image s (atom_at addr (bits % 2 == 1)))
    → WalksNoMore image s addr (low_bits count bits) 0 room
no_more_first image s addr most zero bits room some none taken there short = absurd cc
no_more_first image s addr most (suc count) bits room some none taken there short =
    let first : (bits % 2 == 1) ≡ taken = cc in
    subst (λ (t : Bool). HasNoStretch image s (atom_at addr t)) first (none (some (omega arith) short))

behind_none : (n m : ℕ) (addr : Option ℕ) → given_before n addr ≡ None → given_before (n + m) addr ≡ None
behind_none zero m addr none = ap (given_before (0 + m)) none ∙ none_before (0 + m)
behind_none (suc n) m addr none = let more : suc n + m ≡ suc (n + m) = omega arith in ap (λ (k : ℕ). given_before k addr) more

-- those behind n atoms and m more
pub no_more_behind : (image : Image) (s' : State) (addr : Option ℕ) (most count bits n m room : ℕ) → given_before n addr ≡ None
    → (n + m < count → n + m < room → n + m < most)
    → (m < most - n → HasNoStretch image s' (atom_at None (bits / 2 ^ n / 2 ^ m % 2 == 1))) → WalksNoMore image s' addr (low_bits count bits) (n + m) room
no_more_behind image s' addr most count bits n m room first some none taken there short =
    let within : n + m < count = omega (arith, slice_get_within (low_bits count bits) (n + m) taken there, low_bits_length count bits) in
    let below : m < most - n = let lt = some within short in omega (arith, lt) in
    let bit : (bits / 2 ^ n / 2 ^ m % 2 == 1) ≡ taken = ap (λ (b : ℕ). b % 2 == 1) (shr-shr bits n m) ∙ bit_at (n + m) count bits taken there in
    subst (λ (t : Bool). HasNoStretch image s' (atom_at (given_before (n + m) addr) t)) bit
    (subst (λ (a : Option ℕ). HasNoStretch image s' (atom_at a (bits / 2 ^ n / 2 ^ m % 2 == 1))) (sym (behind_none n m addr first)) (none below))

-- as many as there are, or as there was room for
pub no_more_left : (image : Image) (s' : State) (addr : Option ℕ) (count bits n room : ℕ) → (n < count → n < room → ⊥)
    → WalksNoMore image s' addr (low_bits count bits) n room
no_more_left image s' addr count bits n room all taken there short =
    let within : n < count = omega (arith, slice_get_within (low_bits count bits) n taken there, low_bits_length count bits) in absurd (all within short)
