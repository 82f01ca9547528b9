-- Where branches to a register went: pairs of the address of a branch and of the one that it went to, and how often each came.
use Rattle.std.specs.Prelude.{ℕ, ◌+◌, ◌%◌, ◌^◌, ◌==◌, ◌&&◌, ◌||◌, ◌≡◌, ⊤, Bool, true, not, All, nat_lt, bit_and, if◌then◌else◌, List, [], ◌∷◌, length, map}
use Rattle.std.specs.List.{list_any}
use Rattle.path_counts.specs.declared.targets.Target.{Target}
use Rattle.path_counts.specs.Levels.{one_if}

-- BR and BLR, and their forms with pointer authentication (Arm DDI 0487, "Unconditional branch (register)"), each by a mask and the
-- value of the bits under it; RET and ERET are none of them
abbrev pub pointer_branches : List (ℕ × ℕ)
pointer_branches =
    -- BR: 1101 0110 0001 1111 000000 Rn 00000
    (0xfffffc1f, 0xd61f0000)
    -- BLR: 1101 0110 0011 1111 000000 Rn 00000
    ∷ (0xfffffc1f, 0xd63f0000)
    -- BRAAZ, and BRABZ where M is set: 1101 0110 0001 1111 00001M Rn 11111
    ∷ (0xfffff81f, 0xd61f081f)
    -- BLRAAZ, and BLRABZ where M is set: 1101 0110 0011 1111 00001M Rn 11111
    ∷ (0xfffff81f, 0xd63f081f)
    -- BRAA, and BRAB where M is set: 1101 0111 0001 1111 00001M Rn Rm
    ∷ (0xfffff800, 0xd71f0800)
    -- BLRAA, and BLRAB where M is set: 1101 0111 0011 1111 00001M Rn Rm
    ∷ (0xfffff800, 0xd73f0800)
    ∷ []

abbrev pub is_pointer_branch : ℕ → Bool
is_pointer_branch word = list_any (λ row. bit_and word row.0 == row.1) pointer_branches

abbrev pub same_pair : ℕ × ℕ → ℕ × ℕ → Bool
same_pair p q = (p.0 == q.0) && (p.1 == q.1)

-- by the first address, and then by the second
abbrev pub pair_lt : ℕ × ℕ → ℕ × ℕ → Bool
pair_lt p q = nat_lt p.0 q.0 || ((p.0 == q.0) && nat_lt p.1 q.1)

-- each stands before all behind it
abbrev pub Rises : List (ℕ × ℕ) → Type 0
Rises [] = ⊤
Rises (p ∷ pairs) = All (λ q. pair_lt p q ≡ true) pairs × Rises pairs

-- a pair comes to others that stand in order, unless it is among them
abbrev pub with_pair : ℕ × ℕ → List (ℕ × ℕ) → List (ℕ × ℕ)
with_pair p [] = p ∷ []
with_pair p (q ∷ qs) =
    if same_pair p q then q ∷ qs
    else if pair_lt p q then p ∷ (q ∷ qs)
    else q ∷ with_pair p qs

-- the first different ones, at most so many, in order: of some that are kept already and those that come after them
abbrev pub kept_from : ℕ → List (ℕ × ℕ) → List (ℕ × ℕ) → List (ℕ × ℕ)
kept_from most kept [] = kept
kept_from most kept (p ∷ pairs) = kept_from most (if nat_lt (length kept) most then with_pair p kept else kept) pairs

abbrev pub kept_within : ℕ → List (ℕ × ℕ) → List (ℕ × ℕ)
kept_within most pairs = kept_from most [] pairs

-- how many of the pairs are this one
abbrev pub how_many : ℕ × ℕ → List (ℕ × ℕ) → ℕ
how_many p [] = 0
how_many p (q ∷ pairs) = one_if (same_pair p q) + how_many p pairs

-- how many of the pairs are none of those that are kept
abbrev pub outside : List (ℕ × ℕ) → List (ℕ × ℕ) → ℕ
outside kept [] = 0
outside kept (p ∷ pairs) = one_if (not (list_any (same_pair p) kept)) + outside kept pairs

-- how often each pair came that is kept, and how often others did, modulo 2^64
pub record Targeting : Type 0 where
  pub entries : List Target
  pub more : ℕ

abbrev pub pair_of : Target → ℕ × ℕ
pair_of entry = (entry.from, entry.to)

abbrev pub entry_of : List (ℕ × ℕ) → ℕ × ℕ → Target
entry_of pairs p = record { from = p.0; to = p.1; times = how_many p pairs % 2 ^ 64 }

-- of pairs, in the order in which they came
abbrev pub targets_within : ℕ → List (ℕ × ℕ) → Targeting
targets_within most pairs = record {
  entries = map (entry_of pairs) (kept_within most pairs);
  more = outside (kept_within most pairs) pairs % 2 ^ 64;
}

abbrev pub most_pairs : ℕ
most_pairs = 65536

abbrev pub targets_of : List (ℕ × ℕ) → Targeting
targets_of pairs = targets_within most_pairs pairs
