-- The hunt for the first full sync.
use Rattle.std.proofs.Common.{◌≡◌, ◌≢◌, ℕ, zero, suc, ◌≤◌, List, [], ◌∷◌, ◌++◌, arith, refl}
use Rattle.std.specs.Prelude.{false, ◌==◌, replicate}
use Rattle.sync_frames.specs.Syncs.{begins_half_sync, begins_full_sync, unsynced}
use Rattle.sync_frames.proofs.Back.{is_not_ff, is_not_last}

-- no sync begins with a byte that is not FF
none_full : (byte : ℕ) (more : List ℕ) → (byte == 255) ≡ false → begins_full_sync (byte ∷ more) ≡ false
none_full byte [] other = refl
none_full byte (b ∷ more) other = rw other refl

pub none_half : (byte : ℕ) (more : List ℕ) → (byte == 255) ≡ false → begins_half_sync (byte ∷ more) ≡ false
none_half byte [] other = refl
none_half byte (b ∷ more) other = rw other refl

none_one : (byte : ℕ) (more : List ℕ) → (byte == 255) ≡ false → unsynced (byte ∷ more) ≡ unsynced more
none_one byte more other = rw (none_full byte more other) refl

none_two : (byte : ℕ) (more : List ℕ) → (byte == 255) ≡ false → unsynced (255 ∷ byte ∷ more) ≡ unsynced more
none_two byte more other = rw other (none_one byte more other)

none_three : (byte : ℕ) (more : List ℕ) → (byte == 255) ≡ false → unsynced (255 ∷ 255 ∷ byte ∷ more) ≡ unsynced more
none_three byte more other = rw (none_half byte more other) (none_two byte more other)

none_four : (byte : ℕ) (more : List ℕ) → (byte == 255) ≡ false → (byte == 127) ≡ false → unsynced (255 ∷ 255 ∷ 255 ∷ byte ∷ more) ≡ unsynced more
none_four byte more other last = rw last (none_three byte more other)

-- a byte that is none of a sync ends those that might have begun one
pub lost : (ones byte : ℕ) → ones ≤ 3 → byte ≢ 255 → (byte ≡ 127 → ones ≢ 3) → (more : List ℕ) → unsynced (replicate ones 255 ++ byte ∷ more) ≡ unsynced more
lost zero byte few other last more = none_one byte more (is_not_ff byte other)
lost (suc zero) byte few other last more = none_two byte more (is_not_ff byte other)
lost (suc (suc zero)) byte few other last more = none_three byte more (is_not_ff byte other)
lost (suc (suc (suc zero))) byte few other last more = none_four byte more (is_not_ff byte other) (is_not_last byte (λ is. last is refl))
lost (suc (suc (suc (suc n)))) byte few other last more = absurd (omega arith)

-- none is found in these
pub none_found : (ones : ℕ) → ones ≤ 3 → unsynced (replicate ones 255 ++ []) ≡ []
none_found zero few = refl
none_found (suc zero) few = refl
none_found (suc (suc zero)) few = refl
none_found (suc (suc (suc zero))) few = refl
none_found (suc (suc (suc (suc n)))) few = absurd (omega arith)
