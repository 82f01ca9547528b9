-- Each header has its row.
use Rattle.std.proofs.Common.{◌≡◌, ℕ, ◌<◌, ◌≤◌, Bool, true, false, ◌&&◌, Option, Some, None, nat_le, nat_lt, refl}
use Rattle.std.proofs.lemmas.Bool.{agree_below_at, and_parts, leb-true, ltb-true}
use Rattle.packet_grammar.specs.Headers.{refused_headers}
use Rattle.packet_grammar.proofs.Table.{Body, atoms, headers, body_of}

-- a header has a row, and one that tells atoms is one of those that do
abbrev pub is_sound : Option Body → Bool
is_sound None = false
is_sound (Some (atoms h)) = nat_le 192 h && nat_lt h 256
is_sound (Some _) = true

each_header : (h : ℕ) → h < 256 → is_sound (body_of h) ≡ true
unfolding headers refused_headers
each_header h below = agree_below_at (λ (j : ℕ). is_sound (body_of j)) (λ _. true) 256 h refl below

sound_some : (found : Option Body) → is_sound found ≡ true → (body : Body) × (found ≡ Some body) × (is_sound (Some body) ≡ true)
sound_some None e = absurd cc
sound_some (Some body) e = (body, refl, e)

pub has_body : (h : ℕ) → h < 256 → (body : Body) × (body_of h ≡ Some body) × (is_sound (Some body) ≡ true)
has_body h below = sound_some (body_of h) (each_header h below)

pub atoms_from : (h : ℕ) → is_sound (Some (atoms h)) ≡ true → (192 ≤ h) × (h < 256)
atoms_from h e = let parts = and_parts (nat_le 192 h) (nat_lt h 256) e in (leb-true 192 h parts.0, ltb-true h 256 parts.1)
