-- The row of a header, by its first header, in the table of packets or in that of headers that are refused.
use Rattle.std.proofs.Common.{◌≡◌, ℕ, ◌<◌, ◌≤◌, Bool, true, false, ◌&&◌, ◌||◌, ◌==◌, List, []}
use Rattle.std.proofs.Common.{◌∷◌, Option, Some, None, Err, nat_le, nat_lt, inl, inr, refl, ◌∙◌, arith}
use Rattle.std.specs.Prelude.{◌⊎◌, if◌then◌else◌}
use Rattle.std.proofs.lemmas.Bool.{and_parts, eqb-true, ltb-true, le-leb}
use Rattle.packet_grammar.specs.declared.fault.PacketFault.{PacketFault}
use Rattle.packet_grammar.specs.Headers.{refused_headers, fault_in}
use Rattle.packet_grammar.proofs.Table.{Body, alone, headers, body_in, body_of}

abbrev pub Rows : Type 0 → Type 0
Rows V = List (ℕ × ℕ × (ℕ → V))

-- a row has these bounds, and the rows before it end below
abbrev pub is_row : {V : Type 0} → ℕ → ℕ → Rows V → Bool
is_row first last [] = false
is_row first last (row ∷ rows) = if row.0 == first then row.1 == last else (nat_lt row.1 first && is_row first last rows)

-- what the row that begins with a header says of another one
abbrev pub row_at : {V : Type 0} → ℕ → Rows V → ℕ → Option V
row_at first [] h = None
row_at first (row ∷ rows) h = if row.0 == first then Some (row.2 h) else row_at first rows h

-- no row has a header of these bounds
abbrev pub is_outside : {V : Type 0} → ℕ → ℕ → Rows V → Bool
is_outside first last [] = true
is_outside first last (row ∷ rows) = (nat_lt row.1 first || nat_lt last row.0) && is_outside first last rows

here : {V : Type 0} (first last h : ℕ) (b other : Option V) → first ≤ h → h ≤ last → (if nat_le first h && nat_le h last then b else other) ≡ b
here first last h b other least most = let low = le-leb first h least in let high = le-leb h last most in rw (low, high) refl

past : {V : Type 0} (first last h : ℕ) (b other : Option V) → last < h → (if nat_le first h && nat_le h last then b else other) ≡ other
past first last h b other beyond = grind arith

before : {V : Type 0} (first last h : ℕ) (b other : Option V) → h < first → (if nat_le first h && nat_le h last then b else other) ≡ other
before first last h b other below = grind arith

module _ (h first last : ℕ) (least : first ≤ h) (most : h ≤ last) where
  body_step : (row : ℕ × ℕ × (ℕ → Body)) (rows : Rows Body) (same : Bool) → (row.0 == first) ≡ same
      → (if same then row.1 == last else (nat_lt row.1 first && is_row first last rows)) ≡ true
      → (is_row first last rows ≡ true → body_in rows h ≡ row_at first rows h)
      → body_in (row ∷ rows) h ≡ (if same then Some (row.2 h) else row_at first rows h)
  body_step row rows true same is later =
      here row.0 row.1 h (Some (row.2 h)) (body_in rows h) (omega (arith, eqb-true row.0 first same, least)) (omega (arith, eqb-true row.1 last is, most))
  body_step row rows false same is later =
      let parts = and_parts (nat_lt row.1 first) (is_row first last rows) is in
      past row.0 row.1 h (Some (row.2 h)) (body_in rows h) (omega (arith, ltb-true row.1 first parts.0, least)) ∙ later parts.1

  body_found : (rows : Rows Body) → is_row first last rows ≡ true → body_in rows h ≡ row_at first rows h
  body_found [] is = absurd cc
  body_found (row ∷ rows) is = body_step row rows (row.0 == first) refl is (body_found rows)

  fault_step : (row : ℕ × ℕ × (ℕ → PacketFault)) (rows : Rows PacketFault) (same : Bool) → (row.0 == first) ≡ same
      → (if same then row.1 == last else (nat_lt row.1 first && is_row first last rows)) ≡ true
      → (is_row first last rows ≡ true → fault_in rows h ≡ row_at first rows h)
      → fault_in (row ∷ rows) h ≡ (if same then Some (row.2 h) else row_at first rows h)
  fault_step row rows true same is later =
      here row.0 row.1 h (Some (row.2 h)) (fault_in rows h) (omega (arith, eqb-true row.0 first same, least)) (omega (arith, eqb-true row.1 last is, most))
  fault_step row rows false same is later =
      let parts = and_parts (nat_lt row.1 first) (is_row first last rows) is in
      past row.0 row.1 h (Some (row.2 h)) (fault_in rows h) (omega (arith, ltb-true row.1 first parts.0, least)) ∙ later parts.1

  fault_found : (rows : Rows PacketFault) → is_row first last rows ≡ true → fault_in rows h ≡ row_at first rows h
  fault_found [] is = absurd cc
  fault_found (row ∷ rows) is = fault_step row rows (row.0 == first) refl is (fault_found rows)

either : (a b : Bool) → (a || b) ≡ true → (a ≡ true) ⊎ (b ≡ true)
either true b e = inl refl
either false b e = inr e

not_found : (rows : Rows Body) (h first last : ℕ) → is_outside first last rows ≡ true → first ≤ h → h ≤ last → body_in rows h ≡ None
not_found [] h first last is least most = refl
not_found (row ∷ rows) h first last is least most =
    let parts = and_parts (nat_lt row.1 first || nat_lt last row.0) (is_outside first last rows) is in
    let later = not_found rows h first last parts.1 least most in
    elim (either (nat_lt row.1 first) (nat_lt last row.0) parts.0) [
      | inl low ↦ past row.0 row.1 h (Some (row.2 h)) (body_in rows h) (omega (arith, ltb-true row.1 first low, least)) ∙ later
      | inr high ↦ before row.0 row.1 h (Some (row.2 h)) (body_in rows h) (omega (arith, ltb-true last row.0 high, most)) ∙ later
    ]

-- the header of a packet
pub says : (h first last : ℕ) (body : Body) → is_row first last headers ≡ true → row_at first headers h ≡ Some body → first ≤ h → h ≤ last
    → body_of h ≡ Some body
says h first last body is row least most = let found = body_found h first last least most headers is ∙ row in rw found refl

-- a header that is refused
pub refuses : (h first last : ℕ) (fault : PacketFault) → is_outside first last headers ≡ true → is_row first last refused_headers ≡ true
    → row_at first refused_headers h ≡ Some fault → first ≤ h → h ≤ last → body_of h ≡ Some (alone (Err fault))
refuses h first last fault outside is row least most =
    let none = not_found headers h first last outside least most in
    let found = fault_found h first last least most refused_headers is ∙ row in
    rw (none, found) refl
