-- Trees that read a part of the grammar and go on behind it.
use Rattle.std.proofs.Common.{◌≡◌, ℕ, Bool, true, false, List, [], ◌∷◌, ◌++◌, Ok, Err, refl, sym, ap, subst, ◌∙◌, append_assoc, append-nil, inl, inr}
use Rattle.std.specs.Prelude.{if◌then◌else◌}
use Rattle.packet_grammar.specs.declared.packet.Packet.{Packet}
use Rattle.packet_grammar.specs.declared.fault.PacketFault.{PacketFault}
use Rattle.packet_grammar.specs.Parts.{Outcome, Part, Known, Byte, Where, Then, As}
use Rattle.packet_reader.specs.Trees.{Tree, known, byte, Leads}

-- a tree reads a part, and behind it goes on by the value
pub record Meets {A : Type 0} (P : Outcome A → List ℕ → Type 0) (more : A → Tree) (tree : Tree) : Type 0 where
  pub to : (outcome : Outcome Packet) (bytes : List ℕ) → Leads tree outcome bytes → Then P (λ v. Leads (more v)) outcome bytes
  pub back : (outcome : Outcome Packet) (bytes : List ℕ) → Then P (λ v. Leads (more v)) outcome bytes → Leads tree outcome bytes

module _ {A : Type 0} where
  ok_same : (v w : A) → ◌≡◌ {A = Outcome A} (Ok v) (Ok w) → v ≡ w
  ok_same v w e = cc

  ok_or_err : (v : A) (f : PacketFault) → ◌≡◌ {A = Outcome A} (Ok v) (Err f) → ⊥
  ok_or_err v f e = absurd cc

  err_same : (f g : PacketFault) → ◌≡◌ {A = Outcome A} (Err f) (Err g) → f ≡ g
  err_same f g e = cc

  ok_to : (v : A) (more : A → Tree) (outcome : Outcome Packet) (bytes : List ℕ) → Leads (more v) outcome bytes → Then (Known (Ok v)) (λ w. Leads (more w))
      outcome bytes
  ok_to v more outcome bytes x = inl (v, [], bytes, refl, refl, x)

  ok_back : (v : A) (more : A → Tree) (outcome : Outcome Packet) (bytes : List ℕ) → Then (Known (Ok v)) (λ w. Leads (more w)) outcome bytes → Leads (more v)
      outcome bytes
  ok_back v more outcome bytes (inl (w, [], back, parts, e, x)) =
      subst (λ t. Leads (more v) outcome t) (sym parts) (subst (λ u. Leads (more u) outcome back) (ok_same w v e) x)
  ok_back v more outcome bytes (inl (w, b ∷ front, back, parts, e, x)) = absurd e
  ok_back v more outcome [] (inr (f, o, e)) = absurd (ok_or_err v f (sym e))
  ok_back v more outcome (b ∷ bytes) (inr (f, o, e)) = absurd e

  pub meets_ok : (v : A) (more : A → Tree) → Meets (Known (Ok v)) more (more v)
  meets_ok v more = record { to = ok_to v more; back = ok_back v more }

  err_to : (f : PacketFault) (more : A → Tree) (outcome : Outcome Packet) (bytes : List ℕ) → Leads (known (Err f)) outcome bytes → Then (Known (Err f))
      (λ w. Leads (more w)) outcome bytes
  err_to f more outcome [] x = inr (f, x, refl)
  err_to f more outcome (b ∷ bytes) x = absurd x

  err_back : (f : PacketFault) (more : A → Tree) (outcome : Outcome Packet) (bytes : List ℕ) → Then (Known (Err f)) (λ w. Leads (more w)) outcome bytes
      → Leads (known (Err f)) outcome bytes
  err_back f more outcome bytes (inl (w, [], back, parts, e, x)) = absurd (ok_or_err w f e)
  err_back f more outcome bytes (inl (w, b ∷ front, back, parts, e, x)) = absurd e
  err_back f more outcome [] (inr (g, o, e)) = o ∙ ap (λ (k : PacketFault). Err k) (err_same g f e)
  err_back f more outcome (b ∷ bytes) (inr (g, o, e)) = absurd e

  pub meets_err : (f : PacketFault) (more : A → Tree) → Meets (Known (Err f)) more (known (Err f))
  meets_err f more = record { to = err_to f more; back = err_back f more }

  byte_to : (next : ℕ → Part A) (more : A → Tree) (tree : ℕ → Tree) → ((b : ℕ) → Meets (next b) more (tree b))
      → (outcome : Outcome Packet) (bytes : List ℕ) → Leads (byte tree) outcome bytes → Then (Byte next) (λ w. Leads (more w)) outcome bytes
  byte_to next more tree each outcome [] x = absurd x
  byte_to next more tree each outcome (b ∷ bytes) x = elim ((each b).to outcome bytes x) [
    | inl (v, front, back, parts, p, q) ↦ inl (v, b ∷ front, back, ap (λ t. b ∷ t) parts, p, q)
    | inr (f, o, p) ↦ inr (f, o, p)
  ]

  byte_back : (next : ℕ → Part A) (more : A → Tree) (tree : ℕ → Tree) → ((b : ℕ) → Meets (next b) more (tree b))
      → (outcome : Outcome Packet) (bytes : List ℕ) → Then (Byte next) (λ w. Leads (more w)) outcome bytes → Leads (byte tree) outcome bytes
  byte_back next more tree each outcome bytes (inl (v, [], back, parts, p, q)) = absurd p
  byte_back next more tree each outcome bytes (inl (v, b ∷ front, back, parts, p, q)) =
      subst (λ t. Leads (byte tree) outcome t) (sym parts) ((each b).back outcome (front ++ back) (inl (v, front, back, refl, p, q)))
  byte_back next more tree each outcome [] (inr (f, o, p)) = absurd p
  byte_back next more tree each outcome (b ∷ bytes) (inr (f, o, p)) = (each b).back outcome bytes (inr (f, o, p))

  pub meets_byte : (next : ℕ → Part A) (more : A → Tree) (tree : ℕ → Tree) → ((b : ℕ) → Meets (next b) more (tree b)) → Meets (Byte next) more (byte tree)
  meets_byte next more tree each = record { to = byte_to next more tree each; back = byte_back next more tree each }

  pub meets_where : (test : Bool) (P Q : Part A) (more : A → Tree) (t u : Tree) → Meets P more t → Meets Q more u → Meets (Where test P Q) more
      (if test then t else u)
  meets_where true P Q more t u p q = record { to = p.to; back = p.back }
  meets_where false P Q more t u p q = record { to = q.to; back = q.back }

module _ {A B : Type 0} (P : Part A) (next : A → Part B) (between : A → Tree) (more : B → Tree) (tree : Tree)
    (first : Meets P between tree) (each : (v : A) → Meets (next v) more (between v)) where
  joined : (outcome : Outcome Packet) (bytes : List ℕ) (v : A) (front back : List ℕ) → bytes ≡ front ++ back → P (Ok v) front
      → Then (next v) (λ w. Leads (more w)) outcome back → Then (Then P next) (λ w. Leads (more w)) outcome bytes
  joined outcome bytes v front back parts p (inl (w, front', back', parts', p', q)) =
      inl (w, front ++ front', back', parts ∙ ap (λ t. front ++ t) parts' ∙ sym (append_assoc front front' back'), inl (v, front, front', refl, p, p'), q)
  joined outcome bytes v front back parts p (inr (f, o, p')) = inr (f, o, inl (v, front, back, parts, p, p'))

  then_to : (outcome : Outcome Packet) (bytes : List ℕ) → Leads tree outcome bytes → Then (Then P next) (λ w. Leads (more w)) outcome bytes
  then_to outcome bytes x = elim (first.to outcome bytes x) [
    | inl (v, front, back, parts, p, q) ↦ joined outcome bytes v front back parts p ((each v).to outcome back q)
    | inr (f, o, p) ↦ inr (f, o, inr (f, refl, p))
  ]

  then_back : (outcome : Outcome Packet) (bytes : List ℕ) → Then (Then P next) (λ w. Leads (more w)) outcome bytes → Leads tree outcome bytes
  then_back outcome bytes (inl (w, front, back, parts, inl (v, front', back', parts', p, p'), q)) =
      first.back outcome bytes (inl (
        v,
        front',
        back' ++ back,
        parts ∙ ap (λ t. t ++ back) parts' ∙ append_assoc front' back' back,
        p,
        (each v).back outcome (back' ++ back) (inl (w, back', back, refl, p', q)),
      ))
  then_back outcome bytes (inl (w, front, back, parts, inr (f, e, p), q)) = absurd (ok_or_err w f e)
  then_back outcome bytes (inr (f, o, inl (v, front, back, parts, p, p'))) =
      first.back outcome bytes (inl (v, front, back, parts, p, (each v).back outcome back (inr (f, o, p'))))
  then_back outcome bytes (inr (f, o, inr (g, e, p))) = first.back outcome bytes (inr (g, o ∙ ap (λ (k : PacketFault). Err k) (err_same {A = B} f g e), p))

  pub meets_then : Meets (Then P next) more tree
  meets_then = record { to = then_to; back = then_back }

pub meets_as : {A B : Type 0} (P : Part A) (made : A → B) (more : B → Tree) (tree : Tree) → Meets P (λ v. more (made v)) tree → Meets (As P made) more tree
meets_as P made more tree first = meets_then P (λ v. Known (Ok (made v))) (λ v. more (made v)) more tree first (λ v. meets_ok (made v) more)

-- a tree that ends behind a part reads that part
pub whole_to : (P : Part Packet) (tree : Tree) → Meets P (λ v. known (Ok v)) tree → (outcome : Outcome Packet) (bytes : List ℕ) → Leads tree outcome bytes
    → P outcome bytes
whole_to P tree meets outcome bytes x = elim (meets.to outcome bytes x) [
  | inl (v, front, [], parts, p, q) ↦ subst (λ o. P o bytes) (sym q) (subst (λ t. P (Ok v) t) (sym (parts ∙ append-nil front)) p)
  | inl (v, front, b ∷ back, parts, p, q) ↦ absurd q
  | inr (f, o, p) ↦ subst (λ o. P o bytes) (sym o) p
]

pub whole_back : (P : Part Packet) (tree : Tree) → Meets P (λ v. known (Ok v)) tree → (outcome : Outcome Packet) (bytes : List ℕ) → P outcome bytes
    → Leads tree outcome bytes
whole_back P tree meets (Ok v) bytes p = meets.back (Ok v) bytes (inl (v, bytes, [], sym (append-nil bytes), p, refl))
whole_back P tree meets (Err f) bytes p = meets.back (Err f) bytes (inr (f, refl, p))
