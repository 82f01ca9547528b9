-- Bytes that are parted into streams, and inputs that begin alike.
use Rattle.std.proofs.Common.{◌≡◌, ◌≢◌, ℕ, zero, suc, if◌then◌else◌, Bool, List, [], ◌∷◌, ◌++◌, inl, inr, refl, sym, ap, subst, ◌∙◌, arith}
use Rattle.std.specs.Prelude.{replicate}
use Rattle.std.proofs.lemmas.Bool.Decides.{eqb_tells}
use Rattle.std.proofs.lemmas.List.{map-append}
use Rattle.formatter_frames.specs.Unframed.{begun_frame, id_after_frames, symbols_of_frames, unframed}
use Rattle.formatter_frames.specs.Symbols.{pairs_of}
use Rattle.capture_streams.specs.Demuxed.{raw_id, raw_pairs}
use Rattle.capture_streams.specs.Laws.{BytesJoin, FrontsBegin, RawIsOfNoOther, RawIsOfOne, ZerosAreOfNone}
use Rattle.capture_streams.specs.Texts.{BodyFrom, Listing, of}
use Rattle.formatter_frames.proofs.Going.{more_pairs}
use Rattle.capture_streams.proofs.Bodies.{body_parts, of-append}

-- ---- the bytes of a stream

-- a pair with another ID is passed over
pub of_others : (id other byte : ℕ) (pairs : List (ℕ × ℕ)) → other ≢ id → of id ((other, byte) ∷ pairs) ≡ of id pairs
of_others id other byte pairs differs = elim (eqb_tells other id) [
  | inl same ↦ absurd (differs same.1)
  | inr differ ↦ ap (λ (t : Bool). if t then byte ∷ of id pairs else of id pairs) differ.0
]

pub bytes_join : BytesJoin
bytes_join = of-append

pub zeros_are_of_none : ZerosAreOfNone
zeros_are_of_none id zero some = refl
zeros_are_of_none id (suc n) some =
    of_others id 0 0 (replicate n (0, 0)) (λ is. omega (arith, is, some)) ∙ zeros_are_of_none id n some

pub raw_is_of_one : RawIsOfOne
raw_is_of_one [] = refl
raw_is_of_one (byte ∷ bytes) = ap (λ (l : List ℕ). byte ∷ l) (raw_is_of_one bytes)

pub raw_is_of_no_other : RawIsOfNoOther
raw_is_of_no_other id [] differs = refl
raw_is_of_no_other id (byte ∷ bytes) differs =
    of_others id raw_id byte (raw_pairs bytes) (λ is. differs (sym is)) ∙ raw_is_of_no_other id bytes differs

-- ---- inputs

-- the pairs of a longer input begin with those of its front
abbrev pub CarriesOn : (List ℕ → List (ℕ × ℕ)) → Type 0
CarriesOn carried = (bytes more : List ℕ) → (gained : List (ℕ × ℕ)) × (carried (bytes ++ more) ≡ carried bytes ++ gained)

pub frames_carry_on : CarriesOn unframed
frames_carry_on bytes more = (pairs_of (id_after_frames bytes) (symbols_of_frames (begun_frame bytes ++ more)), more_pairs bytes more)

pub raw_carries_on : CarriesOn raw_pairs
raw_carries_on bytes more = (raw_pairs more, map-append (λ (byte : ℕ). (raw_id, byte)) bytes more)

pub fronts_begin : (carried : List ℕ → List (ℕ × ℕ)) (g : Listing) → CarriesOn carried → FrontsBegin carried g
fronts_begin carried g on bytes more lines body =
    let gained = on bytes more in
    let parts = body_parts g [] (carried bytes) gained.0 lines (subst (λ (p : List (ℕ × ℕ)). BodyFrom g [] p lines) gained.1 body) in
    (parts.0, parts.2, (parts.1, parts.4))
