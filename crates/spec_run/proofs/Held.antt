-- The steps that are held, one more of them retired or taken back, and the newest of them.
use mir.Val.{bool_byte}
use Rattle.std.proofs.Common.{◌≡◌, ℕ, zero, suc, ◌+◌, ◌-◌, ◌<◌, ◌≤◌, Bool, true, false, if◌then◌else◌, List, [], ◌∷◌, ◌++◌, length, take, drop}
use Rattle.std.proofs.Common.{Some, None, refl, sym, ap, ◌∙◌, arith, append-nil, length-append}
use Rattle.std.specs.Prelude.{option_to_list, slice_get}
use Rattle.std.proofs.lemmas.List.{length-take-le, take-append-drop}
use Rattle.std.proofs.lemmas.Option.{slice_get_within}
use Rattle.circular_buffer.specs.Buffer.{keep_last, last_item}
use Rattle.circular_buffer.proofs.Places.{slice_get-some}
use Rattle.program_image.specs.declared.image.Image.{Image}
use Rattle.spec_run.specs.Kinds.{is_cond, is_isb, is_p0_kind}
use Rattle.spec_run.specs.Runs.{turn_newest, turned, turned_kind}
use Rattle.spec_run.specs.Steps.{ends_in_cond, is_p0, isb_behind, kept, newest, next_behind, p0s}
use Rattle.spec_run.specs.declared.step.RunStep.{RunStep}
use Rattle.spec_run.specs.declared.step.StepKind.{StepKind}
use Rattle.spec_run.specs.declared.step.StepKind.TheVariants.{Plain, Isb, Jump, Cond, Ind, Eret, Exc}

-- ---- joined lists

pub p0s_joined : (steps more : List RunStep) → p0s (steps ++ more) ≡ p0s steps + p0s more
p0s_joined [] more = omega arith
p0s_joined (s ∷ steps) more = let e = p0s_joined steps more in omega (arith, e)

pub isb_joined : (before : Bool) (steps more : List RunStep) → isb_behind before (steps ++ more) ≡ isb_behind (isb_behind before steps) more
isb_joined before [] more = refl
isb_joined before (s ∷ steps) more = isb_joined (is_isb s.kind) steps more

one_at_most : (b : Bool) → (if b then 1 else 0) ≤ 1
one_at_most true = omega arith
one_at_most false = omega arith

-- a flag counts as its byte
pub byte_is : (b : Bool) → bool_byte b ≡ (if b then 1 else 0)
byte_is true = refl
byte_is false = refl

pub byte_within : (b : Bool) → bool_byte b ≤ 1
byte_within true = omega arith
byte_within false = omega arith

pub p0s_pushed : (steps : List RunStep) (s : RunStep) → p0s (steps ++ s ∷ []) ≡ p0s steps + bool_byte (is_p0 s)
p0s_pushed steps s = omega (arith, p0s_joined steps (s ∷ []), byte_is (is_p0 s))

pub p0s_within : (steps : List RunStep) → p0s steps ≤ length steps
p0s_within [] = omega arith
p0s_within (s ∷ steps) = let one = one_at_most (is_p0 s) in let rest = p0s_within steps in omega (arith, one, rest)

pub parted : (n : ℕ) (steps : List RunStep) → p0s (take n steps) + p0s (drop n steps) ≡ p0s steps
parted n steps = sym (p0s_joined (take n steps) (drop n steps)) ∙ ap p0s (take-append-drop n steps)

pub parted_length : {X : Type 0} (n : ℕ) (xs : List X) → length (take n xs) + length (drop n xs) ≡ length xs
parted_length n xs = sym (length-append (take n xs) (drop n xs)) ∙ ap length (take-append-drop n xs)

-- ---- one more from the front

front_suc : {X : Type 0} (n : ℕ) (xs : List X) → take (suc n) xs ≡ take n xs ++ option_to_list (slice_get (drop n xs) 0)
front_suc zero [] = refl
front_suc zero (x ∷ xs) = refl
front_suc (suc n) [] = refl
front_suc (suc n) (x ∷ xs) = ap (λ l. x ∷ l) (front_suc n xs)

pub front_more : {X : Type 0} (n m : ℕ) (xs : List X) → m ≡ n + 1 → take m xs ≡ take n xs ++ option_to_list (slice_get (drop n xs) 0)
front_more n m xs h = let e : m ≡ suc n = omega (arith, h) in ap (λ k. take k xs) e ∙ front_suc n xs

pub front_some : {X : Type 0} (n m : ℕ) (xs : List X) (x : X) → m ≡ n + 1 → slice_get (drop n xs) 0 ≡ Some x → take m xs ≡ take n xs ++ x ∷ []
front_some n m xs x h e = front_more n m xs h ∙ ap (λ o. take n xs ++ option_to_list o) e

pub front_none : {X : Type 0} (n m : ℕ) (xs : List X) → m ≡ n + 1 → slice_get (drop n xs) 0 ≡ None → take m xs ≡ take n xs
front_none n m xs h e = front_more n m xs h ∙ ap (λ o. take n xs ++ option_to_list o) e ∙ append-nil (take n xs)

rest_suc : {X : Type 0} (n : ℕ) (xs : List X) → drop 1 (drop n xs) ≡ drop (suc n) xs
rest_suc zero xs = refl
rest_suc (suc n) [] = refl
rest_suc (suc n) (x ∷ xs) = rest_suc n xs

pub rest_more : {X : Type 0} (n m : ℕ) (xs : List X) → m ≡ n + 1 → drop 1 (drop n xs) ≡ drop m xs
rest_more n m xs h = let e : suc n ≡ m = omega (arith, h) in rest_suc n xs ∙ ap (λ k. drop k xs) e

-- ---- one more from the back

back_within : {X : Type 0} (k : ℕ) (xs : List X) → k < length xs → drop k xs ≡ option_to_list (slice_get (take (suc k) xs) k) ++ drop (suc k) xs
back_within k [] h = absurd (omega arith)
back_within zero (x ∷ xs) h = refl
back_within (suc k) (x ∷ xs) h = back_within k xs (omega arith)

back_at : {X : Type 0} (m n : ℕ) (xs : List X) → m ≤ length xs → n ≡ m - 1 → drop n xs ≡ option_to_list (last_item (take m xs)) ++ drop m xs
back_at zero n xs h e = let same : n ≡ 0 = omega (arith, e) in ap (λ k. drop k xs) same
back_at (suc k) n xs h e =
    let same : n ≡ k = omega (arith, e) in
    let size : length (take (suc k) xs) - 1 ≡ k = omega (arith, length-take-le (suc k) xs h) in
    ap (λ k. drop k xs) same ∙ back_within k xs (omega arith)
    ∙ ap (λ i. option_to_list (slice_get (take (suc k) xs) i) ++ drop (suc k) xs) (sym size)

pub newest_more : {X : Type 0} (n m : ℕ) (xs : List X) → m ≡ n + 1 → newest m xs ≡ option_to_list (last_item (kept n xs)) ++ newest n xs
newest_more n m xs h = back_at (length xs - n) (length xs - m) xs (omega arith) (omega (arith, h))

pub newest_some : {X : Type 0} (n m : ℕ) (xs : List X) (x : X) → m ≡ n + 1 → last_item (kept n xs) ≡ Some x → newest m xs ≡ x ∷ newest n xs
newest_some n m xs x h e = newest_more n m xs h ∙ ap (λ o. option_to_list o ++ newest n xs) e

pub newest_none : {X : Type 0} (n m : ℕ) (xs : List X) → m ≡ n + 1 → last_item (kept n xs) ≡ None → newest m xs ≡ newest n xs
newest_none n m xs h e = newest_more n m xs h ∙ ap (λ o. option_to_list o ++ newest n xs) e

take_taken : {X : Type 0} (n m : ℕ) (xs : List X) → n ≤ m → take n (take m xs) ≡ take n xs
take_taken zero m xs h = refl
take_taken (suc n) zero xs h = absurd (omega arith)
take_taken (suc n) (suc m) [] h = refl
take_taken (suc n) (suc m) (x ∷ xs) h = ap (λ l. x ∷ l) (take_taken n m xs (omega arith))

pub kept_more : {X : Type 0} (n m : ℕ) (xs : List X) → m ≡ n + 1 → take (length (kept n xs) - 1) (kept n xs) ≡ kept m xs
kept_more n m xs h =
    let size : length (kept n xs) - 1 ≡ length xs - m = omega (arith, h, length-take-le (length xs - n) xs (omega arith)) in
    ap (λ k. take k (kept n xs)) size ∙ take_taken (length xs - m) (length xs - n) xs (omega (arith, h))

-- ---- the newest

newest_of : {X : Type 0} (xs : List X) (n : ℕ) (x : X) → slice_get xs n ≡ Some x → n + 1 ≡ length xs → xs ≡ take n xs ++ x ∷ []
newest_of [] n x e h = absurd cc
newest_of (y ∷ []) zero x e h = ap (λ z. z ∷ []) cc
newest_of (y ∷ z ∷ xs) zero x e h = absurd (omega arith)
newest_of (y ∷ xs) (suc n) x e h = ap (λ l. y ∷ l) (newest_of xs n x e (omega arith))

pub some_newest : {X : Type 0} (xs : List X) (x : X) → last_item xs ≡ Some x → xs ≡ take (length xs - 1) xs ++ x ∷ []
some_newest xs x e = newest_of xs (length xs - 1) x e (let w = slice_get_within xs (length xs - 1) x e in omega (arith, w))

pub no_newest : {X : Type 0} (xs : List X) → last_item xs ≡ None → xs ≡ []
no_newest [] e = refl
no_newest (x ∷ xs) e = let w = slice_get-some (x ∷ xs) (length (x ∷ xs) - 1) (omega arith) in absurd (let f = sym e ∙ w.1 in cc)

pub isb_at : (before : Bool) (steps : List RunStep) (s : RunStep) → isb_behind before (steps ++ s ∷ []) ≡ is_isb s.kind
isb_at before steps s = isb_joined before steps (s ∷ [])

pub isb_newest : (before : Bool) (steps : List RunStep) (s : RunStep) → last_item steps ≡ Some s → isb_behind before steps ≡ is_isb s.kind
isb_newest before steps s e = ap (isb_behind before) (some_newest steps s e) ∙ isb_at before (take (length steps - 1) steps) s

cond_at : (steps : List RunStep) (s : RunStep) → ends_in_cond (steps ++ s ∷ []) ≡ is_cond s.kind
cond_at [] s = refl
cond_at (x ∷ []) s = refl
cond_at (x ∷ y ∷ steps) s = cond_at (y ∷ steps) s

pub cond_newest : (steps : List RunStep) (s : RunStep) → last_item steps ≡ Some s → ends_in_cond steps ≡ is_cond s.kind
cond_newest steps s e = ap ends_in_cond (some_newest steps s e) ∙ cond_at (take (length steps - 1) steps) s

turn_at : (image : Image) (steps : List RunStep) (s : RunStep) → turn_newest image (steps ++ s ∷ []) ≡ steps ++ turned image s ∷ []
turn_at image [] s = refl
turn_at image (x ∷ []) s = refl
turn_at image (x ∷ y ∷ steps) s = ap (λ l. x ∷ l) (turn_at image (y ∷ steps) s)

pub turn_newest_at : (image : Image) (steps : List RunStep) (s : RunStep) → last_item steps ≡ Some s
    → turn_newest image steps ≡ take (length steps - 1) steps ++ turned image s ∷ []
turn_newest_at image steps s e = ap (turn_newest image) (some_newest steps s e) ∙ turn_at image _ s

pub next_at : (pc : ℕ) (steps : List RunStep) (s : RunStep) → next_behind pc (steps ++ s ∷ []) ≡ s.next
next_at pc [] s = refl
next_at pc (x ∷ steps) s = next_at x.next steps s

turned_p0 : (kind : StepKind) → is_p0_kind (turned_kind kind) ≡ is_p0_kind kind
turned_p0 Plain = refl
turned_p0 Isb = refl
turned_p0 Jump = refl
turned_p0 (Cond taken) = refl
turned_p0 (Ind link) = refl
turned_p0 Eret = refl
turned_p0 (Exc kind) = refl

pub turned_p0s : (image : Image) (steps : List RunStep) (s : RunStep) → last_item steps ≡ Some s
    → p0s (take (length steps - 1) steps ++ turned image s ∷ []) ≡ p0s steps
turned_p0s image steps s e =
    p0s_joined _ (turned image s ∷ []) ∙ ap (λ b. p0s (take (length steps - 1) steps) + ((if b then 1 else 0) + 0)) (turned_p0 s.kind)
    ∙ sym (p0s_joined (take (length steps - 1) steps) (s ∷ [])) ∙ ap p0s (sym (some_newest steps s e))

pub length_newest : {X : Type 0} (xs : List X) (x y : X) → last_item xs ≡ Some x → length (take (length xs - 1) xs ++ y ∷ []) ≡ length xs
length_newest xs x y e =
    let w = slice_get_within xs (length xs - 1) x e in
    omega (arith, w, length-append (take (length xs - 1) xs) (y ∷ []), length-take-le (length xs - 1) xs (omega arith))

-- ---- a ring with room

pub keep_all : {X : Type 0} (n : ℕ) (xs : List X) → length xs ≤ n → keep_last n xs ≡ xs
keep_all n xs h = let none : length xs - n ≡ 0 = omega (arith, h) in ap (λ k. drop k xs) none
