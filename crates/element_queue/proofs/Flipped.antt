-- The newest is flipped.
use Rattle.std.proofs.Common.{◌≡◌, ℕ, zero, suc, ◌+◌, ◌<◌, Bool, true, false, not, if◌then◌else◌, List, [], ◌∷◌, ◌++◌, length, map, take, replicate, Option}
use Rattle.std.proofs.Common.{Some, None, Ok, refl, sym, ap, subst, ◌∙◌, arith, append_assoc, append-nil}
use Rattle.std.specs.Prelude.{slice_get, slice_set, IsSome}
use Rattle.std.specs.Option.{option_map}
use Rattle.std.proofs.lemmas.List.{length-take-le, map-append, replicate_more, set_at}
use Rattle.etm_types.specs.declared.element.Elem.TheVariants as elem
use Rattle.etm_types.specs.declared.element.Entry.{Entry}
use Rattle.etm_types.specs.declared.element.P0.{P0}
use Rattle.etm_types.specs.declared.element.P0.TheVariants.{Atom, Exc}
use Rattle.etm_types.specs.declared.element.Pre.{Pre}
use Rattle.etm_types.specs.declared.element.Thing.{Thing}
use Rattle.etm_types.specs.declared.element.Thing.TheVariants.{Seen, Unseen}
use Rattle.element_queue.specs.declared.ledger.Counts.{Counts}
use Rattle.element_queue.specs.Counting.{counts_after}
use Rattle.element_queue.specs.Queued.{Takes}
use Rattle.element_queue.specs.Pending.{flip_entry, flip_newest, flip_thing, flips, is_unseen, nothing_gone, pre_behind}
use Rattle.element_queue.proofs.Held.{things}

-- ---- the newest of some things

maps : {X Y Z : Type 0} (f : X → Y) (g : Y → Z) (o : Option X) → option_map g (option_map f o) ≡ option_map (λ x. g (f x)) o
maps f g None = refl
maps f g (Some x) = refl

pub flip_newest_at : (others : List Thing) (thing : Thing)
    → flip_newest (others ++ thing ∷ []) ≡ option_map (λ flipped. others ++ flipped ∷ []) (flip_thing thing)
flip_newest_at [] thing = refl
flip_newest_at (x ∷ []) thing = maps (λ f. f ∷ []) (λ l. x ∷ l) (flip_thing thing)
flip_newest_at (x ∷ y ∷ others) thing =
    ap (option_map (λ l. x ∷ l)) (flip_newest_at (y ∷ others) thing) ∙ maps (λ f. y ∷ others ++ f ∷ []) (λ l. x ∷ l) (flip_thing thing)

pub pre_behind_at : (others : List Thing) (thing : Thing) (pre : Pre)
    → pre_behind (others ++ thing ∷ []) pre ≡ record pre { addr = None; lost = if is_unseen thing then true else pre.lost }
pre_behind_at [] thing pre = refl
pre_behind_at (x ∷ []) thing pre = refl
pre_behind_at (x ∷ y ∷ others) thing pre = pre_behind_at (y ∷ others) thing pre

-- ---- the newest of a list

pub newest_of : {X : Type 0} (xs : List X) (n : ℕ) (x : X) → slice_get xs n ≡ Some x → n + 1 ≡ length xs → xs ≡ take n xs ++ x ∷ []
newest_of [] n x e h = absurd cc
newest_of (y ∷ []) zero x e h = ap (λ z. z ∷ []) cc
newest_of (y ∷ z ∷ xs) zero x e h = absurd (omega arith)
newest_of (y ∷ xs) (suc n) x e h = ap (λ l. y ∷ l) (newest_of xs n x e (omega arith))

newest_set : {X : Type 0} (xs : List X) (n : ℕ) (x y : X) → xs ≡ take n xs ++ x ∷ [] → n + 1 ≡ length xs → slice_set xs n y ≡ take n xs ++ y ∷ []
newest_set xs n x y e h = ap (λ l. slice_set l n y) e ∙ set_at (take n xs) x [] y n (length-take-le n xs (omega arith))

-- ---- the newest entry

pub things_push : (unseen : ℕ) (others : List Entry) (entry : Entry) → things unseen (others ++ entry ∷ []) ≡ things unseen others ++ Seen entry ∷ []
things_push unseen others entry =
    ap (λ l. replicate unseen Unseen ++ l) (map-append Seen others (entry ∷ []))
    ∙ sym (append_assoc (replicate unseen Unseen) (map Seen others) (Seen entry ∷ []))

pub newest_seen : (unseen : ℕ) (seen : List Entry) (n : ℕ) (entry : Entry) → slice_get seen n ≡ Some entry → n + 1 ≡ length seen
    → flip_newest (things unseen seen) ≡ option_map (λ flipped. things unseen (take n seen) ++ flipped ∷ []) (flip_entry entry.pre entry.p0)
newest_seen unseen seen n entry e h =
    ap (λ l. flip_newest (things unseen l)) (newest_of seen n entry e h) ∙ ap flip_newest (things_push unseen (take n seen) entry)
    ∙ flip_newest_at (things unseen (take n seen)) (Seen entry)

flips_some : (f : Thing → List Thing) (pre : Pre) (p0 : P0) → IsSome (option_map f (flip_entry pre p0)) → (taken : Bool) × (p0 ≡ Atom taken)
flips_some f pre (Atom taken) h = (taken, refl)
flips_some f pre (Exc kind ret) h = absurd cc

pub atom_of : (seen : List Entry) (n : ℕ) (entry : Entry) → slice_get seen n ≡ Some entry → n + 1 ≡ length seen
    → IsSome (flip_newest (map Seen seen)) → (taken : Bool) × (entry.p0 ≡ Atom taken)
atom_of seen n entry e h some = flips_some _ entry.pre entry.p0 (subst IsSome (newest_seen 0 seen n entry e h) some)

pub atom_flips : (unseen : ℕ) (seen : List Entry) (n : ℕ) (entry : Entry) (taken : Bool) → slice_get seen n ≡ Some entry → n + 1 ≡ length seen
    → entry.p0 ≡ Atom taken → flip_newest (things unseen seen) ≡ Some (things unseen (slice_set seen n (record entry { p0 = Atom (not taken) })))
atom_flips unseen seen n entry taken e h p =
    let other : Entry = record entry { p0 = Atom (not taken) } in
    let written = newest_set seen n entry other (newest_of seen n entry e h) h in
    newest_seen unseen seen n entry e h ∙ ap (λ p0. option_map (λ flipped. things unseen (take n seen) ++ flipped ∷ []) (flip_entry entry.pre p0)) p
    ∙ ap Some (sym (things_push unseen (take n seen) other) ∙ ap (things unseen) (sym written))

pub no_atom : (pre : Pre) (p0 : P0) → ((taken : Bool) → p0 ≡ Atom taken → ⊥) → flip_entry pre p0 ≡ None
no_atom pre (Atom taken) h = absurd (h taken refl)
no_atom pre (Exc kind ret) h = refl

-- ---- nothing can be flipped

same_option : {X : Type 0} (o : Option X) → option_map (λ x. x) o ≡ o
same_option None = refl
same_option (Some x) = refl

pub flip_newest_behind : (others : List Thing) (thing : Thing) (things : List Thing)
    → flip_newest (others ++ thing ∷ things) ≡ option_map (λ l. others ++ l) (flip_newest (thing ∷ things))
flip_newest_behind [] thing things = sym (same_option (flip_newest (thing ∷ things)))
flip_newest_behind (x ∷ []) thing things = refl
flip_newest_behind (x ∷ y ∷ others) thing things =
    ap (option_map (λ l. x ∷ l)) (flip_newest_behind (y ∷ others) thing things)
    ∙ maps (λ l. y ∷ others ++ l) (λ l. x ∷ l) (flip_newest (thing ∷ things))

pub flips_behind : (unseen : ℕ) (seen after : List Entry) → 0 < length seen → flip_newest (map Seen seen) ≡ Some (map Seen after)
    → flip_newest (things unseen seen) ≡ Some (things unseen after)
flips_behind unseen [] after some e = absurd (omega arith)
flips_behind unseen (entry ∷ seen) after some e =
    flip_newest_behind (replicate unseen Unseen) (Seen entry) (map Seen seen) ∙ ap (option_map (λ l. replicate unseen Unseen ++ l)) e

pre_behind_others : (others : List Thing) (thing : Thing) (things : List Thing) (pre : Pre)
    → pre_behind (others ++ thing ∷ things) pre ≡ pre_behind (thing ∷ things) pre
pre_behind_others [] thing things pre = refl
pre_behind_others (x ∷ []) thing things pre = refl
pre_behind_others (x ∷ y ∷ others) thing things pre = pre_behind_others (y ∷ others) thing things pre

entries_behind : (entry : Entry) (seen : List Entry) (pre : Pre) → pre_behind (map Seen (entry ∷ seen)) pre ≡ record pre { addr = None }
entries_behind entry [] pre = refl
entries_behind entry (next ∷ seen) pre = entries_behind next seen pre

pub seen_behind : (unseen : ℕ) (seen : List Entry) (pre : Pre) → 0 < length seen → pre_behind (things unseen seen) pre ≡ record pre { addr = None }
seen_behind unseen [] pre some = absurd (omega arith)
seen_behind unseen (entry ∷ seen) pre some =
    pre_behind_others (replicate unseen Unseen) (Seen entry) (map Seen seen) pre ∙ entries_behind entry seen pre

none_of : {X : Type 0} (o : Option X) → (IsSome o → false ≡ true) → o ≡ None
none_of None h = refl
none_of (Some x) h = absurd (let e = h refl in cc)

pub none_flips : (unseen : ℕ) (seen : List Entry) → (IsSome (flip_newest (map Seen seen)) → false ≡ true) → (length seen ≡ 0 → unseen ≡ 0)
    → flip_newest (things unseen seen) ≡ None
none_flips zero [] h k = refl
none_flips (suc unseen) [] h k = absurd (let e = k refl in cc)
none_flips unseen (entry ∷ seen) h k =
    flip_newest_behind (replicate unseen Unseen) (Seen entry) (map Seen seen)
    ∙ ap (option_map (λ l. replicate unseen Unseen ++ l)) (none_of (flip_newest (map Seen (entry ∷ seen))) h)

-- ---- only unseen ones are held

unseen_only : (n : ℕ) (seen : List Entry) → seen ≡ [] → things (suc n) seen ≡ replicate n Unseen ++ Unseen ∷ []
unseen_only n seen e =
    let more : suc n ≡ n + 1 = omega arith in
    ap (things (suc n)) e ∙ append-nil (replicate (suc n) Unseen) ∙ ap (λ k. replicate k Unseen) more ∙ sym (replicate_more n Unseen)

pub unseen_flips : (unseen : ℕ) (seen : List Entry) → 0 < unseen → seen ≡ [] → flip_newest (things unseen seen) ≡ Some (things unseen seen)
unseen_flips zero seen h e = absurd (omega arith)
unseen_flips (suc n) seen h e =
    let only = unseen_only n seen e in ap flip_newest only ∙ flip_newest_at (replicate n Unseen) Unseen ∙ ap Some (sym only)

pub unseen_behind : (unseen : ℕ) (seen : List Entry) (pre : Pre) → 0 < unseen → seen ≡ []
    → pre_behind (things unseen seen) pre ≡ record pre { addr = None; lost = true }
unseen_behind zero seen pre h e = absurd (omega arith)
unseen_behind (suc n) seen pre h e =
    ap (λ l. pre_behind l pre) (unseen_only n seen e) ∙ pre_behind_at (replicate n Unseen) Unseen pre

pub some_seen : (seen : List Entry) → IsSome (flip_newest (map Seen seen)) → 0 < length seen
some_seen [] h = absurd cc
some_seen (entry ∷ seen) h = omega arith

-- ---- what is taken

pub takes_flip : (held after : List Thing) (pre behind : Pre) (depth : ℕ) (counts : Counts) → flip_newest held ≡ Some after → pre_behind held pre ≡ behind
    → counts ≡ counts_after counts 0 nothing_gone
    → Takes (record { held = held; pre = pre; depth = depth; counts = counts }) elem.Flip nothing_gone
    (record { held = after; pre = behind; depth = depth; counts = counts })
takes_flip held after pre behind depth counts flip given same =
    record {
      rule = λ informed. ap (flips (record { held = held; pre = pre; informed = informed })) flip
          ∙ ap (λ p. Ok (record { held = after; pre = p; informed = informed }, nothing_gone)) given;
      counts = same;
      depth = refl;
    }
