-- From the bytes that were taken to more of them, and what is held back.
use Rattle.std.proofs.Common.{◌≡◌, ℕ, ◌+◌, ◌%◌, ◌<◌, ◌≤◌, List, [], ◌∷◌, ◌++◌, length, take, sym, ap, subst, ◌∙◌, inl, inr, arith}
use Rattle.std.proofs.Common.{append_assoc, append-nil, length-append, length-drop}
use Rattle.std.specs.Prelude.{Option, Some, None, drop}
use Rattle.std.proofs.lemmas.Bool.{cases_Bool}
use Rattle.std.proofs.lemmas.List.{length-replicate, length-take-le}
use Rattle.formatter_frames.specs.Unframed.{unframed}
use Rattle.sync_frames.specs.Laid.{cut_pairs, kept_few}
use Rattle.sync_frames.specs.Syncs.{begins_full_sync, kept_from, unsynced}
use Rattle.sync_frames.specs.Unsyncing.{IsPhase, StandsAt, Unsyncing, kept_at, place_of, plain_length, rest_of, state_of}
use Rattle.sync_frames.specs.declared.unsync.Phase.{Phase}
use Rattle.sync_frames.specs.declared.unsync.Phase.TheVariants as place
use Rattle.sync_frames.proofs.Plain.{plain_kept, plain_within}

-- what a call takes and gives comes behind what was taken and given
pub stands_on : (u v : Unsyncing) (bytes given part new : List ℕ) → StandsAt u bytes given
    → ((more : List ℕ) → rest_of u (part ++ more) ≡ new ++ rest_of v more)
    → place_of v.place ≡ (place_of u.place + length new) % 16 → place_of v.place + length v.held < 16
    → length new + length v.held ≤ length u.held + length part → StandsAt v (bytes ++ part) (given ++ new)
stands_on u v bytes given part new s goes next cut few =
    record {
      goes_on = λ more. ap unsynced (append_assoc bytes part more) ∙ s.goes_on (part ++ more) ∙ ap (λ l. given ++ l) (goes more)
          ∙ sym (append_assoc given new (rest_of v more));
      place = omega (arith, length-append given new, s.place, next);
      cut = cut;
      few = omega (arith, length-append given new, length-append bytes part, s.few, few);
    }

-- a call that takes nothing
pub none_taken : (u : Unsyncing) (bytes given more : List ℕ) → StandsAt u (bytes ++ take 0 more) (given ++ take 0 more) → StandsAt u bytes given
none_taken u bytes given more s =
    subst (λ l. StandsAt u l given) (append-nil bytes) (subst (StandsAt u (bytes ++ [])) (append-nil given) s)

pub cut_at : (here : Phase) → IsPhase here → place_of (state_of here).place + length (state_of here).held < 16
cut_at (place.Hunting ones) is = omega (arith, is, length-replicate {A = ℕ} ones 255)
cut_at (place.Between at) is = omega (arith, is.1)
cut_at (place.Within at first) is = omega (arith, is.0, is.1)
cut_at place.TwoOnes is = omega arith
cut_at place.ThreeOnes is = omega arith

-- a run behind a whole pair
pub run_taken : (at next : ℕ) (before given bytes : List ℕ) → at < 16 → next ≡ (at + plain_length bytes) % 16
    → StandsAt (record { place = Some at; held = [] }) before given
    → StandsAt (record { place = Some next; held = [] }) (before ++ take (plain_length bytes) bytes) (given ++ take (plain_length bytes) bytes)
run_taken at next before given bytes small is s =
    let run = take (plain_length bytes) bytes in
    let long : length run ≡ plain_length bytes = length-take-le (plain_length bytes) bytes (plain_within bytes) in
    stands_on (record { place = Some at; held = [] }) (record { place = Some next; held = [] }) before given run run s
    (λ more. plain_kept more at bytes small ∙ ap (λ p. run ++ kept_from p more) (sym is))
    (omega (arith, is, long)) (omega (arith, is)) (omega arith)

-- ---- what is held back

unsynced_few : (bytes : List ℕ) → length (unsynced bytes) ≤ length bytes
unsynced_few [] = omega arith
unsynced_few (a ∷ bytes) = elim (cases_Bool (begins_full_sync (a ∷ bytes))) [
  | inl full ↦ rw full (omega (arith, kept_few 0 (drop 3 bytes), length-drop 3 bytes))
  | inr other ↦ rw other (omega (arith, unsynced_few bytes))
]

kept_at_few : (at : Option ℕ) (bytes : List ℕ) → length (kept_at at bytes) ≤ length bytes
kept_at_few None bytes = unsynced_few bytes
kept_at_few (Some at) bytes = kept_few at bytes

pub rest_few : (u : Unsyncing) → length (rest_of u []) ≤ length u.held
rest_few u = omega (arith, kept_at_few u.place (u.held ++ []), length-append u.held [])

pub all_given : (u : Unsyncing) (bytes given : List ℕ) → StandsAt u bytes given → unsynced bytes ≡ given ++ rest_of u []
all_given u bytes given s = ap unsynced (sym (append-nil bytes)) ∙ s.goes_on []

pub held_back : (u : Unsyncing) (bytes given : List ℕ) → StandsAt u bytes given → unframed (unsynced bytes) ≡ unframed given
held_back u bytes given s =
    ap unframed (all_given u bytes given s) ∙ cut_pairs given (rest_of u []) (omega (arith, s.place, s.cut, rest_few u))
