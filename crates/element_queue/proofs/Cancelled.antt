-- So many of the newest are taken back.
use Rattle.std.proofs.Common.{◌≡◌, ℕ, zero, suc, ◌+◌, ◌-◌, ◌<◌, Bool, false, List, [], ◌∷◌, ◌++◌, length, map, take}
use Rattle.std.proofs.Common.{drop, replicate, Ok, refl, sym, ap, ◌∙◌, arith, append_assoc, append-nil, length-append}
use Rattle.std.specs.Prelude.{◌==◌}
use Rattle.std.proofs.lemmas.Bool.{le-leb}
use Rattle.std.proofs.lemmas.Bool.Decides.{nat_tests}
use Rattle.std.proofs.lemmas.List.{drop_at, take_at, map-append, replicate-append-replicate}
use Rattle.etm_types.specs.Pre.{trace_missing}
use Rattle.etm_types.specs.declared.element.Elem.TheVariants as elem
use Rattle.etm_types.specs.declared.element.Entry.{Entry}
use Rattle.etm_types.specs.declared.element.Pre.{Pre}
use Rattle.etm_types.specs.declared.element.Thing.{Thing}
use Rattle.etm_types.specs.declared.element.Thing.TheVariants.{Seen, Unseen}
use Rattle.element_queue.specs.declared.ledger.Counts.{Counts}
use Rattle.element_queue.specs.Counting.{counts_after}
use Rattle.element_queue.specs.Queued.{Takes, given_since}
use Rattle.element_queue.specs.Pending.{cancelling, pre_of, taken}
use Rattle.element_queue.proofs.Held.{length-things, things}

-- what was given before the first of some things, or else what was given since
abbrev pub pre_since : Pre → List Thing → Pre
pre_since pre [] = pre
pre_since pre (thing ∷ things) = pre_of (thing ∷ things)

pub newest : (kept gone : List Thing) (n : ℕ) → length gone ≡ n → drop (length (kept ++ gone) - n) (kept ++ gone) ≡ gone
newest kept gone n e = drop_at kept gone _ (omega (arith, length-append kept gone))

oldest : (kept gone : List Thing) (n : ℕ) → length gone ≡ n → take (length (kept ++ gone) - n) (kept ++ gone) ≡ kept
oldest kept gone n e = take_at kept gone _ (omega (arith, length-append kept gone))

pub some : (n : ℕ) → (suc n == 0) ≡ false
some n = grind (arith, nat_tests)

pub takes_back : (depth n : ℕ) (informed : Bool) (pre : Pre) (kept gone : List Thing) → length gone ≡ n
    → taken depth (record { held = kept ++ gone; pre = pre; informed = informed }) (elem.Cancel n)
    ≡ Ok (record { held = kept; pre = pre_since pre gone; informed = informed }, cancelling gone)
takes_back depth zero informed pre kept [] e = simp append-nil
takes_back depth (suc n) informed pre kept (thing ∷ gone) e =
    let within = le-leb (suc n) (length (kept ++ thing ∷ gone)) (omega (arith, length-append kept (thing ∷ gone))) in
    simp (some n, within, oldest kept (thing ∷ gone) (suc n) e, newest kept (thing ∷ gone) (suc n) e)
takes_back depth (suc n) informed pre kept [] e = absurd cc
takes_back depth zero informed pre kept (thing ∷ gone) e = absurd cc

-- entries go from the newest on, and unseen things only where no entry is left
pub parts : (unseen less more : ℕ) (seen kept gone : List Entry) → unseen ≡ less + more → kept ++ gone ≡ seen → (0 < more → kept ≡ [])
    → things unseen seen ≡ things less kept ++ things more gone
parts unseen less zero seen kept gone count e none =
    let same : unseen ≡ less = omega (arith, count) in
    ap (λ l. replicate unseen Unseen ++ map Seen l) (sym e) ∙ ap (λ l. replicate unseen Unseen ++ l) (map-append Seen kept gone)
    ∙ sym (append_assoc (replicate unseen Unseen) (map Seen kept) (map Seen gone)) ∙ ap (λ n. things n kept ++ map Seen gone) same
parts unseen less (suc more) seen kept gone count e none =
    let nothing = none (omega arith) in
    let all : gone ≡ seen = ap (λ l. l ++ gone) (sym nothing) ∙ e in
    ap (λ l. things unseen l) (sym all) ∙ ap (λ n. things n gone) count
    ∙ ap (λ l. l ++ map Seen gone) (sym (replicate-append-replicate less (suc more) Unseen))
    ∙ append_assoc (replicate less Unseen) (replicate (suc more) Unseen) (map Seen gone)
    ∙ ap (λ l. l ++ things (suc more) gone) (sym (append-nil (replicate less Unseen)) ∙ ap (things less) (sym nothing))

pub missing_behind : (pre : Pre) (more : ℕ) (gone : List Entry) → 0 < more → pre_since pre (things more gone) ≡ trace_missing
missing_behind pre zero gone h = absurd (omega arith)
missing_behind pre (suc more) gone h = refl

pub given_behind : (pre : Pre) (more : ℕ) (gone : List Entry) → more ≡ 0 → pre_since pre (things more gone) ≡ given_since pre gone
given_behind pre zero [] e = refl
given_behind pre zero (entry ∷ gone) e = refl
given_behind pre (suc more) gone e = absurd cc

pub takes_cancel : (unseen less more depth same n : ℕ) (seen kept gone : List Entry) (pre after : Pre) (was now : Counts)
    → things unseen seen ≡ things less kept ++ things more gone
    → more + length gone ≡ n
    → same ≡ depth
    → after ≡ pre_since pre (things more gone)
    → now ≡ counts_after was 0 (cancelling (things more gone))
    → Takes (record { held = things unseen seen; pre = pre; depth = depth; counts = was }) (elem.Cancel n)
    (cancelling (drop (length (things unseen seen) - n) (things unseen seen)))
    (record { held = things less kept; pre = after; depth = same; counts = now })
takes_cancel unseen less more depth same n seen kept gone pre after was now split size depths behind counts =
    let left = things less kept in
    let back = things more gone in
    let count : length back ≡ n = length-things more gone ∙ size in
    rw (split, newest left back n count) (record {
      rule = λ informed. takes_back depth n informed pre left back count
          ∙ ap (λ p. Ok (record { held = left; pre = p; informed = informed }, cancelling back)) (sym behind);
      counts = counts;
      depth = depths;
    })
