-- Events of joined lists.
use Rattle.std.proofs.Common.{◌≡◌, ℕ, suc, ◌+◌, ◌<◌, List, [], ◌∷◌, ◌++◌, length, Option, Some, None, Result, Ok, Err, refl, ap, ◌∙◌, arith}
use Rattle.program_image.specs.declared.image.Image.{Image}
use Rattle.spec_run.specs.Checks.{check}
use Rattle.spec_run.specs.RunAfter.{after_event, go_on, place_in, run_after, run_from}
use Rattle.spec_run.specs.Runs.{Execution, at_first}
use Rattle.spec_run.specs.declared.event.Event.{Event}
use Rattle.spec_run.specs.declared.run_fault.RunFault.{RunFault}

abbrev pub Outcome : Type 0
Outcome = Result Execution (ℕ × RunFault)

pub passed : (c : Option RunFault) (n : ℕ) (rest : Outcome) (y : Execution) → go_on c n rest ≡ Ok y → (c ≡ None) × (rest ≡ Ok y)
passed None n rest y e = (refl, e)
passed (Some fault) n rest y e = absurd cc

abbrev done : Execution → Outcome
done x = Ok x

pub same_execution : (a b : Execution) → done a ≡ done b → a ≡ b
same_execution a b e = cc

joined_from : (image : Image) (depth : ℕ) (x : Execution) (n : ℕ) (events more : List Event) (y : Execution) → run_from image depth x n events ≡ Ok y
    → run_from image depth x n (events ++ more) ≡ run_from image depth y (n + length events) more
joined_from image depth x n [] more y e =
    let zero : n ≡ n + 0 = omega arith in
    ap (λ z. run_from image depth z n more) (same_execution x y e) ∙ ap (λ k. run_from image depth y k more) zero
joined_from image depth x n (event ∷ events) more y e =
    let next = after_event image depth x event in
    let p = passed (check image depth (place_in x) event) n (run_from image depth next (n + 1) events) y e in
    let count : n + 1 + length events ≡ n + length (event ∷ events) = omega arith in
    ap (λ c. go_on c n (run_from image depth next (n + 1) (events ++ more))) p.0
    ∙ joined_from image depth next (n + 1) events more y p.1
    ∙ ap (λ k. run_from image depth y k more) count

front_from : (image : Image) (depth : ℕ) (x : Execution) (n : ℕ) (events more : List Event) (y : Execution) → run_from image depth x n (events ++ more) ≡ Ok y
    → (z : Execution) × (run_from image depth x n events ≡ Ok z)
front_from image depth x n [] more y e = (x, refl)
front_from image depth x n (event ∷ events) more y e =
    let next = after_event image depth x event in
    let p = passed (check image depth (place_in x) event) n (run_from image depth next (n + 1) (events ++ more)) y e in
    let rest = front_from image depth next (n + 1) events more y p.1 in
    (rest.0, ap (λ c. go_on c n (run_from image depth next (n + 1) events)) p.0 ∙ rest.1)

stays_refused : (c : Option RunFault) (n : ℕ) (rest others : Outcome) (k : ℕ) (fault : RunFault) → (rest ≡ Err (k, fault) → others ≡ Err (k, fault))
    → go_on c n rest ≡ Err (k, fault) → go_on c n others ≡ Err (k, fault)
stays_refused None n rest others k fault stays e = stays e
stays_refused (Some f) n rest others k fault stays e = e

refused_from : (image : Image) (depth : ℕ) (x : Execution) (n : ℕ) (events more : List Event) (k : ℕ) (fault : RunFault)
    → run_from image depth x n events ≡ Err (k, fault) → run_from image depth x n (events ++ more) ≡ Err (k, fault)
refused_from image depth x n [] more k fault e = absurd cc
refused_from image depth x n (event ∷ events) more k fault e =
    let next = after_event image depth x event in
    stays_refused (check image depth (place_in x) event) n (run_from image depth next (n + 1) events)
    (run_from image depth next (n + 1) (events ++ more)) k fault
    (refused_from image depth next (n + 1) events more k fault) e

abbrev place_of_fault : Outcome → ℕ
place_of_fault (Ok x) = 0
place_of_fault (Err e) = e.0

refused_within : (c : Option RunFault) (n m : ℕ) (rest : Outcome) (k : ℕ) (fault : RunFault) → (rest ≡ Err (k, fault) → k < n + 1 + m)
    → go_on c n rest ≡ Err (k, fault) → k < n + suc m
refused_within None n m rest k fault within e = let lt = within e in omega (arith, lt)
refused_within (Some f) n m rest k fault within e = let same : n ≡ k = ap place_of_fault e in omega (arith, same)

within_from : (image : Image) (depth : ℕ) (x : Execution) (n : ℕ) (events : List Event) (k : ℕ) (fault : RunFault)
    → run_from image depth x n events ≡ Err (k, fault) → k < n + length events
within_from image depth x n [] k fault e = absurd cc
within_from image depth x n (event ∷ events) k fault e =
    let next = after_event image depth x event in
    refused_within (check image depth (place_in x) event) n (length events) (run_from image depth next (n + 1) events) k fault
    (within_from image depth next (n + 1) events k fault) e

-- ---- from the first event on

pub events_joined : (image : Image) (depth : ℕ) (events more : List Event) (x : Execution) → run_after image depth events ≡ Ok x
    → run_after image depth (events ++ more) ≡ run_from image depth x (length events) more
events_joined image depth events more x e =
    let count : 0 + length events ≡ length events = omega arith in
    joined_from image depth at_first 0 events more x e ∙ ap (λ k. run_from image depth x k more) count

pub events_front : (image : Image) (depth : ℕ) (events more : List Event) (x : Execution) → run_after image depth (events ++ more) ≡ Ok x
    → (y : Execution) × (run_after image depth events ≡ Ok y)
events_front image depth events more x e = front_from image depth at_first 0 events more x e

pub events_refused : (image : Image) (depth : ℕ) (events more : List Event) (k : ℕ) (fault : RunFault) → run_after image depth events ≡ Err (k, fault)
    → run_after image depth (events ++ more) ≡ Err (k, fault)
events_refused image depth events more k fault e = refused_from image depth at_first 0 events more k fault e

pub refused_among : (image : Image) (depth : ℕ) (events : List Event) (k : ℕ) (fault : RunFault) → run_after image depth events ≡ Err (k, fault)
    → k < length events
refused_among image depth events k fault e = let lt = within_from image depth at_first 0 events k fault e in omega (arith, lt)
