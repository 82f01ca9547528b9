-- What is kept and written behind one event more.
use Rattle.std.proofs.Common.{◌≡◌, ℕ, ◌+◌, List, [], ◌∷◌, ◌++◌, Ok, refl, sym, ap, ◌∙◌, append_assoc, append-nil}
use Rattle.std.proofs.lemmas.List.Concat.{flat_map-append}
use Rattle.etm_types.specs.Settings.{Sizes}
use Rattle.packet_grammar.specs.declared.packet.Packet.{Packet}
use Rattle.packet_writer.specs.Spelling.{spelling}
use Rattle.program_image.specs.declared.image.Image.{Image}
use Rattle.spec_run.proofs.EventsJoined.{passed, same_execution}
use Rattle.spec_run.specs.Checks.{check, effect_of}
use Rattle.spec_run.specs.RunAfter.{after_event, place_in, run_after, run_from}
use Rattle.spec_run.specs.Runs.{Execution, at_first}
use Rattle.spec_run.specs.declared.event.Event.{Event}
use Rattle.trace_unit.specs.Effects.{orders, orders_from, orders_on, places_after, places_from}
use Rattle.trace_unit.specs.Growing.{orders_of_one, places_behind, shared_behind, waiting_behind, written_for_one}
use Rattle.trace_unit.specs.Orders.{Order}
use Rattle.trace_unit.specs.Packets.{Shared, nothing_shared, packets_all, packets_of, shared_after, shared_all}
use Rattle.trace_unit.specs.Places.{Places, no_places}
use Rattle.trace_unit.specs.Whole.{PutOff, nothing_waits, waits, waits_all}
use Rattle.trace_unit.specs.Written.{spelled, written}

-- ---- events of joined lists

orders_joined : (image : Image) (depth most : ℕ) (x : Execution) (p : Places) (n : ℕ) (events more : List Event) (y : Execution)
    → run_from image depth x n events ≡ Ok y
    → orders_from image depth most x p (events ++ more)
    ≡ orders_from image depth most x p events ++ orders_from image depth most y (places_from image depth most x p events) more
orders_joined image depth most x p n [] more y e = ap (λ z. orders_from image depth most z p more) (same_execution x y e)
orders_joined image depth most x p n (event ∷ events) more y e =
    let does = effect_of image (place_in x) event in
    let next = after_event image depth x event in
    let places = places_after image depth most x p does in
    let f = passed (check image depth (place_in x) event) n (run_from image depth next (n + 1) events) y e in
    let here = orders_on x.current p does in
    let last = places_from image depth most next places events in
    ap (λ l. here ++ l) (orders_joined image depth most next places (n + 1) events more y f.1)
    ∙ sym (append_assoc here (orders_from image depth most next places events) (orders_from image depth most y last more))

places_joined : (image : Image) (depth most : ℕ) (x : Execution) (p : Places) (n : ℕ) (events more : List Event) (y : Execution)
    → run_from image depth x n events ≡ Ok y
    → places_from image depth most x p (events ++ more) ≡ places_from image depth most y (places_from image depth most x p events) more
places_joined image depth most x p n [] more y e = ap (λ z. places_from image depth most z p more) (same_execution x y e)
places_joined image depth most x p n (event ∷ events) more y e =
    let next = after_event image depth x event in
    let f = passed (check image depth (place_in x) event) n (run_from image depth next (n + 1) events) y e in
    places_joined image depth most next (places_after image depth most x p (effect_of image (place_in x) event)) (n + 1) events more y f.1

-- ---- orders of joined lists

pub waits_joined : (depth : ℕ) (u : PutOff) (xs ys : List Order) → waits_all depth u (xs ++ ys) ≡ waits_all depth (waits_all depth u xs) ys
waits_joined depth u [] ys = refl
waits_joined depth u (x ∷ xs) ys = waits_joined depth (waits depth u x) xs ys

pub shared_joined : (shared : Shared) (xs ys : List Order) → shared_all shared (xs ++ ys) ≡ shared_all (shared_all shared xs) ys
shared_joined shared [] ys = refl
shared_joined shared (x ∷ xs) ys = shared_joined (shared_after shared x) xs ys

pub packets_joined : (depth : ℕ) (u : PutOff) (shared : Shared) (xs ys : List Order)
    → packets_all depth u shared (xs ++ ys) ≡ packets_all depth u shared xs ++ packets_all depth (waits_all depth u xs) (shared_all shared xs) ys
packets_joined depth u shared [] ys = refl
packets_joined depth u shared (x ∷ xs) ys =
    let here = packets_of depth u shared x in
    let v = waits depth u x in
    let next = shared_after shared x in
    ap (λ l. here ++ l) (packets_joined depth v next xs ys)
    ∙ sym (append_assoc here (packets_all depth v next xs) (packets_all depth (waits_all depth v xs) (shared_all next xs) ys))

pub spelled_joined : (s : Sizes) (xs ys : List Packet) → spelled s (xs ++ ys) ≡ spelled s xs ++ spelled s ys
spelled_joined s xs ys = flat_map-append (spelling s) xs ys

-- ---- one event more

pub orders_grow : (image : Image) (s : Sizes) (most : ℕ) (events : List Event) (x : Execution) (e : Event) → run_after image s.depth events ≡ Ok x
    → orders image s most (events ++ e ∷ []) ≡ orders image s most events ++ orders_of_one image s most events x e
orders_grow image s most events x e ran =
    orders_joined image s.depth most at_first no_places 0 events (e ∷ []) x ran
    ∙ ap (λ l. orders image s most events ++ l) (append-nil (orders_of_one image s most events x e))

pub places_grow : (image : Image) (s : Sizes) (most : ℕ) (events : List Event) (x : Execution) (e : Event) → run_after image s.depth events ≡ Ok x
    → places_behind image s most (events ++ e ∷ []) ≡ places_after image s.depth most x (places_behind image s most events) (effect_of image (place_in x) e)
places_grow image s most events x e ran = places_joined image s.depth most at_first no_places 0 events (e ∷ []) x ran

pub waiting_grows : (image : Image) (s : Sizes) (most : ℕ) (events : List Event) (x : Execution) (e : Event) → run_after image s.depth events ≡ Ok x
    → waiting_behind image s most (events ++ e ∷ []) ≡ waits_all s.depth (waiting_behind image s most events) (orders_of_one image s most events x e)
waiting_grows image s most events x e ran =
    ap (waits_all s.depth nothing_waits) (orders_grow image s most events x e ran)
    ∙ waits_joined s.depth nothing_waits (orders image s most events) (orders_of_one image s most events x e)

pub shared_grows : (image : Image) (s : Sizes) (most : ℕ) (events : List Event) (x : Execution) (e : Event) → run_after image s.depth events ≡ Ok x
    → shared_behind image s most (events ++ e ∷ []) ≡ shared_all (shared_behind image s most events) (orders_of_one image s most events x e)
shared_grows image s most events x e ran =
    ap (shared_all nothing_shared) (orders_grow image s most events x e ran)
    ∙ shared_joined nothing_shared (orders image s most events) (orders_of_one image s most events x e)

pub written_grows : (image : Image) (s : Sizes) (most : ℕ) (events : List Event) (x : Execution) (e : Event) → run_after image s.depth events ≡ Ok x
    → written image s most (events ++ e ∷ []) ≡ written image s most events ++ written_for_one image s most events x e
written_grows image s most events x e ran =
    let front = orders image s most events in
    let more = orders_of_one image s most events x e in
    ap (λ l. spelled s (packets_all s.depth nothing_waits nothing_shared l)) (orders_grow image s most events x e ran)
    ∙ ap (spelled s) (packets_joined s.depth nothing_waits nothing_shared front more)
    ∙ spelled_joined s (packets_all s.depth nothing_waits nothing_shared front)
    (packets_all s.depth (waiting_behind image s most events) (shared_behind image s most events) more)
