-- What becomes of the elements of a trace at a maximum speculation depth (Arm IHI 0064, "Speculation", "Descriptions of Trace
-- Elements"): what one element changes, and what leaves by it.
use Rattle.std.specs.Prelude.{ℕ, ◌-◌, ◌==◌, nat_le, Bool, true, false, not, if◌then◌else◌, List, [], ◌∷◌, ◌++◌, length, take, drop, replicate}
use Rattle.std.specs.Prelude.{Option, Some, None, Result, Ok, Err}
use Rattle.std.specs.Option.{option_map}
use Rattle.etm_types.specs.Pre.{nothing_told, trace_missing}
use Rattle.etm_types.specs.declared.element.Elem.{Elem}
use Rattle.etm_types.specs.declared.element.Elem.TheVariants as elem
use Rattle.etm_types.specs.declared.element.P0.{P0}
use Rattle.etm_types.specs.declared.element.P0.TheVariants.{Atom, Exc}
use Rattle.etm_types.specs.declared.element.Pre.{Pre}
use Rattle.etm_types.specs.declared.element.Thing.{Thing}
use Rattle.etm_types.specs.declared.element.Thing.TheVariants.{Seen, Unseen, Gap, Stop}
use Rattle.etm_types.specs.declared.queue_fault.QueueFault.{QueueFault}
use Rattle.etm_types.specs.declared.queue_fault.QueueFault.TheVariants.{CommitOverrun, CancelOverrun, NoAtomToFlip, SpecTooDeep}

-- what is held, oldest first, what was given since the newest of it, and whether a trace info came
pub record Pending : Type 0 where
  pub held : List Thing
  pub pre : Pre
  pub informed : Bool

-- what left by one element
pub record Gone : Type 0 where
  pub committed : List Thing
  pub cancelled : List Thing
  pub lost : List Thing

abbrev pub nothing_gone : Gone
nothing_gone = record { committed = []; cancelled = []; lost = [] }

-- things that are committed, cancelled, lost, and nothing else
abbrev pub committing : List Thing → Gone
committing things = record nothing_gone { committed = things }

abbrev pub cancelling : List Thing → Gone
cancelling things = record nothing_gone { cancelled = things }

abbrev pub losing : List Thing → Gone
losing things = record nothing_gone { lost = things }

abbrev pub Taken : Type 0
Taken = Result (Pending × Gone) QueueFault

abbrev pub tells : Pending → Pre → Taken
tells p pre = Ok (record p { pre = pre }, nothing_gone)

-- A trace info: return addresses from before it count no more. The first one announces P0 elements from before it that are not
-- committed; nothing else is known of them.
abbrev pub informs : ℕ → Pending → ℕ → Taken
informs depth p spec =
    if p.informed then tells p (record (p.pre) { flush = true })
    else if nat_le spec depth
    then Ok (record { held = p.held ++ replicate spec Unseen; pre = record (p.pre) { flush = true }; informed = true }, nothing_gone)
    else Err (SpecTooDeep spec depth)

-- so many of the oldest are committed
abbrev pub commits : Pending → Pre → List Thing → ℕ → Taken
commits p pre all n = Ok (record p { held = drop n all; pre = pre }, committing (take n all))

-- what was given before the first of some things that are taken back
abbrev pub pre_of : List Thing → Pre
pre_of (Seen entry ∷ things) = entry.pre
pre_of things = trace_missing

-- so many of the newest are taken back, with all that was given since
abbrev pub cancels : Pending → ℕ → Taken
cancels p n =
    Ok (
      record p { held = take (length p.held - n) p.held; pre = pre_of (drop (length p.held - n) p.held) },
      cancelling (drop (length p.held - n) p.held),
    )

-- an atom is the other one; an exception is no atom
abbrev pub flip_entry : Pre → P0 → Option Thing
flip_entry pre (Atom taken) = Some (Seen (record { pre = pre; p0 = Atom (not taken) }))
flip_entry pre (Exc kind ret) = None

abbrev pub flip_thing : Thing → Option Thing
flip_thing (Seen entry) = flip_entry entry.pre entry.p0
flip_thing Unseen = Some Unseen
flip_thing thing = None

abbrev pub flip_newest : List Thing → Option (List Thing)
flip_newest [] = None
flip_newest (thing ∷ []) = option_map (λ flipped. flipped ∷ []) (flip_thing thing)
flip_newest (thing ∷ next ∷ things) = option_map (λ flipped. thing ∷ flipped) (flip_newest (next ∷ things))

abbrev pub is_unseen : Thing → Bool
is_unseen Unseen = true
is_unseen thing = false

-- what is given behind the newest thing once it is flipped: the code goes on elsewhere
abbrev pub pre_behind : List Thing → Pre → Pre
pre_behind [] pre = pre
pre_behind (thing ∷ []) pre = record pre { addr = None; lost = if is_unseen thing then true else pre.lost }
pre_behind (thing ∷ next ∷ things) pre = pre_behind (next ∷ things) pre

abbrev pub flips : Pending → Option (List Thing) → Taken
flips p None = Err (NoAtomToFlip (length p.held))
flips p (Some held) = Ok (record p { held = held; pre = pre_behind p.held p.pre }, nothing_gone)

-- all that is held is lost, and the gap or stop stands in its place
abbrev pub loses : Pending → Thing → Taken
loses p mark = Ok (record p { held = []; pre = trace_missing }, record { committed = mark ∷ []; cancelled = []; lost = p.held })

-- One element: what is pending after it, and what leaves by it; or the fault where it does not fit what is held.
abbrev pub taken : ℕ → Pending → Elem → Taken
taken depth p (elem.Info spec) = informs depth p spec
taken depth p elem.On = tells p (record (p.pre) { on = true; addr = None })
taken depth p (elem.Ctx ctx) = tells p (record (p.pre) { ctx = Some ctx })
taken depth p (elem.Addr addr) = tells p (record (p.pre) { addr = Some addr })
taken depth p (elem.P0 p0) =
    let all = p.held ++ Seen (record { pre = p.pre; p0 = p0 }) ∷ [] in commits p nothing_told all (length all - depth)
taken depth p (elem.Commit n) = if nat_le n (length p.held) then commits p p.pre p.held n else Err (CommitOverrun n (length p.held))
taken depth p (elem.Cancel n) =
    if n == 0 then tells p p.pre else if nat_le n (length p.held) then cancels p n else Err (CancelOverrun n (length p.held))
taken depth p elem.Flip = flips p (flip_newest p.held)
taken depth p elem.Overflow = loses p Gap
taken depth p elem.Discard = loses p Stop
