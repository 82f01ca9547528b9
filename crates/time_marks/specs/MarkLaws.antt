-- Which P0 element has which mark: its own.
use Rattle.std.specs.Prelude.{◌≡◌, ◌≤◌, ℕ, ◌+◌, List, [], ◌∷◌, ◌++◌, length, map, Option, Some, None, Ok, slice_get, ⊤}
use Rattle.element_queue.specs.Counting.{made_by}
use Rattle.element_queue.specs.Resolved.{Resolved, resolve_all, unresolved}
use Rattle.etm_types.specs.declared.element.Elem.{Elem}
use Rattle.etm_types.specs.declared.element.Elem.TheVariants as elem
use Rattle.etm_types.specs.declared.element.Entry.{Entry}
use Rattle.etm_types.specs.declared.element.P0.{P0}
use Rattle.etm_types.specs.declared.element.P0.TheVariants.{Atom, Exc}
use Rattle.etm_types.specs.declared.element.Thing.{Thing}
use Rattle.etm_types.specs.declared.element.Thing.TheVariants.{Gap, Seen, Stop, Unseen}
use Rattle.packet_grammar.specs.declared.packet.Packet.{Packet}
use Rattle.path_elements.specs.Elements.{Told, elements_of, told_after}
use Rattle.time_marks.specs.Stamps.{Stamp, stamp_after}
use Rattle.time_marks.specs.Times.{Times, after_element, no_times}

-- what elements come to, where each P0 element has its number, counted on from this one, as its timestamp
abbrev pub after_numbered : ℕ → ℕ → Times → List Elem → Times
after_numbered depth n t [] = t
after_numbered depth n t (e ∷ elements) = after_numbered depth (n + made_by e) (after_element depth 0 (record t { stamp = Some n }) e) elements

-- the P0 elements among elements
abbrev pub p0s_in : List Elem → List P0
p0s_in [] = []
p0s_in (elem.P0 p0 ∷ elements) = p0 ∷ p0s_in elements
p0s_in (e ∷ elements) = p0s_in elements

-- the same P0 element, but that an atom may be flipped
abbrev pub MayBe : P0 → P0 → Type 0
MayBe (Atom one) (Atom other) = ⊤
MayBe (Exc kind ret) (Exc kind' ret') = (kind ≡ kind') × (ret ≡ ret')
MayBe one other = ⊥

-- the P0 element with this number
pub record IsNumber (p0s : List P0) (n : ℕ) (entry : Entry) : Type 0 where
  pub p0 : P0
  pub there : slice_get p0s n ≡ Some p0
  pub same : MayBe entry.p0 p0

-- each thing that was seen has as its mark its own number among the P0 elements; others have no mark
abbrev pub CarryOwn : List P0 → List Thing → List Stamp → Type 0
CarryOwn p0s [] [] = ⊤
CarryOwn p0s (Seen entry ∷ things) (Some n ∷ marks) = IsNumber p0s n entry × CarryOwn p0s things marks
CarryOwn p0s (Unseen ∷ things) marks = CarryOwn p0s things marks
CarryOwn p0s (Gap ∷ things) marks = CarryOwn p0s things marks
CarryOwn p0s (Stop ∷ things) marks = CarryOwn p0s things marks
CarryOwn p0s things marks = ⊥

-- numbers that rise, from the first of these on and below the second
abbrev pub Rise : ℕ → List Stamp → ℕ → Type 0
Rise low [] high = low ≤ high
Rise low (Some n ∷ marks) high = (low ≤ n) × Rise (n + 1) marks high
Rise low (None ∷ marks) high = ⊥

-- what elements come to is what they leave pending, and the marks of it
pub record HasOwnMarks (p0s : List P0) (r : Resolved) (t : Times) : Type 0 where
  pub pending : t.pending ≡ r.pending
  pub done : CarryOwn p0s r.done t.done
  pub held : CarryOwn p0s ((r.pending).held) t.held
  pub rise : Rise 0 (t.done ++ t.held) (length p0s)

-- elements without a fault: what is committed and what is held has its own marks, in order
abbrev pub MarksAreOwn : Type 0
MarksAreOwn =
    (depth : ℕ) (elements : List Elem) (r : Resolved) → resolve_all depth unresolved elements ≡ Ok r
    → HasOwnMarks (p0s_in elements) r (after_numbered depth 0 no_times elements)

-- ---- which P0 elements are committed

-- Elements, and before each P0 element its number, counted on from this one, as an address. An address goes with the P0 element behind it.
abbrev pub with_numbers : ℕ → List Elem → List Elem
with_numbers n [] = []
with_numbers n (elem.P0 p0 ∷ elements) = elem.Addr n ∷ elem.P0 p0 ∷ with_numbers (n + 1) elements
with_numbers n (e ∷ elements) = e ∷ with_numbers n elements

-- the addresses that stood before the P0 elements that were seen
abbrev pub addresses : List Thing → List (Option ℕ)
addresses [] = []
addresses (Seen entry ∷ things) = entry.pre.addr ∷ addresses things
addresses (thing ∷ things) = addresses things

-- the numbers of the P0 elements that these elements commit: were the number of each the address before it, those would have these addresses
abbrev pub AreNumbers : ℕ → List Elem → List ℕ → Type 0
AreNumbers depth elements numbers =
    (r : Resolved) × (resolve_all depth unresolved (with_numbers 0 elements) ≡ Ok r) × (addresses r.done ≡ map Some numbers)

-- ---- timestamps

-- the timestamps of the P0 elements of packets, by what came before these: each has that behind its packet
abbrev pub stamps_of : Told → Stamp → List (ℕ × Packet) → List Stamp
stamps_of told stamp [] = []
stamps_of told stamp (p ∷ packets) =
    let next = stamp_after told.informed stamp p.1 in
    map (λ (p0 : P0). next) (p0s_in (elements_of told p.1)) ++ stamps_of (told_after told p.1) next packets

-- These elements commit these things. Each of them that was seen is the P0 element with its number, but that an atom may be flipped; the numbers
-- rise; and the marks are, one for one, the timestamps with these numbers.
pub record HaveOwnStamps (depth : ℕ) (elements : List Elem) (stamps : List Stamp) (things : List Thing) (marks : List Stamp) : Type 0 where
  pub numbers : List ℕ
  pub commits : AreNumbers depth elements numbers
  pub own : CarryOwn (p0s_in elements) things (map Some numbers)
  pub rise : Rise 0 (map Some numbers) (length (p0s_in elements))
  pub stamped : map Some marks ≡ map (slice_get stamps) numbers
