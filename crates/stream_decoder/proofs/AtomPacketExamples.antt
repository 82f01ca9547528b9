-- Packets of atoms that stand one behind the other, worked out by hand from the figures of the standard (Arm IHI 0064, "Atom Format 1 packet"
-- to "Atom Format 6 packet"), and near misses; and atoms that are taken one after the other.
use Rattle.std.proofs.Common.{◌≡◌, ℕ, suc, ◌+◌, ◌%◌, ◌^◌, ◌<◌, Bool, true, false, List, [], ◌∷◌, ◌++◌, length, Some, None, Ok, Err}
use Rattle.std.proofs.Common.{append-nil, length-append, refl, sym, ap, subst, inl, inr, ◌∙◌, arith}
use Rattle.std.specs.Prelude.{Option, option_to_list, pos}
use Rattle.std.proofs.lemmas.List.Elements.{All-nil}
use Rattle.a64_branches.specs.Classes.{class_of}
use Rattle.a64_branches.specs.declared.class.Class.TheVariants.{Cond}
use Rattle.atom_formats.specs.Formats.{Spells}
use Rattle.atom_formats.proofs.Examples.{format_1, format_2, format_3}
use Rattle.atom_formats.proofs.Rows.{no_other_tells, one_run_a_byte}
use Rattle.element_queue.specs.Counting.{no_counts}
use Rattle.element_queue.specs.Pending.{Gone, Taken, committing, nothing_gone, taken}
use Rattle.element_queue.proofs.LowBits.{low_bits-length}
use Rattle.etm_types.specs.Atoms.{atoms_in}
use Rattle.etm_types.specs.Pre.{nothing_told}
use Rattle.etm_types.specs.Walked.{exception, instructions, items_of, took_last}
use Rattle.etm_types.specs.declared.atoms.AtomRun.{AtomRun}
use Rattle.etm_types.specs.declared.context.Ctx.{Ctx}
use Rattle.etm_types.specs.declared.element.Elem.TheVariants as elem
use Rattle.etm_types.specs.declared.element.P0.TheVariants.{Atom}
use Rattle.etm_types.specs.declared.element.Thing.{Thing}
use Rattle.etm_types.specs.declared.element.Thing.TheVariants.{Seen}
use Rattle.etm_types.specs.declared.item.Item.{Item}
use Rattle.etm_types.specs.declared.item.Item.TheVariants as item
use Rattle.etm_types.specs.declared.walked.Walked.{Walked}
use Rattle.packet_reader.specs.Stands.{PacketReading}
use Rattle.path_walker.specs.State.{IsAligned, State}
use Rattle.path_walker.specs.Things.{Walks}
use Rattle.path_walker.specs.Walk.{Shows, items_in}
use Rattle.path_walker.specs.declared.pc.Pc.TheVariants.{Known}
use Rattle.path_walker.specs.declared.stretch.Stretch.{Stretch}
use Rattle.program_image.specs.Blocks.{IsPlainRun}
use Rattle.program_image.specs.declared.image.Image.{Image}
use Rattle.stream_decoder.specs.AtomPackets.{BeginWithAtoms, ReadsAtoms, ReadsUntil, StepsByAtom, StepsByAtoms, TellAtoms}
use Rattle.stream_decoder.specs.Waiting.{Waiting}
use Rattle.stream_decoder.proofs.AtomBytes.{first_is, first_tells}

-- a branch that was taken
abbrev e : Bool
e = true

-- a branch that was not
abbrev n : Bool
n = false

-- ---- what bytes tell: E; E, N; E, N, E

abbrev three : List ℕ
three = 0xf7 ∷ 0xd9 ∷ 0xfd ∷ []

abbrev six : List Bool
six = e ∷ e ∷ n ∷ e ∷ n ∷ e ∷ []

spells_f7 : Spells 0xf7 (e ∷ [])
spells_f7 = format_1.1

spells_d9 : Spells 0xd9 (e ∷ n ∷ [])
spells_d9 = format_2.1

spells_fd : Spells 0xfd (e ∷ n ∷ e ∷ [])
spells_fd = format_3.5

pub three_tell_six : TellAtoms three six
three_tell_six =
    (e ∷ [], e ∷ n ∷ e ∷ n ∷ e ∷ [], spells_f7, (e ∷ n ∷ [], e ∷ n ∷ e ∷ [], spells_d9, (e ∷ n ∷ e ∷ [], [], spells_fd, refl, refl), refl), refl)

-- packets tell one list of atoms alone
told_once : (bytes : List ℕ) (told others : List Bool) → TellAtoms bytes told → TellAtoms bytes others → told ≡ others
told_once [] told others none none_too = none ∙ sym none_too
told_once (byte ∷ bytes) told others (first, rest, spells, tell, parts) (first', rest', spells', tell', parts') =
    parts ∙ ap (λ (l : List Bool). l ++ rest) (one_run_a_byte byte first first' spells spells')
    ∙ ap (λ (l : List Bool). first' ++ l) (told_once bytes rest rest' tell tell') ∙ sym parts'

-- the newest atom of a packet first
pub not_newest_first : TellAtoms three (e ∷ n ∷ e ∷ e ∷ n ∷ e ∷ []) → ⊥
not_newest_first other = absurd (let same = told_once three six _ three_tell_six other in cc)

-- the packets in another order: E; E, N, E; E, N
pub not_in_another_order : TellAtoms (0xf7 ∷ 0xfd ∷ 0xd9 ∷ []) six → ⊥
not_in_another_order other =
    let tell : TellAtoms (0xf7 ∷ 0xfd ∷ 0xd9 ∷ []) (e ∷ e ∷ n ∷ e ∷ e ∷ n ∷ []) =
    (e ∷ [], e ∷ n ∷ e ∷ e ∷ n ∷ [], spells_f7, (e ∷ n ∷ e ∷ [], e ∷ n ∷ [], spells_fd, (e ∷ n ∷ [], [], spells_d9, refl, refl), refl), refl) in
    absurd (let same = told_once (0xf7 ∷ 0xfd ∷ 0xd9 ∷ []) (e ∷ e ∷ n ∷ e ∷ e ∷ n ∷ []) six tell other in cc)

-- all but the last atom, and one atom more
pub not_one_fewer : TellAtoms three (e ∷ e ∷ n ∷ e ∷ n ∷ []) → ⊥
not_one_fewer other = absurd (let same = told_once three six _ three_tell_six other in cc)

pub not_one_more : TellAtoms three (e ∷ e ∷ n ∷ e ∷ n ∷ e ∷ n ∷ []) → ⊥
not_one_more other = absurd (let same = told_once three six _ three_tell_six other in cc)

-- ---- what bytes begin with: a commit stands behind two packets of atoms

abbrev front : List ℕ
front = 0xf7 ∷ 0xd9 ∷ 0x2d ∷ 0x01 ∷ 0xf7 ∷ []

pub begins : BeginWithAtoms front (e ∷ e ∷ n ∷ []) × BeginWithAtoms front (e ∷ []) × BeginWithAtoms front []
begins = (
  (0xf7 ∷ 0xd9 ∷ [], 0x2d ∷ 0x01 ∷ 0xf7 ∷ [], refl, (e ∷ [], e ∷ n ∷ [], spells_f7, (e ∷ n ∷ [], [], spells_d9, refl, refl), refl)),
  (0xf7 ∷ [], 0xd9 ∷ 0x2d ∷ 0x01 ∷ 0xf7 ∷ [], refl, (e ∷ [], [], spells_f7, refl, refl)),
  ([], front, refl, refl),
)

-- a packet is taken whole
pub no_half_packet : BeginWithAtoms front (e ∷ e ∷ []) → ⊥
no_half_packet other =
    let behind = first_is 0xf7 (0xd9 ∷ 0x2d ∷ 0x01 ∷ 0xf7 ∷ []) (e ∷ e ∷ []) (e ∷ []) other (omega arith) spells_f7 in
    let rest : behind.0 ≡ e ∷ [] = cc in
    let begin = subst (λ (l : List Bool). BeginWithAtoms (0xd9 ∷ 0x2d ∷ 0x01 ∷ 0xf7 ∷ []) l) rest behind.2 in
    let more = first_is 0xd9 (0x2d ∷ 0x01 ∷ 0xf7 ∷ []) (e ∷ []) (e ∷ n ∷ []) begin (omega arith) spells_d9 in absurd (let parts = more.1 in cc)

-- none is taken from behind a packet that is none of atoms
pub none_behind_others : BeginWithAtoms (0xf7 ∷ 0x2d ∷ 0xf7 ∷ []) (e ∷ e ∷ []) → ⊥
none_behind_others other =
    let behind = first_is 0xf7 (0x2d ∷ 0xf7 ∷ []) (e ∷ e ∷ []) (e ∷ []) other (omega arith) spells_f7 in
    let rest : behind.0 ≡ e ∷ [] = cc in
    let begin = subst (λ (l : List Bool). BeginWithAtoms (0x2d ∷ 0xf7 ∷ []) l) rest behind.2 in
    let more = first_tells 0x2d (0xf7 ∷ []) (e ∷ []) begin (omega arith) in absurd (omega (arith, (no_other_tells 0x2d more.0 more.2).0))

-- ---- how far a reader goes for some atoms

told_some : (r r' : PacketReading) (first : List ℕ) (told : List Bool) → ReadsAtoms r first told r' → 0 < length first → 0 < length told
told_some r r' [] told reads some = absurd (omega (arith, some))
told_some r r' (byte ∷ first) told (at, run, next, rest, takes, reads, parts) some =
    let long = ap (λ (l : List Bool). length l) parts ∙ length-append (atoms_in run) rest in
    omega (arith, long, low_bits-length run.count run.bits, takes.values.some)

-- for one atom no second packet is taken
pub no_packet_too_many : (r r' : PacketReading) (at within : ℕ) (run : AtomRun) → ReadsUntil r three 1 at run within (0xfd ∷ []) r' → ⊥
no_packet_too_many r r' at within run until =
    let long = ap (λ (l : List ℕ). length l) until.parts ∙ length-append until.first (until.last ∷ 0xfd ∷ []) in
    absurd (omega (arith, until.count, until.some, told_some r until.before until.first until.told until.reads (omega (arith, long))))

-- ---- atoms that are taken at depth 1: E is held, and N commits it

-- 1000: B.EQ to 1008
abbrev code : Image
code = record { start = 0x1000; bytes = 0x40 ∷ 0x00 ∷ 0x00 ∷ 0x54 ∷ [] } ∷ []

abbrev secure : Ctx
secure = record { el = 0; ns = false; vmid = 0; cid = 0 }

abbrev at : ℕ → State
at address = record { pc = Known address; stack = []; ctx = secure }

abbrev atom : Bool → Thing
atom taken = Seen (record { pre = nothing_told; p0 = Atom taken })

abbrev waits : List Thing → ℕ → ℕ → Waiting
waits held made committed = record {
  pending = record { held = held; pre = nothing_told; informed = true };
  due = [];
  depth = 1;
  counts = record no_counts { made = made; committed = committed };
}

abbrev one : Stretch
one = record { start = 0x1000; place = 0; count = 1; took = true; to_register = false }

none_plain : (address : ℕ) → IsPlainRun code address 0
none_plain address k below = absurd (omega (arith, below))

abbrev ran : Walked
ran = record { on = false; unknown = false; ctx = secure; start = 0x1000; count = 1; took = true; exc = None }

shows : Shows code (at 0x1000) (record { pre = nothing_told; p0 = Atom true }) ran (at 0x1008)
unfolding class_of
shows = record {
  agrees = refl;
  leads = record { plain = 0; class = Cond (pos 8); run = none_plain 0x1000; there = refl; next = refl; counted = refl; kept = refl };
  on = refl;
  unknown = refl;
  start = refl;
  ctx = refl;
  kept = refl;
  exc = refl;
  took = refl;
}

held : StepsByAtom code (waits [] 0 0) (at 0x1000) e [] (waits (atom e ∷ []) 1 0) (at 0x1000)
held = record {
  thing = None;
  commits = record { gone = nothing_gone; rule = refl; commits = refl; counts = refl; depth = refl };
  walks = (refl, refl);
  holds = record { few = omega arith; balanced = refl; range = record { made = omega arith; committed = omega arith; cancelled = omega arith; lost = omega arith } };
  due = refl;
  state = record { pc = refl; stack = All-nil IsAligned; few = omega arith };
  context = refl;
}

turned : StepsByAtom code (waits (atom e ∷ []) 1 0) (at 0x1000) n (one ∷ []) (waits (atom n ∷ []) 2 1) (at 0x1008)
turned = record {
  thing = Some (atom e);
  commits = record { gone = committing (atom e ∷ []); rule = refl; commits = refl; counts = refl; depth = refl };
  walks = inl (_, [], at 0x1008, (ran, shows, refl), (refl, refl), refl);
  holds = record { few = omega arith; balanced = refl; range = record { made = omega arith; committed = omega arith; cancelled = omega arith; lost = omega arith } };
  due = refl;
  state = record { pc = refl; stack = All-nil IsAligned; few = omega arith };
  context = refl;
}

pub two_taken : StepsByAtoms code (waits [] 0 0) (at 0x1000) (e ∷ n ∷ []) (one ∷ []) (waits (atom n ∷ []) 2 1) (at 0x1008)
two_taken = (
  waits (atom e ∷ []) 1 0,
  at 0x1000,
  [],
  one ∷ [],
  held,
  (waits (atom n ∷ []) 2 1, at 0x1008, one ∷ [], [], turned, (refl, refl, refl), refl),
  refl,
)

-- where none is taken, nothing is shown
pub none_shown_by_none : StepsByAtoms code (waits (atom e ∷ []) 1 0) (at 0x1000) [] (one ∷ []) (waits (atom e ∷ []) 1 0) (at 0x1000) → ⊥
none_shown_by_none other = absurd (let same = other.2 in cc)

-- what leaves by an element is what is committed
abbrev committed_in : Taken → List Thing
committed_in (Ok t) = (t.1).committed
committed_in (Err fault) = []

given : (w w' : Waiting) (taken_so : Taken) (gone : Gone) (things : List Thing) → taken_so ≡ Ok (w'.pending, gone) → gone.committed ≡ things ++ w'.due
    → w'.due ≡ [] → committed_in taken_so ≡ things
given w w' taken_so gone things rule commits due =
    ap committed_in rule ∙ commits ∙ ap (λ (l : List Thing). things ++ l) due ∙ append-nil things

shown : (thing : Option Thing) (s s' : State) (things : List Thing) (items : List Item) → things ≡ option_to_list thing
    → Walks code s (option_to_list thing) items (Ok s') → Walks code s things items (Ok s')
shown thing s s' things items same walks = subst (λ (l : List Thing). Walks code s l items (Ok s')) (sym same) walks

-- an atom that is only held shows nothing
pub none_shown_by_held : (w : Waiting) (s : State) → StepsByAtom code (waits [] 0 0) (at 0x1000) e (one ∷ []) w s → ⊥
none_shown_by_held w s other =
    let same = given (waits [] 0 0) w (taken 1 (waits [] 0 0).pending (elem.P0 (Atom e))) other.commits.gone (option_to_list other.thing)
    other.commits.rule other.commits.commits other.due in
    let walks = shown other.thing (at 0x1000) s [] (items_in secure (one ∷ [])) same other.walks in absurd (let none = walks.0 in cc)

some_in : (walked : Walked) (more : ℕ) → walked.on ≡ false → walked.unknown ≡ false → walked.count ≡ suc more → items_of walked ≡ [] → ⊥
some_in walked more on known count none =
    let some : items_of walked ≡ item.Instr walked.start walked.ctx (took_last more walked.took)
    ∷ instructions walked.ctx ((walked.start + 4) % 2 ^ 64) more walked.took ++ exception walked.exc =
    rw (on, known, count) refl in absurd (let both = sym none ∙ some in cc)

none_first : (first rest : List Item) → [] ≡ first ++ rest → first ≡ []
none_first [] rest e = refl
none_first (x ∷ first) rest e = absurd cc

-- an atom that commits one shows what that one does
pub committed_is_shown : (w : Waiting) (s : State) → StepsByAtom code (waits (atom e ∷ []) 1 0) (at 0x1000) n [] w s → ⊥
committed_is_shown w s other =
    let before = waits (atom e ∷ []) 1 0 in
    let same = given before w (taken 1 before.pending (elem.P0 (Atom n))) other.commits.gone (option_to_list other.thing) other.commits.rule
    other.commits.commits other.due in
    elim (shown other.thing (at 0x1000) s (atom e ∷ []) [] same other.walks) [
      | inl (first, rest, next, (walked, is_shown, is), walks, parts) ↦
          let one_more : walked.count ≡ suc is_shown.leads.plain = omega (arith, is_shown.leads.counted) in
          some_in walked is_shown.leads.plain is_shown.on is_shown.unknown one_more (sym is ∙ none_first first rest parts)
      | inr (f, stops, none, outcome) ↦ absurd cc
    ]
