-- How the walk of a late reader stands against that of the whole trace: what each of its entries shows, and which show nothing.
use Rattle.std.specs.Prelude.{◌≡◌, ◌⊎◌, ℕ, ◌+◌, Bool, true, false, ◌||◌, if◌then◌else◌, List, [], ◌∷◌, ◌++◌, Option, Some, None, is_some}
use Rattle.a64_branches.specs.declared.class.Class.TheVariants.{Ind}
use Rattle.etm_types.specs.Context.{initial_context}
use Rattle.etm_types.specs.Walked.{items_of}
use Rattle.etm_types.specs.declared.context.Ctx.{Ctx}
use Rattle.etm_types.specs.declared.element.Entry.{Entry}
use Rattle.etm_types.specs.declared.element.P0.{P0}
use Rattle.etm_types.specs.declared.element.Pre.{Pre}
use Rattle.etm_types.specs.declared.element.Thing.{Thing}
use Rattle.etm_types.specs.declared.element.Thing.TheVariants.{Seen, Unseen, Gap, Stop}
use Rattle.etm_types.specs.declared.item.Item.{Item}
use Rattle.etm_types.specs.declared.item.Item.TheVariants as item
use Rattle.etm_types.specs.declared.walked.Walked.{Walked}
use Rattle.path_elements.specs.PathLaws.{BeginsWith}
use Rattle.path_walker.specs.Start.{pc_before, stack_before}
use Rattle.path_walker.specs.State.{State}
use Rattle.path_walker.specs.Things.{Gives}
use Rattle.path_walker.specs.Walk.{Shows}
use Rattle.path_walker.specs.declared.pc.Pc.TheVariants.{Awaited}
use Rattle.program_image.specs.Blocks.{behind, class_at}
use Rattle.program_image.specs.declared.image.Image.{Image}
use Rattle.late_reader.specs.Marks.{Mark}
use Rattle.late_reader.specs.Rows.{BehindEntry, BehindGap, NoneSeen, Whereabouts, Row}

-- Where both walks stand: the place of the late reader, whether it was told a context, what the entry just before showed to it, where one
-- did, and the states of the two walks.
pub record BothWalks : Type 0 where
  pub place : Whereabouts
  pub told : Bool
  pub last : Option Walked
  pub whole : State
  pub late : State

-- ---- contexts: until it is told one, the late reader has the first of all

abbrev pub told_by : Bool → Pre → Bool
told_by told pre = told || is_some pre.ctx

abbrev pub context_where : Bool → Ctx → Ctx
context_where told whole = if told then whole else initial_context

-- ---- unknown stretches

-- the last instruction of what was shown is BR or RET
pub record EndsInReturn (image : Image) (walked : Walked) : Type 0 where
  pub known : walked.unknown ≡ false
  pub before : ℕ
  pub counted : walked.count ≡ before + 1
  pub returns : class_at image (behind walked.start before) ≡ Some (Ind false)

-- directly behind a BR or RET that the late reader shows, the whole goes on at a return address that the late reader does not have
pub record PopsApart (image : Image) (at : BothWalks) (p q : Pre) : Type 0 where
  pub walked : Walked
  pub shown : at.last ≡ Some walked
  pub ends : EndsInReturn image walked
  pub addr : p.addr ≡ None
  pub awaited : pc_before at.whole p ≡ Awaited true
  pub newest : ℕ
  pub more : List ℕ
  pub pops : stack_before at.whole p ≡ newest ∷ more
  pub empty : stack_before at.late q ≡ []

-- the entry just before was unknown
pub record FollowsUnknown (at : BothWalks) : Type 0 where
  pub walked : Walked
  pub shown : at.last ≡ Some walked
  pub unknown : walked.unknown ≡ true

-- An entry is unknown to the late reader because the one before it was, or because it is the first and trace is missing before it, or
-- because a return address is missing.
abbrev pub IsCause : Image → BothWalks → Pre → Pre → Type 0
IsCause image at p q = FollowsUnknown at ⊎ (((at.place ≡ NoneSeen) × (q.lost ≡ true)) ⊎ PopsApart image at p q)

-- ---- one entry

-- the same instructions, and of the last one the same word on whether it is a conditional branch that was taken
pub record SameInstructions (whole late : Walked) : Type 0 where
  pub known : late.unknown ≡ false
  pub start : late.start ≡ whole.start
  pub count : late.count ≡ whole.count
  pub took : late.took ≡ whole.took

-- An entry with the same P0 element in both, before which this was told to the one and to the other: it shows the same instructions or is
-- unknown, the same exception, an On from behind the info alone, and the same context once one was told. The return addresses of the late
-- reader are the newest of those of the whole.
pub record EntryWalks (image : Image) (at next : BothWalks) (p q : Pre) (p0 : P0) (m : Mark) (whole late : Walked) : Type 0 where
  pub shows : Shows image at.whole (record { pre = p; p0 = p0 }) whole next.whole
  pub shown : Shows image at.late (record { pre = q; p0 = p0 }) late next.late
  pub on : late.on ≡ m.on
  pub exc : late.exc ≡ whole.exc
  pub same : (late.unknown ≡ true) ⊎ SameInstructions whole late
  pub ctx : late.ctx ≡ context_where next.told whole.ctx
  pub untold : late.unknown ≡ true → q.addr ≡ None
  pub cause : late.unknown ≡ true → IsCause image at p q
  pub front : BeginsWith at.late.stack at.whole.stack
  pub left : BeginsWith next.late.stack next.whole.stack
  pub place : next.place ≡ BehindEntry
  pub told : next.told ≡ told_by at.told q
  pub last : next.last ≡ Some late

-- ---- one thing, and the items that it shows in the whole and to the late reader

pub record SeenWalks (image : Image) (at next : BothWalks) (t : Thing) (m : Mark) (entry : Entry) (items others : List Item) : Type 0 where
  pub pre : Pre
  pub same : t ≡ Seen (record { pre = pre; p0 = entry.p0 })
  pub whole : Walked
  pub late : Walked
  pub walks : EntryWalks image at next pre entry.pre entry.p0 m whole late
  pub items_are : items ≡ items_of whole
  pub others_are : others ≡ items_of late

-- an unseen thing shows nothing to the late reader
pub record UnseenWalks (image : Image) (at next : BothWalks) (t : Thing) (items others : List Item) : Type 0 where
  pub gives : Gives image at.whole t items next.whole
  pub none : others ≡ []
  pub stays : next ≡ record at { whole = next.whole }

-- a gap or a stop shows itself to both, and ends a run of unknown entries
pub record GapWalks (at next : BothWalks) (shown : Item) (items others : List Item) : Type 0 where
  pub items_are : items ≡ shown ∷ []
  pub others_are : others ≡ shown ∷ []
  pub stays : next ≡ record at { place = BehindGap; last = None }

abbrev pub ThingWalks : Image → BothWalks → BothWalks → Thing → Mark → Thing → List Item → List Item → Type 0
ThingWalks image at next t m (Seen entry) items others = SeenWalks image at next t m entry items others
ThingWalks image at next t m Unseen items others = UnseenWalks image at next t items others
ThingWalks image at next t m Gap items others = GapWalks at next item.Gap items others
ThingWalks image at next t m Stop items others = GapWalks at next item.Stop items others

-- ---- all things, one after the other

abbrev pub WalkAlike : Image → BothWalks → List Row → List Item → List Item → Type 0
WalkAlike image at [] items others = (items ≡ []) × (others ≡ [])
WalkAlike image at (r ∷ rows) items others =
    (next : BothWalks) × (first : List Item) × (rest : List Item) × (one : List Item) × (more : List Item)
    × ThingWalks image at next r.whole r.mark r.late first one × WalkAlike image next rows rest more × (items ≡ first ++ rest) × (others ≡ one ++ more)
