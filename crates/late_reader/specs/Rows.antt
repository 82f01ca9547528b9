-- How the things of a whole trace stand against those of a late reader: one that enters the trace at a trace info in it.
use Rattle.std.specs.Prelude.{◌≡◌, Bool, true, false, List, [], ◌∷◌, Option, Some, None, ⊤}
use Rattle.etm_types.specs.declared.element.Entry.{Entry}
use Rattle.etm_types.specs.declared.element.Pre.{Pre}
use Rattle.etm_types.specs.declared.element.Thing.{Thing}
use Rattle.etm_types.specs.declared.element.Thing.TheVariants.{Seen, Unseen, Gap, Stop}
use Rattle.late_reader.specs.Marks.{Mark, mark, old}

-- where the late reader is: it has seen no thing yet, it is directly behind a gap or a stop, or behind an entry
pub data Whereabouts : Type 0 where
  NoneSeen : Whereabouts
  BehindGap : Whereabouts
  BehindEntry : Whereabouts

-- what the late reader was told the whole has too
abbrev pub Within : {X : Type 0} → Option X → Option X → Type 0
Within None whole = ⊤
Within (Some x) whole = whole ≡ Some x

-- Before the first entry that it sees, some of what was told may be missing, and it knows that trace is missing. It has an On where that
-- one stands behind the info.
pub record Unsure (has_on : Bool) (whole late : Pre) : Type 0 where
  pub lost : late.lost ≡ true
  pub addr : Within late.addr whole.addr
  pub ctx : Within late.ctx whole.ctx
  pub on : late.on ≡ has_on

-- what was told to both; behind a gap or a stop trace is missing in the whole too
abbrev pub PreAt : Whereabouts → Bool → Pre → Pre → Type 0
PreAt NoneSeen has_on whole late = Unsure has_on whole late
PreAt BehindGap has_on whole late = (late ≡ whole) × (late.on ≡ has_on) × (late.lost ≡ true)
PreAt BehindEntry has_on whole late = (late ≡ whole) × (late.on ≡ has_on)

-- the same P0 element, made behind the info
pub record EntryAt (place : Whereabouts) (m : Mark) (whole : Thing) (late : Entry) : Type 0 where
  pub made : m.made ≡ true
  pub pre : Pre
  pub same : whole ≡ Seen (record { pre = pre; p0 = late.p0 })
  pub pres : PreAt place m.on pre late.pre

-- a thing of the whole, and what the late reader has in its place: an unseen thing for one that was held at the info, and the same for others
abbrev pub ThingAt : Whereabouts → Mark → Thing → Thing → Type 0
ThingAt place m whole (Seen entry) = EntryAt place m whole entry
ThingAt place m whole Unseen = (place ≡ NoneSeen) × (m ≡ old)
ThingAt place m whole Gap = (whole ≡ Gap) × (m ≡ mark true false)
ThingAt place m whole Stop = (whole ≡ Stop) × (m ≡ mark true false)

abbrev pub place_behind : Whereabouts → Thing → Whereabouts
place_behind place (Seen entry) = BehindEntry
place_behind place Unseen = place
place_behind place Gap = BehindGap
place_behind place Stop = BehindGap

-- a thing of the whole, its mark, and the thing of the late reader in its place
pub record Row : Type 0 where
  pub whole : Thing
  pub mark : Mark
  pub late : Thing

abbrev pub whole_of : Row → Thing
whole_of r = r.whole

abbrev pub mark_of : Row → Mark
mark_of r = r.mark

abbrev pub late_of : Row → Thing
late_of r = r.late

-- all things from a place on
abbrev pub AreAlike : Whereabouts → List Row → Type 0
AreAlike place [] = ⊤
AreAlike place (r ∷ rows) = ThingAt place r.mark r.whole r.late × AreAlike (place_behind place r.late) rows
