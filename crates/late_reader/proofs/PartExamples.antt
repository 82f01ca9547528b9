-- What a late reader has of small traces, worked out by hand, beside what it can't have.
use Rattle.std.proofs.Common.{◌≡◌, ℕ, Bool, true, false, List, [], ◌∷◌, map, length, Option, Some, None, ◌+◌}
use Rattle.std.proofs.Common.{refl, sym, ap, ◌∙◌, inl, inr, arith, length-append}
use Rattle.std.proofs.lemmas.List.{length-map}
use Rattle.std.specs.Prelude.{get_or, pos}
use Rattle.a64_branches.specs.Classes.{class_of}
use Rattle.a64_branches.specs.declared.class.Class.TheVariants.{Jump}
use Rattle.element_queue.specs.Resolved.{Resolved}
use Rattle.etm_types.specs.Pre.{nothing_told, trace_missing}
use Rattle.etm_types.specs.declared.context.Ctx.{Ctx}
use Rattle.etm_types.specs.declared.element.Elem.TheVariants as elem
use Rattle.etm_types.specs.declared.element.Elem.{Elem}
use Rattle.etm_types.specs.declared.item.Item.TheVariants as item
use Rattle.etm_types.specs.declared.item.Item.{Item}
use Rattle.etm_types.specs.declared.element.P0.TheVariants.{Atom, Exc}
use Rattle.etm_types.specs.declared.element.P0.{P0}
use Rattle.etm_types.specs.declared.element.Pre.{Pre}
use Rattle.etm_types.specs.declared.element.Thing.TheVariants.{Gap, Seen, Stop, Unseen}
use Rattle.etm_types.specs.declared.element.Thing.{Thing}
use Rattle.etm_types.specs.declared.walked.Walked.{Walked}
use Rattle.path_walker.specs.State.{State, first_state}
use Rattle.path_walker.specs.Start.{context_of, mismatch_of, pc_before, start_of}
use Rattle.path_walker.specs.Walk.{Shows}
use Rattle.path_walker.specs.declared.pc.Pc.TheVariants.{Awaited, Known, Lost}
use Rattle.program_image.specs.declared.image.Image.{Image}
use Rattle.late_reader.specs.Marks.{Mark, Marks, mark, marked, marks_at, marks_behind, old}
use Rattle.late_reader.specs.Rows.{AreAlike, BehindEntry, BehindGap, NoneSeen, Whereabouts, PreAt, Row, late_of, whole_of}
use Rattle.late_reader.specs.Part.{ShowsPart}
use Rattle.late_reader.specs.Walked.{EntryWalks, IsCause, BothWalks, UnseenWalks, WalkAlike, context_where, told_by}

abbrev number_of : Option ℕ → ℕ
number_of None = 0
number_of (Some n) = n

abbrev kernel : Ctx
kernel = record { el = 1; ns = false; vmid = 0; cid = 0 }

abbrev seen : Pre → P0 → Thing
seen pre p0 = Seen (record { pre = pre; p0 = p0 })

abbrev is_e : P0 → Bool
is_e (Atom taken) = taken
is_e (Exc kind ret) = false

abbrev is_taken : Thing → Bool
is_taken (Seen entry) = is_e entry.p0
is_taken thing = false

abbrev row : Thing → Mark → Thing → Row
row whole m late = record { whole = whole; mark = m; late = late }

-- ---- marks: one thing is done and one is held where the trace info comes

abbrev there : Resolved
there = record {
  done = seen nothing_told (Atom true) ∷ [];
  pending = record { held = seen nothing_told (Atom true) ∷ []; pre = nothing_told; informed = true };
}

-- an On, an atom that is cancelled, and another one, which has that On then; an atom behind it has none
pub marked_on : (marks_behind 4 there (marks_at there)
    (elem.On ∷ elem.P0 (Atom true) ∷ elem.Cancel 1 ∷ elem.P0 (Atom false) ∷ elem.P0 (Atom true) ∷ [])).all
    ≡ old ∷ old ∷ mark true true ∷ mark true false ∷ []
marked_on = refl

abbrev on_at : ℕ → List Mark → Bool
on_at k marks = (get_or marks k old).on

-- the On is not gone with the atom
pub on_is_gone : (marks_behind 4 there (marks_at there) (elem.On ∷ elem.P0 (Atom true) ∷ elem.Cancel 1 ∷ elem.P0 (Atom false) ∷ [])).all
    ≡ old ∷ old ∷ mark true false ∷ [] → ⊥
on_is_gone e = let x = ap (on_at 2) e in absurd cc

-- behind each element: two things are done, and two are held, of which the older one has an On; and one was told since, or not
abbrev four_marks : List Mark
four_marks = old ∷ mark true false ∷ mark true true ∷ mark true false ∷ []

abbrev marks : Bool → Marks
marks on = record { all = four_marks; on = on }

abbrev two_and_two : Resolved
two_and_two = record {
  done = seen nothing_told (Atom true) ∷ Gap ∷ [];
  pending = record { held = seen nothing_told (Atom true) ∷ seen nothing_told (Atom false) ∷ []; pre = nothing_told; informed = true };
}

abbrev each_element : List Elem
each_element =
    elem.Info 2 ∷ elem.On ∷ elem.Ctx kernel ∷ elem.Addr 0x1000 ∷ elem.P0 (Atom true) ∷ elem.P0 (Exc 3 0x1000) ∷ elem.Commit 1 ∷ elem.Cancel 0
    ∷ elem.Cancel 1 ∷ elem.Cancel 2 ∷ elem.Flip ∷ elem.Overflow ∷ elem.Discard ∷ []

abbrev marked_as : List Mark → Bool → Marks
marked_as all on = record { all = all; on = on }

pub marked_where_on :
    map (marked two_and_two (marks true)) each_element
    ≡ marks true ∷ marks true ∷ marks true ∷ marks true ∷ marked_as (old ∷ mark true false ∷ mark true true ∷ mark true false ∷ mark true true ∷ []) false
    ∷ marked_as (old ∷ mark true false ∷ mark true true ∷ mark true false ∷ mark true true ∷ []) false ∷ marks true ∷ marks true
    ∷ marked_as (old ∷ mark true false ∷ mark true true ∷ []) false ∷ marked_as (old ∷ mark true false ∷ []) true ∷ marks true
    ∷ marked_as (old ∷ mark true false ∷ mark true false ∷ []) false ∷ marked_as (old ∷ mark true false ∷ mark true false ∷ []) false ∷ []
marked_where_on = refl

pub marked_where_off :
    map (marked two_and_two (marks false)) each_element
    ≡ marks false ∷ marks true ∷ marks false ∷ marks false
    ∷ marked_as (old ∷ mark true false ∷ mark true true ∷ mark true false ∷ mark true false ∷ []) false
    ∷ marked_as (old ∷ mark true false ∷ mark true true ∷ mark true false ∷ mark true false ∷ []) false ∷ marks false ∷ marks false
    ∷ marked_as (old ∷ mark true false ∷ mark true true ∷ []) false ∷ marked_as (old ∷ mark true false ∷ []) true ∷ marks false
    ∷ marked_as (old ∷ mark true false ∷ mark true false ∷ []) false ∷ marked_as (old ∷ mark true false ∷ mark true false ∷ []) false ∷ []
marked_where_off = refl

-- at the info all things are old, and the marks are written out
pub old_at_first :
    marks_at two_and_two
    ≡ record {
      all = record { made = false; on = false } ∷ record { made = false; on = false } ∷ record { made = false; on = false }
          ∷ record { made = false; on = false } ∷ [];
      on = false;
    }
old_at_first = refl

pub each_mark :
    mark false true ∷ mark true false ∷ mark true true ∷ []
    ≡ record { made = false; on = true } ∷ record { made = true; on = false } ∷ record { made = true; on = true } ∷ []
each_mark = refl

-- an overflow puts its own mark in the place of what is held
pub marked_gap : (marks_behind 4 there (marks_at there) (elem.P0 (Atom true) ∷ elem.Overflow ∷ [])).all ≡ old ∷ mark true false ∷ []
marked_gap = refl

-- an On before the trace info is none of the late reader
abbrev on_before : Resolved
on_before = record there { pending = record (there.pending) { pre = record nothing_told { on = true } } }

pub on_of_before : (marks_behind 4 on_before (marks_at on_before) (elem.P0 (Atom true) ∷ [])).all ≡ old ∷ old ∷ mark true true ∷ [] → ⊥
on_of_before e = let x = ap (on_at 2) e in absurd cc

-- ---- things

-- what the late reader has before its first entry: less than the whole, and it knows that trace is missing
abbrev less : Pre
less = record trace_missing { addr = Some 0x1000 }

abbrev more : Pre
more = record nothing_told { addr = Some 0x1000; ctx = Some kernel }

-- One that was held at the trace info, one that was made behind it, a gap, and one behind that.
pub four_things : AreAlike NoneSeen (
    row (seen nothing_told (Atom true)) old Unseen
    ∷ row (seen more (Atom false)) (mark true false) (seen less (Atom false))
    ∷ row Gap (mark true false) Gap
    ∷ row (seen trace_missing (Atom true)) (mark true false) (seen trace_missing (Atom true))
    ∷ []
    )
four_things = (
  (refl, refl),
  (
    record { made = refl; pre = more; same = refl; pres = record { lost = refl; addr = refl; ctx = tt; on = refl } },
    ((refl, refl), (record { made = refl; pre = trace_missing; same = refl; pres = (refl, refl, refl) }, tt)),
  ),
)

-- the other atom stands for none
pub other_atom : AreAlike NoneSeen (row (seen more (Atom true)) (mark true false) (seen less (Atom false)) ∷ []) → ⊥
other_atom a = let e = ap is_taken a.0.same in absurd cc

-- nothing is unseen behind an entry, nor where the element that made it stands behind the trace info
pub unseen_behind : AreAlike BehindEntry (row (seen nothing_told (Atom true)) old Unseen ∷ []) → ⊥
unseen_behind a = let e = a.0.0 in absurd cc

pub unseen_though_made : AreAlike NoneSeen (row (seen nothing_told (Atom true)) (mark true false) Unseen ∷ []) → ⊥
unseen_though_made a = let e = ap (λ (m : Mark). m.made) a.0.1 in absurd cc

-- and what was made before it is not seen
pub seen_though_old : AreAlike NoneSeen (row (seen more (Atom false)) old (seen less (Atom false)) ∷ []) → ⊥
seen_though_old a = let e = a.0.made in absurd cc

-- a gap is no stop
pub gap_or_stop : AreAlike NoneSeen (row Gap (mark true false) Stop ∷ []) → ⊥
gap_or_stop a = let e = a.0.0 in absurd cc

-- ---- what was told

-- not more than to the whole, and nothing else
pub told_more : PreAt NoneSeen false nothing_told less → ⊥
told_more u = let e = u.addr in absurd cc

pub told_elsewhere : PreAt NoneSeen false (record more { addr = Some 0x2000 }) less → ⊥
told_elsewhere u = let e = u.addr in absurd (omega (arith, ap (λ (o : Option ℕ). number_of o) e))

-- that trace is missing
pub not_lost : PreAt NoneSeen false more (record less { lost = false }) → ⊥
not_lost u = let e = u.lost in absurd cc

-- an On from before the trace info
pub old_on : PreAt NoneSeen false (record more { on = true }) (record less { on = true }) → ⊥
old_on u = let e = u.on in absurd cc

-- behind an entry the same
pub less_behind : PreAt BehindEntry false more less → ⊥
less_behind p = let e = ap (λ (q : Pre). q.lost) p.0 in absurd cc

-- ---- contexts

pub first_until_told : context_where (told_by false nothing_told) kernel ≡ record { el = 0; ns = false; vmid = 0; cid = 0 }
first_until_told = refl

pub then_that_of_the_whole : (context_where (told_by true nothing_told) kernel ≡ kernel) × (context_where (told_by false more) kernel ≡ kernel)
then_that_of_the_whole = (refl, refl)

-- ---- unknown entries

abbrev known : Walked
known = record { on = false; unknown = false; ctx = kernel; start = 0x1000; count = 1; took = false; exc = None }

abbrev unknown : Walked
unknown = record { on = false; unknown = true; ctx = kernel; start = 0; count = 0; took = false; exc = None }

abbrev awaiting : List ℕ → State
awaiting stack = record { pc = Awaited true; stack = stack; ctx = kernel }

-- the first one, where trace is missing
pub at_first : (image : Image) → IsCause image (record { place = NoneSeen; told = false; last = None; whole = awaiting []; late = first_state }) more less
at_first image = inr (inl (refl, refl))

-- one behind an unknown one
pub behind_unknown : (image : Image) (pre : Pre)
    → IsCause image (record { place = BehindEntry; told = false; last = Some unknown; whole = awaiting []; late = first_state }) pre pre
behind_unknown image pre = inl (record { walked = unknown; shown = refl; unknown = refl })

-- behind one that was shown, only where the whole takes a return address, and the late reader has none
abbrev behind_known : State → State → BothWalks
behind_known whole late = record { place = BehindEntry; told = true; last = Some known; whole = whole; late = late }

pub none_to_take : (image : Image) → IsCause image (behind_known (awaiting []) (awaiting [])) nothing_told nothing_told → ⊥
none_to_take image (inl follows) = let e = follows.shown in let f = follows.unknown in absurd cc
none_to_take image (inr (inl first)) = let e = first.0 in absurd cc
none_to_take image (inr (inr pops)) = let e = pops.pops in absurd cc

pub one_to_take : (image : Image) → IsCause image (behind_known (awaiting (1 ∷ [])) (awaiting (1 ∷ []))) nothing_told nothing_told → ⊥
one_to_take image (inl follows) = let e = follows.shown in let f = follows.unknown in absurd cc
one_to_take image (inr (inl first)) = let e = first.0 in absurd cc
one_to_take image (inr (inr pops)) = let e = pops.empty in absurd cc

-- at 1000: RET; B to itself
abbrev returning : Image
returning = record { start = 0x1000; bytes = 0xc0 ∷ 0x03 ∷ 0x5f ∷ 0xd6 ∷ 0x00 ∷ 0x00 ∷ 0x00 ∷ 0x14 ∷ [] } ∷ []

pub one_missing : IsCause returning (behind_known (awaiting (0x3004 ∷ [])) (awaiting [])) nothing_told nothing_told
unfolding class_of
one_missing =
    inr (inr (record {
      walked = known;
      shown = refl;
      ends = record { known = refl; before = 0; counted = refl; returns = refl };
      addr = refl;
      awaited = refl;
      newest = 0x3004;
      more = [];
      pops = refl;
      empty = refl;
    }))

-- nor because trace is missing, where it is not the first
abbrev missing : Pre
missing = record nothing_told { lost = true }

pub missing_behind : (image : Image) → IsCause image (behind_known (awaiting []) (awaiting [])) missing missing → ⊥
missing_behind image (inl follows) = let e = follows.shown in let f = follows.unknown in absurd cc
missing_behind image (inr (inl first)) = let e = first.0 in absurd cc
missing_behind image (inr (inr pops)) = let e = pops.pops in absurd cc

-- nor behind a gap
pub behind_a_gap : (image : Image)
    → IsCause image (record { place = BehindGap; told = true; last = None; whole = awaiting (1 ∷ []); late = awaiting [] }) nothing_told nothing_told → ⊥
behind_a_gap image (inl follows) = let e = follows.shown in absurd cc
behind_a_gap image (inr (inl first)) = let e = first.0 in absurd cc
behind_a_gap image (inr (inr pops)) = let e = pops.shown in absurd cc

-- ---- an entry of each kind: B at 1004, which the late reader does not know at first, and then does; and one that it shows nothing of

abbrev there_with : List ℕ → Ctx → State
there_with stack ctx = record { pc = Known 0x1004; stack = stack; ctx = ctx }

abbrev jumped : Ctx → Walked
jumped ctx = record { on = false; unknown = false; ctx = ctx; start = 0x1004; count = 1; took = false; exc = None }

abbrev first_context : Ctx
first_context = record { el = 0; ns = false; vmid = 0; cid = 0 }

jump_shown : (stack : List ℕ) (at : State) (pre : Pre) → start_of at pre ≡ record { at = Some 0x1004; stack = stack }
    → mismatch_of (pc_before at pre) pre.addr ≡ None → pre.on ≡ false
    → Shows returning at (record { pre = pre; p0 = Atom true }) (jumped (context_of at pre)) (there_with stack (context_of at pre))
unfolding class_of
jump_shown stack at pre starts agrees off = record {
  agrees = agrees;
  leads = rw starts (record {
    plain = 0;
    class = Jump (pos 0) false;
    run = λ k below. absurd (omega (arith, below));
    there = refl;
    next = refl;
    counted = refl;
    kept = refl;
  });
  on = sym off;
  unknown = rw starts refl;
  start = rw starts refl;
  ctx = refl;
  kept = refl;
  exc = refl;
  took = rw starts refl;
}

unknown_shown : (image : Image) → Shows image first_state (record { pre = trace_missing; p0 = Atom true }) (record unknown { ctx = first_context })
    (record { pc = Lost; stack = []; ctx = first_context })
unknown_shown image =
    record
    { agrees = refl; leads = (refl, refl, refl); on = refl; unknown = refl; start = refl; ctx = refl; kept = refl; exc = refl; took = refl }

-- the whole is told the address and the context, before the info, and the late reader neither
abbrev told_before : Pre
told_before = record nothing_told { addr = Some 0x1004; ctx = Some kernel }

abbrev entered : State → BothWalks
entered whole = record { place = NoneSeen; told = false; last = None; whole = whole; late = first_state }

pub unknown_at_first :
    EntryWalks returning (entered (record { pc = Lost; stack = 0x3004 ∷ []; ctx = first_context })) (record {
      place = BehindEntry;
      told = false;
      last = Some (record unknown { ctx = first_context });
      whole = there_with (0x3004 ∷ []) kernel;
      late = record { pc = Lost; stack = []; ctx = first_context };
    })
    told_before trace_missing (Atom true) (mark true false) (jumped kernel) (record unknown { ctx = first_context })
unfolding class_of
unknown_at_first = record {
  shows = jump_shown (0x3004 ∷ []) (record { pc = Lost; stack = 0x3004 ∷ []; ctx = first_context }) told_before refl refl refl;
  shown = unknown_shown returning;
  on = refl;
  exc = refl;
  same = inl refl;
  ctx = refl;
  untold = λ e. refl;
  cause = λ e. inr (inl (refl, refl));
  front = (0x3004 ∷ [], refl);
  left = (0x3004 ∷ [], refl);
  place = refl;
  told = refl;
  last = refl;
}

-- both are told the address, and the late reader the context too
abbrev found : BothWalks
found = record { place = BehindEntry; told = true; last = Some (jumped kernel); whole = there_with (0x3004 ∷ []) kernel; late = there_with [] kernel }

pub known_behind : EntryWalks returning found found nothing_told nothing_told (Atom true) (mark true false) (jumped kernel) (jumped kernel)
unfolding class_of
known_behind = record {
  shows = jump_shown (0x3004 ∷ []) (there_with (0x3004 ∷ []) kernel) nothing_told refl refl refl;
  shown = jump_shown [] (there_with [] kernel) nothing_told refl refl refl;
  on = refl;
  exc = refl;
  same = inr (record { known = refl; start = refl; count = refl; took = refl });
  ctx = refl;
  untold = λ e. absurd cc;
  cause = λ e. absurd cc;
  front = (0x3004 ∷ [], refl);
  left = (0x3004 ∷ [], refl);
  place = refl;
  told = refl;
  last = refl;
}

-- an unseen thing in the place of that entry, a gap and a stop; then all of them one after the other
abbrev standing : Whereabouts → Option Walked → BothWalks
standing place last = record { place = place; told = true; last = last; whole = there_with (0x3004 ∷ []) kernel; late = there_with [] kernel }

abbrev their_rows : List Row
their_rows =
    row (seen nothing_told (Atom true)) old Unseen ∷ row (seen nothing_told (Atom true)) (mark true false) (seen nothing_told (Atom true))
    ∷ row Gap (mark true false) Gap ∷ row Stop (mark true false) Stop ∷ []

abbrev a_jump : Item
a_jump = item.Instr 0x1004 kernel false

jump_given : Shows returning (there_with (0x3004 ∷ []) kernel) (record { pre = nothing_told; p0 = Atom true }) (jumped kernel) (there_with (0x3004 ∷ []) kernel)
jump_given = jump_shown (0x3004 ∷ []) (there_with (0x3004 ∷ []) kernel) nothing_told refl refl refl

pub walked_alike :
    WalkAlike returning (standing BehindEntry (Some (jumped kernel))) their_rows (a_jump ∷ a_jump ∷ item.Gap ∷ item.Stop ∷ [])
    (a_jump ∷ item.Gap ∷ item.Stop ∷ [])
walked_alike = (
  standing BehindEntry (Some (jumped kernel)),
  a_jump ∷ [],
  a_jump ∷ item.Gap ∷ item.Stop ∷ [],
  [],
  a_jump ∷ item.Gap ∷ item.Stop ∷ [],
  record { gives = (jumped kernel, jump_given, refl); none = refl; stays = refl },
  (
    standing BehindEntry (Some (jumped kernel)),
    a_jump ∷ [],
    item.Gap ∷ item.Stop ∷ [],
    a_jump ∷ [],
    item.Gap ∷ item.Stop ∷ [],
    record
        { pre = nothing_told; same = refl; whole = jumped kernel; late = jumped kernel; walks = known_behind; items_are = refl; others_are = refl },
    (
      standing BehindGap None,
      item.Gap ∷ [],
      item.Stop ∷ [],
      item.Gap ∷ [],
      item.Stop ∷ [],
      record { items_are = refl; others_are = refl; stays = refl },
      (
        standing BehindGap None,
        item.Stop ∷ [],
        [],
        item.Stop ∷ [],
        [],
        record { items_are = refl; others_are = refl; stays = refl },
        (refl, refl),
        refl,
        refl,
      ),
      refl,
      refl,
    ),
    refl,
    refl,
  ),
  refl,
  refl,
)

-- an unseen thing is walked by the whole, which goes on, and the late reader stays
pub the_whole_goes_on :
    UnseenWalks returning (record (standing NoneSeen None) { whole = record { pc = Lost; stack = 0x3004 ∷ []; ctx = kernel } }) (standing NoneSeen None)
    (seen told_before (Atom true)) (a_jump ∷ []) []
the_whole_goes_on = record {
  gives = (jumped kernel, jump_shown (0x3004 ∷ []) (record { pc = Lost; stack = 0x3004 ∷ []; ctx = kernel }) told_before refl refl refl, refl);
  none = refl;
  stays = refl;
}

-- ---- an entry: what does not stand for what the whole shows of it

module _ (image : Image) (at next : BothWalks) (p q : Pre) (p0 : P0) (m : Mark) where
  abbrev Walks : Walked → Walked → Type 0
  Walks whole late = EntryWalks image at next p q p0 m whole late

  pub other_start : Walks known (record known { start = 0x2000 }) → ⊥
  other_start w = elim w.same [ inl e ↦ absurd cc | inr s ↦ absurd (omega (arith, s.start)) ]

  pub other_count : Walks known (record known { count = 2 }) → ⊥
  other_count w = elim w.same [ inl e ↦ absurd cc | inr s ↦ absurd (omega (arith, s.count)) ]

  -- the other way at its last instruction
  pub other_way : Walks known (record known { took = true }) → ⊥
  other_way w = elim w.same [ inl e ↦ absurd cc | inr s ↦ let e = s.took in absurd cc ]

  -- an unknown entry has its exception all the same
  pub no_exception : Walks (record known { exc = Some (record { kind = 5; ret = 0x1004 }) }) unknown → ⊥
  no_exception w = let e = w.exc in absurd cc

  pub an_exception_more : Walks known (record unknown { exc = Some (record { kind = 5; ret = 0x1004 }) }) → ⊥
  an_exception_more w = let e = w.exc in absurd cc

  -- an On from before the trace info is not shown, and one from behind it is
  pub on_is_shown : m.on ≡ false → Walks known (record known { on = true }) → ⊥
  on_is_shown e w = let f = w.on ∙ e in absurd cc

  pub on_is_not_shown : m.on ≡ true → Walks known known → ⊥
  on_is_not_shown e w = let f = w.on ∙ e in absurd cc

  -- once a context was told, it is that of the whole, and before that the first of all
  pub other_context : next.told ≡ true → Walks (record known { ctx = record kernel { el = 0 } }) known → ⊥
  other_context e w = absurd (omega (arith, ap (λ (c : Ctx). c.el) (w.ctx ∙ ap (λ b. context_where b (record kernel { el = 0 })) e)))

  pub context_untold : next.told ≡ false → Walks known known → ⊥
  context_untold e w = absurd (omega (arith, ap (λ (c : Ctx). c.el) (w.ctx ∙ ap (λ b. context_where b kernel) e)))

  -- an entry before which an address was told is known
  pub unknown_though_told : q.addr ≡ Some 0x1000 → Walks known unknown → ⊥
  unknown_though_told e w = let f = sym (w.untold refl) ∙ e in absurd cc

  -- return addresses that the whole does not have
  pub other_stack : at.whole.stack ≡ [] → at.late.stack ≡ 0x1004 ∷ [] → Walks known known → ⊥
  other_stack e f w = absurd (omega (arith, ap length e, ap length f, ap length w.front.1, length-append at.late.stack w.front.0))

  pub other_stack_left : next.whole.stack ≡ [] → next.late.stack ≡ 0x1004 ∷ [] → Walks known known → ⊥
  other_stack_left e f w = absurd (omega (arith, ap length e, ap length f, ap length w.left.1, length-append next.late.stack w.left.0))

-- ---- things: a gap is shown to both, and an unseen thing to the whole alone

module _ (image : Image) (at : BothWalks) where
  pub gap_is_shown : WalkAlike image at (row Gap (mark true false) Gap ∷ []) (item.Gap ∷ []) [] → ⊥
  gap_is_shown (next, first, rest, one, others, walks, ends, parts, are) =
      absurd (omega (arith, ap length are, ap length walks.others_are, length-append one others))

  pub unseen_is_shown : (items : List Item) → WalkAlike image at (row (seen nothing_told (Atom true)) old Unseen ∷ []) items (item.Unknown ∷ []) → ⊥
  unseen_is_shown items (next, first, rest, one, others, walks, ends, parts, are) =
      absurd (omega (arith, ap length are, ap length walks.none, ap length ends.1, length-append one others))

-- as many things are done of the late reader as of the whole behind the trace info
pub as_many : (image : Image) (depth announced : ℕ) (at whole : Resolved) (elements : List Elem) (items : List Item)
    → (part : ShowsPart image depth announced at elements whole items) → length at.done + length part.late.done ≡ length whole.done
as_many image depth announced at whole elements items part =
    omega (
      arith,
      ap length part.done,
      ap length part.shown,
      length-append at.done (map whole_of part.rows),
      length-map part.rows whole_of,
      length-map part.rows late_of,
    )
