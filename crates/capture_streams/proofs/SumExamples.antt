-- What is summed over streams, worked out by hand: each byte adds two items, with what its stream had before; and what was written of pairs.
use Rattle.std.proofs.Common.{◌≡◌, ℕ, ◌+◌, ◌*◌, ◌==◌, Bool, true, false, List, [], ◌∷◌, ◌++◌, length, map, Some, None, Result, Ok, Err, refl, ap, arith}
use Rattle.std.specs.Prelude.{◌||◌, get_or}
use Rattle.etm_types.specs.Settings.{Sizes}
use Rattle.etm_types.specs.declared.item.Item.{Item}
use Rattle.capture_streams.specs.Demuxed.{raw_pairs}
use Rattle.capture_streams.specs.Laid.{IsLaid, Laid, Rests}
use Rattle.capture_streams.specs.Laws.{lines_with}
use Rattle.capture_streams.specs.Streams.{Adds}
use Rattle.capture_streams.specs.Texts.{AddedFrom, BodyFrom, EndsOf, IsEnding, IsSum, IsText, Listing, Printed, StreamAdded, StreamEnds}
use Rattle.capture_streams.specs.Texts.{by_sizes, of, sources}
use Rattle.etm_types.specs.declared.item.Item.TheVariants as item
use Rattle.path_text.specs.EndLines.{frame_cut_line}
use Rattle.trace_io.specs.State.{IoState}

-- ---- what is printed

-- the first byte that a stream had, and how many
abbrev first_of : List ℕ → ℕ
first_of had = get_or had 0 7

-- the lines of a sum: the ID and the numbers of each item
abbrev numbers : Item → List ℕ
numbers (item.Exc kind ret) = kind ∷ ret ∷ 10 ∷ []
numbers other = 10 ∷ []

abbrev summing : Listing
summing = record {
  gains = λ id had byte lines. lines ≡ (id ∷ first_of had ∷ length had ∷ byte ∷ 10 ∷ []) ∷ [];
  ends = λ id had line faulty. (line ≡ id ∷ first_of had ∷ length had ∷ 10 ∷ []) × (faulty ≡ false);
  adds = λ id had byte items. items ≡ item.Exc byte (1000 * first_of had + length had) ∷ item.Stop ∷ [];
  sums = λ items. map (λ (i : ℕ × Item). i.0 ∷ numbers i.1) items;
}

-- two streams, and a byte of none between them
abbrev pairs : List (ℕ × ℕ)
pairs = (2, 50) ∷ (0, 9) ∷ (1, 40) ∷ (2, 51) ∷ (2, 52) ∷ []

-- ---- what they add

abbrev items : List (ℕ × Item)
items =
    (2, item.Exc 50 7000) ∷ (2, item.Stop) ∷ (1, item.Exc 40 7000) ∷ (1, item.Stop) ∷ (2, item.Exc 51 50001) ∷ (2, item.Stop)
    ∷ (2, item.Exc 52 50002) ∷ (2, item.Stop) ∷ []

abbrev two_items : ℕ → ℕ → List Item
two_items byte had = item.Exc byte had ∷ item.Stop ∷ []

pub all_added : AddedFrom summing [] pairs items
all_added = (
  two_items 50 7000,
  (1, item.Exc 40 7000) ∷ (1, item.Stop) ∷ (2, item.Exc 51 50001) ∷ (2, item.Stop) ∷ (2, item.Exc 52 50002) ∷ (2, item.Stop) ∷ [],
  refl,
  (
    [],
    (1, item.Exc 40 7000) ∷ (1, item.Stop) ∷ (2, item.Exc 51 50001) ∷ (2, item.Stop) ∷ (2, item.Exc 52 50002) ∷ (2, item.Stop) ∷ [],
    refl,
    (
      two_items 40 7000,
      (2, item.Exc 51 50001) ∷ (2, item.Stop) ∷ (2, item.Exc 52 50002) ∷ (2, item.Stop) ∷ [],
      refl,
      (
        two_items 51 50001,
        (2, item.Exc 52 50002) ∷ (2, item.Stop) ∷ [],
        refl,
        (two_items 52 50002, [], refl, refl, refl),
        refl,
      ),
      refl,
    ),
    refl,
  ),
  refl,
)

-- the same of the bytes of the one stream
pub added_by_2 : StreamAdded summing 2 [] (50 ∷ 51 ∷ 52 ∷ [])
    (two_items 50 7000 ++ (two_items 51 50001 ++ two_items 52 50002))
added_by_2 = (
  two_items 50 7000,
  two_items 51 50001 ++ two_items 52 50002,
  refl,
  (two_items 51 50001, two_items 52 50002, refl, (two_items 52 50002, [], refl, refl, refl), refl),
  refl,
)

abbrev of_none : List (List ℕ) → List Printed
of_none lines = map (λ (line : List ℕ). record { id = None; line = line }) lines

abbrev sum : List Printed
sum =
    record { id = None; line = 2 ∷ 50 ∷ 7000 ∷ 10 ∷ [] } ∷ record { id = None; line = 2 ∷ 10 ∷ [] }
    ∷ record { id = None; line = 1 ∷ 40 ∷ 7000 ∷ 10 ∷ [] } ∷ record { id = None; line = 1 ∷ 10 ∷ [] }
    ∷ record { id = None; line = 2 ∷ 51 ∷ 50001 ∷ 10 ∷ [] } ∷ record { id = None; line = 2 ∷ 10 ∷ [] }
    ∷ record { id = None; line = 2 ∷ 52 ∷ 50002 ∷ 10 ∷ [] } ∷ record { id = None; line = 2 ∷ 10 ∷ [] } ∷ []

pub summed : IsSum summing pairs sum
summed = (items, all_added, refl)

-- ---- the whole text

abbrev line : ℕ → List ℕ → Printed
line id bytes = record { id = Some id; line = bytes }

abbrev body : List Printed
body =
    line 2 (2 ∷ 7 ∷ 0 ∷ 50 ∷ 10 ∷ []) ∷ line 1 (1 ∷ 7 ∷ 0 ∷ 40 ∷ 10 ∷ []) ∷ line 2 (2 ∷ 50 ∷ 1 ∷ 51 ∷ 10 ∷ [])
    ∷ line 2 (2 ∷ 50 ∷ 2 ∷ 52 ∷ 10 ∷ []) ∷ []

pub all_gained : BodyFrom summing [] pairs body
all_gained = (
  (2 ∷ 7 ∷ 0 ∷ 50 ∷ 10 ∷ []) ∷ [],
  line 1 (1 ∷ 7 ∷ 0 ∷ 40 ∷ 10 ∷ []) ∷ line 2 (2 ∷ 50 ∷ 1 ∷ 51 ∷ 10 ∷ []) ∷ line 2 (2 ∷ 50 ∷ 2 ∷ 52 ∷ 10 ∷ []) ∷ [],
  refl,
  (
    [],
    line 1 (1 ∷ 7 ∷ 0 ∷ 40 ∷ 10 ∷ []) ∷ line 2 (2 ∷ 50 ∷ 1 ∷ 51 ∷ 10 ∷ []) ∷ line 2 (2 ∷ 50 ∷ 2 ∷ 52 ∷ 10 ∷ []) ∷ [],
    refl,
    (
      (1 ∷ 7 ∷ 0 ∷ 40 ∷ 10 ∷ []) ∷ [],
      line 2 (2 ∷ 50 ∷ 1 ∷ 51 ∷ 10 ∷ []) ∷ line 2 (2 ∷ 50 ∷ 2 ∷ 52 ∷ 10 ∷ []) ∷ [],
      refl,
      (
        (2 ∷ 50 ∷ 1 ∷ 51 ∷ 10 ∷ []) ∷ [],
        line 2 (2 ∷ 50 ∷ 2 ∷ 52 ∷ 10 ∷ []) ∷ [],
        refl,
        ((2 ∷ 50 ∷ 2 ∷ 52 ∷ 10 ∷ []) ∷ [], [], refl, refl, refl),
        refl,
      ),
      refl,
    ),
    refl,
  ),
  refl,
)

abbrev end_of : ℕ → List ℕ → List Printed
end_of id [] = []
end_of id (b ∷ bytes) = line id (id ∷ b ∷ length (b ∷ bytes) ∷ 10 ∷ []) ∷ []

abbrev ends_of : List ℕ → List Printed
ends_of [] = []
ends_of (id ∷ ids) = end_of id (of id pairs) ++ ends_of ids

end_is : (id : ℕ) (bytes : List ℕ) → StreamEnds summing id bytes (end_of id bytes) false
end_is id [] = (refl, refl)
end_is id (b ∷ bytes) = (id ∷ b ∷ length (b ∷ bytes) ∷ 10 ∷ [], (refl, refl), refl)

ends_are : (ids : List ℕ) → EndsOf summing pairs ids (ends_of ids) false
ends_are [] = (refl, refl)
ends_are (id ∷ ids) = (end_of id (of id pairs), ends_of ids, false, false, end_is id (of id pairs), ends_are ids, refl, refl)

-- the sum stands before the ends, and those before a frame that is cut
abbrev ending : List Printed
ending =
    sum ++ line 1 (1 ∷ 40 ∷ 1 ∷ 10 ∷ []) ∷ line 2 (2 ∷ 50 ∷ 3 ∷ 10 ∷ []) ∷ record { id = None; line = frame_cut_line 3 } ∷ []

pub is_ending : IsEnding summing pairs 3 ending true
unfolding sources
is_ending = record {
  sums = sum;
  summed = summed;
  ends = line 1 (1 ∷ 40 ∷ 1 ∷ 10 ∷ []) ∷ line 2 (2 ∷ 50 ∷ 3 ∷ 10 ∷ []) ∷ [];
  some_fault = false;
  ended = ends_are sources;
  all = refl;
  fault = refl;
}

pub is_text : IsText summing pairs 3 (body ++ ending) true
is_text = record { body = body; ending = ending; gained = all_gained; ended = is_ending; all = refl }

-- where one byte is left over a frame is cut as well, and where none is, none
abbrev both_ends : List Printed
both_ends = line 1 (1 ∷ 40 ∷ 1 ∷ 10 ∷ []) ∷ line 2 (2 ∷ 50 ∷ 3 ∷ 10 ∷ []) ∷ []

pub one_is_cut : IsEnding summing pairs 1 (sum ++ (both_ends ++ record { id = None; line = frame_cut_line 1 } ∷ [])) true
unfolding sources
one_is_cut = record { sums = sum; summed = summed; ends = both_ends; some_fault = false; ended = ends_are sources; all = refl; fault = refl }

pub none_is_cut : IsEnding summing pairs 0 (sum ++ both_ends) false
unfolding sources
none_is_cut = record { sums = sum; summed = summed; ends = both_ends; some_fault = false; ended = ends_are sources; all = refl; fault = refl }

-- a line of no stream is among the lines of none
pub none_with_an_id : lines_with 2 (sum ++ line 2 (9 ∷ []) ∷ line 3 (8 ∷ []) ∷ line 1 (7 ∷ []) ∷ []) ≡ line 2 (9 ∷ []) ∷ []
none_with_an_id = refl

-- ---- 02 ends with a fault, and 01 does not: that is one of all

abbrev faulting : Listing
faulting = record summing { ends = λ id had line faulty. (line ≡ id ∷ 10 ∷ []) × (faulty ≡ (id == 2)) }

abbrev fault_of : ℕ → List ℕ → Bool
fault_of id [] = false
fault_of id (b ∷ bytes) = id == 2

abbrev fault_among : List ℕ → Bool
fault_among [] = false
fault_among (id ∷ ids) = fault_of id (of id pairs) || fault_among ids

abbrev short_end : ℕ → List ℕ → List Printed
short_end id [] = []
short_end id (b ∷ bytes) = line id (id ∷ 10 ∷ []) ∷ []

abbrev short_ends : List ℕ → List Printed
short_ends [] = []
short_ends (id ∷ ids) = short_end id (of id pairs) ++ short_ends ids

short_end_is : (id : ℕ) (bytes : List ℕ) → StreamEnds faulting id bytes (short_end id bytes) (fault_of id bytes)
short_end_is id [] = (refl, refl)
short_end_is id (b ∷ bytes) = (id ∷ 10 ∷ [], (refl, refl), refl)

short_ends_are : (ids : List ℕ) → EndsOf faulting pairs ids (short_ends ids) (fault_among ids)
short_ends_are [] = (refl, refl)
short_ends_are (id ∷ ids) =
    let bytes = of id pairs in
    (short_end id bytes, short_ends ids, fault_of id bytes, fault_among ids, short_end_is id bytes, short_ends_are ids, refl, refl)

pub a_fault_and_no_cut : IsEnding faulting pairs 0 (sum ++ line 1 (1 ∷ 10 ∷ []) ∷ line 2 (2 ∷ 10 ∷ []) ∷ []) true
unfolding sources
a_fault_and_no_cut = record {
  sums = sum;
  summed = (items, all_added, refl);
  ends = line 1 (1 ∷ 10 ∷ []) ∷ line 2 (2 ∷ 10 ∷ []) ∷ [];
  some_fault = true;
  ended = short_ends_are sources;
  all = refl;
  fault = refl;
}

-- ---- by the sizes of each stream

abbrev sized : Sizes → Listing
sized s = record {
  gains = λ id had byte lines. lines ≡ [];
  ends = λ id had line faulty. (line ≡ s.depth ∷ []) × (faulty ≡ false);
  adds = λ id had byte items. items ≡ item.Exc s.depth byte ∷ [];
  sums = λ items. map (λ (i : ℕ × Item). i.0 ∷ numbers i.1) items;
}

abbrev seven_and_eight : ℕ → Sizes
seven_and_eight id = record { depth = 6 + id; vmid_bytes = 0; cid_bytes = 0 }

pub added_by_sizes : AddedFrom (by_sizes sized seven_and_eight) [] ((2, 50) ∷ (1, 40) ∷ []) ((2, item.Exc 8 50) ∷ (1, item.Exc 7 40) ∷ [])
added_by_sizes = (item.Exc 8 50 ∷ [], (1, item.Exc 7 40) ∷ [], refl, (item.Exc 7 40 ∷ [], [], refl, refl, refl), refl)

pub sum_by_sizes : (by_sizes sized seven_and_eight).sums ((2, item.Exc 8 50) ∷ []) ≡ (2 ∷ 8 ∷ 50 ∷ 10 ∷ []) ∷ []
sum_by_sizes = refl

-- ---- what was written of pairs

abbrev shows : List ℕ → ℕ → IoState
shows bytes faults = record { bytes = Some bytes; faults = faults }

abbrev AddsTo : List (ℕ × ℕ) → List (ℕ × ℕ) → IoState → IoState → Result ℕ ℕ → Type 0
AddsTo = Adds summing

-- behind a byte of its stream, two pairs are written whole
pub adds_both : AddsTo ((1, 40) ∷ []) ((1, 41) ∷ (2, 50) ∷ []) (shows (3 ∷ []) 5) (shows (3 ∷ 1 ∷ 40 ∷ 1 ∷ 41 ∷ 10 ∷ 2 ∷ 7 ∷ 0 ∷ 50 ∷ 10 ∷ []) 5) (Ok 6)
adds_both = record {
  took = (1, 41) ∷ (2, 50) ∷ [];
  others = [];
  parts = refl;
  lines = line 1 (1 ∷ 40 ∷ 1 ∷ 41 ∷ 10 ∷ []) ∷ line 2 (2 ∷ 7 ∷ 0 ∷ 50 ∷ 10 ∷ []) ∷ [];
  body = ((1 ∷ 40 ∷ 1 ∷ 41 ∷ 10 ∷ []) ∷ [], line 2 (2 ∷ 7 ∷ 0 ∷ 50 ∷ 10 ∷ []) ∷ [], refl, ((2 ∷ 7 ∷ 0 ∷ 50 ∷ 10 ∷ []) ∷ [], [], refl, refl, refl), refl);
  writes = record { whole = refl; front = tt; shows = refl; cause = record { later = omega arith; kept = refl; failed = tt } };
  all = λ ok. refl;
}

-- where a write failed, the first pair was taken, and a front of its line is written
pub adds_a_front : AddsTo ((1, 40) ∷ []) ((1, 41) ∷ (2, 50) ∷ []) (shows (3 ∷ []) 5) (shows (3 ∷ 1 ∷ 40 ∷ []) 6) (Err 6)
adds_a_front = record {
  took = (1, 41) ∷ [];
  others = (2, 50) ∷ [];
  parts = refl;
  lines = line 1 (1 ∷ 40 ∷ 1 ∷ 41 ∷ 10 ∷ []) ∷ [];
  body = ((1 ∷ 40 ∷ 1 ∷ 41 ∷ 10 ∷ []) ∷ [], [], refl, refl, refl);
  writes = record {
    whole = tt;
    front = record { front = 1 ∷ 40 ∷ []; rest = 1 ∷ 41 ∷ 10 ∷ []; whole = refl; appended = refl };
    shows = refl;
    cause = record { later = omega arith; kept = tt; failed = omega arith };
  };
  all = λ ok. absurd cc;
}

-- where none failed, no pair is left
pub one_is_left : (adds : AddsTo [] ((1, 41) ∷ (2, 50) ∷ []) (shows [] 5) (shows (1 ∷ 7 ∷ 0 ∷ 41 ∷ 10 ∷ []) 5) (Ok 6)) → length adds.others ≡ 0
one_is_left adds = ap length (adds.all refl)

-- ---- what comes at the end

-- all pairs may come once no more bytes come
abbrev late : Laid
late = record { carried = λ bytes. []; whole = raw_pairs; left = λ bytes. 0 }

pub late_is_laid : IsLaid late
late_is_laid = record { grows = (refl, λ bytes more. ([], refl)); first = λ bytes. (raw_pairs bytes, refl) }

pub late_rests : Rests {T = ℕ} {E = ℕ} late summing (41 ∷ []) (shows [] 5) (shows (1 ∷ 7 ∷ 0 ∷ 41 ∷ 10 ∷ []) 5) (Ok 6)
late_rests = record {
  pairs = (1, 41) ∷ [];
  all = refl;
  adds = record {
    took = (1, 41) ∷ [];
    others = [];
    parts = refl;
    lines = line 1 (1 ∷ 7 ∷ 0 ∷ 41 ∷ 10 ∷ []) ∷ [];
    body = ((1 ∷ 7 ∷ 0 ∷ 41 ∷ 10 ∷ []) ∷ [], [], refl, refl, refl);
    writes = record { whole = refl; front = tt; shows = refl; cause = record { later = omega arith; kept = refl; failed = tt } };
    all = λ ok. refl;
  };
}

-- but none is carried by no byte
pub carried_by_none : IsLaid (record { carried = λ bytes. map (λ (n : ℕ). (1, n)) (length bytes ∷ []); whole = raw_pairs; left = λ bytes. 0 }) → ⊥
carried_by_none is = absurd (omega (arith, ap length is.grows.0))
