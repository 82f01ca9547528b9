-- The times of streams have one text.
use Rattle.std.proofs.Common.{◌≡◌, ◌≢◌, ℕ, suc, ◌+◌, ◌<◌, Bool, true, false, if◌then◌else◌, nat_lt, slice_index_or, List, [], ◌∷◌, ◌++◌}
use Rattle.std.proofs.Common.{map, None, Some, refl, sym, ap, subst, ◌∙◌, arith, append-nil, append_assoc}
use Rattle.std.specs.Prelude.{All, ◌==◌, codes}
use Rattle.std.specs.Int.Digits.{digits_of}
use Rattle.std.proofs.lemmas.List.{get_or_append_left, length-append, map-append}
use Rattle.std.proofs.lemmas.List.Elements.{All-append, All-map, All-nil}
use Rattle.etm_types.specs.Settings.{AreSettings, Sizes}
use Rattle.packet_grammar.specs.Parsed.{no_sync}
use Rattle.packet_grammar.specs.declared.end.End.{End}
use Rattle.packet_grammar.specs.declared.end.End.TheVariants as end
use Rattle.packet_reader.proofs.Adds.{nothing_is_a_stream}
use Rattle.path_elements.specs.PathLaws.{BeginsWith}
use Rattle.path_text.specs.EndLines.{end_line}
use Rattle.path_text.specs.Lines.{IsLine, decimal, digit, in_base}
use Rattle.capture_streams.specs.Laws.{AddsAlways, AddsOnce, EndsAlways, EndsOnce, GainsAlways, GainsOnce, StreamLines, lines_with}
use Rattle.capture_streams.specs.Texts.{Printed, StreamBody, StreamEnds, by_sizes, lines_under, of}
use Rattle.path_text.proofs.Feeds.{HasNone, end_is, line_is, written}
use Rattle.capture_streams.proofs.Alone.{source_is_alone}
use Rattle.capture_streams.proofs.AlonePaths.{PrintsLines, each_is, print_by}
use Rattle.capture_streams.proofs.BySizes.{adds_always_by, adds_once_by, ends_always_by, ends_once_by, gains_always_by, gains_once_by, own_lines}
use Rattle.capture_streams.proofs.OneText.{one_body, one_text, some_text}
use Rattle.capture_streams.proofs.Parted.{CarriesOn, fronts_begin}
use Rattle.time_marks.proofs.Growing.{lines-append}
use Rattle.time_marks.proofs.Lists.{one_end, one_gain, one_times, some_end, some_gain}
use Rattle.time_marks.specs.Stamps.{Stamp}
use Rattle.time_marks.specs.TimeLaws.{EachTimeIsALine, FrontsOfTimesBegin, OneTextOfTimes, SomeTextOfTimes, TimesAreAlone, TimesPrinted}
use Rattle.time_marks.specs.TimeLines.{stamp_text, time_line, time_lines, time_text}
use Rattle.time_marks.specs.TimeList.{IsTimes, times}
use Rattle.time_marks.specs.Times.{Times, no_times}
use Rattle.time_marks.specs.declared.time_line.TimeLine.{TimeLine}
use Rattle.time_marks.specs.declared.time_line.TimeLine.TheVariants.{Event, P0}

abbrev IsByte : ℕ → Type 0
IsByte b = b < 256

front_small : (xs ys : List ℕ) → All IsByte (xs ++ ys) → All IsByte xs
front_small xs ys all k d within = subst IsByte (get_or_append_left xs ys d k within) (all k d (omega (arith, within, length-append xs ys)))

last_small : (xs : List ℕ) (b : ℕ) → All IsByte (xs ++ b ∷ []) → b < 256
last_small [] b all = all 0 0 (omega arith)
last_small (x ∷ xs) b all = last_small xs b (λ k d within. all (suc k) d (omega (arith, within)))

module _ (s : Sizes) (are : AreSettings s) where
  gain_once : GainsOnce (times s)
  gain_once id bytes byte lines others gains also = one_gain s are id bytes byte lines others gains also

  add_once : AddsOnce (times s)
  add_once id bytes byte items others none also = none ∙ sym also

  add_always : AddsAlways (times s)
  add_always id bytes byte small = ([], refl)

  end_once : EndsOnce (times s)
  end_once id bytes line other faulty also ends too = one_end s are id bytes line other faulty also ends too

  gain_always : GainsAlways (times s)
  gain_always id bytes byte small = some_gain s are id bytes byte (front_small bytes (byte ∷ []) small) (last_small bytes byte small)

  end_always : EndsAlways (times s)
  end_always id bytes small = some_end s are id bytes small

-- ---- many streams, each of its own sizes

once_by : (t : ℕ → Sizes) → ((id : ℕ) → AreSettings (t id)) → GainsOnce (by_sizes times t)
once_by t are = gains_once_by times t (λ id. gain_once (t id) (are id))

pub one_text_of_times : OneTextOfTimes
one_text_of_times t are =
    one_text (by_sizes times t) (once_by t are) (adds_once_by times t (λ id. add_once (t id) (are id)))
    (ends_once_by times t (λ id. end_once (t id) (are id)))

pub some_text_of_times : SomeTextOfTimes
some_text_of_times t are =
    some_text (by_sizes times t) (gains_always_by times t (λ id. gain_always (t id) (are id)))
    (adds_always_by times t (λ id. add_always (t id) (are id)))
    (ends_always_by times t (λ id. end_always (t id) (are id)))

pub fronts_of_times_begin : (carried : List ℕ → List (ℕ × ℕ)) → CarriesOn carried → FrontsOfTimesBegin carried
fronts_of_times_begin carried on t are bytes more first lines front body =
    let g = by_sizes times t in
    let some = fronts_begin carried g on bytes more lines body in
    let same = one_body g (once_by t are) [] (carried bytes) some.0 first some.1 front in
    subst (λ (l : List Printed). BeginsWith l lines) same some.2

-- ---- the times of a stream

module _ (s : Sizes) (are : AreSettings s) (id : ℕ) where
  -- what bytes add behind others is the lines by which their times grow
  grown : (before bytes : List ℕ) (lines : List (List ℕ)) (t u : Times) (last next : End) → IsTimes s before t last → IsTimes s (before ++ bytes) u next
      → StreamBody (times s) id before bytes lines → time_lines id u.lines ≡ time_lines id t.lines ++ lines
  grown before [] lines t u last next was is none =
      let same = (one_times s are before u t next last (subst (λ (b : List ℕ). IsTimes s b u next) (append-nil before) is) was).0 in
      ap (λ (x : Times). time_lines id x.lines) same ∙ sym (append-nil (time_lines id t.lines))
      ∙ ap (λ (l : List (List ℕ)). time_lines id t.lines ++ l) (sym none)
  grown before (b ∷ bytes) lines t u last next was is (first, rest, (t', mid, last', later, more, was', now, grows, adds), behind, all) =
      let same = (one_times s are before t' t last' last was' was).0 in
      let whole = subst (λ (l : List ℕ). IsTimes s l u next) (sym (append_assoc before (b ∷ []) bytes)) is in
      grown (before ++ b ∷ []) bytes rest mid u later next now whole behind
      ∙ ap (λ (l : List TimeLine). time_lines id l ++ rest) grows
      ∙ ap (λ (x : Times). time_lines id (x.lines ++ more) ++ rest) same
      ∙ ap (λ (l : List (List ℕ)). l ++ rest) (lines-append id t.lines more)
      ∙ append_assoc (time_lines id t.lines) (time_lines id more) rest
      ∙ ap (λ (l : List (List ℕ)). time_lines id t.lines ++ l) (ap (λ (l : List (List ℕ)). l ++ rest) (sym adds) ∙ sym all)

  times_printed : (bytes : List ℕ) (lines : List Printed) → StreamLines (times s) id bytes lines → TimesPrinted s id bytes lines
  times_printed [] lines is = is.all ∙ ap (λ (l : List (List ℕ)). lines_under id l ++ is.ending) is.body ∙ (is.ends).0
  times_printed (b ∷ bytes) lines is = printed is.ends
    where
      printed : StreamEnds (times s) id (b ∷ bytes) is.ending is.faulty → TimesPrinted s id (b ∷ bytes) lines
      printed (line, (t, last, so, line_is, fault_is), ending_is) =
          let body = grown [] (b ∷ bytes) is.gained no_times t end.NoSync last ([], no_sync, nothing_is_a_stream s, refl, refl) so is.body in (
            t,
            last,
            so,
            is.all ∙ ap (λ (l : List (List ℕ)). lines_under id l ++ is.ending) (sym body)
                ∙ ap (λ (l : List Printed). lines_under id (time_lines id t.lines) ++ l)
                (ending_is ∙ ap (λ (l : List ℕ). lines_under id (l ∷ [])) line_is)
                ∙ sym (map-append (λ (l : List ℕ). record { id = Some id; line = l }) (time_lines id t.lines) (end_line id last ∷ [])),
          )

pub times_are_alone : TimesAreAlone
times_are_alone t id source are pairs left lines faulty is =
    times_printed (t id) are id (of id pairs) (lines_with id lines)
    (own_lines times t id (of id pairs) (lines_with id lines)
    (source_is_alone (by_sizes times t) pairs left lines faulty id source is))

-- ---- each line has one LF

decimal_other : (n : ℕ) → HasNone (decimal n)
unfolding in_base
decimal_other n = chosen (n == 0) (48 ∷ []) (map digit (digits_of 10 n)) (written (48 ∷ []) refl)
    (All-map (λ (b : ℕ). b ≢ 10) digit (digits_of 10 n) (λ k d lt. small (nat_lt (slice_index_or (digits_of 10 n) k d) 10) _))
  where
    chosen : (test : Bool) (first second : List ℕ) → HasNone first → HasNone second → HasNone (if test then first else second)
    chosen true first second none also = none
    chosen false first second none also = also

    small : (few : Bool) (d : ℕ) → (if few then 48 + d else 87 + d) ≢ 10
    small true d is = absurd (omega (arith, is))
    small false d is = absurd (omega (arith, is))

joined : (front back : List ℕ) → HasNone front → HasNone back → HasNone (front ++ back)
joined front back none also = All-append (λ (b : ℕ). b ≢ 10) front back none also

stamp_other : (stamp : Stamp) → HasNone (stamp_text stamp)
stamp_other None = written (codes "-") refl
stamp_other (Some n) = decimal_other n

-- a word, a number and a timestamp
numbered : (word : List ℕ) (n : ℕ) (stamp : Stamp) → HasNone word → HasNone (word ++ decimal n ++ codes " " ++ stamp_text stamp)
numbered word n stamp none =
    joined (word ++ decimal n ++ codes " ") (stamp_text stamp)
    (joined (word ++ decimal n) (codes " ") (joined word (decimal n) none (decimal_other n)) (written (codes " ") refl)) (stamp_other stamp)

time_other : (line : TimeLine) → HasNone (time_text line)
time_other (Event events stamp) = numbered (codes "event ") events stamp (written (codes "event ") refl)
time_other (P0 number stamp) = numbered (codes "p0 ") number stamp (written (codes "p0 ") refl)

pub time_is : (id : ℕ) (line : TimeLine) → IsLine (time_line id line)
time_is id line = line_is id (time_text line) (time_other line)

times_print_lines : (s : Sizes) → PrintsLines (times s)
times_print_lines s =
    record {
      gained = λ id bytes byte lines (t, after, last, next, more, was, is, grows, adds).
          subst (λ (l : List (List ℕ)). All IsLine l) (sym adds) (each_of id more);
      ended = λ id bytes line faulty (t, last, is, line_is, fault_is). subst IsLine (sym line_is) (end_is id last);
      summed = λ items. All-nil IsLine;
    }
  where
    each_of : (id : ℕ) (lines : List TimeLine) → All IsLine (time_lines id lines)
    each_of id lines = All-map IsLine (time_line id) lines (λ k d within. time_is id _)

pub each_time_is_a_line : EachTimeIsALine
each_time_is_a_line t = each_is (by_sizes times t) (print_by times t (λ id. times_print_lines (t id)))
