-- The parts of a text that has no fault are those of a run file.
use Rattle.std.proofs.Common.{◌≡◌, ◌∷◌, ◌++◌, ◌∙◌, ◌<◌, ◌≤◌, ◌&&◌, ◌||◌, ◌==◌, ◌+◌, ℕ, Bool, true, false, not, List, [], Option, Some, None, Result, Ok, Err}
use Rattle.std.proofs.Common.{arith, refl, ap, sym, subst, if◌then◌else◌}
use Rattle.std.specs.Prelude.{All, is_none, nat_le, ⊤}
use Rattle.std.specs.List.{list_all}
use Rattle.std.specs.Option.{option_map}
use Rattle.std.specs.Prelude.{slice_index}
use Rattle.std.specs.Str.{is_utf8}
use Rattle.std.specs.Str.Lines.{lines}
use Rattle.std.proofs.lemmas.Bool.{and_parts, leb-true}
use Rattle.std.proofs.lemmas.Bool.Decides.{nat_tests}
use Rattle.std.proofs.lemmas.List.Elements.{All-append, All-cons, All-head, All-nil, All-tail}
use Rattle.etm_types.specs.Settings.{Sizes}
use Rattle.line_words.specs.Line.{words_in}
use Rattle.run_file.specs.BenchText.{Draft, add_any, add_behind, add_event, add_kind, add_line, add_lines, add_setting, add_stream, add_weaves}
use Rattle.run_file.specs.BenchText.{before_streams, begun, declaration_of, declare, event_sizes, finished, is_empty, is_source, kind_of, newest}
use Rattle.run_file.specs.BenchText.{no_lines, parsed, parts_of, stream_of, then_lines, version_in, weave, weaves_of, where_allowed, with_line}
use Rattle.run_file.specs.EventLines.{event_of, need, only_number}
use Rattle.run_file.specs.GivenSettings.{IsGiven, are_allowed, given_or, is_allowed, number_given}
use Rattle.run_file.specs.Parts.{AreApart, BenchParts, BenchStream, IsBench, IsBenchLine, IsBenchStream, IsWeave, has_stream}
use Rattle.run_file.specs.declared.fault.BenchWhy.{BenchWhy}
use Rattle.run_file.specs.declared.fault.BenchWhy.TheVariants.{IdRange, DuplicateId, Range}
use Rattle.run_file.specs.declared.line.BenchLine.{BenchLine}
use Rattle.run_file.specs.declared.line.Declaration.{Declaration}
use Rattle.run_file.specs.declared.line.LineKind.{LineKind}
use Rattle.run_file.specs.declared.line.LineKind.TheVariants as kind
use Rattle.run_file.specs.declared.line.Weave.{Weave}
use Rattle.run_file.specs.declared.setting.Setting.{Setting}
use Rattle.run_file.specs.declared.version.Version.{Version}
use Rattle.run_file.proofs.Good.{Good, IsRepeated, choose, event_good, good_of, need_good, range_good, then_good}
use Rattle.run_file.proofs.Settled.{nothing_settled, one_settled, own_settled}

record IsBenchDraft (d : Draft) : Type 0 where
  given : IsGiven d.given
  bench : IsBench (parts_of d)

where_good : {A : Type 0} (P : A → Type 0) (b : Bool) (r : Result A BenchWhy) → (b ≡ true → Good P r) → Good P (where_allowed b r)
where_good P true r h = h refl
where_good P false r h = tt

empty_told : {X : Type 0} (xs : List X) → is_empty xs ≡ true → xs ≡ []
empty_told [] h = refl
empty_told (x ∷ xs) h = absurd cc

-- ---- settings

setting_good : (s : Setting) (d : Draft) (words : List (List ℕ)) → IsBenchDraft d → Good IsBenchDraft (add_setting s d words)
setting_good s d words h =
    where_good IsBenchDraft (before_streams d && is_none (number_given s d.given)) _ (λ _. need_good IsBenchDraft (only_number words) _ (λ n _.
    range_good IsBenchDraft (is_allowed d.version s n) _ (λ ok. record { given = one_settled d.version s n d.given ok h.given; bench = h.bench })))

-- ---- streams

source_told : (id : ℕ) → is_source id ≡ true → (0 < id) × (id ≤ 111)
source_told id h = let parts = and_parts _ _ h in (leb-true 1 id parts.0, leb-true id 111 parts.1)

other_stream : (id : ℕ) (streams : List BenchStream) (s : BenchStream) → has_stream id streams ≡ false → (s.id == id) ≡ false
    → has_stream id (streams ++ s ∷ []) ≡ false
other_stream id [] s h e = rw e
other_stream id (t ∷ streams) s h e = by (t.id == id) h (other_stream id streams s)
  where
    by : (b : Bool) → (b || has_stream id streams) ≡ false
        → (has_stream id streams ≡ false → (s.id == id) ≡ false → has_stream id (streams ++ s ∷ []) ≡ false) → (b || has_stream id (streams ++ s ∷ [])) ≡ false
    by true h more = absurd cc
    by false h more = more h e

either_way : (m n : ℕ) → (m == n) ≡ (n == m)
either_way m n = grind (arith, nat_tests)

apart_more : (streams : List BenchStream) (s : BenchStream) → AreApart streams → has_stream s.id streams ≡ false → AreApart (streams ++ s ∷ [])
apart_more [] s h none = (refl, tt)
apart_more (t ∷ streams) s h none = by (t.id == s.id) refl none (apart_more streams s h.1)
  where
    by : (b : Bool) → (t.id == s.id) ≡ b → (b || has_stream s.id streams) ≡ false → (has_stream s.id streams ≡ false → AreApart (streams ++ s ∷ []))
        → (has_stream t.id (streams ++ s ∷ []) ≡ false) × AreApart (streams ++ s ∷ [])
    by true e none more = absurd cc
    by false e none more = (other_stream t.id streams s h.0 (either_way s.id t.id ∙ e), more none)

declare_good : (d : Draft) (new : Declaration) → is_empty d.weaves ≡ true → IsBenchDraft d → Good IsBenchDraft (declare d new)
declare_good d new no_weaves h = by (is_source new.id) refl (has_stream new.id d.streams) refl (are_allowed d.version new.own) refl
  where
    s : BenchStream
    s = stream_of new.id (given_or new.own d.given)

    weaves : d.weaves ≡ []
    weaves = empty_told d.weaves no_weaves

    by : (a : Bool) → is_source new.id ≡ a → (b : Bool) → has_stream new.id d.streams ≡ b → (c : Bool) → are_allowed d.version new.own ≡ c
        → Good IsBenchDraft (if not a then Err IdRange else if b then Err DuplicateId else if not c then Err Range
        else Ok (record d { streams = d.streams ++ s ∷ [] }))
    by false e b f c g = tt
    by true e true f c g = tt
    by true e false f false g = tt
    by true e false f true g =
        let own = own_settled d.version new.own d.given g h.given in
        let is : IsBenchStream s = record { id = source_told new.id e; settings = own.settings; stack = own.stack; lines = All-nil (IsBenchLine s.settings) } in
        record {
          given = h.given;
          bench = record {
            streams = All-append IsBenchStream d.streams (s ∷ []) h.bench.streams (All-cons IsBenchStream s [] is (All-nil IsBenchStream));
            apart = apart_more d.streams s h.bench.apart f;
            weaves = subst (All (IsWeave (d.streams ++ s ∷ []))) (sym weaves) (All-nil (IsWeave (d.streams ++ s ∷ [])));
          };
        }

stream_good : (d : Draft) (words : List (List ℕ)) → IsBenchDraft d → Good IsBenchDraft (add_stream d words)
stream_good d words h = where_good IsBenchDraft (is_empty d.weaves) _ (λ place.
    need_good IsBenchDraft (declaration_of d.version words) (declare d) (λ new _. declare_good d new place h))

-- ---- event lines

same_ids : (id : ℕ) (l : BenchLine) (streams : List BenchStream) → has_stream id (with_line l streams) ≡ has_stream id streams
same_ids id l [] = refl
same_ids id l (s ∷ []) = refl
same_ids id l (s ∷ t ∷ streams) = ap (λ (b : Bool). (s.id == id) || b) (same_ids id l (t ∷ streams))

line_apart : (l : BenchLine) (streams : List BenchStream) → AreApart streams → AreApart (with_line l streams)
line_apart l [] h = h
line_apart l (s ∷ []) h = h
line_apart l (s ∷ t ∷ streams) h = (same_ids s.id l (t ∷ streams) ∙ h.0, line_apart l (t ∷ streams) h.1)

-- a line that suits the newest stream
line_good : (l : BenchLine) (streams : List BenchStream) → ((s : BenchStream) → newest streams ≡ Some s → IsBenchLine s.settings l)
    → All IsBenchStream streams → All IsBenchStream (with_line l streams)
line_good l [] suits h = h
line_good l (s ∷ []) suits h =
    let is = All-head IsBenchStream s [] h in
    All-cons IsBenchStream _ [] (record {
      id = is.id;
      settings = is.settings;
      stack = is.stack;
      lines = All-append (IsBenchLine s.settings) s.lines (l ∷ []) is.lines
          (All-cons (IsBenchLine s.settings) l [] (suits s refl) (All-nil (IsBenchLine s.settings)));
    }) (All-nil IsBenchStream)
line_good l (s ∷ t ∷ streams) suits h =
    All-cons IsBenchStream s _ (All-head IsBenchStream s (t ∷ streams) h)
    (line_good l (t ∷ streams) suits (All-tail IsBenchStream s (t ∷ streams) h))

-- an event line has a stream, and comes before all weaves
event_told : (d : Draft) (sizes : Sizes) → event_sizes d ≡ Some sizes
    → (is_empty d.weaves ≡ true) × (option_map (λ s. s.settings) (newest d.streams) ≡ Some sizes)
event_told d sizes h = by (is_empty d.weaves) h
  where
    by : (b : Bool) → (if b then option_map (λ s. s.settings) (newest d.streams) else None) ≡ Some sizes
        → (b ≡ true) × (option_map (λ s. s.settings) (newest d.streams) ≡ Some sizes)
    by true h = (refl, h)
    by false h = absurd cc

sizes_told : (s : BenchStream) (newest : Option BenchStream) (sizes : Sizes) → option_map (λ s. s.settings) newest ≡ Some sizes → newest ≡ Some s
    → sizes ≡ s.settings
sizes_told s newest sizes h at = let e = sym h ∙ ap (option_map (λ (s : BenchStream). s.settings)) at in cc

add_event_good : (number : ℕ) (d : Draft) (word : List ℕ) (words : List (List ℕ)) → IsBenchDraft d → Good IsBenchDraft (add_event number d word words)
add_event_good number d word words h =
    need_good IsBenchDraft (event_sizes d) _ (λ sizes is. then_good IsBenchDraft (event_of sizes word words) _ (λ e f.
    let l : BenchLine = record { line = number; event = e.event; times = e.times } in
    let told = event_told d sizes is in
    let good = good_of (IsRepeated sizes) (event_of sizes word words) e (event_good sizes word words) f in
    let is_line : IsBenchLine sizes l = record { some = good.some; few = good.few; event = good.event } in
    let suits : (s : BenchStream) → newest d.streams ≡ Some s → IsBenchLine s.settings l =
    λ s at. subst (λ (u : Sizes). IsBenchLine u l) (sizes_told s (newest d.streams) sizes told.1 at) is_line in
    let weaves : d.weaves ≡ [] = empty_told d.weaves told.0 in
    record {
      given = h.given;
      bench = record {
        streams = line_good l d.streams suits h.bench.streams;
        apart = line_apart l d.streams h.bench.apart;
        weaves = subst (All (IsWeave (with_line l d.streams))) (sym weaves) (All-nil (IsWeave (with_line l d.streams)));
      };
    }))

-- ---- weaves

weaves_told : (streams : List BenchStream) (ws : List Weave) → list_all (λ w. has_stream w.id streams) ws ≡ true
    → list_all (λ w. nat_le 1 w.count && nat_le w.count 1048576) ws ≡ true → All (IsWeave streams) ws
weaves_told streams [] h g = All-nil (IsWeave streams)
weaves_told streams (w ∷ ws) h g =
    let a = and_parts _ _ h in
    let b = and_parts _ _ g in
    let c = and_parts _ _ b.0 in
    All-cons (IsWeave streams) w ws (record { declared = a.0; some = leb-true 1 w.count c.0; few = leb-true w.count 1048576 c.1 })
    (weaves_told streams ws a.1 b.1)

weave_good : (streams : List BenchStream) (before ws : List Weave) → All (IsWeave streams) before → Good (All (IsWeave streams)) (weave streams before ws)
weave_good streams before ws h =
    by (list_all (λ w. has_stream w.id streams) ws) refl (list_all (λ w. nat_le 1 w.count && nat_le w.count 1048576) ws) refl
  where
    by : (a : Bool) → list_all (λ w. has_stream w.id streams) ws ≡ a → (b : Bool) → list_all (λ w. nat_le 1 w.count && nat_le w.count 1048576) ws ≡ b
        → Good (All (IsWeave streams)) (if not a then Err IdRange else if not b then Err Range else Ok (before ++ ws))
    by false e b f = tt
    by true e false f = tt
    by true e true f = All-append (IsWeave streams) before ws h (weaves_told streams ws e f)

add_weaves_good : (d : Draft) (words : List (List ℕ)) → IsBenchDraft d → Good IsBenchDraft (add_weaves d words)
add_weaves_good d [] h = tt
add_weaves_good d (word ∷ words) h =
    let r = need (weaves_of (word ∷ words)) (weave d.streams d.weaves) in
    then_good IsBenchDraft r _ (λ ws e.
    record {
      given = h.given;
      bench = record {
        streams = h.bench.streams;
        apart = h.bench.apart;
        weaves = good_of (All (IsWeave d.streams)) r ws
            (need_good (All (IsWeave d.streams)) (weaves_of (word ∷ words)) _ (λ new _. weave_good d.streams d.weaves new h.bench.weaves)) e;
      };
    })

-- ---- lines

kind_good : (k : LineKind) (number : ℕ) (d : Draft) (word : List ℕ) (words : List (List ℕ)) → IsBenchDraft d
    → Good IsBenchDraft (add_kind k number d word words)
kind_good (kind.Setting s) number d word words h = setting_good s d words h
kind_good kind.Stream number d word words h = stream_good d words h
kind_good kind.Weaves number d word words h = add_weaves_good d words h
kind_good kind.Event number d word words h = add_event_good number d word words h

no_lines_good : (v : Version) → IsBenchDraft (no_lines v)
no_lines_good v = record {
  given = nothing_settled;
  bench = record { streams = All-nil IsBenchStream; apart = tt; weaves = All-nil (IsWeave []) };
}

header_good : (o : Option Version) → Good IsBenchDraft (begun o)
header_good (Some v) = no_lines_good v
header_good None = tt

-- before the header nothing is said
abbrev IsBenchSoFar : Option Draft → Type 0
IsBenchSoFar (Some d) = IsBenchDraft d
IsBenchSoFar None = ⊤

behind_good : (number : ℕ) (draft : Option Draft) (word : List ℕ) (words : List (List ℕ)) → IsBenchSoFar draft
    → Good IsBenchDraft (add_behind number draft word words)
behind_good number (Some d) word words h = kind_good (kind_of word) number d word words h
behind_good number None word words h = header_good (version_in word words)

any_good : (number : ℕ) (draft : Option Draft) (words : List (List ℕ)) → IsBenchSoFar draft → Good IsBenchSoFar (add_any number draft words)
any_good number draft [] h = h
any_good number draft (word ∷ words) h =
    choose (Good IsBenchSoFar) (slice_index word 0 == 35) _ _ h
    (then_good IsBenchSoFar (add_behind number draft word words) _
    (λ d e. good_of IsBenchDraft (add_behind number draft word words) d (behind_good number draft word words h) e))

line_read_good : (number : ℕ) (draft : Option Draft) (line : List ℕ) → IsBenchSoFar draft → Good IsBenchSoFar (add_line number draft line)
line_read_good number draft line h = choose (Good IsBenchSoFar) (is_utf8 line) _ _ (any_good number draft (words_in line) h) tt

lines_good : (number : ℕ) (draft : Option Draft) (lines : List (List ℕ)) (d : Draft) → IsBenchSoFar draft
    → add_lines number draft lines ≡ Ok (Some d) → IsBenchDraft d
lines_good number draft [] d h e = let same : draft ≡ Some d = cc in subst IsBenchSoFar same h
lines_good number draft (line ∷ lines) d h e =
    by (add_line number draft line) (line_read_good number draft line h) e (λ next. lines_good (number + 1) next lines d)
  where
    by : (r : Result (Option Draft) BenchWhy) → Good IsBenchSoFar r → then_lines number r (λ next. add_lines (number + 1) next lines) ≡ Ok (Some d)
        → ((next : Option Draft) → IsBenchSoFar next → add_lines (number + 1) next lines ≡ Ok (Some d) → IsBenchDraft d) → IsBenchDraft d
    by (Ok next) g e more = more next g e
    by (Err why) g e more = absurd cc

pub text_good : (lines : List (List ℕ)) (d : Draft) → add_lines 1 None lines ≡ Ok (Some d) → IsBench (parts_of d)
text_good lines d e = (lines_good 1 None lines d tt e).bench

pub parsed_good : (text : List ℕ) (b : BenchParts) → parsed text ≡ Ok b → IsBench b
unfolding parsed
parsed_good text b h = by (add_lines 1 None (lines text)) (text_good (lines text)) h
  where
    by : (r : Result (Option Draft) (ℕ × BenchWhy)) → ((d : Draft) → r ≡ Ok (Some d) → IsBench (parts_of d)) → finished r ≡ Ok b → IsBench b
    by (Ok (Some d)) good h = let same : parts_of d ≡ b = cc in subst IsBench same (good d refl)
    by (Ok None) good h = absurd cc
    by (Err fault) good h = absurd cc
