-- The times of a stream, what a byte adds to them, and how it ends: one, and some.
use Rattle.std.proofs.Common.{◌≡◌, ℕ, ◌<◌, Bool, List, [], ◌∷◌, ◌++◌, refl, sym, ap, subst, ◌∙◌}
use Rattle.std.specs.Prelude.{All}
use Rattle.std.proofs.lemmas.List.{append_cancel_left}
use Rattle.std.proofs.lemmas.List.Elements.{All-append, All-cons, All-nil}
use Rattle.etm_types.specs.Settings.{AreSettings, Sizes}
use Rattle.packet_grammar.specs.Ends.{end_of, is_fault}
use Rattle.packet_grammar.specs.Parsed.{Ending, IsStream}
use Rattle.packet_grammar.specs.declared.end.End.{End}
use Rattle.packet_grammar.specs.declared.packet.Packet.{Packet}
use Rattle.packet_grammar.proofs.Longer.{begins_alike}
use Rattle.packet_grammar.proofs.Streams.{each_is_a_stream, one_stream}
use Rattle.path_text.specs.EndLines.{end_line}
use Rattle.time_marks.proofs.Growing.{packets-append, packets_grow}
use Rattle.time_marks.specs.TimeLines.{time_lines}
use Rattle.time_marks.specs.TimeList.{IsTimes, TimesEnds, TimesGains}
use Rattle.time_marks.specs.Times.{Times, after_packets, end_behind, no_times, times_of}
use Rattle.time_marks.specs.declared.time_line.TimeLine.{TimeLine}

pub one_more : (bytes : List ℕ) (byte : ℕ) → All (λ b. b < 256) bytes → byte < 256 → All (λ b. b < 256) (bytes ++ byte ∷ [])
one_more bytes byte small fits = All-append (λ (b : ℕ). b < 256) bytes (byte ∷ []) small
    (All-cons (λ (b : ℕ). b < 256) byte [] fits (All-nil (λ (b : ℕ). b < 256)))

module _ (s : Sizes) (are : AreSettings s) where
  -- ---- one

  pub one_times : (bytes : List ℕ) (t u : Times) (last other : End) → IsTimes s bytes t last → IsTimes s bytes u other → (t ≡ u) × (last ≡ other)
  one_times bytes t u last other (packets, ending, stream, is, ends) (packets', ending', stream', is', ends') =
      let same = one_stream s are bytes packets packets' ending ending' stream stream' in
      let alike : t ≡ u = is ∙ ap (times_of s.depth) same.0 ∙ sym is' in
      (alike, ends ∙ ap (λ (x : Times). end_behind x.fault (end_of ending)) alike ∙ ap (λ (n : Ending). end_behind u.fault (end_of n)) same.1 ∙ sym ends')

  pub one_gain : (id : ℕ) (bytes : List ℕ) (byte : ℕ) (lines others : List (List ℕ)) → TimesGains s id bytes byte lines → TimesGains s id bytes byte others
      → lines ≡ others
  one_gain id bytes byte lines others (t, after, last, next, more, was, is, grows, adds) (t', after', last', next', more', was', is', grows', adds') =
      let before = (one_times bytes t t' last last' was was').0 in
      let now = (one_times (bytes ++ byte ∷ []) after after' next next' is is').0 in
      let all : t.lines ++ more ≡ t.lines ++ more' =
      sym grows ∙ ap (λ (x : Times). x.lines) now ∙ grows' ∙ ap (λ (x : Times). x.lines ++ more') (sym before) in
      adds ∙ ap (time_lines id) (append_cancel_left t.lines more more' all) ∙ sym adds'

  pub one_end : (id : ℕ) (bytes line other : List ℕ) (faulty also : Bool) → TimesEnds s id bytes line faulty → TimesEnds s id bytes other also
      → (line ≡ other) × (faulty ≡ also)
  one_end id bytes line other faulty also (t, last, is, e, f) (t', last', is', e', f') =
      let same = (one_times bytes t t' last last' is is').1 in (e ∙ ap (end_line id) same ∙ sym e', f ∙ ap is_fault same ∙ sym f')

  -- ---- some

  pub times_so : (bytes : List ℕ) (packets : List (ℕ × Packet)) (ending : Ending) → IsStream s bytes packets ending
      → IsTimes s bytes (times_of s.depth packets) (end_behind (times_of s.depth packets).fault (end_of ending))
  times_so bytes packets ending stream = (packets, ending, stream, refl, refl)

  -- packets behind others
  pub gain_so : (id : ℕ) (bytes : List ℕ) (byte : ℕ) (packets more : List (ℕ × Packet)) (ending next : Ending) → IsStream s bytes packets ending
      → IsStream s (bytes ++ byte ∷ []) (packets ++ more) next → (added : List TimeLine)
      → (after_packets s.depth (times_of s.depth packets) more).lines ≡ (times_of s.depth packets).lines ++ added
      → TimesGains s id bytes byte (time_lines id added)
  gain_so id bytes byte packets more ending next was is added grows =
      let joined = packets-append s.depth no_times packets more in (
        times_of s.depth packets,
        times_of s.depth (packets ++ more),
        end_behind (times_of s.depth packets).fault (end_of ending),
        end_behind (times_of s.depth (packets ++ more)).fault (end_of next),
        added,
        times_so bytes packets ending was,
        times_so (bytes ++ byte ∷ []) (packets ++ more) next is,
        ap (λ (x : Times). x.lines) joined ∙ grows,
        refl,
      )

  pub some_gain : (id : ℕ) (bytes : List ℕ) (byte : ℕ) → All (λ b. b < 256) bytes → byte < 256 → (lines : List (List ℕ)) × TimesGains s id bytes byte lines
  some_gain id bytes byte small fits =
      let was = each_is_a_stream s are bytes small in
      let is = each_is_a_stream s are (bytes ++ byte ∷ []) (one_more bytes byte small fits) in
      let more = begins_alike s are bytes (byte ∷ []) was.packets is.packets was.ending is.ending was.is is.is in
      let grows = packets_grow s.depth (times_of s.depth was.packets) more.0 in (
        time_lines id grows.0,
        gain_so id bytes byte was.packets more.0 was.ending is.ending was.is
            (subst (λ (p : List (ℕ × Packet)). IsStream s (bytes ++ byte ∷ []) p is.ending) more.1 is.is) grows.0 grows.1,
      )

  pub some_end : (id : ℕ) (bytes : List ℕ) → All (λ b. b < 256) bytes → (line : List ℕ) × (faulty : Bool) × TimesEnds s id bytes line faulty
  some_end id bytes small =
      let all = each_is_a_stream s are bytes small in let t = times_of s.depth all.packets in let last = end_behind t.fault (end_of all.ending) in
      (end_line id last, is_fault last, (t, last, times_so bytes all.packets all.ending all.is, refl, refl))
