-- Event lines in what the lines of a text said so far.
use Rattle.std.proofs.Common.{◌≡◌, ℕ, List, true, Option, Some, None, Result, Ok, Err, refl}
use Rattle.std.specs.Option.{option_map}
use Rattle.etm_types.specs.Settings.{Sizes}
use Rattle.run_file.specs.BenchText.{Draft, add_event, is_empty, newest, with_line}
use Rattle.run_file.specs.EventLines.{event_of, need, then_ok}
use Rattle.run_file.specs.Places.{bench_line}
use Rattle.run_file.specs.Answers.{Answers}
use Rattle.run_file.specs.declared.fault.BenchWhy.{BenchWhy}
use Rattle.run_file.specs.declared.fault.LineFault.{LineFault}
use Rattle.run_file.specs.declared.fault.LineFault.TheVariants as line_fault
use Rattle.run_file.specs.declared.line.Repeated.{Repeated}
use Rattle.run_file.specs.Parts.{BenchStream}

-- the streams with an event line at the end of the newest, by its settings
abbrev pub event_streams : ℕ → List BenchStream → List ℕ → List (List ℕ) → Option Sizes → Result (List BenchStream) BenchWhy
event_streams number streams word words sizes =
    need sizes (λ s. then_ok (event_of s word words) (λ e. Ok (with_line (bench_line number e) streams)))

pub event_draft : (number : ℕ) (d : Draft) (word : List ℕ) (words : List (List ℕ)) → is_empty d.weaves ≡ true
    → add_event number d word words
    ≡ then_ok (event_streams number d.streams word words (option_map (λ s. s.settings) (newest d.streams))) (λ streams. Ok (record d { streams = streams }))
event_draft number d word words none = rw none (by (option_map (λ s. s.settings) (newest d.streams)))
  where
    by_event : (r : Result Repeated BenchWhy)
        → then_ok r (λ e. Ok (record d { streams = with_line (bench_line number e) d.streams }))
        ≡ then_ok (then_ok r (λ e. Ok (with_line (bench_line number e) d.streams))) (λ streams. Ok (record d { streams = streams }))
    by_event (Ok e) = refl
    by_event (Err why) = refl

    by : (sizes : Option Sizes)
        → need sizes (λ s. then_ok (event_of s word words) (λ e. Ok (record d { streams = with_line (bench_line number e) d.streams })))
        ≡ then_ok (event_streams number d.streams word words sizes) (λ streams. Ok (record d { streams = streams }))
    by None = refl
    by (Some s) = by_event (event_of s word words)

-- a fault of the streams is one of what the lines said
pub refused_draft : {U A : Type 0} (streams : U → A) (drafts : U → Draft) (fault : LineFault) (given : Result A BenchWhy) (more : A → Result Draft BenchWhy)
    → Answers streams (Err fault) given → Answers drafts (Err fault) (then_ok given more)
refused_draft streams drafts (line_fault.Bad why) given more h = rw h refl
refused_draft streams drafts line_fault.Memory given more h = tt
