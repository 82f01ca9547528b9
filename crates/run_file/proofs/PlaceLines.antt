-- The line at a place, once it was read.
use Rattle.std.proofs.Common.{◌≡◌, ◌∷◌, ℕ, List, Ok, refl}
use Rattle.etm_types.specs.Settings.{Sizes}
use Rattle.run_file.specs.EventLines.{event_of}
use Rattle.run_file.specs.Places.{IsRead, bench_line, line_of, words_at}
use Rattle.run_file.specs.declared.line.Repeated.{Repeated}
use Rattle.run_file.specs.declared.place.LineStart.{LineStart}

module _ (text : List ℕ) (s : Sizes) (p : LineStart) (word : List ℕ) (words : List (List ℕ)) (e : Repeated)
    (line : words_at text p ≡ word ∷ words) (read : event_of s word words ≡ Ok e) where
  pub is_read : IsRead text s p
  is_read = rw line (rw read refl)

  pub read_line : line_of text s p ≡ bench_line p.number e
  read_line = rw line (rw read refl)
