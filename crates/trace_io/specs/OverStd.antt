-- What contracts see of a source and a sink over std's readers and writers.
use Rattle.std.specs.Prelude.{ℕ, Bool, List, eqb, refl}
use Rattle.std.specs.declared.option.Option.{Option}
use Rattle.std.specs.Io.KnownBytes.{append_known}
use Rattle.std.specs.Coded.{Coded, code_by, coded×, coded_ℕ, coded_list}

-- the reader, and how many of its reads have failed
pub record OverReader (R : Type 0) : Type 0 where
  pub inner : R
  pub faults : ℕ

abbrev pub reader_code : {R : Type 0} → Coded R → Coded (OverReader R)
reader_code {R} code =
    code_by (R × ℕ) (coded× code coded_ℕ) (λ s. (s.inner, s.faults)) (λ p. record { inner = p.0; faults = p.1 }) (λ _. refl)

-- the size of a sink's own buffer
abbrev pub buffer_size : ℕ
buffer_size = 65536

-- the writer behind a buffer, the bytes that are held back before it, how many bytes of the buffer were used since the last flush, and how
-- many calls have failed
pub record OverBufferedWriter (W : Type 0) : Type 0 where
  pub inner : W
  pub held : List ℕ
  pub used : ℕ
  pub faults : ℕ

-- what the writer has and what is held back, where the writer shows its bytes
abbrev pub bytes_of : {W : Type 0} → (W → Option (List ℕ)) → OverBufferedWriter W → Option (List ℕ)
bytes_of contents s = append_known (contents s.inner) s.held

-- whether all was flushed
abbrev pub is_flushed : {W : Type 0} → OverBufferedWriter W → Bool
is_flushed s = eqb s.used 0

abbrev pub buffered_writer_code : {W : Type 0} → Coded W → Coded (OverBufferedWriter W)
buffered_writer_code {W} code =
    code_by (W × (List ℕ × (ℕ × ℕ))) (coded× code (coded× (coded_list coded_ℕ) (coded× coded_ℕ coded_ℕ)))
    (λ s. (s.inner, (s.held, (s.used, s.faults))))
    (λ p. record { inner = p.0; held = p.1.0; used = p.1.1.0; faults = p.1.1.1 }) (λ _. refl)
