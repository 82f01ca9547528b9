-- The reading of an input by pieces.
use Rattle.std.specs.Prelude.{◌≡◌, ◌⊎◌, ℕ, ◌+◌, ◌<◌, ◌≤◌, Bool, true, false, List, [], ◌∷◌, length, take, Result, Ok, Err}
use Rattle.std.specs.Io.KnownBytes.{IsAtEnd}
use Rattle.answer_lines.specs.declared.status.Status.{Status}
use Rattle.answer_lines.specs.declared.status.Status.TheVariants as status
use Rattle.capture_streams.specs.Laid.{Laid, Rests}
use Rattle.capture_streams.specs.Texts.{IsEnding, Listing, Printed, text_of}
use Rattle.path_text.specs.Writing.{Writes}
use Rattle.input_pieces.specs.Listed.{Interrupts, PrintsBody, Takes, most_at_once, most_input}
use Rattle.input_pieces.specs.declared.input.InputEnd.{InputEnd}
use Rattle.input_pieces.specs.declared.input.InputEnd.TheVariants.{End, TooLong, ReadFault}
use Rattle.trace_io.specs.Causes.{KeepsFaults, Rose}
use Rattle.trace_io.specs.State.{IoState}
use Rattle.trace_io.specs.declared.traits.Failed.{Failed}

-- A read behind so many bytes took these from the front of the buffer.
pub record GivesBytes (input input' : IoState) (taken count : ℕ) (buffer : List ℕ) : Type 0 where
  pub some : 0 < count
  pub most : count ≤ most_at_once
  pub few : taken + count ≤ most_input
  pub took : Takes input input' (take count buffer)
  pub kept : KeepsFaults input input'

-- no more is taken behind so many bytes: there are none, or more than the most, or a read failed
abbrev pub StopsSo : IoState → IoState → ℕ → InputEnd → Type 0
StopsSo input input' taken End = IsAtEnd input'.bytes × Takes input input' [] × KeepsFaults input input'
StopsSo input input' taken TooLong = (taken ≡ most_input) × ((byte : ℕ) × Takes input input' (byte ∷ [])) × KeepsFaults input input'
StopsSo input input' taken ReadFault = Takes input input' [] × Rose input input'

-- An input was taken up to what stops that, and the lines that come with its bytes were printed, where no write failed.
abbrev pub TookUpTo : (List ℕ → Type 0) → Laid → Listing → IoState → IoState → IoState → IoState → InputEnd → Type 0
TookUpTo stands laid g input input' out out' stop =
    (here : IoState) × (bytes : List ℕ) × Takes input here bytes × KeepsFaults input here × (length bytes ≤ most_input) × stands bytes
    × PrintsBody laid.carried g bytes out out' × StopsSo here input' (length bytes) stop

-- or a write failed
abbrev pub Took : (List ℕ → Type 0) → Laid → Listing → IoState → IoState → IoState → IoState → Result InputEnd Failed → Type 0
Took stands laid g input input' out out' (Ok stop) = TookUpTo stands laid g input input' out out' stop
Took stands laid g input input' out out' (Err failed) = Interrupts laid g input input' out out'

-- What an input shows at its end was written: the lines of the pairs that did not come with its bytes, and then how its streams end.
-- Where a write of these failed, a front of them is written.
pub record Ends (laid : Laid) (g : Listing) (bytes : List ℕ) (old new : IoState) (faulty : Bool) (result : Result Bool Failed) : Type 0 where
  pub between : IoState
  pub rests : Rests {T = Unit {0}} {E = Failed} laid g bytes old between (Ok tt)
  pub ending : List Printed
  pub ended : IsEnding g (laid.whole bytes) (laid.left bytes) ending faulty
  pub writes : Writes between new result (text_of ending)

-- the answer of an input at its end; an error where the lines of these pairs, or of the ends behind them, could not be written
abbrev pub Closes : Laid → Listing → List ℕ → IoState → IoState → Result Status Failed → Type 0
Closes laid g bytes old new (Ok status.Done) = Ends laid g bytes old new false (Ok true)
Closes laid g bytes old new (Ok status.Faulted) = Ends laid g bytes old new true (Ok false)
Closes laid g bytes old new (Ok status) = ⊥
Closes laid g bytes old new (Err failed) =
    Rests {T = Unit {0}} laid g bytes old new (Err failed) ⊎ ((faulty : Bool) × Ends laid g bytes old new faulty (Err failed))
