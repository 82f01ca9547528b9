-- What is printed of streams of different sizes: each stream has its own.
use Rattle.std.proofs.Common.{ℕ, Bool, List, [], ◌∷◌, ◌++◌}
use Rattle.capture_streams.specs.Laws.{AddsAlways, AddsOnce, EndsAlways, EndsOnce, GainsAlways, GainsOnce, StreamLines}
use Rattle.capture_streams.specs.Texts.{Listing, Printed, StreamBody, StreamEnds, by_sizes}
use Rattle.etm_types.specs.Settings.{Sizes}

module _ (g : Sizes → Listing) (t : ℕ → Sizes) where
  -- ---- one stream

  module _ (id : ℕ) where
    pub body_by : (before bytes : List ℕ) (lines : List (List ℕ)) → StreamBody (g (t id)) id before bytes lines
        → StreamBody (by_sizes g t) id before bytes lines
    body_by before [] lines none = none
    body_by before (b ∷ bytes) lines (first, rest, gains, later, is) = (first, rest, gains, body_by (before ++ b ∷ []) bytes rest later, is)

    own_body : (before bytes : List ℕ) (lines : List (List ℕ)) → StreamBody (by_sizes g t) id before bytes lines
        → StreamBody (g (t id)) id before bytes lines
    own_body before [] lines none = none
    own_body before (b ∷ bytes) lines (first, rest, gains, later, is) = (first, rest, gains, own_body (before ++ b ∷ []) bytes rest later, is)

    pub ends_by : (bytes : List ℕ) (lines : List Printed) (faulty : Bool) → StreamEnds (g (t id)) id bytes lines faulty
        → StreamEnds (by_sizes g t) id bytes lines faulty
    ends_by [] lines faulty none = none
    ends_by (b ∷ bytes) lines faulty ends = ends

    own_ends : (bytes : List ℕ) (lines : List Printed) (faulty : Bool) → StreamEnds (by_sizes g t) id bytes lines faulty
        → StreamEnds (g (t id)) id bytes lines faulty
    own_ends [] lines faulty none = none
    own_ends (b ∷ bytes) lines faulty ends = ends

    pub own_lines : (bytes : List ℕ) (lines : List Printed) → StreamLines (by_sizes g t) id bytes lines → StreamLines (g (t id)) id bytes lines
    own_lines bytes lines is =
        record {
          gained = is.gained;
          ending = is.ending;
          faulty = is.faulty;
          body = own_body [] bytes is.gained is.body;
          ends = own_ends bytes is.ending is.faulty is.ends;
          all = is.all;
        }

  -- ---- what holds of each of them

  pub gains_once_by : ((id : ℕ) → GainsOnce (g (t id))) → GainsOnce (by_sizes g t)
  gains_once_by once id bytes byte lines others gains also = once id id bytes byte lines others gains also

  pub adds_once_by : ((id : ℕ) → AddsOnce (g (t id))) → AddsOnce (by_sizes g t)
  adds_once_by once id bytes byte items others adds also = once id id bytes byte items others adds also

  pub adds_always_by : ((id : ℕ) → AddsAlways (g (t id))) → AddsAlways (by_sizes g t)
  adds_always_by always id bytes byte small = always id id bytes byte small

  pub ends_once_by : ((id : ℕ) → EndsOnce (g (t id))) → EndsOnce (by_sizes g t)
  ends_once_by once id bytes line other faulty also ends too = once id id bytes line other faulty also ends too

  pub gains_always_by : ((id : ℕ) → GainsAlways (g (t id))) → GainsAlways (by_sizes g t)
  gains_always_by always id bytes byte small = always id id bytes byte small

  pub ends_always_by : ((id : ℕ) → EndsAlways (g (t id))) → EndsAlways (by_sizes g t)
  ends_always_by always id bytes small = always id id bytes small
