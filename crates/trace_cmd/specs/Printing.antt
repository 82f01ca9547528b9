-- What a command prints of its input.
use Rattle.std.specs.Prelude.{ℕ}
use Rattle.command_words.specs.Words.{Intake}
use Rattle.command_words.specs.declared.words.Layout.{Layout}
use Rattle.capture_streams.specs.Laid.{Laid, frames_laid, raw_laid}
use Rattle.capture_streams.specs.Paths.{paths}
use Rattle.capture_streams.specs.Texts.{Listing, by_sizes}
use Rattle.command_words.specs.declared.words.Layout.TheVariants.{Raw, Frames, Wrapped, Synced}
use Rattle.count_streams.specs.Counted.{counted}
use Rattle.etm_types.specs.Settings.{Sizes}
use Rattle.etm_types.specs.SettingsTable.{sizes_at}
use Rattle.packet_list.specs.PacketList.{packet_lists}
use Rattle.program_image.specs.declared.image.Image.{Image}
use Rattle.sync_frames.specs.Laid.{synced_laid}
use Rattle.time_marks.specs.TimeList.{times}
use Rattle.ring_capture.specs.Laid.{wrapped_laid}

-- the paths of streams over an image, or the counts of these, or their packets, or the times of their P0 elements, of an input that is
-- taken so
pub data What : Type 0 where
  PathsOf : Image → Intake → What
  CountsOf : Image → Intake → What
  PacketsOf : Intake → What
  TimesOf : Intake → What

abbrev pub intake_of : What → Intake
intake_of (PathsOf image r) = r
intake_of (CountsOf image r) = r
intake_of (PacketsOf r) = r
intake_of (TimesOf r) = r

-- the sizes of each stream's trace unit
abbrev pub sizes_by : Intake → ℕ → Sizes
sizes_by r id = sizes_at r.units id

abbrev pub listing_of : What → Listing
listing_of (PathsOf image r) = by_sizes (paths image) (sizes_by r)
listing_of (CountsOf image r) = by_sizes (counted image) (sizes_by r)
listing_of (PacketsOf r) = by_sizes packet_lists (sizes_by r)
listing_of (TimesOf r) = by_sizes times (sizes_by r)

-- how the bytes of an input become pairs of ID and byte
abbrev pub laid_in : Layout → Laid
laid_in Raw = raw_laid
laid_in Frames = frames_laid
laid_in (Wrapped k) = wrapped_laid k
laid_in Synced = synced_laid

abbrev pub laid_of : What → Laid
laid_of what = laid_in (intake_of what).layout
