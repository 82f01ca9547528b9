-- What is shown of the last bytes that a trace unit wrote (Arm IHI 0064, "Alignment Synchronization packet", "Trace Info packet").
use Rattle.std.specs.Prelude.{◌≡◌, ℕ, List, ◌∷◌, ◌++◌, Some, None, Ok, drop}
use Rattle.element_queue.specs.Resolved.{Resolved, resolve, resolve_all, unresolved}
use Rattle.etm_types.specs.Settings.{Sizes}
use Rattle.etm_types.specs.declared.element.Elem.{Elem}
use Rattle.etm_types.specs.declared.element.Elem.TheVariants as elem
use Rattle.packet_grammar.specs.Entering.{EntersAt}
use Rattle.packet_grammar.specs.Parsed.{IsStream, clean}
use Rattle.packet_grammar.specs.declared.end.End.TheVariants as end
use Rattle.packet_grammar.specs.declared.packet.Packet.{Packet}
use Rattle.packet_grammar.specs.declared.packet.Packet.TheVariants as packet
use Rattle.path_elements.specs.Elements.{all_elements, untold}
use Rattle.path_elements.specs.Path.{IsPath, unplaced}
use Rattle.path_elements.specs.PathLaws.{packets_alone}
use Rattle.program_image.specs.declared.image.Image.{Image}
use Rattle.spec_run.specs.RetiredItems.{retired_of}
use Rattle.spec_run.specs.Runs.{Execution}
use Rattle.spec_run.specs.declared.event.Event.{Event}
use Rattle.trace_unit.specs.Packets.{announced}
use Rattle.trace_unit.specs.Taken.{Announces}
use Rattle.trace_unit.specs.Written.{settled}
use Rattle.late_reader.specs.Part.{ShowsPart}

-- a Trace Info packet that announces so many P0 elements
abbrev pub info : ℕ → Packet
info n = packet.Info (Some 0) None (announced n) None

-- Of the bytes of a trace so many of the first are missing, and the first A-sync in the others is at this offset. It is a packet of the
-- trace, and the trace info behind it announces as many P0 elements as the packets before it leave held. The path of these bytes ends clean,
-- and shows its part of the retired path.
pub record LastBytesShow (image : Image) (s : Sizes) (most : ℕ) (events : List Event) (x : Execution) (missing offset : ℕ) : Type 0 where
  pub packets : List (ℕ × Packet)
  pub stream : IsStream s (settled image s most events) packets clean
  pub enters : EntersAt s (settled image s most events) packets missing offset
  pub count : ℕ
  pub more : List Packet
  pub behind : packets_alone enters.rest ≡ info count ∷ more
  pub early : List Elem
  pub elements : List Elem
  pub told_before : unplaced (all_elements untold enters.front).elements ≡ early
  pub told : unplaced (all_elements untold packets).elements ≡ early ++ elem.Info count ∷ elements
  pub before : Resolved
  pub resolved : resolve_all s.depth unresolved early ≡ Ok before
  pub announces : Announces s.depth count before
  pub at : Resolved
  pub informed : resolve s.depth before (elem.Info count) ≡ Ok at
  pub whole : Resolved
  pub resolves : resolve_all s.depth unresolved (unplaced (all_elements untold packets).elements) ≡ Ok whole
  pub shows : ShowsPart image s.depth count at elements whole (retired_of x)
  pub path : IsPath image s (drop missing (settled image s most events)) shows.late_items end.Clean
