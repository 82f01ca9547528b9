-- Which elements the packets of orders have for a reader (Arm IHI 0064, "Descriptions of Trace Elements").
use Rattle.std.specs.Prelude.{◌≡◌, ℕ, true, List, None}
use Rattle.etm_types.specs.declared.element.Elem.{Elem}
use Rattle.packet_grammar.specs.declared.packet.Packet.{Packet}
use Rattle.path_elements.specs.Elements.{Gained, Told, all_elements}
use Rattle.path_elements.specs.Path.{unplaced}
use Rattle.path_elements.specs.PathLaws.{packets_alone}
use Rattle.trace_unit.specs.Packets.{Shared}

-- a reader that has what both ends have: a trace info came, and no exception awaits its address
abbrev pub told_with : Shared → Told
told_with shared = record { history = shared.history; context = shared.context; informed = true; awaiting = None }

-- these elements are gained, each packet may come where it does, and this is told behind them
pub record Gains (elements : List Elem) (next : Told) (gained : Gained) : Type 0 where
  pub are : unplaced gained.elements ≡ elements
  pub in_place : gained.awaited ≡ None
  pub behind : gained.told ≡ next

-- what a reader that was told this gains of the packets, wherever they stand in a stream
abbrev pub AreTold : Told → List Packet → List Elem → Told → Type 0
AreTold told packets elements next =
    (placed : List (ℕ × Packet)) → packets_alone placed ≡ packets → Gains elements next (all_elements told placed)
