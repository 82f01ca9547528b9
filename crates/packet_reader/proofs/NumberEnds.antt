-- The end of a commit packet whose number has one byte.
use Rattle.std.proofs.Common.{◌≡◌, ℕ, ◌+◌, ◌*◌, ◌^◌, ◌<◌, true, [], ◌∷◌, Ok, refl, arith, length-append}
use Rattle.etm_types.specs.Settings.{Sizes}
use Rattle.packet_grammar.specs.Fields.{is_last}
use Rattle.packet_grammar.specs.Ranges.{IsPacket}
use Rattle.packet_grammar.specs.declared.packet.Packet.{Packet}
use Rattle.packet_grammar.specs.declared.packet.Packet.TheVariants.{Commit}
use Rattle.packet_reader.specs.Stands.{Moved, Moves, TakesPacket}
use Rattle.packet_reader.specs.States.{Fits, behind_commit, tree_after, tree_of}
use Rattle.packet_reader.specs.Trees.{after, number_tree}
use Rattle.packet_reader.specs.declared.phase.Phase.TheVariants.{Between, Within}
use Rattle.packet_reader.specs.declared.state.State.{State}
use Rattle.packet_reader.specs.declared.state.Progress.TheVariants.{Done}
use Rattle.packet_reader.specs.declared.step.Step.TheVariants.{Whole}
use Rattle.packet_reader.proofs.Fronts.{last_below}
use Rattle.packet_reader.proofs.Hunt.{within_moves}

module _ (s : Sizes) (state : State) (start offset n : ℕ) (packet : Packet) (fits : Fits state) (values : IsPacket s packet)
    (known : tree_after s (Done (Ok packet)) ≡ after (tree_of s state) n) where
  abbrev ended : Moved
  ended = record { phase = Between; start = offset + 1; step = Whole start packet }

  moves : Moves s (Within state) start (offset + 1) n ended
  moves = within_moves s state start (offset + 1) n (Done (Ok packet)) ended fits tt known refl

  takes_end : TakesPacket (record { settings = s; phase = Within state; start = start; offset = offset })
      (record { settings = s; phase = Between; start = offset + 1; offset = offset + 1 }) (n ∷ []) start packet
  takes_end =
      record {
        settings = refl;
        offset = refl;
        stands = λ bytes stands. (
          omega (arith, length-append bytes (n ∷ []), stands.0),
          (moves bytes (omega (arith, stands.0)) stands.1).0,
        );
        gains = λ bytes stands. (moves bytes (omega (arith, stands.0)) stands.1).1;
        values = values;
      }

commit_known : (s : Sizes) (n : ℕ) → is_last n ≡ true → tree_after s (Done (Ok (Commit n))) ≡ after (tree_of s behind_commit) n
unfolding number_tree
commit_known s n last = let value : 0 + n * 128 ^ 0 ≡ n = omega arith in rw (last, value) refl

module _ (s : Sizes) (start offset n : ℕ) (few : n < 0x80) where
  pub takes_commit_end : TakesPacket (record { settings = s; phase = Within behind_commit; start = start; offset = offset })
      (record { settings = s; phase = Between; start = offset + 1; offset = offset + 1 }) (n ∷ []) start (Commit n)
  takes_commit_end =
      takes_end s behind_commit start offset n (Commit n) (refl, omega arith) (omega (arith, few)) (commit_known s n (last_below n few))
