-- The bytes of a packet, each with its answer.
use Rattle.std.proofs.Common.{◌≡◌, ℕ, suc, ◌-◌, ◌<◌, List, [], ◌∷◌, ◌++◌, length, Ok}
use Rattle.std.proofs.Common.{refl, sym, ap, subst, ◌∙◌, arith, append_assoc, append-nil, length-append}
use Rattle.std.specs.Prelude.{All, replicate}
use Rattle.std.proofs.lemmas.List.Elements.{All-tail}
use Rattle.etm_types.specs.Settings.{Sizes, AreSettings}
use Rattle.packet_grammar.specs.declared.packet.Packet.{Packet}
use Rattle.packet_grammar.specs.Parsed.{Ending, clean, cut, Spells, Begins, IsStream}
use Rattle.packet_grammar.proofs.Inverse.{packet_back}
use Rattle.packet_grammar.proofs.GoesOn.{stream_on, goes_on_by_a_packet}
use Rattle.packet_reader.specs.declared.step.Step.{Step}
use Rattle.packet_reader.specs.declared.step.Step.TheVariants.{More, Whole}
use Rattle.packet_reader.specs.Answered.{Answered, newest}
use Rattle.packet_reader.specs.Told.{EachSpellingIsTold}
use Rattle.packet_reader.proofs.OneAnswer.{each_has_its_answer}

newest_is : (packets : List (ℕ × Packet)) (at : ℕ) (packet : Packet) → newest (packets ++ (at, packet) ∷ []) ≡ Whole at packet
newest_is [] at packet = refl
newest_is (p ∷ []) at packet = refl
newest_is (p ∷ q ∷ packets) at packet = newest_is (q ∷ packets) at packet

module _ (s : Sizes) (are : AreSettings s) (bytes : List ℕ) (packets : List (ℕ × Packet)) (packet : Packet) (whole : IsStream s bytes packets clean) where
  -- the bytes from one of a spelling on
  each : (front more : List ℕ) (before : Ending) (steps : List Step) → IsStream s (bytes ++ front) packets before → All (λ b. b < 256) more → 0 < length more
      → Spells s (Ok packet) (front ++ more) → Answered s (bytes ++ front) more steps
      → steps ≡ replicate (length more - 1) More ++ Whole (length bytes) packet ∷ []
  each front [] before steps stood small some spells answered = absurd (omega (arith, some))
  each front (b ∷ more) before [] stood small some spells answered = absurd answered
  each front (b ∷ []) before (step ∷ step_2 ∷ steps) stood small some spells answered = absurd answered.1
  each front (b ∷ []) before (step ∷ []) stood small some spells answered =
      let stands : IsStream s ((bytes ++ front) ++ b ∷ []) (packets ++ (length bytes, packet) ∷ []) clean =
      subst (λ t. IsStream s t (packets ++ (length bytes, packet) ∷ []) clean) (sym (append_assoc bytes front (b ∷ [])))
      (goes_on_by_a_packet s bytes (front ++ b ∷ []) packets packet whole spells) in
      let is = each_has_its_answer s are (bytes ++ front) b step packets (packets ++ (length bytes, packet) ∷ []) before clean answered.0 stood stands in
      ap (λ x. x ∷ []) (is ∙ newest_is packets (length bytes) packet)
  each front (b ∷ c ∷ more) before (step ∷ steps) stood small some spells answered =
      let text : List ℕ = front ++ b ∷ [] in
      let rest : Spells s (Ok packet) (text ++ c ∷ more) = subst (λ t. Spells s (Ok packet) t) (sym (append_assoc front (b ∷ []) (c ∷ more))) spells in
      let small_rest = All-tail (λ (x : ℕ). x < 256) b (c ∷ more) small in
      let begun : Begins s text = record { outcome = Ok packet; more = c ∷ more; some = omega arith; small = small_rest; spells = rest } in
      let together = append_assoc bytes front (b ∷ []) in
      let stands : IsStream s (bytes ++ text) packets (cut (length text)) =
      subst (λ p. IsStream s (bytes ++ text) p (cut (length text))) (append-nil packets)
      (stream_on s bytes text packets [] (cut (length text)) whole (refl, omega (arith, length-append front (b ∷ [])), begun)) in
      let is =
      each_has_its_answer s are (bytes ++ front) b step packets packets before (cut (length text)) answered.0 stood
      (subst (λ t. IsStream s t packets (cut (length text))) (sym together) stands) in
      let later = each text (c ∷ more) (cut (length text)) steps stands small_rest (omega arith) rest
      (subst (λ t. Answered s t (c ∷ more) steps) together answered.1) in
      let count : length (b ∷ c ∷ more) - 1 ≡ suc (length (c ∷ more) - 1) = omega arith in
      (λ i. is i ∷ later i) ∙ ap (λ (n : ℕ). replicate n More ++ Whole (length bytes) packet ∷ []) (sym count)

pub each_spelling_is_told : EachSpellingIsTold
each_spelling_is_told s are bytes text packets packet steps whole small spells answered =
    let shown = packet_back s packet text spells in
    let some : 0 < length text = omega (arith, ap length shown.whole) in
    let here = sym (append-nil bytes) in
    each s are bytes packets packet whole [] text clean steps (subst (λ t. IsStream s t packets clean) here whole) small some spells
    (subst (λ t. Answered s t text steps) here answered)
