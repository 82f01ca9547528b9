-- The answer to a byte is settled by the stream before it and by the stream with it.
use Rattle.std.proofs.Common.{◌≡◌, ℕ, List, [], ◌∷◌, ◌++◌, refl, sym, ap, subst, ◌∙◌}
use Rattle.packet_grammar.specs.declared.packet.Packet.{Packet}
use Rattle.packet_grammar.specs.declared.fault.PacketFault.{PacketFault}
use Rattle.packet_grammar.specs.Parsed.{Ending, no_sync, clean, cut, fault}
use Rattle.packet_grammar.proofs.Streams.{one_stream}
use Rattle.packet_reader.specs.declared.step.Step.TheVariants.{Skipped, More, Whole, Bad, Stopped}
use Rattle.packet_reader.specs.Stands.{Goes}
use Rattle.packet_reader.specs.Answered.{newest, answer, EachHasItsAnswer}

newest_is : (packets : List (ℕ × Packet)) (at : ℕ) (packet : Packet) → newest (packets ++ (at, packet) ∷ []) ≡ Whole at packet
newest_is [] at packet = refl
newest_is (p ∷ []) at packet = refl
newest_is (p ∷ q ∷ packets) at packet = newest_is (q ∷ packets) at packet

bad_is : (before : Ending) → Goes before → (others : List (ℕ × Packet)) (at : ℕ) (f : PacketFault) → Bad at f ≡ answer before others (fault at f)
bad_is clean goes others at f = refl
bad_is (cut n) goes others at f = refl
bad_is no_sync goes others at f = absurd goes
bad_is (fault place g) goes others at f = absurd goes

pub each_has_its_answer : EachHasItsAnswer
each_has_its_answer s are bytes byte Skipped packets others before ending (was, now) is is_now =
    let same = one_stream s are (bytes ++ byte ∷ []) [] others no_sync ending now is_now in
    subst (λ e. Skipped ≡ answer before others e) same.1 refl
each_has_its_answer s are bytes byte More packets others before ending (read, end, n, goes, was, now) is is_now =
    let same = one_stream s are (bytes ++ byte ∷ []) read others (cut n) ending now is_now in
    subst (λ e. More ≡ answer before others e) same.1 refl
each_has_its_answer s are bytes byte (Whole at packet) packets others before ending (read, end, was, now) is is_now =
    let same = one_stream s are (bytes ++ byte ∷ []) (read ++ (at, packet) ∷ []) others clean ending now is_now in
    subst (λ e. Whole at packet ≡ answer before others e) same.1 (sym (ap newest (sym same.0) ∙ newest_is read at packet))
each_has_its_answer s are bytes byte (Bad at f) packets others before ending (read, end, goes, was, now) is is_now =
    let same = one_stream s are (bytes ++ byte ∷ []) read others (fault at f) ending now is_now in
    let earlier = one_stream s are bytes read packets end before was is in
    subst (λ e. Bad at f ≡ answer before others e) same.1 (subst (λ e. Bad at f ≡ answer e others (fault at f)) earlier.1 (bad_is end goes others at f))
each_has_its_answer s are bytes byte Stopped packets others before ending (read, at, f, was, now) is is_now =
    let same = one_stream s are (bytes ++ byte ∷ []) read others (fault at f) ending now is_now in
    let earlier = one_stream s are bytes read packets (fault at f) before was is in
    subst (λ e. Stopped ≡ answer before others e) same.1 (subst (λ e. Stopped ≡ answer e others (fault at f)) earlier.1 refl)
