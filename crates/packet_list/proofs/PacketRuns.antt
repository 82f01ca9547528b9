-- Bytes of a packet list that are taken one after the other, or whole packets together.
use Rattle.std.proofs.Common.{◌≡◌, ℕ, ◌+◌, ◌<◌, ◌≤◌, List, [], ◌∷◌, ◌++◌, length, get_or, Option, Result, Some, None, Ok, Err, refl, sym, ap, subst, ◌∙◌, arith}
use Rattle.std.proofs.Common.{append_assoc, append-nil, length-append}
use Rattle.std.specs.Prelude.{All, IsOk}
use Rattle.std.specs.List.{concat}
use Rattle.std.proofs.lemmas.List.{append_cancel_left, map-append}
use Rattle.std.proofs.lemmas.List.Folds.{concat-append}
use Rattle.std.proofs.lemmas.List.Elements.{All-append, All-from_get_or}
use Rattle.etm_types.specs.Settings.{Sizes, AreSettings}
use Rattle.packet_grammar.specs.declared.packet.Packet.{Packet}
use Rattle.packet_grammar.specs.declared.fault.PacketFault.{PacketFault}
use Rattle.packet_grammar.specs.Parsed.{Ending, no_sync, clean, cut, fault, IsStream}
use Rattle.packet_grammar.proofs.Fitting.{small_back, small_front}
use Rattle.packet_grammar.proofs.GoesOn.{fault_stays}
use Rattle.packet_grammar.proofs.Longer.{begins_alike}
use Rattle.packet_grammar.proofs.Streams.{each_is_a_stream, one_stream}
use Rattle.packet_reader.specs.declared.step.Step.{Step}
use Rattle.packet_reader.specs.Stands.{Gains, PacketReading, StandsAt, TakesPacket}
use Rattle.capture_streams.specs.Streams.{RunAdds}
use Rattle.capture_streams.specs.Texts.{StreamBody}
use Rattle.packet_reader.specs.Answered.{told, fault_after, fault_of}
use Rattle.path_text.proofs.Wrote.{Wrote, fails_after, wrote_more, wrote_nothing, writes_all}
use Rattle.path_text.specs.PacketLines.{packet_line}
use Rattle.path_text.specs.Writing.{Writes}
use Rattle.packet_list.proofs.PacketLists.{packets_more, read_more}
use Rattle.packet_list.specs.PacketList.{HasRead, IsReading, TakesFront, packet_lines, packet_lists}
use Rattle.trace_io.specs.State.{IoState}

abbrev Small : List ℕ → Type 0
Small bytes = All (λ (b : ℕ). b < 256) bytes

-- bytes of a slice
pub small_bytes : (bytes : List ℕ) → ((i : ℕ) → get_or bytes i 0 < 256) → Small bytes
small_bytes bytes each = All-from_get_or (λ (b : ℕ). b < 256) bytes 0 (λ i lt. each i)

lines-append : (id : ℕ) (xs ys : List (ℕ × Packet)) → packet_lines id (xs ++ ys) ≡ packet_lines id xs ++ packet_lines id ys
lines-append id xs ys = map-append (λ (p : ℕ × Packet). packet_line id p.0 p.1) xs ys

-- ---- the lines that bytes add

module _ (s : Sizes) (are : AreSettings s) (id : ℕ) where
  pub run_body : (bytes text : List ℕ) (packets more : List (ℕ × Packet)) (ending next : Ending) → Small (bytes ++ text)
      → IsStream s bytes packets ending → IsStream s (bytes ++ text) (packets ++ more) next
      → StreamBody (packet_lists s) id bytes text (packet_lines id more)
  run_body bytes [] packets more ending next small was is =
      let same = one_stream s are bytes (packets ++ more) packets next ending
      (subst (λ (b : List ℕ). IsStream s b (packets ++ more) next) (append-nil bytes) is) was in
      ap (packet_lines id) (append_cancel_left packets more [] (same.0 ∙ sym (append-nil packets)))
  run_body bytes (b ∷ text) packets more ending next small was is =
      let here = bytes ++ b ∷ [] in
      let joined : bytes ++ (b ∷ text) ≡ here ++ text = sym (append_assoc bytes (b ∷ []) text) in
      let mid = each_is_a_stream s are here (small_front (bytes ++ (b ∷ text)) here text joined small) in
      let first = begins_alike s are bytes (b ∷ []) packets mid.packets ending mid.ending was mid.is in
      let now = subst (λ (p : List (ℕ × Packet)). IsStream s here p mid.ending) first.1 mid.is in
      let whole = subst (λ (t : List ℕ). IsStream s t (packets ++ more) next) joined is in
      let others = begins_alike s are here text (packets ++ first.0) (packets ++ more) mid.ending next now whole in
      let parts : more ≡ first.0 ++ others.0 =
      append_cancel_left packets more (first.0 ++ others.0) (others.1 ∙ append_assoc packets first.0 others.0) in
      let later = run_body here text (packets ++ first.0) others.0 mid.ending next (subst Small joined small) now
      (subst (λ (p : List (ℕ × Packet)). IsStream s (here ++ text) p next) others.1 whole) in (
        packet_lines id first.0,
        packet_lines id others.0,
        (packets, first.0, ending, mid.ending, was, now, refl),
        later,
        ap (packet_lines id) parts ∙ lines-append id first.0 others.0,
      )

-- ---- what a reader takes

-- what is read of the same bytes
moved : (r : PacketReading) (found : Option (ℕ × PacketFault)) (bytes more : List ℕ) → bytes ≡ more → (is : HasRead r found bytes)
    → (now : HasRead r found more) × (now.packets ≡ is.packets)
moved r found bytes more same is = (
  record {
    small = subst Small same is.small;
    stands = subst (StandsAt r) same is.stands;
    packets = is.packets;
    ending = is.ending;
    stream = subst (λ (b : List ℕ). IsStream r.settings b is.packets is.ending) same is.stream;
    fault = is.fault;
  },
  refl,
)

-- a reader took bytes, and with them these packets were told
pub record Came (old new : PacketReading) (found next : Option (ℕ × PacketFault)) (text : List ℕ) (more : List (ℕ × Packet)) : Type 0 where
  pub settings : new.settings ≡ old.settings
  pub offset : new.offset ≡ old.offset + length text
  pub read : (bytes : List ℕ) (is : HasRead old found bytes) → (now : HasRead new next (bytes ++ text)) × (now.packets ≡ is.packets ++ more)

pub came_nothing : (r : PacketReading) (found : Option (ℕ × PacketFault)) → Came r r found found [] []
came_nothing r found =
    record {
      settings = refl;
      offset = omega arith;
      read = λ bytes is. let now = moved r found bytes (bytes ++ []) (sym (append-nil bytes)) is in (now.0, now.1 ∙ sym (append-nil is.packets));
    }

pub came_more : (a b c : PacketReading) (f g h : Option (ℕ × PacketFault)) (xs ys : List ℕ) (ps qs : List (ℕ × Packet)) → Came a b f g xs ps → Came b c g h ys qs
    → Came a c f h (xs ++ ys) (ps ++ qs)
came_more a b c f g h xs ys ps qs p q =
    record {
      settings = q.settings ∙ p.settings;
      offset = omega (arith, p.offset, q.offset, length-append xs ys);
      read = λ bytes is.
          let one = p.read bytes is in let two = q.read (bytes ++ xs) one.0 in
          let now = moved c h ((bytes ++ xs) ++ ys) (bytes ++ (xs ++ ys)) (append_assoc bytes xs ys) two.0 in
          (now.0, now.1 ∙ two.1 ∙ ap (λ (l : List (ℕ × Packet)). l ++ qs) one.1 ∙ append_assoc is.packets ps qs);
    }

pub came_byte : (old new : PacketReading) (found : Option (ℕ × PacketFault)) (byte : ℕ) (step : Step) → AreSettings old.settings → byte < 256
    → new.settings ≡ old.settings → new.offset ≡ old.offset + 1
    → ((bytes : List ℕ) → StandsAt old bytes → StandsAt new (bytes ++ byte ∷ []))
    → ((bytes : List ℕ) → StandsAt old bytes → Gains old.settings bytes byte step) → Came old new found (fault_after found step) (byte ∷ []) (told step)
came_byte old new found byte step are fits same taken stands gains =
    record {
      settings = same;
      offset = taken;
      read = λ bytes is. (
        read_more old new found byte step are fits same stands gains bytes is,
        packets_more old new found byte step are fits same stands gains bytes is,
      );
    }

-- a packet does not come behind a fault
no_fault : (s : Sizes) → AreSettings s → (bytes text : List ℕ) (packets others : List (ℕ × Packet)) (ending : Ending) → IsStream s bytes packets ending
    → IsStream s (bytes ++ text) others clean → fault_of ending ≡ None
no_fault s are bytes text packets others no_sync is now = refl
no_fault s are bytes text packets others clean is now = refl
no_fault s are bytes text packets others (cut n) is now = refl
no_fault s are bytes text packets others (fault at f) is now =
    let same : fault at f ≡ clean =
    (one_stream s are (bytes ++ text) packets others (fault at f) clean (fault_stays s bytes text packets at f is) now).1 in absurd cc

pub came_packet : (old new : PacketReading) (found : Option (ℕ × PacketFault)) (text : List ℕ) (at : ℕ) (packet : Packet) → AreSettings old.settings → Small text
    → TakesPacket old new text at packet → Came old new found found text ((at, packet) ∷ [])
came_packet old new found text at packet are fits t =
    record {
      settings = t.settings;
      offset = t.offset;
      read = λ bytes is.
          let (packets, ending, was, now) = t.gains bytes is.stands in
          let same = one_stream old.settings are bytes packets is.packets ending is.ending was is.stream in
          let all = is.packets ++ (at, packet) ∷ [] in
          let here = subst (λ (p : List (ℕ × Packet)). IsStream old.settings (bytes ++ text) (p ++ (at, packet) ∷ []) clean) same.0 now in (
            record {
              small = All-append (λ (b : ℕ). b < 256) bytes text is.small fits;
              stands = t.stands bytes is.stands;
              packets = all;
              ending = clean;
              stream = subst (λ (s : Sizes). IsStream s (bytes ++ text) all clean) (sym t.settings) here;
              fault = sym (no_fault old.settings are bytes text is.packets all is.ending is.stream here) ∙ is.fault;
            },
            refl,
          );
    }

-- ---- how far a run was taken

-- a front of the bytes was taken, and the lines of its packets were written
pub record Along (id : ℕ) (old new : PacketReading) (found next : Option (ℕ × PacketFault)) (a b : IoState) (run rest : List ℕ) : Type 0 where
  pub front : List ℕ
  pub parts : run ≡ front ++ rest
  pub more : List (ℕ × Packet)
  pub came : Came old new found next front more
  pub wrote : Wrote a b (concat (packet_lines id more))

pub along_first : (id : ℕ) (r : PacketReading) (found : Option (ℕ × PacketFault)) (a : IoState) (run : List ℕ) → Along id r r found found a a run run
along_first id r found a run = record { front = []; parts = refl; more = []; came = came_nothing r found; wrote = wrote_nothing a }

pub along_reads : (id : ℕ) (old new : PacketReading) (found next : Option (ℕ × PacketFault)) (a b : IoState) (run rest : List ℕ) → IsReading old found
    → Along id old new found next a b run rest → IsReading new next
along_reads id old new found next a b run rest reads is =
    record {
      settings = subst AreSettings (sym is.came.settings) reads.settings;
      bytes = reads.bytes ++ is.front;
      read = (is.came.read reads.bytes reads.read).0;
    }

came_reads : (old new : PacketReading) (found next : Option (ℕ × PacketFault)) (text : List ℕ) (more : List (ℕ × Packet)) → IsReading old found
    → Came old new found next text more → IsReading new next
came_reads old new found next text more reads is =
    record {
      settings = subst AreSettings (sym is.settings) reads.settings;
      bytes = reads.bytes ++ text;
      read = (is.read reads.bytes reads.read).0;
    }

-- how many bytes were taken, and are left
pub along_taken : (id : ℕ) (old new : PacketReading) (found next : Option (ℕ × PacketFault)) (a b : IoState) (run rest : List ℕ)
    → Along id old new found next a b run rest → new.offset + length rest ≡ old.offset + length run
along_taken id old new found next a b run rest is = omega (arith, is.came.offset, ap length is.parts, length-append is.front rest)

-- a part of what was left is taken more
between : (id : ℕ) (old mid new : PacketReading) (found here : Option (ℕ × PacketFault)) (a b : IoState) (run rest text behind : List ℕ)
    → Along id old mid found here a b run rest → rest ≡ text ++ behind → new.offset ≡ mid.offset + length text
    → (old.offset ≤ new.offset) × (new.offset ≤ old.offset + length run)
between id old mid new found here a b run rest text behind is parts taken =
    let sum = along_taken id old mid found here a b run rest is in
    let left : length rest ≡ length text + length behind = ap length parts ∙ length-append text behind in
    (omega (arith, taken, is.came.offset), omega (arith, taken, sum, left))

-- what a run adds
adds_so : {T E : Type 0} (id : ℕ) (old new : PacketReading) (found next : Option (ℕ × PacketFault)) (took others : List ℕ) (more : List (ℕ × Packet))
    (a b : IoState) (result : Result T E) → AreSettings old.settings → Came old new found next took more → Writes a b result (concat (packet_lines id more))
    → (IsOk result → others ≡ []) → (bytes : List ℕ) → HasRead old found bytes
    → RunAdds (packet_lists old.settings) id bytes (took ++ others) a b result
adds_so id old new found next took others more a b result are came writes all bytes is =
    let now = came.read bytes is in
    let stream = subst (λ (p : List (ℕ × Packet)). IsStream old.settings (bytes ++ took) p now.0.ending) now.1
    (subst (λ (s : Sizes). IsStream s (bytes ++ took) now.0.packets now.0.ending) came.settings now.0.stream) in
    record {
      took = took;
      others = others;
      parts = refl;
      lines = packet_lines id more;
      body = run_body old.settings are id bytes took is.packets more is.ending now.0.ending now.0.small is.stream stream;
      writes = writes;
      all = all;
    }

module _ (id : ℕ) (old : PacketReading) (found : Option (ℕ × PacketFault)) (a : IoState) (run : List ℕ) (reads : IsReading old found) where
  module _ (new : PacketReading) (next : Option (ℕ × PacketFault)) (b : IoState) where
    -- all of it was taken
    pub along_read : (rest : List ℕ) → length rest ≡ 0 → Along id old new found next a b run rest → (bytes : List ℕ) → HasRead old found bytes
        → HasRead new next (bytes ++ run)
    along_read [] none is bytes read =
        let whole : run ≡ is.front = is.parts ∙ append-nil is.front in
        subst (λ (t : List ℕ). HasRead new next (bytes ++ t)) (sym whole) (is.came.read bytes read).0
    along_read (x ∷ rest) none is bytes read = absurd (omega (arith, none))

    pub along_adds : {T E : Type 0} (x : T) (rest : List ℕ) → length rest ≡ 0 → Along id old new found next a b run rest → (bytes : List ℕ)
        → HasRead old found bytes → RunAdds {T = T} {E = E} (packet_lists old.settings) id bytes run a b (Ok x)
    along_adds {T} {E} x [] none is bytes read =
        subst (λ (t : List ℕ). RunAdds {T = T} {E = E} (packet_lists old.settings) id bytes t a b (Ok x)) (sym is.parts)
        (adds_so id old new found next is.front [] is.more a b (Ok x) reads.settings is.came
        (writes_all a b x (concat (packet_lines id is.more)) is.wrote) (λ ok. refl) bytes read)
    along_adds x (y ∷ rest) none is bytes read = absurd (omega (arith, none))

  module _ (mid new : PacketReading) (here next : Option (ℕ × PacketFault)) (b c : IoState) (rest text behind : List ℕ) (told : List (ℕ × Packet))
      (is : Along id old mid found here a b run rest) (parts : rest ≡ text ++ behind) (came : Came mid new here next text told) where
    both : Came old new found next (is.front ++ text) (is.more ++ told)
    both = came_more old mid new found here next is.front text is.more told is.came came

    whole : run ≡ (is.front ++ text) ++ behind
    whole = is.parts ∙ ap (λ (t : List ℕ). is.front ++ t) parts ∙ sym (append_assoc is.front text behind)

    joined : concat (packet_lines id is.more) ++ concat (packet_lines id told) ≡ concat (packet_lines id (is.more ++ told))
    joined = sym (ap concat (lines-append id is.more told) ∙ concat-append (packet_lines id is.more) (packet_lines id told))

    pub along_more : Wrote b c (concat (packet_lines id told)) → Along id old new found next a c run behind
    along_more wrote =
        record {
          front = is.front ++ text;
          parts = whole;
          more = is.more ++ told;
          came = both;
          wrote = subst (Wrote a c) joined (wrote_more a b c (concat (packet_lines id is.more)) (concat (packet_lines id told)) is.wrote wrote);
        }

    -- the reader took them
    pub more_reads : IsReading new next
    more_reads = came_reads old new found next (is.front ++ text) (is.more ++ told) reads both

    -- and their lines could not be written
    pub along_fails : {T U E : Type 0} (e d : E) → Writes {T = T} b c (Err e) (concat (packet_lines id told)) → (bytes : List ℕ) → HasRead old found bytes
        → RunAdds {T = U} (packet_lists old.settings) id bytes run a c (Err d)
    along_fails {T} {U} {E} e d writes bytes read =
        let lines = concat (packet_lines id told) in let before = concat (packet_lines id is.more) in
        let failed = fails_after {T = T} {U = U} a b c e d before lines [] (concat (packet_lines id (is.more ++ told)))
        (ap (λ (t : List ℕ). before ++ t) (append-nil lines) ∙ joined) is.wrote writes in
        subst (λ (t : List ℕ). RunAdds {T = U} {E = E} (packet_lists old.settings) id bytes t a c (Err d)) (sym whole)
        (adds_so id old new found next (is.front ++ text) behind (is.more ++ told) a c (Err d) reads.settings both failed (λ ok. absurd cc) bytes read)

-- ---- a packet, or a byte

module _ (id : ℕ) (old : PacketReading) (found : Option (ℕ × PacketFault)) (a : IoState) (run : List ℕ) (reads : IsReading old found) (small : Small run)
    (mid new : PacketReading) (here : Option (ℕ × PacketFault)) (b c : IoState) (rest : List ℕ) (is : Along id old mid found here a b run rest) where
  pub along_settings : AreSettings mid.settings
  along_settings = subst AreSettings (sym is.came.settings) reads.settings

  left_small : Small rest
  left_small = small_back run is.front rest is.parts small

  module _ (behind : List ℕ) (at : ℕ) (packet : Packet) (front : TakesFront mid new rest behind at packet) where
    abbrev one : List (ℕ × Packet)
    one = (at, packet) ∷ []

    took : Came mid new here here front.text one
    took = came_packet mid new here front.text at packet along_settings (small_front rest front.text behind front.parts left_small) front.takes

    line : packet_line id at packet ≡ concat (packet_lines id one)
    line = sym (append-nil (packet_line id at packet))

    -- the packet in front was taken, and its line was written
    pub front_more : Wrote b c (packet_line id at packet) → Along id old new found here a c run behind
    front_more wrote =
        along_more id old found a run reads mid new here here b c rest front.text behind one is front.parts took (subst (Wrote b c) line wrote)

    pub front_reads : IsReading new here
    front_reads = more_reads id old found a run reads mid new here here b c rest front.text behind one is front.parts took

    pub front_between : (old.offset ≤ new.offset) × (new.offset ≤ old.offset + length run)
    front_between = between id old mid new found here a b run rest front.text behind is front.parts front.takes.offset

    -- and its line could not be written
    pub front_fails : {T U E : Type 0} (e d : E) → Writes {T = T} b c (Err e) (packet_line id at packet) → (bytes : List ℕ) → HasRead old found bytes
        → RunAdds {T = U} (packet_lists old.settings) id bytes run a c (Err d)
    front_fails {T} {U} {E} e d writes bytes read =
        along_fails id old found a run reads mid new here here b c rest front.text behind one is front.parts took {T = T} {U = U} e d
        (subst (Writes {T = T} {E = E} b c (Err e)) line writes) bytes read

  module _ (byte : ℕ) (later : List ℕ) (step : Step) (parts : rest ≡ byte ∷ later) (fits : byte < 256) (same : new.settings ≡ mid.settings)
      (taken : new.offset ≡ mid.offset + 1) (stands : (bytes : List ℕ) → StandsAt mid bytes → StandsAt new (bytes ++ byte ∷ []))
      (gains : (bytes : List ℕ) → StandsAt mid bytes → Gains mid.settings bytes byte step) (next : Option (ℕ × PacketFault))
      (is_next : next ≡ fault_after here step) where
    stepped : Came mid new here next (byte ∷ []) (told step)
    stepped = subst (λ (f : Option (ℕ × PacketFault)). Came mid new here f (byte ∷ []) (told step)) (sym is_next)
        (came_byte mid new here byte step along_settings fits same taken stands gains)

    -- a byte was taken, and the line of the packet that it ends was written
    pub step_more : Wrote b c (concat (packet_lines id (told step))) → Along id old new found next a c run later
    step_more wrote = along_more id old found a run reads mid new here next b c rest (byte ∷ []) later (told step) is parts stepped wrote

    pub step_reads : IsReading new next
    step_reads = more_reads id old found a run reads mid new here next b c rest (byte ∷ []) later (told step) is parts stepped

    pub step_between : (old.offset ≤ new.offset) × (new.offset ≤ old.offset + length run)
    step_between = between id old mid new found here a b run rest (byte ∷ []) later is parts taken

    -- and it could not be written
    pub step_fails : {T U E : Type 0} (e d : E) → Writes {T = T} b c (Err e) (concat (packet_lines id (told step))) → (bytes : List ℕ)
        → HasRead old found bytes → RunAdds {T = U} (packet_lists old.settings) id bytes run a c (Err d)
    step_fails {T} {U} {E} e d writes bytes read =
        along_fails id old found a run reads mid new here next b c rest (byte ∷ []) later (told step) is parts stepped {T = T} {U = U} e d writes bytes read

pub some_is_not_none : {A E : Type 0} (answer : Option A) (x : A) → answer ≡ Some x → ◌≡◌ {A = Result (Option A) E} (Ok answer) (Ok None) → ⊥
some_is_not_none answer x is none = absurd cc
