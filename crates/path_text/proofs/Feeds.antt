-- No text of a line has an LF.
use Rattle.std.proofs.Common.{◌≡◌, ◌≢◌, ℕ, ◌+◌, ◌/◌, ◌%◌, nat_lt, slice_index_or, Bool, true, false, if◌then◌else◌, List, [], ◌∷◌, ◌++◌, map, Option, Some, None, refl, arith}
use Rattle.std.specs.Prelude.{All, ◌==◌, codes}
use Rattle.std.specs.Int.Digits.{digits_of}
use Rattle.std.proofs.lemmas.Bool.{eqb-false}
use Rattle.std.proofs.lemmas.List.Elements.{All-nil, All-cons, All-append, All-map}
use Rattle.etm_types.specs.declared.context.Ctx.{Ctx}
use Rattle.etm_types.specs.declared.queue_fault.QueueFault.{QueueFault}
use Rattle.etm_types.specs.declared.queue_fault.QueueFault.TheVariants as queue
use Rattle.etm_types.specs.declared.walk_fault.WalkFault.{WalkFault}
use Rattle.etm_types.specs.declared.walk_fault.WalkFault.TheVariants as walk
use Rattle.etm_types.specs.Atoms.{atoms_in}
use Rattle.etm_types.specs.declared.address.AddrForm.{AddrForm}
use Rattle.etm_types.specs.declared.address.AddrForm.TheVariants.{Match, Short1, Short2, Long32, Long64}
use Rattle.etm_types.specs.declared.atoms.AtomRun.{AtomRun}
use Rattle.etm_types.specs.declared.atoms.FewAtoms.{FewAtoms}
use Rattle.etm_types.specs.declared.context.CtxBits.{CtxBits}
use Rattle.packet_grammar.specs.declared.end.End.{End}
use Rattle.packet_grammar.specs.declared.end.End.TheVariants as end
use Rattle.packet_grammar.specs.declared.fault.PacketFault.{PacketFault}
use Rattle.packet_grammar.specs.declared.fault.PacketFault.TheVariants as bad
use Rattle.packet_grammar.specs.declared.fault.RefusedKind.{RefusedKind}
use Rattle.packet_grammar.specs.declared.fault.RefusedKind.TheVariants as kind
use Rattle.packet_grammar.specs.declared.packet.Packet.{Packet}
use Rattle.packet_grammar.specs.declared.packet.Packet.TheVariants as packet
use Rattle.packet_grammar.specs.declared.stream_fault.Fault.{Fault}
use Rattle.packet_grammar.specs.declared.stream_fault.Fault.TheVariants as fault
use Rattle.path_text.specs.EndLines.{refused_text, packet_fault_text, queue_fault_text, walk_fault_text, fault_text, end_text, end_line, frame_cut_line}
use Rattle.path_text.specs.Lines.{digit, in_base, hex, decimal, number_or_dash, byte_text, security, line_start, line_of, IsLine}
use Rattle.path_text.specs.PacketLines.{atoms_text, carried_text, few_text, form_text, letter, mispredict_text, packet_line, packet_text, target_text, told_context_text}
use Rattle.path_text.specs.PathLines.{whole_context_text, exception_names, name_among, exception_text}

abbrev IsOther : ℕ → Type 0
IsOther b = b ≢ 10

abbrev pub HasNone : List ℕ → Type 0
HasNone text = All (λ b. b ≢ 10) text

-- ---- texts that are written out

abbrev has_one : List ℕ → Bool
has_one [] = false
has_one (b ∷ text) = if b == 10 then true else has_one text

other_first : (b : ℕ) (text : List ℕ) (test rest : Bool) → (b == 10) ≡ test → (rest ≡ false → HasNone text) → (if test then true else rest) ≡ false
    → HasNone (b ∷ text)
other_first b text true rest is later none = absurd cc
other_first b text false rest is later none = All-cons IsOther b text (eqb-false b 10 is) (later none)

pub written : (text : List ℕ) → has_one text ≡ false → HasNone text
written [] none = All-nil IsOther
written (b ∷ text) none = other_first b text (b == 10) (has_one text) refl (written text) none

-- ---- texts that are put together

both : (front back : List ℕ) → HasNone front → HasNone back → HasNone (front ++ back)
both front back none also = All-append IsOther front back none also

chosen : (test : Bool) (first second : List ℕ) → HasNone first → HasNone second → HasNone (if test then first else second)
chosen true first second none also = none
chosen false first second none also = also

digit_other : (small : Bool) (d : ℕ) → IsOther (if small then 48 + d else 87 + d)
digit_other true d is = absurd (omega (arith, is))
digit_other false d is = absurd (omega (arith, is))

number : (base n : ℕ) → HasNone (in_base base n)
unfolding in_base
number base n =
    chosen (n == 0) (48 ∷ []) (map digit (digits_of base n)) (written (48 ∷ []) refl)
    (All-map IsOther digit (digits_of base n) (λ k d lt. digit_other (nat_lt (slice_index_or (digits_of base n) k d) 10) _))

byte : (b : ℕ) → HasNone (byte_text b)
byte b =
    All-cons IsOther (digit (b / 16)) (digit (b % 16) ∷ []) (digit_other (nat_lt (b / 16) 10) (b / 16))
    (All-cons IsOther (digit (b % 16)) [] (digit_other (nat_lt (b % 16) 10) (b % 16)) (All-nil IsOther))

-- a text that is written out, and a number
words_and : (words : List ℕ) (base n : ℕ) → has_one words ≡ false → HasNone (words ++ in_base base n)
words_and words base n none = both words (in_base base n) (written words none) (number base n)

spaced : (text : List ℕ) → HasNone text → HasNone (text ++ codes " ")
spaced text none = both text (codes " ") none (written (codes " ") refl)

-- and another
words_and_both : (words : List ℕ) (base m n : ℕ) → has_one words ≡ false → HasNone (words ++ in_base base m ++ codes " " ++ in_base base n)
words_and_both words base m n none =
    both (words ++ in_base base m ++ codes " ") (in_base base n) (spaced (words ++ in_base base m) (words_and words base m none)) (number base n)

words_and_byte : (words : List ℕ) (b : ℕ) → has_one words ≡ false → HasNone (words ++ byte_text b)
words_and_byte words b none = both words (byte_text b) (written words none) (byte b)

-- ---- the texts of items

security_other : (ns : Bool) → HasNone (security ns)
security_other ns = chosen ns (codes " ns ") (codes " s ") (written (codes " ns ") refl) (written (codes " s ") refl)

pub context_other : (ctx : Ctx) → HasNone (whole_context_text ctx)
context_other ctx =
    let level = codes "ctx el" ++ decimal ctx.el in
    let state = level ++ security ctx.ns in
    let machine = state ++ hex ctx.vmid in
    let none = both level (security ctx.ns) (words_and (codes "ctx el") 10 ctx.el refl) (security_other ctx.ns) in
    both (machine ++ codes " ") (hex ctx.cid) (spaced machine (both state (hex ctx.vmid) none (number 16 ctx.vmid))) (number 16 ctx.cid)

abbrev has_one_name : List (ℕ × List ℕ) → Bool
has_one_name [] = false
has_one_name (n ∷ names) = if has_one n.1 then true else has_one_name names

name_first : (test rest : Bool) (name : List ℕ) → has_one name ≡ test → (if test then true else rest) ≡ false → HasNone name × (rest ≡ false)
name_first true rest name is none = absurd cc
name_first false rest name is none = (written name is, none)

name_other : (names : List (ℕ × List ℕ)) (type : ℕ) → has_one_name names ≡ false → HasNone (name_among names type)
name_other [] type none = number 10 type
name_other (n ∷ names) type none =
    let first = name_first (has_one n.1) (has_one_name names) n.1 refl none in
    chosen (n.0 == type) n.1 (name_among names type) first.0 (name_other names type first.1)

pub exception_other : (type ret : ℕ) → HasNone (exception_text type ret)
exception_other type ret =
    let name = codes "exc " ++ name_among exception_names type in
    let none = both (codes "exc ") (name_among exception_names type) (written (codes "exc ") refl) (name_other exception_names type refl) in
    both (name ++ codes " ") (hex ret) (spaced name none) (number 16 ret)

pub address_other : (address : ℕ) → HasNone (hex address)
address_other address = number 16 address

-- ---- the texts of ends

refused_other : (about : RefusedKind) → HasNone (refused_text about)
refused_other kind.CycleCount = written (codes "cycle-count") refl
refused_other kind.TimeCycle = written (codes "time-cycle") refl
refused_other kind.DataSync = written (codes "data-sync") refl
refused_other kind.Conditional = written (codes "conditional") refl
refused_other kind.Q = written (codes "q") refl
refused_other kind.MProfile = written (codes "m-profile") refl
refused_other kind.Aarch32Address = written (codes "aarch32-address") refl

packet_fault_other : (why : PacketFault) → HasNone (packet_fault_text why)
packet_fault_other (bad.Reserved b) = words_and_byte (codes "reserved ") b refl
packet_fault_other (bad.Refused about b) =
    let name = codes "refused " ++ refused_text about in
    let none = both (codes "refused ") (refused_text about) (written (codes "refused ") refl) (refused_other about) in
    both (name ++ codes " ") (byte_text b) (spaced name none) (byte b)
packet_fault_other (bad.Extension b) = words_and_byte (codes "extension ") b refl
packet_fault_other bad.BrokenSync = written (codes "broken-sync") refl
packet_fault_other (bad.InfoControl b) = words_and_byte (codes "info-control ") b refl
packet_fault_other (bad.InfoMode value) = words_and (codes "info-mode ") 10 value refl
packet_fault_other bad.NumberTooLong = written (codes "number-too-long") refl
packet_fault_other (bad.ExceptionTwoByte b) = words_and_byte (codes "exception-two-byte ") b refl
packet_fault_other (bad.ExceptionForm b) = words_and_byte (codes "exception-form ") b refl
packet_fault_other (bad.Aarch32Context b) = words_and_byte (codes "aarch32-context ") b refl

queue_fault_other : (why : QueueFault) → HasNone (queue_fault_text why)
queue_fault_other (queue.CommitOverrun asked held) = words_and_both (codes "commit-overrun ") 10 asked held refl
queue_fault_other (queue.CancelOverrun asked held) = words_and_both (codes "cancel-overrun ") 10 asked held refl
queue_fault_other (queue.NoAtomToFlip held) = words_and (codes "no-atom ") 10 held refl
queue_fault_other (queue.SpecTooDeep spec depth) = words_and_both (codes "spec-too-deep ") 10 spec depth refl

walk_fault_other : (why : WalkFault) → HasNone (walk_fault_text why)
walk_fault_other (walk.AddressMismatch known given) = words_and_both (codes "address-mismatch ") 16 known given refl
walk_fault_other (walk.NoCode address) = words_and (codes "no-code ") 16 address refl
walk_fault_other (walk.Odd address) = words_and (codes "odd ") 16 address refl
walk_fault_other (walk.BadAtom address) = words_and (codes "bad-atom ") 16 address refl
walk_fault_other (walk.ReturnMissed address ret) = words_and_both (codes "return-missed ") 16 address ret refl

fault_other : (why : Fault) → HasNone (fault_text why)
fault_other (fault.Packet why) = packet_fault_other why
fault_other fault.AddressAwaited = written (codes "address-awaited") refl
fault_other (fault.Queue why) = queue_fault_other why
fault_other (fault.Walk why) = walk_fault_other why

end_other : (last : End) → HasNone (end_text last)
end_other end.Clean = written (codes "end") refl
end_other (end.Cut n) = words_and (codes "cut ") 10 n refl
end_other end.NoSync = written (codes "nosync") refl
end_other (end.Fault at why) =
    let place = codes "fault " ++ decimal at in
    both (place ++ codes " ") (fault_text why) (spaced place (words_and (codes "fault ") 10 at refl)) (fault_other why)

-- ---- the texts of packets

told_other : (text : ℕ → List ℕ) → ((n : ℕ) → HasNone (text n)) → (told : Option ℕ) → HasNone (number_or_dash text told)
told_other text other None = written (codes "-") refl
told_other text other (Some n) = other n

told_context_other : (ctx : CtxBits) → HasNone (told_context_text ctx)
told_context_other ctx =
    let level = codes "ctx el" ++ decimal ctx.el in
    let state = level ++ security ctx.ns in
    let machine = state ++ number_or_dash hex ctx.vmid in
    let told = told_other hex (number 16) in
    let none = both level (security ctx.ns) (words_and (codes "ctx el") 10 ctx.el refl) (security_other ctx.ns) in
    both (machine ++ codes " ") (number_or_dash hex ctx.cid)
    (spaced machine (both state (number_or_dash hex ctx.vmid) none (told ctx.vmid))) (told ctx.cid)

carried_other : (ctx : Option CtxBits) → HasNone (carried_text ctx)
carried_other None = All-nil IsOther
carried_other (Some ctx) = both (codes " ") (told_context_text ctx) (written (codes " ") refl) (told_context_other ctx)

form_other : (form : AddrForm) → HasNone (form_text form)
form_other (Match index) = words_and (codes "match ") 10 index refl
form_other (Short1 value) = words_and (codes "short1 ") 16 value refl
form_other (Short2 value) = words_and (codes "short2 ") 16 value refl
form_other (Long32 value) = words_and (codes "long32 ") 16 value refl
form_other (Long64 value) = words_and (codes "long64 ") 16 value refl

letter_other : (atom : Bool) → IsOther (letter atom)
letter_other true is = absurd cc
letter_other false is = absurd cc

atoms_other : (run : AtomRun) → HasNone (atoms_text run)
atoms_other run = All-map IsOther letter (atoms_in run) (λ k d lt. letter_other (slice_index_or (atoms_in run) k d))

few_other : (few : FewAtoms) → HasNone (few_text few)
few_other few =
    let first = if few.first then codes "E" else codes "N" in
    let one = chosen few.first (codes "E") (codes "N") (written (codes "E") refl) (written (codes "N") refl) in
    let some = chosen (few.count == 2) (codes "EE") first (written (codes "EE") refl) one in
    chosen (few.count == 0) (codes "-") (if few.count == 2 then codes "EE" else first) (written (codes "-") refl) some

info_other : (info key spec cyct : Option ℕ) → HasNone (packet_text (packet.Info info key spec cyct))
info_other info key spec cyct =
    let first = codes "info " ++ number_or_dash decimal info in
    let second = first ++ codes " " ++ number_or_dash decimal key in
    let third = second ++ codes " " ++ number_or_dash decimal spec in
    let told = told_other decimal (number 10) in
    let one = both (codes "info ") (number_or_dash decimal info) (written (codes "info ") refl) (told info) in
    let two = both (first ++ codes " ") (number_or_dash decimal key) (spaced first one) (told key) in
    let three = both (second ++ codes " ") (number_or_dash decimal spec) (spaced second two) (told spec) in
    both (third ++ codes " ") (number_or_dash decimal cyct) (spaced third three) (told cyct)

packet_other : (p : Packet) → HasNone (packet_text p)
packet_other packet.Async = written (codes "async") refl
packet_other packet.Discard = written (codes "discard") refl
packet_other packet.Overflow = written (codes "overflow") refl
packet_other packet.On = written (codes "on") refl
packet_other packet.Ignore = written (codes "ignore") refl
packet_other (packet.Info info key spec cyct) = info_other info key spec cyct
packet_other (packet.Event n) = words_and (codes "event ") 10 n refl
packet_other (packet.Time bits low) = words_and_both (codes "time ") 10 bits low refl
packet_other (packet.Exc type target) =
    both (codes "exc " ++ decimal type) (target_text target) (words_and (codes "exc ") 10 type refl)
    (chosen target (codes " target") (codes "") (written (codes " target") refl) (All-nil IsOther))
packet_other (packet.Commit n) = words_and (codes "commit ") 10 n refl
packet_other (packet.Cancel n flip) =
    both (codes "cancel " ++ decimal n) (mispredict_text flip) (words_and (codes "cancel ") 10 n refl)
    (chosen flip (codes " mispredict") (codes "") (written (codes " mispredict") refl) (All-nil IsOther))
packet_other (packet.Mispredict few) = both (codes "mispredict ") (few_text few) (written (codes "mispredict ") refl) (few_other few)
packet_other (packet.Cancel2 few) = both (codes "cancel2 ") (few_text few) (written (codes "cancel2 ") refl) (few_other few)
packet_other (packet.Cancel3 e n) =
    both (if e then codes "cancel3 E " else codes "cancel3 - ") (decimal n)
    (chosen e (codes "cancel3 E ") (codes "cancel3 - ") (written (codes "cancel3 E ") refl) (written (codes "cancel3 - ") refl)) (number 10 n)
packet_other packet.CtxSame = written (codes "ctx same") refl
packet_other (packet.CtxInfo ctx) = told_context_other ctx
packet_other (packet.Addr form ctx) =
    let address = codes "addr " ++ form_text form in
    both address (carried_text ctx) (both (codes "addr ") (form_text form) (written (codes "addr ") refl) (form_other form)) (carried_other ctx)
packet_other (packet.Atoms run) = both (codes "atoms ") (atoms_text run) (written (codes "atoms ") refl) (atoms_other run)

-- ---- a line has one, at its end

pub line_is : (id : ℕ) (text : List ℕ) → HasNone text → IsLine (line_of id text)
line_is id text none = (
  line_start id ++ text,
  refl,
  both (line_start id) text (both (byte_text id) (32 ∷ []) (byte id) (written (32 ∷ []) refl)) none,
)

pub end_is : (id : ℕ) (last : End) → IsLine (end_line id last)
end_is id last = line_is id (end_text last) (end_other last)

pub packet_is : (id at : ℕ) (p : Packet) → IsLine (packet_line id at p)
packet_is id at p =
    let place = decimal at in
    line_is id (place ++ codes " " ++ packet_text p) (both (place ++ codes " ") (packet_text p) (spaced place (number 10 at)) (packet_other p))

pub cut_is : (left : ℕ) → IsLine (frame_cut_line left)
cut_is left = (codes "frame cut " ++ decimal left, refl, words_and (codes "frame cut ") 10 left refl)
