-- Address packets at the front of some bytes.
use Rattle.std.proofs.Common.{◌≡◌, ◌∙◌, ℕ, ◌+◌, ◌-◌, ◌*◌, ◌^◌, ◌==◌, ◌&&◌, not, Bool, true, false, List, [], ◌∷◌, ◌++◌, length, Some, None, Ok}
use Rattle.std.proofs.Common.{refl, sym, ap, inl}
use Rattle.std.proofs.Common.{append_assoc, length-append, subst, arith, ◌<◌, ◌≤◌}
use Rattle.std.specs.Prelude.{All}
use Rattle.std.proofs.lemmas.Bool.{lt-ltb}
use Rattle.atom_formats.specs.Formats.{Spells as TellsAtoms}
use Rattle.etm_types.specs.Atoms.{IsAtomRun, atoms_in}
use Rattle.etm_types.specs.Settings.{Sizes}
use Rattle.etm_types.specs.declared.atoms.AtomRun.{AtomRun}
use Rattle.etm_types.specs.declared.address.AddrForm.TheVariants.{Match, Short1, Short2, Long32, Long64}
use Rattle.etm_types.specs.declared.context.CtxBits.{CtxBits}
use Rattle.packet_grammar.specs.declared.packet.Packet.{Packet}
use Rattle.packet_grammar.specs.declared.packet.Packet.TheVariants.{Addr, Atoms, Cancel, Commit}
use Rattle.packet_grammar.specs.Contexts.{Context, Field, address_of}
use Rattle.packet_grammar.specs.Fields.{bit, is_last, lowest}
use Rattle.packet_grammar.specs.Numbers.{little}
use Rattle.packet_grammar.specs.Parts.{Outcome, Part, Bytes, Where, As}
use Rattle.packet_grammar.specs.Parsed.{Spells, clean, IsStream}
use Rattle.packet_grammar.proofs.GoesOn.{goes_on_by_a_packet}
use Rattle.packet_grammar.proofs.InRange.{values_fit}
use Rattle.packet_grammar.proofs.Inverse.{as_back}
use Rattle.packet_reader.specs.Fronts.{IsFront}
use Rattle.packet_reader.specs.Stands.{TakesPacket}
use Rattle.packet_reader.specs.declared.phase.Phase.TheVariants.{Between}

where_so : {A : Type 0} (test : Bool) (P Q : Part A) (outcome : Outcome A) (bytes : List ℕ) → test ≡ true → P outcome bytes → Where test P Q outcome bytes
where_so true P Q outcome bytes e is = is
where_so false P Q outcome bytes e is = absurd cc

where_not : {A : Type 0} (test : Bool) (P Q : Part A) (outcome : Outcome A) (bytes : List ℕ) → test ≡ false → Q outcome bytes → Where test P Q outcome bytes
where_not true P Q outcome bytes e is = absurd cc
where_not false P Q outcome bytes e is = is

-- ---- short addresses

pub short_1 : (s : Sizes) (bytes rest : List ℕ) (a value : ℕ) → bytes ≡ a ∷ rest → is_last a ≡ true → value ≡ a * 2 ^ 2
    → IsFront (Spells s) (0x95 ∷ bytes) (Addr (Short1 value) None) rest
short_1 s bytes rest a value parts last is =
    record {
      text = 0x95 ∷ a ∷ [];
      parts = ap (λ t. 0x95 ∷ t) parts;
      spells = (a ∷ [], refl, where_so (is_last a) _ _ _ [] last (ap (λ k. Ok (Short1 k)) is));
    }

pub short_2 : (s : Sizes) (bytes later rest : List ℕ) (a b value : ℕ) → bytes ≡ a ∷ later → later ≡ b ∷ rest → is_last a ≡ false
    → value ≡ (a - 0x80) * 2 ^ 2 + b * 2 ^ 9 → IsFront (Spells s) (0x95 ∷ bytes) (Addr (Short2 value) None) rest
short_2 s bytes later rest a b value parts more last is =
    record {
      text = 0x95 ∷ a ∷ b ∷ [];
      parts = ap (λ t. 0x95 ∷ t) parts ∙ ap (λ t. 0x95 ∷ a ∷ t) more;
      spells = (a ∷ b ∷ [], refl, where_not (is_last a) _ _ _ (b ∷ []) last (ap (λ k. Ok (Short2 k)) is));
    }

-- ---- contexts

pub field_there : (there : Bool) (size number : ℕ) (bytes rest given : List ℕ) → (there && not (size == 0)) ≡ true → bytes ≡ given ++ rest
    → length given ≡ size → number ≡ little given → IsFront (Field there size) bytes (Some number) rest
field_there there size number bytes rest given test parts many is =
    record {
      text = given;
      parts = parts;
      spells = where_so (there && not (size == 0)) _ _ _ given test
          (rw is (as_back (Bytes size) (λ given. Some (little given)) given given (refl, many)));
    }

pub context_front : (s : Sizes) (bytes later between rest : List ℕ) (info : ℕ) (ctx : CtxBits) → bytes ≡ info ∷ later → bit 4 info ≡ true
    → IsFront (Field (bit 6 info) s.vmid_bytes) later ctx.vmid between → IsFront (Field (bit 7 info) s.cid_bytes) between ctx.cid rest
    → ctx ≡ record { el = lowest 2 info; ns = bit 5 info; vmid = ctx.vmid; cid = ctx.cid }
    → IsFront (Context s) bytes ctx rest
context_front s bytes later between rest info ctx parts aarch64 vmid cid is =
    record {
      text = info ∷ vmid.text ++ cid.text;
      parts = parts ∙ ap (λ t. info ∷ t) (vmid.parts ∙ ap (λ t. vmid.text ++ t) cid.parts ∙ sym (append_assoc vmid.text cid.text rest));
      spells = where_so (bit 4 info) _ _ _ (vmid.text ++ cid.text) aarch64 (inl (
        ctx.vmid,
        vmid.text,
        cid.text,
        refl,
        vmid.spells,
        subst (λ c. As (Field (bit 7 info) s.cid_bytes) (λ cid. record { el = lowest 2 info; ns = bit 5 info; vmid = ctx.vmid; cid = cid }) (Ok c) cid.text)
            (sym is)
            (as_back (Field (bit 7 info) s.cid_bytes) (λ cid. record { el = lowest 2 info; ns = bit 5 info; vmid = ctx.vmid; cid = cid }) ctx.cid
            cid.text cid.spells),
      ));
    }

-- ---- exact match addresses

pub match_front : (s : Sizes) (bytes rest : List ℕ) (header index : ℕ) → bytes ≡ header ∷ rest → 0x90 ≤ header → header ≤ 0x92
    → index ≡ header - 0x90 → IsFront (Spells s) bytes (Addr (Match index) None) rest
match_front s bytes rest header index parts least most is =
    record { text = header ∷ []; parts = parts; spells = (header, (least, most, refl), is) }

-- ---- long addresses

pub long_32_front : (s : Sizes) (bytes later rest given : List ℕ) (header value : ℕ) → bytes ≡ header ∷ later → header ≡ 0x9a → later ≡ given ++ rest
    → length given ≡ 4 → value ≡ address_of given → IsFront (Spells s) bytes (Addr (Long32 value) None) rest
long_32_front s bytes later rest given header value parts is more many e =
    record {
      text = 0x9a ∷ given;
      parts = parts ∙ ap (λ h. h ∷ later) is ∙ ap (λ t. 0x9a ∷ t) more;
      spells = (given, refl, rw e (as_back (Bytes 4) (λ given. Long32 (address_of given)) given given (refl, many)));
    }

pub long_64_front : (s : Sizes) (bytes later rest given : List ℕ) (header value : ℕ) → bytes ≡ header ∷ later → header ≡ 0x9d → later ≡ given ++ rest
    → length given ≡ 8 → value ≡ address_of given → IsFront (Spells s) bytes (Addr (Long64 value) None) rest
long_64_front s bytes later rest given header value parts is more many e =
    record {
      text = 0x9d ∷ given;
      parts = parts ∙ ap (λ h. h ∷ later) is ∙ ap (λ t. 0x9d ∷ t) more;
      spells = (given, refl, rw e (as_back (Bytes 8) (λ given. Long64 (address_of given)) given given (refl, many)));
    }

pub context_32_front : (s : Sizes) (bytes later between rest given : List ℕ) (header value : ℕ) (ctx : CtxBits) → bytes ≡ header ∷ later
    → header ≡ 0x82 → later ≡ given ++ between → length given ≡ 4 → value ≡ address_of given → IsFront (Context s) between ctx rest
    → IsFront (Spells s) bytes (Addr (Long32 value) (Some ctx)) rest
context_32_front s bytes later between rest given header value ctx parts is more many e context =
    record {
      text = 0x82 ∷ given ++ context.text;
      parts = parts ∙ ap (λ h. h ∷ later) is
          ∙ ap (λ t. 0x82 ∷ t) (more ∙ ap (λ t. given ++ t) context.parts ∙ sym (append_assoc given context.text rest));
      spells = (
        given,
        context.text,
        refl,
        rw e (as_back (Bytes 4) (λ given. Long32 (address_of given)) given given (refl, many)),
        context.spells,
      );
    }

pub context_64_front : (s : Sizes) (bytes later between rest given : List ℕ) (header value : ℕ) (ctx : CtxBits) → bytes ≡ header ∷ later
    → header ≡ 0x85 → later ≡ given ++ between → length given ≡ 8 → value ≡ address_of given → IsFront (Context s) between ctx rest
    → IsFront (Spells s) bytes (Addr (Long64 value) (Some ctx)) rest
context_64_front s bytes later between rest given header value ctx parts is more many e context =
    record {
      text = 0x85 ∷ given ++ context.text;
      parts = parts ∙ ap (λ h. h ∷ later) is
          ∙ ap (λ t. 0x85 ∷ t) (more ∙ ap (λ t. given ++ t) context.parts ∙ sym (append_assoc given context.text rest));
      spells = (
        given,
        context.text,
        refl,
        rw e (as_back (Bytes 8) (λ given. Long64 (address_of given)) given given (refl, many)),
        context.spells,
      );
    }

-- ---- whole packets

goes_on : (s : Sizes) (start : ℕ) (bytes text : List ℕ) (packets : List (ℕ × Packet)) (packet : Packet) → length bytes ≡ start
    → IsStream s bytes packets clean → Spells s (Ok packet) text → IsStream s (bytes ++ text) (packets ++ (start, packet) ∷ []) clean
goes_on s start bytes text packets packet place whole spells =
    subst (λ at. IsStream s (bytes ++ text) (packets ++ (at, packet) ∷ []) clean) place (goes_on_by_a_packet s bytes text packets packet whole spells)

-- A reader that stands between two packets takes the bytes of a packet.
pub takes_packet : (s : Sizes) (start offset after : ℕ) (text : List ℕ) (packet : Packet) → after ≡ offset + length text → All (λ b. b < 256) text
    → Spells s (Ok packet) text
    → TakesPacket (record { settings = s; phase = Between; start = start; offset = offset })
    (record { settings = s; phase = Between; start = after; offset = after }) text start packet
takes_packet s start offset after text packet more small spells =
    record {
      settings = refl;
      offset = more;
      stands = λ bytes stands.
          let long : length (bytes ++ text) ≡ after = omega (arith, length-append bytes text, stands.0, more) in
          (long, (long, (stands.1.1.0 ++ (start, packet) ∷ [], goes_on s start bytes text stands.1.1.0 packet stands.1.0 stands.1.1.1 spells)));
      gains = λ bytes stands. (stands.1.1.0, clean, stands.1.1.1, goes_on s start bytes text stands.1.1.0 packet stands.1.0 stands.1.1.1 spells);
      values = values_fit s packet text small spells;
    }

-- ---- short commit packets

pub last_below : (n : ℕ) → n < 0x80 → is_last n ≡ true
last_below n few = lt-ltb n 0x80 few

pub commit_spelled : (s : Sizes) (n : ℕ) → n < 0x80 → Spells s (Ok (Commit n)) (0x2d ∷ n ∷ [])
commit_spelled s n few = (n ∷ [], refl, where_so (is_last n) _ _ _ [] (last_below n few) refl)

pub cancel_spelled : (s : Sizes) (n : ℕ) → n < 0x80 → Spells s (Ok (Cancel n false)) (0x2e ∷ n ∷ [])
cancel_spelled s n few = (n ∷ [], refl, where_so (is_last n) _ _ _ [] (last_below n few) refl)

-- ---- atoms

pub atoms_spelled : (s : Sizes) (byte : ℕ) (run : AtomRun) → 0xc0 ≤ byte → byte < 256 → TellsAtoms byte (atoms_in run) → IsAtomRun run
    → Spells s (Ok (Atoms run)) (byte ∷ [])
atoms_spelled s byte run least small tells range = (byte, (least, omega (arith, small), refl), range, tells)
