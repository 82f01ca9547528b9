-- What progress on a packet makes of a reader, and of its stream.
use Rattle.std.proofs.Common.{◌≡◌, ℕ, zero, suc, ◌<◌, ◌≤◌, List, [], ◌∷◌, ◌++◌, length, Ok, Err, refl, sym, subst, arith, append-nil}
use Rattle.std.specs.Prelude.{◌↔◌, All}
use Rattle.std.proofs.lemmas.List.Elements.{All-cons, All-nil}
use Rattle.etm_types.specs.Settings.{Sizes}
use Rattle.packet_grammar.specs.declared.packet.Packet.{Packet}
use Rattle.packet_grammar.specs.Parts.{Outcome}
use Rattle.packet_grammar.specs.Parsed.{Spells, Begins, clean, cut, fault, IsStream}
use Rattle.packet_reader.specs.declared.state.State.{State}
use Rattle.packet_reader.specs.declared.state.State.TheVariants.{Extension as AtExtension, Zeros as AtZeros, Control, Number, Stamp, Exception, Short}
use Rattle.packet_reader.specs.declared.state.State.TheVariants.{ShortHigh, LongFirst, LongSecond, LongHigh, Context, Vmid, Cid}
use Rattle.packet_reader.specs.declared.state.Progress.{Progress}
use Rattle.packet_reader.specs.declared.state.Progress.TheVariants.{Next, Done}
use Rattle.packet_reader.specs.Trees.{Tree, known, byte, Leads, number_tree, stamp_tree, bytes_tree, sync_tree}
use Rattle.packet_reader.specs.States.{tree_of, tree_after, Fits, FitsAfter}
use Rattle.packet_reader.specs.Stands.{InPhase, settled}
use Rattle.packet_grammar.proofs.GoesOn.{stream_on}

-- a byte comes
abbrev pub Open : Tree → Type 0
Open tree = (next : ℕ → Tree) × (tree ≡ byte next)

number_open : (left groups value : ℕ) (more : ℕ → Tree) → Open (number_tree left groups value more)
unfolding number_tree
number_open zero groups value more = (_, refl)
number_open (suc left) groups value more = (_, refl)

stamp_open : (left groups low : ℕ) → Open (stamp_tree left groups low)
unfolding stamp_tree
stamp_open zero groups low = (_, refl)
stamp_open (suc left) groups low = (_, refl)

bytes_open : (left count value : ℕ) (more : ℕ → Tree) → 1 ≤ left → Open (bytes_tree left count value more)
unfolding bytes_tree
bytes_open zero count value more some = absurd (omega (arith, some))
bytes_open (suc left) count value more some = (_, refl)

sync_open : (left : ℕ) → Open (sync_tree left)
unfolding sync_tree
sync_open zero = (_, refl)
sync_open (suc left) = (_, refl)

pub state_open : (s : Sizes) (state : State) → Fits state → Open (tree_of s state)
state_open s AtExtension fits = (_, refl)
state_open s (AtZeros left) fits = sync_open left
state_open s Control fits = (_, refl)
state_open s (Number purpose left groups value) fits = number_open left groups value _
state_open s (Stamp left groups low) fits = stamp_open left groups low
state_open s Exception fits = (_, refl)
state_open s Short fits = (_, refl)
state_open s (ShortHigh low) fits = (_, refl)
state_open s (LongFirst long) fits = (_, refl)
state_open s (LongSecond long low) fits = (_, refl)
state_open s (LongHigh long low field) fits = bytes_open field.left field.count field.value _ fits.1.0
state_open s (Context form) fits = (_, refl)
state_open s (Vmid form info field) fits = bytes_open field.left field.count field.value _ fits.0
state_open s (Cid form info vmid field) fits = bytes_open field.left field.count field.value _ fits.0

-- each tree leads somewhere
record LeadsOn (tree : Tree) : Type 0 where
  pub outcome : Outcome Packet
  pub bytes : List ℕ
  pub small : All (λ b. b < 256) bytes
  pub leads : Leads tree outcome bytes

leads_on : (tree : Tree) → LeadsOn tree
leads_on (known told) = record { outcome = told; bytes = []; small = All-nil (λ (b : ℕ). b < 256); leads = refl }
leads_on (byte next) =
    let on = leads_on (next 0) in
    record { outcome = on.outcome; bytes = 0 ∷ on.bytes; small = All-cons (λ (b : ℕ). b < 256) 0 on.bytes (omega arith) on.small; leads = on.leads }

begins : (s : Sizes) (text : List ℕ) (tree : Tree) → Open tree
    → ((outcome : Outcome Packet) (more : List ℕ) → Spells s outcome (text ++ more) ↔ Leads tree outcome more) → Begins s text
begins s text tree (next, e) same =
    let on = leads_on (next 0) in
    record {
      outcome = on.outcome;
      more = 0 ∷ on.bytes;
      some = omega arith;
      small = All-cons (λ (b : ℕ). b < 256) 0 on.bytes (omega arith) on.small;
      spells = (same on.outcome (0 ∷ on.bytes)).1 (subst (λ t. Leads t on.outcome (0 ∷ on.bytes)) (sym e) on.leads);
    }

-- whole packets, and the bytes of a packet of which this may follow
pub record At (s : Sizes) (tree : Tree) (start : ℕ) (packets : List (ℕ × Packet)) (bytes : List ℕ) : Type 0 where
  pub front : List ℕ
  pub text : List ℕ
  pub parts : bytes ≡ front ++ text
  pub starts : length front ≡ start
  pub some : 0 < length text
  pub whole : IsStream s front packets clean
  pub follows : (outcome : Outcome Packet) (more : List ℕ) → Spells s outcome (text ++ more) ↔ Leads tree outcome more

abbrev pub StreamAfter : Sizes → ℕ → List (ℕ × Packet) → List ℕ → Progress → Type 0
StreamAfter s start packets bytes (Next state) = (n : ℕ) × IsStream s bytes packets (cut n)
StreamAfter s start packets bytes (Done (Ok p)) = IsStream s bytes (packets ++ (start, p) ∷ []) clean
StreamAfter s start packets bytes (Done (Err f)) = IsStream s bytes packets (fault start f)

module _ (s : Sizes) (start : ℕ) (packets : List (ℕ × Packet)) (bytes : List ℕ) where
  pub is_cut : (tree : Tree) → Open tree → (a : At s tree start packets bytes) → IsStream s bytes packets (cut (length a.text))
  is_cut tree open_tree a =
      subst (λ t. IsStream s t packets (cut (length a.text))) (sym a.parts)
      (subst (λ p. IsStream s (a.front ++ a.text) p (cut (length a.text))) (append-nil packets)
      (stream_on s a.front a.text packets [] (cut (length a.text)) a.whole (refl, a.some, begins s a.text tree open_tree a.follows)))

  all_spelled : (outcome : Outcome Packet) → (a : At s (known outcome) start packets bytes) → Spells s outcome a.text
  all_spelled outcome a = subst (λ t. Spells s outcome t) (append-nil a.text) ((a.follows outcome []).1 refl)

  pub stream_after : (progress : Progress) → FitsAfter progress → At s (tree_after s progress) start packets bytes → StreamAfter s start packets bytes progress
  stream_after (Next state) fits a = (length a.text, is_cut (tree_of s state) (state_open s state fits) a)
  stream_after (Done (Ok p)) fits a =
      subst (λ t. IsStream s t (packets ++ (start, p) ∷ []) clean) (sym a.parts)
      (stream_on s a.front a.text packets ((start, p) ∷ []) clean a.whole (a.text, [], sym a.starts, sym (append-nil a.text), all_spelled (Ok p) a, refl))
  stream_after (Done (Err f)) fits a =
      subst (λ t. IsStream s t packets (fault start f)) (sym a.parts)
      (subst (λ p. IsStream s (a.front ++ a.text) p (fault start f)) (append-nil packets)
      (stream_on s a.front a.text packets [] (fault start f) a.whole (a.text, [], sym a.starts, sym (append-nil a.text), all_spelled (Err f) a)))

  pub phase_after : (progress : Progress) (offset : ℕ) → length bytes ≡ offset → FitsAfter progress → At s (tree_after s progress) start packets bytes
      → InPhase s (settled progress start offset).phase (settled progress start offset).start bytes
  phase_after (Next state) offset all fits a = record
      { front = a.front; text = a.text; parts = a.parts; starts = a.starts; some = a.some; packets = packets; whole = a.whole; follows = a.follows }
  phase_after (Done (Ok p)) offset all fits a = (all, (packets ++ (start, p) ∷ [], stream_after (Done (Ok p)) fits a))
  phase_after (Done (Err f)) offset all fits a = (packets, start, f, stream_after (Done (Err f)) fits a)
