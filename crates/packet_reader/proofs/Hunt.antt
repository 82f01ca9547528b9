-- The hunt for the first A-sync, and each byte of a reader.
use Rattle.std.proofs.Common.{◌≡◌, ℕ, zero, suc, ◌+◌, ◌-◌, ◌<◌, ◌==◌, ◌&&◌, Bool, true, false, List, [], ◌∷◌, ◌++◌}
use Rattle.std.proofs.Common.{length, drop, Ok, Err, refl, sym, ap, subst, ◌∙◌, inl, inr, arith, length-append, append_assoc, append-nil, nat_lt, eq-eqb}
use Rattle.std.specs.Prelude.{◌↔◌, replicate, if◌then◌else◌}
use Rattle.std.proofs.lemmas.Bool.{both_ways, eqb-true, and_parts, cases_lt, ltb-true}
use Rattle.std.proofs.lemmas.List.{drop_at}
use Rattle.etm_types.specs.Settings.{Sizes}
use Rattle.packet_grammar.specs.declared.packet.Packet.{Packet}
use Rattle.packet_grammar.specs.declared.packet.Packet.TheVariants.{Async}
use Rattle.packet_grammar.specs.Parts.{Outcome}
use Rattle.packet_grammar.specs.Parsed.{Spells}
use Rattle.packet_grammar.specs.Parsed.{Ending, no_sync, clean, cut, sync, SyncAt, FirstSync, IsStream}
use Rattle.packet_grammar.proofs.Streams.{sync_spells}
use Rattle.packet_reader.specs.declared.state.State.{State}
use Rattle.packet_reader.specs.declared.state.Progress.{Progress}
use Rattle.packet_reader.specs.declared.state.Progress.TheVariants.{Next, Done}
use Rattle.packet_reader.specs.declared.phase.Phase.TheVariants.{Hunting, Between, Within, Failed}
use Rattle.packet_reader.specs.declared.step.Step.TheVariants.{Skipped, Whole, Stopped}
use Rattle.packet_reader.specs.Trees.{Tree, Leads, after}
use Rattle.packet_reader.specs.States.{tree_of, tree_after, Fits, FitsAfter, HeadsBy}
use Rattle.packet_reader.specs.Stands.{Zeros, InPhase, Gains, Goes, Moved, Moves, settled, zeros_of_sync, zeros_after}
use Rattle.packet_reader.proofs.Headed.{headed}
use Rattle.packet_grammar.proofs.GoesOn.{sync_in, sync_out, strip, sync_earlier, fault_stays}
use Rattle.packet_reader.proofs.Steps.{Open, state_open, At, StreamAfter, stream_after, phase_after, is_cut}

module _ (s : Sizes) where
  gains_after : (start x : ℕ) (packets : List (ℕ × Packet)) (bytes : List ℕ) (ending : Ending) (progress : Progress) (offset : ℕ) → Goes ending → IsStream s
      bytes packets ending
      → StreamAfter s start packets (bytes ++ x ∷ []) progress → Gains s bytes x (settled progress start offset).step
  gains_after start x packets bytes ending (Next state) offset goes old new = (packets, ending, new.0, goes, old, new.1)
  gains_after start x packets bytes ending (Done (Ok p)) offset goes old new = (packets, ending, old, new)
  gains_after start x packets bytes ending (Done (Err f)) offset goes old new = (packets, ending, goes, old, new)

  one_more : (bytes : List ℕ) (x offset : ℕ) → length bytes + 1 ≡ offset → length (bytes ++ x ∷ []) ≡ offset
  one_more bytes x offset all = omega (arith, all, length-append bytes (x ∷ []))

  settles : (start x : ℕ) (packets : List (ℕ × Packet)) (bytes : List ℕ) (ending : Ending) (progress : Progress) (offset : ℕ) → length bytes + 1 ≡ offset
      → FitsAfter progress
      → Goes ending → IsStream s bytes packets ending → At s (tree_after s progress) start packets (bytes ++ x ∷ [])
      → InPhase s (settled progress start offset).phase (settled progress start offset).start (bytes ++ x ∷ [])
      × Gains s bytes x (settled progress start offset).step
  settles start x packets bytes ending progress offset all fits goes old a = (
    phase_after s start packets (bytes ++ x ∷ []) progress offset (one_more bytes x offset all) fits a,
    gains_after start x packets bytes ending progress offset goes old (stream_after s start packets (bytes ++ x ∷ []) progress fits a),
  )

  pub between_moves : (start offset x : ℕ) (progress : Progress) (m : Moved) → FitsAfter progress → HeadsBy x progress → m ≡ settled progress start offset
      → Moves s Between start offset x m
  between_moves start offset x progress m fits heads is bytes all (place, (packets, whole)) =
      let agrees = headed s x progress heads in
      let a : At s (tree_after s progress) start packets (bytes ++ x ∷ []) = record {
        front = bytes;
        text = x ∷ [];
        parts = refl;
        starts = place;
        some = omega arith;
        whole = whole;
        follows = λ outcome more. (agrees.to outcome more, agrees.back outcome more);
      } in
      subst (λ (k : Moved). InPhase s k.phase k.start (bytes ++ x ∷ []) × Gains s bytes x k.step) (sym is)
      (settles start x packets bytes clean progress offset all fits tt whole a)

  leads_after : (tree : Tree) (x : ℕ) → Open tree → (outcome : Outcome Packet) (more : List ℕ) → Leads tree outcome (x ∷ more) ↔ Leads (after tree x) outcome
      more
  leads_after tree x (next, e) outcome more =
      subst (λ (t : Tree). Leads t outcome (x ∷ more) ↔ Leads (after t x) outcome more) (sym e) ((λ l. l), (λ l. l))

  pub within_moves : (state : State) (start offset x : ℕ) (progress : Progress) (m : Moved) → Fits state → FitsAfter progress → tree_after s progress ≡ after
      (tree_of s state) x
      → m ≡ settled progress start offset → Moves s (Within state) start offset x m
  within_moves state start offset x progress m was fits tree is bytes all b =
      let o = state_open s state was in
      let old : At s (tree_of s state) start b.packets bytes =
      record { front = b.front; text = b.text; parts = b.parts; starts = b.starts; some = b.some; whole = b.whole; follows = b.follows } in
      let regroup : (more : List ℕ) → (b.text ++ x ∷ []) ++ more ≡ b.text ++ (x ∷ more) = λ more. append_assoc b.text (x ∷ []) more in
      let a : At s (tree_after s progress) start b.packets (bytes ++ x ∷ []) = record {
        front = b.front;
        text = b.text ++ x ∷ [];
        parts = ap (λ t. t ++ x ∷ []) b.parts ∙ append_assoc b.front b.text (x ∷ []);
        starts = b.starts;
        some = omega (arith, length-append b.text (x ∷ []));
        whole = b.whole;
        follows = λ outcome more. (
          (λ is. subst (λ t. Leads t outcome more) (sym tree)
              ((leads_after (tree_of s state) x o outcome more).0 ((b.follows outcome (x ∷ more)).0 (subst (λ t. Spells s outcome t) (regroup more) is)))),
          (λ leads. subst (λ t. Spells s outcome t) (sym (regroup more))
              ((b.follows outcome (x ∷ more)).1 ((leads_after (tree_of s state) x o outcome more).1 (subst (λ t. Leads t outcome more) tree leads)))),
        );
      } in
      subst (λ (k : Moved). InPhase s k.phase k.start (bytes ++ x ∷ []) × Gains s bytes x k.step) (sym is)
      (settles start x b.packets bytes (cut (length b.text)) progress offset all fits tt (is_cut s start b.packets bytes (tree_of s state) o old) a)

  pub failed_moves : (start offset x : ℕ) → Moves s Failed start offset x (record { phase = Failed; start = start; step = Stopped })
  failed_moves start offset x bytes all (packets, at, f, is) =
      let new = fault_stays s bytes (x ∷ []) packets at f is in
      ((packets, at, f, new), (packets, at, f, is, new))

zeros_end : (n : ℕ) → replicate {A = ℕ} (suc n) 0 ≡ replicate n 0 ++ 0 ∷ []
zeros_end zero = refl
zeros_end (suc n) = ap (λ t. 0 ∷ t) (zeros_end n)

-- so many 00 at the end have fewer at the end
fewer : (n k : ℕ) (other : List ℕ) → (front : List ℕ) × (other ++ replicate (k + n) 0 ≡ front ++ replicate n 0)
fewer n zero other = let e : 0 + n ≡ n = omega arith in (other, ap (λ m. other ++ replicate m 0) e)
fewer n (suc k) other =
    let later = fewer n k (other ++ 0 ∷ []) in
    let e : suc k + n ≡ suc (k + n) = omega arith in
    (later.0, ap (λ m. other ++ replicate m 0) e ∙ sym (append_assoc other (0 ∷ []) (replicate (k + n) 0)) ∙ later.1)

module _ (z x : ℕ) (bytes : List ℕ) (zeros : Zeros z bytes) where
  -- with eleven 00 before it, a byte 80 ends an A-sync; else none ends here
  no_end : (front : List ℕ) → bytes ≡ front ++ replicate 11 0 → z < 11 → ⊥
  no_end front is lt =
      let k : (k : ℕ) × (k + suc z ≡ 11) = (10 - z, omega (arith, lt)) in
      let less = fewer (suc z) k.0 front in
      zeros.all lt less.0 (is ∙ ap (λ n. front ++ replicate n 0) (sym k.1) ∙ less.1)

  ends_here : (front rest : List ℕ) → bytes ++ x ∷ [] ≡ front ++ (sync ++ rest) → length rest ≡ 0 → (x ≡ 128) × (bytes ≡ front ++ replicate 11 0)
  ends_here front [] parts none =
      let whole : front ++ (sync ++ []) ≡ (front ++ replicate 11 0) ++ 128 ∷ [] = sym (append_assoc front (replicate 11 0) (128 ∷ [])) in
      let same = strip bytes (front ++ replicate 11 0) x 128 (parts ∙ whole) in
      (same.1, same.0)
  ends_here front (b ∷ rest) parts none = absurd (omega (arith, none))

  still_none : ((z == 11) && (x == 128)) ≡ false → ((at : ℕ) → SyncAt at bytes → ⊥) → (at : ℕ) → SyncAt at (bytes ++ x ∷ []) → ⊥
  still_none off none at there =
      let is = sync_in at (bytes ++ x ∷ []) there in
      elim (cases_lt 0 (length is.rest)) [
        | inl some ↦ none at (sync_out at bytes (sync_earlier at x bytes is some))
        | inr least ↦
            let here = ends_here is.front is.rest is.parts (omega (arith, least)) in
            elim (cases_lt z 11) [
              | inl lt ↦ no_end is.front here.1 lt
              | inr most ↦
                  let eleven : z ≡ 11 = omega (arith, most, zeros.most) in
                  both_ways ((z == 11) && (x == 128)) off (rw (eq-eqb z 11 eleven, eq-eqb x 128 here.0) refl)
            ]
      ]

  more_zeros : (is_zero few : Bool) → (x == 0) ≡ is_zero → nat_lt z 11 ≡ few → Zeros (if is_zero then (if few then z + 1 else 11) else 0) (bytes ++ x ∷ [])
  more_zeros true true e lt =
      let zero_is : x ≡ 0 = eqb-true x 0 e in
      let below : z < 11 = ltb-true z 11 lt in
      let up : z + 1 ≡ suc z = omega arith in
      let grown : bytes ++ x ∷ [] ≡ zeros.front ++ replicate (suc z) 0 =
      ap (λ t. bytes ++ t ∷ []) zero_is ∙ ap (λ t. t ++ 0 ∷ []) zeros.whole ∙ append_assoc zeros.front (replicate z 0) (0 ∷ [])
      ∙ ap (λ t. zeros.front ++ t) (sym (zeros_end z)) in
      subst (λ n. Zeros n (bytes ++ x ∷ [])) (sym up) (record {
        front = zeros.front;
        whole = grown;
        most = omega (arith, below);
        all = λ lt other is. zeros.all below other (strip bytes (other ++ replicate (suc z) 0) x 0
            (is ∙ ap (λ t. other ++ t) (zeros_end (suc z)) ∙ sym (append_assoc other (replicate (suc z) 0) (0 ∷ [])))).0;
      })
  more_zeros true false e least =
      let zero_is : x ≡ 0 = eqb-true x 0 e in
      let eleven : z ≡ 11 =
      elim (cases_lt z 11) [ inl lt ↦ absurd (both_ways (nat_lt z 11) least (grind arith)) | inr most ↦ omega (arith, most, zeros.most) ] in
      let whole : bytes ++ x ∷ [] ≡ (zeros.front ++ 0 ∷ []) ++ replicate 11 0 =
      ap (λ t. bytes ++ t ∷ []) zero_is ∙ ap (λ t. t ++ 0 ∷ []) (zeros.whole ∙ ap (λ n. zeros.front ++ replicate n 0) eleven)
      ∙ append_assoc zeros.front (replicate 11 0) (0 ∷ []) ∙ sym (append_assoc zeros.front (0 ∷ []) (replicate 11 0)) in
      record { front = zeros.front ++ 0 ∷ []; whole = whole; most = omega arith; all = λ lt. absurd (omega (arith, lt)) }
  more_zeros false few off lt =
      record {
        front = bytes ++ x ∷ [];
        whole = sym (append-nil (bytes ++ x ∷ []));
        most = omega arith;
        all = λ lt other is. both_ways (x == 0) off (eq-eqb x 0 (strip bytes other x 0 is).1);
      }

module _ (s : Sizes) (z x start offset : ℕ) (bytes : List ℕ) (all : length bytes + 1 ≡ offset) (none : (at : ℕ) → SyncAt at bytes → ⊥) (zeros : Zeros z bytes)
  where
    found_moves : z ≡ 11 → x ≡ 128 → ((length (bytes ++ x ∷ []) ≡ offset) × ((packets : List (ℕ × Packet)) × IsStream s (bytes ++ x ∷ []) packets clean)) × Gains
        s bytes x (Whole (offset - 12) Async)
    found_moves eleven last =
        let at : ℕ = length zeros.front in
        let old : bytes ≡ zeros.front ++ replicate 11 0 = zeros.whole ∙ ap (λ n. zeros.front ++ replicate n 0) eleven in
        let parts : bytes ++ x ∷ [] ≡ zeros.front ++ (sync ++ []) =
        ap (λ t. bytes ++ t ∷ []) last ∙ ap (λ t. t ++ 128 ∷ []) old ∙ append_assoc zeros.front (replicate 11 0) (128 ∷ []) in
        let here : SyncAt (length zeros.front) (bytes ++ x ∷ []) =
        sync_out (length zeros.front) (bytes ++ x ∷ []) (record { front = zeros.front; rest = []; parts = parts; place = refl }) in
        let place : offset - 12 ≡ length zeros.front =
        omega (arith, all, ap length parts, length-append zeros.front (sync ++ []), length-append bytes (x ∷ [])) in
        let first : FirstSync (length zeros.front) (bytes ++ x ∷ []) = record {
          here = here;
          none_before = λ before lt there.
              let is = sync_in before (bytes ++ x ∷ []) there in
              none before (sync_out before bytes (sync_earlier before x bytes is
              (omega (
                arith,
                lt,
                ap length is.parts,
                is.place,
                ap length parts,
                length-append zeros.front (sync ++ []),
                length-append is.front
                    (sync ++ is.rest),
              ))));
        } in
        let behind : drop (length zeros.front) (bytes ++ x ∷ []) ≡ sync ++ [] =
        ap (λ t. drop (length zeros.front) t) parts ∙ drop_at zeros.front (sync ++ []) (length zeros.front) refl in
        let stream : IsStream s (bytes ++ x ∷ []) ((offset - 12, Async) ∷ []) clean =
        inl (length zeros.front, first, (sync, [], place, behind, sync_spells s, refl)) in
        ((one_more s bytes x offset all, ((offset - 12, Async) ∷ [], stream)), ([], no_sync, inr (none, refl, refl), stream))

pub hunting_finds : (s : Sizes) (z x start offset : ℕ) → ((z == zeros_of_sync) && (x == 0x80)) ≡ true
    → Moves s (Hunting z) start offset x (record { phase = Between; start = offset; step = Whole (offset - length sync) Async })
hunting_finds s z x start offset on bytes all (none, zeros) =
    let parts = and_parts (z == 11) (x == 128) on in
    found_moves s z x start offset bytes all none zeros (eqb-true z 11 parts.0) (eqb-true x 128 parts.1)

pub hunting_skips : (s : Sizes) (z x start offset z' : ℕ) → ((z == zeros_of_sync) && (x == 0x80)) ≡ false → z' ≡ zeros_after z x
    → Moves s (Hunting z) start offset x (record { phase = Hunting z'; start = 0; step = Skipped })
hunting_skips s z x start offset z' off e bytes all (none, zeros) =
    let later = still_none z x bytes zeros off none in
    let counted = more_zeros z x bytes zeros (x == 0) (nat_lt z 11) refl refl in
    ((later, subst (λ n. Zeros n (bytes ++ x ∷ [])) (sym e) counted), (inr (none, refl, refl), inr (later, refl, refl)))
