-- What a header makes of a packet leads to what the header spells.
use Rattle.std.proofs.Common.{◌≡◌, ℕ, zero, suc, append-nil, ◌==◌, true, false, List, [], ◌∷◌, Option, Some, None, Ok, Err, refl, sym, ap, subst, ◌∙◌}
use Rattle.std.specs.Prelude.{if◌then◌else◌}
use Rattle.etm_types.specs.Settings.{Sizes}
use Rattle.etm_types.specs.declared.address.AddrForm.TheVariants.{Long32, Long64}
use Rattle.packet_grammar.specs.declared.packet.Packet.{Packet}
use Rattle.packet_grammar.specs.declared.packet.Packet.TheVariants.{Async, Time, Commit, Cancel, CtxInfo, Addr, Atoms}
use Rattle.packet_grammar.specs.declared.fault.PacketFault.TheVariants.{BrokenSync}
use Rattle.etm_types.specs.declared.atoms.AtomRun.{AtomRun}
use Rattle.packet_grammar.specs.Parts.{Outcome, Part, Known, Bytes, Where, Then, As}
use Rattle.packet_grammar.specs.Numbers.{Number, TimeStamp}
use Rattle.packet_grammar.specs.Contexts.{Context, ShortAddress, LongAddress32, LongAddress64, address_of}
use Rattle.packet_grammar.proofs.Table.{Told, body_of, Body, Follows, AtomsOf, AfterZero, Exception, alone, atoms, extension}
use Rattle.packet_grammar.proofs.Table.{trace_info, time_stamp, exception, commit, cancel, context, short_address}
use Rattle.packet_grammar.proofs.Table.{long_32, long_64, long_32_with_context, long_64_with_context}
use Rattle.packet_grammar.specs.Spelling.{TraceInfo}
use Rattle.packet_grammar.specs.Parsed.{Spells}
use Rattle.packet_grammar.proofs.Inverse.{told_to, told_back}
use Rattle.packet_grammar.proofs.Runs.{run_apart}
use Rattle.packet_grammar.proofs.Syncs.{Sync, one_more, After, after_to, after_back}
use Rattle.packet_reader.specs.declared.state.Progress.{Progress}
use Rattle.packet_reader.specs.declared.state.Progress.TheVariants.{Done}
use Rattle.packet_reader.specs.Trees.{Tree, known, Leads, number_tree, stamp_tree, sync_tree}
use Rattle.packet_reader.specs.States.{tree_after, HeadsBy, extension_tree, control_tree, exception_tree, short_tree, context_tree, long_tree}
use Rattle.packet_reader.proofs.Heads.{Heads}
use Rattle.packet_reader.proofs.Meets.{Meets, meets_err, meets_byte, meets_where, meets_then, meets_as, whole_to, whole_back}
use Rattle.packet_reader.proofs.Bodies.{meets_whole_number, meets_time, meets_info, meets_known, meets_exception, meets_short, meets_context, meets_address}

-- a part of the grammar and a tree are the same
pub record Agree (P : Outcome Packet → List ℕ → Type 0) (tree : Tree) : Type 0 where
  pub to : (outcome : Outcome Packet) (bytes : List ℕ) → P outcome bytes → Leads tree outcome bytes
  pub back : (outcome : Outcome Packet) (bytes : List ℕ) → Leads tree outcome bytes → P outcome bytes

abbrev End : Packet → Tree
End packet = known (Ok packet)

agree : (P : Part Packet) (tree : Tree) → Meets P End tree → Agree P tree
agree P tree meets = record { to = whole_back P tree meets; back = whole_to P tree meets }

meets_sync : (left : ℕ) → Meets (Sync left) End (sync_tree left)
unfolding sync_tree
meets_sync zero = meets_byte (λ b. Known (if b == 128 then Ok Async else Err BrokenSync)) End (λ b. known (if b == 128 then Ok Async else Err BrokenSync))
    (λ b. meets_known (if b == 128 then Ok Async else Err BrokenSync))
meets_sync (suc left) =
    meets_byte (λ b. Where (b == 0) (Sync left) (Known (Err BrokenSync))) End (λ b. if b == 0 then sync_tree left else known (Err BrokenSync))
    (λ b. meets_where (b == 0) (Sync left) (Known (Err BrokenSync)) End (sync_tree left) (known (Err BrokenSync)) (meets_sync left) (meets_err BrokenSync End))

meets_extension : Meets After End extension_tree
meets_extension =
    meets_byte (λ b. Where (b == 0) (Sync 9) (Known (one_more b))) End (λ b. if b == 0 then sync_tree 9 else known (one_more b))
    (λ b. meets_where (b == 0) (Sync 9) (Known (one_more b)) End (sync_tree 9) (known (one_more b)) (meets_sync 9) (meets_known (one_more b)))

agree_extension : Agree AfterZero extension_tree
agree_extension =
    let all = agree After extension_tree meets_extension in
    record {
      to = λ outcome bytes is. all.to outcome bytes (after_back outcome bytes is);
      back = λ outcome bytes leads. after_to outcome bytes
          (all.back outcome bytes leads);
    }

known_agrees : (outcome : Outcome Packet) → Agree (Known outcome) (known outcome)
known_agrees outcome = agree (Known outcome) (known outcome) (meets_known outcome)

run_to : (s : Sizes) (h : ℕ) (run : AtomRun) (outcome : Outcome Packet) (bytes : List ℕ) → AtomsOf h (Ok (Atoms run)) [] → AtomsOf h outcome bytes
    → Leads (known (Ok (Atoms run))) outcome bytes
run_to s h run outcome bytes here is =
    let none : bytes ≡ [] = is.4 in
    let same = run_apart h outcome (Ok (Atoms run)) bytes [] [] [] is here (append-nil bytes ∙ none) in
    subst (λ t. Leads (known (Ok (Atoms run))) outcome t) (sym none) same.outcomes

run_back : (h : ℕ) (run : AtomRun) (outcome : Outcome Packet) (bytes : List ℕ) → AtomsOf h (Ok (Atoms run)) []
    → Leads (known (Ok (Atoms run))) outcome bytes → AtomsOf h outcome bytes
run_back h run outcome [] here is = subst (λ o. AtomsOf h o []) (sym is) here
run_back h run outcome (b ∷ bytes) here is = absurd is

run_agrees : (s : Sizes) (h : ℕ) (progress : Progress) → Heads (atoms h) progress → Agree (AtomsOf h) (tree_after s progress)
run_agrees s h (Done (Ok (Atoms run))) heads =
    let here : AtomsOf h (Ok (Atoms run)) [] = (run, refl, heads.0, heads.1, refl) in
    record { to = λ outcome bytes is. run_to s h run outcome bytes here is; back = λ outcome bytes is. run_back h run outcome bytes here is }
run_agrees s h progress heads = absurd heads

module _ (s : Sizes) where
  pub follows_agree : (body : Body) (progress : Progress) → Heads body progress → Agree (Follows s body) (tree_after s progress)
  follows_agree (alone outcome) progress heads = subst (λ p. Agree (Known outcome) (tree_after s p)) (sym heads) (known_agrees outcome)
  follows_agree (atoms h) progress heads = run_agrees s h progress heads
  follows_agree extension progress heads = subst (λ p. Agree AfterZero (tree_after s p)) (sym heads) agree_extension
  follows_agree trace_info progress heads = subst (λ p. Agree TraceInfo (tree_after s p)) (sym heads) (agree TraceInfo control_tree meets_info)
  follows_agree time_stamp progress heads =
      subst (λ p. Agree (As TimeStamp (λ stamp. Time stamp.bits stamp.low)) (tree_after s p)) (sym heads)
      (agree (As TimeStamp (λ stamp. Time stamp.bits stamp.low)) (stamp_tree 8 0 0)
      (meets_as TimeStamp (λ stamp. Time stamp.bits stamp.low) End (stamp_tree 8 0 0) meets_time))
  follows_agree exception progress heads = subst (λ p. Agree Exception (tree_after s p)) (sym heads) (agree Exception exception_tree meets_exception)
  follows_agree commit progress heads =
      let tree = number_tree 4 0 0 (λ n. End (Commit n)) in
      subst (λ p. Agree (As Number (λ n. Commit n)) (tree_after s p)) (sym heads)
      (agree (As Number (λ n. Commit n)) tree (meets_as Number (λ n. Commit n) End tree (meets_whole_number (λ n. End (Commit n)))))
  follows_agree (cancel flip) progress heads =
      let tree = number_tree 4 0 0 (λ n. End (Cancel n flip)) in
      subst (λ p. Agree (As Number (λ n. Cancel n flip)) (tree_after s p)) (sym heads)
      (agree (As Number (λ n. Cancel n flip)) tree (meets_as Number (λ n. Cancel n flip) End tree (meets_whole_number (λ n. End (Cancel n flip)))))
  follows_agree context progress heads =
      subst (λ p. Agree (As (Context s) (λ ctx. CtxInfo ctx)) (tree_after s p)) (sym heads)
      (agree (As (Context s) (λ ctx. CtxInfo ctx)) (context_tree s None)
      (meets_as (Context s) (λ ctx. CtxInfo ctx) End (context_tree s None) (meets_context s None)))
  follows_agree short_address progress heads =
      subst (λ p. Agree (As ShortAddress (λ form. Addr form None)) (tree_after s p)) (sym heads)
      (agree (As ShortAddress (λ form. Addr form None)) short_tree (meets_as ShortAddress (λ form. Addr form None) End short_tree meets_short))
  follows_agree long_32 progress heads =
      let tree = long_tree s (record { wide = false; with_context = false }) in
      subst (λ p. Agree (As LongAddress32 (λ form. Addr form None)) (tree_after s p)) (sym heads)
      (agree (As LongAddress32 (λ form. Addr form None)) tree (meets_as LongAddress32 (λ form. Addr form None) End tree
      (meets_as (Bytes 4) (λ given. Long32 (address_of given)) (λ form. End (Addr form None)) tree
      (meets_address 2 (λ value. End (Addr (Long32 value) None))))))
  follows_agree long_64 progress heads =
      let tree = long_tree s (record { wide = true; with_context = false }) in
      subst (λ p. Agree (As LongAddress64 (λ form. Addr form None)) (tree_after s p)) (sym heads)
      (agree (As LongAddress64 (λ form. Addr form None)) tree (meets_as LongAddress64 (λ form. Addr form None) End tree
      (meets_as (Bytes 8) (λ given. Long64 (address_of given)) (λ form. End (Addr form None)) tree
      (meets_address 6 (λ value. End (Addr (Long64 value) None))))))
  follows_agree long_32_with_context progress heads =
      let tree = long_tree s (record { wide = false; with_context = true }) in
      subst (λ p. Agree (Then LongAddress32 (λ form. As (Context s) (λ ctx. Addr form (Some ctx)))) (tree_after s p)) (sym heads)
      (agree (Then LongAddress32 (λ form. As (Context s) (λ ctx. Addr form (Some ctx)))) tree
      (meets_then LongAddress32 (λ form. As (Context s) (λ ctx. Addr form (Some ctx))) (λ form. context_tree s (Some form)) End tree
      (meets_as (Bytes 4) (λ given. Long32 (address_of given)) (λ form. context_tree s (Some form)) tree
      (meets_address 2 (λ value. context_tree s (Some (Long32 value)))))
      (λ form. meets_as (Context s) (λ ctx. Addr form (Some ctx)) End (context_tree s (Some form)) (meets_context s (Some form)))))
  follows_agree long_64_with_context progress heads =
      let tree = long_tree s (record { wide = true; with_context = true }) in
      subst (λ p. Agree (Then LongAddress64 (λ form. As (Context s) (λ ctx. Addr form (Some ctx)))) (tree_after s p)) (sym heads)
      (agree (Then LongAddress64 (λ form. As (Context s) (λ ctx. Addr form (Some ctx)))) tree
      (meets_then LongAddress64 (λ form. As (Context s) (λ ctx. Addr form (Some ctx))) (λ form. context_tree s (Some form)) End tree
      (meets_as (Bytes 8) (λ given. Long64 (address_of given)) (λ form. context_tree s (Some form)) tree
      (meets_address 6 (λ value. context_tree s (Some (Long64 value)))))
      (λ form. meets_as (Context s) (λ ctx. Addr form (Some ctx)) End (context_tree s (Some form)) (meets_context s (Some form)))))

  same_some : (a b : Body) → ◌≡◌ {A = Option Body} (Some a) (Some b) → a ≡ b
  same_some a b e = cc

  same_parts : (h g : ℕ) (xs ys : List ℕ) → h ∷ xs ≡ g ∷ ys → (h ≡ g) × (xs ≡ ys)
  same_parts h g xs ys e = (cc, cc)

  spells_to : (h : ℕ) (progress : Progress) (body : Body) → body_of h ≡ Some body → Heads body progress
      → (outcome : Outcome Packet) (bytes : List ℕ) → Told s outcome (h ∷ bytes) → Leads (tree_after s progress) outcome bytes
  spells_to h progress body says heads outcome bytes is =
      let parts = same_parts h is.header bytes is.rest is.whole in
      let same : is.body ≡ body = same_some is.body body (sym is.says ∙ ap (λ k. body_of k) (sym parts.0) ∙ says) in
      let follows : Follows s body outcome is.rest = subst (λ b. Follows s b outcome is.rest) same is.follows in
      (follows_agree body progress heads).to outcome bytes (subst (λ t. Follows s body outcome t) (sym parts.1) follows)

  spells_back : (h : ℕ) (progress : Progress) (body : Body) → body_of h ≡ Some body → Heads body progress
      → (outcome : Outcome Packet) (bytes : List ℕ) → Leads (tree_after s progress) outcome bytes → Told s outcome (h ∷ bytes)
  spells_back h progress body says heads outcome bytes leads =
      record { header = h; rest = bytes; body = body; whole = refl; says = says; follows = (follows_agree body progress heads).back outcome bytes leads }

-- a header, by its row
pub by_row : (h : ℕ) (progress : Progress) (body : Body) → body_of h ≡ Some body → Heads body progress → HeadsBy h progress
by_row h progress body says heads s outcome bytes = (
  (λ is. spells_to s h progress body says heads outcome bytes (told_back s outcome (h ∷ bytes) is)),
  (λ leads. told_to s outcome (h ∷ bytes) (spells_back s h progress body says heads outcome bytes leads)),
)

pub headed : (s : Sizes) (h : ℕ) (progress : Progress) → HeadsBy h progress → Agree (λ outcome bytes. Spells s outcome (h ∷ bytes)) (tree_after s progress)
headed s h progress by = record { to = λ outcome bytes. (by s outcome bytes).0; back = λ outcome bytes. (by s outcome bytes).1 }
