-- What the walk of one P0 element leaves: of its items only the last can be a branch to a register.
use Rattle.std.proofs.Common.{◌≡◌, ℕ, zero, suc, ◌+◌, ◌-◌, ◌*◌, ◌%◌, ◌^◌, ◌<◌, ◌≤◌, Bool, true, false, List, [], ◌∷◌, ◌++◌, Option, Some}
use Rattle.std.proofs.Common.{None, refl, sym, ap, subst, ◌∙◌, append-nil, append_assoc, inl, inr, arith}
use Rattle.std.specs.Prelude.{All, IsSome, if◌then◌else◌, is_none}
use Rattle.std.specs.Option.{option_map_or, option_or}
use Rattle.std.proofs.lemmas.Bool.{cases_lt}
use Rattle.std.proofs.lemmas.List.Elements.{All-head, All-tail}
use Rattle.a64_branches.specs.declared.class.Class.TheVariants.{Plain}
use Rattle.etm_types.specs.Walked.{exception, instructions, items_of}
use Rattle.etm_types.specs.declared.context.Ctx.{Ctx}
use Rattle.etm_types.specs.declared.item.Item.{Item}
use Rattle.etm_types.specs.declared.item.Item.TheVariants.{Exc, On, Unknown}
use Rattle.etm_types.specs.declared.walked.ExcMark.{ExcMark}
use Rattle.etm_types.specs.declared.walked.Walked.{Walked}
use Rattle.path_counts.specs.Targets.{is_pointer_branch}
use Rattle.path_walker.specs.Walk.{is_cond, is_to_register}
use Rattle.program_image.specs.Blocks.{IsPlainRun, behind, class_at}
use Rattle.program_image.proofs.WordSearch.{outside}
use Rattle.program_image.specs.Part.{IsPart, Part, word_of}
use Rattle.program_image.specs.declared.image.Image.{Image}
use Rattle.path_walker.specs.Walk.{ShowsWords}
use Rattle.count_streams.proofs.Pairs.{left-append}
use Rattle.count_streams.proofs.PointerClass.{cond_is_none, other_is_none, plain_is_none}
use Rattle.count_streams.specs.Pairs.{branch_at, left_after, left_by, own_pairs}

behind_next : (start k : ℕ) → behind ((start + 4) % 2 ^ 64) k ≡ behind start (suc k)
behind_next start k = omega arith

none_beyond : (parts : List Part) (a : ℕ) → All IsPart parts → 2 ^ 64 ≤ a → word_of parts a ≡ None
none_beyond [] a all beyond = refl
none_beyond (part ∷ parts) a all beyond =
    let here = outside part a (λ from to. let within = (All-head IsPart part parts all).within in absurd (omega (arith, to, within, beyond))) in
    ap (λ (o : Option ℕ). option_or o (word_of parts a)) here ∙ none_beyond parts a (All-tail IsPart part parts all) beyond

module _ (image : Image) where
  pub is_nothing : (address : ℕ) → word_of image address ≡ None → branch_at image address ≡ None
  is_nothing address there = ap (λ (o : Option ℕ). if option_map_or is_pointer_branch o false then Some address else None) there

  plain_next : (start n : ℕ) → IsPlainRun image start (suc n) → IsPlainRun image ((start + 4) % 2 ^ 64) n
  plain_next start n plain k short =
      subst (λ (a : ℕ). class_at image a ≡ Some Plain) (sym (behind_next start k)) (plain (suc k) (omega (arith, short)))

  plain_first : (start n : ℕ) → All IsPart image → IsPlainRun image start (suc n) → branch_at image start ≡ None
  plain_first start n parts plain = elim (cases_lt start (2 ^ 64)) [
    | inl small ↦ plain_is_none image start
        (subst (λ (a : ℕ). class_at image a ≡ Some Plain) (omega (arith, small)) (plain 0 (omega arith)))
    | inr beyond ↦ is_nothing start (none_beyond image start parts beyond)
  ]

  small_next : (start : ℕ) → (start + 4) % 2 ^ 64 < 2 ^ 64
  small_next start = omega arith

  -- ---- no pair within them

  calm_exception : (exc : Option ExcMark) → own_pairs image None (exception exc) ≡ []
  calm_exception None = refl
  calm_exception (Some mark) = refl

  -- the instructions of an atom
  calm_atom : (ctx : Ctx) (start count : ℕ) (took : Bool) → All IsPart image → IsPlainRun image start (count - 1)
      → own_pairs image None (instructions ctx start count took ++ []) ≡ []
  calm_atom ctx start zero took parts plain = refl
  calm_atom ctx start (suc zero) took parts plain = refl
  calm_atom ctx start (suc (suc n)) took parts plain =
      let rest = instructions ctx ((start + 4) % 2 ^ 64) (suc n) took ++ [] in
      let run : IsPlainRun image start (suc n) = λ k short. plain k (omega (arith, short)) in
      ap (λ (left : Option ℕ). own_pairs image left rest) (plain_first start n parts run)
      ∙ calm_atom ctx ((start + 4) % 2 ^ 64) (suc n) took parts (λ k short. plain_next start n run k (omega (arith, short)))

  -- those before an exception
  calm_before : (ctx : Ctx) (start count : ℕ) (took : Bool) (mark : ExcMark) → All IsPart image → IsPlainRun image start count
      → own_pairs image None (instructions ctx start count took ++ exception (Some mark)) ≡ []
  calm_before ctx start zero took mark parts plain = refl
  calm_before ctx start (suc n) took mark parts plain =
      let rest = instructions ctx ((start + 4) % 2 ^ 64) n took ++ exception (Some mark) in
      ap (λ (left : Option ℕ). own_pairs image left rest) (plain_first start n parts plain)
      ∙ calm_before ctx ((start + 4) % 2 ^ 64) n took mark parts (plain_next start n plain)

  calm_run : (ctx : Ctx) (start count : ℕ) (took : Bool) (exc : Option ExcMark) → All IsPart image
      → IsPlainRun image start (if is_none exc then count - 1 else count)
      → own_pairs image None (instructions ctx start count took ++ exception exc) ≡ []
  calm_run ctx start count took None parts plain = calm_atom ctx start count took parts plain
  calm_run ctx start count took (Some mark) parts plain = calm_before ctx start count took mark parts plain

  abbrev block : Bool → Walked → List Item
  block unknown w = if unknown then Unknown ∷ [] else instructions w.ctx w.start w.count w.took

  calm_block : (w : Walked) (unknown : Bool) → w.unknown ≡ unknown → All IsPart image → ShowsWords image w
      → own_pairs image None (block unknown w ++ exception w.exc) ≡ []
  calm_block w true is parts shows = calm_exception w.exc
  calm_block w false is parts shows = calm_run w.ctx w.start w.count w.took w.exc parts (shows is).run

  calm_on : (on : Bool) (items : List Item) → own_pairs image None items ≡ [] → own_pairs image None ((if on then On ∷ [] else []) ++ items) ≡ []
  calm_on true items calm = calm
  calm_on false items calm = calm

  pub calm_walk : (w : Walked) → All IsPart image → ShowsWords image w → own_pairs image None (items_of w) ≡ []
  calm_walk w parts shows =
      ap (own_pairs image None) (append_assoc (if w.on then On ∷ [] else []) (block w.unknown w) (exception w.exc))
      ∙ calm_on w.on (block w.unknown w ++ exception w.exc) (calm_block w w.unknown refl parts shows)

  -- ---- what is left behind them

  left_last : (left : Option ℕ) (items : List Item) (i : Item) → left_after image left (items ++ i ∷ []) ≡ left_by image i
  left_last left [] i = refl
  left_last left (x ∷ items) i = left_last (left_by image x) items i

  abbrev on_items : Bool → List Item
  on_items on = if on then On ∷ [] else []

  pub left_unknown : (w : Walked) (left : Option ℕ) → w.unknown ≡ true → left_after image left (items_of w) ≡ None
  left_unknown w left is =
      ap (λ (b : Bool). left_after image left ((on_items w.on ++ block b w) ++ exception w.exc)) is ∙ behind_unknown w.exc where
        behind_unknown : (exc : Option ExcMark) → left_after image left ((on_items w.on ++ Unknown ∷ []) ++ exception exc) ≡ None
        behind_unknown None = ap (left_after image left) (append-nil (on_items w.on ++ Unknown ∷ [])) ∙ left_last left (on_items w.on) Unknown
        behind_unknown (Some mark) = left_last left (on_items w.on ++ Unknown ∷ []) (Exc mark.kind mark.ret)

  pub left_exception : (w : Walked) (left : Option ℕ) → IsSome w.exc → left_after image left (items_of w) ≡ None
  left_exception w left some = by w.exc some where
    by : (exc : Option ExcMark) → IsSome exc → left_after image left ((on_items w.on ++ block w.unknown w) ++ exception exc) ≡ None
    by None some = absurd cc
    by (Some mark) some = left_last left (on_items w.on ++ block w.unknown w) (Exc mark.kind mark.ret)

  -- the instructions are the last items
  pub left_block : (w : Walked) (left : Option ℕ) → w.unknown ≡ false → w.exc ≡ None → left_after image left (items_of w)
      ≡ left_after image (left_after image left (on_items w.on)) (instructions w.ctx w.start w.count w.took)
  left_block w left known none =
      ap (λ (b : Bool). left_after image left ((on_items w.on ++ block b w) ++ exception w.exc)) known
      ∙ ap (λ (exc : Option ExcMark). left_after image left ((on_items w.on ++ block false w) ++ exception exc)) none
      ∙ ap (left_after image left) (append-nil (on_items w.on ++ block false w)) ∙ left-append image left (on_items w.on) (block false w)

  -- so many instructions leave what the last does
  left_run : (ctx : Ctx) (start n : ℕ) (took : Bool) (left : Option ℕ) → start < 2 ^ 64
      → left_after image left (instructions ctx start (suc n) took) ≡ branch_at image (behind start n)
  left_run ctx start zero took left small = ap (branch_at image) (omega (arith, small))
  left_run ctx start (suc n) took left small =
      left_run ctx ((start + 4) % 2 ^ 64) n took (branch_at image start) (small_next start) ∙ ap (branch_at image) (behind_next start n)

  -- the last of them, as the code finds it
  pub left_some : (ctx : Ctx) (start count : ℕ) (took : Bool) (left : Option ℕ) → 0 < count → start < 2 ^ 64
      → left_after image left (instructions ctx start count took) ≡ branch_at image ((start + (count - 1) * 4 % 2 ^ 64) % 2 ^ 64)
  left_some ctx start zero took left some small = absurd (omega (arith, some))
  left_some ctx start (suc n) took left some small = left_run ctx start n took left small ∙ ap (branch_at image) (omega arith)

  -- behind a conditional branch that was taken nothing is left
  pub left_taken : (ctx : Ctx) (start count : ℕ) (took : Bool) (left : Option ℕ) → 0 < count → start < 2 ^ 64
      → is_cond (class_at image (behind start (count - 1))) ≡ true → left_after image left (instructions ctx start count took) ≡ None
  left_taken ctx start zero took left some small cond = absurd (omega (arith, some))
  left_taken ctx start (suc n) took left some small cond = left_run ctx start n took left small
      ∙ cond_is_none image (behind start n) (subst (λ (m : ℕ). is_cond (class_at image (behind start m)) ≡ true) (omega arith) cond)

  -- nor behind a word that is no branch to a register
  pub left_elsewhere : (ctx : Ctx) (start count : ℕ) (took : Bool) (left : Option ℕ) → 0 < count → start < 2 ^ 64
      → is_to_register (class_at image (behind start (count - 1))) ≡ false → left_after image left (instructions ctx start count took) ≡ None
  left_elsewhere ctx start zero took left some small other = absurd (omega (arith, some))
  left_elsewhere ctx start (suc n) took left some small other = left_run ctx start n took left small
      ∙ other_is_none image (behind start n) (subst (λ (m : ℕ). is_to_register (class_at image (behind start m)) ≡ false) (omega arith) other)

  -- ---- what a word of the image is

  pub is_branch : (address word : ℕ) → word_of image address ≡ Some word → is_pointer_branch word ≡ true → branch_at image address ≡ Some address
  is_branch address word there is =
      ap (λ (o : Option ℕ). if option_map_or is_pointer_branch o false then Some address else None) there
      ∙ ap (λ (b : Bool). if b then Some address else None) is

  pub is_other : (address word : ℕ) → word_of image address ≡ Some word → is_pointer_branch word ≡ false → branch_at image address ≡ None
  is_other address word there is =
      ap (λ (o : Option ℕ). if option_map_or is_pointer_branch o false then Some address else None) there
      ∙ ap (λ (b : Bool). if b then Some address else None) is
