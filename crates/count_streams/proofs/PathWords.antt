-- Each instruction that a walk shows is a word of the image.
use Rattle.std.proofs.Common.{◌≡◌, ◌+◌, ◌%◌, ◌^◌, ℕ, zero, suc, Bool, true, false, List, [], ◌∷◌, ◌++◌, Option, Some, None, Result, refl, sym, subst}
use Rattle.std.proofs.Common.{inl, inr, arith}
use Rattle.std.specs.Prelude.{All, IsSome, ⊤, if◌then◌else◌}
use Rattle.std.proofs.lemmas.List.Elements.{All-append, All-cons, All-nil}
use Rattle.etm_types.specs.Walked.{exception, instructions, items_of, took_last}
use Rattle.etm_types.specs.declared.context.Ctx.{Ctx}
use Rattle.etm_types.specs.declared.element.Entry.{Entry}
use Rattle.etm_types.specs.declared.element.Thing.{Thing}
use Rattle.etm_types.specs.declared.element.Thing.TheVariants.{Seen, Unseen, Gap, Stop}
use Rattle.etm_types.specs.declared.item.Item.{Item}
use Rattle.etm_types.specs.declared.item.Item.TheVariants as item
use Rattle.etm_types.specs.declared.walk_fault.WalkFault.{WalkFault}
use Rattle.etm_types.specs.declared.walked.ExcMark.{ExcMark}
use Rattle.etm_types.specs.declared.walked.Walked.{Walked}
use Rattle.path_walker.specs.State.{State}
use Rattle.path_walker.specs.Things.{Gives, Walks}
use Rattle.path_walker.specs.Walk.{Shows}
use Rattle.program_image.specs.Blocks.{behind}
use Rattle.program_image.specs.Part.{word_of}
use Rattle.program_image.specs.Places.{AreWords}
use Rattle.program_image.specs.declared.image.Image.{Image}
use Rattle.path_walker.proofs.Worded.{shows_words}
use Rattle.path_walker.specs.Walk.{ShowsWords}

-- a word stands where an item has an instruction
abbrev pub HasWord : Image → Item → Type 0
HasWord image (item.Instr address ctx took) = IsSome (word_of image (behind address 0))
HasWord image item.On = ⊤
HasWord image item.Unknown = ⊤
HasWord image item.Gap = ⊤
HasWord image item.Stop = ⊤
HasWord image (item.Exc kind ret) = ⊤

module _ (image : Image) where
  abbrev Has : Item → Type 0
  Has = HasWord image

  -- ---- the instructions from an address on

  behind_next : (start k : ℕ) → behind ((start + 4) % 2 ^ 64) k ≡ behind start (suc k)
  behind_next start k = omega arith

  words_here : (ctx : Ctx) (start count : ℕ) (took : Bool) → AreWords image start count → All Has (instructions ctx start count took)
  words_here ctx start zero took are = All-nil Has
  words_here ctx start (suc n) took are =
      All-cons Has (item.Instr start ctx (took_last n took)) (instructions ctx ((start + 4) % 2 ^ 64) n took) (are 0 (omega arith))
      (words_here ctx ((start + 4) % 2 ^ 64) n took (λ k short.
      subst (λ a. IsSome (word_of image a)) (sym (behind_next start k)) (are (suc k) (omega (arith, short)))))

  -- ---- what the walk of an entry shows

  on_has : (on : Bool) → All Has (if on then item.On ∷ [] else [])
  on_has true = All-cons Has item.On [] tt (All-nil Has)
  on_has false = All-nil Has

  exception_has : (exc : Option ExcMark) → All Has (exception exc)
  exception_has None = All-nil Has
  exception_has (Some mark) = All-cons Has (item.Exc mark.kind mark.ret) [] tt (All-nil Has)

  abbrev before : Walked → List Item
  before w = if w.on then item.On ∷ [] else []

  abbrev block : Bool → Walked → List Item
  block unknown w = if unknown then item.Unknown ∷ [] else instructions w.ctx w.start w.count w.took

  block_has : (w : Walked) (unknown : Bool) → w.unknown ≡ unknown → ShowsWords image w → All Has (block unknown w)
  block_has w true is shows = All-cons Has item.Unknown [] tt (All-nil Has)
  block_has w false is shows = words_here w.ctx w.start w.count w.took (shows is).words

  walked_words : (s next : State) (entry : Entry) (w : Walked) → Shows image s entry w next → All Has (items_of w)
  walked_words s next entry w shows =
      let here = block_has w w.unknown refl (shows_words image s next entry w shows) in
      All-append Has (before w ++ block w.unknown w) (exception w.exc) (All-append Has (before w) (block w.unknown w) (on_has w.on) here)
      (exception_has w.exc)

  -- ---- things, and all of them

  gives_words : (s next : State) (thing : Thing) (items : List Item) → Gives image s thing items next → All Has items
  gives_words s next (Seen entry) items g = subst (All Has) (sym g.2) (walked_words s next entry g.0 g.1)
  gives_words s next Unseen items g = subst (All Has) (sym g.0) (All-nil Has)
  gives_words s next Gap items g = subst (All Has) (sym g.0) (All-cons Has item.Gap [] tt (All-nil Has))
  gives_words s next Stop items g = subst (All Has) (sym g.0) (All-cons Has item.Stop [] tt (All-nil Has))

  pub walks_words : (s : State) (things : List Thing) (items : List Item) (r : Result State WalkFault) → Walks image s things items r → All Has items
  walks_words s [] items r w = subst (All Has) (sym w.0) (All-nil Has)
  walks_words s (thing ∷ things) items r (inl w) =
      subst (All Has) (sym w.5) (All-append Has w.0 w.1 (gives_words s w.2 thing w.0 w.3) (walks_words w.2 things w.1 r w.4))
  walks_words s (thing ∷ things) items r (inr w) = subst (All Has) (sym w.2) (All-nil Has)
