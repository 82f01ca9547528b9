-- The instructions that a walk shows are words of the image, and most of them are plain.
use Rattle.std.proofs.Common.{◌≡◌, ◌⊎◌, ◌-◌, ℕ, suc, ◌<◌, Bool, true, false, List, Option, Some, None, refl, sym, ap, subst, ◌∙◌, inl, inr, arith}
use Rattle.std.specs.Prelude.{IsSome, if◌then◌else◌, is_none}
use Rattle.std.specs.Option.{option_map, unwrap_or}
use Rattle.std.proofs.lemmas.Bool.{and_parts}
use Rattle.std.proofs.lemmas.Bool.Decides.{leb_tells}
use Rattle.a64_branches.specs.Classes.{class_of}
use Rattle.a64_branches.specs.declared.class.Class.{Class}
use Rattle.etm_types.specs.declared.element.Entry.{Entry}
use Rattle.etm_types.specs.declared.element.P0.{P0}
use Rattle.etm_types.specs.declared.element.P0.TheVariants.{Atom, Exc}
use Rattle.etm_types.specs.declared.walked.ExcMark.{ExcMark}
use Rattle.etm_types.specs.declared.walked.Walked.{Walked}
use Rattle.path_walker.specs.Start.{start_of}
use Rattle.path_walker.specs.State.{State}
use Rattle.path_walker.specs.Walk.{AreWalked, Leads, Shows, ShowsWords, is_cond, mark_of, takes}
use Rattle.path_walker.specs.declared.pc.Pc.{Pc}
use Rattle.program_image.specs.Blocks.{behind, class_at}
use Rattle.program_image.specs.Part.{word_of}
use Rattle.program_image.specs.Places.{AreWords}
use Rattle.program_image.specs.declared.image.Image.{Image}

word_there : (word : Option ℕ) (class : Class) → option_map class_of word ≡ Some class → IsSome word
word_there None class e = absurd cc
word_there (Some w) class e = refl

before_or_last : (k n : ℕ) → k < suc n → (k < n) ⊎ (k ≡ n)
before_or_last k n short = elim (leb_tells n k) [
  | inl last ↦ inr (omega (arith, short, last.1))
  | inr before ↦ inl before.1
]

module _ (image : Image) where
  leads_over : (address : ℕ) (stack : List ℕ) (p0 : P0) (count : ℕ) (pc : Pc) (after : List ℕ)
      → Leads image (Some address) stack p0 count pc after → AreWords image address count
  leads_over address stack (Atom taken) count pc after goes k short = elim (before_or_last k goes.plain (omega (arith, short, goes.counted))) [
    | inl before ↦ word_there (word_of image (behind address k)) _ (goes.run k before)
    | inr last ↦ word_there (word_of image (behind address k)) goes.class (ap (λ n. class_at image (behind address n)) last ∙ goes.there)
  ]
  leads_over address stack (Exc kind ret) count pc after leads k short =
      word_there (word_of image (behind address k)) _ (leads.0 k short).1

  abbrev plain_before : Option ExcMark → ℕ → ℕ
  plain_before exc count = if is_none exc then count - 1 else count

  leads_walked : (address : ℕ) (stack : List ℕ) (p0 : P0) (count : ℕ) (pc : Pc) (after : List ℕ)
      → Leads image (Some address) stack p0 count pc after
      → AreWalked image address count (plain_before (mark_of p0) count) (takes image (Some address) p0 count)
  leads_walked address stack (Atom taken) count pc after goes = record {
    words = leads_over address stack (Atom taken) count pc after goes;
    run = λ k short. goes.run k (omega (arith, short, goes.counted));
    cond = λ took. (and_parts taken (is_cond (class_at image (behind address (count - 1)))) took).1;
  }
  leads_walked address stack (Exc kind ret) count pc after leads = record {
    words = leads_over address stack (Exc kind ret) count pc after leads;
    run = λ k short. (leads.0 k short).1;
    cond = λ took. absurd cc;
  }

  known_walked : (w : Walked) (at : Option ℕ) (stack : List ℕ) (p0 : P0) (pc : Pc) (after : List ℕ) → Leads image at stack p0 w.count pc after
      → w.unknown ≡ is_none at → w.start ≡ unwrap_or at 0 → w.exc ≡ mark_of p0 → w.took ≡ takes image at p0 w.count → ShowsWords image w
  known_walked w None stack p0 pc after leads unknown start exc took known = absurd (let e : true ≡ false = sym unknown ∙ known in cc)
  known_walked w (Some address) stack p0 pc after leads unknown start exc took known =
      subst (λ (a : ℕ). AreWalked image a w.count (plain_before w.exc w.count) w.took) (sym start)
      (subst (λ (e : Option ExcMark). AreWalked image address w.count (plain_before e w.count) w.took) (sym exc)
      (subst (λ (t : Bool). AreWalked image address w.count (plain_before (mark_of p0) w.count) t) (sym took)
      (leads_walked address stack p0 w.count pc after leads)))

  pub shows_words : (s next : State) (entry : Entry) (w : Walked) → Shows image s entry w next → ShowsWords image w
  shows_words s next entry w shows =
      let at = start_of s entry.pre in
      known_walked w at.at at.stack entry.p0 next.pc next.stack shows.leads shows.unknown shows.start shows.exc shows.took
