-- The walk of a run of atoms, where they are elements that are next, or the oldest things that wait.
use Rattle.std.proofs.Common.{◌≡◌, ℕ, Bool, List, [], ◌∷◌, ◌++◌, map, take, drop, Option, None, ap, subst, ◌∙◌, refl}
use Rattle.std.proofs.lemmas.List.{take-append-drop}
use Rattle.element_queue.specs.Queued.{given_atoms, plain_atom}
use Rattle.etm_types.specs.declared.element.Elem.{Elem}
use Rattle.etm_types.specs.declared.element.Thing.{Thing}
use Rattle.path_elements.specs.Elements.{atoms}
use Rattle.path_walker.specs.State.{State}
use Rattle.path_walker.specs.Walk.{WalksAtoms}
use Rattle.path_walker.specs.declared.stretch.Stretch.{Stretch}
use Rattle.program_image.specs.declared.image.Image.{Image}
use Rattle.stream_decoder.specs.Yields.{WalksNext, WalksOldest}

module _ (image : Image) where
  -- they are the elements that are next
  pub walks_next : (s s' : State) (addr : Option ℕ) (run : List Bool) (others : List Elem) (added : List Stretch)
      → WalksAtoms image s addr run added s' → WalksNext image s addr (atoms run ++ others) added s'
  walks_next s s' addr run others [] walks = walks
  walks_next s s' addr [] others (stretch ∷ added) walks = absurd walks
  walks_next s s' addr (taken ∷ run) others (stretch ∷ added) (next, shows, state, walks) =
      (taken, atoms run ++ others, next, refl, shows, state, walks_next next s' None run others added walks)

  -- they are the oldest things
  pub walks_first : (s s' : State) (run : List Bool) (others : List Thing) (added : List Stretch)
      → WalksAtoms image s None run added s' → WalksOldest image s (map plain_atom run ++ others) added s'
  walks_first s s' run others [] walks = walks
  walks_first s s' [] others (stretch ∷ added) walks = absurd walks
  walks_first s s' (taken ∷ run) others (stretch ∷ added) (next, shows, state, walks) =
      (None, taken, map plain_atom run ++ others, next, refl, shows, state, walks_first next s' run others added walks)

  pub walks_oldest : (s s' : State) (run : List Bool) (n : ℕ) (things : List Thing) (added : List Stretch)
      → map plain_atom run ≡ take n things → WalksAtoms image s None run added s' → WalksOldest image s things added s'
  walks_oldest s s' run n things added oldest walks =
      subst (λ (l : List Thing). WalksOldest image s l added s')
      (ap (λ (l : List Thing). l ++ drop n things) oldest ∙ take-append-drop n things) (walks_first s s' run (drop n things) added walks)

  -- the same where an address was given before the first
  behind_address : (s s' : State) (addr : Option ℕ) (run : List Bool) (others : List Thing) (added : List Stretch)
      → WalksAtoms image s addr run added s' → WalksOldest image s (given_atoms addr run ++ others) added s'
  behind_address s s' addr run others [] walks = walks
  behind_address s s' addr [] others (stretch ∷ added) walks = absurd walks
  behind_address s s' addr (taken ∷ run) others (stretch ∷ added) (next, shows, state, walks) =
      (addr, taken, map plain_atom run ++ others, next, refl, shows, state, walks_first next s' run others added walks)

  pub walks_given : (s s' : State) (addr : Option ℕ) (run : List Bool) (n : ℕ) (things : List Thing) (added : List Stretch)
      → given_atoms addr run ≡ take n things → WalksAtoms image s addr run added s' → WalksOldest image s things added s'
  walks_given s s' addr run n things added oldest walks =
      subst (λ (l : List Thing). WalksOldest image s l added s')
      (ap (λ (l : List Thing). l ++ drop n things) oldest ∙ take-append-drop n things) (behind_address s s' addr run (drop n things) added walks)
