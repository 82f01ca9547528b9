-- Walks of joined lists of things are joined walks.
use Rattle.std.proofs.Common.{◌≡◌, [], ◌∷◌, ◌++◌, Result, Ok, Err, refl, sym, ap, subst, ◌∙◌, inl, inr, append_assoc}
use Rattle.etm_types.specs.declared.walk_fault.WalkFault.{WalkFault}
use Rattle.path_walker.specs.State.{State}
use Rattle.path_walker.specs.Things.{Walks}
use Rattle.path_walker.specs.Joined.{PartsJoin, FaultStays, EachHasParts, RestGoesOn}
use Rattle.path_walker.proofs.OneTrail.{one_trail}

abbrev ended : State → Result State WalkFault
ended s = Ok s

abbrev halted : WalkFault → Result State WalkFault
halted fault = Err fault

same_state : (s v : State) → ended s ≡ ended v → s ≡ v
same_state s v e = cc

not_both : (s : State) (fault : WalkFault) → halted fault ≡ ended s → ⊥
not_both s fault e = cc

pub parts_join : PartsJoin
parts_join image s next [] more items others end p q =
    subst (λ l. Walks image s more (l ++ others) end) (sym p.0) (subst (λ u. Walks image u more others end) (same_state next s p.1) q)
parts_join image s next (t ∷ things) more items others end (inl p) q =
    inl (p.0, p.1 ++ others, p.2, p.3, parts_join image p.2 next things more p.1 others end p.4 q, ap (λ l. l ++ others) p.5 ∙ append_assoc p.0 p.1 others)
parts_join image s next (t ∷ things) more items others end (inr p) q = absurd (not_both next p.0 (sym p.3))

pub fault_stays : FaultStays
fault_stays image s [] more items fault p = absurd (not_both s fault p.1)
fault_stays image s (t ∷ things) more items fault (inl p) = inl (p.0, p.1, p.2, p.3, fault_stays image p.2 things more p.1 fault p.4, p.5)
fault_stays image s (t ∷ things) more items fault (inr p) = inr p

pub each_has_parts : EachHasParts
each_has_parts image s [] more items end p = inl ([], items, s, (refl, refl), p, refl)
each_has_parts image s (t ∷ things) more items end (inl p) =
    elim (each_has_parts image p.2 things more p.1 end p.4) [
      | inl q ↦ inl (p.0 ++ q.0, q.1, q.2, inl (p.0, q.0, p.2, p.3, q.3, refl), q.4, p.5 ∙ ap (λ l. p.0 ++ l) q.5 ∙ sym (append_assoc p.0 q.0 q.1))
      | inr q ↦ inr (q.0, inl (p.0, p.1, p.2, p.3, q.1, p.5), q.2)
    ]
each_has_parts image s (t ∷ things) more items end (inr p) = inr (p.0, inr (p.0, p.1, p.2, refl), p.3)

pub rest_goes_on : RestGoesOn
rest_goes_on image s next things more first items end walked all =
    elim (each_has_parts image s things more items end all) [
      | inl q ↦
          let same = one_trail image s things q.0 first (Ok q.2) (Ok next) q.3 walked in
          (q.1, subst (λ u. Walks image u more q.1 end) (same_state q.2 next same.1) q.4, q.5 ∙ ap (λ l. l ++ q.1) same.0)
      | inr q ↦ absurd (not_both next q.0 ((one_trail image s things items first (Err q.0) (Ok next) q.1 walked).1))
    ]
