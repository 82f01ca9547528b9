-- `get_mut` lends the value of a cell, and the cells follow it.
use Rattle.spend_ring.proofs.Steps.{◌≡◌, refl, sym, subst, ◌∙◌, ℕ, ◌+◌, ◌*◌, ◌<◌, ◌^◌, arith, List, [], ◌∷◌, ◌++◌, length, get_or, set, length-set}
use Rattle.spend_ring.proofs.Steps.{full_share, never, SProp, id⊢, ftrue, fat, flft, Fn, named, inst_fn, Val, vptr, Env, WpFn, prop, ‵, raw, ◌⊛◌}
use Rattle.spend_ring.proofs.Steps.{some, later, pick, await, group, fjoin3, fpack, at_ret, ◌$◌, ◌∵◌, !, qed, by, done, move, keep, use0, use1, use2}
use Rattle.spend_ring.proofs.Steps.{split, join, fsplit, fsplit3, fjoin, feq_l, flt_i, flt_l, rewrite, regoal, whole, sub, enter, of_opd}
use Rattle.spend_ring.proofs.Steps.{addr, bin, size_lit, stop, fld, first_of, blocks, exec, returns, alloc_all, pass_all, free_all, look_at, get}
use Rattle.spend_ring.proofs.Steps.{get_in, through, sets, sets_last, take_at, give_at, env, fact, fact_i, tables, yes, no, owns, layout, Ptr}
use Rattle.spend_ring.proofs.Steps.{in_a_block, MutBor, MutRef, mut_ref_to, mem, cell_at, block_ptr, Mark, Ura, Logic, sem, ent, Fml, GName, fsep}
use Rattle.spend_ring.proofs.Steps.{usize, plain, types_at, nothing, heard, opens, Stays, stay_dropped, walk_of, Goes-spent_ref, Goes-dropped, Some}
use Rattle.spend_ring.proofs.Steps.{None, Option, proved_at, leaves, word, word-Good, after, El, R, args, el_x, Cells, First, first_had}
use base.Logic.{emp}
use base.Logic.{sep}
use contract.BorrowLft.{◌⊑◌}
use denote.Follow.{follows, lends_Part}
use denote.Memory.{part_of}
use Rattle.core.proofs.ptr.Rows.{times_below, one_below}
use Rattle.std.specs.Mem.{type_size}
use Rattle.spend_ring.specs.Cells.{IsFull}
use Rattle.spend_ring.specs.Lends.{with_held}
use Rattle.spend_ring.specs.Memory.{cell, row, cells_own}
use Rattle.spend_ring.proofs.Rows.{full_within, others, cell_out, cell_in}
use Rattle.spend_ring.specs.contracts.cells.Cells.get_mut as f
use Rattle.spend_ring.proofs.cells.Cells.get_mut.Statement.{statement}
use Rattle.spend_ring.proofs.cells.Cells.get_mut.Code as code

module _ (E : El) (d : (Cells E).Denot) (place : ℕ) where
  -- the cells, with another value at the place
  abbrev changed : el_x E → (Cells E).Denot
  changed w = with_held d (set d.held place (Some w))

  module _ (rb ro : ℕ) (vs : List Val) (b o : ℕ) where
    -- all that the cells own but for the value
    abbrev Left : Fml
    Left = fsep (others E b o d.held place) (fsep ((Mark E).own_val (tt, tt) vs) (cell_at full_share (Cells E).mir vs rb ro))

module _ (E : El) {M : Type 1} {𝓤 : Ura M} (𝓛 : Logic 𝓤) (d : (Cells E).Denot) (place rb ro : ℕ) (vs : List Val) (b o : ℕ) where
  back : d.at ≡ block_ptr b o → place < length d.held → length d.held * type_size (R E) < 2 ^ 63
      → (w : el_x E) → ent 𝓤 (sep 𝓤 (sem 𝓛 ((mem (R E)).own_at w b (place * type_size (R E) + o))) (sem 𝓛 (Left E d place rb ro vs b o)))
      (sem 𝓛 ((mem (Cells E)).own_at (changed E d place w) rb ro))
  unfolding part_of
  back at inside small w =
      let new = changed E d place w in
      qed 𝓛 (‵ (cell (R E) b (place * type_size (R E) + o) (Some w)) ∷ ‵ (Left E d place rb ro vs b o) ∷ []) ∵ move ! (1 ∷ []) $ fsplit3 ! $ move !
      (3 ∷ 0 ∷ []) $
      use2 𝓛 (‵ (row (R E) b o new.held)) (cell_in E 𝓛 b d.held place o (Some w) inside) $
      flt_i ! (length new.held * type_size (R E)) (2 ^ 63) (subst (λ k. k * type_size (R E) < 2 ^ 63) (sym (length-set d.held place (Some w))) small) $ fjoin
      ! $
      rewrite ! 0 (λ (r : Ptr). ‵ (cells_own (R E) r new.held)) (sym at) refl $ move ! (1 ∷ 0 ∷ []) $ fjoin ! $ move ! (1 ∷ 0 ∷ []) $ fjoin ! $
      fpack ! (List Val) (λ us. fsep (cell_at full_share (Cells E).mir us rb ro) ((Cells E).own_val new us)) vs $ done !

pub get_mut_spec : {M : Type 1} → statement M
get_mut_spec 𝓤 𝓛 𝓜 𝓡 wired X LX =
    let E : El = record { row = X; laws = LX } in let T = f.ended X in let c = f.clauses X 𝓛 𝓜.mem 𝓡.returns in
    let 𝓣 = tables 𝓤 𝓛.H 𝓜 𝓡 𝓡.env in let fn : Fn = inst_fn (args E) code.function in
    let stayed : Stays T.signature.params T.kept =
    (stay_dropped (mut_ref_to (0 ∷ []) tt (plain (λ _. Cells E))) no, (stay_dropped _ no, (stay_dropped _ yes, tt))) in
    proved_at 𝓛 T stayed c 𝓜 𝓡 (
      Goes-spent_ref 𝓛 2 (0 ∷ []) tt (plain (λ _. Cells E)),
      (Goes-dropped 𝓛 2 (plain (λ _. First E)) no (λ κs x w. refl), (Goes-dropped 𝓛 2 (plain (λ _. usize)) yes (λ κs x w. refl), tt)),
    )
    (f.Key.name (args E)) fn (code.unfolded 𝓤 𝓛.H 𝓜 𝓡 wired (X, tt)) (λ y are.
    let κs = y.0.0 in let qs = y.0.1 in let a = y.0.3 in let vss = y.0.4 in let Post : Val → SProp 𝓤 = (walk_of 𝓛 T stayed c).post y in
    let self = a.0 in let rb = self.ref_ptr.0 in let ro = self.ref_ptr.1 in let d = self.now in let p = a.1.0.cell in let place = a.1.1.0 in
    qed 𝓛 (((‵ (flft κs.0 qs.0) ⊛ (‵ (flft κs.1.0 qs.1.0) ⊛ ‵ ftrue)) ⊛ ‵ (owns (types_at T.signature.params κs) a vss))
    ∷ (raw (fact 𝓤 (κs.1.0 ⊑ X.lives)) ⊛ raw (fact 𝓤 (p ≡ d.at)) ⊛ raw (fact 𝓤 (IsFull d.held place))) ∷ []) ∵
    move ! (1 ∷ []) $ split ! $ heard ! _ (λ lives. split ! $ heard ! _ (λ same. heard ! _ (λ full.
    split ! $ split ! $ move ! (2 ∷ []) $ fsplit ! $ fsplit3 ! $ feq_l ! (λ e0.
    move ! (2 ∷ []) $ fsplit ! $ first_had E ! p _ (λ e1. fsplit ! $ fsplit ! $ feq_l ! (λ e2. flt_l ! (λ place_fits.
    regoal ! (λ (us : List Val). prop (WpFn 𝓤 𝓛.H 𝓣.C 𝓣.Λ fn us Post)) (λ j. e0 j ++ (e1 j ++ (e2 j ++ []))) refl $ move ! (1 ∷ 2 ∷ 3 ∷ []) $
    -- [obs; the borrow of the cells; its token; nothing; the other token]
    enter ! 𝓣.C 𝓣.Λ fn _ Post $ alloc_all ! (λ l. pass_all ! refl ((tt, tt), (word-Good [] p, ((tt, record { fits = place_fits }), tt))) $
    let En : Env 𝓤 𝓛.H = env fn.locals l in
    opens ! tt (Cells E) {h = d} rb ro (λ vs. move ! (1 ∷ []) $ fsplit ! $ move ! (1 ∷ []) $
    in_a_block ! d.at (λ r. cells_own (R E) r d.held) (id⊢ 𝓤 (never 𝓤)) (λ b o at. fsplit ! $ flt_l ! (λ small.
    let s = type_size (R E) in let x = full.0 in let inside = full_within d.held place x full.1 in
    let size_fits : s < 2 ^ 64 = omega (arith, one_below (length d.held) s (2 ^ 63) (omega arith) small) in
    let far_fits : place * s < 2 ^ 64 = omega (arith, times_below place (length d.held) s (2 ^ 63) (omega arith) small) in
    take_at ! 2 $ rewrite ! 0 (λ (r : Ptr). ‵ (fat full_share (layout (First E)) (l 2) 0 (word r))) (same ∙ at) refl $ give_at ! 2 $
    first_of ! $ blocks ! $
    sets ! (bin ! (get ! refl) (size_lit ! (record { fits = size_fits })) (record { fits = far_fits })) refl (tt, record { fits = far_fits }) $
    sets ! (bin ! (get_in ! (fld ! refl (stop !)) (sub ! 0 refl (whole !))) (get ! refl) tt) refl (tt, tt) $
    use1 𝓛 (‵ (cell (R E) b (place * s + o) (get_or d.held place None)) ⊛ ‵ (others E b o d.held place)) (cell_out E 𝓛 b d.held place o inside) $ split ! $
    rewrite ! 0 (λ (k : Option (el_x E)). ‵ (cell (R E) b (place * s + o) k)) full.1 refl $
    -- [the value; the other cells; the mark; its cell; the open borrow; obs; auth; ..]
    sets_last ! (addr ! (through ! refl (stop !))) refl (tt, tt) $ exec ! 𝓣.C 𝓣.Λ En (after 1 fn.body) (at_ret En Post) $ sets ! (of_opd ! (get ! refl)) refl
    (tt, tt) $
    let there : Val =
    vptr b (place * s + o) in let left = Left E d place rb ro vs b o in let way = back E 𝓛 d place rb ro vs b o at inside small in let code =
    (Cells E).coded.code d in
    let lent : GName → MutBor (el_x E) = λ δ. record { ref_ptr = (b, place * s + o); ghost_name = δ; now = x } in
    move ! (1 ∷ 2 ∷ 3 ∷ []) $ fjoin3 ! $ move ! (2 ∷ 3 ∷ 4 ∷ 1 ∷ 0 ∷ []) $ group ! 5 $
    use1 𝓛 (later (some (λ (δ : GName). ‵ ((MutRef (named 0) κs.0 (R E)).own_val (lent δ) (there ∷ [])) ⊛ ‵ (flft κs.0 qs.0) ⊛ ‵
    (follows (Cells E) (R E) self.ghost_name δ (changed E d place)))))
    (lends_Part 𝓛 (Cells E) (R E) (changed E d place) (named 0) κs.0 qs.0 rb ro b (place * s + o) self.ghost_name (sem 𝓛 left) way code code x) $ await ! tt $
    pick ! (λ δ. split ! $ move ! (1 ∷ []) $ split ! $
    returns ! (look_at ! 0 refl) $ free_all ! refl $
    -- [the token; the way back; the `&mut` to the value; nothing; the other token]
    move ! (0 ∷ 4 ∷ []) $ join ! $
    nothing ! $ nothing ! $ fjoin ! $ nothing ! $ fjoin ! $ nothing ! $ fjoin ! $
    use0 𝓛 (raw (fact 𝓤 (get_or d.held place None ≡ Some x))) (fact_i 𝓤 (get_or d.held place None ≡ Some x) (emp 𝓤) full.1) $
    move ! (3 ∷ 0 ∷ []) $ join ! $ keep ! (2 ∷ 1 ∷ 3 ∷ 0 ∷ []) $
    by ! (leaves 𝓛 T stayed c y there (lent δ) (tt, (tt, (tt, tt))) (tt, (tt, (tt, tt)))))))))))))))))
