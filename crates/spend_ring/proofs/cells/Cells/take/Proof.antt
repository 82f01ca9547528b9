-- `take` moves a value out, and leaves its cell empty.
use Rattle.spend_ring.proofs.Steps.{◌≡◌, refl, sym, subst, ◌∙◌, ◌+◌, ◌*◌, ◌<◌, ◌^◌, arith, List, [], ◌∷◌, ◌++◌, length, get_or, set}
use Rattle.spend_ring.proofs.Steps.{length-set, full_share, never, SProp, id⊢, ftrue, fat, froom, flft, Fn, inst_fn, Val, vptr, Env, WpFn}
use Rattle.spend_ring.proofs.Steps.{prop, ‵, raw, ◌⊛◌, some, given, pick, learn, at_ret, ◌$◌, ◌∵◌, !, qed, by, move, keep, use0, use1, use2}
use Rattle.spend_ring.proofs.Steps.{split, join, fsplit, fsplit3, fjoin, fjoin3, feq_i, feq_l, flt_i, flt_l, rewrite, regoal, whole}
use Rattle.spend_ring.proofs.Steps.{sub, enter, of_opd, load, look, bin, size_lit, stop, fld, first_of, blocks, exec, returns, alloc_all}
use Rattle.spend_ring.proofs.Steps.{pass_all, free_all, look_at, get, get_in, through, sets, sets_last, take_at, give_at, env, fact, fact_i}
use Rattle.spend_ring.proofs.Steps.{tables, yes, no, owns, layout, Ptr, in_a_block, usize, plain, types_at, nothing, heard, opens, closes}
use Rattle.spend_ring.proofs.Steps.{Stays, stay_ref, stay_dropped, walk_of, Goes-ref, Goes-dropped, Some, None, Option, proved_at, leaves}
use Rattle.spend_ring.proofs.Steps.{as_raw, word, word-Good, after, El, R, args, el_x, elτ, Cells, First, first_had, Good}
use base.Logic.{emp}
use contract.BorrowLft.{◌⊑◌}
use Rattle.core.proofs.ptr.Rows.{times_below, one_below, el_out}
use Rattle.std.specs.Mem.{type_size}
use Rattle.spend_ring.specs.Cells.{IsFull}
use Rattle.spend_ring.specs.Memory.{cell, row, cells_own}
use Rattle.spend_ring.proofs.Rows.{full_within, others, cell_out, cell_in}
use Rattle.spend_ring.specs.contracts.cells.Cells.take as f
use Rattle.spend_ring.proofs.cells.Cells.take.Statement.{statement}
use Rattle.spend_ring.proofs.cells.Cells.take.Code as code

pub take_spec : {M : Type 1} → statement M
take_spec 𝓤 𝓛 𝓜 𝓡 wired X LX =
    let E : El = record { row = X; laws = LX } in let T = f.ended X in let c = f.clauses X 𝓛 𝓜.mem 𝓡.returns in
    let 𝓣 = tables 𝓤 𝓛.H 𝓜 𝓡 𝓡.env in let fn : Fn = inst_fn (args E) code.function in
    let stayed : Stays T.signature.params T.kept = (stay_ref (0 ∷ []) tt (plain (λ _. Cells E)), (stay_dropped _ no, (stay_dropped _ yes, tt))) in
    proved_at 𝓛 T stayed c 𝓜 𝓡 (
      Goes-ref 𝓛 2 0 tt (plain (λ _. Cells E)),
      (Goes-dropped 𝓛 2 (plain (λ _. First E)) no (λ κs x w. refl), (Goes-dropped 𝓛 2 (plain (λ _. usize)) yes (λ κs x w. refl), tt)),
    )
    (f.Key.name (args E)) fn (code.unfolded 𝓤 𝓛.H 𝓜 𝓡 wired (X, tt)) (λ y are.
    let κs = y.0.0 in let qs = y.0.1 in let a = y.0.3 in let vss = y.0.4 in let Post : Val → SProp 𝓤 = (walk_of 𝓛 T stayed c).post y in
    let self = a.0 in let rb = self.ref_ptr.0 in let ro = self.ref_ptr.1 in let d = self.now in let p = a.1.0.cell in let place = a.1.1.0 in
    qed 𝓛 (((‵ (flft κs.0 qs.0) ⊛ (‵ (flft κs.1.0 qs.1.0) ⊛ ‵ ftrue)) ⊛ ‵ (owns (types_at T.signature.params κs) a vss))
    ∷ (raw (fact 𝓤 (κs.1.0 ⊑ X.lives)) ⊛ raw (fact 𝓤 (p ≡ d.at)) ⊛ raw (fact 𝓤 (IsFull d.held place))) ∷ []) ∵
    move ! (1 ∷ []) $ split ! $ heard ! _ (λ lives. split ! $ heard ! _ (λ same. heard ! _ (λ full.
    split ! $ split ! $ move ! (2 ∷ []) $ fsplit ! $ fsplit3 ! $ feq_l ! (λ e0.
    move ! (2 ∷ []) $ fsplit ! $ first_had E ! p _ (λ e1. fsplit ! $ fsplit ! $ feq_l ! (λ e2. flt_l ! (λ place_fits.
    regoal ! (λ (us : List Val). prop (WpFn 𝓤 𝓛.H 𝓣.C 𝓣.Λ fn us Post)) (λ j. e0 j ++ (e1 j ++ (e2 j ++ []))) refl $ move ! (1 ∷ 2 ∷ 3 ∷ []) $
    -- [obs; the borrow of the cells; its token; nothing; the other token]
    enter ! 𝓣.C 𝓣.Λ fn _ Post $ alloc_all ! (λ l. pass_all ! refl ((tt, tt), (word-Good [] p, ((tt, record { fits = place_fits }), tt))) $
    let En : Env 𝓤 𝓛.H = env fn.locals l in
    opens ! tt (Cells E) {h = d} rb ro (λ vs. move ! (1 ∷ []) $ fsplit ! $ move ! (1 ∷ []) $
    in_a_block ! d.at (λ r. cells_own (R E) r d.held) (id⊢ 𝓤 (never 𝓤)) (λ b o at. fsplit ! $ flt_l ! (λ small.
    let s = type_size (R E) in let x = full.0 in let inside = full_within d.held place x full.1 in
    let size_fits : s < 2 ^ 64 = omega (arith, one_below (length d.held) s (2 ^ 63) (omega arith) small) in
    let far_fits : place * s < 2 ^ 64 = omega (arith, times_below place (length d.held) s (2 ^ 63) (omega arith) small) in
    take_at ! 2 $ rewrite ! 0 (λ (r : Ptr). ‵ (fat full_share (layout (First E)) (l 2) 0 (word r))) (same ∙ at) refl $ give_at ! 2 $
    first_of ! $ blocks ! $
    sets ! (bin ! (get ! refl) (size_lit ! (record { fits = size_fits })) (record { fits = far_fits })) refl (tt, record { fits = far_fits }) $
    sets ! (bin ! (get_in ! (fld ! refl (stop !)) (sub ! 0 refl (whole !))) (get ! refl) tt) refl (tt, tt) $
    use1 𝓛 (‵ (cell (R E) b (place * s + o) (get_or d.held place None)) ⊛ ‵ (others E b o d.held place)) (cell_out E 𝓛 b d.held place o inside) $ split ! $
    rewrite ! 0 (λ (k : Option (el_x E)). ‵ (cell (R E) b (place * s + o) k)) full.1 refl $
    use1 𝓛 (some (λ (v : Val). given (Good E v) (‵ (fat full_share (elτ E) b (place * s + o) v) ⊛ ‵ ((R E).own_val x (v ∷ [])))))
    (el_out (record { row = X; laws = LX }) 𝓛 full_share x b (place * s + o)) $ pick ! (λ v. learn ! (λ good. split ! $
    -- [the bytes; the value; the other cells; the mark; its cell; the open borrow; obs; auth; ..]
    sets_last ! (of_opd ! (load ! (through ! refl (stop !)) (look ! 0 refl))) refl good $
    exec ! 𝓣.C 𝓣.Λ En (after 1 fn.body) (at_ret En Post) $ sets ! (of_opd ! (get ! refl)) refl good $
    let new : (Cells E).Denot = record { mark = d.mark; at = d.at; held = set d.held place None } in
    use1 𝓛 (‵ (froom (elτ E) b (place * s + o))) (𝓛.laws.at_room (elτ E) b (place * s + o) v) $ as_raw ! (elτ E) b (place * s + o) $ move !
    (0 ∷ 2 ∷ 3 ∷ 4 ∷ 5 ∷ 6 ∷ 7 ∷ []) $
    use2 𝓛 (‵ (row (R E) b o new.held)) (cell_in E 𝓛 b d.held place o None inside) $
    flt_i ! (length new.held * s) (2 ^ 63) (subst (λ k. k * s < 2 ^ 63) (sym (length-set d.held place None)) small) $ fjoin ! $
    rewrite ! 0 (λ (r : Ptr). ‵ (cells_own (R E) r new.held)) (sym at) refl $ move ! (1 ∷ 0 ∷ []) $ fjoin ! $ move ! (1 ∷ 0 ∷ 2 ∷ 3 ∷ 4 ∷ []) $ closes ! tt
    (Cells E) new vs rb ro $
    returns ! (look_at ! 0 refl) $ free_all ! refl $
    -- [obs; the borrow of the cells; its token; the value; nothing; the other token]
    feq_i ! (List Val) vss.0 (vptr rb ro ∷ []) e0 $ fjoin3 ! $ nothing ! $ nothing ! $ fjoin ! $ nothing ! $ fjoin ! $ move ! (1 ∷ 0 ∷ []) $ fjoin ! $
    let Held = new.held ≡ set d.held place None in let Was = get_or d.held place None ≡ Some x in use0 𝓛 (raw (fact 𝓤 Held)) (fact_i 𝓤 Held (emp 𝓤) refl) $
    use0 𝓛 (raw (fact 𝓤 (new.at ≡ d.at))) (fact_i 𝓤 (new.at ≡ d.at) (emp 𝓤) refl) $ join ! $ use0 𝓛 (raw (fact 𝓤 Was)) (fact_i 𝓤 Was (emp 𝓤) full.1) $ join ! $
    move ! (2 ∷ 5 ∷ []) $ join ! $ keep ! (0 ∷ 2 ∷ 3 ∷ 1 ∷ []) $ by ! (leaves 𝓛 T stayed c y v x (new, (tt, (tt, tt))) (tt, (tt, (tt, tt))))))))))))))))))
