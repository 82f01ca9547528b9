-- `put` fills an empty cell.
use Rattle.spend_ring.proofs.Steps.{◌≡◌, refl, sym, subst, ◌∙◌, ◌+◌, ◌*◌, ◌<◌, ◌^◌, arith, List, [], ◌∷◌, ◌++◌, length, get_or, set}
use Rattle.spend_ring.proofs.Steps.{length-set, full_share, never, SProp, id⊢, ftrue, fat, flft, Fn, inst_fn, Val, vptr, vunit, Env}
use Rattle.spend_ring.proofs.Steps.{WpFn, prop, ‵, raw, ◌⊛◌, at_ret, ◌$◌, ◌∵◌, !, qed, by, move, keep, use0, use1, use2, split, join}
use Rattle.spend_ring.proofs.Steps.{fsplit, fsplit3, fjoin, fjoin3, feq_i, feq_l, flt_i, flt_l, rewrite, regoal, whole, sub, enter}
use Rattle.spend_ring.proofs.Steps.{of_opd, unit_lit, bin, size_lit, init, stop, fld, assigns_last, first_of, blocks, exec, returns}
use Rattle.spend_ring.proofs.Steps.{alloc_all, pass_all, free_all, look_at, get, get_in, through, sets, take_at, give_at, env, fact, fact_i}
use Rattle.spend_ring.proofs.Steps.{tables, yes, no, owns, layout, Ptr, in_a_block, usize, plain, types_at, nothing, heard, opens, closes}
use Rattle.spend_ring.proofs.Steps.{Stays, stay_ref, stay_dropped, walk_of, Goes-ref, Goes-dropped, Some, None, Option, proved_at, leaves}
use Rattle.spend_ring.proofs.Steps.{as_written, word, word-Good, after, El, R, args, el_x, elτ, Cells, First, first_had, value_had}
use base.Logic.{emp}
use contract.BorrowLft.{◌⊑◌}
use Rattle.core.proofs.ptr.Rows.{times_below, one_below, el_in}
use Rattle.std.specs.Mem.{type_size}
use Rattle.spend_ring.specs.Cells.{IsEmpty}
use Rattle.spend_ring.specs.Memory.{cell, row, cells_own}
use Rattle.spend_ring.proofs.Rows.{others, cell_out, cell_in}
use Rattle.spend_ring.specs.contracts.cells.Cells.put as f
use Rattle.spend_ring.proofs.cells.Cells.put.Statement.{statement}
use Rattle.spend_ring.proofs.cells.Cells.put.Code as code

pub put_spec : {M : Type 1} → statement M
put_spec 𝓤 𝓛 𝓜 𝓡 wired X LX =
    let E : El = record { row = X; laws = LX } in let T = f.ended X in let c = f.clauses X 𝓛 𝓜.mem 𝓡.returns in
    let 𝓣 = tables 𝓤 𝓛.H 𝓜 𝓡 𝓡.env in let fn : Fn = inst_fn (args E) code.function in
    let stayed : Stays T.signature.params T.kept =
    (stay_ref (0 ∷ []) tt (plain (λ _. Cells E)), (stay_dropped _ no, (stay_dropped _ yes, (stay_dropped _ no, tt)))) in
    proved_at 𝓛 T stayed c 𝓜 𝓡 (
      Goes-ref 𝓛 2 0 tt (plain (λ _. Cells E)),
      (
        Goes-dropped 𝓛 2 (plain (λ _. First E)) no (λ κs x w. refl),
        (Goes-dropped 𝓛 2 (plain (λ _. usize)) yes (λ κs x w. refl), (Goes-dropped 𝓛 2 (plain (λ _. R E)) no (λ κs x w. refl), tt)),
      ),
    )
    (f.Key.name (args E)) fn (code.unfolded 𝓤 𝓛.H 𝓜 𝓡 wired (X, tt)) (λ y are.
    let κs = y.0.0 in let qs = y.0.1 in let a = y.0.3 in let vss = y.0.4 in let Post : Val → SProp 𝓤 = (walk_of 𝓛 T stayed c).post y in
    let self =
    a.0 in let rb = self.ref_ptr.0 in let ro = self.ref_ptr.1 in let d = self.now in let p = a.1.0.cell in let place = a.1.1.0 in let item = a.1.1.1.0 in
    qed 𝓛 (((‵ (flft κs.0 qs.0) ⊛ (‵ (flft κs.1.0 qs.1.0) ⊛ ‵ ftrue)) ⊛ ‵ (owns (types_at T.signature.params κs) a vss))
    ∷ (raw (fact 𝓤 (κs.1.0 ⊑ X.lives)) ⊛ raw (fact 𝓤 (p ≡ d.at)) ⊛ raw (fact 𝓤 (IsEmpty d.held place))) ∷ []) ∵
    move ! (1 ∷ []) $ split ! $ heard ! _ (λ lives. split ! $ heard ! _ (λ same. heard ! _ (λ asked.
    split ! $ split ! $ move ! (2 ∷ []) $ fsplit ! $ fsplit3 ! $ feq_l ! (λ e0.
    move ! (2 ∷ []) $ fsplit ! $ first_had E ! p _
    (λ e1. fsplit ! $ fsplit ! $ feq_l ! (λ e2. flt_l ! (λ place_fits. fsplit ! $ value_had E ! item _ (λ v e3 good.
    regoal ! (λ (us : List Val). prop (WpFn 𝓤 𝓛.H 𝓣.C 𝓣.Λ fn us Post)) (λ j. e0 j ++ (e1 j ++ (e2 j ++ (e3 j ++ [])))) refl $ move ! (2 ∷ 3 ∷ 4 ∷ []) $
    -- [obs; the borrow of the cells; its token; the value; nothing; the other token]
    enter ! 𝓣.C 𝓣.Λ fn _ Post $ alloc_all ! (λ l. pass_all ! refl ((tt, tt), (word-Good [] p, ((tt, record { fits = place_fits }), (good, tt)))) $
    let En : Env 𝓤 𝓛.H = env fn.locals l in
    opens ! tt (Cells E) {h = d} rb ro (λ vs. move ! (1 ∷ []) $ fsplit ! $ move ! (1 ∷ []) $
    in_a_block ! d.at (λ r. cells_own (R E) r d.held) (id⊢ 𝓤 (never 𝓤)) (λ b o at. fsplit ! $ flt_l ! (λ small.
    let s = type_size (R E) in let inside = asked.0 in
    let size_fits : s < 2 ^ 64 = omega (arith, one_below (length d.held) s (2 ^ 63) (omega arith) small) in
    let far_fits : place * s < 2 ^ 64 = omega (arith, times_below place (length d.held) s (2 ^ 63) (omega arith) small) in
    take_at ! 2 $ rewrite ! 0 (λ (r : Ptr). ‵ (fat full_share (layout (First E)) (l 2) 0 (word r))) (same ∙ at) refl $ give_at ! 2 $
    first_of ! $ blocks ! $
    sets ! (bin ! (get ! refl) (size_lit ! (record { fits = size_fits })) (record { fits = far_fits })) refl (tt, record { fits = far_fits }) $
    sets ! (bin ! (get_in ! (fld ! refl (stop !)) (sub ! 0 refl (whole !))) (get ! refl) tt) refl (tt, tt) $
    use1 𝓛 (‵ (cell (R E) b (place * s + o) (get_or d.held place None)) ⊛ ‵ (others E b o d.held place)) (cell_out E 𝓛 b d.held place o inside) $ split ! $
    rewrite ! 0 (λ (k : Option (el_x E)). ‵ (cell (R E) b (place * s + o) k)) asked.1 refl $ as_written ! (elτ E) b (place * s + o) $
    -- [the room; the other cells; the mark; its cell; the open borrow; obs; auth; the value; ..]
    sets ! (of_opd ! (get ! refl)) refl good $ assigns_last ! (of_opd ! (get ! refl)) (through ! refl (stop !)) (init ! 0 refl good) $
    exec ! 𝓣.C 𝓣.Λ En (after 1 fn.body) (at_ret En Post) $ sets ! (of_opd ! (unit_lit !)) refl (tt, tt) $
    let new : (Cells E).Denot = record { mark = d.mark; at = d.at; held = set d.held place (Some item) } in
    move ! (0 ∷ 7 ∷ []) $ use2 𝓛 (‵ (cell (R E) b (place * s + o) (Some item))) (el_in (record { row = X; laws = LX }) 𝓛 full_share item b (place * s + o) v) $
    use2 𝓛 (‵ (row (R E) b o new.held)) (cell_in E 𝓛 b d.held place o (Some item) inside) $
    flt_i ! (length new.held * s) (2 ^ 63) (subst (λ k. k * s < 2 ^ 63) (sym (length-set d.held place (Some item))) small) $ fjoin ! $
    rewrite ! 0 (λ (r : Ptr). ‵ (cells_own (R E) r new.held)) (sym at) refl $ move ! (1 ∷ 0 ∷ []) $ fjoin ! $ move ! (1 ∷ 0 ∷ []) $ closes ! tt (Cells E) new
    vs rb ro $
    returns ! (look_at ! 0 refl) $ free_all ! refl $
    -- [obs; the borrow of the cells; its token; nothing; the other token]
    feq_i ! (List Val) vss.0 (vptr rb ro ∷ []) e0 $ fjoin3 ! $ nothing ! $ nothing ! $ fjoin ! $ nothing ! $ fjoin ! $ nothing ! $ fjoin ! $ move !
    (1 ∷ 0 ∷ []) $ fjoin ! $
    feq_i ! (List Val) (vunit ∷ []) (vunit ∷ []) refl $
    let Held =
    new.held ≡ set d.held place (Some item) in use0 𝓛 (raw (fact 𝓤 Held)) (fact_i 𝓤 Held (emp 𝓤) refl) $ use0 𝓛 (raw (fact 𝓤 (new.at ≡ d.at)))
    (fact_i 𝓤 (new.at ≡ d.at) (emp 𝓤) refl) $ join ! $
    move ! (3 ∷ 5 ∷ []) $ join ! $ keep ! (0 ∷ 3 ∷ 2 ∷ 1 ∷ []) $ by !
    (leaves 𝓛 T stayed c y vunit tt (new, (tt, (tt, (tt, tt)))) (tt, (tt, (tt, (tt, tt))))))))))))))))))
