-- `get` shows the value of a cell.
use Rattle.spend_ring.proofs.Steps.{◌≡◌, refl, ◌∙◌, ◌+◌, ◌*◌, ◌<◌, ◌^◌, arith, List, [], ◌∷◌, ◌++◌, length, get_or, full_share, never, SProp, id⊢}
use Rattle.spend_ring.proofs.Steps.{ftrue, fat, flft, Fn, inst_fn, Val, vptr, Env, WpFn, prop, ‵, raw, ◌⊛◌, at_ret, ◌$◌, ◌∵◌, !, qed, by, move, keep}
use Rattle.spend_ring.proofs.Steps.{drop, use0, use1, split, join, fsplit, fjoin, feq_i, feq_l, flt_l, rewrite, regoal, whole, sub, enter, of_opd}
use Rattle.spend_ring.proofs.Steps.{addr, bin, size_lit, stop, fld, first_of, blocks, exec, returns, alloc_all, pass_all, free_all, look_at, get}
use Rattle.spend_ring.proofs.Steps.{get_in, through, sets, sets_last, take_at, give_at, env, fact, fact_i, tables, yes, no, owns, layout, Ptr}
use Rattle.spend_ring.proofs.Steps.{in_a_block, usize, RefOf, plain, types_at, nothing, heard, Stays, stay_dropped, walk_of, Goes-dropped, Some}
use Rattle.spend_ring.proofs.Steps.{None, Option, proved_at, leaves, word, word-Good, after, El, R, args, el_x, Cells, First, first_had}
use base.Logic.{emp}
use contract.BorrowLft.{◌⊑◌}
use denote.Opens.{hide, unhide}
use Rattle.core.proofs.ptr.Rows.{times_below, one_below}
use Rattle.std.specs.Mem.{type_size}
use Rattle.spend_ring.specs.Cells.{IsFull}
use Rattle.spend_ring.specs.Memory.{cell_lent, cells_lent}
use Rattle.spend_ring.proofs.Rows.{full_within, cell_seen}
use Rattle.spend_ring.specs.contracts.cells.Cells.get as f
use Rattle.spend_ring.proofs.cells.Cells.get.Statement.{statement}
use Rattle.spend_ring.proofs.cells.Cells.get.Code as code

pub get_spec : {M : Type 1} → statement M
get_spec 𝓤 𝓛 𝓜 𝓡 wired X LX =
    let E : El = record { row = X; laws = LX } in let T = f.ended X in let c = f.clauses X 𝓛 𝓜.mem 𝓡.returns in
    let 𝓣 = tables 𝓤 𝓛.H 𝓜 𝓡 𝓡.env in let fn : Fn = inst_fn (args E) code.function in
    let stayed : Stays T.signature.params T.kept = (stay_dropped _ yes, (stay_dropped _ no, (stay_dropped _ yes, tt))) in
    proved_at 𝓛 T stayed c 𝓜 𝓡 (
      Goes-dropped 𝓛 2 (RefOf (0 ∷ []) tt (plain (λ _. Cells E)) (λ _. tt)) yes (λ κs x w. refl),
      (Goes-dropped 𝓛 2 (plain (λ _. First E)) no (λ κs x w. refl), (Goes-dropped 𝓛 2 (plain (λ _. usize)) yes (λ κs x w. refl), tt)),
    )
    (f.Key.name (args E)) fn (code.unfolded 𝓤 𝓛.H 𝓜 𝓡 wired (X, tt)) (λ y are.
    let κs = y.0.0 in let qs = y.0.1 in let a = y.0.3 in let vss = y.0.4 in let Post : Val → SProp 𝓤 = (walk_of 𝓛 T stayed c).post y in
    let self = a.0 in let rb = self.ref_ptr.0 in let ro = self.ref_ptr.1 in let d = self.now in let p = a.1.0.cell in let place = a.1.1.0 in
    qed 𝓛 (((‵ (flft κs.0 qs.0) ⊛ (‵ (flft κs.1.0 qs.1.0) ⊛ ‵ ftrue)) ⊛ ‵ (owns (types_at T.signature.params κs) a vss))
    ∷ (raw (fact 𝓤 (κs.1.0 ⊑ X.lives)) ⊛ raw (fact 𝓤 (p ≡ d.at)) ⊛ raw (fact 𝓤 (IsFull d.held place))) ∷ []) ∵
    move ! (1 ∷ []) $ split ! $ heard ! _ (λ lives. split ! $ heard ! _ (λ same. heard ! _ (λ full.
    split ! $ split ! $ move ! (2 ∷ []) $ fsplit ! $ fsplit ! $ feq_l ! (λ e0.
    move ! (1 ∷ []) $ fsplit ! $ first_had E ! p _ (λ e1. fsplit ! $ fsplit ! $ feq_l ! (λ e2. flt_l ! (λ place_fits.
    regoal ! (λ (us : List Val). prop (WpFn 𝓤 𝓛.H 𝓣.C 𝓣.Λ fn us Post)) (λ j. e0 j ++ (e1 j ++ (e2 j ++ []))) refl $ move ! (1 ∷ []) $
    -- [the `&` to the cells; nothing; its token; the other token]
    enter ! 𝓣.C 𝓣.Λ fn _ Post $ alloc_all ! (λ l. pass_all ! refl ((tt, tt), (word-Good [] p, ((tt, record { fits = place_fits }), tt))) $
    let En : Env 𝓤 𝓛.H = env fn.locals l in
    unhide ! $ fsplit ! $ drop ! $ in_a_block ! d.at (λ r. cells_lent (R E) r d.held κs.0) (id⊢ 𝓤 (never 𝓤)) (λ b o at. fsplit ! $ flt_l ! (λ small.
    let s = type_size (R E) in let x = full.0 in let inside = full_within d.held place x full.1 in
    let size_fits : s < 2 ^ 64 = omega (arith, one_below (length d.held) s (2 ^ 63) (omega arith) small) in
    let far_fits : place * s < 2 ^ 64 = omega (arith, times_below place (length d.held) s (2 ^ 63) (omega arith) small) in
    take_at ! 2 $ rewrite ! 0 (λ (r : Ptr). ‵ (fat full_share (layout (First E)) (l 2) 0 (word r))) (same ∙ at) refl $ give_at ! 2 $
    first_of ! $ blocks ! $
    sets ! (bin ! (get ! refl) (size_lit ! (record { fits = size_fits })) (record { fits = far_fits })) refl (tt, record { fits = far_fits }) $
    sets ! (bin ! (get_in ! (fld ! refl (stop !)) (sub ! 0 refl (whole !))) (get ! refl) tt) refl (tt, tt) $
    use1 𝓛 (‵ (cell_lent (R E) b (place * s + o) (get_or d.held place None) κs.0)) (cell_seen E 𝓛 b κs.0 d.held place o inside) $
    rewrite ! 0 (λ (k : Option (el_x E)). ‵ (cell_lent (R E) b (place * s + o) k κs.0)) full.1 refl $ hide ! $
    sets_last ! (addr ! (through ! refl (stop !))) refl (tt, tt) $ exec ! 𝓣.C 𝓣.Λ En (after 1 fn.body) (at_ret En Post) $ sets ! (of_opd ! (get ! refl)) refl
    (tt, tt) $
    let there : Val = vptr b (place * s + o) in feq_i ! (List Val) (there ∷ []) (there ∷ []) refl $ fjoin ! $
    returns ! (look_at ! 0 refl) $ free_all ! refl $
    -- [the `&` to the value; nothing; the token; the other token]
    nothing ! $ nothing ! $ fjoin ! $ nothing ! $ fjoin ! $ nothing ! $ fjoin ! $
    use0 𝓛 (raw (fact 𝓤 (get_or d.held place None ≡ Some x))) (fact_i 𝓤 (get_or d.held place None ≡ Some x) (emp 𝓤) full.1) $
    move ! (4 ∷ 5 ∷ []) $ join ! $ keep ! (0 ∷ 2 ∷ 3 ∷ 1 ∷ []) $
    by ! (leaves 𝓛 T stayed c y there (record { ref_ptr = (b, place * s + o); now = x }) (tt, (tt, (tt, tt))) (tt, (tt, (tt, tt)))))))))))))))
