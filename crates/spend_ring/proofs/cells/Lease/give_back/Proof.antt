-- `give_back` makes the block of its empty cells again, and hands it to the allocator with its token.
use Rattle.spend_ring.proofs.Steps.{◌≡◌, refl, sym, ap, subst, ◌∙◌, ℕ, ◌*◌, ◌<◌, ◌^◌, arith, List, [], ◌∷◌, ◌++◌, replicate}
use Rattle.spend_ring.proofs.Steps.{length-replicate, SProp, never, id⊢, Incl-trans, ftrue, froom, flft, Fn, w64, inst_fn, Val, vint}
use Rattle.spend_ring.proofs.Steps.{vunit, Env, WpFn, prop, ‵, raw, ◌⊛◌, later, given, at_ret, ◌$◌, ◌∵◌, !, qed, by, move, keep}
use Rattle.spend_ring.proofs.Steps.{use1, split, join, group, fsplit, fjoin, feq_i, feq_l, flt_l, await, learn, rewrite, regoal}
use Rattle.spend_ring.proofs.Steps.{whole, sub, enter, of_opd, unit_lit, bin, size_word, align_word, stop, fld, and_then, no_more}
use Rattle.spend_ring.proofs.Steps.{first_of, blocks, exec, returns, alloc_all, pass_all, free_all, look_at, get, get_in, sets, is_so}
use Rattle.spend_ring.proofs.Steps.{env, fact, tables, yes, no, RattleType, owns, ptr_val, in_a_block, Ptr, RefOf, usize, plain}
use Rattle.spend_ring.proofs.Steps.{types_at, nothing, heard, Stays, stay_dropped, walk_of, Goes-dropped, Option, None, proved_at}
use Rattle.spend_ring.proofs.Steps.{leaves, as_raw, word-Good, after, El, R, el_x, elτ, Cells, First, first_had, mark_had}
use lib.Dec.{T as Holds}
use mir.Syntax.{ty_array, ty_unit}
use mir.Val.{has_ty, WT}
use contract.BorrowLft.{◌⊑◌}
use prog.Capped.{capped_fits}
use prog.Memory.{align, capped}
use types.ByLocal.{lands_last}
use denote.Triple.Call.{calls_at_last}
use denote.Triple.Table.{framed}
use Rattle.core.proofs.alloc.Calls.{Al, token, Gives, at_gives, Gives-goes, Gives-Gives, Goes-blank}
use Rattle.core.proofs.slots.Leases.{uncapped, block_ty, block_size, block_align, args, P}
use Rattle.std.specs.Mem.{type_size}
use Rattle.spend_ring.specs.Block.{IsBlock}
use Rattle.spend_ring.specs.Memory.{cells_own, lease_owns}
use Rattle.spend_ring.proofs.Rows.{room_of_row}
use Rattle.spend_ring.specs.contracts.cells.Lease as lease
use Rattle.spend_ring.specs.contracts.cells.Lease.give_back as f
use Rattle.spend_ring.proofs.cells.Lease.give_back.Statement.{statement}
use Rattle.spend_ring.proofs.cells.Lease.give_back.Code as code

pub give_back_spec : {M : Type 1} → statement M
give_back_spec 𝓤 𝓛 𝓜 𝓡 wired X W LX LW g d dd met md =
    let E : El = record { row = X; laws = LX } in let Z : Al = record { row = W; laws = LW; g = g; d = d; drops = dd } in
    let T = f.ended X W g d dd in let c = f.clauses X W g d dd 𝓛 𝓜.mem 𝓡.returns in
    let 𝓣 = tables 𝓤 𝓛.H 𝓜 𝓡 𝓡.env in let fn : Fn = inst_fn (args E Z) code.function in let Lease : RattleType = lease.the_row (R E) (P E Z) g in
    let stayed : Stays T.signature.params T.kept =
    (stay_dropped _ no, (stay_dropped _ yes, (stay_dropped _ no, (stay_dropped _ yes, (stay_dropped _ no, tt))))) in
    proved_at 𝓛 T stayed c 𝓜 𝓡 (
      Goes-blank 𝓛 3 (plain (λ _. Lease)) no (λ κs x w. tt),
      (
        Goes-dropped 𝓛 3 (RefOf (0 ∷ []) tt (plain (λ _. P E Z)) (λ _. tt)) yes (λ κs x w. refl),
        (
          Goes-dropped 𝓛 3 (plain (λ _. First E)) no (λ κs x w. refl),
          (Goes-dropped 𝓛 3 (plain (λ _. usize)) yes (λ κs x w. refl), (Goes-blank 𝓛 3 (plain (λ _. Cells E)) no (λ κs x w. tt), tt)),
        ),
      ),
    )
    (f.Key.name (args E Z)) fn (code.unfolded 𝓤 𝓛.H 𝓜 𝓡 wired (X, (W, tt)) d dd) (λ y are.
    let κs = y.0.0 in let qs = y.0.1 in let ps = y.0.3 in let vss = y.0.4 in let Post : Val → SProp 𝓤 = (walk_of 𝓛 T stayed c).post y in
    let right = ps.0 in let ref = ps.1.0.ref_ptr in let a = ps.1.0.now in let p = ps.1.1.0.cell in let count = ps.1.1.1.0 in let cells = ps.1.1.1.1.0 in
    let s = type_size (R E) in let mem = 𝓜.mem in let run = 𝓡.returns in
    let other_tokens = ‵ (flft κs.1.0 qs.1.0) ⊛ ‵ (flft κs.1.1.0 qs.1.1.0) ⊛ ‵ ftrue in
    qed 𝓛 (((‵ (flft κs.0 qs.0) ⊛ other_tokens) ⊛ ‵ (owns (types_at T.signature.params κs) ps vss))
    ∷ (raw (fact 𝓤 (κs.1.0 ⊑ X.lives)) ⊛ raw (fact 𝓤 (κs.1.1.0 ⊑ W.lives)) ⊛ raw (fact 𝓤 (IsBlock ps.1.1.0 cells right count a)) ⊛ raw
    (fact 𝓤 (cells.held ≡ replicate count None))) ∷ []) ∵
    move ! (1 ∷ []) $ split ! $ heard ! _ (λ lives. split ! $ heard ! _ (λ alloc_lives. split ! $ heard ! _ (λ of_block. heard ! _ (λ none.
    split ! $ split ! $ move ! (2 ∷ []) $ fsplit ! $ fsplit ! $ mark_had E ! _
    (λ e0. move ! (1 ∷ []) $ fsplit ! $ fsplit ! $ feq_l ! (λ e1. move ! (1 ∷ []) $ fsplit ! $ first_had E ! p _ (λ e2.
    fsplit ! $ fsplit ! $ feq_l ! (λ e3. flt_l ! (λ count_fits. fsplit ! $ fsplit ! $ mark_had E ! _ (λ e4.
    regoal ! (λ (us : List Val). prop (WpFn 𝓤 𝓛.H 𝓣.C 𝓣.Λ fn us Post)) (λ j. e0 j ++ (e1 j ++ (e2 j ++ (e3 j ++ (e4 j ++ []))))) refl $ move !
    (0 ∷ 3 ∷ 2 ∷ 4 ∷ []) $
    -- [the cells; the right; the `&` to the allocator; its token; nothing; the other tokens]
    enter ! 𝓣.C 𝓣.Λ fn _ Post $ alloc_all !
    (λ l. pass_all ! refl ((tt, (tt, tt)), ((tt, tt), (word-Good [] p, ((tt, record { fits = count_fits }), ((tt, (tt, tt)), tt))))) $
    let En : Env 𝓤 𝓛.H = env fn.locals l in let al = capped (align (elτ E)) in let block = block_ty E count in
    rewrite ! 0 (λ (k : Ptr × List (Option (el_x E))). ‵ (cells_own (R E) k.0 k.1)) (λ j. (of_block.0 j, none j)) refl $
    in_a_block ! p (λ r. cells_own (R E) r (replicate count None)) (id⊢ 𝓤 (never 𝓤)) (λ b o at. fsplit ! $ flt_l ! (λ fits.
    let small : count * s < 2 ^ 63 = subst (λ k. k * s < 2 ^ 63) (length-replicate count None) fits in let bytes : count * s < 2 ^ 64 = omega arith in
    let z : (Gives Z 𝓛 mem run).Ghost = at_gives Z 𝓛 mem run κs.0 qs.0 ref a b o (count * s) al block in
    rewrite ! 1 (λ (k : W.Denot × Ptr × ℕ). ‵ (lease_owns (R E) (token Z k.0) k.1 k.2)) (λ j. (of_block.3 j, (of_block.1 ∙ at) j, of_block.2 j)) refl $
    use1 𝓛 (‵ (froom (ty_array (elτ E) count) b o)) (room_of_row E 𝓛 b count o) $ as_raw ! (ty_array (elτ E) count) b o $
    first_of ! $ blocks ! $ sets ! (is_so ! (of_opd ! (get_in ! (fld ! refl (stop !)) (sub ! 0 refl (whole !)))) (ap ptr_val at)) refl (tt, tt) $
    sets ! (is_so ! (bin ! (get ! refl) (size_word !) (record { fits = subst (λ k. k < 2 ^ 64) (sym (uncapped count s bytes)) bytes }))
    (ap (vint w64) (uncapped count s bytes))) refl (tt, record { fits = bytes }) $
    group ! 4 $ use1 𝓛 (raw ((Gives Z 𝓛 mem run).pre z))
    (Gives-goes Z 𝓛 mem run κs.0 qs.0 ref a (Incl-trans y.0.2.0 alloc_lives) b o (count * s) al block (block_size E count bytes) (block_align E count) bytes
    (capped_fits (align (elτ E)))) $
    calls_at_last ! (framed 𝓤 𝓛.H 𝓜 𝓣) (Gives Z 𝓛 mem run) (met.deallocate dd) z
    (and_then ! (get ! refl) (and_then ! (get ! refl) (and_then ! (get ! refl) (and_then ! (align_word !) (no_more !))))) (λ v.
    use1 𝓛 (later (given (v ≡ vunit) (‵ (flft κs.0 qs.0)))) (Gives-Gives Z 𝓛 mem run κs.0 qs.0 ref a b o (count * s) al block v) $ await ! tt $ learn !
    (λ is_unit.
    lands_last ! refl (subst (λ (w : Val). Holds (has_ty ty_unit w) × WT w) (sym is_unit) (tt, tt)) $ exec ! 𝓣.C 𝓣.Λ En (after 1 fn.body) (at_ret En Post) $
    sets ! (of_opd ! (unit_lit !)) refl (tt, tt) $ returns ! (look_at ! 0 refl) $ free_all ! refl $
    -- [the token; nothing; the other tokens]
    nothing ! $ feq_i ! (List Val) (vunit ∷ []) (vunit ∷ []) refl $ nothing ! $ nothing ! $ fjoin ! $ nothing ! $ fjoin ! $ nothing ! $ fjoin ! $ nothing ! $
    fjoin ! $ nothing ! $ fjoin ! $
    move ! (3 ∷ 5 ∷ []) $ join ! $ keep ! (0 ∷ 1 ∷ 2 ∷ 3 ∷ []) $ by !
    (leaves 𝓛 T stayed c y vunit tt (tt, (tt, (tt, (tt, (tt, tt))))) (tt, (tt, (tt, (tt, (tt, tt))))))))))))))))))))))
