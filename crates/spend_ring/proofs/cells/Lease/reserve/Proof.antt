-- `reserve` makes empty cells of a new block, and keeps the right to give it back.
use Rattle.spend_ring.proofs.Steps.{◌≡◌, refl, sym, ap, subst, ◌*◌, ◌<◌, ◌^◌, arith, List, [], ◌∷◌, ◌++◌, replicate, length-replicate}
use Rattle.spend_ring.proofs.Steps.{length, SProp, ent, Incl-trans, ftrue, flft, Fn, Body, w64, inst_fn, Val, vint, vstruct, vcons, vnil}
use Rattle.spend_ring.proofs.Steps.{Env, WpFn, Logic, sem, prop, ‵, raw, ◌⊛◌, later, at_ret, ◌$◌, ◌∵◌, !, qed, by, move, keep, use0, use1}
use Rattle.spend_ring.proofs.Steps.{use2, use3, split, join, fsplit, fjoin, fpack, feq_i, feq_l, flt_i, flt_l, await, regoal}
use Rattle.spend_ring.proofs.Steps.{done, whole, agg, enter, of_opd, lit, bin, size_word, align_word, stop, fld, and_then, no_more}
use Rattle.spend_ring.proofs.Steps.{first_of, exec, returns, alloc_all, pass_all, free_all, look_at, get, get_in, sets, sets_last, is_so}
use Rattle.spend_ring.proofs.Steps.{env, fact, fact_i, tables, yes, RattleType, Valss, owns, layout, Ptr, block_ptr, RefOf, usize, plain}
use Rattle.spend_ring.proofs.Steps.{types_at, nothing, heard, Stays, stay_dropped, walk_of, Goes-dropped, None, proved_at, leaves}
use Rattle.spend_ring.proofs.Steps.{as_written, word, word-Good, after, El, R, elτ, Cells, First, Mark, mark, mark_made, first_made, Ura}
use base.Logic.{emp, sep}
use lib.Dec.{lit<}
use mir.Syntax.{ty_array}
use contract.BorrowLft.{◌⊑◌}
use prog.Capped.{capped_fits}
use prog.Memory.{align, capped}
use prog.Wp.{Wp, after_seq, at_return}
use types.ByLocal.{get_tag, lands_as}
use types.Kit.{Post as After, any_q, ⋆}
use types.Match.{live, vrt, in_variant}
use types.Run.{switches_on}
use denote.Laws.{Is}
use denote.Steps.{owned}
use denote.Struct.Declared as Declared
use denote.Struct.Struct.{Struct, Struct-Makes, within}
use denote.Struct.Tuple.{Tuple, tuple_type}
use denote.Triple.Call.{calls_at}
use denote.Triple.Table.{framed}
use Rattle.core.specs.contracts.alloc.AllocError as AE
use Rattle.core.specs.contracts.result.Result as RS
use Rattle.core.proofs.alloc.Calls.{Al, Answer-typed, Takes, at_takes, Answered, Takes-goes, Takes-gives, answers}
use Rattle.core.proofs.alloc.Shapes.{head, arm_body}
use Rattle.core.proofs.slots.Leases.{uncapped, block_ty, block_size, block_align, args, P}
use Rattle.std.specs.Mem.{type_size}
use Rattle.std.specs.Prelude.{true, false, IfOk, Ok, Err}
use Rattle.std.specs.Vec.Ownership.{FitsInBlock}
use Rattle.std_alloc.proofs.RcSteps.{Good, first_Good}
use Rattle.std_alloc.proofs.ResultValues.{ok_of, err_of}
use Rattle.spend_ring.specs.Block.{IsBlock}
use Rattle.spend_ring.specs.Memory.{row}
use Rattle.spend_ring.proofs.Rows.{row_of_room}
use Rattle.spend_ring.specs.contracts.cells.Lease as lease
use Rattle.spend_ring.specs.contracts.cells.Lease.reserve as f
use Rattle.spend_ring.proofs.cells.Lease.reserve.Statement.{statement}
use Rattle.spend_ring.proofs.cells.Lease.reserve.Code as code

abbrev three : Val → Val → Val → Val
three u v w = vstruct (vcons u (vcons v (vcons w vnil)))

-- what a tuple of three owns is what each part owns
three_made : {M : Type 1} {𝓤 : Ura M} (𝓛 : Logic 𝓤) (A B C : RattleType) (x : A.Denot) (y : B.Denot) (z : C.Denot) (u v w : Val)
    → ent 𝓤 (sep 𝓤 (sem 𝓛 (A.own_val x (u ∷ []))) (sep 𝓤 (sem 𝓛 (B.own_val y (v ∷ []))) (sem 𝓛 (C.own_val z (w ∷ [])))))
    (sem 𝓛 ((Tuple (A ∷ B ∷ C ∷ [])).own_val (x, y, z) (three u v w ∷ [])))
three_made 𝓛 A B C x y z u v w =
    qed 𝓛 (‵ (A.own_val x (u ∷ [])) ∷ ‵ (B.own_val y (v ∷ [])) ∷ ‵ (C.own_val z (w ∷ [])) ∷ []) ∵
    nothing ! $ move ! (3 ∷ 0 ∷ []) $ fjoin ! $ move ! (2 ∷ 0 ∷ []) $ fjoin ! $ move ! (1 ∷ 0 ∷ []) $ fjoin ! $ feq_i ! (List Val) (three u v w ∷ [])
    (three u v w ∷ []) refl $ fjoin ! $
    fpack ! (Valss (A ∷ B ∷ C ∷ [])) (within (Declared.shape (tuple_type (A ∷ B ∷ C ∷ []))) (x, (y, (z, tt))) (three u v w ∷ []))
    (u ∷ [], (v ∷ [], (w ∷ [], tt))) $ done !

pub reserve_spec : {M : Type 1} → statement M
reserve_spec 𝓤 𝓛 𝓜 𝓡 wired X W LX LW g d dd met md =
    let E : El = record { row = X; laws = LX } in let Z : Al = record { row = W; laws = LW; g = g; d = d; drops = dd } in
    let T = f.ended X W g d dd in let c = f.clauses X W g d dd 𝓛 𝓜.mem 𝓡.returns in
    let 𝓣 = tables 𝓤 𝓛.H 𝓜 𝓡 𝓡.env in let fn : Fn = inst_fn (args E Z) code.function in
    let Lease : RattleType =
    lease.the_row (R E) (P E Z) g in let Three : RattleType = Tuple (First E ∷ Cells E ∷ Lease ∷ []) in let Out : RattleType = RS.the_row Three
    AE.the_row in
    let stayed : Stays T.signature.params T.kept = (stay_dropped _ yes, (stay_dropped _ yes, tt)) in
    proved_at 𝓛 T stayed c 𝓜 𝓡 (
      Goes-dropped 𝓛 3 (RefOf (0 ∷ []) tt (plain (λ _. P E Z)) (λ _. tt)) yes (λ κs x w. refl),
      (Goes-dropped 𝓛 3 (plain (λ _. usize)) yes (λ κs x w. refl), tt),
    )
    (f.Key.name (args E Z)) fn (code.unfolded 𝓤 𝓛.H 𝓜 𝓡 wired (X, (W, tt)) d dd) (λ y are.
    let κs = y.0.0 in let qs = y.0.1 in let ps = y.0.3 in let vss = y.0.4 in let Post : Val → SProp 𝓤 = (walk_of 𝓛 T stayed c).post y in
    let at = ps.0.ref_ptr in let a = ps.0.now in let count = ps.1.0 in
    let s = type_size (R E) in let mem = 𝓜.mem in let run = 𝓡.returns in
    let other_tokens = ‵ (flft κs.1.0 qs.1.0) ⊛ ‵ (flft κs.1.1.0 qs.1.1.0) ⊛ ‵ ftrue in
    let Block : Out.Denot → Type 0 =
    λ r. IfOk r (λ t. IsBlock t.0 t.1 t.2 count a) in let Empty : Out.Denot → Type 0 = λ r. IfOk r (λ t. t.1.held ≡ replicate count None) in
    let ends : (r : Out.Denot) (v : Val) → Block r → Empty r
    → ent 𝓤 (⋆ 𝓛 (‵ (Out.own_val r (v ∷ [])) ∷ ‵ (flft κs.0 qs.0) ∷ ‵ ftrue ∷ other_tokens ∷ [])) (Post v) =
    λ r v block none.
    (qed 𝓛 (‵ (Out.own_val r (v ∷ [])) ∷ ‵ (flft κs.0 qs.0) ∷ ‵ ftrue ∷ other_tokens ∷ []) ∵
    use0 𝓛 (raw (fact 𝓤 (Empty r))) (fact_i 𝓤 (Empty r) (emp 𝓤) none) $ use0 𝓛 (raw (fact 𝓤 (Block r))) (fact_i 𝓤 (Block r) (emp 𝓤) block) $ join ! $ nothing
    ! $ nothing ! $ fjoin ! $ nothing ! $ fjoin ! $
    move ! (3 ∷ 5 ∷ []) $ join ! $ keep ! (0 ∷ 1 ∷ 3 ∷ 2 ∷ []) $ by ! (leaves 𝓛 T stayed c y v r (tt, (tt, tt)) (tt, (tt, tt)))) in
    qed 𝓛 (((‵ (flft κs.0 qs.0) ⊛ other_tokens) ⊛ ‵ (owns (types_at T.signature.params κs) ps vss))
    ∷ (raw (fact 𝓤 (κs.1.0 ⊑ X.lives)) ⊛ raw (fact 𝓤 (κs.1.1.0 ⊑ W.lives)) ⊛ raw (fact 𝓤 (FitsInBlock (R E) count))) ∷ []) ∵
    move ! (1 ∷ []) $ split ! $ heard ! _ (λ lives. split ! $ heard ! _ (λ alloc_lives. heard ! _ (λ asked.
    let small : count * s < 2 ^ 63 = asked.0 in let bytes : count * s < 2 ^ 64 = omega arith in
    split ! $ split ! $ move ! (2 ∷ []) $ fsplit ! $ fsplit ! $ feq_l ! (λ e0. move ! (1 ∷ []) $ fsplit ! $ fsplit ! $ feq_l ! (λ e1. flt_l ! (λ count_fits.
    regoal ! (λ (us : List Val). prop (WpFn 𝓤 𝓛.H 𝓣.C 𝓣.Λ fn us Post)) (λ j. e0 j ++ (e1 j ++ [])) refl $ move ! (1 ∷ 2 ∷ []) $
    -- [the `&` to the allocator; its token; nothing; the other tokens]
    enter ! 𝓣.C 𝓣.Λ fn _ Post $ alloc_all ! (λ l. pass_all ! refl ((tt, tt), ((tt, record { fits = count_fits }), tt)) $
    let En : Env 𝓤 𝓛.H = env fn.locals l in let both : Body = head (after 2 fn.body) in
    let Then : After 𝓤 𝓛.H = any_q (after_seq 𝓤 𝓛.H (Wp 𝓤 𝓛.H 𝓣.C 𝓣.Λ En (after 3 fn.body) (at_return 𝓤 𝓛.H En Post)) (at_return 𝓤 𝓛.H En Post)) in
    let al =
    capped (align (elτ E)) in let block = block_ty E count in let z : (Takes Z 𝓛 mem run).Ghost = at_takes Z 𝓛 mem run κs.0 qs.0 at a (count * s) al
    block in
    sets ! (is_so ! (bin ! (get ! refl) (size_word !) (record { fits = subst (λ k. k < 2 ^ 64) (sym (uncapped count s bytes)) bytes }))
    (ap (vint w64) (uncapped count s bytes))) refl (tt, record { fits = bytes }) $
    use2 𝓛 (raw ((Takes Z 𝓛 mem run).pre z))
    (Takes-goes Z 𝓛 mem run κs.0 qs.0 at a (Incl-trans y.0.2.0 alloc_lives) (count * s) al block (block_size E count bytes) (block_align E count) bytes
    (capped_fits (align (elτ E)))) $
    calls_at ! (framed 𝓤 𝓛.H 𝓜 𝓣) (Takes Z 𝓛 mem run) (met.allocate dd) z
    (and_then ! (get ! refl) (and_then ! (get ! refl) (and_then ! (align_word !) (no_more !)))) (λ v.
    use1 𝓛 (later (raw (Answered Z 𝓛 mem run a block v) ⊛ ‵ (flft κs.0 qs.0))) (Takes-gives Z 𝓛 mem run κs.0 qs.0 at a (count * s) al block v) $ await ! tt $
    split ! $
    answers Z ! mem run a block v
    (λ b o e.
    let p : Ptr =
    block_ptr b o in let r : Three.Denot = (
      record { cell = p },
      record { mark = record {}; at = p; held = replicate count None },
      record
          { mark = record {}; at = p; count = count; alloc = a },
    ) in
    let made : Val =
    three (word p) mark mark in let typed : Good (layout Three) made = (tt, ((tt, tt), ((tt, tt), ((tt, tt), tt)))) in let ok = first_Good (layout Three)
    made typed in
    lands_as ! e refl (Answer-typed true b o) $ first_of ! $ switches_on ! (get_tag ! (vrt ! refl (fld ! refl (stop !))) (whole !)) $ exec ! 𝓣.C 𝓣.Λ En
    (arm_body 0 both) Then $
    sets ! (of_opd ! (get_in ! (vrt ! refl (fld ! refl (stop !))) (in_variant ! 0 0 refl refl (whole !)))) refl (tt, tt) $ sets ! (of_opd ! (get ! refl)) refl
    (tt, tt) $
    sets ! (agg ! (and_then ! (get ! refl) (no_more !))) refl (word-Good [] p) $
    sets ! (agg ! (no_more !)) refl (tt, tt) $ sets ! (agg ! (and_then ! (get ! refl) (no_more !))) refl (tt, (tt, tt)) $
    sets ! (agg ! (no_more !)) refl (tt, tt) $ sets ! (agg ! (and_then ! (get ! refl) (no_more !))) refl (tt, (tt, tt)) $
    sets ! (agg ! (and_then ! (get ! refl) (and_then ! (get ! refl) (and_then ! (get ! refl) (no_more !))))) refl typed $ sets_last !
    (agg ! (and_then ! (lit ! tt) (and_then ! (get ! refl) (no_more !)))) refl ok $
    exec ! 𝓣.C 𝓣.Λ En (after 3 fn.body) (at_ret En Post) $ sets ! (of_opd ! (get ! refl)) refl ok $
    -- [the room; the right to give it back; the token; nothing; the other tokens]
    move ! (1 ∷ []) $ use0 𝓛 (‵ ((Mark E).own_val (tt, tt) (mark ∷ []))) (mark_made E 𝓛) $ fjoin ! $
    move ! (1 ∷ []) $ as_written ! (ty_array (elτ E) count) b o $ use1 𝓛 (‵ (row (R E) b o (replicate count None))) (row_of_room E 𝓛 b count o) $
    flt_i ! (length r.1.held * s) (2 ^ 63) (subst (λ k. k * s < 2 ^ 63) (sym (length-replicate count None)) small) $ fjoin ! $ use0 𝓛
    (‵ ((Mark E).own_val (tt, tt) (mark ∷ []))) (mark_made E 𝓛) $ fjoin ! $ first_made E ! p $
    use3 𝓛 (‵ (Three.own_val r (made ∷ []))) (three_made 𝓛 (First E) (Cells E) Lease r.0 r.1 r.2 (word p) mark mark) $
    use1 𝓛 (‵ (Out.own_val (Ok r) (live 0 (vcons made vnil) ∷ []))) (ok_of 𝓛 Three AE.the_row r made) $
    returns ! (look_at ! 0 refl) $ free_all ! refl $ keep ! (0 ∷ 1 ∷ 2 ∷ 3 ∷ []) $ by ! (ends (Ok r) (live 0 (vcons made vnil)) (refl, refl, refl, refl) refl))
    (λ e.
    let Refused : RattleType =
    Struct (Declared.shape AE.the_type) in let none : Val = live 1 (vcons (vstruct vnil) vnil) in let err : Good (layout Out) none =
    (tt, (record { fits = lit< tt }, (tt, tt))) in
    lands_as ! e refl (Answer-typed false 0 0) $ first_of ! $ switches_on ! (get_tag ! (vrt ! refl (fld ! refl (stop !))) (whole !)) $ exec ! 𝓣.C 𝓣.Λ En
    (arm_body 1 both) Then $
    sets ! (of_opd ! (get_in ! (vrt ! refl (fld ! refl (stop !))) (in_variant ! 1 0 refl refl (whole !)))) refl (tt, tt) $ sets_last !
    (agg ! (and_then ! (lit ! tt) (and_then ! (get ! refl) (no_more !)))) refl err $
    exec ! 𝓣.C 𝓣.Λ En (after 3 fn.body) (at_ret En Post) $ sets ! (of_opd ! (get ! refl)) refl err $
    owned ! Refused (Is Refused) (Struct-Makes 𝓛 (Declared.shape AE.the_type) tt) tt (vstruct vnil ∷ []) (tt, (refl, tt)) $
    use1 𝓛 (‵ (Out.own_val (Err (record {})) (none ∷ []))) (err_of 𝓛 Three AE.the_row (record {}) (vstruct vnil)) $
    returns ! (look_at ! 0 refl) $ free_all ! refl $ keep ! (0 ∷ 1 ∷ 2 ∷ 3 ∷ []) $ by ! (ends (Err (record {})) none tt tt)))))))))))
