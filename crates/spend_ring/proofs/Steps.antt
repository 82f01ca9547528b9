-- The names that the walks of `cells` share, and their common steps.
--     first_had, first_made      what is owned of a `First` is its pointer's word
--     mark_had, mark_made        what is owned of a mark is a struct of no bytes
--     value_had                  what is owned of a value of T is one machine value, of its type
pub use mathlib.Core.Path.{◌≡◌, refl, sym, ap, subst, ◌∙◌}
pub use Prim.Native.Nat.{ℕ, ◌+◌, ◌*◌, ◌<◌, ◌^◌}
pub use native.Mathlib.Omega.{arith}
pub use mathlib.Core.List.{List, [], ◌∷◌, ◌++◌}
pub use lib.ListN.{length, get_or, set, replicate, length-set, length-replicate}
pub use seplogic.Ra.Ura.{Ura}
pub use base.Fraction.{full_share}
pub use base.Logic.{SProp, ent, never, id⊢}
pub use base.Fml.{Fml, GName, Incl-trans, ftrue, fsep, fat, froom, flft, fobs, fbor}
pub use mir.Syntax.{Fn, Body, named, w64}
pub use mir.MapTy.{inst_fn}
pub use mir.Val.{Val, vptr, vint, vunit, vstruct, vcons, vnil}
pub use prog.Wp.{Env, WpFn}
pub use types.Logic.{Logic, sem}
pub use types.SemTy.{Body as Borrowed}
pub use types.Kit.{
  Item,
  Goal,
  Seq,
  Step,
  step,
  prop,
  ‵,
  raw,
  ◌⊛◌,
  some,
  later,
  given,
  at_ret,
  ◌$◌,
  ◌∵◌,
  !,
  qed,
  by,
  move,
  keep,
  drop,
  use0,
  use1,
  use2,
  use3,
  split,
  join,
  group,
  fsplit,
  fsplit3,
  fjoin,
  fjoin3,
  fpick,
  fpack,
  feq_i,
  feq_l,
  flt_i,
  flt_l,
  pick,
  await,
  learn,
  rewrite,
  regoal,
  done,
}
pub use types.Part.{whole, sub, agg}
pub use types.Run.{
  enter,
  of_opd,
  lit,
  unit_lit,
  bin,
  size_lit,
  size_word,
  align_word,
  addr,
  load,
  look,
  init,
  stop,
  fld,
  and_then,
  no_more,
  assigns_last,
  first as first_of,
  blocks,
  exec,
  returns,
}
pub use types.ByLocal.{alloc_all, pass_all, free_all, look_at, get, get_in, through, sets, sets_last, take_at, give_at, is as is_so, env}
pub use contract.Monad.{fact, fact_i}
pub use contract.Running.{tables}
pub use denote.Exit.{yes, no}
pub use denote.RattleType.{RattleType, Valss, owns}
pub use denote.Memory.{mem, hidden_shr, cell_at, part_at}
pub use denote.Param.{layout}
pub use denote.RawPtr.{Ptr, block_ptr, ptr_val, in_a_block}
pub use denote.Ref.{MutBor, MutRef, ShrRef}
pub use denote.Builtin.{RefOf, RefMutOf, unit, usize}
pub use denote.Signature.{plain, types_at, mut_ref_to}
pub use denote.Steps.{nothing, heard, opens, closes, peeks}
pub use denote.Triple.Clauses.{Ended}
pub use denote.Triple.Walked.{Stays, stay_ref, stay_dropped, walk_of, Goes-ref, Goes-dropped, Goes-spent_ref}
pub use Rattle.std.specs.Prelude.{Option, Some, None}
pub use Rattle.std.proofs.raw_atomic.Walks.{proved_at, leaves}
pub use Rattle.std_alloc.proofs.RawLayout.{as_raw, as_written}
pub use Rattle.std_alloc.proofs.RcSteps.{word, word-Good}
pub use Rattle.core.proofs.alloc.Shapes.{after}
pub use Rattle.core.proofs.mem.Param.{El, R, args, el_x, elτ, Good}
use denote.Laws.{Is, shows}
use denote.RawPtr.{RawPtr}
use denote.Shadow.{makes_shadow}
use denote.Struct.Owning.{shape}
use denote.Struct.Struct.{Shape, Struct, within}
use mir.Val.{of_list}
use base.Logic.{emp}
use Rattle.core.proofs.mem.Param.{one, lawful}
use Rattle.spend_ring.specs.contracts.cells.Cells as cells
use Rattle.spend_ring.specs.contracts.cells.First as first

module _ (E : El) where
  abbrev pub Cells : RattleType
  Cells = cells.the_row (R E)

  abbrev pub First : RattleType
  First = first.the_row (R E)

  abbrev pub Mark : RattleType
  Mark = Struct (shape (cells.the_type (R E)))

abbrev pointer : Shape
pointer = record { name = []; args = []; types = []; fields = RawPtr ∷ [] }

abbrev pub mark : Val
mark = vstruct (vcons (vstruct vnil) vnil)

pub mark_made : (E : El) {M : Type 1} {𝓤 : Ura M} (𝓛 : Logic 𝓤) → ent 𝓤 (emp 𝓤) (sem 𝓛 ((Mark E).own_val (tt, tt) (mark ∷ [])))
mark_made E 𝓛 = makes_shadow 𝓛 ((Mark E).own_val (tt, tt) (mark ∷ [])) (λ vss. (tt, ((λ uss. (tt, tt)), tt)))
    ((vstruct vnil ∷ [], tt), (refl, ((tt, (refl, tt)), tt)))

module _ (E : El) {M : Type 1} {𝓤 : Ura M} {𝓛 : Logic 𝓤} {K : Type 0} {Γ : List (Item 𝓤)} {G : Goal 𝓤 𝓛.H} where
  pub first_had : K → (p : Ptr) (vs : List Val) → (vs ≡ word p ∷ [] → Seq K 𝓛 Γ G) → Seq K 𝓛 (‵ ((First E).own_val (record { cell = p }) vs) ∷ Γ) G
  first_had t p vs k = fpick t (λ vss. fsplit t $ feq_l t (λ all. fsplit t $ feq_l t (λ e. drop t $ k (all ∙ (λ j. vstruct (of_list (e j ++ [])) ∷ [])))))

  pub first_made : K → (p : Ptr) → Step K 𝓛 (‵ ((First E).own_val (record { cell = p }) (word p ∷ [])) ∷ Γ) G Γ G
  first_made t p = step (λ s.
      nothing t $ feq_i t (List Val) (ptr_val p ∷ []) (ptr_val p ∷ []) refl $ fjoin t $ feq_i t (List Val) (word p ∷ []) (word p ∷ []) refl $ fjoin t $
      fpack t (Valss (RawPtr ∷ [])) (within pointer (p, tt) (word p ∷ [])) (ptr_val p ∷ [], tt) $ s)

  pub mark_had : K → (vs : List Val) → (vs ≡ mark ∷ [] → Seq K 𝓛 Γ G) → Seq K 𝓛 (‵ ((Mark E).own_val (tt, tt) vs) ∷ Γ) G
  mark_had t vs k = fpick t (λ vss. fsplit t $ feq_l t
      (λ all. fsplit t $ fpick t (λ uss. fsplit t $ feq_l t (λ e. drop t $ drop t $ k (all ∙ (λ j. vstruct (of_list (e j ++ [])) ∷ []))))))

  pub value_had : K → (x : el_x E) (vs : List Val) → ((v : Val) → vs ≡ v ∷ [] → Good E v → Seq K 𝓛 (‵ ((R E).own_val x (v ∷ [])) ∷ Γ) G) → Seq K 𝓛
      (‵ ((R E).own_val x vs) ∷ Γ) G
  value_had t x vs k =
      peeks t (R E) (Is (R E)) (shows 𝓛 (R E)) x vs (λ told. let v = one E vs ((lawful E 𝓛).typed x vs told) in
      rewrite t 0 (λ (us : List Val). ‵ ((R E).own_val x us)) v.1 refl $ k v.0 v.1 v.2)
