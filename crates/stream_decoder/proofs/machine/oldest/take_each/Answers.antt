use Rattle.std.proofs.Common.{◌≡◌, ◌<◌, ◌+◌, ◌∷◌, ℕ, suc, Bool, List, Option, Some, None, drop, slice_get, refl, sym, ap, subst, ◌∙◌, arith}
use Rattle.std.specs.Prelude.{IsSome}
use Rattle.etm_types.specs.declared.element.Elem.{Elem}
use Rattle.etm_types.specs.declared.element.Elem.TheVariants as elem
use Rattle.etm_types.specs.declared.element.P0.TheVariants.{Atom}
use Rattle.stream_decoder.specs.Waiting.{Commits, IsWaiting, TakesAtoms, Waiting, committed_by}
use Rattle.stream_decoder.specs.Left.{Left}
use Rattle.stream_decoder.proofs.Waits.{next_at}
use Rattle.stream_decoder.proofs.LettingGo.{few_held, rotates, still_full, takes_more}
use Rattle.stream_decoder.proofs.machine.oldest.take_each.Goals.{then-k-eq0, else-k-eq0}
use Rattle.stream_decoder.proofs.machine.oldest.take_each.Goals as goal

none_there : (r : Option Bool) → r ≡ None → IsSome r → ⊥
none_there None is some = absurd cc
none_there (Some x) is some = absurd cc

pub loop-k-init : goal.loop-k-init
loop-k-init c = record {
  takes = (refl, refl);
  atoms = λ j below. c.requires.atoms j (omega (arith, below));
  at = refl;
  due = c.requires.due;
  full = c.requires.full;
  depth = refl;
  given = λ some. absurd (omega (arith, some));
  most = omega arith;
  holds = c.requires.holds;
}

pub unreachable-requires : goal.unreachable-requires
unreachable-requires c =
    let there = c.loop-k.invariant.atoms 0 (omega (arith, c.loop-k-test.true)) in
    let first = next_at c.loop-k.todo.elements 0 (elem.P0 (Atom there.0)) there.1 in
    none_there c.first_atom.result c.in_default.is (c.first_atom.ensures.some.1 (there.0, drop 1 c.loop-k.todo.elements, first))

pub take_atom-requires : goal.take_atom-requires
take_atom-requires c = record { due = c.loop-k.invariant.due }

pub take_plain_atom-requires-clause-due : goal.take_plain_atom-requires-clause-due
take_plain_atom-requires-clause-due c = c.loop-k.invariant.due

pub take_plain_atom-requires-clause-some : goal.take_plain_atom-requires-clause-some
take_plain_atom-requires-clause-some c =
    let i = c.loop-k.invariant in let w = c.args.waiting.now in
    omega (arith, i.depth, few_held w c.requires.due c.requires.holds, c.requires.held, c.loop-k-test.true)

pub take_plain_atom-requires-clause-full : goal.take_plain_atom-requires-clause-full
take_plain_atom-requires-clause-full c = c.loop-k.invariant.full

pub take_plain_atom-requires-clause-given : goal.take_plain_atom-requires-clause-given
take_plain_atom-requires-clause-given c = c.loop-k.invariant.given (omega (arith, c.if-k-eq0.false))

-- the atom is taken, the first and the others alike
one : (c : goal.After-advance)
    → Commits c.loop-k.waiting (elem.P0 (Atom c.in-Some.taken)) c.if-k-eq0.waiting (committed_by c.loop-k.waiting (Atom c.in-Some.taken))
    × IsWaiting c.if-k-eq0.waiting
one c =
    let w = c.loop-k.waiting in let e = elem.P0 (Atom c.in-Some.taken) in
    let Taken = λ (v : Waiting). Commits w e v (committed_by w (Atom c.in-Some.taken)) × IsWaiting v in
    elim c.if-k-eq0.branch [
      | then-k-eq0 b ↦ subst Taken (sym b.waiting-is) (b.take_atom.ensures.commits, b.take_atom.ensures.holds)
      | else-k-eq0 b ↦ subst Taken (sym b.waiting-is) (b.take_plain_atom.ensures.commits, b.take_plain_atom.ensures.holds)
    ]

shifted : (left others : List Elem) (e : Elem) (k k' n : ℕ) → left ≡ e ∷ others → k' ≡ k + 1
    → ((j : ℕ) → k + j < n → (taken : Bool) × (slice_get left j ≡ Some (elem.P0 (Atom taken))))
    → (j : ℕ) → k' + j < n → (taken : Bool) × (slice_get others j ≡ Some (elem.P0 (Atom taken)))
shifted left others e k k' n first next atoms j below =
    let there = atoms (suc j) (omega (arith, below, next)) in (there.0, sym (ap (λ (l : List Elem). slice_get l (suc j)) first) ∙ there.1)

pub loop-k-preserved : goal.loop-k-preserved
loop-k-preserved c =
    let i = c.loop-k.invariant in let w = c.loop-k.waiting in let w' = c.if-k-eq0.waiting in let k = c.loop-k.k in let left = c.loop-k.todo.elements in
    let taken = one c in let first = c.in-Some.ensures.value in let e = elem.P0 (Atom c.in-Some.taken) in
    let advanced = c.advance.ensures e first.0 first.1 in
    let turned = rotates w w' c.in-Some.taken (few_held w i.due i.holds) i.full taken.0 in
    let more = takes_more c.args.waiting.now w w' c.args.todo.now.elements left first.0 k c.in-Some.taken i.takes first.1 taken.0 taken.1 in
    let next : suc k ≡ k + 1 = omega arith in
    let rest : first.0 ≡ c.advance.new.self.elements = sym (ap (λ (l : Left). l.elements) advanced) in
    record {
      takes = subst (λ (n : ℕ). TakesAtoms c.args.waiting.now c.args.todo.now.elements n w' c.advance.new.self.elements) next
          (subst (λ (es : List Elem). TakesAtoms c.args.waiting.now c.args.todo.now.elements (suc k) w' es) rest more);
      atoms = shifted left c.advance.new.self.elements e k (k + 1) c.args.n (first.1 ∙ ap (λ (es : List Elem). e ∷ es) rest) refl i.atoms;
      at = ap (λ (l : Left). l.at) advanced ∙ i.at;
      due = turned.due;
      full = still_full w w' c.in-Some.taken i.full turned;
      depth = turned.depth ∙ i.depth;
      given = λ some. turned.pre;
      most = omega (arith, c.loop-k-test.true);
      holds = taken.1;
    }

pub returns-clause-takes : goal.returns-clause-takes
returns-clause-takes c =
    let i = c.loop-k.invariant in let all : c.loop-k.k ≡ c.args.n = omega (arith, i.most, c.loop-k-test.false) in
    subst (λ (n : ℕ). TakesAtoms c.args.waiting.now c.args.todo.now.elements n c.loop-k.waiting c.loop-k.todo.elements) all i.takes

pub returns-clause-at : goal.returns-clause-at
returns-clause-at c = c.loop-k.invariant.at

pub returns-clause-holds : goal.returns-clause-holds
returns-clause-holds c = c.loop-k.invariant.holds
