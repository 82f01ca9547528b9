-- Return addresses stay multiples of 4, and few.
use Rattle.std.proofs.Common.{◌≡◌, ℕ, ◌≤◌, List, [], ◌∷◌, length, Option, Some, None, sym, subst, arith, length-drop}
use Rattle.std.specs.List.{All}
use Rattle.std.proofs.lemmas.List.Elements.{All-cons, All-take, All-drop}
use Rattle.std.proofs.lemmas.List.{length-take}
use Rattle.etm_types.specs.declared.context.Ctx.{Ctx}
use Rattle.return_stack.specs.Stack.{most_addresses}
use Rattle.path_walker.specs.declared.pc.Pc.{Pc}
use Rattle.path_walker.specs.declared.start.StackUse.{StackUse}
use Rattle.path_walker.specs.declared.start.StackUse.TheVariants.{Keep, Pop, Clear}
use Rattle.path_walker.specs.State.{State, IsState, IsAligned, IsPc}
use Rattle.path_walker.specs.Start.{used}
use Rattle.path_walker.specs.Steps.{linked}
use Rattle.path_walker.specs.Walk.{ToldIsAligned}

pub record AreReturns (stack : List ℕ) : Type 0 where
  pub aligned : All IsAligned stack
  pub few : length stack ≤ most_addresses

pub nothing : AreReturns []
nothing = record { aligned = λ k d lt. absurd (omega arith); few = omega arith }

pub used_returns : (u : StackUse) (stack : List ℕ) → AreReturns stack → AreReturns (used u stack)
used_returns Keep stack r = r
used_returns Pop stack r = record { aligned = All-drop IsAligned 1 stack r.aligned; few = omega (arith, r.few, length-drop 1 stack) }
used_returns Clear stack r = nothing

pub linked_returns : (link : Option ℕ) (stack : List ℕ) → ToldIsAligned link → AreReturns stack → AreReturns (linked link stack)
linked_returns None stack at r = r
linked_returns (Some address) stack at r =
    record {
      aligned = All-take IsAligned most_addresses (address ∷ stack) (All-cons IsAligned address stack at r.aligned);
      few = omega
          (arith, length-take most_addresses (address ∷ stack));
    }

pub state_after : (s : State) (u : StackUse) (link : Option ℕ) (pc : Pc) (ctx : Ctx) → IsState s → ToldIsAligned link → IsPc pc
    → IsState (record { pc = pc; stack = linked link (used u s.stack); ctx = ctx })
state_after s u link pc ctx state at known =
    let r = linked_returns link (used u s.stack) at (used_returns u s.stack (record { aligned = state.stack; few = state.few })) in
    record { pc = known; stack = r.aligned; few = r.few }

pub state_by : (before : Pc) (stack : List ℕ) (ctx : Ctx) (u : StackUse) (link : Option ℕ) (pc : Pc) (new : Ctx) (after : List ℕ)
    → IsState (record { pc = before; stack = stack; ctx = ctx })
    → ToldIsAligned link → IsPc pc → after ≡ linked link (used u stack) → IsState (record { pc = pc; stack = after; ctx = new })
state_by before stack ctx u link pc new after state at known same =
    subst (λ l. IsState (record { pc = pc; stack = l; ctx = new })) (sym same)
    (state_after (record { pc = before; stack = stack; ctx = ctx }) u link pc new state at known)
