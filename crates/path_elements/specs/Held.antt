-- The values of elements, and what the elements of one packet and a maker of elements hold.
use Rattle.std.specs.Prelude.{◌≤◌, ◌≡◌, ◌<◌, ◌%◌, ◌++◌, ℕ, List, [], ◌∷◌, Option, All, IfSome, length, ⊤}
use Rattle.etm_types.specs.declared.element.Elem.{Elem}
use Rattle.etm_types.specs.declared.element.Elem.TheVariants as elem
use Rattle.etm_types.specs.declared.element.P0.TheVariants as p0
use Rattle.address_history.specs.Forms.{IsHistory, HasEntry}
use Rattle.packet_grammar.specs.declared.packet.Packet.{Packet}
use Rattle.packet_grammar.specs.declared.packet.Packet.TheVariants as packet
use Rattle.etm_types.specs.declared.atoms.AtomRun.{AtomRun}
use Rattle.etm_types.specs.Atoms.{atoms_in, most_atoms}
use Rattle.etm_types.specs.Context.{initial_context}
use Rattle.path_elements.specs.declared.elems.Kind.{Kind}
use Rattle.path_elements.specs.declared.elems.Kind.TheVariants as kind
use Rattle.path_elements.specs.declared.elems.Rest.{Rest}
use Rattle.path_elements.specs.declared.elems.Rest.TheVariants as rest
use Rattle.path_elements.specs.declared.elems.Values.{Values}
use Rattle.path_elements.specs.declared.maker.Interrupt.{Interrupt}
use Rattle.path_elements.specs.Elements.{Told, atoms}

-- an address of A64 code, and an exception of a type that there is
abbrev pub IsElem : Elem → Type 0
IsElem (elem.Addr addr) = addr % 4 ≡ 0
IsElem (elem.Ctx ctx) = ctx.el ≤ 3
IsElem (elem.P0 (p0.Exc kind ret)) = (kind < 32) × (ret % 4 ≡ 0)
IsElem e = ⊤

-- no more elements than the most atoms of a packet
pub record AreElems (elements : List Elem) : Type 0 where
  pub most : length elements ≤ most_atoms
  pub each : All IsElem elements

-- three addresses of A64 code, a level of at most 3, and where an exception awaits its address, a type that there is
pub record IsTold (told : Told) : Type 0 where
  pub history : IsHistory told.history
  pub addresses : All (λ a. a % 4 ≡ 0) told.history
  pub level : told.context.el ≤ 3
  pub exception : IfSome told.awaiting (λ e. e.kind < 32)

-- an element, by its kind and by what the elements of its packet say
abbrev pub elem_of : Values → Kind → Elem
elem_of values kind.Info = elem.Info values.number
elem_of values kind.On = elem.On
elem_of values kind.Ctx = elem.Ctx values.ctx
elem_of values kind.Addr = elem.Addr values.addr
elem_of values kind.Exc = elem.P0 (p0.Exc values.exception values.addr)
elem_of values kind.Commit = elem.Commit values.number
elem_of values kind.Cancel = elem.Cancel values.number
elem_of values kind.Flip = elem.Flip
elem_of values kind.Overflow = elem.Overflow
elem_of values kind.Discard = elem.Discard

-- a number alone
abbrev pub numbered : ℕ → Values
numbered n = record { number = n; exception = 0; addr = 0; ctx = initial_context }

-- what stands after the atoms of a packet
abbrev pub rest_in : Rest → Values → List Elem
rest_in rest.Nothing values = []
rest_in (rest.One k) values = elem_of values k ∷ []
rest_in (rest.Two j k) values = elem_of values j ∷ elem_of values k ∷ []
rest_in (rest.Three i j k) values = elem_of values i ∷ elem_of values j ∷ elem_of values k ∷ []

-- an address of A64 code, a level of at most 3, and where an exception has that address, a type that there is
abbrev pub CanStand : Option Interrupt → Values → Type 0
CanStand exception values = (values.addr % 4 ≡ 0) × ((values.ctx).el ≤ 3) × IfSome exception (λ e. e.kind < 32)

-- the elements of a packet: its atoms first
abbrev pub held : AtomRun → Rest → Values → List Elem
held run rest values = atoms (atoms_in run) ++ rest_in rest values

-- What the elements of a packet build on is in its range: the number of atoms, the index of an exact match, a level of at
-- most 3, and a type of exception that there is. Each packet that bytes spell is so.
abbrev pub CanBeTaken : Packet → Type 0
CanBeTaken (packet.Exc kind target) = kind < 32
CanBeTaken (packet.Mispredict few) = few.count ≤ 2
CanBeTaken (packet.Cancel2 few) = few.count ≤ 2
CanBeTaken (packet.CtxInfo ctx) = ctx.el ≤ 3
CanBeTaken (packet.Addr form ctx) = HasEntry form × IfSome ctx (λ told. told.el ≤ 3)
CanBeTaken (packet.Atoms run) = run.count ≤ most_atoms
CanBeTaken p = ⊤
