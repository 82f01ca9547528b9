-- Exceptions before the first instruction of a block: the bytes that are written where its address is told for both, and where it is not.
use Rattle.std.proofs.Common.{◌≡◌, ℕ, true, List, [], ◌∷◌, ◌++◌, Some, None, refl}
use Rattle.std.specs.Cmp.Lexicographic.{other_text}
use Rattle.a64_branches.specs.Classes.{class_of}
use Rattle.atom_formats.specs.Bytes.{byte_of}
use Rattle.atom_formats.specs.Formats.{atom_formats}
use Rattle.etm_types.specs.declared.context.Ctx.{Ctx}
use Rattle.etm_types.specs.declared.element.Elem.TheVariants as elem
use Rattle.etm_types.specs.declared.element.P0.TheVariants as p0
use Rattle.program_image.specs.Part.{Part}
use Rattle.spec_run.specs.declared.event.Event.{Event}
use Rattle.spec_run.specs.declared.event.Event.TheVariants as event
use Rattle.trace_unit.proofs.TraceExamples.{async, branches, sizes}
use Rattle.trace_unit.specs.Effects.{orders}
use Rattle.trace_unit.specs.Orders.{Branch, Cancel, Exception, ExceptionAtTarget, On, Place, Retire, Start, Sync, Tell}
use Rattle.trace_unit.specs.Whole.{whole_settled}
use Rattle.trace_unit.specs.Written.{settled}

abbrev program : Ctx
program = record { el = 0; ns = true; vmid = 0; cid = 0 }

abbrev handler : Ctx
handler = record { el = 1; ns = true; vmid = 0; cid = 0 }

-- at 0x8000: NOP, ERET
abbrev returning : Part
returning = record { start = 0x8000; bytes = 0x1f ∷ 0x20 ∷ 0x03 ∷ 0xd5 ∷ 0xe0 ∷ 0x03 ∷ 0x9f ∷ 0xd6 ∷ [] }

abbrev code : List Part
code = branches ++ returning ∷ []

-- the bytes up to an address packet of eight bytes and a context, which all begin with
abbrev begun : ℕ → ℕ → List ℕ
begun addr ctx = async ++ 0x01 ∷ 0x01 ∷ 0x00 ∷ 0x04 ∷ 0x85 ∷ 0x00 ∷ addr ∷ 0x00 ∷ 0x00 ∷ 0x00 ∷ 0x00 ∷ 0x00 ∷ 0x00 ∷ ctx ∷ []

abbrev from_handler : List ℕ → List ℕ
from_handler bytes = begun 0x40 0x31 ++ 0xf7 ∷ bytes

-- ---- at the target of an ERET, which leads to another context; then behind an address that is told

abbrev twice : List Event
twice =
    event.On 0x8000 handler ∷ event.Step ∷ event.Eret 0x1000 program ∷ event.Exc 14 0x8000 handler ∷ event.Step ∷ event.Eret 0x1000 program
    ∷ event.Step ∷ event.Taken ∷ []

abbrev twice_bytes : List ℕ → List ℕ
twice_bytes exception = from_handler (exception ++ 0x82 ∷ 0x00 ∷ 0x40 ∷ 0x00 ∷ 0x00 ∷ 0x31 ∷ 0xf7 ∷ 0x82 ∷ 0x00 ∷ 0x08 ∷ 0x00 ∷ 0x00 ∷ 0x30 ∷ 0xf7 ∷ [])

twice_has_orders : orders code (sizes 0) 15 twice ≡
    Tell (Sync 0) ∷ Tell On ∷ Tell (Start 0x8000 handler) ∷ Branch true ∷ ExceptionAtTarget (Some program) 14 0x1000 ∷ Tell (Place 0x8000 handler)
    ∷ Branch true ∷ Tell (Place 0x1000 program) ∷ Branch true ∷ []
unfolding class_of
twice_has_orders = refl

twice_is_written : settled code (sizes 0) 15 twice ≡ twice_bytes (0x06 ∷ 0x5c ∷ 0x82 ∷ 0x00 ∷ 0x08 ∷ 0x00 ∷ 0x00 ∷ 0x30 ∷ [])
unfolding class_of atom_formats byte_of
twice_is_written = refl

-- the address is not told twice
not_told_twice : settled code (sizes 0) 15 twice ≡ twice_bytes (0x82 ∷ 0x00 ∷ 0x08 ∷ 0x00 ∷ 0x00 ∷ 0x30 ∷ 0x06 ∷ 0x1d ∷ 0x90 ∷ []) → ⊥
unfolding class_of atom_formats byte_of
not_told_twice e =
    other_text (settled code (sizes 0) 15 twice) (twice_bytes (0x82 ∷ 0x00 ∷ 0x08 ∷ 0x00 ∷ 0x00 ∷ 0x30 ∷ 0x06 ∷ 0x1d ∷ 0x90 ∷ [])) refl e

-- ---- where the address is told already, the exception tells it by an exact match

abbrev first_in_block : List Event
first_in_block =
    event.On 0x1000 program ∷ event.Exc 14 0x8000 handler ∷ event.Step ∷ event.Eret 0x1000 program ∷ event.Step ∷ event.Taken ∷ event.Retire 5 ∷ []

abbrev first_in_block_bytes : ℕ → List ℕ
first_in_block_bytes form =
    begun 0x08 0x30 ++ 0x06 ∷ form ∷ 0x90 ∷ 0x82 ∷ 0x00 ∷ 0x40 ∷ 0x00 ∷ 0x00 ∷ 0x31 ∷ 0xf7 ∷ 0x82 ∷ 0x00 ∷ 0x08 ∷ 0x00 ∷ 0x00 ∷ 0x30 ∷ 0xf7 ∷ 0x2d
    ∷ 0x03 ∷ []

first_in_block_is_written : settled code (sizes 4) 15 first_in_block ≡ first_in_block_bytes 0x1d
unfolding class_of atom_formats byte_of
first_in_block_is_written = refl

not_where_none_is_needed : settled code (sizes 4) 15 first_in_block ≡ first_in_block_bytes 0x5c → ⊥
unfolding class_of atom_formats byte_of
not_where_none_is_needed e = other_text (settled code (sizes 4) 15 first_in_block) (first_in_block_bytes 0x5c) refl e

-- ---- behind a plain step of the block that is taken back

abbrev step_taken_back : List Event
step_taken_back =
    event.On 0x8000 handler ∷ event.Step ∷ event.Eret 0x1000 program ∷ event.Step ∷ event.Cancel 1 ∷ event.Exc 14 0x8000 handler ∷ event.Retire 3 ∷ []

step_taken_back_is_written : settled code (sizes 4) 15 step_taken_back ≡
    from_handler (0x06 ∷ 0x5c ∷ 0x82 ∷ 0x00 ∷ 0x08 ∷ 0x00 ∷ 0x00 ∷ 0x30 ∷ 0x2d ∷ 0x02 ∷ [])
unfolding class_of atom_formats byte_of
step_taken_back_is_written = refl

not_told_by_itself : settled code (sizes 4) 15 step_taken_back ≡
    from_handler (0x82 ∷ 0x00 ∷ 0x08 ∷ 0x00 ∷ 0x00 ∷ 0x30 ∷ 0x06 ∷ 0x1d ∷ 0x90 ∷ 0x2d ∷ 0x02 ∷ []) → ⊥
unfolding class_of atom_formats byte_of
not_told_by_itself e =
    other_text (settled code (sizes 4) 15 step_taken_back)
    (from_handler (0x82 ∷ 0x00 ∷ 0x08 ∷ 0x00 ∷ 0x00 ∷ 0x30 ∷ 0x06 ∷ 0x1d ∷ 0x90 ∷ 0x2d ∷ 0x02 ∷ [])) refl e

-- ---- behind one that is not taken back the two addresses differ

abbrev step_before : List Event
step_before =
    event.On 0x8000 handler ∷ event.Step ∷ event.Eret 0x1000 handler ∷ event.Step ∷ event.Exc 14 0x8000 handler ∷ event.Step
    ∷ event.Eret 0x1004 handler ∷ event.Taken ∷ []

step_before_is_written : settled code (sizes 0) 15 step_before ≡
    from_handler (0x95 ∷ 0x80 ∷ 0x08 ∷ 0x06 ∷ 0x1d ∷ 0x95 ∷ 0x01 ∷ 0x92 ∷ 0xf7 ∷ 0x91 ∷ 0xf7 ∷ [])
unfolding class_of atom_formats byte_of
step_before_is_written = refl

not_behind_a_step : settled code (sizes 0) 15 step_before ≡ from_handler (0x06 ∷ 0x5c ∷ 0x95 ∷ 0x81 ∷ 0x08 ∷ 0x91 ∷ 0xf7 ∷ 0x91 ∷ 0xf7 ∷ []) → ⊥
unfolding class_of atom_formats byte_of
not_behind_a_step e =
    other_text (settled code (sizes 0) 15 step_before) (from_handler (0x06 ∷ 0x5c ∷ 0x95 ∷ 0x81 ∷ 0x08 ∷ 0x91 ∷ 0xf7 ∷ 0x91 ∷ 0xf7 ∷ [])) refl e

-- ---- no context where the reader has it

abbrev same_place : List Event
same_place = event.On 0x8000 handler ∷ event.Step ∷ event.Eret 0x1000 handler ∷ event.Exc 14 0x8000 handler ∷ event.Retire 3 ∷ []

same_place_has_orders : orders code (sizes 4) 15 same_place ≡
    Tell (Sync 0) ∷ Tell On ∷ Tell (Start 0x8000 handler) ∷ Branch true ∷ ExceptionAtTarget None 14 0x1000 ∷ Retire 2 ∷ []
unfolding class_of
same_place_has_orders = refl

same_place_is_written : settled code (sizes 4) 15 same_place ≡ from_handler (0x06 ∷ 0x5c ∷ 0x95 ∷ 0x80 ∷ 0x08 ∷ 0x2d ∷ 0x02 ∷ [])
unfolding class_of atom_formats byte_of
same_place_is_written = refl

not_with_a_context : settled code (sizes 4) 15 same_place ≡
    from_handler (0x06 ∷ 0x5c ∷ 0x82 ∷ 0x00 ∷ 0x08 ∷ 0x00 ∷ 0x00 ∷ 0x31 ∷ 0x2d ∷ 0x02 ∷ []) → ⊥
unfolding class_of atom_formats byte_of
not_with_a_context e =
    other_text (settled code (sizes 4) 15 same_place)
    (from_handler (0x06 ∷ 0x5c ∷ 0x82 ∷ 0x00 ∷ 0x08 ∷ 0x00 ∷ 0x00 ∷ 0x31 ∷ 0x2d ∷ 0x02 ∷ [])) refl e

-- ---- the address comes once into the history of addresses

abbrev there_and_back : List Event
there_and_back =
    event.On 0x8000 handler ∷ event.Step ∷ event.Eret 0x1000 handler ∷ event.Exc 14 0x8000 handler ∷ event.Step ∷ event.Eret 0x1000 handler
    ∷ event.Step ∷ event.Taken ∷ []

abbrev there_and_back_bytes : ℕ → List ℕ
there_and_back_bytes match = from_handler (0x06 ∷ 0x5c ∷ 0x95 ∷ 0x80 ∷ 0x08 ∷ match ∷ 0xf7 ∷ 0x91 ∷ 0xf7 ∷ [])

there_and_back_is_written : settled code (sizes 0) 15 there_and_back ≡ there_and_back_bytes 0x91
unfolding class_of atom_formats byte_of
there_and_back_is_written = refl

not_kept_twice : settled code (sizes 0) 15 there_and_back ≡ there_and_back_bytes 0x92 → ⊥
unfolding class_of atom_formats byte_of
not_kept_twice e = other_text (settled code (sizes 0) 15 there_and_back) (there_and_back_bytes 0x92) refl e

-- ---- behind what is to be cancelled, and an atom that is held

abbrev taken_back : List Event
taken_back =
    event.On 0x8000 handler ∷ event.Step ∷ event.Eret 0x1000 program ∷ event.Exc 14 0x8000 handler ∷ event.Cancel 2 ∷ event.Eret 0x1008 program
    ∷ event.Exc 14 0x8000 handler ∷ event.Retire 3 ∷ []

abbrev taken_back_bytes : List ℕ → List ℕ
taken_back_bytes last = from_handler (0x06 ∷ 0x5c ∷ 0x82 ∷ 0x00 ∷ 0x08 ∷ 0x00 ∷ 0x00 ∷ 0x30 ∷ (last ++ 0x2d ∷ 0x02 ∷ []))

taken_back_has_elements : whole_settled 8 (orders code (sizes 8) 15 taken_back) ≡
    elem.Info 0 ∷ elem.On ∷ elem.Ctx handler ∷ elem.Addr 0x8000 ∷ elem.P0 (p0.Atom true) ∷ elem.Ctx program ∷ elem.Addr 0x1000
    ∷ elem.P0 (p0.Exc 14 0x1000) ∷ elem.Cancel 2 ∷ elem.P0 (p0.Atom true) ∷ elem.Ctx program ∷ elem.Addr 0x1008 ∷ elem.P0 (p0.Exc 14 0x1008)
    ∷ elem.Commit 2 ∷ []
unfolding class_of
taken_back_has_elements = refl

taken_back_is_written : settled code (sizes 8) 15 taken_back ≡
    taken_back_bytes (0x2e ∷ 0x02 ∷ 0xf7 ∷ 0x06 ∷ 0x5c ∷ 0x82 ∷ 0x02 ∷ 0x08 ∷ 0x00 ∷ 0x00 ∷ 0x30 ∷ [])
unfolding class_of atom_formats byte_of
taken_back_is_written = refl

not_before_them : settled code (sizes 8) 15 taken_back ≡
    taken_back_bytes (0x06 ∷ 0x5c ∷ 0x2e ∷ 0x02 ∷ 0xf7 ∷ 0x82 ∷ 0x02 ∷ 0x08 ∷ 0x00 ∷ 0x00 ∷ 0x30 ∷ []) → ⊥
unfolding class_of atom_formats byte_of
not_before_them e =
    other_text (settled code (sizes 8) 15 taken_back)
    (taken_back_bytes (0x06 ∷ 0x5c ∷ 0x2e ∷ 0x02 ∷ 0xf7 ∷ 0x82 ∷ 0x02 ∷ 0x08 ∷ 0x00 ∷ 0x00 ∷ 0x30 ∷ [])) refl e

-- ---- a cancel of the exception leaves the address with the reader

abbrev once_more : List Event
once_more =
    event.On 0x8000 handler ∷ event.Step ∷ event.Eret 0x1000 program ∷ event.Exc 14 0x8000 handler ∷ event.Cancel 1 ∷ event.Exc 15 0x8000 handler
    ∷ event.Retire 3 ∷ []

once_more_has_orders : orders code (sizes 4) 15 once_more ≡
    Tell (Sync 0) ∷ Tell On ∷ Tell (Start 0x8000 handler) ∷ Branch true ∷ ExceptionAtTarget (Some program) 14 0x1000 ∷ Cancel 1
    ∷ Exception 15 0x1000 ∷ Retire 2 ∷ []
unfolding class_of
once_more_has_orders = refl

abbrev once_more_bytes : List ℕ → List ℕ
once_more_bytes last = from_handler (0x06 ∷ 0x5c ∷ 0x82 ∷ 0x00 ∷ 0x08 ∷ 0x00 ∷ 0x00 ∷ 0x30 ∷ 0x2e ∷ 0x01 ∷ (last ++ 0x2d ∷ 0x02 ∷ []))

once_more_is_written : settled code (sizes 4) 15 once_more ≡ once_more_bytes (0x06 ∷ 0x1f ∷ 0x90 ∷ [])
unfolding class_of atom_formats byte_of
once_more_is_written = refl

not_as_if_it_were_lost : settled code (sizes 4) 15 once_more ≡ once_more_bytes (0x06 ∷ 0x5e ∷ 0x90 ∷ []) → ⊥
unfolding class_of atom_formats byte_of
not_as_if_it_were_lost e = other_text (settled code (sizes 4) 15 once_more) (once_more_bytes (0x06 ∷ 0x5e ∷ 0x90 ∷ [])) refl e
