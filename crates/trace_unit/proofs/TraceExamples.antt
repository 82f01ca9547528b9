-- The bytes that are written for runs over small images, as they were worked out apart from these definitions, beside what a wrong rule would write.
use Rattle.std.proofs.Common.{◌≡◌, ℕ, true, false, List, [], ◌∷◌, ◌++◌, replicate, refl}
use Rattle.std.specs.Prelude.{All, ◌<◌, ◌≤◌}
use Rattle.std.proofs.lemmas.List.Elements.{All-cons, All-from_recursion, All-nil}
use Rattle.etm_types.specs.Settings.{AreSettings, FitsSettings}
use Rattle.etm_types.specs.declared.item.Item.{Item}
use Rattle.etm_types.specs.declared.item.Item.TheVariants as item
use Rattle.packet_grammar.specs.declared.end.End.TheVariants as end
use Rattle.path_elements.specs.Path.{IsPath}
use Rattle.program_image.specs.Part.{IsImage, IsPart}
use Rattle.spec_run.specs.RunAfter.{AreEvents, run_after}
use Rattle.trace_unit.proofs.Examples.{accepted, code, flat, mixed, path_of, ran}
use Rattle.trace_unit.proofs.Examples.{loop as branch, many as branches_taken, sizes as with_numbers}
use Rattle.trace_unit.proofs.TraceShown.{trace_shows}
use Rattle.std.proofs.Common.{Some, subst, arith}
use Rattle.std.specs.Cmp.Lexicographic.{other_text}
use Rattle.a64_branches.specs.Classes.{class_of}
use Rattle.atom_formats.specs.Bytes.{byte_of}
use Rattle.atom_formats.specs.Formats.{atom_formats}
use Rattle.etm_types.specs.Settings.{Sizes}
use Rattle.etm_types.specs.declared.context.Ctx.{Ctx}
use Rattle.program_image.specs.Part.{Part}
use Rattle.spec_run.specs.declared.event.Event.{Event}
use Rattle.spec_run.specs.declared.event.Event.TheVariants as event
use Rattle.trace_unit.specs.Packing.{longest}
use Rattle.trace_unit.specs.Written.{settled, written}

abbrev pub user : Ctx
user = record { el = 0; ns = false; vmid = 0; cid = 0 }

abbrev pub sizes : ℕ → Sizes
sizes depth = record { depth = depth; vmid_bytes = 0; cid_bytes = 0 }

-- from 0x1000: NOP, B.EQ to 0x100c, NOP, B to 0x1000
abbrev words : List ℕ
words = 0x1f ∷ 0x20 ∷ 0x03 ∷ 0xd5 ∷ 0x40 ∷ 0x00 ∷ 0x00 ∷ 0x54 ∷ 0x1f ∷ 0x20 ∷ 0x03 ∷ 0xd5 ∷ 0xfd ∷ 0xff ∷ 0xff ∷ 0x17 ∷ []

abbrev pub branches : List Part
branches = record { start = 0x1000; bytes = words } ∷ []

-- at 0x2008: B to itself
abbrev loop : List Part
loop =
    record {
      start = 0x2008;
      bytes = 0x00 ∷ 0x00 ∷ 0x00 ∷ 0x14 ∷ [];
    }
    ∷ []

-- eleven bytes 00, and 80
abbrev pub async : List ℕ
async = 0x00 ∷ 0x00 ∷ 0x00 ∷ 0x00 ∷ 0x00 ∷ 0x00 ∷ 0x00 ∷ 0x00 ∷ 0x00 ∷ 0x00 ∷ 0x00 ∷ 0x80 ∷ []

-- ---- the 24th atom: the longest front goes out

abbrev many : List Event
many = event.On 0x2008 user ∷ (replicate 25 event.Taken ++ event.Retire 25 ∷ [])

abbrev many_bytes : List ℕ
many_bytes =
    async ++ 0x01 ∷ 0x01 ∷ 0x00 ∷ 0x04 ∷ 0x85 ∷ 0x02 ∷ 0x10 ∷ 0x00 ∷ 0x00 ∷ 0x00 ∷ 0x00 ∷ 0x00 ∷ 0x00 ∷ 0x10 ∷ 0xd4 ∷ 0xf7 ∷ 0x2d ∷ 0x19 ∷ []

many_are_written : settled loop (sizes 64) 15 many ≡ many_bytes
unfolding class_of atom_formats byte_of
many_are_written = refl

-- before the last of them is settled, the packet of 24 atoms is there
many_so_far : written loop (sizes 64) 15 many ≡
    async ++ 0x01 ∷ 0x01 ∷ 0x00 ∷ 0x04 ∷ 0x85 ∷ 0x02 ∷ 0x10 ∷ 0x00 ∷ 0x00 ∷ 0x00 ∷ 0x00 ∷ 0x00 ∷ 0x00 ∷ 0x10 ∷ 0xd4 ∷ []
unfolding class_of atom_formats byte_of
many_so_far = refl

-- ---- the longest front

-- of EEEN all four, of N that one, and of NNNE, which no packet of four tells, three
told_at_once : longest (true ∷ true ∷ true ∷ false ∷ []) ∷ longest (false ∷ []) ∷ longest (false ∷ false ∷ false ∷ true ∷ []) ∷ [] ≡ 4 ∷ 1 ∷ 3 ∷ []
unfolding atom_formats byte_of
told_at_once = refl

not_told_as_three : longest (true ∷ true ∷ true ∷ false ∷ []) ≡ 3 → ⊥
unfolding atom_formats byte_of
not_told_as_three e = let n : 4 ≡ 3 = e in absurd (omega (arith, n))

-- ---- a written atom is flipped

abbrev flip_none : List Event
flip_none = event.On 0x1000 user ∷ event.Step ∷ event.Taken ∷ event.Sync ∷ event.Flip ∷ event.Step ∷ event.Taken ∷ event.Retire 4 ∷ []

abbrev flip_none_bytes : ℕ → List ℕ
flip_none_bytes flip =
    async ++ 0x01 ∷ 0x01 ∷ 0x00 ∷ 0x04 ∷ 0x85 ∷ 0x00 ∷ 0x08 ∷ 0x00 ∷ 0x00 ∷ 0x00 ∷ 0x00 ∷ 0x00 ∷ 0x00 ∷ 0x10 ∷ 0xf7
    ∷ (async ++ 0x01 ∷ 0x05 ∷ 0x00 ∷ 0x01 ∷ 0x85 ∷ 0x03 ∷ 0x08 ∷ 0x00 ∷ 0x00 ∷ 0x00 ∷ 0x00 ∷ 0x00 ∷ 0x00 ∷ 0x10 ∷ flip ∷ 0xf7 ∷ 0x2d ∷ 0x02 ∷ [])

-- none is to be cancelled: a mispredict packet
flip_none_is_written : settled branches (sizes 4) 15 flip_none ≡ flip_none_bytes 0x30
unfolding class_of atom_formats byte_of
flip_none_is_written = refl

not_with_a_cancel_of_one : settled branches (sizes 4) 15 flip_none ≡ flip_none_bytes 0x34 → ⊥
unfolding class_of atom_formats byte_of
not_with_a_cancel_of_one e = other_text (settled branches (sizes 4) 15 flip_none) (flip_none_bytes 0x34) refl e

-- one is to be cancelled: a Cancel Format 2 packet
flip_one_is_written : settled branch (with_numbers 30) 2 branches_taken ≡
    async ++ 0x01 ∷ 0x01 ∷ 0x00 ∷ 0x04 ∷ 0x85 ∷ 0x00 ∷ 0x08 ∷ 0x00 ∷ 0x00 ∷ 0x00 ∷ 0x00 ∷ 0x00 ∷ 0x00 ∷ 0xf0 ∷ 0x05 ∷ 0x07 ∷ 0x00 ∷ 0x00 ∷ 0x00
    ∷ 0xd4 ∷ 0x34 ∷ 0x2d ∷ 0x14 ∷ []
unfolding class_of atom_formats byte_of
flip_one_is_written = refl

-- two are to be cancelled: a Cancel Format 3 packet
abbrev flip_few : List Event
flip_few =
    event.On 0x1000 user ∷ event.Step ∷ event.Taken ∷ event.Taken ∷ event.Step ∷ event.NotTaken ∷ event.Sync ∷ event.Cancel 3 ∷ event.Flip
    ∷ event.Step ∷ event.Taken ∷ event.Retire 4 ∷ []

abbrev flip_few_bytes : List ℕ
flip_few_bytes =
    async ++ 0x01 ∷ 0x01 ∷ 0x00 ∷ 0x04 ∷ 0x85 ∷ 0x00 ∷ 0x08 ∷ 0x00 ∷ 0x00 ∷ 0x00 ∷ 0x00 ∷ 0x00 ∷ 0x00 ∷ 0x10 ∷ 0xfb
    ∷ (async ++ 0x01 ∷ 0x05 ∷ 0x00 ∷ 0x03 ∷ 0x85 ∷ 0x02 ∷ 0x08 ∷ 0x00 ∷ 0x00 ∷ 0x00 ∷ 0x00 ∷ 0x00 ∷ 0x00 ∷ 0x10 ∷ 0x38 ∷ 0xf7 ∷ 0x2d ∷ 0x02 ∷ [])

flip_few_are_written : settled branches (sizes 4) 15 flip_few ≡ flip_few_bytes
unfolding class_of atom_formats byte_of
flip_few_are_written = refl

-- five are to be cancelled, which are the most that a Cancel Format 3 packet has room for
abbrev flip_five : List Event
flip_five =
    event.On 0x1000 user ∷ event.Step ∷ event.Taken ∷ event.Taken ∷ event.Step ∷ event.Taken ∷ event.Taken ∷ event.Step ∷ event.Taken
    ∷ event.Taken ∷ event.Sync ∷ event.Cancel 7 ∷ event.Flip ∷ event.Step ∷ event.Taken ∷ event.Retire 4 ∷ []

abbrev flip_five_bytes : List ℕ → List ℕ
flip_five_bytes flip =
    async ++ 0x01 ∷ 0x01 ∷ 0x00 ∷ 0x04 ∷ 0x85 ∷ 0x00 ∷ 0x08 ∷ 0x00 ∷ 0x00 ∷ 0x00 ∷ 0x00 ∷ 0x00 ∷ 0x00 ∷ 0x10 ∷ 0xc2
    ∷ (async ++ 0x01 ∷ 0x05 ∷ 0x00 ∷ 0x06 ∷ 0x85 ∷ 0x00 ∷ 0x08 ∷ 0x00 ∷ 0x00 ∷ 0x00 ∷ 0x00 ∷ 0x00 ∷ 0x00 ∷ 0x10
    ∷ (flip ++ 0xf7 ∷ 0x2d ∷ 0x02 ∷ []))

flip_five_are_written : settled branches (sizes 8) 15 flip_five ≡ flip_five_bytes (0x3e ∷ [])
unfolding class_of atom_formats byte_of
flip_five_are_written = refl

not_in_format_1 : settled branches (sizes 8) 15 flip_five ≡ flip_five_bytes (0x2f ∷ 0x05 ∷ []) → ⊥
unfolding class_of atom_formats byte_of
not_in_format_1 e = other_text (settled branches (sizes 8) 15 flip_five) (flip_five_bytes (0x2f ∷ 0x05 ∷ [])) refl e

-- six are to be cancelled: a Cancel Format 1 packet with a mispredict
abbrev flip_many : List Event
flip_many =
    event.On 0x1000 user ∷ event.Step ∷ event.Taken ∷ event.Taken ∷ event.Step ∷ event.Taken ∷ event.Taken ∷ event.Step ∷ event.Taken
    ∷ event.Taken ∷ event.Step ∷ event.Taken ∷ event.Sync ∷ event.Cancel 9 ∷ event.Flip ∷ event.Step ∷ event.Taken ∷ event.Retire 4 ∷ []

abbrev flip_many_bytes : List ℕ → List ℕ
flip_many_bytes flip =
    async ++ 0x01 ∷ 0x01 ∷ 0x00 ∷ 0x04 ∷ 0x85 ∷ 0x00 ∷ 0x08 ∷ 0x00 ∷ 0x00 ∷ 0x00 ∷ 0x00 ∷ 0x00 ∷ 0x00 ∷ 0x10 ∷ 0xc3
    ∷ (async ++ 0x01 ∷ 0x05 ∷ 0x00 ∷ 0x07 ∷ 0x85 ∷ 0x03 ∷ 0x08 ∷ 0x00 ∷ 0x00 ∷ 0x00 ∷ 0x00 ∷ 0x00 ∷ 0x00 ∷ 0x10
    ∷ (flip ++ 0xf7 ∷ 0x2d ∷ 0x02 ∷ []))

flip_many_are_written : settled branches (sizes 8) 15 flip_many ≡ flip_many_bytes (0x2f ∷ 0x06 ∷ [])
unfolding class_of atom_formats byte_of
flip_many_are_written = refl

-- a Cancel Format 3 packet has no room for six
not_in_format_3 : settled branches (sizes 8) 15 flip_many ≡ flip_many_bytes (0x40 ∷ []) → ⊥
unfolding class_of atom_formats byte_of
not_in_format_3 e = other_text (settled branches (sizes 8) 15 flip_many) (flip_many_bytes (0x40 ∷ [])) refl e

-- nor is the mispredict left out
not_without_a_mispredict : settled branches (sizes 8) 15 flip_many ≡ flip_many_bytes (0x2e ∷ 0x06 ∷ []) → ⊥
unfolding class_of atom_formats byte_of
not_without_a_mispredict e = other_text (settled branches (sizes 8) 15 flip_many) (flip_many_bytes (0x2e ∷ 0x06 ∷ [])) refl e

-- ---- a context that is told once more, behind a cancel of the block that it was told for

-- from 0x4000: NOP, ISB, NOP, B to itself
abbrev barrier : List Part
barrier =
    record {
      start = 0x4000;
      bytes = 0x1f ∷ 0x20 ∷ 0x03 ∷ 0xd5 ∷ 0xdf ∷ 0x3f ∷ 0x03 ∷ 0xd5 ∷ 0x1f ∷ 0x20 ∷ 0x03 ∷ 0xd5 ∷ 0x00 ∷ 0x00 ∷ 0x00 ∷ 0x14 ∷ [];
    }
    ∷ []

abbrev others : Ctx
others = record { el = 0; ns = true; vmid = 0; cid = 0 }

abbrev told_again : List Event
told_again =
    event.On 0x4000 user ∷ event.Step ∷ event.Step ∷ event.Context others ∷ event.Step ∷ event.Taken ∷ event.Cancel 3 ∷ event.Step
    ∷ event.Context others ∷ event.Step ∷ event.Taken ∷ event.Retire 4 ∷ []

abbrev told_again_bytes : List ℕ → List ℕ
told_again_bytes context =
    async ++ 0x01 ∷ 0x01 ∷ 0x00 ∷ 0x04 ∷ 0x85 ∷ 0x00 ∷ 0x20 ∷ 0x00 ∷ 0x00 ∷ 0x00 ∷ 0x00 ∷ 0x00 ∷ 0x00 ∷ 0x10 ∷ 0xf7 ∷ 0x81 ∷ 0x30 ∷ 0x2e ∷ 0x01
    ∷ 0xf7 ∷ (context ++ 0xf7 ∷ 0x2d ∷ 0x02 ∷ [])

-- a Context packet of the header alone
told_again_is_written : settled barrier (sizes 4) 15 told_again ≡ told_again_bytes (0x80 ∷ [])
unfolding class_of atom_formats byte_of
told_again_is_written = refl

not_with_an_info_byte : settled barrier (sizes 4) 15 told_again ≡ told_again_bytes (0x81 ∷ 0x30 ∷ []) → ⊥
unfolding class_of atom_formats byte_of
not_with_an_info_byte e = other_text (settled barrier (sizes 4) 15 told_again) (told_again_bytes (0x81 ∷ 0x30 ∷ [])) refl e

-- nor is it left out
not_without_a_context : settled barrier (sizes 4) 15 told_again ≡ told_again_bytes [] → ⊥
unfolding class_of atom_formats byte_of
not_without_a_context e = other_text (settled barrier (sizes 4) 15 told_again) (told_again_bytes []) refl e

-- ---- contexts with both numbers, exceptions, an overflow

mixed_is_written : settled code (with_numbers 4) 2 mixed ≡
    async ++ 0x01 ∷ 0x01 ∷ 0x00 ∷ 0x04 ∷ 0x85 ∷ 0x00 ∷ 0x08 ∷ 0x00 ∷ 0x00 ∷ 0x00 ∷ 0x00 ∷ 0x00 ∷ 0x00 ∷ 0xf0 ∷ 0x05 ∷ 0x07 ∷ 0x00 ∷ 0x00 ∷ 0x00
    ∷ 0xfd ∷ 0x2d ∷ 0x01
    ∷ (async ++ 0x01 ∷ 0x05 ∷ 0x00 ∷ 0x02 ∷ 0x85 ∷ 0x00 ∷ 0x08 ∷ 0x00 ∷ 0x00 ∷ 0x00 ∷ 0x00 ∷ 0x00 ∷ 0x00 ∷ 0xf0 ∷ 0x05 ∷ 0x07 ∷ 0x00 ∷ 0x00 ∷ 0x00
    ∷ 0xf7 ∷ 0x81 ∷ 0x31 ∷ 0xf6 ∷ 0x06 ∷ 0x0b ∷ 0x95 ∷ 0x03 ∷ 0x82 ∷ 0x04 ∷ 0x08 ∷ 0x00 ∷ 0x00 ∷ 0x30 ∷ 0xf7 ∷ 0x2d ∷ 0x02 ∷ 0x00 ∷ 0x05
    ∷ (async ++ 0x01 ∷ 0x01 ∷ 0x00 ∷ 0x04 ∷ 0x85 ∷ 0x03 ∷ 0x08 ∷ 0x00 ∷ 0x00 ∷ 0x00 ∷ 0x00 ∷ 0x00 ∷ 0x00 ∷ 0xf1 ∷ 0x05 ∷ 0x07 ∷ 0x00 ∷ 0x00 ∷ 0x00
    ∷ 0xff ∷ 0x06 ∷ 0x07 ∷ 0x95 ∷ 0x04 ∷ 0x90 ∷ 0xdb ∷ 0x95 ∷ 0x05 ∷ 0xf7 ∷ 0x82 ∷ 0x02 ∷ 0x08 ∷ 0x00 ∷ 0x00 ∷ 0x30 ∷ 0xf6 ∷ 0x2d ∷ 0x03
    ∷ 0x00 ∷ 0x03 ∷ []))
unfolding class_of atom_formats byte_of
mixed_is_written = refl

-- each step is retired at once, so that no commit is written
flat_is_written : settled code (with_numbers 0) 2 flat ≡
    async ++ 0x01 ∷ 0x01 ∷ 0x00 ∷ 0x04 ∷ 0x85 ∷ 0x03 ∷ 0x08 ∷ 0x00 ∷ 0x00 ∷ 0x00 ∷ 0x00 ∷ 0x00 ∷ 0x00 ∷ 0xf0 ∷ 0x05 ∷ 0x07 ∷ 0x00 ∷ 0x00 ∷ 0x00
    ∷ 0xfb
    ∷ (async ++ 0x01 ∷ 0x01 ∷ 0x00 ∷ 0x85 ∷ 0x03 ∷ 0x08 ∷ 0x00 ∷ 0x00 ∷ 0x00 ∷ 0x00 ∷ 0x00 ∷ 0x00 ∷ 0xf0 ∷ 0x05 ∷ 0x07 ∷ 0x00 ∷ 0x00 ∷ 0x00
    ∷ 0xf7 ∷ 0x00 ∷ 0x05 ∷ [])
unfolding class_of atom_formats byte_of
flat_is_written = refl

-- ---- the law speaks of such a run

abbrev flip_few_items : List Item
flip_few_items = item.On ∷ ran 0x1000 user ∷ ran 0x1004 user ∷ ran 0x1008 user ∷ ran 0x100c user ∷ []

flip_few_are_accepted : path_of (run_after branches 4 flip_few) ≡ Some flip_few_items
unfolding class_of
flip_few_are_accepted = refl

user_fits : FitsSettings (sizes 4) user
user_fits = record { el = omega arith; vmid = omega arith; cid = omega arith }

flip_few_are_events : AreEvents (sizes 4) flip_few
flip_few_are_events = ((omega arith, user_fits), (tt, (tt, (tt, (tt, (tt, (tt, (tt, (tt, (tt, (tt, (tt, tt))))))))))))

abbrev IsByte : ℕ → Type 0
IsByte byte = byte < 256

-- sixteen of them
words_are_bytes : All IsByte words
words_are_bytes = All-from_recursion IsByte words (
  omega arith,
  (
    omega arith,
    (
      omega arith,
      (
        omega arith,
        (
          omega arith,
          (
            omega arith,
            (
              omega arith,
              (omega arith, (omega arith, (omega arith, (omega arith, (omega arith, (omega arith, (omega arith, (omega arith, (omega arith, tt))))))))),
            ),
          ),
        ),
      ),
    ),
  ),
)

branches_are_an_image : IsImage branches
branches_are_an_image =
    let part : Part = record { start = 0x1000; bytes = words } in
    let is : IsPart part = record { aligned = refl; whole = refl; some = omega arith; within = omega arith; bytes = words_are_bytes } in
    record {
      parts = All-cons IsPart part [] is (All-nil IsPart);
      order = (All-nil (λ (next : Part). 0x1010 ≤ next.start), tt);
      few = omega arith;
      small = omega arith;
    }

flip_few_are_shown : IsPath branches (sizes 4) flip_few_bytes flip_few_items end.Clean
flip_few_are_shown =
    let run = accepted (run_after branches 4 flip_few) flip_few_items flip_few_are_accepted in
    let settings : AreSettings (sizes 4) = record { depth = omega arith; vmid = refl; cid = refl } in
    let shown = trace_shows branches (sizes 4) 15 flip_few run.0 branches_are_an_image settings (omega arith) flip_few_are_events (omega arith) run.1 in
    subst (λ bytes. IsPath branches (sizes 4) bytes flip_few_items end.Clean) flip_few_are_written
    (subst (λ items. IsPath branches (sizes 4) (settled branches (sizes 4) 15 flip_few) items end.Clean) run.2 shown)
