use Rattle.std.proofs.Common.{ℕ, ◌+◌, ◌*◌, ◌++◌, List, sym, ap, ◌∙◌, arith}
use Rattle.std.specs.Prelude.{slice_range}
use Rattle.elf_image.specs.ElfText.{segment_text, segments_text}
use Rattle.elf_image.specs.Fields.{headers_from, program_header}
use Rattle.elf_image.specs.Segments.{is_chosen, segment_size, segments_of}
use Rattle.elf_image.specs.declared.header.ProgramHeader.{ProgramHeader}
use Rattle.elf_image.proofs.TextLoops.{stands, told_chosen, told_one, told_passed}
use Rattle.elf_image.proofs.text.text_of_segments.Goals as goal
use Rattle.elf_image.proofs.text.text_of_segments.Goals.{then-is_chosen+in_ok-push_segment, else-is_chosen}

pub overflow_add-end : goal.overflow_add-end
overflow_add-end c =
    let same = c.header-header.ensures in
    let is = ap is_chosen (sym same) ∙ sym c.is_chosen.ensures ∙ c.if-is_chosen.true in
    let sound = stands c.args.file.now c.args.table.now c.loop-k.k c.requires.table c.requires.none c.loop-k-test.true is in
    let offset = ap (λ (h : ProgramHeader). h.offset) same in
    let size = c.size.ensures ∙ ap segment_size same in
    omega (arith, sound.stands, offset, size, c.requires.table.short)

pub slice_bounds-push_segment-end : goal.slice_bounds-push_segment-end
slice_bounds-push_segment-end c =
    let same = c.header-header.ensures in
    let is = ap is_chosen (sym same) ∙ sym c.is_chosen.ensures ∙ c.if-is_chosen.true in
    let sound = stands c.args.file.now c.args.table.now c.loop-k.k c.requires.table c.requires.none c.loop-k-test.true is in
    let offset = ap (λ (h : ProgramHeader). h.offset) same in
    let size = c.size.ensures ∙ ap segment_size same in
    omega (arith, sound.stands, offset, size)

pub loop-k-preserved : goal.loop-k-preserved
loop-k-preserved c =
    let same = c.header-header.ensures in
    elim c.if-is_chosen.branch [
      | then-is_chosen+in_ok-push_segment w ↦
          let is = ap is_chosen (sym same) ∙ sym c.is_chosen.ensures ∙ w.if-is_chosen.true in
          let file = c.args.file.now in
          let at = c.args.table.now.offset in
          let given = c.header-header.result in
          let size = w.size.ensures ∙ ap segment_size same in
          let bytes = slice_range file given.offset (given.offset + w.size.result) in
          rw w.text-is
          (w.in_ok-push_segment.ensures
          ∙ ap (λ (text : List ℕ). text ++ segment_text (record { start = given.vaddr; bytes = bytes })) c.loop-k.invariant
          ∙ ap (λ (text : List ℕ). segments_text (segments_of file (headers_from file at c.loop-k.k)) ++ text)
          (told_one file (program_header file (at + 56 * c.loop-k.k)) given w.size.result same size)
          ∙ sym (told_chosen file at c.loop-k.k is))
      | else-is_chosen w ↦
          let is = ap is_chosen (sym same) ∙ sym c.is_chosen.ensures ∙ w.if-is_chosen.false in
          rw w.text-is (c.loop-k.invariant ∙ sym (told_passed c.args.file.now c.args.table.now.offset c.loop-k.k is))
    ]
