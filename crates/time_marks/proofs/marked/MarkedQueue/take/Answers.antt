use Rattle.std.proofs.Common.{refl, subst, sym}
use Rattle.element_queue.specs.Pending.{nothing_gone}
use Rattle.element_queue.specs.Queued.{Takes}
use Rattle.etm_types.specs.declared.element.Elem.TheVariants as elem
use Rattle.stream_decoder.proofs.Waits.{takes_addr, takes_ctx, takes_on}
use Rattle.time_marks.specs.Marked.{marked_of}
use Rattle.time_marks.proofs.Moving.{moves_from, noted_moves}
use Rattle.time_marks.proofs.marked.MarkedQueue.take.Goals as goal

pub returns-in-On-clause-ok : goal.returns-in-On-clause-ok
returns-in-On-clause-ok c ok stamp =
    let s = c.self.inside in let are = (c.self.invariant).2.range in
    moves_from (marked_of s.queue s.marks.items s.informed) c.args.self.now (marked_of c.note.new.self s.marks.items s.informed) stamp elem.On c.args.elem.now
    c.self.view_is c.in-On.is
    (noted_moves s.queue c.note.new.self s.marks.items elem.On (λ stamp. refl) s.informed
    (subst (Takes s.queue elem.On nothing_gone) (sym c.note.ensures.value) (takes_on s.queue are)) stamp)

pub returns-in-Ctx-clause-ok : goal.returns-in-Ctx-clause-ok
returns-in-Ctx-clause-ok c ok stamp =
    let s = c.self-in-Ctx.inside in let are = (c.self-in-Ctx.invariant).2.range in let e = elem.Ctx c.in-Ctx.ctx in
    moves_from (marked_of s.queue s.marks.items s.informed) c.args.self.now (marked_of c.note-in-Ctx.new.self s.marks.items s.informed) stamp e c.args.elem.now
    c.self-in-Ctx.view_is c.in-Ctx.is
    (noted_moves s.queue c.note-in-Ctx.new.self s.marks.items e (λ stamp. refl) s.informed
    (subst (Takes s.queue e nothing_gone) (sym c.note-in-Ctx.ensures.value) (takes_ctx s.queue c.in-Ctx.ctx are)) stamp)

pub returns-in-Addr-clause-ok : goal.returns-in-Addr-clause-ok
returns-in-Addr-clause-ok c ok stamp =
    let s = c.self-in-Addr.inside in let are = (c.self-in-Addr.invariant).2.range in let e = elem.Addr c.in-Addr.addr in
    moves_from (marked_of s.queue s.marks.items s.informed) c.args.self.now (marked_of c.note-in-Addr.new.self s.marks.items s.informed) stamp e c.args.elem.now
    c.self-in-Addr.view_is c.in-Addr.is
    (noted_moves s.queue c.note-in-Addr.new.self s.marks.items e (λ stamp. refl) s.informed
    (subst (Takes s.queue e nothing_gone) (sym c.note-in-Addr.ensures.value) (takes_addr s.queue c.in-Addr.addr are)) stamp)
