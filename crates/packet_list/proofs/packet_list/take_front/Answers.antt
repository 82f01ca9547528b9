use Rattle.std.proofs.Common.{[], ◌∷◌, inr, refl, subst, ◌∙◌, arith}
use Rattle.std.proofs.lemmas.Result.{err_from_is_err_and}
use Rattle.packet_grammar.specs.declared.packet.Packet.TheVariants.{Addr, Atoms, Commit}
use Rattle.packet_reader.specs.Stands.{PacketReading}
use Rattle.path_text.proofs.Wrote.{answers_ok, answers_err}
use Rattle.packet_list.specs.PacketList.{TakesFront}
use Rattle.packet_list.proofs.packet_list.take_front.Goals as goal

pub returns-in_err-write_atoms-clause-front : goal.returns-in_err-write_atoms-clause-front
returns-in_err-write_atoms-clause-front g c =
    let p = err_from_is_err_and c.from_residual.result c.from_residual.ensures.1 in
    let a = c.in-Some-take_atoms in let later = c.in-Some.later.now in
    let takes : TakesFront c.args.reader.now c.take_atoms.new.self c.args.bytes.now later a.at (Atoms a.run') =
    record { text = c.in-Some.byte.now ∷ []; parts = c.in-Some.ensures.cases.0; some = omega arith; takes = a.ensures.takes } in
    rw p.1 (inr (later, a.at, Atoms a.run', takes, answers_err _ _ c.in_err-write_atoms.field-0.0 p.0 _ c.in_err-write_atoms.ensures.line, tt))

pub returns-in-Some-take_atoms-clause-front : goal.returns-in-Some-take_atoms-clause-front
returns-in-Some-take_atoms-clause-front g c =
    let a = c.in-Some-take_atoms in let later = c.in-Some.later.now in
    let takes : TakesFront c.args.reader.now c.take_atoms.new.self c.args.bytes.now later a.at (Atoms a.run') =
    record { text = c.in-Some.byte.now ∷ []; parts = c.in-Some.ensures.cases.0; some = omega arith; takes = a.ensures.takes } in
    inr (later, a.at, Atoms a.run', takes, answers_ok _ _ c.in_ok-write_atoms.field-0 _ _ c.in_ok-write_atoms.ensures.line, refl)

pub returns-in_err-write_address-clause-front : goal.returns-in_err-write_address-clause-front
returns-in_err-write_address-clause-front g c =
    let p = err_from_is_err_and c.from_residual-in_err-write_address.result c.from_residual-in_err-write_address.ensures.1 in
    let a = c.in-Some-take_address in let (text, parts, some, takes) = a.ensures.takes in
    let packet = Addr a.address.form a.address.ctx in
    let front : TakesFront c.take_atoms.new.self c.take_address.new.self c.args.bytes.now a.behind.now a.at packet =
    record { text = text; parts = parts; some = some; takes = takes } in
    rw p.1 (inr (
      a.behind.now,
      a.at,
      packet,
      subst (λ (r : PacketReading). TakesFront r c.take_address.new.self c.args.bytes.now a.behind.now a.at packet)
          (c.in_default-take_atoms.ensures.none refl) front,
      answers_err _ _ c.in_err-write_address.field-0.0 p.0 _ c.in_err-write_address.ensures.line,
      tt,
    ))

pub returns-in-Some-take_address-clause-front : goal.returns-in-Some-take_address-clause-front
returns-in-Some-take_address-clause-front g c =
    let a = c.in-Some-take_address in let (text, parts, some, takes) = a.ensures.takes in
    let packet = Addr a.address.form a.address.ctx in
    let front : TakesFront c.take_atoms.new.self c.take_address.new.self c.args.bytes.now a.behind.now a.at packet =
    record { text = text; parts = parts; some = some; takes = takes } in
    inr (
      a.behind.now,
      a.at,
      packet,
      subst (λ (r : PacketReading). TakesFront r c.take_address.new.self c.args.bytes.now a.behind.now a.at packet)
          (c.in_default-take_atoms.ensures.none refl) front,
      answers_ok _ _ c.in_ok-write_address.field-0 _ _ c.in_ok-write_address.ensures.line,
      refl,
    )

pub returns-in_err-write-clause-front : goal.returns-in_err-write-clause-front
returns-in_err-write-clause-front g c =
    let p = err_from_is_err_and c.from_residual-in_err-write.result c.from_residual-in_err-write.ensures.1 in
    let a = c.in-Some-take_commit in let packet = Commit a.n in
    let front : TakesFront c.take_address.new.self c.take_commit.new.self c.args.bytes.now a.behind.now a.at packet =
    record { text = 0x2d ∷ a.n ∷ []; parts = a.ensures.only.1; some = omega arith; takes = a.ensures.takes } in
    rw p.1 (inr (
      a.behind.now,
      a.at,
      packet,
      subst (λ (r : PacketReading). TakesFront r c.take_commit.new.self c.args.bytes.now a.behind.now a.at packet)
          (c.in_default-take_address.ensures.none refl ∙ c.in_default-take_atoms.ensures.none refl) front,
      answers_err _ _ c.in_err-write.field-0.0 p.0 _ c.in_err-write.ensures.line,
      tt,
    ))

pub returns-in-Some-take_commit-clause-front : goal.returns-in-Some-take_commit-clause-front
returns-in-Some-take_commit-clause-front g c =
    let a = c.in-Some-take_commit in let packet = Commit a.n in
    let front : TakesFront c.take_address.new.self c.take_commit.new.self c.args.bytes.now a.behind.now a.at packet =
    record { text = 0x2d ∷ a.n ∷ []; parts = a.ensures.only.1; some = omega arith; takes = a.ensures.takes } in
    inr (
      a.behind.now,
      a.at,
      packet,
      subst (λ (r : PacketReading). TakesFront r c.take_commit.new.self c.args.bytes.now a.behind.now a.at packet)
          (c.in_default-take_address.ensures.none refl ∙ c.in_default-take_atoms.ensures.none refl) front,
      answers_ok _ _ c.in_ok-write.field-0 _ _ c.in_ok-write.ensures.line,
      refl,
    )
