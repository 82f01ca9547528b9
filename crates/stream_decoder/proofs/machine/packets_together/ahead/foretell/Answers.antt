use Rattle.std.proofs.Common.{◌≡◌, ◌<◌, ◌++◌, length, refl, sym, ap, ◌∙◌, arith}
use Rattle.element_queue.specs.Outlooks.{Outlook}
use Rattle.stream_decoder.proofs.AheadGives.{still_gone_all}
use Rattle.stream_decoder.proofs.AheadMoves.{tried_all, tried_more}
use Rattle.stream_decoder.proofs.machine.packets_together.ahead.foretell.Goals as goal
use Rattle.stream_decoder.proofs.machine.packets_together.ahead.foretell.Goals.{else-loop-outlook-test, then-loop-outlook-test+in_default}

pub loop-outlook-preserved : goal.loop-outlook-preserved
loop-outlook-preserved c =
    let l = c.loop-outlook in
    tried_more c.args.outlook l.outlook c.args.bytes.now l.rest.now c.args.most l.last l.invariant
    (omega (arith, c.committed.ensures, c.loop-outlook-test.true)) c.try_packet.new.outlook c.in-Some.behind.now c.in-Some.length c.in-Some.ensures.moves

pub returns-clause-reaches : goal.returns-clause-reaches
returns-clause-reaches c ps behind o parts moves enough =
    let l = c.loop-outlook in
    elim c.loop-outlook-test.branch [
      | else-loop-outlook-test w ↦
          let same = ap (λ (x : Outlook). length x.gone) w.outlook-is in
          omega (arith, same, c.committed.ensures, w.loop-outlook-test.false)
      | then-loop-outlook-test+in_default w ↦
          let fewer : length l.outlook.gone < c.args.most = omega (arith, c.committed.ensures, w.loop-outlook-test.true) in
          absurd (tried_all c.args.outlook l.outlook c.args.bytes.now l.rest.now c.args.most l.last l.invariant fewer
          (λ p others next first makes. let some = w.in_default.ensures.some p others next first makes in cc)
          ps behind o parts moves enough)
    ]

pub returns-clause-front : goal.returns-clause-front
returns-clause-front c ps behind o parts moves enough =
    let l = c.loop-outlook in let reach = l.invariant.others ps behind o parts moves enough in
    let front = still_gone_all l.outlook o reach.0 (reach.1).1 in
    let same : c.loop-outlook-test.outlook ≡ l.outlook = elim c.loop-outlook-test.branch [
      | else-loop-outlook-test w ↦ w.outlook-is
      | then-loop-outlook-test+in_default w ↦ w.outlook-is ∙ w.in_default.ensures.unchanged refl
    ] in (front.0, front.1 ∙ ap (λ (x : Outlook). x.gone ++ front.0) (sym same))
