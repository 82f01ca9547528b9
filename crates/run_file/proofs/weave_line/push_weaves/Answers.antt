use Rattle.std.proofs.Common.{◌≡◌, ◌∙◌, ◌∷◌, ◌++◌, [], List, ap, rules, sym}
use Rattle.line_words.specs.Line.{words_in}
use Rattle.run_file.specs.declared.line.Weave.{Weave}
use Rattle.run_file.proofs.Weaves.{ok_on, weave_on}
use Rattle.run_file.proofs.weave_line.push_weaves.Goals as goal

pub loop-word-preserved-in_ok-map_err-in-Ok : goal.loop-word-preserved-in_ok-map_err-in-Ok
loop-word-preserved-in_ok-map_err-in-Ok c =
    let streams = c.args.streams.now.streams in
    let rest = words_in c.in-Some.after.now in
    let pushed : c.push.new.self.items ≡ c.loop-word.weaves.items ++ c.in-Ok.weave ∷ [] = search rules in
    c.loop-word.invariant ∙ ap (weave_on streams c.loop-word.declared c.loop-word.within c.loop-word.weaves.items) c.in-Some.ensures.words
    ∙ ok_on streams c.in-Some.word.now rest c.loop-word.declared c.loop-word.within c.loop-word.weaves.items c.in-Ok.weave
    (sym c.one_weave.ensures ∙ c.in-Ok.is)
    ∙ ap (λ (items : List Weave). weave_on streams c.loop-word.declared c.loop-word.within items rest) (sym pushed)
