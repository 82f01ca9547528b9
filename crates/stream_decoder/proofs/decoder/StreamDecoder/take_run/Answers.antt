use Rattle.std.proofs.Common.{◌≡◌, ℕ, ◌++◌, Option, None, ap, sym, subst, ◌∙◌}
use Rattle.etm_types.specs.Settings.{AreSettings}
use Rattle.etm_types.specs.declared.context.Ctx.{Ctx}
use Rattle.path_text.proofs.LineLemmas.{shown_after_all-append}
use Rattle.path_text.specs.PathLines.{shown_after_all}
use Rattle.stream_decoder.proofs.Along.{not_failed, run_grows_by}
use Rattle.stream_decoder.specs.Decoding.{Decoder, Decoding}
use Rattle.stream_decoder.specs.Stands.{Came, RunsAlong}
use Rattle.stream_decoder.proofs.decoder.StreamDecoder.take_run.Goals as goal

pub returns-clause-stands : goal.returns-clause-stands
returns-clause-stands g c ok bytes stands =
    let r = c.write_run-result.ensures.runs in
    let same : c.self.inside.decoding ≡ c.args.self.now.decoding = ap (λ (x : Decoder). x.decoding) c.self.view_is in
    let shown : c.resume.new.self.shown ≡ c.args.self.now.shown = c.resume.ensures.shown ∙ ap (λ (x : Decoder). x.shown) c.self.view_is in
    record {
      whole = c.is_err-self-inside.ensures.value ∙ not_failed c.write_run-result.result ok;
      items = stands.items ++ r.more;
      came = r.came bytes stands.items (subst (λ (d : Decoding). Came c.args.image.now d bytes stands.items) (sym same) stands.came);
      shown = c.shown-self-inside.ensures ∙ r.context ok ∙ ap (λ (s : Option Ctx). shown_after_all s r.more) (shown ∙ stands.shown)
          ∙ sym (shown_after_all-append None stands.items r.more);
    }

pub returns-clause-grows : goal.returns-clause-grows
returns-clause-grows g c bytes stands =
    let state = g.K.Sink.state in let image = c.args.image.now in let d' = c.write_run-result.new.decoding in let run = c.args.run.now in
    let shown' = c.write_run-result.new.lines.shown in let a = state c.args.sink.now in let b = state c.write_run-result.new.sink in
    let result = c.write_run-result.result in let d = c.args.self.now.decoding in let now = c.resume.ensures in
    let r = subst (λ (x : Decoder). RunsAlong image c.args.id x.decoding x.shown run d' shown' a b result) c.self.view_is
    (subst (λ (o : Option Ctx). RunsAlong image c.args.id c.self.inside.decoding o run d' shown' a b result) now.shown
    (subst (λ (n : ℕ). RunsAlong image n c.self.inside.decoding c.resume.new.self.shown run d' shown' a b result) now.id
    c.write_run-result.ensures.runs)) in
    let are = subst (λ (x : Decoder). AreSettings x.decoding.reader.settings) c.self.view_is c.self.invariant.0.reads.settings in
    record {
      more = r.more;
      grows = run_grows_by image d d' bytes run stands.items r.more c.args.self.now.shown are r.settings stands.came
          (r.came bytes stands.items stands.came) stands.shown;
      writes = r.writes;
    }
