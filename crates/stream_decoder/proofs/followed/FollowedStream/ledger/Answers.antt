use Rattle.std.proofs.Common.{◌∙◌, ap, subst}
use Rattle.element_queue.specs.declared.ledger.Counts.{Counts}
use Rattle.etm_types.specs.Settings.{AreSettings}
use Rattle.stream_decoder.specs.Decoding.{Decoding}
use Rattle.stream_decoder.proofs.Standing.{counts_of, made_of}
use Rattle.stream_decoder.proofs.followed.FollowedStream.ledger.Goals as goal

pub returns-clause-made : goal.returns-clause-made
returns-clause-made c image bytes items last took came path =
    let now = c.args.self.now in let same = c.self.view_is in
    let are = subst (λ (d : Decoding). AreSettings d.reader.settings) same c.self.invariant.0.reads.settings in
    ap (λ (k : Counts). k.made) c.ledger.ensures.value ∙ ap (λ (d : Decoding). d.counts.made) same
    ∙ made_of image now bytes came.0 came.1 are items last took path

pub returns-clause-counts : goal.returns-clause-counts
returns-clause-counts c image bytes items last took came path free =
    let now = c.args.self.now in let same = c.self.view_is in
    let are = subst (λ (d : Decoding). AreSettings d.reader.settings) same c.self.invariant.0.reads.settings in
    c.ledger.ensures.value ∙ ap (λ (d : Decoding). d.counts) same ∙ counts_of image now bytes came.0 came.1 are items last took path free
