use Rattle.std.proofs.Common.{◌≡◌, ◌∷◌, ◌++◌, ◌+◌, ℕ, length, take, drop, List, [], slice_index_or, ap, ◌∙◌, refl}
use Rattle.path_text.proofs.PageLemmas.{put_by_fours, sixteen_elements}
use Rattle.path_text.proofs.page_lines.put_head.Goals as goal

pub returns : goal.returns
returns c =
    put_by_fours c.args.at c.args.block.now c.put_four.new.block c.put_four-2.new.block c.put_four-3.new.block c.put_four-4.new.block _ _ _ _
    c.put_four.ensures c.put_four-2.ensures c.put_four-3.ensures c.put_four-4.ensures
    ∙ ap (λ t. take c.args.at c.args.block.now ++ t) (sixteen_elements c.args.head.now c.told-head)
