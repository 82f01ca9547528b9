use Rattle.program_image.proofs.WordSearch.{partitioned, place_of}
use Rattle.program_image.proofs.lookup.part_at.Goals as goal

pub begun_at-requires : goal.begun_at-requires
begun_at-requires c = partitioned c.args.parts.now c.args.addr c.requires

pub returns-clause-word : goal.returns-clause-word
returns-clause-word c =
    place_of c.args.parts.now c.args.addr c.begun_at.result c.checked_sub.result c.requires c.begun_at.ensures.value c.begun_at.ensures.within
    c.checked_sub.ensures
