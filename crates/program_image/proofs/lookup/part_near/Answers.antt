use Rattle.program_image.proofs.WordSearch.{partitioned, place_of}
use Rattle.program_image.proofs.lookup.part_near.Goals as goal

pub begun_near-requires : goal.begun_near-requires
begun_near-requires c = partitioned c.args.parts.now c.args.addr c.requires

pub returns-clause-word : goal.returns-clause-word
returns-clause-word c =
    place_of c.args.parts.now c.args.addr c.begun_near.result c.checked_sub.result c.requires c.begun_near.ensures.value c.begun_near.ensures.within
    c.checked_sub.ensures
