use Rattle.strings_heap.proofs.StepLaws.{begins_marked}
use Rattle.strings_heap.proofs.lookup.is_text.Goals as goal

pub returns : goal.returns
returns c =
    begins_marked c.args.bytes.now c.args.places.now c.args.at c.place_at.result c.is_marked.result c.requires.places c.requires.within c.place_at.ensures c.is_marked.ensures
