use Rattle.strings_heap.proofs.StepLaws.{begins_wide, begins_none}
use Rattle.strings_heap.proofs.characters.begins_wide.Goals as goal

pub returns-then-begins_utf8 : goal.returns-then-begins_utf8
returns-then-begins_utf8 c =
    begins_wide c.args.bytes.now c.tail.result.now c.args.at c.character_size-size.result c.args.behind c.begins_utf8.result c.is_marked.result c.tail.ensures c.requires.marks
    c.requires.wide c.character_size-size.ensures.value c.character_size-size.ensures.few c.begins_utf8.ensures c.if-begins_utf8.true c.is_marked.ensures

pub returns-else-begins_utf8 : goal.returns-else-begins_utf8
returns-else-begins_utf8 c =
    begins_none c.args.bytes.now c.tail.result.now c.args.at c.character_size-size.result c.begins_utf8.result c.tail.ensures c.requires.wide c.character_size-size.ensures.value
    c.begins_utf8.ensures c.if-begins_utf8.false
