use Rattle.winmd_sets.specs.Attributes.{is_of}
use Rattle.winmd_attributes.specs.Seen.{attribute_seen}
use Rattle.winmd_attributes.specs.Words.{word_seen}
use Rattle.winmd_attributes.proofs.ListLaws.{filter_more}
use Rattle.winmd_attributes.proofs.lists.of_word.Goals as goal

pub loop-attribute-preserved : goal.loop-attribute-preserved
loop-attribute-preserved c =
    filter_more (is_of (word_seen c.args.word)) (attribute_seen c.args.source.now.image) c.args.attributes.now c.loop-attribute.attribute-index _ c.loop-attribute-test.true c.loop-attribute.found.items c.put.new.into.items c.is_of-is_kept.result
    c.loop-attribute.invariant c.is_of-is_kept.ensures c.in_ok-put.ensures
