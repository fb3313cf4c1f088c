use Rattle.winmd_sets.specs.Attributes.{is_of}
use Rattle.winmd_attributes.specs.Seen.{attribute_seen}
use Rattle.winmd_attributes.specs.Words.{word_seen}
use Rattle.winmd_attributes.proofs.ListLaws.{any_more}
use Rattle.winmd_attributes.proofs.lists.has_word.Goals as goal

pub loop-attribute-preserved : goal.loop-attribute-preserved
loop-attribute-preserved c =
    any_more (is_of (word_seen c.args.word)) (attribute_seen c.args.source.now.image) c.args.attributes.now c.loop-attribute.attribute-index _ c.loop-attribute-test.true c.loop-attribute.found c.either-found.result c.is_of.result
    c.loop-attribute.invariant c.is_of.ensures c.either-found.ensures
