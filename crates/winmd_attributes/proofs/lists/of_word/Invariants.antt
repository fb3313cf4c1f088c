use Rattle.std.proofs.Common.{◌≡◌, map, take}
use Rattle.winmd_sets.specs.Attributes.{of_word}
use Rattle.winmd_attributes.specs.Seen.{attribute_seen}
use Rattle.winmd_attributes.specs.Words.{word_seen}
use Rattle.winmd_attributes.proofs.lists.of_word.Given as goal

abbrev pub invariant-loop-attribute : goal.invariant-loop-attribute
invariant-loop-attribute l = map (attribute_seen l.source.image) l.found.items ≡ of_word (word_seen l.word) (map (attribute_seen l.source.image) (take l.attribute-index l.attributes))
