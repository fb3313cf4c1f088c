use Rattle.std.proofs.Common.{◌≡◌, map, take}
use Rattle.std.specs.List.{list_any}
use Rattle.winmd_sets.specs.Attributes.{is_of}
use Rattle.winmd_attributes.specs.Seen.{attribute_seen}
use Rattle.winmd_attributes.specs.Words.{word_seen}
use Rattle.winmd_attributes.proofs.lists.has_word.Given as goal

abbrev pub invariant-loop-attribute : goal.invariant-loop-attribute
invariant-loop-attribute l = l.found ≡ list_any (is_of (word_seen l.word)) (map (attribute_seen l.source.image) (take l.attribute-index l.attributes))
