-- The attributes that are read, by name.
use Rattle.std.specs.Prelude.{ℕ, List, codes}
use Rattle.winmd_attributes.specs.declared.words.Word.{Word}
use Rattle.winmd_attributes.specs.declared.words.Word.TheVariants as words

-- the name of its type, without `Attribute`
abbrev pub word_seen : Word → List ℕ
word_seen words.Activatable = codes "Activatable"
word_seen words.Default = codes "Default"
word_seen words.ExclusiveTo = codes "ExclusiveTo"
word_seen words.Guid = codes "Guid"
word_seen words.Overload = codes "Overload"
word_seen words.Static = codes "Static"
word_seen words.Version = codes "Version"
