-- Attributes (MIDL 3.0 reference, Attributes): which declarations take them, and what their arguments may be.
use Rattle.std.specs.Prelude.{◌==◌, ◌&&◌, ◌^◌, ℕ, Bool, true, false, List, Option, Some, None, length, take, drop, nat_lt, codes, if◌then◌else◌}
use Rattle.std.specs.Option.{is_some}
use Rattle.ranked.specs.Entries.{Entry}
use Rattle.ranked.specs.First.{Or, Among}
use Rattle.ranked.specs.Repeats.{Repeated}
use Rattle.uuid.specs.Text.{parsed}
use Rattle.wr_base.specs.declared.code.Code.TheVariants.{BadAttribute}
use Rattle.midl_lex.specs.Numbers.{value_of}
use Rattle.midl_tree.specs.declared.terminal.Terminal.{Terminal}
use Rattle.midl_tree.specs.Trees.{AttributeTree, uuid, version, flags, default_interface, DeclTree, enumeration, delegate, interface, class}
use Rattle.midl_names.specs.Items.{Item}
use Rattle.midl_names.specs.Faults.{entry_at, Gives}

abbrev pub word_of : AttributeTree → Terminal
word_of (uuid word id) = word
word_of (version word number) = word
word_of (flags word) = word
word_of (default_interface word) = word

-- what an attribute is called
abbrev pub called : AttributeTree → List ℕ
called (uuid word id) = codes "uuid"
called (version word number) = codes "version"
called (flags word) = codes "flags"
called (default_interface word) = codes "default_interface"

-- the sixteen bytes of an identifier: 8, 4, 4, 4 and 12 hexadecimal digits joined by dashes (RFC 9562, 4)
unfoldable pub hyphenated : List ℕ → Option (List ℕ)
hyphenated text = if length text == 36 then parsed text else None

-- the same, which may stand in quotes
abbrev pub id_bytes : List ℕ → Option (List ℕ)
id_bytes text = if length text == 38 then hyphenated (take 36 (drop 1 text)) else hyphenated text

-- an interface and a delegate take an id, an enum takes flags, and a class a default interface of its own
abbrev pub takes : DeclTree → AttributeTree → Bool
takes (interface i) (uuid word id) = true
takes (delegate d) (uuid word id) = true
takes (enumeration e) (flags word) = true
takes (class c) (default_interface word) = true
takes tree (version word number) = true
takes tree attribute = false

-- an id is one, and a version is above 0 and below 2^32
abbrev pub holds : AttributeTree → Bool
holds (uuid word id) = is_some (id_bytes id.text)
holds (version word number) = nat_lt 0 (value_of number.text) && nat_lt (value_of number.text) (2 ^ 32)
holds (flags word) = true
holds (default_interface word) = true

abbrev pub attribute_entry : Item → AttributeTree → Entry
attribute_entry item a = entry_at item (word_of a).offset BadAttribute (word_of a).text

abbrev pub unfit : Item → AttributeTree → Option Entry
unfit item a = if takes item.tree a && holds a then None else Some (attribute_entry item a)

-- an attribute that the declaration doesn't take, that stands a second time, or whose argument is wrong
abbrev pub IsBadAttribute : List Item → Entry → Type 0
IsBadAttribute items = Among items (λ i. Or (Repeated called (attribute_entry i) i.attributes) (Among i.attributes (λ a. Gives (unfit i a))))
