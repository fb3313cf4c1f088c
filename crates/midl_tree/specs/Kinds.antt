-- The kinds of tokens as numbers, so that sets of them compute.
use Rattle.std.specs.Prelude.{ℕ, List, [], ◌∷◌}
use Rattle.midl_tree.specs.declared.kind.Kind.{Kind}
use Rattle.midl_tree.specs.declared.kind.Kind.TheVariants.{Import, Namespace, Enum, Struct, Delegate, Interface, Runtimeclass, Requires, Event, Static, Out, Void, Base, Float, Uuid, Version, Flags, DefaultInterface, Get, Set, Name, Number, Guid, Text, OpenBrace, CloseBrace, OpenParen, CloseParen, OpenBracket, CloseBracket, Less, Greater, Comma, Semicolon, Colon, Dot, Equals, Minus, Other}

abbrev pub number_of : Kind → ℕ
number_of Import = 0
number_of Namespace = 1
number_of Enum = 2
number_of Struct = 3
number_of Delegate = 4
number_of Interface = 5
number_of Runtimeclass = 6
number_of Requires = 7
number_of Event = 8
number_of Static = 9
number_of Out = 10
number_of Void = 11
number_of Base = 12
number_of Float = 13
number_of Uuid = 14
number_of Version = 15
number_of Flags = 16
number_of DefaultInterface = 17
number_of Get = 18
number_of Set = 19
number_of Name = 20
number_of Number = 21
number_of Guid = 22
number_of Text = 23
number_of OpenBrace = 24
number_of CloseBrace = 25
number_of OpenParen = 26
number_of CloseParen = 27
number_of OpenBracket = 28
number_of CloseBracket = 29
number_of Less = 30
number_of Greater = 31
number_of Comma = 32
number_of Semicolon = 33
number_of Colon = 34
number_of Dot = 35
number_of Equals = 36
number_of Minus = 37
number_of Other = 38

-- a Name: each word but those of the grammar's own
abbrev pub names : List ℕ
names = number_of Base ∷ number_of Float ∷ number_of Uuid ∷ number_of Version ∷ number_of Flags ∷ number_of DefaultInterface ∷ number_of Get ∷ number_of Set ∷ number_of Name ∷ []

-- the Name of a declared type, which is no base type and no float
abbrev pub own_names : List ℕ
own_names = number_of Uuid ∷ number_of Version ∷ number_of Flags ∷ number_of DefaultInterface ∷ number_of Get ∷ number_of Set ∷ number_of Name ∷ []

-- a Name where an attribute may begin, which is none
abbrev pub no_attributes : List ℕ
no_attributes = number_of Base ∷ number_of Float ∷ number_of Get ∷ number_of Set ∷ number_of Name ∷ []

-- the words that a declaration begins with
abbrev pub decl_first : List ℕ
decl_first = number_of Enum ∷ number_of Struct ∷ number_of Delegate ∷ number_of Interface ∷ number_of Static ∷ number_of Runtimeclass ∷ []

abbrev pub declared_first : List ℕ
declared_first = number_of OpenBracket ∷ decl_first
