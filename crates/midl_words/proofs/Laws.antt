-- Each token and each dotted name is read by its reader.
use Rattle.std.proofs.Common.{[], ◌≡◌, true, ◌∷◌, refl, false, is_some, ℕ, List}
use Rattle.grammar.specs.Productions.{has}
use Rattle.grammar.proofs.ReaderLaws.{Reads, one_reads, done_reads}
use Rattle.grammar.proofs.Choices.{andthen, perhaps}
use Rattle.grammar.specs.Readers.{Read}
use Rattle.grammar.proofs.KindSets.{apart_none}
use Rattle.grammar.proofs.Repeats.{repeated}
use Rattle.midl_tree.specs.declared.kind.Kind.{Kind}
use Rattle.midl_tree.specs.declared.terminal.Terminal.{Terminal}
use Rattle.midl_tree.specs.declared.kind.Kind.TheVariants.{Import, Namespace, Enum, Struct, Delegate, Interface, Runtimeclass, Requires, Event, Static, Out, Void, Base, Float, Uuid, Version, Flags, DefaultInterface, Get, Set, Name, Number, Guid, Text, OpenBrace, CloseBrace, OpenParen, CloseParen, OpenBracket, CloseBracket, Less, Greater, Comma, Semicolon, Colon, Dot, Equals, Minus, Other}
use Rattle.midl_tree.specs.Kinds.{number_of, names, own_names}
use Rattle.midl_tree.specs.Symbols.{kind_of}
use Rattle.midl_words.specs.declared.stop.Code.TheVariants.{Syntax}
use Rattle.midl_words.specs.Tokens.{Is, IsName, IsOwnName, IsThere, Behind, IsDotted}
use Rattle.midl_words.specs.Reading.{is_at, name_at, own_name_at, is_there_at, behind_at, dotted_at}
use Rattle.midl_words.specs.declared.stop.Code.{Code}
use Rattle.midl_words.proofs.Turns.{Item}

-- a token of the kind
unfoldable pub sample : Kind → Terminal
sample k = record { offset = 0; kind = k; text = [] }

same_kind : (k : Kind) → has (number_of k ∷ []) (number_of k) ≡ true
same_kind Import = refl
same_kind Namespace = refl
same_kind Enum = refl
same_kind Struct = refl
same_kind Delegate = refl
same_kind Interface = refl
same_kind Runtimeclass = refl
same_kind Requires = refl
same_kind Event = refl
same_kind Static = refl
same_kind Out = refl
same_kind Void = refl
same_kind Base = refl
same_kind Float = refl
same_kind Uuid = refl
same_kind Version = refl
same_kind Flags = refl
same_kind DefaultInterface = refl
same_kind Get = refl
same_kind Set = refl
same_kind Name = refl
same_kind Number = refl
same_kind Guid = refl
same_kind Text = refl
same_kind OpenBrace = refl
same_kind CloseBrace = refl
same_kind OpenParen = refl
same_kind CloseParen = refl
same_kind OpenBracket = refl
same_kind CloseBracket = refl
same_kind Less = refl
same_kind Greater = refl
same_kind Comma = refl
same_kind Semicolon = refl
same_kind Colon = refl
same_kind Dot = refl
same_kind Equals = refl
same_kind Minus = refl
same_kind Other = refl

pub is_reads : (k : Kind) → Reads kind_of (Is k) (is_at k) (number_of k ∷ []) false []
unfolding sample
is_reads k = one_reads kind_of (number_of k ∷ []) Syntax (sample k) (same_kind k)

pub name_reads : Reads kind_of IsName name_at names false []
unfolding sample
name_reads = one_reads kind_of names Syntax (sample Name) refl

pub own_name_reads : Reads kind_of IsOwnName own_name_at own_names false []
unfolding sample
own_name_reads = one_reads kind_of own_names Syntax (sample Name) refl

pub is_there_reads : (k : Kind) → Reads kind_of (IsThere k) (is_there_at k) (number_of k ∷ []) true (number_of k ∷ [])
unfolding is_there_at
is_there_reads k = andthen (perhaps (is_reads k)) (λ mark. done_reads kind_of (is_some mark)) refl

pub behind_reads : {A : Type 0} {P : List Terminal → A → Type 0} {r : List Terminal → Read Code Terminal A} {f n : List ℕ} (k : Kind) → Reads kind_of P r f false n → Reads kind_of (Behind k P) (behind_at k r) (number_of k ∷ []) false n
unfolding behind_at
behind_reads {f = f} k reads = andthen (is_reads k) (λ mark. reads) (apart_none f)

pub dotted_reads : Reads kind_of IsDotted dotted_at names false (number_of Dot ∷ [])
unfolding dotted_at
dotted_reads = andthen name_reads (λ first. andthen (repeated (behind_reads Dot name_reads) refl) (λ others. done_reads kind_of (first ∷ others)) refl) refl

-- what a loop repeats
pub dot_name_item : Item (Behind Dot IsName) (behind_at Dot name_at) (number_of Dot ∷ []) []
dot_name_item = record { reads = behind_reads Dot name_reads; clear = refl }
