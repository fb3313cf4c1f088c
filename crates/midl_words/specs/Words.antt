-- Which kind of token a word or a mark is, by its text.
use Rattle.std.specs.Prelude.{ℕ, Bool, ◌||◌, List, codes, if◌then◌else◌, ◌==◌, [], ◌∷◌, is_some, unwrap_or}
use Rattle.std.specs.Str.{bytes_eq}
use Rattle.wr_base.specs.declared.type_use.Base.{Base}
use Rattle.wr_base.specs.declared.type_use.Base.TheVariants.{Object}
use Rattle.wr_base.specs.Words.{base_of_word}
use Rattle.midl_lex.specs.declared.token.TokenKind.{TokenKind}
use Rattle.midl_lex.specs.Pieces.{Piece}
use Rattle.midl_tree.specs.declared.kind.Kind.{Kind}
use Rattle.midl_tree.specs.declared.terminal.Terminal.{Terminal}
use Rattle.midl_tree.specs.declared.kind.Kind.TheVariants as kinds
use Rattle.midl_lex.specs.declared.token.TokenKind.TheVariants as tokens

-- the words of the fundamental types
abbrev pub is_base : List ℕ → Bool
is_base text = is_some (base_of_word text)

-- the fundamental type of a word; for a text that isn't the word of one, which no token of the kind has, what stands here is never seen
abbrev pub base_by : List ℕ → Base
base_by text = unwrap_or (base_of_word text) Object

-- the words that no type may begin with
abbrev pub is_float : List ℕ → Bool
is_float text = bytes_eq text (codes "Single") || (bytes_eq text (codes "Double"))

-- the words that name a type, and any other
abbrev pub kind_of_type : List ℕ → Kind
kind_of_type text = if is_base text then kinds.Base else if is_float text then kinds.Float else kinds.Name

-- the words that mean something at some places alone
abbrev pub kind_of_name : List ℕ → Kind
kind_of_name text =
    if bytes_eq text (codes "uuid") then kinds.Uuid
    else if bytes_eq text (codes "version") then kinds.Version
    else if bytes_eq text (codes "flags") then kinds.Flags
    else if bytes_eq text (codes "default_interface") then kinds.DefaultInterface
    else if bytes_eq text (codes "get") then kinds.Get
    else if bytes_eq text (codes "set") then kinds.Set
    else kind_of_type text

-- the grammar's own words within a declaration
abbrev pub kind_within : List ℕ → Kind
kind_within text =
    if bytes_eq text (codes "requires") then kinds.Requires
    else if bytes_eq text (codes "event") then kinds.Event
    else if bytes_eq text (codes "static") then kinds.Static
    else if bytes_eq text (codes "out") then kinds.Out
    else if bytes_eq text (codes "void") then kinds.Void
    else kind_of_name text

-- the grammar's own words that an import, a namespace or a declaration goes by
abbrev pub kind_of_word : List ℕ → Kind
kind_of_word text =
    if bytes_eq text (codes "import") then kinds.Import
    else if bytes_eq text (codes "namespace") then kinds.Namespace
    else if bytes_eq text (codes "enum") then kinds.Enum
    else if bytes_eq text (codes "struct") then kinds.Struct
    else if bytes_eq text (codes "delegate") then kinds.Delegate
    else if bytes_eq text (codes "interface") then kinds.Interface
    else if bytes_eq text (codes "runtimeclass") then kinds.Runtimeclass
    else kind_within text

abbrev pub kind_of_byte : ℕ → Kind
kind_of_byte b =
    if b == 123 then kinds.OpenBrace
    else if b == 125 then kinds.CloseBrace
    else if b == 40 then kinds.OpenParen
    else if b == 41 then kinds.CloseParen
    else if b == 91 then kinds.OpenBracket
    else if b == 93 then kinds.CloseBracket
    else if b == 60 then kinds.Less
    else if b == 62 then kinds.Greater
    else if b == 44 then kinds.Comma
    else if b == 59 then kinds.Semicolon
    else if b == 58 then kinds.Colon
    else if b == 46 then kinds.Dot
    else if b == 61 then kinds.Equals
    else if b == 45 then kinds.Minus
    else kinds.Other

-- a mark is one byte
abbrev pub kind_of_mark : List ℕ → Kind
kind_of_mark [] = kinds.Other
kind_of_mark (b ∷ []) = kind_of_byte b
kind_of_mark (b ∷ c ∷ bs) = kinds.Other

abbrev pub kind_by : TokenKind → List ℕ → Kind
kind_by tokens.Word text = kind_of_word text
kind_by tokens.Number text = kinds.Number
kind_by tokens.Guid text = kinds.Guid
kind_by tokens.Text text = kinds.Text
kind_by tokens.Mark text = kind_of_mark text

-- a mark is told by its kind alone
abbrev pub text_by : TokenKind → List ℕ → List ℕ
text_by tokens.Word text = text
text_by tokens.Number text = text
text_by tokens.Guid text = text
text_by tokens.Text text = text
text_by tokens.Mark text = []

-- a token as the grammar sees it
abbrev pub terminal_of : Piece → Terminal
terminal_of p = record { offset = p.offset; kind = kind_by p.kind p.text; text = text_by p.kind p.text }
