-- Each production of enums is read by its reader.
use Rattle.std.proofs.Common.{false, [], ◌∷◌, refl, ◌++◌}
use Rattle.grammar.proofs.ReaderLaws.{Reads, done_reads}
use Rattle.grammar.proofs.Choices.{andthen, perhaps}
use Rattle.grammar.proofs.Trails.{trailed}
use Rattle.midl_tree.specs.declared.kind.Kind.TheVariants.{Number, Equals, Minus, Comma, Enum, OpenBrace, CloseBrace, Semicolon}
use Rattle.midl_tree.specs.Symbols.{kind_of}
use Rattle.midl_tree.specs.Kinds.{number_of, names}
use Rattle.midl_words.proofs.Laws.{is_reads, is_there_reads, name_reads, own_name_reads}
use Rattle.midl_parse.specs.Enums.{IsValue, IsCase, IsCases, IsEnum}
use Rattle.midl_parse.specs.ReadEnums.{value_at, case_at, cases_at, enum_at}
use Rattle.midl_parse.specs.Lists.{or_none}

pub value_reads : Reads kind_of IsValue value_at (number_of Equals ∷ []) false []
unfolding value_at
value_reads = andthen (is_reads Equals) (λ equals. andthen (is_there_reads Minus) (λ negated. andthen (is_reads Number) (λ number. done_reads kind_of (record { negated = negated; number = number })) refl) refl) refl

pub case_reads : Reads kind_of IsCase case_at names false (number_of Equals ∷ [])
unfolding case_at
case_reads = andthen name_reads (λ name. andthen (perhaps value_reads) (λ value. done_reads kind_of (record { name = name; value = value })) refl) refl

pub cases_reads : Reads kind_of IsCases cases_at names false (number_of Comma ∷ (names ++ number_of Equals ∷ []) ++ number_of Equals ∷ [])
unfolding cases_at
cases_reads = andthen case_reads (λ first. andthen (trailed (is_reads Comma) case_reads refl) (λ others. done_reads kind_of (first ∷ others)) refl) refl

pub enum_reads : Reads kind_of IsEnum enum_at (number_of Enum ∷ []) false (number_of Semicolon ∷ [])
unfolding enum_at
enum_reads = andthen (is_reads Enum) (λ word. andthen own_name_reads (λ name. andthen (is_reads OpenBrace) (λ begin. andthen (perhaps cases_reads) (λ cases.
    andthen (is_reads CloseBrace) (λ close. andthen (is_there_reads Semicolon) (λ end. done_reads kind_of (record { name = name; cases = or_none cases })) refl) refl) refl) refl) refl) refl
