-- What the loops over a file's parts repeat.
use Rattle.std.proofs.Common.{ℕ, true, false, [], ◌∷◌, refl}
use Rattle.grammar.specs.Productions.{Either}
use Rattle.grammar.specs.Readers.{either_at}
use Rattle.grammar.proofs.ReaderLaws.{Reads}
use Rattle.grammar.proofs.Choices.{orelse}
use Rattle.midl_tree.specs.declared.kind.Kind.TheVariants.{Comma, Text, Import, Namespace, Event, Static, Void, OpenBracket, Less, Semicolon, Dot}
use Rattle.midl_words.specs.declared.stop.Code.TheVariants.{FloatType}
use Rattle.midl_tree.specs.Kinds.{number_of, names, declared_first}
use Rattle.midl_tree.specs.Symbols.{kind_of}
use Rattle.midl_words.specs.Tokens.{Is, IsName, Behind}
use Rattle.midl_words.specs.Reading.{is_at, name_at, behind_at}
use Rattle.midl_parse.specs.Imports.{IsImport}
use Rattle.midl_parse.specs.Types.{IsBase, IsBaseOrFloat, IsType, IsArguments}
use Rattle.midl_parse.specs.Attributes.{IsAttribute, IsGroup}
use Rattle.midl_parse.specs.Structs.{IsFields}
use Rattle.midl_parse.specs.Signatures.{IsParam}
use Rattle.midl_parse.specs.Members.{IsMember}
use Rattle.midl_parse.specs.Classes.{IsClassMember}
use Rattle.midl_parse.specs.Items.{IsDeclared, SpaceWith, IsItems}
use Rattle.midl_parse.specs.ReadImports.{import_at}
use Rattle.midl_parse.specs.ReadTypes.{base_at, base_or_float_at, arguments_at, args_at, types_at}
use Rattle.midl_parse.specs.ReadAttributes.{attribute_at, group_at}
use Rattle.midl_parse.specs.ReadStructs.{fields_at}
use Rattle.midl_parse.specs.ReadSignatures.{param_at}
use Rattle.midl_parse.specs.ReadMembers.{member_at}
use Rattle.midl_parse.specs.ReadClasses.{class_member_at}
use Rattle.midl_parse.specs.ReadItems.{declared_at, space_with, items_at}
use Rattle.midl_words.proofs.Laws.{is_reads, name_reads, behind_reads}
use Rattle.midl_words.proofs.Turns.{Item}
use Rattle.midl_parse.proofs.ProductionLaws.{Both, imports, types, group_of, param, members, class_members, group, declares}
use Rattle.midl_parse.proofs.DepthLaws.{no_float, float_base, unknown_attribute, same_attribute, arguments, items_reads, space_reads}

args : (n : ℕ) → Both FloatType (IsArguments IsBase n) (IsArguments IsBaseOrFloat n) (args_at n) (arguments_at base_or_float_at n) (number_of Less ∷ []) true (number_of Less ∷ [])
args n = arguments no_float (λ e. cc) float_base n

pub name_item : Item (Behind Comma IsName) (behind_at Comma name_at) (number_of Comma ∷ []) []
name_item = record { reads = behind_reads Comma name_reads; clear = refl }

pub text_item : Item (Behind Comma (Is Text)) (behind_at Comma (is_at Text)) (number_of Comma ∷ []) []
text_item = record { reads = behind_reads Comma (is_reads Text); clear = refl }

pub import_item : Item IsImport import_at (number_of Import ∷ []) []
import_item = record { reads = (imports no_float).low; clear = refl }

pub attribute_item : Item (Behind Comma IsAttribute) (behind_at Comma attribute_at) (number_of Comma ∷ []) []
attribute_item = record { reads = behind_reads Comma unknown_attribute.low; clear = refl }

group_reads : Reads kind_of (IsGroup IsAttribute) (group_at attribute_at) (number_of OpenBracket ∷ []) false []
group_reads = (group no_float float_base (args 0) (same_attribute no_float (λ e. cc))).low

pub group_item : Item (IsGroup IsAttribute) (group_at attribute_at) (number_of OpenBracket ∷ []) []
group_item = record { reads = group_reads; clear = refl }

module _ (n : ℕ) where
  pub type_item : Item (Behind Comma (IsType IsBase (IsArguments IsBase n))) (behind_at Comma (types_at n)) (number_of Comma ∷ []) (number_of Less ∷ number_of Dot ∷ [])
  type_item = record { reads = behind_reads Comma (types no_float float_base (args n)).low; clear = refl }

  pub fields_item : Item (IsFields IsBase (IsArguments IsBase n)) (fields_at base_at (args_at n)) names []
  fields_item = record { reads = (group_of no_float float_base (args n)).low; clear = refl }

  pub param_item : Item (Behind Comma (IsParam IsBase (IsArguments IsBase n))) (behind_at Comma (param_at base_at (args_at n))) (number_of Comma ∷ []) []
  param_item = record { reads = behind_reads Comma (param no_float float_base (args n)).low; clear = refl }

  pub member_item : Item (IsMember IsBase (IsArguments IsBase n)) (member_at base_at (args_at n)) (number_of Void ∷ number_of Event ∷ names) (number_of Semicolon ∷ [])
  member_item = record { reads = (members no_float float_base (args n)).low; clear = refl }

  pub class_member_item : Item (IsClassMember IsBase (IsArguments IsBase n)) (class_member_at base_at (args_at n)) (number_of Static ∷ number_of Void ∷ number_of Event ∷ names) (number_of Semicolon ∷ [])
  class_member_item = record { reads = (class_members no_float float_base (args n)).low; clear = refl }

  declared_reads : Reads kind_of (IsDeclared IsAttribute IsBase (IsArguments IsBase n)) (declared_at attribute_at base_at (args_at n)) declared_first false (number_of Semicolon ∷ [])
  declared_reads = (declares no_float float_base (args n) (same_attribute no_float (λ e. cc))).low

  pub declared_item : Item (IsDeclared IsAttribute IsBase (IsArguments IsBase n)) (declared_at attribute_at base_at (args_at n)) declared_first (number_of Semicolon ∷ [])
  declared_item = record { reads = declared_reads; clear = refl }

  module _ (d : ℕ) where
    spaces_reads : Reads kind_of (SpaceWith (IsItems (IsDeclared IsAttribute IsBase (IsArguments IsBase n)) d)) (space_with (items_at (declared_at attribute_at base_at (args_at n)) d)) (number_of Namespace ∷ []) false (number_of Semicolon ∷ [])
    spaces_reads = space_reads (items_reads declared_reads d)

    pub space_item : Item (SpaceWith (IsItems (IsDeclared IsAttribute IsBase (IsArguments IsBase n)) d)) (space_with (items_at (declared_at attribute_at base_at (args_at n)) d)) (number_of Namespace ∷ []) (number_of Semicolon ∷ [])
    space_item = record { reads = spaces_reads; clear = refl }

    pub item_item : Item (Either (SpaceWith (IsItems (IsDeclared IsAttribute IsBase (IsArguments IsBase n)) d)) (IsDeclared IsAttribute IsBase (IsArguments IsBase n)))
        (either_at kind_of (number_of Namespace ∷ []) (space_with (items_at (declared_at attribute_at base_at (args_at n)) d)) (declared_at attribute_at base_at (args_at n))) (number_of Namespace ∷ declared_first) (number_of Semicolon ∷ number_of Semicolon ∷ [])
    item_item = record { reads = orelse spaces_reads declared_reads refl; clear = refl }
