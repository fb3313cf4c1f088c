-- Signatures as they are written (ECMA-335 II.23.2): each element and token once, integers in their shortest form, no modifiers.
use Rattle.std.specs.Prelude.{ℕ, List, [], ◌∷◌, ◌++◌, length, Option, Some, None, if◌then◌else◌}
use Rattle.std.specs.List.{flat_map}
use Rattle.md_heaps.specs.Integers.{shortest}
use Rattle.wr_base.specs.declared.type_use.Base.{Base}
use Rattle.sig_blobs.specs.Elements.{void, by_ref, value_type, class, generic_inst, element_of, is_guid, system_guid}
use Rattle.sig_blobs.specs.Templates.{template}
use Rattle.wr_base.specs.Trees.{UseTree, plain, value, reference, instance, UseTrees, no_uses, use_and, count_of, ParamTree, SignatureTree}

-- The number that stands for a type of a full name: a TypeDefOrRef coded index (II.24.2.6), compressed where it is written (II.23.2.8).
abbrev pub Numbers : Type 0
Numbers = List ℕ → ℕ

-- ---- a type use (II.23.2.12)

abbrev pub base_bytes : Numbers → Base → List ℕ
base_bytes token base = if is_guid base then value_type ∷ shortest (token system_guid) else element_of base ∷ []

-- a template and how many arguments follow
abbrev pub template_bytes : Numbers → List ℕ → ℕ → List ℕ
template_bytes token name count = generic_inst ∷ class ∷ shortest (token (template name count)) ++ shortest count

abbrev mutual
  pub use_bytes : Numbers → UseTree → List ℕ
  use_bytes token (plain base) = base_bytes token base
  use_bytes token (value name) = value_type ∷ shortest (token name)
  use_bytes token (reference name) = class ∷ shortest (token name)
  use_bytes token (instance name arguments) = template_bytes token name (count_of arguments) ++ uses_bytes token arguments

  pub uses_bytes : Numbers → UseTrees → List ℕ
  uses_bytes token no_uses = []
  uses_bytes token (use_and u us) = use_bytes token u ++ uses_bytes token us

-- ---- signatures

-- of a field (II.23.2.4)
abbrev pub field_bytes : Numbers → UseTree → List ℕ
field_bytes token type_ = 0x06 ∷ use_bytes token type_

-- of a property of an instance, which has no parameters (II.23.2.5)
abbrev pub property_bytes : Numbers → UseTree → List ℕ
property_bytes token type_ = 0x28 ∷ 0 ∷ use_bytes token type_

-- of a TypeSpec (II.23.2.14)
abbrev pub spec_bytes : Numbers → UseTree → List ℕ
spec_bytes token type_ = use_bytes token type_

-- of a result (II.23.2.11)
abbrev pub result_bytes : Numbers → Option UseTree → List ℕ
result_bytes token None = void ∷ []
result_bytes token (Some type_) = use_bytes token type_

-- of a parameter (II.23.2.10)
abbrev pub param_bytes : Numbers → ParamTree → List ℕ
param_bytes token param = (if param.out then by_ref ∷ [] else []) ++ use_bytes token param.kind

-- of a method of an instance (II.23.2.1)
abbrev pub method_bytes : Numbers → SignatureTree → List ℕ
method_bytes token sig = 0x20 ∷ shortest (length sig.params) ++ result_bytes token sig.result ++ flat_map (param_bytes token) sig.params
