-- The names of types that uses and signatures name, as their blobs spell them.
use Rattle.std.specs.Prelude.{ℕ, List, [], ◌∷◌, ◌++◌, Option, Some, None}
use Rattle.std.specs.List.{flat_map}
use Rattle.wr_base.specs.declared.type_use.Base.{Base}
use Rattle.wr_base.specs.declared.type_use.Base.TheVariants.{Guid}
use Rattle.sig_blobs.specs.Elements.{system_guid}
use Rattle.sig_blobs.specs.Templates.{template}
use Rattle.wr_base.specs.Trees.{UseTree, plain, value, reference, instance, UseTrees, no_uses, use_and, count_of, SignatureTree}

-- of the base types, Guid alone has a name
abbrev pub names_in_base : Base → List (List ℕ)
names_in_base Guid = system_guid ∷ []
names_in_base _ = []

abbrev mutual
  pub names_in_use : UseTree → List (List ℕ)
  names_in_use (plain base) = names_in_base base
  names_in_use (value name) = name ∷ []
  names_in_use (reference name) = name ∷ []
  names_in_use (instance name arguments) = template name (count_of arguments) ∷ names_in_uses arguments

  pub names_in_uses : UseTrees → List (List ℕ)
  names_in_uses no_uses = []
  names_in_uses (use_and u us) = names_in_use u ++ names_in_uses us

abbrev pub names_in_result : Option UseTree → List (List ℕ)
names_in_result None = []
names_in_result (Some type_) = names_in_use type_

abbrev pub names_in_signature : SignatureTree → List (List ℕ)
names_in_signature sig = names_in_result sig.result ++ flat_map (λ param. names_in_use param.kind) sig.params
