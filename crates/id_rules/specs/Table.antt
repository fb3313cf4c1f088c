-- The ids of instances, by text.
use Rattle.std.specs.Prelude.{◌≡◌, ℕ, List, Option, Some, None, if◌then◌else◌}
use Rattle.std.specs.List.{filter_map}
use Rattle.std.specs.Option.{option_map, option_or}
use Rattle.wr_base.specs.declared.declaration.Declaration.{Declaration}
use Rattle.wr_base.specs.Trees.{UseTree, within}
use Rattle.wr_rules.specs.Signatures.{id_of}
use Rattle.wr_rules.specs.NameRules.{is_instance, first_of}

-- nothing where no use has the text, and otherwise the id of the first use that has it, if that use has an id
abbrev pub first_id : List Declaration → List UseTree → List ℕ → Option (Option ℕ)
first_id types uses text = option_map (id_of types) (first_of uses text)

-- the instances within a use, at any depth
abbrev pub instances_within : UseTree → List UseTree
instances_within u = filter_map (λ v. if is_instance v then Some v else None) (within u)

-- a table of ids by text gains the texts of more uses; a text that is there stays as it is
abbrev pub Adds : List Declaration → List UseTree → (List ℕ → Option (Option ℕ)) → (List ℕ → Option (Option ℕ)) → Type 0
Adds types more old new = (text : List ℕ) → new text ≡ option_or (old text) (first_id types more text)
