-- Rules on the factories of a class.
use Rattle.std.specs.Prelude.{ℕ, Bool, true, false, not, ◌&&◌, List, [], ◌∷◌, Option, Some, None, length, if◌then◌else◌}
use Rattle.std.specs.List.{list_any, filter_map, flat_map}
use Rattle.std.specs.Option.{option_map}
use Rattle.std.specs.Str.{bytes_eq}
use Rattle.ranked.specs.Entries.{Entry}
use Rattle.ranked.specs.First.{Among, Or}
use Rattle.ranked.specs.Repeats.{Repeated}
use Rattle.wr_base.specs.Uses.{text_of}
use Rattle.wr_base.specs.declared.code.Code.TheVariants.{ConstructorArity, FactoryShape}
use Rattle.wr_base.specs.declared.type_use.TypeUse.{TypeUse}
use Rattle.wr_base.specs.declared.declaration.Signature.{Signature}
use Rattle.wr_base.specs.declared.declaration.Member.{Member}
use Rattle.wr_base.specs.declared.declaration.Declaration.{Declaration}
use Rattle.wr_base.specs.declared.declaration.Declaration.TheVariants.{Class}
use Rattle.found_table.specs.Found.{FoundRow}
use Rattle.wr_rules.specs.Kinds.{Meaning, found, named}
use Rattle.wr_rules.specs.Sites.{Site, site_name, spot_of, broken_at, If}
use Rattle.wr_rules.specs.ListRules.{is_empty}
use Rattle.wr_rules.specs.Members.{Standing, members_at, signature_in}

-- the factories of a class, by name
abbrev pub factories_of : Declaration → List (List ℕ)
factories_of (Class name version fixed default has direct factories statics) = factories
factories_of _ = []

-- the site of this full name
abbrev pub site_as : List Site → List ℕ → Option Site
site_as [] name = None
site_as (s ∷ ss) name = if bytes_eq (site_name s) name then Some s else site_as ss name

-- the members of a site, where there is one
abbrev pub members_in : Option Site → List (Standing Member)
members_in None = []
members_in (Some s) = members_at s

-- the members of the interface of this name
abbrev pub members_named : List Site → List ℕ → List (Standing Member)
members_named sites name = members_in (site_as sites name)

-- the members of a class's declared factories, factory by factory
abbrev pub factory_members : List Site → Site → List (Standing Member)
factory_members sites s = flat_map (members_named sites) (factories_of s.decl)

-- how many parameters a method has
abbrev pub count_at : Standing Member → Option (Standing (List ℕ))
count_at m = option_map (λ sig. record { part = length sig.params ∷ []; spot = m.spot }) (signature_in m.part)

-- a later factory method of a class repeats a number of parameters
abbrev pub IsConstructorArity : List Site → Site → Entry → Type 0
IsConstructorArity sites s = Repeated (λ o. o.part) (λ o. broken_at ConstructorArity o.spot) (filter_map count_at (factory_members sites s))

-- the result is the class of this name
abbrev pub returns : List ℕ → Option TypeUse → Bool
returns name None = false
returns name (Some u) = bytes_eq (text_of u) name

-- a method with parameters, none of them out, that returns the class of this name
abbrev pub makes : List ℕ → Option Signature → Bool
makes name None = false
makes name (Some sig) = not (is_empty sig.params) && not (list_any (λ p. p.out) sig.params) && returns name sig.result

-- a found interface, whose members are none that make the class
abbrev pub is_found_interface : Option Meaning → Bool
is_found_interface (Some (found (FoundRow.Interface name arguments id members))) = true
is_found_interface _ = false

-- a factory member isn't a method that makes the class; a found interface as factory stands at the class
abbrev pub IsFactoryShape : List Declaration → List Site → Site → Entry → Type 0
IsFactoryShape types sites s =
    Or (Among (factory_members sites s) (λ m. If (not (makes (site_name s) (signature_in m.part))) FactoryShape m.spot))
    (Among (factories_of s.decl) (λ name. If (is_found_interface (named types name 0)) FactoryShape (spot_of s)))
