-- Declarations where they stand, as definitions see them.
use Rattle.std.specs.Prelude.{List, map}
use Rattle.wr_base.specs.declared.declaration.Declaration.{Declaration}
use Rattle.wr_rules.specs.Sites.{Site}
use Rattle.closed_lists.specs.declared.site.PlacedDeclaration.{PlacedDeclaration}

-- a declaration with its places
abbrev pub site_view : PlacedDeclaration → Site
site_view p = record { decl = p.declaration; places = p.places }

-- the declarations with their places
abbrev pub sites_in : List PlacedDeclaration → List Site
sites_in list = map site_view list

-- the declarations alone
abbrev pub decls_in : List PlacedDeclaration → List Declaration
decls_in list = map (λ p. p.declaration) list
