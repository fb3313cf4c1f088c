-- Lists of the code, seen as the definitions have them.
use Rattle.std.proofs.Common.{◌≡◌, Bool, true, false, cond, List, [], ◌∷◌, map, Option, Some, None, option_map, refl, ap}
use Rattle.winmd_rows.specs.Faults.{somes}
use Rattle.wr_base.specs.declared.type_use.TypeUse.{TypeUse}
use Rattle.wr_base.specs.Trees.{UseTree, tree_of}
use Rattle.winmd_classes.specs.declared.implemented.Implemented.{Implemented}
use Rattle.winmd_classes.specs.Parts.{types_in}
use Rattle.winmd_classes.specs.Seen.{implemented_seen}

pub types_seen : (interfaces : List Implemented) → map tree_of (map (λ entry. entry.ty) interfaces) ≡ types_in (map implemented_seen interfaces)
types_seen [] = refl
types_seen (x ∷ xs) = ap (λ (us : List UseTree). tree_of x.ty ∷ us) (types_seen xs)

pub kept_seen : (b : Bool) (ty : TypeUse) → option_map tree_of (cond b (Some ty) None) ≡ cond b (Some (tree_of ty)) None
kept_seen true ty = refl
kept_seen false ty = refl

pub somes_seen : (xs : List (Option TypeUse)) → somes (map (option_map tree_of) xs) ≡ map tree_of (somes xs)
somes_seen [] = refl
somes_seen (None ∷ xs) = somes_seen xs
somes_seen (Some x ∷ xs) = ap (λ (us : List UseTree). tree_of x ∷ us) (somes_seen xs)
