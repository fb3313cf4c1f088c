-- What rows of TypeDef state, seen as the definition has it.
use Rattle.std.specs.Prelude.{ℕ, ◌-◌, ◌^◌, min, Bool, List}
use Rattle.std.specs.List.{list_any}
use Rattle.std.specs.Str.{bytes_eq}
use Rattle.wr_base.specs.declared.declaration.Declaration.{Declaration}
use Rattle.wr_base.specs.Normal.{normal}
use Rattle.wr_base.specs.Trees.{DeclTree, decl_tree, name_of}
use Rattle.winmd_set.specs.declared.stated.Stated.{Stated}

-- the tree of a declaration, its lists in the order of sets
abbrev pub set_tree : Declaration → DeclTree
set_tree d = decl_tree (normal d)

abbrev pub stated_seen : Stated → ℕ × DeclTree
stated_seen stated = (stated.row, set_tree stated.declaration)

-- whether a later one has the same full name
abbrev pub is_again : ℕ × DeclTree → List (ℕ × DeclTree) → Bool
is_again d ds = list_any (λ e. bytes_eq (name_of d.1) (name_of e.1)) ds

-- the number, or the greatest that a u64 holds
abbrev pub capped : ℕ → ℕ
capped n = min n (2 ^ 64 - 1)
