-- Enums, structs and delegates have no list that stands for a set.
use Rattle.std.proofs.Common.{◌≡◌, ℕ, Bool, true, false, List, Result, Ok, Err, refl, sym, ap, ◌∙◌}
use Rattle.md_schema.specs.declared.faults.ImageFault.{ImageFault}
use Rattle.md_schema.specs.declared.faults.ImageKind.TheVariants.{BadShape}
use Rattle.md_schema.specs.declared.table.Table.TheVariants as tables
use Rattle.ranked.specs.declared.stop.Stop.{Stop}
use Rattle.wr_base.specs.declared.declaration.Declaration.{Declaration}
use Rattle.wr_base.specs.declared.declaration.Declaration.TheVariants as declarations
use Rattle.wr_base.specs.Trees.{DeclTree, decl_tree, enum, struct, delegate, interface, class}
use Rattle.winmd_rows.specs.Faults.{Fault, ◌>>=◌, each, the_one}
use Rattle.winmd_lines.specs.Cells.{Tables, at, list_of}
use Rattle.winmd_sets.specs.Attributes.{Attribute, id_of, version_of}
use Rattle.winmd_sets.specs.Fields.{case_of, enum_of, holder_flags, marked, of_mark, struct_field, struct_of}
use Rattle.winmd_sets.specs.Methods.{delegate_of, invoke_of}
use Rattle.winmd_cells.specs.Given.{Gives}
use Rattle.winmd_set.specs.Stated.{set_tree}

abbrev is_plain : DeclTree → Bool
is_plain (enum name version flags cases) = true
is_plain (struct name version fields) = true
is_plain (delegate name version id invoke) = true
is_plain (interface name version id owner requires_ members) = false
is_plain (class name version fixed default has direct factories statics) = false

-- an answer is one of these, or a fault
abbrev all_plain : Result DeclTree Fault → Bool
all_plain (Ok d) = is_plain d
all_plain (Err e) = true

behind_plain : {A : Type 0} (r : Result A Fault) (f : A → Result DeclTree Fault) → ((a : A) → all_plain (f a) ≡ true) → all_plain (r >>= f) ≡ true
behind_plain (Ok a) f h = h a
behind_plain (Err e) f h = refl

same_tree : (d : Declaration) → is_plain (decl_tree d) ≡ true → decl_tree d ≡ set_tree d
same_tree (declarations.Enum name version flags cases) h = refl
same_tree (declarations.Struct name version fields) h = refl
same_tree (declarations.Delegate name version id invoke) h = refl
same_tree (declarations.Interface name version id owner requires_ members) h = absurd (let no : false ≡ true = h in cc)
same_tree (declarations.Class name version fixed default has direct factories statics) h = absurd (let no : false ≡ true = h in cc)

-- what is seen plainly of such an answer is seen as sets have it
as_set : (answer : Result DeclTree Fault) (r : Result Declaration (Stop ImageFault)) → all_plain answer ≡ true → Gives decl_tree r answer → Gives set_tree r answer
as_set answer (Ok d) plain h = h ∙ ap (λ x. Ok x) (same_tree d (ap all_plain (sym h) ∙ plain))
as_set answer (Err e) plain h = h

module _ (t : Tables) (n : ℕ) (full : List ℕ) (attributes : List Attribute) (r : Result Declaration (Stop ImageFault)) where
  pub plain_enum : Gives decl_tree r (enum_of t n full attributes) → Gives set_tree r (enum_of t n full attributes)
  plain_enum = as_set (enum_of t n full attributes) r
      (behind_plain (version_of t n attributes) _ (λ version. behind_plain (list_of t tables.TypeDef 4 tables.Field n) _ (λ fields. behind_plain (each marked fields) _ (λ marks.
      behind_plain (the_one BadShape (at t tables.TypeDef n 4) (of_mark false marks)) _ (λ holder. behind_plain (holder_flags t holder) _ (λ flags. behind_plain (each (case_of t flags) (of_mark true marks)) _ (λ cases. refl)))))))

  pub plain_struct : Gives decl_tree r (struct_of t n full attributes) → Gives set_tree r (struct_of t n full attributes)
  plain_struct = as_set (struct_of t n full attributes) r
      (behind_plain (version_of t n attributes) _ (λ version. behind_plain (list_of t tables.TypeDef 4 tables.Field n) _ (λ rows. behind_plain (each (struct_field t) rows) _ (λ fields. refl))))

  pub plain_delegate : Gives decl_tree r (delegate_of t n full attributes) → Gives set_tree r (delegate_of t n full attributes)
  plain_delegate = as_set (delegate_of t n full attributes) r
      (behind_plain (version_of t n attributes) _ (λ version. behind_plain (id_of t n attributes) _ (λ id. behind_plain (invoke_of t n) _ (λ sig. refl))))
