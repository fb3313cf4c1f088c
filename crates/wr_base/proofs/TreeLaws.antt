-- Type uses and declarations are told by their trees.
use Rattle.std.proofs.Common.{◌≡◌, ℕ, zero, suc, Bool, true, false, ◌&&◌, List, [], ◌∷◌, ◌++◌, map, Option, Some, None, refl, sym, ap, subst, ◌∙◌, eqb-true, eq-eqb}
use Rattle.std.specs.Str.{bytes_eq}
use Rattle.std.specs.Cmp.Lexicographic.{bytes_decides}
use Rattle.std.specs.Option.{option_map}
use Rattle.std.specs.List.{join_with_byte}
use Rattle.wr_base.specs.declared.type_use.Base.{Base}
use Rattle.wr_base.specs.declared.type_use.TypeUse.{TypeUse, roll-TypeUse, map-TypeUse}
use Rattle.wr_base.specs.declared.type_use.TypeUse.TheViews.{Inst}
use Rattle.wr_base.specs.declared.type_use.TypeUse.TheVariants.{Plain, Value, Reference, rolls-Plain, rolls-Value, rolls-Reference, rolls-Inst}
use Rattle.wr_base.specs.declared.type_use.TypeUse.TheFolds.{fold-roll-TypeUse, ind-TypeUse}
use Rattle.wr_base.specs.declared.type_use.TypeUse.TheOpen.{TypeUse-F}
use Rattle.wr_base.specs.declared.declaration.Param.{Param}
use Rattle.wr_base.specs.declared.declaration.Signature.{Signature}
use Rattle.wr_base.specs.declared.declaration.Field.{Field}
use Rattle.wr_base.specs.declared.declaration.Member.{Member}
use Rattle.wr_base.specs.declared.declaration.Member.TheVariants.{Method, Property, Event}
use Rattle.wr_base.specs.declared.declaration.Declaration.{Declaration}
use Rattle.wr_base.specs.declared.declaration.Declaration.TheVariants.{Enum, Struct, Delegate, Interface, Class}
use Rattle.wr_base.specs.Declarations as declared
use Rattle.wr_base.specs.declared.type_use.Base.TheVariants.{Boolean, Char, U8, I16, U16, I32, U32, I64, U64, Text, Guid, Object}
use Rattle.wr_base.specs.Uses.{word_of, text_at, text_of}
use Rattle.wr_base.proofs.UseLemmas.{text_of-Inst}
use Rattle.wr_base.specs.Trees.{UseTree, plain, value, reference, instance, UseTrees, no_uses, use_and, uses_of, list_of, tree_at, tree_of, text_of_tree, texts_of_trees, base_number, same_use, same_uses, ParamTree, SignatureTree, FieldTree, MemberTree, method, property, event, DeclTree, enum, struct, delegate, interface, class, name_of, param_tree, signature_tree, field_tree, member_tree, decl_tree}
use Rattle.wr_base.specs.FromTrees.{use_of_tree, uses_of_trees, param_of_tree, signature_of_tree, field_of_tree, member_of_tree, decl_of_tree}

-- ---- the tree of each kind of use

pub tree_Plain : (base : Base) → tree_of (Plain base) ≡ plain base
tree_Plain base = ap tree_of (sym (rolls-Plain base)) ∙ fold-roll-TypeUse UseTree tree_at (TypeUse-F.Plain base)

pub tree_Value : (name : List ℕ) → tree_of (Value name) ≡ value name
tree_Value name = ap tree_of (sym (rolls-Value name)) ∙ fold-roll-TypeUse UseTree tree_at (TypeUse-F.Value name)

pub tree_Reference : (name : List ℕ) → tree_of (Reference name) ≡ reference name
tree_Reference name = ap tree_of (sym (rolls-Reference name)) ∙ fold-roll-TypeUse UseTree tree_at (TypeUse-F.Reference name)

pub tree_Inst : (name : List ℕ) (arguments : List TypeUse) → tree_of (Inst name arguments) ≡ instance name (uses_of (map tree_of arguments))
tree_Inst name arguments = ap tree_of (sym (rolls-Inst name arguments)) ∙ fold-roll-TypeUse UseTree tree_at (TypeUse-F.Inst name arguments)

pub list_of-uses_of : (us : List UseTree) → list_of (uses_of us) ≡ us
list_of-uses_of [] = refl
list_of-uses_of (u ∷ us) = ap (λ (x : List UseTree). u ∷ x) (list_of-uses_of us)

pub uses_of-list_of : (us : UseTrees) → uses_of (list_of us) ≡ us
uses_of-list_of no_uses = refl
uses_of-list_of (use_and u us) = ap (use_and u) (uses_of-list_of us)

-- ---- there and back

abbrev IsBack : TypeUse → Type 0
IsBack u = use_of_tree (tree_of u) ≡ u

uses_back : (es : List ((u : TypeUse) × IsBack u)) → uses_of_trees (uses_of (map tree_of (map (λ e. e.0) es))) ≡ map (λ e. e.0) es
uses_back [] = refl
uses_back (e ∷ es) = ap (λ (x : TypeUse). x ∷ uses_of_trees (uses_of (map tree_of (map (λ e. e.0) es)))) e.1 ∙ ap (λ (x : List TypeUse). e.0 ∷ x) (uses_back es)

layer_back : (y : TypeUse-F ((u : TypeUse) × IsBack u)) → IsBack (roll-TypeUse (map-TypeUse ((u : TypeUse) × IsBack u) TypeUse (λ e. e.0) y))
layer_back (TypeUse-F.Plain base) = ap use_of_tree (fold-roll-TypeUse UseTree tree_at (TypeUse-F.Plain base)) ∙ sym (rolls-Plain base)
layer_back (TypeUse-F.Value name) = ap use_of_tree (fold-roll-TypeUse UseTree tree_at (TypeUse-F.Value name)) ∙ sym (rolls-Value name)
layer_back (TypeUse-F.Reference name) = ap use_of_tree (fold-roll-TypeUse UseTree tree_at (TypeUse-F.Reference name)) ∙ sym (rolls-Reference name)
layer_back (TypeUse-F.Inst name es) =
    ap use_of_tree (fold-roll-TypeUse UseTree tree_at (TypeUse-F.Inst name (map (λ e. e.0) es)))
    ∙ ap (Inst name) (uses_back es) ∙ sym (rolls-Inst name (map (λ e. e.0) es))

pub use_back : (u : TypeUse) → use_of_tree (tree_of u) ≡ u
use_back = ind-TypeUse IsBack (λ x y is. let P : TypeUse-F TypeUse → Type 0 = λ z. IsBack (roll-TypeUse z) in subst P is (layer_back y))

mutual
  pub tree_back : (u : UseTree) → tree_of (use_of_tree u) ≡ u
  tree_back (plain base) = tree_Plain base
  tree_back (value name) = tree_Value name
  tree_back (reference name) = tree_Reference name
  tree_back (instance name us) = tree_Inst name (uses_of_trees us) ∙ ap (instance name) (trees_back us)

  trees_back : (us : UseTrees) → uses_of (map tree_of (uses_of_trees us)) ≡ us
  trees_back no_uses = refl
  trees_back (use_and u us) = ap (λ (x : UseTree). use_and x (uses_of (map tree_of (uses_of_trees us)))) (tree_back u) ∙ ap (use_and u) (trees_back us)

-- uses of one tree are one use
pub tree_of-injective : (u v : TypeUse) → tree_of u ≡ tree_of v → u ≡ v
tree_of-injective u v e = sym (use_back u) ∙ ap use_of_tree e ∙ use_back v

-- ---- texts

text_of-Plain : (base : Base) → text_of (Plain base) ≡ word_of base
text_of-Plain base = ap text_of (sym (rolls-Plain base)) ∙ fold-roll-TypeUse (List ℕ) text_at (TypeUse-F.Plain base)

text_of-Value : (name : List ℕ) → text_of (Value name) ≡ name
text_of-Value name = ap text_of (sym (rolls-Value name)) ∙ fold-roll-TypeUse (List ℕ) text_at (TypeUse-F.Value name)

text_of-Reference : (name : List ℕ) → text_of (Reference name) ≡ name
text_of-Reference name = ap text_of (sym (rolls-Reference name)) ∙ fold-roll-TypeUse (List ℕ) text_at (TypeUse-F.Reference name)

mutual
  text_of-use_of_tree : (u : UseTree) → text_of (use_of_tree u) ≡ text_of_tree u
  text_of-use_of_tree (plain base) = text_of-Plain base
  text_of-use_of_tree (value name) = text_of-Value name
  text_of-use_of_tree (reference name) = text_of-Reference name
  text_of-use_of_tree (instance name us) = text_of-Inst name (uses_of_trees us) ∙ ap (λ (x : List (List ℕ)). name ++ 60 ∷ join_with_byte 44 x ++ 62 ∷ []) (texts_of-uses us)

  texts_of-uses : (us : UseTrees) → map text_of (uses_of_trees us) ≡ texts_of_trees us
  texts_of-uses no_uses = refl
  texts_of-uses (use_and u us) = ap (λ (x : List ℕ). x ∷ map text_of (uses_of_trees us)) (text_of-use_of_tree u) ∙ ap (λ (x : List (List ℕ)). text_of_tree u ∷ x) (texts_of-uses us)

-- the text of a use is that of its tree
pub text_of-tree_of : (u : TypeUse) → text_of_tree (tree_of u) ≡ text_of u
text_of-tree_of u = sym (text_of-use_of_tree (tree_of u)) ∙ ap text_of (use_back u)

-- ---- lists and options

map_back : {A B : Type 0} (f : A → B) (g : B → A) → ((x : A) → g (f x) ≡ x) → (xs : List A) → map g (map f xs) ≡ xs
map_back f g h [] = refl
map_back f g h (x ∷ xs) = ap (λ y. y ∷ map g (map f xs)) (h x) ∙ ap (λ ys. x ∷ ys) (map_back f g h xs)

option_back : {A B : Type 0} (f : A → B) (g : B → A) → ((x : A) → g (f x) ≡ x) → (o : Option A) → option_map g (option_map f o) ≡ o
option_back f g h None = refl
option_back f g h (Some x) = ap Some (h x)

-- ---- declarations

param_back : (p : Param) → param_of_tree (param_tree p) ≡ p
param_back p = ap (λ (t : TypeUse). record { name = p.name; out = p.out; ty = t }) (use_back p.ty)

signature_back : (s : Signature) → signature_of_tree (signature_tree s) ≡ s
signature_back s =
    let Params : Type 0 = List Param in
    ap (λ (x : Params). record { params = x; result = option_map use_of_tree (option_map tree_of s.result) }) (map_back param_tree param_of_tree param_back s.params)
    ∙ ap (λ (x : Option TypeUse). record { params = s.params; result = x }) (option_back tree_of use_of_tree use_back s.result)

field_back : (f : Field) → field_of_tree (field_tree f) ≡ f
field_back f = ap (λ (t : TypeUse). record { name = f.name; ty = t }) (use_back f.ty)

member_back : (m : Member) → member_of_tree (member_tree m) ≡ m
member_back (Method name abi sig) = ap (Method name abi) (signature_back sig)
member_back (Property name type_ put) = ap (λ (t : TypeUse). Property name t put) (use_back type_)
member_back (Event name type_) = ap (Event name) (use_back type_)

-- a declaration is told by its tree
pub decl_back : (d : Declaration) → decl_of_tree (decl_tree d) ≡ d
decl_back (Enum name version flags cases) = refl
decl_back (Struct name version fields) = ap (Struct name version) (map_back field_tree field_of_tree field_back fields)
decl_back (Delegate name version id invoke) = ap (Delegate name version id) (signature_back invoke)
decl_back (Interface name version id owner requires_ members) =
    ap (λ (x : List TypeUse). Interface name version id owner x (map member_of_tree (map member_tree members))) (map_back tree_of use_of_tree use_back requires_)
    ∙ ap (Interface name version id owner requires_) (map_back member_tree member_of_tree member_back members)
decl_back (Class name version fixed default has direct factories statics) =
    ap (λ (x : Option TypeUse). Class name version fixed x (map use_of_tree (map tree_of has)) direct factories statics) (option_back tree_of use_of_tree use_back default)
    ∙ ap (λ (x : List TypeUse). Class name version fixed default x direct factories statics) (map_back tree_of use_of_tree use_back has)

pub decl_tree-injective : (a b : Declaration) → decl_tree a ≡ decl_tree b → a ≡ b
decl_tree-injective a b e = sym (decl_back a) ∙ ap decl_of_tree e ∙ decl_back b

param_tree_back : (p : ParamTree) → param_tree (param_of_tree p) ≡ p
param_tree_back p = ap (λ (t : UseTree). record { name = p.name; out = p.out; kind = t }) (tree_back p.kind)

signature_tree_back : (s : SignatureTree) → signature_tree (signature_of_tree s) ≡ s
signature_tree_back s =
    ap (λ (x : List ParamTree). record { params = x; result = option_map tree_of (option_map use_of_tree s.result) }) (map_back param_of_tree param_tree param_tree_back s.params)
    ∙ ap (λ (x : Option UseTree). record { params = s.params; result = x }) (option_back use_of_tree tree_of tree_back s.result)

field_tree_back : (f : FieldTree) → field_tree (field_of_tree f) ≡ f
field_tree_back f = ap (λ (t : UseTree). record { name = f.name; kind = t }) (tree_back f.kind)

member_tree_back : (m : MemberTree) → member_tree (member_of_tree m) ≡ m
member_tree_back (method name abi sig) = ap (method name abi) (signature_tree_back sig)
member_tree_back (property name type_ put) = ap (λ (t : UseTree). property name t put) (tree_back type_)
member_tree_back (event name type_) = ap (event name) (tree_back type_)

-- each tree is that of a declaration
pub decl_tree_back : (d : DeclTree) → decl_tree (decl_of_tree d) ≡ d
decl_tree_back (enum name version flags cases) = refl
decl_tree_back (struct name version fields) = ap (struct name version) (map_back field_of_tree field_tree field_tree_back fields)
decl_tree_back (delegate name version id invoke) = ap (delegate name version id) (signature_tree_back invoke)
decl_tree_back (interface name version id owner requires_ members) =
    ap (λ (x : List UseTree). interface name version id owner x (map member_tree (map member_of_tree members))) (map_back use_of_tree tree_of tree_back requires_)
    ∙ ap (interface name version id owner requires_) (map_back member_of_tree member_tree member_tree_back members)
decl_tree_back (class name version fixed default has direct factories statics) =
    ap (λ (x : Option UseTree). class name version fixed x (map tree_of (map use_of_tree has)) direct factories statics) (option_back use_of_tree tree_of tree_back default)
    ∙ ap (λ (x : List UseTree). class name version fixed default x direct factories statics) (map_back use_of_tree tree_of tree_back has)

pub name_of-decl_tree : (d : Declaration) → name_of (decl_tree d) ≡ declared.name_of d
name_of-decl_tree (Enum name version flags cases) = refl
name_of-decl_tree (Struct name version fields) = refl
name_of-decl_tree (Delegate name version id invoke) = refl
name_of-decl_tree (Interface name version id owner requires_ members) = refl
name_of-decl_tree (Class name version fixed default has direct factories statics) = refl

-- ---- the same use

base_of_number : (a b : Base) → base_number a ≡ base_number b → a ≡ b
base_of_number a b e = sym (again a) ∙ ap base_at e ∙ again b
  where
    base_at : ℕ → Base
    base_at zero = Boolean
    base_at (suc zero) = Char
    base_at (suc (suc zero)) = U8
    base_at (suc (suc (suc zero))) = I16
    base_at (suc (suc (suc (suc zero)))) = U16
    base_at (suc (suc (suc (suc (suc zero))))) = I32
    base_at (suc (suc (suc (suc (suc (suc zero)))))) = U32
    base_at (suc (suc (suc (suc (suc (suc (suc zero))))))) = I64
    base_at (suc (suc (suc (suc (suc (suc (suc (suc zero)))))))) = U64
    base_at (suc (suc (suc (suc (suc (suc (suc (suc (suc zero))))))))) = Text
    base_at (suc (suc (suc (suc (suc (suc (suc (suc (suc (suc zero)))))))))) = Guid
    base_at (suc (suc (suc (suc (suc (suc (suc (suc (suc (suc (suc n))))))))))) = Object

    again : (c : Base) → base_at (base_number c) ≡ c
    again Boolean = refl
    again Char = refl
    again U8 = refl
    again I16 = refl
    again U16 = refl
    again I32 = refl
    again U32 = refl
    again I64 = refl
    again U64 = refl
    again Text = refl
    again Guid = refl
    again Object = refl

both : (a b : Bool) → (a && b) ≡ true → (a ≡ true) × (b ≡ true)
both true b e = (refl, e)
both false b e = absurd cc

mutual
  -- uses that are told to be the same are
  pub same_use-is : (u v : UseTree) → same_use u v ≡ true → u ≡ v
  same_use-is (plain a) (plain b) e = ap plain (base_of_number a b (eqb-true _ _ e))
  same_use-is (value a) (value b) e = ap value ((bytes_decides a b).0 e)
  same_use-is (reference a) (reference b) e = ap reference ((bytes_decides a b).0 e)
  same_use-is (instance a us) (instance b vs) e =
      let h = both (bytes_eq a b) (same_uses us vs) e in
      ap (λ (x : List ℕ). instance x us) ((bytes_decides a b).0 h.0) ∙ ap (instance b) (same_uses-are us vs h.1)
  same_use-is u v e = absurd cc

  pub same_uses-are : (us vs : UseTrees) → same_uses us vs ≡ true → us ≡ vs
  same_uses-are no_uses no_uses e = refl
  same_uses-are (use_and u us) (use_and v vs) e =
      let h = both (same_use u v) (same_uses us vs) e in
      ap (λ (x : UseTree). use_and x us) (same_use-is u v h.0) ∙ ap (use_and v) (same_uses-are us vs h.1)
  same_uses-are us vs e = absurd cc

mutual
  -- a use is the same as itself
  pub same_use-refl : (u : UseTree) → same_use u u ≡ true
  same_use-refl (plain a) = eq-eqb (base_number a) (base_number a) refl
  same_use-refl (value a) = (bytes_decides a a).1 refl
  same_use-refl (reference a) = (bytes_decides a a).1 refl
  same_use-refl (instance a us) = ap (λ (t : Bool). t && same_uses us us) ((bytes_decides a a).1 refl) ∙ same_uses-refl us

  pub same_uses-refl : (us : UseTrees) → same_uses us us ≡ true
  same_uses-refl no_uses = refl
  same_uses-refl (use_and u us) = ap (λ (t : Bool). t && same_uses us us) (same_use-refl u) ∙ same_uses-refl us
