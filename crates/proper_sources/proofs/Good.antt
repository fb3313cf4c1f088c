-- From items to full declarations: names within their limits, and uses with arguments within their depth.
use Rattle.std.proofs.Common.{◌≡◌, ◌==◌, ℕ, ◌+◌, ◌<◌, ◌≤◌, ◌^◌, ◌%◌, Bool, true, false, ◌&&◌, cond, IsTrue, List, [], ◌∷◌, ◌++◌, Option, map, length, codes, get_or, refl, sym, subst, arith}
use Rattle.std.specs.List.{All, AllZip, filter, flat_map, list_all}
use Rattle.std.specs.Fmt.{decimal}
use Rattle.std.proofs.lemmas.Fmt.{decimal_by_steps, length-decimal-le}
use Rattle.std.proofs.lemmas.List.{length-append}
use Rattle.std.proofs.lemmas.List.Sums.{length-filter, count_by-le-length}
use Rattle.std.proofs.lemmas.List.Elements.{All-nil, All-cons, All-head, All-tail, All-append, All-weaker, All-filter, All-contains, All-contains_itself}
use Rattle.wr_base.specs.Paths.{is_identifier, is_start, is_rest}
use Rattle.wr_base.specs.Trees.{UseTree, plain, value, reference, instance, UseTrees, no_uses, use_and, tree_of}
use Rattle.wr_base.proofs.TreeLaws.{tree_Reference}
use Rattle.wr_base.specs.declared.type_use.TypeUse.{TypeUse}
use Rattle.wr_base.specs.declared.type_use.TypeUse.TheVariants.{Reference}
use Rattle.wr_base.specs.declared.declaration.Field.{Field}
use Rattle.wr_base.specs.declared.declaration.Param.{Param}
use Rattle.wr_base.specs.declared.declaration.Signature.{Signature}
use Rattle.wr_base.specs.declared.declaration.Member.{Member}
use Rattle.wr_base.specs.declared.declaration.Declaration.{Declaration}
use Rattle.wr_base.specs.declared.declaration.Declaration.TheVariants.{Enum, Struct, Delegate, Interface, Class}
use Rattle.wr_rules.specs.Accepted.{IsUse, has_arguments, have_arguments}
use Rattle.wr_rules.specs.Sites.{Site}
use Rattle.wr_rules.specs.ListRules.{listed_in}
use Rattle.placed_items.specs.declared.placed.WrittenClass.{WrittenClass}
use Rattle.placed_items.specs.declared.placed.Written.{Written}
use Rattle.placed_items.specs.declared.placed.Written.TheVariants as written
use Rattle.placed_items.specs.declared.placed.PlacedItem.{PlacedItem}
use Rattle.placed_items.specs.Applied.{IsApplied, HaveApplied, AreApplied}
use Rattle.placed_items.specs.Named.{IsName, HasNamedParams, IsNamedMember, IsNamedDeclaration, HasNamedParts, AreNamed, result_uses, signature_uses, member_uses, class_uses, declaration_uses, written_uses}
use Rattle.closed_lists.specs.Closing.{uses_from}
use Rattle.closed_lists.specs.Closures.{IsClosing, with_list}
use Rattle.made_interfaces.specs.Made.{factory_name, makes, takes_some, factory_method, factory_methods, interface_of, where_, makes_default, makes_statics, makes_factory, made_name, own_interface, listed_by, first_use, class_itself, default_site, statics_site, factory_site, made_sites, with_id, sites_by, item_sites, raw}
use Rattle.proper_sources.proofs.Uses.{Shallow, HasFew, IsWritten, IsBounded}

-- ---- what is said of declarations

-- a use with arguments, within its depth
abbrev pub IsGoodUse : TypeUse → Type 0
IsGoodUse u = IsUse (tree_of u)

-- all uses of a declaration, with the default of a class
abbrev pub every_use : Declaration → List TypeUse
every_use (Enum name version flags cases) = []
every_use (Struct name version fields) = map (λ (f : Field). f.ty) fields
every_use (Delegate name version id invoke) = signature_uses invoke
every_use (Interface name version id owner requires_ members) = requires_ ++ flat_map member_uses members
every_use (Class name version fixed default has direct factories statics) = result_uses default ++ has

pub record IsGood (d : Declaration) : Type 0 where
  pub named : IsNamedDeclaration d
  pub uses : All IsGoodUse (every_use d)

abbrev pub IsGoodSite : Site → Type 0
IsGoodSite s = IsGood s.decl

-- ---- arguments

both : (a b : Bool) → IsTrue a → IsTrue b → IsTrue (a && b)
both true b h g = g
both false b h g = h

mutual
  applied : (u : UseTree) → IsApplied u → IsTrue (has_arguments u)
  applied (plain base) h = refl
  applied (value name) h = refl
  applied (reference name) h = refl
  applied (instance name no_uses) h = absurd h
  applied (instance name (use_and u us)) h = both (has_arguments u) (have_arguments us) (applied u h.0) (all_applied us h.1)

  all_applied : (us : UseTrees) → HaveApplied us → IsTrue (have_arguments us)
  all_applied no_uses h = refl
  all_applied (use_and u us) h = both (has_arguments u) (have_arguments us) (applied u h.0) (all_applied us h.1)

good_uses : (us : List TypeUse) → All Shallow us → All (λ u. IsApplied (tree_of u)) us → All IsGoodUse us
good_uses us h g k d l = record { shallow = h k d l; applied = applied (tree_of (get_or us k d)) (g k d l) }

named_use : (name : List ℕ) → IsGoodUse (Reference name)
named_use name = subst IsUse (sym (tree_Reference name)) (record { shallow = omega arith; applied = refl })

-- ---- lists

pub split_all : {X : Type 0} (P : X → Type 0) (xs ys : List X) → All P (xs ++ ys) → All P xs × All P ys
split_all P [] ys h = (All-nil P, h)
split_all P (x ∷ xs) ys h = let s = split_all P xs ys (All-tail P x (xs ++ ys) h) in (All-cons P x xs (All-head P x (xs ++ ys) h) s.0, s.1)

pub flat_split : {X Y : Type 0} (P : Y → Type 0) (f : X → List Y) (xs : List X) → All P (flat_map f xs) → All (λ x. All P (f x)) xs
flat_split P f [] h = All-nil (λ x. All P (f x))
flat_split P f (x ∷ xs) h = let s = split_all P (f x) (flat_map f xs) h in All-cons (λ y. All P (f y)) x xs s.0 (flat_split P f xs s.1)

pub flat_within : {X Y : Type 0} (P : Y → Type 0) (f : X → List Y) (xs : List X) → All (λ x. All P (f x)) xs → All P (flat_map f xs)
flat_within P f [] h = All-nil P
flat_within P f (x ∷ xs) h = All-append P (f x) (flat_map f xs) (All-head (λ y. All P (f y)) x xs h) (flat_within P f xs (All-tail (λ y. All P (f y)) x xs h))

where_within : {X : Type 0} (P : X → Type 0) (b : Bool) (x : X) → P x → All P (where_ b x)
where_within P true x h = All-cons P x [] h (All-nil P)
where_within P false x h = All-nil P

-- ---- the names of a factory's methods

joined : (b c d : Bool) → (b && c) ≡ true → (c ≡ true → d ≡ true) → (b && d) ≡ true
joined true c d h f = f h
joined false c d h f = absurd cc

all_rest : (xs ys : List ℕ) → list_all is_rest xs ≡ true → list_all is_rest ys ≡ true → list_all is_rest (xs ++ ys) ≡ true
all_rest [] ys h g = g
all_rest (x ∷ xs) ys h g = joined (is_rest x) (list_all is_rest xs) (list_all is_rest (xs ++ ys)) h (λ t. all_rest xs ys t g)

digit_rest : (d : ℕ) → d < 10 → is_rest (48 + d) ≡ true
digit_rest d h = grind arith

digits_rest : (n : ℕ) → n < 2 ^ 64 → list_all is_rest (decimal n) ≡ true
digits_rest = decimal_by_steps (λ n ds. list_all is_rest ds ≡ true)
    (λ n h. rw (digit_rest n h) refl)
    (λ n ds l h. all_rest ds ((48 + n % 10) ∷ []) h (rw (digit_rest (n % 10) (omega arith)) refl))

numbered : (name : List ℕ) (n : ℕ) → n < 2 ^ 64 → IsTrue (is_identifier name) → IsTrue (is_identifier (name ++ decimal n))
numbered [] n l h = absurd cc
numbered (b ∷ bs) n l h = joined (is_start b) (list_all is_rest bs) (list_all is_rest (bs ++ decimal n)) h (λ t. all_rest bs (decimal n) t (digits_rest n l))

create : IsName (codes "CreateInstance")
create = record { identifier = refl; short = omega arith }

factory_named : (k : ℕ) → k + 1 < 2 ^ 64 → IsName (factory_name k)
factory_named k l = go (k == 0)
  where
    short : length (codes "CreateInstance" ++ decimal (k + 1)) ≤ 255
    short = omega (arith, length-append (codes "CreateInstance") (decimal (k + 1)), length-decimal-le 20 (k + 1) (omega arith) (omega (arith, l)) (omega (arith, l)), create.short)

    go : (b : Bool) → IsName (cond b (codes "CreateInstance") (codes "CreateInstance" ++ decimal (k + 1)))
    go true = create
    go false = record { identifier = numbered (codes "CreateInstance") (k + 1) l create.identifier; short = short }

-- ---- what is made of a class

abbrev IsGoodMember : Member → Type 0
IsGoodMember m = All IsGoodUse (member_uses m)

abbrev IsGoodSignature : Signature → Type 0
IsGoodSignature s = All IsGoodUse (signature_uses s)

made_signature : (class : List ℕ) (s : Signature) → IsGoodSignature s → IsGoodSignature (makes class s)
made_signature class s h =
    All-append IsGoodUse (map (λ (p : Param). p.ty) s.params) (Reference class ∷ [])
    (split_all IsGoodUse (map (λ (p : Param). p.ty) s.params) (result_uses s.result) h).0
    (All-cons IsGoodUse (Reference class) [] (named_use class) (All-nil IsGoodUse))

factory_members : (class : List ℕ) (k : ℕ) (ss : List Signature) → k + length ss < 2 ^ 64 → All HasNamedParams ss → All IsNamedMember (factory_methods class k ss)
factory_members class k [] l h = All-nil IsNamedMember
factory_members class k (s ∷ ss) l h =
    All-cons IsNamedMember (factory_method class k s) (factory_methods class (k + 1) ss)
    (record { own = name; abi_own = record { identifier = name.identifier; short = omega (arith, name.short) }; params = All-head HasNamedParams s ss h })
    (factory_members class (k + 1) ss (omega (arith, l)) (All-tail HasNamedParams s ss h))
  where
    name : IsName (factory_name k)
    name = factory_named k (omega (arith, l))

factory_uses : (class : List ℕ) (k : ℕ) (ss : List Signature) → All IsGoodSignature ss → All IsGoodMember (factory_methods class k ss)
factory_uses class k [] h = All-nil IsGoodMember
factory_uses class k (s ∷ ss) h =
    All-cons IsGoodMember (factory_method class k s) (factory_methods class (k + 1) ss) (made_signature class s (All-head IsGoodSignature s ss h)) (factory_uses class (k + 1) ss (All-tail IsGoodSignature s ss h))

good_interface : (c : WrittenClass) (name : List ℕ) (ms : List Member) → All IsNamedMember ms → All IsGoodMember ms → IsGood (interface_of c name ms)
good_interface c name ms n u = record { named = n; uses = flat_within IsGoodUse member_uses ms u }

first_good : (us : List TypeUse) → All IsGoodUse us → All IsGoodUse (result_uses (first_use us))
first_good [] h = All-nil IsGoodUse
first_good (u ∷ us) h = All-cons IsGoodUse u [] (All-head IsGoodUse u us h) (All-nil IsGoodUse)

module _ (i : PlacedItem) (c : WrittenClass) (named : HasNamedParts (written.Class c)) (few : HasFew (written.Class c)) (uses : All IsGoodUse (class_uses c)) where
  abbrev own_list : List TypeUse
  own_list = c.listed ++ flat_map signature_uses c.constructors

  last_split : All IsGoodUse (own_list ++ flat_map member_uses c.members) × All IsGoodUse (flat_map member_uses c.statics)
  last_split = split_all IsGoodUse (own_list ++ flat_map member_uses c.members) (flat_map member_uses c.statics) uses

  next_split : All IsGoodUse own_list × All IsGoodUse (flat_map member_uses c.members)
  next_split = split_all IsGoodUse own_list (flat_map member_uses c.members) last_split.0

  first_split : All IsGoodUse c.listed × All IsGoodUse (flat_map signature_uses c.constructors)
  first_split = split_all IsGoodUse c.listed (flat_map signature_uses c.constructors) next_split.0

  listed_good : All IsGoodUse (listed_by c)
  listed_good =
      All-append IsGoodUse (own_interface c) c.listed
      (where_within IsGoodUse (makes_default c) (Reference (made_name c.name [])) (named_use (made_name c.name []))) first_split.0

  itself_good : IsGood (class_itself c)
  itself_good = record { named = tt; uses = All-append IsGoodUse (result_uses (first_use (listed_by c))) (listed_by c) (first_good (listed_by c) listed_good) listed_good }

  abbrev with_some : List Signature
  with_some = filter takes_some c.constructors

  factory_good : IsGood (interface_of c (made_name c.name (codes "Factory")) (factory_methods c.name 0 with_some))
  factory_good =
      good_interface c (made_name c.name (codes "Factory")) (factory_methods c.name 0 with_some)
      (factory_members c.name 0 with_some (omega (arith, few, length-filter takes_some c.constructors, count_by-le-length takes_some c.constructors)) (All-filter takes_some HasNamedParams c.constructors named.constructors))
      (factory_uses c.name 0 with_some (All-filter takes_some IsGoodSignature c.constructors (flat_split IsGoodUse signature_uses c.constructors first_split.1)))

  made_good : All IsGoodSite (made_sites c i.places)
  made_good =
      All-append IsGoodSite (where_ (makes_default c) (default_site c i.places) ++ where_ (makes_statics c) (statics_site c i.places)) (where_ (makes_factory c) (factory_site c i.places))
      (All-append IsGoodSite (where_ (makes_default c) (default_site c i.places)) (where_ (makes_statics c) (statics_site c i.places))
      (where_within IsGoodSite (makes_default c) (default_site c i.places) (good_interface c (made_name c.name []) c.members named.members (flat_split IsGoodUse member_uses c.members next_split.1)))
      (where_within IsGoodSite (makes_statics c) (statics_site c i.places) (good_interface c (made_name c.name (codes "Statics")) c.statics named.statics (flat_split IsGoodUse member_uses c.statics last_split.1))))
      (where_within IsGoodSite (makes_factory c) (factory_site c i.places) factory_good)

  class_good : All IsGoodSite (sites_by i (written.Class c))
  class_good = All-cons IsGoodSite (record { decl = class_itself c; places = record { at = i.places.at; parts = [] } }) (made_sites c i.places) itself_good made_good

-- ---- all declarations of items

done_good : (id : Option ℕ) (d : Declaration) → IsWritten (written.Done d) → IsNamedDeclaration d → All IsGoodUse (declaration_uses d) → IsGood (with_id id d)
done_good id (Enum name version flags cases) w n u = record { named = n; uses = u }
done_good id (Struct name version fields) w n u = record { named = n; uses = u }
done_good id (Delegate name version own invoke) w n u = record { named = n; uses = u }
done_good id (Interface name version own owner requires_ members) w n u = record { named = n; uses = u }
done_good id (Class name version fixed default has direct factories statics) w n u = absurd w

kind_good : (i : PlacedItem) (w : Written) → HasNamedParts w → HasFew w → IsWritten w → All IsGoodUse (written_uses w) → All IsGoodSite (sites_by i w)
kind_good i (written.Done d) n f w u = All-cons IsGoodSite (record { decl = with_id i.id d; places = i.places }) [] (done_good i.id d w n u) (All-nil IsGoodSite)
kind_good i (written.Class c) n f w u = class_good i c n f u

pub raw_good : (items : List PlacedItem) → All IsBounded items → AreNamed items → AreApplied items → All IsGoodSite (raw items)
raw_good items bounded named applied =
    flat_within IsGoodSite item_sites items
    (λ k d l. kind_good (get_or items k d) (get_or items k d).item (named k d l) (bounded k d l).few (bounded k d l).as_written
    (good_uses (written_uses (get_or items k d).item) (bounded k d l).uses (applied k d l)))

-- ---- closed lists

listed_of : (d : Declaration) → IsGood d → All IsGoodUse (listed_in d)
listed_of (Enum name version flags cases) h = All-nil IsGoodUse
listed_of (Struct name version fields) h = All-nil IsGoodUse
listed_of (Delegate name version own invoke) h = All-nil IsGoodUse
listed_of (Interface name version own owner requires_ members) h = (split_all IsGoodUse requires_ (flat_map member_uses members) h.uses).0
listed_of (Class name version fixed default has direct factories statics) h = (split_all IsGoodUse (result_uses default) has h.uses).1

pub with_good : (whole : List TypeUse) (d : Declaration) → All IsGoodUse whole → IsGood d → IsGood (with_list whole d)
with_good whole (Enum name version flags cases) w h = h
with_good whole (Struct name version fields) w h = h
with_good whole (Delegate name version own invoke) w h = h
with_good whole (Interface name version own owner requires_ members) w h =
    record { named = h.named; uses = All-append IsGoodUse whole (flat_map member_uses members) w (split_all IsGoodUse requires_ (flat_map member_uses members) h.uses).1 }
with_good whole (Class name version fixed default has direct factories statics) w h =
    record { named = h.named; uses = All-append IsGoodUse (result_uses default) whole (split_all IsGoodUse (result_uses default) has h.uses).0 w }

decls_listed : (types : List Declaration) → All IsGood types → All IsGoodUse (flat_map listed_in types)
decls_listed types h = flat_within IsGoodUse listed_in types (All-weaker IsGood (λ d. All IsGoodUse (listed_in d)) listed_of types h)

closing_good : (types : List Declaration) (x y : Site) → All IsGood types → IsClosing types x y → IsGoodSite x → IsGoodSite y
closing_good types x y t h g =
    let whole : List TypeUse = h.decl.0 in
    let from : All IsGoodUse (uses_from types (listed_in x.decl)) = All-append IsGoodUse (listed_in x.decl) (flat_map listed_in types) (listed_of x.decl g) (decls_listed types t) in
    let each : All IsGoodUse whole = (λ k d l. All-contains IsGoodUse (uses_from types (listed_in x.decl)) (get_or whole k d) from (h.decl.1.written (get_or whole k d) (All-contains_itself whole k d l))) in
    subst IsGood (sym h.decl.2) (with_good whole x.decl each g)

pub closed_good : (types : List Declaration) (sites closed : List Site) → All IsGood types → AllZip (IsClosing types) sites closed → All IsGoodSite sites → All IsGoodSite closed
closed_good types [] [] t h g = All-nil IsGoodSite
closed_good types [] (y ∷ ys) t h g = absurd h
closed_good types (x ∷ xs) [] t h g = absurd h
closed_good types (x ∷ xs) (y ∷ ys) t h g =
    All-cons IsGoodSite y ys (closing_good types x y t h.0 (All-head IsGoodSite x xs g)) (closed_good types xs ys t h.1 (All-tail IsGoodSite x xs g))
