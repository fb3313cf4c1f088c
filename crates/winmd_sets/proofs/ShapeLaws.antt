-- What holds of all lines of declarations, since it holds of the pieces that they are made of.
use Rattle.std.proofs.Common.{◌≡◌, ℕ, suc, Bool, true, false, List, [], ◌∷◌, ◌++◌, map, Option, Some, None, refl, sym, subst}
use Rattle.std.specs.Prelude.{◌||◌, not, ⊤, codes}
use Rattle.std.specs.List.{list_any, flat_map, AllByRecursion}
use Rattle.std.specs.Str.{bytes_eq}
use Rattle.std.proofs.lemmas.List.Concat.{flat_map-cons}
use Rattle.md_schema.specs.declared.table.Table.{Table}
use Rattle.md_schema.specs.declared.table.Table.TheVariants as tables
use Rattle.wr_base.specs.declared.declaration.Case.{Case}
use Rattle.winmd_lines.specs.Lines.{Drawn, Number, Words, Bytes, Last, Type_, OfProperty, OfMethod, Line, line}
use Rattle.winmd_sets.specs.Declared.{lines_of, own_line, body_lines, typed, owner_of_type, type_flags, type_base, interface_line, class_interface, is_default, named_attribute}
use Rattle.winmd_lines.specs.Makers.{Maker}
use Rattle.winmd_sets.specs.Members.{when, attribute, field_line, element, case_lines, struct_field, member_lines, members_lines, method_lines, signature_lines, accessor, getter, setter, adder, remover, map_line, map_lines, method_names, param_lines, is_property, is_event}
use Rattle.winmd_lines.specs.Names.{is_in}
use Rattle.winmd_lines.specs.Positions.{choose, NoneIn, Carries, Apart, AllOwned, last}
use Rattle.wr_base.specs.Trees.{DeclTree, UseTree, enum, struct, delegate, interface, class, FieldTree, MemberTree, method, property, event, ParamTree, SignatureTree, name_of}
use Rattle.winmd_sets.specs.Values.{number_argument, words_argument, type_argument, id_argument}
use Rattle.sig_blobs.specs.declared.argument.Argument.{Argument}

abbrev pub property_line : List ℕ → UseTree → Line
property_line name u = line tables.Property (Number 0 ∷ Words name ∷ OfProperty u ∷ [])

abbrev pub event_line : List ℕ → UseTree → Line
event_line name u = line tables.Event (Number 0 ∷ Words name ∷ Type_ u ∷ [])

-- ---- what is closed under joining, and holds of the pieces

pub record Pieces (P : List Line → Type 0) : Type 0 where
  pub nothing : P []
  pub join : (xs ys : List Line) → P xs → P ys → P (xs ++ ys)
  pub attributed : (maker : Maker) (arguments : List Argument) → P (attribute tables.TypeDef maker arguments ∷ [])
  pub holder : (signature : List ℕ) → P (field_line 0x0601 (codes "value__") (Bytes signature) ∷ [])
  pub any_ : (flags impl_flags : ℕ) (name : List ℕ) (signature : Drawn) (params : List ParamTree) → P (method_lines flags impl_flags name signature params)
  pub field_ : (f : FieldTree) → P (struct_field f ∷ [])
  pub case_ : (name : List ℕ) (flags : Bool) (c : Case) → P (case_lines name flags c)
  pub method_ : (earlier : List (List ℕ)) (name abi : List ℕ) (sig : SignatureTree) → P (member_lines earlier (method name abi sig))
  pub accessor_ : (table : Table) (meaning : ℕ) (name : List ℕ) (sig : SignatureTree) → P (accessor table meaning name sig)
  pub property_ : (name : List ℕ) (u : UseTree) → P (property_line name u ∷ [])
  pub event_ : (name : List ℕ) (u : UseTree) → P (event_line name u ∷ [])
  pub properties : P (map_line tables.PropertyMap tables.Property ∷ [])
  pub events : P (map_line tables.EventMap tables.Event ∷ [])
  pub listed : (default : Option UseTree) (u : UseTree) → P (class_interface default u)

pub of_flat : {A : Type 0} (P : List Line → Type 0) (p : Pieces P) (f : A → List Line) (Q : A → Type 0) → ((x : A) → Q x → P (f x)) → (xs : List A) → AllByRecursion Q xs → P (flat_map f xs)
of_flat P p f Q h [] all = p.nothing
of_flat P p f Q h (x ∷ xs) all = subst P (sym (flat_map-cons f x xs)) (p.join (f x) (flat_map f xs) (h x all.0) (of_flat P p f Q h xs all.1))

of_when : (P : List Line → Type 0) (p : Pieces P) (test : Bool) (lines : List Line) → P lines → P (when test lines)
of_when P p true lines h = h
of_when P p false lines h = p.nothing

pub of_member : (P : List Line → Type 0) (p : Pieces P) (earlier : List (List ℕ)) (m : MemberTree) → P (member_lines earlier m)
of_member P p earlier (method name abi sig) = p.method_ earlier name abi sig
of_member P p earlier (property name u put) =
    p.join (property_line name u ∷ accessor tables.Property 2 (codes "get_" ++ name) (getter u)) (when put (accessor tables.Property 1 (codes "put_" ++ name) (setter u)))
    (p.join (property_line name u ∷ []) (accessor tables.Property 2 (codes "get_" ++ name) (getter u)) (p.property_ name u) (p.accessor_ tables.Property 2 (codes "get_" ++ name) (getter u)))
    (of_when P p put (accessor tables.Property 1 (codes "put_" ++ name) (setter u)) (p.accessor_ tables.Property 1 (codes "put_" ++ name) (setter u)))
of_member P p earlier (event name u) =
    p.join (event_line name u ∷ accessor tables.Event 8 (codes "add_" ++ name) (adder u)) (accessor tables.Event 0x10 (codes "remove_" ++ name) remover)
    (p.join (event_line name u ∷ []) (accessor tables.Event 8 (codes "add_" ++ name) (adder u)) (p.event_ name u) (p.accessor_ tables.Event 8 (codes "add_" ++ name) (adder u)))
    (p.accessor_ tables.Event 0x10 (codes "remove_" ++ name) remover)

pub of_members : (P : List Line → Type 0) (p : Pieces P) (earlier : List (List ℕ)) (members : List MemberTree) → P (members_lines earlier members)
of_members P p earlier [] = p.nothing
of_members P p earlier (m ∷ ms) = p.join (member_lines earlier m) (members_lines (method_names m ++ earlier) ms) (of_member P p earlier m) (of_members P p (method_names m ++ earlier) ms)

pub all_true : {A : Type 0} (xs : List A) → AllByRecursion (λ x. ⊤) xs
all_true [] = tt
all_true (x ∷ xs) = (tt, all_true xs)

of_owner : (P : List Line → Type 0) (p : Pieces P) (owner : Option (List ℕ)) → P (owner_of_type owner)
of_owner P p None = p.nothing
of_owner P p (Some name) = p.attributed Maker.ExclusiveTo (type_argument name)

pub of_fields : (P : List Line → Type 0) (p : Pieces P) (fields : List FieldTree) → P (map struct_field fields)
of_fields P p [] = p.nothing
of_fields P p (f ∷ fs) = p.join (struct_field f ∷ []) (map struct_field fs) (p.field_ f) (of_fields P p fs)

of_requires : (P : List Line → Type 0) (p : Pieces P) (us : List UseTree) → P (map interface_line us)
of_requires P p [] = p.nothing
of_requires P p (u ∷ us) = p.join (interface_line u ∷ []) (map interface_line us) (p.listed None u) (of_requires P p us)

of_has : (P : List Line → Type 0) (p : Pieces P) (default : Option UseTree) (us : List UseTree) → P (flat_map (class_interface default) us)
of_has P p default us = of_flat P p (class_interface default) (λ u. ⊤) (λ u t. p.listed default u) us (all_true us)

of_named : (P : List Line → Type 0) (p : Pieces P) (maker : Maker) (version : ℕ) (names : List (List ℕ)) → P (map (named_attribute maker version) names)
of_named P p maker version [] = p.nothing
of_named P p maker version (n ∷ ns) = p.join (named_attribute maker version n ∷ []) (map (named_attribute maker version) ns) (p.attributed maker (type_argument n ++ number_argument version)) (of_named P p maker version ns)

of_maps : (P : List Line → Type 0) (p : Pieces P) (members : List MemberTree) → P (map_lines members)
of_maps P p members = p.join (when (list_any is_property members) (map_line tables.PropertyMap tables.Property ∷ [])) _ (of_when P p (list_any is_property members) _ p.properties) (of_when P p (list_any is_event members) _ p.events)

pub of_body : (P : List Line → Type 0) (p : Pieces P) (d : DeclTree) → P (body_lines d)
of_body P p (enum name version flags cases) =
    p.join (when flags (attribute tables.TypeDef Maker.Flags [] ∷ [])) _ (of_when P p flags _ (p.attributed Maker.Flags []))
    (p.join (attribute tables.TypeDef Maker.Version (number_argument version) ∷ []) _ (p.attributed Maker.Version (number_argument version))
    (p.join (field_line 0x0601 (codes "value__") (Bytes (0x06 ∷ element flags ∷ [])) ∷ []) _ (p.holder (0x06 ∷ element flags ∷ []))
    (of_flat P p (case_lines name flags) (λ c. ⊤) (λ c t. p.case_ name flags c) cases (all_true cases))))
of_body P p (interface name version id owner requires_ members) =
    p.join (attribute tables.TypeDef Maker.Guid (id_argument id) ∷ []) _ (p.attributed Maker.Guid (id_argument id))
    (p.join (attribute tables.TypeDef Maker.Version (number_argument version) ∷ []) _ (p.attributed Maker.Version (number_argument version))
    (p.join (owner_of_type owner) _ (of_owner P p owner)
    (p.join (map interface_line requires_) _ (of_requires P p requires_)
    (p.join (map_lines members) _ (of_maps P p members) (of_members P p [] members)))))
of_body P p (struct name version fields) =
    p.join (attribute tables.TypeDef Maker.Version (number_argument version) ∷ []) _ (p.attributed Maker.Version (number_argument version)) (of_fields P p fields)
of_body P p (delegate name version id invoke) =
    p.join (attribute tables.TypeDef Maker.Guid (id_argument id) ∷ []) _ (p.attributed Maker.Guid (id_argument id))
    (p.join (attribute tables.TypeDef Maker.Version (number_argument version) ∷ []) _ (p.attributed Maker.Version (number_argument version))
    (p.join (method_lines 0x1881 3 (codes ".ctor") (Bytes (0x20 ∷ 2 ∷ 0x01 ∷ 0x1C ∷ 0x18 ∷ [])) []) (signature_lines 0x09C6 3 (codes "Invoke") invoke)
    (p.any_ 0x1881 3 (codes ".ctor") (Bytes (0x20 ∷ 2 ∷ 0x01 ∷ 0x1C ∷ 0x18 ∷ [])) []) (p.any_ 0x09C6 3 (codes "Invoke") (OfMethod invoke) invoke.params)))
of_body P p (class name version fixed default has direct factories statics) =
    p.join (attribute tables.TypeDef Maker.Version (number_argument version) ∷ []) _ (p.attributed Maker.Version (number_argument version))
    (p.join (flat_map (class_interface default) has) _ (of_has P p default has)
    (p.join (when direct (attribute tables.TypeDef Maker.Activatable (number_argument version) ∷ [])) _ (of_when P p direct _ (p.attributed Maker.Activatable (number_argument version)))
    (p.join (map (named_attribute Maker.Factory version) factories) _ (of_named P p Maker.Factory version factories) (of_named P p Maker.Static version statics))))

-- and of a declaration's own row
abbrev pub OfTypes : (List Line → Type 0) → Type 0
OfTypes P = (flags : ℕ) (name : List ℕ) (base : Drawn) → P (typed flags name base ∷ [])

pub of_lines : (P : List Line → Type 0) (p : Pieces P) → OfTypes P → (d : DeclTree) → P (lines_of d)
of_lines P p own d = p.join (own_line d ∷ []) (body_lines d) (own (type_flags d) (name_of d) (type_base d)) (of_body P p d)

pub of_all : (P : List Line → Type 0) (p : Pieces P) → OfTypes P → (ds : List DeclTree) → P (flat_map lines_of ds)
of_all P p own ds = of_flat P p lines_of (λ d. ⊤) (λ d t. of_lines P p own d) ds (all_true ds)

-- ---- joining

pub none_join : (table : Table) (xs ys : List Line) → NoneIn table xs → NoneIn table ys → NoneIn table (xs ++ ys)
none_join table [] ys h g = g
none_join table (x ∷ xs) ys h g = (h.0, none_join table xs ys h.1 g)

pub owned_join : (keyed : Table) (column : ℕ) (xs ys : List Line) → AllOwned keyed column xs → AllOwned keyed column ys → AllOwned keyed column (xs ++ ys)
owned_join keyed column [] ys h g = g
owned_join keyed column (x ∷ xs) ys h g = (h.0, owned_join keyed column xs ys h.1 g)

chosen : (b : Bool) (A B : Type 0) → (b ≡ true → A) → (b ≡ false → B) → choose b A B
chosen true A B f g = f refl
chosen false A B f g = g refl

pub carries_join : (table : Table) (column : ℕ) (member : Table) (xs ys : List Line) → Carries table column member xs → Carries table column member ys → Carries table column member (xs ++ ys)
carries_join table column member [] ys h g = g
carries_join table column member (x ∷ xs) ys h g = chosen (is_in table x) _ _ (λ e. rw e at h) (λ e. let both = rw e at h in (both.0, carries_join table column member xs ys both.1 g))

pub apart_join : (keyed : Table) (column : ℕ) (owner : Table) (xs ys : List Line) → Apart keyed column owner xs → Apart keyed column owner ys → Apart keyed column owner (xs ++ ys)
apart_join keyed column owner [] ys h g = g
apart_join keyed column owner (x ∷ xs) ys h g = chosen (is_in owner x) _ _ (λ e. tt) (λ e. let both = rw e at h in (both.0, apart_join keyed column owner xs ys both.1 g))

-- ---- the pieces

pub none_params : (table : Table) → is_in table (line tables.Param []) ≡ false → (n : ℕ) (ps : List ParamTree) → NoneIn table (param_lines n ps)
none_params table h n [] = tt
none_params table h n (p ∷ ps) = (h, none_params table h (suc n) ps)

pub none_when : (table : Table) (test : Bool) (lines : List Line) → NoneIn table lines → NoneIn table (when test lines)
none_when table true lines h = h
none_when table false lines h = tt

pub none_method : (table : Table) → is_in table (line tables.CustomAttribute []) ≡ false → is_in table (line tables.MethodDef []) ≡ false → is_in table (line tables.Param []) ≡ false → (earlier : List (List ℕ)) (name abi : List ℕ) (sig : SignatureTree)
    → NoneIn table (member_lines earlier (method name abi sig))
none_method table attribute_ method_ param_ earlier name abi sig =
    none_join table (signature_lines 0x05C6 0 name sig) (when (not (bytes_eq abi name) || list_any (bytes_eq name) earlier) (attribute tables.MethodDef Maker.Overload (words_argument abi) ∷ []))
    (method_, none_params table param_ 1 sig.params) (none_when table (not (bytes_eq abi name) || list_any (bytes_eq name) earlier) (attribute tables.MethodDef Maker.Overload (words_argument abi) ∷ []) (attribute_, tt))

pub none_accessor : (table : Table) → is_in table (line tables.MethodDef []) ≡ false → is_in table (line tables.Param []) ≡ false → is_in table (line tables.MethodSemantics []) ≡ false → (kind : Table) (meaning : ℕ) (name : List ℕ) (sig : SignatureTree) → NoneIn table (accessor kind meaning name sig)
none_accessor table method_ param_ semantics kind meaning name sig =
    none_join table (signature_lines 0x0DC6 0 name sig) (line tables.MethodSemantics (Number meaning ∷ Last tables.MethodDef ∷ Last kind ∷ []) ∷ []) (method_, none_params table param_ 1 sig.params) (semantics, tt)

pub none_listed : (table : Table) → is_in table (line tables.InterfaceImpl []) ≡ false → is_in table (line tables.CustomAttribute []) ≡ false → (default : Option UseTree) (u : UseTree) → NoneIn table (class_interface default u)
none_listed table impl attribute_ default u = (impl, none_when table (is_default default u) (attribute tables.InterfaceImpl Maker.Default [] ∷ []) (attribute_, tt))

-- tables without rows of such declarations, and TypeDef behind a declaration's own row
pub none_pieces : (table : Table) → is_in table (line tables.CustomAttribute []) ≡ false → is_in table (line tables.Field []) ≡ false → is_in table (line tables.Constant []) ≡ false → is_in table (line tables.MethodDef []) ≡ false
    → is_in table (line tables.Param []) ≡ false → is_in table (line tables.PropertyMap []) ≡ false → is_in table (line tables.EventMap []) ≡ false
    → is_in table (line tables.MethodSemantics []) ≡ false → is_in table (line tables.Property []) ≡ false → is_in table (line tables.Event []) ≡ false → is_in table (line tables.InterfaceImpl []) ≡ false → Pieces (NoneIn table)
none_pieces table attribute_ field constant method_ param_ properties events semantics property__ event__ impl = record {
  listed = λ default u. none_listed table impl attribute_ default u;
  accessor_ = λ kind meaning name sig. none_accessor table method_ param_ semantics kind meaning name sig;
  property_ = λ name u. (property__, tt);
  event_ = λ name u. (event__, tt);
  nothing = tt;
  join = none_join table;
  attributed = λ maker arguments. (attribute_, tt);
  holder = λ signature. (field, tt);
  any_ = λ flags impl_flags name signature params. (method_, none_params table param_ 1 params);
  field_ = λ f. (field, tt);
  case_ = λ name flags c. (field, (constant, tt));
  method_ = none_method table attribute_ method_ param_;
  properties = (properties, tt);
  events = (events, tt);
}

-- what has no keyed line
pub owned_of_none : (keyed : Table) (column : ℕ) (ls : List Line) → NoneIn keyed ls → AllOwned keyed column ls
owned_of_none keyed column [] h = tt
owned_of_none keyed column (l ∷ ls) h = (rw h.0 tt, owned_of_none keyed column ls h.1)

pub apart_of_none : (keyed : Table) (column : ℕ) (owner : Table) (ls : List Line) → NoneIn keyed ls → Apart keyed column owner ls
apart_of_none keyed column owner [] h = tt
apart_of_none keyed column owner (l ∷ ls) h = chosen (is_in owner l) _ _ (λ e. tt) (λ e. (rw h.0 refl, apart_of_none keyed column owner ls h.1))

apart_when : (keyed : Table) (column : ℕ) (owner : Table) (test : Bool) (ls : List Line) → Apart keyed column owner ls → Apart keyed column owner (when test ls)
apart_when keyed column owner true ls h = h
apart_when keyed column owner false ls h = tt

carries_when : (table : Table) (column : ℕ) (member : Table) (test : Bool) (ls : List Line) → Carries table column member ls → Carries table column member (when test ls)
carries_when table column member true ls h = h
carries_when table column member false ls h = tt

overload_lines : List (List ℕ) → List ℕ → List ℕ → List Line
overload_lines earlier name abi = when (not (bytes_eq abi name) || list_any (bytes_eq name) earlier) (attribute tables.MethodDef Maker.Overload (words_argument abi) ∷ [])

pub attributes_owned : Pieces (AllOwned tables.CustomAttribute 0)
unfolding overload_lines
attributes_owned = record {
  listed = λ default u. (tt, default_owned (is_default default u));
  nothing = tt;
  join = owned_join tables.CustomAttribute 0;
  attributed = λ maker arguments. (last tables.TypeDef, tt);
  holder = λ signature. (tt, tt);
  any_ = λ flags impl_flags name signature params. (tt, owned_of_none tables.CustomAttribute 0 (param_lines 1 params) (none_params tables.CustomAttribute refl 1 params));
  field_ = λ f. (tt, tt);
  case_ = λ name flags c. (tt, (tt, tt));
  method_ = λ earlier name abi sig. owned_join tables.CustomAttribute 0 (signature_lines 0x05C6 0 name sig) (overload_lines earlier name abi)
      (tt, owned_of_none tables.CustomAttribute 0 (param_lines 1 sig.params) (none_params tables.CustomAttribute refl 1 sig.params)) (when_owned (not (bytes_eq abi name) || list_any (bytes_eq name) earlier) abi);
  accessor_ = λ kind meaning name sig. owned_of_none tables.CustomAttribute 0 (accessor kind meaning name sig) (none_accessor tables.CustomAttribute refl refl refl kind meaning name sig);
  property_ = λ name u. (tt, tt);
  event_ = λ name u. (tt, tt);
  properties = (tt, tt);
  events = (tt, tt);
}
  where
    default_owned : (test : Bool) → AllOwned tables.CustomAttribute 0 (when test (attribute tables.InterfaceImpl Maker.Default [] ∷ []))
    default_owned true = (last tables.InterfaceImpl, tt)
    default_owned false = tt

    when_owned : (test : Bool) (abi : List ℕ) → AllOwned tables.CustomAttribute 0 (when test (attribute tables.MethodDef Maker.Overload (words_argument abi) ∷ []))
    when_owned true abi = (last tables.MethodDef, tt)
    when_owned false abi = tt

pub constants_owned : Pieces (AllOwned tables.Constant 2)
constants_owned = record {
  listed = λ default u. owned_of_none tables.Constant 2 (class_interface default u) (none_listed tables.Constant refl refl default u);
  nothing = tt;
  join = owned_join tables.Constant 2;
  attributed = λ maker arguments. (tt, tt);
  holder = λ signature. (tt, tt);
  any_ = λ flags impl_flags name signature params. (tt, owned_of_none tables.Constant 2 (param_lines 1 params) (none_params tables.Constant refl 1 params));
  field_ = λ f. (tt, tt);
  case_ = λ name flags c. (tt, (last tables.Field, tt));
  method_ = λ earlier name abi sig. owned_of_none tables.Constant 2 (member_lines earlier (method name abi sig)) (none_method tables.Constant refl refl refl earlier name abi sig);
  accessor_ = λ kind meaning name sig. owned_of_none tables.Constant 2 (accessor kind meaning name sig) (none_accessor tables.Constant refl refl refl kind meaning name sig);
  property_ = λ name u. (tt, tt);
  event_ = λ name u. (tt, tt);
  properties = (tt, tt);
  events = (tt, tt);
}

pub constants_apart : Pieces (Apart tables.Constant 2 tables.Field)
constants_apart = record {
  listed = λ default u. apart_of_none tables.Constant 2 tables.Field (class_interface default u) (none_listed tables.Constant refl refl default u);
  nothing = tt;
  join = apart_join tables.Constant 2 tables.Field;
  attributed = λ maker arguments. (refl, tt);
  holder = λ signature. tt;
  any_ = λ flags impl_flags name signature params. (refl, apart_of_none tables.Constant 2 tables.Field (param_lines 1 params) (none_params tables.Constant refl 1 params));
  field_ = λ f. tt;
  case_ = λ name flags c. tt;
  method_ = λ earlier name abi sig. apart_of_none tables.Constant 2 tables.Field (member_lines earlier (method name abi sig)) (none_method tables.Constant refl refl refl earlier name abi sig);
  accessor_ = λ kind meaning name sig. apart_of_none tables.Constant 2 tables.Field (accessor kind meaning name sig) (none_accessor tables.Constant refl refl refl kind meaning name sig);
  property_ = λ name u. (refl, tt);
  event_ = λ name u. (refl, tt);
  properties = (refl, tt);
  events = (refl, tt);
}

-- a method's attributes stand behind it
pub overloads_apart : Pieces (Apart tables.CustomAttribute 0 tables.MethodDef)
overloads_apart = record {
  listed = λ default u. (refl, apart_when tables.CustomAttribute 0 tables.MethodDef (is_default default u) (attribute tables.InterfaceImpl Maker.Default [] ∷ []) (refl, tt));
  nothing = tt;
  join = apart_join tables.CustomAttribute 0 tables.MethodDef;
  attributed = λ maker arguments. (refl, tt);
  holder = λ signature. (refl, tt);
  any_ = λ flags impl_flags name signature params. tt;
  field_ = λ f. (refl, tt);
  case_ = λ name flags c. (refl, (refl, tt));
  method_ = λ earlier name abi sig. tt;
  accessor_ = λ kind meaning name sig. tt;
  property_ = λ name u. (refl, tt);
  event_ = λ name u. (refl, tt);
  properties = (refl, tt);
  events = (refl, tt);
}

-- and so do its parameters
pub params_carried : Pieces (Carries tables.MethodDef 5 tables.Param)
params_carried = record {
  listed = λ default u. (refl, carries_when tables.MethodDef 5 tables.Param (is_default default u) (attribute tables.InterfaceImpl Maker.Default [] ∷ []) (refl, tt));
  nothing = tt;
  join = carries_join tables.MethodDef 5 tables.Param;
  attributed = λ maker arguments. (refl, tt);
  holder = λ signature. (refl, tt);
  any_ = λ flags impl_flags name signature params. refl;
  field_ = λ f. (refl, tt);
  case_ = λ name flags c. (refl, (refl, tt));
  method_ = λ earlier name abi sig. refl;
  accessor_ = λ kind meaning name sig. refl;
  property_ = λ name u. (refl, tt);
  event_ = λ name u. (refl, tt);
  properties = (refl, tt);
  events = (refl, tt);
}

-- the meaning of a method stands behind it, and belongs to one
pub semantics_apart : Pieces (Apart tables.MethodSemantics 1 tables.MethodDef)
semantics_apart = record {
  listed = λ default u. apart_of_none tables.MethodSemantics 1 tables.MethodDef (class_interface default u) (none_listed tables.MethodSemantics refl refl default u);
  nothing = tt;
  join = apart_join tables.MethodSemantics 1 tables.MethodDef;
  attributed = λ maker arguments. (refl, tt);
  holder = λ signature. (refl, tt);
  any_ = λ flags impl_flags name signature params. tt;
  field_ = λ f. (refl, tt);
  case_ = λ name flags c. (refl, (refl, tt));
  method_ = λ earlier name abi sig. tt;
  accessor_ = λ kind meaning name sig. tt;
  property_ = λ name u. (refl, tt);
  event_ = λ name u. (refl, tt);
  properties = (refl, tt);
  events = (refl, tt);
}

pub semantics_owned : Pieces (AllOwned tables.MethodSemantics 1)
semantics_owned = record {
  listed = λ default u. owned_of_none tables.MethodSemantics 1 (class_interface default u) (none_listed tables.MethodSemantics refl refl default u);
  nothing = tt;
  join = owned_join tables.MethodSemantics 1;
  attributed = λ maker arguments. (tt, tt);
  holder = λ signature. (tt, tt);
  any_ = λ flags impl_flags name signature params. (tt, owned_of_none tables.MethodSemantics 1 (param_lines 1 params) (none_params tables.MethodSemantics refl 1 params));
  field_ = λ f. (tt, tt);
  case_ = λ name flags c. (tt, (tt, tt));
  method_ = λ earlier name abi sig. owned_of_none tables.MethodSemantics 1 (member_lines earlier (method name abi sig)) (none_method tables.MethodSemantics refl refl refl earlier name abi sig);
  accessor_ = λ kind meaning name sig. owned_join tables.MethodSemantics 1 (signature_lines 0x0DC6 0 name sig) (line tables.MethodSemantics (Number meaning ∷ Last tables.MethodDef ∷ Last kind ∷ []) ∷ [])
      (tt, owned_of_none tables.MethodSemantics 1 (param_lines 1 sig.params) (none_params tables.MethodSemantics refl 1 sig.params)) (last tables.MethodDef, tt);
  property_ = λ name u. (tt, tt);
  event_ = λ name u. (tt, tt);
  properties = (tt, tt);
  events = (tt, tt);
}

-- each interface belongs to a type
pub interfaces_owned : Pieces (AllOwned tables.InterfaceImpl 0)
interfaces_owned = record {
  nothing = tt;
  join = owned_join tables.InterfaceImpl 0;
  listed = λ default u. (last tables.TypeDef, owned_of_none tables.InterfaceImpl 0 (when (is_default default u) (attribute tables.InterfaceImpl Maker.Default [] ∷ [])) (none_when tables.InterfaceImpl (is_default default u) (attribute tables.InterfaceImpl Maker.Default [] ∷ []) (refl, tt)));
  attributed = λ maker arguments. (tt, tt);
  holder = λ signature. (tt, tt);
  any_ = λ flags impl_flags name signature params. (tt, owned_of_none tables.InterfaceImpl 0 (param_lines 1 params) (none_params tables.InterfaceImpl refl 1 params));
  field_ = λ f. (tt, tt);
  case_ = λ name flags c. (tt, (tt, tt));
  method_ = λ earlier name abi sig. owned_of_none tables.InterfaceImpl 0 (member_lines earlier (method name abi sig)) (none_method tables.InterfaceImpl refl refl refl earlier name abi sig);
  accessor_ = λ kind meaning name sig. owned_of_none tables.InterfaceImpl 0 (accessor kind meaning name sig) (none_accessor tables.InterfaceImpl refl refl refl kind meaning name sig);
  property_ = λ name u. (tt, tt);
  event_ = λ name u. (tt, tt);
  properties = (tt, tt);
  events = (tt, tt);
}

-- the attribute of the default stands behind its interface
pub defaults_apart : Pieces (Apart tables.CustomAttribute 0 tables.InterfaceImpl)
unfolding overload_lines
defaults_apart = record {
  nothing = tt;
  join = apart_join tables.CustomAttribute 0 tables.InterfaceImpl;
  listed = λ default u. tt;
  attributed = λ maker arguments. (refl, tt);
  holder = λ signature. (refl, tt);
  any_ = λ flags impl_flags name signature params. (refl, apart_of_none tables.CustomAttribute 0 tables.InterfaceImpl (param_lines 1 params) (none_params tables.CustomAttribute refl 1 params));
  field_ = λ f. (refl, tt);
  case_ = λ name flags c. (refl, (refl, tt));
  method_ = λ earlier name abi sig. apart_join tables.CustomAttribute 0 tables.InterfaceImpl (signature_lines 0x05C6 0 name sig) (overload_lines earlier name abi)
      (refl, apart_of_none tables.CustomAttribute 0 tables.InterfaceImpl (param_lines 1 sig.params) (none_params tables.CustomAttribute refl 1 sig.params)) (apart_when tables.CustomAttribute 0 tables.InterfaceImpl (not (bytes_eq abi name) || list_any (bytes_eq name) earlier) (attribute tables.MethodDef Maker.Overload (words_argument abi) ∷ []) (refl, tt));
  accessor_ = λ kind meaning name sig. apart_of_none tables.CustomAttribute 0 tables.InterfaceImpl (accessor kind meaning name sig) (none_accessor tables.CustomAttribute refl refl refl kind meaning name sig);
  property_ = λ name u. (refl, tt);
  event_ = λ name u. (refl, tt);
  properties = (refl, tt);
  events = (refl, tt);
}
