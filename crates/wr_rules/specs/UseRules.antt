-- Rules on single uses.
use Rattle.std.specs.Prelude.{ℕ, Bool, true, false, not, ◌&&◌, ◌||◌, List, [], Option, Some, None}
use Rattle.std.specs.List.{list_any}
use Rattle.std.specs.Option.{is_some, is_none}
use Rattle.std.specs.Str.{bytes_eq}
use Rattle.std.specs.Prelude.{codes}
use Rattle.ranked.specs.Entries.{Entry}
use Rattle.ranked.specs.First.{Among, Or}
use Rattle.wr_base.specs.declared.code.Code.{Code}
use Rattle.wr_base.specs.declared.code.Code.TheVariants.{Unresolved, WrongKind, FieldType, UseKind, ExclusiveUse, ReferenceArgument, EventType, EventDelegate, InterfaceWanted}
use Rattle.wr_base.specs.declared.type_use.Base.{Base}
use Rattle.wr_base.specs.declared.type_use.Base.TheVariants.{Object}
use Rattle.wr_base.specs.declared.declaration.Declaration.{Declaration}
use Rattle.wr_base.specs.declared.declaration.Declaration.TheVariants.{Delegate, Interface, Class}
use Rattle.found_table.specs.Table.{foundation}
use Rattle.wr_base.specs.Trees.{UseTree, plain, value, reference, instance, list_of, within, among}
use Rattle.wr_rules.specs.Kinds.{Kind, enumeration, structure, delegate, interface, class, Meaning, declared, used, kind_used}
use Rattle.wr_rules.specs.Sites.{Site, If}
use Rattle.wr_rules.specs.Uses.{Role, field, passed, event, listed, by_name, Used, uses_at}

-- there is a kind, and it passes the test
abbrev pub has_kind : (Kind → Bool) → Option Kind → Bool
has_kind test None = false
has_kind test (Some k) = test k

-- an enum or a struct
abbrev pub is_value : Kind → Bool
is_value enumeration = true
is_value structure = true
is_value delegate = false
is_value interface = false
is_value class = false

-- a delegate
abbrev pub is_delegate : Kind → Bool
is_delegate enumeration = false
is_delegate structure = false
is_delegate delegate = true
is_delegate interface = false
is_delegate class = false

-- an interface
abbrev pub is_interface : Kind → Bool
is_interface enumeration = false
is_interface structure = false
is_interface delegate = false
is_interface interface = true
is_interface class = false

-- a delegate, an interface or a class
abbrev pub is_referred : Kind → Bool
is_referred k = not (is_value k)

-- the base type Object
abbrev pub is_object : Base → Bool
is_object Object = true
is_object _ = false

-- a name of factories or statics
abbrev pub is_by_name : Role → Bool
is_by_name by_name = true
is_by_name _ = false

-- the type of a field
abbrev pub is_field : Role → Bool
is_field field = true
is_field _ = false

-- the type of a parameter, a result or a property
abbrev pub is_passed : Role → Bool
is_passed passed = true
is_passed _ = false

-- the type of an event
abbrev pub is_event : Role → Bool
is_event event = true
is_event _ = false

-- an element of a list of interfaces, or the default
abbrev pub is_listed : Role → Bool
is_listed listed = true
is_listed by_name = true
is_listed _ = false

-- the arguments of a use, and all uses within them
abbrev pub inner : UseTree → List UseTree
inner (plain base) = []
inner (value name) = []
inner (reference name) = []
inner (instance name arguments) = among arguments

module _ (types : List Declaration) where
  -- a named type is neither declared nor found, or has another number of arguments than it takes
  abbrev pub unresolved : UseTree → Bool
  unresolved (plain base) = false
  unresolved (value name) = is_none (used types (value name))
  unresolved (reference name) = is_none (used types (reference name))
  unresolved (instance name arguments) = is_none (used types (instance name arguments))

  -- a Value names no enum or struct, or a Reference names one
  abbrev pub wrong_kind : UseTree → Bool
  wrong_kind (plain base) = false
  wrong_kind (value name) = not (has_kind is_value (kind_used types (value name)))
  wrong_kind (reference name) = has_kind is_value (kind_used types (reference name))
  wrong_kind (instance name arguments) = false

  -- neither a base other than Object, nor an enum or a struct
  abbrev pub no_field_type : UseTree → Bool
  no_field_type (plain base) = is_object base
  no_field_type (value name) = not (has_kind is_value (kind_used types (value name)))
  no_field_type (reference name) = not (has_kind is_value (kind_used types (reference name)))
  no_field_type (instance name arguments) = not (has_kind is_value (kind_used types (instance name arguments)))

  -- a class without default
  abbrev pub lacks_default : Option Meaning → Bool
  lacks_default (Some (declared (Class name version fixed None has direct factories statics))) = true
  lacks_default _ = false

  -- a class without default
  abbrev pub is_bare : UseTree → Bool
  is_bare u = lacks_default (used types u)

  -- an interface with an owner, used elsewhere than in the lists of the declaration of this name
  abbrev pub owned_elsewhere : (List ℕ → Bool) → Option Meaning → Bool
  owned_elsewhere is_here (Some (declared (Interface name version id (Some owner) requires_ members))) = not (is_here owner)
  owned_elsewhere is_here _ = false

  -- this declaration is the class of this name
  abbrev pub is_class_here : Declaration → List ℕ → Bool
  is_class_here (Class name version fixed default has direct factories statics) owner = bytes_eq name owner
  is_class_here _ owner = false

  -- Object, an interface, a class or a delegate; an instance is the interface or delegate that it is of
  abbrev pub is_object_like : UseTree → Bool
  is_object_like (plain base) = is_object base
  is_object_like (value name) = has_kind is_referred (kind_used types (value name))
  is_object_like (reference name) = has_kind is_referred (kind_used types (reference name))
  is_object_like (instance name arguments) = has_kind is_referred (kind_used types (instance name arguments))

  -- IReference of such a type
  abbrev pub refers_to_object : UseTree → Bool
  refers_to_object (instance name arguments) = bytes_eq name (foundation (codes "IReference")) && list_any is_object_like (list_of arguments)
  refers_to_object _ = false

  -- Invoke returns a value or has an out parameter; that of a found delegate doesn't
  abbrev pub gives_back : Option Meaning → Bool
  gives_back (Some (declared (Delegate name version id invoke))) = is_some invoke.result || list_any (λ p. p.out) invoke.params
  gives_back _ = false

  -- each use and each use within it, at its spot
  abbrev pub EachWithin : Code → (Used → UseTree → Bool) → Site → Entry → Type 0
  EachWithin code test s = Among (uses_at s) (λ u. Among (within u.use_) (λ v. If (test u v) code u.spot))

  -- each use as it stands, at its spot
  abbrev pub Each : Code → (Used → Bool) → Site → Entry → Type 0
  Each code test s = Among (uses_at s) (λ u. If (test u) code u.spot)

  -- each use within an instance, at its spot
  abbrev pub EachInside : Code → (UseTree → Bool) → Site → Entry → Type 0
  EachInside code test s = Among (uses_at s) (λ u. Among (inner u.use_) (λ v. If (test v) code u.spot))

  -- each use, at any depth
  abbrev pub IsUnresolved : Site → Entry → Type 0
  IsUnresolved = EachWithin Unresolved (λ u v. unresolved v)

  -- the names of factories and statics have no kind of their own
  abbrev pub IsWrongKind : Site → Entry → Type 0
  IsWrongKind = EachWithin WrongKind (λ u v. not (is_by_name u.role) && wrong_kind v)

  -- each field
  abbrev pub IsFieldType : Site → Entry → Type 0
  IsFieldType = Each FieldType (λ u. is_field u.role && no_field_type u.use_)

  -- a parameter, a result, a property or an argument
  abbrev pub IsUseKind : Site → Entry → Type 0
  IsUseKind s = Or (Each UseKind (λ u. is_passed u.role && is_bare u.use_) s) (EachInside UseKind is_bare s)

  -- the owner's lists are its default, has, factories and statics
  abbrev pub IsExclusiveUse : Site → Entry → Type 0
  IsExclusiveUse s =
      Or (Each ExclusiveUse (λ u. owned_elsewhere (λ owner. is_listed u.role && is_class_here s.decl owner) (used types u.use_)) s)
      (EachInside ExclusiveUse (λ v. owned_elsewhere (λ owner. false) (used types v)) s)

  -- each use, at any depth
  abbrev pub IsReferenceArgument : Site → Entry → Type 0
  IsReferenceArgument = EachWithin ReferenceArgument (λ u v. refers_to_object v)

  -- an event's type is not a delegate
  abbrev pub IsEventType : Site → Entry → Type 0
  IsEventType = Each EventType (λ u. is_event u.role && not (has_kind is_delegate (kind_used types u.use_)))

  -- an event's delegate returns a value or has an out parameter
  abbrev pub IsEventDelegate : Site → Entry → Type 0
  IsEventDelegate = Each EventDelegate (λ u. is_event u.role && gives_back (used types u.use_))

  -- requires, has, factories, statics and the default name interfaces
  abbrev pub IsInterfaceWanted : Site → Entry → Type 0
  IsInterfaceWanted = Each InterfaceWanted (λ u. is_listed u.role && not (has_kind is_interface (kind_used types u.use_)))
