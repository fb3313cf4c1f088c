-- What rows state of types has names and uses within their limits, and lists in order.
use Rattle.std.proofs.Common.{◌≡◌, ℕ, suc, ◌+◌, ◌<◌, ◌≤◌, Bool, true, false, cond, List, [], ◌∷◌, ◌++◌, map, Option, Some, None, Result, Ok, IfOk, subst, arith}
use Rattle.std.specs.Prelude.{not, nat_lt, nat_le, bytes_eq, codes}
use Rattle.std.specs.List.{AllByRecursion, list_any}
use Rattle.std.proofs.lemmas.Bool.{leb-true, ltb-true}
use Rattle.md_schema.specs.declared.faults.ImageKind.TheVariants.{BadShape, PastLimit, RowRange, Nested}
use Rattle.md_schema.specs.declared.table.Table.TheVariants as tables
use Rattle.winmd_rows.specs.Faults.{Fault, fault, ◌>>=◌, each, somes, the_one, checked}
use Rattle.winmd_rows.specs.Values.{Value}
use Rattle.winmd_lines.specs.Cells.{Numbered, Tables, at, cell, number_in, bytes_in, has_flag, is_null, rows_of_owner, list_of, identifier_of, name_in, path_of, full_name_in, all_rows, none_of}
use Rattle.winmd_lines.specs.Orders.{set_by}
use Rattle.winmd_sets.specs.Attributes.{Attribute, at_most_one, attributes_of, is_of, of_word, type_name_of, version_of, id_of, exclusive_to, value_at, words_of}
use Rattle.winmd_sets.specs.Blobs as fields
use Rattle.winmd_sets.specs.Blobs.{property_of, method_of}
use Rattle.winmd_sets.specs.Fields.{field_type, marked, of_mark, case_of, constant_of, holder_flags, enum_from, enum_of, struct_field, struct_of}
use Rattle.winmd_sets.specs.Fits.{IsName, IsPart, OwnerFits}
use Rattle.winmd_sets.specs.Methods.{signature_of, invoke_of, delegate_of}
use Rattle.winmd_sets.specs.Interfaces.{Item, OfMethod, OfProperty, OfEvent, role_of, items_of, numbered_name, times, abi_or, abi_of, member_of, members_of, interfaces_of, uses_in, members_in, interface_from, interface_of}
use Rattle.winmd_sets.specs.Members.{method_names}
use Rattle.winmd_sets.specs.Classes.{with_default, Making, Direct, Through, making_by, making_of, is_direct, throughs, names_in_order, default_of, class_from, class_of}
use Rattle.winmd_sets.specs.Types.{kind_of, numbered_type, read_type, base_at, named_type, flagged_type, type_of, parts_of, all_parts_of, all_begin, none_generic, set_of, types_of}
use Rattle.winmd_sets.specs.Uses.{use_in}
use Rattle.wr_base.specs.declared.declaration.Case.{Case}
use Rattle.wr_base.specs.Trees.{UseTree, text_of_tree, ParamTree, method, property, event, DeclTree, enum, struct, delegate, interface, class, name_of}
use Rattle.winmd_rows.specs.Bits.{int_of_bits}
use Rattle.winmd_strict.specs.Reading.{RowsOf, TypesOf}
use Rattle.read_sets.proofs.Read.{UseRead, OptionRead, SignatureRead, FieldRead, MemberRead, NamesRead, UsesRead, IsRead}
use Rattle.read_sets.proofs.Steps.{bind, next, tested, each_so, Maybe, somes_so, either}
use Rattle.read_sets.proofs.PartReads.{identifier_so, name_so, path_so, field_read, property_read, use_read, signature_read, invoke_read, type_name_read, exclusive_read}
use Rattle.read_sets.proofs.OrderReads.{set_all, set_rises, sum, set_sum}

-- ---- enums, structs, delegates

abbrev CaseRead : Case → Type 0
CaseRead c = IsPart 255 c.name

case_read : (t : Tables) (flags : Bool) (field : Numbered) → IfOk (case_of t flags field) CaseRead
case_read t flags field =
    bind (IsPart 255) CaseRead (name_in t tables.Field field 1) (λ name. constant_of t flags field.0 >>= λ bits. Ok (record { name = name; value = int_of_bits flags bits })) (name_so t tables.Field field 1)
    (λ name h. next CaseRead (constant_of t flags field.0) (λ bits. Ok (record { name = name; value = int_of_bits flags bits })) (λ bits. h))

module _ (full : List ℕ) (named : IsName full) where
  enum_from_read : (t : Tables) (n version : ℕ) (marks : List (Bool × Numbered)) → IfOk (enum_from t n full version marks) IsRead
  enum_from_read t n version marks =
      next IsRead (the_one BadShape (at t tables.TypeDef n 4) (of_mark false marks)) (λ holder. holder_flags t holder >>= λ flags. each (case_of t flags) (of_mark true marks) >>= λ cases. Ok (enum full version flags cases))
      (λ holder. next IsRead (holder_flags t holder) (λ flags. each (case_of t flags) (of_mark true marks) >>= λ cases. Ok (enum full version flags cases))
      (λ flags. bind (AllByRecursion CaseRead) IsRead (each (case_of t flags) (of_mark true marks)) (λ cases. Ok (enum full version flags cases)) (each_so CaseRead (case_of t flags) (case_read t flags) (of_mark true marks))
      (λ cases h. record { named = named; parts = h })))

  enum_read : (t : Tables) (n : ℕ) (attributes : List Attribute) → IfOk (enum_of t n full attributes) IsRead
  enum_read t n attributes =
      next IsRead (version_of t n attributes) (λ version. list_of t tables.TypeDef 4 tables.Field n >>= λ fields. each marked fields >>= λ marks. enum_from t n full version marks)
      (λ version. next IsRead (list_of t tables.TypeDef 4 tables.Field n) (λ fields. each marked fields >>= λ marks. enum_from t n full version marks)
      (λ fields. next IsRead (each marked fields) (λ marks. enum_from t n full version marks) (λ marks. enum_from_read t n version marks)))

  struct_read : (t : Tables) (n : ℕ) (attributes : List Attribute) → IfOk (struct_of t n full attributes) IsRead
  struct_read t n attributes =
      next IsRead (version_of t n attributes) (λ version. list_of t tables.TypeDef 4 tables.Field n >>= λ rows. each (struct_field t) rows >>= λ fields. Ok (struct full version fields))
      (λ version. next IsRead (list_of t tables.TypeDef 4 tables.Field n) (λ rows. each (struct_field t) rows >>= λ fields. Ok (struct full version fields))
      (λ rows. bind (AllByRecursion FieldRead) IsRead (each (struct_field t) rows) (λ fields. Ok (struct full version fields)) (each_so FieldRead (struct_field t) (one t) rows) (λ fields h. record { named = named; parts = h })))
    where
      kind : (t : Tables) (field : Numbered) → IfOk (field_type t field) UseRead
      kind t field = next UseRead (bytes_in field.1 2) (λ blob. fields.field_of t (at t tables.Field field.0 2) blob) (λ blob. field_read t (at t tables.Field field.0 2) blob)

      one : (t : Tables) (field : Numbered) → IfOk (struct_field t field) FieldRead
      one t field =
          bind (IsPart 255) FieldRead (name_in t tables.Field field 1) (λ name. field_type t field >>= λ kind. Ok (record { name = name; kind = kind })) (name_so t tables.Field field 1)
          (λ name h. bind UseRead FieldRead (field_type t field) (λ kind. Ok (record { name = name; kind = kind })) (kind t field) (λ u g. record { named = h; kind = g }))

  delegate_read : (t : Tables) (n : ℕ) (attributes : List Attribute) → IfOk (delegate_of t n full attributes) IsRead
  delegate_read t n attributes =
      next IsRead (version_of t n attributes) (λ version. id_of t n attributes >>= λ id. invoke_of t n >>= λ sig. Ok (delegate full version id sig))
      (λ version. next IsRead (id_of t n attributes) (λ id. invoke_of t n >>= λ sig. Ok (delegate full version id sig))
      (λ id. bind SignatureRead IsRead (invoke_of t n) (λ sig. Ok (delegate full version id sig)) (invoke_read t n) (λ sig h. record { named = named; parts = h })))

  -- ---- interfaces

  abi_or_read : (t : Tables) (row : Numbered) (name : List ℕ) (o : Option Attribute) → IfOk (abi_or t row name o) (IsPart 511)
  abi_or_read t row name None = identifier_so 511 (at t tables.MethodDef row.0 3) name
  abi_or_read t row name (Some attribute) = next (IsPart 511) (words_of t attribute) (λ words. identifier_of 511 (value_at t attribute) words) (λ words. identifier_so 511 (value_at t attribute) words)

  abi_read : (t : Tables) (row : Numbered) (name : List ℕ) → IfOk (abi_of t row name) (IsPart 511)
  abi_read t row name =
      next (IsPart 511) (attributes_of t tables.MethodDef row.0) (λ attributes. at_most_one (at t tables.MethodDef row.0 0) (of_word (codes "Overload") attributes) >>= λ overload. abi_or t row name overload)
      (λ attributes. next (IsPart 511) (at_most_one (at t tables.MethodDef row.0 0) (of_word (codes "Overload") attributes)) (λ overload. abi_or t row name overload) (λ overload. abi_or_read t row name overload))

  member_read : (t : Tables) (earlier : List (List ℕ)) (item : Item) → IfOk (member_of t earlier item) MemberRead
  member_read t earlier (OfMethod row) =
      bind (IsPart 255) MemberRead (name_in t tables.MethodDef row 3) (λ name. abi_of t row (numbered_name name (times name earlier)) >>= λ abi. signature_of t row >>= λ sig. Ok (method name abi sig)) (name_so t tables.MethodDef row 3)
      (λ name h. bind (IsPart 511) MemberRead (abi_of t row (numbered_name name (times name earlier))) (λ abi. signature_of t row >>= λ sig. Ok (method name abi sig)) (abi_read t row (numbered_name name (times name earlier)))
      (λ abi g. bind SignatureRead MemberRead (signature_of t row) (λ sig. Ok (method name abi sig)) (signature_read t row) (λ sig s. (h, g, s))))
  member_read t earlier (OfProperty row put) =
      bind (IsPart 255) MemberRead (name_in t tables.Property row 1) (λ name. bytes_in row.1 2 >>= λ blob. property_of t (at t tables.Property row.0 2) blob >>= λ kind. Ok (property name kind put)) (name_so t tables.Property row 1)
      (λ name h. next MemberRead (bytes_in row.1 2) (λ blob. property_of t (at t tables.Property row.0 2) blob >>= λ kind. Ok (property name kind put))
      (λ blob. bind UseRead MemberRead (property_of t (at t tables.Property row.0 2) blob) (λ kind. Ok (property name kind put)) (property_read t (at t tables.Property row.0 2) blob) (λ u g. (h, g))))
  member_read t earlier (OfEvent row) =
      bind (IsPart 255) MemberRead (name_in t tables.Event row 1) (λ name. use_in t tables.Event row 2 >>= λ kind. Ok (event name kind)) (name_so t tables.Event row 1)
      (λ name h. bind UseRead MemberRead (use_in t tables.Event row 2) (λ kind. Ok (event name kind)) (use_read t tables.Event row 2) (λ u g. (h, g)))

  all_members : (t : Tables) (earlier : List (List ℕ)) (items : List Item) → IfOk (members_of t earlier items) (AllByRecursion MemberRead)
  all_members t earlier [] = tt
  all_members t earlier (item ∷ items) =
      bind MemberRead (AllByRecursion MemberRead) (member_of t earlier item) (λ member. members_of t (method_names member ++ earlier) items >>= λ others. Ok (member ∷ others)) (member_read t earlier item)
      (λ member h. bind (AllByRecursion MemberRead) (AllByRecursion MemberRead) (members_of t (method_names member ++ earlier) items) (λ others. Ok (member ∷ others)) (all_members t (method_names member ++ earlier) items) (λ others g. (h, g)))

  members_read : (t : Tables) (n : ℕ) → IfOk (members_in t n) (AllByRecursion MemberRead)
  members_read t n =
      next (AllByRecursion MemberRead) (list_of t tables.TypeDef 5 tables.MethodDef n) (λ methods. each (role_of t) methods >>= λ roles. items_of t roles >>= λ items. members_of t [] items)
      (λ methods. next (AllByRecursion MemberRead) (each (role_of t) methods) (λ roles. items_of t roles >>= λ items. members_of t [] items)
      (λ roles. next (AllByRecursion MemberRead) (items_of t roles) (λ items. members_of t [] items) (λ items. all_members t [] items)))

  abbrev EntryRead : ℕ × UseTree → Type 0
  EntryRead entry = UseRead entry.1

  interfaces_read : (t : Tables) (n : ℕ) → IfOk (interfaces_of t n) (AllByRecursion EntryRead)
  interfaces_read t n =
      each_so EntryRead (λ row. use_in t tables.InterfaceImpl row 1 >>= λ use_. Ok (row.0, use_))
      (λ row. bind UseRead EntryRead (use_in t tables.InterfaceImpl row 1) (λ use_. Ok (row.0, use_)) (use_read t tables.InterfaceImpl row 1) (λ u h. h)) (rows_of_owner t tables.InterfaceImpl 0 tables.TypeDef n)

  entry_uses : (entries : List (ℕ × UseTree)) → AllByRecursion EntryRead entries → AllByRecursion UseRead (map (λ entry. entry.1) entries)
  entry_uses [] h = tt
  entry_uses (e ∷ es) h = (h.0, entry_uses es h.1)

  uses_read : (entries : List (ℕ × UseTree)) → AllByRecursion EntryRead entries → UsesRead (uses_in entries)
  uses_read entries h = record { uses = set_all text_of_tree UseRead (map (λ entry. entry.1) entries) (entry_uses entries h); rising = set_rises text_of_tree (map (λ entry. entry.1) entries) }

  interface_from_read : (t : Tables) (n version id : ℕ) (owner : Option (List ℕ)) → OwnerFits owner → IfOk (interface_from t n full version id owner) IsRead
  interface_from_read t n version id owner o =
      bind (AllByRecursion EntryRead) IsRead (interfaces_of t n) (λ interfaces. members_in t n >>= λ members. Ok (interface full version id owner (uses_in interfaces) members)) (interfaces_read t n)
      (λ interfaces h. bind (AllByRecursion MemberRead) IsRead (members_in t n) (λ members. Ok (interface full version id owner (uses_in interfaces) members)) (members_read t n)
      (λ members g. record { named = named; parts = (o, uses_read interfaces h, g) }))

  interface_read : (t : Tables) (n : ℕ) (attributes : List Attribute) → IfOk (interface_of t n full attributes) IsRead
  interface_read t n attributes =
      next IsRead (version_of t n attributes) (λ version. id_of t n attributes >>= λ id. exclusive_to t n attributes >>= λ owner. interface_from t n full version id owner)
      (λ version. next IsRead (id_of t n attributes) (λ id. exclusive_to t n attributes >>= λ owner. interface_from t n full version id owner)
      (λ id. bind OwnerFits IsRead (exclusive_to t n attributes) (λ owner. interface_from t n full version id owner) (exclusive_read t n attributes) (λ owner o. interface_from_read t n version id owner o)))

  -- ---- classes

  default_one : (t : Tables) (entry : ℕ × UseTree) → EntryRead entry → IfOk (with_default t entry) (Maybe UseRead)
  default_one t entry h =
      next (Maybe UseRead) (attributes_of t tables.InterfaceImpl entry.0) (λ attributes. Ok (cond (list_any (is_of (codes "Default")) attributes) (Some entry.1) None))
      (λ attributes. chosen (list_any (is_of (codes "Default")) attributes))
    where
      chosen : (b : Bool) → Maybe UseRead (cond b (Some entry.1) None)
      chosen true = h
      chosen false = tt

  default_all : (t : Tables) (entries : List (ℕ × UseTree)) → AllByRecursion EntryRead entries → IfOk (each (with_default t) entries) (AllByRecursion (Maybe UseRead))
  default_all t [] h = tt
  default_all t (e ∷ es) h =
      bind (Maybe UseRead) (AllByRecursion (Maybe UseRead)) (with_default t e) (λ y. each (with_default t) es >>= λ ys. Ok (y ∷ ys)) (default_one t e h.0)
      (λ y p. bind (AllByRecursion (Maybe UseRead)) (AllByRecursion (Maybe UseRead)) (each (with_default t) es) (λ ys. Ok (y ∷ ys)) (default_all t es h.1) (λ ys q. (p, q)))

  one_at_most : (offset : ℕ) (us : List UseTree) → AllByRecursion UseRead us → IfOk (at_most_one offset us) OptionRead
  one_at_most offset [] h = tt
  one_at_most offset (u ∷ []) h = h.0
  one_at_most offset (u ∷ v ∷ us) h = tt

  default_read : (t : Tables) (n : ℕ) (entries : List (ℕ × UseTree)) → AllByRecursion EntryRead entries → IfOk (default_of t n entries) OptionRead
  default_read t n entries h =
      bind (AllByRecursion (Maybe UseRead)) OptionRead (each (with_default t) entries) (λ defaults. at_most_one (at t tables.TypeDef n 0) (somes defaults)) (default_all t entries h)
      (λ defaults g. one_at_most (at t tables.TypeDef n 0) (somes defaults) (somes_so UseRead defaults g))

  abbrev MakingRead : Making → Type 0
  MakingRead Direct = Unit {0}
  MakingRead (Through name) = IsName name

  making_by_read : (t : Tables) (attribute : Attribute) (ps : List ParamTree) → IfOk (making_by t attribute ps) MakingRead
  making_by_read t attribute [] = tt
  making_by_read t attribute (p ∷ ps) =
      either MakingRead (bytes_eq (text_of_tree p.kind) (codes "UInt32")) (Ok Direct)
      (cond (bytes_eq (text_of_tree p.kind) (codes "System.Type")) (type_name_of t attribute >>= λ name. Ok (Through name)) (fault BadShape attribute.made.offset)) tt
      (either MakingRead (bytes_eq (text_of_tree p.kind) (codes "System.Type")) (type_name_of t attribute >>= λ name. Ok (Through name)) (fault BadShape attribute.made.offset)
      (bind IsName MakingRead (type_name_of t attribute) (λ name. Ok (Through name)) (type_name_read t attribute) (λ name h. h)) tt)

  making_read : (t : Tables) (attribute : Attribute) → IfOk (making_of t attribute) MakingRead
  making_read t attribute =
      next MakingRead (bytes_in attribute.made.signature attribute.made.column) (λ blob. method_of t attribute.made.offset blob >>= λ sig. making_by t attribute sig.params)
      (λ blob. next MakingRead (method_of t attribute.made.offset blob) (λ sig. making_by t attribute sig.params) (λ sig. making_by_read t attribute sig.params))

  through_names : (makings : List Making) → AllByRecursion MakingRead makings → AllByRecursion IsName (throughs makings)
  through_names [] h = tt
  through_names (Direct ∷ makings) h = through_names makings h.1
  through_names (Through name ∷ makings) h = (h.0, through_names makings h.1)

  names_read : (names : List (List ℕ)) → AllByRecursion IsName names → NamesRead (names_in_order names)
  names_read names h = record { named = set_all (λ name. name) IsName names h; rising = set_rises (λ name. name) names }

  class_from_read : (t : Tables) (version : ℕ) (fixed : Bool) (default : Option UseTree) (has : List UseTree) (attributes : List Attribute) → OptionRead default → UsesRead has → IfOk (class_from t full version fixed default has attributes) IsRead
  class_from_read t version fixed default has attributes d u =
      bind (AllByRecursion MakingRead) IsRead (each (making_of t) (of_word (codes "Activatable") attributes))
      (λ makings. each (type_name_of t) (of_word (codes "Static") attributes) >>= λ statics. Ok (class full version fixed default has (is_direct makings) (names_in_order (throughs makings)) (names_in_order statics)))
      (each_so MakingRead (making_of t) (making_read t) (of_word (codes "Activatable") attributes))
      (λ makings m. bind (AllByRecursion IsName) IsRead (each (type_name_of t) (of_word (codes "Static") attributes))
      (λ statics. Ok (class full version fixed default has (is_direct makings) (names_in_order (throughs makings)) (names_in_order statics)))
      (each_so IsName (type_name_of t) (type_name_read t) (of_word (codes "Static") attributes))
      (λ statics s. record { named = named; parts = (d, u, names_read (throughs makings) (through_names makings m), names_read statics s) }))

  class_read : (t : Tables) (n flags : ℕ) (attributes : List Attribute) → IfOk (class_of t n full flags attributes) IsRead
  class_read t n flags attributes =
      next IsRead (version_of t n attributes) (λ version. interfaces_of t n >>= λ interfaces. default_of t n interfaces >>= λ default. class_from t full version (has_flag flags 0x80) default (uses_in interfaces) attributes)
      (λ version. bind (AllByRecursion EntryRead) IsRead (interfaces_of t n) (λ interfaces. default_of t n interfaces >>= λ default. class_from t full version (has_flag flags 0x80) default (uses_in interfaces) attributes) (interfaces_read t n)
      (λ interfaces h. bind OptionRead IsRead (default_of t n interfaces) (λ default. class_from t full version (has_flag flags 0x80) default (uses_in interfaces) attributes) (default_read t n interfaces h)
      (λ default d. class_from_read t version (has_flag flags 0x80) default (uses_in interfaces) attributes d (uses_read interfaces h))))

  -- ---- a type

  kind_read : (t : Tables) (n flags : ℕ) (extends : Value) (base : List ℕ) (attributes : List Attribute) → IfOk (kind_of t n full flags extends base attributes) IsRead
  kind_read t n flags extends base attributes =
      either IsRead (has_flag flags 0x20) (interface_of t n full attributes)
      (cond (is_null extends) (fault RowRange (at t tables.TypeDef n 3))
      (cond (bytes_eq base (codes "System.Enum")) (enum_of t n full attributes)
      (cond (bytes_eq base (codes "System.ValueType")) (struct_of t n full attributes)
      (cond (bytes_eq base (codes "System.MulticastDelegate")) (delegate_of t n full attributes)
      (cond (bytes_eq base (codes "System.Object")) (class_of t n full flags attributes) (fault BadShape (at t tables.TypeDef n 3)))))))
      (interface_read t n attributes)
      (either IsRead (is_null extends) _ (cond (bytes_eq base (codes "System.Enum")) (enum_of t n full attributes)
      (cond (bytes_eq base (codes "System.ValueType")) (struct_of t n full attributes)
      (cond (bytes_eq base (codes "System.MulticastDelegate")) (delegate_of t n full attributes)
      (cond (bytes_eq base (codes "System.Object")) (class_of t n full flags attributes) (fault BadShape (at t tables.TypeDef n 3)))))) tt
      (either IsRead (bytes_eq base (codes "System.Enum")) (enum_of t n full attributes)
      (cond (bytes_eq base (codes "System.ValueType")) (struct_of t n full attributes)
      (cond (bytes_eq base (codes "System.MulticastDelegate")) (delegate_of t n full attributes)
      (cond (bytes_eq base (codes "System.Object")) (class_of t n full flags attributes) (fault BadShape (at t tables.TypeDef n 3))))) (enum_read t n attributes)
      (either IsRead (bytes_eq base (codes "System.ValueType")) (struct_of t n full attributes)
      (cond (bytes_eq base (codes "System.MulticastDelegate")) (delegate_of t n full attributes)
      (cond (bytes_eq base (codes "System.Object")) (class_of t n full flags attributes) (fault BadShape (at t tables.TypeDef n 3)))) (struct_read t n attributes)
      (either IsRead (bytes_eq base (codes "System.MulticastDelegate")) (delegate_of t n full attributes)
      (cond (bytes_eq base (codes "System.Object")) (class_of t n full flags attributes) (fault BadShape (at t tables.TypeDef n 3))) (delegate_read t n attributes)
      (either IsRead (bytes_eq base (codes "System.Object")) (class_of t n full flags attributes) (fault BadShape (at t tables.TypeDef n 3)) (class_read t n flags attributes) tt)))))

-- ---- rows of types

-- a row's declaration
abbrev NumberedRead : ℕ × DeclTree → Type 0
NumberedRead d = IsRead d.1

numbered_read : (t : Tables) (n : ℕ) (d : DeclTree) → IsRead d → IfOk (numbered_type t n d) (Maybe NumberedRead)
numbered_read t n d h = next (Maybe NumberedRead) (checked (nat_le (parts_of d) 4000) PastLimit (at t tables.TypeDef n 0)) (λ few. Ok (Some (n, d))) (λ few. h)

read_read : (t : Tables) (row : Numbered) (flags : ℕ) (full : List ℕ) (extends : Value) (base : List ℕ) → IfOk (read_type t row flags full extends base) (Maybe NumberedRead)
read_read t row flags full extends base =
    next (Maybe NumberedRead) (none_of Nested (λ n. at t tables.NestedClass n 0) (rows_of_owner t tables.NestedClass 0 tables.TypeDef row.0))
    (λ outer. path_of (at t tables.TypeDef row.0 1) full >>= λ path. attributes_of t tables.TypeDef row.0 >>= λ attributes. kind_of t row.0 path flags extends base attributes >>= λ declaration. numbered_type t row.0 declaration)
    (λ outer. bind IsName (Maybe NumberedRead) (path_of (at t tables.TypeDef row.0 1) full)
    (λ path. attributes_of t tables.TypeDef row.0 >>= λ attributes. kind_of t row.0 path flags extends base attributes >>= λ declaration. numbered_type t row.0 declaration) (path_so (at t tables.TypeDef row.0 1) full)
    (λ path p. next (Maybe NumberedRead) (attributes_of t tables.TypeDef row.0) (λ attributes. kind_of t row.0 path flags extends base attributes >>= λ declaration. numbered_type t row.0 declaration)
    (λ attributes. bind IsRead (Maybe NumberedRead) (kind_of t row.0 path flags extends base attributes) (λ declaration. numbered_type t row.0 declaration) (kind_read path p t row.0 flags extends base attributes)
    (λ declaration h. numbered_read t row.0 declaration h))))

named_read : (t : Tables) (row : Numbered) (flags : ℕ) (full : List ℕ) → IfOk (named_type t row flags full) (Maybe NumberedRead)
named_read t row flags full =
    next (Maybe NumberedRead) (cell row.1 3) (λ extends. base_at t (at t tables.TypeDef row.0 3) extends >>= λ base. cond (bytes_eq base (codes "System.Attribute")) (Ok None) (read_type t row flags full extends base))
    (λ extends. next (Maybe NumberedRead) (base_at t (at t tables.TypeDef row.0 3) extends) (λ base. cond (bytes_eq base (codes "System.Attribute")) (Ok None) (read_type t row flags full extends base))
    (λ base. either (Maybe NumberedRead) (bytes_eq base (codes "System.Attribute")) (Ok None) (read_type t row flags full extends base) tt (read_read t row flags full extends base)))

flagged_read : (t : Tables) (row : Numbered) (flags : ℕ) → IfOk (flagged_type t row flags) (Maybe NumberedRead)
flagged_read t row flags =
    next (Maybe NumberedRead) (bytes_in row.1 1) (λ name. cond (bytes_eq name (codes "<Module>")) (Ok None) (full_name_in row.1 >>= λ full. named_type t row flags full))
    (λ name. either (Maybe NumberedRead) (bytes_eq name (codes "<Module>")) (Ok None) (full_name_in row.1 >>= λ full. named_type t row flags full) tt
    (next (Maybe NumberedRead) (full_name_in row.1) (λ full. named_type t row flags full) (λ full. named_read t row flags full)))

type_read : (t : Tables) (row : Numbered) → IfOk (type_of t row) (Maybe NumberedRead)
type_read t row =
    next (Maybe NumberedRead) (number_in row.1 0) (λ flags. cond (has_flag flags 0x4000) (flagged_type t row flags) (Ok None))
    (λ flags. either (Maybe NumberedRead) (has_flag flags 0x4000) (flagged_type t row flags) (Ok None) (flagged_read t row flags) tt)

-- ---- the set

-- a declaration and its parts
abbrev pub weight : DeclTree → ℕ
weight d = 1 + all_parts_of d

pub record SetRead (most : ℕ) (ds : List DeclTree) : Type 0 where
  pub each : AllByRecursion IsRead ds
  pub small : sum name_of weight ds ≤ most

-- behind so many others
record RestRead (before : ℕ) (ds : List DeclTree) : Type 0 where
  each : AllByRecursion IsRead ds
  small : before + sum name_of weight ds ≤ 520000

set_read : (t : Tables) (types parts : ℕ) (ds : List (ℕ × DeclTree)) → types ≤ 20000 → parts ≤ 500000 → AllByRecursion NumberedRead ds → IfOk (set_of t types parts ds) (RestRead (types + parts))
set_read t types parts [] l m h = record { each = tt; small = omega (arith, l, m) }
set_read t types parts (d ∷ ds) l m h =
    bind (λ _. nat_lt types 20000 ≡ true) (RestRead (types + parts)) (checked (nat_lt types 20000) PastLimit (at t tables.TypeDef d.0 0))
    (λ few. checked (nat_le (parts + all_parts_of d.1) 500000) PastLimit (at t tables.TypeDef d.0 0) >>= λ small. checked (not (list_any (λ e. bytes_eq (name_of d.1) (name_of e.1)) ds)) BadShape (at t tables.TypeDef d.0 1) >>= λ once. set_of t (suc types) (parts + all_parts_of d.1) ds >>= λ others. Ok (d.1 ∷ others))
    (tested (nat_lt types 20000) PastLimit (at t tables.TypeDef d.0 0))
    (λ _ f. bind (λ _. nat_le (parts + all_parts_of d.1) 500000 ≡ true) (RestRead (types + parts)) (checked (nat_le (parts + all_parts_of d.1) 500000) PastLimit (at t tables.TypeDef d.0 0))
    (λ small. checked (not (list_any (λ e. bytes_eq (name_of d.1) (name_of e.1)) ds)) BadShape (at t tables.TypeDef d.0 1) >>= λ once. set_of t (suc types) (parts + all_parts_of d.1) ds >>= λ others. Ok (d.1 ∷ others))
    (tested (nat_le (parts + all_parts_of d.1) 500000) PastLimit (at t tables.TypeDef d.0 0))
    (λ _ g. next (RestRead (types + parts)) (checked (not (list_any (λ e. bytes_eq (name_of d.1) (name_of e.1)) ds)) BadShape (at t tables.TypeDef d.0 1))
    (λ once. set_of t (suc types) (parts + all_parts_of d.1) ds >>= λ others. Ok (d.1 ∷ others))
    (λ once. (let few : types < 20000 = ltb-true types 20000 f in let small : parts + all_parts_of d.1 ≤ 500000 = leb-true (parts + all_parts_of d.1) 500000 g in
    bind (RestRead (suc types + (parts + all_parts_of d.1))) (RestRead (types + parts)) (set_of t (suc types) (parts + all_parts_of d.1) ds) (λ others. Ok (d.1 ∷ others)) (set_read t (suc types) (parts + all_parts_of d.1) ds (omega (arith, few)) small h.1)
    (λ others r. record { each = (h.0, r.each); small = omega (arith, r.small) })))))

in_order : (ds : List DeclTree) → RestRead 0 ds → SetRead 520000 (set_by name_of ds)
in_order ds r = record { each = set_all name_of IsRead ds r.each; small = omega (arith, r.small, set_sum name_of weight ds) }

types_read : (t : Tables) → IfOk (types_of t) (SetRead 520000)
types_read t =
    next (SetRead 520000) (all_begin t) (λ lists. none_generic t >>= λ plain_types. each (type_of t) (all_rows t tables.TypeDef) >>= λ types. set_of t 0 0 (somes types) >>= λ set. Ok (set_by name_of set))
    (λ lists. next (SetRead 520000) (none_generic t) (λ plain_types. each (type_of t) (all_rows t tables.TypeDef) >>= λ types. set_of t 0 0 (somes types) >>= λ set. Ok (set_by name_of set))
    (λ plain_types. bind (AllByRecursion (Maybe NumberedRead)) (SetRead 520000) (each (type_of t) (all_rows t tables.TypeDef)) (λ types. set_of t 0 0 (somes types) >>= λ set. Ok (set_by name_of set)) (each_so (Maybe NumberedRead) (type_of t) (type_read t) (all_rows t tables.TypeDef))
    (λ types h. bind (RestRead 0) (SetRead 520000) (set_of t 0 0 (somes types)) (λ set. Ok (set_by name_of set)) (set_read t 0 0 (somes types) (omega arith) (omega arith) (somes_so NumberedRead types h)) (λ set r. in_order set r))))

image_read : (bytes : List ℕ) → IfOk (TypesOf bytes) (SetRead 520000)
image_read bytes = next (SetRead 520000) (RowsOf bytes) (λ t. types_of t) types_read

-- what an image states
pub stated_read : (bytes : List ℕ) (ds : List DeclTree) → TypesOf bytes ≡ Ok ds → SetRead 520000 ds
stated_read bytes ds e = subst (λ (r : Result (List DeclTree) Fault). IfOk r (SetRead 520000)) e (image_read bytes)
