-- A type that is read by its kind is the type that is read.
use Rattle.std.proofs.Common.{◌≡◌, ℕ, Bool, true, false, cond, List, Result, Ok, Err, bytes_eq, codes, refl, ap}
use Rattle.md_schema.specs.declared.faults.ImageKind.TheVariants.{BadShape, RowRange}
use Rattle.md_schema.specs.declared.table.Table.TheVariants as tables
use Rattle.winmd_rows.specs.Faults.{Fault, fault, ◌>>=◌}
use Rattle.winmd_rows.specs.Values.{Value}
use Rattle.winmd_lines.specs.Cells.{Numbered, Tables, at, has_flag, is_null, path_of}
use Rattle.wr_base.specs.Trees.{DeclTree}
use Rattle.winmd_sets.specs.Attributes.{Attribute, attributes_of}
use Rattle.winmd_sets.specs.Fields.{enum_of, struct_of}
use Rattle.winmd_sets.specs.Methods.{delegate_of}
use Rattle.winmd_sets.specs.Interfaces.{interface_of}
use Rattle.winmd_sets.specs.Classes.{class_of}
use Rattle.winmd_sets.specs.Types.{kind_of, numbered_type, read_type}
use Rattle.winmd_kinds.specs.declared.kinds.Kind.TheVariants as kinds
use Rattle.winmd_kinds.specs.Kinds.{kind_by, of_kind, outer_of, read_by}

-- steps that go on alike
bind_ap : {A B : Type 0} (r : Result A Fault) (f g : A → Result B Fault) → ((a : A) → f a ≡ g a) → (r >>= f) ≡ (r >>= g)
bind_ap (Ok a) f g h = h a
bind_ap (Err e) f g h = refl

-- the choice of a kind is the choice of what it declares
chosen : (t : Tables) (n : ℕ) (full : List ℕ) (flags : ℕ) (attributes : List Attribute) (a b c d e f : Bool)
    → cond a (interface_of t n full attributes) (cond b (fault RowRange (at t tables.TypeDef n 3)) (cond c (enum_of t n full attributes) (cond d (struct_of t n full attributes) (cond e (delegate_of t n full attributes)
    (cond f (class_of t n full flags attributes) (fault BadShape (at t tables.TypeDef n 3)))))))
    ≡ of_kind (cond a kinds.Interface (cond b kinds.Nothing (cond c kinds.Enum (cond d kinds.Struct (cond e kinds.Delegate (cond f kinds.Class kinds.Other)))))) t n full flags attributes
chosen t n full flags attributes true b c d e f = refl
chosen t n full flags attributes false true c d e f = refl
chosen t n full flags attributes false false true d e f = refl
chosen t n full flags attributes false false false true e f = refl
chosen t n full flags attributes false false false false true f = refl
chosen t n full flags attributes false false false false false true = refl
chosen t n full flags attributes false false false false false false = refl

same_kind : (t : Tables) (n : ℕ) (full : List ℕ) (flags : ℕ) (extends : Value) (base : List ℕ) (attributes : List Attribute) → kind_of t n full flags extends base attributes ≡ of_kind (kind_by flags extends base) t n full flags attributes
same_kind t n full flags extends base attributes =
    chosen t n full flags attributes (has_flag flags 0x20) (is_null extends) (bytes_eq base (codes "System.Enum")) (bytes_eq base (codes "System.ValueType")) (bytes_eq base (codes "System.MulticastDelegate")) (bytes_eq base (codes "System.Object"))

pub read_is : (t : Tables) (row : Numbered) (flags : ℕ) (full : List ℕ) (extends : Value) (base : List ℕ) → read_type t row flags full extends base ≡ read_by (kind_by flags extends base) t row.0 flags full
read_is t row flags full extends base =
    bind_ap (outer_of t row.0) _ _ (λ outer. bind_ap (path_of (at t tables.TypeDef row.0 1) full) _ _ (λ path. bind_ap (attributes_of t tables.TypeDef row.0) _ _ (λ attributes.
    ap (λ (made : Result DeclTree Fault). made >>= λ declaration. numbered_type t row.0 declaration) (same_kind t row.0 path flags extends base attributes))))
