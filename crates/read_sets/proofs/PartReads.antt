-- What rows state of parts has names and uses within their limits.
use Rattle.std.proofs.Common.{◌≡◌, ℕ, zero, suc, Bool, true, false, ◌&&◌, List, [], ◌∷◌, ◌++◌, Option, Some, None, Result, Ok, Err, IfOk, refl, sym, ap, ◌∙◌, true≢false}
use Rattle.std.specs.Prelude.{nat_le, codes, length, drop}
use Rattle.std.specs.List.{AllByRecursion, list_all, flat_map}
use Rattle.std.proofs.lemmas.Bool.{leb-true}
use Rattle.md_schema.specs.declared.faults.ImageFault.{ImageFault}
use Rattle.md_schema.specs.declared.faults.ImageKind.TheVariants.{BadShape, PastLimit}
use Rattle.md_schema.specs.declared.table.Table.{Table}
use Rattle.md_schema.specs.declared.table.Table.TheVariants as tables
use Rattle.md_heaps.specs.Integers.{compressed_of}
use Rattle.sig_blobs.specs.Signatures as signatures
use Rattle.sig_blobs.specs.declared.argument.ArgumentKind.TheVariants as kinds
use Rattle.winmd_rows.specs.Faults.{fault, ◌>>=◌, each, the_one, checked}
use Rattle.winmd_rows.specs.Values.{Value, To}
use Rattle.winmd_lines.specs.Cells.{Numbered, Tables, at, cell, bytes_in, row_at, list_of, identifier_of, name_in, path_of, named_at}
use Rattle.winmd_sets.specs.Attributes.{Attribute, at_most_one, of_word, type_name_of, argument_of, text_of, value_at, owner_or, exclusive_to}
use Rattle.winmd_sets.specs.Blobs.{meanings, token_name, at_name, spelled, is_of_text, paths_in, paths_among, paths_of_result, paths_of, limited, field_of, property_of, spec_of, method_of}
use Rattle.winmd_sets.specs.Fits.{IsName, IsPart, OwnerFits}
use Rattle.winmd_sets.specs.Methods.{params_from, with_names, signature_of, sequenced, of_sequence, invoke_of, invokes, named_method}
use Rattle.winmd_sets.specs.Uses.{use_of_name, use_of_cell, use_in}
use Rattle.wr_base.specs.Paths.{is_identifier, is_path, is_short_name}
use Rattle.wr_base.specs.Trees.{UseTree, plain, value, reference, instance, UseTrees, no_uses, use_and, ParamTree, SignatureTree}
use Rattle.read_sets.proofs.Read.{UseOf, UsesOf, UseRead, IsPath, OptionRead, ParamRead, SignatureRead}
use Rattle.read_sets.proofs.Steps.{bind, next, tested, either}
use Rattle.read_sets.proofs.UseReads.{OptionPath, ParamPath, SignaturePath, field_so, property_so, spec_so, method_so}

-- ---- names

pub identifier_so : (most offset : ℕ) (name : List ℕ) → IfOk (identifier_of most offset name) (IsPart most)
identifier_so most offset name =
    bind (λ _. is_identifier name ≡ true) (IsPart most) (checked (is_identifier name) BadShape offset) (λ identifier. checked (nat_le (length name) most) PastLimit offset >>= λ short. Ok name) (tested (is_identifier name) BadShape offset)
    (λ _ h. bind (λ _. nat_le (length name) most ≡ true) (IsPart most) (checked (nat_le (length name) most) PastLimit offset) (λ short. Ok name) (tested (nat_le (length name) most) PastLimit offset)
    (λ _ g. record { identifier = h; short = leb-true (length name) most g }))

pub name_so : (t : Tables) (table : Table) (row : Numbered) (column : ℕ) → IfOk (name_in t table row column) (IsPart 255)
name_so t table row column = next (IsPart 255) (bytes_in row.1 column) (λ name. identifier_of 255 (at t table row.0 column) name) (λ name. identifier_so 255 (at t table row.0 column) name)

pub path_so : (offset : ℕ) (path : List ℕ) → IfOk (path_of offset path) IsName
path_so offset path =
    bind (λ _. is_path path ≡ true) IsName (checked (is_path path) BadShape offset) (λ parts. checked (is_short_name path) PastLimit offset >>= λ short. Ok path) (tested (is_path path) BadShape offset)
    (λ _ h. bind (λ _. is_short_name path ≡ true) IsName (checked (is_short_name path) PastLimit offset) (λ short. Ok path) (tested (is_short_name path) PastLimit offset)
    (λ _ g. record { path = h; short = g }))

-- ---- uses

and_parts : (b c : Bool) → (b && c) ≡ true → (b ≡ true) × (c ≡ true)
and_parts true c h = (refl, h)
and_parts false c h = absurd (true≢false (sym h))

all_split : (xs ys : List (List ℕ)) → list_all is_short_name (xs ++ ys) ≡ true → (list_all is_short_name xs ≡ true) × (list_all is_short_name ys ≡ true)
all_split [] ys h = (refl, h)
all_split (x ∷ xs) ys h =
    let s = and_parts (is_short_name x) (list_all is_short_name (xs ++ ys)) h in
    let r = all_split xs ys s.1 in
    (ap (λ b. b && list_all is_short_name xs) s.0 ∙ r.0, r.1)

one_short : (name : List ℕ) → list_all is_short_name (name ∷ []) ≡ true → is_short_name name ≡ true
one_short name h = let s = and_parts (is_short_name name) true h in s.0

mutual
  shortened : (depth : ℕ) (u : UseTree) → UseOf IsPath depth u → list_all is_short_name (paths_in u) ≡ true → UseOf IsName depth u
  shortened zero u h s = h
  shortened (suc depth) (plain base) h s = tt
  shortened (suc depth) (value name) h s = (record { path = h.0; short = one_short name s }, h.1)
  shortened (suc depth) (reference name) h s = record { path = h; short = one_short name s }
  shortened (suc depth) (instance name arguments) h s =
      let p = and_parts (is_short_name name) (list_all is_short_name (paths_among arguments)) s in
      (record { path = h.0; short = p.0 }, h.1, all_shortened depth arguments h.2 p.1)

  all_shortened : (depth : ℕ) (us : UseTrees) → UsesOf IsPath depth us → list_all is_short_name (paths_among us) ≡ true → UsesOf IsName depth us
  all_shortened depth no_uses h s = tt
  all_shortened depth (use_and u us) h s = let p = all_split (paths_in u) (paths_among us) s in (shortened depth u h.0 p.0, all_shortened depth us h.1 p.1)

no_name : {A : Type 0} (P : A → Type 0) (t : Tables) (offset : ℕ) (kind : _) (r : Result (ℕ × ℕ) ImageFault) → IfOk (at_name {A = A} t offset kind r) P
no_name P t offset kind (Ok (token, size)) = next P (token_name t offset token) (λ name. fault kind offset) (λ name. tt)
no_name P t offset kind (Err e) = tt

spelled_so : {A : Type 0} (P : A → Type 0) (t : Tables) (offset : ℕ) (blob : List ℕ) (r : Result A ImageFault) → IfOk r P → IfOk (spelled t offset blob r) P
spelled_so P t offset blob (Ok x) h = h
spelled_so P t offset blob (Err e) h = either P (is_of_text e.kind) _ _ (no_name P t offset e.kind (compressed_of (drop e.offset blob))) tt

limited_so : {A : Type 0} (offset : ℕ) (paths : List (List ℕ)) (x : A) → IfOk (limited offset paths x) (λ y. (y ≡ x) × (list_all is_short_name paths ≡ true))
limited_so offset paths x =
    bind (λ _. list_all is_short_name paths ≡ true) (λ y. (y ≡ x) × (list_all is_short_name paths ≡ true)) (checked (list_all is_short_name paths) PastLimit offset) (λ short. Ok x) (tested (list_all is_short_name paths) PastLimit offset)
    (λ _ h. (refl, h))

use_limited : (offset : ℕ) (u : UseTree) → UseOf IsPath 16 u → IfOk (limited offset (paths_in u) u) UseRead
use_limited offset u h =
    bind (λ _. list_all is_short_name (paths_in u) ≡ true) UseRead (checked (list_all is_short_name (paths_in u)) PastLimit offset) (λ short. Ok u) (tested (list_all is_short_name (paths_in u)) PastLimit offset)
    (λ _ s. shortened 16 u h s)

pub field_read : (t : Tables) (offset : ℕ) (blob : List ℕ) → IfOk (field_of t offset blob) UseRead
field_read t offset blob =
    bind (UseOf IsPath 16) UseRead (spelled t offset blob (signatures.field_of (meanings t) blob)) (λ u. limited offset (paths_in u) u)
    (spelled_so (UseOf IsPath 16) t offset blob (signatures.field_of (meanings t) blob) (field_so (meanings t) blob)) (use_limited offset)

pub property_read : (t : Tables) (offset : ℕ) (blob : List ℕ) → IfOk (property_of t offset blob) UseRead
property_read t offset blob =
    bind (UseOf IsPath 16) UseRead (spelled t offset blob (signatures.property_of (meanings t) blob)) (λ u. limited offset (paths_in u) u)
    (spelled_so (UseOf IsPath 16) t offset blob (signatures.property_of (meanings t) blob) (property_so (meanings t) blob)) (use_limited offset)

spec_read : (t : Tables) (offset : ℕ) (blob : List ℕ) → IfOk (spec_of t offset blob) UseRead
spec_read t offset blob =
    bind (UseOf IsPath 16) UseRead (spelled t offset blob (signatures.spec_of (meanings t) blob)) (λ u. limited offset (paths_in u) u)
    (spelled_so (UseOf IsPath 16) t offset blob (signatures.spec_of (meanings t) blob) (spec_so (meanings t) blob)) (use_limited offset)

name_read : (offset : ℕ) (name : List ℕ) → IfOk (use_of_name offset name) UseRead
name_read offset name = bind IsName UseRead (path_of offset name) (λ path. Ok (reference path)) (path_so offset name) (λ path h. h)

named_read : (t : Tables) (offset : ℕ) (v : Value) → IfOk (named_at t offset v >>= λ name. use_of_name offset name) UseRead
named_read t offset v = next UseRead (named_at t offset v) (λ name. use_of_name offset name) (λ name. name_read offset name)

-- ---- methods

abbrev Named : List ParamTree → List ParamTree → Type 0
Named ps qs = AllByRecursion ParamRead qs

abbrev OptionShort : Option UseTree → Type 0
OptionShort o = list_all is_short_name (paths_of_result o) ≡ true

result_read : (o : Option UseTree) → OptionPath o → OptionShort o → OptionRead o
result_read None h s = tt
result_read (Some u) h s = shortened 16 u h s

abbrev ParamUse : ParamTree → Type 0
ParamUse p = UseRead p.kind

params_read : (ps : List ParamTree) → AllByRecursion ParamPath ps → list_all is_short_name (flat_map (λ param. paths_in param.kind) ps) ≡ true → AllByRecursion ParamUse ps
params_read [] h s = tt
params_read (p ∷ ps) h s = let r = all_split (paths_in p.kind) (flat_map (λ param. paths_in param.kind) ps) s in (shortened 16 p.kind h.0 r.0, params_read ps h.1 r.1)

record SignatureUses (sig : SignatureTree) : Type 0 where
  result : OptionRead sig.result
  params : AllByRecursion ParamUse sig.params

method_limited : (offset : ℕ) (sig : SignatureTree) → SignaturePath sig → IfOk (limited offset (paths_of sig) sig) SignatureUses
method_limited offset sig h =
    bind (λ _. list_all is_short_name (paths_of sig) ≡ true) SignatureUses (checked (list_all is_short_name (paths_of sig)) PastLimit offset) (λ short. Ok sig) (tested (list_all is_short_name (paths_of sig)) PastLimit offset)
    (λ _ s. (let r = all_split (paths_of_result sig.result) (flat_map (λ param. paths_in param.kind) sig.params) s in record { result = result_read sig.result h.result r.0; params = params_read sig.params h.params r.1 }))

method_read : (t : Tables) (offset : ℕ) (blob : List ℕ) → IfOk (method_of t offset blob) SignatureUses
method_read t offset blob =
    bind SignaturePath SignatureUses (spelled t offset blob (signatures.method_of (meanings t) blob)) (λ sig. limited offset (paths_of sig) sig)
    (spelled_so SignaturePath t offset blob (signatures.method_of (meanings t) blob) (method_so (meanings t) blob)) (method_limited offset)

named_params : (t : Tables) (offset : ℕ) (rows : List (ℕ × Numbered)) (n : ℕ) (ps : List ParamTree) → AllByRecursion ParamUse ps → IfOk (params_from t offset rows n ps) (AllByRecursion ParamRead)
named_params t offset rows n [] h = tt
named_params t offset rows n (p ∷ ps) h =
    next (AllByRecursion ParamRead) (the_one BadShape offset (of_sequence n rows))
    (λ row. name_in t tables.Param row 2 >>= λ name. params_from t offset rows (suc n) ps >>= λ others. Ok (record { name = name; out = p.out; kind = p.kind } ∷ others))
    (λ row. bind (IsPart 255) (AllByRecursion ParamRead) (name_in t tables.Param row 2) (λ name. params_from t offset rows (suc n) ps >>= λ others. Ok (record { name = name; out = p.out; kind = p.kind } ∷ others)) (name_so t tables.Param row 2)
    (λ name g. bind (AllByRecursion ParamRead) (AllByRecursion ParamRead) (params_from t offset rows (suc n) ps) (λ others. Ok (record { name = name; out = p.out; kind = p.kind } ∷ others)) (named_params t offset rows (suc n) ps h.1)
    (λ others q. (record { named = g; kind = h.0 }, q))))

with_names_read : (t : Tables) (n : ℕ) (sig : SignatureTree) → SignatureUses sig → IfOk (with_names t n sig) SignatureRead
with_names_read t n sig h =
    next SignatureRead (list_of t tables.MethodDef 5 tables.Param n)
    (λ list. each (sequenced t) list >>= λ rows. params_from t (at t tables.MethodDef n 5) rows 1 sig.params >>= λ params. Ok (record { params = params; result = sig.result }))
    (λ list. next SignatureRead (each (sequenced t) list) (λ rows. params_from t (at t tables.MethodDef n 5) rows 1 sig.params >>= λ params. Ok (record { params = params; result = sig.result }))
    (λ rows. bind (AllByRecursion ParamRead) SignatureRead (params_from t (at t tables.MethodDef n 5) rows 1 sig.params) (λ params. Ok (record { params = params; result = sig.result })) (named_params t (at t tables.MethodDef n 5) rows 1 sig.params h.params)
    (λ params q. record { result = h.result; params = q })))

pub signature_read : (t : Tables) (row : Numbered) → IfOk (signature_of t row) SignatureRead
signature_read t row =
    next SignatureRead (bytes_in row.1 4)
    (λ blob. method_of t (at t tables.MethodDef row.0 4) blob >>= λ sig. checked (nat_le (length sig.params) 64) PastLimit (at t tables.MethodDef row.0 4) >>= λ few. with_names t row.0 sig)
    (λ blob. bind SignatureUses SignatureRead (method_of t (at t tables.MethodDef row.0 4) blob)
    (λ sig. checked (nat_le (length sig.params) 64) PastLimit (at t tables.MethodDef row.0 4) >>= λ few. with_names t row.0 sig) (method_read t (at t tables.MethodDef row.0 4) blob)
    (λ sig h. next SignatureRead (checked (nat_le (length sig.params) 64) PastLimit (at t tables.MethodDef row.0 4)) (λ few. with_names t row.0 sig) (λ few. with_names_read t row.0 sig h)))

pub invoke_read : (t : Tables) (n : ℕ) → IfOk (invoke_of t n) SignatureRead
invoke_read t n =
    next SignatureRead (list_of t tables.TypeDef 5 tables.MethodDef n) (λ methods. each (named_method t) methods >>= λ names. the_one BadShape (at t tables.TypeDef n 5) (invokes names) >>= λ invoke. signature_of t invoke)
    (λ methods. next SignatureRead (each (named_method t) methods) (λ names. the_one BadShape (at t tables.TypeDef n 5) (invokes names) >>= λ invoke. signature_of t invoke)
    (λ names. next SignatureRead (the_one BadShape (at t tables.TypeDef n 5) (invokes names)) (λ invoke. signature_of t invoke) (λ invoke. signature_read t invoke)))

-- ---- names of attributes

pub type_name_read : (t : Tables) (attribute : Attribute) → IfOk (type_name_of t attribute) IsName
type_name_read t attribute = next IsName (argument_of t kinds.TypeName attribute) (λ argument. path_of (value_at t attribute) (text_of argument)) (λ argument. path_so (value_at t attribute) (text_of argument))

owner_read : (t : Tables) (o : Option Attribute) → IfOk (owner_or t o) OwnerFits
owner_read t None = tt
owner_read t (Some attribute) = bind IsName OwnerFits (type_name_of t attribute) (λ name. Ok (Some name)) (type_name_read t attribute) (λ name h. h)

pub exclusive_read : (t : Tables) (n : ℕ) (attributes : List Attribute) → IfOk (exclusive_to t n attributes) OwnerFits
exclusive_read t n attributes = next OwnerFits (at_most_one (at t tables.TypeDef n 0) (of_word (codes "ExclusiveTo") attributes)) (λ found. owner_or t found) (λ found. owner_read t found)

-- ---- the type that a cell names

cell_read : (t : Tables) (offset : ℕ) (v : Value) → IfOk (use_of_cell t offset v) UseRead
cell_read t offset (To tables.TypeSpec n) =
    next UseRead (row_at t tables.TypeSpec n offset) (λ row. bytes_in row 0 >>= λ blob. spec_of t (at t tables.TypeSpec n 0) blob)
    (λ row. next UseRead (bytes_in row 0) (λ blob. spec_of t (at t tables.TypeSpec n 0) blob) (λ blob. spec_read t (at t tables.TypeSpec n 0) blob))
cell_read t offset v = named_read t offset v

pub use_read : (t : Tables) (table : Table) (row : Numbered) (column : ℕ) → IfOk (use_in t table row column) UseRead
use_read t table row column = next UseRead (cell row.1 column) (λ value. use_of_cell t (at t table row.0 column) value) (λ value. cell_read t (at t table row.0 column) value)
