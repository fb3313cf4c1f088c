-- The names of a set are enough for all that its rows say: what holds of declarations alone is all that the law asks.
use Rattle.std.proofs.Common.{◌≡◌, ℕ, zero, suc, ◌+◌, ◌^◌, ◌<◌, Bool, true, false, List, [], ◌∷◌, ◌++◌, length, map, Option, Some, None, Ok, refl, sym, ap, subst, ◌∙◌, append_assoc, length-append, arith, inl, inr}
use Rattle.std.specs.Prelude.{◌||◌, not, bytes_eq, codes}
use Rattle.std.specs.List.{list_any, flat_map, AllByRecursion}
use Rattle.std.proofs.lemmas.Bool.{and_parts, eq-eqb}
use Rattle.std.proofs.lemmas.Slice.Eq.{bytes_eq-Decides}
use Rattle.md_schema.specs.declared.table.Table.TheVariants as tables
use Rattle.wr_base.specs.declared.type_use.Base.{Base}
use Rattle.wr_base.specs.declared.type_use.Base.TheVariants.{Boolean, Char, U8, I16, U16, I32, U32, I64, U64, Text, Guid, Object}
use Rattle.wr_base.specs.declared.declaration.Case.{Case}
use Rattle.winmd_rows.specs.Values.{Value, Offsets, stated}
use Rattle.winmd_lines.specs.Lines.{Bytes, Type_, Line}
use Rattle.winmd_sets.specs.Declared.{lines_of, own_line, id_of_type, version_of_type, owner_of_type, interface_line, class_interface, is_default, named_attribute}
use Rattle.winmd_lines.specs.Makers.{Maker, maker_number, system_type}
use Rattle.winmd_sets.specs.Members.{when, attribute, accessor, getter, setter, adder, remover, member_lines, struct_field, method_lines, signature_lines, param_lines, map_lines, members_lines}
use Rattle.winmd_lines.specs.Names.{Names, named_row, type_value, code_of_value, is_declared, is_outside, is_maker, used, names_in_cell, names_at_top, specs_in_cell, makers_in_cell, place}
use Rattle.winmd_lines.specs.Cells.{Tables, named_at}
use Rattle.winmd_sets.specs.Types.{types_of}
use Rattle.winmd_sets.specs.Rows.{maker_line, spec_line, made_lines, own_lines, all_lines, names_of, rows_of, arranged}
use Rattle.winmd_lines.specs.Orders.{set_by}
use Rattle.sig_blobs.specs.Elements.{system_guid}
use Rattle.sig_blobs.specs.Templates.{template}
use Rattle.winmd_lines.specs.UsedNames.{names_in_use, names_in_uses, names_in_result, names_in_signature, names_in_base}
use Rattle.wr_base.specs.Trees.{UseTree, plain, value, reference, instance, same_use, text_of_tree, UseTrees, no_uses, use_and, count_of, ParamTree, SignatureTree, FieldTree, MemberTree, method, property, event, DeclTree, enum, struct, delegate, interface, class, name_of}
use Rattle.winmd_sets.proofs.AttributeLaws.{tables_of, MakerOk, same_maker}
use Rattle.winmd_sets.proofs.ClassLaws.{NameFits}
use Rattle.winmd_sets.proofs.EnumLaws.{CaseOk}
use Rattle.winmd_sets.proofs.InterfaceLaws.{OwnerOk}
use Rattle.winmd_sets.proofs.MemberLaws.{MembersOk, CellOk}
use Rattle.winmd_lines.proofs.LineLaws.{either}
use Rattle.winmd_sets.proofs.MethodLaws.{ParamOk, method_line, any_method, method_own, is_overload, overload_line}
use Rattle.winmd_sets.proofs.NameLaws.{TwoParts, found, ref_known, type_known, ref_named, type_named}
use Rattle.winmd_sets.proofs.SetLaws.{settled, one_each}
use Rattle.winmd_lines.proofs.SettleLaws.{sort_all, set_rising, set_again_by}
use Rattle.winmd_lines.proofs.SortLaws.{Ascending, sorted_keeps}
use Rattle.winmd_sets.proofs.SpecLaws.{same_self, spec_used, spec_names, spec_read}
use Rattle.winmd_sets.proofs.ShapeLaws.{property_line, event_line}
use Rattle.winmd_sets.proofs.StructLaws.{FieldOk}
use Rattle.winmd_sets.proofs.TypeLaws.{NameOk}
use Rattle.winmd_sets.proofs.UsedLaws.{any_left, any_right, used_left, used_right, ref_used, maker_reached, used_in_set}
use Rattle.winmd_sets.proofs.WholeLaws.{DeclOk, set_again}
use Rattle.winmd_sets.proofs.BlobLaws.{Knows, IsPath, UseOk, SignatureOk}
use Rattle.winmd_sets.proofs.FitLaws.{name_path, name_low, path_parts, name_parts, not_module}
use Rattle.winmd_sets.specs.Fits.{IsName, UseFits, UsesFit, CellFits, CaseFits, FieldFits, ParamFits, ResultFits, SignatureFits, MemberFits, OwnerFits, DeclFits, SetFits, FewNames, Fits, listed_default}
use Rattle.winmd_sets.specs.Blobs.{meanings, paths_in, paths_among, paths_of_result}
use Rattle.sig_blobs.specs.Canonical as canonical
use Rattle.wr_base.specs.Paths.{is_short_name}
use Rattle.winmd_lines.specs.Names.{token_of}
use Rattle.sig_blobs.specs.Templates.{suffix}
use Rattle.std.specs.List.{list_all}
use Rattle.winmd_sets.specs.Values.{number_argument}

-- ---- uses and signatures by themselves

-- each of these names is known
abbrev pub AllKnown : Tables → Names → List (List ℕ) → Type 0
AllKnown t names fulls = (full : List ℕ) → list_any (bytes_eq full) fulls ≡ true → TwoParts full → Knows t names full

self : (full : List ℕ) (more : List (List ℕ)) → list_any (bytes_eq full) (full ∷ more) ≡ true
self full more = let e : bytes_eq full full ≡ true = (bytes_eq-Decides full full).1 refl in rw e refl

known_left : (t : Tables) (names : Names) (xs ys : List (List ℕ)) → AllKnown t names (xs ++ ys) → AllKnown t names xs
known_left t names xs ys k = λ full h. k full (any_left (bytes_eq full) xs ys h)

known_right : (t : Tables) (names : Names) (xs ys : List (List ℕ)) → AllKnown t names (xs ++ ys) → AllKnown t names ys
known_right t names xs ys k = λ full h. k full (any_right (bytes_eq full) xs ys h)

base_ok : (t : Tables) (names : Names) (base : Base) → AllKnown t names (names_in_base base) → canonical.BaseFits (token_of names) (meanings t) base
base_ok t names Guid k = k system_guid refl refl
base_ok t names Boolean k = tt
base_ok t names Char k = tt
base_ok t names U8 k = tt
base_ok t names I16 k = tt
base_ok t names U16 k = tt
base_ok t names I32 k = tt
base_ok t names U32 k = tt
base_ok t names I64 k = tt
base_ok t names U64 k = tt
base_ok t names Text k = tt
base_ok t names Object k = tt

mutual
  use_fits : (t : Tables) (names : Names) (depth : ℕ) (u : UseTree) → UseFits depth u → AllKnown t names (names_in_use u) → canonical.UseFits (token_of names) (meanings t) depth u
  use_fits t names zero u h k = absurd h
  use_fits t names (suc depth) (plain base) h k = base_ok t names base k
  use_fits t names (suc depth) (value name) h k = (k name (self name []) (name_parts name h.0), h.0.path, h.1)
  use_fits t names (suc depth) (reference name) h k = (k name (self name []) (name_parts name h), h.path)
  use_fits t names (suc depth) (instance name arguments) h k = (
    k (template name (count_of arguments)) (self (template name (count_of arguments)) (names_in_uses arguments)) (path_parts name (suffix (count_of arguments)) h.0.path),
    h.0.path,
    h.1,
    h.2,
    uses_fit t names depth arguments h.3 (known_right t names (template name (count_of arguments) ∷ []) (names_in_uses arguments) k),
  )

  uses_fit : (t : Tables) (names : Names) (depth : ℕ) (us : UseTrees) → UsesFit depth us → AllKnown t names (names_in_uses us) → canonical.UsesFit (token_of names) (meanings t) depth us
  uses_fit t names depth no_uses h k = tt
  uses_fit t names depth (use_and u us) h k = (use_fits t names depth u h.0 (known_left t names (names_in_use u) (names_in_uses us) k), uses_fit t names depth us h.1 (known_right t names (names_in_use u) (names_in_uses us) k))

all_short : (xs ys : List (List ℕ)) → list_all is_short_name xs ≡ true → list_all is_short_name ys ≡ true → list_all is_short_name (xs ++ ys) ≡ true
all_short [] ys h g = g
all_short (x ∷ xs) ys h g = let both = and_parts (is_short_name x) (list_all is_short_name xs) h in rw (both.0, all_short xs ys both.1 g) refl

mutual
  use_short : (depth : ℕ) (u : UseTree) → UseFits depth u → list_all is_short_name (paths_in u) ≡ true
  use_short zero u h = absurd h
  use_short (suc depth) (plain base) h = refl
  use_short (suc depth) (value name) h = rw h.0.short refl
  use_short (suc depth) (reference name) h = rw h.short refl
  use_short (suc depth) (instance name arguments) h = rw (h.0.short, uses_short depth arguments h.3) refl

  uses_short : (depth : ℕ) (us : UseTrees) → UsesFit depth us → list_all is_short_name (paths_among us) ≡ true
  uses_short depth no_uses h = refl
  uses_short depth (use_and u us) h = all_short (paths_in u) (paths_among us) (use_short depth u h.0) (uses_short depth us h.1)

use_ok : (t : Tables) (names : Names) (u : UseTree) → UseFits 16 u → AllKnown t names (names_in_use u) → UseOk t names 16 u
use_ok t names u h k = record { fits = use_fits t names 16 u h k; short = use_short 16 u h }

result_fits : (t : Tables) (names : Names) (result : Option UseTree) → ResultFits result → AllKnown t names (names_in_result result) → canonical.ResultFits (token_of names) (meanings t) result
result_fits t names None h k = tt
result_fits t names (Some u) h k = use_fits t names 16 u h k

result_short : (result : Option UseTree) → ResultFits result → list_all is_short_name (paths_of_result result) ≡ true
result_short None h = refl
result_short (Some u) h = use_short 16 u h

params_fit : (t : Tables) (names : Names) (ps : List ParamTree) → AllByRecursion ParamFits ps → AllKnown t names (flat_map (λ p. names_in_use p.kind) ps) → AllByRecursion (λ p. canonical.UseFits (token_of names) (meanings t) 16 p.kind) ps
params_fit t names [] h k = tt
params_fit t names (p ∷ ps) h k =
    (use_fits t names 16 p.kind h.0.kind (known_left t names (names_in_use p.kind) (flat_map (λ q. names_in_use q.kind) ps) k), params_fit t names ps h.1 (known_right t names (names_in_use p.kind) (flat_map (λ q. names_in_use q.kind) ps) k))

params_short : (ps : List ParamTree) → AllByRecursion ParamFits ps → list_all is_short_name (flat_map (λ p. paths_in p.kind) ps) ≡ true
params_short [] h = refl
params_short (p ∷ ps) h = all_short (paths_in p.kind) (flat_map (λ q. paths_in q.kind) ps) (use_short 16 p.kind h.0.kind) (params_short ps h.1)

signature_ok : (t : Tables) (names : Names) (sig : SignatureTree) → SignatureFits sig → AllKnown t names (names_in_signature sig) → SignatureOk t names sig
signature_ok t names sig h k = record {
  fits = record {
    result = result_fits t names sig.result h.result (known_left t names (names_in_result sig.result) (flat_map (λ p. names_in_use p.kind) sig.params) k);
    params = params_fit t names sig.params h.params (known_right t names (names_in_result sig.result) (flat_map (λ p. names_in_use p.kind) sig.params) k);
    few = (let f = h.few in omega (arith, f));
  };
  short = all_short (paths_of_result sig.result) (flat_map (λ p. paths_in p.kind) sig.params) (result_short sig.result h.result) (params_short sig.params h.params);
}

params_named : (ps : List ParamTree) → AllByRecursion ParamFits ps → AllByRecursion ParamOk ps
params_named [] h = tt
params_named (p ∷ ps) h = (record { named = h.0.named.identifier; short = h.0.named.short }, params_named ps h.1)

cases_ok : (flags : Bool) (cs : List Case) → AllByRecursion (CaseFits flags) cs → AllByRecursion (CaseOk flags) cs
cases_ok flags [] h = tt
cases_ok flags (c ∷ cs) h = (record { named = h.0.named.identifier; short = h.0.named.short; fits = h.0.fits }, cases_ok flags cs h.1)

name_ok : (full : List ℕ) → IsName full → NameOk full
name_ok full h = record { parts = name_parts full h; path = name_path full h; plain = not_module full h }

name_fits : (full : List ℕ) → IsName full → NameFits full
name_fits full h = (name_path full h, h.path, name_low full h)

names_fit : (fs : List (List ℕ)) → AllByRecursion IsName fs → AllByRecursion NameFits fs
names_fit [] h = tt
names_fit (f ∷ fs) h = (name_fits f h.0, names_fit fs h.1)

-- each of these names is that of the row which it has
abbrev AllNamed : Tables → Names → List (List ℕ) → Type 0
AllNamed t names fulls = (full : List ℕ) → list_any (bytes_eq full) fulls ≡ true → TwoParts full → (o : ℕ) → named_at t o (named_row names full) ≡ Ok full

cell_ok : (t : Tables) (names : Names) (full : List ℕ) → IsPath full → ((o : ℕ) → named_at t o (named_row names full) ≡ Ok full) → CellOk t names (reference full)
cell_ok t names full path named = λ o.
    elim (either (is_declared names.types full)) [
      | inl e ↦ (let n = rw e at named o in rw (e, n, path o) refl)
      | inr e ↦ (let n = rw e at named o in rw (e, n, path o) refl)
    ]

-- each instance that these cells name is read there
abbrev AllSpecs : Tables → Names → List UseTree → Type 0
AllSpecs t names specs = (name : List ℕ) (arguments : UseTrees) → list_any (same_use (instance name arguments)) specs ≡ true → UseFits 16 (instance name arguments) → CellOk t names (instance name arguments)

cell_of_use : (t : Tables) (names : Names) (u : UseTree) → CellFits u → AllNamed t names (names_at_top u) → AllSpecs t names (specs_in_cell (Type_ u)) → CellOk t names u
cell_of_use t names (reference full) h r z = cell_ok t names full (name_path full h) (r full (self full []) (name_parts full h))
cell_of_use t names (instance name arguments) h r z = z name arguments (let e : same_use (instance name arguments) (instance name arguments) ≡ true = same_self (instance name arguments) in rw e refl) h
cell_of_use t names (plain base) h r z = absurd h
cell_of_use t names (value name) h r z = absurd h

self_maker : (m : Maker) → (is_maker m m || false) ≡ true
self_maker m = let e : is_maker m m ≡ true = eq-eqb (maker_number m) (maker_number m) refl in rw e refl

-- what lines say is known
record Known (t : Tables) (names : Names) (ls : List Line) : Type 0 where
  known : AllKnown t names (used names_in_cell ls)
  named : AllNamed t names (used names_in_cell ls)
  specs : AllSpecs t names (used specs_in_cell ls)
  made : (m : Maker) → list_any (is_maker m) (used makers_in_cell ls) ≡ true → MakerOk names m

left_known : (t : Tables) (names : Names) (xs ys : List Line) → Known t names (xs ++ ys) → Known t names xs
left_known t names xs ys k = record {
  known = λ full a. k.known full (used_left (bytes_eq full) names_in_cell xs ys a);
  named = λ full a. k.named full (used_left (bytes_eq full) names_in_cell xs ys a);
  specs = λ name arguments a. k.specs name arguments (used_left (same_use (instance name arguments)) specs_in_cell xs ys a);
  made = λ m a. k.made m (used_left (is_maker m) makers_in_cell xs ys a);
}

right_known : (t : Tables) (names : Names) (xs ys : List Line) → Known t names (xs ++ ys) → Known t names ys
right_known t names xs ys k = record {
  known = λ full a. k.known full (used_right (bytes_eq full) names_in_cell xs ys a);
  named = λ full a. k.named full (used_right (bytes_eq full) names_in_cell xs ys a);
  specs = λ name arguments a. k.specs name arguments (used_right (same_use (instance name arguments)) specs_in_cell xs ys a);
  made = λ m a. k.made m (used_right (is_maker m) makers_in_cell xs ys a);
}

-- names in the last cell of a line
abbrev AllIn : List (List ℕ) → List (List ℕ) → Type 0
AllIn xs ys = (full : List ℕ) → list_any (bytes_eq full) xs ≡ true → list_any (bytes_eq full) ys ≡ true

in_last : (xs : List (List ℕ)) → AllIn xs ((xs ++ []) ++ [])
in_last xs = λ full a. any_left (bytes_eq full) (xs ++ []) [] (any_left (bytes_eq full) xs [] a)

-- the type that the last cell of a line names
line_cell : (t : Tables) (names : Names) (l : Line) (u : UseTree) → CellFits u → Known t names (l ∷ []) → used names_in_cell (l ∷ []) ≡ (names_at_top u ++ []) ++ [] → used specs_in_cell (l ∷ []) ≡ (specs_in_cell (Type_ u) ++ []) ++ [] → CellOk t names u
line_cell t names l u h k e f = cell_of_use t names u h
    (λ full a. k.named full (subst (λ (x : List (List ℕ)). list_any (bytes_eq full) x ≡ true) (sym e) (in_last (names_at_top u) full a)))
    (λ name arguments a. k.specs name arguments (subst (λ (x : List UseTree). list_any (same_use (instance name arguments)) x ≡ true) (sym f) (any_left (same_use (instance name arguments)) (specs_in_cell (Type_ u) ++ []) [] (any_left (same_use (instance name arguments)) (specs_in_cell (Type_ u)) [] a))))

uses_ok_in : (t : Tables) (names : Names) (us : List UseTree) → AllByRecursion CellFits us → Known t names (map interface_line us) → AllByRecursion (CellOk t names) us
uses_ok_in t names [] h k = tt
uses_ok_in t names (u ∷ us) h k =
    (line_cell t names (interface_line u) u h.0 (left_known t names (interface_line u ∷ []) (map interface_line us) k) refl refl, uses_ok_in t names us h.1 (right_known t names (interface_line u ∷ []) (map interface_line us) k))

has_ok : (t : Tables) (names : Names) (default : Option UseTree) (us : List UseTree) → AllByRecursion CellFits us → Known t names (flat_map (class_interface default) us)
    → AllByRecursion (CellOk t names) us × AllByRecursion (λ u. is_default default u ≡ true → MakerOk names Maker.Default) us
has_ok t names default [] h k = (tt, tt)
has_ok t names default (u ∷ us) h k =
    let own : List Line = when (is_default default u) (attribute tables.InterfaceImpl Maker.Default [] ∷ []) in
    let later : List Line = flat_map (class_interface default) us in
    let first = left_known t names (class_interface default u) later k in
    let rest = has_ok t names default us h.1 (right_known t names (class_interface default u) later k) in (
      (line_cell t names (interface_line u) u h.0 (left_known t names (interface_line u ∷ []) own first) refl refl, rest.0),
      (λ d. (right_known t names (interface_line u ∷ []) own first).made Maker.Default (rw d refl), rest.1),
    )

named_made : (t : Tables) (names : Names) (m : Maker) (version : ℕ) (fs : List (List ℕ)) → Known t names (map (named_attribute m version) fs) → AllByRecursion (λ f. MakerOk names m) fs
named_made t names m version [] k = tt
named_made t names m version (f ∷ fs) k =
    ((left_known t names (named_attribute m version f ∷ []) (map (named_attribute m version) fs) k).made m (self_maker m), named_made t names m version fs (right_known t names (named_attribute m version f ∷ []) (map (named_attribute m version) fs) k))

abbrev property_rest : List ℕ → UseTree → Bool → List Line
property_rest name u put = accessor tables.Property 2 (codes "get_" ++ name) (getter u) ++ when put (accessor tables.Property 1 (codes "put_" ++ name) (setter u))

abbrev event_rest : List ℕ → UseTree → List Line
event_rest name u = accessor tables.Event 8 (codes "add_" ++ name) (adder u) ++ accessor tables.Event 0x10 (codes "remove_" ++ name) remover

members_ok : (t : Tables) (names : Names) (earlier : List (List ℕ)) (ms : List MemberTree) → AllByRecursion MemberFits ms → Known t names (members_lines earlier ms) → MembersOk t names earlier ms
members_ok t names earlier [] h k = tt
members_ok t names earlier (property name u put ∷ ms) h k =
    let own : List Line = member_lines earlier (property name u put) in
    let rest : List Line = members_lines earlier ms in
    let here = left_known t names (property_line name u ∷ []) (property_rest name u put) (left_known t names own rest k) in
    (record { named = h.0.0.identifier; short = h.0.0.short; type_ok = use_ok t names u h.0.1 (λ full a. here.known full (in_last (names_in_use u) full a)) }, members_ok t names earlier ms h.1 (right_known t names own rest k))
members_ok t names earlier (event name u ∷ ms) h k =
    let own : List Line = member_lines earlier (event name u) in
    let rest : List Line = members_lines earlier ms in
    let here = left_known t names (event_line name u ∷ []) (event_rest name u) (left_known t names own rest k) in
    (record { named = h.0.0.identifier; short = h.0.0.short; type_ok = line_cell t names (event_line name u) u h.0.1 here refl refl }, members_ok t names earlier ms h.1 (right_known t names own rest k))
members_ok t names earlier (method name abi sig ∷ ms) h k =
    let own : List Line = method_own earlier name abi sig in
    let rest : List Line = members_lines (name ∷ earlier) ms in
    let mine : List Line = method_line name sig ∷ own in
    let whole : Known t names (mine ++ rest) = k in
    let of_member = left_known t names mine rest whole in
    let head = left_known t names (method_line name sig ∷ []) own of_member in
    let behind_ = right_known t names (method_line name sig ∷ []) own of_member in
    let over_ = right_known t names (param_lines 1 sig.params) (when (is_overload earlier name abi) (overload_line abi ∷ [])) behind_ in (
      record {
        named = h.0.named.identifier;
        short = h.0.named.short;
        abi_named = h.0.abi_named.identifier;
        abi_short = h.0.abi_named.short;
        sig_ok = signature_ok t names sig h.0.signed (λ full a. head.known full (in_last (names_in_signature sig) full a));
        params_ok = params_named sig.params h.0.signed.params;
        few = h.0.signed.few;
        overload_made = λ over. over_.made Maker.Overload (rw over refl);
      },
      members_ok t names (name ∷ earlier) ms h.1 (right_known t names mine rest whole),
    )

fields_ok : (t : Tables) (names : Names) (fs : List FieldTree) → AllByRecursion FieldFits fs → AllKnown t names (used names_in_cell (map struct_field fs)) → AllByRecursion (FieldOk t names) fs
fields_ok t names [] h k = tt
fields_ok t names (f ∷ fs) h k = (
  record { named = h.0.named.identifier; short = h.0.named.short; type_ok = use_ok t names f.kind h.0.kind (λ full a. k full (any_left (bytes_eq full) (names_in_use f.kind ++ []) (used names_in_cell (map struct_field fs)) (any_left (bytes_eq full) (names_in_use f.kind) [] a))) },
  fields_ok t names fs h.1 (λ full a. k full (any_right (bytes_eq full) (names_in_use f.kind ++ []) (used names_in_cell (map struct_field fs)) a)),
)

-- ---- a set whose interfaces stand in the order of their rows

abbrev set_arranged : List DeclTree → List DeclTree
set_arranged ds = map (arranged (names_of ds)) ds

name_arranged : (names : Names) (d : DeclTree) → name_of (arranged names d) ≡ name_of d
name_arranged names (enum name version flags cases) = refl
name_arranged names (struct name version fields) = refl
name_arranged names (delegate name version id invoke) = refl
name_arranged names (interface name version id owner requires_ members) = refl
name_arranged names (class name version fixed default has direct factories statics) = refl

names_arranged : (names : Names) (ds : List DeclTree) → map name_of (map (arranged names) ds) ≡ map name_of ds
names_arranged names [] = refl
names_arranged names (d ∷ ds) = rw (name_arranged names d) (ap (λ (x : List (List ℕ)). name_of d ∷ x) (names_arranged names ds))

-- read, they are as they were
settled_one : (names : Names) (d : DeclTree) → DeclFits d → settled (arranged names d) ≡ d
settled_one names (enum name version flags cases) h = refl
settled_one names (struct name version fields) h = refl
settled_one names (delegate name version id invoke) h = refl
settled_one names (interface name version id owner requires_ members) h =
    ap (λ (x : List UseTree). interface name version id owner x members) (set_again_by text_of_tree (λ u. code_of_value (type_value names u)) requires_ h.rising)
settled_one names (class name version fixed default has direct factories statics) h =
    rw (set_again_by text_of_tree (λ u. code_of_value (type_value names u)) has h.rising, set_rising (λ n. n) factories h.factories_rising, set_rising (λ n. n) statics h.statics_rising) refl

settled_all : (names : Names) (ds : List DeclTree) → AllByRecursion DeclFits ds → map settled (map (arranged names) ds) ≡ ds
settled_all names [] h = refl
settled_all names (d ∷ ds) h = rw (settled_one names d h.0) (ap (λ (x : List DeclTree). d ∷ x) (settled_all names ds h.1))

-- ---- names lead to their types

place_low : (p : List ℕ → Bool) (xs : List (List ℕ)) → list_any p xs ≡ true → place p xs < length xs
place_low p xs h =
    let f = found p xs h in
    let l : length xs ≡ length f.front + suc (length f.back) = ap length f.split ∙ length-append f.front (f.item ∷ f.back) in
    let a = f.at in
    omega (arith, l, a)

length-names : (ds : List DeclTree) → length (map name_of ds) ≡ length ds
length-names [] = refl
length-names (d ∷ ds) = ap suc (length-names ds)

-- what the lines of declarations, and of the references that they make, use
abbrev reached : List DeclTree → List Line
reached ds = own_lines ds ++ made_lines (names_of ds).specs (names_of ds).makers

name_known : (ds : List DeclTree) (offset : Offsets) → FewNames ds → (full : List ℕ) → list_any (bytes_eq full) (used names_in_cell (reached ds)) ≡ true → TwoParts full
    → Knows (tables_of (names_of ds) (set_arranged ds) offset) (names_of ds) full
name_known ds offset few full h parts =
    let names : Names = names_of ds in
    let now : List DeclTree = set_arranged ds in
    let t : Tables = tables_of names now offset in
    let same : map name_of now ≡ map name_of ds = names_arranged names ds in
    elim (either (is_declared names.types full)) [
      | inl e ↦
          let both = and_parts (not (is_outside full)) (list_any (bytes_eq full) (map name_of ds)) e in
          let low0 : place (bytes_eq full) (map name_of ds) < 2 ^ 26 = (let p = place_low (bytes_eq full) (map name_of ds) both.1 in let l = length-names ds in let f = few.types in omega (arith, p, l, f)) in
          let low : place (bytes_eq full) (map name_of now) < 2 ^ 26 = subst (λ (x : List (List ℕ)). place (bytes_eq full) x < 2 ^ 26) (sym same) low0 in
          let among : list_any (bytes_eq full) (map name_of now) ≡ true = ap (list_any (bytes_eq full)) same ∙ both.1 in
          type_known t names now full (sym same) (record { is = refl }) (one_each now) among parts e low
      | inr e ↦
          let among = ref_used names.types (reached ds) full h e in
          let low : place (bytes_eq full) names.refs < 2 ^ 26 = (let p = place_low (bytes_eq full) names.refs among in let f = few.refs in omega (arith, p, f)) in
          ref_known t names (all_lines names now) (made_lines names.specs names.makers ++ own_lines now) full (record { is = refl }) refl among parts e low
    ]

name_named : (ds : List DeclTree) (offset : Offsets) → (full : List ℕ) → list_any (bytes_eq full) (used names_in_cell (reached ds)) ≡ true → TwoParts full
    → (o : ℕ) → named_at (tables_of (names_of ds) (set_arranged ds) offset) o (named_row (names_of ds) full) ≡ Ok full
name_named ds offset full h parts = λ o.
    let names : Names = names_of ds in
    let now : List DeclTree = set_arranged ds in
    let t : Tables = tables_of names now offset in
    let same : map name_of now ≡ map name_of ds = names_arranged names ds in
    elim (either (is_declared names.types full)) [
      | inl e ↦
          let both = and_parts (not (is_outside full)) (list_any (bytes_eq full) (map name_of ds)) e in
          let among : list_any (bytes_eq full) (map name_of now) ≡ true = ap (list_any (bytes_eq full)) same ∙ both.1 in
          let named = type_named t names now full o (record { is = refl }) (one_each now) among parts in
          let there : named_at t o (Value.To tables.TypeDef (suc (suc (place (bytes_eq full) (map name_of ds))))) ≡ Ok full =
          subst (λ (x : List (List ℕ)). named_at t o (Value.To tables.TypeDef (suc (suc (place (bytes_eq full) x)))) ≡ Ok full) same named in
          rw e there
      | inr e ↦
          let among = ref_used names.types (reached ds) full h e in
          rw e (ref_named t names (all_lines names now) (made_lines names.specs names.makers ++ own_lines now) full o (record { is = refl }) refl among parts)
    ]

spec_known : (ds : List DeclTree) (offset : Offsets) → FewNames ds → (name : List ℕ) (arguments : UseTrees) → list_any (same_use (instance name arguments)) (used specs_in_cell (own_lines ds)) ≡ true → UseFits 16 (instance name arguments)
    → CellOk (tables_of (names_of ds) (set_arranged ds) offset) (names_of ds) (instance name arguments)
spec_known ds offset few name arguments h fits = λ o.
    let u : UseTree = instance name arguments in
    let names : Names = names_of ds in
    let t : Tables = tables_of names (set_arranged ds) offset in
    let own : List Line = own_lines ds in
    let among : list_any (same_use u) names.specs ≡ true = spec_used own u h in
    let inside : AllIn (names_in_use u) (used names_in_cell (reached ds)) = λ full a.
    used_right (bytes_eq full) names_in_cell own (made_lines names.specs names.makers) (used_right (bytes_eq full) names_in_cell (map maker_line names.makers) (map spec_line names.specs) (spec_names names.specs u (bytes_eq full) among a)) in
    spec_read names (set_arranged ds) offset name arguments o among (use_ok t names u fits (λ full a parts. name_known ds offset few full (inside full a) parts))

-- ---- each declaration of a set

-- what the lines of a declaration say is known
decl_known : (front : List DeclTree) (d : DeclTree) (back : List DeclTree) (offset : Offsets) → FewNames (front ++ d ∷ back)
    → Known (tables_of (names_of (front ++ d ∷ back)) (set_arranged (front ++ d ∷ back)) offset) (names_of (front ++ d ∷ back)) (lines_of d)
decl_known front d back offset few =
    let ds : List DeclTree = front ++ d ∷ back in
    let names : Names = names_of ds in
    let own : List Line = own_lines ds in
    let made_ : List Line = made_lines names.specs names.makers in
    record {
      known = λ full a parts. name_known ds offset few full (used_left (bytes_eq full) names_in_cell own made_ (used_in_set (bytes_eq full) names_in_cell front d back a)) parts;
      named = λ full a parts. name_named ds offset full (used_left (bytes_eq full) names_in_cell own made_ (used_in_set (bytes_eq full) names_in_cell front d back a)) parts;
      specs = λ name arguments a fits. spec_known ds offset few name arguments (used_in_set (same_use (instance name arguments)) specs_in_cell front d back a) fits;
      made = λ m a. maker_reached ds m (used_in_set (is_maker m) makers_in_cell front d back a);
    }

-- the type that a declaration extends has its TypeRef
base_known : (front : List DeclTree) (d : DeclTree) (back : List DeclTree) (full : List ℕ) → list_any (bytes_eq full) (used names_in_cell (lines_of d)) ≡ true → is_declared (map name_of (front ++ d ∷ back)) full ≡ false
    → list_any (bytes_eq full) (names_of (front ++ d ∷ back)).refs ≡ true
base_known front d back full h outside_ =
    let ds : List DeclTree = front ++ d ∷ back in
    let names : Names = names_of ds in
    ref_used names.types (reached ds) full (used_left (bytes_eq full) names_in_cell (own_lines ds) (made_lines names.specs names.makers) (used_in_set (bytes_eq full) names_in_cell front d back h)) outside_

-- `System.Type`, where a factory is named
by_factory : (makers : List Maker) → list_any (is_maker Maker.Factory) makers ≡ true → list_any (bytes_eq (codes "System.Type")) (used names_in_cell (map maker_line makers)) ≡ true
by_factory [] h = absurd cc
by_factory (m ∷ ms) h =
    elim (either (is_maker Maker.Factory m)) [
      | inl e ↦ (let same : Maker.Factory ≡ m = same_maker Maker.Factory m e in used_left (bytes_eq (codes "System.Type")) names_in_cell (maker_line m ∷ []) (map maker_line ms) (subst (λ (x : Maker). list_any (bytes_eq (codes "System.Type")) (used names_in_cell (maker_line x ∷ [])) ≡ true) same refl))
      | inr e ↦ used_right (bytes_eq (codes "System.Type")) names_in_cell (maker_line m ∷ []) (map maker_line ms) (by_factory ms (rw e at h))
    ]

type_reached : (ds : List DeclTree) (offset : Offsets) → FewNames ds → list_any (is_maker Maker.Factory) (names_of ds).makers ≡ true → UseOk (tables_of (names_of ds) (set_arranged ds) offset) (names_of ds) 16 system_type
type_reached ds offset few h =
    let names : Names = names_of ds in
    record { fits = (name_known ds offset few (codes "System.Type") (used_right (bytes_eq (codes "System.Type")) names_in_cell (own_lines ds) (made_lines names.specs names.makers) (used_left (bytes_eq (codes "System.Type")) names_in_cell (map maker_line names.makers) (map spec_line names.specs) (by_factory names.makers h))) refl, refl); short = refl }

all_types : (ds : List DeclTree) (offset : Offsets) → FewNames ds → (fs : List (List ℕ)) → AllByRecursion (λ f. MakerOk (names_of ds) Maker.Factory) fs → AllByRecursion (λ f. UseOk (tables_of (names_of ds) (set_arranged ds) offset) (names_of ds) 16 system_type) fs
all_types ds offset few [] h = tt
all_types ds offset few (f ∷ fs) h = (type_reached ds offset few h.0.made, all_types ds offset few fs h.1)

owner_ok : (t : Tables) (names : Names) (owner : Option (List ℕ)) → OwnerFits owner → Known t names (owner_of_type owner) → OwnerOk names owner
owner_ok t names None h k = tt
owner_ok t names (Some owner) h k = (name_path owner h, h.path, name_low owner h, k.made Maker.ExclusiveTo refl)

one_ascends : (default : Option UseTree) (key : UseTree → ℕ) → Ascending key (listed_default default)
one_ascends None key = tt
one_ascends (Some u) key = (tt, tt)

decl_ok : (front : List DeclTree) (d : DeclTree) (back : List DeclTree) (offset : Offsets) → FewNames (front ++ d ∷ back) → DeclFits d
    → DeclOk (tables_of (names_of (front ++ d ∷ back)) (set_arranged (front ++ d ∷ back)) offset) (names_of (front ++ d ∷ back)) (arranged (names_of (front ++ d ∷ back)) d)
decl_ok front (enum name version true cs) back offset few h =
    let d : DeclTree = enum name version true cs in
    let k = decl_known front d back offset few in
    record {
      named = name_ok name h.named;
      numbered = h.numbered;
      few = h.few;
      cases = cases_ok _ cs h.cases;
      base = base_known front d back (codes "System.Enum") refl refl;
      version_made = k.made Maker.Version refl;
      flags_made = λ e. k.made Maker.Flags refl;
    }
decl_ok front (enum name version false cs) back offset few h =
    let d : DeclTree = enum name version false cs in
    let k = decl_known front d back offset few in
    record {
      named = name_ok name h.named;
      numbered = h.numbered;
      few = h.few;
      cases = cases_ok _ cs h.cases;
      base = base_known front d back (codes "System.Enum") refl refl;
      version_made = k.made Maker.Version refl;
      flags_made = λ e. absurd cc;
    }
decl_ok front (interface name version id owner us ms) back offset few h =
    let d : DeclTree = interface name version id owner us ms in
    let names : Names = names_of (front ++ d ∷ back) in
    let t : Tables = tables_of names (set_arranged (front ++ d ∷ back)) offset in
    let k = decl_known front d back offset few in
    let three : List Line = own_line d ∷ id_of_type id ∷ version_of_type version ∷ [] in
    let ow : List Line = owner_of_type owner in
    let rq : List Line = map interface_line us in
    let mp : List Line = map_lines ms in
    let me : List Line = members_lines [] ms in
    let k1 = right_known t names three (ow ++ (rq ++ (mp ++ me))) k in
    let k2 = right_known t names ow (rq ++ (mp ++ me)) k1 in
    let k3 = right_known t names mp me (right_known t names rq (mp ++ me) k2) in
    record {
      named = name_ok name h.named;
      numbered_ = h.numbered;
      id_fits = h.id_fits;
      few = h.few;
      owned_by = owner_ok t names owner h.owned_by (left_known t names ow (rq ++ (mp ++ me)) k1);
      uses = sort_all (CellOk t names) (λ u. code_of_value (type_value names u)) us (uses_ok_in t names us h.uses (left_known t names rq (mp ++ me) k2));
      members = members_ok t names [] ms h.members k3;
      version_made = k.made Maker.Version refl;
      guid_made = k.made Maker.Guid refl;
    }
decl_ok front (struct name version fields) back offset few h =
    let d : DeclTree = struct name version fields in
    let names : Names = names_of (front ++ d ∷ back) in
    let t : Tables = tables_of names (set_arranged (front ++ d ∷ back)) offset in
    let k = decl_known front d back offset few in
    record {
      named = name_ok name h.named;
      numbered_ = h.numbered;
      few = h.few;
      fields = fields_ok t names fields h.fields (right_known t names (own_line d ∷ version_of_type version ∷ []) (map struct_field fields) k).known;
      base = base_known front d back (codes "System.ValueType") refl refl;
      version_made = k.made Maker.Version refl;
    }
decl_ok front (delegate name version id invoke) back offset few h =
    let d : DeclTree = delegate name version id invoke in
    let names : Names = names_of (front ++ d ∷ back) in
    let t : Tables = tables_of names (set_arranged (front ++ d ∷ back)) offset in
    let k = decl_known front d back offset few in
    let five : List Line = own_line d ∷ id_of_type id ∷ version_of_type version ∷ method_lines 0x1881 3 (codes ".ctor") (Bytes (0x20 ∷ 2 ∷ 0x01 ∷ 0x1C ∷ 0x18 ∷ [])) [] in
    let last_ = right_known t names five (signature_lines 0x09C6 3 (codes "Invoke") invoke) k in
    let head = left_known t names (any_method 0x09C6 3 (codes "Invoke") invoke ∷ []) (param_lines 1 invoke.params) last_ in
    record {
      named = name_ok name h.named;
      numbered_ = h.numbered;
      id_fits = h.id_fits;
      sig = record { sig_ok = signature_ok t names invoke h.signed (λ full a. head.known full (in_last (names_in_signature invoke) full a)); params_ok = params_named invoke.params h.signed.params; few = h.signed.few };
      base = base_known front d back (codes "System.MulticastDelegate") refl refl;
      version_made = k.made Maker.Version refl;
      guid_made = k.made Maker.Guid refl;
    }
decl_ok front (class name version fixed default has direct factories statics) back offset few h =
    let d : DeclTree = class name version fixed default has direct factories statics in
    let ds : List DeclTree = front ++ d ∷ back in
    let names : Names = names_of ds in
    let t : Tables = tables_of names (set_arranged ds) offset in
    let key : UseTree → ℕ = λ u. code_of_value (type_value names u) in
    let k = decl_known front d back offset few in
    let two : List Line = own_line d ∷ version_of_type version ∷ [] in
    let hs : List Line = flat_map (class_interface default) has in
    let di : List Line = when direct (attribute tables.TypeDef Maker.Activatable (number_argument version) ∷ []) in
    let fa : List Line = map (named_attribute Maker.Factory version) factories in
    let st : List Line = map (named_attribute Maker.Static version) statics in
    let k1 = right_known t names two (hs ++ (di ++ (fa ++ st))) k in
    let k2 = right_known t names hs (di ++ (fa ++ st)) k1 in
    let k3 = right_known t names di (fa ++ st) k2 in
    let listed = has_ok t names default has h.uses (left_known t names hs (di ++ (fa ++ st)) k1) in
    let factories_made = named_made t names Maker.Factory version factories (left_known t names fa st k3) in
    record {
      named = name_ok name h.named;
      numbered_ = h.numbered;
      uses = sort_all (CellOk t names) key has listed.0;
      one = sorted_keeps (is_default default) key has (subst (Ascending key) (sym h.one) (one_ascends default key)) ∙ h.one;
      factories = names_fit factories h.factories;
      statics = names_fit statics h.statics;
      base = base_known front d back (codes "System.Object") refl refl;
      version_made = k.made Maker.Version refl;
      default_made = sort_all (λ u. is_default default u ≡ true → MakerOk names Maker.Default) key has listed.1;
      direct_made = λ e. (left_known t names di (fa ++ st) k2).made Maker.Activatable (rw e refl);
      factory_made = factories_made;
      factory_known = all_types ds offset few factories factories_made;
      static_made = named_made t names Maker.Static version statics (right_known t names fa st k3);
    }

decls_ok : (ds front back : List DeclTree) (offset : Offsets) → ds ≡ front ++ back → FewNames ds → AllByRecursion DeclFits back → AllByRecursion (DeclOk (tables_of (names_of ds) (set_arranged ds) offset) (names_of ds)) (map (arranged (names_of ds)) back)
decls_ok ds front [] offset e few h = tt
decls_ok ds front (d ∷ back) offset e few h =
    let split : ds ≡ (front ++ d ∷ []) ++ back = e ∙ sym (append_assoc front (d ∷ []) back) in
    (subst (λ (x : List DeclTree). DeclOk (tables_of (names_of x) (set_arranged x) offset) (names_of x) (arranged (names_of x) d)) (sym e) (decl_ok front d back offset (subst FewNames e few) h.0), decls_ok ds (front ++ d ∷ []) back offset split few h.1)

-- The rows of a set of declarations state that set, to a reader that knows nothing of how they were written.
pub rows_state : (ds : List DeclTree) (offset : Offsets) → Fits ds → types_of (record { rows = stated (rows_of ds); offset = offset }) ≡ Ok (set_by name_of ds)
rows_state ds offset fits =
    let names : Names = names_of ds in
    let same : map settled (set_arranged ds) ≡ ds = settled_all names ds fits.each in
    set_again names (set_arranged ds) offset (decls_ok ds [] ds offset refl fits.names fits.each) (subst (SetFits 0 0) (sym same) fits.set) ∙ ap (λ (x : List DeclTree). Ok (set_by name_of x)) same
