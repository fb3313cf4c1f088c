-- All lines of declarations fit their tables.
use Rattle.std.proofs.Common.{◌≡◌, ℕ, suc, Bool, true, false, List, [], ◌∷◌, ◌++◌, map, refl}
use Rattle.std.specs.List.{list_all}
use Rattle.std.proofs.lemmas.Bool.{and_parts}
use Rattle.winmd_lines.specs.Lines.{Line}
use Rattle.winmd_lines.specs.Makers.{Maker}
use Rattle.winmd_sets.specs.Members.{param_lines}
use Rattle.winmd_sets.specs.Rows.{ref_line, maker_line, spec_line}
use Rattle.std.specs.List.{flat_map}
use Rattle.std.specs.Prelude.{not, ◌||◌, bytes_eq}
use Rattle.std.specs.List.{list_any}
use Rattle.std.proofs.lemmas.List.Concat.{flat_map-cons}
use Rattle.std.proofs.Common.{sym, subst, Option, Some, None}
use Rattle.md_schema.specs.declared.table.Table.TheVariants as tables
use Rattle.wr_base.specs.declared.declaration.Case.{Case}
use Rattle.winmd_sets.specs.Declared.{first_lines, lines_of, owner_of_type, interface_line, class_interface, is_default, named_attribute}
use Rattle.winmd_sets.specs.Members.{when, attribute, case_lines, struct_field, member_lines, members_lines, method_names, map_line, map_lines, is_property, is_event}
use Rattle.winmd_lines.specs.Names.{Names}
use Rattle.winmd_sets.specs.Rows.{own_lines, made_lines, all_lines}
use Rattle.wr_base.specs.Trees.{ParamTree, UseTree, FieldTree, MemberTree, method, property, event, DeclTree, enum, struct, delegate, interface, class}
use Rattle.winmd_sets.specs.LineShapes.{line_ok}
use Rattle.winmd_sets.specs.Values.{number_argument, words_argument}

abbrev pub AllFit : List Line → Type 0
AllFit lines = list_all line_ok lines ≡ true

pub fit_join : (xs ys : List Line) → AllFit xs → AllFit ys → AllFit (xs ++ ys)
fit_join [] ys h k = k
fit_join (x ∷ xs) ys h k = let both = and_parts (line_ok x) (list_all line_ok xs) h in rw (both.0, fit_join xs ys both.1 k) refl

pub fit_params : (n : ℕ) (ps : List ParamTree) → AllFit (param_lines n ps)
fit_params n [] = refl
fit_params n (p ∷ ps) = fit_params (suc n) ps

pub fit_refs : (refs : List (List ℕ)) → AllFit (map ref_line refs)
fit_refs [] = refl
fit_refs (r ∷ rs) = fit_refs rs

pub fit_makers : (makers : List Maker) → AllFit (map maker_line makers)
fit_makers [] = refl
fit_makers (m ∷ ms) = fit_makers ms

pub fit_specs : (specs : List UseTree) → AllFit (map spec_line specs)
fit_specs [] = refl
fit_specs (u ∷ us) = fit_specs us

fit_when : (b : Bool) (lines : List Line) → AllFit lines → AllFit (when b lines)
fit_when true lines h = h
fit_when false lines h = refl

fit_cases : (name : List ℕ) (flags : Bool) (cs : List Case) → AllFit (flat_map (case_lines name flags) cs)
fit_cases name flags [] = refl
fit_cases name flags (c ∷ cs) = fit_cases name flags cs

fit_fields : (fs : List FieldTree) → AllFit (map struct_field fs)
fit_fields [] = refl
fit_fields (f ∷ fs) = fit_fields fs

fit_member : (earlier : List (List ℕ)) (m : MemberTree) → AllFit (member_lines earlier m)
fit_member earlier (method name abi sig) =
    fit_join (param_lines 1 sig.params) (when (not (bytes_eq abi name) || list_any (bytes_eq name) earlier) (attribute tables.MethodDef Maker.Overload (words_argument abi) ∷ [])) (fit_params 1 sig.params) (fit_when (not (bytes_eq abi name) || list_any (bytes_eq name) earlier) (attribute tables.MethodDef Maker.Overload (words_argument abi) ∷ []) refl)
fit_member earlier (property name type_ true) = refl
fit_member earlier (property name type_ false) = refl
fit_member earlier (event name type_) = refl

fit_members : (earlier : List (List ℕ)) (ms : List MemberTree) → AllFit (members_lines earlier ms)
fit_members earlier [] = refl
fit_members earlier (m ∷ ms) = fit_join (member_lines earlier m) (members_lines (method_names m ++ earlier) ms) (fit_member earlier m) (fit_members (method_names m ++ earlier) ms)

fit_requires : (us : List UseTree) → AllFit (map interface_line us)
fit_requires [] = refl
fit_requires (u ∷ us) = fit_requires us

fit_maps : (ms : List MemberTree) → AllFit (map_lines ms)
fit_maps ms = fit_join (when (list_any is_property ms) (map_line tables.PropertyMap tables.Property ∷ [])) (when (list_any is_event ms) (map_line tables.EventMap tables.Event ∷ [])) (fit_when (list_any is_property ms) (map_line tables.PropertyMap tables.Property ∷ []) refl) (fit_when (list_any is_event ms) (map_line tables.EventMap tables.Event ∷ []) refl)

fit_owner : (owner : Option (List ℕ)) → AllFit (owner_of_type owner)
fit_owner None = refl
fit_owner (Some owner) = refl

fit_has : (default : Option UseTree) (us : List UseTree) → AllFit (flat_map (class_interface default) us)
fit_has default [] = refl
fit_has default (u ∷ us) = subst AllFit (sym (flat_map-cons (class_interface default) u us)) (fit_join (class_interface default u) (flat_map (class_interface default) us) (fit_when (is_default default u) _ refl) (fit_has default us))

fit_named : (maker : Maker) (version : ℕ) (names : List (List ℕ)) → AllFit (map (named_attribute maker version) names)
fit_named maker version [] = refl
fit_named maker version (n ∷ ns) = fit_named maker version ns

pub fit_decl : (d : DeclTree) → AllFit (lines_of d)
fit_decl (enum name version true cs) = fit_cases name true cs
fit_decl (enum name version false cs) = fit_cases name false cs
fit_decl (struct name version fs) = fit_fields fs
fit_decl (delegate name version id invoke) = fit_params 1 invoke.params
fit_decl (interface name version id None requires_ ms) =
    fit_join (map interface_line requires_) (map_lines ms ++ members_lines [] ms) (fit_requires requires_) (fit_join (map_lines ms) (members_lines [] ms) (fit_maps ms) (fit_members [] ms))
fit_decl (interface name version id (Some owner) requires_ ms) =
    fit_join (map interface_line requires_) (map_lines ms ++ members_lines [] ms) (fit_requires requires_) (fit_join (map_lines ms) (members_lines [] ms) (fit_maps ms) (fit_members [] ms))
fit_decl (class name version fixed default has direct factories statics) =
    fit_join (flat_map (class_interface default) has) _ (fit_has default has)
    (fit_join (when direct (attribute tables.TypeDef Maker.Activatable (number_argument version) ∷ [])) (map (named_attribute Maker.Factory version) factories ++ map (named_attribute Maker.Static version) statics) (fit_when direct (attribute tables.TypeDef Maker.Activatable (number_argument version) ∷ []) refl)
    (fit_join (map (named_attribute Maker.Factory version) factories) (map (named_attribute Maker.Static version) statics) (fit_named Maker.Factory version factories) (fit_named Maker.Static version statics)))

fit_decls : (ds : List DeclTree) → AllFit (flat_map lines_of ds)
fit_decls [] = refl
fit_decls (d ∷ ds) = subst AllFit (sym (flat_map-cons lines_of d ds)) (fit_join (lines_of d) (flat_map lines_of ds) (fit_decl d) (fit_decls ds))

-- all lines of a set fit, whatever is declared
pub fit_all : (names : Names) (ds : List DeclTree) → AllFit (all_lines names ds)
fit_all names ds =
    fit_join (map ref_line names.refs) (made_lines names.specs names.makers ++ own_lines ds) (fit_refs names.refs)
    (fit_join (made_lines names.specs names.makers) (own_lines ds) (fit_join (map maker_line names.makers) (map spec_line names.specs) (fit_makers names.makers) (fit_specs names.specs))
    (fit_join first_lines (flat_map lines_of ds) refl (fit_decls ds)))
