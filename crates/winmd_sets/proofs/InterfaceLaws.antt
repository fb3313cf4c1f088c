-- Reading the rows of an interface gives it.
use Rattle.std.proofs.Common.{◌≡◌, ℕ, suc, ◌^◌, ◌<◌, ◌≤◌, Bool, true, false, leb, List, [], ◌∷◌, ◌++◌, length, drop, get_or, map, Option, Some, None, Ok, refl, sym, ap, subst, ◌∙◌, append_assoc}
use Rattle.std.specs.Prelude.{⊤, codes}
use Rattle.std.specs.List.{list_any, AllByRecursion}
use Rattle.std.proofs.lemmas.Bool.{le-leb}
use Rattle.md_schema.specs.declared.table.Table.{Table}
use Rattle.md_schema.specs.declared.table.Table.TheVariants as tables
use Rattle.winmd_rows.specs.Faults.{each, ◌>>=◌}
use Rattle.winmd_rows.specs.Values.{Offsets, stated_row}
use Rattle.winmd_lines.specs.Lines.{Line, line}
use Rattle.winmd_sets.specs.Declared.{own_line, body_lines, id_of_type, version_of_type, owner_of_type, interface_line}
use Rattle.winmd_lines.specs.Makers.{Maker}
use Rattle.winmd_sets.specs.Members.{when, attribute, param_lines, map_line, map_lines, is_property, is_event, method_names, member_lines, members_lines}
use Rattle.winmd_lines.specs.Names.{Names, Counts, none, is_in, behind, written}
use Rattle.winmd_lines.specs.Positions.{behind_all, NoneIn, belongs, owned}
use Rattle.winmd_lines.specs.Cells.{Tables, at, numbered}
use Rattle.winmd_sets.specs.Attributes.{Attribute, of_word, version_of, id_of, exclusive_to}
use Rattle.winmd_sets.specs.Interfaces.{role_of, items_of, members_of, members_in, interface_of}
use Rattle.winmd_sets.specs.Types.{type_of}
use Rattle.winmd_sets.specs.Rows.{all_lines}
use Rattle.winmd_lines.specs.Orders.{set_by}
use Rattle.wr_base.specs.Trees.{DeclTree, UseTree, text_of_tree, interface, ParamTree, MemberTree, method, property, event}
use Rattle.winmd_sets.proofs.AttributeLaws.{tables_of, MakerOk, Made, made, attribute_is, attributes_are}
use Rattle.winmd_lines.proofs.OwnerLaws.{no_rows}
use Rattle.winmd_lines.proofs.LineLaws.{row_of, written-append, behind_all-append, behind-none, list_is}
use Rattle.winmd_sets.proofs.MethodLaws.{is_overload, overload_line}
use Rattle.winmd_sets.proofs.MemberLaws.{CellOk, MembersOk, all_members}
use Rattle.winmd_sets.proofs.ListedLaws.{interface_rows, tagged_uses, uses_tagged, requires_owned, requires_written, interfaces_read}
use Rattle.winmd_sets.proofs.ShapeLaws.{none_join, none_when, none_method}
use Rattle.winmd_sets.proofs.TypeLaws.{Stands_, NameOk, none_written}
use Rattle.winmd_sets.proofs.BlobLaws.{IsPath}
use Rattle.winmd_sets.specs.Values.{number_argument, type_argument, id_argument}
use Rattle.winmd_sets.proofs.ArgumentLaws.{number_read, id_read, type_read}
use Rattle.wr_base.specs.Paths.{is_path}
use Rattle.sig_blobs.specs.declared.argument.Argument.{Argument}
use Rattle.std.proofs.Common.{Result}
use Rattle.winmd_rows.specs.Faults.{Fault}

-- ---- the interface

-- an owner's name, and its attribute
abbrev pub OwnerOk : Names → Option (List ℕ) → Type 0
OwnerOk names None = ⊤
OwnerOk names (Some owner) = IsPath owner × (is_path owner ≡ true) × (length owner < 2 ^ 29) × MakerOk names Maker.ExclusiveTo

pub record InterfaceOk (t : Tables) (names : Names) (name : List ℕ) (version id : ℕ) (owner : Option (List ℕ)) (us : List UseTree) (ms : List MemberTree) : Type 0 where
  pub named : NameOk name
  pub numbered_ : version < 2 ^ 32
  pub id_fits : id < 2 ^ 128
  pub owned_by : OwnerOk names owner
  pub few : length ms ≤ 4000
  pub uses : AllByRecursion (CellOk t names) us
  pub members : MembersOk t names [] ms
  pub version_made : MakerOk names Maker.Version
  pub guid_made : MakerOk names Maker.Guid

-- the lines in front of the members
abbrev front_lines : ℕ → ℕ → Option (List ℕ) → List UseTree → List MemberTree → List Line
front_lines id version owner us ms = id_of_type id ∷ version_of_type version ∷ (owner_of_type owner ++ (map interface_line us ++ map_lines ms))

body_split : (name : List ℕ) (version id : ℕ) (owner : Option (List ℕ)) (us : List UseTree) (ms : List MemberTree) → body_lines (interface name version id owner us ms) ≡ front_lines id version owner us ms ++ members_lines [] ms
body_split name version id owner us ms = ap (λ (x : List Line). id_of_type id ∷ version_of_type version ∷ x)
    (ap (λ (x : List Line). owner_of_type owner ++ x) (sym (append_assoc (map interface_line us) (map_lines ms) (members_lines [] ms))) ∙ sym (append_assoc (owner_of_type owner) (map interface_line us ++ map_lines ms) (members_lines [] ms)))

none_maps : (table : Table) → is_in table (line tables.PropertyMap []) ≡ false → is_in table (line tables.EventMap []) ≡ false → (ms : List MemberTree) → NoneIn table (map_lines ms)
none_maps table p e ms = none_join table _ _ (none_when table (list_any is_property ms) (map_line tables.PropertyMap tables.Property ∷ []) (p, tt)) (none_when table (list_any is_event ms) (map_line tables.EventMap tables.Event ∷ []) (e, tt))

none_requires : (us : List UseTree) → NoneIn tables.MethodDef (map interface_line us)
none_requires [] = tt
none_requires (u ∷ us) = (refl, none_requires us)

none_front : (id version : ℕ) (owner : Option (List ℕ)) (us : List UseTree) (ms : List MemberTree) → NoneIn tables.MethodDef (front_lines id version owner us ms)
none_front id version None us ms = (refl, (refl, none_join tables.MethodDef _ _ (none_requires us) (none_maps tables.MethodDef refl refl ms)))
none_front id version (Some name) us ms = (refl, (refl, (refl, none_join tables.MethodDef _ _ (none_requires us) (none_maps tables.MethodDef refl refl ms))))

-- members write no interfaces
none_member : (earlier : List (List ℕ)) (m : MemberTree) → NoneIn tables.InterfaceImpl (member_lines earlier m)
none_member earlier (method name abi sig) = none_method tables.InterfaceImpl refl refl refl earlier name abi sig
none_member earlier (property name u true) = (refl, (refl, (refl, (refl, (refl, (refl, tt))))))
none_member earlier (property name u false) = (refl, (refl, (refl, tt)))
none_member earlier (event name u) = (refl, (refl, (refl, (refl, (refl, (refl, (refl, tt)))))))

none_members : (earlier : List (List ℕ)) (ms : List MemberTree) → NoneIn tables.InterfaceImpl (members_lines earlier ms)
none_members earlier [] = tt
none_members earlier (m ∷ ms) = none_join tables.InterfaceImpl (member_lines earlier m) (members_lines (method_names m ++ earlier) ms) (none_member earlier m) (none_members (method_names m ++ earlier) ms)

none_rest : (ms : List MemberTree) → NoneIn tables.InterfaceImpl (map_lines ms ++ members_lines [] ms)
none_rest ms = none_join tables.InterfaceImpl (map_lines ms) (members_lines [] ms) (none_maps tables.InterfaceImpl refl refl ms) (none_members [] ms)

body_owned : (names : Names) (b : Counts) (name : List ℕ) (version id : ℕ) (owner : Option (List ℕ)) (us : List UseTree) (ms : List MemberTree)
    → owned names b tables.InterfaceImpl 0 tables.TypeDef (body_lines (interface name version id owner us ms)) ≡ interface_rows names (b tables.TypeDef) us
body_owned names b name version id None us ms = requires_owned names (behind (behind b (id_of_type id)) (version_of_type version)) us (map_lines ms ++ members_lines [] ms) (none_rest ms)
body_owned names b name version id (Some owner) us ms = requires_owned names (behind (behind (behind b (id_of_type id)) (version_of_type version)) (attribute tables.TypeDef Maker.ExclusiveTo (type_argument owner))) us (map_lines ms ++ members_lines [] ms) (none_rest ms)

body_written : (names : Names) (b : Counts) (name : List ℕ) (version id : ℕ) (owner : Option (List ℕ)) (us : List UseTree) (ms : List MemberTree)
    → written names b (body_lines (interface name version id owner us ms)) tables.InterfaceImpl ≡ interface_rows names (b tables.TypeDef) us
body_written names b name version id None us ms = requires_written names (behind (behind b (id_of_type id)) (version_of_type version)) us (map_lines ms ++ members_lines [] ms) (none_rest ms)
body_written names b name version id (Some owner) us ms = requires_written names (behind (behind (behind b (id_of_type id)) (version_of_type version)) (attribute tables.TypeDef Maker.ExclusiveTo (type_argument owner))) us (map_lines ms ++ members_lines [] ms) (none_rest ms)

-- what belongs to no type
abbrev pub NotOwned : List Line → Type 0
NotOwned [] = ⊤
NotOwned (l ∷ ls) = (belongs tables.CustomAttribute 0 tables.TypeDef l ≡ false) × NotOwned ls

pub not_owned : (names : Names) (before : Counts) (ls : List Line) → NotOwned ls → owned names before tables.CustomAttribute 0 tables.TypeDef ls ≡ []
not_owned names before [] h = refl
not_owned names before (l ∷ ls) h = rw h.0 (not_owned names (behind before l) ls h.1)

not_join : (xs ys : List Line) → NotOwned xs → NotOwned ys → NotOwned (xs ++ ys)
not_join [] ys h g = g
not_join (x ∷ xs) ys h g = (h.0, not_join xs ys h.1 g)

not_when : (test : Bool) (ls : List Line) → NotOwned ls → NotOwned (when test ls)
not_when true ls h = h
not_when false ls h = tt

pub not_params : (n : ℕ) (ps : List ParamTree) → NotOwned (param_lines n ps)
not_params n [] = tt
not_params n (p ∷ ps) = (refl, not_params (suc n) ps)

not_member : (earlier : List (List ℕ)) (m : MemberTree) → NotOwned (member_lines earlier m)
not_member earlier (method name abi sig) = (refl, not_join (param_lines 1 sig.params) _ (not_params 1 sig.params) (not_when (is_overload earlier name abi) (overload_line abi ∷ []) (refl, tt)))
not_member earlier (property name u true) = (refl, (refl, (refl, (refl, (refl, (refl, tt))))))
not_member earlier (property name u false) = (refl, (refl, (refl, tt)))
not_member earlier (event name u) = (refl, (refl, (refl, (refl, (refl, (refl, (refl, tt)))))))

not_members : (earlier : List (List ℕ)) (ms : List MemberTree) → NotOwned (members_lines earlier ms)
not_members earlier [] = tt
not_members earlier (m ∷ ms) = not_join (member_lines earlier m) (members_lines (method_names m ++ earlier) ms) (not_member earlier m) (not_members (method_names m ++ earlier) ms)

not_requires : (us : List UseTree) → NotOwned (map interface_line us)
not_requires [] = tt
not_requires (u ∷ us) = (refl, not_requires us)

not_rest : (us : List UseTree) (ms : List MemberTree) → NotOwned (map interface_line us ++ (map_lines ms ++ members_lines [] ms))
not_rest us ms = not_join (map interface_line us) _ (not_requires us) (not_join (map_lines ms) (members_lines [] ms) (not_join _ _ (not_when (list_any is_property ms) (map_line tables.PropertyMap tables.Property ∷ []) (refl, tt)) (not_when (list_any is_event ms) (map_line tables.EventMap tables.Event ∷ []) (refl, tt))) (not_members [] ms))

-- the members, behind everything else
pub methods_read : (names : Names) (ds : List DeclTree) (offset : Offsets) (pre : List Line) (name : List ℕ) (version id : ℕ) (owner : Option (List ℕ)) (us : List UseTree) (ms : List MemberTree) (post : List Line) → InterfaceOk (tables_of names ds offset) names name version id owner us ms
    → Stands_ names ds pre (interface name version id owner us ms) post → (attributes : List Attribute)
    → version_of (tables_of names ds offset) (suc (behind_all none pre tables.TypeDef)) attributes ≡ Ok version → id_of (tables_of names ds offset) (suc (behind_all none pre tables.TypeDef)) attributes ≡ Ok id → exclusive_to (tables_of names ds offset) (suc (behind_all none pre tables.TypeDef)) attributes ≡ Ok owner
    → interface_of (tables_of names ds offset) (suc (behind_all none pre tables.TypeDef)) name attributes ≡ Ok (interface name version id owner (set_by text_of_tree us) ms)
methods_read names ds offset pre name version id owner us ms post h s attributes v i x =
    let t : Tables = tables_of names ds offset in
    let d : DeclTree = interface name version id owner us ms in
    let lines : List Line = all_lines names ds in
    let before : Counts = behind_all none pre in
    let after : Counts = behind before (own_line d) in
    let front : List Line = front_lines id version owner us ms in
    let rest : List Line = members_lines [] ms in
    let inner : Counts = behind_all after front in
    let listed = interfaces_read names ds offset pre d us post s (body_owned names after name version id owner us ms) (body_written names after name version id owner us ms) h.uses in
    let settled_uses : map (λ (entry : ℕ × UseTree). entry.1) (tagged_uses (suc (before tables.InterfaceImpl)) us) ≡ us = uses_tagged (suc (before tables.InterfaceImpl)) us in
    let list = list_is t names lines pre (own_line d) (body_lines d) post tables.TypeDef 5 tables.MethodDef (record { is = refl }) (record { is = refl }) s.split refl refl refl s.alone s.methods_next in
    let written_ : written names after (body_lines d) tables.MethodDef ≡ written names inner rest tables.MethodDef =
    ap (λ (ls : List Line). written names after ls tables.MethodDef) (body_split name version id owner us ms) ∙ written-append names after front rest tables.MethodDef ∙ rw (none_written names after front tables.MethodDef (none_front id version owner us ms)) refl in
    let number_is : inner tables.MethodDef ≡ before tables.MethodDef = behind-none after front tables.MethodDef (none_front id version owner us ms) in
    let split : lines ≡ (pre ++ own_line d ∷ front) ++ (rest ++ post) =
    s.split ∙ ap (λ (y : List Line). pre ++ own_line d ∷ (y ++ post)) (body_split name version id owner us ms) ∙ ap (λ (y : List Line). pre ++ own_line d ∷ y) (append_assoc front rest post) ∙ sym (append_assoc pre (own_line d ∷ front) (rest ++ post)) in
    let counts : behind_all none (pre ++ own_line d ∷ front) ≡ inner = behind_all-append none pre (own_line d ∷ front) in
    let members0 = all_members names ds offset (pre ++ own_line d ∷ front) ms post h.members split s.params_next s.attributes_owned s.overloads_next s.semantics_owned s.semantics_next in
    let members1 = subst (λ (b : Counts). (each (role_of t) (numbered (suc (b tables.MethodDef)) (map stated_row (written names b rest tables.MethodDef))) >>= λ roles. items_of t roles >>= λ items. members_of t [] items) ≡ Ok ms) counts members0 in
    let members2 : (each (role_of t) (numbered (suc (before tables.MethodDef)) (map stated_row (written names inner rest tables.MethodDef))) >>= λ roles. items_of t roles >>= λ items. members_of t [] items) ≡ Ok ms =
    subst (λ (k : ℕ). (each (role_of t) (numbered (suc k) (map stated_row (written names inner rest tables.MethodDef))) >>= λ roles. items_of t roles >>= λ items. members_of t [] items) ≡ Ok ms) number_is members1 in
    let all : members_in t (suc (before tables.TypeDef)) ≡ Ok ms = rw (list, written_) members2 in
    rw (v, i, x, listed, settled_uses, all) refl

-- ---- its attributes

abbrev pub an : (t : Tables) (names : Names) (m : Maker) → Made t names m → Counts → List Argument → ℕ → Attribute
an t names m c before arguments k = record { made = c.it; row = (k, row_of names before (attribute tables.TypeDef m arguments)) }

pub version_among : (t : Tables) (names : Names) (b1 b2 : Counts) (id version i j n : ℕ) (g : Made t names Maker.Guid) (v : Made t names Maker.Version) (more : List Attribute) → version < 2 ^ 32 → of_word (codes "Version") more ≡ []
    → version_of t n (an t names Maker.Guid g b1 (id_argument id) i ∷ an t names Maker.Version v b2 (number_argument version) j ∷ more) ≡ Ok version
version_among t names b1 b2 id version i j n g v more lt none_ = rw (g.typed, v.typed, none_) (number_read (at t tables.CustomAttribute j 2) version [] lt)

pub id_among : (t : Tables) (names : Names) (b1 b2 : Counts) (id version i j n : ℕ) (g : Made t names Maker.Guid) (v : Made t names Maker.Version) (more : List Attribute) → id < 2 ^ 128 → of_word (codes "Guid") more ≡ []
    → id_of t n (an t names Maker.Guid g b1 (id_argument id) i ∷ an t names Maker.Version v b2 (number_argument version) j ∷ more) ≡ Ok id
id_among t names b1 b2 id version i j n g v more lt none_ = rw (g.typed, v.typed, none_) (id_read (at t tables.CustomAttribute i 2) id [] lt)

no_owner : (t : Tables) (names : Names) (b1 b2 : Counts) (id version i j n : ℕ) (g : Made t names Maker.Guid) (v : Made t names Maker.Version)
    → exclusive_to t n (an t names Maker.Guid g b1 (id_argument id) i ∷ an t names Maker.Version v b2 (number_argument version) j ∷ []) ≡ Ok None
no_owner t names b1 b2 id version i j n g v = rw (g.typed, v.typed) refl

one_owner : (t : Tables) (names : Names) (b1 b2 b3 : Counts) (id version i j k n : ℕ) (owner : List ℕ) (g : Made t names Maker.Guid) (v : Made t names Maker.Version) (x : Made t names Maker.ExclusiveTo) → IsPath owner → is_path owner ≡ true → length owner < 2 ^ 29
    → exclusive_to t n (an t names Maker.Guid g b1 (id_argument id) i ∷ an t names Maker.Version v b2 (number_argument version) j ∷ an t names Maker.ExclusiveTo x b3 (type_argument owner) k ∷ []) ≡ Ok (Some owner)
one_owner t names b1 b2 b3 id version i j k n owner g v x path comma lt =
    rw (g.typed, v.typed, x.typed) (ap (λ (r : Result (List ℕ) Fault). r >>= λ name. Ok (Some name)) (type_read (at t tables.CustomAttribute k 2) owner [] path comma lt))

pub interface_type : (names : Names) (ds : List DeclTree) (offset : Offsets) (pre : List Line) (name : List ℕ) (version id : ℕ) (owner : Option (List ℕ)) (us : List UseTree) (ms : List MemberTree) (post : List Line) → InterfaceOk (tables_of names ds offset) names name version id owner us ms
    → Stands_ names ds pre (interface name version id owner us ms) post
    → type_of (tables_of names ds offset) (suc (behind_all none pre tables.TypeDef), row_of names (behind_all none pre) (own_line (interface name version id owner us ms))) ≡ Ok (Some (suc (behind_all none pre tables.TypeDef), interface name version id owner (set_by text_of_tree us) ms))
interface_type names ds offset pre name version id None us ms post h s =
    let t : Tables = tables_of names ds offset in
    let d : DeclTree = interface name version id None us ms in
    let before : Counts = behind_all none pre in
    let after : Counts = behind before (own_line d) in
    let n : ℕ = suc (before tables.TypeDef) in
    let inner = no_rows t tables.NestedClass 0 tables.TypeDef n (ap (map stated_row) (none_written names none (all_lines names ds) tables.NestedClass s.nested)) in
    let found = attributes_are names ds offset pre (own_line d) (body_lines d) post tables.TypeDef (record { is = refl }) s.split refl refl s.attributes_owned s.alone s.attributes_next in
    let b1 : Counts = behind after (id_of_type id) in
    let b2 : Counts = behind b1 (version_of_type version) in
    let none_more = not_owned names b2 (map interface_line us ++ (map_lines ms ++ members_lines [] ms)) (not_rest us ms) in
    let g = made names ds offset Maker.Guid h.guid_made in
    let v = made names ds offset Maker.Version h.version_made in
    let i : ℕ = get_or found.0 0 0 in
    let j : ℕ = get_or (drop 1 found.0) 0 0 in
    let ga = attribute_is t names after tables.TypeDef Maker.Guid (id_argument id) i g in
    let va = attribute_is t names b1 tables.TypeDef Maker.Version (number_argument version) j v in
    let attributes : List Attribute = an t names Maker.Guid g after (id_argument id) i ∷ an t names Maker.Version v b1 (number_argument version) j ∷ [] in
    let read = methods_read names ds offset pre name version id None us ms post h s attributes (version_among t names after b1 id version i j n g v [] h.numbered_ refl) (id_among t names after b1 id version i j n g v [] h.id_fits refl) (no_owner t names after b1 id version i j n g v) in
    let few : leb (length ms) 4000 ≡ true = le-leb _ _ h.few in
    rw (h.named.parts, h.named.plain, inner, h.named.path (at t tables.TypeDef n 1), found.1, none_more, ga, va, read, few) refl
interface_type names ds offset pre name version id (Some owner) us ms post h s =
    let t : Tables = tables_of names ds offset in
    let d : DeclTree = interface name version id (Some owner) us ms in
    let before : Counts = behind_all none pre in
    let after : Counts = behind before (own_line d) in
    let n : ℕ = suc (before tables.TypeDef) in
    let inner = no_rows t tables.NestedClass 0 tables.TypeDef n (ap (map stated_row) (none_written names none (all_lines names ds) tables.NestedClass s.nested)) in
    let found = attributes_are names ds offset pre (own_line d) (body_lines d) post tables.TypeDef (record { is = refl }) s.split refl refl s.attributes_owned s.alone s.attributes_next in
    let b1 : Counts = behind after (id_of_type id) in
    let b2 : Counts = behind b1 (version_of_type version) in
    let b3 : Counts = behind b2 (attribute tables.TypeDef Maker.ExclusiveTo (type_argument owner)) in
    let none_more = not_owned names b3 (map interface_line us ++ (map_lines ms ++ members_lines [] ms)) (not_rest us ms) in
    let g = made names ds offset Maker.Guid h.guid_made in
    let v = made names ds offset Maker.Version h.version_made in
    let x = made names ds offset Maker.ExclusiveTo h.owned_by.3 in
    let i : ℕ = get_or found.0 0 0 in
    let j : ℕ = get_or (drop 1 found.0) 0 0 in
    let k : ℕ = get_or (drop 1 (drop 1 found.0)) 0 0 in
    let ga = attribute_is t names after tables.TypeDef Maker.Guid (id_argument id) i g in
    let va = attribute_is t names b1 tables.TypeDef Maker.Version (number_argument version) j v in
    let xa = attribute_is t names b2 tables.TypeDef Maker.ExclusiveTo (type_argument owner) k x in
    let more : List Attribute = an t names Maker.ExclusiveTo x b2 (type_argument owner) k ∷ [] in
    let attributes : List Attribute = an t names Maker.Guid g after (id_argument id) i ∷ an t names Maker.Version v b1 (number_argument version) j ∷ more in
    let no_version : of_word (codes "Version") more ≡ [] = rw x.typed refl in
    let no_guid : of_word (codes "Guid") more ≡ [] = rw x.typed refl in
    let read = methods_read names ds offset pre name version id (Some owner) us ms post h s attributes (version_among t names after b1 id version i j n g v more h.numbered_ no_version) (id_among t names after b1 id version i j n g v more h.id_fits no_guid) (one_owner t names after b1 b2 id version i j k n owner g v x h.owned_by.0 h.owned_by.1 h.owned_by.2) in
    let few : leb (length ms) 4000 ≡ true = le-leb _ _ h.few in
    rw (h.named.parts, h.named.plain, inner, h.named.path (at t tables.TypeDef n 1), found.1, none_more, ga, va, xa, read, few) refl
