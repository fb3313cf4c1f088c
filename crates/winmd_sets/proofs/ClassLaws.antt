-- Reading the rows of a class gives it.
use Rattle.std.proofs.Common.{◌≡◌, ℕ, zero, suc, ◌^◌, ◌<◌, Bool, true, false, List, [], ◌∷◌, ◌++◌, length, drop, get_or, map, Option, Some, None, Ok, refl, sym, ap, subst, ◌∙◌, append_assoc, arith, inl, inr}
use Rattle.std.specs.Prelude.{◌==◌, ⊤, bytes_eq, codes, if◌then◌else◌}
use Rattle.std.specs.List.{flat_map, filter, list_any, AllByRecursion}
use Rattle.std.proofs.Math.Dec.{eqb-suc-zero}
use Rattle.std.proofs.lemmas.List.{append-nil}
use Rattle.std.proofs.lemmas.List.Elements.{filter-append}
use Rattle.md_schema.specs.declared.table.Table.TheVariants as tables
use Rattle.winmd_rows.specs.Faults.{each, somes}
use Rattle.winmd_rows.specs.Values.{Value, Offsets, stated_row}
use Rattle.winmd_lines.specs.Lines.{Line}
use Rattle.winmd_sets.specs.Declared.{own_line, body_lines, version_of_type, interface_line, class_interface, is_default, named_attribute}
use Rattle.winmd_lines.specs.Makers.{Maker, metadata, maker_type, maker_signature, system_type}
use Rattle.winmd_sets.specs.Members.{when, attribute}
use Rattle.winmd_lines.specs.Names.{Names, Counts, none, behind, place, is_maker}
use Rattle.winmd_lines.specs.Positions.{behind_all, NoneIn, Apart, AllOwned, owned}
use Rattle.winmd_lines.specs.Cells.{Tables, at, has_flag}
use Rattle.winmd_sets.specs.Attributes.{Attribute, attribute_of, attributes_of, is_of, of_word, at_most_one, type_name_of, version_of}
use Rattle.winmd_sets.specs.Classes.{with_default, Making, Direct, Through, making_of, is_direct, throughs, names_in_order, class_of}
use Rattle.winmd_sets.specs.Types.{type_of}
use Rattle.winmd_sets.specs.Rows.{all_lines}
use Rattle.winmd_lines.specs.Orders.{set_by}
use Rattle.wr_base.specs.Trees.{DeclTree, UseTree, class, text_of_tree}
use Rattle.winmd_sets.specs.Fits.{listed_default}
use Rattle.winmd_sets.proofs.AttributeLaws.{tables_of, MakerOk, made, made_by, attribute_is, attributes_are}
use Rattle.winmd_lines.proofs.LineLaws.{either, row_of, behind_all-append}
use Rattle.winmd_sets.proofs.ListedLaws.{tagged_uses, uses_tagged, has_owned, has_written, interfaces_read}
use Rattle.winmd_sets.proofs.MemberLaws.{CellOk}
use Rattle.winmd_lines.proofs.OwnerLaws.{no_rows, tag}
use Rattle.winmd_sets.proofs.ShapeLaws.{none_join, none_when, apart_join, of_flat, all_true, defaults_apart}
use Rattle.winmd_sets.proofs.BlobLaws.{method_again}
use Rattle.winmd_sets.proofs.TypeLaws.{Stands_, NameOk, base_read, none_written}
use Rattle.winmd_sets.proofs.BlobLaws.{IsPath, UseOk}
use Rattle.winmd_sets.specs.Values.{number_argument, type_argument}
use Rattle.sig_blobs.specs.Attributes.{value_bytes}
use Rattle.winmd_sets.proofs.ArgumentLaws.{number_read, type_read}
use Rattle.wr_base.specs.Paths.{is_path}
use Rattle.sig_blobs.specs.declared.argument.Argument.{Argument}

-- ---- attributes of a type, by their constructors and arguments

record Said : Type 0 where
  maker : Maker
  arguments : List Argument

abbrev said : Maker → List Argument → Said
said maker arguments = record { maker = maker; arguments = arguments }

abbrev said_name : Maker → ℕ → List ℕ → Said
said_name maker version name = said maker (type_argument name ++ number_argument version)

-- the row of an attribute of the type of this number
abbrev said_row : Names → ℕ → Said → List Value
said_row names n s = Value.To tables.TypeDef n ∷ Value.To tables.MemberRef (suc (place (is_maker s.maker) names.makers)) ∷ Value.Blob (value_bytes s.arguments) ∷ []

abbrev said_attribute : Tables → Names → ℕ → ℕ → Said → Attribute
said_attribute t names n k s = record { made = made_by t names s.maker; row = (k, stated_row (said_row names n s)) }

abbrev attributes : Tables → Names → ℕ → List ℕ → List Said → List Attribute
attributes t names n ks [] = []
attributes t names n ks (s ∷ ss) = said_attribute t names n (get_or ks 0 0) s ∷ attributes t names n (drop 1 ks) ss

one_read : (names : Names) (ds : List DeclTree) (offset : Offsets) (n k : ℕ) (s : Said) → MakerOk names s.maker
    → attribute_of (tables_of names ds offset) (k, stated_row (said_row names n s)) ≡ Ok (said_attribute (tables_of names ds offset) names n k s)
one_read names ds offset n k s h =
    let c = made names ds offset s.maker h in
    rw (c.is (at (tables_of names ds offset) tables.CustomAttribute k 1), c.by) refl

all_read : (names : Names) (ds : List DeclTree) (offset : Offsets) (n : ℕ) (ks : List ℕ) (ss : List Said) → AllByRecursion (λ s. MakerOk names s.maker) ss
    → each (attribute_of (tables_of names ds offset)) (tag ks (map stated_row (map (said_row names n) ss))) ≡ Ok (attributes (tables_of names ds offset) names n ks ss)
all_read names ds offset n ks [] h = refl
all_read names ds offset n ks (s ∷ ss) h = rw (one_read names ds offset n (get_or ks 0 0) s h.0, all_read names ds offset n (drop 1 ks) ss h.1) refl

attributes-append : (t : Tables) (names : Names) (n : ℕ) (ks : List ℕ) (xs ys : List Said) → attributes t names n ks (xs ++ ys) ≡ attributes t names n ks xs ++ attributes t names n (drop (length xs) ks) ys
attributes-append t names n ks [] ys = refl
attributes-append t names n [] (x ∷ xs) ys = ap (λ (r : List Attribute). said_attribute t names n 0 x ∷ r) (attributes-append t names n [] xs ys ∙ ap (λ (k : List ℕ). attributes t names n [] xs ++ attributes t names n k ys) (drop_nil (length xs)))
  where
    drop_nil : (k : ℕ) → drop k (let e : List ℕ = [] in e) ≡ []
    drop_nil zero = refl
    drop_nil (suc k) = refl
attributes-append t names n (k ∷ ks) (x ∷ xs) ys = ap (λ (r : List Attribute). said_attribute t names n k x ∷ r) (attributes-append t names n ks xs ys)

-- whether these are of a word
abbrev AreOf : List ℕ → Bool → List Said → Type 0
AreOf word b ss = AllByRecursion (λ s. bytes_eq (maker_type s.maker) (metadata word) ≡ b) ss

of_word_all : (t : Tables) (names : Names) (n : ℕ) (word : List ℕ) (ks : List ℕ) (ss : List Said) → AreOf word true ss → of_word word (attributes t names n ks ss) ≡ attributes t names n ks ss
of_word_all t names n word ks [] h = refl
of_word_all t names n word ks (s ∷ ss) h = rw (h.0, of_word_all t names n word (drop 1 ks) ss h.1) refl

of_word_none : (t : Tables) (names : Names) (n : ℕ) (word : List ℕ) (ks : List ℕ) (ss : List Said) → AreOf word false ss → of_word word (attributes t names n ks ss) ≡ []
of_word_none t names n word ks [] h = refl
of_word_none t names n word ks (s ∷ ss) h = rw (h.0, of_word_none t names n word (drop 1 ks) ss h.1) refl

names_of_word : (word : List ℕ) (b : Bool) (m : Maker) (version : ℕ) (fs : List (List ℕ)) → bytes_eq (maker_type m) (metadata word) ≡ b → AreOf word b (map (said_name m version) fs)
names_of_word word b m version [] h = tt
names_of_word word b m version (f ∷ fs) h = (h, names_of_word word b m version fs h)

-- ---- the arguments: a name, and a number that is passed over

abbrev pub NameFits : List ℕ → Type 0
NameFits name = IsPath name × (is_path name ≡ true) × (length name < 2 ^ 29)

name_read : (t : Tables) (names : Names) (n k version : ℕ) (m : Maker) (name : List ℕ) → NameFits name → type_name_of t (said_attribute t names n k (said_name m version name)) ≡ Ok name
name_read t names n k version m name h = type_read (at t tables.CustomAttribute k 2) name (number_argument version) h.0 h.1 h.2

names_read : (t : Tables) (names : Names) (n : ℕ) (ks : List ℕ) (version : ℕ) (m : Maker) (fs : List (List ℕ)) → AllByRecursion NameFits fs
    → each (type_name_of t) (attributes t names n ks (map (said_name m version) fs)) ≡ Ok fs
names_read t names n ks version m [] h = refl
names_read t names n ks version m (f ∷ fs) h = rw (name_read t names n (get_or ks 0 0) version m f h.0, names_read t names n (drop 1 ks) version m fs h.1) refl

-- ---- how a class is made

direct_read : (t : Tables) (names : Names) (n k version : ℕ) → making_of t (said_attribute t names n k (said Maker.Activatable (number_argument version))) ≡ Ok Direct
direct_read t names n k version =
    let sig = method_again t names (made_by t names Maker.Activatable).offset (maker_signature Maker.Activatable) (record { fits = record { result = tt; params = (tt, tt); few = omega arith }; short = refl }) in
    rw sig refl

factory_read : (t : Tables) (names : Names) (n k version : ℕ) (name : List ℕ) → UseOk t names 16 system_type → NameFits name → making_of t (said_attribute t names n k (said_name Maker.Factory version name)) ≡ Ok (Through name)
factory_read t names n k version name ok h =
    let sig = method_again t names (made_by t names Maker.Factory).offset (maker_signature Maker.Factory) (record { fits = record { result = tt; params = (ok.fits, (tt, tt)); few = omega arith }; short = refl }) in
    rw (sig, name_read t names n k version Maker.Factory name h) refl

abbrev all_through : List (List ℕ) → List Making
all_through [] = []
all_through (f ∷ fs) = Through f ∷ all_through fs

factories_read : (t : Tables) (names : Names) (n : ℕ) (ks : List ℕ) (version : ℕ) (fs : List (List ℕ)) → AllByRecursion (λ f. UseOk t names 16 system_type) fs → AllByRecursion NameFits fs
    → each (making_of t) (attributes t names n ks (map (said_name Maker.Factory version) fs)) ≡ Ok (all_through fs)
factories_read t names n ks version [] ok h = refl
factories_read t names n ks version (f ∷ fs) ok h = rw (factory_read t names n (get_or ks 0 0) version f ok.0 h.0, factories_read t names n (drop 1 ks) version fs ok.1 h.1) refl

not_direct : (fs : List (List ℕ)) → is_direct (all_through fs) ≡ false
not_direct [] = refl
not_direct (f ∷ fs) = not_direct fs

throughs_are : (fs : List (List ℕ)) → throughs (all_through fs) ≡ fs
throughs_are [] = refl
throughs_are (f ∷ fs) = ap (λ (x : List (List ℕ)). f ∷ x) (throughs_are fs)

-- ---- what the lines of a class write

-- interfaces, whatever stands behind them
has_aside : (names : Names) (n : ℕ) (default : Option UseTree) (us : List UseTree) (rest : List Line) (more : List (List Value)) → ((b : Counts) → b tables.TypeDef ≡ n → owned names b tables.CustomAttribute 0 tables.TypeDef rest ≡ more)
    → (b : Counts) → b tables.TypeDef ≡ n → owned names b tables.CustomAttribute 0 tables.TypeDef (flat_map (class_interface default) us ++ rest) ≡ more
has_aside names n default [] rest more k b e = k b e
has_aside names n default (u ∷ us) rest more k b e =
    let next = has_aside names n default us rest more k in
    elim (either (is_default default u)) [
      | inl d ↦ rw d (next _ e)
      | inr d ↦ rw d (next _ e)
    ]

named_owned : (names : Names) (n : ℕ) (m : Maker) (version : ℕ) (fs : List (List ℕ)) (rest : List Line) (more : List Said)
    → ((b : Counts) → b tables.TypeDef ≡ n → owned names b tables.CustomAttribute 0 tables.TypeDef rest ≡ map (said_row names n) more)
    → (b : Counts) → b tables.TypeDef ≡ n → owned names b tables.CustomAttribute 0 tables.TypeDef (map (named_attribute m version) fs ++ rest) ≡ map (said_row names n) (map (said_name m version) fs ++ more)
named_owned names n m version [] rest more k b e = k b e
named_owned names n m version (f ∷ fs) rest more k b e =
    rw e (ap (λ (x : List (List Value)). said_row names n (said_name m version f) ∷ x) (named_owned names n m version fs rest more k (behind b (named_attribute m version f)) e))

named_alone : (names : Names) (n : ℕ) (m : Maker) (version : ℕ) (fs : List (List ℕ)) (b : Counts) → b tables.TypeDef ≡ n
    → owned names b tables.CustomAttribute 0 tables.TypeDef (map (named_attribute m version) fs) ≡ map (said_row names n) (map (said_name m version) fs)
named_alone names n m version [] b e = refl
named_alone names n m version (f ∷ fs) b e =
    rw e (ap (λ (x : List (List Value)). said_row names n (said_name m version f) ∷ x) (named_alone names n m version fs (behind b (named_attribute m version f)) e))

abbrev made_said : Bool → ℕ → List Said
made_said true version = said Maker.Activatable (number_argument version) ∷ []
made_said false version = []

abbrev all_said : ℕ → Bool → List (List ℕ) → List (List ℕ) → List Said
all_said version direct fs ss = said Maker.Version (number_argument version) ∷ (made_said direct version ++ (map (said_name Maker.Factory version) fs ++ map (said_name Maker.Static version) ss))

direct_owned : (names : Names) (n version : ℕ) (direct : Bool) (fs ss : List (List ℕ)) (b : Counts) → b tables.TypeDef ≡ n
    → owned names b tables.CustomAttribute 0 tables.TypeDef (when direct (attribute tables.TypeDef Maker.Activatable (number_argument version) ∷ []) ++ (map (named_attribute Maker.Factory version) fs ++ map (named_attribute Maker.Static version) ss))
    ≡ map (said_row names n) (made_said direct version ++ (map (said_name Maker.Factory version) fs ++ map (said_name Maker.Static version) ss))
direct_owned names n version true fs ss b e =
    rw e (ap (λ (x : List (List Value)). said_row names n (said Maker.Activatable (number_argument version)) ∷ x) (named_owned names n Maker.Factory version fs (map (named_attribute Maker.Static version) ss) (map (said_name Maker.Static version) ss) (named_alone names n Maker.Static version ss) (behind b (attribute tables.TypeDef Maker.Activatable (number_argument version))) e))
direct_owned names n version false fs ss b e = named_owned names n Maker.Factory version fs (map (named_attribute Maker.Static version) ss) (map (said_name Maker.Static version) ss) (named_alone names n Maker.Static version ss) b e

class_owned : (names : Names) (n : ℕ) (name : List ℕ) (version : ℕ) (fixed : Bool) (default : Option UseTree) (us : List UseTree) (direct : Bool) (fs ss : List (List ℕ)) (b : Counts) → b tables.TypeDef ≡ n
    → owned names b tables.CustomAttribute 0 tables.TypeDef (body_lines (class name version fixed default us direct fs ss)) ≡ map (said_row names n) (all_said version direct fs ss)
class_owned names n name version fixed default us direct fs ss b e =
    rw e (ap (λ (x : List (List Value)). said_row names n (said Maker.Version (number_argument version)) ∷ x)
    (has_aside names n default us _ (map (said_row names n) (made_said direct version ++ (map (said_name Maker.Factory version) fs ++ map (said_name Maker.Static version) ss))) (direct_owned names n version direct fs ss) (behind b (version_of_type version)) e))

none_named : (m : Maker) (version : ℕ) (fs : List (List ℕ)) → NoneIn tables.InterfaceImpl (map (named_attribute m version) fs)
none_named m version [] = tt
none_named m version (f ∷ fs) = (refl, none_named m version fs)

-- what stands behind the interfaces
abbrev class_rest : ℕ → Bool → List (List ℕ) → List (List ℕ) → List Line
class_rest version direct fs ss = when direct (attribute tables.TypeDef Maker.Activatable (number_argument version) ∷ []) ++ (map (named_attribute Maker.Factory version) fs ++ map (named_attribute Maker.Static version) ss)

none_rest : (version : ℕ) (direct : Bool) (fs ss : List (List ℕ)) → NoneIn tables.InterfaceImpl (class_rest version direct fs ss)
none_rest version direct fs ss =
    none_join tables.InterfaceImpl (when direct (attribute tables.TypeDef Maker.Activatable (number_argument version) ∷ [])) _ (none_when tables.InterfaceImpl direct (attribute tables.TypeDef Maker.Activatable (number_argument version) ∷ []) (refl, tt))
    (none_join tables.InterfaceImpl (map (named_attribute Maker.Factory version) fs) _ (none_named Maker.Factory version fs) (none_named Maker.Static version ss))

apart_named : (m : Maker) (version : ℕ) (fs : List (List ℕ)) → Apart tables.CustomAttribute 0 tables.InterfaceImpl (map (named_attribute m version) fs)
apart_named m version [] = tt
apart_named m version (f ∷ fs) = (refl, apart_named m version fs)

apart_direct : (version : ℕ) (direct : Bool) → Apart tables.CustomAttribute 0 tables.InterfaceImpl (when direct (attribute tables.TypeDef Maker.Activatable (number_argument version) ∷ []))
apart_direct version true = (refl, tt)
apart_direct version false = tt

apart_rest : (version : ℕ) (direct : Bool) (fs ss : List (List ℕ)) (post : List Line) → Apart tables.CustomAttribute 0 tables.InterfaceImpl post → Apart tables.CustomAttribute 0 tables.InterfaceImpl (class_rest version direct fs ss ++ post)
apart_rest version direct fs ss post h =
    apart_join tables.CustomAttribute 0 tables.InterfaceImpl (class_rest version direct fs ss) post
    (apart_join tables.CustomAttribute 0 tables.InterfaceImpl (when direct (attribute tables.TypeDef Maker.Activatable (number_argument version) ∷ [])) _ (apart_direct version direct)
    (apart_join tables.CustomAttribute 0 tables.InterfaceImpl (map (named_attribute Maker.Factory version) fs) _ (apart_named Maker.Factory version fs) (apart_named Maker.Static version ss))) h

apart_has : (default : Option UseTree) (us : List UseTree) → Apart tables.CustomAttribute 0 tables.InterfaceImpl (flat_map (class_interface default) us)
apart_has default us = of_flat (Apart tables.CustomAttribute 0 tables.InterfaceImpl) defaults_apart (class_interface default) (λ u. ⊤) (λ u y. defaults_apart.listed default u) us (all_true us)

-- ---- the default, by the attribute of its row

abbrev chosen_default : Option UseTree → UseTree → Option UseTree
chosen_default default u = if is_default default u then Some u else None

abbrev default_line : Line
default_line = attribute tables.InterfaceImpl Maker.Default []

marked_read : (names : Names) (ds : List DeclTree) (offset : Offsets) (pre : List Line) (u : UseTree) (test : Bool) (post : List Line) → all_lines names ds ≡ pre ++ interface_line u ∷ (when test (default_line ∷ []) ++ post)
    → AllOwned tables.CustomAttribute 0 (all_lines names ds) → Apart tables.CustomAttribute 0 tables.InterfaceImpl post → (test ≡ true → MakerOk names Maker.Default)
    → with_default (tables_of names ds offset) (suc (behind_all none pre tables.InterfaceImpl), u) ≡ Ok (if test then Some u else None)
marked_read names ds offset pre u true post e o a m =
    let t : Tables = tables_of names ds offset in
    let found = attributes_are names ds offset pre (interface_line u) (default_line ∷ []) post tables.InterfaceImpl (record { is = refl }) e refl refl o (refl, tt) a in
    let c = made names ds offset Maker.Default (m refl) in
    let one = attribute_is t names (behind (behind_all none pre) (interface_line u)) tables.InterfaceImpl Maker.Default [] (get_or found.0 0 0) c in
    rw (found.1, one, c.typed) refl
marked_read names ds offset pre u false post e o a m =
    let found = attributes_are names ds offset pre (interface_line u) [] post tables.InterfaceImpl (record { is = refl }) e refl refl o tt a in
    rw found.1 refl

defaults_read : (names : Names) (ds : List DeclTree) (offset : Offsets) (pre : List Line) (default : Option UseTree) (us : List UseTree) (rest : List Line) → all_lines names ds ≡ pre ++ (flat_map (class_interface default) us ++ rest)
    → AllOwned tables.CustomAttribute 0 (all_lines names ds) → Apart tables.CustomAttribute 0 tables.InterfaceImpl rest → AllByRecursion (λ u. is_default default u ≡ true → MakerOk names Maker.Default) us
    → each (with_default (tables_of names ds offset)) (tagged_uses (suc (behind_all none pre tables.InterfaceImpl)) us) ≡ Ok (map (chosen_default default) us)
defaults_read names ds offset pre default [] rest e o a m = refl
defaults_read names ds offset pre default (u ∷ us) rest e o a m =
    let t : Tables = tables_of names ds offset in
    let own : List Line = when (is_default default u) (default_line ∷ []) in
    let later : List Line = flat_map (class_interface default) us ++ rest in
    let split : all_lines names ds ≡ pre ++ interface_line u ∷ (own ++ later) = e ∙ ap (λ (x : List Line). pre ++ interface_line u ∷ x) (append_assoc own (flat_map (class_interface default) us) rest) in
    let next : all_lines names ds ≡ (pre ++ interface_line u ∷ own) ++ later = split ∙ sym (append_assoc pre (interface_line u ∷ own) later) in
    let apart = apart_join tables.CustomAttribute 0 tables.InterfaceImpl (flat_map (class_interface default) us) rest (apart_has default us) a in
    let this = marked_read names ds offset pre u (is_default default u) later split o apart m.0 in
    let others0 = defaults_read names ds offset (pre ++ interface_line u ∷ own) default us rest next o a m.1 in
    let counts : behind_all none (pre ++ interface_line u ∷ own) tables.InterfaceImpl ≡ suc (behind_all none pre tables.InterfaceImpl) =
    ap (λ (c : Counts). c tables.InterfaceImpl) (behind_all-append none pre (interface_line u ∷ own)) ∙ counted (is_default default u) (behind_all none pre) u in
    let others = subst (λ (k : ℕ). each (with_default t) (tagged_uses (suc k) us) ≡ Ok (map (chosen_default default) us)) counts others0 in
    rw (this, others) refl
  where
    counted : (test : Bool) (b : Counts) (u : UseTree) → behind_all b (interface_line u ∷ when test (default_line ∷ [])) tables.InterfaceImpl ≡ suc (b tables.InterfaceImpl)
    counted true b u = refl
    counted false b u = refl

chosen_are : (default : Option UseTree) (us : List UseTree) → somes (map (chosen_default default) us) ≡ filter (is_default default) us
chosen_are default [] = refl
chosen_are default (u ∷ us) =
    elim (either (is_default default u)) [
      | inl e ↦ rw e (ap (λ (x : List UseTree). u ∷ x) (chosen_are default us))
      | inr e ↦ rw e (chosen_are default us)
    ]

one_default : (offset : ℕ) (default : Option UseTree) → at_most_one offset (listed_default default) ≡ Ok default
one_default offset None = refl
one_default offset (Some u) = refl

-- ---- the class

pub record ClassOk (t : Tables) (names : Names) (name : List ℕ) (version : ℕ) (default : Option UseTree) (us : List UseTree) (direct : Bool) (fs ss : List (List ℕ)) : Type 0 where
  pub named : NameOk name
  pub numbered_ : version < 2 ^ 32
  pub uses : AllByRecursion (CellOk t names) us
  pub one : filter (is_default default) us ≡ listed_default default
  pub factories : AllByRecursion NameFits fs
  pub statics : AllByRecursion NameFits ss
  pub base : list_any (bytes_eq (codes "System.Object")) names.refs ≡ true
  pub version_made : MakerOk names Maker.Version
  pub default_made : AllByRecursion (λ u. is_default default u ≡ true → MakerOk names Maker.Default) us
  pub direct_made : direct ≡ true → MakerOk names Maker.Activatable
  pub factory_made : AllByRecursion (λ f. MakerOk names Maker.Factory) fs
  pub factory_known : AllByRecursion (λ f. UseOk t names 16 system_type) fs
  pub static_made : AllByRecursion (λ f. MakerOk names Maker.Static) ss

made_names : (names : Names) (m : Maker) (version : ℕ) (fs : List (List ℕ)) → AllByRecursion (λ f. MakerOk names m) fs → AllByRecursion (λ s. MakerOk names s.maker) (map (said_name m version) fs)
made_names names m version [] h = tt
made_names names m version (f ∷ fs) h = (h.0, made_names names m version fs h.1)

all_join : {A : Type 0} (Q : A → Type 0) (xs ys : List A) → AllByRecursion Q xs → AllByRecursion Q ys → AllByRecursion Q (xs ++ ys)
all_join Q [] ys h g = g
all_join Q (x ∷ xs) ys h g = (h.0, all_join Q xs ys h.1 g)

made_direct : (names : Names) (direct : Bool) (version : ℕ) → (direct ≡ true → MakerOk names Maker.Activatable) → AllByRecursion (λ s. MakerOk names s.maker) (made_said direct version)
made_direct names true version h = (h refl, tt)
made_direct names false version h = tt

-- what the attributes say: the version
said_version : (t : Tables) (names : Names) (n o version : ℕ) (ks : List ℕ) (direct : Bool) (fs ss : List (List ℕ)) → version < 2 ^ 32 → version_of t o (attributes t names n ks (all_said version direct fs ss)) ≡ Ok version
said_version t names n o version ks direct fs ss lt =
    let none_ = of_word_none t names n (codes "Version") (drop 1 ks) (made_said direct version ++ (map (said_name Maker.Factory version) fs ++ map (said_name Maker.Static version) ss))
    (all_join _ (made_said direct version) _ (no_direct direct) (all_join _ (map (said_name Maker.Factory version) fs) _ (names_of_word (codes "Version") false Maker.Factory version fs refl) (names_of_word (codes "Version") false Maker.Static version ss refl))) in
    rw none_ (number_read (at t tables.CustomAttribute (get_or ks 0 0) 2) version [] lt)
  where
    no_direct : (b : Bool) → AreOf (codes "Version") false (made_said b version)
    no_direct true = (refl, tt)
    no_direct false = tt

-- how it is made
said_makings : (t : Tables) (names : Names) (n version : ℕ) (ks : List ℕ) (direct : Bool) (fs ss : List (List ℕ)) → AllByRecursion (λ f. UseOk t names 16 system_type) fs → AllByRecursion NameFits fs
    → (each (making_of t) (of_word (codes "Activatable") (attributes t names n ks (all_said version direct fs ss)))) ≡ Ok (if direct then Direct ∷ all_through fs else all_through fs)
said_makings t names n version ks direct fs ss known fits =
    both direct
  where
    rest : (k : List ℕ) → of_word (codes "Activatable") (attributes t names n k (map (said_name Maker.Factory version) fs ++ map (said_name Maker.Static version) ss)) ≡ attributes t names n k (map (said_name Maker.Factory version) fs)
    rest k =
        let fa : List Said = map (said_name Maker.Factory version) fs in
        let st : List Said = map (said_name Maker.Static version) ss in
        let later : List Attribute = attributes t names n (drop (length fa) k) st in
        let a = of_word_all t names n (codes "Activatable") k fa (names_of_word (codes "Activatable") true Maker.Factory version fs refl) in
        let b = of_word_none t names n (codes "Activatable") (drop (length fa) k) st (names_of_word (codes "Activatable") false Maker.Static version ss refl) in
        ap (of_word (codes "Activatable")) (attributes-append t names n k fa st) ∙ filter-append (is_of (codes "Activatable")) (attributes t names n k fa) later ∙ rw (a, b) (append-nil (attributes t names n k fa))

    both : (d : Bool) → (each (making_of t) (of_word (codes "Activatable") (attributes t names n ks (all_said version d fs ss)))) ≡ Ok (if d then Direct ∷ all_through fs else all_through fs)
    both true =
        let made_is = direct_read t names n (get_or (drop 1 ks) 0 0) version in
        let others = factories_read t names n (drop 1 (drop 1 ks)) version fs known fits in
        rw (rest (drop 1 (drop 1 ks)), made_is, others) refl
    both false = rw (rest (drop 1 ks)) (factories_read t names n (drop 1 ks) version fs known fits)

-- and its statics
said_statics : (t : Tables) (names : Names) (n version : ℕ) (ks : List ℕ) (direct : Bool) (fs ss : List (List ℕ)) → AllByRecursion NameFits ss
    → each (type_name_of t) (of_word (codes "Static") (attributes t names n ks (all_said version direct fs ss))) ≡ Ok ss
said_statics t names n version ks direct fs ss fits =
    let front : List Said = made_said direct version ++ map (said_name Maker.Factory version) fs in
    let st : List Said = map (said_name Maker.Static version) ss in
    let e : all_said version direct fs ss ≡ said Maker.Version (number_argument version) ∷ (front ++ st) = ap (λ (x : List Said). said Maker.Version (number_argument version) ∷ x) (sym (append_assoc (made_said direct version) (map (said_name Maker.Factory version) fs) st)) in
    let k : List ℕ = drop (length front) (drop 1 ks) in
    let a = of_word_none t names n (codes "Static") (drop 1 ks) front (all_join _ (made_said direct version) _ (no_direct direct) (names_of_word (codes "Static") false Maker.Factory version fs refl)) in
    let b = of_word_all t names n (codes "Static") k st (names_of_word (codes "Static") true Maker.Static version ss refl) in
    let inner : of_word (codes "Static") (attributes t names n (drop 1 ks) (front ++ st)) ≡ attributes t names n k st =
    ap (of_word (codes "Static")) (attributes-append t names n (drop 1 ks) front st) ∙ filter-append (is_of (codes "Static")) (attributes t names n (drop 1 ks) front) (attributes t names n k st) ∙ rw (a, b) refl in
    ap (λ (x : List Said). each (type_name_of t) (of_word (codes "Static") (attributes t names n ks x))) e ∙ rw inner (names_read t names n k version Maker.Static ss fits)
  where
    no_direct : (b : Bool) → AreOf (codes "Static") false (made_said b version)
    no_direct true = (refl, tt)
    no_direct false = tt

direct_is : (direct : Bool) (fs : List (List ℕ)) → is_direct (if direct then Direct ∷ all_through fs else all_through fs) ≡ direct
direct_is true fs = refl
direct_is false fs = not_direct fs

through_is : (direct : Bool) (fs : List (List ℕ)) → throughs (if direct then Direct ∷ all_through fs else all_through fs) ≡ fs
through_is true fs = throughs_are fs
through_is false fs = throughs_are fs

-- a class as it is read
abbrev read_class : List ℕ → ℕ → Bool → Option UseTree → List UseTree → Bool → List (List ℕ) → List (List ℕ) → DeclTree
read_class name version fixed default us direct fs ss = class name version fixed default (set_by text_of_tree us) direct (names_in_order fs) (names_in_order ss)

class_read : (names : Names) (ds : List DeclTree) (offset : Offsets) (pre : List Line) (name : List ℕ) (version flags : ℕ) (fixed : Bool) (default : Option UseTree) (us : List UseTree) (direct : Bool) (fs ss : List (List ℕ)) (post : List Line) (ks : List ℕ)
    → ClassOk (tables_of names ds offset) names name version default us direct fs ss → Stands_ names ds pre (class name version fixed default us direct fs ss) post → has_flag flags 0x80 ≡ fixed
    → class_of (tables_of names ds offset) (suc (behind_all none pre tables.TypeDef)) name flags (attributes (tables_of names ds offset) names (suc (behind_all none pre tables.TypeDef)) ks (all_said version direct fs ss))
    ≡ Ok (read_class name version fixed default us direct fs ss)
class_read names ds offset pre name version flags fixed default us direct fs ss post ks h s f =
    let t : Tables = tables_of names ds offset in
    let d : DeclTree = class name version fixed default us direct fs ss in
    let before : Counts = behind_all none pre in
    let after : Counts = behind before (own_line d) in
    let n : ℕ = suc (before tables.TypeDef) in
    let rest : List Line = class_rest version direct fs ss in
    let b1 : Counts = behind after (version_of_type version) in
    let v = said_version t names n n version ks direct fs ss h.numbered_ in
    let listed = interfaces_read names ds offset pre d us post s (has_owned names b1 default us rest (none_rest version direct fs ss)) (has_written names b1 default us rest (none_rest version direct fs ss)) h.uses in
    let front : List Line = own_line d ∷ version_of_type version ∷ [] in
    let flat : List Line = flat_map (class_interface default) us in
    let split : all_lines names ds ≡ (pre ++ front) ++ (flat ++ (rest ++ post)) = s.split ∙ ap (λ (x : List Line). pre ++ own_line d ∷ version_of_type version ∷ x) (append_assoc flat rest post) ∙ sym (append_assoc pre front (flat ++ (rest ++ post))) in
    let defaults0 = defaults_read names ds offset (pre ++ front) default us (rest ++ post) split s.attributes_owned (apart_rest version direct fs ss post s.defaults_next) h.default_made in
    let defaults = rw (behind_all-append none pre front) at defaults0 in
    let one : somes (map (chosen_default default) us) ≡ listed_default default = chosen_are default us ∙ h.one in
    let makings = said_makings t names n version ks direct fs ss h.factory_known h.factories in
    let statics = said_statics t names n version ks direct fs ss h.statics in
    rw (v, listed, defaults, one, one_default (at t tables.TypeDef n 0) default, makings, statics, f, uses_tagged (suc (before tables.InterfaceImpl)) us, direct_is direct fs, through_is direct fs) refl

class_attributes : (names : Names) (ds : List DeclTree) (offset : Offsets) (pre : List Line) (name : List ℕ) (version : ℕ) (fixed : Bool) (default : Option UseTree) (us : List UseTree) (direct : Bool) (fs ss : List (List ℕ)) (post : List Line)
    → ClassOk (tables_of names ds offset) names name version default us direct fs ss → Stands_ names ds pre (class name version fixed default us direct fs ss) post
    → (ks : List ℕ) × (attributes_of (tables_of names ds offset) tables.TypeDef (suc (behind_all none pre tables.TypeDef)) ≡ Ok (attributes (tables_of names ds offset) names (suc (behind_all none pre tables.TypeDef)) ks (all_said version direct fs ss)))
class_attributes names ds offset pre name version fixed default us direct fs ss post h s =
    let d : DeclTree = class name version fixed default us direct fs ss in
    let before : Counts = behind_all none pre in
    let after : Counts = behind before (own_line d) in
    let n : ℕ = suc (before tables.TypeDef) in
    let found = attributes_are names ds offset pre (own_line d) (body_lines d) post tables.TypeDef (record { is = refl }) s.split refl refl s.attributes_owned s.alone s.attributes_next in
    let mine = class_owned names n name version fixed default us direct fs ss after refl in
    let made_all : AllByRecursion (λ (x : Said). MakerOk names x.maker) (all_said version direct fs ss) =
    (h.version_made, all_join _ (made_said direct version) _ (made_direct names direct version h.direct_made) (all_join _ (map (said_name Maker.Factory version) fs) _ (made_names names Maker.Factory version fs h.factory_made) (made_names names Maker.Static version ss h.static_made))) in
    let read = all_read names ds offset n found.0 (all_said version direct fs ss) made_all in
    (found.0, ap (each (attribute_of (tables_of names ds offset))) (found.1 ∙ ap (λ (x : List (List Value)). tag found.0 (map stated_row x)) mine) ∙ read)

pub class_type : (names : Names) (ds : List DeclTree) (offset : Offsets) (pre : List Line) (name : List ℕ) (version : ℕ) (fixed : Bool) (default : Option UseTree) (us : List UseTree) (direct : Bool) (fs ss : List (List ℕ)) (post : List Line)
    → ClassOk (tables_of names ds offset) names name version default us direct fs ss → Stands_ names ds pre (class name version fixed default us direct fs ss) post
    → type_of (tables_of names ds offset) (suc (behind_all none pre tables.TypeDef), row_of names (behind_all none pre) (own_line (class name version fixed default us direct fs ss)))
    ≡ Ok (Some (suc (behind_all none pre tables.TypeDef), read_class name version fixed default us direct fs ss))
class_type names ds offset pre name version true default us direct fs ss post h s =
    let t : Tables = tables_of names ds offset in
    let n : ℕ = suc (behind_all none pre tables.TypeDef) in
    let base = base_read names ds offset (codes "System.Object") (at t tables.TypeDef n 3) h.base refl in
    let some : (suc (place (bytes_eq (codes "System.Object")) names.refs) == 0) ≡ false = eqb-suc-zero (place (bytes_eq (codes "System.Object")) names.refs) in
    let inner = no_rows t tables.NestedClass 0 tables.TypeDef n (ap (map stated_row) (none_written names none (all_lines names ds) tables.NestedClass s.nested)) in
    let found = class_attributes names ds offset pre name version true default us direct fs ss post h s in
    let read = class_read names ds offset pre name version 0x4181 true default us direct fs ss post found.0 h s refl in
    rw (h.named.parts, h.named.plain, some, base, inner, h.named.path (at t tables.TypeDef n 1), found.1, read) refl
class_type names ds offset pre name version false default us direct fs ss post h s =
    let t : Tables = tables_of names ds offset in
    let n : ℕ = suc (behind_all none pre tables.TypeDef) in
    let base = base_read names ds offset (codes "System.Object") (at t tables.TypeDef n 3) h.base refl in
    let some : (suc (place (bytes_eq (codes "System.Object")) names.refs) == 0) ≡ false = eqb-suc-zero (place (bytes_eq (codes "System.Object")) names.refs) in
    let inner = no_rows t tables.NestedClass 0 tables.TypeDef n (ap (map stated_row) (none_written names none (all_lines names ds) tables.NestedClass s.nested)) in
    let found = class_attributes names ds offset pre name version false default us direct fs ss post h s in
    let read = class_read names ds offset pre name version 0x4101 false default us direct fs ss post found.0 h s refl in
    rw (h.named.parts, h.named.plain, some, base, inner, h.named.path (at t tables.TypeDef n 1), found.1, read) refl
