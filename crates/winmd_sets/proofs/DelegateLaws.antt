-- Reading the rows of a delegate gives it.
use Rattle.std.proofs.Common.{◌≡◌, ℕ, suc, ◌^◌, ◌<◌, true, false, List, [], ◌∷◌, ◌++◌, get_or, drop, map, Some, Ok, refl, sym, ap, ◌∙◌, append_assoc}
use Rattle.std.specs.Prelude.{◌==◌, bytes_eq, codes}
use Rattle.std.specs.List.{list_any}
use Rattle.std.proofs.Math.Dec.{eqb-suc-zero}
use Rattle.md_schema.specs.declared.table.Table.TheVariants as tables
use Rattle.winmd_rows.specs.Values.{Offsets, stated_row}
use Rattle.winmd_lines.specs.Lines.{Bytes, Line}
use Rattle.winmd_sets.specs.Declared.{own_line, body_lines, id_of_type, version_of_type}
use Rattle.winmd_lines.specs.Makers.{Maker}
use Rattle.winmd_sets.specs.Members.{param_lines, method_lines}
use Rattle.winmd_lines.specs.Names.{Names, Counts, none, behind, written, place}
use Rattle.winmd_lines.specs.Positions.{behind_all}
use Rattle.winmd_lines.specs.Cells.{Tables, at}
use Rattle.winmd_sets.specs.Types.{type_of}
use Rattle.winmd_sets.specs.Rows.{all_lines}
use Rattle.wr_base.specs.Trees.{DeclTree, delegate, SignatureTree}
use Rattle.winmd_sets.proofs.AttributeLaws.{tables_of, MakerOk, made, attribute_is, attributes_are}
use Rattle.winmd_sets.proofs.InterfaceLaws.{version_among, id_among, not_owned, not_params}
use Rattle.winmd_lines.proofs.OwnerLaws.{no_rows}
use Rattle.winmd_lines.proofs.LineLaws.{row_of, list_is, behind_all-append}
use Rattle.winmd_sets.proofs.MethodLaws.{SignatureAtOk, any_method, signature_at, params_written}
use Rattle.winmd_sets.proofs.ShapeLaws.{none_params}
use Rattle.winmd_sets.proofs.TypeLaws.{Stands_, NameOk, base_read, none_written}
use Rattle.winmd_sets.specs.Values.{number_argument, id_argument}

pub record DelegateOk (t : Tables) (names : Names) (name : List ℕ) (version id : ℕ) (invoke : SignatureTree) : Type 0 where
  pub named : NameOk name
  pub numbered_ : version < 2 ^ 32
  pub id_fits : id < 2 ^ 128
  pub sig : SignatureAtOk t names invoke
  pub base : list_any (bytes_eq (codes "System.MulticastDelegate")) names.refs ≡ true
  pub version_made : MakerOk names Maker.Version
  pub guid_made : MakerOk names Maker.Guid

abbrev constructor_lines : List Line
constructor_lines = method_lines 0x1881 3 (codes ".ctor") (Bytes (0x20 ∷ 2 ∷ 0x01 ∷ 0x1C ∷ 0x18 ∷ [])) []

pub delegate_type : (names : Names) (ds : List DeclTree) (offset : Offsets) (pre : List Line) (name : List ℕ) (version id : ℕ) (invoke : SignatureTree) (post : List Line) → DelegateOk (tables_of names ds offset) names name version id invoke
    → Stands_ names ds pre (delegate name version id invoke) post
    → type_of (tables_of names ds offset) (suc (behind_all none pre tables.TypeDef), row_of names (behind_all none pre) (own_line (delegate name version id invoke))) ≡ Ok (Some (suc (behind_all none pre tables.TypeDef), delegate name version id invoke))
delegate_type names ds offset pre name version id invoke post h s =
    let t : Tables = tables_of names ds offset in
    let d : DeclTree = delegate name version id invoke in
    let before : Counts = behind_all none pre in
    let after : Counts = behind before (own_line d) in
    let n : ℕ = suc (before tables.TypeDef) in
    let base = base_read names ds offset (codes "System.MulticastDelegate") (at t tables.TypeDef n 3) h.base refl in
    let some : (suc (place (bytes_eq (codes "System.MulticastDelegate")) names.refs) == 0) ≡ false = eqb-suc-zero (place (bytes_eq (codes "System.MulticastDelegate")) names.refs) in
    let inner = no_rows t tables.NestedClass 0 tables.TypeDef n (ap (map stated_row) (none_written names none (all_lines names ds) tables.NestedClass s.nested)) in
    let found = attributes_are names ds offset pre (own_line d) (body_lines d) post tables.TypeDef (record { is = refl }) s.split refl refl s.attributes_owned s.alone s.attributes_next in
    let front : List Line = own_line d ∷ id_of_type id ∷ version_of_type version ∷ constructor_lines in
    let b1 : Counts = behind after (id_of_type id) in
    let inner_counts : Counts = behind_all before front in
    let none_more = not_owned names (behind inner_counts (any_method 0x09C6 3 (codes "Invoke") invoke)) (param_lines 1 invoke.params) (not_params 1 invoke.params) in
    let g = made names ds offset Maker.Guid h.guid_made in
    let v = made names ds offset Maker.Version h.version_made in
    let i : ℕ = get_or found.0 0 0 in
    let j : ℕ = get_or (drop 1 found.0) 0 0 in
    let ga = attribute_is t names after tables.TypeDef Maker.Guid (id_argument id) i g in
    let va = attribute_is t names b1 tables.TypeDef Maker.Version (number_argument version) j v in
    let version_is = version_among t names after b1 id version i j n g v [] h.numbered_ refl in
    let id_is = id_among t names after b1 id version i j n g v [] h.id_fits refl in
    let list = list_is t names (all_lines names ds) pre (own_line d) (body_lines d) post tables.TypeDef 5 tables.MethodDef (record { is = refl }) (record { is = refl }) s.split refl refl refl s.alone s.methods_next in
    let rest : written names (behind inner_counts (any_method 0x09C6 3 (codes "Invoke") invoke)) (param_lines 1 invoke.params) tables.MethodDef ≡ [] = none_written names _ (param_lines 1 invoke.params) tables.MethodDef (none_params tables.MethodDef refl 1 invoke.params) in
    let split : all_lines names ds ≡ (pre ++ front) ++ any_method 0x09C6 3 (codes "Invoke") invoke ∷ (param_lines 1 invoke.params ++ post) = s.split ∙ sym (append_assoc pre front (any_method 0x09C6 3 (codes "Invoke") invoke ∷ (param_lines 1 invoke.params ++ post))) in
    let sig0 = signature_at names ds offset (pre ++ front) 0x09C6 3 (codes "Invoke") invoke (param_lines 1 invoke.params) post h.sig split (none_params tables.MethodDef refl 1 invoke.params) (λ b. params_written names b 1 invoke.params) s.params_next in
    let sig = rw (behind_all-append none pre front) at sig0 in
    rw (h.named.parts, h.named.plain, some, base, inner, h.named.path (at t tables.TypeDef n 1), found.1, none_more, ga, va, version_is, id_is, list, rest, sig) refl
