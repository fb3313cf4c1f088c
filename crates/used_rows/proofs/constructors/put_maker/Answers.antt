use Rattle.std.proofs.Common.{◌≡◌, ◌∙◌, ℕ, List, [], ◌∷◌, ◌++◌, codes, ap}
use Rattle.std.specs.Prelude.{◌==◌, if◌then◌else◌}
use Rattle.md_schema.specs.declared.table.Table.TheVariants as tables
use Rattle.md_schema.specs.Schema.{place_of}
use Rattle.row_writer.specs.Known.{Values}
use Rattle.sig_blobs.specs.Writing.{Numbers, method_bytes}
use Rattle.winmd_lines.specs.Makers.{maker_signature, maker_type}
use Rattle.winmd_lines.specs.Names.{named_row, token_of}
use Rattle.winmd_rows.specs.Values.{Value, To, Text, Blob}
use Rattle.kind_rows.specs.Makers.{maker_of}
use Rattle.kind_rows.specs.Said.{said}
use Rattle.kind_rows.proofs.LoopLaws.{on_ok}
use Rattle.used_rows.proofs.constructors.put_maker.Goals as goal

-- rows with a constructor more, of this owner and signature
abbrev made : Value → List ℕ → Values → Values
made owner blob rows table =
    if place_of table == place_of tables.MemberRef then rows table ++ (owner ∷ Text (codes ".ctor") ∷ Blob blob ∷ []) ∷ [] else rows table

pub returns : goal.returns
returns g c =
    let names = g.N.Referred.names c.args.names.now in
    let blob : c.deref.result.now ≡ method_bytes (token_of names) (maker_signature (maker_of c.args.maker)) =
    c.deref.ensures.value ∙ c.in_ok-spell.ensures ∙ ap (λ (t : Numbers). method_bytes t (maker_signature (maker_of c.args.maker))) c.tokens.ensures in
    let owner : To c.named.result.table c.named.result.row ≡ named_row names (maker_type (maker_of c.args.maker)) = c.named.ensures.row ∙ ap (λ (n : List ℕ). named_row names n) c.type_name.ensures in
    on_ok c.put_constructor_row.result _ _ (λ e. e ∙ (λ i. made (owner i) (blob i) (said c.args.out.now))) c.put_constructor_row.ensures
