use Rattle.std.proofs.Common.{◌∙◌, ◌≡◌, [], ◌∷◌, map, ap}
use Rattle.md_schema.specs.declared.table.Table.TheVariants as tables
use Rattle.row_writer.specs.Known.{Values}
use Rattle.row_writer.specs.Seen.{seen}
use Rattle.sig_blobs.specs.Writing.{Numbers, method_bytes}
use Rattle.winmd_lines.specs.Lines.{line, Number, Words, Bytes, Next}
use Rattle.winmd_lines.specs.Names.{token_of}
use Rattle.winmd_sets.specs.Members.{param_lines}
use Rattle.wr_base.specs.Trees.{param_tree, signature_tree}
use Rattle.part_rows.specs.Grown.{with_line, with_lines}
use Rattle.part_rows.specs.Nothing.{nothing}
use Rattle.kind_rows.proofs.LoopLaws.{on_ok, params_any}
use Rattle.kind_rows.proofs.methods.put_signature.Goals as goal

pub returns : goal.returns
returns g c =
    let names = g.N.Referred.names c.args.names.now in
    let blob : c.deref.result.now ≡ method_bytes (token_of names) (signature_tree c.args.sig.now) =
    c.deref.ensures.value ∙ c.in_ok-spell_method.ensures ∙ ap (λ (t : Numbers). method_bytes t (signature_tree c.args.sig.now)) c.tokens.ensures in
    on_ok c.put_params.result _ _
    (λ e. e ∙ (λ i. with_lines nothing (param_lines 1 (map param_tree (c.as_slice.ensures i))) (seen c.put_method_row.new.writer))
    ∙ params_any names 1 (map param_tree c.args.sig.now.params) (seen c.put_method_row.new.writer)
    ∙ ap (λ (rows : Values). with_lines names (param_lines 1 (map param_tree c.args.sig.now.params)) rows)
    (c.in_ok-put_method_row.ensures
    ∙ (λ i. with_line nothing (line tables.MethodDef (Number 0 ∷ Number c.args.impl_flags ∷ Number c.args.flags ∷ Words c.args.name.now ∷ Bytes (blob i) ∷ Next tables.Param ∷ [])) (seen c.args.out.now.writer))))
    c.put_params.ensures
