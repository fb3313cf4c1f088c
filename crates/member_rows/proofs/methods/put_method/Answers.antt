use Rattle.std.proofs.Common.{◌≡◌, ◌∙◌, ℕ, Bool, List, [], ◌∷◌, ap}
use Rattle.std.specs.Prelude.{◌||◌, not}
use Rattle.std.specs.Str.{bytes_eq}
use Rattle.md_schema.specs.declared.table.Table.TheVariants as tables
use Rattle.winmd_lines.specs.Makers as makers
use Rattle.winmd_sets.specs.Members.{attribute, signature_lines, when}
use Rattle.winmd_sets.specs.Values.{words_argument}
use Rattle.wr_base.specs.Trees.{signature_tree}
use Rattle.kind_rows.specs.Said.{said}
use Rattle.part_rows.specs.Grown.{with_lines}
use Rattle.kind_rows.proofs.LoopLaws.{on_ok, then_lines}
use Rattle.member_rows.proofs.methods.put_method.Goals as goal

pub returns : goal.returns
returns g c =
    let names = g.N.Referred.names c.args.names.now in
    let test : Bool = not (bytes_eq c.args.abi.now c.args.name.now) || c.args.repeated in
    let text : c.as_bytes.result.now ≡ c.args.name.now = c.as_bytes.ensures.value ∙ c.as_str.ensures in
    on_ok c.put_overload_if.result _ _
    (λ e. then_lines names (signature_lines 0x05C6 0 c.args.name.now (signature_tree c.args.sig.now)) (when test (attribute tables.MethodDef makers.Overload (words_argument c.args.abi.now) ∷ []))
    (said c.args.out.now) (said c.put_signature.new.out) (said c.put_overload_if.new.out) (c.in_ok-put_signature.ensures ∙ ap (λ (n : List ℕ). with_lines names (signature_lines 0x05C6 0 n (signature_tree c.args.sig.now)) (said c.args.out.now)) text)
    (e ∙ (λ i. with_lines names (when (c.has_overload.ensures i) (attribute tables.MethodDef makers.Overload (words_argument c.args.abi.now) ∷ [])) (said c.put_signature.new.out))))
    c.put_overload_if.ensures
