use Rattle.std.proofs.Common.{[], ◌∷◌, codes}
use Rattle.winmd_lines.specs.Lines.{Bytes}
use Rattle.winmd_sets.specs.Members.{method_lines, signature_lines}
use Rattle.wr_base.specs.Trees.{signature_tree}
use Rattle.kind_rows.proofs.LoopLaws.{on_ok, then_lines}
use Rattle.kind_rows.proofs.delegates.put_methods.Goals as goal

pub returns : goal.returns
returns g c =
    on_ok c.put_signature.result _ _
    (λ e. then_lines (g.N.Referred.names c.args.names.now) (method_lines 0x1881 3 (codes ".ctor") (Bytes (0x20 ∷ 2 ∷ 0x01 ∷ 0x1C ∷ 0x18 ∷ [])) []) (signature_lines 0x09C6 3 (codes "Invoke") (signature_tree c.args.invoke.now))
    _ _ _ c.in_ok-put_constructor.ensures e)
    c.put_signature.ensures
