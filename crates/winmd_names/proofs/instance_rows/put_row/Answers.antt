use Rattle.std.proofs.Common.{ℕ, List, ◌++◌, ap, ◌∙◌}
use Rattle.wr_base.specs.Trees.{tree_of}
use Rattle.winmd_uses.specs.Keys.{key_of}
use Rattle.winmd_names.proofs.DownLaws.{row_put}
use Rattle.winmd_names.proofs.Results.{on_ok_then}
use Rattle.winmd_names.proofs.instance_rows.put_row.Goals as goal

pub returns : goal.returns
returns c =
    on_ok_then c.put.result
    (λ e u. row_put u (tree_of c.args.ty.now) c.put_key.new.into c.args.row c.args.rows.now c.put.new.rows (c.in_ok-put_key.ensures ∙ ap (λ (xs : List ℕ). xs ++ key_of (tree_of c.args.ty.now)) c.new-key.ensures.items) e) c.put.ensures
