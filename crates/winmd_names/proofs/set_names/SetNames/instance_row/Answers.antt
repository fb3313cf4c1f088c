use Rattle.std.proofs.Common.{◌≡◌, ℕ, ◌+◌, List, ◌++◌, map, length, sym, ap, ◌∙◌, arith}
use Rattle.std.proofs.lemmas.List.{length-map}
use Rattle.wr_base.specs.Trees.{UseTree, tree_of}
use Rattle.winmd_uses.specs.Keys.{key_of}
use Rattle.winmd_names.specs.InstanceRows.{row_under}
use Rattle.winmd_names.proofs.LookupLaws.{row_missing, row_there}
use Rattle.winmd_names.proofs.set_names.SetNames.instance_row.Goals as goal

pub returns-in-Some : goal.returns-in-Some
returns-in-Some c =
    let s = c.args.self.now in
    let u : UseTree = tree_of c.args.ty.now in
    let key : c.as_slice.result.now ≡ key_of u = c.as_slice.ensures.value ∙ c.in_ok-put_key.ensures ∙ ap (λ (xs : List ℕ). xs ++ key_of u) c.new-key.ensures.items in
    row_there (map tree_of s.instances.list.items) u c.in-Some.row.now (sym (s.instances.exact u) ∙ ap (row_under s.instances.rows) (sym key) ∙ sym c.in-Some.ensures.value)

pub overflow_cast-result : goal.overflow_cast-result
overflow_cast-result c = omega (arith, c.args.self.now.instances.few, c.len.ensures)

pub overflow_add-result : goal.overflow_add-result
overflow_add-result c = omega (arith, c.args.self.now.instances.few, c.len.ensures)

pub returns : goal.returns
returns c =
    let s = c.args.self.now in
    let u : UseTree = tree_of c.args.ty.now in
    let specs : List UseTree = map tree_of s.instances.list.items in
    let key : c.as_slice.result.now ≡ key_of u = c.as_slice.ensures.value ∙ c.in_ok-put_key.ensures ∙ ap (λ (xs : List ℕ). xs ++ key_of u) c.new-key.ensures.items in
    let count : c.len.result + 1 ≡ 1 + length specs = omega (arith, c.len.ensures, length-map s.instances.list.items tree_of) in
    count ∙ row_missing specs u (sym (s.instances.exact u) ∙ ap (row_under s.instances.rows) (sym key) ∙ sym c.in-None.ensures.value)
