use Rattle.std.proofs.Common.{◌≡◌, ap, ◌∙◌, sym, set, ◌++◌, ◌∷◌, [], get_or}
use Rattle.std.proofs.lemmas.List.{map-set, get_or-map}
use Rattle.winmd_cells.specs.Indexed.{numbers_in}
use Rattle.winmd_cells.proofs.indexes.add.Goals as goal

pub returns : goal.returns
returns c =
    let h = c.index_mut.ensures.value in
    let e : c.index_mut.result.now.items ≡ get_or (numbers_in c.args.lists.now.items) c.args.m [] = ap (λ v. v.items) h ∙ sym (get_or-map (λ row. row.items) c.args.lists.now.items c.args.m c.index_mut.result.now [] c.requires) in
    rw (map-set (λ row. row.items) c.args.lists.now.items c.args.m c.push.new.self, c.in_ok-push.ensures.items) (ap (λ xs. set (numbers_in c.args.lists.now.items) c.args.m (xs ++ c.args.n ∷ [])) e)
