use Rattle.std.proofs.Common.{ℕ, List, ◌++◌, ◌∷◌, [], map, sym, ap, ◌∙◌}
use Rattle.std.proofs.lemmas.List.{map-append}
use Rattle.wr_base.specs.declared.type_use.TypeUse.{TypeUse}
use Rattle.wr_base.specs.Trees.{tree_of}
use Rattle.winmd_uses.specs.Instances.{has_key}
use Rattle.winmd_uses.specs.Keys.{key_of}
use Rattle.winmd_uses.proofs.KeyLaws.{adds_if_known, adds_new, any_put}
use Rattle.winmd_uses.proofs.instances.Instances.add.Goals as goal

pub returns-then-knows : goal.returns-then-knows
returns-then-knows c =
    adds_if_known (tree_of c.args.ty.now) c.put_key.new.into.items c.args.self.now (c.in_ok-put_key.ensures ∙ ap (λ (xs : List ℕ). xs ++ key_of (tree_of c.args.ty.now)) c.new-key.ensures.items)
    (ap (has_key c.args.self.now) (sym c.as_slice.ensures.value) ∙ sym c.knows.ensures ∙ c.if-knows.true)

pub returns : goal.returns
returns c =
    adds_new (tree_of c.args.ty.now) c.put_key.new.into.items c.args.self.now _ (c.in_ok-put_key.ensures ∙ ap (λ (xs : List ℕ). xs ++ key_of (tree_of c.args.ty.now)) c.new-key.ensures.items)
    (ap (has_key c.args.self.now) (sym c.as_slice.ensures.value) ∙ sym c.knows.ensures ∙ c.if-knows.false)
    (λ other. any_put other c.put_key.new.into c.args.self.now.keys c.mark.new.keys c.in_ok-mark.ensures)
    (ap (map tree_of) (c.in_ok-push.ensures.items ∙ ap (λ (u : TypeUse). c.args.self.now.list.items ++ u ∷ []) c.in_ok-clone.ensures.cases) ∙ map-append tree_of c.args.self.now.list.items (c.args.ty.now ∷ []))
