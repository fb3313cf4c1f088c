use Rattle.std.proofs.Common.{rules, arith, subst}
use Rattle.midl_names.specs.Views.{item_of, attributes_of}
use Rattle.midl_tree.specs.Views.{attribute_view}
use Rattle.midl_names.specs.Attributes.{unfit}
use Rattle.ranked.specs.First.{IsFirst, Among}
use Rattle.midl_names.specs.Faults.{Gives}
use Rattle.midl_names.proofs.Firsts.{viewed, one_more_given}
use Rattle.ranked.proofs.FirstLaws.{none_below}
use Rattle.midl_names.proofs.attributes.unfits.Goals as goal

pub loop-attribute-preserved : goal.loop-attribute-preserved
loop-attribute-preserved c = one_more_given _ _ _ _ _ _ _ c.attribute-item.is c.earlier-first.ensures c.loop-attribute.invariant c.in_ok-unfit.ensures (search rules)

pub returns : goal.returns
returns c = subst (λ xs. IsFirst (Among (attributes_of xs) (λ a. Gives (unfit (item_of c.args.item.now) a))) c.loop-attribute.first) c.deref-attribute-items.ensures.value (viewed (λ a. attribute_view a.now) c.deref-attribute-items.result.now (λ a. Gives (unfit (item_of c.args.item.now) a)) c.loop-attribute.attribute-index c.loop-attribute.first c.loop-attribute.invariant (omega arith))

pub loop-attribute-init : goal.loop-attribute-init
loop-attribute-init c = none_below _
