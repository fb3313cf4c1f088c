use Rattle.std.proofs.Common.{List, ℕ, Vec, [], sym, ◌∙◌, ap}
use Rattle.std.specs.List.{flat_map}
use Rattle.std.specs.declared.alloc.Global.{Global}
use Rattle.midl_tree.specs.Symbols.{Symbol}
use Rattle.source_set.specs.Found.{once, with_names}
use Rattle.source_set.specs.Imports.{text_of, texts_of}
use Rattle.source_set.proofs.ImportLemmas.{texts_more, texts_done, flat_map-map}
use Rattle.source_set.proofs.imports.texts_of.Goals as goal

-- the texts of a group of imports
abbrev of_group : Vec Symbol Global → List (List ℕ)
of_group v = flat_map text_of v.items

pub loop-group-preserved : goal.loop-group-preserved
loop-group-preserved c =
    texts_more of_group [] c.loop-group.texts c.add_group.new.texts c.deref-group-items.result.now c.loop-group.group-index c.group-item.result
    c.loop-group-test.true c.group-item.is c.loop-group.invariant
    (c.in_ok-add_group.ensures ∙ ap (λ t. with_names c.loop-group.texts (flat_map text_of t)) c.deref.ensures.value)

pub returns : goal.returns
unfolding texts_of
returns c =
    texts_done of_group [] c.loop-group.texts c.deref-group-items.result.now c.loop-group.group-index c.loop-group-test.false c.loop-group.invariant
    ∙ ap (λ t. once (flat_map of_group t)) c.deref-group-items.ensures.value
    ∙ ap once (sym (flat_map-map (flat_map text_of) (λ v. v.items) c.args.file.now.imports.items))
