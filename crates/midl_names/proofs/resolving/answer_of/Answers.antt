use Rattle.std.proofs.Common.{◌≡◌, ℕ, List, Option, map, ap, subst, ◌∙◌}
use Rattle.std.specs.HashMap.{get_by_text}
use Rattle.midl_tree.specs.declared.nodes.File.{File}
use Rattle.midl_names.specs.declared.sort.Sort.{Sort}
use Rattle.midl_names.specs.Declares.{placed_of}
use Rattle.midl_names.specs.Items.{items_of}
use Rattle.midl_names.specs.Lookup.{declared_sort}
use Rattle.midl_names.specs.Views.{sources_of}
use Rattle.midl_names.proofs.Resolutions.{agreed}
use Rattle.midl_names.proofs.resolving.answer_of.Goals as goal

pub returns-clause-value : goal.returns-clause-value
returns-clause-value c =
    c.in_ok-placed_by_all.ensures.value
    ∙ ap (λ (known : List ℕ → Option Sort). map (placed_of known) (items_of (sources_of c.args.files.items)))
    (agreed (get_by_text c.in_ok-index.index.sorts) (declared_sort (items_of (sources_of c.args.files.items)))
    (subst (λ (fs : List File). (name : List ℕ) → get_by_text c.in_ok-index.index.sorts name ≡ declared_sort (items_of (sources_of fs)) name) c.deref.ensures.value c.in_ok-index.ensures.sorts))
