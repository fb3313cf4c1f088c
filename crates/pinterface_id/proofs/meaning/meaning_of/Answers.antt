use Rattle.std.proofs.Common.{ap, sym, ◌∙◌, Option, option_map}
use Rattle.std.specs.Option.{option_or}
use Rattle.wr_base.specs.declared.declaration.Declaration.{Declaration}
use Rattle.found_table.specs.Table.{builtin}
use Rattle.found_table.specs.Views.{found_view}
use Rattle.wr_rules.specs.Kinds as kinds
use Rattle.pinterface_id.proofs.meaning.meaning_of.Goals as goal

pub returns-in-Some-clause-value : goal.returns-in-Some-clause-value
returns-in-Some-clause-value c =
    ap (λ (o : Option Declaration). option_or (option_map kinds.declared o) (option_map kinds.found (builtin c.args.name.now)))
    (sym (c.in-Some.ensures.place ∙ c.at.ensures.value))

pub returns-in-Some-builtin-clause-value : goal.returns-in-Some-builtin-clause-value
returns-in-Some-builtin-clause-value c =
    ap (option_map kinds.found) (sym (ap (option_map found_view) c.in-Some-builtin.is) ∙ c.builtin.ensures ∙ ap builtin c.as_str.ensures.value)
    ∙ ap (λ (o : Option Declaration). option_or (option_map kinds.declared o) (option_map kinds.found (builtin c.args.name.now)))
    (sym c.in-None.ensures.none)

pub returns-in-None-builtin-clause-value : goal.returns-in-None-builtin-clause-value
returns-in-None-builtin-clause-value c =
    ap (option_map kinds.found) (sym (ap (option_map found_view) c.in-None-builtin.is) ∙ c.builtin.ensures ∙ ap builtin c.as_str.ensures.value)
    ∙ ap (λ (o : Option Declaration). option_or (option_map kinds.declared o) (option_map kinds.found (builtin c.args.name.now)))
    (sym c.in-None.ensures.none)
