use Rattle.std.proofs.Common.{◌&&◌, ◌∙◌, ap, sym, List, take}
use Rattle.std.specs.List.{list_all}
use Rattle.std.proofs.lemmas.List.{take_all}
use Rattle.wr_base.specs.Paths.{is_short_name}
use Rattle.wr_base.specs.declared.declaration.Param.{Param}
use Rattle.winmd_blobs.proofs.PathLaws.{all_short, names_of_param, short_more, params_are}
use Rattle.winmd_blobs.proofs.paths.are_short.Goals as goal

pub loop-param-preserved : goal.loop-param-preserved
loop-param-preserved c =
    c.both-short.ensures ∙ ap (λ b. b && c.is_short.result) c.loop-param.invariant ∙ ap (λ b. all_short names_of_param (take c.loop-param.param-index c.args.params.now) && b) c.is_short.ensures
    ∙ sym (short_more names_of_param c.args.params.now c.loop-param.param-index c.param-item.result c.loop-param-test.true c.param-item.is)

pub returns : goal.returns
returns c =
    c.loop-param.invariant ∙ ap (λ (ps : List Param). all_short names_of_param ps) (take_all c.loop-param.param-index c.args.params.now c.loop-param-test.false)
    ∙ ap (list_all is_short_name) (sym (params_are c.args.params.now))
