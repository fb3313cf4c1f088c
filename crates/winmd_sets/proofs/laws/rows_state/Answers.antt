use Rattle.std.proofs.Common.{ap, Ok, ◌∙◌, List}
use Rattle.wr_base.specs.Trees.{DeclTree, name_of}
use Rattle.winmd_lines.proofs.SettleLaws.{set_rising}
use Rattle.winmd_sets.proofs.ReachLaws as reach
use Rattle.winmd_sets.proofs.laws.rows_state.Goals as goal

pub returns : goal.returns
returns c = record {
  set = λ declared offset fits. reach.rows_state declared offset fits;
  ordered = λ declared offset fits rising. reach.rows_state declared offset fits ∙ ap (λ (ds : List DeclTree). Ok ds) (set_rising name_of declared rising);
}
