-- The definitions at worked examples, by computing.
use Rattle.winmd_rows.specs.Values.{stated}
use Rattle.std.proofs.Common.{◌≡◌, Ok, ap, ◌∙◌, List}
use Rattle.winmd_sets.specs.Rows.{rows_of}
use Rattle.winmd_sets.specs.Examples.{reading}
use Rattle.winmd_sets.specs.Shop.{shop}
use Rattle.winmd_sets.specs.Mix.{mix}
use Rattle.winmd_sets.specs.Examples.{places}
use Rattle.wr_base.specs.Trees.{DeclTree, name_of}
use Rattle.winmd_lines.proofs.SettleLaws.{set_rising}
use Rattle.winmd_sets.proofs.FittingSets.{shop_fits, shop_rising, mix_fits, mix_rising}
use Rattle.winmd_sets.proofs.ReachLaws.{rows_state}

pub shop_read : reading (stated (rows_of shop)) ≡ Ok shop
shop_read = rows_state shop places shop_fits ∙ ap (λ (ds : List DeclTree). Ok ds) (set_rising name_of shop shop_rising)

pub mix_read : reading (stated (rows_of mix)) ≡ Ok mix
mix_read = rows_state mix places mix_fits ∙ ap (λ (ds : List DeclTree). Ok ds) (set_rising name_of mix mix_rising)
