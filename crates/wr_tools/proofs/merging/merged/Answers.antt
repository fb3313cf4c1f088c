use Rattle.std.proofs.Common.{map, string_bytes}
use Rattle.wr_tools.proofs.MergeLemmas.{all_stated, few}
use Rattle.wr_tools.proofs.merging.merged.Goals as goal

pub united-requires-clause-each : goal.united-requires-clause-each
united-requires-clause-each g c =
    c.image_sets_can_be_merged.ensures.each c.in-Ok.sets.items
    (all_stated (g.S.Store.held c.args.store.now) 0 (map string_bytes c.args.words.now) c.in-Ok.sets.items c.in-Ok.ensures.ok)

pub united-requires-clause-few : goal.united-requires-clause-few
united-requires-clause-few g c =
    c.image_sets_can_be_merged.ensures.few c.in-Ok.sets.items
    (all_stated (g.S.Store.held c.args.store.now) 0 (map string_bytes c.args.words.now) c.in-Ok.sets.items c.in-Ok.ensures.ok)
    (few (g.S.Store.held c.args.store.now) (map string_bytes c.args.words.now) c.in-Ok.sets.items c.in-Ok.ensures.ok)

pub returns-in-Err-clause-is : goal.returns-in-Err-clause-is
returns-in-Err-clause-is g c =
    c.halted.ensures.is c.args.out.now (map string_bytes c.args.words.now) (g.S.Store.held c.args.store.now) c.in-Err.ensures.stopped
