use Rattle.std.proofs.Common.{ℕ, List, Some, sym, ap, ◌∙◌, arith}
use Rattle.std.specs.HashMap.{get_by_text}
use Rattle.wr_base.specs.Declarations.{name_of}
use Rattle.closed_lists.specs.declared.site.PlacedDeclaration.{PlacedDeclaration}
use Rattle.closed_lists.specs.Indexes.{names_in}
use Rattle.closed_lists.proofs.Positions.{position_turn, name_at}
use Rattle.closed_lists.proofs.index.index_of.Goals as goal

pub loop-i-preserved : goal.loop-i-preserved
loop-i-preserved c = λ q.
    position_turn (names_in c.args.sites.now) c.loop-i.i c.as_str.result.now q (get_by_text c.add.new.index q) (get_by_text c.loop-i.index q)
    (name_at c.args.sites.now c.loop-i.i c.index-sites-i.result (omega arith) c.index-sites-i.is ∙ ap (λ (p : PlacedDeclaration). Some (name_of p.declaration)) c.index-sites-i.is ∙ ap (λ (n : List ℕ). Some n) (sym (c.as_str.ensures.value ∙ c.name.ensures)))
    (c.in_ok-add.ensures q) (c.loop-i.invariant q)
