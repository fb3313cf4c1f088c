use Rattle.std.proofs.Common.{◌≡◌, List, true, arith, map, subst, sym}
use Rattle.std.specs.List.{flat_map, list_any}
use Rattle.wr_base.specs.declared.declaration.Declaration.{Declaration}
use Rattle.std.specs.Str.{bytes_eq}
use Rattle.wr_base.specs.Declarations.{name_of}
use Rattle.wr_base.specs.Trees.{decl_tree}
use Rattle.winmd_sets.specs.Declared.{lines_of}
use Rattle.winmd_uses.specs.Takes.{lines_say}
use Rattle.winmd_uses.proofs.OrderLaws.{named_there}
use Rattle.winmd_uses.proofs.TakeLaws.{takes_all, takes_turn_at}
use Rattle.winmd_uses.proofs.WholeLaws.{declarations_say}
use Rattle.winmd_uses.proofs.declarations.take_declarations.Goals as goal

pub loop-i-preserved : goal.loop-i-preserved
loop-i-preserved c = takes_turn_at (λ (d : Declaration). lines_say (lines_of (decl_tree d))) c.args.used.now.types.now c.loop-i.i c.at.result.now c.args.used.now c.loop-i.used c.take_declaration.new.used c.at.ensures.value c.loop-i.invariant c.in_ok-take_declaration.ensures

pub take_declaration-requires : goal.take_declaration-requires
take_declaration-requires c =
    subst (λ (ds : List Declaration). list_any (bytes_eq (name_of c.at.result.now)) (map name_of ds) ≡ true) (sym c.loop-i.invariant.types)
    (named_there c.args.used.now.types.now c.at.ensures.order.rises (name_of c.at.result.now) c.loop-i.i c.at.result.now c.at.ensures.value)

pub returns : goal.returns
returns c = takes_all (λ (d : Declaration). lines_say (lines_of (decl_tree d))) c.args.used.now.types.now c.loop-i.i (lines_say (flat_map lines_of (map decl_tree c.args.used.now.types.now))) c.args.used.now c.loop-i.used (omega (arith, c.len-i-end.ensures.len)) (declarations_say c.args.used.now.types.now) c.loop-i.invariant
