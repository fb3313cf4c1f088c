use Rattle.std.proofs.Common.{map, sym, arith}
use Rattle.std.proofs.lemmas.Bool.{eqb-true}
use Rattle.source_set.specs.Imports.{behind_folder}
use Rattle.source_set.proofs.NameLemmas.{full_all}
use Rattle.source_set.proofs.ImportLemmas.{none_named, named_more, all_named, absent}
use Rattle.source_set.proofs.imports.add_all.Goals as goal

pub returns-then-is_full : goal.returns-then-is_full
returns-then-is_full c =
    full_all 257 c.args.names.now (map (behind_folder c.args.importer.now) c.args.texts.now) (eqb-true _ 257 (sym c.if-is_full.ensures.full))

pub loop-place-init : goal.loop-place-init
loop-place-init c = none_named (behind_folder c.args.importer.now) c.args.names.now c.args.texts.now c.is_full.ensures.few

pub loop-place-preserved : goal.loop-place-preserved
loop-place-preserved c =
    named_more (behind_folder c.args.importer.now) c.args.names.now c.loop-place.names c.add_import.new.names c.args.texts.now c.loop-place.place c.in-Some.text.now
    (sym c.in-Some.ensures) c.loop-place.invariant c.in_ok-add_import-in-Some.ensures

pub unreachable-requires : goal.unreachable-requires
unreachable-requires c = absent c.args.texts.now c.loop-place.place (omega (arith, c.loop-place-test.true, c.len-place-end.ensures)) c.in-None.ensures

pub returns : goal.returns
returns c =
    all_named (behind_folder c.args.importer.now) c.args.names.now c.loop-place.names c.args.texts.now c.loop-place.place
    (omega (arith, c.loop-place-test.false, c.len-place-end.ensures)) c.loop-place.invariant
