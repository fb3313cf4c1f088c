use Rattle.std.proofs.Common.{refl, sym, ap, ◌∙◌}
use Rattle.md_schema.specs.declared.table.Table.TheVariants as tables
use Rattle.winmd_index.specs.Names.{name_seen}
use Rattle.winmd_index.proofs.NameLaws.{listed_on, none_listed}
use Rattle.winmd_index.proofs.names.put_defs.Goals as goal

pub loop-i-init : goal.loop-i-init
loop-i-init c = record { defs = c.requires ∙ sym (none_listed (name_seen c.args.image.now tables.TypeDef)); refs = refl }

pub loop-i-preserved : goal.loop-i-preserved
loop-i-preserved c = record {
  defs = listed_on (name_seen c.args.image.now tables.TypeDef) c.loop-i.i c.loop-i.names.defs c.push_def.new.self.defs c.in_ok-name.name c.loop-i.invariant.defs c.in_ok-name.ensures (ap (λ n. n.defs) c.in_ok-push_def.ensures.ok);
  refs = ap (λ n. n.refs) c.in_ok-push_def.ensures.ok ∙ c.loop-i.invariant.refs;
}
