use Rattle.std.proofs.Common.{refl, sym, ap, ◌∙◌}
use Rattle.md_schema.specs.declared.table.Table.TheVariants as tables
use Rattle.winmd_index.specs.Names.{name_seen}
use Rattle.winmd_index.proofs.NameLaws.{listed_on, none_listed}
use Rattle.winmd_index.proofs.names.put_refs.Goals as goal

pub loop-i-init : goal.loop-i-init
loop-i-init c = record { refs = c.requires ∙ sym (none_listed (name_seen c.args.image.now tables.TypeRef)); defs = refl }

pub loop-i-preserved : goal.loop-i-preserved
loop-i-preserved c = record {
  refs = listed_on (name_seen c.args.image.now tables.TypeRef) c.loop-i.i c.loop-i.names.refs c.push_ref.new.self.refs c.in_ok-name.name c.loop-i.invariant.refs c.in_ok-name.ensures (ap (λ n. n.refs) c.in_ok-push_ref.ensures.ok);
  defs = ap (λ n. n.defs) c.in_ok-push_ref.ensures.ok ∙ c.loop-i.invariant.defs;
}
