use Rattle.winmd_uses.proofs.KnownLaws.{formed_counted}
use Rattle.winmd_uses.proofs.names.Names.form.Goals as goal

pub invariant_of-self-2 : goal.invariant_of-self-2
invariant_of-self-2 c =
    let names = c.args.self.now in
    record {
      there = names.there;
      formed = formed_counted c.count.result names.set names.counts c.count.new.counts c.in_ok-from_str.field-0 c.args.name.now c.args.number c.in_ok-from_str.ensures.ok c.requires c.count.ensures.added c.count.ensures.unchanged names.formed;
    }
