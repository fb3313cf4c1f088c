use Rattle.winmd_uses.proofs.KnownLaws.{formed_still, on_ok, put_there, there_marked, there_still}
use Rattle.winmd_uses.proofs.TextLaws.{text_put}
use Rattle.winmd_uses.proofs.names.Names.add.Goals as goal

pub invariant_of-self-2 : goal.invariant_of-self-2
invariant_of-self-2 c =
    let names = c.args.self.now in
    let put = c.in_ok-put.ensures.added in
    record {
      there = there_marked c.mark.result c.put.new.set names.known c.mark.new.known c.args.name c.args.again c.requires (put_there names.set c.put.new.set c.args.name put) c.mark.ensures.added c.mark.ensures.unchanged
          (there_still names.set c.put.new.set c.args.name names.known put names.there);
      formed = formed_still names.set c.put.new.set c.args.name names.counts put names.formed;
    }

pub returns : goal.returns
returns c = on_ok c.mark.result _ (text_put c.args.self.now.set c.put.new.set c.args.name c.in_ok-put.ensures.added)
