use Rattle.winmd_index.proofs.TextLaws.{text_utf8}
use Rattle.winmd_index.proofs.texts.text_in.Goals as goal

pub as_text-requires : goal.as_text-requires
as_text-requires c = text_utf8 c.args.image.now c.args.table c.args.n c.args.column c.in_ok-bytes.bytes.now c.requires c.in_ok-bytes.ensures
