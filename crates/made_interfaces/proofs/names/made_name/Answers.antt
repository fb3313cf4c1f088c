use Rattle.std.proofs.Common.{IsTrue, string_bytes}
use Rattle.std.proofs.lemmas.Bool.{false≢true}
use Rattle.wr_base.specs.Paths.{is_path}
use Rattle.made_interfaces.proofs.PathLaws.{spelled_path}
use Rattle.made_interfaces.proofs.names.made_name.Goals as goal

pub unreachable-requires : goal.unreachable-requires
unreachable-requires c =
    let path : IsTrue (is_path (string_bytes c.in_ok-text.text)) =
    spelled_path c.args.class.now c.args.word.now c.parts.result.0.now c.parts.result.1.now (string_bytes c.in_ok-text.text) c.parts.ensures.space c.parts.ensures.name c.in_ok-text.ensures
    c.as_str-whole.ensures.path c.parts.ensures.joined c.requires in
    absurd (false≢true (c.in-None.ensures.some.1 path))
