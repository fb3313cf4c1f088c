-- What the rows so far say.
use Rattle.row_writer.specs.Known.{Values}
use Rattle.row_writer.specs.Seen.{seen}
use Rattle.kind_rows.specs.declared.out.Out.{Out}

abbrev pub said : Out → Values
said out = seen out.writer
