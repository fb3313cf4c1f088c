-- What a writer's rows say.
use Rattle.md_tables.specs.Rows.{rows_in}
use Rattle.row_writer.specs.declared.writer.Writer.{Writer}
use Rattle.row_writer.specs.Known.{Values, rows_seen}

abbrev pub seen : Writer → Values
seen w = rows_seen w.texts w.blobs (rows_in w.set)
