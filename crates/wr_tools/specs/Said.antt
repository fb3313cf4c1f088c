-- What a call says on err before it answers a status other than 0 and 6.
use Rattle.std.specs.Prelude.{ℕ, List, [], codes}
use Rattle.wr_tools.specs.declared.said.Said.{Said}
use Rattle.wr_tools.specs.declared.said.Said.TheVariants.{Refused, Unmatched, TooMany, Missing, TooLong, ReadFault, WriteFault}

-- content is refused by 1, the words by 2, a file by 3; a failed read has 4, a failed write 5
abbrev pub status_said : Said → ℕ
status_said Refused = 1
status_said Unmatched = 2
status_said TooMany = 3
status_said Missing = 3
status_said TooLong = 3
status_said ReadFault = 4
status_said WriteFault = 5

-- what stands behind the name; content's own line says all
abbrev pub text_said : Said → List ℕ
text_said Refused = []
text_said Unmatched = codes "winrt: the words do not match\n"
text_said TooMany = codes ": TooMany\n"
text_said Missing = codes ": Missing\n"
text_said TooLong = codes ": TooLong\n"
text_said ReadFault = codes ": ReadFault\n"
text_said WriteFault = codes ": WriteFault\n"
