-- The line that a fault of an image puts on err.
use Rattle.std.specs.Prelude.{ℕ, List, ◌++◌, codes}
use Rattle.std.specs.Fmt.{decimal}
use Rattle.md_schema.specs.declared.faults.ImageFault.{ImageFault}
use Rattle.md_schema.specs.declared.faults.ImageKind.{ImageKind}
use Rattle.md_schema.specs.declared.faults.ImageKind.TheVariants as kinds

-- the word of a kind
abbrev pub kind_name : ImageKind → List ℕ
kind_name kinds.NotPe = codes "NotPe"
kind_name kinds.NoCli = codes "NoCli"
kind_name kinds.NoRoot = codes "NoRoot"
kind_name kinds.BadRva = codes "BadRva"
kind_name kinds.BadStream = codes "BadStream"
kind_name kinds.NotWindowsRuntime = codes "NotWindowsRuntime"
kind_name kinds.Uncompressed = codes "Uncompressed"
kind_name kinds.MissingStream = codes "MissingStream"
kind_name kinds.UnknownTable = codes "UnknownTable"
kind_name kinds.ShortTable = codes "ShortTable"
kind_name kinds.RowRange = codes "RowRange"
kind_name kinds.BadTag = codes "BadTag"
kind_name kinds.ListOrder = codes "ListOrder"
kind_name kinds.HeapRange = codes "HeapRange"
kind_name kinds.HeapText = codes "HeapText"
kind_name kinds.BadLength = codes "BadLength"
kind_name kinds.BadLead = codes "BadLead"
kind_name kinds.Short = codes "Short"
kind_name kinds.SigShort = codes "SigShort"
kind_name kinds.SigElement = codes "SigElement"
kind_name kinds.SigTail = codes "SigTail"
kind_name kinds.SigDeep = codes "SigDeep"
kind_name kinds.FloatType = codes "FloatType"
kind_name kinds.GenericDefinition = codes "GenericDefinition"
kind_name kinds.Nested = codes "Nested"
kind_name kinds.MissingAttribute = codes "MissingAttribute"
kind_name kinds.BadShape = codes "BadShape"
kind_name kinds.PastLimit = codes "PastLimit"

-- `NAME: KIND at OFFSET` and a line feed
abbrev pub fault_line : List ℕ → ImageFault → List ℕ
fault_line name fault = name ++ (codes ": " ++ (kind_name fault.kind ++ (codes " at " ++ (decimal fault.offset ++ codes "\n"))))
