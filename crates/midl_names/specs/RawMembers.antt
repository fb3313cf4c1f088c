-- Members that have names, but no ABI names yet.
use Rattle.wr_base.specs.declared.declaration.Member.{Member}
use Rattle.wr_base.specs.declared.declaration.Member.TheVariants.{Method, Property, Event}
use Rattle.placed_items.specs.Named.{IsName, HasNamedParams}

abbrev pub IsRawMember : Member → Type 0
IsRawMember (Method name abi sig) = IsName name × HasNamedParams sig
IsRawMember (Property name ty put) = IsName name
IsRawMember (Event name ty) = IsName name
