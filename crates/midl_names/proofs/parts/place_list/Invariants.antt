use Rattle.std.proofs.Common.{◌≡◌, map, take}
use Rattle.midl_names.specs.Declares.{place_at}
use Rattle.midl_names.specs.Views.{idents_of}
use Rattle.midl_names.proofs.parts.place_list.Given as goal

abbrev pub invariant-loop-name : goal.invariant-loop-name
invariant-loop-name l = l.places.items ≡ map (place_at l.fn.file) (idents_of (take l.name-index l.names))
