use Rattle.std.proofs.Common.{◌≡◌, ◌++◌, map, take}
use Rattle.midl_names.specs.Views.{idents_of}
use Rattle.midl_names.proofs.parts.push_cases.Given as goal

abbrev pub invariant-loop-case : goal.invariant-loop-case
invariant-loop-case l = idents_of l.into.items ≡ idents_of l.fn.into.items ++ map (λ c. c.name) (take l.case-index l.cases)
