use Rattle.std.proofs.Common.{◌≡◌, ◌++◌, [], ℕ, List, take, drop, count_by}
use Rattle.midl_names.specs.Counts.{count_at}
use Rattle.midl_names.specs.Members.{is_method, named_from}
use Rattle.midl_names.proofs.abi.name_methods.Given as goal

abbrev pub invariant-loop-i : goal.invariant-loop-i
invariant-loop-i l = record {
  named : l.members ≡ named_from [] (take l.i l.fn.members) ++ drop l.i l.fn.members;
  told : (name : List ℕ) → count_at l.counts name ≡ count_by (is_method name) (take l.i l.fn.members);
}
