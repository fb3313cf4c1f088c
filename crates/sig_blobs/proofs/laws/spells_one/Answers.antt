use Rattle.std.proofs.Common.{◌≡◌, Result, Ok}
use Rattle.sig_blobs.proofs.laws.spells_one.Goals as goal

one : {A E : Type 0} {x : Result A E} (a b : A) → x ≡ Ok a → x ≡ Ok b → a ≡ b
one a b first second = cc

pub returns : goal.returns
returns c = record {
  field = λ names blob a b first second. one a b first second;
  property = λ names blob a b first second. one a b first second;
  spec = λ names blob a b first second. one a b first second;
  method = λ names blob a b first second. one a b first second;
}
