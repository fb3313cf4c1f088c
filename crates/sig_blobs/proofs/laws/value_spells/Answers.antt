use Rattle.std.proofs.Common.{◌≡◌, Result, Ok, ap, ◌∙◌}
use Rattle.md_heaps.specs.Integers.{shortest}
use Rattle.sig_blobs.specs.Attributes.{first_argument}
use Rattle.sig_blobs.specs.CanonicalValues.{kind_of}
use Rattle.sig_blobs.proofs.UseLaws.{ReadsShortest}
use Rattle.sig_blobs.proofs.ValueLaws.{value_again}
use Rattle.sig_blobs.proofs.laws.value_spells.Goals as goal

one : {A E : Type 0} {x : Result A E} (a b : A) → x ≡ Ok a → x ≡ Ok b → a ≡ b
one a b first second = cc

pub returns : goal.returns
returns c =
    let law : ReadsShortest = λ n rest lt. c.compressed_again.ensures.read (shortest n) rest n (c.compressed_again.ensures.written n lt) in
    record {
      first = λ blob argument args fits is. ap (first_argument (kind_of argument)) is ∙ value_again law argument args fits;
      one = λ blob a b same first second. one a b first (ap (λ k. first_argument k blob) same ∙ second);
    }
