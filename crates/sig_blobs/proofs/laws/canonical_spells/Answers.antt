use Rattle.std.proofs.Common.{ap, ◌∙◌}
use Rattle.md_heaps.specs.Integers.{shortest}
use Rattle.sig_blobs.specs.Signatures.{field_of, property_of, spec_of, method_of}
use Rattle.sig_blobs.proofs.UseLaws.{ReadsShortest}
use Rattle.sig_blobs.proofs.SignatureLaws.{field_again, property_again, spec_again, method_again}
use Rattle.sig_blobs.proofs.laws.canonical_spells.Goals as goal

pub returns : goal.returns
returns c =
    let law : ReadsShortest = λ n rest lt. c.compressed_again.ensures.read (shortest n) rest n (c.compressed_again.ensures.written n lt) in
    record {
      field = λ token names blob u fits is. ap (field_of names) is ∙ field_again law token names u fits;
      property = λ token names blob u fits is. ap (property_of names) is ∙ property_again law token names u fits;
      spec = λ token names blob u fits is. ap (spec_of names) is ∙ spec_again law token names u fits;
      method = λ token names blob sig fits is. ap (method_of names) is ∙ method_again law token names sig fits;
    }
