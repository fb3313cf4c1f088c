use Rattle.std.proofs.Common.{◌≡◌, ◌+◌, ◌<◌, arith}
use Rattle.std.proofs.lemmas.Bool.{lt-ltb, ltb-true}
use Rattle.md_bytes.proofs.ZeroLemmas.{length-zeros}
use Rattle.winmd_image.specs.Parts.{padded_types, size_of}
use Rattle.winmd_writer.proofs.finish.is_small.Goals as goal

pub returns : goal.returns
returns c =
    let size : c.padded_size.result + c.padded_size-2.result + 20 + c.padded_size-3.result ≡ size_of (padded_types c.args.tables.now c.args.texts.now c.args.blobs.now) =
    omega (arith, c.padded_size.ensures, c.padded_size-2.ensures, c.padded_size-3.ensures, length-zeros 4, length-zeros 16) in (
      λ h. (let low : c.padded_size.result + c.padded_size-2.result + 20 + c.padded_size-3.result < 2147483648 = ltb-true _ _ h in omega (arith, low, size)),
      λ h. lt-ltb (c.padded_size.result + c.padded_size-2.result + 20 + c.padded_size-3.result) 2147483648 (omega (arith, h, size)),
    )
