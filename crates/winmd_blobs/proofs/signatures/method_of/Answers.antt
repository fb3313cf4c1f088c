use Rattle.std.proofs.Common.{sym, subst}
use Rattle.sig_blobs.specs.Given as blobs
use Rattle.sig_blobs.specs.Signatures as signatures
use Rattle.sig_blobs.specs.Uses.{Meanings}
use Rattle.winmd_cells.specs.Seen.{tables_in}
use Rattle.winmd_sets.specs.Blobs.{limited, meanings, paths_of}
use Rattle.winmd_blobs.proofs.SpelledLaws.{blob_fails}
use Rattle.winmd_blobs.proofs.signatures.method_of.Goals as goal

pub returns-in-Ok : goal.returns-in-Ok
returns-in-Ok c = rw (sym c.args.source.now.named, c.in-Ok.ensures) c.limited_signature.ensures

pub returns-in-Err : goal.returns-in-Err
returns-in-Err c =
    blob_fails (tables_in c.args.source.now.image) c.args.offset c.args.blob.now c.in-Err.stop c.moved.result (signatures.method_of (meanings (tables_in c.args.source.now.image)) c.args.blob.now) (λ u. limited c.args.offset (paths_of u) u) c.moved.ensures
    (subst (λ (names : Meanings). blobs.Fails c.in-Err.stop (signatures.method_of names c.args.blob.now)) c.args.source.now.named c.in-Err.ensures)
