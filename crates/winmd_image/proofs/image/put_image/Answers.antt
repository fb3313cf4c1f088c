use Rattle.winmd_image.specs.Parts.{Parts, five, padded_parts}
use Rattle.winmd_image.proofs.Laid.{image_by}
use Rattle.winmd_image.proofs.image.put_image.Goals as goal

pub returns : goal.returns
returns c =
    let p : Parts = padded_parts (five c.args.tables.now c.args.texts.now c.args.users.now c.args.guids.now c.args.blobs.now) in
    image_by p c.args.out.now.items c.put_headers.new.out.items c.put_metadata_head.new.out.items c.put_streams.new.out.items c.put_section_end.new.out.items
    c.padded_size.result c.padded_size-2.result c.padded_size-3.result c.padded_size-4.result c.padded_size-5.result
    c.padded_size.ensures c.padded_size-2.ensures c.padded_size-3.ensures c.padded_size-4.ensures c.padded_size-5.ensures
    c.in_ok-put_headers.ensures c.in_ok-put_metadata_head.ensures c.in_ok-put_streams.ensures c.put_section_end.result c.put_section_end.ensures
