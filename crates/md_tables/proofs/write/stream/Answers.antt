use Rattle.std.proofs.Common.{◌∙◌, ℕ, List, [], ◌++◌, get_or, ap}
use Rattle.std.specs.Prelude.{Vec}
use Rattle.arrayvec.specs.ArrayVec.{ArrayVec}
use Rattle.std.specs.List.{flat_map}
use Rattle.std.specs.declared.alloc.Global.{Global}
use Rattle.md_schema.specs.Schema.{all_tables, place_of}
use Rattle.md_schema.specs.Written.{rows_bytes}
use Rattle.md_tables.specs.Lists.{lists_in}
use Rattle.md_tables.specs.Rows.{rows_in, sizes_in}
use Rattle.md_tables.proofs.WholeLemmas.{stream_is}
use Rattle.md_tables.proofs.write.stream.Goals as goal

pub returns : goal.returns
returns c =
    stream_is c.sizes-sizes.result (sizes_in c.args.set.now) (rows_in c.args.set.now) c.new-out.result.items c.put_head.new.out.items c.put_counts.new.out.items c.put_tables.new.out.items
    c.heap_bits.result c.valid_bits.result c.sizes-sizes.ensures c.heap_bits.ensures c.valid_bits.ensures c.new-out.ensures.items c.in_ok-put_head.ensures c.in_ok-put_counts.ensures
    (c.in_ok-put_tables.ensures ∙ ap (λ (tables : List (Vec (ArrayVec ℕ) Global)).
    c.put_counts.new.out.items ++ flat_map (rows_bytes c.sizes-sizes.result (λ t. get_or (lists_in tables) (place_of t) [])) all_tables) c.deref.ensures.value)
