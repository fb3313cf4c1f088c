use Rattle.std.proofs.Common.{◌≡◌, ◌+◌, ◌≤◌, ◌∙◌, [], ap, length, get_or, map, refl, subst, arith}
use Rattle.md_schema.specs.Schema.{all_tables, place_of}
use Rattle.md_schema.specs.Tables.{sizes_of, table_start, widths_of}
use Rattle.md_schema.specs.Widths.{count_of}
use Rattle.winmd_cells.proofs.RowLaws.{counted_whole}
use Rattle.winmd_cells.proofs.SizeLaws.{at_place, at_place_list}
use Rattle.winmd_cells.proofs.making.places_of.Goals as goal

pub returns : goal.returns
returns c =
    let whole = counted_whole c.in_ok-numbers.numbers.items c.longest.result c.in_ok-numbers.ensures in
    record {
      wide = λ table. ap (λ xs. get_or xs (place_of table) []) c.in_ok-widths.ensures ∙ at_place_list (widths_of c.sizes-sizes.result) table ∙ ap (λ s. widths_of s table) c.sizes-sizes.ensures;
      started = λ table. ap (λ xs. get_or xs (place_of table) 0) c.in_ok-starts.ensures.value ∙ at_place (λ t. c.rows_from.result + table_start c.sizes-sizes.result t) table ∙ rw (c.rows_from.ensures.value, c.sizes-sizes.ensures) refl;
      near = λ table. (let h = c.in_ok-starts.ensures.near (place_of table) in omega (arith, h));
      enough = λ table. (
          let most : get_or (map (count_of c.sizes-sizes.result) all_tables) (place_of table) 0 ≤ c.longest.result = c.longest.ensures (place_of table) in
          let e : get_or (map (count_of c.sizes-sizes.result) all_tables) (place_of table) 0 ≡ count_of (sizes_of c.args.stream.now) table = at_place (count_of c.sizes-sizes.result) table ∙ ap (λ s. count_of s table) c.sizes-sizes.ensures in
          subst (λ n. n ≤ length c.in_ok-numbers.numbers.items) e (rw whole.0 most));
      counted = whole.1;
      short = rw whole.0 (let low = c.longest.type_inv in omega (arith, low));
    }
