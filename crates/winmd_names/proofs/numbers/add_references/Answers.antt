use Rattle.std.proofs.Common.{◌≡◌, ◌<◌, ◌+◌, ◌-◌, ℕ, List, ap, ◌∙◌, arith}
use Rattle.std.specs.Prelude.{if◌then◌else◌}
use Rattle.std.specs.Str.{bytes_eq}
use Rattle.md_schema.specs.declared.table.Table.TheVariants as tables
use Rattle.sig_blobs.specs.Numbers.{number_in}
use Rattle.winmd_names.specs.Numbers.{row_code}
use Rattle.winmd_names.proofs.DownLaws.{refs_down}
use Rattle.winmd_names.proofs.numbers.add_references.Goals as goal

pub loop-left-preserved : goal.loop-left-preserved
loop-left-preserved c =
    let left : ℕ = c.loop-left.left in
    let some : 0 < left = omega (arith, c.loop-left-test.true) in
    let row : left - 1 + 1 ≡ left = omega (arith, some) in (
      omega (arith, c.loop-left.invariant.0),
      λ full. refs_down c.args.refs.now left (left - 1 + 1) c.index-refs-left.result full (number_in c.add_reference.new.tokens full) (number_in c.loop-left.tokens full) (number_in c.args.tokens.now full) some c.loop-left.invariant.0 row
          c.index-refs-left.is (c.loop-left.invariant.1 full)
          (c.in_ok-add_reference.ensures full ∙ ap (λ (n : List ℕ). if bytes_eq full n then row_code tables.TypeRef (left - 1 + 1) else number_in c.loop-left.tokens full) c.as_str.ensures.value),
    )
