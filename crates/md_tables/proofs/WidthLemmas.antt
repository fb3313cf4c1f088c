-- A column has up to four bytes.
use Rattle.std.proofs.Common.{◌≡◌, ℕ, zero, suc, ◌≤◌, Bool, true, false, List, [], ◌∷◌, get_or, map, take, subst, sym, arith}
use Rattle.md_schema.specs.declared.column.Column.{Column}
use Rattle.md_schema.specs.declared.column.Column.TheVariants.{One, Two, Four, Texts, Guids, Blobs, Index, Coded}
use Rattle.md_schema.specs.declared.sizes.Sizes.{Sizes}
use Rattle.md_schema.specs.Widths.{width_of, two_or_four}

few : (long : Bool) → two_or_four long ≤ 4
few true = omega arith
few false = omega arith

narrow : (sizes : Sizes) (column : Column) → width_of sizes column ≤ 4
narrow sizes One = omega arith
narrow sizes Two = omega arith
narrow sizes Four = omega arith
narrow sizes Texts = few _
narrow sizes Guids = few _
narrow sizes Blobs = few _
narrow sizes (Index table) = few _
narrow sizes (Coded coded) = few _

pub narrow_all : (sizes : Sizes) (columns : List Column) (i : ℕ) → get_or (map (width_of sizes) columns) i 0 ≤ 4
narrow_all sizes [] i = omega arith
narrow_all sizes (column ∷ columns) zero = narrow sizes column
narrow_all sizes (column ∷ columns) (suc i) = narrow_all sizes columns i

pub narrow_list : (sizes : Sizes) (columns : List Column) (widths : List ℕ) (k : ℕ) → widths ≡ map (width_of sizes) (take k columns) → (i : ℕ) → get_or widths i 0 ≤ 4
narrow_list sizes columns widths k e i = subst (λ (ws : List ℕ). get_or ws i 0 ≤ 4) (sym e) (narrow_all sizes (take k columns) i)
