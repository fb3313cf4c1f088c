use Rattle.std.proofs.Common.{◌≡◌, ◌∙◌, ℕ, ◌+◌, ◌-◌, ◌*◌, sym, ap, arith}
use Rattle.winmd_image.specs.Pe as pe_as
use Rattle.winmd_image.proofs.HeaderLemmas.{section_further}
use Rattle.winmd_image.proofs.pe.placed.Goals as goal

pub loop-i-preserved : goal.loop-i-preserved
loop-i-preserved c =
    let s = c.args.sections.now in
    let r = c.args.range.now in
    let next : s.first + 40 * (c.loop-i.i + 1) ≡ s.first + 40 * c.loop-i.i + 40 = omega arith in
    ap (λ (n : ℕ). pe_as.in_sections c.args.image.now (s.count - (c.loop-i.i + 1)) n c.args.cell r.offset r.size) next
    ∙ section_further c.args.image.now s.count c.loop-i.i (s.first + 40 * c.loop-i.i) c.args.cell r.offset r.size _ c.loop-i-test.true (sym c.held.ensures.exact ∙ c.in_default.is) c.loop-i.invariant
