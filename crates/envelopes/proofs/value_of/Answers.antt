use mathlib.Core.Path.{◌∙◌}
use native.Mathlib.Omega.{arith}
use borrow.Author.Tests.{eq-eqb, ne_eqb}
use mir.Syntax.{w32}
use mir.ValLaws.{to_z_pos}
use Rattle.envelopes.proofs.Scaling.{times-fits, less-fits, scaled, widened-fits, widened}
use Rattle.envelopes.proofs.value_of.Goals as goal

pub overflow_mul-result : goal.overflow_mul-result
overflow_mul-result c = times-fits _ c.ranges.v.fits

pub overflow_sub-result : goal.overflow_sub-result
overflow_sub-result c = less-fits _ c.ranges.v.fits

pub returns-then-version-eq2 : goal.returns-then-version-eq2
returns-then-version-eq2 c = simp (c.in-Panning.is, eq-eqb _ _ c.if-version-eq2.true) (scaled _ c.ranges.v.fits)

pub overflow_cast-result-in-Panning : goal.overflow_cast-result-in-Panning
overflow_cast-result-in-Panning c = widened-fits c.signed.result c.signed.type-inv

pub returns-in-Volume : goal.returns-in-Volume
returns-in-Volume c = rw c.in-Volume.is (to_z_pos w32 _ (omega arith))

pub returns-else-version-eq2 : goal.returns-else-version-eq2
returns-else-version-eq2 c =
    let signed = c.signed in
    simp (c.in-Panning.is, ne_eqb _ _ c.if-version-eq2.false)
    (widened signed.result signed.type-inv ∙ signed.ensures)
