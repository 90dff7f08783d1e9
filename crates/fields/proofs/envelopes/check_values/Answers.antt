use Prim.Native.Nat.{◌+◌, ◌*◌}
use mathlib.Core.Path.{◌≡◌}
use native.Mathlib.Omega.{arith}
use Rattle.blocks.proofs.Passing.{steps-turn}
use Rattle.fields.proofs.envelopes.check_values.Goals as goal

pub loop-point-preserved : goal.loop-point-preserved
loop-point-preserved c =
    let at = c.args.at in
    let point = c.loop-point.point in
    let place : at + 8 + 4 * point + 2 ≡ at + 10 + 4 * point = omega arith in
    steps-turn c.loop-point.invariant (omega (arith, c.loop-point-test.true))
    (simp (place, ← c.envelope_value.ensures, ← c.value_fits.ensures, c.if-not-value_fits.false))
