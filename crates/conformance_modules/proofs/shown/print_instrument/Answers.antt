use native.Mathlib.Omega.{arith}
use Rattle.conformance_modules.proofs.shown.print_instrument.Goals as goal

pub overflow_cast-numbers-6 : goal.overflow_cast-numbers-6
overflow_cast-numbers-6 c = omega (arith, c.struct_known-5-1.given.1.1.1.1.1.1.1.1.0)
