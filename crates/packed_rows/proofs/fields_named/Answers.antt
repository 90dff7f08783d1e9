use native.Mathlib.Omega.{arith}
use Rattle.packed_rows.proofs.Lengths.{ones-named}
use Rattle.packed_rows.proofs.fields_named.Goals as goal

pub returns : goal.returns
returns c = omega (arith, ones-named c.args.mask)
