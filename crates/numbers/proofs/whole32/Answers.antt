use native.Mathlib.Omega.{arith}
use Rattle.numbers.specs.Numbers.{byte_at}
use Rattle.numbers.proofs.Bytes.{number32-bytes}
use Rattle.numbers.proofs.whole32.Goals as goal

pub returns : goal.returns
unfolding byte_at
returns c = omega (arith, number32-bytes c.args.m.now c.args.at, c.from_be_bytes.ensures)
