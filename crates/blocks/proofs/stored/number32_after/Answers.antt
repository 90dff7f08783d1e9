use native.Mathlib.Omega.{arith}
use mathlib.Core.Path.{sym}
use Prim.Native.Nat.{◌+◌}
use Rattle.numbers.proofs.Bytes.{number32-past}
use Rattle.blocks.proofs.stored.number32_after.Goals as goal

pub returns-then-m-at : goal.returns-then-m-at
returns-then-m-at c =
    sym (number32-past c.args.m.now (c.args.at + c.args.offset) (omega (arith, c.if-m-at.true)))
