use mathlib.Core.Path.{sym}
use native.Mathlib.Omega.{arith}
use Rattle.numbers.proofs.Bytes.{number32-past, number32-bytes}
use Rattle.numbers.proofs.number32.Goals as goal

pub returns-then-m-at : goal.returns-then-m-at
returns-then-m-at c = sym (number32-past c.args.m.now c.args.at c.if-m-at.true)

pub returns : goal.returns
returns c =
    omega (
      arith,
      number32-bytes c.args.m.now c.args.at,
      c.from_be_bytes.ensures,
      c.byte.ensures,
      c.byte-2.ensures,
      c.byte-3.ensures,
      c.byte-4.ensures,
    )
