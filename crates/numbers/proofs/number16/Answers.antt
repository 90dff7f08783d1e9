use mathlib.Core.Path.{sym}
use Rattle.numbers.specs.Numbers.{number16}
use Rattle.numbers.proofs.Bytes.{number16-past}
use Rattle.numbers.proofs.number16.Goals as goal

pub returns-then-m-at : goal.returns-then-m-at
returns-then-m-at c = sym (number16-past c.args.m.now c.args.at c.if-m-at.true)

pub returns : goal.returns
unfolding number16
returns c = simp (c.from_be_bytes.ensures, c.byte.ensures, c.byte-2.ensures)
