use mathlib.Core.Path.{refl, sym}
use Rattle.numbers.specs.Numbers.{byte_at}
use Rattle.numbers.proofs.Bytes.{byte_past}
use Rattle.numbers.proofs.byte.Goals as goal

pub returns-then-at-m : goal.returns-then-at-m
unfolding byte_at
returns-then-at-m c = refl

pub returns-else-at-m : goal.returns-else-at-m
returns-else-at-m c = sym (byte_past c.args.m.now c.args.at c.if-at-m.false)
