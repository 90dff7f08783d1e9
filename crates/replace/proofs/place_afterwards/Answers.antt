use native.Mathlib.Omega.{arith}
use borrow.Author.Tests.{lt-ltb, le-ltb}
use Rattle.replace.proofs.place_afterwards.Goals as goal

pub returns-then-inst-smpl : goal.returns-then-inst-smpl
returns-then-inst-smpl c = simp (lt-ltb _ _ c.if-inst-smpl.true)

pub overflow_sub-result : goal.overflow_sub-result
overflow_sub-result c = omega (arith, c.requires.0 c.if-inst-smpl.false)

pub returns : goal.returns
returns c = simp (le-ltb _ _ c.if-inst-smpl.false)
