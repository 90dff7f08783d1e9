use Prim.Native.Nat.{suc, ◌+◌}
use mathlib.Core.Path.{◌≡◌, sym, ap, ◌∙◌}
use mathlib.Core.Bool.{◌&&◌, and_assoc}
use lib.ListN.{get_or, drop}
use lib.Dec.{eqb}
use native.Mathlib.Omega.{arith}
use Rattle.differences.specs.Differences.{equal_bytes}
use Rattle.differences.proofs.EqualBytes.{equal-step, equal-end}
use Rattle.differences.proofs.equal_all.Goals as goal

pub loop-i-preserved : goal.loop-i-preserved
loop-i-preserved c =
    let a = c.args.a.now in
    let b = c.args.b.now in
    let loop = c.loop-i in
    let next : suc loop.i ≡ loop.i + 1 = omega arith in
    and_assoc loop.same (eqb (get_or a loop.i 0) (get_or b loop.i 0)) (equal_bytes (drop (loop.i + 1) a) (drop (loop.i + 1) b))
    ∙ sym (ap (loop.same &&◌) (rw (← next) (equal-step a b c.requires loop.i c.loop-i-test.true)))
    ∙ loop.invariant

pub returns : goal.returns
returns c =
    let loop = c.loop-i in
    sym (equal-end c.args.a.now c.args.b.now c.requires loop.i c.loop-i-test.false loop.same) ∙ loop.invariant
