use Prim.Native.Nat.{suc, ◌+◌, ◌≤◌}
use mathlib.Core.Path.{sym, ◌∙◌}
use native.Mathlib.Omega.{arith}
use lib.ListN.{length}
use Rattle.layout.proofs.Others.{other-end, others-more}
use Rattle.layout.proofs.walk.skip_others.Goals as goal

pub loop-at-preserved : goal.loop-at-preserved
loop-at-preserved c =
    let loop = c.loop-at in
    let number32 = c.number32 in
    let m = c.args.m.now in
    let at = loop.at in
    let other = sym c.is_other.ensures ∙ c.loop-at-test.true in
    let fit : at + 8 + number32.result ≤ length m = rw number32.ensures (other-end m at other) in
    let before = loop.invariant in
    let more = others-more m before.0.0 c.args.start at before.0.1 other in
    ((suc before.0.0, rw number32.ensures more), omega (arith, fit, before.1), omega (arith, fit))
