use mathlib.Core.Path.{sym}
use Rattle.differences.proofs.EqualBytes.{unlike}
use Rattle.differences.proofs.equal.Goals as goal

pub returns-then-a-b : goal.returns-then-a-b
returns-then-a-b c =
    let args = c.args in
    sym (unlike args.a.now args.b.now c.if-a-b.true)
