use Prim.Native.Nat.{◌+◌}
use native.Mathlib.Omega.{arith}
use Rattle.numbers.proofs.Bytes.{number32-past}
use Rattle.conformance_text.specs.Heads.{number64}
use Rattle.conformance_text.proofs.heads.eight_bytes.Goals as goal

pub returns-then-s-at : goal.returns-then-s-at
unfolding number64
returns-then-s-at c =
    let args = c.args in
    rw (number32-past args.s.now args.at (omega arith), number32-past args.s.now (args.at + 4) (omega arith))

pub returns : goal.returns
unfolding number64
returns c = rw (c.number32-high.ensures, c.number32-low.ensures)
