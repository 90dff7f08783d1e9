use Rattle.numbers.specs.Numbers.{bytes16}
use Rattle.numbers.proofs.PutBytes.{put-over, put-sets}
use Rattle.numbers.proofs.Stored.{to-bytes16}
use mathlib.Core.Path.{sym, ◌∙◌}
use native.Mathlib.Numerals.{unary_clauses}
use native.Mathlib.Omega.{arith}
use Rattle.numbers.proofs.put16.Goals as goal

pub returns-then-out-at : goal.returns-then-out-at
returns-then-out-at c = sym (put-over (bytes16 c.args.n) c.args.at c.args.out.now (omega (arith, c.if-out-at.true)))

pub returns-then-out-at-lt2 : goal.returns-then-out-at-lt2
returns-then-out-at-lt2 c =
    let args = c.args in
    sym (put-over (bytes16 args.n) args.at args.out.now (omega (arith, c.if-out-at.false, c.if-out-at-lt2.true)))

pub returns : goal.returns
returns c =
    let args = c.args in
    rw (c.to_be_bytes.ensures ∙ to-bytes16 args.n c.ranges.n.fits)
    (simp unary_clauses (put-sets (bytes16 args.n) args.at args.out.now (omega (arith, c.if-out-at.false, c.if-out-at-lt2.false))))
