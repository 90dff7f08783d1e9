use borrow.Author.Rules.{rules}
use native.Mathlib.Omega.{arith}
use Rattle.listing_text.proofs.Decimals.{decimal-some}
use Rattle.listing_text.proofs.Putting.{spelling-first, spelling-write, spelling-more, spelling-turn, spelling-last}
use Rattle.listing_text.proofs.text.put_decimal.Goals as goal

pub overflow_sub-to : goal.overflow_sub-to
overflow_sub-to c = omega (arith, decimal-some c.args.n)

pub loop-rest-init : goal.loop-rest-init
loop-rest-init c = rw c.digits.ensures.0 (spelling-first (omega arith))

pub bounds-text-to : goal.bounds-text-to
bounds-text-to c = spelling-write c.loop-rest.invariant

pub overflow_sub-to-in-loop-rest : goal.overflow_sub-to-in-loop-rest
overflow_sub-to-in-loop-rest c = omega (arith, spelling-more c.loop-rest-test.true c.loop-rest.invariant)

pub loop-rest-preserved : goal.loop-rest-preserved
loop-rest-preserved c = rw c.digit.ensures (spelling-turn c.loop-rest-test.true c.loop-rest.invariant)

pub bounds-text-to-2 : goal.bounds-text-to-2
bounds-text-to-2 c = spelling-write c.loop-rest.invariant

pub returns : goal.returns
returns c = (
  rw (c.digits.ensures.0, c.digit-2.ensures)
      (spelling-last (search rules) c.loop-rest.invariant),
  omega arith,
)
