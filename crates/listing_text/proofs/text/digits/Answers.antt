use mathlib.Core.Path.{◌≡◌, ap}
use lib.ListN.{length}
use borrow.Author.Rules.{rules}
use native.Mathlib.Omega.{arith}
use Rattle.listing_text.specs.Lines.{decimal}
use Rattle.listing_text.proofs.Decimals.{decimal-short, decimal-some, decimal-64, count_turn}
use Rattle.listing_text.proofs.text.digits.Goals as goal

pub overflow_add-count : goal.overflow_add-count
overflow_add-count c = omega (arith, decimal-64 c.args.n (search rules), decimal-some c.loop-rest.rest)

pub loop-rest-preserved : goal.loop-rest-preserved
loop-rest-preserved c = count_turn _ _ _ (search rules) c.loop-rest.invariant

pub returns : goal.returns
returns c =
    let loop = c.loop-rest in
    let one : length (decimal loop.rest) ≡ 1 = ap length (decimal-short loop.rest (search rules)) in
    omega (arith, decimal-64 c.args.n (search rules))
