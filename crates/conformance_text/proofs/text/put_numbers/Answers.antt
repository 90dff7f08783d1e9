use native.Mathlib.Omega.{arith}
use Rattle.conformance_text.specs.Text.{numbers_text, spaced}
use Rattle.conformance_text.proofs.Lines.{going-first, going-turn}
use Rattle.conformance_text.proofs.text.put_numbers.Goals as goal

pub loop-number-init : goal.loop-number-init
unfolding numbers_text
loop-number-init c = let args = c.args in going-first args.line.now args.at (numbers_text args.numbers.now) c.requires

pub loop-number-preserved : goal.loop-number-preserved
loop-number-preserved c =
    let args = c.args in
    let loop = c.loop-number in
    let numbers = args.numbers.now in
    going-turn args.line.now args.at (numbers_text numbers) spaced numbers loop.number-index (omega arith) loop.invariant
    c.put_number-next.ensures
