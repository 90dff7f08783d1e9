use Rattle.conformance_text.specs.Text.{numbers_text, spaced}
use Rattle.conformance_text.proofs.Lines.{Going, texts}
use Rattle.conformance_text.proofs.text.put_numbers.Given as goal

abbrev pub invariant-loop-number : goal.invariant-loop-number
invariant-loop-number l = Going l.initial.line l.at (numbers_text l.numbers) l.line l.next (texts spaced l.numbers l.number-index)
